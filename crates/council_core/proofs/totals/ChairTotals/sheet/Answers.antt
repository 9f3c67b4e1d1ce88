use Rattle.std.proofs.Common.{◌≡◌, ℕ, ◌<◌, ◌≤◌, ◌+◌, ◌^◌, List, length, take, sum_by, slice_index, get_or, arith, sym, ◌∙◌, ap, subst, refl}
use Rattle.std.proofs.lemmas.List.{length-take, get_or-take}
use Rattle.council_core.specs.Rolls.{Roll}
use Rattle.council_core.specs.Sheets.{weight_in, IsSheet}
use Rattle.council_core.proofs.AssembleLemmas.{written_behind, IsSheet-made}
use Rattle.council_core.proofs.MirrorLemmas.{Kept}
use Rattle.council_core.proofs.RegisterLemmas.{word_small, total_small}
use Rattle.council_core.proofs.SheetOfLemmas.{same_words, cast_within, sheet_is}
use Rattle.council_core.proofs.totals.ChairTotals.sheet.Goals as goal

pub from_words_unchecked-requires : goal.from_words_unchecked-requires
from_words_unchecked-requires c =
    let totals = c.args.self.now in
    let roll : Roll = c.requires.0 in
    let kept : Kept = record { entries = c.requires.1; spare = 0; totals = totals } in
    let m = c.requires.2 in
    let w : List ℕ = c.words-words.result in
    let long : length (take 32 w) ≡ 32 = omega (arith, length-take 32 w, c.words-words.ensures.long) in
    let each : (k : ℕ) → k < 32 → slice_index (take 32 w) k ≡ slice_index totals.words k = λ k h. get_or-take 32 w k 0 h ∙ ap (λ (x : List ℕ). get_or x k 0) c.words-words.ensures.same in
    let cast = ap (sum_by weight_in) (same_words roll (take 32 w) long (λ k h. each k h ∙ m.each_word k h)) in
    subst (λ (x : List ℕ). IsSheet x) (sym (written_behind 32 w totals.total c.args.front c.words-words.ensures.long)) (IsSheet-made (take 32 w) totals.total c.args.front long
    (λ k h. subst (λ (n : ℕ). n ≤ 2 ^ 48 + 1) (sym (each k h)) (word_small roll kept m k h))
    (omega (arith, cast, cast_within roll, m.same_total))
    (omega (arith, m.same_total, total_small roll kept m))
    c.requires.3)

pub returns-clause-same : goal.returns-clause-same
returns-clause-same c =
    λ roll entries m.
    let totals = c.args.self.now in
    let w : List ℕ = c.words-words.result in
    let long : length (take 32 w) ≡ 32 = omega (arith, length-take 32 w, c.words-words.ensures.long) in
    let each : (k : ℕ) → k < 32 → slice_index (take 32 w) k ≡ slice_index totals.words k = λ k h. get_or-take 32 w k 0 h ∙ ap (λ (x : List ℕ). get_or x k 0) c.words-words.ensures.same in
    c.from_words_unchecked.ensures ∙ written_behind 32 w totals.total c.args.front c.words-words.ensures.long
    ∙ sheet_is roll (take 32 w) totals.total c.args.front c.args.front long (λ k h. each k h ∙ m.each_word k h) m.same_total refl
