use Rattle.std.proofs.Common.{◌≡◌, ◌+◌, [], ◌∷◌, ◌++◌, ℕ, List, arith, length, ap, ◌∙◌, sym, Some, None}
use Rattle.std.proofs.lemmas.List.{append-nil, length-append}
use Rattle.council_core.specs.Sheets.{Chair, weight_word}
use Rattle.council_core.proofs.OpenChairs.{listed_more}
use Rattle.council_core.proofs.sheets.Sheet.open_chairs.Goals as goal
use Rattle.council_core.proofs.sheets.Sheet.open_chairs.Goals.{in-Some, in_default}

pub loop-index-preserved : goal.loop-index-preserved
loop-index-preserved c =
    let words : List ℕ = c.args.self.now in
    let i : ℕ = c.loop-index.index in
    let shown : c.weight.result ≡ weight_word words (i + 1) = c.weight.ensures.weight ∙ ap (weight_word words) c.chair_at-chair.ensures.number in
    elim c.match-weight.branch [
      | in-Some w ↦ (
          let chair : Chair = (i + 1, w.in-Some.weight) in
          let items : c.match-weight.chairs.items ≡ c.loop-index.chairs.items ++ chair ∷ [] = cc in
          record {
            chairs = items ∙ ap (λ l. l ++ chair ∷ []) c.loop-index.invariant.chairs ∙ sym (listed_more words i (Some w.in-Some.weight) (sym w.in-Some.is ∙ shown));
            bound = omega (arith, ap length items, length-append c.loop-index.chairs.items (chair ∷ []));
          })
      | in_default w ↦ (
          let items : c.match-weight.chairs.items ≡ c.loop-index.chairs.items = cc in
          record {
            chairs = items ∙ c.loop-index.invariant.chairs ∙ sym (listed_more words i None (sym w.in_default.is ∙ shown) ∙ append-nil _);
            bound = omega (arith, ap length items);
          })
    ]
