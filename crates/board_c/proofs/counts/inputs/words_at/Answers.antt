use Rattle.std.proofs.Common.{◌≡◌, refl, ◌+◌, ◌-◌, ◌<◌, [], ◌∷◌, ◌++◌, ℕ, List, map, length, replicate, get_or, ◌∙◌, arith}
use Rattle.std.proofs.lemmas.List.{get_or-map, get_or_append_left, get_or_default, length-map}
use Rattle.board_c.specs.Counts.{words_of_weights}
use Rattle.c_values.proofs.Face.{first_left, next_image}
use Rattle.board_c.proofs.counts.inputs.words_at.Goals as goal

-- the word of a chair that is open by its weight
word_at : (weights : List ℕ) (total at : ℕ) → at < length weights → get_or (words_of_weights weights total) at 0 ≡ get_or weights at 0 + 1
word_at weights total at inside =
    let words = map (λ w. w + 1) weights in
    let back = replicate (32 - length weights) 0 ++ total ∷ 0 ∷ [] in
    let front : get_or (words ++ back) at 0 ≡ get_or words at 0 = get_or_append_left words back 0 at (rw length-map inside) in
    front ∙ get_or-map (λ w. w + 1) weights at 0 0 inside

pub returns-in_default-clause-refused : goal.returns-in_default-clause-refused
returns-in_default-clause-refused c =
    let at = c.loop-index.index in (
      refl,
      λ whole.
          let w = word_at c.args.weights.now c.args.total at (omega arith) in
          let small = whole.sheet.chairs at (omega arith) in
          c.in_default.ensures (omega (arith, w)),
    )

pub loop-index-preserved : goal.loop-index-preserved
loop-index-preserved c =
    let at = c.loop-index.index in
    let weights = c.args.weights.now in
    let back = replicate (32 - (at + 1)) 0 ++ c.args.total ∷ 0 ∷ [] in
    let weight = get_or weights at 0 in
    let next = next_image (λ w. w + 1) weights at weight 0 back (omega arith) (get_or_default weights at 0 weight (omega arith)) in
    rw (c.loop-index.invariant, first_left {X = ℕ} 32 at 0 (omega arith), c.in-Some.ensures.1) next
