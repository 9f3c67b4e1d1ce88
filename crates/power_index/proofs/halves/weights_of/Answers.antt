use Rattle.std.proofs.Common.{[], ◌∷◌, ◌++◌, ℕ, List, arith, length, map, take, get_or, ap, ◌∙◌, sym}
use Rattle.std.proofs.lemmas.List.{length-append, map-append, take_more}
use Rattle.council_core.specs.Sheets.{Chair}
use Rattle.power_index.proofs.halves.weights_of.Goals as goal

pub loop-i-preserved : goal.loop-i-preserved
loop-i-preserved c =
    let chairs : List Chair = c.open_chairs-chairs.result.items in
    let i : ℕ = c.loop-i.i in
    let d : Chair = c.index-deref-i.result in
    let w : ℕ = (get_or c.deref.result.now i d).1 in
    let weight : Chair → ℕ = λ ch. ch.1 in
    record {
      weights = c.push.ensures.items
          ∙ ap (λ l. l ++ w ∷ []) c.loop-i.invariant.weights
          ∙ ap (λ l. map weight (take i chairs) ++ (get_or l i d).1 ∷ []) c.deref.ensures.0
          ∙ sym (ap (map weight) (take_more chairs i d (omega arith)) ∙ map-append weight (take i chairs) (get_or chairs i d ∷ []));
      bound = omega (arith, ap length c.push.ensures.items, length-append c.loop-i.weights.items (w ∷ []));
    }
