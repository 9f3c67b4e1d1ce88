use Rattle.std.proofs.Common.{◌≡◌, ◌+◌, [], ◌∷◌, ◌++◌, ℕ, List, arith, length, get_or, ap, ◌∙◌, sym}
use Rattle.std.proofs.lemmas.List.{length-append}
use Rattle.power_index.specs.Halves.{place_in_counts}
use Rattle.power_index.proofs.HalfLemmas.{agrees_with_more}
use Rattle.power_index.proofs.halves.in_order.Goals as goal

pub loop-i-preserved : goal.loop-i-preserved
loop-i-preserved c =
    let v : ℕ = get_or c.args.by_place.now c.place_in_counts.result 0 in
    let before : List ℕ = c.loop-i.ordered.items in
    let f : ℕ → ℕ = λ p. get_or c.args.by_place.now (place_in_counts c.on_left-half.result p) 0 in
    let items : c.push.new.self.items ≡ before ++ v ∷ [] = cc in
    let long : length c.push.new.self.items ≡ length before + 1 = ap length items ∙ length-append before (v ∷ []) in
    let value : v ≡ f (length before) = ap (λ s. get_or c.args.by_place.now s 0) c.place_in_counts.ensures.place ∙ ap f (sym c.loop-i.invariant.count) in
    record {
      count = omega (arith, long, c.loop-i.invariant.count);
      each = λ p h. ap (λ l. get_or l p 0) items ∙ agrees_with_more before v f c.loop-i.invariant.each value p (omega (arith, long));
    }
