use Rattle.std.proofs.Common.{◌≡◌, [], ◌∷◌, ◌++◌, arith, length, get_or, ap, ◌∙◌, sym}
use Rattle.std.proofs.lemmas.List.{length-append}
use Rattle.power_index.proofs.HalfLemmas.{slotted_more}
use Rattle.power_index.proofs.halves.chairs_of.Goals as goal

pub loop-slot-preserved : goal.loop-slot-preserved
loop-slot-preserved c =
    let w = get_or c.args.weights.now c.loop-slot.slot 0 in
    let items : c.push.new.self.items ≡ c.loop-slot.chairs.items ++ (c.loop-slot.slot, w) ∷ [] = cc in
    record {
      chairs = items ∙ ap (λ l. l ++ (c.loop-slot.slot, w) ∷ []) c.loop-slot.invariant.chairs ∙ sym (slotted_more c.args.weights.now c.loop-slot.slot (omega arith));
      bound = omega (arith, ap length items, length-append c.loop-slot.chairs.items ((c.loop-slot.slot, w) ∷ []));
    }
