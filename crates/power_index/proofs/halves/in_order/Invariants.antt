use Rattle.std.proofs.Common.{◌≡◌, ◌<◌, ℕ, length, get_or}
use Rattle.power_index.specs.Halves.{place_in_counts}
use Rattle.power_index.proofs.halves.in_order.Given as goal

abbrev pub invariant-loop-i : goal.invariant-loop-i
invariant-loop-i l = record {
  count : length l.ordered.items ≡ l.i;
  each : (p : ℕ) → p < length l.ordered.items → get_or l.ordered.items p 0 ≡ get_or l.by_place (place_in_counts l.half p) 0;
}
