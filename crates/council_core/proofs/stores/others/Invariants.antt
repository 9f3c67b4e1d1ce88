use Rattle.std.proofs.Common.{◌≡◌, take, remove, length}
use Rattle.council_core.proofs.stores.others.Given as goal

abbrev pub invariant-loop-place : goal.invariant-loop-place
invariant-loop-place l = record {
  long : length l.rows ≡ 256;
  others : take l.place l.rows ≡ take l.place (remove l.members.entries l.index);
}
