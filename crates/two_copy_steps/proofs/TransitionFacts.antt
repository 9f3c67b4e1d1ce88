-- The machine's transition as a step of words and views.
use Rattle.two_copy_steps.proofs.Names.{ap, Auxiliary, auxiliary_reader_step, auxiliary_step, get_or, length, List}
use Rattle.two_copy_steps.proofs.Names.{MachineState, Option, read_by, Reader, reader_transition, ReaderView}
use Rattle.two_copy_steps.proofs.Names.{readings_after, record_at, set, slice_get, Some, Stage, stage_action, State}
use Rattle.two_copy_steps.proofs.Names.{state_of, subst, suc, sym, transition, ℕ, ◌<◌, ◌∙◌, ◌≡◌}
use Rattle.two_copy_steps.proofs.Lists.{inside}
use Rattle.two_copy_steps.proofs.TransitionSteps.{view_at, viewed_set}

module _ (m : MachineState) (aux : Auxiliary) where
  read_is : (r : ℕ) (stage : Stage) → r < length aux.records → state_of (reader_transition m r (Some stage)).0 (auxiliary_reader_step m aux r (Some stage)) ≡ read_by (state_of m aux) r (view_at stage (record_at aux.records r))
  read_is r stage here =
      let d = stage_action r stage in
      let found : ℕ = get_or m.words d.word 0 in
      ap (λ (views : List ReaderView). let s : State = record { words = set m.words d.word (d.becomes found); writer = record { state = m.writer; cuts = aux.cuts }; readers = views } in s)
      (viewed_set m.readers aux.records r (d.after found) (readings_after stage (d.after found) (record_at aux.records r)) here)

  pub reader_is : length aux.records ≡ length m.readers → (r : ℕ) (stage : Stage) → slice_get m.readers r ≡ Some stage
      → state_of (transition m (Reader (suc r))).0 (auxiliary_step m aux (Reader (suc r))) ≡ read_by (state_of m aux) r (view_at stage (record_at aux.records r))
  reader_is long r stage at =
      ap (λ (o : Option Stage). state_of (reader_transition m r o).0 (auxiliary_reader_step m aux r o)) at
      ∙ read_is r stage (subst (λ (n : ℕ). r < n) (sym long) (inside m.readers r stage at))
