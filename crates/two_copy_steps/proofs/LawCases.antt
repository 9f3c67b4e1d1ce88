-- Instances of the laws at worked examples, which meet their premises; and causes and publications
-- that the definitions exclude.
use Rattle.two_copy_steps.proofs.Names.{[], AreLegalRecords, arith, Arrived, AtRest, Auxiliary, auxiliary_after, Close}
use Rattle.two_copy_steps.proofs.Names.{Event, false, Filling, front_of, FrontsNeverFall, IsApart, IsLawfulMachine}
use Rattle.two_copy_steps.proofs.Names.{IsLeastUnseen, IsLedger, IsPublishable, List, machine_after, machine_at_start}
use Rattle.two_copy_steps.proofs.Names.{MachineState, notes, Ok, Open, Publish, Reader, reader_action, Reading, refl}
use Rattle.two_copy_steps.proofs.Names.{replicate, SetVotes, side_held, slice_get, Some, Stage, stage_action}
use Rattle.two_copy_steps.proofs.Names.{steps_taken, Submit, suc, sym, take, transition, true, true≢false, verdict_of}
use Rattle.two_copy_steps.proofs.Names.{Writer, ℕ, ⊎_elim, ◌++◌, ◌∷◌, ◌≡◌, ◌≤◌}
use Rattle.council_core.specs.declared.commands.Command.TheVariants.{Move}
use Rattle.council_core.specs.declared.refusals.Refusal.TheVariants.{BadLimit, OutOfMemory}
use Rattle.two_copy_steps.specs.Laws.{AtOnceLaw, BusyLaw, StepCountLaw, FreshLaw, GrowthLaw, NeverOlderLaw, RangeLaw, RecordsLaw, RepliesLaw, StayLaw, UnderLaw}
use Rattle.two_copy_steps.specs.Machines.{IsFew, WantsMemory}
use Rattle.two_copy_steps.specs.Publications.{StaySeen}
use Rattle.two_copy_steps.specs.Runs.{HasCause, IsFault, KeepsRecordsLegal, ReportsReplies, StoresUnderNobody}
use Rattle.two_copy_steps.proofs.WorkedCases.{code, filling_under, first_sheet, hands_three_votes, blocking, last_sheet, one_member, votes_in_range}

-- an accepted command can want memory; a refused one, one that comes while a publication is under way, and every other
-- event can't
wants_memory : WantsMemory (machine_at_start one_member 1) (Submit (Open 1))
wants_memory = (refl, refl)

refused_wants_none : WantsMemory (machine_at_start one_member 1) (Submit (Close 1)) → ⊥
refused_wants_none h = true≢false (sym (accepted h.1))
  where
    accepted : verdict_of one_member (Close 1) ≡ Ok tt → false ≡ true
    accepted e = cc

skipped_wants_none : WantsMemory (filling_under AtRest) (Submit (Open 1)) → ⊥
skipped_wants_none h = true≢false (sym h.0)

others_want_none : (m : MachineState) → (WantsMemory m Publish → ⊥) × (WantsMemory m Writer → ⊥) × (WantsMemory m (Reader 1) → ⊥)
others_want_none m = ((λ h. h), (λ h. h), (λ h. h))

-- memory doesn't run out once the only event, a publication, is done
no_memory_after_all : IsFault one_member 1 (Publish ∷ []) one_member 1 OutOfMemory → ⊥
no_memory_after_all h = ⊎_elim (λ t. bound t.0) (λ t. ⊎_elim (λ e. omega (arith, e)) (λ w. past w.0 w.1) t.2) h.cause
  where
    bound : (IsFew 1 → ⊥) → ⊥
    bound out = out (omega arith, omega arith)

    past : (event : Event) → slice_get (Publish ∷ []) 1 ≡ Some event → ⊥
    past event e = cc

-- a bad number of readers is refused before any event
no_readers_after_one : HasCause one_member 0 (Publish ∷ []) 1 BadLimit → ⊥
no_readers_after_one h = ⊎_elim (λ t. omega (arith, t.2)) (λ t. omega (arith, t.0.0)) h

-- quiescent readers stay quiescent, and the least that is not is the first
stay_refuted : StaySeen (true ∷ []) (false ∷ []) → ⊥
stay_refuted h = true≢false (same (h 0 refl))
  where
    same : Some false ≡ Some true → true ≡ false
    same e = cc

least_refuted : IsLeastUnseen (false ∷ false ∷ []) 1 → ⊥
least_refuted h = true≢false (same (h.1 0 (omega arith)))
  where
    same : Some false ≡ Some true → true ≡ false
    same e = cc

-- a register of one member can begin
pub ledger : IsLedger one_member
ledger = record { legal = (refl, omega arith); within = omega arith; small = omega arith }

three_votes_stay_in_range : RangeLaw → IsPublishable one_member.opening (SetVotes code 3 ∷ [])
three_votes_stay_in_range law = (law (machine_at_start one_member 1) ledger votes_in_range (Submit (SetVotes code 3)) hands_three_votes).1

-- over the events in which a reader holds up a publication
records_while_held_up : RecordsLaw → let m = machine_after one_member 1 blocking in let a = auxiliary_after one_member 1 blocking in AreLegalRecords m.ledger.opening m.writer.published a.cuts a.records
records_while_held_up law = law one_member 1 ledger blocking

apart_while_held_up : UnderLaw → let m = machine_after one_member 1 blocking in IsApart m.writer m.readers
apart_while_held_up law = law one_member 1 ledger blocking

-- both hold before the first event and after every one; after the last, both commands are published and both readings done
records_kept : RecordsLaw → KeepsRecordsLegal one_member 1 blocking
records_kept law k = law one_member 1 ledger (take k blocking)

apart_kept : UnderLaw → StoresUnderNobody one_member 1 blocking
apart_kept law k = law one_member 1 ledger (take k blocking)

kept_to_the_end : KeepsRecordsLegal one_member 1 blocking
    → AreLegalRecords one_member.opening (Open 1 ∷ Move code (Some 1) ∷ []) (0 ∷ 1 ∷ 2 ∷ []) ((first_sheet ∷ last_sheet ∷ []) ∷ [])
kept_to_the_end kept = kept 151

-- the records of a register that begins with a refused command aren't legal before the first event
refused_at_the_start : KeepsRecordsLegal (record one_member { journal = Close 1 ∷ [] }) 1 [] → ⊥
refused_at_the_start kept = true≢false (sym (kept 0).legal.0)

replies_while_held_up : RepliesLaw → ReportsReplies one_member 1 blocking
replies_while_held_up law = law one_member 1 ledger blocking

-- a step that stores a word does not change which readers are quiescent, and if all are, a
-- publication fills at once
stay_used : StayLaw → StaySeen (filling_under AtRest).writer.seen_out (transition (filling_under AtRest) Writer).0.writer.seen_out
stay_used law = law (filling_under AtRest) Writer refl

at_once_used : AtOnceLaw → (transition (machine_after one_member 1 (Submit (Open 1) ∷ [])) Publish).0.writer.phase ≡ Filling 0
at_once_used law = law (machine_after one_member 1 (Submit (Open 1) ∷ [])) refl refl

-- a reader at rest after a publication of one command reads its sheet, or a newer one
abbrev one_published : List Event
one_published = Submit (Open 1) ∷ Publish ∷ replicate 35 Writer

-- as its first word is stored, no reader holds copy 1
nobody_under : StoresUnderNobody one_member 1 one_published → (stage : Stage)
    → slice_get (machine_after one_member 1 (Submit (Open 1) ∷ Publish ∷ [])).readers 0 ≡ Some stage → side_held stage ≡ Some 1 → ⊥
nobody_under apart stage at held = apart 2 1 0 stage refl at held

fresh_used : FreshLaw → 1 ≤ front_of (1 ∷ replicate 31 0 ++ 10 ∷ 1 ∷ [])
fresh_used law = law one_member 1 ledger one_published (replicate 36 (Reader 1)) 0 _ refl refl

never_older_while_held_up : NeverOlderLaw → FrontsNeverFall (notes (machine_at_start one_member 1) blocking)
never_older_while_held_up law = law one_member 1 ledger blocking

-- the publication that the reader blocks, at the 42nd event, names the least reader that is not
-- quiescent
abbrev pub held_up : MachineState
held_up = machine_after one_member 1 (take 41 blocking)

busy_used : BusyLaw → (a : Auxiliary) → IsLawfulMachine IsPublishable held_up a → (r : ℕ) × (1 ≡ suc r) × IsLeastUnseen held_up.writer.seen_out r
busy_used law a lawful =
    let found = law held_up a lawful Writer 1 refl in
    (found.0, found.1, found.2)

-- the load of side is the second step of a reading, and that of a first word adds nothing to the record
count_used : StepCountLaw → steps_taken ((stage_action 0 Arrived).after 1) ≡ 2
count_used law = (law 0 1 Arrived tt).1

growth_used : GrowthLaw → ((reader_action 0 (record { stage = Reading 0 []; readings = [] })).after 7).readings ≡ []
growth_used law = (law 0 7 (record { stage = Reading 0 []; readings = [] }) (omega arith)).0 (λ e. omega (arith, e))
