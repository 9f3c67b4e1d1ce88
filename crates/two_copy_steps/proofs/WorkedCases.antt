-- Small cases, computed, over a register of one member, with one reader; and what definitions must not hold of.
use Rattle.two_copy_steps.proofs.Names.{[], Accepted, arith, Arrived, AtRest, Began, Busy, COPY_WORDS, effects, Event}
use Rattle.two_copy_steps.proofs.Names.{false, Filling, HasVotesInRange, Idle, IsApart, Leaving, Ledger, List}
use Rattle.two_copy_steps.proofs.Names.{machine_at_start, MachineState, Moved, None, notes, Open, Publish, Published}
use Rattle.two_copy_steps.proofs.Names.{Read, Reader, Reading, refl, Refused, replicate, replied_at, Seeing}
use Rattle.two_copy_steps.proofs.Names.{sequential_start, SequentialRun, SetVotes, side_held, Skipped, Some, Stage}
use Rattle.two_copy_steps.proofs.Names.{State, steps_taken, Submit, suc, Swapping, true, Writer, ℕ, ◌++◌, ◌^◌, ◌∷◌, ◌≡◌}
use Rattle.std.proofs.Common.{rules}
use Rattle.council_core.specs.declared.commands.Command.TheVariants.{Move}
use Rattle.two_copy_steps.specs.declared.table.TheConstants.{READERS}
use Rattle.council_core.specs.Sequential.{submit, publish, read}
use Rattle.council_core.specs.declared.refusals.Refusal.TheVariants.{ChairOpen}
use Rattle.two_copy_steps.specs.Effects.{begun_after}
use Rattle.two_copy_steps.specs.Laws.{SubmitsInRange, StateRecordsLaw}
use Rattle.two_copy_steps.specs.Auxiliary.{side_filled}
use Rattle.two_copy_steps.specs.Publications.{stores_side}
use Rattle.two_copy_steps.specs.Stages.{reading_steps}
use Rattle.two_copy_steps.specs.States.{IsLawfulBoard}

abbrev pub one_member : Ledger
one_member = record { opening = (65 ∷ 65 ∷ 65 ∷ [], 10) ∷ []; journal = []; limit = 100 }

five_notes : notes (machine_at_start one_member 1) (Submit (Open 1) ∷ Reader 2 ∷ Writer ∷ Publish ∷ Reader 1 ∷ []) ≡ Accepted 1 ∷ Skipped ∷ Skipped ∷ Began ∷ Moved ∷ []
five_notes = refl

-- a reader that has arrived holds up the second publication, and reads the sheet before the first
abbrev pub blocking : List Event
blocking =
    replicate 2 (Reader 1) ++ Submit (Open 1) ∷ Publish ∷ [] ++ replicate 35 Writer ++ Submit (Move (65 ∷ 65 ∷ 65 ∷ []) (Some 1)) ∷ Publish ∷ Writer ∷ [] ++ replicate 35 (Reader 1) ++ Publish ∷ [] ++ replicate 36 Writer
    ++ replicate 37 (Reader 1)

abbrev pub first_sheet : List ℕ
first_sheet = replicate 32 0 ++ 10 ∷ 0 ∷ []

abbrev pub last_sheet : List ℕ
last_sheet = 11 ∷ replicate 31 0 ++ 10 ∷ 2 ∷ []

way_notes : notes (machine_at_start one_member 1) blocking
    ≡ replicate 2 Moved ++ Accepted 1 ∷ Began ∷ [] ++ replicate 34 Moved ++ Published 1 ∷ Accepted 2 ∷ Began ∷ Busy 1 ∷ [] ++ replicate 34 Moved ++ Read 1 first_sheet ∷ Began ∷ [] ++ replicate 35 Moved ++ Published 2 ∷ []
    ++ replicate 36 Moved ++ Read 1 last_sheet ∷ []
way_notes = refl

-- six of these 151 events represent a call of the sequential register, in this order
way_effects : effects (machine_at_start one_member 1) blocking
    ≡ read ∷ submit (Open 1) ∷ publish ∷ submit (Move (65 ∷ 65 ∷ 65 ∷ []) (Some 1)) ∷ publish ∷ read ∷ []
way_effects = refl

-- a publication with nothing pending is a call, and neither a command nor a publication is while one is under way
other_effects : (effects (machine_at_start one_member 1) (Publish ∷ []) ≡ publish ∷ []) × (effects (machine_at_start one_member 1) (Submit (Open 1) ∷ Publish ∷ Submit (Open 2) ∷ Publish ∷ []) ≡ submit (Open 1) ∷ [])
other_effects = (refl, refl)

-- at the start no publication has begun, and no reader has been replied anything
at_the_start : ((sequential_start one_member).begun ≡ false) × ((sequential_start one_member).replied 1 ≡ None)
at_the_start = (refl, refl)

-- a publication is under way from its beginning until side is stored or it is given up
began : begun_after false Began ≡ true
began = refl

given_up : begun_after true (Busy 1) ≡ false
given_up = refl

ended : begun_after true (Published 3) ≡ false
ended = refl

-- no other note begins one, and none of them ends it
begins_nothing : (begun_after false Moved ≡ false) × (begun_after false (Accepted 1) ≡ false) × (begun_after false (Refused ChairOpen) ≡ false) × (begun_after false (Read 1 []) ≡ false) × (begun_after false Skipped ≡ false)
begins_nothing = (refl, refl, refl, refl, refl)

ends_nothing : (begun_after true Moved ≡ true) × (begun_after true (Accepted 1) ≡ true) × (begun_after true (Refused ChairOpen) ≡ true) × (begun_after true (Read 1 []) ≡ true) × (begun_after true Skipped ≡ true)
ends_nothing = (refl, refl, refl, refl, refl)

-- the reply to a reader is forgotten when it arrives again
forgotten : (t : SequentialRun) → replied_at t 1 AtRest 1 ≡ None
forgotten t = refl

-- no writer may fill the copy that a reader reads, or has read and not left
abbrev pub filling_under : Stage → MachineState
filling_under stage = record (machine_at_start one_member 1) { writer = record (machine_at_start one_member 1).writer { phase = Filling 0 }; readers = stage ∷ [] }

under_reading : let m = filling_under (Reading 1 []) in IsApart m.writer m.readers → ⊥
under_reading h = h 1 0 (Reading 1 []) refl refl refl

under_leaving : let m = filling_under (Leaving 1 []) in IsApart m.writer m.readers → ⊥
under_leaving h = h 1 0 (Leaving 1 []) refl refl refl

-- a copy is filled from its first word to its last, and at no other time
fills_the_other : (side_filled 0 (Filling 0) ≡ Some 1) × (side_filled 1 (Filling 33) ≡ Some 0)
fills_the_other = (refl, refl)

fills_none : (side_filled 0 Idle ≡ None) × (side_filled 0 Seeing ≡ None) × (side_filled 0 Swapping ≡ None)
fills_none = (refl, refl, refl)

-- a copy is held from the load of side until the reader leaves
holds_its_side : (side_held (Reading 0 []) ≡ Some 0) × (side_held (Reading 0 (1 ∷ [])) ≡ Some 0) × (side_held (Leaving 1 []) ≡ Some 1)
holds_its_side = (refl, refl, refl)

holds_none : (side_held AtRest ≡ None) × (side_held Arrived ≡ None)
holds_none = (refl, refl)

-- after a reader's last stage its reading has all its steps
all_steps : suc (steps_taken (Leaving 0 [])) ≡ reading_steps
all_steps = refl

-- the writer's last step stores side, and no other event does
stores_it : stores_side Writer Swapping ≡ true
stores_it = refl

stores_a_word : (stores_side Writer (Filling 33) ≡ false) × (stores_side Writer Seeing ≡ false) × (stores_side Writer Idle ≡ false)
stores_a_word = (refl, refl, refl)

reader_stores_none : stores_side (Reader 1) Idle ≡ false
reader_stores_none = refl

-- no lawful state has a reader that brought back words of no cut
abbrev with_reading : List ℕ → State
with_reading words = record {
  words = [];
  writer = record { state = (machine_at_start one_member 1).writer; cuts = 0 ∷ [] };
  readers = record { stage = AtRest; readings = words ∷ [] } ∷ [];
}

no_cut : StateRecordsLaw → IsLawfulBoard one_member.opening (with_reading []) → ⊥
no_cut law lawful = absurd_words (law one_member.opening (with_reading []) lawful).readings.0.0.2
  where
    absurd_words : {x : ℕ} {xs : List ℕ} → [] ≡ x ∷ xs → ⊥
    absurd_words e = cc

-- the votes of a register and those that an event submits are in range, or too many
abbrev pub code : List ℕ
code = 65 ∷ 65 ∷ 65 ∷ []

pub votes_in_range : HasVotesInRange one_member
votes_in_range = search rules

pub hands_three_votes : SubmitsInRange (Submit (SetVotes code 3))
hands_three_votes = search rules

hands_too_many : SubmitsInRange (Submit (SetVotes code (2 ^ 41))) → ⊥
hands_too_many h = omega (arith, h)

-- the limits by number, which definitions name
limits : (COPY_WORDS ≡ 34) × (READERS ≡ 4)
limits = (refl, refl)
