-- The quiescent readers, and how a publication uses them.
use Rattle.std.specs.Prelude.{◌≡◌, ℕ, zero, suc, ◌<◌, Bool, true, false, List, slice_index_or, slice_get}
use Rattle.std.specs.Prelude.{Some}
use Rattle.two_copy_steps.specs.declared.events.Event.{Event}
use Rattle.two_copy_steps.specs.declared.events.Event.TheVariants.{Writer}
use Rattle.two_copy_steps.specs.declared.views.Phase.{Phase}
use Rattle.two_copy_steps.specs.declared.views.Phase.TheVariants.{Swapping}

-- whether the reader with this number is quiescent; false if no reader has this number
abbrev pub seen_out_at : List Bool → ℕ → Bool
seen_out_at out zero = false
seen_out_at out (suc r) = slice_index_or out r false

-- the reader at r is not quiescent, and all readers before it are
abbrev pub IsLeastUnseen : List Bool → ℕ → Type 0
IsLeastUnseen out r = (slice_get out r ≡ Some false) × ((q : ℕ) → q < r → slice_get out q ≡ Some true)

-- quiescent readers stay quiescent
abbrev pub StaySeen : List Bool → List Bool → Type 0
StaySeen before after = (r : ℕ) → slice_get before r ≡ Some true → slice_get after r ≡ Some true

-- whether an event stores side, by the writer's phase
abbrev pub stores_side : Event → Phase → Bool
stores_side Writer Swapping = true
stores_side event phase = false
