-- What a new reader is, and what the result of a session is not.
use Rattle.std.proofs.Common.{◌≤◌, ℕ, List, [], ◌∷◌, length, refl, arith}
use Rattle.std.proofs.lemmas.List.Elements.{recursion_from_All}
use Rattle.council_core.specs.Rolls.{Opening}
use Rattle.council_core.specs.Sequential.{AreLegalRecords}
use Rattle.council_core.specs.declared.commands.Command.{Command}
use Rattle.two_copy_steps.specs.declared.views.Stage.TheVariants.{Arrived, AtRest}
use Rattle.board_share.specs.Readers.{ReaderState}
use Rattle.two_threads.specs.Sessions.{IsNew}

-- a reader at rest with no readings is new; one in the middle of a reading, or with a reading, is not
new : (p : ReaderState) → IsNew (record p { stage = AtRest; readings = [] })
new p = record { rest = refl; none = refl }

not_new : (p : ReaderState) → (IsNew (record p { stage = Arrived; readings = [] }) → ⊥) × (IsNew (record p { stage = AtRest; readings = [] ∷ [] }) → ⊥)
not_new p = ((λ h. cc h.rest), (λ h. cc h.none))

-- no cut is of more commands than the journal has
no_cut_beyond : (members : Opening) (cuts : List ℕ) (sheets : List (List ℕ)) → AreLegalRecords members [] (0 ∷ 1 ∷ cuts) (sheets ∷ []) → ⊥
no_cut_beyond members cuts sheets are =
    let none : List Command = [] in
    let within = (recursion_from_All (λ (cut : ℕ). cut ≤ length none) (0 ∷ 1 ∷ cuts) are.in_order.1).1.0 in
    omega (arith, within)
