-- One access of a seat to the words, and the action that it does.
use Rattle.board_share.proofs.Names.{ℕ, ◌≡◌}
use Rattle.two_copy_steps.specs.Actions.{Action}

-- the word, what it becomes, and what the access returns to the seat, both by the number found there
pub record SeatAccess : Type 0 where
  pub word : ℕ
  pub becomes : ℕ → ℕ
  pub reported : ℕ → ℕ

-- a load returns the number that it found, and a store the number that it stored
abbrev pub load_of : ℕ → SeatAccess
load_of i = record { word = i; becomes = λ n. n; reported = λ n. n }

abbrev pub store_of : ℕ → ℕ → SeatAccess
store_of i x = record { word = i; becomes = λ _. x; reported = λ _. x }

-- an access does what an action does: its word becomes the same, and the number returned leads to
-- the same view as the number found
pub record Does {V : Type 0} (action : Action V) (access : SeatAccess) : Type 0 where
  pub becomes : (n : ℕ) → access.becomes n ≡ action.becomes n
  pub leads : (n : ℕ) → action.after (access.reported n) ≡ action.after n
