-- A register together with the sheet published last, as a sequential register.
use Rattle.std.specs.Prelude.{◌≡◌, ℕ, ◌≤◌, List, length, min, take}
use Rattle.council_core.specs.Ledgers.{Ledger, ledger_as_of}
use Rattle.council_core.specs.Rolls.{sheet}
use Rattle.council_core.specs.Sequential.{Sequential}
use Rattle.council_core.specs.Sheets.{front_of, IsSheet}

-- the sheet shown is the sheet of the published commands, its front is their number, and its numbers
-- are in range
pub record IsShown (ledger : Ledger) (words : List ℕ) : Type 0 where
  pub within : front_of words ≤ length ledger.journal
  pub same : words ≡ sheet ledger.opening (take (front_of words) ledger.journal)
  pub in_range : IsSheet words

-- the sequential register of a ledger and the sheet published last, whose front is the number of
-- published commands
abbrev pub shown_as : Ledger → List ℕ → Sequential
shown_as ledger words = record { ledger = ledger; published = front_of words }

-- the sequential register after its first `accepted` commands; those of them that are published stay
-- published
abbrev pub sequential_as_of : Sequential → ℕ → Sequential
sequential_as_of s accepted = record { ledger = ledger_as_of s.ledger accepted; published = min s.published accepted }

-- the sequential register taken back to its first `accepted` commands; those of them that are published
-- stay published, but no more than the first `published`
abbrev pub sequential_taken_back : Sequential → ℕ → ℕ → Sequential
sequential_taken_back s accepted published =
    record { ledger = ledger_as_of s.ledger accepted; published = min (min s.published published) accepted }
