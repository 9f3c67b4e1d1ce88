-- The laws of a rule speak of the board that the rule is of: the history that each gives begins as that board does.
use Rattle.board_share.proofs.Names.{[], Adds, History, is_writers, IsPublishable, known_after, machine_at_start, map}
use Rattle.board_share.proofs.Names.{WriterState, ShareStart, TookTry, View, ℕ, ◌≡◌}
use Rattle.atomic_table.specs.Table as table
use Rattle.two_copy_steps.specs.Auxiliary.{IsApart}
use Rattle.board_share.specs.Writers.{publication}
use Rattle.board_share.specs.Laws.{ApartLaw, HistoryLaw, SeatStartLaw, SplitLaw}

module _ (holds : ShareStart → table.State Unit View → Type 0) (origin : ShareStart) (s : table.State Unit View) (held : holds origin s) where
  of_this_board : HistoryLaw holds → (h : History) × (h.origin ≡ origin)
  of_this_board law = let found = law origin s held in (found.0, found.1)

  apart_on_this_board : ApartLaw holds → (h : History) × (h.origin ≡ origin) × (let k = known_after h in IsApart k.writer.state (map (λ v. v.stage) k.readers))
  apart_on_this_board law = let found = law origin s held in (found.0, found.1, found.3)

  words_on_this_board : HistoryLaw holds → (h : History) × (s.words ≡ (known_after h).words)
  words_on_this_board law = let found = law origin s held in (found.0, found.2.words)

-- the rule holds of a board's first seat, and still holds when a seat is split
start_used : (holds : ShareStart → table.State Unit View → Type 0) (first : ShareStart → View) → SeatStartLaw holds first → (origin : ShareStart) → IsPublishable origin.register.opening origin.register.journal
    → holds origin (table.opening (machine_at_start origin.register origin.readers).words [] (first origin))
start_used holds first law origin publishable = law origin publishable

split_used : (holds : ShareStart → table.State Unit View → Type 0) (left right : View → View) → SplitLaw holds left right → (origin : ShareStart) (v : View) → table.Splits (holds origin) 3 v (left v) (right v)
split_used holds left right law origin v = law origin 3 v

-- an attempt to publish leaves the writer's published commands, cuts and quiescent readers as its history gives them
module _ (steps : ℕ) (before after : WriterState) (took : TookTry steps before after) where
  published_of_try : after.published ≡ (known_after after.history).writer.state.published
  published_of_try = took.published

  cuts_of_try : after.cuts ≡ (known_after after.history).writer.cuts
  cuts_of_try = took.cuts

  seen_out_of_try : after.seen_out ≡ (known_after after.history).writer.state.seen_out
  seen_out_of_try = took.seen_out

  events_of_try : Adds is_writers (publication before.history before.ledger.journal steps) before.history after.history
  events_of_try = took.adds
