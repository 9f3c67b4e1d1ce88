-- What proofs of other crates cite. The modules behind it are this crate's own.
pub use Rattle.board_text.proofs.IndexFacts.{first-more, found-at, StandsAt}
pub use Rattle.board_text.proofs.MemberFacts.{front-whole, members-opened}
pub use Rattle.board_text.proofs.NumberFacts.{number-back}
pub use Rattle.board_text.proofs.OpeningFacts.{opening-bad, opening-ends, opening-full, opening-mark, opening-member, opening-starts, opening_after}
pub use Rattle.board_text.proofs.ReadingFacts.{reads-ended, reads-on, reads-passed, run-passed}
pub use Rattle.board_text.proofs.RequestFacts.{command-back, command-plain, reads-back}
pub use Rattle.board_text.proofs.RunFacts.{appends-same, first-stops, first-then, front-before, front-none, front-then, line-then, lines-then, row-found, RowAt, rows-more, rows-stop, text-after, writes-after, writes-more, writes-nothing, writes-passed, writes-spelled, writes-whole, WrittenTo}
pub use Rattle.board_text.proofs.ScriptFacts.{same-records}
pub use Rattle.board_text.proofs.WritingFacts.{IsPlainRow, number-plain}
