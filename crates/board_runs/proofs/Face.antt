-- What proofs of other crates cite. The modules behind it are this crate's own.
pub use Rattle.board_runs.proofs.EndFacts.{is_of_input, run-ends, trace-ends}
pub use Rattle.board_runs.proofs.WorkedCases.{of_the_machine, of_the_register, schedule}
