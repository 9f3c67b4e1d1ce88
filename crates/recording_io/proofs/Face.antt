-- What proofs of other crates cite. The modules behind it are this crate's own.
pub use Rattle.recording_io.proofs.Inputs.{given-more, given-same, input-begins, input-whole}
