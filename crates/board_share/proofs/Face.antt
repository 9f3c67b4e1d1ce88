-- What proofs of other crates cite. The modules behind it are this crate's own.
pub use Rattle.board_share.proofs.Histories.{longer_none}
pub use Rattle.board_share.proofs.Prefixes.{adds_then}
