-- What proofs of other crates cite. The modules behind it are this crate's own.
pub use Rattle.swing_walk.proofs.BoardSets.{board_distinct, two_halves_law}
pub use Rattle.swing_walk.proofs.Coalitions.{both_true}
pub use Rattle.swing_walk.proofs.PairLaws.{over-map, pair_law, shifted}
