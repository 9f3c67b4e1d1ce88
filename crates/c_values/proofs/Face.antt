-- What proofs of other crates cite. The modules behind it are this crate's own.
pub use Rattle.c_values.proofs.RowLemmas.{first_left, next_image}
