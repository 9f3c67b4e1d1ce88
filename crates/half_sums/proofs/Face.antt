-- What proofs of other crates cite. The modules behind it are this crate's own.
pub use Rattle.half_sums.proofs.GroupFacts.{sizes_few}
pub use Rattle.half_sums.proofs.MaskLemmas.{first_apart, mask_has, of_others, sets_sized}
pub use Rattle.half_sums.proofs.SetSums.{or_left, or_right, over, over-cons, subsets_avoid, sum_agree, sum_agree_on, sum_by-map, sum_zero}
pub use Rattle.half_sums.proofs.SubsetFacts.{chairs_within_slots, length_of_half}
