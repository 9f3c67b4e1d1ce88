-- What proofs of other crates cite. The modules behind it are this crate's own.
pub use Rattle.majority_rule.proofs.MajorityLemmas.{each-majority, majority-back, majority-word}
