-- What proofs of other crates cite. The modules behind it are this crate's own.
pub use Rattle.council_core.proofs.AssembleLemmas.{IsSheet-made}
pub use Rattle.council_core.proofs.CoalitionLemmas.{length-subsets}
pub use Rattle.council_core.proofs.KindLemmas.{command-formed, command-whole, each-kind, found-passes, kind-back, kind-word}
pub use Rattle.council_core.proofs.LawLemmas.{front_of_first, IsSheet-sheet}
pub use Rattle.council_core.proofs.OpenChairs.{chair_of, chair_of-open, length-open, numbers_distinct, numbers_within, open_from-cons, weight_of-open}
pub use Rattle.council_core.proofs.RegisterLemmas.{weight_within}
pub use Rattle.council_core.proofs.RollLemmas.{fold_from-push}
pub use Rattle.council_core.proofs.SheetOfLemmas.{cast_within}
