-- What proofs of other crates cite. The modules behind it are this crate's own.
pub use Rattle.two_copy_steps.proofs.Cuts.{HasCuts, run_cuts}
pub use Rattle.two_copy_steps.proofs.EffectLists.{one_run}
pub use Rattle.two_copy_steps.proofs.EventLists.{after_append, notes_append, start_together, Together, together_on}
pub use Rattle.two_copy_steps.proofs.Journals.{IsAccepted}
pub use Rattle.two_copy_steps.proofs.Lists.{at_set, inside, set_else, set_here}
pub use Rattle.two_copy_steps.proofs.PublicationFacts.{set_stays}
pub use Rattle.two_copy_steps.proofs.ReaderSteps.{reader_keeps}
pub use Rattle.two_copy_steps.proofs.Replies.{event_agrees, Held, sequential_of}
pub use Rattle.two_copy_steps.proofs.ReportedRecords.{run_reported}
pub use Rattle.two_copy_steps.proofs.StageFacts.{counted}
pub use Rattle.two_copy_steps.proofs.Starts.{start_lawful, start_length, viewed_start}
pub use Rattle.two_copy_steps.proofs.StateFacts.{state_apart, state_known, state_records}
pub use Rattle.two_copy_steps.proofs.Steps.{publishable}
pub use Rattle.two_copy_steps.proofs.TransitionFacts.{reader_is}
pub use Rattle.two_copy_steps.proofs.TransitionSteps.{staged_kept, view_at}
pub use Rattle.two_copy_steps.proofs.WriterSteps.{begin_keeps, writer_keeps}
