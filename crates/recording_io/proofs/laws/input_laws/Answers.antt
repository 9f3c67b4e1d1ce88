use Rattle.recording_io.proofs.Inputs.{are-all, given-is_input}
use Rattle.recording_io.proofs.laws.input_laws.Goals as goal

pub returns-clause-given : goal.returns-clause-given
returns-clause-given c = given-is_input

pub returns-clause-all : goal.returns-clause-all
returns-clause-all c = are-all
