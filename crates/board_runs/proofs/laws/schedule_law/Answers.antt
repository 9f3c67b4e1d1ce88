use Rattle.board_runs.proofs.ScheduleFacts.{schedule-law}
use Rattle.board_runs.proofs.laws.schedule_law.Goals as goal

pub returns : goal.returns
returns c = record { read_back = schedule-law }
