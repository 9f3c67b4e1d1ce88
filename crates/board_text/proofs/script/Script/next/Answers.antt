use Rattle.board_text.proofs.ScriptFacts.{takes-first}
use Rattle.board_text.proofs.script.Script.next.Goals as goal

pub returns-in-Ok-clause-read : goal.returns-in-Ok-clause-read
returns-in-Ok-clause-read c =
    let inv = c.self.invariant in
    let said = c.in-Ok.ensures in
    rw (← c.self.view_is) (takes-first c.self.inside.reader c.read_byte_record.new.self c.in-Ok.found _
    (λ e. let i = inv e in (i.1, said.reads i.0 i.3))
    (λ e. let h = said.failed e in cc))
