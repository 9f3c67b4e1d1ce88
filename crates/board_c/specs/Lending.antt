-- What a handle is after its register was lent.
use Rattle.std.specs.Borrow.{Lends, MutBor, Fml}
use Rattle.council_core.specs.Sequential.{Sequential}
use Rattle.council_core.specs.contracts.published.PublishedRegister.{the_row as register_row}
use Rattle.board_c.specs.declared.register.handles.BoardRegister.{BoardRegister}
use Rattle.board_c.specs.contracts.register.handles.BoardRegister.{the_row}

-- the same handle with another register
abbrev pub with_register : BoardRegister → Sequential → BoardRegister
with_register h s = record { at = h.at; state = h.state; register = s }

-- the handle ends with the last register behind r
abbrev pub LendsRegister : MutBor BoardRegister → MutBor Sequential → Fml
LendsRegister s r = Lends the_row register_row s r (with_register s.now)
