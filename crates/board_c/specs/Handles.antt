-- What a handle owns.
use Rattle.std.specs.Prelude.{ℕ, cond, eqb}
use base.Fml.{Fml, ftrue}
use denote.RawPtr.{Ptr}
use Rattle.std.specs.Box.Ownership.{box_owns}
use Rattle.std.specs.contracts.impls.GlobalAllocator.TheImpl.{ghosts}
use mir.Syntax.{Ty}
use Rattle.council_core.specs.Sequential.{Sequential}
use Rattle.board_c.specs.declared.register.handles.TheConstants.{LIVE}
use Rattle.council_core.specs.contracts.published.PublishedRegister.{the_row}

-- the right to free a block of `Global`, a type with one value
abbrev pub frees : Ty → Ptr → Fml
frees = ghosts.dealloc_token (record { memory = record { seal = tt } })

-- a handle in the state LIVE owns a box with this register, and any other owns nothing
abbrev pub keeps : Ptr → ℕ → Sequential → Fml
keeps at state register = cond (eqb state LIVE) (box_owns frees the_row at register) ftrue
