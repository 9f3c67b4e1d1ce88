-- The start of a session.
use Rattle.std.specs.Prelude.{◌≡◌, []}
use Rattle.two_copy_steps.specs.declared.views.Stage.TheVariants.{AtRest}
use Rattle.board_share.specs.Readers.{ReaderState}

-- a reader with no readings
pub record IsNew (p : ReaderState) : Type 0 where
  pub rest : p.stage ≡ AtRest
  pub none : p.readings ≡ []
