-- What a reader has brought back so far.
use Rattle.std.proofs.Common.{◌≡◌, ℕ, List}
use Rattle.council_core.specs.Rolls.{Opening}
use Rattle.board_share.specs.Readers.{HasLegalRecord, ReaderState}

-- the reader's opening is this one, these are its readings, and they are a legal record
pub record HasRead (members : Opening) (p : ReaderState) (sheets : List (List ℕ)) : Type 0 where
  pub opening : p.opening ≡ members
  pub same : sheets ≡ p.readings
  pub legal : HasLegalRecord p
