-- Laws of inputs.
use Rattle.std.specs.Prelude.{◌≡◌, ℕ, true, List, None}
use Rattle.recording_io.specs.Tapes.{ReaderRecord, IsInput, given_since}

-- the bytes that the reader returned are a possible input
abbrev pub GivenIsInput : Type 0
GivenIsInput = (from to : ReaderRecord) → IsInput from to (given_since from to)

-- no other bytes are a possible input, where the reader's contents aren't known and it reported its
-- end
abbrev pub AreAll : Type 0
AreAll = (from to : ReaderRecord) (bytes : List ℕ) → from.left ≡ None → to.ended ≡ true → IsInput from to bytes
    → bytes ≡ given_since from to
