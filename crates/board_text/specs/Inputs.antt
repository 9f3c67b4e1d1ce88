-- The result of one read.
use Rattle.std.specs.Prelude.{◌≡◌, ℕ, ◌+◌, ◌<◌, ◌≤◌, true, false, List, [], length, take, Option, Some, None}
use Rattle.recording_io.specs.Tapes.{HasEnded, ReaderRecord, WasGiven, after_call}

-- one read that did not fail. `None`: the read was interrupted, the interruption was counted, and
-- no byte came. `Some n`: the first n bytes of the piece were filled, and n is 0 for a piece with
-- room only at the end of the input
abbrev pub Reads : ReaderRecord → ReaderRecord → ℕ → ℕ → List ℕ → Option ℕ → Type 0
Reads from to before after piece None =
    (after ≡ before + 1) × WasGiven from to [] × (to.calls ≡ after_call from.calls 0 true)
Reads from to before after piece (Some n) =
    (after ≡ before) × (n ≤ length piece) × WasGiven from to (take n piece)
    × (n ≡ 0 → 0 < length piece → HasEnded to) × (to.calls ≡ after_call from.calls n false)
