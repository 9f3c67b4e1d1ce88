-- The bytes that were read, and the input that they are of.
use Rattle.std.proofs.Common.{◌≡◌, ◌<◌, ◌≤◌, ◌+◌, ℕ, List, ◌++◌, length, take, arith, ap, subst}
use Rattle.std.proofs.lemmas.List.{length-append, length-take-le}
use Rattle.recording_io.specs.Tapes.{ReaderRecord, HasEnded, IsInput, WasGiven}
use Rattle.recording_io.proofs.Face.{given-more, given-same, input-begins, input-whole}

-- the read that said that this is all
pub ended-by : (from mid to : ReaderRecord) (text piece : List ℕ) (n : ℕ) → n ≡ 0 → WasGiven from mid text → WasGiven mid to (take n piece) → HasEnded to → (bytes : List ℕ) → IsInput from to bytes → text ≡ bytes
ended-by from mid to text piece n none so_far last end bytes is =
    let P : ℕ → Type 0 = λ k. WasGiven mid to (take k piece) in
    input-whole from to text bytes (given-same from mid to text so_far (subst P none last)) end is

-- more was given than fits
pub longer : (from mid to : ReaderRecord) (text piece bytes : List ℕ) (n : ℕ) → WasGiven from mid text → WasGiven mid to (take n piece) → n ≤ length piece → 4194304 < length text + n → IsInput from to bytes → 4194304 < length bytes
longer from mid to text piece bytes n so_far last fits long is =
    let begins = input-begins from to (text ++ take n piece) bytes (given-more from mid to text (take n piece) so_far last) is in
    let count = ap length begins.1 in
    omega (arith, count, length-append text (take n piece), length-append (text ++ take n piece) begins.0, length-take-le n piece fits, long)
