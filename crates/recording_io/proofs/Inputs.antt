-- What was given, and the input that it is of.
use Rattle.std.proofs.Common.{◌≡◌, inl, inr, ℕ, List, [], ◌++◌, length, drop, Option, Some, None, refl, sym, ap, ◌∙◌, append_assoc, append-nil, subst}
use Rattle.std.proofs.Math.Seq.{drop-append_seam}
use Rattle.std.specs.Io.KnownBytes.{Consumes, IsAtEnd}
use Rattle.std.proofs.KnownBytes.{Consumes-trans}
use Rattle.recording_io.specs.Laws.{AreAll, GivenIsInput}
use Rattle.recording_io.specs.Tapes.{ReaderRecord, HasEnded, IsInput, WasGiven, given_since}

since : (from to : ReaderRecord) (given : List ℕ) → WasGiven from to given → given_since from to ≡ given
since from to given w = ap (drop (length from.bytes)) w.bytes ∙ drop-append_seam from.bytes given

reported-begins : (a b : Option (List ℕ)) (given bytes : List ℕ) → Consumes a b given → a ≡ Some bytes → (rest : List ℕ) × (bytes ≡ given ++ rest)
reported-begins None b given bytes c e = cc e
reported-begins (Some xs) None given bytes c e = absurd c
reported-begins (Some xs) (Some ys) given bytes c e = let same : xs ≡ bytes = cc in (ys, sym same ∙ c)

-- an input begins with what was given
pub input-begins : (from to : ReaderRecord) (given bytes : List ℕ) → WasGiven from to given → IsInput from to bytes → (rest : List ℕ) × (bytes ≡ given ++ rest)
input-begins from to given bytes w (inl reported) = reported-begins from.left to.left given bytes w.left reported
input-begins from to given bytes w (inr more) = (more.0, more.1 ∙ ap (λ l. l ++ more.0) (since from to given w))

reported-whole : (a b : Option (List ℕ)) (given bytes : List ℕ) → Consumes a b given → IsAtEnd b → a ≡ Some bytes → given ≡ bytes
reported-whole None b given bytes c end e = cc e
reported-whole (Some xs) None given bytes c end e = absurd c
reported-whole (Some xs) (Some ys) given bytes c end e =
    let same : xs ≡ bytes = cc in
    sym (append-nil given) ∙ ap (λ l. given ++ l) (sym end) ∙ sym c ∙ same

-- where the reader said that this is all, what was given is the input
pub input-whole : (from to : ReaderRecord) (given bytes : List ℕ) → WasGiven from to given → HasEnded to → IsInput from to bytes → given ≡ bytes
input-whole from to given bytes w end (inl reported) = reported-whole from.left to.left given bytes w.left end.1 reported
input-whole from to given bytes w end (inr more) =
    sym (append-nil given) ∙ ap (λ l. given ++ l) (sym (more.2 end.0)) ∙ ap (λ l. l ++ more.0) (sym (since from to given w)) ∙ sym more.1

-- some was given, and then more
pub given-more : (from mid to : ReaderRecord) (a b : List ℕ) → WasGiven from mid a → WasGiven mid to b → WasGiven from to (a ++ b)
given-more from mid to a b p q =
    record { bytes = q.bytes ∙ ap (λ l. l ++ b) p.bytes ∙ append_assoc from.bytes a b; left = Consumes-trans from.left mid.left to.left a b p.left q.left }

-- some was given, and then nothing
pub given-same : (from mid to : ReaderRecord) (a : List ℕ) → WasGiven from mid a → WasGiven mid to [] → WasGiven from to a
given-same from mid to a p q = subst (WasGiven from to) (append-nil a) (given-more from mid to a [] p q)

pub given-is_input : GivenIsInput
given-is_input from to = inr ([], sym (append-nil (given_since from to)), λ ended. refl)

pub are-all : AreAll
are-all from to bytes none ended (inl reported) = cc (none, reported)
are-all from to bytes none ended (inr more) = more.1 ∙ ap (λ l. given_since from to ++ l) (more.2 ended) ∙ append-nil (given_since from to)
