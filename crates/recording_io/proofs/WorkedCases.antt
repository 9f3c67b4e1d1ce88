-- What the definitions of both recorders take and refuse.
use Rattle.std.proofs.Common.{◌≡◌, ◌≢◌, ◌∙◌, ◌++◌, ap, ℕ, inl, inr, Bool, true, false, List, [], ◌∷◌, Some, None, Ok, Err, refl, arith}
use Rattle.std.specs.IoError.{error_kind}
use Rattle.std.specs.declared.io.Error.{Error}
use Rattle.std.specs.declared.io.ErrorKind.TheVariants.{Interrupted}
use Rattle.recording_io.specs.Laws.{AreAll, GivenIsInput}
use Rattle.recording_io.specs.Tapes.{Calls, CallsWithin, CountsCall, HasEnded, IsInput, IsSameWriter, OfInput, ReaderRecord, RecordsRead, RecordsWrite, WasGiven, WriterRecord, count_written, is_last, no_calls}

abbrev one : List ℕ
one = 7 ∷ []

abbrev two : List ℕ
two = 7 ∷ 8 ∷ []

-- the calls after this many, none of them empty or interrupted, and after this many empty ones
abbrev called : ℕ → Calls
called made = record { made = made; empty = 0; interrupted = 0 }

abbrev called_empty : ℕ → ℕ → Calls
called_empty made empty = record { made = made; empty = empty; interrupted = 0 }

abbrev writer : List ℕ → Calls → WriterRecord
writer bytes calls = record { writer = 0; at_start = None; contents = None; bytes = bytes; calls = calls }

abbrev giving : List ℕ → Bool → ℕ → ReaderRecord
giving bytes ended made = record { left = None; bytes = bytes; ended = ended; calls = called made }

-- none went past though there was room
is_the_last : is_last two 0 ≡ true
is_the_last = refl

no_room : is_last [] 0 ≡ false
no_room = refl

some_went : is_last two 1 ≡ false
some_went = refl

-- a write is counted, and takes what it says
takes_one : RecordsWrite (writer [] no_calls) (writer one (called 1)) (Ok 1) two
takes_one = (refl, refl)

uncounted_write : RecordsWrite (writer [] no_calls) (writer one no_calls) (Ok 1) two → ⊥
uncounted_write h = let e = ap (λ (c : Calls). c.made) h.0 in cc e

unnoted_write : RecordsWrite (writer [] no_calls) (writer [] (called 1)) (Ok 1) two → ⊥
unnoted_write h = let e = h.1 in cc e

-- so is a read, which reports whether it was the last
gives_one : RecordsRead (giving [] false 0) (giving one false 1) (Ok 1) two
gives_one = (refl, (refl, refl))

uncounted_read : RecordsRead (giving [] false 0) (giving one false 0) (Ok 1) two → ⊥
uncounted_read h = let e = ap (λ (c : Calls). c.made) h.0 in cc e

unnoted_read : RecordsRead (giving [] false 0) (giving [] false 1) (Ok 1) two → ⊥
unnoted_read h = let e = h.1.0 in cc e

unheeded_end : RecordsRead (giving one false 1) (giving one false 2) (Ok 0) two → ⊥
unheeded_end h = let e = h.1.1 in cc e

-- a call that moves nothing is empty, and one that moves a byte is not
an_empty_call : CountsCall (called 1) (called_empty 2 1) (Ok 0)
an_empty_call = refl

unnoted_empty_call : CountsCall (called 1) (called 2) (Ok 0) → ⊥
unnoted_empty_call h = let e = ap (λ (c : Calls). c.empty) h in cc e

empty_call_of_a_byte : CountsCall (called 1) (called_empty 2 1) (Ok 1) → ⊥
empty_call_of_a_byte h = let e = ap (λ (c : Calls). c.empty) h in cc e

no_interruption : CountsCall no_calls (record (called 1) { interrupted = 1 }) (Ok 1) → ⊥
no_interruption h = let e = ap (λ (c : Calls). c.interrupted) h in cc e

-- where one fails nothing goes past, and it is interrupted or empty
module _ (e : Error) where
  takes_none : error_kind e ≢ Interrupted → RecordsWrite (writer one (called 1)) (writer one (called_empty 2 1)) (Err e) two
  takes_none other = (((λ same. absurd (other same)), (λ not. refl)), refl)

  interrupted_call : error_kind e ≡ Interrupted → CountsCall no_calls (record (called 1) { interrupted = 1 }) (Err e)
  interrupted_call same = ((λ is. refl), (λ other. absurd (other same)))

  uncounted_interruption : error_kind e ≡ Interrupted → CountsCall no_calls (called 1) (Err e) → ⊥
  uncounted_interruption same h = let d = ap (λ (c : Calls). c.interrupted) (h.0 same) in cc d

  empty_interruption : error_kind e ≡ Interrupted → CountsCall no_calls (called_empty 1 1) (Err e) → ⊥
  empty_interruption same h = let d = ap (λ (c : Calls). c.interrupted) (h.0 same) in cc d

  other_failure : error_kind e ≢ Interrupted → CountsCall no_calls (record (called 1) { interrupted = 1 }) (Err e) → ⊥
  other_failure other h = let d = ap (λ (c : Calls). c.interrupted) (h.1 other) in cc d

  noted_failure : RecordsWrite (writer [] no_calls) (writer one (called_empty 1 1)) (Err e) two → ⊥
  noted_failure h = let d = h.1 in cc d

  noted_failed_read : RecordsRead (giving [] false 0) (giving one false 1) (Err e) two → ⊥
  noted_failed_read h = let d = h.1 in cc d

-- bounds on the calls between two moments, each of its kind
abbrev most : Calls
most = record { made = 5; empty = 1; interrupted = 2 }

within : CallsWithin most (called 3) (record { made = 8; empty = 1; interrupted = 2 })
within = record { made = omega arith; empty = omega arith; interrupted = omega arith }

called_too_often : CallsWithin most (called 3) (called 9) → ⊥
called_too_often h = absurd (omega (arith, h.made))

called_for_nothing : CallsWithin most (called 3) (called_empty 5 2) → ⊥
called_for_nothing h = absurd (omega (arith, h.empty))

interrupted_too_often : CallsWithin most (called 3) (record (called 6) { interrupted = 3 }) → ⊥
interrupted_too_often h = absurd (omega (arith, h.interrupted))

-- a writer is the same whatever it has written, and two bytes more are two
same_writer : IsSameWriter (writer one no_calls) (writer two (called 1))
same_writer = (refl, refl)

another_writer : IsSameWriter (writer one no_calls) (record (writer one no_calls) { writer = 1 }) → ⊥
another_writer h = let e = h.0 in cc e

wrapped_otherwise : IsSameWriter (writer one no_calls) (record (writer one no_calls) { at_start = Some [] }) → ⊥
wrapped_otherwise h = let e = h.1 in cc e

two_bytes_more : count_written (writer one no_calls) (writer (one ++ two) (called 1)) ≡ 2
two_bytes_more = refl

-- what was given, and that no more comes
more_given : WasGiven (giving [] false 0) (giving two false 1) one → ⊥
more_given h = let e = h.bytes in cc e

not_ended : HasEnded (giving one false 1) → ⊥
not_ended h = let e = h.0 in cc e

-- where it is known what a reader has left, it has lost what was given, and at its end has none
abbrev known : List ℕ → ReaderRecord → ReaderRecord
known left g = record g { left = Some left }

given_and_lost : WasGiven (known two (giving [] false 0)) (known (8 ∷ []) (giving one false 1)) one
given_and_lost = record { bytes = refl; left = refl }

given_and_kept : WasGiven (known two (giving [] false 0)) (known two (giving one false 1)) one → ⊥
given_and_kept h = let e = h.left in cc e

ended_too_early : HasEnded (known one (giving one true 2)) → ⊥
ended_too_early h = let e = h.1 in cc e

-- where the reader didn't say that this is all, the input may go on
goes_on : IsInput (giving [] false 0) (giving one false 1) two
goes_on = inr (8 ∷ [], refl, λ ended. cc ended)

begins_otherwise : IsInput (giving [] false 0) (giving one false 1) (8 ∷ []) → ⊥
begins_otherwise (inl reported) = cc reported
begins_otherwise (inr more) = let e = more.1 in cc e

-- and where it did, the input ends there
ended_input : IsInput (giving [] false 0) (giving one true 2) two → ⊥
ended_input (inl reported) = cc reported
ended_input (inr more) = let e : two ≡ one = more.1 ∙ ap (λ (rest : List ℕ). one ++ rest) (more.2 refl) in cc e

-- a reader whose contents are known has them as its input
reported : IsInput (record (giving [] false 0) { left = Some two }) (giving one false 1) two
reported = inl refl

-- what holds of all inputs holds of one that goes on
not_of_all : OfInput (giving [] false 0) (giving one false 1) (λ bytes. bytes ≡ one) → ⊥
not_of_all h = let e = h two goes_on in cc e

-- what the laws say of a reader that gave a byte: it may be the input, and it is where the reader said that this is all
may_be_the_input : GivenIsInput → IsInput (giving [] false 0) (giving one false 1) one
may_be_the_input law = law (giving [] false 0) (giving one false 1)

is_the_input : AreAll → (bytes : List ℕ) → IsInput (giving [] false 0) (giving one true 2) bytes → bytes ≡ one
is_the_input law bytes is = law (giving [] false 0) (giving one true 2) bytes refl refl is
