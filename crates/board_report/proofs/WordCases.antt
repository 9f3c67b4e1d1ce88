-- Words that ask for each call, with the limits that they say; and words that ask for none.
use Rattle.std.proofs.Common.{◌≡◌, ℕ, Bool, List, [], ◌∷◌, true, false, None, Some, codes, String, Global, inl, inr, refl, ap, get_or, arith, rules}
use Rattle.clap.proofs.OnLiterals.{clap_on_literals}
use Rattle.clap.specs.Words.{Kinds, Row, Text, fault_of, one_of, subcommand_of}
use Rattle.std.specs.Option.{option_map_or}
use Rattle.clap.specs.declared.error.kind.ErrorKind.TheVariants.{DisplayHelp, DisplayVersion}
use Rattle.board_report.specs.Calls.{AskForNone, AskText, Asks, Explains, HaveFault, IsCall, IsFound, Says}
use Rattle.board_report.specs.Commands.{board_app}
use Rattle.board_report.specs.declared.calls.Invocation.{Invocation}
use Rattle.board_report.specs.declared.calls.Invocation.TheVariants.{Replay, Serve, Trace}
use Rattle.board_report.specs.declared.calls.NoCall.TheVariants.{Refused, Shown}

abbrev pub plain : Text → List Text
plain name = codes "board" ∷ name ∷ []

abbrev with_limits : Text → List Text
with_limits name = codes "board" ∷ name ∷ codes "--readers" ∷ codes "4" ∷ codes "--journal=70" ∷ []

abbrev with_journal : List Text
with_journal = codes "board" ∷ codes "serve" ∷ codes "--journal" ∷ codes "70" ∷ []

abbrev is_none : Kinds → Bool
is_none [] = true
is_none (kind ∷ kinds) = false

abbrev is_faultless : List Text → Bool
is_faultless words = is_none (fault_of board_app words)

-- what clap finds for the command
abbrev rows : List Text → List Row
rows words = option_map_or (λ p. p.1) (subcommand_of board_app words) []

one_reader : one_of (codes "readers") (rows (plain (codes "replay"))) ≡ Some (codes "1")
unfolding clap_on_literals
one_reader = refl

whole_journal : one_of (codes "journal") (rows (plain (codes "replay"))) ≡ Some (codes "1000000")
unfolding clap_on_literals
whole_journal = refl

four_readers : one_of (codes "readers") (rows (with_limits (codes "trace"))) ≡ Some (codes "4")
unfolding clap_on_literals
four_readers = refl

short_journal : one_of (codes "journal") (rows (with_limits (codes "trace"))) ≡ Some (codes "70")
unfolding clap_on_literals
short_journal = refl

served_journal : one_of (codes "journal") (rows with_journal) ≡ Some (codes "70")
unfolding clap_on_literals
served_journal = refl

no_command : is_faultless (codes "board" ∷ []) ≡ false
unfolding clap_on_literals
no_command = refl

five_readers : is_faultless (codes "board" ∷ codes "replay" ∷ codes "--readers" ∷ codes "5" ∷ []) ≡ false
unfolding clap_on_literals
five_readers = refl

serve_with_readers : is_faultless (codes "board" ∷ codes "serve" ∷ codes "--readers" ∷ codes "2" ∷ []) ≡ false
unfolding clap_on_literals
serve_with_readers = refl

says_one : Says 8 (codes "1") 1
says_one = record { numeral = search rules; small = search rules; same = refl }

says_four : Says 8 (codes "4") 4
says_four = record { numeral = search rules; small = search rules; same = refl }

says_seventy : Says 32 (codes "70") 70
says_seventy = record { numeral = search rules; small = search rules; same = refl }

says_million : Says 32 (codes "1000000") 1000000
says_million = record { numeral = search rules; small = search rules; same = refl }

replay_asked : Asks (plain (codes "replay")) (Replay 1 1000000)
unfolding clap_on_literals
replay_asked = (refl, (refl, record { readers_said = says_one; journal_said = says_million }))

trace_asked : Asks (with_limits (codes "trace")) (Trace 4 70)
unfolding clap_on_literals
trace_asked = (refl, (refl, record { readers_said = says_four; journal_said = says_seventy }))

serve_asked : Asks with_journal (Serve 70)
unfolding clap_on_literals
serve_asked = (refl, (refl, says_seventy))

help_asked : AskText (codes "board" ∷ codes "--help" ∷ [])
unfolding clap_on_literals
help_asked = (DisplayHelp, inl refl, inl refl)

version_asked : AskText (codes "board" ∷ codes "--version" ∷ [])
unfolding clap_on_literals
version_asked = (DisplayVersion, inl refl, inr refl)

help_asks_for_none : AskForNone (codes "board" ∷ codes "--help" ∷ [])
unfolding clap_on_literals
help_asks_for_none = λ call asks. let none = asks.0 in cc none

-- words that ask for a call ask for no text, and no fault is in them
pub replay_asks_no_text : AskText (plain (codes "replay")) → ⊥
unfolding clap_on_literals
replay_asks_no_text h = h.1

pub replay_has_no_fault : HaveFault (plain (codes "replay")) → ⊥
unfolding clap_on_literals
replay_has_no_fault (inl h) = h.1
replay_has_no_fault (inr h) = h.1 (Replay 1 1000000) replay_asked

-- help is no fault, and a wrong word asks for no text
help_has_no_fault : HaveFault (codes "board" ∷ codes "--help" ∷ []) → ⊥
unfolding clap_on_literals
help_has_no_fault (inl (k, inl same, other)) = other (inl same)
help_has_no_fault (inl (k, inr none, other)) = none
help_has_no_fault (inr h) = let none = h.0 in cc none

unknown_word_asks_no_text : AskText (codes "board" ∷ codes "replays" ∷ []) → ⊥
unfolding clap_on_literals
unknown_word_asks_no_text (k, inl same, inl help) = cc (same, help)
unknown_word_asks_no_text (k, inl same, inr version) = cc (same, version)
unknown_word_asks_no_text (k, inr (inl same), inl help) = cc (same, help)
unknown_word_asks_no_text (k, inr (inl same), inr version) = cc (same, version)
unknown_word_asks_no_text (k, inr (inr none), shown) = none

-- so help is shown and not refused, and a wrong word is refused and not shown
help_explained : (text : String Global) → Explains (codes "board" ∷ codes "--help" ∷ []) (Shown text) × (Explains (codes "board" ∷ codes "--help" ∷ []) (Refused text) → ⊥)
help_explained text = (help_asked, help_has_no_fault)

unknown_word_shown : (text : String Global) → Explains (codes "board" ∷ codes "replays" ∷ []) (Shown text) → ⊥
unknown_word_shown text = unknown_word_asks_no_text

-- from one to four readers, and a journal of one to a million commands
abbrev with_readers : Text → List Text
with_readers number = codes "board" ∷ codes "replay" ∷ codes "--readers" ∷ number ∷ []

abbrev journal_of : Text → List Text
journal_of number = codes "board" ∷ codes "replay" ∷ codes "--journal" ∷ number ∷ []

readers_taken : (is_faultless (with_readers (codes "0")) ≡ false) × (is_faultless (with_readers (codes "1")) ≡ true) × (is_faultless (with_readers (codes "4")) ≡ true) × (is_faultless (with_readers (codes "x")) ≡ false)
unfolding clap_on_literals
readers_taken = (refl, refl, refl, refl)

journals_taken : (is_faultless (journal_of (codes "0")) ≡ false) × (is_faultless (journal_of (codes "1")) ≡ true) × (is_faultless (journal_of (codes "1000000")) ≡ true) × (is_faultless (journal_of (codes "1000001")) ≡ false)
unfolding clap_on_literals
journals_taken = (refl, refl, refl, refl)

-- a text says its number and no other, if the number has that many bits
says_plus : Says 8 (codes "+255") 255
says_plus = record { numeral = search rules; small = search rules; same = refl }

says_another : Says 8 (codes "4") 5 → ⊥
says_another h = let e = h.same in omega (arith, e)

says_nine_bits : Says 8 (codes "256") 256 → ⊥
says_nine_bits h = let e = h.small in omega (arith, e)

-- no text and a text that isn't a numeral say no number
says_nothing : Says 8 [] 0 → ⊥
says_nothing h = omega (arith, h.numeral.0)

-- words that ask for a call ask for no other, and with no other limits
letter : {a b : Text} → a ≡ b → get_or a 0 0 ≡ get_or b 0 0
letter e = ap (λ (text : Text). get_or text 0 0) e

trace_by_four_alone : Asks (with_limits (codes "trace")) (Trace 3 70) → ⊥
unfolding clap_on_literals
trace_by_four_alone (none, (named, limits)) = let said : Says 8 (codes "4") 3 = limits.readers_said in omega (arith, said.same)

trace_of_seventy_alone : Asks (with_limits (codes "trace")) (Trace 4 71) → ⊥
unfolding clap_on_literals
trace_of_seventy_alone (none, (named, limits)) = let said : Says 32 (codes "70") 71 = limits.journal_said in omega (arith, said.same)

serve_of_seventy_alone : Asks with_journal (Serve 71) → ⊥
unfolding clap_on_literals
serve_of_seventy_alone (none, (named, said)) = let says : Says 32 (codes "70") 71 = said in omega (arith, says.same)

trace_is_no_replay : (readers journal : ℕ) → Asks (with_limits (codes "trace")) (Replay readers journal) → ⊥
unfolding clap_on_literals
trace_is_no_replay readers journal (none, (named, limits)) = omega (arith, letter named)

replay_is_no_trace : (readers journal : ℕ) → Asks (plain (codes "replay")) (Trace readers journal) → ⊥
unfolding clap_on_literals
replay_is_no_trace readers journal (none, (named, limits)) = omega (arith, letter named)

replay_is_no_serve : (journal : ℕ) → Asks (plain (codes "replay")) (Serve journal) → ⊥
unfolding clap_on_literals
replay_is_no_serve journal (none, (named, said)) = omega (arith, letter named)

replay_by_one_alone : Asks (plain (codes "replay")) (Replay 2 1000000) → ⊥
unfolding clap_on_literals
replay_by_one_alone (none, (named, limits)) = let said : Says 8 (codes "1") 2 = limits.readers_said in omega (arith, said.same)

five_readers_ask_for_none : AskForNone (with_readers (codes "5"))
unfolding clap_on_literals
five_readers_ask_for_none call asks = let none = asks.0 in cc none

no_command_is_no_call : (call : Invocation) → IsCall None call → ⊥
no_command_is_no_call call is = is

-- a call that is found is one, and where none is found there is none
one_found : IsFound (Some 4) (Says 8 (codes "4"))
one_found = says_four

found_another : IsFound (Some 5) (Says 8 (codes "4")) → ⊥
found_another h = says_another h

none_found : IsFound None (Says 8 (codes "4")) → ⊥
none_found h = h 4 says_four

-- words without a fault that ask for no call may be refused
refused_without_a_call : (words : List Text) (text : String Global) → fault_of board_app words ≡ [] → AskForNone words → Explains words (Refused text)
refused_without_a_call words text none no_call = inr (none, no_call)
