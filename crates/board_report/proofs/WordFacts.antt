-- What the command line says, as clap found it.
use Rattle.std.proofs.Common.{◌≡◌, ℕ, ◌∙◌, Bool, true, false, ◌&&◌, not, List, [], Option, None, Some, Result, Ok, Err, codes, inl, inr, get_or, refl, sym, ap, subst, arith}
use Rattle.std.proofs.lemmas.Option.{none-some, same_Some}
use Rattle.std.specs.Str.Parse.{ParsesUnsigned}
use Rattle.clap.proofs.WalkLemmas.{one_text-rows}
use Rattle.clap.proofs.OnLiterals.{clap_on_literals}
use Rattle.clap.specs.Words.{App, HasKind, HasMatchesOf, IsAmong, Kinds, ReadsOne, Row, Text, fault_of, is_simple, is_simple_and_free, one_of, one_text, rows_of, subcommand_name_of, subcommand_of, subcommand_rows_of}
use Rattle.clap.specs.declared.error.Error.{Error}
use Rattle.clap.specs.declared.error.kind.ErrorKind.{ErrorKind}
use Rattle.clap.specs.declared.parser.matches.ArgMatches.{ArgMatches}
use Rattle.clap.specs.declared.parser.matches.Found.{Found}
use Rattle.std.specs.Option.{option_map}
use Rattle.board_report.specs.Calls.{Asks, Explains, IsCall, IsFound, IsSaid}
use Rattle.board_report.specs.Commands.{board_app}
use Rattle.board_report.specs.declared.calls.Invocation.{Invocation}
use Rattle.board_report.specs.declared.calls.Invocation.TheVariants.{Replay, Trace, Serve}
use Rattle.board_report.specs.declared.calls.NoCall.{NoCall}
use Rattle.board_report.specs.declared.calls.NoCall.TheVariants.{OutOfMemory, Refused, Shown}

-- a command whose fields are plain has no global argument
pub no-globals : (a b c d : Bool) → (a && (b && (not c && d))) ≡ true → c ≡ false
no-globals true true false d e = refl
no-globals true true true d e = cc e
no-globals true false c d e = cc e
no-globals false b c d e = cc e

-- where what was found says a number, it is the number read, and where nothing was read it says none
module _ {E : Type 0} (bits : ℕ) (gives : List ℕ → Result ℕ E → Type 0) (parses : (t : List ℕ) (x : Result ℕ E) → gives t x → ParsesUnsigned bits 10 t x) where
  by-text : (o : Option Text) (r : Option ℕ) → (o ≡ None → r ≡ None) → ((t : List ℕ) → o ≡ Some t → ReadsOne gives t r) → IsFound r (IsSaid bits o)
  by-text None None none reads = λ n said. said
  by-text None (Some v) none reads = absurd (none-some v (sym (none refl)))
  by-text (Some t) None none reads = let e = reads t refl in λ n said. parses t (Err e.0) e.1 (said.numeral, said.small)
  by-text (Some t) (Some v) none reads = let p = parses t (Ok v) (reads t refl) in record { numeral = p.0.0; small = p.0.1; same = p.1 }

  pub said-number : (f : Found) (id : Text) (r : Option ℕ) → (one_text f id ≡ None → r ≡ None) → ((t : List ℕ) → one_text f id ≡ Some t → ReadsOne gives t r) → IsFound r (IsSaid bits (one_of id (rows_of f)))
  said-number f id r none reads = subst (λ (o : Option Text). IsFound r (IsSaid bits o)) (one_text-rows f id) (by-text (one_text f id) r none reads)

is-free : is_simple_and_free board_app ≡ true
unfolding clap_on_literals
is-free = refl

-- of words at which the program's command fails, clap says why
module _ (a : App) (words : List Text) (same : a ≡ board_app) where
  pub kinds-said : (e : Error) → (is_simple_and_free a ≡ true → HasKind (fault_of a words) e) → HasKind (fault_of board_app words) e
  kinds-said e said = let P : Kinds → Type 0 = λ kinds. HasKind kinds e in subst P (ap (λ x. fault_of x words) same) (said (ap is_simple_and_free same ∙ is-free))

  pub no-kinds : (is_simple_and_free a ≡ true → fault_of a words ≡ []) → fault_of board_app words ≡ []
  no-kinds none = sym (ap (λ x. fault_of x words) same) ∙ none (ap is_simple_and_free same ∙ is-free)

-- the arguments ask for one call at most
one-number : (bits : ℕ) (o : Option Text) (n m : ℕ) → IsSaid bits o n → IsSaid bits o m → n ≡ m
one-number bits None n m a b = absurd a
one-number bits (Some t) n m a b = a.same ∙ sym b.same

first-letter : {a b : Text} → a ≡ b → get_or a 0 0 ≡ get_or b 0 0
first-letter e = ap (λ (text : Text). get_or text 0 0) e

one-call-found : (o : Option (Text × List Row)) (a b : Invocation) → IsCall o a → IsCall o b → a ≡ b
one-call-found None a b x y = absurd x
one-call-found (Some p) (Replay r j) (Replay s k) x y =
    λ i. Replay (one-number 8 (one_of (codes "readers") p.1) r s x.1.readers_said y.1.readers_said i) (one-number 32 (one_of (codes "journal") p.1) j k x.1.journal_said y.1.journal_said i)
one-call-found (Some p) (Trace r j) (Trace s k) x y =
    λ i. Trace (one-number 8 (one_of (codes "readers") p.1) r s x.1.readers_said y.1.readers_said i) (one-number 32 (one_of (codes "journal") p.1) j k x.1.journal_said y.1.journal_said i)
one-call-found (Some p) (Serve j) (Serve k) x y = ap Serve (one-number 32 (one_of (codes "journal") p.1) j k x.1 y.1)
one-call-found (Some p) (Replay r j) (Trace s k) x y = absurd (omega (arith, first-letter (sym x.0 ∙ y.0)))
one-call-found (Some p) (Replay r j) (Serve k) x y = absurd (omega (arith, first-letter (sym x.0 ∙ y.0)))
one-call-found (Some p) (Trace r j) (Replay s k) x y = absurd (omega (arith, first-letter (sym x.0 ∙ y.0)))
one-call-found (Some p) (Trace r j) (Serve k) x y = absurd (omega (arith, first-letter (sym x.0 ∙ y.0)))
one-call-found (Some p) (Serve j) (Replay s k) x y = absurd (omega (arith, first-letter (sym x.0 ∙ y.0)))
one-call-found (Some p) (Serve j) (Trace s k) x y = absurd (omega (arith, first-letter (sym x.0 ∙ y.0)))

pub one-call : (words : List Text) (a b : Invocation) → Asks words a → Asks words b → a ≡ b
one-call words a b x y = one-call-found (subcommand_of board_app words) a b x.1 y.1

-- arguments that ask for a call get no other answer, but that memory ran out
no-kind : (words : List Text) (k : ErrorKind) → fault_of board_app words ≡ [] → IsAmong k (fault_of board_app words) → ⊥
no-kind words k none among = subst (IsAmong k) none among

pub asked-answer : (words : List Text) (call : Invocation) → Asks words call → (why : NoCall) → Explains words why → why ≡ OutOfMemory
asked-answer words call asks (Shown text) (k, among, shown) = absurd (no-kind words k asks.0 among)
asked-answer words call asks (Refused text) (inl (k, among, other)) = absurd (no-kind words k asks.0 among)
asked-answer words call asks (Refused text) (inr (none, no-call)) = absurd (no-call call asks)
asked-answer words call asks OutOfMemory explained = refl

-- the command that clap found, by its name and its values
module _ {A : Type 0} (name : A → Text) (rows : A → List Row) where
  both-found : (o : Option A) (n : Text) (r : List Row) → Some n ≡ option_map name o → Some r ≡ option_map (λ p. p.1) (option_map (λ a. let p : Text × List Row = (name a, rows a) in p) o)
      → option_map (λ a. let p : Text × List Row = (name a, rows a) in p) o ≡ Some (n, r)
  both-found None n r e f = absurd (none-some n (sym e))
  both-found (Some a) n r e f = λ i. Some (sym (same_Some n (name a) e) i, sym (same_Some r (rows a) f) i)

  none-found : (o : Option A) → None ≡ option_map name o → option_map (λ a. let p : Text × List Row = (name a, rows a) in p) o ≡ None
  none-found None e = refl
  none-found (Some a) e = absurd (none-some (name a) e)

module _ (m : ArgMatches) where
  pub command-of : (name : Text) (rows : List Row) → Some name ≡ subcommand_name_of m → Some rows ≡ option_map (λ p. p.1) (subcommand_rows_of m) → subcommand_rows_of m ≡ Some (name, rows)
  command-of name rows e f = both-found _ _ _ name rows e f

  pub no-command-of : None ≡ subcommand_name_of m → subcommand_rows_of m ≡ None
  no-command-of e = none-found _ _ _ e

-- where clap accepts the words, the call found is the one that they ask for
is-simple-app : is_simple board_app ≡ true
unfolding clap_on_literals
is-simple-app = refl

pub call-asked : (a : App) (m : ArgMatches) (words : List Text) → a ≡ board_app → HasMatchesOf a words m → fault_of board_app words ≡ [] → (r : Option Invocation) → IsFound r (IsCall (subcommand_rows_of m)) → IsFound r (Asks words)
call-asked a m words same matches none r is =
    let found : subcommand_rows_of m ≡ subcommand_of board_app words = (matches (ap is_simple same ∙ is-simple-app)).1 ∙ ap (λ (x : App). subcommand_of x words) same in
    asked r (subst (λ (o : Option (Text × List Row)). IsFound r (IsCall o)) found is)
  where
    asked : (r : Option Invocation) → IsFound r (IsCall (subcommand_of board_app words)) → IsFound r (Asks words)
    asked None no-call = λ call asks. no-call call asks.1
    asked (Some call) is = (none, is)
