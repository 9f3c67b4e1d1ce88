-- The start meets the invariant.
use Rattle.two_copy_steps.proofs.Names.{[], ap, append-nil, arith, AtRest, auxiliary_start, Command, Contains}
use Rattle.two_copy_steps.proofs.Names.{copy_word, COPY_WORDS, get_or, IsLawfulMachine, Ledger, length, length-append}
use Rattle.two_copy_steps.proofs.Names.{List, machine_at_start, none-some, Opening, pin, ReaderOk, ReaderView, refl}
use Rattle.two_copy_steps.proofs.Names.{replicate, same_Some, sequential_start, slice_get, Some, Stage, state_of, subst}
use Rattle.two_copy_steps.proofs.Names.{suc, sym, take, take-length, true, true≢false, WriterOk, zero, ℕ, ◌++◌, ◌+◌}
use Rattle.two_copy_steps.proofs.Names.{◌<◌, ◌∙◌, ◌∷◌, ◌≡◌}
use Rattle.std.proofs.lemmas.List.{get_or_append_left, get_or-append-add, get_or-replicate, length-replicate}
use Rattle.std.proofs.lemmas.List.Sorted.{IsNonDecreasingBy-short}
use Rattle.council_core.specs.Ledgers.{sheet_of}
use Rattle.two_copy_steps.specs.Auxiliary.{reader_views}
use Rattle.two_copy_steps.proofs.Records.{sheet_long}
use Rattle.two_copy_steps.proofs.Replies.{Agrees, Held}
use Rattle.two_copy_steps.proofs.TransitionSteps.{view_at}

-- the words at the start, by index
module _ (numbers pins : List ℕ) (long : length numbers ≡ COPY_WORDS) where
  abbrev pub words_at_start : List ℕ
  words_at_start = 0 ∷ numbers ++ numbers ++ pins

  pub start_length : length words_at_start ≡ pin (length pins)
  start_length = omega (arith, length-append (0 ∷ numbers ++ numbers) pins, length-append (0 ∷ numbers) numbers)

  pub start_first : (i : ℕ) → i < COPY_WORDS → get_or words_at_start (copy_word 0 i) 0 ≡ get_or numbers i 0
  start_first i h =
      get_or_append_left (0 ∷ numbers ++ numbers) pins 0 (copy_word 0 i) (omega (arith, length-append (0 ∷ numbers) numbers))
      ∙ (get_or_append_left (0 ∷ numbers) numbers 0 (copy_word 0 i) (omega arith) ∙ get_or-append-add (0 ∷ []) numbers i 0)

  pub start_pin : (r : ℕ) → get_or words_at_start (pin r) 0 ≡ get_or pins r 0
  start_pin r =
      ap (λ (k : ℕ). get_or words_at_start k 0) (let e : pin r ≡ length (0 ∷ numbers ++ numbers) + r = omega (arith, length-append (0 ∷ numbers) numbers) in e)
      ∙ get_or-append-add (0 ∷ numbers ++ numbers) pins r 0

  pub start_second : (i : ℕ) → i < COPY_WORDS → get_or words_at_start (copy_word 1 i) 0 ≡ get_or numbers i 0
  start_second i h =
      get_or_append_left (0 ∷ numbers ++ numbers) pins 0 (copy_word 1 i) (omega (arith, length-append (0 ∷ numbers) numbers))
      ∙ (ap (λ (k : ℕ). get_or (0 ∷ numbers ++ numbers) k 0) (let e : copy_word 1 i ≡ length (0 ∷ numbers) + i = omega arith in e) ∙ get_or-append-add (0 ∷ numbers) numbers i 0)

pub viewed_start : (n : ℕ) → reader_views (replicate n AtRest) (replicate n []) ≡ replicate n (view_at AtRest [])
viewed_start zero = refl
viewed_start (suc n) = ap (λ l. view_at AtRest [] ∷ l) (viewed_start n)

at_replicate : {A : Type 0} (n r : ℕ) (a b : A) → slice_get (replicate n a) r ≡ Some b → (a ≡ b) × (r < n)
at_replicate zero r a b e = absurd (none-some b e)
at_replicate (suc n) zero a b e = (same_Some a b e, omega arith)
at_replicate (suc n) (suc r) a b e = let h = at_replicate n r a b e in let below = h.1 in (h.0, omega arith)

only_cut : (n cut : ℕ) → Contains (n ∷ []) cut → n ≡ cut
only_cut n cut h = at_zero h.0 h.1 h.2
  where
    at_zero : (k : ℕ) → k < 1 → get_or (n ∷ []) k cut ≡ cut → n ≡ cut
    at_zero zero lt e = e
    at_zero (suc k) lt e = absurd (omega arith)

module _ (Legal : Opening → List Command → Type 0) (ledger : Ledger) (readers : ℕ) (legal : Legal ledger.opening ledger.journal) where
  abbrev words : List ℕ
  words = words_at_start (sheet_of ledger) (replicate readers 0) (sheet_long ledger.opening ledger.journal)

  abbrev long : length (sheet_of ledger) ≡ COPY_WORDS
  long = sheet_long ledger.opening ledger.journal

  start_writer : WriterOk ledger.opening (Legal ledger.opening) words (state_of (machine_at_start ledger readers) (auxiliary_start ledger readers)).writer (length (reader_views (replicate readers AtRest) (replicate readers [])))
  start_writer =
      record {
        two = omega arith;
        side_is = refl;
        flags = length-replicate readers true ∙ (sym (length-replicate readers (view_at AtRest [])) ∙ ap (length {A = ReaderView}) (sym (viewed_start readers)));
        legal = legal;
        begins = ([], sym (append-nil ledger.journal));
        shown = start_first (sheet_of ledger) (replicate readers 0) long;
        last_cut = ([], refl);
        cuts = λ cut h. let is = only_cut (length ledger.journal) cut h in
            (omega arith, subst (Legal ledger.opening) (sym (take-length ledger.journal) ∙ ap (λ (z : ℕ). take z ledger.journal) is) legal);
        ascending = IsNonDecreasingBy-short (λ x. x) (length ledger.journal ∷ []) (omega arith);
        fills = tt;
      }

  start_reader : (r : ℕ) (v : ReaderView) → slice_get (reader_views (replicate readers AtRest) (replicate readers [])) r ≡ Some v
      → ReaderOk ledger.opening (Legal ledger.opening) words (state_of (machine_at_start ledger readers) (auxiliary_start ledger readers)).writer r v
  start_reader r v e =
      let at = at_replicate readers r (view_at AtRest []) v (sym (ap (λ (l : List ReaderView). slice_get l r) (viewed_start readers)) ∙ e) in
      subst (ReaderOk ledger.opening (Legal ledger.opening) words (state_of (machine_at_start ledger readers) (auxiliary_start ledger readers)).writer r) at.0
      record {
        pinned = start_pin (sheet_of ledger) (replicate readers 0) long r ∙ get_or-replicate readers r 0 0 at.1;
        stands = tt;
        record_legal = tt;
      }

  -- the machine at its start meets the invariant
  pub start_lawful : IsLawfulMachine Legal (machine_at_start ledger readers) (auxiliary_start ledger readers)
  start_lawful =
      record {
        state = record {
          wide = omega (arith, start_length (sheet_of ledger) (replicate readers 0) long, length-replicate {A = ℕ} readers 0, ap (length {A = ReaderView}) (viewed_start readers), length-replicate readers (view_at AtRest []));
          writer = start_writer;
          each_reader = start_reader;
        };
        extends = ([], sym (append-nil ledger.journal));
        whole = λ busy. refl;
        each_record = length-replicate readers [] ∙ sym (length-replicate readers AtRest);
      }

-- and agrees with the sequential register
pub start_agrees : (ledger : Ledger) (readers : ℕ) → Agrees (sequential_start ledger) (machine_at_start ledger readers)
start_agrees ledger readers =
    record {
      register = refl;
      held = λ r stage e. subst (λ (s : Stage). Held (machine_at_start ledger readers).words ((sequential_start ledger).replied (suc r)) s) (at_replicate readers r AtRest stage e).0 tt;
      begun = λ busy. absurd (true≢false busy);
    }
