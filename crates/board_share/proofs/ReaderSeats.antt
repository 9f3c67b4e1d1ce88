-- What a reader's seat knows after a step.
use Rattle.board_share.proofs.Names.{Allows, ap, arith, bare_seat, Bool, cond, COPY_WORDS, eq-eqb, History, IsKnown}
use Rattle.board_share.proofs.Names.{IsReader, IsStepOn, known_by, Leaving, length, length-take-le, List, Me, ne_eqb}
use Rattle.board_share.proofs.Names.{Opening, Part, reader_at, ReaderState, ReaderView, Reading, refl, RuleHolds}
use Rattle.board_share.proofs.Names.{seat_of_reader, ShareStart, Some, Stage, stage_with_words, subst, suc, sym}
use Rattle.board_share.proofs.Names.{TableId, take, TookStep, View, zero, ℕ, ◌<◌, ◌∙◌, ◌≡◌}
use Rattle.std.proofs.lemmas.List.{take_all}
use Rattle.two_copy_steps.specs.Actions.{reader_action}
use Rattle.board_share.specs.Readers.{part_in, Stepped}
use Rattle.board_share.proofs.Accesses.{load_of, store_of}
use Rattle.board_share.proofs.ReaderSteps.{reads_allows}

pub lone_in : (h : History) (r : ℕ) (x : Part) → part_in (seat_of_reader h r x) r ≡ x
lone_in h zero x = refl
lone_in h (suc r) x = lone_in h r x

module _ (origin : ShareStart) (table seat : TableId) (me : Me Unit View) (p : ReaderState) (h : IsReader table seat me p) (slots id : ℕ) where
  pub loads : (i : ℕ) → i ≡ (reader_action p.index (known_by p)).word → ((n : ℕ) → n ≡ (reader_action p.index (known_by p)).becomes n)
      → Allows (RuleHolds origin) slots id me i (λ n. n) (IsStepOn me)
  loads i at_word becomes =
      subst (λ (z : Me Unit View). Allows (RuleHolds origin) slots id z i (λ n. n) (IsStepOn z)) (sym h.alone)
      (reads_allows origin slots id p.index p.history p.opening (known_by p) (load_of i) at_word record { becomes = becomes; leads = λ n. refl })

  pub stores : (i x : ℕ) → i ≡ (reader_action p.index (known_by p)).word → ((n : ℕ) → x ≡ (reader_action p.index (known_by p)).becomes n)
      → ((n : ℕ) → (reader_action p.index (known_by p)).after x ≡ (reader_action p.index (known_by p)).after n)
      → Allows (RuleHolds origin) slots id me i (λ _. x) (λ _. IsStepOn me x)
  stores i x at_word becomes alike =
      subst (λ (z : Me Unit View). Allows (RuleHolds origin) slots id z i (λ _. x) (λ _. IsStepOn z x)) (sym h.alone)
      (reads_allows origin slots id p.index p.history p.opening (known_by p) (store_of i x) at_word record { becomes = becomes; leads = alike })

-- a reader's seat took its step: which seat it is now, what it knows, and how far the reader is
pub record ReaderMoved (p : ReaderState) (seat seat' : TableId) (me me' : Me Unit View) (found : ℕ) (stage : Stage) : Type 0 where
  pub same : seat' ≡ seat
  pub next : IsStepOn me found me'
  pub stage_is : stage ≡ ((reader_action p.index (known_by p)).after found).stage

-- what a step leaves
pub left : (table seat seat' : TableId) (me me' : Me Unit View) (p : ReaderState) (h : IsReader table seat me p) (found : ℕ) (stage : Stage) → ReaderMoved p seat seat' me me' found stage → Stepped table p seat' me' stage
left table seat seat' me me' p h found stage moved =
    let w : ReaderView = (reader_action p.index (known_by p)).after found in
    let t = moved.next p.index p.opening (known_by p) p.history h.alone in
    let F : Me Unit View → Type 0 = λ m. Stepped table p seat' m stage in
    let m : Me Unit View = bare_seat (seat_of_reader t.0 p.index (p.opening, w)) in
    let s : part_in m.0 p.index ≡ (p.opening, w) = lone_in t.0 p.index (p.opening, w) in
    let know : known_by (reader_at table m.0 p.index stage) ≡ w = (λ i. let v : ReaderView = record { stage = moved.stage_is i; readings = (s i).1.readings } in v) in
    subst F (sym t.1) record {
      seat_is = record {
        same = moved.same ∙ h.same;
        within = h.within;
        bound = h.bound;
        alone = λ i. bare_seat (seat_of_reader t.0 p.index (sym (ap (λ (x : Part). x.0) s) i, sym know i));
        known = subst (λ (x : Opening × ReaderView). IsKnown x.0 x.1) (λ i. (sym (ap (λ (x : Part). x.0) s) i, sym know i)) t.2;
      };
      opening_is = ap (λ (x : Part). x.0) s;
      took = record { found = found; knows = know };
      steps = record { adds = t.3.adds; knows = t.3.knows ∙ ap (λ (v : ReaderView). Some v) (sym know) };
      reported = t.3.reported;
    }

-- a reader that has loaded all words leaves next
pub loaded_all : (side : ℕ) (ws : List ℕ) → length ws ≡ COPY_WORDS → stage_with_words side (take COPY_WORDS ws) ≡ Leaving side ws
loaded_all side ws e = ap (stage_with_words side) (take_all COPY_WORDS ws (omega arith)) ∙ ap (λ (b : Bool). cond b (Leaving side ws) (Reading side ws)) (eq-eqb (length ws) COPY_WORDS e)

pub loaded_some : (side n : ℕ) (ws : List ℕ) → length ws ≡ COPY_WORDS → n < COPY_WORDS → stage_with_words side (take n ws) ≡ Reading side (take n ws)
loaded_some side n ws e bound =
    ap (λ (b : Bool). cond b (Leaving side (take n ws)) (Reading side (take n ws)))
    (ne_eqb (length (take n ws)) COPY_WORDS (let short : length (take n ws) ≡ n = length-take-le n ws (omega arith) in (λ f. omega arith)))

pub took_from : (table seat : TableId) (me : Me Unit View) (next : Stage) (p q : ReaderState) → p ≡ q → Stepped table p seat me next → TookStep q (reader_at table me.0 p.index next)
took_from table seat me next p q e h = subst (λ (z : ReaderState). TookStep z (reader_at table me.0 p.index next)) e h.took
