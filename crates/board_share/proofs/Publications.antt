-- A publication, step by step.
use Rattle.board_share.proofs.Names.{[], Adds, all_true, ap, append-nil, append_assoc, arith, Bool, Busy, Command, cond}
use Rattle.board_share.proofs.Names.{COPY_WORDS, due_at, eqb, Event, false, Filling, held_by, Idle, is_idle, is_writers}
use Rattle.board_share.proofs.Names.{KnowsAfter, Ledger, length, List, MayBegin, Me, Moved, ne_eqb, None, none-some}
use Rattle.board_share.proofs.Names.{Note, Opening, Option, Phase, phase_note, Published, Publishing, refl, replicate}
use Rattle.board_share.proofs.Names.{Seeing, seeing_phase, set, sheet, slice_get, Some, subst, suc, Swapping, sym}
use Rattle.board_share.proofs.Names.{TableId, take, true, not_quiescent, View, with_writer, Writer, writer_or}
use Rattle.board_share.proofs.Names.{WriterTook, WriterView, Writing, zero, ℕ, ◌++◌, ◌+◌, ◌<◌, ◌∙◌, ◌∷◌, ◌≡◌}
use Rattle.std.proofs.lemmas.List.{replicate-append-replicate}
use Rattle.two_copy_steps.specs.Actions.{Action, first_false, writer_action, writing_with_quiescent, filling_phase}
use Rattle.board_share.specs.Steps.{begin_events, writer_begun_with}
use Rattle.board_share.specs.Writers.{MayWrite, SeatStepped, next_action, published_view, publishing_view}
use Rattle.board_share.proofs.Prefixes.{adds_then}

-- the quiescent readers, one by one
pub first_at : (bs : List Bool) (r : ℕ) → slice_get bs r ≡ Some false → all_true (take r bs) ≡ true
    → (first_false bs ≡ r) × (all_true bs ≡ false)
first_at [] r e h = absurd (none-some false e)
first_at (true ∷ bs) zero e h = absurd cc
first_at (false ∷ bs) zero e h = (refl, refl)
first_at (true ∷ bs) (suc r) e h = let f = first_at bs r e h in (ap suc f.0, f.1)
first_at (false ∷ bs) (suc r) e h = absurd cc

pub one_more_out : (bs : List Bool) (r : ℕ) → slice_get bs r ≡ Some true → all_true (take r bs) ≡ true
    → all_true (take (suc r) bs) ≡ true
one_more_out [] r e h = refl
one_more_out (true ∷ bs) zero e h = refl
one_more_out (false ∷ bs) zero e h = absurd cc
one_more_out (true ∷ bs) (suc r) e h = one_more_out bs r e h
one_more_out (false ∷ bs) (suc r) e h = absurd cc

pub one_set_out : (bs : List Bool) (r : ℕ) → r < length bs → all_true (take r bs) ≡ true
    → all_true (take (suc r) (set bs r true)) ≡ true
one_set_out [] r l h = absurd (omega arith)
one_set_out (b ∷ bs) zero l h = refl
one_set_out (true ∷ bs) (suc r) l h = one_set_out bs r (omega arith) h
one_set_out (false ∷ bs) (suc r) l h = absurd cc

pub all_there : (bs : List Bool) (q : ℕ) → all_true bs ≡ true → q < length bs → slice_get bs q ≡ Some true
all_there [] q e h = absurd (omega arith)
all_there (true ∷ bs) zero e h = refl
all_there (true ∷ bs) (suc q) e h = all_there bs q e (omega arith)
all_there (false ∷ bs) q e h = absurd cc

-- one more reader is quiescent
pub unseen_set : (bs : List Bool) (r : ℕ) → slice_get bs r ≡ Some false
    → not_quiescent (set bs r true) + 1 ≡ not_quiescent bs
unseen_set [] r e = absurd (none-some false e)
unseen_set (true ∷ bs) zero e = absurd cc
unseen_set (false ∷ bs) zero e = let out : not_quiescent (true ∷ bs) ≡ not_quiescent bs = refl in
    let not_out : not_quiescent (false ∷ bs) ≡ suc (not_quiescent bs) = refl in omega arith
unseen_set (true ∷ bs) (suc r) e = unseen_set bs r e
unseen_set (false ∷ bs) (suc r) e = let h = unseen_set bs r e in
    let more : not_quiescent (false ∷ set bs r true) ≡ suc (not_quiescent (set bs r true)) = refl in
    let not_out : not_quiescent (false ∷ bs) ≡ suc (not_quiescent bs) = refl in omega arith

pub none_unseen : (bs : List Bool) → all_true bs ≡ true → not_quiescent bs ≡ 0
none_unseen [] e = refl
none_unseen (true ∷ bs) e = none_unseen bs e
none_unseen (false ∷ bs) e = absurd cc

seeing_busy : (out : List Bool) → is_idle (seeing_phase out) ≡ false
seeing_busy out = elim (all_true out) as (λ b. is_idle (cond b (Filling 0) Seeing) ≡ false)
    [ true ↦ refl | false ↦ refl ]

filling_busy : (k : ℕ) → is_idle (filling_phase k) ≡ false
filling_busy k = elim (eqb k COPY_WORDS) as (λ b. is_idle (cond b Swapping (Filling k)) ≡ false)
    [ true ↦ refl | false ↦ refl ]

-- a publication goes on after its steps
goes_on : (l : Ledger) (start me : Me Unit View) (steps : ℕ) (out : List Bool) (phase : Phase) (note : Note)
    → is_idle phase ≡ false → WriterTook l start me steps (publishing_view (held_by start.0) l.journal out phase) note
    → Publishing l start me steps out phase
goes_on l start me steps out phase note busy t =
    let own : List Event = begin_events (Some l.journal) (held_by start.0) ++ replicate steps Writer in
    let held : held_by me.0 ≡ publishing_view (held_by start.0) l.journal out phase =
    ap (λ (w : Option (Opening × WriterView)). (writer_or w).1) t.writes in
    let none : due_at me l.journal ≡ None =
    ap (λ (v : WriterView). cond (is_idle v.state.phase) (Some l.journal) None) held
    ∙ ap (λ (b : Bool). cond b (Some l.journal) None) busy in
    record {
      writes = t.writes ∙ ap (λ (v : WriterView). Some (l.opening, v)) (sym held);
      bare = t.bare;
      view = ap (λ (d : Option (List Command)). writer_begun_with d (held_by me.0)) none ∙ held;
      may_begin = subst (MayBegin me.0.history l.opening (held_by me.0)) (sym none) tt;
      own = own;
      adds = t.adds;
      whole = ap (λ (d : Option (List Command)). own ++ begin_events d (held_by me.0)) none ∙ append-nil own;
    }

-- the phase at which a pin is loaded, and a word stored
pub seeing_at : (l : Ledger) (start me : Me Unit View) (steps : ℕ) (out : List Bool) (r : ℕ)
    → Publishing l start me steps out (seeing_phase out) → slice_get out r ≡ Some false → all_true (take r out) ≡ true
    → Publishing l start me steps out Seeing
seeing_at l start me steps out r p e h =
    subst (λ (b : Bool). Publishing l start me steps out (cond b (Filling 0) Seeing)) (first_at out r e h).1 p

pub filling_at : (l : Ledger) (start me : Me Unit View) (steps : ℕ) (out : List Bool) (k : ℕ) → k < COPY_WORDS
    → Publishing l start me steps out (filling_phase k) → Publishing l start me steps out (Filling k)
filling_at l start me steps out k short p =
    subst (λ (b : Bool). Publishing l start me steps out (cond b Swapping (Filling k)))
    (ne_eqb k COPY_WORDS (λ e. absurd (omega arith))) p

-- no publication begins with the store of side
pub not_due : (l : Ledger) (start me : Me Unit View) (steps : ℕ) (out : List Bool)
    → Publishing l start me steps out Swapping → None ≡ due_at me l.journal
not_due l start me steps out p = by_idle (is_idle (held_by me.0).state.phase) p.view
  where
    not_swapping : (b : Bool) → cond b (Filling 0) Seeing ≡ Swapping → ⊥
    not_swapping true e = cc
    not_swapping false e = cc

    by_idle : (b : Bool) → writer_begun_with (cond b (Some l.journal) None) (held_by me.0) ≡ publishing_view
        (held_by start.0) l.journal out Swapping → None ≡ cond b (Some l.journal) None
    by_idle true e = absurd (not_swapping (all_true (held_by me.0).state.seen_out)
        (ap (λ (v : WriterView). v.state.phase) e))
    by_idle false e = refl

-- the next step of a publication
module _ (l : Ledger) (start me : Me Unit View) (steps : ℕ) (out : List Bool) (phase : Phase)
    (p : Publishing l start me steps out phase) (list : Option (List Command)) (due : list ≡ due_at me l.journal) where
  abbrev view : WriterView
  view = publishing_view (held_by start.0) l.journal out phase

  abbrev action : Action WriterView
  action = writer_action (sheet l.opening) view

  who : writer_or me.0.writer ≡ (l.opening, held_by me.0)
  who = ap writer_or p.writes

  begun : writer_begun_with list (held_by me.0) ≡ view
  begun = ap (λ (d : Option (List Command)). writer_begun_with d (held_by me.0)) due ∙ p.view

  action_is : next_action list me ≡ action
  action_is = ap (λ (o : Opening). writer_action (sheet o) (writer_begun_with list (held_by me.0)))
      (ap (λ (x : Opening × WriterView). x.0) who) ∙ ap (writer_action (sheet l.opening)) begun

  pub may : (table seat : TableId) (i : ℕ) → seat ≡ table → i < table.words → i ≡ action.word
      → MayWrite table seat me list i
  may table seat i same wide at = record {
    same = same;
    within = wide;
    writes = p.writes ∙ ap (λ (x : Opening × WriterView). Some x) (sym who);
    bare = p.bare;
    may_begin = subst (λ (x : Opening × WriterView). MayBegin me.0.history x.0 x.1 list) (sym who)
        (subst (MayBegin me.0.history l.opening (held_by me.0)) (sym due) p.may_begin);
    word = at ∙ ap (λ (d : Action WriterView). d.word) (sym action_is);
  }

  pub becomes : (f : ℕ → ℕ) → ((n : ℕ) → f n ≡ action.becomes n) → (n : ℕ) → f n ≡ (next_action list me).becomes n
  becomes f t n = t n ∙ ap (λ (d : Action WriterView). d.becomes n) (sym action_is)

  -- once it is taken
  module _ (seat seat' : TableId) (me' : Me Unit View) (found : ℕ)
      (step : SeatStepped list found seat seat' me me') where
    pub took : WriterTook l start me' (steps + 1) (action.after found) (phase_note view.state phase found)
    took =
        let v = held_by me.0 in
        let begin : List Event = begin_events (Some l.journal) (held_by start.0) in
        let is : me' ≡ (with_writer me.0 l.opening (action.after found) me'.0.history, []) = step.next
        ∙ (λ i. (with_writer me.0 (who i).0 ((action_is i).after found) me'.0.history, p.bare i)) in
        let events : p.own ++ (begin_events list v ++ Writer ∷ []) ≡ begin ++ replicate (steps + 1) Writer =
        sym (append_assoc p.own (begin_events list v) (Writer ∷ []))
        ∙ (ap (λ (e : List Event). e ++ Writer ∷ [])
        (ap (λ (d : Option (List Command)). p.own ++ begin_events d v) due ∙ p.whole)
        ∙ (append_assoc begin (replicate steps Writer) (Writer ∷ [])
        ∙ ap (λ (e : List Event). begin ++ e) (replicate-append-replicate steps 1 Writer))) in
        record {
          writes = ap (λ (m : Me Unit View). m.0.writer) is;
          bare = ap (λ (m : Me Unit View). m.1) is;
          adds = subst (λ (e : List Event). Adds is_writers e start.0.history me'.0.history) events
              (adds_then is_writers start.0.history me.0.history me'.0.history _ _ p.adds step.acted.adds);
          knows = subst (KnowsAfter me'.0.history) (ap (λ (m : Me Unit View). held_by m.0) is) step.acted.knows;
          reported = step.acted.reported ∙ ap (λ (x : WriterView). Some (phase_note x.state x.state.phase found)) begun;
        }

-- a pin was loaded: it was 0, or 1
module _ (l : Ledger) (start me : Me Unit View) (steps : ℕ) (out : List Bool)
    (p : Publishing l start me steps out Seeing) (list : Option (List Command)) (due : list ≡ due_at me l.journal)
    (seat seat' : TableId) (me' : Me Unit View) (found : ℕ) (step : SeatStepped list found seat seat' me me') where
  abbrev state : Writing
  state = (publishing_view (held_by start.0) l.journal out Seeing).state

  looked : (b : Bool) → eqb found 0 ≡ b
      → WriterTook l start me' (steps + 1)
      (record {
        state = cond b (writing_with_quiescent state (set out (first_false out) true))
            (record state { phase = Idle });
        cuts = (held_by start.0).cuts;
      })
      (cond b Moved (Busy (suc (first_false out))))
  looked b e =
      subst
      (λ (b : Bool). WriterTook l start me' (steps + 1)
      (record {
        state = cond b (writing_with_quiescent state (set out (first_false out) true))
            (record state { phase = Idle });
        cuts = (held_by start.0).cuts;
      })
      (cond b Moved (Busy (suc (first_false out)))))
      e (took l start me steps out Seeing p list due seat seat' me' found step)

  pub looked_out : (out' : List Bool) → eqb found 0 ≡ true → set out (first_false out) true ≡ out'
      → Publishing l start me' (steps + 1) out' (seeing_phase out')
  looked_out out' e is = subst (λ (o : List Bool). Publishing l start me' (steps + 1) o (seeing_phase o)) is
      (goes_on l start me' (steps + 1) (set out (first_false out) true)
      (seeing_phase (set out (first_false out) true)) Moved (seeing_busy (set out (first_false out) true))
      (looked true e))

  pub looked_in : eqb found 0 ≡ false
      → WriterTook l start me' (steps + 1) (publishing_view (held_by start.0) l.journal out Idle)
      (Busy (suc (first_false out)))
  looked_in e = looked false e

-- a word was stored, and side
pub stored : (l : Ledger) (start me : Me Unit View) (steps : ℕ) (out : List Bool) (k : ℕ)
    (p : Publishing l start me steps out (Filling k)) (list : Option (List Command)) (due : list ≡ due_at me l.journal)
    (seat seat' : TableId) (me' : Me Unit View) (found : ℕ) (step : SeatStepped list found seat seat' me me')
    → Publishing l start me' (steps + 1) out (filling_phase (k + 1))
stored l start me steps out k p list due seat seat' me' found step =
    goes_on l start me' (steps + 1) out (filling_phase (k + 1)) _ (filling_busy (k + 1))
    (took l start me steps out (Filling k) p list due seat seat' me' found step)

pub swapped : (l : Ledger) (start me : Me Unit View) (steps : ℕ) (out : List Bool)
    (p : Publishing l start me steps out Swapping) (list : Option (List Command)) (due : list ≡ due_at me l.journal)
    (seat seat' : TableId) (me' : Me Unit View) (found : ℕ) (step : SeatStepped list found seat seat' me me')
    → WriterTook l start me' (steps + 1) (published_view (held_by start.0) l.journal (length out))
    (Published (length l.journal))
swapped l start me steps out p list due seat seat' me' found step =
    took l start me steps out Swapping p list due seat seat' me' found step
