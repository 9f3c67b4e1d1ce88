-- A writer's step keeps the invariant of the state.
use Rattle.two_copy_steps.proofs.Names.{[], abandoned_writing, all_true, ap, append-nil, append_assoc, arith, Arrived}
use Rattle.two_copy_steps.proofs.Names.{AtRest, Bool, Command, cond, Contains, copy_word, COPY_WORDS, cuts_past, dite}
use Rattle.two_copy_steps.proofs.Names.{eq-eqb, eqb, false, Filling, Fills, first_false, get_or, get_or-set_other}
use Rattle.two_copy_steps.proofs.Names.{HoldsCopy, Idle, IsLawfulState, le_trans, Leaving, length, length-append}
use Rattle.two_copy_steps.proofs.Names.{length-set, List, ne_eqb, none-some, Opening, other_side, Phase, phase_action}
use Rattle.two_copy_steps.proofs.Names.{pin, pin_of, ReaderOk, ReaderView, Reading, refl, replicate, Seeing}
use Rattle.two_copy_steps.proofs.Names.{seen_writing, set, set-get_or, sheet, slice_get, Some, Stage, Stands, State}
use Rattle.two_copy_steps.proofs.Names.{subst, suc, Swapping, sym, take, take-append-le, take-length, true, WriterOk}
use Rattle.two_copy_steps.proofs.Names.{Writing, zero, ℕ, ℕ_discrete, ⊎_elim, ◌++◌, ◌+◌, ◌<◌, ◌∙◌, ◌∷◌, ◌≡◌, ◌≢◌, ◌≤◌}
use Rattle.std.proofs.Common.{get_or-set_same}
use Rattle.std.proofs.lemmas.List.{length-replicate}
use Rattle.std.proofs.lemmas.List.Elements.{Contains-append_left, Contains-push_cases}
use Rattle.two_copy_steps.specs.declared.views.WriterView.{WriterView}
use Rattle.two_copy_steps.specs.Actions.{writing_with_quiescent, writing_of_staged, filled_writing, swapped_writing}
use Rattle.two_copy_steps.specs.Lawful.{written_by, begun_by, IsLoadedFrom, Stored}
use Rattle.two_copy_steps.proofs.Lists.{set_else, inside}
use Rattle.two_copy_steps.proofs.Records.{record-grows, ascends-push}
use Rattle.two_copy_steps.proofs.ReaderSteps.{copy_word_low}

-- no item of a list that is all true is false
pub all_at : (bs : List Bool) (q : ℕ) → all_true bs ≡ true → slice_get bs q ≡ Some false → ⊥
all_at [] q a e = none-some false e
all_at (true ∷ bs) zero a e = cc
all_at (false ∷ bs) zero a e = cc
all_at (true ∷ bs) (suc q) a e = all_at bs q a e
all_at (false ∷ bs) (suc q) a e = cc

pub first_inside : (bs : List Bool) → all_true bs ≡ false → first_false bs < length bs
first_inside [] a = cc
first_inside (true ∷ bs) a = let h = first_inside bs a in omega arith
first_inside (false ∷ bs) a = omega arith

at_replicate : (k q : ℕ) → q < k → slice_get (replicate k false) q ≡ Some false
at_replicate zero q h = absurd (omega arith)
at_replicate (suc k) zero h = refl
at_replicate (suc k) (suc q) h = at_replicate k q (omega arith)

pub copy_word_above : (s i : ℕ) → 0 < copy_word s i
copy_word_above zero i = omega arith
copy_word_above (suc _) i = omega arith

pub copy_word_apart : (s i k : ℕ) → s < 2 → i < COPY_WORDS → k < COPY_WORDS → copy_word s i ≢ copy_word (other_side s) k
copy_word_apart zero i k h a b e = omega arith
copy_word_apart (suc zero) i k h a b e = omega arith
copy_word_apart (suc (suc s)) i k h a b e = absurd (omega arith)

copy_word_once : (s i k : ℕ) → i ≢ k → copy_word s i ≢ copy_word s k
copy_word_once zero i k h e = h (omega arith)
copy_word_once (suc _) i k h e = h (omega arith)

module _ (opening : Opening) (Legal : List Command → Type 0) where
  -- what a step of the writer has to leave to the reader at q
  record Leaves (words vs : List ℕ) (w w' : WriterView) (q : ℕ) : Type 0 where
    pins : get_or vs (pin q) 0 ≡ get_or words (pin q) 0
    cuts : (f : ℕ) → Contains w.cuts f → Contains w'.cuts f × (take f w'.state.published ≡ take f w.state.published)
    sides : (s : ℕ) → s < 2 → get_or words (pin q) 0 ≡ 1 → (s ≢ w.state.side → slice_get w.state.seen_out q ≡ Some false)
        → ((i : ℕ) → i < COPY_WORDS → get_or vs (copy_word s i) 0 ≡ get_or words (copy_word s i) 0) × (s ≢ w'.state.side → slice_get w'.state.seen_out q ≡ Some false)

  module _ (words vs : List ℕ) (w w' : WriterView) (q : ℕ) (k : Leaves words vs w w' q) where
    holds_left : (seen : List (List ℕ)) (s : ℕ) → get_or words (pin q) 0 ≡ 1 → (b : HoldsCopy opening Legal words w seen q s) → HoldsCopy opening Legal vs w' seen q s
    holds_left seen s pinned b =
        let t = k.sides s b.two pinned b.late in
        record {
          two = b.two;
          cut = b.cut;
          is_cut = (k.cuts b.cut b.is_cut).0;
          shows = λ i l. t.0 i l ∙ (b.shows i l ∙ ap (λ (list : List Command). get_or (sheet opening list) i 0) (sym (k.cuts b.cut b.is_cut).1));
          above = b.above;
          late = t.1;
        }

    read_left : (seen : List (List ℕ)) (s : ℕ) (xs : List ℕ) → length xs ≤ COPY_WORDS → get_or words (pin q) 0 ≡ 1 → HoldsCopy opening Legal words w seen q s → IsLoadedFrom words s xs → IsLoadedFrom vs s xs
    read_left seen s xs short p b h i l = h i l ∙ sym ((k.sides s b.two p b.late).0 i (omega arith))

    stands_left : (seen : List (List ℕ)) (st : Stage) → get_or words (pin q) 0 ≡ pin_of st → Stands opening Legal words w seen q st → Stands opening Legal vs w' seen q st
    stands_left seen AtRest p h = tt
    stands_left seen Arrived p h = tt
    stands_left seen (Reading s xs) p h = let short : length xs < COPY_WORDS = h.1 in (holds_left seen s p h.0, short, read_left seen s xs (omega arith) p h.0 h.2)
    stands_left seen (Leaving s xs) p h = let full : length xs ≡ COPY_WORDS = h.1 in (holds_left seen s p h.0, full, read_left seen s xs (omega arith) p h.0 h.2, h.3)

    left : (v : ReaderView) → ReaderOk opening Legal words w q v → ReaderOk opening Legal vs w' q v
    left v ok =
        record {
          pinned = k.pins ∙ ok.pinned;
          stands = stands_left v.readings v.stage ok.pinned ok.stands;
          record_legal = record-grows opening w.state.published w'.state.published w.cuts w'.cuts 0 v.readings k.cuts ok.record_legal;
        }

  abbrev At : List ℕ → WriterView → List ReaderView → State
  At ws w rs = record { words = ws; writer = w; readers = rs }

  abbrev Known : Writing → List ℕ → WriterView
  Known w cuts = record { state = w; cuts = cuts }

  moved : (words vs : List ℕ) (w w' : WriterView) (rs : List ReaderView) → IsLawfulState opening Legal (At words w rs) → length vs ≡ length words → WriterOk opening Legal vs w' (length rs)
      → ((q : ℕ) → q < length rs → Leaves words vs w w' q) → IsLawfulState opening Legal (At vs w' rs)
  moved words vs w w' rs l len ok each =
      let wide = l.wide in
      record {
        wide = omega arith;
        writer = ok;
        each_reader = λ q v e. left words vs w w' q (each q (inside rs q v e)) v (l.each_reader q v e);
      }

  fills_tested : (words : List ℕ) (w : Writing) (out : List Bool) (b : Bool) → all_true out ≡ b
      → Fills opening Legal words (record w { phase = cond b (Filling 0) Seeing; seen_out = out }) (cond b (Filling 0) Seeing)
  fills_tested words w out true e = (omega arith, (e, λ i l. absurd (omega arith)))
  fills_tested words w out false e = e

  -- the writer begins to publish a longer list
  pub begin_keeps : (m : State) → IsLawfulState opening Legal m → (list rest : List Command) → Legal list → m.writer.state.staged ++ rest ≡ list → IsLawfulState opening Legal (begun_by m list)
  begin_keeps m l list rest legal longer =
      let w = m.writer.state in
      let w' : WriterView = Known (writing_of_staged list w) m.writer.cuts in
      let o = l.writer in
      moved m.words m.words m.writer w' m.readers l refl record {
        two = o.two;
        side_is = o.side_is;
        flags = o.flags;
        legal = legal;
        begins = (o.begins.0 ++ rest, sym longer ∙ (ap (λ (x : List Command). x ++ rest) o.begins.1 ∙ append_assoc w.published o.begins.0 rest));
        shown = o.shown;
        last_cut = o.last_cut;
        cuts = o.cuts;
        ascending = o.ascending;
        fills = fills_tested m.words (record w { staged = list }) w.seen_out (all_true w.seen_out) refl;
      } (λ q _. record { pins = refl; cuts = λ f h. (h, refl); sides = λ s two p late. ((λ i _. refl), late) })

  -- a pin was loaded
  sees_out : (m : State) → IsLawfulState opening Legal m → (r : ℕ) → get_or m.words (pin r) 0 ≡ 0
      → IsLawfulState opening Legal (At m.words (Known (writing_with_quiescent m.writer.state (set m.writer.state.seen_out r true)) m.writer.cuts) m.readers)
  sees_out m l r found =
      let w = m.writer.state in
      let out : List Bool = set w.seen_out r true in
      let o = l.writer in
      moved m.words m.words m.writer (Known (writing_with_quiescent w out) m.writer.cuts) m.readers l refl record {
        two = o.two;
        side_is = o.side_is;
        flags = length-set w.seen_out r true ∙ o.flags;
        legal = o.legal;
        begins = o.begins;
        shown = o.shown;
        last_cut = o.last_cut;
        cuts = o.cuts;
        ascending = o.ascending;
        fills = fills_tested m.words w out (all_true out) refl;
      } (λ q _. record {
        pins = refl;
        cuts = λ f h. (h, refl);
        sides = λ s two p late. (
          (λ i _. refl),
          λ ne. dite (ℕ_discrete q r)
              (λ e. let z = ap (λ (x : ℕ). get_or m.words (pin x) 0) e in absurd (omega arith))
              (λ else. set_else w.seen_out r q true else ∙ late ne),
        );
      })

  gives_up : (m : State) → IsLawfulState opening Legal m → IsLawfulState opening Legal (At m.words (Known (record m.writer.state { phase = Idle }) m.writer.cuts) m.readers)
  gives_up m l =
      let w = m.writer.state in
      let o = l.writer in
      moved m.words m.words m.writer (Known (abandoned_writing w) m.writer.cuts) m.readers l refl
      record { two = o.two; side_is = o.side_is; flags = o.flags; legal = o.legal; begins = o.begins; shown = o.shown; last_cut = o.last_cut; cuts = o.cuts; ascending = o.ascending; fills = tt }
      (λ q _. record { pins = refl; cuts = λ f h. (h, refl); sides = λ s two p late. ((λ i _. refl), late) })

  abbrev looked : Writing → ℕ → Bool → Writing
  looked w r b = cond b (seen_writing w r) (abandoned_writing w)

  sees : (m : State) (k : ℕ) → IsLawfulState opening Legal m → (r : ℕ) → get_or m.words (pin r) 0 ≡ k
      → IsLawfulState opening Legal (At m.words (Known (looked m.writer.state r (eqb k 0)) m.writer.cuts) m.readers)
  sees m k l r found =
      let F : Bool → Type 0 = λ b. IsLawfulState opening Legal (At m.words (Known (looked m.writer.state r b) m.writer.cuts) m.readers) in
      dite (ℕ_discrete k 0) (λ e. subst F (sym (eq-eqb k 0 e)) (sees_out m l r (found ∙ e))) (λ ne. subst F (sym (ne_eqb k 0 ne)) (gives_up m l))

  -- a word was stored
  abbrev next_phase : ℕ → Phase
  next_phase k = cond (eqb (k + 1) COPY_WORDS) Swapping (Filling (k + 1))

  fills_next : (words : List ℕ) (w : Writing) (k : ℕ) → k < COPY_WORDS → Stored opening Legal words w (k + 1) → Fills opening Legal words (record w { phase = next_phase k }) (next_phase k)
  fills_next words w k short h =
      let F : Bool → Type 0 = λ t. Fills opening Legal words (record w { phase = cond t Swapping (Filling (k + 1)) }) (cond t Swapping (Filling (k + 1))) in
      dite (ℕ_discrete (k + 1) COPY_WORDS)
      (λ e. subst F (sym (eq-eqb (k + 1) COPY_WORDS e)) (h.0, λ i l. h.1 i (omega arith)))
      (λ ne. subst F (sym (ne_eqb (k + 1) COPY_WORDS ne)) (omega arith, h))

  fills : (m : State) (k : ℕ) → IsLawfulState opening Legal m → k < COPY_WORDS → Stored opening Legal m.words m.writer.state k
      → IsLawfulState opening Legal (At (set m.words (copy_word (other_side m.writer.state.side) k) (get_or (sheet opening m.writer.state.staged) k 0)) (Known (filled_writing m.writer.state k) m.writer.cuts) m.readers)
  fills m k l short h =
      let w = m.writer.state in
      let o = l.writer in
      let p : ℕ = copy_word (other_side w.side) k in
      let x : ℕ = get_or (sheet opening w.staged) k 0 in
      let vs : List ℕ = set m.words p x in
      let low : p < pin 0 = copy_word_low (other_side w.side) k short in
      let some : 0 < p = copy_word_above (other_side w.side) k in
      let wide = l.wide in
      let kept : (i : ℕ) → i < COPY_WORDS → get_or vs (copy_word w.side i) 0 ≡ get_or m.words (copy_word w.side i) 0 =
      λ i g. get_or-set_other m.words p (copy_word w.side i) x 0 (copy_word_apart w.side i k o.two g short) in
      moved m.words vs m.writer (Known (filled_writing w k) m.writer.cuts) m.readers l (length-set m.words p x) record {
        two = o.two;
        side_is = get_or-set_other m.words p 0 x 0 (λ e. omega arith) ∙ o.side_is;
        flags = o.flags;
        legal = o.legal;
        begins = o.begins;
        shown = λ i g. kept i g ∙ o.shown i g;
        last_cut = o.last_cut;
        cuts = o.cuts;
        ascending = o.ascending;
        fills = fills_next vs w k short (
          h.0,
          λ i g. dite (ℕ_discrete i k)
              (λ e. subst (λ (z : ℕ). get_or vs (copy_word (other_side w.side) z) 0 ≡ get_or (sheet opening w.staged) z 0) (sym e) (get_or-set_same m.words p x 0 (omega arith)))
              (λ ne. get_or-set_other m.words p (copy_word (other_side w.side) i) x 0 (copy_word_once (other_side w.side) i k ne) ∙ h.1 i (omega arith)),
        );
      } (λ q _. record {
        pins = get_or-set_other m.words p (pin q) x 0 (λ e. omega arith);
        cuts = λ f g. (g, refl);
        sides = λ s two pinned late. dite (ℕ_discrete s w.side)
            (λ e. ((λ i g. subst (λ (z : ℕ). get_or vs (copy_word z i) 0 ≡ get_or m.words (copy_word z i) 0) (sym e) (kept i g)), late))
            (λ ne. absurd (all_at w.seen_out q h.0 (late ne)));
      })

  -- a cut of the published list is one of the longer staged list
  cut_stays : (w : Writing) (rest : List Command) → w.staged ≡ w.published ++ rest → (f : ℕ) → f ≤ length w.published → take f w.staged ≡ take f w.published
  cut_stays w rest begins f le = ap (take f) begins ∙ take-append-le f w.published rest le

  swaps : (m : State) → IsLawfulState opening Legal m → Stored opening Legal m.words m.writer.state COPY_WORDS
      → IsLawfulState opening Legal (At (set m.words 0 (other_side m.writer.state.side)) (Known (swapped_writing m.writer.state) (m.writer.cuts ++ length m.writer.state.staged ∷ [])) m.readers)
  swaps m l h =
      let w = m.writer.state in
      let cuts : List ℕ = m.writer.cuts in
      let o = l.writer in
      let t : ℕ = other_side w.side in
      let vs : List ℕ = set m.words 0 t in
      let wide = l.wide in
      let two = o.two in
      let begins = o.begins in
      let last : ℕ = length w.staged in
      let longer : length w.published ≤ last = (let g = ap (length {A = Command}) begins.1 in omega (arith, length-append w.published begins.0)) in
      let kept : (s i : ℕ) → get_or vs (copy_word s i) 0 ≡ get_or m.words (copy_word s i) 0 = λ s i. get_or-set_other m.words 0 (copy_word s i) t 0 (λ e. let g = copy_word_above s i in omega arith) in
      moved m.words vs m.writer (Known (swapped_writing w) (cuts ++ last ∷ [])) m.readers l (length-set m.words 0 t) record {
        two = omega arith;
        side_is = get_or-set_same m.words 0 t 0 (omega arith);
        flags = length-replicate (length w.seen_out) false ∙ o.flags;
        legal = o.legal;
        begins = ([], sym (append-nil w.staged));
        shown = λ i g. kept t i ∙ h.1 i g;
        last_cut = (cuts, refl);
        cuts = λ f e. ⊎_elim
            (λ (c : Contains cuts f). let old = o.cuts f c in (le_trans old.0 longer, subst Legal (sym (cut_stays w begins.0 begins.1 f old.0)) old.1))
            (λ (c : last ≡ f). (omega arith, subst Legal (sym (take-length w.staged) ∙ ap (λ (z : ℕ). take z w.staged) c) o.legal))
            (Contains-push_cases cuts last f e);
        ascending = ascends-push cuts last o.ascending (λ c e. le_trans (o.cuts c e).0 longer);
        fills = tt;
      } (λ q here. let flags = o.flags in record {
        pins = get_or-set_other m.words 0 (pin q) t 0 (λ e. omega arith);
        cuts = λ f c. (Contains-append_left cuts (last ∷ []) f c, cut_stays w begins.0 begins.1 f (o.cuts f c).0);
        sides = λ s two pinned late. ((λ i g. kept s i), λ ne. at_replicate (length w.seen_out) q (omega arith));
      })

  abbrev wrote : State → Phase → State
  wrote m p =
      let d = phase_action (sheet opening) m.writer.state p in
      let found = get_or m.words d.word 0 in
      At (set m.words d.word (d.becomes found)) (Known (d.after found) (cuts_past p m.writer.state.staged m.writer.cuts)) m.readers

  writes : (m : State) (p : Phase) → IsLawfulState opening Legal m → Fills opening Legal m.words m.writer.state p → IsLawfulState opening Legal (wrote m p)
  writes m Idle l h = subst (λ (vs : List ℕ). IsLawfulState opening Legal (At vs m.writer m.readers)) (sym (set-get_or m.words 0 0)) l
  writes m Seeing l h =
      let w = m.writer.state in
      let r : ℕ = first_false w.seen_out in
      let k : ℕ = get_or m.words (pin r) 0 in
      subst (λ (vs : List ℕ). IsLawfulState opening Legal (At vs (Known (looked w r (eqb k 0)) m.writer.cuts) m.readers)) (sym (set-get_or m.words (pin r) 0)) (sees m k l r refl)
  writes m (Filling k) l h = fills m k l h.0 h.1
  writes m Swapping l h = swaps m l h

  -- each step of the writer keeps the invariant of the state
  pub writer_keeps : (m : State) → IsLawfulState opening Legal m → IsLawfulState opening Legal (written_by opening m)
  writer_keeps m l = writes m m.writer.state.phase l l.writer.fills

  -- where the writer stores a word, no reader is between a load of that side and its leave
  pub no_reader_there : (m : State) (k : ℕ) → IsLawfulState opening Legal m → m.writer.state.phase ≡ Filling k → (q s : ℕ) (seen : List (List ℕ)) → HoldsCopy opening Legal m.words m.writer seen q s → s ≡ m.writer.state.side
  no_reader_there m k l is q s seen b =
      let h = subst (Fills opening Legal m.words m.writer.state) is l.writer.fills in
      dite (ℕ_discrete s m.writer.state.side) (λ e. e) (λ ne. absurd (all_at m.writer.state.seen_out q h.1.0 (b.late ne)))
