-- A reader's step keeps the invariant of the state.
use Rattle.two_copy_steps.proofs.Names.{[], ap, arith, Arrived, AtRest, Bool, Command, cond, Contains, copy_word}
use Rattle.two_copy_steps.proofs.Names.{COPY_WORDS, dite, eq-eqb, eqb, Filling, Fills, front_of, get_or}
use Rattle.two_copy_steps.proofs.Names.{get_or-set_other, HoldsCopy, Idle, IsLawfulState, IsRecordFrom, Leaving, length}
use Rattle.two_copy_steps.proofs.Names.{length-append, length-set, List, ne_eqb, Opening, other_side, Phase, pin}
use Rattle.two_copy_steps.proofs.Names.{read_by, ReaderOk, ReaderView, Reading, readings_after, refl, Seeing, set}
use Rattle.two_copy_steps.proofs.Names.{set-get_or, sheet, ShowsSheet, slice_get, Some, Stage, Stands, State, subst}
use Rattle.two_copy_steps.proofs.Names.{suc, Swapping, sym, take, take-length, WriterOk, zero, ℕ, ℕ_discrete, ⊎_elim}
use Rattle.two_copy_steps.proofs.Names.{◌++◌, ◌+◌, ◌<◌, ◌∙◌, ◌∷◌, ◌≡◌, ◌≢◌, ◌≤◌}
use Rattle.std.proofs.Common.{get_or-set_same}
use Rattle.std.proofs.lemmas.List.{ext_get_or, get_or_append_left}
use Rattle.std.proofs.lemmas.List.Elements.{Contains-push}
use Rattle.std.proofs.Math.Seq.{get_or-append_seam}
use Rattle.two_copy_steps.specs.declared.views.WriterView.{WriterView}
use Rattle.two_copy_steps.specs.Lawful.{IsLoadedFrom}
use Rattle.two_copy_steps.proofs.Lists.{at_set, inside}
use Rattle.two_copy_steps.proofs.Records.{sheet_long, front_of_cut, last_front-push, record-push, record-below}

abbrev pub reader : Stage → List (List ℕ) → ReaderView
reader stage readings = record { stage = stage; readings = readings }

pub copy_word_low : (s i : ℕ) → i < COPY_WORDS → copy_word s i < pin 0
copy_word_low zero i h = omega arith
copy_word_low (suc _) i h = omega arith

-- two lists of words that differ in the pin of r alone
pub record Alike (r : ℕ) (ws vs : List ℕ) : Type 0 where
  pub len : length vs ≡ length ws
  pub low : (i : ℕ) → i < pin 0 → get_or vs i 0 ≡ get_or ws i 0
  pub pins : (q : ℕ) → q ≢ r → get_or vs (pin q) 0 ≡ get_or ws (pin q) 0

pub same : (r : ℕ) (ws : List ℕ) → Alike r ws ws
same r ws = record { len = refl; low = λ i h. refl; pins = λ q h. refl }

pub pin_set : (r v : ℕ) (ws : List ℕ) → Alike r ws (set ws (pin r) v)
pin_set r v ws =
    record {
      len = length-set ws (pin r) v;
      low = λ i h. get_or-set_other ws (pin r) i v 0 (λ e. omega arith);
      pins = λ q h. get_or-set_other ws (pin r) (pin q) v 0 (λ e. h (omega arith));
    }

-- the words read with one more
pub read_more : (words ws : List ℕ) (s k : ℕ) → k ≡ get_or words (copy_word s (length ws)) 0 → IsLoadedFrom words s ws
    → (i : ℕ) → i < length ws + 1 → get_or (ws ++ k ∷ []) i 0 ≡ get_or words (copy_word s i) 0
read_more words ws s k is h i l =
    dite (ℕ_discrete i (length ws))
    (λ e. subst (λ (z : ℕ). get_or (ws ++ k ∷ []) z 0 ≡ get_or words (copy_word s z) 0) (sym e) (get_or-append_seam ws k [] 0 ∙ is))
    (λ ne. get_or_append_left ws (k ∷ []) 0 i (omega arith) ∙ h i (omega arith))

module _ (opening : Opening) (Legal : List Command → Type 0) where
  module _ (r : ℕ) (ws vs : List ℕ) (a : Alike r ws vs) where
    shows_alike : (s : ℕ) (numbers : List ℕ) → ShowsSheet ws s numbers → ShowsSheet vs s numbers
    shows_alike s numbers h i l = a.low (copy_word s i) (copy_word_low s i l) ∙ h i l

    holds_alike : (w : WriterView) (seen : List (List ℕ)) (q s : ℕ) → HoldsCopy opening Legal ws w seen q s → HoldsCopy opening Legal vs w seen q s
    holds_alike w seen q s b =
        record { two = b.two; cut = b.cut; is_cut = b.is_cut; shows = shows_alike s (sheet opening (take b.cut w.state.published)) b.shows; above = b.above; late = b.late }

    read_alike : (s : ℕ) (xs : List ℕ) → length xs ≤ COPY_WORDS → IsLoadedFrom ws s xs → IsLoadedFrom vs s xs
    read_alike s xs short h i l = h i l ∙ sym (a.low (copy_word s i) (copy_word_low s i (omega arith)))

    stands_alike : (w : WriterView) (seen : List (List ℕ)) (q : ℕ) (st : Stage) → Stands opening Legal ws w seen q st → Stands opening Legal vs w seen q st
    stands_alike w seen q AtRest h = tt
    stands_alike w seen q Arrived h = tt
    stands_alike w seen q (Reading s xs) h = let short : length xs < COPY_WORDS = h.1 in (holds_alike w seen q s h.0, h.1, read_alike s xs (omega arith) h.2)
    stands_alike w seen q (Leaving s xs) h = let full : length xs ≡ COPY_WORDS = h.1 in (holds_alike w seen q s h.0, h.1, read_alike s xs (omega arith) h.2, h.3)

    ok_alike : (w : WriterView) (q : ℕ) (v : ReaderView) → q ≢ r → ReaderOk opening Legal ws w q v → ReaderOk opening Legal vs w q v
    ok_alike w q v ne k = record { pinned = a.pins q ne ∙ k.pinned; stands = stands_alike w v.readings q v.stage k.stands; record_legal = k.record_legal }

    fills_alike : (w : WriterView) (p : Phase) → Fills opening Legal ws w.state p → Fills opening Legal vs w.state p
    fills_alike w Idle h = tt
    fills_alike w Seeing h = h
    fills_alike w (Filling k) h =
        let short : k < COPY_WORDS = h.0 in
        (h.0, (h.1.0, λ i l. a.low (copy_word (other_side w.state.side) i) (copy_word_low (other_side w.state.side) i (omega arith)) ∙ h.1.1 i l))
    fills_alike w Swapping h = (h.0, λ i l. a.low (copy_word (other_side w.state.side) i) (copy_word_low (other_side w.state.side) i l) ∙ h.1 i l)

    writer_alike : (w : WriterView) (k : ℕ) → WriterOk opening Legal ws w k → WriterOk opening Legal vs w k
    writer_alike w k o =
        record {
          two = o.two;
          side_is = a.low 0 (omega arith) ∙ o.side_is;
          flags = o.flags;
          legal = o.legal;
          begins = o.begins;
          shown = shows_alike w.state.side (sheet opening w.state.published) o.shown;
          last_cut = o.last_cut;
          cuts = o.cuts;
          ascending = o.ascending;
          fills = fills_alike w w.state.phase o.fills;
        }

  abbrev At : List ℕ → WriterView → List ReaderView → State
  At words w readers = record { words = words; writer = w; readers = readers }

  reader_moves : (m : State) (l : IsLawfulState opening Legal m) (r : ℕ) (vs : List ℕ) (v : ReaderView) → Alike r m.words vs → ReaderOk opening Legal vs m.writer r v
      → IsLawfulState opening Legal (At vs m.writer (set m.readers r v))
  reader_moves m l r vs v a ok =
      let wide = l.wide in
      let len = a.len in
      let count = length-set m.readers r v in
      record {
        wide = omega arith;
        writer = subst (WriterOk opening Legal vs m.writer) (sym count) (writer_alike r m.words vs a m.writer (length m.readers) l.writer);
        each_reader = λ q u e. ⊎_elim (λ (t : (q ≡ r) × (v ≡ u)). subst (λ (z : ℕ × ReaderView). ReaderOk opening Legal vs m.writer z.0 z.1) (λ i. (sym t.0 i, t.1 i)) ok)
            (λ (t : (q ≢ r) × (slice_get m.readers q ≡ Some u)). ok_alike r m.words vs a m.writer q u t.0 (l.each_reader q u t.1))
            (at_set m.readers r q v u e);
      }

  whole : (words : List ℕ) (w : WriterView) (seen : List (List ℕ)) (r s : ℕ) (ws : List ℕ) (b : HoldsCopy opening Legal words w seen r s) → length ws ≡ COPY_WORDS
      → IsLoadedFrom words s ws → ws ≡ sheet opening (take b.cut w.state.published)
  whole words w seen r s ws b len h =
      let size = sheet_long opening (take b.cut w.state.published) in
      ext_get_or 0 ws (sheet opening (take b.cut w.state.published)) (len ∙ sym size) (λ i l. h i l ∙ b.shows i (omega arith))

  abbrev stepped : ℕ → List ℕ → List (List ℕ) → Bool → ReaderView
  stepped s ws seen b = reader (cond b (Leaving s ws) (Reading s ws)) (readings_after (Reading s []) (cond b (Leaving s ws) (Reading s ws)) seen)

  -- a reader that has loaded these words of the copy that a side names: its pin is 1, and its record is legal
  record HasLoaded (words : List ℕ) (w : WriterView) (seen : List (List ℕ)) (r s : ℕ) (ws : List ℕ) : Type 0 where
    pub holds : HoldsCopy opening Legal words w seen r s
    pub within : holds.cut ≤ length w.state.published
    pub bound : length ws ≤ COPY_WORDS
    pub read_from : IsLoadedFrom words s ws
    pub pinned : get_or words (pin r) 0 ≡ 1
    pub record_legal : IsRecordFrom opening w.state.published w.cuts 0 seen

  loaded_ok : (words : List ℕ) (w : WriterView) (seen : List (List ℕ)) (r s : ℕ) (ws : List ℕ) → HasLoaded words w seen r s ws → ReaderOk opening Legal words w r (stepped s ws seen (eqb (length ws) COPY_WORDS))
  loaded_ok words w seen r s ws h =
      let b = h.holds in
      let bound = h.bound in
      dite (ℕ_discrete (length ws) COPY_WORDS)
      (λ e.
      let is = whole words w seen r s ws b e h.read_from in
      let front : front_of ws ≡ b.cut = ap front_of is ∙ front_of_cut opening w.state.published b.cut h.within in
      let above = b.above in
      let last = last_front-push 0 seen ws in
      subst (λ (t : Bool). ReaderOk opening Legal words w r (stepped s ws seen t)) (sym (eq-eqb (length ws) COPY_WORDS e))
      record {
        pinned = h.pinned;
        stands = (record { two = b.two; cut = b.cut; is_cut = b.is_cut; shows = b.shows; above = omega arith; late = b.late }, e, h.read_from, (seen, refl));
        record_legal = record-push opening w.state.published w.cuts 0 seen ws h.record_legal (b.cut, b.is_cut, is) (omega arith);
      })
      (λ ne. subst (λ (t : Bool). ReaderOk opening Legal words w r (stepped s ws seen t)) (sym (ne_eqb (length ws) COPY_WORDS ne))
      record { pinned = h.pinned; stands = (b, omega arith, h.read_from); record_legal = h.record_legal })

  begins_side : (m : State) (l : IsLawfulState opening Legal m) (r : ℕ) (seen : List (List ℕ)) → IsRecordFrom opening m.writer.state.published m.writer.cuts 0 seen
      → HoldsCopy opening Legal m.words m.writer seen r (get_or m.words 0 0)
  begins_side m l r seen legal =
      let o = l.writer in
      let w = m.writer in
      let two = o.two in
      let side = o.side_is in
      record {
        two = omega arith;
        cut = length w.state.published;
        is_cut = subst (λ (cuts : List ℕ). Contains cuts (length w.state.published)) (sym o.last_cut.1) (Contains-push o.last_cut.0 (length w.state.published));
        shows = subst (λ (z : ℕ × List Command). ShowsSheet m.words z.0 (sheet opening z.1)) (λ i. (sym side i, sym (take-length w.state.published) i)) o.shown;
        above = record-below opening w.state.published w.cuts 0 seen (length w.state.published) (λ cut h. (o.cuts cut h).0) refl (omega arith) legal;
        late = λ ne. absurd (ne side);
      }

  abbrev Reads : State → ℕ → List (List ℕ) → Stage → Type 0
  Reads m r seen st = IsLawfulState opening Legal (read_by m r (reader st seen))

  reads : (m : State) (l : IsLawfulState opening Legal m) (r : ℕ) (seen : List (List ℕ)) (st : Stage) → r < length m.readers → ReaderOk opening Legal m.words m.writer r (reader st seen)
      → Reads m r seen st
  reads m l r seen AtRest here k =
      let wide = l.wide in
      reader_moves m l r (set m.words (pin r) 1) (reader Arrived seen) (pin_set r 1 m.words)
      record { pinned = get_or-set_same m.words (pin r) 1 0 (omega arith); stands = tt; record_legal = k.record_legal }
  reads m l r seen Arrived here k =
      let s : ℕ = get_or m.words 0 0 in
      subst (λ (vs : List ℕ). IsLawfulState opening Legal (At vs m.writer (set m.readers r (reader (Reading s []) seen)))) (sym (set-get_or m.words 0 0))
      (reader_moves m l r m.words (reader (Reading s []) seen) (same r m.words)
      record { pinned = k.pinned; stands = (begins_side m l r seen k.record_legal, omega arith, λ i h. absurd (omega arith)); record_legal = k.record_legal })
  reads m l r seen (Reading s ws) here k =
      let i : ℕ = copy_word s (length ws) in
      let x : ℕ = get_or m.words i 0 in
      let h = k.stands in
      let b = h.0 in
      let short : length ws < COPY_WORDS = h.1 in
      let more : length (ws ++ x ∷ []) ≡ length ws + 1 = length-append ws (x ∷ []) in
      let v : ReaderView = stepped s (ws ++ x ∷ []) seen (eqb (length (ws ++ x ∷ [])) COPY_WORDS) in
      subst (λ (vs : List ℕ). IsLawfulState opening Legal (At vs m.writer (set m.readers r v))) (sym (set-get_or m.words i 0))
      (reader_moves m l r m.words v (same r m.words)
      (loaded_ok m.words m.writer seen r s (ws ++ x ∷ []) record {
        holds = b;
        within = (l.writer.cuts b.cut b.is_cut).0;
        bound = omega arith;
        read_from = λ j g. read_more m.words ws s x refl h.2 j (omega arith);
        pinned = k.pinned;
        record_legal = k.record_legal;
      }))
  reads m l r seen (Leaving s ws) here k =
      let wide = l.wide in
      reader_moves m l r (set m.words (pin r) 0) (reader AtRest seen) (pin_set r 0 m.words)
      record { pinned = get_or-set_same m.words (pin r) 0 0 (omega arith); stands = tt; record_legal = k.record_legal }

  -- each step of a reader keeps the invariant of the state
  pub reader_keeps : (m : State) → IsLawfulState opening Legal m → (r : ℕ) (v : ReaderView) → slice_get m.readers r ≡ Some v → IsLawfulState opening Legal (read_by m r v)
  reader_keeps m l r v at = reads m l r v.readings v.stage (inside m.readers r v at) (l.each_reader r v at)

  -- what a reader in its last stage has read is the sheet of a cut
  pub leaving_reads : (m : State) → IsLawfulState opening Legal m → (r s : ℕ) (ws : List ℕ) (seen : List (List ℕ)) → slice_get m.readers r ≡ Some (reader (Leaving s ws) seen)
      → (cut : ℕ) × (ws ≡ sheet opening (take cut m.writer.state.published)) × Legal (take cut m.writer.state.published)
  leaving_reads m l r s ws seen at =
      let h = (l.each_reader r (reader (Leaving s ws) seen) at).stands in
      (h.0.cut, whole m.words m.writer seen r s ws h.0 h.1 h.2, (l.writer.cuts h.0.cut h.0.is_cut).1)
