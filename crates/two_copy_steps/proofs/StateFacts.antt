-- Consequences of the invariant, for every state.
use Rattle.two_copy_steps.proofs.Names.{[], ap, AreLegalRecords, arith, Arrived, AtRest, Command, Contains, Filling}
use Rattle.two_copy_steps.proofs.Names.{HoldsCopy, Idle, IsApart, IsLawfulState, IsPublishable, IsReadable}
use Rattle.two_copy_steps.proofs.Names.{IsRecordFrom, Leaving, length, List, map, None, none-some, Opening, Option}
use Rattle.two_copy_steps.proofs.Names.{other_side, Phase, ReaderView, Reading, refl, same_Some, Seeing, side_held}
use Rattle.two_copy_steps.proofs.Names.{slice_get, Some, Stage, Stands, State, subst, suc, Swapping, sym, take-length}
use Rattle.two_copy_steps.proofs.Names.{zero, ℕ, ◌∙◌, ◌∷◌, ◌≡◌}
use Rattle.std.specs.Option.{option_map}
use Rattle.std.proofs.lemmas.List.Elements.{Contains-get_or, Contains-push}
use Rattle.std.proofs.lemmas.Option.{slice_get-map}
use Rattle.council_core.specs.Rolls.{IsLegal}
use Rattle.council_core.specs.Sequential.{AreRecords}
use Rattle.council_core.specs.Sheets.{IsSheet}
use Rattle.two_copy_steps.specs.Auxiliary.{side_filled}
use Rattle.two_copy_steps.specs.Laws.{StateRecordsLaw, StateUnderLaw}
use Rattle.two_copy_steps.specs.States.{EndsWith, IsKnown}
use Rattle.two_copy_steps.proofs.ReaderSteps.{reader, leaving_reads}
use Rattle.two_copy_steps.proofs.WriterSteps.{no_reader_there}

-- the view of a reader of this stage
viewer : (stage : Stage) (o : Option ReaderView) → option_map (λ (v : ReaderView). v.stage) o ≡ Some stage → (v : ReaderView) × (o ≡ Some v) × (v.stage ≡ stage)
viewer stage None e = absurd (none-some stage e)
viewer stage (Some v) e = (v, refl, same_Some v.stage stage e)

module _ (opening : Opening) (Legal : List Command → Type 0) (s : State) (l : IsLawfulState opening Legal s) where
  -- the published list meets the requirement
  pub published_legal : Legal s.writer.state.published
  published_legal =
      let w = s.writer.state in
      let o = l.writer in
      let last : Contains s.writer.cuts (length w.published) = subst (λ (cuts : List ℕ). Contains cuts (length w.published)) (sym o.last_cut.1) (Contains-push o.last_cut.0 (length w.published)) in
      subst Legal (take-length w.published) (o.cuts (length w.published) last).1

  -- the list published, its cuts and some records
  pub with_records : IsLegal opening s.writer.state.published → (records : List (List (List ℕ))) → AreRecords opening s.writer.state.published s.writer.cuts records
      → AreLegalRecords opening s.writer.state.published s.writer.cuts records
  with_records legal records each =
      let o = l.writer in
      record {
        legal = legal;
        in_order = (o.ascending, λ k d h. (o.cuts _ (Contains-get_or s.writer.cuts k d h)).0);
        readings = each;
      }

  from_each : (vs : List ReaderView) → ((r : ℕ) (v : ReaderView) → slice_get vs r ≡ Some v → IsRecordFrom opening s.writer.state.published s.writer.cuts 0 v.readings)
      → AreRecords opening s.writer.state.published s.writer.cuts (map (λ (v : ReaderView). v.readings) vs)
  from_each [] each = tt
  from_each (v ∷ vs) each = (each 0 v refl, from_each vs (λ r u e. each (suc r) u e))

  -- the records are legal
  pub all_records : IsLegal opening s.writer.state.published → AreLegalRecords opening s.writer.state.published s.writer.cuts (map (λ (v : ReaderView). v.readings) s.readers)
  all_records legal = with_records legal _ (from_each s.readers (λ r v e. (l.each_reader r v e).record_legal))

  holds_held : (r side : ℕ) (readings : List (List ℕ)) (stage : Stage) → Stands opening Legal s.words s.writer readings r stage → side_held stage ≡ Some side
      → HoldsCopy opening Legal s.words s.writer readings r side
  holds_held r side readings AtRest h e = absurd (none-some side e)
  holds_held r side readings Arrived h e = absurd (none-some side e)
  holds_held r side readings (Reading t words) h e = subst (HoldsCopy opening Legal s.words s.writer readings r) (same_Some t side e) h.0
  holds_held r side readings (Leaving t words) h e = subst (HoldsCopy opening Legal s.words s.writer readings r) (same_Some t side e) h.0

  not_other : (side : ℕ) → side ≡ other_side side → ⊥
  not_other zero e = omega arith
  not_other (suc t) e = omega arith

  apart_at : (phase : Phase) → s.writer.state.phase ≡ phase → (side r : ℕ) (v : ReaderView) → side_filled s.writer.state.side phase ≡ Some side → slice_get s.readers r ≡ Some v → side_held v.stage ≡ Some side → ⊥
  apart_at Idle is side r v e at held = none-some side e
  apart_at Seeing is side r v e at held = none-some side e
  apart_at Swapping is side r v e at held = none-some side e
  apart_at (Filling k) is side r v e at held =
      let same = no_reader_there opening Legal s k l is r side v.readings (holds_held r side v.readings v.stage (l.each_reader r v at).stands held) in
      not_other s.writer.state.side (sym same ∙ sym (same_Some (other_side s.writer.state.side) side e))

  -- no word is stored under a reader
  pub stores_apart : IsApart s.writer.state (map (λ (v : ReaderView). v.stage) s.readers)
  stores_apart side r stage e at held =
      let v = viewer stage (slice_get s.readers r) (sym (slice_get-map (λ (v : ReaderView). v.stage) s.readers r) ∙ at) in
      apart_at s.writer.state.phase refl side r v.0 e v.1 (ap side_held v.2 ∙ held)

pub state_records : StateRecordsLaw
state_records opening s l = all_records opening (IsPublishable opening) s l (published_legal opening (IsPublishable opening) s l).0

pub state_apart : StateUnderLaw
state_apart opening s l = stores_apart opening (IsPublishable opening) s l

module _ (opening : Opening) (s : State) (l : IsLawfulState opening (IsPublishable opening) s) where
  readable : (r : ℕ) (stage : Stage) (readings : List (List ℕ)) → slice_get s.readers r ≡ Some (reader stage readings) → Stands opening (IsPublishable opening) s.words s.writer readings r stage → IsReadable stage
  readable r AtRest readings at h = tt
  readable r Arrived readings at h = tt
  readable r (Reading side words) readings at h = h.1
  readable r (Leaving side words) readings at h =
      let cut = leaving_reads opening (IsPublishable opening) s l r side words readings at in (h.1, subst IsSheet (sym cut.1) cut.2.1)

  ends : (r : ℕ) (stage : Stage) (readings : List (List ℕ)) → Stands opening (IsPublishable opening) s.words s.writer readings r stage → EndsWith readings stage
  ends r AtRest readings h = tt
  ends r Arrived readings h = tt
  ends r (Reading side words) readings h = tt
  ends r (Leaving side words) readings h = h.3

  -- what a reader knows
  pub state_known : (r : ℕ) (v : ReaderView) → slice_get s.readers r ≡ Some v → IsKnown opening v
  state_known r v at =
      let ok = l.each_reader r v at in
      record {
        list = s.writer.state.published;
        cuts = s.writer.cuts;
        records = with_records opening (IsPublishable opening) s l (published_legal opening (IsPublishable opening) s l).0 (v.readings ∷ []) (ok.record_legal, tt);
        readable = readable r v.stage v.readings at ok.stands;
        ends = ends r v.stage v.readings ok.stands;
      }
