-- The rule by a state that is known to be the one after its history.
use Rattle.board_share.proofs.Names.{ap, as_reader, as_writer, get_elem?, History, HoldsBy, IsLawfulBoard, known_after}
use Rattle.board_share.proofs.Names.{KnowsPrefix, length, machine_of, refl, RuleHolds, Seated, ShareStart, slice_get}
use Rattle.board_share.proofs.Names.{Some, some, subst, sym, View, ℕ, ◌∙◌, ◌≡◌}
use Rattle.std.specs.Option.{option_map}
use Rattle.atomic_table.specs.Table as table
use Rattle.two_copy_steps.specs.declared.views.ReaderView.{ReaderView}
use Rattle.two_copy_steps.specs.Lawful.{State}

pub record RuleHoldsByState (origin : ShareStart) (s : table.State Unit View) : Type 0 where
  pub history : History
  pub same_origin : history.origin ≡ origin
  pub prefixes : (id : ℕ) (v : View) → get_elem? s.views id ≡ some v → KnowsPrefix v history
  pub state : State
  pub reached : state ≡ known_after history
  pub register : (machine_of history).ledger ≡ record origin.register { journal = state.writer.state.staged }
  pub words : s.words ≡ state.words
  pub lawful : IsLawfulBoard origin.register.opening state
  pub count : length state.readers ≡ origin.readers
  pub writer : Seated as_writer s.views (Some (origin.register.opening, state.writer))
  pub readers : (r : ℕ) → Seated (as_reader r) s.views (option_map (λ (v : ReaderView). (origin.register.opening, v)) (slice_get state.readers r))

module _ (origin : ShareStart) (s : table.State Unit View) where
  pub by_state : RuleHolds origin s → RuleHoldsByState origin s
  by_state k =
      let m : State = known_after k.history in
      record {
        history = k.history;
        same_origin = k.same_origin;
        prefixes = k.after.prefixes;
        state = m;
        reached = refl;
        register = k.register.register ∙ ap (λ (b : ShareStart). record b.register { journal = m.writer.state.staged }) k.same_origin;
        words = k.after.words;
        lawful = k.lawful;
        count = k.count;
        writer = subst (λ (b : ShareStart). Seated as_writer s.views (Some (b.register.opening, m.writer))) k.same_origin k.after.writer;
        readers = λ r. subst (λ (b : ShareStart). Seated (as_reader r) s.views (option_map (λ (v : ReaderView). (b.register.opening, v)) (slice_get m.readers r))) k.same_origin (k.after.readers r);
      }

  pub by_history : RuleHoldsByState origin s → RuleHolds origin s
  by_history k =
      let m : State = known_after k.history in
      let e = k.reached in
      let b = sym k.same_origin in
      record {
        history = k.history;
        same_origin = k.same_origin;
        after = record {
          words = k.words ∙ ap (λ (x : State). x.words) e;
          writer = subst (λ (x : ShareStart). Seated as_writer s.views (Some (x.register.opening, m.writer))) b (subst (λ (x : State). Seated as_writer s.views (Some (origin.register.opening, x.writer))) e k.writer);
          readers = λ r. subst (λ (x : ShareStart). Seated (as_reader r) s.views (option_map (λ (v : ReaderView). (x.register.opening, v)) (slice_get m.readers r))) b
              (subst (λ (x : State). Seated (as_reader r) s.views (option_map (λ (v : ReaderView). (origin.register.opening, v)) (slice_get x.readers r))) e (k.readers r));
          prefixes = k.prefixes;
        };
        register = record {
          writer = refl;
          register = k.register ∙ (ap (λ (x : State). record origin.register { journal = x.writer.state.staged }) e ∙ ap (λ (x : ShareStart). record x.register { journal = m.writer.state.staged }) b);
        };
        lawful = subst (IsLawfulBoard origin.register.opening) e k.lawful;
        count = ap (λ (x : State). length x.readers) (sym e) ∙ k.count;
      }

  -- both are by one history
  pub same_history : (rule : RuleHolds origin s) → (by_state rule).history ≡ rule.history
  unfolding by_state
  same_history rule = refl

  pub by_its_history : (k : RuleHoldsByState origin s) → HoldsBy origin k.history s
  unfolding by_history
  by_its_history k = (by_history k, refl)
