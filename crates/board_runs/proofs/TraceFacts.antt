-- The lines of events, one event at a time.
use Rattle.std.proofs.Common.{◌≡◌, ℕ, suc, ◌+◌, ◌-◌, ◌<◌, List, ◌∷◌, ◌++◌, Option, Ok, Err, replicate, refl, sym, ap, ◌∙◌, arith, append_assoc}
use Rattle.std.specs.Io.KnownBytes.{Appends}
use Rattle.two_copy_steps.specs.Transitions.{MachineState, state_after_events, transition}
use Rattle.two_copy_steps.specs.declared.events.Event.{Event}
use Rattle.board_text.specs.Lines.{LineBytes}
use Rattle.board_runs.specs.Notes.{note_lines}
use Rattle.board_text.specs.Output.{WritesUntilStop, WritesRun}
use Rattle.board_text.specs.Text.{printed_run, text_of}
use Rattle.board_runs.specs.Traces.{output_lines}
use Rattle.board_text.specs.declared.stops.Stop.{Stop}
use Rattle.board_text.proofs.Face.{lines-then, writes-more, writes-passed, writes-whole, WrittenTo}

-- one event fewer is left
events-left : (n i : ℕ) (e : Event) → i < n → replicate (n - i) e ≡ e ∷ replicate (n - (i + 1)) e
events-left n i e within = let same : n - i ≡ suc (n - (i + 1)) = omega (arith, within) in rw same refl

module _ (m : MachineState) (e : Event) (n i : ℕ) (within : i < n) where
  -- the lines of an event, and then those of the events after it
  reported-left : output_lines m (replicate (n - i) e) ≡ note_lines (transition m e).1 ++ output_lines (transition m e).0 (replicate (n - (i + 1)) e)
  reported-left = ap (λ es. output_lines m es) (events-left n i e within)

  pub after-left : (x : MachineState) → x ≡ (transition m e).0 → state_after_events m (replicate (n - i) e) ≡ state_after_events x (replicate (n - (i + 1)) e)
  after-left x same = ap (λ es. state_after_events m es) (events-left n i e within) ∙ ap (λ y. state_after_events y (replicate (n - (i + 1)) e)) (sym same)

  module _ (a b c : Option (List ℕ)) (done whole : List LineBytes) (so_far : Appends a b (text_of done)) (parts : whole ≡ done ++ output_lines m (replicate (n - i) e)) where
    pub reported-goes : (u : Unit {0}) (x : MachineState) → WritesRun b c (Ok u) (printed_run (note_lines (transition m e).1)) → x ≡ (transition m e).0
        → (more : List LineBytes) × Appends a c (text_of more) × (whole ≡ more ++ output_lines x (replicate (n - (i + 1)) e))
    reported-goes u x p same = (
      done ++ note_lines (transition m e).1,
      lines-then a b c done (note_lines (transition m e).1) so_far p.1,
      parts ∙ ap (λ ls. done ++ ls) reported-left ∙ sym (append_assoc done (note_lines (transition m e).1) _)
          ∙ ap (λ y. (done ++ note_lines (transition m e).1) ++ output_lines y (replicate (n - (i + 1)) e)) (sym same),
    )

    pub reported-stops : (s d : Stop) → d ≡ s → WritesUntilStop b c s (printed_run (note_lines (transition m e).1)) → WritesUntilStop a c d (printed_run whole)
    reported-stops s d same p =
        let rest = output_lines (transition m e).0 (replicate (n - (i + 1)) e) in
        let interpreted : WrittenTo a b (printed_run whole) (printed_run (note_lines (transition m e).1 ++ rest)) =
        record { lines = done; written = so_far; goes_on = ap printed_run (parts ∙ ap (λ ls. done ++ ls) reported-left) } in
        writes-passed a c s d (printed_run whole) same (writes-whole {A = Unit {0}} a b c (Err s) _ _ interpreted (writes-more b c s (note_lines (transition m e).1) (printed_run rest) p))
