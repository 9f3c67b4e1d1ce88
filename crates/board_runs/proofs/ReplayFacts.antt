-- The run of a whole input, and its end.
use Rattle.std.proofs.Common.{◌≡◌, inl, inr, ℕ, true, List, [], ◌∷◌, ◌++◌, Option, Some, Result, Ok, Err, refl, sym, ap, ◌∙◌, subst}
use Rattle.std.proofs.lemmas.List.{append-nil}
use Rattle.std.specs.Io.KnownBytes.{Appends}
use Rattle.recording_io.specs.Tapes.{ReaderRecord, OfInput}
use Rattle.council_core.specs.declared.refusals.Refusal.TheVariants as refusal
use Rattle.board_text.specs.Lines.{fault_line}
use Rattle.board_text.specs.Text.{Run, end_lines, fault_at, output, text_of}
use Rattle.board_text.specs.Output.{AppendsFront, AppendsLines, Ends, EndsRun, EndsStopped, IsBroken, IsPrefixOf, WritesRun, WritesUntilStop, fault_of}
use Rattle.board_text.specs.OutputStates.{OutputState}
use Rattle.board_runs.specs.Ended.{WritesUntilFault, WritesOutput}
use Rattle.board_text.specs.declared.faults.Fault.{Fault}
use Rattle.board_text.specs.declared.stops.Stop.{Stop}
use Rattle.board_text.specs.declared.stops.Stop.TheVariants as stop
use Rattle.board_text.proofs.Face.{appends-same, front-before, front-then, line-then, text-after}

-- the end of a run whose output is in the state `b` when it stops, and `c` after the line of its fault
module _ (Failed : Type 0) (a : Option (List ℕ)) (b c : OutputState) (failed : c.failed ≡ true → Failed) where
  -- a run cut by the writer
  cut-run : (run : Run) → Failed → WritesUntilStop a b.contents stop.WriteFault run → WritesUntilFault Failed a b.contents (fault_at refusal.WriteFault 0) run
  cut-run run by p =
      let P : List ℕ → Type 0 = λ t. IsPrefixOf p.0 t in
      let front = subst P (sym (text-after run.lines (end_lines run.end))) (front-before p.0 (text_of run.lines) (text_of (end_lines run.end)) p.1) in
      inr (inr (refl, by, (output run, inl refl, (p.0, front, p.2))))

  broken-ends : (f g : Fault) (run : Run) → IsBroken f → AppendsLines a b.contents run.lines → Ends b c f g → WritesUntilFault Failed a c.contents g run
  broken-ends f g run broken p (inl e) =
      rw e.0 (inr (inl (broken, (text_of (p.0 ++ fault_line f ∷ []), (p.0, p.1, refl), line-then a b.contents c.contents p.0 (fault_line f) p.2 e.1))))
  broken-ends f g run broken p (inr e) =
      inr (inr (e.0, failed e.1, (text_of (p.0 ++ fault_line f ∷ []), inr (f, broken, (p.0, p.1, refl)), front-then a b.contents c.contents p.0 (fault_line f) p.2 e.2)))

  reported-ends : (f g : Fault) (run : Run) → run.end ≡ Some f → Appends a b.contents (text_of run.lines) → Ends b c f g → WritesUntilFault Failed a c.contents g run
  reported-ends f g run reported p (inl e) =
      let same : output run ≡ text_of (run.lines ++ fault_line f ∷ []) = ap (λ x. text_of (run.lines ++ end_lines x)) reported in
      rw e.0 (inl (reported, appends-same a c.contents _ _ (sym same) (line-then a b.contents c.contents run.lines (fault_line f) p e.1)))
  reported-ends f g run reported p (inr e) =
      let same : output run ≡ text_of (run.lines ++ fault_line f ∷ []) = ap (λ x. text_of (run.lines ++ end_lines x)) reported in
      let P : List ℕ → Type 0 = λ t. AppendsFront a c.contents t in
      inr (inr (e.0, failed e.1, (output run, inl refl, subst P (sym same) (front-then a b.contents c.contents run.lines (fault_line f) p e.2))))

  -- a run that was stopped, and the line of its fault
  stopped-run : {A : Type 0} (s : Stop) (r : Result A Fault) (run : Run) → (s ≡ stop.WriteFault → b.failed ≡ true) → WritesUntilStop a b.contents s run → EndsStopped b c (fault_of s) r → WritesOutput Failed a c.contents r run
  stopped-run stop.OutOfMemory (Err g) run by p e = broken-ends _ g run (inl refl) p e
  stopped-run stop.ReadFault (Err g) run by p e = broken-ends _ g run (inr refl) p e
  stopped-run stop.WriteFault (Err g) run by p e =
      let P : OutputState → Type 0 = λ s. WritesUntilFault Failed a s.contents g run in
      subst P (sym e.1) (rw e.0 (cut-run run (failed (ap (λ (s : OutputState). s.failed) e.1 ∙ by refl)) p))
  stopped-run (stop.Fault h) (Err g) run by p e = reported-ends h g run p.0 p.1 e
  stopped-run stop.OutOfMemory (Ok u) run by p e = absurd e
  stopped-run stop.ReadFault (Ok u) run by p e = absurd e
  stopped-run stop.WriteFault (Ok u) run by p e = absurd e
  stopped-run (stop.Fault h) (Ok u) run by p e = absurd e

  whole-run : {A : Type 0} (u : A) (r : Result A Fault) (run : Run) → WritesRun a b.contents (Ok u) run → EndsRun b c (Ok u) r → WritesOutput Failed a c.contents r run
  whole-run u r run p e =
      let same : output run ≡ text_of run.lines = ap (λ x. text_of (run.lines ++ end_lines x)) p.0 ∙ ap text_of (append-nil run.lines) in
      rw (e.0, e.1) (p.0, appends-same a b.contents _ _ (sym same) p.1)

  ended-run : {A : Type 0} (carried : Result A Stop) (r : Result A Fault) (run : Run) → (carried ≡ Err stop.WriteFault → b.failed ≡ true) → WritesRun a b.contents carried run → EndsRun b c carried r → WritesOutput Failed a c.contents r run
  ended-run (Ok u) r run by p e = whole-run u r run p e
  ended-run (Err s) r run by p e = stopped-run s r run (λ is. by (ap Err is)) p e

  -- a run of an input that ended
  pub replayed : {A : Type 0} (from to : ReaderRecord) (carried : Result A Stop) (r : Result A Fault) (run : List ℕ → Run)
      → (carried ≡ Err stop.WriteFault → b.failed ≡ true) → OfInput from to (λ bytes. WritesRun a b.contents carried (run bytes)) → EndsRun b c carried r → OfInput from to (λ bytes. WritesOutput Failed a c.contents r (run bytes))
  replayed from to carried r run by p e = λ bytes is. ended-run carried r (run bytes) by (p bytes is) e
