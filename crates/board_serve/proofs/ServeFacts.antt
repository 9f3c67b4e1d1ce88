-- What `serve` has written, at each of its ends.
use Rattle.std.proofs.Common.{◌≡◌, ◌⊎◌, inl, inr, ℕ, Bool, true, false, List, [], ◌∷◌, ◌++◌, length, map, Option, Some, None, Result, Ok, Err, refl, sym, ap, ◌∙◌, subst, append_assoc}
use Rattle.std.proofs.KnownBytes.{Appends-nil, Appends-trans}
use Rattle.std.proofs.lemmas.List.{append-nil}
use Rattle.std.specs.Io.KnownBytes.{Appends}
use Rattle.std.specs.Prelude.{IsErrOf}
use Rattle.council_core.specs.Sequential.{Reply, answered}
use Rattle.council_core.specs.declared.refusals.Refusal.TheVariants as refusal
use Rattle.board_text.specs.Lines.{LineBytes, audit_line, fault_line, reply_line}
use Rattle.board_text.specs.Output.{AppendsFront, AppendsLines, Ends, EndsRun, EndsStopped, IsBroken, IsPrefixOf, Writes, WritesRun, WritesUntilStop, fault_of}
use Rattle.board_text.specs.OutputStates.{OutputState}
use Rattle.board_text.specs.Text.{Run, end_lines, fault_at, line_text, output, printed_run, stopped_run, text_of, with_lines}
use Rattle.board_text.specs.declared.faults.Fault.{Fault}
use Rattle.council_core.specs.declared.calls.Answer.{Answer}
use Rattle.board_text.specs.declared.stops.Stop.{Stop}
use Rattle.board_text.specs.declared.stops.Stop.TheVariants as stop
use Rattle.board_text.proofs.Face.{appends-same, front-before, front-none, front-then, line-then, text-after, writes-after, writes-more, writes-passed, writes-spelled}
use Rattle.board_text.specs.Scripts.{Course, run_in}
use Rattle.std.specs.Result.{result_err}
use Rattle.board_serve.specs.Outcomes.{IsServed, ServedLegalRecords, reported_by}
use Rattle.board_serve.specs.Plans.{Planned}
use Rattle.board_serve.specs.Serving.{Differs, EndsHeldUp, IsReportStop, IsServeRun, WritesServeOutput, WritesServeRun, WritesServeUntilStop, audited_run, count_lines, lines_of_work, work_lines}
use Rattle.board_serve.specs.Work.{StopsAll}
use Rattle.board_serve.specs.declared.serving.Served.{Served}
use Rattle.board_serve.proofs.WorkFacts.{IsHeldUp, all-held}

abbrev answer_line : Answer → LineBytes
answer_line a = reply_line (answered a)

-- the line of an answer is that of the reply
mapped : (answers : List Answer) → map reply_line (map answered answers) ≡ map answer_line answers
mapped [] = refl
mapped (a ∷ more) = ap (λ (ls : List LineBytes). answer_line a ∷ ls) (mapped more)

-- a report is the lines of the answers, those of the counts, and the result of the audit
module _ (answers : List Answer) (counts : List ℕ) (legal : Bool) where
  abbrev pub report_run : Run
  report_run = with_lines (lines_of_work (map answered answers) counts) (audited_run legal)

  abbrev counted : Run
  counted = with_lines (count_lines 1 counts) (audited_run legal)

  in-parts : with_lines (map answer_line answers) counted ≡ report_run
  in-parts =
      let tail = audited_run legal in
      let run : List LineBytes → Run = λ ls. record { lines = ls; end = tail.end } in
      ap run (sym (append_assoc (map answer_line answers) (count_lines 1 counts) tail.lines)
      ∙ ap (λ (ls : List LineBytes). (ls ++ count_lines 1 counts) ++ tail.lines) (sym (mapped answers)))

  as-parts : (a b : Option (List ℕ)) (r : Result (Unit {0}) Stop) → WritesRun a b r (with_lines (map answer_line answers) counted) → WritesRun a b r report_run
  as-parts a b r p = let P : Run → Type 0 = λ run. WritesRun a b r run in subst P in-parts p

  -- a line of the answers was stopped
  pub answers-stop : (a b : Option (List ℕ)) (e d : Stop) → d ≡ e → WritesUntilStop a b e (printed_run (map answer_line answers)) → WritesUntilStop a b d report_run
  answers-stop a b e d same p = writes-passed a b e d report_run same (as-parts a b (Err e) (writes-more a b e (map answer_line answers) counted p))

  -- a line of the counts was stopped
  pub counts-stop : (a b c : Option (List ℕ)) (u : Unit {0}) (e d : Stop) → d ≡ e → WritesRun a b (Ok u) (printed_run (map answer_line answers)) → WritesUntilStop b c e (printed_run (count_lines 1 counts))
      → WritesUntilStop a c d report_run
  counts-stop a b c u e d same p q =
      writes-passed a c e d report_run same
      (as-parts a c (Err e) (writes-after {A = Unit {0}} a b c (map answer_line answers) (Err e) counted p.1 (writes-more b c e (count_lines 1 counts) (audited_run legal) q)))

  -- all lines before the result of the audit were written
  pub audit-then : (a b c z : Option (List ℕ)) (u v : Unit {0}) (r : Result (Unit {0}) Stop) → WritesRun a b (Ok u) (printed_run (map answer_line answers)) → WritesRun b c (Ok v) (printed_run (count_lines 1 counts))
      → WritesRun c z r (audited_run legal) → WritesRun a z r report_run
  audit-then a b c z u v r p q s = as-parts a z r (writes-after a b z (map answer_line answers) r counted p.1 (writes-after b c z (count_lines 1 counts) r (audited_run legal) q.1 s))

-- the result of the audit: a mismatch, or its line
pub mismatch-plays : (a : Option (List ℕ)) (legal : Bool) (e : Stop) → legal ≡ false → e ≡ stop.Fault (fault_at refusal.Mismatch 0) → WritesUntilStop a a e (audited_run legal)
mismatch-plays a legal e broken same = rw (broken, same) (refl, Appends-nil a)

pub audit-plays : (a b : Option (List ℕ)) (legal : Bool) (r : Result (Unit {0}) Stop) (line : LineBytes) → legal ≡ true → line ≡ audit_line → Writes a b r (line_text line) → WritesRun a b r (audited_run legal)
audit-plays a b legal r line sound spelled w = rw sound (writes-spelled a b r line audit_line spelled w)

-- out of memory, or a failed read, before anything is written
broken-run : (spec : Result Planned Fault) (f : Fault) → IsBroken f → IsServeRun spec (stopped_run f)
broken-run (Err g) f h = inr (refl, h)
broken-run (Ok p) f h = inl (refl, h)

front-of-none : {A : Type 0} (front rest : List A) → [] ≡ front ++ rest → front ≡ []
front-of-none [] rest is = refl
front-of-none (x ∷ front) rest is = cc is

-- lines before a fault that is out of memory or a failed read: none, where the run has none
no-lines-before : (a b : Option (List ℕ)) (f : Fault) (run : Run) (spec : Result Planned Fault) → IsBroken f → run.lines ≡ [] → AppendsLines a b run.lines
    → (r : Run) × IsServeRun spec r × WritesServeUntilStop a b (Some f) r
no-lines-before a b f run spec broken none p =
    let front : p.0 ≡ [] = front-of-none p.0 p.1.0 (sym none ∙ p.1.1) in
    (stopped_run f, broken-run spec f broken, (refl, appends-same a b _ _ (ap text_of front) p.2))

is-fault : {S : Type 0} (end : Result S Fault) (f : Fault) → result_err end ≡ Some f → end ≡ Err f
is-fault (Ok s) f e = cc e
is-fault (Err g) f e = ap Err (cc e)

-- the input gave no plan, and its course has no lines
pub fails-serve : (a b : Option (List ℕ)) (e d : Stop) (course : Course Planned) → d ≡ e → course.lines ≡ [] → WritesUntilStop a b e (run_in course) → WritesServeRun a b (Err d) course.end
fails-serve a b stop.OutOfMemory d course same none p = rw same (no-lines-before a b _ (run_in course) course.end (inl refl) none p)
fails-serve a b stop.ReadFault d course same none p = rw same (no-lines-before a b _ (run_in course) course.end (inr refl) none p)
fails-serve a b stop.WriteFault d course same none p =
    let front : p.0 ≡ [] = front-of-none p.0 p.1.0 (sym (ap text_of none) ∙ p.1.1) in
    rw same (stopped_run (fault_at refusal.OutOfMemory 0), broken-run course.end _ (inl refl), ([], front-none _, appends-same a b _ _ front p.2))
fails-serve a b (stop.Fault f) d course same none p =
    rw (same, is-fault course.end f p.0) (stopped_run f, inl (refl, refl), (refl, appends-same a b _ _ (ap text_of none) p.1))

-- nothing was written before
pub after-nothing : (a b c : Option (List ℕ)) (r : Result Served Stop) (spec : Result Planned Fault) → Appends a b [] → WritesServeRun b c r spec → WritesServeRun a c r spec
after-nothing a b c (Ok s) spec nothing p = (p.0, p.1, p.2, p.3, Appends-trans a b c [] _ nothing p.4)
after-nothing a b c (Err e) spec nothing p = (p.0, p.1, stops-on (fault_of e) p.2)
  where
    stops-on : (f : Option Fault) → WritesServeUntilStop b c f p.0 → WritesServeUntilStop a c f p.0
    stops-on None t = (t.0, t.1, Appends-trans a b c [] _ nothing t.2)
    stops-on (Some f) t = (t.0, Appends-trans a b c [] _ nothing t.1)

-- a thread was held up
pub held-serve : (a : Option (List ℕ)) (e d : Stop) (p : Planned) → d ≡ e → StopsAll p.start p.records.orders e → WritesServeRun a a (Err d) (Ok p)
held-serve a e d p same stops = rw same (by-held (all-held p.start p.records.orders e stops))
  where
    by-held : IsHeldUp e → WritesServeRun a a (Err e) (Ok p)
    by-held (inl memory) = rw memory (stopped_run (fault_at refusal.OutOfMemory 0), inl (refl, inl refl), (refl, Appends-nil a))
    by-held (inr closed) =
        let by : StopsAll p.start p.records.orders (stop.Fault (fault_at refusal.GateClosed 0)) = subst (StopsAll p.start p.records.orders) closed stops in
        rw closed (stopped_run (fault_at refusal.GateClosed 0), inr (inl (refl, (_, by, refl))), (refl, Appends-nil a))

-- the fault of what stopped the threads
pub stopped-fault : (p : Planned) (front : List LineBytes) (f : Fault) → EndsHeldUp p front f → (f ≡ fault_at refusal.OutOfMemory 0) ⊎ (f ≡ fault_at refusal.GateClosed 0)
stopped-fault p front f (none, (e, stops, is)) = by-held (all-held p.start p.records.orders e stops)
  where
    same : {g : Fault} → fault_of e ≡ Some g → f ≡ g
    same told = let x : Some f ≡ Some _ = sym is ∙ told in cc x

    by-held : IsHeldUp e → (f ≡ fault_at refusal.OutOfMemory 0) ⊎ (f ≡ fault_at refusal.GateClosed 0)
    by-held (inl memory) = inl (same (ap fault_of memory))
    by-held (inr closed) = inr (same (ap fault_of closed))

-- a plan is stopped by no failed write, and a report by WriteFault only after one
pub held-unfailed : (out : OutputState) (e d : Stop) (p : Planned) → d ≡ e → StopsAll p.start p.records.orders e → IsErrOf {T = Served} (Err d) stop.WriteFault → out.failed ≡ true
held-unfailed out e d p same stops = by-held (all-held p.start p.records.orders e stops)
  where
    by-held : IsHeldUp e → IsErrOf {T = Served} (Err d) stop.WriteFault → out.failed ≡ true
    by-held (inl memory) = λ write. cc (same, memory, write)
    by-held (inr closed) = λ write. cc (same, closed, write)

pub report-failed : (out : OutputState) (e d : Stop) → d ≡ e → IsReportStop out e → IsErrOf {T = Served} (Err d) stop.WriteFault → out.failed ≡ true
report-failed out e d same (inl failed) = λ write. failed.1
report-failed out e d same (inr differs) = λ write. cc (same, differs, write)

-- the run of a plan that was carried out
abbrev pub done_run : Planned → Bool → Run
done_run p legal = with_lines (work_lines p) (audited_run legal)

is-run : (p : Planned) (legal : Bool) → (legal ≡ false → Differs p) → IsServeRun (Ok p) (done_run p legal)
is-run p true differs = refl
is-run p false differs = inr (inr (append-nil (work_lines p), refl, differs refl))

-- a prefix of the lines is a prefix of the output
cut-output : (a b : Option (List ℕ)) (run : Run) → AppendsFront a b (text_of run.lines) → AppendsFront a b (output run)
cut-output a b run t =
    let P : List ℕ → Type 0 = λ text. IsPrefixOf t.0 text in
    (t.0, subst P (sym (text-after run.lines (end_lines run.end))) (front-before t.0 (text_of run.lines) (text_of (end_lines run.end)) t.1), t.2)

-- the report was written
whole : (a b : Option (List ℕ)) (legal : Bool) (u : Unit {0}) (p : Planned) (s : Served) → IsServed p s → (legal ≡ true → ServedLegalRecords p s) → WritesRun a b (Ok u) (done_run p legal) → WritesServeRun a b (Ok s) (Ok p)
whole a b true u p s served records t = (p, refl, served, records refl, t.1)
whole a b false u p s served records t = cc t.0

-- the report was stopped, or found a mismatch
report-serve : (a b : Option (List ℕ)) (out : OutputState) (legal : Bool) (e : Stop) (p : Planned) → IsReportStop out e → (legal ≡ false → Differs p) → WritesUntilStop a b e (done_run p legal) → WritesServeRun a b (Err e) (Ok p)
report-serve a b out legal stop.WriteFault p causes differs t = (done_run p legal, is-run p legal differs, cut-output a b (done_run p legal) t)
report-serve a b out legal (stop.Fault f) p causes differs t = (done_run p legal, is-run p legal differs, t)
report-serve a b out legal stop.OutOfMemory p (inl e) differs t = let x = e.0 in cc x
report-serve a b out legal stop.OutOfMemory p (inr e) differs t = cc e
report-serve a b out legal stop.ReadFault p (inl e) differs t = let x = e.0 in cc x
report-serve a b out legal stop.ReadFault p (inr e) differs t = cc e

-- what the threads did of a plan, what the audit found of it, and what is reported
pub record Audited (p : Planned) (s : Served) (legal : Bool) (answers : List Answer) (counts : List ℕ) : Type 0 where
  pub served : IsServed p s
  pub records : legal ≡ true → ServedLegalRecords p s
  pub differs : legal ≡ false → ServedLegalRecords p s → ⊥
  pub replies : map answered answers ≡ reported_by p
  pub counted : counts ≡ map length p.records.asked

module _ (a b : Option (List ℕ)) (p : Planned) (s : Served) (legal : Bool) (answers : List Answer) (counts : List ℕ) (done : Audited p s legal answers counts) where
  as-done : (r : Result (Unit {0}) Stop) → WritesRun a b r (report_run answers counts legal) → WritesRun a b r (done_run p legal)
  as-done r t =
      let P : List LineBytes → Type 0 = λ ls. WritesRun a b r (with_lines ls (audited_run legal)) in
      subst P (ap (λ (rs : List Reply). lines_of_work rs counts) done.replies ∙ ap (lines_of_work (reported_by p)) done.counted) t

  pub stopped-serve : (out : OutputState) (e d : Stop) → d ≡ e → IsReportStop out e → WritesUntilStop a b e (report_run answers counts legal) → WritesServeRun a b (Err d) (Ok p)
  stopped-serve out e d same causes t = rw same (report-serve a b out legal e p causes (λ broken. (s, done.served, done.differs broken)) (as-done (Err e) t))

  pub whole-serve : (u : Unit {0}) → WritesRun a b (Ok u) (report_run answers counts legal) → WritesServeRun a b (Ok s) (Ok p)
  whole-serve u t = whole a b legal u p s done.served done.records (as-done (Ok u) t)

-- the end of a run whose output is in the state `b` when it stops, and `c` after the line of its fault
module _ (Failed : Type 0) (a : Option (List ℕ)) (b c : OutputState) (failed : c.failed ≡ true → Failed) where
  ended : (f g : Fault) (spec : Result Planned Fault) (run : Run) → IsServeRun spec run → WritesServeUntilStop a b.contents (Some f) run → Ends b c f g → WritesServeOutput Failed a c.contents (Err g) spec
  ended f g spec run is t (inl h) =
      let P : Option Fault → Type 0 = λ end. Appends a c.contents (text_of (run.lines ++ end_lines end)) in
      rw h.0 (run, is, inl (t.0, subst P (sym t.0) (line-then a b.contents c.contents run.lines (fault_line f) t.1 h.1)))
  ended f g spec run is t (inr h) =
      let P : Option Fault → Type 0 = λ end. AppendsFront a c.contents (text_of (run.lines ++ end_lines end)) in
      (run, is, inr (h.0, failed h.1, subst P (sym t.0) (front-then a b.contents c.contents run.lines (fault_line f) t.1 h.2)))

  -- the end of a run that was stopped, after what was written
  ended-stop : (e : Stop) (r : Result Served Fault) (spec : Result Planned Fault) (run : Run) → (e ≡ stop.WriteFault → b.failed ≡ true) → IsServeRun spec run → WritesServeUntilStop a b.contents (fault_of e) run
      → EndsStopped b c (fault_of e) r → WritesServeOutput Failed a c.contents r spec
  ended-stop stop.WriteFault (Err g) spec run by is t end =
      let P : OutputState → Type 0 = λ s. AppendsFront a s.contents (output run) in
      (run, is, inr (end.0, failed (ap (λ (s : OutputState). s.failed) end.1 ∙ by refl), subst P (sym end.1) t))
  ended-stop stop.OutOfMemory (Err g) spec run by is t end = ended _ g spec run is t end
  ended-stop stop.ReadFault (Err g) spec run by is t end = ended _ g spec run is t end
  ended-stop (stop.Fault f) (Err g) spec run by is t end = ended f g spec run is t end
  ended-stop stop.OutOfMemory (Ok s) spec run by is t end = absurd end
  ended-stop stop.ReadFault (Ok s) spec run by is t end = absurd end
  ended-stop stop.WriteFault (Ok s) spec run by is t end = absurd end
  ended-stop (stop.Fault f) (Ok s) spec run by is t end = absurd end

  pub ended-serve : (carried : Result Served Stop) (r : Result Served Fault) (spec : Result Planned Fault) → (carried ≡ Err stop.WriteFault → b.failed ≡ true) → WritesServeRun a b.contents carried spec → EndsRun b c carried r → WritesServeOutput Failed a c.contents r spec
  ended-serve (Ok s) r spec by p e = rw (e.0, e.1) p
  ended-serve (Err d) r spec by p e = ended-stop d r spec p.0 (λ is. by (ap Err is)) p.1 p.2 e
