-- Facts that follow about a run from the result of its replay.
use Rattle.std.proofs.Common.{◌≡◌, ◌≢◌, ◌≤◌, ◌<◌, ◌⊎◌, inl, inr, ℕ, true, false, List, Option, Some, None, IsTrue, length, nat_le, refl, sym, ap, ◌∙◌, arith, lit<}
use Rattle.std.proofs.lemmas.Bool.Decides.{leb_tells}
use Rattle.std.proofs.lemmas.List.{take_all}
use Rattle.council_core.specs.Refusals.{code_of}
use Rattle.council_core.specs.declared.refusals.Refusal.TheVariants.{OutOfMemory, ReadFault, WriteFault}
use Rattle.board_text.specs.Text.{Run, fault_at}
use Rattle.board_text.specs.declared.faults.Fault.{Fault}
use Rattle.board_runs.proofs.Face.{is_of_input}
use Rattle.board_c.specs.Shown.{IsLonger, IsTextOf, IsWhole, ShowsRun, end_in}
use Rattle.board_c.specs.Ends.{answer_of, record_of}
use Rattle.board_c.specs.declared.TheConstants.{DONE}

-- the end that is answered is that of a text that fits, or else the writer's fault
abbrev Fitting : ℕ → List ℕ → Option Fault → Type 0
Fitting n text end = ((length text ≤ n) × (end_in n text end ≡ end)) ⊎ ((n < length text) × (end_in n text end ≡ Some (fault_at WriteFault 0)))

fitting : (n : ℕ) (text : List ℕ) (end : Option Fault) → Fitting n text end
fitting n text end = by_test (leb_tells (length text) n)
  where
    by_test : ((nat_le (length text) n ≡ true) × (length text ≤ n)) ⊎ ((nat_le (length text) n ≡ false) × (n < length text)) → Fitting n text end
    by_test (inl (test, fits)) = inl (fits, rw test refl)
    by_test (inr (test, long)) = inr (long, rw test refl)

module _ (run : Run) (ends : (f : Fault) → run.end ≡ Some f → IsTrue (is_of_input f.code)) where
  -- a text that ends in no fault is all that the run writes
  ended-well : (text : List ℕ) (end : Option Fault) → IsTextOf run text end → answer_of end ≡ DONE → IsWhole run text
  ended-well text None (inl own) is = (sym own.1, own.0)
  ended-well text (Some f) (inl own) is = let h = ends f (sym own.1) in let at : IsTrue (is_of_input DONE) = rw is at h in absurd (cc at)
  ended-well text end (inr (same, broken)) is = let h : answer_of end ≡ 10 = ap answer_of same in absurd (cc)

  -- a text's own end is no fault of a device
  ended-by_itself : (why : ℕ) (text : List ℕ) (end : Option Fault) → IsTextOf run text end → is_of_input why ≡ false → DONE < why → why ≢ code_of OutOfMemory → answer_of end ≢ why
  ended-by_itself why text None (inl own) other some memory is = let at : DONE < DONE = rw is some in omega (arith, at)
  ended-by_itself why text (Some f) (inl own) other some memory is =
      let h = ends f (sym own.1) in
      let at : is_of_input f.code ≡ false = ap is_of_input is ∙ other in
      absurd (cc (h, at))
  ended-by_itself why text end (inr (same, broken)) other some memory is = memory (sym is ∙ ap answer_of same)

  module _ (n : ℕ) (shown : List ℕ) (answer place : ℕ) (shows : ShowsRun run n shown answer place) where
    -- where the text fits, its end is answered
    fits-answer : end_in n shows.text shows.end ≡ shows.end → answer ≡ answer_of shows.end
    fits-answer is = shows.number ∙ ap answer_of is

    long-answer : end_in n shows.text shows.end ≡ Some (fault_at WriteFault 0) → answer ≡ code_of WriteFault
    long-answer is = shows.number ∙ ap answer_of is

    pub shows-done : answer ≡ DONE → IsWhole run shown
    shows-done done = by_room (fitting n shows.text shows.end)
      where
        by_room : Fitting n shows.text shows.end → IsWhole run shown
        by_room (inl (fits, is)) =
            let well = ended-well shows.text shows.end shows.of_the_run (sym (fits-answer is) ∙ done) in
            (well.0, shows.front ∙ take_all n shows.text fits ∙ well.1)
        by_room (inr (long, is)) = let at : DONE ≡ code_of WriteFault = sym done ∙ long-answer is in absurd (cc at)

    -- a result that is neither a fault of the input nor OutOfMemory is the writer's
    only-long : (why : ℕ) → is_of_input why ≡ false → DONE < why → why ≢ code_of OutOfMemory → answer ≡ why → (n < length shows.text) × (why ≡ code_of WriteFault)
    only-long why other some memory is = by_room (fitting n shows.text shows.end)
      where
        by_room : Fitting n shows.text shows.end → (n < length shows.text) × (why ≡ code_of WriteFault)
        by_room (inl (fits, same)) = absurd (ended-by_itself why shows.text shows.end shows.of_the_run other some memory (sym (fits-answer same) ∙ is))
        by_room (inr (long, same)) = (long, sym is ∙ long-answer same)

    pub shows-reads : answer ≢ code_of ReadFault
    shows-reads read = let at = only-long (code_of ReadFault) refl (lit< tt) (λ same. cc same) read in cc at.1

    pub shows-writes : answer ≡ code_of WriteFault → IsLonger run n
    shows-writes write = (shows.text, shows.end, shows.of_the_run, (only-long (code_of WriteFault) refl (lit< tt) (λ same. cc same) write).0)

-- where the answer is the number of the run's own fault, the number of its record is there, too
pub shows-place : (run : Run) (f : Fault) (n : ℕ) (shown : List ℕ) (place : ℕ) → ShowsRun run n shown f.code place → run.end ≡ Some f → f.code ≢ code_of OutOfMemory → f.code ≢ code_of WriteFault → place ≡ f.place
shows-place run f n shown place shows ended memory write = by_room (fitting n shows.text shows.end) shows.of_the_run
  where
    by_room : Fitting n shows.text shows.end → IsTextOf run shows.text shows.end → place ≡ f.place
    by_room (inl (fits, same)) (inl own) = shows.at ∙ ap record_of (same ∙ own.1 ∙ ended)
    by_room (inl (fits, same)) (inr (lacks, broken)) = absurd (memory (shows.number ∙ ap answer_of (same ∙ lacks)))
    by_room (inr (long, same)) text = absurd (write (shows.number ∙ ap answer_of same))
