-- Cases of each part of a text's end, its length and its room.
use Rattle.std.proofs.Common.{◌≡◌, ◌<◌, ◌++◌, ◌⊎◌, ⊎_elim, Some, None, Option, inl, inr, ℕ, List, [], ◌∷◌, Bool, true, false, length, nat_le, refl, sym, ap, ◌∙◌, arith}
use Rattle.std.specs.Prelude.{if◌then◌else◌}
use Rattle.std.specs.Fmt.{digits}
use Rattle.council_core.specs.Refusals.{code_of}
use Rattle.council_core.specs.declared.refusals.Refusal.TheVariants.{BadRecord, OutOfMemory, WriteFault}
use Rattle.board_text.specs.Output.{IsPrefixOf}
use Rattle.board_text.specs.Lines.{LineBytes, fault_line}
use Rattle.board_text.specs.Text.{fault_at, text_of}
use Rattle.board_text.specs.declared.faults.Fault.{Fault}
use Rattle.board_c.specs.Shown.{IsLonger, IsTextOf, IsWhole, Measures, ShowsRun, end_in}
use Rattle.board_c.specs.Ends.{answer_of, record_of}
use Rattle.board_c.specs.declared.TheConstants.{DONE}
use Rattle.board_c.proofs.RunCases.{one_fault, one_line}

-- a text that ends without a fault is the run's own, and any other end of a run without a fault is out of memory
own_text : (text : List ℕ) → IsTextOf one_line text None → text ≡ 65 ∷ 10 ∷ []
own_text text (inl own) = own.0
own_text text (inr lacks) = cc lacks.0

own_end : (text : List ℕ) (end : Option Fault) → IsTextOf one_line text end → (end ≡ None) ⊎ (end ≡ Some (fault_at OutOfMemory 0))
own_end text end (inl own) = inl own.1
own_end text end (inr lacks) = inr lacks.0

-- the end in a buffer of n bytes is the run's, out of memory, or that the buffer was too short
abbrev End : Option Fault → Type 0
End end = (end ≡ None) ⊎ ((end ≡ Some (fault_at OutOfMemory 0)) ⊎ (end ≡ Some (fault_at WriteFault 0)))

end_of : (n : ℕ) (text : List ℕ) (end : Option Fault) → IsTextOf one_line text end → End (end_in n text end)
end_of n text end of_run = by_room (nat_le (length text) n)
  where
    by_room : (fits : Bool) → End (if fits then end else Some (fault_at WriteFault 0))
    by_room true = ⊎_elim (λ e. inl e) (λ e. inr (inl e)) (own_end text end of_run)
    by_room false = inr (inr refl)

-- so no other number is answered, and no record is named
no_other_number : (end : Option Fault) → End end → 17 ≡ answer_of end → ⊥
no_other_number end (inl e) is = let at : 17 ≡ 0 = is ∙ ap answer_of e in omega (arith, at)
no_other_number end (inr (inl e)) is = let at : 17 ≡ 10 = is ∙ ap answer_of e in omega (arith, at)
no_other_number end (inr (inr e)) is = let at : 17 ≡ 20 = is ∙ ap answer_of e in omega (arith, at)

no_record : (end : Option Fault) → End end → 6 ≡ record_of end → ⊥
no_record end (inl e) is = let at : 6 ≡ 0 = is ∙ ap record_of e in omega (arith, at)
no_record end (inr (inl e)) is = let at : 6 ≡ 0 = is ∙ ap record_of e in omega (arith, at)
no_record end (inr (inr e)) is = let at : 6 ≡ 0 = is ∙ ap record_of e in omega (arith, at)

pub no_fault_shown : (n place : ℕ) (shown : List ℕ) → ShowsRun one_line n shown (code_of BadRecord) place → ⊥
no_fault_shown n place shown h = no_other_number (end_in n h.text h.end) (end_of n h.text h.end h.of_the_run) h.number

pub no_record_shown : (n answer : ℕ) (shown : List ℕ) → ShowsRun one_line n shown answer 6 → ⊥
no_record_shown n answer shown h = no_record (end_in n h.text h.end) (end_of n h.text h.end h.of_the_run) h.at

-- nothing is shown where there is no room
pub no_room : (answer place : ℕ) (shown : List ℕ) → ShowsRun one_line 0 shown answer place → shown ≡ []
no_room answer place shown h = h.front

-- the text of the line is two bytes long, and that of its fault, where memory was refused, another number's
pub measured : Measures one_line 2 DONE 0
measured = record { text = 65 ∷ 10 ∷ []; end = None; of_the_run = inl (refl, refl); bytes = refl; number = refl; at = refl }

pub no_other_length : (place : ℕ) → Measures one_line 3 DONE place → ⊥
no_other_length place h = by_end h.of_the_run
  where
    by_end : IsTextOf one_line h.text h.end → ⊥
    by_end (inl own) = let at : 3 ≡ 2 = h.bytes ∙ ap length own.0 in omega (arith, at)
    by_end (inr lacks) = let at : 0 ≡ 10 = h.number ∙ ap answer_of lacks.0 in omega (arith, at)

as_end : (end : Option Fault) → (end ≡ None) ⊎ (end ≡ Some (fault_at OutOfMemory 0)) → End end
as_end end (inl e) = inl e
as_end end (inr e) = inr (inl e)

pub no_fault_measured : (n place : ℕ) → Measures one_line n (code_of BadRecord) place → ⊥
no_fault_measured n place h = no_other_number h.end (as_end h.end (own_end h.text h.end h.of_the_run)) h.number

pub no_record_measured : (n answer : ℕ) → Measures one_line n answer 6 → ⊥
no_record_measured n answer h = no_record h.end (as_end h.end (own_end h.text h.end h.of_the_run)) h.at

-- a run that a fault ends is not whole, nor is one whose line is left out
pub not_whole : ((shown : List ℕ) → IsWhole one_fault shown → ⊥) × (IsWhole one_line [] → ⊥)
not_whole = ((λ shown h. cc h.0), (λ h. cc h.1))

-- its text is longer than one byte; with the line of out of memory it is no longer than 22
pub longer : IsLonger one_line 1
longer = (65 ∷ 10 ∷ [], None, inl (refl, refl), omega arith)

abbrev memory_line : LineBytes
memory_line = fault_line (fault_at OutOfMemory 0)

memory_length : length (text_of (memory_line ∷ [])) ≡ 20
unfolding digits
memory_length = refl

both_length : length (text_of ((65 ∷ []) ∷ memory_line ∷ [])) ≡ 22
unfolding digits
both_length = refl

broken_length : (front : List LineBytes) → IsPrefixOf front one_line.lines → 22 < length (text_of (front ++ memory_line ∷ [])) → ⊥
broken_length [] begins long =
    let at : 22 < length (text_of (memory_line ∷ [])) = long in
    omega (arith, at, memory_length)
broken_length (a ∷ []) begins long =
    let first : 65 ∷ [] ≡ a = cc begins.1 in
    let at : 22 < length (text_of (a ∷ memory_line ∷ [])) = long in
    let is : length (text_of (a ∷ memory_line ∷ [])) ≡ 22 = ap (λ (l : LineBytes). length (text_of (l ∷ memory_line ∷ []))) (sym first) ∙ both_length in
    omega (arith, at, is)
broken_length (a ∷ b ∷ front) begins long = cc begins.1

pub not_longer : IsLonger one_line 22 → ⊥
not_longer h = by_end h.0 h.1 h.2 h.3
  where
    by_end : (text : List ℕ) (end : Option Fault) → IsTextOf one_line text end → 22 < length text → ⊥
    by_end text end (inl own) long = let at : length text ≡ 2 = ap length own.0 in omega (arith, at, long)
    by_end text end (inr lacks) long =
        let broken = lacks.1 in
        let is : length text ≡ length (text_of (broken.0 ++ memory_line ∷ [])) = ap length broken.2 in
        broken_length broken.0 broken.1 (omega (arith, is, long))
