-- The sheet shown of a register, and of its copy.
use Rattle.std.proofs.Common.{◌≡◌, ℕ, ◌≤◌, List, length, take, sym, ap, ◌∙◌, arith}
use Rattle.std.proofs.lemmas.List.{length-take, take_all}
use Rattle.council_core.specs.Ledgers.{Ledger, ledger_as_of, sheet_of}
use Rattle.council_core.specs.Published.{IsShown}
use Rattle.council_core.specs.Rolls.{sheet}
use Rattle.council_core.specs.Sheets.{IsSheet, front_of}
use Rattle.council_core.proofs.UndoLemmas.{take-length, take-take}

-- a register may show its own sheet
pub shows-own : (l : Ledger) (words : List ℕ) → words ≡ sheet_of l → IsSheet words → IsShown l words
shows-own l words is range =
    let front : front_of words ≡ length l.journal = ap front_of is in
    record {
      within = omega (arith, front);
      same = is ∙ ap (sheet l.opening) (sym (take_all (front_of words) l.journal (omega (arith, front))));
      in_range = range;
    }

-- and the sheet of its first commands
pub shows-first : (l : Ledger) (words : List ℕ) (first : ℕ) → words ≡ sheet_of (ledger_as_of l first) → IsSheet words → IsShown l words
shows-first l words first is range =
    let front : front_of words ≡ length (take first l.journal) = ap front_of is in
    record {
      within = omega (arith, front, length-take first l.journal);
      same = is ∙ ap (sheet l.opening) (sym (ap (λ n. take n l.journal) front ∙ take-length l.journal first));
      in_range = range;
    }

-- a copy of the first commands may show a sheet of at most these
pub shows-earlier : (l : Ledger) (words : List ℕ) (accepted : ℕ) → IsShown l words → front_of words ≤ accepted → IsShown (ledger_as_of l accepted) words
shows-earlier l words accepted shown within = record {
  within = omega (arith, length-take accepted l.journal, shown.within);
  same = shown.same ∙ ap (sheet l.opening) (take-take l.journal (front_of words) accepted within);
  in_range = shown.in_range;
}
