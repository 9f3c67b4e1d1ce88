-- Audits at the limits of cuts and readings and one beside them, computed; and what first mismatches exclude.
use Rattle.std.proofs.Common.{◌≡◌, ◌++◌, inr, ℕ, suc, List, [], ◌∷◌, Some, Ok, Err, refl, sym, ap, arith, take, slice_get, slice_index_or, subst, ⊎_elim}
use Rattle.std.proofs.lemmas.Bool.{cases_eq}
use Rattle.std.specs.Prelude.{⊤}
use Rattle.council_core.specs.Rolls.{IsLegal, sheet}
use Rattle.council_core.specs.Ledgers.{start_verdict}
use Rattle.council_core.specs.declared.refusals.Refusal.TheVariants.{DuplicateMember}
use Rattle.council_core.specs.Sheets.{front_of}
use Rattle.council_core.specs.declared.commands.Command.TheVariants.{Open, Close}
use Rattle.council_core.specs.Sequential.{AreCuts, AreLegalRecords, AreRecords, IsCutSheet, IsRecordFrom}
use Rattle.board_audits.specs.Audits.{audit_of, ledger_at}
use Rattle.board_audits.specs.AuditLaws.{AuditLaw, CutsFaultLaw, IsFirstBreach, IsFirstMismatch, ReadingsFaultLaw, StartFaultLaw}
use Rattle.board_audits.specs.AuditWalks.{FrontsAscend, Meets, kept_at}
use Rattle.board_audits.specs.declared.audits.AuditFault.TheVariants.{BadJournal, BadCuts, Mismatch, OutOfMemory}
use Rattle.board_audits.proofs.WorkedCases.{one_member, seated, none_done, one_done, both_done}

-- a cut may be 0, the one before it, and the journal's end; one above the end and one below another are faults
pub cuts_in_order : (audit_of one_member seated [] [] ≡ Ok tt) × (audit_of one_member seated (0 ∷ 0 ∷ 1 ∷ 1 ∷ 2 ∷ 2 ∷ []) [] ≡ Ok tt)
cuts_in_order = (refl, refl)

pub cuts_out_of_order : (audit_of one_member seated (2 ∷ 1 ∷ []) [] ≡ Err (BadCuts 2)) × (audit_of one_member seated (3 ∷ []) [] ≡ Err (BadCuts 1)) × (audit_of one_member [] (0 ∷ 1 ∷ []) [] ≡ Err (BadCuts 2)) × (audit_of one_member seated (1 ∷ 0 ∷ 3 ∷ []) [] ≡ Err (BadCuts 2))
cuts_out_of_order = (refl, refl, refl, refl)

-- a journal is audited under a limit of a million commands, its first commands alone
audited_under : (ledger_at one_member seated 1).limit ≡ 1000000
audited_under = refl

audited_so_far : ((ledger_at one_member seated 0).journal ≡ []) × ((ledger_at one_member seated 1).journal ≡ Open 1 ∷ [])
audited_so_far = (refl, refl)

-- the first command that is refused
pub first_command_refused : (audit_of one_member (Close 1 ∷ Close 1 ∷ []) [] [] ≡ Err (BadJournal 1)) × (audit_of one_member (Open 1 ∷ Close 1 ∷ Close 1 ∷ []) [] [] ≡ Err (BadJournal 3))
first_command_refused = (refl, refl)

-- the opening may be read without a cut, and one sheet again
pub read_twice : (audit_of one_member seated [] ((none_done ∷ none_done ∷ []) ∷ []) ≡ Ok tt) × (audit_of one_member seated (2 ∷ []) ((both_done ∷ both_done ∷ []) ∷ (none_done ∷ []) ∷ []) ≡ Ok tt)
read_twice = (refl, refl)

-- the first reader with a fault is named, and its first sheet with one; an accepted command that no cut has published is not read
pub first_mismatch : (audit_of one_member seated (1 ∷ []) ((one_done ∷ []) ∷ (none_done ∷ both_done ∷ []) ∷ (both_done ∷ []) ∷ []) ≡ Err (Mismatch 2 2)) × (audit_of one_member seated (1 ∷ []) ([] ∷ [] ∷ (both_done ∷ none_done ∷ []) ∷ []) ≡ Err (Mismatch 3 1))
first_mismatch = (refl, refl)

-- one cut's sheet without its last word
pub sheet_cut_off : audit_of one_member seated (1 ∷ []) ((take 33 one_done ∷ []) ∷ []) ≡ Err (Mismatch 1 1)
sheet_cut_off = refl

-- a first mismatch has its reader's number and its sheets, and the readers before it none
abbrev mismatch_of : List (List (List ℕ)) → ℕ → ℕ → Type 0
mismatch_of readings reader place = IsFirstMismatch one_member seated (0 ∷ 1 ∷ []) readings reader place

-- both commands are not published, and nothing is
both_not_cut : IsCutSheet one_member seated (0 ∷ 1 ∷ []) both_done → ⊥
both_not_cut (cut, (k, below, is), same) = ⊎_elim first (λ other. second (omega (arith, below, other))) (cases_eq k 0)
  where
    S : ℕ → Type 0
    S n = both_done ≡ sheet one_member (take n seated)

    at_place : ℕ → Type 0
    at_place n = slice_index_or (0 ∷ 1 ∷ []) n cut ≡ cut

    first : k ≡ 0 → ⊥
    first e = let zero : 0 ≡ cut = subst at_place e is in omega (arith, ap front_of (subst S (sym zero) same))

    second : k ≡ 1 → ⊥
    second e = let one : 1 ≡ cut = subst at_place e is in omega (arith, ap front_of (subst S (sym one) same))

none_breaks : IsFirstBreach (IsRecordFrom one_member seated (0 ∷ 1 ∷ []) 0) (none_done ∷ []) 1 → ⊥
none_breaks b =
    let none : b.before ≡ 0 = omega (arith, b.counted) in
    subst (λ (n : ℕ). IsRecordFrom one_member seated (0 ∷ 1 ∷ []) 0 (take (suc n) (none_done ∷ [])) → ⊥) none b.broken ((0, (0, omega arith, refl), refl), omega arith, tt)

reader_counted_from_1 : mismatch_of ((both_done ∷ []) ∷ []) 0 1 → ⊥
reader_counted_from_1 h = omega (arith, h.reader_counted)

second_reader_first : mismatch_of ((both_done ∷ []) ∷ (both_done ∷ []) ∷ []) 2 1 → ⊥
second_reader_first h =
    let one : h.readers_before ≡ 1 = omega (arith, h.reader_counted) in
    let R : ℕ → Type 0 = λ n. AreRecords one_member seated (0 ∷ 1 ∷ []) (take n ((both_done ∷ []) ∷ (both_done ∷ []) ∷ [])) in
    both_not_cut (subst R one h.readers).0.0

sheets_of_another : mismatch_of ((none_done ∷ []) ∷ []) 1 1 → ⊥
sheets_of_another h =
    let none : h.readers_before ≡ 0 = omega (arith, h.reader_counted) in
    let S : ℕ → Type 0 = λ n. slice_get ((none_done ∷ []) ∷ []) n ≡ Some h.sheets in
    let its : Some (none_done ∷ []) ≡ Some h.sheets = subst S none h.its in
    let same : none_done ∷ [] ≡ h.sheets = cc its in
    none_breaks (subst (λ (sheets : List (List ℕ)). IsFirstBreach (IsRecordFrom one_member seated (0 ∷ 1 ∷ []) 0) sheets 1) (sym same) h.first)

-- the sheet collected for a front, and the order of those collected
collected : (kept_at (none_done ∷ both_done ∷ []) 2 ≡ Some both_done) × (kept_at (none_done ∷ both_done ∷ []) 0 ≡ Some none_done)
collected = (refl, refl)

same_front_twice : FrontsAscend (none_done ∷ none_done ∷ []) → ⊥
same_front_twice h = omega (arith, h 0 1 (omega arith) (omega arith))

-- a call that looks for a fault passes none over and makes none up, but may lack memory
fault_passed_over : Meets {A = ⊤} (Err (BadCuts 1)) (Ok tt) → ⊥
fault_passed_over h = cc h

memory_lacked : Meets {A = ⊤} (Ok tt) (Err OutOfMemory)
memory_lacked = inr refl

-- by the laws, members with whom no register starts, and what comes before a fault of the cuts and of the readings
start_by_the_law : StartFaultLaw → start_verdict (one_member ++ one_member) 1000000 ≡ Err DuplicateMember
start_by_the_law law = law (one_member ++ one_member) [] [] [] DuplicateMember refl

legal_before_cuts : CutsFaultLaw → IsLegal one_member seated
legal_before_cuts law = (law one_member seated (1 ∷ 3 ∷ []) [] 2 refl).0

in_order_before_readings : ReadingsFaultLaw → IsLegal one_member seated × AreCuts seated (0 ∷ 2 ∷ [])
in_order_before_readings law =
    let found = law one_member seated (2 ∷ []) ((one_done ∷ []) ∷ []) 1 1 refl in
    (found.0, found.1)

-- no fault is found where a register starts and the records are legal, and only there
starts_by_the_law : AuditLaw → start_verdict one_member 1000000 ≡ Ok tt
starts_by_the_law law = ((law one_member seated [] []).0 refl).0

nothing_found : AuditLaw → (readings : List (List (List ℕ))) → AreLegalRecords one_member seated (0 ∷ []) readings → audit_of one_member seated [] readings ≡ Ok tt
nothing_found law readings legal = (law one_member seated [] readings).1 (refl, legal)
