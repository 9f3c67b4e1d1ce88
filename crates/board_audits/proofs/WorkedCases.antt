-- Audits of a register of one member, computed.
use Rattle.std.proofs.Common.{◌≡◌, ◌≤◌, ℕ, suc, List, [], ◌∷◌, ◌++◌, length, replicate, take, Some, Ok, Err, arith, refl, subst, ⊎_elim}
use Rattle.council_core.specs.Rolls.{Opening, IsLegal}
use Rattle.council_core.specs.declared.commands.Command.{Command}
use Rattle.council_core.specs.declared.commands.Command.TheVariants.{Open, Move}
use Rattle.board_audits.specs.Audits.{AnswersFinding, Finding, audit_of}
use Rattle.board_audits.specs.AuditLaws.{AuditLaw, CutsFaultLaw, IsFirstBreach, IsFirstMismatch, JournalFaultLaw, ReadingsFaultLaw}
use Rattle.council_core.specs.Sequential.{AreCuts, AreLegalRecords}
use Rattle.council_core.specs.declared.refusals.Refusal.TheVariants.{DuplicateMember}
use Rattle.board_audits.specs.declared.audits.AuditFault.TheVariants.{Start, BadJournal, BadCuts, Mismatch, OutOfMemory}

abbrev pub one_member : Opening
one_member = (65 ∷ 65 ∷ 65 ∷ [], 10) ∷ []

-- a chair is opened, and the member moves into it
abbrev pub seated : List Command
seated = Open 1 ∷ Move (65 ∷ 65 ∷ 65 ∷ []) (Some 1) ∷ []

-- the sheets after none, one and both of the commands
abbrev pub none_done : List ℕ
none_done = replicate 32 0 ++ 10 ∷ 0 ∷ []

abbrev pub one_done : List ℕ
one_done = 1 ∷ replicate 31 0 ++ 10 ∷ 1 ∷ []

abbrev pub both_done : List ℕ
both_done = 11 ∷ replicate 31 0 ++ 10 ∷ 2 ∷ []

-- two readers, of whom each saw whole publications, none older than the one before
pub whole : audit_of one_member seated (1 ∷ 2 ∷ []) ((none_done ∷ one_done ∷ both_done ∷ []) ∷ (both_done ∷ []) ∷ []) ≡ Ok tt
whole = refl

-- reader 2 saw the weight of the last publication with the front of the one before
pub torn : audit_of one_member seated (1 ∷ 2 ∷ []) ((none_done ∷ []) ∷ ((11 ∷ replicate 31 0 ++ 10 ∷ 1 ∷ []) ∷ []) ∷ []) ≡ Err (Mismatch 2 1)
torn = refl

-- reader 1 saw a publication older than the one before
pub stale : audit_of one_member seated (1 ∷ 2 ∷ []) ((both_done ∷ one_done ∷ []) ∷ []) ≡ Err (Mismatch 1 2)
stale = refl

-- one command was never published alone
pub unpublished : audit_of one_member seated (2 ∷ []) ((one_done ∷ []) ∷ []) ≡ Err (Mismatch 1 1)
unpublished = refl

-- a chair cannot be opened twice, and no publication is after the journal's end
pub opened_twice : audit_of one_member (Open 1 ∷ Open 1 ∷ []) [] [] ≡ Err (BadJournal 2)
opened_twice = refl

pub cut_behind : audit_of one_member seated (1 ∷ 3 ∷ []) [] ≡ Err (BadCuts 2)
cut_behind = refl

-- no register starts with two members of one code; that is found first, then the journal's fault, then that of the cuts
pub one_code_twice : audit_of (one_member ++ one_member) (Open 1 ∷ Open 1 ∷ []) [] [] ≡ Err (Start DuplicateMember)
one_code_twice = refl

pub journal_before_cuts : audit_of one_member (Open 1 ∷ Open 1 ∷ []) (3 ∷ []) [] ≡ Err (BadJournal 2)
journal_before_cuts = refl

pub cuts_before_readings : audit_of one_member seated (1 ∷ 3 ∷ []) (([] ∷ []) ∷ []) ≡ Err (BadCuts 2)
cuts_before_readings = refl

-- if nothing is found, no fault is returned except out of memory, and no fault at another place
-- than the one found
no_fault_made_up : AnswersFinding (Ok tt) (Err (Mismatch 1 1)) → ⊥
no_fault_made_up h = ⊎_elim is_fault is_memory h
  where
    is_fault : ◌≡◌ {A = Finding} (Err (Mismatch 1 1)) (Ok tt) → ⊥
    is_fault e = absurd (cc)

    is_memory : ◌≡◌ {A = Finding} (Err (Mismatch 1 1)) (Err OutOfMemory) → ⊥
    is_memory e = absurd (cc)

no_other_place : AnswersFinding (Err (Mismatch 1 2)) (Err (Mismatch 2 1)) → ⊥
no_other_place h = ⊎_elim is_fault is_memory h
  where
    is_fault : ◌≡◌ {A = Finding} (Err (Mismatch 2 1)) (Err (Mismatch 1 2)) → ⊥
    is_fault e = absurd (cc)

    is_memory : ◌≡◌ {A = Finding} (Err (Mismatch 2 1)) (Err OutOfMemory) → ⊥
    is_memory e = absurd (cc)

-- a fault is not passed over, and members with which no register starts want no memory
not_passed_over : AnswersFinding (Err (BadCuts 2)) (Ok tt) → ⊥
not_passed_over h = ⊎_elim is_fault is_memory h
  where
    is_fault : ◌≡◌ {A = Finding} (Ok tt) (Err (BadCuts 2)) → ⊥
    is_fault e = absurd (cc)

    is_memory : ◌≡◌ {A = Finding} (Ok tt) (Err OutOfMemory) → ⊥
    is_memory e = absurd (cc)

start_wants_no_memory : AnswersFinding (Err (Start DuplicateMember)) (Err OutOfMemory) → ⊥
start_wants_no_memory h = absurd (cc)

-- by the law, the readings in which nothing was found are legal records
pub legal_by_the_law : AuditLaw → AreLegalRecords one_member seated (0 ∷ 1 ∷ 2 ∷ []) ((none_done ∷ one_done ∷ both_done ∷ []) ∷ (both_done ∷ []) ∷ [])
legal_by_the_law law = ((law one_member seated (1 ∷ 2 ∷ []) ((none_done ∷ one_done ∷ both_done ∷ []) ∷ (both_done ∷ []) ∷ [])).0 refl).1

-- and each fault found is the first: a command, a cut, a sheet
pub refused_by_the_law : JournalFaultLaw → IsFirstBreach (IsLegal one_member) (Open 1 ∷ Open 1 ∷ []) 2
refused_by_the_law law = law one_member (Open 1 ∷ Open 1 ∷ []) [] [] 2 refl

pub stray_by_the_law : CutsFaultLaw → IsFirstBreach (λ before. AreCuts seated (0 ∷ before)) (1 ∷ 3 ∷ []) 2
stray_by_the_law law = (law one_member seated (1 ∷ 3 ∷ []) [] 2 refl).1

pub mismatch_by_the_law : ReadingsFaultLaw → IsFirstMismatch one_member seated (0 ∷ 2 ∷ []) ((one_done ∷ []) ∷ []) 1 1
mismatch_by_the_law law = (law one_member seated (2 ∷ []) ((one_done ∷ []) ∷ []) 1 1 refl).2

-- of three items, the second is the first that makes the list longer than one
abbrev IsShort : List ℕ → Type 0
IsShort items = length items ≤ 1

breach_at_second : IsFirstBreach IsShort (7 ∷ 8 ∷ 9 ∷ []) 2
breach_at_second = record { before = 1; counted = refl; within = omega arith; holds = omega arith; broken = λ short. omega arith }

breach_not_at_first : IsFirstBreach IsShort (7 ∷ 8 ∷ 9 ∷ []) 1 → ⊥
breach_not_at_first b =
    let none : b.before ≡ 0 = omega (arith, b.counted) in
    subst (λ (n : ℕ). IsShort (take (suc n) (7 ∷ 8 ∷ 9 ∷ [])) → ⊥) none b.broken (omega arith)

breach_not_at_third : IsFirstBreach IsShort (7 ∷ 8 ∷ 9 ∷ []) 3 → ⊥
breach_not_at_third b =
    let two : b.before ≡ 2 = omega (arith, b.counted) in
    let short : 2 ≤ 1 = subst (λ (n : ℕ). IsShort (take n (7 ∷ 8 ∷ 9 ∷ []))) two b.holds in
    omega arith

breach_within : IsFirstBreach IsShort (7 ∷ []) 2 → ⊥
breach_within b = omega (arith, b.counted, b.within)
