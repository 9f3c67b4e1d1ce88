-- Worked cases of a handle's calls, and what they refuse.
use Rattle.std.proofs.Common.{◌≡◌, ℕ, List, [], ◌∷◌, None, Some, Ok, Err, inl, inr, ⊎_elim, refl, ap, arith, length, get_or, ◌∙◌, ◌⊎◌, Option}
use Rattle.std.specs.Option.{option_map_or}
use denote.RawPtr.{null_ptr}
use Rattle.council_core.specs.Refusals.{code_of}
use Rattle.council_core.specs.Sequential.{Sequential}
use Rattle.council_core.specs.declared.commands.Command.TheVariants.{Open}
use Rattle.council_core.specs.declared.refusals.Refusal.TheVariants.{BadChair, BadIndex, BadRecord, ChairNotOpen, ChairOpen, JournalFull, NoRegister, OutOfMemory}
use Rattle.council_core.specs.declared.commands.Command.{Command}
use Rattle.council_core.specs.declared.refusals.Refusal.{Refusal}
use Rattle.c_values.specs.Given.{fields_with, given_opening}
use Rattle.c_values.specs.declared.commands.BoardCommand.{BoardCommand}
use Rattle.c_values.specs.declared.entries.BoardEntry.{BoardEntry}
use Rattle.board_c.specs.declared.TheConstants.{DONE}
use Rattle.board_c.specs.Calls.{AcceptsAs, Answers, AnswersCopy, Begins, HasAccepted, IsCopied, IsRefusedStart, IsStarted, IsStructOf, Sets, all_published, at_index, by_majority, command_at, live_register, opening_entry, reply_number, register_in, reply, row_at, start_reply}
use Rattle.board_c.specs.declared.register.handles.BoardRegister.{BoardRegister}

-- the answer of a call that is not refused
done : DONE ≡ 0
done = refl

-- member AAA with 10 votes; chair 1 is opened and published, and chair 2 is opened; two commands fit
abbrev small : Sequential
small = record {
  ledger = record { opening = (65 ∷ 65 ∷ 65 ∷ [], 10) ∷ []; journal = Open 1 ∷ Open 2 ∷ []; limit = 2 };
  published = 1;
}

abbrev handle : ℕ → BoardRegister
handle state = record { at = null_ptr; state = state; register = small }

abbrev no_code : List ℕ
no_code = 0 ∷ 0 ∷ 0 ∷ 0 ∷ []

abbrev command : ℕ → ℕ → BoardCommand
command kind chair = fields_with kind no_code chair 0

-- only state 1 has a register
pub states : (register_in (handle 0) ≡ None) × (register_in (handle 1) ≡ Some small) × (register_in (handle 2) ≡ None)
states = (refl, refl, refl)

-- the refusal of a handle without a register comes first, then that of a struct, then the register's
pub replies : (reply (handle 0) (command 0 33) ≡ Err NoRegister) × (reply (handle 1) (command 0 33) ≡ Err BadChair)
    × (reply (handle 1) (command 0 2) ≡ Err ChairOpen) × (reply (handle 1) (command 1 3) ≡ Err ChairNotOpen)
    × (reply (handle 1) (command 0 3) ≡ Err JournalFull) × (reply_number (reply (handle 0) (command 0 1)) ≡ 34)
replies = (refl, refl, refl, refl, refl, refl)

-- no refusal is answered by 10, nor by 0, and Ok by no other number
pub not_out_of_memory : (Answers (Err ChairOpen) 10 → ⊥) × (Answers (Err ChairOpen) 0 → ⊥) × Answers (Ok tt) 10
not_out_of_memory = ((λ e. omega (arith, e)), (λ e. omega (arith, e)), inr refl)

pub accepted_by_number : Answers (Ok tt) 0 × (Answers (Ok tt) 11 → ⊥)
accepted_by_number = (inl refl, ⊎_elim (λ e. omega (arith, e)) (λ e. omega (arith, e)))

-- member 0 sits nowhere, and there is no member 1
pub rows : ((r : _) → row_at small 0 ≡ Some r → r.votes ≡ 10) × (row_at small 1 ≡ None) × (opening_entry small 1 ≡ None)
rows = ((λ r e. cc), refl, refl)

-- a copy after one command has one, which is published; the register itself is no such copy, and a copy
-- needs a register
abbrev first_command : Sequential
first_command = record { ledger = record { opening = small.ledger.opening; journal = Open 1 ∷ []; limit = 2 }; published = 1 }

pub copies : IsCopied (Some small) 1 (record { at = null_ptr; state = 1; register = first_command })
    × (IsCopied (Some small) 1 (handle 1) → ⊥) × (IsCopied None 1 (handle 0) → ⊥) × (AnswersCopy None 10 → ⊥)
copies = (
  refl,
  (λ e. let two : 2 ≡ 1 = ap (λ (o : Option Sequential). option_map_or (λ s. length s.ledger.journal) o 0) e in omega (arith, two)),
  (λ e. e),
  (λ e. omega (arith, e)),
)

-- a copy that could be made is answered by 0, and else by 10
pub copy_answered : AnswersCopy (Some small) 0 × AnswersCopy (Some small) 10 × (AnswersCopy (Some small) 34 → ⊥)
copy_answered = (inl refl, inr refl, ⊎_elim (λ e. omega (arith, e)) (λ e. omega (arith, e)))

-- a publication publishes both commands, and changes nothing else
pub both_published : all_published small ≡ record { ledger = small.ledger; published = 2 }
both_published = refl

-- what is found in a handle: its register, what that has at an index, and it again for the number of a majority
pub found : (live_register (handle 0) ≡ Err NoRegister) × (live_register (handle 1) ≡ Ok small) × (at_index command_at 0 (live_register (handle 0)) ≡ Err NoRegister)
    × (at_index command_at 2 (Ok small) ≡ Err BadIndex) × (at_index command_at 1 (Ok small) ≡ Ok (Open 2)) × (by_majority 4 (live_register (handle 0)) ≡ Err NoRegister)
    × (by_majority 4 (Ok small) ≡ Err BadRecord) × (by_majority 3 (Ok small) ≡ Ok small)
found = (refl, refl, refl, refl, refl, refl, refl, refl)

-- a refusal is answered by its number, and leaves what was there
pub refused : Sets {A = ℕ} {B = ℕ} (Err BadIndex) 35 5 5 (λ n. n ≡ 7) × (Sets {A = ℕ} {B = ℕ} (Err BadIndex) 0 5 5 (λ n. n ≡ 7) → ⊥)
    × (Sets {A = ℕ} {B = ℕ} (Err BadIndex) 35 5 6 (λ n. n ≡ 7) → ⊥)
refused = ((refl, refl), (λ e. omega (arith, e.0)), (λ e. omega (arith, e.1)))

-- what is found is answered by 0, and what is written is of it
pub written : Sets {A = ℕ} {B = ℕ} (Ok 7) 0 5 7 (λ n. n ≡ 7) × (Sets {A = ℕ} {B = ℕ} (Ok 7) 35 5 7 (λ n. n ≡ 7) → ⊥)
    × (Sets {A = ℕ} {B = ℕ} (Ok 8) 0 5 7 (λ n. n ≡ 7) → ⊥)
written = ((refl, refl), (λ e. omega (arith, e.0)), (λ e. omega (arith, e.1)))

-- a struct of a command has 0 in the parts that the command doesn't have, and gives the command; chair 33 would be none
pub structs : IsStructOf (Open 1) (command 0 1) × (IsStructOf (Open 1) (fields_with 0 no_code 1 7) → ⊥) × (IsStructOf (Open 33) (command 0 33) → ⊥)
structs = ((refl, refl), (λ e. let votes : 7 ≡ 0 = ap (λ (c : BoardCommand). c.votes) e.0 in omega (arith, votes)), (λ e. cc e.1))

-- a register with another accepted command, or without the command, has not accepted this one
abbrev with_third : Command → Sequential
with_third c = record { ledger = record { opening = small.ledger.opening; journal = Open 1 ∷ Open 2 ∷ c ∷ []; limit = 2 }; published = 1 }

pub another_command : (AcceptsAs small (with_third (Open 4)) (command 0 3) 3 → ⊥) × (AcceptsAs small small (command 0 3) 2 → ⊥)
another_command = (
  (λ h.
      let is : Open 3 ≡ h.0 = cc h.1 in
      let third : Open 4 ≡ h.0 = ap (λ (s : Sequential). get_or s.ledger.journal 2 (Open 4)) h.2 in
      cc (is, third)),
  (λ h. let longer : 2 ≡ 3 = ap (λ (s : Sequential). length s.ledger.journal) h.2 in omega (arith, longer)),
)

-- a register with commands is not one at its start, and no start that is accepted is refused
pub not_at_start : (IsStarted [] 2 (handle 1) → ⊥) × (IsStarted [] 2 (handle 0) → ⊥) × (IsRefusedStart [] 5 0 → ⊥)
not_at_start = (
  (λ h.
      let same : small ≡ h.0 = cc h.1 in
      let none : 2 ≡ 0 = ap (λ (s : Sequential). length s.ledger.journal) (same ∙ h.2.3) in
      omega (arith, none)),
  (λ h. cc h.1),
  (λ h. refused h.0 h.1 h.2),
)
  where
    refused : (why : Refusal) → 0 ≡ code_of why → (why ≡ OutOfMemory) ⊎ (start_reply (given_opening []) 5 ≡ Err why) → ⊥
    refused why zero (inl memory) = let at : 0 ≡ 10 = zero ∙ ap code_of memory in omega (arith, at)
    refused why zero (inr reply) = cc reply

-- a start over no members, and over a member with 5 votes: the register has that member and no other
pub started : IsStarted [] 2 (record { at = null_ptr; state = 1; register = record { ledger = record { opening = []; journal = []; limit = 2 }; published = 0 } })
started = (record { ledger = record { opening = []; journal = []; limit = 2 }; published = 0 }, refl, ([], refl, refl, refl))

pub same_opening : (s : Sequential) → Begins (record { code = 65 ∷ 65 ∷ 65 ∷ 0 ∷ []; votes = 5 } ∷ []) 2 s → s.ledger.opening ≡ (65 ∷ 65 ∷ 65 ∷ [], 5) ∷ []
same_opening s h =
    let given : Ok ((65 ∷ 65 ∷ 65 ∷ [], 5) ∷ []) ≡ Ok h.0 = h.1 in
    let opening : h.0 ≡ (65 ∷ 65 ∷ 65 ∷ [], 5) ∷ [] = cc given in
    ap (λ (l : Sequential). l.ledger.opening) h.3 ∙ opening

-- it has the limit that was given, and nothing of it is published
abbrev begun : ℕ → ℕ → Sequential
begun limit published = record { ledger = record { opening = []; journal = []; limit = limit }; published = published }

pub begun_as_given : Begins [] 2 (begun 2 0) × (Begins [] 2 (begun 3 0) → ⊥) × (Begins [] 2 (begun 2 1) → ⊥)
begun_as_given = (
  ([], refl, refl, refl),
  (λ h. let limit : 3 ≡ 2 = ap (λ (s : Sequential). s.ledger.limit) h.3 in omega (arith, limit)),
  (λ h. let published : 1 ≡ 0 = ap (λ (s : Sequential). s.published) h.3 in omega (arith, published)),
)

-- no register begins with room for no command
pub no_limit : (entries : List BoardEntry) (s : Sequential) → Begins entries 0 s → ⊥
no_limit entries s h = cc h.2

-- the third command is accepted as the third, in a register of the same handle
abbrev handle_with : ℕ → Sequential → BoardRegister
handle_with state s = record { at = null_ptr; state = state; register = s }

pub third : AcceptsAs small (with_third (Open 3)) (command 0 3) 3 × (AcceptsAs small (with_third (Open 3)) (command 0 3) 2 → ⊥)
third = ((Open 3, refl, refl, refl), (λ h. omega (arith, h.3)))

-- it is not published
pub not_published : AcceptsAs small (record (with_third (Open 3)) { published = 2 }) (command 0 3) 3 → ⊥
not_published h = let published : 2 ≡ 1 = ap (λ (s : Sequential). s.published) h.2 in omega (arith, published)

pub accepted : HasAccepted (handle 1) (handle_with 1 (with_third (Open 3))) (command 0 3) 3
accepted = (with_third (Open 3), refl, refl, (Open 3, refl, refl, refl))

-- not in a handle without a register, nor in another handle, nor where the register is the old one
pub no_handle : (HasAccepted (handle 0) (handle_with 0 (with_third (Open 3))) (command 0 3) 3 → ⊥)
    × (HasAccepted (handle 0) (handle_with 1 (with_third (Open 3))) (command 0 3) 3 → ⊥)
no_handle = ((λ h. cc h.1), (λ h. let state : 1 ≡ 0 = ap (λ (b : BoardRegister). b.state) h.2 in omega (arith, state)))

pub not_accepted : HasAccepted (handle 1) (handle 1) (command 0 3) 2 → ⊥
not_accepted h =
    let same : small ≡ h.0 = ap (λ (b : BoardRegister). b.register) h.2 in
    let longer : 2 ≡ 3 = ap (λ (s : Sequential). length s.ledger.journal) same ∙ ap (λ (s : Sequential). length s.ledger.journal) h.3.2 in
    omega (arith, longer)
