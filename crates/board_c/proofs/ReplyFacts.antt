-- A refusal of the register is the number of the reply; and what is written of a count.
use Rattle.std.proofs.Common.{◌≡◌, ◌⊎◌, ℕ, inl, inr, Option, Result, Ok, Err, IfErr, ap, refl, sym, ◌∙◌}
use Rattle.std.specs.Prelude.{⊤, Some, None, ◌==◌, if◌then◌else◌, IfOk, IsOk, OnErr, option_map}
use Rattle.std.specs.Option.{ok_or}
use Rattle.council_core.specs.Refusals.{code_of}
use Rattle.council_core.specs.Verdicts.{Follows}
use Rattle.council_core.specs.declared.refusals.Refusal.{Refusal}
use Rattle.council_core.specs.declared.refusals.Refusal.TheVariants.{BadRecord, OutOfMemory}
use Rattle.majority_rule.specs.declared.majorities.Majority.{Majority}
use Rattle.council_core.specs.Sequential.{Sequential}
use Rattle.board_c.specs.Calls.{AcceptsAs, Answers, Sets, by_majority, command_reply, reply}
use Rattle.majority_rule.specs.Majorities.{majority_numbered}
use Rattle.c_values.specs.Given.{given_command}
use Rattle.board_c.specs.declared.register.handles.BoardRegister.{BoardRegister}
use Rattle.c_values.specs.declared.commands.BoardCommand.{BoardCommand}

abbrev number_in : Result ℕ Refusal → ℕ
number_in (Ok n) = 0
number_in (Err why) = code_of why

-- what is answered of a command: its reply's number, or that of out of memory
module _ (found : Result ℕ Refusal) (answer : ℕ) (done : IsOk found → answer ≡ 0) where
  pub answers_found : (r : Result ⊤ Refusal) → Follows r found OutOfMemory → IfErr found (λ why. answer ≡ code_of why) → Answers r answer
  answers_found r follows refused = by_result found r follows done refused
    where
      by_result : (f : Result ℕ Refusal) (r : Result ⊤ Refusal) → Follows r f OutOfMemory → (IsOk f → answer ≡ 0) → IfErr f (λ why. answer ≡ code_of why) → Answers r answer
      by_result (Ok n) (Ok t) follows done refused = inl (done refl)
      by_result (Err why) (Ok t) follows done refused = inr (refused ∙ ap code_of follows)
      by_result (Ok n) (Err e) follows done refused = absurd (ok-err follows)
        where
          ok-err : Ok n ≡ Err e → ⊥
          ok-err same = cc same
      by_result (Err why) (Err e) follows done refused = refused ∙ ap number_in follows

  -- 0, or what an error leaves
  pub done_or_kept : (P Q R : Type 0) → (P → R) → OnErr found P → OnErr found Q → (answer ≡ 0) ⊎ (R × Q)
  done_or_kept P Q R so p q = by_result found done p q
    where
      by_result : (f : Result ℕ Refusal) → (IsOk f → answer ≡ 0) → OnErr f P → OnErr f Q → (answer ≡ 0) ⊎ (R × Q)
      by_result (Ok n) done p q = inl (done refl)
      by_result (Err why) done p q = inr (so p, q)

-- what is accepted, and written
pub accepted_found : (found : Result ℕ Refusal) (old new : Sequential) (c : BoardCommand) (accepted : ℕ) → IsOk found → IfOk found (λ n. AcceptsAs old new c n) → IfOk found (λ n. accepted ≡ n) → AcceptsAs old new c accepted
accepted_found (Ok n) old new c accepted ok accepts written = rw written accepts
accepted_found (Err why) old new c accepted ok accepts written = cc ok

-- the reply of a handle with a register is that of its ledger
pub reply_of_live : (h s : BoardRegister) (c : BoardCommand) → s ≡ h → s.state ≡ 1 → reply h c ≡ command_reply (Some s.register) (given_command c)
reply_of_live h s c same live = ap (λ (x : BoardRegister). reply x c) (sym same) ∙ ap (λ (n : ℕ). command_reply (if n == 1 then Some s.register else None) (given_command c)) live

-- what holds of a sheet holds of the register that has it
pub counted_of : {A B C : Type 0} (number : ℕ) (a : A) (b : B) (answer : ℕ) (old new : C) (P : A → Type 0) (Q : B → Type 0)
    → (P a → Q b) → Sets (by_majority number (Ok a)) answer old new P → Sets (by_majority number (Ok b)) answer old new Q
counted_of number a b answer old new P Q so = by_number (majority_numbered number)
  where
    by_number : (m : Option Majority) → Sets (ok_or (option_map (λ k. a) m) BadRecord) answer old new P → Sets (ok_or (option_map (λ k. b) m) BadRecord) answer old new Q
    by_number None written = written
    by_number (Some m) written = (written.0, so written.1)
