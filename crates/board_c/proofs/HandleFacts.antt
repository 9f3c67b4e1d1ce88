-- What holds of a handle whose register was lent.
use Rattle.std.proofs.Common.{◌≡◌, ℕ, Some, None, Result, Ok, ap, sym, ◌∙◌}
use Rattle.std.specs.Prelude.{◌==◌, if◌then◌else◌}
use Rattle.std.specs.Option.{ok_or}
use Rattle.council_core.specs.Sequential.{Sequential}
use Rattle.council_core.specs.declared.refusals.Refusal.{Refusal}
use Rattle.council_core.specs.declared.refusals.Refusal.TheVariants.{NoRegister}
use Rattle.board_c.specs.Calls.{Sets, live_register}
use Rattle.board_c.specs.Lending.{with_register}
use Rattle.board_c.specs.declared.register.handles.BoardRegister.{BoardRegister}

-- a handle whose register is as before is as before
pub handle_kept : (h s : BoardRegister) (l : Sequential) → s ≡ h → l ≡ s.register → with_register s l ≡ h
handle_kept h s l same lent = ap (with_register s) lent ∙ same

-- the register of a handle that has one
pub register_live : (h s : BoardRegister) (l : Sequential) → s ≡ h → s.state ≡ 1 → l ≡ s.register → live_register h ≡ Ok l
register_live h s l same live lent =
    ap live_register (sym same) ∙ ap (λ (n : ℕ). ok_or (if n == 1 then Some s.register else None) NoRegister) live ∙ ap Ok (sym lent)

-- what is found in it, and written, is found in the handle
pub written_from : {A B : Type 0} (h s : BoardRegister) (l : Sequential) (find : Result Sequential Refusal → Result B Refusal) (answer : ℕ) (old new : A) (holds : B → Type 0)
    → s ≡ h → s.state ≡ 1 → l ≡ s.register → Sets (find (Ok l)) answer old new holds → Sets (find (live_register h)) answer old new holds
written_from h s l find answer old new holds same live lent is = rw (register_live h s l same live lent) is
