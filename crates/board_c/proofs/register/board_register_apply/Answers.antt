use Rattle.std.proofs.Common.{◌≡◌, ◌==◌, ℕ, Some, None, if◌then◌else◌, ap, refl, subst, sym, ◌∙◌, rules}
use Rattle.council_core.specs.Sequential.{Sequential}
use Rattle.board_c.specs.Calls.{AcceptsAs}
use Rattle.board_c.specs.Lending.{with_register}
use Rattle.board_c.specs.declared.register.handles.BoardRegister.{BoardRegister}
use Rattle.board_c.proofs.HandleFacts.{handle_kept}
use Rattle.board_c.proofs.ReplyFacts.{accepted_found, answers_found, done_or_kept, reply_of_live}
use Rattle.board_c.proofs.register.board_register_apply.Goals as goal

pub returns-clause-verdict : goal.returns-clause-verdict
returns-clause-verdict c =
    let live : c.state.new.self.state ≡ 1 = search rules in
    rw (reply_of_live _ _ c.args.command.now c.state.ensures.1 live, ← c.register_of.ensures.value)
    (answers_found c.apply_to.result c.answer.result c.answer.ensures.done.1 _ c.apply_to.ensures.verdict c.answer.ensures.refused)

pub returns-clause-accepted : goal.returns-clause-accepted
returns-clause-accepted c = λ is.
    let live : c.state.new.self.state ≡ 1 = search rules in
    let new : Sequential = c.apply_to.new.register in
    let there : ℕ → Type 0 = λ n. (if n == 1 then Some new else None) ≡ Some new in
    let accepts = accepted_found c.apply_to.result c.register_of.result.now new c.args.command.now c.answer.new.place (c.answer.ensures.done.0 is) c.apply_to.ensures.accepted c.answer.ensures.written in
    let old = c.register_of.ensures.value ∙ ap (λ (h : BoardRegister). h.register) c.state.ensures.1 in (
      new,
      subst there (sym live) refl,
      ap (λ (h : BoardRegister). with_register h new) c.state.ensures.1,
      subst (λ (s : Sequential). AcceptsAs s new c.args.command.now c.answer.new.place) old accepts,
    )

pub returns-clause-unchanged : goal.returns-clause-unchanged
returns-clause-unchanged c =
    done_or_kept c.apply_to.result c.answer.result c.answer.ensures.done.1 _ _ _ (λ kept. handle_kept _ _ _ c.state.ensures.1 (kept ∙ c.register_of.ensures.value)) c.apply_to.ensures.unchanged c.answer.ensures.untouched
