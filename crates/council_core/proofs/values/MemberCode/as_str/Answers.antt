use Rattle.council_core.proofs.CodeLemmas.{code_is_text}
use Rattle.council_core.proofs.values.MemberCode.as_str.Goals as goal

pub unreachable-requires : goal.unreachable-requires
unreachable-requires c = c.in-Err.ensures.cases.0 (code_is_text _ c.self.invariant)
