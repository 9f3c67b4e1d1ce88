use Rattle.std.specs.Prelude.{◌≡◌, ℕ, List}
use Rattle.std.proofs.Common.{rules, ◌∙◌, subst}
use Rattle.council_core.specs.Rolls.{Opening}
use Rattle.board_share.specs.Readers.{IsLegalSheet}
use Rattle.callers.proofs.board_share_caller.read_twice.Goals as goal

-- a legal sheet of an opening is one of an equal opening
legal-along : {a b : Opening} {words : List ℕ} → a ≡ b → IsLegalSheet a words → IsLegalSheet b words
legal-along {a} {b} {words} e legal = subst (λ opening. IsLegalSheet opening words) e legal

pub returns-clause-legal : goal.returns-clause-legal
returns-clause-legal c =
    let opened : c.in-Some.reader.opening ≡ c.args.register.opening = search rules in (
      legal-along opened c.read-before.ensures.sheet,
      legal-along (c.read-before.ensures.opening ∙ opened) c.read-after.ensures.sheet,
    )
