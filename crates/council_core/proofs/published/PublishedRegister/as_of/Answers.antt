use Rattle.std.proofs.Common.{◌≤◌, arith}
use Rattle.council_core.specs.Sheets.{front_of}
use Rattle.council_core.proofs.PublishedLemmas.{shows-own, shows-earlier}
use Rattle.council_core.proofs.published.PublishedRegister.as_of.Goals.{then-front-accepted, else-front-accepted}
use Rattle.council_core.proofs.published.PublishedRegister.as_of.Goals as goal

pub invariant_of-result : goal.invariant_of-result
invariant_of-result c =
    elim c.if-front-accepted.branch [
      | then-front-accepted w ↦
          let within : front_of c.self.inside.shown ≤ c.args.accepted = omega (arith, c.front.ensures.same, w.if-front-accepted.true) in
          let earlier = shows-earlier c.self.inside.register c.self.inside.shown c.args.accepted c.self.invariant within in
          rw (w.shown-is, c.in_ok-register.ensures.copied) earlier
      | else-front-accepted w ↦ rw w.shown-is (shows-own c.in_ok-register.register w.sheet-shown.result w.sheet-shown.ensures.same w.sheet-shown.ensures.in_range)
    ]
