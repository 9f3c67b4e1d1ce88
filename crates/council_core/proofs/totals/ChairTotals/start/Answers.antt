use Rattle.std.proofs.Common.{◌≤◌, ◌^◌, ℕ, List, arith, subst, ap}
use Rattle.std.proofs.lemmas.List.Elements.{All-more}
use Rattle.std.proofs.lemmas.List.Sums.{sum_by_more}
use Rattle.council_core.proofs.StartLemmas.{zeros}
use Rattle.council_core.specs.declared.limits.TheConstants.{CHAIRS, SHEET_WORDS}
use Rattle.council_core.proofs.totals.ChairTotals.start.Goals as goal

pub loop-member-preserved : goal.loop-member-preserved
loop-member-preserved c = record {
  so_far = omega (arith, c.loop-member.invariant.so_far, sum_by_more (λ (m : List ℕ × ℕ). m.1) c.args.members.now c.loop-member.member-index c.member-item.result c.loop-member-test.true, ap (λ (m : List ℕ × ℕ). m.1) c.member-item.is, c.number-total.ensures.same);
  bounded = omega (arith, c.number-total.ensures.high);
  small = All-more (λ (m : List ℕ × ℕ). m.1 ≤ 2 ^ 40) c.args.members.now c.loop-member.member-index c.member-item.result c.loop-member-test.true c.loop-member.invariant.small (subst (λ (m : List ℕ × ℕ). m.1 ≤ 2 ^ 40) c.member-item.is (subst (λ (n : ℕ). n ≤ 2 ^ 40) c.number-total.ensures.same c.number-total.ensures.high));
}

pub returns-clause-words : goal.returns-clause-words
returns-clause-words c = zeros SHEET_WORDS

pub returns-clause-counts : goal.returns-clause-counts
returns-clause-counts c = zeros CHAIRS
