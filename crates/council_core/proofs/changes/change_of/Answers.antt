use Rattle.std.proofs.Common.{◌≡◌, true, is_ok, subst}
use Rattle.council_core.specs.Rolls.{step}
use Rattle.council_core.specs.declared.commands.Command.{Command}
use Rattle.council_core.proofs.MirrorLemmas.{kept_in}
use Rattle.council_core.proofs.ChangeLemmas.{change_as, sets_votes, suspends, restores}
use Rattle.council_core.proofs.changes.change_of.Goals as goal

pub returns-in-SetVotes : goal.returns-in-SetVotes
returns-in-SetVotes c =
    λ roll totals m ok.
    let kept = kept_in c.args.members.now totals in
    let member = c.known-index-in-SetVotes in
    change_as roll kept m c.in-SetVotes.code member.result.1 member.ensures.found c.args.command _ member.result.0 _ c.in-SetVotes.is member.ensures.index
    (sets_votes roll kept m c.in-SetVotes.code member.result.1 member.ensures.found c.in-SetVotes.votes)

pub returns-in-Suspend : goal.returns-in-Suspend
returns-in-Suspend c =
    λ roll totals m ok.
    let kept = kept_in c.args.members.now totals in
    let member = c.known-index-in-Suspend in
    let is_accepted = subst (λ (x : Command). is_ok (step roll x) ≡ true) c.in-Suspend.is ok in
    change_as roll kept m c.in-Suspend.code member.result.1 member.ensures.found c.args.command _ member.result.0 _ c.in-Suspend.is member.ensures.index
    (suspends roll kept m c.in-Suspend.code member.result.1 member.ensures.found is_accepted)

pub returns-in-Restore : goal.returns-in-Restore
returns-in-Restore c =
    λ roll totals m ok.
    let kept = kept_in c.args.members.now totals in
    let member = c.known-index-in-Restore in
    let is_accepted = subst (λ (x : Command). is_ok (step roll x) ≡ true) c.in-Restore.is ok in
    change_as roll kept m c.in-Restore.code member.result.1 member.ensures.found c.args.command _ member.result.0 _ c.in-Restore.is member.ensures.index
    (restores roll kept m c.in-Restore.code member.result.1 member.ensures.found is_accepted)
