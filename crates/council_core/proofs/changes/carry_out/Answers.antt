use Rattle.std.proofs.Common.{rules, ◌+◌, ◌≤◌, ◌^◌, length, subst, ap, arith}
use Rattle.indexmap.proofs.CallerLemmas.{index_map_len-with_value_at}
use Rattle.council_core.specs.declared.commands.Standing.{Standing}
use Rattle.council_core.specs.Rolls.{new_standing, effective_votes, votes_in}
use Rattle.council_core.proofs.MirrorLemmas.{Gain, kept_in, exchange}
use Rattle.council_core.proofs.ChangeLemmas.{due_as, planned_at, carried-open, carried-close, carried-change, carried-admit, carried-withdraw}
use Rattle.council_core.proofs.RegisterLemmas.{word_holds, count_holds, total_holds, seated_small, total_small, word_small, counted_small, word_fits, count_fits, total_fits}
use Rattle.council_core.proofs.changes.carry_out.Goals as goal

pub withdraw-requires-clause-words_hold : goal.withdraw-requires-clause-words_hold
withdraw-requires-clause-words_hold c =
    let stand = due_as c.args.members.now.entries c.args.totals.now _ _ c.in-Update.is c.requires.due in
    word_holds stand.0 (kept_in c.args.members.now c.args.totals.now) stand.2 stand.3.0 c.in-Update.old stand.3.2.known

pub withdraw-requires-clause-counts_hold : goal.withdraw-requires-clause-counts_hold
withdraw-requires-clause-counts_hold c =
    let stand = due_as c.args.members.now.entries c.args.totals.now _ _ c.in-Update.is c.requires.due in
    count_holds stand.0 (kept_in c.args.members.now c.args.totals.now) stand.2 stand.3.0 c.in-Update.old stand.3.2.known

pub withdraw-requires-clause-total_holds : goal.withdraw-requires-clause-total_holds
withdraw-requires-clause-total_holds c =
    let stand = due_as c.args.members.now.entries c.args.totals.now _ _ c.in-Update.is c.requires.due in
    total_holds stand.0 (kept_in c.args.members.now c.args.totals.now) stand.2 stand.3.0 c.in-Update.old stand.3.2.known

pub enter-requires-clause-words_fit : goal.enter-requires-clause-words_fit
enter-requires-clause-words_fit c =
    let small = subst (λ n. n ≤ 2 ^ 40) c.number-votes.ensures.same c.number-votes.ensures.high in
    λ k h. word_fits c.requires.due.0 (kept_in c.args.members.now c.args.totals.now) c.requires.due.2 c.in-Update.old c.in-Update.new small k _ h (c.withdraw.ensures.words k h)

pub enter-requires-clause-counts_fit : goal.enter-requires-clause-counts_fit
enter-requires-clause-counts_fit c =
    let small = subst (λ n. n ≤ 2 ^ 40) c.number-votes.ensures.same c.number-votes.ensures.high in
    λ k h. count_fits c.requires.due.0 (kept_in c.args.members.now c.args.totals.now) c.requires.due.2 c.in-Update.old c.in-Update.new small k _ h (c.withdraw.ensures.counts k h)

pub enter-requires-clause-total_fits : goal.enter-requires-clause-total_fits
enter-requires-clause-total_fits c =
    let small = subst (λ n. n ≤ 2 ^ 40) c.number-votes.ensures.same c.number-votes.ensures.high in
    total_fits c.requires.due.0 (kept_in c.args.members.now c.args.totals.now) c.requires.due.2 c.in-Update.old c.in-Update.new small _ c.withdraw.ensures.total

pub withdraw-requires-in-Remove-clause-total_holds : goal.withdraw-requires-in-Remove-clause-total_holds
withdraw-requires-in-Remove-clause-total_holds c =
    let leave = due_as c.args.members.now.entries c.args.totals.now _ _ c.in-Remove.is c.requires.due in
    total_holds leave.0 (kept_in c.args.members.now c.args.totals.now) leave.2 leave.3.0 c.in-Remove.old leave.3.2.known

pub enter-requires-in-Enter-clause-counts_fit : goal.enter-requires-in-Enter-clause-counts_fit
enter-requires-in-Enter-clause-counts_fit c =
    let m = c.requires.due.2 in
    λ k h. omega (arith, m.each_count k h, seated_small c.requires.due.0 (kept_in c.args.members.now c.args.totals.now) m (k + 1))

pub enter-requires-in-Enter-clause-total_fits : goal.enter-requires-in-Enter-clause-total_fits
enter-requires-in-Enter-clause-total_fits c =
    let m = c.requires.due.2 in
    omega (arith, m.same_total, total_small c.requires.due.0 (kept_in c.args.members.now c.args.totals.now) m, counted_small (new_standing c.in-Enter.votes) c.fresh.ensures.small, ap effective_votes c.fresh.ensures.same)

pub enter-requires-in-Enter-clause-words_fit : goal.enter-requires-in-Enter-clause-words_fit
enter-requires-in-Enter-clause-words_fit c =
    λ k h. omega (arith, word_small c.requires.due.0 (kept_in c.args.members.now c.args.totals.now) c.requires.due.2 k h, ap (votes_in (k + 1)) c.fresh.ensures.same)

pub returns-in-Open-clause-done : goal.returns-in-Open-clause-done
returns-in-Open-clause-done c =
    λ roll command m planned.
    carried-open roll command (kept_in c.args.members.now c.args.totals.now) m c.index_of.result c.in-Open.chair
    c.index_of.ensures.index c.index_of.ensures.within (search rules) (planned_at roll command _ _ c.in-Open.is planned)

pub returns-in-Close-clause-done : goal.returns-in-Close-clause-done
returns-in-Close-clause-done c =
    λ roll command m planned.
    carried-close roll command (kept_in c.args.members.now c.args.totals.now) m c.index_of-in-Close.result c.in-Close.chair
    c.index_of-in-Close.ensures.index c.index_of-in-Close.ensures.within (search rules) (planned_at roll command _ _ c.in-Close.is planned)

pub returns-in-Update-clause-done : goal.returns-in-Update-clause-done
returns-in-Update-clause-done c =
    λ roll command m planned.
    carried-change roll command (kept_in c.args.members.now c.args.totals.now) m c.in-Update.index c.in-Update.old c.in-Update.new
    (planned_at roll command _ _ c.in-Update.is planned) (kept_in c.put.new.members c.enter.new.self)
    (exchange c.args.totals.now c.withdraw.new.self c.enter.new.self c.in-Update.old c.in-Update.new
    (record { words = c.withdraw.ensures.words; counts = c.withdraw.ensures.counts; total = c.withdraw.ensures.total })
    (record { words = c.enter.ensures.words; counts = c.enter.ensures.counts; total = c.enter.ensures.total; high = c.enter.ensures.high }))
    c.put.ensures.entries

pub returns-in-Update-clause-room : goal.returns-in-Update-clause-room
returns-in-Update-clause-room c =
    omega (arith, ap length c.put.ensures.entries, index_map_len-with_value_at c.args.members.now c.in-Update.index c.in-Update.new, c.put.ensures.room, c.requires.room)

pub returns-in-Enter-clause-done : goal.returns-in-Enter-clause-done
returns-in-Enter-clause-done c =
    λ roll command m planned.
    let as_fresh = c.fresh.ensures.same in
    carried-admit roll command (kept_in c.args.members.now c.args.totals.now) m c.in-Enter.code c.in-Enter.votes
    (planned_at roll command _ _ c.in-Enter.is planned) (kept_in c.enter_new.new.members c.enter-in-Enter.new.self)
    (subst (λ (s : Standing). Gain c.args.totals.now c.enter-in-Enter.new.self s) as_fresh
    (record { words = c.enter-in-Enter.ensures.words; counts = c.enter-in-Enter.ensures.counts; total = c.enter-in-Enter.ensures.total; high = c.enter-in-Enter.ensures.high }))
    c.enter_new.ensures.entries

pub returns-in-Remove-clause-done : goal.returns-in-Remove-clause-done
returns-in-Remove-clause-done c =
    λ roll command m planned.
    carried-withdraw roll command (kept_in c.args.members.now c.args.totals.now) m c.in-Remove.index c.in-Remove.old
    (planned_at roll command _ _ c.in-Remove.is planned) (kept_in c.take_out.new.members c.withdraw-in-Remove.new.self)
    (record { words = c.withdraw-in-Remove.ensures.words; counts = c.withdraw-in-Remove.ensures.counts; total = c.withdraw-in-Remove.ensures.total })
    c.take_out.ensures.entries
