use Rattle.std.proofs.Common.{◌≡◌, rules}
use Rattle.council_core.specs.Sequential.{Sequential}
use Rattle.council_core.specs.Ledgers.{sheet_of}
use Rattle.c_values.specs.Counts.{ShowsCounts}
use Rattle.board_c.specs.Calls.{by_majority}
use Rattle.board_c.proofs.HandleFacts.{handle_kept, written_from}
use Rattle.board_c.proofs.register.board_register_counts.Goals as goal

pub returns-clause-counts : goal.returns-clause-counts
returns-clause-counts c =
    let live : c.state.new.self.state ≡ 1 = search rules in
    written_from _ _ _ (by_majority c.args.majority) _ _ _ (λ (s : Sequential). ShowsCounts c.args.majority (sheet_of s.ledger) c.write_own_counts.new.counts)
    c.state.ensures.1 live c.register_of.ensures.value c.write_own_counts.ensures

pub returns-clause-unchanged : goal.returns-clause-unchanged
returns-clause-unchanged c = handle_kept _ _ _ c.state.ensures.1 c.register_of.ensures.value
