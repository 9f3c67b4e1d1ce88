use Rattle.board_share.proofs.Names.{ap, last_or, None, WriterState, Some, subst, sym, ◌∙◌, ◌≡◌}
use Rattle.std.specs.List.Sorted.{IsStrictlyIncreasing}
use Rattle.board_share.proofs.WriterSeats.{cuts}
use Rattle.board_share.proofs.writers.Writer.published.Goals as goal

pub returns-clause-ascending : goal.returns-clause-ascending
returns-clause-ascending c =
    subst (λ (b : WriterState). IsStrictlyIncreasing b.cuts) c.self.view_is
    (cuts _ _ _ _ _ _ c.self.invariant.0).ascending

pub returns-clause-last_cut : goal.returns-clause-last_cut
returns-clause-last_cut c =
    subst (λ (b : WriterState). last_or None b.cuts ≡ Some c.self.inside.published) c.self.view_is
    ((cuts _ _ _ _ _ _ c.self.invariant.0).last ∙ ap Some (sym c.self.invariant.1))
