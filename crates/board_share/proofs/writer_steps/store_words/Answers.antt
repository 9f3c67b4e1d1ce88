use Rattle.board_share.proofs.Names.{arith, Publishing, subst, ℕ, ◌+◌, ◌-◌, ◌∙◌, ◌≡◌}
use Rattle.board_share.proofs.writer_steps.store_words.Goals as goal
use Rattle.two_copy_steps.specs.Actions.{filling_phase}

pub loop-k-preserved : goal.loop-k-preserved
loop-k-preserved c =
    let i = c.loop-k.invariant in
    let f = i.fills in
    let from = i.from in
    let s = c.store_word.ensures in
    record {
      fills = record {
        same = s.table ∙ f.same;
        within = f.within;
        start = f.start;
        steps = f.steps + 1;
        out =
            f.out;
        publishing = s.stored f.start f.steps f.out f.publishing;
        copy_is = f.copy_is;
      };
      table = s.table ∙ i.table;
      from = omega arith;
      stored = λ start steps out p.
          let more : (steps + (c.loop-k.k - c.args.from)) + 1 ≡ steps + ((c.loop-k.k + 1) - c.args.from) =
          omega arith in
          subst (λ (n : ℕ). Publishing c.args.register.now start c.store_word.new.seat.me n out
          (filling_phase (c.loop-k.k + 1))) more (s.stored start _ out (i.stored start steps out p));
    }
