use Rattle.two_copy_steps.proofs.Names.{ap, arith, List, replicate, ℕ, ◌++◌, ◌∙◌, ◌∷◌}
use Rattle.two_copy_steps.proofs.Steps.{publishable, start_is}
use Rattle.two_copy_steps.proofs.machine.Machine.start.Goals as goal

pub invariant_of-result : goal.invariant_of-result
invariant_of-result c =
    (start_is _ c.args.readers _ _ _ _ _ record {
      legal = publishable _ _ c.sheet-sheet.ensures.ledger c.sheet-sheet.ensures.same c.sheet-sheet.ensures.in_range;
      words_are = c.start.ensures.words ∙ ap (λ (x : List ℕ). 0 ∷ x ++ x ++ replicate c.args.readers 0) (c.words.ensures.same ∙ c.sheet-sheet.ensures.same);
      published_all = omega arith;
      staged_all = c.sheet-sheet.ensures.same;
      all_out = c.start-2.ensures;
      all_rest = c.start-3.ensures;
    }).1
