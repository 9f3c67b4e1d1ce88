use Rattle.std.proofs.Common.{arith, get_or, ap, length, ◌∙◌, List}
use Rattle.half_sums.specs.declared.entry.Entry.{Entry}
use Rattle.half_sums.specs.Entries.{zero_entry}
use Rattle.half_sums.proofs.Numbers.{within_words, set_below, set_full}
use Rattle.half_sums.proofs.lists.SumList.at.Goals as goal

pub offset_bounds-words-index : goal.offset_bounds-words-index
offset_bounds-words-index c = record { fits = omega (arith, ap length c.self.view_is, c.requires.within, c.self.invariant.bound) }

pub bounds-words-index : goal.bounds-words-index
bounds-words-index c = within_words c.self.inside.full c.self.inside.words.now c.args.index _ c.self.view_is c.requires.within

pub returns-then-index-full-clause-same : goal.returns-then-index-full-clause-same
returns-then-index-full-clause-same c =
    c.entry_of-set.ensures.set
    ∙ set_below c.self.inside.full c.self.inside.words.now c.args.index (omega arith) (within_words c.self.inside.full c.self.inside.words.now c.args.index _ c.self.view_is c.requires.within)
    ∙ ap (λ (es : List Entry). get_or es c.args.index zero_entry) c.self.view_is

pub returns-clause-same : goal.returns-clause-same
returns-clause-same c =
    set_full c.self.inside.full c.self.inside.words.now c.args.index (omega arith) (within_words c.self.inside.full c.self.inside.words.now c.args.index _ c.self.view_is c.requires.within) _ c.entry_of-set.ensures.set
    ∙ ap (λ (es : List Entry). get_or es c.args.index zero_entry) c.self.view_is
