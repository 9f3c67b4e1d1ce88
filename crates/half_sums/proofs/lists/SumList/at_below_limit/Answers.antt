use Rattle.std.proofs.Common.{arith, get_or, ap, length, ◌∙◌, List}
use Rattle.half_sums.specs.declared.entry.Entry.{Entry}
use Rattle.half_sums.specs.Entries.{zero_entry}
use Rattle.half_sums.proofs.Numbers.{within_words, set_low}
use Rattle.half_sums.proofs.lists.SumList.at_below_limit.Goals as goal

pub offset_bounds-words-index : goal.offset_bounds-words-index
offset_bounds-words-index c = record { fits = omega (arith, ap length c.self.view_is, c.requires.within, c.self.invariant.bound) }

pub bounds-words-index : goal.bounds-words-index
bounds-words-index c = within_words c.self.inside.full c.self.inside.words.now c.args.index _ c.self.view_is c.requires.within

pub returns : goal.returns
returns c =
    let inside = within_words c.self.inside.full c.self.inside.words.now c.args.index _ c.self.view_is c.requires.within in
    let low = rw (← c.self.view_is) at (c.requires.below c.args.index zero_entry c.requires.within) in
    record {
      same = c.entry_of.ensures.set
          ∙ set_low c.self.inside.full c.self.inside.words.now c.args.index inside low
          ∙ ap (λ (es : List Entry). get_or es c.args.index zero_entry) c.self.view_is;
    }
