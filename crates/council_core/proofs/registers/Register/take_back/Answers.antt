use Rattle.std.proofs.Common.{◌≡◌, ◌-◌, ◌≤◌, true, List, length, take, drop, sym, ap, ◌∙◌, subst, arith}
use Rattle.std.proofs.lemmas.List.{length-take-le}
use Rattle.council_core.specs.Changes.{Replays}
use Rattle.council_core.specs.Ledgers.{Ledger, ledger_as_of, roll_of, sheet_of}
use Rattle.council_core.specs.Rolls.{Opening, all_accepted, opening_roll, sheet, sheet_words}
use Rattle.council_core.specs.declared.commands.Command.{Command}
use Rattle.council_core.proofs.MirrorLemmas.{IsBeside, IsMirror, kept_in, kept_of}
use Rattle.council_core.proofs.RollLemmas.{accepted-take}
use Rattle.council_core.proofs.UndoLemmas.{IsKept-back, accepted-then, first_of_first, mirrors-first, mirrors-then, take-all_there}
use Rattle.council_core.proofs.registers.Register.take_back.Goals as goal

pub replay-requires-clause-accepted : goal.replay-requires-clause-accepted
replay-requires-clause-accepted c =
    let i = c.self.inside in
    let l : Ledger = record { opening = i.opening.items; journal = i.journal.items; limit = i.limit } in
    let begun = kept_in c.begin.new.members c.begin.new.totals in
    let start = subst (λ (o : Opening). IsMirror (opening_roll o) begun) c.as_slice.ensures.value c.begin.ensures.begun in
    let roll = opening_roll l.opening in (
      roll,
      start,
      subst (λ (j : List Command). all_accepted roll (take c.min-front.result j) ≡ true) (sym c.as_slice-2.ensures.value)
          (accepted-take roll l.journal c.min-front.result c.self.invariant.legal),
    )

pub sheet-sheet-requires : goal.sheet-sheet-requires
sheet-sheet-requires c =
    let i = c.self.inside in
    let l : Ledger = record { opening = i.opening.items; journal = i.journal.items; limit = i.limit } in
    let begun = kept_in c.begin.new.members c.begin.new.totals in
    let start = subst (λ (o : Opening). IsMirror (opening_roll o) begun) c.as_slice.ensures.value c.begin.ensures.begun in
    let first = kept_in c.replay.new.members c.replay.new.totals in
    let replays = subst (λ (j : List Command). Replays (take c.min-front.result j) begun.entries begun.totals first.entries first.totals) c.as_slice-2.ensures.value c.replay.ensures.done in
    let m = mirrors-first l c.self.invariant.legal c.min-front.result begun first start replays in (
      roll_of (ledger_as_of l c.min-front.result),
      first.entries,
      m,
      omega (arith, c.len.ensures, c.min-kept.ensures, c.min-front.ensures, c.self.invariant.within, c.self.invariant.small_limit),
    )

pub replay-requires-2-clause-accepted : goal.replay-requires-2-clause-accepted
replay-requires-2-clause-accepted c =
    let i = c.self.inside in
    let l : Ledger = record { opening = i.opening.items; journal = i.journal.items; limit = i.limit } in
    let begun = kept_in c.begin.new.members c.begin.new.totals in
    let start = subst (λ (o : Opening). IsMirror (opening_roll o) begun) c.as_slice.ensures.value c.begin.ensures.begun in
    let first = kept_in c.replay.new.members c.replay.new.totals in
    let replays = subst (λ (j : List Command). Replays (take c.min-front.result j) begun.entries begun.totals first.entries first.totals) c.as_slice-2.ensures.value c.replay.ensures.done in
    let m = mirrors-first l c.self.invariant.legal c.min-front.result begun first start replays in
    let more = c.min-kept.result - c.min-front.result in
    let roll = roll_of (ledger_as_of l c.min-front.result) in (
      roll,
      m,
      subst (λ (j : List Command). all_accepted roll (take more (drop c.min-front.result j)) ≡ true) (sym c.as_slice-3.ensures.value)
          (accepted-then l c.self.invariant.legal c.min-front.result begun first start replays more),
    )

pub invariant_of-self : goal.invariant_of-self
invariant_of-self c =
    let i = c.self.inside in
    let l : Ledger = record { opening = i.opening.items; journal = i.journal.items; limit = i.limit } in
    let begun = kept_in c.begin.new.members c.begin.new.totals in
    let start = subst (λ (o : Opening). IsMirror (opening_roll o) begun) c.as_slice.ensures.value c.begin.ensures.begun in
    let first = kept_in c.replay.new.members c.replay.new.totals in
    let replays = subst (λ (j : List Command). Replays (take c.min-front.result j) begun.entries begun.totals first.entries first.totals) c.as_slice-2.ensures.value c.replay.ensures.done in
    let m = mirrors-first l c.self.invariant.legal c.min-front.result begun first start replays in
    let count = c.min-kept.result in
    let more = count - c.min-front.result in
    let now = kept_in c.replay-2.new.members c.replay-2.new.totals in
    let again = subst (λ (j : List Command). Replays (take more (drop c.min-front.result j)) first.entries first.totals now.entries now.totals) c.as_slice-3.ensures.value c.replay-2.ensures.done in
    let back = mirrors-then l c.self.invariant.legal c.min-front.result begun first start replays more count (omega (arith, c.min-front.ensures)) now again in
    subst (λ (j : List Command). IsBeside (record { opening = l.opening; journal = j; limit = l.limit }) now) (sym c.truncate.ensures.items)
    (IsKept-back l (kept_of i) c.self.invariant count now c.replay-2.ensures.room back)

pub returns-clause-taken_back : goal.returns-clause-taken_back
returns-clause-taken_back c =
    let i = c.self.inside in
    let l : Ledger = record { opening = i.opening.items; journal = i.journal.items; limit = i.limit } in
    let same = take-all_there l.journal c.min-kept.result c.args.accepted (omega (arith, c.min-kept.ensures)) (λ h. omega (arith, h, c.len.ensures, c.min-kept.ensures)) in
    ap (λ (j : List Command). record { opening = l.opening; journal = j; limit = l.limit }) (c.truncate.ensures.items ∙ same) ∙ ap (λ (v : Ledger). ledger_as_of v c.args.accepted) c.self.view_is

pub returns-clause-same : goal.returns-clause-same
returns-clause-same c =
    let i = c.self.inside in
    let l : Ledger = record { opening = i.opening.items; journal = i.journal.items; limit = i.limit } in
    let begun = kept_in c.begin.new.members c.begin.new.totals in
    let start = subst (λ (o : Opening). IsMirror (opening_roll o) begun) c.as_slice.ensures.value c.begin.ensures.begun in
    let first = kept_in c.replay.new.members c.replay.new.totals in
    let replays = subst (λ (j : List Command). Replays (take c.min-front.result j) begun.entries begun.totals first.entries first.totals) c.as_slice-2.ensures.value c.replay.ensures.done in
    let m = mirrors-first l c.self.invariant.legal c.min-front.result begun first start replays in
    let front = c.min-front.result in
    let count = c.min-kept.result in
    let there : count ≤ length l.journal = omega (arith, c.len.ensures, c.min-kept.ensures) in
    let within : front ≤ count = omega (arith, c.min-front.ensures) in
    let same = take-all_there l.journal count c.args.accepted (omega (arith, c.min-kept.ensures)) (λ h. omega (arith, h, c.len.ensures, c.min-kept.ensures)) in
    let commands = first_of_first l.journal count c.args.accepted front c.args.front same within there (omega (arith, c.min-front.ensures)) (λ h. omega (arith, h, c.min-front.ensures)) in
    let long : front ≡ length (take front l.journal) = sym (length-take-le front l.journal (omega (arith, within, there))) in
    let roll = roll_of (ledger_as_of l front) in
    c.sheet-sheet.ensures.same roll first.entries m ∙ ap (sheet_words roll) long ∙ ap (sheet l.opening) commands
    ∙ ap (λ (v : Ledger). sheet_of (ledger_as_of (ledger_as_of v c.args.accepted) c.args.front)) c.self.view_is
