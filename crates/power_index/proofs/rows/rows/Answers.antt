use Rattle.std.proofs.Common.{◌≡◌, ◌+◌, ◌^◌, ◌<◌, ◌≤◌, [], ◌∷◌, ◌++◌, ℕ, List, All, sum_by, arith, length, map, take, get_or, ap, ◌∙◌, sym, subst}
use Rattle.std.proofs.lemmas.List.{length-append, map-append, take_more}
use Rattle.council_core.specs.Sheets.{Chair, open_chairs}
use Rattle.council_core.specs.Coalitions.{Rule, eta_of, omega_of}
use Rattle.majority_rule.specs.Winning.{rule_of}
use Rattle.power_index.specs.declared.indices.ChairPower.{ChairPower}
use Rattle.power_index.specs.Indices.{power_of, swings_among}
use Rattle.power_index.proofs.Bounds.{few_chairs}
use Rattle.power_index.proofs.RowLemmas.{etas_small, etas_sum}
use Rattle.power_index.proofs.TallyLemmas.{winning_part, row_agree}
use Rattle.power_index.proofs.rows.rows.Goals as goal
use Rattle.council_core.specs.declared.limits.TheConstants.{CHAIRS}

pub swing_sum-requires-clause-small : goal.swing_sum-requires-clause-small
swing_sum-requires-clause-small c =
    subst (λ (l : List ℕ). All (λ n. n ≤ 2 ^ CHAIRS) l) (sym (c.as_slice.ensures.value ∙ c.requires.tally.each)) (etas_small (rule_of c.args.tally.now.majority c.args.sheet.now) (open_chairs c.args.sheet.now) (few_chairs c.args.sheet.now))

pub row-requires-clause-winning : goal.row-requires-clause-winning
row-requires-clause-winning c = winning_part c.args.sheet.now c.args.tally.now c.len.result c.requires.tally (c.len.ensures.value ∙ ap length c.open_chairs-chairs.ensures.same)

pub loop-i-preserved : goal.loop-i-preserved
loop-i-preserved c =
    let words : List ℕ = c.args.sheet.now in
    let rule : Rule = rule_of c.args.tally.now.majority words in
    let board : List Chair = open_chairs words in
    let i : ℕ = c.loop-i.i in
    let d : Chair = c.index-deref-i.result in
    let chair : Chair = get_or board i d in
    let g : Chair → ChairPower = λ ch. power_of (length board) (omega_of rule board) (swings_among rule board board) (eta_of rule ch board) ch in
    let all : c.open_chairs-chairs.result.items ≡ board = c.open_chairs-chairs.ensures.same in
    let count : c.len.result ≡ length board = c.len.ensures.value ∙ ap length all in
    let inside : i < length board = omega (arith, c.len-i-end.ensures.value, ap length all) in
    let sum : c.swing_sum.result ≡ swings_among rule board board = c.swing_sum.ensures.sum ∙ ap (sum_by (λ n. n)) (c.as_slice.ensures.value ∙ c.requires.tally.each) ∙ etas_sum rule board in
    let here : d ≡ chair = c.index-deref-i.is ∙ ap (λ l. get_or l i d) (c.deref.ensures.0 ∙ all) in
    let winning : ℕ = c.args.tally.now.winning in
    let value : c.row.result ≡ g chair =
    c.row.ensures.power
    ∙ ap (λ l. power_of c.len.result winning c.swing_sum.result (get_or l i 0) d) c.deref-in-loop-i.ensures.0
    ∙ ap (power_of c.len.result winning c.swing_sum.result (get_or c.args.tally.now.swings.items i 0)) here
    ∙ row_agree words c.args.tally.now c.len.result c.swing_sum.result i d c.requires.tally count sum inside in
    record {
      rows = c.push.ensures.items
          ∙ ap (λ r. c.loop-i.rows.items ++ r ∷ []) value
          ∙ ap (λ l. l ++ g chair ∷ []) c.loop-i.invariant.rows
          ∙ ap (λ l. map g (take i l) ++ g chair ∷ []) all
          ∙ sym (ap (map g) (take_more board i d inside) ∙ map-append g (take i board) (chair ∷ []))
          ∙ ap (λ l. map g (take (i + 1) l)) (sym all);
      bound = omega (arith, ap length c.push.ensures.items, length-append c.loop-i.rows.items (c.row.result ∷ []));
    }
