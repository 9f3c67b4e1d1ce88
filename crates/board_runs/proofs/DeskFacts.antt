-- Indices that were kept.
use Rattle.std.proofs.Common.{◌≡◌, List, ℕ, Option, Some, sym, ap, ◌∙◌}
use Rattle.council_core.specs.Sequential.{Sequential, published_sheet}
use Rattle.majority_rule.specs.declared.majorities.Majority.{Majority}
use Rattle.power_index.specs.Indices.{indices_of}
use Rattle.power_index.specs.declared.indices.Indices.{Indices}
use Rattle.board_runs.specs.Desks.{AreCounted}

-- indices kept are those of a reading at their majority
pub kept-counted : (kept : Option Indices) (words sheet : List ℕ) (i : Indices) (m : Majority) → AreCounted kept words → kept ≡ Some i → words ≡ sheet → i.majority ≡ m → i ≡ indices_of m sheet
kept-counted kept words sheet i m counted is same at = counted i is ∙ ap (λ n. indices_of n words) at ∙ ap (indices_of m) same

-- indices of the sheet may be kept
pub keeps-counted : (words sheet : List ℕ) (i : Indices) → i ≡ indices_of i.majority sheet → words ≡ sheet → AreCounted (Some i) words
keeps-counted words sheet i counted same j is = let e : i ≡ j = cc in rw (← e) (counted ∙ ap (indices_of i.majority) (sym same))

-- indices of a sheet are those at their own majority
pub at-their-own : (before after : Sequential) (i : Indices) (m : Majority) → i ≡ indices_of m (published_sheet before) → after ≡ before → i ≡ indices_of i.majority (published_sheet after)
at-their-own before after i m counted same =
    counted ∙ ap (λ n. indices_of n (published_sheet before)) (sym (ap (λ (j : Indices). j.majority) counted)) ∙ ap (λ s. indices_of i.majority (published_sheet s)) (sym same)
