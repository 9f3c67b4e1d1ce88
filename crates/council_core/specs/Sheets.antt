-- A sheet's numbers: a word for each chair, the total, and the front.
use Rattle.std.specs.Prelude.{ℕ, ◌+◌, ◌-◌, ◌≤◌, ◌<◌, ◌==◌, Option, None, Some}
use Rattle.std.specs.Prelude.{if◌then◌else◌, List, [], ◌∷◌, sum_by, take, slice_index}
use Rattle.council_core.specs.declared.limits.TheConstants.{CHAIRS, TOTAL, FRONT, MAX_TOTAL, MAX_COMMANDS}

-- an open chair: its number and its weight
abbrev pub Chair : Type 0
Chair = ℕ × ℕ

-- the open chairs among these words, which are those of the chairs from `c` on
abbrev pub open_from : ℕ → List ℕ → List Chair
open_from c [] = []
open_from c (word ∷ rest) = if word == 0 then open_from (c + 1) rest else (c, word - 1) ∷ open_from (c + 1) rest

-- the open chairs of a sheet, in ascending order of their numbers
abbrev pub open_chairs : List ℕ → List Chair
open_chairs words = open_from 1 (take CHAIRS words)

-- the weight of a set of chairs
abbrev pub weight_of : List Chair → ℕ
weight_of chairs = sum_by (λ c. c.1) chairs

-- the weight that a chair's word represents
abbrev pub weight_in : ℕ → ℕ
weight_in word = word - 1

-- the votes of the open chairs, added up
abbrev pub cast_of : List ℕ → ℕ
cast_of words = sum_by weight_in (take CHAIRS words)

-- the total voting power in votes
abbrev pub total_of : List ℕ → ℕ
total_of words = slice_index words TOTAL

-- the number of commands after which the sheet was made
abbrev pub front_of : List ℕ → ℕ
front_of words = slice_index words FRONT

-- the weight of chair c, or None if it is closed
abbrev pub weight_word : List ℕ → ℕ → Option ℕ
weight_word words c = let word = slice_index words (c - 1) in if word == 0 then None else Some (word - 1)

pub record IsSheet (words : List ℕ) : Type 0 where
  pub chairs : (k : ℕ) → k < CHAIRS → slice_index words k ≤ MAX_TOTAL + 1
  pub cast : cast_of words ≤ total_of words
  pub total : total_of words ≤ MAX_TOTAL
  pub front : front_of words ≤ MAX_COMMANDS
