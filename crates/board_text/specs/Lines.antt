-- The lines of the output, each without its line end.
use Rattle.std.specs.Prelude.{ℕ, List, [], ◌∷◌, ◌++◌, Option, Some, None, map, codes, decimal}
use Rattle.std.specs.Option.{option_map_or}
use Rattle.council_core.specs.Refusals.{code_of, name_of, refusal_of}
use Rattle.council_core.specs.Sequential.{Reply, answered, reading}
use Rattle.council_core.specs.declared.calls.Answer.TheVariants as answer
use Rattle.council_core.specs.declared.refusals.Refusal.{Refusal}
use Rattle.majority_rule.specs.declared.majorities.Majority.{Majority}
use Rattle.power_index.specs.Indices.{fraction, indices_of}
use Rattle.power_index.specs.declared.indices.Fraction.{Fraction}
use Rattle.power_index.specs.declared.indices.ChairPower.{ChairPower}
use Rattle.power_index.specs.declared.indices.Indices.{Indices}
use Rattle.majority_rule.specs.Majorities.{word_of_majority}
use Rattle.board_text.specs.declared.faults.Fault.{Fault}
use Rattle.board_text.specs.declared.requests.Request.{Request}
use Rattle.board_text.specs.declared.requests.Request.TheVariants as ask

-- a line, in ASCII
abbrev pub LineBytes : Type 0
LineBytes = List ℕ

-- a word, followed by fields, each after a comma
abbrev pub line_of : List ℕ → List (List ℕ) → LineBytes
line_of word [] = word
line_of word (field ∷ fields) = line_of (word ++ 44 ∷ field) fields

abbrev pub accepted_line : ℕ → LineBytes
accepted_line n = line_of (codes "accepted") (decimal n ∷ [])

abbrev pub refused_line : Refusal → LineBytes
refused_line why = line_of (codes "refused") (decimal (code_of why) ∷ name_of why ∷ [])

abbrev pub published_line : ℕ → LineBytes
published_line n = line_of (codes "published") (decimal n ∷ [])

-- a fraction, or `-` where it is absent
abbrev pub fraction_if_any : Option Fraction → List ℕ
fraction_if_any None = codes "-"
fraction_if_any (Some f) = fraction f

abbrev pub reading_line : ℕ → Indices → LineBytes
reading_line reader i =
    line_of (codes "reading")
    (decimal reader ∷ decimal i.front ∷ word_of_majority i.majority ∷ decimal i.chairs ∷ decimal i.quota
    ∷ decimal i.cast ∷ decimal i.total ∷ decimal i.winning ∷ decimal i.coalitions ∷ [])

abbrev pub chair_line : ChairPower → LineBytes
chair_line c =
    line_of (codes "chair")
    (decimal c.chair ∷ decimal c.weight ∷ decimal c.swings ∷ fraction c.banzhaf ∷ fraction_if_any c.share
    ∷ fraction_if_any c.prevent ∷ fraction c.initiate ∷ [])

-- the lines of a reading: the indices of the sheet, then one line for each open chair by number
abbrev pub reading_lines : ℕ → Majority → List ℕ → List LineBytes
reading_lines reader m words = let i = indices_of m words in reading_line reader i ∷ map chair_line i.rows.items

-- the name of the refusal with this number; empty if there is none
abbrev pub fault_name : ℕ → List ℕ
fault_name code = option_map_or name_of (refusal_of code) []

-- the last line of a run that ends in a fault
abbrev pub fault_line : Fault → LineBytes
fault_line f = line_of (codes "fault") (decimal f.place ∷ fault_name f.code ∷ [])

-- the line of a reply to a command or to a publication
abbrev pub reply_line : Reply → LineBytes
reply_line (answered (answer.Accepted n)) = accepted_line n
reply_line (answered (answer.Refused why)) = refused_line why
reply_line (answered (answer.Published n)) = published_line n
reply_line (reading words) = []

-- the lines printed for the sequential register's reply to a request
abbrev pub reply_lines : Request → Reply → List LineBytes
reply_lines (ask.Order o) r = reply_line r ∷ []
reply_lines (ask.Read reader m) (reading words) = reading_lines reader m words
reply_lines (ask.Read reader m) (answered a) = []

-- the number of readings by a reader
abbrev pub reader_line : ℕ → ℕ → LineBytes
reader_line reader count = line_of (codes "reader") (decimal reader ∷ decimal count ∷ [])

abbrev pub audit_line : LineBytes
audit_line = line_of (codes "audit") (codes "ok" ∷ [])
