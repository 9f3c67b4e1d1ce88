-- The lines of an input that have a byte in them, and the records that they are.
use Rattle.std.specs.Prelude.{◌≡◌, ◌+◌, if◌then◌else◌, ℕ, zero, suc, List, ◌∷◌, ◌++◌, Bool, true}
use Rattle.std.specs.Prelude.{drop, length}
use Rattle.std.specs.List.{list_all, prefix_len}
use Rattle.csv.specs.Reading.{is_bom}
use Rattle.board_text.specs.Requests.{Row}
use Rattle.board_c.specs.Spans.{input_rows, is_in_line, is_line_end, is_one_line}
use Rattle.board_c.specs.declared.script.lines.LineSpan.{LineSpan}

-- no field of the record contains a line end
abbrev pub is_plain : Row → Bool
is_plain row = list_all is_one_line row

-- how many bytes a byte order mark takes at the start of an input
abbrev pub mark_size : List ℕ → ℕ
mark_size (a ∷ b ∷ c ∷ rest) = if is_bom a b c then 3 else 0
mark_size _ = 0

-- the first line with a byte in it, from an offset on
abbrev pub line_after : List ℕ → ℕ → LineSpan
line_after input at =
    let from = at + prefix_len is_line_end (drop at input) in
    record { from = from; to = from + prefix_len is_in_line (drop from input) }

-- the end of the n-th such line from an offset on
unfoldable pub lines_end : ℕ → List ℕ → ℕ → ℕ
lines_end zero input at = at
lines_end (suc n) input at = (line_after input (lines_end n input at)).to

-- the records left after the first ones, none of which contains a line end; `number` is the number
-- of the next
pub record IsLeft (input : List ℕ) (number : ℕ) (left : List Row) : Type 0 where
  pub front : List Row
  pub split : input_rows input ≡ front ++ left
  pub plain : list_all is_plain front ≡ true
  pub counted : number ≡ length front + 1
