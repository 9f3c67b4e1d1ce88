-- Where the records of an input stand.
use Rattle.std.specs.Prelude.{◌≡◌, ◌≤◌, ◌+◌, ◌==◌, ◌||◌, not, ℕ, List, [], ◌∷◌, ◌++◌, Bool, true}
use Rattle.std.specs.Prelude.{take, drop, length}
use Rattle.std.specs.List.{list_all}
use Rattle.csv.specs.Machine.{carriage_return, line_feed}
use Rattle.csv.specs.Reading.{default_config, records, strip_bom}
use Rattle.board_text.specs.Requests.{Row}
use Rattle.board_c.specs.declared.script.items.BoardItem.{BoardItem}

abbrev pub is_line_end : ℕ → Bool
is_line_end b = (b == carriage_return) || (b == line_feed)

abbrev pub is_in_line : ℕ → Bool
is_in_line b = not (is_line_end b)

-- none of these bytes ends a line
abbrev pub is_one_line : List ℕ → Bool
is_one_line bytes = list_all is_in_line bytes

-- all records of an input
abbrev pub input_rows : List ℕ → List Row
input_rows input = records default_config (strip_bom input)

-- the bytes of an input from one offset up to another
abbrev pub bytes_between : ℕ → ℕ → List ℕ → List ℕ
bytes_between from to input = drop from (take to input)

-- record number `number` of an input is its bytes from `from` up to `to`: they are on one line and
-- read as one record, and the records of the input are those of the bytes before, this one, and
-- those of the bytes after
pub record IsRecordAt (input : List ℕ) (number from to : ℕ) : Type 0 where
  pub row : Row
  pub within : to ≤ length input
  pub one_line : is_one_line (bytes_between from to input) ≡ true
  pub alone : records default_config (bytes_between from to input) ≡ row ∷ []
  pub parts : input_rows input
      ≡ input_rows (take from input) ++ row ∷ records default_config (drop to input)
  pub counted : number ≡ length (input_rows (take from input)) + 1

-- an item stands where it says
abbrev pub SpansItsLine : List ℕ → BoardItem → Type 0
SpansItsLine input item = IsRecordAt input item.number item.from item.to
