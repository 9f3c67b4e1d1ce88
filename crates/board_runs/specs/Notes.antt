-- The lines of the machine's outputs, each without its line end.
use Rattle.std.specs.Prelude.{ℕ, List, [], ◌∷◌, codes, decimal}
use Rattle.council_core.specs.Sheets.{cast_of, front_of, total_of}
use Rattle.two_copy_steps.specs.declared.events.Note.{Note}
use Rattle.two_copy_steps.specs.declared.events.Note.TheVariants as note
use Rattle.board_text.specs.Lines.{LineBytes, accepted_line, line_of, published_line, refused_line}

-- names the reader that blocked a publication
abbrev pub busy_line : ℕ → LineBytes
busy_line reader = line_of (codes "busy") (decimal reader ∷ [])

-- one reading in `trace`: the reader, and the front, cast and total of the sheet that it read
abbrev pub sheet_line : ℕ → List ℕ → LineBytes
sheet_line reader words =
    line_of (codes "sheet")
    (decimal reader ∷ decimal (front_of words) ∷ decimal (cast_of words) ∷ decimal (total_of words) ∷ [])

-- the lines printed for an output of the machine
abbrev pub note_lines : Note → List LineBytes
note_lines (note.Accepted n) = accepted_line n ∷ []
note_lines (note.Refused why) = refused_line why ∷ []
note_lines note.Began = codes "began" ∷ []
note_lines note.Moved = []
note_lines (note.Published n) = published_line n ∷ []
note_lines (note.Busy reader) = busy_line reader ∷ []
note_lines (note.Read reader words) = sheet_line reader words ∷ []
note_lines note.Skipped = codes "skipped" ∷ []
