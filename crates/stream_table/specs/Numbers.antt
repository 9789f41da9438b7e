-- The numbers of a peer's connections beside what is buffered of them.
use Rattle.std.specs.Prelude.{ℕ, List, [], ◌∷◌, Option, Some, None}
use Rattle.stream_table.specs.declared.numbers.Numbers.{Numbers}
use Rattle.stream_table.specs.declared.numbers.Numbers.TheVariants as numbers
use Rattle.stream_table.specs.declared.seat.Seat.{Seat}
use Rattle.stream_table.specs.declared.seat.Seat.TheVariants.{Older, Newer}
use Rattle.stream_table.specs.Lines.{Line}

-- the lines of so many connections, where the first two places have these bytes
abbrev pub numbered_lines : Numbers → List ℕ → List ℕ → List Line
numbered_lines numbers.Free older newer = []
numbered_lines (numbers.One first) older newer = record { conn = first; buffered = older } ∷ []
numbered_lines (numbers.Two first second) older newer = record { conn = first; buffered = older } ∷ record { conn = second; buffered = newer } ∷ []

-- the line at a place of a row
abbrev pub line_in : Seat → List Line → Option Line
line_in seat [] = None
line_in Older (line ∷ lines) = Some line
line_in Newer (line ∷ []) = None
line_in Newer (line ∷ next ∷ lines) = Some next
