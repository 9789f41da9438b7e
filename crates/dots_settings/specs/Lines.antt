-- The lines of a file and the fields of a line.
use Rattle.std.specs.Prelude.{ℕ, ◌+◌, ◌^◌, List, take}
pub use Rattle.dots_lists.specs.Lines.{lines_of, fields_of, is_skipped}

-- What of a file is read: its first 65,537 bytes. Where there are as many the last stands in the last of their lines.
abbrev pub content_of : List ℕ → List ℕ
content_of file = take (2 ^ 16 + 1) file
