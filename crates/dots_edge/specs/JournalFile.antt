-- Which files may be journals.
use Rattle.std.specs.Prelude.{◌≡◌, ℕ, ◌+◌, ◌*◌, ◌/◌, ◌%◌, ◌^◌, min, Bool, true, false, ◌==◌, ◌||◌, ◌&&◌, List, [], ◌∷◌, drop, Option, Some, None}
use Rattle.std.specs.List.{list_all}
use Rattle.std.specs.Fs.{metadata_len, file_type, IsFile}
use Rattle.std.specs.declared.fs.attrs.Metadata.{Metadata}
use Rattle.dots_edge.specs.declared.journal.Journal.{Journal}
use Rattle.dots_edge.specs.declared.journal_file.Front.{Front}
use Rattle.dots_edge.specs.declared.journal_file.Front.TheVariants as front

-- a regular file of whole pages
pub record IsWhole (found : Metadata) : Type 0 where
  pub regular : IsFile (file_type found)
  pub pages : metadata_len found % 4096 ≡ 0

-- What of the first slot there is: nothing; or it begins with an open gate; or the gate isn't open, and nothing stands behind the header, whose bytes are
-- written before its gate.
abbrev pub is_front : List ℕ → Bool
is_front [] = true
is_front (gate ∷ behind) = gate == 165 || (gate == 0 && list_all (λ byte. byte == 0) (drop 64 (gate ∷ behind)))

-- a journal may begin so
abbrev pub is_journal_front : Front → Bool
is_journal_front front.Open = true
is_journal_front front.Blank = true
is_journal_front front.Other = false

-- how many bytes the disk has: those that are reserved, as whole pages, and else as many as a journal may have
abbrev pub room_of : Option ℕ → ℕ
room_of None = 2 ^ 30
room_of (Some bytes) = (min bytes (2 ^ 30) + 4095) / 4096 * 4096

-- the path of a journal was seen to lead elsewhere
abbrev pub is_lost : Option Journal → Bool
is_lost None = false
is_lost (Some journal) = journal.lost
