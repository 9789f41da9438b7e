-- The lines at the front of a text, of which some bytes may have been read ahead.
use Rattle.std.specs.Prelude.{◌≡◌, ◌≢◌, ℕ, ◌^◌, ◌<◌, ◌≤◌, ◌⊎◌, List, [], ◌∷◌, ◌++◌, length, get_or, Option, IfSome}
use Rattle.std.specs.Io.KnownBytes.{Consumes, IsAtEnd, prepend_known}
use Rattle.dots_host.specs.declared.event.Event.{Event}
use Rattle.dots_host.specs.declared.event.Event.TheVariants as event
use Rattle.dots_script.specs.Script.{IsSkipped, IsEventLine}

-- no line feed is among the first bytes, so many
abbrev pub HasNoFeed : ℕ → List ℕ → Type 0
HasNoFeed count text = (k : ℕ) → k < count → get_or text k 0 ≢ 10

-- at most 8,400 bytes with no line feed among them
pub record IsLine (line : List ℕ) : Type 0 where
  pub short : length line ≤ 8400
  pub whole : HasNoFeed (length line) line

-- the line, and its line feed
abbrev pub with_feed : List ℕ → List ℕ
with_feed line = line ++ 10 ∷ []

-- the lines, each with its line feed
abbrev pub with_feeds : List (List ℕ) → List ℕ
with_feeds [] = []
with_feeds (line ∷ lines) = with_feed line ++ with_feeds lines

-- each of the lines is skipped
abbrev pub AreSkipped : List (List ℕ) → Type 0
AreSkipped [] = Unit {0}
AreSkipped (line ∷ lines) = IsLine line × IsSkipped line × AreSkipped lines

-- the text begins with a line of none of these forms
pub record HasOtherForm (text : List ℕ) : Type 0 where
  pub line : List ℕ
  pub rest : List ℕ
  pub split : text ≡ with_feed line ++ rest
  pub is_line : IsLine line
  pub not_skipped : ¬ (IsSkipped line)
  pub no_event : (event : Event) (at : ℕ) → ¬ (IsEventLine line event at)

-- more than 8,400 bytes come before a line feed
abbrev pub IsTooLong : List ℕ → Type 0
IsTooLong text = (8400 < length text) × HasNoFeed 8401 text

-- bytes are left, and no line feed
abbrev pub IsUnended : List ℕ → Type 0
IsUnended text = (0 < length text) × HasNoFeed (length text) text

-- the text, which has come to where a line begins, doesn't go on with a line of the script
abbrev pub IsFault : List ℕ → Type 0
IsFault text = IsTooLong text ⊎ (IsUnended text ⊎ HasOtherForm text)

-- the lines that are skipped, so many, are known to have stood at the front
pub record Skips (old new : Option (List ℕ)) (count : ℕ) : Type 0 where
  pub lines : List (List ℕ)
  pub skipped : AreSkipped lines
  pub counted : length lines ≡ count
  pub passed : Consumes old new (with_feeds lines)

-- the lines that are skipped, fewer than 2^40, and the first other one are known to have stood at the front
pub record Takes (old new : Option (List ℕ)) (event : Event) (at : ℕ) : Type 0 where
  pub lines : List (List ℕ)
  pub line : List ℕ
  pub skipped : AreSkipped lines
  pub few : length lines < 2 ^ 40
  pub is_line : IsLine line
  pub is_event : IsEventLine line event at
  pub passed : Consumes old new (with_feeds lines ++ with_feed line)

-- a call failed once the lines that are skipped have passed: they were 2^40, or what is then known to come is a fault, or for the other reason
abbrev pub Fails : Option (List ℕ) → Option (List ℕ) → Type 0 → Type 0
Fails old new other = (count : ℕ) × (count ≤ 2 ^ 40) × Skips old new count × ((count ≡ 2 ^ 40) ⊎ (IfSome new IsFault ⊎ other))

-- nothing is known to come once the lines that are skipped, fewer than 2^40, have passed
abbrev pub Ends : Option (List ℕ) → Option (List ℕ) → Type 0
Ends old new = (count : ℕ) × (count < 2 ^ 40) × Skips old new count × IsAtEnd new

-- The answer of a call, where what is known to come was old before it and is new after it. A line that is a fault stays.
abbrev pub NextIs : Option (List ℕ) → Option (List ℕ) → Event → ℕ → Type 0 → Type 0
NextIs old new event.Failed at other = Fails old new other × (at ≡ 0)
NextIs old new event.End at other = Ends old new × (at ≡ 0)
NextIs old new event at other = Takes old new event at

-- what is known to come: the bytes that were read ahead, and what the source has left
abbrev pub to_come : List ℕ → Option (List ℕ) → Option (List ℕ)
to_come ahead left = prepend_known ahead left
