-- How far the head at the front of some bytes came (RFC 9112, sections 2.1 and 2.2).
use Rattle.std.specs.Prelude.{◌≡◌, ℕ, ◌<◌, ◌==◌, Bool, true, false, List, [], ◌∷◌, ◌++◌, length, if◌then◌else◌, Option, IfSome}
use Rattle.httparse.specs.Ascii.{line_feed, carriage_return}
use Rattle.http_cut.specs.declared.place.Place.{Place}
use Rattle.http_cut.specs.declared.place.Place.TheVariants.{Blank, Line, LineFeed, Return, End}
use Rattle.http_cut.specs.Requests.{is_other, waits, IsCut}

-- one byte more
abbrev pub place_behind : Place → ℕ → Place
place_behind Blank b = if is_other b then Line else Blank
place_behind Line b = if b == line_feed then LineFeed else Line
place_behind LineFeed b = if b == line_feed then End else (if b == carriage_return then Return else Line)
place_behind Return b = if b == line_feed then End else Line
place_behind End b = End

abbrev pub place_from : Place → List ℕ → Place
place_from place [] = place
place_from place (b ∷ bytes) = place_from (place_behind place b) bytes

abbrev pub is_end : Place → Bool
is_end Blank = false
is_end Line = false
is_end LineFeed = false
is_end Return = false
is_end End = true

-- whatever follows, more is waited for until so many bytes are there
abbrev pub WaitsBelow : List ℕ → ℕ → Type 0
WaitsBelow bytes n = (more : List ℕ) → length (bytes ++ more) < n → IsCut (bytes ++ more) waits

-- what is kept of the bytes: how far the head came, and how many bytes a request needs, where that was looked up
pub record IsKnown (bytes : List ℕ) (place : Place) (needed : Option ℕ) : Type 0 where
  pub came : place ≡ place_from Blank bytes
  pub lacks : IfSome needed (WaitsBelow bytes)
