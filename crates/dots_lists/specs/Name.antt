-- What a name is: the text of a `cuid`, a `cdid`, an alias, an access list or a host name.
use Rattle.std.specs.Prelude.{ℕ, List, Bool, length, nat_le, ◌&&◌}
use Rattle.std.specs.Char.{is_ascii_graphic}
use Rattle.std.specs.List.{list_all}

-- 1 to 64 visible ASCII characters, `!` to `~`
abbrev pub is_name : List ℕ → Bool
is_name bytes = nat_le 1 (length bytes) && nat_le (length bytes) 64 && list_all is_ascii_graphic bytes
