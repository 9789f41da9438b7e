-- How long names are.
use Rattle.std.proofs.Common.{ℕ, ◌≤◌, List, length}
use Rattle.std.specs.Prelude.{nat_le, ◌&&◌, IsTrue}
use Rattle.std.specs.Char.{is_ascii_graphic}
use Rattle.std.specs.List.{list_all}
use Rattle.std.proofs.lemmas.Bool.{and_parts, leb-true}
use Rattle.dots_lists.specs.Name.{is_name}

pub is_short : (bytes : List ℕ) → IsTrue (is_name bytes) → length bytes ≤ 64
is_short bytes named =
    let parts = and_parts (nat_le 1 (length bytes) && nat_le (length bytes) 64) (list_all is_ascii_graphic bytes) named in
    leb-true (length bytes) 64 (and_parts (nat_le 1 (length bytes)) (nat_le (length bytes) 64) parts.0).1
