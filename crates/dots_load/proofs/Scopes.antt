-- The body of a request for a mitigation is valid and short.
use Rattle.std.proofs.Common.{ℕ, ◌^◌, ◌<◌, ◌≤◌, List, ◌++◌, length, refl, arith, inl, inr, length-append, rules}
use Rattle.std.specs.Prelude.{IsUtf8, codes, decimal}
use Rattle.std.proofs.lemmas.Str.{IsUtf8-append, IsUtf8-from_ascii}
use Rattle.std.proofs.lemmas.Fmt.{IsAscii-decimal, length-decimal-le}
use Rattle.std.proofs.lemmas.Bool.{cases_lt}
use Rattle.cbor_profile.specs.Head.{head, information, following}
use Rattle.cbor_profile.specs.Canon.{canon}
use Rattle.cbor_profile.specs.Valid.{IsValid}
use Rattle.cbor_profile.proofs.Heads.{head_none, head_one, head_two}
use Rattle.dots_load.specs.Requests.{scope_tree, prefix_text}

pub scope_valid : (prefix : List ℕ) (lifetime : ℕ) → IsUtf8 prefix → length prefix < 2 ^ 64 → lifetime < 2 ^ 64 → IsValid (scope_tree prefix lifetime)
unfolding head information following
scope_valid prefix lifetime utf8 short early =
    record { sound = (omega arith, (omega arith, (omega arith, (omega arith, (omega arith, ((omega arith, (omega arith, (omega arith, ((short, utf8), tt)), (omega arith, early, tt)), (refl, (refl, tt))), tt)), tt), (refl, tt)), tt), (refl, tt)); nests = omega arith }

head_short : (major n : ℕ) → n < 2 ^ 16 → length (head major n) ≤ 3
head_short major n small = elim (cases_lt n 24) [
  | inl low ↦ rw (head_none major n low) (omega arith)
  | inr high ↦ elim (cases_lt n 256) [
    | inl also ↦ rw (head_one major n high also) (omega arith)
    | inr over ↦ rw (head_two major n over small) (omega arith)
  ]
]

pub scope_short : (prefix : List ℕ) (lifetime : ℕ) → length prefix ≤ 20 → lifetime < 1000 → length (canon (scope_tree prefix lifetime)) ≤ 64
scope_short prefix lifetime few early =
    simp length-append (omega (
      arith,
      head_short 5 1 (omega arith),
      head_short 0 1 (omega arith),
      head_short 0 2 (omega arith),
      head_short 4 1 (omega arith),
      head_short 5 2 (omega arith),
      head_short 0 6 (omega arith),
      head_short 3 (length prefix) (omega arith),
      head_short 0 14 (omega arith),
      head_short 0 lifetime (omega arith),
    ))

digits : (n : ℕ) → n < 1000 → IsUtf8 (decimal n)
digits n few = IsUtf8-from_ascii (decimal n) (IsAscii-decimal n (omega arith))

pub prefix_utf8 : (domain third : ℕ) → domain < 1000 → third < 1000 → IsUtf8 (prefix_text domain third)
prefix_utf8 domain third d t =
    let ten : IsUtf8 (codes "10.") = IsUtf8-from_ascii (codes "10.") (search rules) in
    let dot : IsUtf8 (codes ".") = IsUtf8-from_ascii (codes ".") (search rules) in
    let end : IsUtf8 (codes ".0/24") = IsUtf8-from_ascii (codes ".0/24") (search rules) in
    let back = IsUtf8-append (decimal third) (codes ".0/24") (digits third t) end in
    let behind = IsUtf8-append (codes ".") (decimal third ++ codes ".0/24") dot back in
    IsUtf8-append (codes "10.") _ ten (IsUtf8-append (decimal domain) (codes "." ++ (decimal third ++ codes ".0/24")) (digits domain d) behind)

pub prefix_short : (domain third : ℕ) → domain < 1000 → third < 1000 → length (prefix_text domain third) ≤ 20
prefix_short domain third d t =
    simp length-append (omega (arith, length-decimal-le 3 domain (omega arith) d (omega arith), length-decimal-le 3 third (omega arith) t (omega arith)))
