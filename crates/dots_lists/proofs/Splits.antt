-- The first line of a text, and the first field of a line.
use Rattle.std.proofs.Common.{◌≡◌, ◌≢◌, ◌==◌, ℕ, ◌+◌, ◌-◌, add-one, length-drop, ◌<◌, ◌≤◌, zero, suc, Bool, true, false, List, [], ◌∷◌, cond, length, get_or, take, drop, refl, sym, ◌∙◌, ap, arith}
use Rattle.std.proofs.lemmas.Bool.Decides.{nat_tests}
use Rattle.std.proofs.lemmas.List.{take_all}
use Rattle.memchr.specs.Find.{NoneBefore}
use Rattle.std.specs.List.{onto_first}
use Rattle.dots_lists.specs.Lines.{lines_of, fields_of}

no_feed : (byte : ℕ) → byte ≢ 10 → (byte == 10) ≡ false
no_feed byte ne = grind (arith, nat_tests)

is_feed : (byte : ℕ) → byte ≡ 10 → (byte == 10) ≡ true
is_feed byte e = grind (arith, nat_tests)

-- a text without a line feed is one line, where it isn't empty
pub one_line : (bytes : List ℕ) → ((k : ℕ) → k < length bytes → get_or bytes k 0 ≢ 10) → 0 < length bytes → lines_of bytes ≡ bytes ∷ []
one_line [] none some = absurd (omega arith)
one_line (byte ∷ []) none some = rw (no_feed byte (none 0 (omega arith)))
one_line (byte ∷ next ∷ bytes) none some =
    let rest = one_line (next ∷ bytes) (λ k h. none (suc k) (omega arith)) (omega arith) in
    rw (no_feed byte (none 0 (omega arith)), rest)

-- the first line ends before the first line feed
pub first_line : (bytes : List ℕ) (end : ℕ) → end < length bytes → get_or bytes end 0 ≡ 10 → ((k : ℕ) → k < end → get_or bytes k 0 ≢ 10)
    → lines_of bytes ≡ take end bytes ∷ lines_of (drop (suc end) bytes)
first_line [] end within feed none = absurd (omega arith)
first_line (byte ∷ bytes) zero within feed none = rw (is_feed byte feed)
first_line (byte ∷ bytes) (suc end) within feed none =
    let rest = first_line bytes end (omega arith) feed (λ k h. none (suc k) (omega arith)) in
    rw (no_feed byte (none 0 (omega arith)), rest)

no_space : (byte : ℕ) → byte ≢ 32 → (byte == 32) ≡ false
no_space byte ne = grind (arith, nat_tests)

is_space : (byte : ℕ) → byte ≡ 32 → (byte == 32) ≡ true
is_space byte e = grind (arith, nat_tests)

-- a line without a space is one field
pub whole_field : (line : List ℕ) → ((k : ℕ) → k < length line → get_or line k 0 ≢ 32) → fields_of line ≡ line ∷ []
whole_field [] none = refl
whole_field (byte ∷ line) none =
    let rest = whole_field line (λ k h. none (suc k) (omega arith)) in
    rw (no_space byte (none 0 (omega arith)), rest)

-- the first field ends before the first space
pub first_field : (line : List ℕ) (end : ℕ) → end < length line → get_or line end 0 ≡ 32 → ((k : ℕ) → k < end → get_or line k 0 ≢ 32)
    → fields_of line ≡ take end line ∷ fields_of (drop (suc end) line)
first_field [] end within space none = absurd (omega arith)
first_field (byte ∷ line) zero within space none = rw (is_space byte space)
first_field (byte ∷ line) (suc end) within space none =
    let rest = first_field line end (omega arith) space (λ k h. none (suc k) (omega arith)) in
    rw (no_space byte (none 0 (omega arith)), rest)

onto_some : (byte : ℕ) (parts : List (List ℕ)) → 0 < length (onto_first byte parts)
onto_some byte [] = omega arith
onto_some byte (part ∷ parts) = omega arith

-- a line has a field
pub some_field : (line : List ℕ) → 0 < length (fields_of line)
some_field [] = omega arith
some_field (byte ∷ line) = by (byte == 32)
  where
    by : (b : Bool) → 0 < length (cond b ([] ∷ fields_of line) (onto_first byte (fields_of line)))
    by true = omega arith
    by false = onto_some byte (fields_of line)

-- ---- by the first such byte

equal_then : (x y : ℕ) → x ≡ y → (x == y) ≡ true
equal_then x y e = grind (arith, nat_tests)

then_equal : (x y : ℕ) → (x == y) ≡ true → x ≡ y
then_equal x y e = grind (arith, nat_tests)

pub no_space_anywhere : (line : List ℕ) → ((k : ℕ) → 0 ≤ k → k < length line → ¬ ((get_or line k 0 == 32) ≡ true)) → fields_of line ≡ line ∷ []
no_space_anywhere line none = whole_field line (λ k h is. none k (omega arith) h (equal_then (get_or line k 0) 32 is))

pub first_space : (line : List ℕ) (end : ℕ) → NoneBefore (λ k. (get_or line k 0 == 32) ≡ true) 0 (length line) end → (get_or line end 0 == 32) ≡ true
    → fields_of line ≡ take end line ∷ fields_of (take (length line - (end + 1)) (drop (end + 1) line))
first_space line end none space =
    let whole : take (length line - (end + 1)) (drop (end + 1) line) ≡ drop (end + 1) line = take_all _ _ (omega (arith, length-drop (end + 1) line)) in
    rw whole (rw (add-one end) (first_field line end none.high (then_equal (get_or line end 0) 32 space) (λ k h is. none.before k (omega arith) h (equal_then (get_or line k 0) 32 is))))

pub no_feed_anywhere : (bytes : List ℕ) → 0 < length bytes → ((k : ℕ) → 0 ≤ k → k < length bytes → ¬ ((get_or bytes k 0 == 10) ≡ true)) → lines_of bytes ≡ bytes ∷ []
no_feed_anywhere bytes some none = one_line bytes (λ k h is. none k (omega arith) h (equal_then (get_or bytes k 0) 10 is)) some

pub first_feed : (bytes : List ℕ) (end : ℕ) → NoneBefore (λ k. (get_or bytes k 0 == 10) ≡ true) 0 (length bytes) end → (get_or bytes end 0 == 10) ≡ true
    → lines_of bytes ≡ take end bytes ∷ lines_of (take (length bytes - (end + 1)) (drop (end + 1) bytes))
first_feed bytes end none feed =
    let whole : take (length bytes - (end + 1)) (drop (end + 1) bytes) ≡ drop (end + 1) bytes = take_all _ _ (omega (arith, length-drop (end + 1) bytes)) in
    rw whole (rw (add-one end) (first_line bytes end none.high (then_equal (get_or bytes end 0) 10 feed) (λ k h is. none.before k (omega arith) h (equal_then (get_or bytes k 0) 10 is))))

-- two fields or more aren't one
pub not_one : (line first rest field : List ℕ) → fields_of line ≡ first ∷ fields_of rest → fields_of line ≢ field ∷ []
not_one line first rest field is one =
    let some = some_field rest in
    absurd (omega (arith, ap length (sym is ∙ one)))
