-- The bytes of a source that are read.
use Rattle.std.proofs.Common.{◌≡◌, ◌≤◌, ◌<◌, ◌+◌, ◌-◌, ◌^◌, ℕ, List, inl, inr, ◌++◌, length, take, Option, Some, None, IfSome, sym, ap, ◌∙◌, arith, append-nil}
use Rattle.std.proofs.lemmas.List.{take_all, take-append-le}
use Rattle.std.specs.Io.KnownBytes.{Consumes, IsAtEnd}
use Rattle.dots_settings.specs.File.{IsReadThrough}

-- what was read to the end is the source, as much of it as counts
pub read_to_end : (old new : Option (List ℕ)) (bytes : List ℕ) (most : ℕ) → Consumes old new bytes → IsAtEnd new → length bytes < most → IfSome old (λ left. bytes ≡ take most left)
read_to_end None new bytes most c e small = tt
read_to_end (Some xs) None bytes most c e small = absurd c
read_to_end (Some xs) (Some ys) bytes most c e small =
    let all : xs ≡ bytes = c ∙ ap (λ rest. bytes ++ rest) e ∙ append-nil bytes in
    sym all ∙ sym (take_all most xs (omega (arith, ap length all)))

-- what was read and is long enough is the front of the source
pub read_enough : (old new : Option (List ℕ)) (bytes : List ℕ) (most : ℕ) → Consumes old new bytes → most ≤ length bytes → IfSome old (λ left. take most bytes ≡ take most left)
read_enough None new bytes most c long = tt
read_enough (Some xs) None bytes most c long = absurd c
read_enough (Some xs) (Some ys) bytes most c long = sym (ap (take most) c ∙ take-append-le most bytes ys long)

-- how far the source was read
pub through_to_end : (old new : Option (List ℕ)) (bytes : List ℕ) → Consumes old new bytes → IsAtEnd new → IsReadThrough old new
through_to_end None new bytes c e = tt
through_to_end (Some xs) None bytes c e = absurd c
through_to_end (Some xs) (Some ys) bytes c e = record { read = bytes; split = c; enough = inl e }

pub through_enough : (old new : Option (List ℕ)) (bytes : List ℕ) → Consumes old new bytes → 2 ^ 16 + 1 ≤ length bytes → IsReadThrough old new
through_enough None new bytes c long = tt
through_enough (Some xs) None bytes c long = absurd c
through_enough (Some xs) (Some ys) bytes c long = record { read = bytes; split = c; enough = inr long }

-- less is left to read where something was
pub less_left : (most old new count size : ℕ) → new ≡ old + size → count ≡ size → (count ≡ 0 → ⊥) → old < most → most - new < most - old
less_left most old new count size is came some few = omega arith
