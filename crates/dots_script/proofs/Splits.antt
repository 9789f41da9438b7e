-- A text before the first of some byte, and behind it.
use Rattle.std.proofs.Common.{◌≡◌, ◌≢◌, ℕ, ◌+◌, ◌-◌, ◌<◌, suc, List, [], ◌∷◌, ◌++◌, length, get_or, take, drop, refl, sym, ap, ◌∙◌, arith, length-take}
use Rattle.std.proofs.lemmas.List.{drop_more, take-append-drop, get_or-take}
use Rattle.dots_host.proofs.WriteLemmas.{rest_of}

pub split_at : (text : List ℕ) (at byte : ℕ) → at < length text → get_or text at 0 ≡ byte → text ≡ take at text ++ (byte ∷ drop (at + 1) text)
split_at text at byte within is =
    sym (take-append-drop at text) ∙ ap (λ rest. take at text ++ rest) (drop_more text at 0 within ∙ ap (λ b. b ∷ drop (at + 1) text) is)

pub split_around : (text : List ℕ) (at byte : ℕ) → at < length text → get_or text at 0 ≡ byte → text ≡ take at text ++ (byte ∷ take (length text - (at + 1)) (drop (at + 1) text))
split_around text at byte within is = split_at text at byte within is ∙ ap (λ rest. take at text ++ (byte ∷ rest)) (sym (rest_of text (at + 1)))

-- what no byte of the front is, none of the part is
pub none_in_front : (text : List ℕ) (at byte : ℕ) → ((k : ℕ) → k < at → get_or text k 0 ≢ byte) → (k : ℕ) → k < length (take at text) → get_or (take at text) k 0 ≢ byte
none_in_front text at byte none k within is =
    let before : k < at = omega (arith, length-take at text) in
    none k before (sym (get_or-take at text k 0 before) ∙ is)

later_none : (mark byte : ℕ) (text : List ℕ) → ((k : ℕ) → k < length (byte ∷ text) → get_or (byte ∷ text) k 0 ≢ mark) → (k : ℕ) → k < length text → get_or text k 0 ≢ mark
later_none mark byte text none k within = none (suc k) (omega arith)

-- a text is split at the first of some byte in one way
pub one_split : (mark : ℕ) (a b x y : List ℕ) → ((k : ℕ) → k < length a → get_or a k 0 ≢ mark) → ((k : ℕ) → k < length b → get_or b k 0 ≢ mark) → a ++ (mark ∷ x) ≡ b ++ (mark ∷ y) → (a ≡ b) × (x ≡ y)
one_split mark [] [] x y none out same = (refl, cc)
one_split mark [] (byte ∷ b) x y none out same = let head : byte ≡ mark = cc in absurd (out 0 (omega arith) head)
one_split mark (byte ∷ a) [] x y none out same = let head : byte ≡ mark = cc in absurd (none 0 (omega arith) head)
one_split mark (byte ∷ a) (other ∷ b) x y none out same =
    let head : byte ≡ other = cc in
    let tail : a ++ (mark ∷ x) ≡ b ++ (mark ∷ y) = cc in
    let rest = one_split mark a b x y (later_none mark byte a none) (later_none mark other b out) tail in
    (ap (λ front. byte ∷ front) rest.0 ∙ ap (λ first. first ∷ b) head, rest.1)
