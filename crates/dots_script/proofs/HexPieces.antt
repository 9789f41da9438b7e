-- The line of a send goes out in pieces.
use Rattle.std.proofs.Common.{◌≡◌, ℕ, ◌/◌, ◌%◌, List, [], ◌∷◌, ◌++◌, Option, Result, Ok, Err, OnErr, refl, sym, ap, ◌∙◌, append_assoc, append-nil}
use Rattle.std.specs.Prelude.{slice_index}
use Rattle.std.specs.Io.KnownBytes.{Appends}
use Rattle.hex.specs.Hex.{encode_with, encode_lower, lower_digits}
use Rattle.dots_host.specs.Writing.{Owes, AppendsBeginning}
use Rattle.dots_host.proofs.WriteLemmas.{owes_less, owes_none, owes_lost}

encode_with-append : (t xs ys : List ℕ) → encode_with t (xs ++ ys) ≡ encode_with t xs ++ encode_with t ys
unfolding encode_with
encode_with-append t [] ys = refl
encode_with-append t (x ∷ xs) ys = ap (λ rest. slice_index t (x / 16) ∷ slice_index t (x % 16) ∷ rest) (encode_with-append t xs ys)

-- the line behind what was written: what stands in the room, and the bytes that are not in it yet
abbrev pub owed : List ℕ → List ℕ → List ℕ
owed standing bytes = standing ++ (encode_lower bytes ++ 10 ∷ [])

owed_pieces : (standing first later piece rest : List ℕ) → rest ≡ first ++ later → piece ≡ standing ++ encode_lower first → owed standing rest ≡ piece ++ (encode_lower later ++ 10 ∷ [])
owed_pieces standing first later piece rest is put =
    ap (λ bytes. standing ++ (encode_lower bytes ++ 10 ∷ [])) is
    ∙ ap (λ digits. standing ++ (digits ++ 10 ∷ [])) (encode_with-append lower_digits first later)
    ∙ ap (λ tail. standing ++ tail) (append_assoc (encode_lower first) (encode_lower later) (10 ∷ []))
    ∙ sym (append_assoc standing (encode_lower first) (encode_lower later ++ 10 ∷ []))
    ∙ ap (λ front. front ++ (encode_lower later ++ 10 ∷ [])) (sym put)

pub piece_written : (a b c : Option (List ℕ)) (text standing first later piece rest : List ℕ) → Owes a b text (owed standing rest) → rest ≡ first ++ later → piece ≡ standing ++ encode_lower first
    → Appends b c piece → Owes a c text (owed [] later)
piece_written a b c text standing first later piece rest owes is put wrote =
    let pieces = owed_pieces standing first later piece rest is put in
    owes_less a b c text piece (encode_lower later ++ 10 ∷ []) (rw pieces at owes) wrote

pub piece_lost : (a b c : Option (List ℕ)) (text standing first later piece rest : List ℕ) → Owes a b text (owed standing rest) → rest ≡ first ++ later → piece ≡ standing ++ encode_lower first
    → AppendsBeginning b c piece → AppendsBeginning a c text
piece_lost a b c text standing first later piece rest owes is put part =
    let pieces = owed_pieces standing first later piece rest is put in
    owes_lost a b c text piece (encode_lower later ++ 10 ∷ []) (rw pieces at owes) part

last_piece : (standing digits piece rest : List ℕ) → digits ≡ standing ++ encode_lower rest → piece ≡ digits ++ 10 ∷ [] → owed standing rest ≡ piece
last_piece standing digits piece rest put ended =
    sym (append_assoc standing (encode_lower rest) (10 ∷ [])) ∙ ap (λ front. front ++ 10 ∷ []) (sym put) ∙ sym ended

pub last_written : (a b c : Option (List ℕ)) (text standing digits piece rest : List ℕ) → Owes a b text (owed standing rest) → digits ≡ standing ++ encode_lower rest → piece ≡ digits ++ 10 ∷ []
    → Appends b c piece → Appends a c text
last_written a b c text standing digits piece rest owes put ended wrote =
    let whole : owed standing rest ≡ piece ++ [] = last_piece standing digits piece rest put ended ∙ sym (append-nil piece) in
    owes_none a c text (owes_less a b c text piece [] (rw whole at owes) wrote)

pub last_lost : (a b c : Option (List ℕ)) (text standing digits piece rest : List ℕ) → Owes a b text (owed standing rest) → digits ≡ standing ++ encode_lower rest → piece ≡ digits ++ 10 ∷ []
    → AppendsBeginning b c piece → AppendsBeginning a c text
last_lost a b c text standing digits piece rest owes put ended part =
    let whole : owed standing rest ≡ piece ++ [] = last_piece standing digits piece rest put ended ∙ sym (append-nil piece) in
    owes_lost a b c text piece [] (rw whole at owes) part

pub on_err : {A E : Type 0} (result : Result A E) (P Q : Type 0) → OnErr result P → (P → Q) → OnErr result Q
on_err (Ok x) P Q p then_q = tt
on_err (Err e) P Q p then_q = then_q p
