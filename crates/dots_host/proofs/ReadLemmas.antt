-- What a read of known bytes consumes.
use Rattle.std.proofs.Common.{◌≡◌, ℕ, ◌+◌, ◌<◌, List, [], ◌++◌, length, take, drop, min, arith, sym, ap, ◌∙◌, take-append-drop, length-drop}
use Rattle.std.proofs.lemmas.List.{drop-drop, nil_from_length}

-- the bytes at the front of the room are those that were left, as many as were read
pub consumed : (bytes old new : List ℕ) (read count : ℕ) → count ≡ min (length (drop read bytes)) (length old) → length new ≡ length old → take count new ≡ take count (drop read bytes) → (drop read bytes ≡ take count new ++ drop (read + count) bytes) × (count ≡ 0 → 0 < length new → drop (read + count) bytes ≡ [])
consumed bytes old new read count is same copied =
    let whole = take-append-drop count (drop read bytes) in
    let joined = drop-drop count read bytes in (
      sym whole ∙ ap (λ front. front ++ drop count (drop read bytes)) (sym copied) ∙ ap (λ rest. take count new ++ rest) joined,
      λ none some. nil_from_length _ (omega (arith, length-drop read bytes, length-drop (read + count) bytes)),
    )
