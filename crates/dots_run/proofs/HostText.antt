-- The text of a host file, by what was read of it.
use Rattle.std.proofs.Common.{◌≡◌, inl, inr, ℕ, ◌≤◌, ◌<◌, min, List, length, take, codes, Option, Some, None, refl, arith, subst}
use Rattle.std.proofs.lemmas.List.{length-take}
use Rattle.std.specs.Prelude.{IfSome}
use Rattle.dots_run.specs.OverSockets.{IsHostText}

module _ (unread : Type 0) where
  pub whole_text : (left : Option (List ℕ)) (text : List ℕ) → length text ≤ 65536 → (length text < 65537 → IfSome left (λ bytes. text ≡ bytes)) → IsHostText left unread text
  whole_text None text few whole = inl tt
  whole_text (Some bytes) text few whole =
      let same : text ≡ bytes = whole (omega (arith, few)) in
      inl (same, subst (λ bytes. length bytes ≤ 65536) same few)

  pub too_long : (left : Option (List ℕ)) (text : List ℕ) → 65536 < length text → IfSome left (λ bytes. text ≡ take 65537 bytes) → IsHostText left unread (codes "?")
  too_long None text many front = inr (refl, inr tt)
  too_long (Some bytes) text many front =
      let size : length (take 65537 bytes) ≡ min 65537 (length bytes) = length-take 65537 bytes in
      let most : 65536 < length (take 65537 bytes) = subst (λ text. 65536 < length text) front many in
      inr (refl, inr (omega (arith, size, most)))

  pub no_text : (left : Option (List ℕ)) → unread → IsHostText left unread (codes "?")
  no_text left failed = inr (refl, inl failed)
