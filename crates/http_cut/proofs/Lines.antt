-- The lines of a reply that stand only in some.
use Rattle.std.proofs.Common.{◌≡◌, ℕ, Bool, true, false, List, [], ◌∷◌, length, refl, sym, ap, ◌∙◌, arith}
use Rattle.std.specs.Prelude.{codes, decimal, ◌==◌}
use Rattle.std.proofs.lemmas.Bool.{both_ways, cond-false, ne_eqb, eqb-true}
use Rattle.http_cut.specs.Reply.{field_line, text_line, closing_line, media_line, length_line}

pub no_text : (name value : List ℕ) → true ≡ (length value == 0) → text_line name value ≡ []
unfolding text_line
no_text name [] e = refl
no_text name (b ∷ bytes) e =
    let none : length (b ∷ bytes) ≡ 0 = eqb-true (length (b ∷ bytes)) 0 (sym e) in
    absurd (omega (arith, none))

pub some_text : (name value : List ℕ) → false ≡ (length value == 0) → text_line name value ≡ field_line name value
unfolding text_line
some_text name [] e = absurd (both_ways true (sym e) refl)
some_text name (b ∷ bytes) e = refl

pub closes : (close : Bool) → close ≡ true → closing_line close ≡ field_line (codes "Connection") (codes "close")
unfolding closing_line
closes true e = refl
closes false e = absurd (both_ways false refl e)

pub stays : (close : Bool) → close ≡ false → closing_line close ≡ []
unfolding closing_line
stays true e = absurd (both_ways true e refl)
stays false e = refl

pub has_media : (json : Bool) → json ≡ true → media_line json ≡ field_line (codes "Content-Type") (codes "application/yang-data+json")
unfolding media_line
has_media true e = refl
has_media false e = absurd (both_ways false refl e)

pub has_no_media : (json : Bool) → json ≡ false → media_line json ≡ []
unfolding media_line
has_no_media true e = absurd (both_ways true e refl)
has_no_media false e = refl

pub no_length : (status n : ℕ) → status ≡ 204 → length_line status n ≡ []
unfolding length_line
no_length status n e = ap (λ (s : ℕ). length_line s n) e

pub some_length : (status n : ℕ) (digits : List ℕ) → (status ≡ 204 → ⊥) → digits ≡ decimal n → length_line status n ≡ field_line (codes "Content-Length") digits
unfolding length_line
some_length status n digits other e = cond-false (status == 204) [] _ (ne_eqb status 204 other) ∙ ap (λ (y : List ℕ). field_line (codes "Content-Length") y) (sym e)
