-- The string behind an initial byte of a text, where it is UTF-8 and where it isn't.
use Rattle.std.proofs.Common.{◌≡◌, ℕ, List, Option, Some, None, Ok, Err, refl, sym, ap, subst, ◌∙◌}
use Rattle.std.specs.Prelude.{IfSome, IfNone, IsUtf8}
use Rattle.cbor_profile.specs.declared.fault.CborFault.TheVariants.{NotUtf8}
use Rattle.cbor_profile.specs.declared.major.Major.TheVariants as major_type
use Rattle.cbor_profile.specs.ItemReading.{argument_at, content_at, string_at}
use Rattle.cbor_profile.proofs.Again.{checked_again}
use Rattle.cbor_profile.proofs.Refused.{checked_refused}

pub text_read : (end at info n : ℕ) (bytes rest content after string : List ℕ) → argument_at end info bytes ≡ Ok (n, rest) → content_at end n rest ≡ Ok (content, after) → IsUtf8 content → string ≡ content
    → string_at end at major_type.Text info bytes ≡ Ok (string, after)
unfolding string_at
text_read end at info n bytes rest content after string first second fits is =
    rw (first, second) (checked_again major_type.Text at content after (λ text. fits) ∙ ap (λ (l : List ℕ). Ok (l, after)) (sym is))

pub text_refused : (end at info n : ℕ) (bytes rest content after : List ℕ) → argument_at end info bytes ≡ Ok (n, rest) → content_at end n rest ≡ Ok (content, after) → ¬ (IsUtf8 content)
    → string_at end at major_type.Text info bytes ≡ Err (NotUtf8 at)
unfolding string_at
text_refused end at info n bytes rest content after first second bad = rw (first, second) (checked_refused major_type.Text at content after refl bad)

pub found_text : (found : Option (List ℕ)) (text content : List ℕ) → found ≡ Some text → IfSome found (λ t. (t ≡ content) × IsUtf8 content) → (text ≡ content) × IsUtf8 content
found_text found text content is h = subst (λ (o : Option (List ℕ)). IfSome o (λ t. (t ≡ content) × IsUtf8 content)) is h

pub found_none : (found : Option (List ℕ)) (content : List ℕ) → found ≡ None → IfNone found (¬ (IsUtf8 content)) → ¬ (IsUtf8 content)
found_none found content is h = subst (λ (o : Option (List ℕ)). IfNone o (¬ (IsUtf8 content))) is h
