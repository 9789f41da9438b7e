-- Values of fields.
use Rattle.std.proofs.Common.{◌≡◌, ℕ, ◌≤◌, Bool, true, false, List, [], ◌∷◌, ◌++◌, length, reverse, refl, sym, ap, ◌∙◌}
use Rattle.std.specs.Prelude.{◌&&◌, ◌||◌, nat_le, if◌then◌else◌, Result, Ok, Err}
use Rattle.std.specs.List.{list_any, list_all}
use Rattle.std.specs.Char.{is_digit, digit_value}
use Rattle.std.specs.Str.Parse.{AllDigits, digits_value}
use Rattle.std.proofs.lemmas.Bool.{cond-true, cond-false, and_parts, and_from, ltb-true, lt-ltb, leb-true, le-leb, false_from_ne_true}
use Rattle.std.proofs.lemmas.List.{reverse-append, reverse-reverse}
use Rattle.httparse.specs.declared.spans.HeaderSpan.{HeaderSpan}
use Rattle.httparse.specs.Grammar.{is_ows, skip_ows}
use Rattle.httparse.specs.Spans.{span_bytes}
use Rattle.httparse.proofs.TrimLemmas.{skip_ows_no}
use Rattle.http_cut.specs.declared.fault.HttpFault.{HttpFault}
use Rattle.http_cut.specs.declared.fault.HttpFault.TheVariants.{BadHead, BodyTooLong}
use Rattle.http_cut.specs.Fields.{is_same_word, values_of, skip_back, has_close, is_length, announced}
use Rattle.http_cut.specs.SpanValues.{fields_at}

-- ---- fields of a name

pub values_here : (name bytes word value : List ℕ) (rest behind : List HeaderSpan) (field : HeaderSpan) → rest ≡ field ∷ behind → word ≡ span_bytes bytes field.name
    → true ≡ is_same_word word name → value ≡ span_bytes bytes field.value → values_of name (fields_at bytes rest) ≡ value ∷ values_of name (fields_at bytes behind)
unfolding values_of
values_here name bytes word value rest behind field is word_is same value_is =
    ap (λ (y : List HeaderSpan). values_of name (fields_at bytes y)) is
    ∙ cond-true (is_same_word (span_bytes bytes field.name) name) _ _ (sym (ap (λ (y : List ℕ). is_same_word y name) word_is) ∙ sym same)
    ∙ ap (λ (y : List ℕ). y ∷ values_of name (fields_at bytes behind)) (sym value_is)

pub values_later : (name bytes word : List ℕ) (rest behind : List HeaderSpan) (field : HeaderSpan) → rest ≡ field ∷ behind → word ≡ span_bytes bytes field.name
    → false ≡ is_same_word word name → values_of name (fields_at bytes rest) ≡ values_of name (fields_at bytes behind)
unfolding values_of
values_later name bytes word rest behind field is word_is other =
    ap (λ (y : List HeaderSpan). values_of name (fields_at bytes y)) is
    ∙ cond-false (is_same_word (span_bytes bytes field.name) name) _ _ (sym (ap (λ (y : List ℕ). is_same_word y name) word_is) ∙ sym other)

-- ---- spaces and tabs at the end

back_first : (rest before : List ℕ) (last : ℕ) → rest ≡ before ++ last ∷ [] → reverse rest ≡ last ∷ reverse before
back_first rest before last is = ap (λ (y : List ℕ). reverse y) is ∙ reverse-append before (last ∷ [])

pub back_yes : (rest before : List ℕ) (last : ℕ) → rest ≡ before ++ last ∷ [] → true ≡ is_ows last → skip_back rest ≡ skip_back before
back_yes rest before last is blank =
    ap (λ (y : List ℕ). reverse (skip_ows y)) (back_first rest before last is) ∙ ap (λ (y : List ℕ). reverse y) (cond-true (is_ows last) _ _ (sym blank))

pub back_no : (rest before : List ℕ) (last : ℕ) → rest ≡ before ++ last ∷ [] → false ≡ is_ows last → skip_back rest ≡ rest
back_no rest before last is other =
    ap (λ (y : List ℕ). reverse y) (skip_ows_no (back_first rest before last is) other) ∙ reverse-reverse rest

-- ---- connection options

pub closes_here : (values others : List (List ℕ)) (value : List ℕ) → values ≡ value ∷ others → true ≡ has_close value → true ≡ list_any has_close values
closes_here values others value is close =
    sym (ap (λ (y : List (List ℕ)). list_any has_close y) is ∙ ap (λ (b : Bool). b || list_any has_close others) (sym close))

pub closes_later : (values others : List (List ℕ)) (value : List ℕ) → values ≡ value ∷ others → false ≡ has_close value → list_any has_close values ≡ list_any has_close others
closes_later values others value is open_still =
    ap (λ (y : List (List ℕ)). list_any has_close y) is ∙ ap (λ (b : Bool). b || list_any has_close others) (sym open_still)

-- ---- lengths

digits_pass : (value : List ℕ) → AllDigits 10 value → list_all (λ byte. is_digit byte 10) value ≡ true
digits_pass [] digits = refl
digits_pass (b ∷ value) digits = and_from (is_digit b 10) _ (lt-ltb (digit_value b) 10 digits.0) (digits_pass value digits.1)

pass_digits : (value : List ℕ) → list_all (λ byte. is_digit byte 10) value ≡ true → AllDigits 10 value
pass_digits [] pass = tt
pass_digits (b ∷ value) pass =
    let parts = and_parts (is_digit b 10) (list_all (λ byte. is_digit byte 10) value) pass in
    (ltb-true (digit_value b) 10 parts.0, pass_digits value parts.1)

abbrev pub by_size : ℕ → Result ℕ HttpFault
by_size n = if nat_le n 8192 then Ok n else Err BodyTooLong

pub announces : (value : List ℕ) (n : ℕ) → AllDigits 10 value → digits_value 10 value ≡ n → 1 ≤ length value → length value ≤ 10 → announced value ≡ by_size n
unfolding announced is_length
announces value n digits worth some few =
    let first = and_from (nat_le 1 (length value)) (nat_le (length value) 10) (le-leb 1 (length value) some) (le-leb (length value) 10 few) in
    cond-true (is_length value) _ _ (and_from (nat_le 1 (length value) && nat_le (length value) 10) _ first (digits_pass value digits)) ∙ ap by_size worth

pub announces_none : (value : List ℕ) → (1 ≤ length value → length value ≤ 10 → AllDigits 10 value → ⊥) → announced value ≡ Err BadHead
unfolding announced is_length
announces_none value none =
    cond-false (is_length value) _ _ (false_from_ne_true (is_length value) (λ is.
    let parts = and_parts (nat_le 1 (length value) && nat_le (length value) 10) (list_all (λ byte. is_digit byte 10) value) is in
    let size = and_parts (nat_le 1 (length value)) (nat_le (length value) 10) parts.0 in
    none (leb-true 1 (length value) size.0) (leb-true (length value) 10 size.1) (pass_digits value parts.1)))
