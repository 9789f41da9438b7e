-- A text is that of one address and port at most.
use Rattle.std.proofs.Common.{◌≡◌, ◌≢◌, ℕ, ◌<◌, ◌^◌, true, false, true≢false, List, [], ◌∷◌, ◌++◌, length, get_or, bytes_eq, codes, decimal, subst, refl, sym, ap, ap₂, ◌∙◌, arith}
use Rattle.std.proofs.lemmas.Fmt.{decimal_is_IsNumeral}
use Rattle.std.proofs.lemmas.Str.Parse.{digit_at}
use Rattle.std.proofs.lemmas.List.{length-append, append_cancel_right}
use Rattle.std.proofs.Math.Seq.{get_or-append_seam}
use Rattle.ip_scope.specs.declared.address.Addr.{Addr}
use Rattle.ip_scope.specs.declared.family.Family.{Family}
use Rattle.ip_scope.specs.declared.family.Family.TheVariants.{V4, V6}
use Rattle.ip_scope.specs.PrefixText.{IsAddressText}
use Rattle.ip_scope.proofs.AddressTexts.{IsAddressText_unique}
use Rattle.dots_edge.specs.HostLine.{LineValue, IsHostText, IsEndpointText, AreFields, word_of, journal_line, signal_line, http_line, peer_line, reserve_line, events_line, filters_line, filters_nft_line, figures_line}

abbrev pub NoColon : List ℕ → Type 0
NoColon text = (k : ℕ) → k < length text → get_or text k 0 ≢ 58

no_colon-decimal : (n : ℕ) → n < 2 ^ 16 → NoColon (decimal n)
no_colon-decimal n small k within is =
    let digit = digit_at (decimal n) k (decimal_is_IsNumeral n (omega arith)).0.1 within in
    omega arith

no_colon_inside : (a d : List ℕ) (text : List ℕ) → NoColon text → text ≢ a ++ 58 ∷ d
no_colon_inside a d text none is =
    let seam = get_or-append_seam a 58 d 0 in
    let within : length a < length text = omega (arith, ap length is, length-append a (58 ∷ d)) in
    none (length a) within (ap (λ t. get_or t (length a) 0) is ∙ seam)

-- what stands before the last colon, and after it
pub last_colon : (a d b e : List ℕ) → NoColon d → NoColon e → a ++ 58 ∷ d ≡ b ++ 58 ∷ e → (a ≡ b) × (d ≡ e)
last_colon [] d [] e none_d none_e same = (refl, cc)
last_colon [] d (y ∷ b) e none_d none_e same = let later : d ≡ b ++ 58 ∷ e = cc in absurd (no_colon_inside b e d none_d later)
last_colon (x ∷ a) d [] e none_d none_e same = let later : e ≡ a ++ 58 ∷ d = cc in absurd (no_colon_inside a d e none_e later)
last_colon (x ∷ a) d (y ∷ b) e none_d none_e same =
    let later : a ++ 58 ∷ d ≡ b ++ 58 ∷ e = cc in
    let (fronts, backs) = last_colon a d b e none_d none_e later in
    let heads : x ≡ y = cc in
    (ap₂ ◌∷◌ heads fronts, backs)

-- no colon, no port
pub no_endpoint : (text : List ℕ) → NoColon text → (address : Addr) (port : ℕ) → ¬ (IsEndpointText text address port)
no_endpoint text none address port is = no_colon_inside is.host (decimal port) text none is.spelled

-- what stands before the last colon is the address, and what stands behind it the port
pub parts_of : (text host digits : List ℕ) (address : Addr) (port : ℕ) → text ≡ host ++ 58 ∷ digits → NoColon digits → IsEndpointText text address port
    → (digits ≡ decimal port) × IsHostText host address.family address.number
parts_of text host digits address port split none is =
    let (hosts, backs) = last_colon is.host (decimal port) host digits (no_colon-decimal port is.small) none (sym is.spelled ∙ split) in
    (sym backs, subst (λ (t : List ℕ). IsHostText t address.family address.number) hosts is.is_host)

-- a text in brackets has one text inside
pub inside_once : (text one other : List ℕ) → text ≡ 91 ∷ (one ++ 93 ∷ []) → text ≡ 91 ∷ (other ++ 93 ∷ []) → one ≡ other
inside_once text one other a b =
    let same : one ++ 93 ∷ [] ≡ other ++ 93 ∷ [] = cc in
    append_cancel_right one other (93 ∷ []) same

-- no address of either family
pub no_host : (text : List ℕ) → ((number : ℕ) → ¬ (IsAddressText text V4 number)) → ((inner : List ℕ) → text ≢ 91 ∷ (inner ++ 93 ∷ []))
    → (family : Family) (number : ℕ) → ¬ (IsHostText text family number)
no_host text none no_brackets V4 number is = none number is
no_host text none no_brackets V6 number is = no_brackets is.0 is.1

pub no_inner : (text inner : List ℕ) → ((number : ℕ) → ¬ (IsAddressText text V4 number)) → text ≡ 91 ∷ (inner ++ 93 ∷ []) → ((number : ℕ) → ¬ (IsAddressText inner V6 number))
    → (family : Family) (number : ℕ) → ¬ (IsHostText text family number)
no_inner text inner none spelled no_v6 V4 number is = none number is
no_inner text inner none spelled no_v6 V6 number is =
    no_v6 number (subst (λ (t : List ℕ). IsAddressText t V6 number) (inside_once text is.0 inner is.1 spelled) is.2)

-- a text is of one family
pub not_v4 : (text : List ℕ) (number : ℕ) → IsAddressText text V6 number → (other : ℕ) → ¬ (IsAddressText text V4 other)
not_v4 text number is other isnt = v6_isnt_v4 (IsAddressText_unique text V6 V4 number other is isnt).0
  where
    v6_isnt_v4 : V6 ≢ V4
    v6_isnt_v4 e = cc

pub not_v6 : (text : List ℕ) (number : ℕ) → IsAddressText text V4 number → (other : ℕ) → ¬ (IsAddressText text V6 other)
not_v6 text number is other isnt = v4_isnt_v6 (IsAddressText_unique text V4 V6 number other is isnt).0
  where
    v4_isnt_v6 : V4 ≢ V6
    v4_isnt_v6 e = cc

other_word : (one other : List ℕ) → one ≡ other → bytes_eq one one ≡ true → bytes_eq one other ≡ false → ⊥
other_word one other same is isnt = true≢false (sym is ∙ ap (bytes_eq one) same ∙ isnt)

one_text : (text other : List ℕ) (fields : List (List ℕ)) → fields ≡ text ∷ [] → fields ≡ other ∷ [] → other ≡ text
one_text text other fields a b = cc

-- the one field behind the word isn't of the form
pub no_signal : (text : List ℕ) (fields : List (List ℕ)) → fields ≡ text ∷ [] → ((address : Addr) (port : ℕ) → ¬ (IsEndpointText text address port))
    → (value : LineValue) → word_of value ≡ codes "signal" → ¬ (AreFields fields value)
no_signal text fields is none (signal_line at) word (other, one, behind) =
    none at.address at.port (subst (λ (t : List ℕ). IsEndpointText t at.address at.port) (one_text text other fields is one) behind)
no_signal text fields is none (journal_line path) word behind = absurd (other_word _ _ word refl refl)
no_signal text fields is none (http_line at) word behind = absurd (other_word _ _ word refl refl)
no_signal text fields is none (peer_line number address port) word behind = absurd (other_word _ _ word refl refl)
no_signal text fields is none (reserve_line bytes) word behind = absurd (other_word _ _ word refl refl)
no_signal text fields is none (events_line count) word behind = absurd (other_word _ _ word refl refl)
no_signal text fields is none (filters_line path) word behind = absurd (other_word _ _ word refl refl)
no_signal text fields is none (filters_nft_line path) word behind = absurd (other_word _ _ word refl refl)
no_signal text fields is none (figures_line path) word behind = absurd (other_word _ _ word refl refl)

pub no_http : (text : List ℕ) (fields : List (List ℕ)) → fields ≡ text ∷ [] → ((address : Addr) (port : ℕ) → ¬ (IsEndpointText text address port))
    → (value : LineValue) → word_of value ≡ codes "http" → ¬ (AreFields fields value)
no_http text fields is none (http_line at) word (other, one, behind) =
    none at.address at.port (subst (λ (t : List ℕ). IsEndpointText t at.address at.port) (one_text text other fields is one) behind)
no_http text fields is none (journal_line path) word behind = absurd (other_word _ _ word refl refl)
no_http text fields is none (signal_line at) word behind = absurd (other_word _ _ word refl refl)
no_http text fields is none (peer_line number address port) word behind = absurd (other_word _ _ word refl refl)
no_http text fields is none (reserve_line bytes) word behind = absurd (other_word _ _ word refl refl)
no_http text fields is none (events_line count) word behind = absurd (other_word _ _ word refl refl)
no_http text fields is none (filters_line path) word behind = absurd (other_word _ _ word refl refl)
no_http text fields is none (filters_nft_line path) word behind = absurd (other_word _ _ word refl refl)
no_http text fields is none (figures_line path) word behind = absurd (other_word _ _ word refl refl)
