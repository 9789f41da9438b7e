-- The frame that is read is the one that was spelled, what is decided stays, and little is waited with.
use Rattle.std.proofs.Common.{◌≡◌, ℕ, zero, suc, ◌+◌, ◌*◌, ◌/◌, ◌%◌, ◌<◌, ◌≤◌, Bool, true, false, cond, ltb, List, [], ◌∷◌, ◌++◌, length, take, drop, Option, Some, None, refl, sym, ap, subst, ◌∙◌, append_assoc, arith, inl, inr}
use Rattle.std.specs.Prelude.{◌⊎◌}
use Rattle.std.proofs.lemmas.Bool.{cases_lt, ltb-false, lt-ltb, le-ltb}
use Rattle.std.proofs.lemmas.List.{take_at, drop_at, take-append-drop, take-append-le, drop-append-le, length-append, length-take, length-drop}
use Rattle.coap_message.specs.Message.{nibble, extension}
use Rattle.coap_message.proofs.Steps.{IsBytes, IsBytes-drop, IsBytes-rest}
use Rattle.coap_message.proofs.Extended.{extended_takes}
use Rattle.coap_tcp.specs.declared.fault.FrameFault.TheVariants.{Token, TooLong, Options}
use Rattle.coap_tcp.specs.declared.frame.FrameCut as code
use Rattle.coap_tcp.specs.declared.frame.FrameCut.TheVariants as cuts
use Rattle.coap_tcp.specs.Frames.{FrameValue, length_nibble, length_extension, frame_bytes, IsRest, IsFrame, BeginsWith}
use Rattle.coap_tcp.specs.FrameReading.{FrameCutValue, takes, waits, refuses, length_at, is_rest, cut_value_behind, with_length, frame_at, frame_value, cut_value, IfFrame}
use Rattle.coap_tcp.proofs.Rests.{rest_found, found_rest}
use Rattle.coap_tcp.proofs.Lengths.{length_more, short_length, length_short, length_again, nibble_below, extension_below}

-- a cut that waits, or stays as it is
abbrev Stays : FrameCutValue → FrameCutValue → Type 0
Stays before after = (before ≡ waits) ⊎ (after ≡ before)

IsBytes-take : (n : ℕ) (bytes : List ℕ) → IsBytes bytes → IsBytes (take n bytes)
IsBytes-take zero bytes fits i = omega arith
IsBytes-take (suc n) [] fits i = fits i
IsBytes-take (suc n) (b ∷ bytes) fits zero = fits 0
IsBytes-take (suc n) (b ∷ bytes) fits (suc i) = IsBytes-take n bytes (IsBytes-rest b bytes fits) i

-- ---- a length that is short

small : (n : ℕ) → n ≤ 4096 → ltb n 65805 ≡ true
small n le = lt-ltb n 65805 (omega arith)

pub short_nibble : (n : ℕ) → n ≤ 4096 → length_nibble n ≡ nibble n
short_nibble n le = rw (small n le) refl

pub short_extension : (n : ℕ) → n ≤ 4096 → length_extension n ≡ extension n
short_extension n le = rw (small n le) refl

pub regroup : (a : List ℕ) (code : ℕ) (b c d : List ℕ) → (((a ++ code ∷ []) ++ b) ++ c) ++ d ≡ a ++ (code ∷ (b ++ (c ++ d)))
regroup a code b c d = append_assoc ((a ++ code ∷ []) ++ b) c d ∙ append_assoc (a ++ code ∷ []) b (c ++ d) ∙ append_assoc a (code ∷ []) (b ++ (c ++ d))

-- ---- what was spelled is read again

behind_again : (t n : ℕ) (f : FrameValue) (more : List ℕ) → length f.token ≡ t → length f.rest ≡ n → is_rest f.rest ≡ true → cut_value_behind t n (f.code ∷ (f.token ++ (f.rest ++ more))) ≡ takes f
unfolding cut_value_behind
behind_again t n f more token size found =
    let long : ltb (length (f.token ++ (f.rest ++ more))) (t + n) ≡ false = le-ltb (length (f.token ++ (f.rest ++ more))) (t + n) (omega (arith, length-append f.token (f.rest ++ more), length-append f.rest more, token, size)) in
    let first : take t (f.token ++ (f.rest ++ more)) ≡ f.token = take_at f.token (f.rest ++ more) t token in
    let second : drop t (f.token ++ (f.rest ++ more)) ≡ f.rest ++ more = drop_at f.token (f.rest ++ more) t token in
    let third : take n (f.rest ++ more) ≡ f.rest = take_at f.rest more n size in
    rw (long, first, second, third, found) refl

again_by : (t n first : ℕ) (f : FrameValue) (more : List ℕ) → first % 16 ≡ t → first / 16 ≡ nibble n → t ≤ 8 → n ≤ 4096 → length f.token ≡ t → length f.rest ≡ n → is_rest f.rest ≡ true
    → frame_at (first ∷ extension n ++ (f.code ∷ (f.token ++ (f.rest ++ more)))) ≡ takes f
unfolding frame_at with_length
again_by t n first f more low high bound le token size found =
    let behind = f.code ∷ (f.token ++ (f.rest ++ more)) in
    let u : ltb 8 t ≡ false = le-ltb 8 t bound in
    let v : ltb 4096 n ≡ false = le-ltb 4096 n le in
    rw (low, high, u, length_again n behind le, v) (behind_again t n f more token size found)

pub frame_again : (f : FrameValue) (more : List ℕ) → IsFrame f → frame_at (frame_bytes f ++ more) ≡ takes f
frame_again f more is =
    let n = length f.rest in
    let t = length f.token in
    let bound = nibble_below n in
    let nib = short_nibble n is.size in
    let token = is.token in
    let ext = short_extension n is.size in
    let first = 16 * length_nibble n + t in
    let low : first % 16 ≡ t = omega (arith, token) in
    let high : first / 16 ≡ nibble n = omega (arith, token, nib) in
    let grouped : frame_bytes f ++ more ≡ first ∷ extension n ++ (f.code ∷ (f.token ++ (f.rest ++ more)))
    = ap (λ (y : List ℕ). first ∷ y) (regroup (length_extension n) f.code f.token f.rest more ∙ ap (λ (y : List ℕ). y ++ (f.code ∷ (f.token ++ (f.rest ++ more)))) ext) in
    ap frame_at grouped ∙ again_by t n first f more low high token is.size refl refl (rest_found f.rest is.rest.0 is.rest.1 is.rest.2)

-- ---- what is read was spelled

behind_by : (short found : Bool) (made f : FrameValue) → cond short waits (cond found (takes made) (refuses Options)) ≡ takes f → (short ≡ false) × (found ≡ true) × (made ≡ f)
behind_by true found made f e = absurd cc
behind_by false true made f e = (refl, refl, cc)
behind_by false false made f e = absurd cc

record Behind (t n : ℕ) (bytes : List ℕ) (f : FrameValue) : Type 0 where
  code : f.code < 256
  token : length f.token ≡ t
  size : length f.rest ≡ n
  rest : IsRest f.rest
  more : List ℕ
  parts : bytes ≡ f.code ∷ (f.token ++ (f.rest ++ more))

behind_found : (t n : ℕ) (bytes : List ℕ) (f : FrameValue) → IsBytes bytes → cut_value_behind t n bytes ≡ takes f → Behind t n bytes f
unfolding cut_value_behind
behind_found t n [] f fits e = absurd cc
behind_found t n (code ∷ bytes) f fits e =
    let rest = take n (drop t bytes) in
    let made : FrameValue = record { code = code; token = take t bytes; rest = rest } in
    let is = behind_by (ltb (length bytes) (t + n)) (is_rest rest) made f e in
    let room : t + n ≤ length bytes = ltb-false (length bytes) (t + n) is.0 in
    subst (λ (g : FrameValue). Behind t n (code ∷ bytes) g) is.2 (record {
      code = fits 0;
      token = omega (arith, length-take t bytes, room);
      size = omega (arith, length-take n (drop t bytes), length-drop t bytes, room);
      rest = found_rest rest (IsBytes-take n (drop t bytes) (IsBytes-drop t bytes (IsBytes-rest code bytes fits))) is.1;
      more = drop n (drop t bytes);
      parts = ap (λ (y : List ℕ). code ∷ y) (sym (take-append-drop t bytes) ∙ ap (λ (y : List ℕ). take t bytes ++ y) (sym (take-append-drop n (drop t bytes))));
    })

abbrev pub Found : List ℕ → FrameValue → Type 0
Found bytes f = (behind : List ℕ) × BeginsWith bytes f behind

found_by : (first : ℕ) (bytes : List ℕ) (x : ℕ × List ℕ) (f : FrameValue) → IsBytes (first ∷ bytes) → first % 16 ≤ 8 → length_at (first / 16) bytes ≡ Some x → x.0 ≤ 4096 → cut_value_behind (first % 16) x.0 x.1 ≡ takes f → Found (first ∷ bytes) f
found_by first bytes x f fits token e le taken =
    let n = x.0 in
    let ext = extended_takes (first / 16) bytes x (IsBytes-rest first bytes fits) (short_length (first / 16) bytes x e le) in
    let b = behind_found (first % 16) n x.1 f ext.rest_fits taken in
    let short : length f.rest ≤ 4096 = omega (arith, b.size, le) in
    let nib : length_nibble (length f.rest) ≡ first / 16 = short_nibble (length f.rest) short ∙ ap nibble b.size ∙ ext.nibble_is in
    let front : 16 * length_nibble (length f.rest) + length f.token ≡ first = omega (arith, nib, b.token) in
    let extension_is : length_extension (length f.rest) ≡ extension n = short_extension (length f.rest) short ∙ ap extension b.size in
    let whole : bytes ≡ length_extension (length f.rest) ++ (f.code ∷ (f.token ++ (f.rest ++ b.more))) = ext.parts ∙ ap (λ (y : List ℕ). extension n ++ y) b.parts ∙ ap (λ (y : List ℕ). y ++ (f.code ∷ (f.token ++ (f.rest ++ b.more)))) (sym extension_is) in (
      b.more,
      record {
        is = record { code = b.code; token = omega (arith, b.token, token); size = short; rest = b.rest };
        parts = ap (λ (y : List ℕ). first ∷ y) (whole ∙ sym (regroup (length_extension (length f.rest)) f.code f.token f.rest b.more)) ∙ ap (λ (k : ℕ). k ∷ ((((length_extension (length f.rest) ++ f.code ∷ []) ++ f.token) ++ f.rest) ++ b.more)) (sym front);
      },
    )

length_found : (first : ℕ) (bytes : List ℕ) (r : Option (ℕ × List ℕ)) (f : FrameValue) → IsBytes (first ∷ bytes) → first % 16 ≤ 8 → length_at (first / 16) bytes ≡ r → with_length (first % 16) r ≡ takes f → Found (first ∷ bytes) f
unfolding with_length
length_found first bytes None f fits token e taken = absurd cc
length_found first bytes (Some x) f fits token e taken =
    elim (cases_lt 4096 x.0) [
      | inl gt ↦ let t : ltb 4096 x.0 ≡ true = lt-ltb 4096 x.0 gt in absurd (let bad : refuses TooLong ≡ takes f = rw t at taken in cc)
      | inr le ↦ let t : ltb 4096 x.0 ≡ false = le-ltb 4096 x.0 le in found_by first bytes x f fits token e le (rw t at taken)
    ]

pub frame_found : (bytes : List ℕ) (f : FrameValue) → IsBytes bytes → frame_at bytes ≡ takes f → Found bytes f
unfolding frame_at
frame_found [] f fits e = absurd cc
frame_found (first ∷ bytes) f fits e =
    elim (cases_lt 8 (first % 16)) [
      | inl gt ↦ let t : ltb 8 (first % 16) ≡ true = lt-ltb 8 (first % 16) gt in absurd (let bad : refuses Token ≡ takes f = rw t at e in cc)
      | inr le ↦ let t : ltb 8 (first % 16) ≡ false = le-ltb 8 (first % 16) le in length_found first bytes (length_at (first / 16) bytes) f fits le refl (rw t at e)
    ]

-- what stands behind a frame is the rest of the bytes
pub found_behind : (bytes : List ℕ) (f : FrameValue) → Found bytes f → BeginsWith bytes f (drop (length (frame_bytes f)) bytes)
found_behind bytes f found =
    let left : drop (length (frame_bytes f)) bytes ≡ found.0 = ap (drop (length (frame_bytes f))) found.1.parts ∙ drop_at (frame_bytes f) found.0 (length (frame_bytes f)) refl in
    subst (λ (y : List ℕ). BeginsWith bytes f y) (sym left) found.1

pub found_size : (bytes : List ℕ) (f : FrameValue) → Found bytes f → (0 < length (frame_bytes f)) × (length (frame_bytes f) ≤ length bytes)
found_size bytes f found = (omega arith, omega (arith, ap (λ (y : List ℕ). length y) found.1.parts, length-append (frame_bytes f) found.0))

-- ---- what is decided stays where bytes follow

behind_still : (t n : ℕ) (bytes more : List ℕ) → Stays (cut_value_behind t n bytes) (cut_value_behind t n (bytes ++ more))
unfolding cut_value_behind
behind_still t n [] more = inl refl
behind_still t n (code ∷ bytes) more =
    elim (cases_lt (length bytes) (t + n)) [
      | inl lt ↦ inl (let u : ltb (length bytes) (t + n) ≡ true = lt-ltb (length bytes) (t + n) lt in rw u refl)
      | inr ge ↦
          let u : ltb (length bytes) (t + n) ≡ false = le-ltb (length bytes) (t + n) ge in
          let v : ltb (length (bytes ++ more)) (t + n) ≡ false = le-ltb (length (bytes ++ more)) (t + n) (omega (arith, length-append bytes more, ge)) in
          let first : take t (bytes ++ more) ≡ take t bytes = take-append-le t bytes more (omega (arith, ge)) in
          let second : drop t (bytes ++ more) ≡ drop t bytes ++ more = drop-append-le t bytes more (omega (arith, ge)) in
          let third : take n (drop t bytes ++ more) ≡ take n (drop t bytes) = take-append-le n (drop t bytes) more (omega (arith, length-drop t bytes, ge)) in
          inr (rw (u, v, first, second, third) refl)
    ]

length_still : (t n : ℕ) (r : Option (ℕ × List ℕ)) (bytes more : List ℕ) → length_at n bytes ≡ r → Stays (with_length t r) (with_length t (length_at n (bytes ++ more)))
unfolding with_length
length_still t n None bytes more e = inl refl
length_still t n (Some x) bytes more e =
    let there : length_at n (bytes ++ more) ≡ Some (x.0, x.1 ++ more) = length_more n bytes more x e in
    elim (cases_lt 4096 x.0) [
      | inl gt ↦ let u : ltb 4096 x.0 ≡ true = lt-ltb 4096 x.0 gt in inr (rw (there, u) refl)
      | inr le ↦ let u : ltb 4096 x.0 ≡ false = le-ltb 4096 x.0 le in rw (there, u) (behind_still t x.0 x.1 more)
    ]

pub frame_still : (bytes more : List ℕ) → (frame_at bytes ≡ waits) ⊎ (frame_at (bytes ++ more) ≡ frame_at bytes)
unfolding frame_at
frame_still [] more = inl refl
frame_still (first ∷ bytes) more =
    elim (cases_lt 8 (first % 16)) [
      | inl gt ↦ let u : ltb 8 (first % 16) ≡ true = lt-ltb 8 (first % 16) gt in inr (rw u refl)
      | inr le ↦ let u : ltb 8 (first % 16) ≡ false = le-ltb 8 (first % 16) le in rw u (length_still (first % 16) (first / 16) (length_at (first / 16) bytes) bytes more refl)
    ]

-- ---- little is waited with

behind_short : (t n : ℕ) (bytes : List ℕ) → cut_value_behind t n bytes ≡ waits → length bytes < 1 + (t + n) ⊎ (length bytes ≡ 0)
unfolding cut_value_behind
behind_short t n [] e = inr refl
behind_short t n (code ∷ bytes) e =
    elim (cases_lt (length bytes) (t + n)) [
      | inl lt ↦ inl (omega (arith, lt))
      | inr ge ↦ let u : ltb (length bytes) (t + n) ≡ false = le-ltb (length bytes) (t + n) ge in absurd (decided (is_rest (take n (drop t bytes))) _ (rw u at e))
    ]
  where
    decided : (b : Bool) (f : FrameValue) → cond b (takes f) (refuses Options) ≡ waits → ⊥
    decided true f e = cc
    decided false f e = cc

length_waits : (t n : ℕ) (r : Option (ℕ × List ℕ)) (bytes : List ℕ) → IsBytes bytes → t ≤ 8 → n ≤ 15 → length_at n bytes ≡ r → with_length t r ≡ waits → length bytes < 4107
unfolding with_length
length_waits t n None bytes fits token low e wait = omega (arith, length_short n bytes low e)
length_waits t n (Some x) bytes fits token low e wait =
    elim (cases_lt 4096 x.0) [
      | inl gt ↦ let u : ltb 4096 x.0 ≡ true = lt-ltb 4096 x.0 gt in absurd (let bad : refuses TooLong ≡ waits = rw u at wait in cc)
      | inr le ↦
          let u : ltb 4096 x.0 ≡ false = le-ltb 4096 x.0 le in
          let ext = extended_takes n bytes x fits (short_length n bytes x e le) in
          let all : length bytes ≡ length (extension x.0 ++ x.1) = ap (λ (y : List ℕ). length y) ext.parts in
          let bound = extension_below x.0 in
          elim (behind_short t x.0 x.1 (rw u at wait)) [
            | inl lt ↦ omega (arith, all, length-append (extension x.0) x.1, bound, lt, token, le)
            | inr none ↦ omega (arith, all, length-append (extension x.0) x.1, bound, none)
          ]
    ]

-- fewer bytes are buffered than the longest frame has, where more is waited for
pub waits_short : (bytes : List ℕ) → IsBytes bytes → frame_at bytes ≡ waits → length bytes < 4108
unfolding frame_at
waits_short [] fits e = omega arith
waits_short (first ∷ bytes) fits e =
    elim (cases_lt 8 (first % 16)) [
      | inl gt ↦ let u : ltb 8 (first % 16) ≡ true = lt-ltb 8 (first % 16) gt in absurd (let bad : refuses Token ≡ waits = rw u at e in cc)
      | inr le ↦
          let u : ltb 8 (first % 16) ≡ false = le-ltb 8 (first % 16) le in
          let low : first < 256 = fits 0 in
          omega (arith, length_waits (first % 16) (first / 16) (length_at (first / 16) bytes) bytes (IsBytes-rest first bytes fits) le (omega (arith, low)) refl (rw u at e))
    ]

pub frame_size : (f : FrameValue) → IsFrame f → length (frame_bytes f) ≤ 4108
frame_size f is =
    let ext = length_extension (length f.rest) in
    let bound : length ext ≤ 2 = subst (λ (y : List ℕ). length y ≤ 2) (sym (short_extension (length f.rest) is.size)) (extension_below (length f.rest)) in
    let one = length-append ((ext ++ f.code ∷ []) ++ f.token) f.rest in
    let two = length-append (ext ++ f.code ∷ []) f.token in
    let three = length-append ext (f.code ∷ []) in
    omega (arith, one, two, three, bound, is.token, is.size)

-- ---- what the code answers

pub cut_begins : (buffered : List ℕ) (cut : code.FrameCut) → IsBytes buffered → cut_value cut ≡ frame_at buffered → IfFrame cut (λ frame. frame.length ≡ length (frame_bytes (frame_value frame))) → IfFrame cut (λ frame. BeginsWith buffered (frame_value frame) (drop frame.length buffered))
cut_begins buffered (cuts.Message frame) fits e size = subst (λ (n : ℕ). BeginsWith buffered (frame_value frame) (drop n buffered)) (sym size) (found_behind buffered (frame_value frame) (frame_found buffered (frame_value frame) fits (sym e)))
cut_begins buffered cuts.More fits e size = tt
cut_begins buffered (cuts.Refused fault) fits e size = tt

pub cut_size : (buffered : List ℕ) (cut : code.FrameCut) → IsBytes buffered → cut_value cut ≡ frame_at buffered → IfFrame cut (λ frame. frame.length ≡ length (frame_bytes (frame_value frame))) → IfFrame cut (λ frame. (0 < frame.length) × (frame.length ≤ length buffered))
cut_size buffered (cuts.Message frame) fits e size =
    let found = found_size buffered (frame_value frame) (frame_found buffered (frame_value frame) fits (sym e)) in
    (omega (arith, size, found.0), omega (arith, size, found.1))
cut_size buffered cuts.More fits e size = tt
cut_size buffered (cuts.Refused fault) fits e size = tt
