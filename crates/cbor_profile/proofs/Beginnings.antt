-- What a byte begins, by its major type and its additional information.
use Rattle.std.proofs.Common.{◌≡◌, ℕ, suc, zero, ◌+◌, ◌*◌, ◌/◌, ◌%◌, ◌<◌, ◌≤◌, Bool, true, false, List, [], ◌∷◌, ◌++◌, refl, sym, ◌∙◌, subst, inl, inr, arith}
use Rattle.std.specs.Prelude.{◌⊎◌}
use Rattle.std.proofs.lemmas.Bool.{lt-ltb, le-ltb, le-leb, lt-leb, cases_lt, cases_eq, ne_eqb, eq-eqb}
use Rattle.cbor_profile.specs.declared.major.Major.{Major}
use Rattle.cbor_profile.specs.declared.major.Major.TheVariants as major_type
use Rattle.cbor_profile.specs.declared.head.Start.{Start}
use Rattle.cbor_profile.specs.declared.head.Start.TheVariants as start
use Rattle.cbor_profile.specs.Parts.{number_of}
use Rattle.cbor_profile.specs.ItemReading.{major_of, simple_start, sized_start, start_with}
use Rattle.cbor_profile.proofs.Firsts.{HasArgument}

abbrev pub AreBytes : List ℕ → Type 0
AreBytes [] = Unit {0}
AreBytes (b ∷ bytes) = (b < 256) × AreBytes bytes

pub AreBytes-rest : (front rest : List ℕ) → AreBytes (front ++ rest) → AreBytes rest
AreBytes-rest [] rest h = h
AreBytes-rest (b ∷ front) rest h = AreBytes-rest front rest h.1

pub bytes_rest : (bytes front rest : List ℕ) → AreBytes bytes → bytes ≡ front ++ rest → AreBytes rest
bytes_rest bytes front rest h is = AreBytes-rest front rest (subst AreBytes is h)

number_again : (q : ℕ) → q < 8 → number_of (major_of q) ≡ q
number_again zero lt = refl
number_again (suc zero) lt = refl
number_again (suc (suc zero)) lt = refl
number_again (suc (suc (suc zero))) lt = refl
number_again (suc (suc (suc (suc zero)))) lt = refl
number_again (suc (suc (suc (suc (suc zero))))) lt = refl
number_again (suc (suc (suc (suc (suc (suc zero)))))) lt = refl
number_again (suc (suc (suc (suc (suc (suc (suc zero))))))) lt = refl
number_again (suc (suc (suc (suc (suc (suc (suc (suc q)))))))) lt = absurd (omega arith)

pub byte_is : (first : ℕ) → first < 256 → first ≡ 32 * number_of (major_of (first / 32)) + first % 32
byte_is first lt = let n = number_again (first / 32) (omega arith) in omega arith

-- major types that have an indefinite length
abbrev pub HasOpen : Major → Type 0
HasOpen major_type.Bytes = Unit {0}
HasOpen major_type.Text = Unit {0}
HasOpen major_type.Array = Unit {0}
HasOpen major_type.Map = Unit {0}
HasOpen major = ⊥

pub data Begins (a : Major) (info : ℕ) (s : Start) : Type 0 where
  value : HasArgument a → info < 28 → s ≡ start.Value a info → Begins a info s
  indefinite : HasOpen a → info ≡ 31 → s ≡ start.Indefinite a → Begins a info s
  simple : a ≡ major_type.Simple → 20 ≤ info → info ≤ 22 → s ≡ start.Value major_type.Simple info → Begins a info s
  unsupported : a ≡ major_type.Simple → (info < 20) ⊎ ((22 < info) × (info < 28)) → s ≡ start.Unsupported → Begins a info s
  reserved : (28 ≤ info) → (info ≤ 30) ⊎ ((info ≡ 31) × (HasOpen a → ⊥)) → s ≡ start.Reserved → Begins a info s

sized_begins : (a : Major) (info : ℕ) (opens : Bool) (s : Start) → s ≡ sized_start a info opens → HasArgument a → (opens ≡ true → HasOpen a) → (opens ≡ false → HasOpen a → ⊥) → info < 32
    → (info < 28) ⊎ (28 ≤ info) → (info ≡ 31) ⊎ (info ≡ 31 → ⊥) → (opens ≡ true) ⊎ (opens ≡ false) → Begins a info s
sized_begins a info opens s is has opened shut small (inl lt) last way = let e = lt-ltb info 28 lt in value has lt (is ∙ rw e refl)
sized_begins a info opens s is has opened shut small (inr le) (inl last) (inl opening) =
    let e = le-ltb info 28 le in let f = eq-eqb info 31 last in indefinite (opened opening) last (is ∙ rw (e, f, opening) refl)
sized_begins a info opens s is has opened shut small (inr le) (inl last) (inr closed) =
    let e = le-ltb info 28 le in let f = eq-eqb info 31 last in reserved le (inr (last, shut closed)) (is ∙ rw (e, f, closed) refl)
sized_begins a info opens s is has opened shut small (inr le) (inr other) way =
    let e = le-ltb info 28 le in let f = ne_eqb info 31 other in reserved le (inl (omega arith)) (is ∙ rw (e, f) refl)

never : true ≡ false → ⊥
never e = cc

sized : (a : Major) (info : ℕ) → HasArgument a → HasOpen a → info < 32 → start_with a info ≡ sized_start a info true → Begins a info (start_with a info)
sized a info has opens small is = sized_begins a info true (start_with a info) is has (λ e. opens) (λ e. absurd (never e)) small (cases_lt info 28) (cases_eq info 31) (inl refl)

closed : (a : Major) (info : ℕ) → HasArgument a → (HasOpen a → ⊥) → info < 32 → start_with a info ≡ sized_start a info false → Begins a info (start_with a info)
closed a info has shut small is = sized_begins a info false (start_with a info) is has (λ e. absurd (never (sym e))) (λ e. shut) small (cases_lt info 28) (cases_eq info 31) (inr refl)

simple_begins : (info : ℕ) (s : Start) → s ≡ simple_start info → info < 32 → (info < 20) ⊎ (20 ≤ info) → (22 < info) ⊎ (info ≤ 22) → (info < 28) ⊎ (28 ≤ info) → Begins major_type.Simple info s
simple_begins info s is small (inl low) above wide =
    let e = lt-leb 20 info low in let f = lt-ltb info 28 (omega arith) in unsupported refl (inl low) (is ∙ rw (e, f) refl)
simple_begins info s is small (inr least) (inr most) wide =
    let e = le-leb 20 info least in let f = le-leb info 22 most in simple refl least most (is ∙ rw (e, f) refl)
simple_begins info s is small (inr least) (inl high) (inl lt) =
    let e = le-leb 20 info least in let f = lt-leb info 22 high in let g = lt-ltb info 28 lt in unsupported refl (inr (high, lt)) (is ∙ rw (e, f, g) refl)
simple_begins info s is small (inr least) (inl high) (inr le) =
    let e = le-leb 20 info least in let f = lt-leb info 22 high in let g = le-ltb info 28 le in reserved le (last_or_less info small (cases_eq info 31)) (is ∙ rw (e, f, g) refl)
  where
    last_or_less : (info : ℕ) → info < 32 → (info ≡ 31) ⊎ (info ≡ 31 → ⊥) → (info ≤ 30) ⊎ ((info ≡ 31) × (HasOpen major_type.Simple → ⊥))
    last_or_less info small (inl is) = inr (is, λ e. e)
    last_or_less info small (inr other) = inl (omega arith)

pub begins : (a : Major) (info : ℕ) → info < 32 → Begins a info (start_with a info)
unfolding start_with
begins major_type.Unsigned info small = closed major_type.Unsigned info tt (λ e. e) small refl
begins major_type.Negative info small = closed major_type.Negative info tt (λ e. e) small refl
begins major_type.Bytes info small = sized major_type.Bytes info tt tt small refl
begins major_type.Text info small = sized major_type.Text info tt tt small refl
begins major_type.Array info small = sized major_type.Array info tt tt small refl
begins major_type.Map info small = sized major_type.Map info tt tt small refl
begins major_type.Tag info small = closed major_type.Tag info tt (λ e. e) small refl
begins major_type.Simple info small = simple_begins info (simple_start info) refl small (cases_lt info 20) (cases_lt 22 info) (cases_lt info 28)
