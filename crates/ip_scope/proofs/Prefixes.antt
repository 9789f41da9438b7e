-- Facts of `inside`, `meets` and `holds`.
use Rattle.std.proofs.Common.{◌≡◌, ℕ, ◌+◌, ◌*◌, ◌/◌, ◌%◌, ◌-◌, ◌^◌, ◌<◌, ◌≤◌, ◌⊎◌, Bool, true, false, ◌&&◌, ◌||◌, IsTrue, ◌↔◌, inl, inr, refl, sym, ap, ◌∙◌, subst, arith, le-leb, eq-eqb}
use Rattle.std.proofs.lemmas.Bool.{leb-true, eqb-true, cases_lt}
use Rattle.std.proofs.lemmas.Nat.{shr-shr, pow_pos, pow-add, pow_below, div_below, mul-add-lt, div-add-mod', div-mul-add}
use Rattle.std.proofs.Math.Nat.{mul_comm, add-div_right}
use Rattle.std.proofs.Math.Bool.{or_comm}
use Rattle.ip_scope.specs.declared.family.Family.{Family}
use Rattle.ip_scope.specs.declared.family.Family.TheVariants.{V4, V6}
use Rattle.ip_scope.specs.Family.{width, same_family}
use Rattle.ip_scope.specs.Prefix.{PrefixValue, IsPrefix, block_size, holds, inside, meets}
use Rattle.ip_scope.specs.Laws.{SharesAddress, IsCovered}

and_parts : (a b : Bool) → (a && b) ≡ true → (a ≡ true) × (b ≡ true)
and_parts true true h = (refl, refl)
and_parts true false h = (refl, h)
and_parts false b h = let wrong : false ≡ true = h in cc

and_true : (a b : Bool) → a ≡ true → b ≡ true → (a && b) ≡ true
and_true a b p q = rw (p, q) refl

or_parts : (a b : Bool) → (a || b) ≡ true → (a ≡ true) ⊎ (b ≡ true)
or_parts true b h = inl refl
or_parts false b h = inr h

or_left : (a b : Bool) → a ≡ true → (a || b) ≡ true
or_left a b p = rw p refl

or_right : (a b : Bool) → b ≡ true → (a || b) ≡ true
or_right a b p = or_comm a b ∙ or_left b a p

same_family-itself : (f : Family) → same_family f f ≡ true
same_family-itself V4 = refl
same_family-itself V6 = refl

same_family-true : (f g : Family) → same_family f g ≡ true → f ≡ g
same_family-true V4 V4 h = refl
same_family-true V4 V6 h = let wrong : false ≡ true = h in cc
same_family-true V6 V4 h = let wrong : false ≡ true = h in cc
same_family-true V6 V6 h = refl

-- ---- what the tests say

pub record IsAddressOf (p : PrefixValue) (f : Family) (n : ℕ) : Type 0 where
  pub same : p.family ≡ f
  pub leading : n / block_size p.family p.length ≡ p.number / block_size p.family p.length

pub holds-says : (p : PrefixValue) (f : Family) (n : ℕ) → holds p f n ≡ true → IsAddressOf p f n
holds-says p f n h =
    let (families, parts) = and_parts _ _ h in
    record { same = same_family-true p.family f families; leading = eqb-true _ _ parts }

pub holds-from : (p : PrefixValue) (f : Family) (n : ℕ) → IsAddressOf p f n → holds p f n ≡ true
holds-from p f n is =
    and_true _ _ (ap (same_family p.family) (sym is.same) ∙ same_family-itself p.family) (eq-eqb _ _ is.leading)

pub holds-itself : (p : PrefixValue) → holds p p.family p.number ≡ true
holds-itself p = holds-from p p.family p.number (record { same = refl; leading = refl })

pub record IsInside (a b : PrefixValue) : Type 0 where
  pub longer : b.length ≤ a.length
  pub held : IsAddressOf b a.family a.number

pub inside-says : (a b : PrefixValue) → inside a b ≡ true → IsInside a b
inside-says a b h =
    let (lengths, rest) = and_parts _ _ h in
    record { longer = leb-true _ _ lengths; held = holds-says b a.family a.number rest }

pub inside-from : (a b : PrefixValue) → IsInside a b → inside a b ≡ true
inside-from a b is = and_true _ _ (le-leb _ _ is.longer) (holds-from b a.family a.number is.held)

pub inside-itself : (a : PrefixValue) → inside a a ≡ true
inside-itself a = inside-from a a (record { longer = omega arith; held = record { same = refl; leading = refl } })

-- numbers with one leading part have one leading part of fewer bits
fewer_bits : (w l k m n : ℕ) → k ≤ l → m / 2 ^ (w - l) ≡ n / 2 ^ (w - l) → m / 2 ^ (w - k) ≡ n / 2 ^ (w - k)
fewer_bits w l k m n fewer same =
    let sum : (w - l) + ((w - k) - (w - l)) ≡ w - k = omega arith in
    let at : (x : ℕ) → x / 2 ^ (w - l) / 2 ^ ((w - k) - (w - l)) ≡ x / 2 ^ (w - k) = λ x. shr-shr x (w - l) ((w - k) - (w - l)) ∙ ap (λ s. x / 2 ^ s) sum in
    sym (at m) ∙ ap (λ x. x / 2 ^ ((w - k) - (w - l))) same ∙ at n

-- an address of a, which is inside b, is one of b
pub holds-inside : (a b : PrefixValue) (f : Family) (n : ℕ) → inside a b ≡ true → holds a f n ≡ true → holds b f n ≡ true
holds-inside a b f n within held =
    let is = inside-says a b within in
    let at = holds-says a f n held in
    let down : n / block_size a.family b.length ≡ a.number / block_size a.family b.length = fewer_bits (width a.family) a.length b.length n a.number is.longer at.leading in
    let moved : n / block_size b.family b.length ≡ a.number / block_size b.family b.length = subst (λ (g : Family). n / block_size g b.length ≡ a.number / block_size g b.length) (sym is.held.same) down in
    holds-from b f n (record { same = is.held.same ∙ at.same; leading = moved ∙ is.held.leading })

pub inside-trans : (a b c : PrefixValue) → inside a b ≡ true → inside b c ≡ true → inside a c ≡ true
inside-trans a b c first second =
    let one = inside-says a b first in
    let two = inside-says b c second in
    let held = holds-inside b c a.family a.number second (holds-from b a.family a.number one.held) in
    let longer : c.length ≤ a.length = omega (arith, one.longer, two.longer) in
    inside-from a c (record { longer = longer; held = holds-says c a.family a.number held })

pub meets-sym : (a b : PrefixValue) → meets a b ≡ meets b a
meets-sym a b = or_comm (inside a b) (inside b a)

-- ---- meets

-- of two prefixes with one address in both the longer is inside
inside-shared : (a b : PrefixValue) (f : Family) (n : ℕ) → b.length ≤ a.length → IsAddressOf a f n → IsAddressOf b f n → inside a b ≡ true
inside-shared a b f n longer in_a in_b =
    let down : n / block_size a.family b.length ≡ a.number / block_size a.family b.length = fewer_bits (width a.family) a.length b.length n a.number longer in_a.leading in
    let same : a.family ≡ b.family = in_a.same ∙ sym in_b.same in
    let moved : n / block_size b.family b.length ≡ a.number / block_size b.family b.length = subst (λ (g : Family). n / block_size g b.length ≡ a.number / block_size g b.length) same down in
    inside-from a b (record { longer = longer; held = record { same = sym same; leading = sym moved ∙ in_b.leading } })

shared_from : (a b : PrefixValue) → IsPrefix a → inside a b ≡ true → SharesAddress a b
shared_from a b valid within = record {
  family = a.family;
  number = a.number;
  fits = valid.number;
  in_first = holds-itself a;
  in_second = holds-inside a b a.family a.number within (holds-itself a);
}

shared-sym : (a b : PrefixValue) → SharesAddress a b → SharesAddress b a
shared-sym a b s = record { family = s.family; number = s.number; fits = s.fits; in_first = s.in_second; in_second = s.in_first }

pub meets-shared : (a b : PrefixValue) → IsPrefix a → IsPrefix b → IsTrue (meets a b) ↔ SharesAddress a b
meets-shared a b valid_a valid_b = (
  λ h. elim (or_parts (inside a b) (inside b a) h) [
    | inl first ↦ shared_from a b valid_a first
    | inr second ↦ shared-sym b a (shared_from b a valid_b second)
  ],
  λ s. let in_a = holds-says a s.family s.number s.in_first in
      let in_b = holds-says b s.family s.number s.in_second in
      elim (cases_lt a.length b.length) [
        | inl shorter ↦ or_right (inside a b) (inside b a) (inside-shared b a s.family s.number (omega arith) in_b in_a)
        | inr longer ↦ or_left (inside a b) (inside b a) (inside-shared a b s.family s.number longer in_a in_b)
      ],
)

-- ---- inside

next_part : (n p : ℕ) → 0 < p → (n + p) / p ≡ n / p + 1
next_part n p some = add-div_right n some

-- where a has fewer leading bits than b, some address of a has another number in b's leading bits
pub record IsApart (w k l n : ℕ) : Type 0 where
  pub number : ℕ
  pub fits : number < 2 ^ w
  pub leading : number / 2 ^ (w - k) ≡ n / 2 ^ (w - k)
  pub next : number / 2 ^ (w - l) ≡ n / 2 ^ (w - l) + 1

apart : (w k l n : ℕ) → k < l → l ≤ w → n < 2 ^ w → n % 2 ^ (w - k) ≡ 0 → IsApart w k l n
apart w k l n fewer within fits none =
    let size = 2 ^ (w - k) in
    let step = 2 ^ (w - l) in
    let some : 0 < size = pow_pos (w - k) in
    let smaller : step < size = pow_below (w - l) (w - k) (omega arith) in
    let whole : 2 ^ k * size ≡ 2 ^ w = sym (pow-add 2 k (w - k)) ∙ ap (λ e. 2 ^ e) (omega arith) in
    let row : n / size < 2 ^ k = div_below n size (2 ^ k) some (omega arith) in
    let start : n / size * size ≡ n = omega (arith, div-add-mod' n size) in
    let below : n / size * size + step < size * 2 ^ k = mul-add-lt (n / size) size step (2 ^ k) row smaller in
    let turned = mul_comm size (2 ^ k) in
    record {
      number = n + step;
      fits = omega arith;
      leading = ap (λ x. (x + step) / size) (sym start) ∙ div-mul-add (n / size) size step smaller;
      next = next_part n step (pow_pos (w - l));
    }

pub inside-covered : (a b : PrefixValue) → IsPrefix a → IsPrefix b → IsTrue (inside a b) ↔ IsCovered a b
inside-covered a b valid_a valid_b = (
  λ h f n small held. holds-inside a b f n h held,
  λ covered.
      let held = holds-says b a.family a.number (covered a.family a.number valid_a.number (holds-itself a)) in
      let within : b.length ≤ width a.family = subst (λ (f : Family). b.length ≤ width f) held.same valid_b.length in
      elim (cases_lt a.length b.length) [
        | inr longer ↦ inside-from a b (record { longer = longer; held = held })
        | inl shorter ↦
            let other = apart (width a.family) a.length b.length a.number shorter within valid_a.number valid_a.host_bits in
            let in_b = holds-says b a.family other.number (covered a.family other.number other.fits (holds-from a a.family other.number (record { same = refl; leading = other.leading }))) in
            let same : other.number / block_size b.family b.length ≡ a.number / block_size b.family b.length = in_b.leading ∙ sym held.leading in
            let moved : other.number / block_size a.family b.length ≡ a.number / block_size a.family b.length = subst (λ (f : Family). other.number / block_size f b.length ≡ a.number / block_size f b.length) held.same same in
            absurd (omega (arith, other.next))
      ],
)
