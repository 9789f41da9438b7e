-- What reading gives is what a layout says: how that is handed on from parts to wholes.
use Rattle.std.proofs.Common.{◌≡◌, ℕ, ◌-◌, Bool, true, false, if◌then◌else◌, List, [], ◌∷◌, ◌++◌, length, Ok, Err, refl, sym, ◌∙◌, ap, subst, arith, append_assoc}
use Rattle.std.specs.List.{AllByRecursion}
use Rattle.slot_journal.specs.Values.{IsByte}
use Rattle.slot_journal.specs.Layout.{byte}
use Rattle.slot_journal.specs.RecordReading.{Read, ◌>>=◌, pair_at, made_at, byte_at}

abbrev pub AreBytes : List ℕ → Type 0
AreBytes = AllByRecursion IsByte

-- At this place no value goes on: some value's bytes go on behind what was passed, and with the byte that is left no
-- value's do.
pub record IsStuck {A : Type 0} (valid : A → Type 0) (layout : A → List ℕ) (read : ℕ → List ℕ → Read A) (end : ℕ) (bytes : List ℕ) (at : ℕ) : Type 0 where
  pub passed : List ℕ
  pub left : List ℕ
  pub more : List ℕ
  pub value : A
  pub is : bytes ≡ passed ++ left
  pub place : at ≡ end - length left
  pub holds : valid value
  pub goes_on : layout value ≡ passed ++ more
  pub blocked : (b : ℕ) (l other : List ℕ) (e : ℕ) → left ≡ b ∷ l → read e (passed ++ (b ∷ other)) ≡ Err (e - length (b ∷ other))

abbrev pub Sound : {A : Type 0} → (A → Type 0) → (A → List ℕ) → (ℕ → List ℕ → Read A) → ℕ → List ℕ → Read A → Type 0
Sound valid layout read end bytes (Ok x) = valid x.0 × (bytes ≡ layout x.0 ++ x.1)
Sound valid layout read end bytes (Err at) = IsStuck valid layout read end bytes at

pub record IsReader {A : Type 0} (valid : A → Type 0) (layout : A → List ℕ) (read : ℕ → List ℕ → Read A) : Type 0 where
  pub whole : (end : ℕ) (a : A) (rest : List ℕ) → valid a → read end (layout a ++ rest) ≡ Ok (a, rest)
  pub sound : (end : ℕ) (bytes : List ℕ) → AreBytes bytes → Sound valid layout read end bytes (read end bytes)

-- ---- bytes behind a front

pub behind_bytes : (front rest : List ℕ) → AreBytes (front ++ rest) → AreBytes rest
behind_bytes [] rest fits = fits
behind_bytes (b ∷ front) rest fits = behind_bytes front rest fits.1

-- ---- a value of each reader

some_of : {A : Type 0} (valid : A → Type 0) (layout : A → List ℕ) (read : ℕ → List ℕ → Read A) (r : Read A) → Sound valid layout read 0 [] r → (a : A) × valid a
some_of valid layout read (Ok x) s = (x.0, s.0)
some_of valid layout read (Err at) s = (s.value, s.holds)

pub some_value : {A : Type 0} (valid : A → Type 0) (layout : A → List ℕ) (read : ℕ → List ℕ → Read A) → IsReader valid layout read → (a : A) × valid a
some_value valid layout read reader = some_of valid layout read (read 0 []) (reader.sound 0 [] tt)

-- ---- a byte

pub no_head : {P : Type 0} (b : ℕ) (l : List ℕ) → [] ≡ b ∷ l → P
no_head b l e = cc

byte_sound : (test : ℕ → Bool) (end b : ℕ) (bytes : List ℕ) (v : Bool) → test b ≡ v → IsByte b → (w : ℕ) → test w ≡ true → IsByte w
    → Sound (λ a. (test a ≡ true) × IsByte a) byte (byte_at test) end (b ∷ bytes) (if v then Ok (b, bytes) else Err (end - length (b ∷ bytes)))
unfolding byte_at
byte_sound test end b bytes true is fits w passes small = ((is, fits), refl)
byte_sound test end b bytes false is fits w passes small = record {
  passed = [];
  left = b ∷ bytes;
  more = w ∷ [];
  value = w;
  is = refl;
  place = refl;
  holds = (passes, small);
  goes_on = refl;
  blocked = λ c l other e same. let head : c ≡ b = cc in rw (ap test head ∙ is) refl;
}

pub byte_reader : (test : ℕ → Bool) (w : ℕ) → test w ≡ true → IsByte w → IsReader (λ b. (test b ≡ true) × IsByte b) byte (byte_at test)
unfolding byte_at
byte_reader test w passes small = record {
  whole = λ end b rest holds. rw holds.0 refl;
  sound = λ end bytes fits. elim bytes as (λ bs. AreBytes bs → Sound (λ a. (test a ≡ true) × IsByte a) byte (byte_at test) end bs (byte_at test end bs)) [
    | [] ↦ λ fits. record {
      passed = [];
      left = [];
      more = w ∷ [];
      value = w;
      is = refl;
      place = omega arith;
      holds = (passes, small);
      goes_on = refl;
      blocked = λ b l other e same. no_head b l same;
    }
    | b ∷ bytes ↦ λ fits. byte_sound test end b bytes (test b) refl fits.0 w passes small
  ] fits;
}

-- ---- what is made of a value

made_sound : {A B : Type 0} (vA : A → Type 0) (lA : A → List ℕ) (rA : ℕ → List ℕ → Read A) (vB : B → Type 0) (lB : B → List ℕ) (make : A → B)
    → ((a : A) → vA a → vB (make a) × (lB (make a) ≡ lA a))
    → (end : ℕ) (bytes : List ℕ) (r : Read A) → Sound vA lA rA end bytes r → Sound vB lB (made_at make rA) end bytes (r >>= λ x. Ok (make x.0, x.1))
made_sound vA lA rA vB lB make to end bytes (Ok x) s = ((to x.0 s.0).0, s.1 ∙ ap (λ (l : List ℕ). l ++ x.1) (sym (to x.0 s.0).1))
made_sound vA lA rA vB lB make to end bytes (Err at) s = record {
  passed = s.passed;
  left = s.left;
  more = s.more;
  value = make s.value;
  is = s.is;
  place = s.place;
  holds = (to s.value s.holds).0;
  goes_on = (to s.value s.holds).1 ∙ s.goes_on;
  blocked = λ b l other e same. ap (λ r. r >>= λ x. Ok (make x.0, x.1)) (s.blocked b l other e same);
}

made_whole : {A B : Type 0} (vA : A → Type 0) (lA : A → List ℕ) (rA : ℕ → List ℕ → Read A) (lB : B → List ℕ) (make : A → B) → IsReader vA lA rA
    → (end : ℕ) (b : B) (rest : List ℕ) (a : A) → vA a → lB b ≡ lA a → make a ≡ b → made_at make rA end (lB b ++ rest) ≡ Ok (b, rest)
made_whole vA lA rA lB make reader end b rest a holds same is =
    ap (λ (l : List ℕ). made_at make rA end (l ++ rest)) same
    ∙ ap (λ r. r >>= λ x. Ok (make x.0, x.1)) (reader.whole end a rest holds)
    ∙ ap (λ c. Ok (c, rest)) is

pub made_reader : {A B : Type 0} (vA : A → Type 0) (lA : A → List ℕ) (rA : ℕ → List ℕ → Read A) (vB : B → Type 0) (lB : B → List ℕ) (make : A → B)
    → ((a : A) → vA a → vB (make a) × (lB (make a) ≡ lA a)) → ((b : B) → vB b → (a : A) × vA a × (make a ≡ b))
    → IsReader vA lA rA → IsReader vB lB (made_at make rA)
made_reader vA lA rA vB lB make to from reader = record {
  whole = λ end b rest holds.
      let f = from b holds in
      made_whole vA lA rA lB make reader end b rest f.0 f.1 (ap lB (sym f.2) ∙ (to f.0 f.1).1) f.2;
  sound = λ end bytes fits. made_sound vA lA rA vB lB make to end bytes (rA end bytes) (reader.sound end bytes fits);
}

-- ---- a value and another behind it

joined : (a b c : List ℕ) → a ++ (b ++ c) ≡ (a ++ b) ++ c
joined a b c = sym (append_assoc a b c)

pair_next : {A B : Type 0} (vA : A → Type 0) (lA : A → List ℕ) (rA : ℕ → List ℕ → Read A) (vB : A → B → Type 0) (lB : A → B → List ℕ) (rB : A → ℕ → List ℕ → Read B)
    → IsReader vA lA rA → (a : A) → vA a → (end : ℕ) (bytes rest : List ℕ) → bytes ≡ lA a ++ rest
    → (r : Read B) → Sound (vB a) (lB a) (rB a) end rest r
    → Sound (λ p. vA p.0 × vB p.0 p.1) (λ p. lA p.0 ++ lB p.0 p.1) (pair_at rA rB) end bytes (r >>= λ y. Ok ((a, y.0), y.1))
pair_next vA lA rA vB lB rB first a va end bytes rest is (Ok y) s = ((va, s.0), is ∙ ap (λ (l : List ℕ). lA a ++ l) s.1 ∙ joined (lA a) (lB a y.0) y.1)
pair_next vA lA rA vB lB rB first a va end bytes rest is (Err at) s = record {
  passed = lA a ++ s.passed;
  left = s.left;
  more = s.more;
  value = (a, s.value);
  is = is ∙ ap (λ (l : List ℕ). lA a ++ l) s.is ∙ joined (lA a) s.passed s.left;
  place = s.place;
  holds = (va, s.holds);
  goes_on = ap (λ (l : List ℕ). lA a ++ l) s.goes_on ∙ joined (lA a) s.passed s.more;
  blocked = λ b l other e same.
      ap (pair_at rA rB e) (append_assoc (lA a) s.passed (b ∷ other))
      ∙ ap (λ r. r >>= λ x. rB x.0 e x.1 >>= λ y. Ok ((x.0, y.0), y.1)) (first.whole e a (s.passed ++ (b ∷ other)) va)
      ∙ ap (λ r. r >>= λ y. Ok ((a, y.0), y.1)) (s.blocked b l other e same);
}

pair_sound : {A B : Type 0} (vA : A → Type 0) (lA : A → List ℕ) (rA : ℕ → List ℕ → Read A) (vB : A → B → Type 0) (lB : A → B → List ℕ) (rB : A → ℕ → List ℕ → Read B)
    → IsReader vA lA rA → ((a : A) → vA a → IsReader (vB a) (lB a) (rB a)) → (end : ℕ) (bytes : List ℕ) → AreBytes bytes → (r : Read A) → Sound vA lA rA end bytes r
    → Sound (λ p. vA p.0 × vB p.0 p.1) (λ p. lA p.0 ++ lB p.0 p.1) (pair_at rA rB) end bytes (r >>= λ x. rB x.0 end x.1 >>= λ y. Ok ((x.0, y.0), y.1))
pair_sound vA lA rA vB lB rB first next end bytes fits (Ok x) s =
    pair_next vA lA rA vB lB rB first x.0 s.0 end bytes x.1 s.1 (rB x.0 end x.1)
    ((next x.0 s.0).sound end x.1 (behind_bytes (lA x.0) x.1 (subst AreBytes s.1 fits)))
pair_sound vA lA rA vB lB rB first next end bytes fits (Err at) s =
    let other = some_value (vB s.value) (lB s.value) (rB s.value) (next s.value s.holds) in
    record {
      passed = s.passed;
      left = s.left;
      more = s.more ++ lB s.value other.0;
      value = (s.value, other.0);
      is = s.is;
      place = s.place;
      holds = (s.holds, other.1);
      goes_on = ap (λ (l : List ℕ). l ++ lB s.value other.0) s.goes_on ∙ append_assoc s.passed s.more (lB s.value other.0);
      blocked = λ b l other e same. ap (λ r. r >>= λ x. rB x.0 e x.1 >>= λ y. Ok ((x.0, y.0), y.1)) (s.blocked b l other e same);
    }

pub pair_reader : {A B : Type 0} (vA : A → Type 0) (lA : A → List ℕ) (rA : ℕ → List ℕ → Read A) (vB : A → B → Type 0) (lB : A → B → List ℕ) (rB : A → ℕ → List ℕ → Read B)
    → IsReader vA lA rA → ((a : A) → vA a → IsReader (vB a) (lB a) (rB a))
    → IsReader (λ p. vA p.0 × vB p.0 p.1) (λ p. lA p.0 ++ lB p.0 p.1) (pair_at rA rB)
pair_reader vA lA rA vB lB rB first next = record {
  whole = λ end p rest holds.
      ap (pair_at rA rB end) (append_assoc (lA p.0) (lB p.0 p.1) rest)
      ∙ ap (λ r. r >>= λ x. rB x.0 end x.1 >>= λ y. Ok ((x.0, y.0), y.1)) (first.whole end p.0 (lB p.0 p.1 ++ rest) holds.0)
      ∙ ap (λ r. r >>= λ y. Ok ((p.0, y.0), y.1)) ((next p.0 holds.0).whole end p.1 rest holds.1);
  sound = λ end bytes fits. pair_sound vA lA rA vB lB rB first next end bytes fits (rA end bytes) (first.sound end bytes fits);
}
