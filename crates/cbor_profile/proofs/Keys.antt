-- The keys of pairs, as items and by the order of their encodings.
use Rattle.std.proofs.Common.{◌≡◌, ℕ, true, false, cond, List, [], ◌∷◌, ◌++◌, refl, sym, ap, subst, ◌∙◌, inl, inr}
use Rattle.std.specs.Prelude.{◌⊎◌, IsPermutation}
use Rattle.std.specs.List.{AllByRecursion}
use Rattle.std.specs.declared.cmp.Ordering.{Ordering}
use Rattle.std.specs.declared.cmp.Ordering.TheVariants.{Less, Equal, Greater}
use Rattle.std.specs.Ordering.{is_eq}
use Rattle.std.proofs.lemmas.Bool.{cases_Bool}
use Rattle.std.proofs.lemmas.List.Elements.{All-from_recursion, recursion_from_All}
use Rattle.std.proofs.lemmas.List.Sorted.{All-permutation, IsPermutation-sym}
use Rattle.cbor_profile.specs.Tree.{Tree}
use Rattle.cbor_profile.specs.Canon.{canon}
use Rattle.cbor_profile.specs.Valid.{IsSound}
use Rattle.cbor_profile.specs.Breaking.{HasKey, AreDistinct}
use Rattle.cbor_profile.specs.Keys.{key_order, has_key, put}
use Rattle.cbor_profile.proofs.Compared.{same_from_order}
use Rattle.cbor_profile.proofs.KeyOrder.{order_self}
use Rattle.cbor_profile.proofs.Places.{KeySound, or_true}
use Rattle.cbor_profile.proofs.Ordered.{put_permutes, Runs}
use Rattle.cbor_profile.proofs.Spellings.{one_spelling}

pub same_key : (a b : Tree) → IsSound a → IsSound b → key_order a b ≡ Equal → a ≡ b
same_key a b f g e = (one_spelling a b [] [] f g (ap (λ (l : List ℕ). l ++ []) (same_from_order (canon a) (canon b) e))).0

-- ---- which keys there are

all_have : (zs ps : List (Tree × Tree)) (q : Tree × Tree) → AllByRecursion (λ z. HasKey ps z.0) zs → AllByRecursion (λ z. HasKey (q ∷ ps) z.0) zs
all_have [] ps q all = tt
all_have (z ∷ zs) ps q all = (inr all.0, all_have zs ps q all.1)

all_own : (ps : List (Tree × Tree)) → AllByRecursion (λ z. HasKey ps z.0) ps
all_own [] = tt
all_own (p ∷ ps) = (inl refl, all_have ps ps p (all_own ps))

have_all : (P : Tree → Type 0) (ps : List (Tree × Tree)) (k : Tree) → AllByRecursion (λ z. P z.0) ps → HasKey ps k → P k
have_all P [] k all is = absurd is
have_all P (p ∷ ps) k all (inl same) = subst P same all.0
have_all P (p ∷ ps) k all (inr later) = have_all P ps k all.1 later

pub key_permutation : (ps qs : List (Tree × Tree)) (k : Tree) → IsPermutation ps qs → HasKey ps k → HasKey qs k
key_permutation ps qs k same is =
    have_all (HasKey qs) ps k (recursion_from_All (λ z. HasKey qs z.0) ps (All-permutation (λ z. HasKey qs z.0) qs ps (IsPermutation-sym _ _ same) (All-from_recursion (λ z. HasKey qs z.0) qs (all_own qs)))) is

pub put_has : (acc : List (Tree × Tree)) (k v z : Tree) → (k ≡ z) ⊎ HasKey acc z → HasKey (put k v acc) z
put_has acc k v z is = key_permutation ((k, v) ∷ acc) (put k v acc) z (put_permutes acc k v) is

pub has_put : (acc : List (Tree × Tree)) (k v z : Tree) → HasKey (put k v acc) z → (k ≡ z) ⊎ HasKey acc z
has_put acc k v z is = key_permutation (put k v acc) ((k, v) ∷ acc) z (IsPermutation-sym _ _ (put_permutes acc k v)) is

has_step : (o : Ordering) (p k : Tree) (ps : List (Tree × Tree)) → key_order p k ≡ o → IsSound p → IsSound k → cond (is_eq o) true (has_key k ps) ≡ true → (has_key k ps ≡ true → HasKey ps k) → (p ≡ k) ⊎ HasKey ps k
has_step Less p k ps is f g e more = inr (more e)
has_step Equal p k ps is f g e more = inl (same_key p k f g is)
has_step Greater p k ps is f g e more = inr (more e)

false_true : false ≡ true → ⊥
false_true e = cc

pub has_true_key : (ps : List (Tree × Tree)) (k : Tree) → AllByRecursion KeySound ps → IsSound k → has_key k ps ≡ true → HasKey ps k
has_true_key [] k all sound e = absurd (false_true e)
has_true_key (p ∷ ps) k all sound e = has_step (key_order p.0 k) p.0 k ps refl all.0 sound e (has_true_key ps k all.1 sound)

pub key_has_true : (ps : List (Tree × Tree)) (k : Tree) → HasKey ps k → has_key k ps ≡ true
key_has_true [] k is = absurd is
key_has_true (p ∷ ps) k (inl same) =
    let equal : key_order p.0 k ≡ Equal = subst (λ (t : Tree). key_order p.0 t ≡ Equal) same (order_self p.0) in
    ap (λ (o : Ordering). cond (is_eq o) true (has_key k ps)) equal
key_has_true (p ∷ ps) k (inr later) = or_true (is_eq (key_order p.0 k)) (has_key k ps) (key_has_true ps k later)

pub fresh_not : (ps : List (Tree × Tree)) (k : Tree) → has_key k ps ≡ false → HasKey ps k → ⊥
fresh_not ps k e is = false_true (sym e ∙ key_has_true ps k is)

-- ---- pairs put in order one after the other

abbrev Fresh : List (Tree × Tree) → List (Tree × Tree) → Type 0
Fresh acc [] = Unit {0}
Fresh acc (p ∷ ps) = (¬ (HasKey acc p.0)) × Fresh acc ps

fresh_before : (acc ps : List (Tree × Tree)) (k v : Tree) → Fresh (put k v acc) ps → Fresh acc ps
fresh_before acc [] k v h = tt
fresh_before acc (p ∷ ps) k v h = (λ is. h.0 (put_has acc k v p.0 (inr is)), fresh_before acc ps k v h.1)

fresh_other : (acc ps : List (Tree × Tree)) (k : Tree) → Fresh acc ps → HasKey acc k → HasKey ps k → ⊥
fresh_other acc [] k h is later = later
fresh_other acc (p ∷ ps) k h is (inl same) = h.0 (subst (HasKey acc) (sym same) is)
fresh_other acc (p ∷ ps) k h is (inr later) = fresh_other acc ps k h.1 is later

runs_fresh : (ps acc final : List (Tree × Tree)) → Runs acc ps final → Fresh acc ps
runs_fresh [] acc final runs = tt
runs_fresh (p ∷ ps) acc final runs = (fresh_not acc p.0 runs.0, fresh_before acc ps p.0 p.1 (runs_fresh ps (put p.0 p.1 acc) final runs.1))

pub runs_distinct : (ps acc final : List (Tree × Tree)) → Runs acc ps final → AreDistinct ps
runs_distinct [] acc final runs = tt
runs_distinct (p ∷ ps) acc final runs =
    (λ is. fresh_other (put p.0 p.1 acc) ps p.0 (runs_fresh ps (put p.0 p.1 acc) final runs.1) (put_has acc p.0 p.1 p.0 (inl refl)) is, runs_distinct ps (put p.0 p.1 acc) final runs.1)

not_key : (acc : List (Tree × Tree)) (k : Tree) → AllByRecursion KeySound acc → IsSound k → (HasKey acc k → ⊥) → (has_key k acc ≡ true) ⊎ (has_key k acc ≡ false) → has_key k acc ≡ false
not_key acc k all sound none (inl has) = absurd (none (has_true_key acc k all sound has))
not_key acc k all sound none (inr fresh) = fresh

pub not_has : (acc : List (Tree × Tree)) (k : Tree) → AllByRecursion KeySound acc → IsSound k → (HasKey acc k → ⊥) → has_key k acc ≡ false
not_has acc k all sound none = not_key acc k all sound none (cases_Bool (has_key k acc))

pub put_sound : (acc : List (Tree × Tree)) (k v : Tree) → AllByRecursion KeySound acc → IsSound k → AllByRecursion KeySound (put k v acc)
put_sound acc k v all sound = recursion_from_All KeySound (put k v acc) (All-permutation KeySound ((k, v) ∷ acc) (put k v acc) (put_permutes acc k v) (All-from_recursion KeySound ((k, v) ∷ acc) (sound, all)))

fresh_step : (acc ps : List (Tree × Tree)) (k v : Tree) → (HasKey ps k → ⊥) → Fresh acc ps → Fresh (put k v acc) ps
fresh_step acc [] k v none h = tt
fresh_step acc (q ∷ ps) k v none h = (λ is. fresh_case acc q ps k v none h.0 (has_put acc k v q.0 is), fresh_step acc ps k v (λ later. none (inr later)) h.1)
  where
    fresh_case : (acc : List (Tree × Tree)) (q : Tree × Tree) (ps : List (Tree × Tree)) (k v : Tree) → (HasKey (q ∷ ps) k → ⊥) → (HasKey acc q.0 → ⊥) → (k ≡ q.0) ⊎ HasKey acc q.0 → ⊥
    fresh_case acc q ps k v none other (inl same) = none (inl (sym same))
    fresh_case acc q ps k v none other (inr is) = other is

runs_from : (ps acc : List (Tree × Tree)) → AllByRecursion KeySound acc → AllByRecursion KeySound ps → Fresh acc ps → AreDistinct ps → (final : List (Tree × Tree)) × Runs acc ps final × AllByRecursion KeySound final
runs_from [] acc all sound fresh apart = (acc, refl, all)
runs_from (p ∷ ps) acc all sound fresh apart =
    let none = not_has acc p.0 all sound.0 fresh.0 in
    let rest = runs_from ps (put p.0 p.1 acc) (put_sound acc p.0 p.1 all sound.0) sound.1 (fresh_step acc ps p.0 p.1 apart.0 fresh.1) apart.1 in
    (rest.0, (none, rest.1), rest.2)

nothing_fresh : (ps : List (Tree × Tree)) → Fresh [] ps
nothing_fresh [] = tt
nothing_fresh (p ∷ ps) = (λ is. is, nothing_fresh ps)

pub distinct_runs : (ps : List (Tree × Tree)) → AllByRecursion KeySound ps → AreDistinct ps → (final : List (Tree × Tree)) × Runs [] ps final × AllByRecursion KeySound final
distinct_runs ps sound apart = runs_from ps [] tt sound (nothing_fresh ps) apart

pub runs_sound : (ps acc final : List (Tree × Tree)) → AllByRecursion KeySound acc → AllByRecursion KeySound ps → Runs acc ps final → AllByRecursion KeySound final
runs_sound [] acc final all sound runs = subst (AllByRecursion KeySound) runs all
runs_sound (p ∷ ps) acc final all sound runs = runs_sound ps (put p.0 p.1 acc) final (put_sound acc p.0 p.1 all sound.0) sound.1 runs.1
