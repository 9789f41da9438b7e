-- Reading parts one after the other, as a loop does.
use Rattle.std.proofs.Common.{◌≡◌, ℕ, zero, suc, ◌-◌, ◌%◌, ◌<◌, true, false, List, [], ◌∷◌, ◌++◌, length, Ok, Err, refl, sym, ap, ◌∙◌, append_assoc, arith}
use Rattle.std.proofs.lemmas.Bool.{eq-eqb, ne_eqb}
use Rattle.std.proofs.lemmas.List.{append-nil}
use Rattle.cbor_profile.specs.declared.fault.CborFault.{CborFault}
use Rattle.cbor_profile.specs.declared.fault.CborFault.TheVariants.{Short, Reserved, NotUtf8, Duplicate, Unsupported, Deep, Trailing, NoMemory}
use Rattle.cbor_profile.specs.declared.major.Major.{Major}
use Rattle.cbor_profile.specs.Tree.{Tree}
use Rattle.cbor_profile.specs.Spelling.{break}
use Rattle.cbor_profile.specs.ItemReading.{Read, ◌>>=◌, Fails, is_part, string_at, parts_at, items_at, open_items_at, pair_at, pairs_at, open_pairs_at}

-- what was read before, and what is still read
abbrev pub with_front : {A : Type 0} → List A → Read (List A) → Read (List A)
with_front front read = read >>= λ x. Ok (front ++ x.0, x.1)

-- a reading that fails as its first step does
pub fails_then : {A B : Type 0} (e : CborFault) (r : Read A) (s : Read B) → ((f : CborFault) → r ≡ Err f → s ≡ Err f) → Fails e r → Fails e s
fails_then (Short at) r s then_fails h = then_fails (Short at) h
fails_then (Reserved at) r s then_fails h = then_fails (Reserved at) h
fails_then (NotUtf8 at) r s then_fails h = then_fails (NotUtf8 at) h
fails_then (Duplicate at) r s then_fails h = then_fails (Duplicate at) h
fails_then (Unsupported at) r s then_fails h = then_fails (Unsupported at) h
fails_then (Deep at) r s then_fails h = then_fails (Deep at) h
fails_then (Trailing at) r s then_fails h = then_fails (Trailing at) h
fails_then NoMemory r s then_fails h = tt

regroup : {A : Type 0} (front part : List A) (read : Read (List A)) → with_front front (read >>= λ x. Ok (part ++ x.0, x.1)) ≡ with_front (front ++ part) read
regroup front part (Ok x) = ap (λ l. Ok (l, x.1)) (sym (append_assoc front part x.0))
regroup front part (Err f) = refl

regroup_one : {A : Type 0} (front : List A) (n : A) (read : Read (List A)) → with_front front (read >>= λ x. Ok (n ∷ x.0, x.1)) ≡ with_front (front ++ n ∷ []) read
regroup_one front n (Ok x) = ap (λ l. Ok (l, x.1)) (sym (append_assoc front (n ∷ []) x.0))
regroup_one front n (Err f) = refl

-- ---- strings

pub parts_short : (fuel end : ℕ) (a : Major) (front rest : List ℕ) (total : Read (List ℕ)) → length rest ≡ 0 → with_front front (parts_at fuel end a rest) ≡ total → total ≡ Err (Short end)
unfolding parts_at
parts_short zero end a front rest total empty h = sym h
parts_short (suc fuel) end a front [] total empty h = sym h
parts_short (suc fuel) end a front (b ∷ rest) total empty h = absurd (omega arith)

pub parts_spent : (fuel end : ℕ) (a : Major) (front rest : List ℕ) (total : Read (List ℕ)) → fuel ≡ 0 → with_front front (parts_at fuel end a rest) ≡ total → total ≡ Err (Short end)
unfolding parts_at
parts_spent fuel end a front rest total spent h = let one : with_front front (parts_at fuel end a rest) ≡ Err (Short end) = rw spent refl in sym h ∙ one

pub parts_end : (fuel end : ℕ) (a : Major) (front rest behind : List ℕ) (first : ℕ) (total : Read (List ℕ)) → 0 < fuel → rest ≡ first ∷ behind → first ≡ break → with_front front (parts_at fuel end a rest) ≡ total
    → total ≡ Ok (front, behind)
unfolding parts_at
parts_end fuel end a front rest behind first total some is ends h =
    let k : fuel ≡ suc (fuel - 1) = omega arith in
    let one : with_front front (parts_at fuel end a rest) ≡ Ok (front ++ [], behind) = rw (k, is, eq-eqb first break ends) refl in
    sym h ∙ one ∙ ap (λ (l : List ℕ). Ok (l, behind)) (append-nil front)

pub parts_reserved : (fuel end : ℕ) (a : Major) (front rest behind : List ℕ) (first : ℕ) (total : Read (List ℕ)) → 0 < fuel → rest ≡ first ∷ behind → (first ≡ break → ⊥) → is_part a first ≡ false
    → with_front front (parts_at fuel end a rest) ≡ total → total ≡ Err (Reserved (end - length rest))
unfolding parts_at
parts_reserved fuel end a front rest behind first total some is goes other h =
    let k : fuel ≡ suc (fuel - 1) = omega arith in
    let one : with_front front (parts_at fuel end a rest) ≡ Err (Reserved (end - length rest)) = rw (k, is, ne_eqb first break goes, other) refl in
    sym h ∙ one

parts_next : (fuel end : ℕ) (a : Major) (front rest behind : List ℕ) (first : ℕ) → 0 < fuel → rest ≡ first ∷ behind → (first ≡ break → ⊥) → is_part a first ≡ true
    → with_front front (parts_at fuel end a rest) ≡ with_front front (string_at end (end - length rest) a (first % 32) behind >>= λ string. parts_at (fuel - 1) end a string.1 >>= λ others. Ok (string.0 ++ others.0, others.1))
unfolding parts_at
parts_next fuel end a front rest behind first some is goes part =
    let k : fuel ≡ suc (fuel - 1) = omega arith in
    ap (λ (n : ℕ). with_front front (parts_at n end a rest)) k ∙ rw (is, ne_eqb first break goes, part) refl

pub parts_fail : (e : CborFault) (fuel end : ℕ) (a : Major) (front rest behind : List ℕ) (first : ℕ) (total : Read (List ℕ)) → 0 < fuel → rest ≡ first ∷ behind → (first ≡ break → ⊥) → is_part a first ≡ true
    → Fails e (string_at end (end - length rest) a (first % 32) behind) → with_front front (parts_at fuel end a rest) ≡ total → Fails e total
parts_fail e fuel end a front rest behind first total some is goes part fails h =
    fails_then e (string_at end (end - length rest) a (first % 32) behind) total (λ f bad. sym h ∙ parts_next fuel end a front rest behind first some is goes part ∙ rw bad refl) fails

pub parts_go : (fuel less end : ℕ) (a : Major) (front rest behind part after : List ℕ) (first : ℕ) (total : Read (List ℕ)) → fuel ≡ suc less → rest ≡ first ∷ behind → (first ≡ break → ⊥) → is_part a first ≡ true
    → string_at end (end - length rest) a (first % 32) behind ≡ Ok (part, after) → with_front front (parts_at fuel end a rest) ≡ total → with_front (front ++ part) (parts_at less end a after) ≡ total
parts_go fuel less end a front rest behind part after first total one is goes kind good h =
    let k : fuel - 1 ≡ less = omega arith in
    sym (regroup front part (parts_at less end a after))
    ∙ sym (parts_next fuel end a front rest behind first (omega arith) is goes kind ∙ rw (good, k) refl) ∙ h

-- ---- items

pub items_fail : (e : CborFault) (read : List ℕ → Read Tree) (n : ℕ) (front : List Tree) (rest : List ℕ) (total : Read (List Tree)) → 0 < n → Fails e (read rest) → with_front front (items_at read n rest) ≡ total → Fails e total
unfolding items_at
items_fail e read n front rest total some fails h =
    let k : n ≡ suc (n - 1) = omega arith in
    fails_then e (read rest) total (λ f bad. sym h ∙ ap (λ (m : ℕ). with_front front (items_at read m rest)) k ∙ rw bad refl) fails

pub items_go : (read : List ℕ → Read Tree) (n less : ℕ) (front : List Tree) (t : Tree) (rest after : List ℕ) (total : Read (List Tree)) → n ≡ suc less → read rest ≡ Ok (t, after) → with_front front (items_at read n rest) ≡ total
    → with_front (front ++ t ∷ []) (items_at read less after) ≡ total
unfolding items_at
items_go read n less front t rest after total one good h =
    let step : with_front front (items_at read n rest) ≡ with_front front (items_at read less after >>= λ x. Ok (t ∷ x.0, x.1)) = rw (one, good) refl in
    sym (regroup_one front t (items_at read less after)) ∙ sym step ∙ h

pub items_done : (read : List ℕ → Read Tree) (n : ℕ) (front : List Tree) (rest : List ℕ) (total : Read (List Tree)) → n ≡ 0 → with_front front (items_at read n rest) ≡ total → total ≡ Ok (front, rest)
unfolding items_at
items_done read n front rest total none h =
    let step : with_front front (items_at read n rest) ≡ Ok (front ++ [], rest) = rw none refl in
    sym h ∙ step ∙ ap (λ (l : List Tree). Ok (l, rest)) (append-nil front)

pub open_items_short : (read : List ℕ → Read Tree) (fuel end : ℕ) (front : List Tree) (rest : List ℕ) (total : Read (List Tree)) → length rest ≡ 0 → with_front front (open_items_at read fuel end rest) ≡ total → total ≡ Err (Short end)
unfolding open_items_at
open_items_short read zero end front rest total empty h = sym h
open_items_short read (suc fuel) end front [] total empty h = sym h
open_items_short read (suc fuel) end front (b ∷ rest) total empty h = absurd (omega arith)

pub open_items_spent : (read : List ℕ → Read Tree) (fuel end : ℕ) (front : List Tree) (rest : List ℕ) (total : Read (List Tree)) → fuel ≡ 0 → with_front front (open_items_at read fuel end rest) ≡ total → total ≡ Err (Short end)
unfolding open_items_at
open_items_spent read fuel end front rest total spent h = let one : with_front front (open_items_at read fuel end rest) ≡ Err (Short end) = rw spent refl in sym h ∙ one

pub open_items_end : (read : List ℕ → Read Tree) (fuel end : ℕ) (front : List Tree) (rest behind : List ℕ) (first : ℕ) (total : Read (List Tree)) → 0 < fuel → rest ≡ first ∷ behind → first ≡ break
    → with_front front (open_items_at read fuel end rest) ≡ total → total ≡ Ok (front, behind)
unfolding open_items_at
open_items_end read fuel end front rest behind first total some is ends h =
    let k : fuel ≡ suc (fuel - 1) = omega arith in
    let one : with_front front (open_items_at read fuel end rest) ≡ Ok (front ++ [], behind) = rw (k, is, eq-eqb first break ends) refl in
    sym h ∙ one ∙ ap (λ (l : List Tree). Ok (l, behind)) (append-nil front)

open_items_next : (read : List ℕ → Read Tree) (fuel end : ℕ) (front : List Tree) (rest behind : List ℕ) (first : ℕ) → 0 < fuel → rest ≡ first ∷ behind → (first ≡ break → ⊥)
    → with_front front (open_items_at read fuel end rest) ≡ with_front front (read rest >>= λ item. open_items_at read (fuel - 1) end item.1 >>= λ others. Ok (item.0 ∷ others.0, others.1))
unfolding open_items_at
open_items_next read fuel end front rest behind first some is goes =
    let k : fuel ≡ suc (fuel - 1) = omega arith in
    ap (λ (n : ℕ). with_front front (open_items_at read n end rest)) k ∙ rw (is, ne_eqb first break goes) refl

pub open_items_fail : (e : CborFault) (read : List ℕ → Read Tree) (fuel end : ℕ) (front : List Tree) (rest behind : List ℕ) (first : ℕ) (total : Read (List Tree)) → 0 < fuel → rest ≡ first ∷ behind → (first ≡ break → ⊥)
    → Fails e (read rest) → with_front front (open_items_at read fuel end rest) ≡ total → Fails e total
open_items_fail e read fuel end front rest behind first total some is goes fails h =
    fails_then e (read rest) total (λ f bad. sym h ∙ open_items_next read fuel end front rest behind first some is goes ∙ rw bad refl) fails

pub open_items_go : (read : List ℕ → Read Tree) (fuel less end : ℕ) (front : List Tree) (t : Tree) (rest behind after : List ℕ) (first : ℕ) (total : Read (List Tree)) → fuel ≡ suc less → rest ≡ first ∷ behind → (first ≡ break → ⊥)
    → read rest ≡ Ok (t, after) → with_front front (open_items_at read fuel end rest) ≡ total → with_front (front ++ t ∷ []) (open_items_at read less end after) ≡ total
open_items_go read fuel less end front t rest behind after first total one is goes good h =
    let k : fuel - 1 ≡ less = omega arith in
    sym (regroup_one front t (open_items_at read less end after)) ∙ sym (open_items_next read fuel end front rest behind first (omega arith) is goes ∙ rw (good, k) refl) ∙ h

-- ---- pairs

pub pairs_fail : (e : CborFault) (read : List ℕ → Read Tree) (end n : ℕ) (acc : List (Tree × Tree)) (rest : List ℕ) (total : Read (List (Tree × Tree))) → 0 < n → Fails e (pair_at read end acc rest) → pairs_at read end n acc rest ≡ total → Fails e total
unfolding pairs_at
pairs_fail e read end n acc rest total some fails h =
    let k : n ≡ suc (n - 1) = omega arith in
    fails_then e (pair_at read end acc rest) total (λ f bad. sym h ∙ ap (λ (m : ℕ). pairs_at read end m acc rest) k ∙ rw bad refl) fails

pub pairs_go : (read : List ℕ → Read Tree) (end n less : ℕ) (acc more : List (Tree × Tree)) (rest after : List ℕ) (total : Read (List (Tree × Tree))) → n ≡ suc less → pair_at read end acc rest ≡ Ok (more, after)
    → pairs_at read end n acc rest ≡ total → pairs_at read end less more after ≡ total
unfolding pairs_at
pairs_go read end n less acc more rest after total one good h =
    let step : pairs_at read end n acc rest ≡ pairs_at read end less more after = rw (one, good) refl in
    sym step ∙ h

pub pairs_done : (read : List ℕ → Read Tree) (end n : ℕ) (acc : List (Tree × Tree)) (rest : List ℕ) (total : Read (List (Tree × Tree))) → n ≡ 0 → pairs_at read end n acc rest ≡ total → total ≡ Ok (acc, rest)
unfolding pairs_at
pairs_done read end n acc rest total none h = let step : pairs_at read end n acc rest ≡ Ok (acc, rest) = rw none refl in sym h ∙ step

pub open_pairs_short : (read : List ℕ → Read Tree) (fuel end : ℕ) (acc : List (Tree × Tree)) (rest : List ℕ) (total : Read (List (Tree × Tree))) → length rest ≡ 0 → open_pairs_at read fuel end acc rest ≡ total → total ≡ Err (Short end)
unfolding open_pairs_at
open_pairs_short read zero end acc rest total empty h = sym h
open_pairs_short read (suc fuel) end acc [] total empty h = sym h
open_pairs_short read (suc fuel) end acc (b ∷ rest) total empty h = absurd (omega arith)

pub open_pairs_spent : (read : List ℕ → Read Tree) (fuel end : ℕ) (acc : List (Tree × Tree)) (rest : List ℕ) (total : Read (List (Tree × Tree))) → fuel ≡ 0 → open_pairs_at read fuel end acc rest ≡ total → total ≡ Err (Short end)
unfolding open_pairs_at
open_pairs_spent read fuel end acc rest total spent h = let one : open_pairs_at read fuel end acc rest ≡ Err (Short end) = rw spent refl in sym h ∙ one

pub open_pairs_end : (read : List ℕ → Read Tree) (fuel end : ℕ) (acc : List (Tree × Tree)) (rest behind : List ℕ) (first : ℕ) (total : Read (List (Tree × Tree))) → 0 < fuel → rest ≡ first ∷ behind → first ≡ break
    → open_pairs_at read fuel end acc rest ≡ total → total ≡ Ok (acc, behind)
unfolding open_pairs_at
open_pairs_end read fuel end acc rest behind first total some is ends h =
    let k : fuel ≡ suc (fuel - 1) = omega arith in
    let one : open_pairs_at read fuel end acc rest ≡ Ok (acc, behind) = rw (k, is, eq-eqb first break ends) refl in
    sym h ∙ one

open_pairs_next : (read : List ℕ → Read Tree) (fuel end : ℕ) (acc : List (Tree × Tree)) (rest behind : List ℕ) (first : ℕ) → 0 < fuel → rest ≡ first ∷ behind → (first ≡ break → ⊥)
    → open_pairs_at read fuel end acc rest ≡ (pair_at read end acc rest >>= λ more. open_pairs_at read (fuel - 1) end more.0 more.1)
unfolding open_pairs_at
open_pairs_next read fuel end acc rest behind first some is goes =
    let k : fuel ≡ suc (fuel - 1) = omega arith in
    ap (λ (n : ℕ). open_pairs_at read n end acc rest) k ∙ rw (is, ne_eqb first break goes) refl

pub open_pairs_fail : (e : CborFault) (read : List ℕ → Read Tree) (fuel end : ℕ) (acc : List (Tree × Tree)) (rest behind : List ℕ) (first : ℕ) (total : Read (List (Tree × Tree))) → 0 < fuel → rest ≡ first ∷ behind → (first ≡ break → ⊥)
    → Fails e (pair_at read end acc rest) → open_pairs_at read fuel end acc rest ≡ total → Fails e total
open_pairs_fail e read fuel end acc rest behind first total some is goes fails h =
    fails_then e (pair_at read end acc rest) total (λ f bad. sym h ∙ open_pairs_next read fuel end acc rest behind first some is goes ∙ rw bad refl) fails

pub open_pairs_go : (read : List ℕ → Read Tree) (fuel less end : ℕ) (acc more : List (Tree × Tree)) (rest behind after : List ℕ) (first : ℕ) (total : Read (List (Tree × Tree))) → fuel ≡ suc less → rest ≡ first ∷ behind → (first ≡ break → ⊥)
    → pair_at read end acc rest ≡ Ok (more, after) → open_pairs_at read fuel end acc rest ≡ total → open_pairs_at read less end more after ≡ total
open_pairs_go read fuel less end acc more rest behind after first total one is goes good h =
    let k : fuel - 1 ≡ less = omega arith in
    sym (open_pairs_next read fuel end acc rest behind first (omega arith) is goes ∙ rw (good, k) refl) ∙ h
