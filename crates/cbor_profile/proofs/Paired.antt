-- The next pair of a map, read and put in its place.
use Rattle.std.proofs.Common.{◌≡◌, ℕ, ◌-◌, true, false, List, [], length, Result, Ok, Err, IfOk, refl, sym, ap, subst}
use Rattle.std.specs.Borrow.{Bor}
use Rattle.std.specs.List.{AllByRecursion}
use Rattle.cbor_profile.specs.declared.item.Item.{Item}
use Rattle.cbor_profile.specs.ItemReading.{item_read, Read, Fails, Gives, item_at, pair_at}
use Rattle.cbor_profile.specs.ItemTrees.{tree_of}
use Rattle.cbor_profile.specs.declared.fault.CborFault.{CborFault}
use Rattle.cbor_profile.specs.declared.fault.CborFault.TheVariants.{Duplicate}
use Rattle.cbor_profile.specs.Tree.{Tree, pairs_of}
use Rattle.cbor_profile.specs.Valid.{IsSound, KeysRise}
use Rattle.cbor_profile.specs.declared.gathering.Gathered.{Gathered}
use Rattle.cbor_profile.specs.Gathering.{gathered, IsGathered, HasEncodings}
use Rattle.cbor_profile.specs.Keys.{has_key, put}
use Rattle.cbor_profile.proofs.Loops.{fails_then}
use Rattle.cbor_profile.proofs.KeyOrder.{after_nothing}
use Rattle.cbor_profile.proofs.Ordered.{put_rises}
use Rattle.cbor_profile.proofs.Keys.{put_sound}
use Rattle.cbor_profile.proofs.Sound.{ShortBytes, short_front, within_sound}
use Rattle.cbor_profile.proofs.Spelled.{within_taken}

pub key_sound : (levels end : ℕ) (bytes after : List ℕ) (key : Tree) → ShortBytes bytes → item_at levels end bytes ≡ Ok (key, after) → IsSound key
key_sound levels end bytes after key h e =
    let t = within_taken levels end bytes (key, after) h.each e in
    (within_sound levels t.front key (short_front bytes t.front after h t.is) t.part).0

pub item_sound : (r : Result (Item × Bor (List ℕ)) CborFault) (levels end : ℕ) (bytes : List ℕ) → ShortBytes bytes → Gives item_read r (item_at levels end bytes) → IfOk r (λ read. IsSound (tree_of read.0))
item_sound (Ok x) levels end bytes h e = key_sound levels end bytes x.1.now (tree_of x.0) h e
item_sound (Err f) levels end bytes h e = tt

pub key_fails : (e : CborFault) (read : List ℕ → Read Tree) (end : ℕ) (pairs : List (Tree × Tree)) (bytes : List ℕ) → Fails e (read bytes) → Fails e (pair_at read end pairs bytes)
unfolding pair_at
key_fails e read end pairs bytes h = fails_then e (read bytes) (pair_at read end pairs bytes) (λ f bad. rw bad refl) h

pub key_again : (read : List ℕ → Read Tree) (end : ℕ) (pairs : List (Tree × Tree)) (bytes after : List ℕ) (key : Tree) → read bytes ≡ Ok (key, after) → has_key key pairs ≡ true → pair_at read end pairs bytes ≡ Err (Duplicate (end - length bytes))
unfolding pair_at
key_again read end pairs bytes after key e has = rw (e, has) refl

pub value_fails : (e : CborFault) (read : List ℕ → Read Tree) (end : ℕ) (pairs : List (Tree × Tree)) (bytes after : List ℕ) (key : Tree) → read bytes ≡ Ok (key, after) → has_key key pairs ≡ false → Fails e (read after)
    → Fails e (pair_at read end pairs bytes)
unfolding pair_at
value_fails e read end pairs bytes after key good fresh h = fails_then e (read after) (pair_at read end pairs bytes) (λ f bad. rw (good, fresh, bad) refl) h

pub pair_made : (read : List ℕ → Read Tree) (end : ℕ) (pairs new : List (Tree × Tree)) (bytes after rest : List ℕ) (key value : Tree) → read bytes ≡ Ok (key, after) → has_key key pairs ≡ false → read after ≡ Ok (value, rest)
    → new ≡ put key value pairs → pair_at read end pairs bytes ≡ Ok (new, rest)
unfolding pair_at
pair_made read end pairs new bytes after rest key value good fresh second is = rw (good, fresh, second) (ap (λ (l : List (Tree × Tree)). Ok (l, rest)) (sym is))

-- ---- one more pair

pub same_gathered : (old new : Gathered) → IsGathered old → gathered new ≡ gathered old → HasEncodings new → IsGathered new
same_gathered old new before same kept = record {
  kept = kept;
  rise = subst (λ (l : List (Tree × Tree)). KeysRise (pairs_of l)) (sym same) before.rise;
  sound = subst (AllByRecursion (λ p. IsSound p.0)) (sym same) before.sound;
}

pub put_gathered : (old new : Gathered) (key value : Tree) → IsGathered old → IsSound key → has_key key (gathered old) ≡ false → gathered new ≡ put key value (gathered old) → HasEncodings new → IsGathered new
put_gathered old new key value before sound fresh is kept = record {
  kept = kept;
  rise = subst (λ (l : List (Tree × Tree)). KeysRise (pairs_of l)) (sym is) (put_rises [] (gathered old) key value before.rise (after_nothing key) fresh);
  sound = subst (AllByRecursion (λ p. IsSound p.0)) (sym is) (put_sound (gathered old) key value before.sound sound);
}
