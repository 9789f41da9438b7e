-- Pairs whose keys rise, read one after the other.
use Rattle.std.proofs.Common.{◌≡◌, ℕ, suc, ◌-◌, ◌^◌, ◌<◌, true, List, [], ◌∷◌, ◌++◌, length, Ok, Err, sym, ◌∙◌, subst}
use Rattle.std.specs.List.{AllByRecursion}
use Rattle.cbor_profile.specs.declared.fault.CborFault.{CborFault}
use Rattle.cbor_profile.specs.declared.fault.CborFault.TheVariants.{Duplicate}
use Rattle.cbor_profile.specs.Tree.{Tree, pairs_of}
use Rattle.cbor_profile.specs.Valid.{IsSound, KeysRise}
use Rattle.cbor_profile.specs.declared.item.Item.{Unsigned}
use Rattle.cbor_profile.specs.ItemTrees.{tree_of}
use Rattle.cbor_profile.specs.Gathering.{AllBefore}
use Rattle.cbor_profile.specs.Keys.{has_key}
use Rattle.cbor_profile.specs.ItemReading.{Read, Fails, pairs_at}
use Rattle.cbor_profile.proofs.AtEncodings.{behind_fresh, behind_put}
use Rattle.cbor_profile.proofs.Keys.{put_sound}
use Rattle.cbor_profile.proofs.Loops.{pairs_fail, pairs_go}
use Rattle.cbor_profile.proofs.KeyOrder.{after_nothing}
use Rattle.cbor_profile.proofs.Ordered.{put_rises}
use Rattle.cbor_profile.proofs.ItemTrees.{tree_of-Unsigned}
use Rattle.cbor_profile.proofs.Paired.{key_fails, key_again, value_fails, pair_made}

pub number_sound : (number : ℕ) → number < 2 ^ 64 → IsSound (tree_of (Unsigned number))
number_sound number below = subst IsSound (sym (tree_of-Unsigned number)) below

module _ (read : List ℕ → Read Tree) (end n : ℕ) (acc : List (Tree × Tree)) (rest : List ℕ) (total : Read (List (Tree × Tree))) (h : pairs_at read end n acc rest ≡ total) where
  pub next_key_fails : (e : CborFault) → 0 < n → Fails e (read rest) → Fails e total
  next_key_fails e some fails = pairs_fail e read end n acc rest total some (key_fails e read end acc rest fails) h

  pub next_again : (after : List ℕ) (key : Tree) → 0 < n → read rest ≡ Ok (key, after) → has_key key acc ≡ true → total ≡ Err (Duplicate (end - length rest))
  next_again after key some good has = pairs_fail (Duplicate (end - length rest)) read end n acc rest total some (key_again read end acc rest after key good has) h

  pub next_value_fails : (e : CborFault) (after : List ℕ) (key : Tree) → 0 < n → read rest ≡ Ok (key, after) → AllBefore key acc → Fails e (read after) → Fails e total
  next_value_fails e after key some good before fails = pairs_fail e read end n acc rest total some (value_fails e read end acc rest after key good (behind_fresh key acc before) fails) h

  pub next_pair : (less : ℕ) (new : List (Tree × Tree)) (after behind : List ℕ) (key value : Tree) → n ≡ suc less → read rest ≡ Ok (key, after) → AllBefore key acc → read after ≡ Ok (value, behind) → new ≡ acc ++ (key, value) ∷ []
      → pairs_at read end less new behind ≡ total
  next_pair less new after behind key value one good before second is =
      pairs_go read end n less acc new rest behind total one (pair_made read end acc new rest after behind key value good (behind_fresh key acc before) second (is ∙ sym (behind_put key value acc before))) h

module _ (acc new : List (Tree × Tree)) (key value : Tree) (before : AllBefore key acc) (is : new ≡ acc ++ (key, value) ∷ []) where
  pub next_rises : KeysRise (pairs_of acc) → KeysRise (pairs_of new)
  next_rises rise = subst (λ (l : List (Tree × Tree)). KeysRise (pairs_of l)) (behind_put key value acc before ∙ sym is) (put_rises [] acc key value rise (after_nothing key) (behind_fresh key acc before))

  pub next_sound : AllByRecursion (λ p. IsSound p.0) acc → IsSound key → AllByRecursion (λ p. IsSound p.0) new
  next_sound sound key_sound = subst (AllByRecursion (λ p. IsSound p.0)) (behind_put key value acc before ∙ sym is) (put_sound acc key value sound key_sound)
