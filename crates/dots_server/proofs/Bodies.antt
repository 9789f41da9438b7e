-- The body of a grant is short.
use Rattle.std.proofs.Common.{◌≡◌, ℕ, ℤ, pos, negsuc, ◌≤◌, ◌^◌, nat_lt, Bool, true, false, cond, [], ◌∷◌, length, length-append, arith, refl}
use Rattle.std.proofs.lemmas.Bool.{false≢true}
use Rattle.std.specs.Int.{w16, w32, w64, to_be_bytes}
use Rattle.cbor_profile.specs.Head.{following, head}
use Rattle.cbor_profile.specs.Canon.{canon}
use Rattle.reply_bodies.specs.declared.reply.Reply.TheVariants as reply
use Rattle.reply_bodies.specs.Maps.{integer}
use Rattle.reply_bodies.specs.Replies.{reply_tree}

following_short : (n : ℕ) → length (following n) ≤ 8
unfolding following
following_short n = by_test (nat_lt n 24) (nat_lt n (2 ^ 8)) (nat_lt n (2 ^ 16)) (nat_lt n (2 ^ 32))
  where
    by_test : (a b c d : Bool) → length (cond a [] (cond b (n ∷ []) (cond c (to_be_bytes w16 n) (cond d (to_be_bytes w32 n) (to_be_bytes w64 n))))) ≤ 8
    by_test true b c d = omega arith
    by_test false true c d = omega arith
    by_test false false true d = omega arith
    by_test false false false true = omega arith
    by_test false false false false = omega arith

no_following : (n : ℕ) → nat_lt n 24 ≡ true → length (following n) ≡ 0
unfolding following
no_following n small = by_test (nat_lt n 24) small
  where
    by_test : (a : Bool) → a ≡ true
        → length (cond a [] (cond (nat_lt n (2 ^ 8)) (n ∷ []) (cond (nat_lt n (2 ^ 16)) (to_be_bytes w16 n) (cond (nat_lt n (2 ^ 32)) (to_be_bytes w32 n) (to_be_bytes w64 n))))) ≡ 0
    by_test true is = refl
    by_test false is = absurd (false≢true is)

head_short : (major n : ℕ) → length (head major n) ≤ 9
unfolding head
head_short major n = omega (arith, following_short n)

-- the head of a small number is one byte
head_one : (major n : ℕ) → nat_lt n 24 ≡ true → length (head major n) ≡ 1
unfolding head
head_one major n small = omega (arith, no_following n small)

integer_short : (lifetime : ℤ) → length (canon (integer lifetime)) ≤ 9
integer_short (pos n) = head_short 0 n
integer_short (negsuc n) = head_short 1 n

pub grant_short : (mid : ℕ) (lifetime : ℤ) → length (canon (reply_tree (reply.Granted mid lifetime))) ≤ 40
grant_short mid lifetime =
    simp length-append (
    omega (arith, head_one 5 1 refl, head_one 0 1 refl, head_one 0 2 refl, head_one 4 1 refl, head_one 5 2 refl, head_one 0 5 refl, head_one 0 14 refl, head_short 0 mid, integer_short lifetime)
    )
