-- The order of encodings.
use Rattle.std.proofs.Common.{◌≡◌, true, false, [], refl}
use Rattle.std.specs.declared.cmp.Ordering.{Ordering}
use Rattle.std.specs.Ordering.{ordering_reverse}
use Rattle.std.specs.declared.cmp.Ordering.TheVariants.{Less, Equal, Greater}
use Rattle.std.proofs.lemmas.Cmp.{nat_list_cmp_total}
use Rattle.cbor_profile.specs.Tree.{Tree, unsigned, negative, byte_string, text, array, mapping, tag, boolean, null}
use Rattle.cbor_profile.specs.Head.{head}
use Rattle.cbor_profile.specs.Canon.{canon}
use Rattle.cbor_profile.specs.Valid.{IsBefore}
use Rattle.cbor_profile.specs.Keys.{key_order}

pub after_nothing : (t : Tree) → IsBefore [] (canon t)
unfolding head
after_nothing (unsigned n) = refl
after_nothing (negative n) = refl
after_nothing (byte_string bytes) = refl
after_nothing (text bytes) = refl
after_nothing (array ts) = refl
after_nothing (mapping ps) = refl
after_nothing (tag n t) = refl
after_nothing (boolean true) = refl
after_nothing (boolean false) = refl
after_nothing null = refl

-- ---- the order

pub order_then : (a b c : Tree) → key_order a b ≡ Less → key_order b c ≡ Less → key_order a c ≡ Less
order_then a b c = nat_list_cmp_total.trans (canon a) (canon b) (canon c)

pub order_flip : (a b : Tree) → key_order b a ≡ ordering_reverse (key_order a b)
order_flip a b = nat_list_cmp_total.antisymm (canon b) (canon a)

pub order_congr : (a b c : Tree) → key_order a b ≡ Equal → key_order a c ≡ key_order b c
order_congr a b c = nat_list_cmp_total.congr (canon a) (canon b) (canon c)

own_reverse : (o : Ordering) → o ≡ ordering_reverse o → o ≡ Equal
own_reverse Less e = absurd (cc)
own_reverse Equal e = refl
own_reverse Greater e = absurd (cc)

pub order_self : (a : Tree) → key_order a a ≡ Equal
order_self a = own_reverse (key_order a a) (order_flip a a)
