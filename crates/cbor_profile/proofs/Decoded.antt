-- What `decode` answers, from what reading all of the bytes gives.
use Rattle.std.proofs.Common.{◌≢◌, ℕ, List, Result, Ok, Err, refl, subst}
use Rattle.std.specs.Prelude.{IfOk, IfErr}
use Rattle.cbor_profile.specs.declared.fault.CborFault.{CborFault}
use Rattle.cbor_profile.specs.declared.fault.CborFault.TheVariants.{Short, Reserved, NotUtf8, Duplicate, Unsupported, Deep, Trailing, NoMemory}
use Rattle.cbor_profile.specs.declared.item.Item.{Item}
use Rattle.cbor_profile.specs.Tree.{Tree}
use Rattle.cbor_profile.specs.Valid.{IsValid}
use Rattle.cbor_profile.specs.ItemTrees.{tree_of}
use Rattle.cbor_profile.specs.Spelling.{Spells}
use Rattle.cbor_profile.specs.Breaking.{Refuses}
use Rattle.cbor_profile.specs.ItemReading.{Gives, whole}
use Rattle.cbor_profile.proofs.WholeReading.{whole_found, whole_again, whole_broken, whole_refused}
use Rattle.cbor_profile.proofs.Sound.{ShortBytes}

pub found_is : (bytes : List ℕ) (r : Result Item CborFault) → ShortBytes bytes → Gives tree_of r (whole bytes) → IfOk r (λ item. IsValid (tree_of item) × Spells bytes (tree_of item) 0)
found_is bytes (Ok item) h given = whole_found bytes (tree_of item) h given
found_is bytes (Err e) h given = tt

pub only_is : (bytes : List ℕ) (r : Result Item CborFault) (tree : Tree) → Spells bytes tree 0 → Gives tree_of r (whole bytes) → Gives tree_of r (Ok tree)
only_is bytes r tree spelled given = subst (λ (w : Result Tree CborFault). Gives tree_of r w) (whole_again bytes tree spelled) given

pub first_is : (bytes : List ℕ) (r : Result Item CborFault) (fault : CborFault) → ShortBytes bytes → Refuses bytes fault → Gives tree_of r (whole bytes) → Gives tree_of r (Err fault)
first_is bytes r fault h refuses given = subst (λ (w : Result Tree CborFault). Gives tree_of r w) (whole_refused bytes fault h refuses) given

pub fault_is : (bytes : List ℕ) (r : Result Item CborFault) → ShortBytes bytes → Gives tree_of r (whole bytes) → IfErr r (λ fault. fault ≢ NoMemory → Refuses bytes fault)
fault_is bytes (Ok item) h given = tt
fault_is bytes (Err (Short at)) h given = λ other. whole_broken bytes (Short at) h given
fault_is bytes (Err (Reserved at)) h given = λ other. whole_broken bytes (Reserved at) h given
fault_is bytes (Err (NotUtf8 at)) h given = λ other. whole_broken bytes (NotUtf8 at) h given
fault_is bytes (Err (Duplicate at)) h given = λ other. whole_broken bytes (Duplicate at) h given
fault_is bytes (Err (Unsupported at)) h given = λ other. whole_broken bytes (Unsupported at) h given
fault_is bytes (Err (Deep at)) h given = λ other. whole_broken bytes (Deep at) h given
fault_is bytes (Err (Trailing at)) h given = λ other. whole_broken bytes (Trailing at) h given
fault_is bytes (Err NoMemory) h given = λ other. absurd (other refl)
