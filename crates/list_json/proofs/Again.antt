-- What is printed is read again.
use Rattle.std.proofs.Common.{◌≡◌, ℕ, List, [], ◌∷◌, map, Option, Some, None, option_and_then, Result, Ok, Err, Bool, true, false, refl, sym, ap, ◌∙◌, suc, subst, nat_le, nat_lt}
use Rattle.std.specs.Prelude.{ok_or, if◌then◌else◌}
use Rattle.std.specs.List.{AllByRecursion}
use Rattle.ip_scope.specs.Prefix.{PrefixValue, IsPrefix}
use Rattle.ip_scope.specs.PrefixText.{Reads, prefix_text}
use Rattle.ip_scope.specs.PrefixReader.{prefix_in}
use Rattle.ip_scope.proofs.PrefixReading.{reads_prefix}
use Rattle.ip_scope.proofs.PrefixTexts.{IsPrefixText-prefix_text, prefix_of-itself}
use Rattle.dots_lists.specs.Name.{is_name}
use Rattle.serde_json.specs.Data.{Data, Items, no_items, item, string, array}
use Rattle.serde_json.specs.Events.{items_len}
use Rattle.serde_json.specs.Find.{as_str, as_number, as_u64, as_array}
use Rattle.serde_json.specs.View.{items_of}
use Rattle.list_json.specs.declared.fault.Member.{Member}
use Rattle.list_json.specs.declared.fault.ListFault.{ListFault}
use Rattle.list_json.specs.declared.fault.ListFault.TheVariants as faults
use Rattle.list_json.specs.Steps.{◌>>=◌, each_item, items_in, at_most, few_items}
use Rattle.list_json.specs.Values.{name_in, name_of, prefix_of, below, number_below}
use Rattle.list_json.specs.AliasPrinting.{number_data, prefix_data}

-- a step that went well, and the one behind it
pub bound_ok : {A B : Type 0} (read : Result A ListFault) (next : A → Result B ListFault) (b : B) → (read >>= next) ≡ Ok b → (a : A) × (read ≡ Ok a) × (next a ≡ Ok b)
bound_ok (Ok a) next b is = (a, refl, is)
bound_ok (Err e) next b is = absurd (cc)

-- a value that was read is one
pub ok_same : {A : Type 0} (a b : A) → ◌≡◌ {A = Result A ListFault} (Ok a) (Ok b) → a ≡ b
ok_same {A} a b is = ap (λ (r : Result A ListFault). elim r [ Ok x ↦ x | Err e ↦ a ]) is

-- ---- values

name_checked : (m : Member) (text name : List ℕ) (test : Bool) → is_name text ≡ test → ok_or (if test then Some text else None) (faults.Invalid m) ≡ Ok name → is_name name ≡ true
name_checked m text name true good is = subst (λ (t : List ℕ). is_name t ≡ true) (ok_same text name is) good
name_checked m text name false bad is = absurd (cc)

name_text : (m : Member) (name : List ℕ) (o : Option (List ℕ)) → ok_or (option_and_then name_in o) (faults.Invalid m) ≡ Ok name → is_name name ≡ true
name_text m name None is = absurd (cc)
name_text m name (Some text) is = name_checked m text name (is_name text) refl is

-- a name that was read is one, and is read again
pub name_bound : (m : Member) (d : Data) (name : List ℕ) → name_of m d ≡ Ok name → is_name name ≡ true
name_bound m d name is = name_text m name (as_str d) is

pub name_again : (m : Member) (name : List ℕ) → is_name name ≡ true → name_of m (string name) ≡ Ok name
name_again m name good = rw good refl

number_checked : (bound k n : ℕ) (m : Member) (test : Bool) → nat_lt k bound ≡ test → ok_or (if test then Some k else None) (faults.Invalid m) ≡ Ok n → nat_lt n bound ≡ true
number_checked bound k n m true good is = subst (λ (t : ℕ). nat_lt t bound ≡ true) (ok_same k n is) good
number_checked bound k n m false bad is = absurd (cc)

number_some : (bound n : ℕ) (m : Member) (o : Option ℕ) → ok_or (option_and_then (below bound) o) (faults.Invalid m) ≡ Ok n → nat_lt n bound ≡ true
number_some bound n m None is = absurd (cc)
number_some bound n m (Some k) is = number_checked bound k n m (nat_lt k bound) refl is

-- a number that was read is below its bound, and is read again
pub number_bound : (bound : ℕ) (m : Member) (d : Data) (n : ℕ) → number_below bound m d ≡ Ok n → nat_lt n bound ≡ true
number_bound bound m d n is = number_some bound n m (option_and_then as_u64 (as_number d)) is

pub number_again : (bound : ℕ) (m : Member) (n : ℕ) → nat_lt n bound ≡ true → number_below bound m (number_data n) ≡ Ok n
number_again bound m n small = rw small refl

pub prefix_text_again : (p : PrefixValue) → IsPrefix p → prefix_in (prefix_text p) ≡ Some p
prefix_text_again p valid =
    let reads : Reads (prefix_text p) p = record { number = p.number; spelled = IsPrefixText-prefix_text p valid; within = valid.length; cleared = sym (prefix_of-itself p valid) } in
    reads_prefix (prefix_text p) p reads

pub prefix_again : (m : Member) (p : PrefixValue) → IsPrefix p → prefix_of m (prefix_data p) ≡ Ok p
prefix_again m p valid = rw (prefix_text_again p valid) refl

-- ---- arrays

pub each_again : {A : Type 0} (P : A → Type 0) (read : Data → Result A ListFault) (write : A → Data)
    → ((d : Data) (x : A) → P x → read d ≡ Ok x → read (write x) ≡ Ok x)
    → (ds : Items) (xs : List A) → AllByRecursion P xs → each_item read ds ≡ Ok xs
    → (each_item read (items_of (map write xs)) ≡ Ok xs) × (items_len (items_of (map write xs)) ≡ items_len ds)
each_again P read write again no_items [] all is = (refl, refl)
each_again P read write again no_items (x ∷ xs) all is = absurd (cc)
each_again {A} P read write again (item d ds) [] all is =
    let first = bound_ok (read d) (λ value. each_item read ds >>= λ values. Ok (value ∷ values)) [] is in
    let later = bound_ok (each_item read ds) (λ values. Ok (first.0 ∷ values)) [] first.2 in
    let none = ok_same (first.0 ∷ later.0) [] later.2 in
    absurd (cc)
each_again {A} P read write again (item d ds) (x ∷ xs) all is =
    let first = bound_ok (read d) (λ value. each_item read ds >>= λ values. Ok (value ∷ values)) (x ∷ xs) is in
    let later = bound_ok (each_item read ds) (λ values. Ok (first.0 ∷ values)) (x ∷ xs) first.2 in
    let same = ok_same (first.0 ∷ later.0) (x ∷ xs) later.2 in
    let heads : first.0 ≡ x = ap (λ (ys : List A). elim ys [ [] ↦ x | y ∷ ys ↦ y ]) same in
    let tails : later.0 ≡ xs = ap (λ (ys : List A). elim ys [ [] ↦ xs | y ∷ ys ↦ ys ]) same in
    let one = again d x all.0 (first.1 ∙ ap Ok heads) in
    let others = each_again P read write again ds xs all.1 (later.1 ∙ ap Ok tails) in
    (rw (one, others.0) refl, ap suc others.1)

-- what an array of a member is printed as
abbrev pub printed_items : {A : Type 0} → (A → Data) → List A → Option Data
printed_items write [] = None
printed_items write (x ∷ xs) = Some (array (items_of (map write (x ∷ xs))))

few_checked : (most : ℕ) (m : Member) (found ds : Items) (test : Bool) → nat_le (items_len found) most ≡ test → ok_or (if test then Some found else None) (faults.Invalid m) ≡ Ok ds → nat_le (items_len ds) most ≡ true
few_checked most m found ds true few is = let same = ok_same found ds is in subst (λ (items : Items). nat_le (items_len items) most ≡ true) same few
few_checked most m found ds false many is = absurd (cc)

pub few_bound : (most : ℕ) (m : Member) (o : Option Items) (ds : Items) → ok_or (option_and_then (at_most most) o) (faults.Invalid m) ≡ Ok ds → nat_le (items_len ds) most ≡ true
few_bound most m None ds is = absurd (cc)
few_bound most m (Some found) ds is = few_checked most m found ds (nat_le (items_len found) most) refl is

pub items_again : {A : Type 0} (P : A → Type 0) (m : Member) (most : ℕ) (read : Data → Result A ListFault) (write : A → Data)
    → ((d : Data) (x : A) → P x → read d ≡ Ok x → read (write x) ≡ Ok x)
    → (o : Option Data) (xs : List A) → AllByRecursion P xs → items_in m most read o ≡ Ok xs → items_in m most read (printed_items write xs) ≡ Ok xs
items_again P m most read write again o [] all is = refl
items_again P m most read write again None (x ∷ xs) all is = absurd (cc)
items_again P m most read write again (Some d) (x ∷ xs) all is =
    let step = bound_ok (ok_or (few_items most d) (faults.Invalid m)) (each_item read) (x ∷ xs) is in
    let each = each_again P read write again step.0 (x ∷ xs) all step.2 in
    let few = few_bound most m (as_array d) step.0 step.1 in
    rw (each.1, few) each.0
