-- A member of another name is passed over.
use Rattle.std.proofs.Common.{◌≡◌, ℕ, List, Option, Some, None, Ordering, Less, Equal, Greater, nat_cmp, is_eq, Bool, true, false, bytes_eq, ◌&&◌, ◌||◌, codes, true≢false, refl, sym, ap, ◌∙◌}
use Rattle.std.proofs.lemmas.Map.Text.{is_eq-slice_cmp}
use Rattle.std.proofs.lemmas.Slice.Eq.{bytes_eq-Decides}
use Rattle.std.specs.Cmp.Lexicographic.{slice_cmp}
use Rattle.std.specs.Borrow.{Bor}
use Rattle.std.specs.Option.{option_or}
use Rattle.std.specs.Ordering.{match_ordering}
use Rattle.serde_json.specs.Data.{Data, Members, member}
use Rattle.serde_json.specs.Find.{get, get_member, as_object}
use Rattle.serde_json.specs.Data.{null, boolean, number, string, array, object}
use Rattle.serde_json.specs.View.{view}
use Rattle.serde_json.specs.declared.value.Value.{Value}
use Rattle.list_json.specs.declared.shape.Shape.TheVariants as shape
use Rattle.list_json.specs.Found.{or_found}
use Rattle.list_json.specs.Shapes.{may_have}

either : (o : Ordering) (a b : Option Data) → is_eq o ≡ false → match_ordering o a b a ≡ a
either Less a b e = refl
either Equal a b e = absurd (true≢false e)
either Greater a b e = refl

differ : (xs ys : List ℕ) (b : Bool) → bytes_eq xs ys ≡ b → (ys ≡ xs → ⊥) → b ≡ false
differ xs ys true e other = absurd (other (sym ((bytes_eq-Decides xs ys).0 e)))
differ xs ys false e other = refl

unlike : (xs ys : List ℕ) → (xs ≡ ys → ⊥) → bytes_eq xs ys ≡ false
unlike xs ys other = differ xs ys _ refl (λ e. other (sym e))

pub skips : (name other : List ℕ) (d : Data) (ms : Members) → (other ≡ name → ⊥) → get_member name (member other d ms) ≡ get_member name ms
skips name other d ms apart = either (slice_cmp nat_cmp name other) _ _ (is_eq-slice_cmp name other ∙ differ name other _ refl apart)

-- a member whose name is another word is passed over
pub or_other : (name word : List ℕ) (old : Option (Bor Value)) (d : Data) (ms : Members) {other : List ℕ} → other ≡ word → bytes_eq name word ≡ false
    → or_found old (get_member name (member other d ms)) ≡ or_found old (get_member name ms)
or_other name word old d ms is apart =
    ap (or_found old) (ap (λ (y : List ℕ). get_member name (member y d ms)) is ∙ either (slice_cmp nat_cmp name word) _ _ (is_eq-slice_cmp name word ∙ apart))

taken : (name : List ℕ) (old : Option (Bor Value)) (value : Bor Value) (ms : Members) → get_member name (member name (view value.now) ms) ≡ Some (view value.now)
    → or_found old (get_member name (member name (view value.now) ms)) ≡ or_found (option_or old (Some value)) (get_member name ms)
taken name None value ms one = one
taken name (Some before) value ms one = refl

-- a member of this name is the first one where none was found before
pub or_first : (name : List ℕ) (old : Option (Bor Value)) (value : Bor Value) (ms : Members) {other : List ℕ} {new : Option (Bor Value)} → other ≡ name
    → get_member name (member name (view value.now) ms) ≡ Some (view value.now) → new ≡ option_or old (Some value)
    → or_found old (get_member name (member other (view value.now) ms)) ≡ or_found new (get_member name ms)
or_first name old value ms is one so =
    ap (λ (y : List ℕ). or_found old (get_member name (member y (view value.now) ms))) is ∙ taken name old value ms one ∙ ap (λ (y : Option (Bor Value)). or_found y (get_member name ms)) (sym so)

both : (b : Bool) → b ≡ (b && true)
both true = refl
both false = refl

-- a member that an alias may have leaves what was known
pub known_still : (b : Bool) (word : List ℕ) {name : List ℕ} → name ≡ word → may_have shape.Alias word ≡ true → b ≡ (b && may_have shape.Alias name)
known_still b word is may = both b ∙ sym (ap (λ (y : Bool). b && y) (ap (may_have shape.Alias) is ∙ may))

neither : (b : Bool) → false ≡ (b && false)
neither true = refl
neither false = refl

none_of : {a b c d e : Bool} → a ≡ false → b ≡ false → c ≡ false → d ≡ false → e ≡ false → (a || b || c || d || e) ≡ false
none_of p q r s t = rw (p, q, r, s, t)

-- one that it can't have is unknown
pub unknown : (b : Bool) (name : List ℕ) → (name ≡ codes "name" → ⊥) → (name ≡ codes "target-prefix" → ⊥) → (name ≡ codes "target-port-range" → ⊥)
    → (name ≡ codes "target-protocol" → ⊥) → (name ≡ codes "target-fqdn" → ⊥) → false ≡ (b && may_have shape.Alias name)
unknown b name p q r s t =
    neither b ∙ sym (ap (λ (y : Bool). b && y) (none_of (unlike name _ p) (unlike name _ q) (unlike name _ r) (unlike name _ s) (unlike name _ t)))

-- what is found in an object is found among its members
pub get-as_object : (name : List ℕ) (d : Data) (ms : Members) → as_object d ≡ Some ms → get name d ≡ get_member name ms
get-as_object name null ms is = absurd (cc)
get-as_object name (boolean b) ms is = absurd (cc)
get-as_object name (number n) ms is = absurd (cc)
get-as_object name (string s) ms is = absurd (cc)
get-as_object name (array ds) ms is = absurd (cc)
get-as_object name (object found) ms is = let same : found ≡ ms = cc in ap (get_member name) same
