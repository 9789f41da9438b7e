-- The items of arrays.
use Rattle.std.proofs.Common.{◌≡◌, ℕ, ◌+◌, ◌<◌, ◌≤◌, List, [], ◌∷◌, ◌++◌, map, length, take, drop, get_or, Option, Some, None, Result, Ok, Err, refl, sym, ap, ap₂, ◌∙◌, ok_or}
use Rattle.std.proofs.lemmas.List.{append_assoc, append-nil, map-append, take_more, drop_more, drop_all}
use Rattle.serde_json.specs.Data.{Data, Items}
use Rattle.serde_json.specs.View.{view, items_view}
use Rattle.serde_json.specs.declared.value.Value.{Value}
use Rattle.list_json.specs.declared.fault.Member.{Member}
use Rattle.list_json.specs.declared.fault.ListFault.{ListFault}
use Rattle.list_json.specs.declared.fault.ListFault.TheVariants as faults
use Rattle.list_json.specs.Steps.{◌>>=◌, Fails, each_item, few_items, items_in}

-- what is read of the items that are left, behind what was read of those before them
abbrev pub behind : {A : Type 0} → List A → Result (List A) ListFault → Result (List A) ListFault
behind done read = read >>= λ rest. Ok (done ++ rest)

regroup : {A : Type 0} (done : List A) (x : A) (read : Result (List A) ListFault) → behind done (read >>= λ rest. Ok (x ∷ rest)) ≡ behind (done ++ x ∷ []) read
regroup done x (Ok rest) = ap Ok (sym (append_assoc done (x ∷ []) rest))
regroup done x (Err fault) = refl

-- one item more is read
pub one_more : {A : Type 0} (read : Data → Result A ListFault) (items : List Value) (i : ℕ) (value : Value) (done : List A) (x : A) {all : Result (List A) ListFault} → i < length items → value ≡ get_or items i value → read (view value) ≡ Ok x
    → all ≡ behind done (each_item read (items_view (drop i items))) → all ≡ behind (done ++ x ∷ []) (each_item read (items_view (drop (i + 1) items)))
one_more read items i value done x few is one before =
    let rest = drop (i + 1) items in
    let cut : drop i items ≡ value ∷ rest = drop_more items i value few ∙ ap (λ v. v ∷ rest) (sym is) in
    let step : each_item read (items_view (drop i items)) ≡ (each_item read (items_view rest) >>= λ values. Ok (x ∷ values)) =
    ap (λ vs. each_item read (items_view vs)) cut ∙ ap (λ r. r >>= λ v. each_item read (items_view rest) >>= λ values. Ok (v ∷ values)) one in
    before ∙ ap (behind done) step ∙ regroup done x (each_item read (items_view rest))

-- one item more is written
pub one_written : {A B C : Type 0} (write : A → C) (seen : B → C) (xs : List A) (i : ℕ) (x : A) (ys : List B) (y : B) → i < length xs → x ≡ get_or xs i x → seen y ≡ write x
    → map seen ys ≡ map write (take i xs) → map seen (ys ++ y ∷ []) ≡ map write (take (i + 1) xs)
one_written write seen xs i x ys y few is one before =
    let cut : take (i + 1) xs ≡ take i xs ++ x ∷ [] = take_more xs i x few ∙ ap (λ z. take i xs ++ z ∷ []) (sym is) in
    map-append seen ys (y ∷ []) ∙ ap₂ (λ zs z. zs ++ z ∷ []) before one ∙ sym (ap (map write) cut ∙ map-append write (take i xs) (x ∷ []))

-- a member that is an array of few items is what its items are
pub few_read : {A : Type 0} (member : Member) (most : ℕ) (read : Data → Result A ListFault) (d : Data) (ds : Items) {found : Option Data} → Some d ≡ found → Some ds ≡ few_items most d
    → items_in member most read found ≡ each_item read ds
few_read member most read d ds is few = ap (items_in member most read) (sym is) ∙ ap (λ (o : Option Items). ok_or o (faults.Invalid member) >>= each_item read) (sym few)

-- one that is no such array is refused
pub not_read : {A : Type 0} (member : Member) (most : ℕ) (read : Data → Result A ListFault) (d : Data) {found : Option Data} → Some d ≡ found → None ≡ few_items most d
    → items_in member most read found ≡ Err (faults.Invalid member)
not_read member most read d is many = ap (items_in member most read) (sym is) ∙ ap (λ (o : Option Items). ok_or o (faults.Invalid member) >>= each_item read) (sym many)

-- no item is left to read
pub all_read : {A : Type 0} (read : Data → Result A ListFault) (items : List Value) (i : ℕ) (done : List A) {all : Result (List A) ListFault} → length items ≤ i
    → all ≡ behind done (each_item read (items_view (drop i items))) → all ≡ Ok done
all_read read items i done end before =
    before ∙ ap (λ xs. behind done (each_item read (items_view xs))) (drop_all i items end) ∙ ap Ok (append-nil done)

-- the fault of an item is the fault of them all
pub fault_read : {A : Type 0} (read : Data → Result A ListFault) (items : List Value) (i : ℕ) (value : Value) (done : List A) (fault : ListFault) {all : Result (List A) ListFault} → i < length items → value ≡ get_or items i value → read (view value) ≡ Err fault
    → all ≡ behind done (each_item read (items_view (drop i items))) → all ≡ Err fault
fault_read read items i value done fault few is one before =
    let rest = drop (i + 1) items in
    let cut : drop i items ≡ value ∷ rest = drop_more items i value few ∙ ap (λ v. v ∷ rest) (sym is) in
    before ∙ ap (λ vs. behind done (each_item read (items_view vs))) cut ∙ ap (λ r. behind done (r >>= λ v. each_item read (items_view rest) >>= λ values. Ok (v ∷ values))) one

-- what is read fails so, unless memory ran out
pub fails : {A : Type 0} (fault : ListFault) (read : Result A ListFault) → read ≡ Err fault → Fails fault read
fails (faults.Missing member) read is = is
fails (faults.Invalid member) read is = is
fails faults.Unknown read is = is
fails faults.NoMemory read is = tt

-- where reading an item fails, so does reading them all
pub fails_read : {A : Type 0} (read : Data → Result A ListFault) (items : List Value) (i : ℕ) (value : Value) (done : List A) (fault : ListFault) {all : Result (List A) ListFault} → i < length items → value ≡ get_or items i value → Fails fault (read (view value))
    → all ≡ behind done (each_item read (items_view (drop i items))) → Fails fault all
fails_read read items i value done (faults.Missing member) few is one before = fault_read read items i value done _ few is one before
fails_read read items i value done (faults.Invalid member) few is one before = fault_read read items i value done _ few is one before
fails_read read items i value done faults.Unknown few is one before = fault_read read items i value done _ few is one before
fails_read read items i value done faults.NoMemory few is one before = tt
