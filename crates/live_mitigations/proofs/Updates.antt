-- What a change at one place leaves.
use Rattle.std.proofs.Common.{◌≡◌, ℕ, ◌<◌, ◌+◌, ◌≢◌, zero, suc, List, [], ◌∷◌, ◌++◌, length, get_or, set, Option, Some, None, inl, inr, subst, refl, sym, ap, ◌∙◌, arith}
use Rattle.std.specs.Prelude.{slice_get, option_map, is_some, if◌then◌else◌}
use Rattle.std.proofs.lemmas.List.{length-append}
use Rattle.std.proofs.lemmas.Option.{none-some, slice_get_past}
use Rattle.std.proofs.lemmas.Bool.{cases_eq}
use Rattle.dots_history.specs.Histories.{Mitigation}
use Rattle.lifetime_clock.specs.Times.{Times, Updates, IsMap, time_of, count}
use Rattle.live_mitigations.specs.Ends.{first_end}
use Rattle.live_mitigations.specs.Rows.{LiveTable, AreEmpty, Tied, update, rows_or_none, rows_at, count_rows, due_of}

pub get_updated : {A : Type 0} → (f : A → A) (place : ℕ) (xs : List A) → slice_get (update f place xs) place ≡ option_map f (slice_get xs place)
get_updated f place [] = refl
get_updated f zero (x ∷ xs) = refl
get_updated f (suc place) (x ∷ xs) = get_updated f place xs

pub get_other : {A : Type 0} → (f : A → A) (place other : ℕ) (xs : List A) → other ≢ place → slice_get (update f place xs) other ≡ slice_get xs other
get_other f place other [] apart = refl
get_other f zero zero (x ∷ xs) apart = absurd (apart refl)
get_other f zero (suc other) (x ∷ xs) apart = refl
get_other f (suc place) zero (x ∷ xs) apart = refl
get_other f (suc place) (suc other) (x ∷ xs) apart = get_other f place other xs (λ same. apart (ap suc same))

pub length_updated : {A : Type 0} → (f : A → A) (place : ℕ) (xs : List A) → length (update f place xs) ≡ length xs
length_updated f place [] = refl
length_updated f zero (x ∷ xs) = refl
length_updated f (suc place) (x ∷ xs) = ap suc (length_updated f place xs)

set_at : {A : Type 0} → (f : A → A) (place : ℕ) (xs : List A) (x : A) → x ≡ get_or xs place x → set xs place (f x) ≡ update f place xs
set_at f place [] x there = refl
set_at f zero (y ∷ xs) x there = ap (λ z. f z ∷ xs) there
set_at f (suc place) (y ∷ xs) x there = ap (λ zs. y ∷ zs) (set_at f place xs x there)

-- a write of what was changed at a place
pub set_changed : {A : Type 0} → (f : A → A) (place domain : ℕ) (xs ys : List A) (x y : A) → place ≡ domain → xs ≡ ys → x ≡ get_or xs place x → y ≡ f x
    → set xs place y ≡ update f domain ys
set_changed f place domain xs ys x y same is there made =
    ap (set xs place) made ∙ set_at f place xs x there ∙ ap (λ p. update f p xs) same ∙ ap (update f domain) is

-- the room of each is as it was
pub room_updated : (f : LiveTable → LiveTable) (domain : ℕ) (tables : List LiveTable) (room : ℕ) → ((table : LiveTable) → (f table).room ≡ table.room)
    → ((place : ℕ) (table : LiveTable) → slice_get tables place ≡ Some table → table.room ≡ room)
    → (place : ℕ) (table : LiveTable) → slice_get (update f domain tables) place ≡ Some table → table.room ≡ room
room_updated f domain tables room keeps all place table there =
    elim (cases_eq place domain) [
      | inl same ↦ changed_at (slice_get tables domain) refl (sym (get_updated f domain tables) ∙ ap (slice_get (update f domain tables)) (sym same) ∙ there)
      | inr apart ↦ all place table (sym (get_other f domain place tables apart) ∙ there)
    ]
  where
    changed_at : (o : Option LiveTable) → slice_get tables domain ≡ o → option_map f o ≡ Some table → table.room ≡ room
    changed_at None is made = absurd (none-some table made)
    changed_at (Some t) is made = let one : f t ≡ table = cc in ap (λ (x : LiveTable). x.room) (sym one) ∙ keeps t ∙ all domain t is

-- the rows of the domains
pub rows_updated : (f : LiveTable → LiveTable) (domain : ℕ) (tables : List LiveTable) (table : LiveTable) → slice_get tables domain ≡ Some table
    → rows_at domain (update f domain tables) ≡ (f table).rows
rows_updated f domain tables table there = ap rows_or_none (get_updated f domain tables ∙ ap (option_map f) there)

pub rows_other : (f : LiveTable → LiveTable) (domain other : ℕ) (tables : List LiveTable) → other ≢ domain
    → rows_at other (update f domain tables) ≡ rows_at other tables
rows_other f domain other tables apart = ap rows_or_none (get_other f domain other tables apart)

pub fewer_rows : (f : LiveTable → LiveTable) (domain : ℕ) (tables : List LiveTable) (table : LiveTable) → slice_get tables domain ≡ Some table
    → length (f table).rows < length table.rows → count_rows (update f domain tables) < count_rows tables
fewer_rows f domain [] table there less = absurd (none-some table there)
fewer_rows f zero (t ∷ tables) table there less =
    let same : t ≡ table = cc in
    let here : length (f t).rows < length t.rows = subst (λ x. length (f x).rows < length x.rows) (sym same) less in
    omega (arith, here)
fewer_rows f (suc domain) (t ∷ tables) table there less = let go = fewer_rows f domain tables table there less in omega (arith, go)

-- a table stands at each place within
pub there_within : {A : Type 0} → (xs : List A) (place : ℕ) → place < length xs → (x : A) × (slice_get xs place ≡ Some x)
there_within [] place less = absurd (omega (arith, less))
there_within (x ∷ xs) zero less = (x, refl)
there_within (x ∷ xs) (suc place) less = there_within xs place (omega (arith, less))

pub rows_changed : (f : LiveTable → LiveTable) (g : List Mitigation → List Mitigation) (domain : ℕ) (tables : List LiveTable) → domain < length tables
    → ((table : LiveTable) → (f table).rows ≡ g table.rows) → rows_at domain (update f domain tables) ≡ g (rows_at domain tables)
rows_changed f g domain tables within is =
    let there = there_within tables domain within in
    rows_updated f domain tables there.0 there.1 ∙ is there.0 ∙ ap g (sym (ap rows_or_none there.1))

-- ---- one more
get_pushed : {A : Type 0} → (xs : List A) (x : A) (place : ℕ) → place ≡ length xs → slice_get (xs ++ x ∷ []) place ≡ Some x
get_pushed [] x zero at = refl
get_pushed [] x (suc place) at = absurd (omega (arith, at))
get_pushed (y ∷ ys) x zero at = absurd (omega (arith, at))
get_pushed (y ∷ ys) x (suc place) at = get_pushed ys x place (omega (arith, at))

get_before : {A : Type 0} → (xs : List A) (x : A) (place : ℕ) → place ≢ length xs → slice_get (xs ++ x ∷ []) place ≡ slice_get xs place
get_before [] x zero apart = absurd (apart refl)
get_before [] x (suc place) apart = refl
get_before (y ∷ ys) x zero apart = refl
get_before (y ∷ ys) x (suc place) apart = get_before ys x place (λ same. apart (omega (arith, same)))

pub empty_more : (number room : ℕ) (tables more : List LiveTable) (table : LiveTable) → AreEmpty number room tables → table ≡ record { room = room; rows = []; slots = [] }
    → more ≡ tables ++ table ∷ [] → AreEmpty (number + 1) room more
empty_more number room tables more table are is pushed = record {
  counted = ap length pushed ∙ length-append tables (table ∷ []) ∙ ap (λ n. n + 1) are.counted;
  each = λ domain other there.
      let now : slice_get (tables ++ table ∷ []) domain ≡ Some other = ap (λ ts. slice_get ts domain) (sym pushed) ∙ there in
      elim (cases_eq domain (length tables)) [
        | inl same ↦ let one : table ≡ other = some_same (sym (get_pushed tables table domain same) ∙ now) in sym one ∙ is
        | inr apart ↦ are.each domain other (sym (get_before tables table domain apart) ∙ now)
      ];
}
  where
    some_same : {a b : LiveTable} → Some a ≡ Some b → a ≡ b
    some_same e = cc

-- ---- deadlines

-- a table changed at a domain, and the deadline of what it then is
pub retied : (f : LiveTable → LiveTable) (times later : Times) (tables : List LiveTable) (domain at : ℕ) (table : LiveTable) → slice_get tables domain ≡ Some table
    → ((other : ℕ) → other ≢ domain → time_of times other ≡ option_map due_of (slice_get tables other))
    → Updates times later domain (Some at) → IsMap later → at ≡ first_end (f table).rows → Tied later (update f domain tables)
retied f times later tables domain at table there ties updates map is = record {
  is_map = map;
  ties = λ other. elim (cases_eq other domain) [
    | inl same ↦
        ap (time_of later) same
        ∙ updates.changed
        ∙ ap Some is
        ∙ sym (ap (option_map due_of) (ap (slice_get (update f domain tables)) same ∙ get_updated f domain tables ∙ ap (option_map f) there))
    | inr apart ↦ updates.others other apart ∙ ties other apart ∙ sym (ap (option_map due_of) (get_other f domain other tables apart))
  ];
}

-- one more table, with its deadline
pub tied_more : (times later : Times) (tables more : List LiveTable) (domain at : ℕ) (table : LiveTable) → Tied times tables → domain ≡ length tables
    → Updates times later domain (Some at) → IsMap later → at ≡ first_end table.rows → more ≡ tables ++ table ∷ [] → Tied later more
tied_more times later tables more domain at table tied place updates map is pushed = record {
  is_map = map;
  ties = λ other.
      ap (λ o. o) (elim (cases_eq other domain) [
        | inl same ↦
            ap (time_of later) same
            ∙ updates.changed
            ∙ ap Some is
            ∙ sym (ap (option_map due_of) (get_pushed tables table other (same ∙ place)))
        | inr apart ↦
            updates.others other apart
            ∙ tied.ties other
            ∙ sym (ap (option_map due_of) (get_before tables table other (λ at_end. apart (at_end ∙ sym place))))
      ])
      ∙ ap (λ ts. option_map due_of (slice_get ts other)) (sym pushed);
}

pub counted_more : (times later : Times) (tables : List LiveTable) (domain at : ℕ) → Tied times tables → domain ≡ length tables → Updates times later domain (Some at)
    → count later ≡ count times + 1
counted_more times later tables domain at tied place updates =
    let none : time_of times domain ≡ None = tied.ties domain ∙ ap (option_map due_of) (slice_get_past tables domain (omega (arith, place))) in
    let nought : ℕ = 0 in
    let zero_more : (if is_some (time_of times domain) then 1 else 0) ≡ nought = ap (λ o. if is_some o then 1 else 0) none in
    omega (arith, updates.counted, zero_more)
