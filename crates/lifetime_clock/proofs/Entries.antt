-- Look-ups in a list of keys with their times, also after an entry was taken out.
use Rattle.std.proofs.Common.{◌≡◌, ◌≢◌, ℕ, ◌<◌, ◌≤◌, ◌==◌, if◌then◌else◌, List, [], ◌∷◌, length, get_or, Option, Some, None, IsSome, zero, suc, rules, refl, sym, subst, ◌∙◌, ap, arith, inl, inr}
use Rattle.std.specs.List.{remove}
use Rattle.std.proofs.lemmas.List.Edits.{length-remove}
use Rattle.std.proofs.lemmas.Bool.{cases_eq, eq-eqb, ne_eqb}
use Rattle.lifetime_clock.specs.Times.{Times, look_up, KeysDiffer, HasRoomFor, NothingIsDue, IsNextDue}

some_is_not_none : (time : ℕ) → Some time ≢ None
some_is_not_none time is = cc

pub some_injective : (a b : ℕ) → Some a ≡ Some b → a ≡ b
some_injective a b is = cc

pub at_its_key : (entry : ℕ × ℕ) (es : List (ℕ × ℕ)) (key : ℕ) → entry.0 ≡ key → look_up (entry ∷ es) key ≡ Some entry.1
at_its_key entry es key is = rw (eq-eqb _ _ is) refl

pub at_another : (entry : ℕ × ℕ) (es : List (ℕ × ℕ)) (key : ℕ) → entry.0 ≢ key → look_up (entry ∷ es) key ≡ look_up es key
at_another entry es key is_not = rw (ne_eqb _ _ is_not) refl

-- a step of a look-up, at equal look-ups in what follows
pub behind : (entry : ℕ × ℕ) (es out : List (ℕ × ℕ)) (key : ℕ) → look_up es key ≡ look_up out key → look_up (entry ∷ es) key ≡ look_up (entry ∷ out) key
behind entry es out key same = ap (λ time. if entry.0 == key then Some entry.1 else time) same

apart : (entry : ℕ × ℕ) (es : List (ℕ × ℕ)) (key time : ℕ) → look_up es entry.0 ≡ None → look_up es key ≡ Some time → entry.0 ≢ key
apart entry es key time absent found = λ same. some_is_not_none time (sym found ∙ ap (look_up es) (sym same) ∙ absent)

pub look_up-at : (es : List (ℕ × ℕ)) (i : ℕ) → KeysDiffer es → i < length es → look_up es (get_or es i (0, 0)).0 ≡ Some (get_or es i (0, 0)).1
look_up-at [] i differ within = absurd (omega arith)
look_up-at (entry ∷ es) zero differ within = at_its_key entry es _ refl
look_up-at (entry ∷ es) (suc i) differ within =
    let later = look_up-at es i differ.1 (omega arith) in
    at_another entry es _ (apart entry es _ _ differ.0 later) ∙ later

pub look_up-key : (es : List (ℕ × ℕ)) (i key : ℕ) → KeysDiffer es → i < length es → (get_or es i (0, 0)).0 ≡ key → look_up es key ≡ Some (get_or es i (0, 0)).1
look_up-key es i key differ within is = ap (look_up es) (sym is) ∙ look_up-at es i differ within

-- the first key isn't one of the later ones
first_differs : (entry : ℕ × ℕ) (es : List (ℕ × ℕ)) (i key : ℕ) → KeysDiffer (entry ∷ es) → i < length es → (get_or es i (0, 0)).0 ≡ key → entry.0 ≢ key
first_differs entry es i key differ within is = apart entry es key _ differ.0 (look_up-key es i key differ.1 within is)

-- where a key stands with its time
pub record IsThereWith (es : List (ℕ × ℕ)) (key time : ℕ) : Type 0 where
  pub place : ℕ
  pub within : place < length es
  pub key_is : (get_or es place (0, 0)).0 ≡ key
  pub time_is : (get_or es place (0, 0)).1 ≡ time

pub look_up-found : (es : List (ℕ × ℕ)) (key time : ℕ) → look_up es key ≡ Some time → IsThereWith es key time
look_up-found [] key time found = absurd (some_is_not_none time (sym found))
look_up-found (entry ∷ es) key time found =
    elim (cases_eq entry.0 key) [
      | inl is ↦ record { place = 0; within = omega arith; key_is = is; time_is = some_injective _ _ (sym (at_its_key entry es key is) ∙ found) }
      | inr is_not ↦
          let later = look_up-found es key time (sym (at_another entry es key is_not) ∙ found) in
          record { place = suc later.place; within = omega (arith, later.within); key_is = later.key_is; time_is = later.time_is }
    ]

-- ---- an entry taken out

remove-others : (es : List (ℕ × ℕ)) (i key other : ℕ) → i < length es → (get_or es i (0, 0)).0 ≡ key → other ≢ key → look_up (remove es i) other ≡ look_up es other
remove-others [] i key other within is differs = absurd (omega arith)
remove-others (entry ∷ es) zero key other within is differs = sym (at_another entry es other (λ same. differs (sym same ∙ is)))
remove-others (entry ∷ es) (suc i) key other within is differs = behind entry _ es other (remove-others es i key other (omega arith) is differs)

pub KeysDiffer-remove : (es : List (ℕ × ℕ)) (i : ℕ) → KeysDiffer es → i < length es → KeysDiffer (remove es i)
KeysDiffer-remove [] i differ within = absurd (omega arith)
KeysDiffer-remove (entry ∷ es) zero differ within = differ.1
KeysDiffer-remove (entry ∷ es) (suc i) differ within =
    let differs = first_differs entry es i _ differ (omega arith) refl in
    (remove-others es i _ entry.0 (omega arith) refl differs ∙ differ.0, KeysDiffer-remove es i differ.1 (omega arith))

-- ---- the values that callers see

-- what a list of entries and a room come to
abbrev pub times_of : ℕ → List (ℕ × ℕ) → Times
times_of room es = record { room = room; entries = es }

none_is_not_some : (time : Option ℕ) → time ≡ None → IsSome time → ⊥
none_is_not_some None is some = search rules
none_is_not_some (Some n) is some = some_is_not_none n is

pub room_left : (es : List (ℕ × ℕ)) (room key : ℕ) → look_up es key ≡ None → HasRoomFor (times_of room es) key → length es < room
room_left es room key absent (inl there) = absurd (none_is_not_some _ absent there)
room_left es room key absent (inr less) = less

-- ---- what is due

-- where a key is due, something is
pub not_nothing : (times : Times) (now key : ℕ) → IsNextDue times now key → NothingIsDue times now → ⊥
not_nothing times now key next nothing = omega (arith, next.due, nothing key next.time next.found)

-- ---- how many keys there are

some_since : (given : Option ℕ) (time : ℕ) → given ≡ Some time → IsSome given
some_since None time is = absurd (some_is_not_none time (sym is))
some_since (Some n) time is = search rules

some_of : (given : Option ℕ) → IsSome given → (time : ℕ) × (given ≡ Some time)
some_of None there = absurd (none_is_not_some None refl there)
some_of (Some n) there = (n, refl)

-- where a key is among the later ones, it isn't the first
later_differs : (entry : ℕ × ℕ) (es : List (ℕ × ℕ)) (key : ℕ) → KeysDiffer (entry ∷ es) → IsSome (look_up es key) → entry.0 ≢ key
later_differs entry es key differ there = let found = some_of _ there in apart entry es key found.0 differ.0 found.1

pub length-le-keys : (es out : List (ℕ × ℕ)) → KeysDiffer es → KeysDiffer out → ((key : ℕ) → IsSome (look_up es key) → IsSome (look_up out key)) → length es ≤ length out
length-le-keys [] out differ apart_out within = omega arith
length-le-keys (entry ∷ es) out differ apart_out within =
    let first = some_of _ (within entry.0 (some_since _ _ (at_its_key entry es entry.0 refl))) in
    let there = look_up-found out entry.0 first.0 first.1 in
    let rest = length-le-keys es (remove out there.place) differ.1 (KeysDiffer-remove out there.place apart_out there.within) (λ key later.
    let other = later_differs entry es key differ later in
    let found = some_of _ (within key (subst (λ (time : Option ℕ). IsSome time) (sym (at_another entry es key other)) later)) in
    some_since _ _ (remove-others out there.place entry.0 key there.within there.key_is (λ same. other (sym same)) ∙ found.1)) in
    omega (arith, rest, length-remove out there.place there.within)
