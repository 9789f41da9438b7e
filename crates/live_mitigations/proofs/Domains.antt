-- The slots of all domains are those of the history.
use Rattle.std.proofs.Common.{◌≡◌, ◌⊎◌, ℕ, ◌<◌, zero, suc, Bool, true, false, cond, ◌&&◌, ◌||◌, List, [], ◌∷◌, ◌++◌, length, map, Option, Some, None, inl, inr, refl, sym, ap, ◌∙◌, arith}
use Rattle.std.specs.Prelude.{◌==◌, option_to_list, not, nat_lt}
use Rattle.std.specs.List.{list_all}
use Rattle.std.proofs.lemmas.Bool.{false≢true, cond-true, cond_both, and_left, and_right, or_left, or_right, eq-eqb, ltb-true, and_parts}
use Rattle.dots_history.specs.declared.entry.Entry.{Entry}
use Rattle.dots_history.specs.declared.put.Put.{Put}
use Rattle.dots_history.specs.declared.status.Status.{Status}
use Rattle.dots_history.specs.declared.status.Status.TheVariants.{Open}
use Rattle.dots_history.specs.Entries.{ends, withdraws, same_client, put_of, option_any}
use Rattle.dots_history.specs.Histories.{live, status, step}
use Rattle.dots_history.specs.Keeping.{is_open}
use Rattle.dots_history.specs.Slots.{Rises}
use Rattle.dots_history.specs.KeptPlaces.{at_places, union, live_places, withdrawal_places}
use Rattle.dots_history.proofs.Apart.{other_domain}
use Rattle.dots_history.proofs.Touching.{never_live, untouched}
use Rattle.live_mitigations.specs.LiveValues.{is_inside, filed_alone, SlotsAre}
use Rattle.live_mitigations.specs.declared.slots.MitigationSlots.{MitigationSlots}
use Rattle.dots_history.specs.Filed.{Filed, entry_of, slot_of}
use Rattle.live_mitigations.specs.Slots.{withdrawal_in, slots_by, live_slots}
use Rattle.live_mitigations.specs.Rows.{LiveTable, slots_of}
use Rattle.live_mitigations.specs.Numbers.{numbers_of, numbers_in, all_numbers}
use Rattle.live_mitigations.proofs.Members.{has, any_append, union_same}
use Rattle.live_mitigations.proofs.Kept.{named_slots}

either : (a b : Bool) → (a || b) ≡ true → (a ≡ true) ⊎ (b ≡ true)
either true b is = inl refl
either false b is = inr is

-- ---- entries of other domains do nothing to it
apart_ends : (p e : Entry) → (p.domain == e.domain) ≡ false → ends p e ≡ false
unfolding ends same_client
apart_ends p e apart = and_left _ _ (and_left _ _ apart)

apart_withdraws : (p e : Entry) → (p.domain == e.domain) ≡ false → withdraws p e ≡ false
unfolding withdraws same_client
apart_withdraws p e apart = and_left _ _ (and_left _ _ apart)

pub status_own : (domain : ℕ) (p : Entry) (st : Status) (later : List Filed) → (p.domain == domain) ≡ true
    → status p st (map entry_of (filed_alone domain later)) ≡ status p st (map entry_of later)
status_own domain p st [] own = refl
status_own domain p st (x ∷ later) own =
    cond_both
    (x.entry.domain == domain)
    (x ∷ filed_alone domain later)
    (filed_alone domain later)
    (λ xs. status p st (map entry_of xs) ≡ status p (step p st x.entry) (map entry_of later))
    (λ same. status_own domain p (step p st x.entry) later own)
    (λ other.
    let apart = other_domain domain p x.entry own other in
    status_own domain p st later own
    ∙ ap (λ now. status p now (map entry_of later)) (sym (untouched p st x.entry (apart_ends p x.entry apart) (apart_withdraws p x.entry apart))))

pub withdrawal_own : (domain : ℕ) (p : Entry) (st : Status) (found : Option ℕ) (later : List Filed) → (p.domain == domain) ≡ true
    → withdrawal_in p st found (filed_alone domain later) ≡ withdrawal_in p st found later
withdrawal_own domain p st found [] own = refl
withdrawal_own domain p st found (x ∷ later) own =
    cond_both
    (x.entry.domain == domain)
    (x ∷ filed_alone domain later)
    (filed_alone domain later)
    (λ xs. withdrawal_in p st found xs ≡ withdrawal_in p (step p st x.entry) (cond (is_open st && withdraws p x.entry) (Some x.slot) found) later)
    (λ same. withdrawal_own domain p (step p st x.entry) (cond (is_open st && withdraws p x.entry) (Some x.slot) found) later own)
    (λ other.
    let apart = other_domain domain p x.entry own other in
    withdrawal_own domain p st found later own
    ∙ ap (λ now. withdrawal_in p now found later) (sym (untouched p st x.entry (apart_ends p x.entry apart) (apart_withdraws p x.entry apart)))
    ∙ ap (λ b. withdrawal_in p (step p st x.entry) (cond b (Some x.slot) found) later) (sym (and_right (is_open st) (withdraws p x.entry) (apart_withdraws p x.entry apart))))

-- ---- one entry and the others
abbrev own_has : ℕ → ℕ → Filed → List Filed → Bool
own_has t s x later = live t x.entry (status x.entry Open (map entry_of later)) && has s (numbers_of (slots_by x later))

has_cons : (t s : ℕ) (x : Filed) (later : List Filed)
    → has s (numbers_in (live_slots t (x ∷ later))) ≡ (own_has t s x later || has s (numbers_in (live_slots t later)))
has_cons t s x later = by_test (live t x.entry (status x.entry Open (map entry_of later))) (slots_by x later) (live_slots t later)
  where
    by_test : (b : Bool) (slots : MitigationSlots) (rest : List MitigationSlots)
        → has s (numbers_in (option_to_list (cond b (Some slots) None) ++ rest)) ≡ ((b && has s (numbers_of slots)) || has s (numbers_in rest))
    by_test true slots rest = any_append (λ other. other == s) (numbers_of slots) (numbers_in rest)
    by_test false slots rest = refl

own_alone : (domain t s : ℕ) (x : Filed) (later : List Filed) → (x.entry.domain == domain) ≡ true → own_has t s x (filed_alone domain later) ≡ own_has t s x later
own_alone domain t s x later own =
    ap (λ st. live t x.entry st && has s (numbers_of (slots_by x (filed_alone domain later)))) (status_own domain x.entry Open later own)
    ∙ ap (λ w. live t x.entry (status x.entry Open (map entry_of later)) && has s (numbers_of (record { put = x.slot; withdrawal = w }))) (withdrawal_own domain x.entry Open None later own)

-- those of a domain are among those of the history
alone_has : (domain t s : ℕ) (filed : List Filed) → has s (numbers_in (live_slots t (filed_alone domain filed))) ≡ true → has s (numbers_in (live_slots t filed)) ≡ true
alone_has domain t s [] = λ is. is
alone_has domain t s (x ∷ later) =
    cond_both
    (x.entry.domain == domain)
    (x ∷ filed_alone domain later)
    (filed_alone domain later)
    (λ xs. has s (numbers_in (live_slots t xs)) ≡ true → has s (numbers_in (live_slots t (x ∷ later))) ≡ true)
    (λ own is.
    has_cons t s x later
    ∙ (elim (either (own_has t s x (filed_alone domain later)) (has s (numbers_in (live_slots t (filed_alone domain later)))) (sym (has_cons t s x (filed_alone domain later)) ∙ is)) [
      | inl here ↦ or_left (own_has t s x later) (has s (numbers_in (live_slots t later))) (sym (own_alone domain t s x later own) ∙ here)
      | inr there ↦ or_right (own_has t s x later) (has s (numbers_in (live_slots t later))) (alone_has domain t s later there)
    ]))
    (λ other is. has_cons t s x later ∙ or_right (own_has t s x later) (has s (numbers_in (live_slots t later))) (alone_has domain t s later is))

-- what is live was put in a domain
put_within : (n t : ℕ) (e : Entry) (st : Status) → live t e st ≡ true → is_inside n e ≡ true → e.domain < n
put_within n t e st lives inside = by_put (put_of e.change) refl
  where
    by_put : (o : Option Put) → put_of e.change ≡ o → e.domain < n
    by_put None is = absurd (false≢true (sym (never_live t e st is) ∙ lives))
    by_put (Some put) is =
        ltb-true e.domain n (sym (ap (λ o. not (option_any (λ (p : Put). true) o) || nat_lt e.domain n) is) ∙ inside)

-- Where one is, it is one of a domain.
has_alone : (n t s : ℕ) (filed : List Filed) → list_all (is_inside n) (map entry_of filed) ≡ true → has s (numbers_in (live_slots t filed)) ≡ true
    → (domain : ℕ) × (domain < n) × (has s (numbers_in (live_slots t (filed_alone domain filed))) ≡ true)
has_alone n t s [] inside is = absurd (false≢true is)
has_alone n t s (x ∷ later) inside is =
    let parts = and_parts (is_inside n x.entry) (list_all (is_inside n) (map entry_of later)) inside in
    elim (either (own_has t s x later) (has s (numbers_in (live_slots t later))) (sym (has_cons t s x later) ∙ is)) [
      | inl here ↦
          let alive = and_parts (live t x.entry (status x.entry Open (map entry_of later))) (has s (numbers_of (slots_by x later))) here in
          let own : (x.entry.domain == x.entry.domain) ≡ true = eq-eqb x.entry.domain x.entry.domain refl in (
            x.entry.domain,
            put_within n t x.entry (status x.entry Open (map entry_of later)) alive.0 parts.0,
            ap (λ xs. has s (numbers_in (live_slots t xs))) (cond-true (x.entry.domain == x.entry.domain) (x ∷ filed_alone x.entry.domain later) (filed_alone x.entry.domain later) own)
                ∙ has_cons t s x (filed_alone x.entry.domain later)
                ∙ or_left (own_has t s x (filed_alone x.entry.domain later)) (has s (numbers_in (live_slots t (filed_alone x.entry.domain later)))) (own_alone x.entry.domain t s x later own ∙ here),
          )
      | inr there ↦
          let found = has_alone n t s later parts.1 there in
          (found.0, found.1, more found.0 found.2)
    ]
  where
    more : (domain : ℕ) → has s (numbers_in (live_slots t (filed_alone domain later))) ≡ true → has s (numbers_in (live_slots t (filed_alone domain (x ∷ later)))) ≡ true
    more domain is =
        cond_both
        (x.entry.domain == domain)
        (x ∷ filed_alone domain later)
        (filed_alone domain later)
        (λ xs. has s (numbers_in (live_slots t xs)) ≡ true)
        (λ own. has_cons t s x (filed_alone domain later) ∙ or_right (own_has t s x (filed_alone domain later)) (has s (numbers_in (live_slots t (filed_alone domain later)))) is)
        (λ other. is)

-- ---- all tables
table_has : (s : ℕ) (tables : List LiveTable) → has s (all_numbers tables) ≡ true → (domain : ℕ) × (domain < length tables) × (has s (numbers_in (slots_of domain tables)) ≡ true)
table_has s [] is = absurd (false≢true is)
table_has s (table ∷ tables) is =
    elim (either (has s (numbers_in table.slots)) (has s (all_numbers tables)) (sym (any_append (λ other. other == s) (numbers_in table.slots) (all_numbers tables)) ∙ is)) [
      | inl here ↦ (zero, omega arith, here)
      | inr there ↦ let found = table_has s tables there in (suc found.0, suc_less found.0 (length tables) found.1, found.2)
    ]
  where
    suc_less : (a b : ℕ) → a < b → suc a < suc b
    suc_less a b less = omega (arith, less)

has_table : (s domain : ℕ) (tables : List LiveTable) → domain < length tables → has s (numbers_in (slots_of domain tables)) ≡ true → has s (all_numbers tables) ≡ true
has_table s domain [] within is = absurd (omega (arith, within))
has_table s zero (table ∷ tables) within is =
    any_append (λ other. other == s) (numbers_in table.slots) (all_numbers tables) ∙ or_left (has s (numbers_in table.slots)) (has s (all_numbers tables)) is
has_table s (suc domain) (table ∷ tables) within is =
    any_append (λ other. other == s) (numbers_in table.slots) (all_numbers tables)
    ∙ or_right (has s (numbers_in table.slots)) (has s (all_numbers tables)) (has_table s domain tables (omega (arith, within)) is)

both : (a b : Bool) → (a ≡ true → b ≡ true) → (b ≡ true → a ≡ true) → a ≡ b
both true b there back = sym (there refl)
both false true there back = back refl
both false false there back = refl

-- the slots that are kept are those that the view names for its live mitigations
pub kept_slots : (t : ℕ) (tables : List LiveTable) (filed : List Filed) (items : List ℕ) → Rises items → SlotsAre t tables filed
    → list_all (is_inside (length tables)) (map entry_of filed) ≡ true
    → union (all_numbers tables) items
    ≡ union (at_places (map slot_of filed) (union (live_places t (map entry_of filed)) (withdrawal_places t (map entry_of filed)))) items
kept_slots t tables filed items rises are inside =
    union_same (all_numbers tables) (numbers_in (live_slots t filed)) items rises
    (λ s.
    both (has s (all_numbers tables)) (has s (numbers_in (live_slots t filed)))
    (λ is.
    let found = table_has s tables is in
    alone_has found.0 t s filed (sym (ap (λ slots. has s (numbers_in slots)) (are found.0 found.1)) ∙ found.2))
    (λ is.
    let found = has_alone (length tables) t s filed inside is in
    has_table s found.0 tables found.1 (ap (λ slots. has s (numbers_in slots)) (are found.0 found.1) ∙ found.2)))
    ∙ named_slots t filed items rises
