-- What a compaction leaves has the slots that were kept.
use Rattle.std.proofs.Common.{◌≡◌, ℕ, ◌-◌, ◌<◌, ◌≤◌, Bool, true, false, cond, not, ◌&&◌, List, [], ◌∷◌, ◌++◌, length, drop, map, filter, Option, Some, None, inl, inr, refl, sym, ap, subst, ◌∙◌, arith}
use Rattle.std.specs.Prelude.{nat_lt, ◌==◌, is_some, option_to_list}
use Rattle.std.specs.List.{list_any}
use Rattle.std.proofs.lemmas.Bool.{cond_both, cases_Bool, and_from, and_parts, both_ways, true≢false, false_from_ne_true, eqb-true, eq-eqb, ltb-true, ltb-false, le-ltb}
use Rattle.dots_history.specs.declared.entry.Entry.{Entry}
use Rattle.dots_history.specs.declared.status.Status.{Status}
use Rattle.dots_history.specs.declared.status.Status.TheVariants.{Open}
use Rattle.dots_history.specs.Entries.{withdraws, signals}
use Rattle.dots_history.specs.Histories.{Mitigation, Within, Calm, OnePeer, live, if_live, status, step, stays, held, or_else}
use Rattle.dots_history.specs.Keeping.{is_open, is_first, moved, names, pass, kept_by}
use Rattle.dots_history.specs.Places.{lasts}
use Rattle.dots_history.proofs.Keeping.{Keeper}
use Rattle.dots_history.proofs.Members.{In, in_back, any_of}
use Rattle.dots_history.proofs.Dropping.{named, unnamed, no_change, still_there}
use Rattle.dots_history.proofs.ViewLemmas.{same_live_by, kept_held}
use Rattle.coap_exchange.specs.declared.pair.Pair.{Pair}
use Rattle.coap_exchange.specs.Rings.{RingValue}
use Rattle.live_mitigations.specs.declared.slots.MitigationSlots.{MitigationSlots}
use Rattle.dots_history.specs.Filed.{Filed, entry_of, slot_of}
use Rattle.live_mitigations.specs.Slots.{withdrawal_in, slots_by, live_slots}
use Rattle.live_mitigations.specs.LiveValues.{filed_alone}
use Rattle.live_mitigations.proofs.Domains.{status_own, withdrawal_own}
use Rattle.held_resources.specs.Rows.{row_of, rows_of}
use Rattle.dots_registry.specs.Kept.{is_from, RingsAre, last_slot, KeptValue, AreOf, filed_kept_by, filed_kept}
use Rattle.dots_registry.proofs.Recents.{more_many, own_recent, signal_parts}

-- by what a keeper does with the first
pub by_first : (keep : Keeper) (passed : List Mitigation) (x : Filed) (later : List Filed) (P : List Filed → Type 0)
    → (keep passed x.entry (map entry_of later) ≡ true → P (x ∷ filed_kept_by keep (pass passed x.entry) later))
    → (keep passed x.entry (map entry_of later) ≡ false → P (filed_kept_by keep (pass passed x.entry) later))
    → P (filed_kept_by keep passed (x ∷ later))
by_first keep passed x later P is out =
    cond_both
    (keep passed x.entry (map entry_of later))
    (x ∷ filed_kept_by keep (pass passed x.entry) later)
    (filed_kept_by keep (pass passed x.entry) later)
    P
    is
    out

pub kept_entries : (keep : Keeper) (passed : List Mitigation) (filed : List Filed) → map entry_of (filed_kept_by keep passed filed) ≡ kept_by keep passed (map entry_of filed)
kept_entries keep passed [] = refl
kept_entries keep passed (x ∷ later) = by_test (keep passed x.entry (map entry_of later)) (kept_entries keep (pass passed x.entry) later)
  where
    by_test : (b : Bool) → map entry_of (filed_kept_by keep (pass passed x.entry) later) ≡ kept_by keep (pass passed x.entry) (map entry_of later)
        → map entry_of (cond b (x ∷ filed_kept_by keep (pass passed x.entry) later) (filed_kept_by keep (pass passed x.entry) later))
        ≡ cond b (x.entry ∷ kept_by keep (pass passed x.entry) (map entry_of later)) (kept_by keep (pass passed x.entry) (map entry_of later))
    by_test true go = ap (λ es. x.entry ∷ es) go
    by_test false go = go

-- ---- the live mitigations

-- an entry that isn't named doesn't withdraw what is live in the end
not_taken : (t : ℕ) (put : Entry) (s : Status) (passed : List Mitigation) (e : Entry) (later : List Entry) → In (record { put = put; status = s }) passed
    → list_any (is_first t e later) passed ≡ false → live t put (status put (step put s e) later) ≡ true → (is_open s && withdraws put e) ≡ false
not_taken t put s passed e later there none is =
    elim (cases_Bool (is_open s && withdraws put e)) [
      | inl taken ↦
          absurd (both_ways
          (list_any (is_first t e later) passed)
          none
          (any_of (is_first t e later) (record { put = put; status = s }) passed there (and_from (is_open s && withdraws put e) (live t put (status put (step put s e) later)) taken is)))
      | inr untaken ↦ untaken
    ]

withdrawal_kept : (n t : ℕ) (put : Entry) (s : Status) (found : Option ℕ) (passed : List Mitigation) (later : List Filed) → In (record { put = put; status = s }) passed
    → live t put (status put s (map entry_of later)) ≡ true → withdrawal_in put s found (filed_kept_by (names n t) passed later) ≡ withdrawal_in put s found later
withdrawal_kept n t put s found passed [] there is = refl
withdrawal_kept n t put s found passed (x ∷ later) there is =
    let e = x.entry in
    let next : Option ℕ = cond (is_open s && withdraws put e) (Some x.slot) found in
    let few = filed_kept_by (names n t) (pass passed e) later in
    let go = withdrawal_kept n t put (step put s e) next (pass passed e) later (still_there put s passed e there) is in
    by_first
    (names n t)
    passed
    x
    later
    (λ xs. withdrawal_in put s found xs ≡ withdrawal_in put (step put s e) next later)
    (λ kept. go)
    (λ out.
    let none = (unnamed n t passed e (map entry_of later) out).no_first in
    ap (λ st. withdrawal_in put st found few) (sym (no_change n t put s passed e (map entry_of later) there none is))
    ∙ ap (λ b. withdrawal_in put (step put s e) (cond b (Some x.slot) found) few) (sym (not_taken t put s passed e (map entry_of later) there none is))
    ∙ go)

-- the slots of an entry that is live by those after it
abbrev own : ℕ → Filed → List Filed → Option MitigationSlots
own t x later = cond (live t x.entry (status x.entry Open (map entry_of later))) (Some (slots_by x later)) None

own_alone : (domain t : ℕ) (x : Filed) (later : List Filed) → (x.entry.domain == domain) ≡ true → own t x (filed_alone domain later) ≡ own t x later
own_alone domain t x later mine =
    ap (λ st. cond (live t x.entry st) (Some (slots_by x (filed_alone domain later))) None) (status_own domain x.entry Open later mine)
    ∙ ap
    (λ (w : Option ℕ). cond (live t x.entry (status x.entry Open (map entry_of later))) (Some (record { put = x.slot; withdrawal = w })) None)
    (withdrawal_own domain x.entry Open None later mine)

some_is : {A : Type 0} (b : Bool) (x : A) → is_some (cond b (Some x) None) ≡ b
some_is true x = refl
some_is false x = refl

own_kept : (n t low : ℕ) (passed : List Mitigation) (x : Filed) (later : List Filed) → names n t passed x.entry (map entry_of later) ≡ true
    → OnePeer x.entry Open (map entry_of later) → Within low (x.entry ∷ map entry_of later) t
    → own t x (filed_kept_by (names n t) (pass passed x.entry) later) ≡ own t x later
own_kept n t low passed x later is one within =
    let e = x.entry in
    let es = map entry_of later in
    let few = filed_kept_by (names n t) (pass passed e) later in
    let after : List Entry → Status = λ xs. status e Open xs in
    let fate : if_live t e (after (map entry_of few)) ≡ if_live t e (after es) =
    ap (λ xs. if_live t e (after xs)) (kept_entries (names n t) (pass passed e) later)
    ∙ same_live_by n t t low passed e es (named n t passed e es is) one within in
    let alive : live t e (after (map entry_of few)) ≡ live t e (after es) =
    sym (some_is (live t e (after (map entry_of few))) (record { put = e; status = after (map entry_of few) }))
    ∙ ap is_some fate
    ∙ some_is (live t e (after es)) (record { put = e; status = after es }) in
    ap (λ b. cond b (Some (slots_by x few)) None) alive
    ∙ elim (cases_Bool (live t e (after es))) [
      | inl lives ↦
          ap
          (λ (w : Option ℕ). cond (live t e (after es)) (Some (record { put = x.slot; withdrawal = w })) None)
          (withdrawal_kept n t e Open None (pass passed e) later
          (in_back (record { put = e; status = Open }) (map (moved e) passed) (record { put = e; status = Open } ∷ []) (inl refl))
          lives)
      | inr dead ↦ ap (λ b. cond b (Some (slots_by x few)) None) dead ∙ sym (ap (λ b. cond b (Some (slots_by x later)) None) dead)
    ]

first_alone : (domain t : ℕ) (x : Filed) (later : List Filed) → (x.entry.domain == domain) ≡ true
    → live_slots t (filed_alone domain (x ∷ later)) ≡ option_to_list (own t x later) ++ live_slots t (filed_alone domain later)
first_alone domain t x later mine =
    ap (λ b. live_slots t (cond b (x ∷ filed_alone domain later) (filed_alone domain later))) mine
    ∙ ap (λ o. option_to_list o ++ live_slots t (filed_alone domain later)) (own_alone domain t x later mine)

lives_stay : (n t low domain : ℕ) (passed : List Mitigation) (filed : List Filed) → Within low (map entry_of filed) t → Calm (map entry_of filed)
    → live_slots t (filed_alone domain (filed_kept_by (names n t) passed filed)) ≡ live_slots t (filed_alone domain filed)
lives_stay n t low domain passed [] within calm = refl
lives_stay n t low domain passed (x ∷ later) within calm =
    let few = filed_kept_by (names n t) (pass passed x.entry) later in
    let go = lives_stay n t x.entry.time domain (pass passed x.entry) later within.1 calm.2 in
    let all : List Filed → List MitigationSlots = λ xs. live_slots t (filed_alone domain xs) in
    elim (cases_Bool (x.entry.domain == domain)) [
      | inl mine ↦
          by_first
          (names n t)
          passed
          x
          later
          (λ xs. all xs ≡ all (x ∷ later))
          (λ is.
          first_alone domain t x few mine
          ∙ ap (λ o. option_to_list o ++ all few) (own_kept n t low passed x later is calm.0 within)
          ∙ ap (λ ss. option_to_list (own t x later) ++ ss) go
          ∙ sym (first_alone domain t x later mine))
          (λ out.
          go
          ∙ sym (first_alone domain t x later mine
          ∙ ap (λ b. option_to_list (cond b (Some (slots_by x later)) None) ++ all later) (unnamed n t passed x.entry (map entry_of later) out).dead))
      | inr other ↦
          let skip : (xs : List Filed) → all (x ∷ xs) ≡ all xs = λ xs. ap (λ b. live_slots t (cond b (x ∷ filed_alone domain xs) (filed_alone domain xs))) other in
          by_first (names n t) passed x later (λ xs. all xs ≡ all (x ∷ later)) (λ is. skip few ∙ go ∙ sym (skip later)) (λ out. go ∙ sym (skip later))
    ]

-- ---- the rings

-- two lists have the same last n, and both are shorter or neither is
abbrev Same : ℕ → List ℕ → List ℕ → Type 0
Same n xs ys = (nat_lt (length xs) n ≡ nat_lt (length ys) n) × (lasts n xs ≡ lasts n ys)

all_few : (n : ℕ) (xs : List ℕ) → nat_lt (length xs) n ≡ true → lasts n xs ≡ xs
all_few n xs few =
    let less : length xs < n = ltb-true (length xs) n few in
    let none : length xs - n ≡ 0 = omega (arith, less) in
    ap (λ k. drop k xs) none

still_many : (n x : ℕ) (xs : List ℕ) → nat_lt (length xs) n ≡ false → nat_lt (length (x ∷ xs)) n ≡ false
still_many n x xs many =
    let enough : n ≤ length xs = ltb-false (length xs) n many in
    le-ltb (length (x ∷ xs)) n (omega (arith, enough))

same_more : (n x : ℕ) (xs ys : List ℕ) → Same n xs ys → Same n (x ∷ xs) (x ∷ ys)
same_more n x xs ys same =
    elim (cases_Bool (nat_lt (length ys) n)) [
      | inl few ↦
          let one : xs ≡ ys = sym (all_few n xs (same.0 ∙ few)) ∙ same.1 ∙ all_few n ys few in
          (ap (λ zs. nat_lt (length (x ∷ zs)) n) one, ap (λ zs. lasts n (x ∷ zs)) one)
      | inr many ↦ (
        still_many n x xs (same.0 ∙ many) ∙ sym (still_many n x ys many),
        more_many n x xs (same.0 ∙ many) ∙ same.1 ∙ sym (more_many n x ys many),
      )
    ]

same_skip : (n x : ℕ) (xs ys : List ℕ) → nat_lt (length ys) n ≡ false → Same n xs ys → Same n xs (x ∷ ys)
same_skip n x xs ys many same = (same.0 ∙ many ∙ sym (still_many n x ys many), same.1 ∙ sym (more_many n x ys many))

from_first : (pair : Pair) (x : Filed) (later : List Filed) → is_from pair x ≡ true → map slot_of (filter (is_from pair) (x ∷ later)) ≡ x.slot ∷ map slot_of (filter (is_from pair) later)
from_first pair x later is = ap (λ b. map slot_of (cond b (x ∷ filter (is_from pair) later) (filter (is_from pair) later))) is

from_skip : (pair : Pair) (x : Filed) (later : List Filed) → is_from pair x ≡ false → map slot_of (filter (is_from pair) (x ∷ later)) ≡ map slot_of (filter (is_from pair) later)
from_skip pair x later out = ap (λ b. map slot_of (cond b (x ∷ filter (is_from pair) later) (filter (is_from pair) later))) out

lasts_same : (n t : ℕ) (pair : Pair) (passed : List Mitigation) (filed : List Filed)
    → Same n (map slot_of (filter (is_from pair) (filed_kept_by (names n t) passed filed))) (map slot_of (filter (is_from pair) filed))
lasts_same n t pair passed [] = (refl, refl)
lasts_same n t pair passed (x ∷ later) =
    let few = filed_kept_by (names n t) (pass passed x.entry) later in
    let slots : List Filed → List ℕ = λ xs. map slot_of (filter (is_from pair) xs) in
    let go : Same n (slots few) (slots later) = lasts_same n t pair (pass passed x.entry) later in
    elim (cases_Bool (is_from pair x)) [
      | inl mine ↦
          subst
          (λ ys. Same n (slots (filed_kept_by (names n t) passed (x ∷ later))) ys)
          (sym (from_first pair x later mine))
          (by_first
          (names n t)
          passed
          x
          later
          (λ xs. Same n (slots xs) (x.slot ∷ slots later))
          (λ is. subst (λ xs. Same n xs (x.slot ∷ slots later)) (sym (from_first pair x few mine)) (same_more n x.slot (slots few) (slots later) go))
          (λ out.
          same_skip
          n
          x.slot
          (slots few)
          (slots later)
          (sym (own_recent n pair x later mine) ∙ (unnamed n t passed x.entry (map entry_of later) out).old)
          go))
      | inr other ↦
          subst
          (λ ys. Same n (slots (filed_kept_by (names n t) passed (x ∷ later))) ys)
          (sym (from_skip pair x later other))
          (by_first
          (names n t)
          passed
          x
          later
          (λ xs. Same n (slots xs) (slots later))
          (λ is. subst (λ xs. Same n xs (slots later)) (sym (from_skip pair x few other)) go)
          (λ out. go))
    ]

-- of those that aren't of one pair, those of another
from_one : (q p : Pair) (x : Filed) → ((q.peer == p.peer) && (q.domain == p.domain)) ≡ true → is_from p x ≡ is_from q x
from_one q p x one =
    let parts = and_parts (q.peer == p.peer) (q.domain == p.domain) one in
    ap (λ peer. signals peer p.domain x.entry) (sym (eqb-true q.peer p.peer parts.0)) ∙ ap (λ domain. signals q.peer domain x.entry) (sym (eqb-true q.domain p.domain parts.1))

from_other : (q p : Pair) (x : Filed) → ((q.peer == p.peer) && (q.domain == p.domain)) ≡ false → is_from q x ≡ true → is_from p x ≡ false
from_other q p x apart mine =
    false_from_ne_true
    (is_from p x)
    (λ theirs.
    let one = signal_parts q.peer q.domain x.entry mine in
    let two = signal_parts p.peer p.domain x.entry theirs in
    both_ways
    ((q.peer == p.peer) && (q.domain == p.domain))
    apart
    (and_from
    (q.peer == p.peer)
    (q.domain == p.domain)
    (eq-eqb q.peer p.peer (sym one.1 ∙ two.1))
    (eq-eqb q.domain p.domain (sym one.2 ∙ two.2))))

none_left : (q p : Pair) (filed : List Filed) → ((q.peer == p.peer) && (q.domain == p.domain)) ≡ true → filter (is_from p) (filter (λ x. not (is_from q x)) filed) ≡ []
none_left q p [] one = refl
none_left q p (x ∷ later) one =
    let other : Filed → Bool = λ y. not (is_from q y) in
    let go = none_left q p later one in
    elim (cases_Bool (is_from q x)) [
      | inl mine ↦ ap (λ b. filter (is_from p) (cond (not b) (x ∷ filter other later) (filter other later))) mine ∙ go
      | inr out ↦
          ap (λ b. filter (is_from p) (cond (not b) (x ∷ filter other later) (filter other later))) out
          ∙ ap (λ b. cond b (x ∷ filter (is_from p) (filter other later)) (filter (is_from p) (filter other later))) (from_one q p x one ∙ out)
          ∙ go
    ]

all_left : (q p : Pair) (filed : List Filed) → ((q.peer == p.peer) && (q.domain == p.domain)) ≡ false
    → filter (is_from p) (filter (λ x. not (is_from q x)) filed) ≡ filter (is_from p) filed
all_left q p [] apart = refl
all_left q p (x ∷ later) apart =
    let other : Filed → Bool = λ y. not (is_from q y) in
    let go = all_left q p later apart in
    elim (cases_Bool (is_from q x)) [
      | inl mine ↦
          ap (λ b. filter (is_from p) (cond (not b) (x ∷ filter other later) (filter other later))) mine
          ∙ go
          ∙ sym (ap (λ b. cond b (x ∷ filter (is_from p) later) (filter (is_from p) later)) (from_other q p x apart mine))
      | inr out ↦
          ap (λ b. filter (is_from p) (cond (not b) (x ∷ filter other later) (filter other later))) out
          ∙ ap (λ rest. cond (is_from p x) (x ∷ rest) rest) go
    ]

abbrev SameLasts : ℕ → List Filed → List Filed → Type 0
SameLasts n few all = (pair : Pair) → lasts n (map slot_of (filter (is_from pair) few)) ≡ lasts n (map slot_of (filter (is_from pair) all))

others_same : (n : ℕ) (q : Pair) (few all : List Filed) → SameLasts n few all → SameLasts n (filter (λ x. not (is_from q x)) few) (filter (λ x. not (is_from q x)) all)
others_same n q few all same = λ p.
    elim (cases_Bool ((q.peer == p.peer) && (q.domain == p.domain))) [
      | inl one ↦ ap (λ xs. lasts n (map slot_of xs)) (none_left q p few one ∙ sym (none_left q p all one))
      | inr apart ↦
          ap (λ xs. lasts n (map slot_of xs)) (all_left q p few apart)
          ∙ same p
          ∙ sym (ap (λ xs. lasts n (map slot_of xs)) (all_left q p all apart))
    ]

rings_by : (n : ℕ) (rings : List RingValue) (few all : List Filed) → SameLasts n few all → RingsAre n rings all → RingsAre n rings few
rings_by n [] few all same are = record {}
rings_by n (r ∷ rings) few all same are =
    let other : Filed → Bool = λ x. not (is_from r.pair x) in (
      are.0,
      are.1 ∙ sym (same r.pair),
      rings_by n rings (filter other few) (filter other all) (others_same n r.pair few all same) are.2,
    )

-- ---- the last entry

either : (o : Option ℕ) (s : ℕ) (other : Option ℕ) → or_else (or_else o (Some s)) other ≡ or_else o (Some s)
either None s other = refl
either (Some x) s other = refl

last_stays : (n t : ℕ) (passed : List Mitigation) (filed : List Filed) → last_slot (filed_kept_by (names n t) passed filed) ≡ last_slot filed
last_stays n t passed [] = refl
last_stays n t passed (x ∷ []) =
    by_first
    (names n t)
    passed
    x
    []
    (λ xs. last_slot xs ≡ Some x.slot)
    (λ is. refl)
    (λ out. absurd (true≢false (unnamed n t passed x.entry [] out).more))
last_stays n t passed (x ∷ y ∷ later) =
    let go = last_stays n t (pass passed x.entry) (y ∷ later) in
    by_first
    (names n t)
    passed
    x
    (y ∷ later)
    (λ xs. last_slot xs ≡ last_slot (x ∷ y ∷ later))
    (λ is. ap (λ o. or_else o (Some x.slot)) go)
    (λ out. go ∙ sym (either (last_slot later) y.slot (Some x.slot)))

-- ---- what is held

same_test : (b c : Bool) (e : Entry) (rest : List Entry) → option_to_list (cond b (Some e) None) ++ rest ≡ option_to_list (cond c (Some e) None) ++ rest → b ≡ c
same_test true true e rest same = refl
same_test false false e rest same = refl
same_test true false e rest same = let many = ap length same in absurd (omega (arith, many))
same_test false true e rest same = let many = ap length same in absurd (omega (arith, many))

stays_kept : (n t : ℕ) (passed : List Mitigation) (e : Entry) (later : List Entry) → names n t passed e later ≡ true → Calm (e ∷ later)
    → stays e (kept_by (names n t) (pass passed e) later) ≡ stays e later
stays_kept n t passed e later is calm =
    let few = kept_by (names n t) (pass passed e) later in
    let own_few : List Entry = option_to_list (cond (stays e few) (Some e) None) in
    let whole : held (e ∷ few) ≡ held (e ∷ later) =
    ap (λ b. held (cond b (e ∷ few) few)) (sym is) ∙ kept_held n t passed (e ∷ later) calm in
    same_test
    (stays e few)
    (stays e later)
    e
    (held later)
    (ap (λ rest. own_few ++ rest) (sym (kept_held n t (pass passed e) later calm.2)) ∙ whole)

rows_stay : (n t : ℕ) (passed : List Mitigation) (filed : List Filed) → Calm (map entry_of filed) → rows_of (filed_kept_by (names n t) passed filed) ≡ rows_of filed
rows_stay n t passed [] calm = refl
rows_stay n t passed (x ∷ later) calm =
    let few = filed_kept_by (names n t) (pass passed x.entry) later in
    let go = rows_stay n t (pass passed x.entry) later calm.2 in
    by_first
    (names n t)
    passed
    x
    later
    (λ xs. rows_of xs ≡ rows_of (x ∷ later))
    (λ is.
    ap
    (λ b. option_to_list (cond b (row_of x) None) ++ rows_of few)
    (ap (stays x.entry) (kept_entries (names n t) (pass passed x.entry) later) ∙ stays_kept n t passed x.entry (map entry_of later) is calm)
    ∙ ap (λ rows. option_to_list (cond (stays x.entry (map entry_of later)) (row_of x) None) ++ rows) go)
    (λ out.
    go ∙ sym (ap (λ b. option_to_list (cond b (row_of x) None) ++ rows_of later) (unnamed n t passed x.entry (map entry_of later) out).undone))

-- ---- all of it

pub kept_stay : (n t : ℕ) (slots : KeptValue) (rings : List RingValue) (filed : List Filed) → Within 0 (map entry_of filed) t → Calm (map entry_of filed)
    → AreOf n t slots rings filed → AreOf n t slots rings (filed_kept n t filed)
kept_stay n t slots rings filed within calm are = record {
  live = λ domain inside. are.live domain inside ∙ sym (lives_stay n t 0 domain [] filed within calm);
  messages = rings_by n rings (filed_kept n t filed) filed (λ pair. (lasts_same n t pair [] filed).1) are.messages;
  last = are.last ∙ sym (last_stays n t [] filed);
  rows = are.rows ∙ sym (rows_stay n t [] filed calm);
}
