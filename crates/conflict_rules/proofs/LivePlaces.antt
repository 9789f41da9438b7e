-- The live mitigations of a domain, as the rules see them, by their places in the list of the entries.
use Rattle.std.proofs.Common.{◌≡◌, ℕ, zero, suc, ◌+◌, ◌-◌, Bool, true, false, cond, ◌&&◌, List, [], ◌∷◌, ◌++◌, map, length, drop, Some, None, inl, inr, refl, sym, ap, ◌∙◌, subst, arith}
use Rattle.std.specs.Prelude.{◌==◌, slice_get, option_to_list}
use Rattle.std.specs.List.{list_any, find, count_by}
use Rattle.std.proofs.lemmas.Bool.{false≢true, both_ways, cond_both, cond-true, cond-false, cases_Bool, and_parts, and_from, or_cases, eqb-true, eq-eqb}
use Rattle.std.proofs.lemmas.Option.{none-some, same_Some}
use Rattle.dots_history.specs.declared.entry.Entry.{Entry}
use Rattle.dots_history.specs.declared.put.Put.{Put}
use Rattle.dots_history.specs.declared.change.Change.TheVariants as change
use Rattle.dots_history.specs.declared.status.Status.{Status}
use Rattle.dots_history.specs.declared.status.Status.TheVariants.{Ended, Open, Withdrawn}
use Rattle.dots_history.specs.Entries.{ends, withdraws, put_of}
use Rattle.dots_history.specs.Histories.{Mitigation, live, status, mitigations, tally}
use Rattle.dots_history.specs.Keeping.{is_open}
use Rattle.dots_history.specs.Places.{Stands, Terminating, Live}
use Rattle.dots_history.proofs.Fates.{Fate, fate_of}
use Rattle.dots_history.proofs.PlaceLaws.{live_at_place, place_is_live, to_after, after_place}
use Rattle.dots_history.specs.Views.{mitigations_of}
use Rattle.dots_history.proofs.Members.{In}
use Rattle.conflict_rules.specs.declared.live.Live.{Live as LiveView}
use Rattle.conflict_rules.specs.Lives.{put_or_nothing, live_of, lives_of}
use Rattle.conflict_rules.specs.Judgements.{LivesIn, StandsIn, Number}
use Rattle.conflict_rules.proofs.Puts.{put_there, live_puts, counted}

-- ---- what is in a list
pub in_found : {A : Type 0} (test : A → Bool) (xs : List A) (x : A) → find test xs ≡ Some x → In x xs × (test x ≡ true)
in_found test [] x is = absurd (none-some x is)
in_found test (y ∷ ys) x is =
    elim (cases_Bool (test y)) [
      | inl here ↦
          let same = same_Some y x (sym (cond-true (test y) (Some y) (find test ys) here) ∙ is) in
          (inl (sym same), ap test (sym same) ∙ here)
      | inr out ↦
          let more = in_found test ys x (sym (cond-false (test y) (Some y) (find test ys) out) ∙ is) in
          (inr more.0, more.1)
    ]

pub in_any : {A : Type 0} (test : A → Bool) (xs : List A) → list_any test xs ≡ true → (x : A) × In x xs × (test x ≡ true)
in_any test [] is = absurd (false≢true is)
in_any test (y ∷ ys) is =
    elim (or_cases (test y) (list_any test ys) is) [
      | inl here ↦ (y, inl refl, here)
      | inr beyond ↦ let more = in_any test ys beyond in (more.0, inr more.1, more.2)
    ]

-- ---- one entry more
by_live : (domain : ℕ) (b : Bool) (m : Mitigation) (ms : List Mitigation)
    → map live_of (mitigations_of domain (option_to_list (cond b (Some m) None) ++ ms))
    ≡ cond (b && (m.put.domain == domain)) (live_of m ∷ map live_of (mitigations_of domain ms)) (map live_of (mitigations_of domain ms))
by_live domain true m ms =
    cond_both
    (m.put.domain == domain)
    (m ∷ mitigations_of domain ms)
    (mitigations_of domain ms)
    (λ xs. map live_of xs ≡ cond (m.put.domain == domain) (live_of m ∷ map live_of (mitigations_of domain ms)) (map live_of (mitigations_of domain ms)))
    (λ here. sym (cond-true (m.put.domain == domain) (live_of m ∷ map live_of (mitigations_of domain ms)) (map live_of (mitigations_of domain ms)) here))
    (λ out. sym (cond-false (m.put.domain == domain) (live_of m ∷ map live_of (mitigations_of domain ms)) (map live_of (mitigations_of domain ms)) out))
by_live domain false m ms = refl

abbrev pub status_at : List Entry → ℕ → Entry → Status
status_at entries i e = status e Open (drop (suc i) entries)

-- what the rules see of the entry at a place
abbrev pub seen_at : List Entry → ℕ → Entry → LiveView
seen_at entries i e = live_of (record { put = e; status = status_at entries i e })

pub lives_more : (domain t : ℕ) (e : Entry) (later : List Entry)
    → lives_of domain t (e ∷ later)
    ≡ cond (live t e (status e Open later) && (e.domain == domain)) (seen_at (e ∷ later) 0 e ∷ lives_of domain t later) (lives_of domain t later)
lives_more domain t e later =
    by_live domain (live t e (status e Open later)) (record { put = e; status = status e Open later }) (mitigations t later)

-- At place i is a live mitigation of the domain.
pub record At (domain t : ℕ) (entries : List Entry) (i : ℕ) (e : Entry) : Type 0 where
  pub there : slice_get entries i ≡ Some e
  pub alive : live t e (status_at entries i e) ≡ true
  pub here : (e.domain == domain) ≡ true

pub further : (domain t : ℕ) (x : Entry) (later : List Entry) (i : ℕ) (e : Entry) → At domain t later i e → At domain t (x ∷ later) (suc i) e
further domain t x later i e at = record { there = at.there; alive = at.alive; here = at.here }

pub nearer : (domain t : ℕ) (x : Entry) (later : List Entry) (i : ℕ) (e : Entry) → At domain t (x ∷ later) (suc i) e → At domain t later i e
nearer domain t x later i e at = record { there = at.there; alive = at.alive; here = at.here }

pub seen_there : (domain t : ℕ) (entries : List Entry) (x : LiveView) → In x (lives_of domain t entries)
    → (i : ℕ) × (e : Entry) × At domain t entries i e × (x ≡ seen_at entries i e)
seen_there domain t [] x is = absurd is
seen_there domain t (e ∷ later) x is =
    let rest = lives_of domain t later in
    let first = live t e (status e Open later) && (e.domain == domain) in
    elim (cases_Bool (live t e (status e Open later) && (e.domain == domain))) [
      | inl now ↦
          let parts = and_parts (live t e (status e Open later)) (e.domain == domain) now in
          elim (subst (In x) (lives_more domain t e later ∙ cond-true first (seen_at (e ∷ later) 0 e ∷ rest) rest now) is) [
            | inl same ↦ (0, e, record { there = refl; alive = parts.0; here = parts.1 }, same)
            | inr more ↦
                let go = seen_there domain t later x more in
                (suc go.0, go.1, further domain t e later go.0 go.1 go.2, go.3)
          ]
      | inr out ↦
          let go = seen_there domain t later x (subst (In x) (lives_more domain t e later ∙ cond-false first (seen_at (e ∷ later) 0 e ∷ rest) rest out) is) in
          (suc go.0, go.1, further domain t e later go.0 go.1 go.2, go.3)
    ]

pub there_seen : (domain t : ℕ) (entries : List Entry) (i : ℕ) (e : Entry) → At domain t entries i e → In (seen_at entries i e) (lives_of domain t entries)
there_seen domain t [] i e at = absurd (none-some e at.there)
there_seen domain t (x ∷ later) zero e at =
    let same : x ≡ e = same_Some x e at.there in
    let rest = lives_of domain t later in
    let now : (live t x (status x Open later) && (x.domain == domain)) ≡ true =
    ap (λ (y : Entry). live t y (status y Open later) && (y.domain == domain)) same
    ∙ and_from (live t e (status e Open later)) (e.domain == domain) at.alive at.here in
    subst
    (In (seen_at (x ∷ later) 0 e))
    (sym (lives_more domain t x later
    ∙ cond-true (live t x (status x Open later) && (x.domain == domain)) (seen_at (x ∷ later) 0 x ∷ rest) rest now))
    (inl (ap (λ (y : Entry). seen_at (x ∷ later) 0 y) (sym same)))
there_seen domain t (x ∷ later) (suc i) e at =
    let go = there_seen domain t later i e (nearer domain t x later i e at) in
    let rest = lives_of domain t later in
    subst
    (In (seen_at later i e))
    (sym (lives_more domain t x later))
    (cond_both
    (live t x (status x Open later) && (x.domain == domain))
    (seen_at (x ∷ later) 0 x ∷ rest)
    rest
    (In (seen_at later i e))
    (λ now. inr go)
    (λ out. go))

-- ---- in the words of places
put_at : (domain t : ℕ) (entries : List Entry) (i : ℕ) (e : Entry) → At domain t entries i e → e.change ≡ change.Put (seen_at entries i e).put
put_at domain t entries i e at = put_there e.change (live_puts t e (status_at entries i e) at.alive)

pub lives_at : (domain t : ℕ) (entries : List Entry) (i : ℕ) (e : Entry) → At domain t entries i e → LivesIn domain t entries i e (seen_at entries i e).put
lives_at domain t entries i e at = record {
  live = live_at_place entries i t e at.there at.alive;
  of_domain = eqb-true e.domain domain at.here;
  puts = put_at domain t entries i e at;
}

there_of : (entries : List Entry) (i t : ℕ) (e : Entry) → Live entries i t e → slice_get entries i ≡ Some e
there_of entries i t e (inl st) = st.there
there_of entries i t e (inr te) = te.there

pub at_lives : (domain t : ℕ) (entries : List Entry) (i : ℕ) (e : Entry) (put : Put) → LivesIn domain t entries i e put → At domain t entries i e
at_lives domain t entries i e put lives = record {
  there = there_of entries i t e lives.live;
  alive = place_is_live entries i t e lives.live;
  here = eq-eqb e.domain domain lives.of_domain;
}

pub same_put : (entries : List Entry) (i : ℕ) (e : Entry) (put : Put) → e.change ≡ change.Put put → (seen_at entries i e).put ≡ put
same_put entries i e put is = ap (λ c. put_or_nothing (put_of c)) is

-- what stands is open, and what terminates isn't
open_of : (entries : List Entry) (i t : ℕ) (e : Entry) (s : Status) → Stands entries i t e → Fate e (drop (suc i) entries) s → is_open s ≡ true
open_of entries i t e Open st fate = refl
open_of entries i t e Ended st fate =
    absurd (both_ways
    (ends e fate.entry)
    (st.not_ended (suc i + fate.place) fate.entry (omega arith) (after_place i entries fate.place fate.entry fate.found))
    fate.passes)
open_of entries i t e (Withdrawn at) st fate =
    let taken = fate.1 in
    absurd (both_ways
    (withdraws e taken.entry)
    (st.not_withdrawn (suc i + taken.place) taken.entry (omega arith) (after_place i entries taken.place taken.entry taken.found))
    taken.passes)

pub standing_at : (entries : List Entry) (i t : ℕ) (e : Entry) → Stands entries i t e → (seen_at entries i e).standing ≡ true
standing_at entries i t e st = open_of entries i t e (status_at entries i e) st (fate_of e (drop (suc i) entries))

not_terminating : (entries : List Entry) (i t : ℕ) (e : Entry) (s : Status) → Terminating entries i t e → Fate e (drop (suc i) entries) s → is_open s ≡ true → ⊥
not_terminating entries i t e Open te fate is =
    both_ways
    (withdraws e te.withdrawal)
    (fate.1 (te.place - suc i) te.withdrawal (to_after i entries te.place te.withdrawal te.later te.found))
    te.is_withdrawal
not_terminating entries i t e Ended te fate is = false≢true is
not_terminating entries i t e (Withdrawn at) te fate is = false≢true is

stands_of : (entries : List Entry) (i t : ℕ) (e : Entry) → Live entries i t e → (seen_at entries i e).standing ≡ true → Stands entries i t e
stands_of entries i t e (inl st) is = st
stands_of entries i t e (inr te) is =
    absurd (not_terminating entries i t e (status_at entries i e) te (fate_of e (drop (suc i) entries)) is)

pub stands_at : (domain t : ℕ) (entries : List Entry) (i : ℕ) (e : Entry) → At domain t entries i e → (seen_at entries i e).standing ≡ true
    → StandsIn domain t entries i e (seen_at entries i e).put
stands_at domain t entries i e at is =
    let lives = lives_at domain t entries i e at in
    record { stands = stands_of entries i t e lives.live is; of_domain = lives.of_domain; puts = lives.puts }

pub lives_of_standing : (domain t : ℕ) (entries : List Entry) (i : ℕ) (e : Entry) (put : Put) → StandsIn domain t entries i e put → LivesIn domain t entries i e put
lives_of_standing domain t entries i e put stands = record { live = inl stands.stands; of_domain = stands.of_domain; puts = stands.puts }

-- ---- numbers of places
pub number_by : (P Q : ℕ → Type 0) → ((i : ℕ) → P i → Q i) → ((i : ℕ) → Q i → P i) → (i places n : ℕ) → Number P i places n → Number Q i places n
number_by P Q to from i zero n is = is
number_by P Q to from i (suc places) n (inl has) = inl (to i has.0, (has.1.0, has.1.1, number_by P Q to from (suc i) places has.1.0 has.1.2))
number_by P Q to from i (suc places) n (inr out) = inr (λ q. out.0 (from i q), number_by P Q to from (suc i) places n out.1)

shifted : (P Q : ℕ → Type 0) → ((i : ℕ) → P i → Q (suc i)) → ((i : ℕ) → Q (suc i) → P i) → (i places n : ℕ) → Number P i places n → Number Q (suc i) places n
shifted P Q to from i zero n is = is
shifted P Q to from i (suc places) n (inl has) = inl (to i has.0, (has.1.0, has.1.1, shifted P Q to from (suc i) places has.1.0 has.1.2))
shifted P Q to from i (suc places) n (inr out) = inr (λ q. out.0 (from i q), shifted P Q to from (suc i) places n out.1)

pub one_number : (P : ℕ → Type 0) (i places n m : ℕ) → Number P i places n → Number P i places m → n ≡ m
one_number P i zero n m one other = one ∙ sym other
one_number P i (suc places) n m (inl a) (inl b) =
    a.1.1 ∙ ap suc (one_number P (suc i) places a.1.0 b.1.0 a.1.2 b.1.2) ∙ sym b.1.1
one_number P i (suc places) n m (inl a) (inr b) = absurd (b.0 a.0)
one_number P i (suc places) n m (inr a) (inl b) = absurd (a.0 b.0)
one_number P i (suc places) n m (inr a) (inr b) = one_number P (suc i) places n m a.1 b.1

-- at place i is one that passes
abbrev pub PassesAt : ℕ → ℕ → (LiveView → Bool) → List Entry → ℕ → Type 0
PassesAt domain t test entries i = (e : Entry) × At domain t entries i e × (test (seen_at entries i e) ≡ true)

passing_number : (domain t : ℕ) (test : LiveView → Bool) (entries : List Entry)
    → Number (PassesAt domain t test entries) 0 (length entries) (tally test (lives_of domain t entries))
passing_number domain t test [] = refl
passing_number domain t test (x ∷ later) =
    let rest = lives_of domain t later in
    let own = seen_at (x ∷ later) 0 x in
    let first = live t x (status x Open later) && (x.domain == domain) in
    let beyond = shifted
    (PassesAt domain t test later)
    (PassesAt domain t test (x ∷ later))
    (λ i has. (has.0, further domain t x later i has.0 has.1, has.2))
    (λ i has. (has.0, nearer domain t x later i has.0 has.1, has.2))
    0
    (length later)
    (tally test rest)
    (passing_number domain t test later) in
    subst
    (λ xs. Number (PassesAt domain t test (x ∷ later)) 0 (suc (length later)) (tally test xs))
    (sym (lives_more domain t x later))
    (cond_both
    (live t x (status x Open later) && (x.domain == domain))
    (own ∷ rest)
    rest
    (λ xs. Number (PassesAt domain t test (x ∷ later)) 0 (suc (length later)) (tally test xs))
    (λ now. by_test (test own) refl now beyond)
    (λ out.
    inr (
      λ has.
          let same : x ≡ has.0 = same_Some x has.0 has.1.there in
          both_ways
          (live t x (status x Open later) && (x.domain == domain))
          out
          (ap (λ (y : Entry). live t y (status y Open later) && (y.domain == domain)) same
          ∙ and_from (live t has.0 (status has.0 Open later)) (has.0.domain == domain) has.1.alive has.1.here),
      beyond,
    )))
  where
    by_test : (b : Bool) → test (seen_at (x ∷ later) 0 x) ≡ b → (live t x (status x Open later) && (x.domain == domain)) ≡ true
        → Number (PassesAt domain t test (x ∷ later)) 1 (length later) (tally test (lives_of domain t later))
        → Number (PassesAt domain t test (x ∷ later)) 0 (suc (length later)) (cond (test (seen_at (x ∷ later) 0 x)) 1 0 + tally test (lives_of domain t later))
    by_test true is now beyond =
        let parts = and_parts (live t x (status x Open later)) (x.domain == domain) now in
        let one_more : 1 + tally test (lives_of domain t later) ≡ suc (tally test (lives_of domain t later)) = omega arith in
        let more : cond (test (seen_at (x ∷ later) 0 x)) 1 0 + tally test (lives_of domain t later) ≡ suc (tally test (lives_of domain t later)) =
        ap (λ b. cond b 1 0 + tally test (lives_of domain t later)) is ∙ one_more in
        inl ((x, record { there = refl; alive = parts.0; here = parts.1 }, is), (tally test (lives_of domain t later), more, beyond))
    by_test false out now beyond =
        let none_more : tally test (lives_of domain t later) ≡ 0 + tally test (lives_of domain t later) = omega arith in
        let same : tally test (lives_of domain t later) ≡ cond (test (seen_at (x ∷ later) 0 x)) 1 0 + tally test (lives_of domain t later) =
        none_more ∙ sym (ap (λ b. cond b 1 0 + tally test (lives_of domain t later)) out) in
        inr (
          λ has.
              let one : x ≡ has.0 = same_Some x has.0 has.1.there in
              both_ways (test (seen_at (x ∷ later) 0 x)) out (ap (λ (y : Entry). test (seen_at (x ∷ later) 0 y)) one ∙ has.2),
          subst (Number (PassesAt domain t test (x ∷ later)) 1 (length later)) same beyond,
        )

-- So many of them pass as there are places.
pub number_passing : (domain t : ℕ) (test : LiveView → Bool) (entries : List Entry)
    → Number (PassesAt domain t test entries) 0 (length entries) (count_by test (lives_of domain t entries))
number_passing domain t test entries =
    subst
    (Number (PassesAt domain t test entries) 0 (length entries))
    (counted test (lives_of domain t entries))
    (passing_number domain t test entries)
