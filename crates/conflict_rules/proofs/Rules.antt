-- Each rule for a request holds of the live mitigations of the domain exactly where it does by their places.
use Rattle.std.proofs.Common.{◌≡◌, ℕ, ◌+◌, ◌*◌, ◌<◌, ◌≤◌, Bool, true, false, cond, if◌then◌else◌, not, ◌&&◌, ◌||◌, List, [], ◌∷◌, map, filter, length, Option, Some, None, inl, inr, refl, sym, ap, ◌∙◌, subst, arith}
use Rattle.std.specs.Prelude.{◌==◌, ◌≢◌, slice_get, option_map, nat_lt, nat_le, max, bytes_eq}
use Rattle.std.specs.List.{list_any, find}
use Rattle.std.proofs.lemmas.Bool.{false≢true, both_ways, cond_both, cond-true, cond-false, cases_Bool, cases_order, and_parts, and_from, or_left, or_right, or_cases, or_from, or_parts, eqb-true, eq-eqb, ne_eqb, ltb-true, lt-ltb, false_from_ne_true}
use Rattle.std.proofs.lemmas.Option.{none-some, same_Some}
use Rattle.std.proofs.lemmas.Slice.Eq.{bytes_eq-Decides}
use Rattle.ip_scope.specs.Prefix.{PrefixValue, meets}
use Rattle.acl_lists.specs.Fates.{greatest, greatest_from}
use Rattle.dots_history.specs.declared.entry.Entry.{Entry}
use Rattle.dots_history.specs.declared.put.Put.{Put}
use Rattle.dots_history.specs.declared.change.Change.TheVariants as change
use Rattle.dots_history.specs.Entries.{some_prefix, ends, replaces, same_client, option_any, put_of}
use Rattle.dots_history.specs.Histories.{held}
use Rattle.dots_history.specs.Tables.{Client}
use Rattle.dots_history.proofs.Members.{In, any_of, in_map}
use Rattle.conflict_rules.specs.declared.live.Live.{Live}
use Rattle.conflict_rules.specs.Live.{is_of, stands_for, stands_against, would_end}
use Rattle.conflict_rules.specs.ByMid as by_mid
use Rattle.conflict_rules.specs.ByMid.{has_mid}
use Rattle.conflict_rules.specs.ByOverlap.{rivals, is_higher, is_contested, resolved, meets_another, bits, staying, own_staying}
use Rattle.conflict_rules.proofs.Contesting.{contested_marked}
use Rattle.conflict_rules.specs.Lives.{lives_of, put_or_nothing}
use Rattle.dots_history.specs.Held.{registers, is_of_another}
use Rattle.conflict_rules.specs.ByHistory.{collides}
use Rattle.conflict_rules.specs.Judgements.{StandsIn, IsTaken, by_mitigation, by_registration, HasMid, IsHigher, Meets, Those, Stays, StaysOwn, Number}
use Rattle.conflict_rules.proofs.LivePlaces.{At, PassesAt, seen_at, in_found, in_any, seen_there, there_seen, lives_at, at_lives, same_put, standing_at, stands_at, lives_of_standing, number_by, number_passing}
use Rattle.conflict_rules.proofs.HeldPlaces.{registered_found, found_registered}

-- ---- small steps
not_is : (b : Bool) → not b ≡ true → b ≡ false
not_is true is = absurd (false≢true is)
not_is false is = refl

other_number : (a b : ℕ) → not (a == b) ≡ true → a ≢ b
other_number a b is same = both_ways (a == b) (not_is (a == b) is) (eq-eqb a b same)

number_other : (a b : ℕ) → a ≢ b → not (a == b) ≡ true
number_other a b other = ap not (ne_eqb a b other)

own_bytes : (a b : List ℕ) → bytes_eq a b ≡ true → a ≡ b
own_bytes a b is = (bytes_eq-Decides a b).0 is

bytes_own : (a b : List ℕ) → a ≡ b → bytes_eq a b ≡ true
bytes_own a b is = (bytes_eq-Decides a b).1 is

other_bytes : (a b : List ℕ) → bytes_eq a b ≡ false → a ≢ b
other_bytes a b out same = both_ways (bytes_eq a b) out (bytes_own a b same)

bytes_other : (a b : List ℕ) → a ≢ b → bytes_eq a b ≡ false
bytes_other a b other = false_from_ne_true (bytes_eq a b) (λ is. other (own_bytes a b is))

pub found_some : {A : Type 0} (test : A → Bool) (xs : List A) → list_any test xs ≡ true → (x : A) × (find test xs ≡ Some x)
found_some test [] is = absurd (false≢true is)
found_some test (y ∷ ys) is =
    elim (cases_Bool (test y)) [
      | inl here ↦ (y, cond-true (test y) (Some y) (find test ys) here)
      | inr out ↦
          elim (or_cases (test y) (list_any test ys) is) [
            | inl now ↦ absurd (both_ways (test y) out now)
            | inr more ↦ let go = found_some test ys more in (go.0, cond-false (test y) (Some y) (find test ys) out ∙ go.1)
          ]
    ]

of_map : {A B : Type 0} (f : A → B) (xs : List A) (y : B) → In y (map f xs) → (x : A) × In x xs × (y ≡ f x)
of_map f [] y is = absurd is
of_map f (x ∷ xs) y (inl same) = (x, inl refl, same)
of_map f (x ∷ xs) y (inr more) = let go = of_map f xs y more in (go.0, inr go.1, go.2)

filter_by : {A : Type 0} (test : A → Bool) (y : A) (ys : List A) (x : A) (b : Bool) → test y ≡ b → (In x (filter test ys) → In x ys × (test x ≡ true))
    → In x (cond b (y ∷ filter test ys) (filter test ys)) → In x (y ∷ ys) × (test x ≡ true)
filter_by test y ys x true now go (inl same) = (inl same, ap test same ∙ now)
filter_by test y ys x true now go (inr more) = let one = go more in (inr one.0, one.1)
filter_by test y ys x false out go more = let one = go more in (inr one.0, one.1)

of_filter : {A : Type 0} (test : A → Bool) (xs : List A) (x : A) → In x (filter test xs) → In x xs × (test x ≡ true)
of_filter test [] x is = absurd is
of_filter test (y ∷ ys) x is = filter_by test y ys x (test y) refl (λ more. of_filter test ys x more) is

to_filter : {A : Type 0} (test : A → Bool) (xs : List A) (x : A) → In x xs → test x ≡ true → In x (filter test xs)
to_filter test [] x is now = is
to_filter test (y ∷ ys) x (inl same) now =
    subst (In x) (sym (cond-true (test y) (y ∷ filter test ys) (filter test ys) (ap test (sym same) ∙ now))) (inl same)
to_filter test (y ∷ ys) x (inr more) now =
    let go = to_filter test ys x more now in
    cond_both (test y) (y ∷ filter test ys) (filter test ys) (In x) (λ here. inr go) (λ out. go)

replaced : (a b : Put) → replaces (change.Put a) (change.Put b) ≡ ((a.mid == b.mid) || rivals a b)
unfolding replaces
replaced a b = refl

unended_by : (a b : Bool) → not (a && b) ≡ true → a ≡ true → b ≡ false
unended_by true b is now = not_is b is
unended_by false b is now = absurd (false≢true now)

by_unended : (a b : Bool) → (a ≡ true → b ≡ false) → not (a && b) ≡ true
by_unended true b leads = ap not (leads refl)
by_unended false b leads = refl

unending : (wants p q : Put) → p ≡ q → (q.mid ≢ wants.mid) × (rivals q wants ≡ false) → replaces (change.Put p) (change.Put wants) ≡ false
unending wants p q same unended =
    ap (λ (x : Put). replaces (change.Put x) (change.Put wants)) same
    ∙ replaced q wants
    ∙ or_from (q.mid == wants.mid) (rivals q wants) (ne_eqb q.mid wants.mid unended.0) unended.1

ends_by_mid : (a b : Entry) (one other : Put) → a.domain ≡ b.domain → a.cuid ≡ b.cuid → a.change ≡ change.Put one → b.change ≡ change.Put other → one.mid ≡ other.mid
    → ends a b ≡ true
unfolding ends same_client
ends_by_mid a b one other domain cuid puts_a puts_b mid =
    and_from
    ((a.domain == b.domain) && bytes_eq a.cuid b.cuid)
    (replaces a.change b.change)
    (and_from (a.domain == b.domain) (bytes_eq a.cuid b.cuid) (eq-eqb a.domain b.domain domain) (bytes_own a.cuid b.cuid cuid))
    (ap (λ c. replaces c b.change) puts_a
    ∙ ap (λ c. replaces (change.Put one) c) puts_b
    ∙ replaced one other
    ∙ or_left (one.mid == other.mid) (rivals one other) (eq-eqb one.mid other.mid mid))

module _ (t : ℕ) (entries : List Entry) (client : Client) where
  abbrev pub lives : List Live
  lives = lives_of client.domain t entries

  -- one of them passes where one at a place does
  any_at : (test : Live → Bool) (i : ℕ) (e : Entry) → At client.domain t entries i e → test (seen_at entries i e) ≡ true → list_any test lives ≡ true
  any_at test i e at is = any_of test (seen_at entries i e) lives (there_seen client.domain t entries i e at) is

  at_any : (test : Live → Bool) → list_any test lives ≡ true → (i : ℕ) × (e : Entry) × At client.domain t entries i e × (test (seen_at entries i e) ≡ true)
  at_any test is =
      let one = in_any test lives is in
      let at = seen_there client.domain t entries one.0 one.1 in
      (at.0, at.1, at.2, ap test (sym at.3) ∙ one.2)

  -- ---- the client's name
  abbrev is_anothers : ℕ → Live → Bool
  is_anothers peer m = is_of client.cuid m && not (m.peer == peer)

  registered_by : (peer : ℕ) (o : Option Entry) → find (registers client) (held entries) ≡ o
      → option_any (λ other. not (other == peer)) (option_map (λ (e : Entry). e.peer) o) ≡ true → IsTaken t entries client peer
  registered_by peer None found is = absurd (false≢true is)
  registered_by peer (Some e) found is =
      let one = registered_found client entries e found in
      by_registration one.place e one.holds one.registers one.first (other_number e.peer peer is)

  pub collides_taken : (peer : ℕ) → collides t entries peer client ≡ true → IsTaken t entries client peer
  collides_taken peer is =
      elim (or_cases (by_mid.collides lives peer client.cuid) (is_of_another peer client (held entries)) is) [
        | inl live ↦
            let one = at_any (is_anothers peer) live in
            let parts = and_parts (bytes_eq one.1.cuid client.cuid) (not (one.1.peer == peer)) one.3 in
            by_mitigation
            one.0
            one.1
            (seen_at entries one.0 one.1).put
            (lives_at client.domain t entries one.0 one.1 one.2)
            (own_bytes one.1.cuid client.cuid parts.0)
            (other_number one.1.peer peer parts.1)
        | inr registered ↦ registered_by peer (find (registers client) (held entries)) refl registered
      ]

  pub taken_collides : (peer : ℕ) → IsTaken t entries client peer → collides t entries peer client ≡ true
  taken_collides peer (by_mitigation i e put live cuid other) =
      or_left
      (by_mid.collides lives peer client.cuid)
      (is_of_another peer client (held entries))
      (any_at
      (is_anothers peer)
      i
      e
      (at_lives client.domain t entries i e put live)
      (and_from (bytes_eq e.cuid client.cuid) (not (e.peer == peer)) (bytes_own e.cuid client.cuid cuid) (number_other e.peer peer other)))
  taken_collides peer (by_registration i e holds is first other) =
      or_right
      (by_mid.collides lives peer client.cuid)
      (is_of_another peer client (held entries))
      (ap
      (λ o. option_any (λ (n : ℕ). not (n == peer)) (option_map (λ (x : Entry). x.peer) o))
      (found_registered client entries e (record { place = i; holds = holds; registers = is; first = first }))
      ∙ number_other e.peer peer other)

  -- ---- the mid
  pub mid_there : (mid : ℕ) (m : Live) → find (has_mid client.cuid mid) lives ≡ Some m → HasMid t entries client mid m.put
  mid_there mid m found =
      let one = in_found (has_mid client.cuid mid) lives m found in
      let at = seen_there client.domain t entries m one.0 in
      let parts = and_parts (stands_for client.cuid m) (m.put.mid == mid) one.1 in
      let standing = and_parts m.standing (is_of client.cuid m) parts.0 in
      let seen = at.3 in
      let stands : StandsIn client.domain t entries at.0 at.1 (seen_at entries at.0 at.1).put =
      stands_at client.domain t entries at.0 at.1 at.2 (ap (λ (x : Live). x.standing) (sym seen) ∙ standing.0) in
      record {
        place = at.0;
        entry = at.1;
        stands = subst (λ (x : Live). StandsIn client.domain t entries at.0 at.1 x.put) (sym seen) stands;
        of_client = own_bytes at.1.cuid client.cuid (ap (λ (x : Live). bytes_eq x.cuid client.cuid) (sym seen) ∙ standing.1);
        of_mid = eqb-true m.put.mid mid parts.1;
      }

  pub there_mid : (mid : ℕ) (put : Put) → HasMid t entries client mid put → list_any (has_mid client.cuid mid) lives ≡ true
  there_mid mid put has =
      let i = has.place in
      let e = has.entry in
      let same : (seen_at entries i e).put ≡ put = same_put entries i e put has.stands.puts in
      any_at
      (has_mid client.cuid mid)
      i
      e
      (at_lives client.domain t entries i e put (lives_of_standing client.domain t entries i e put has.stands))
      (and_from
      (stands_for client.cuid (seen_at entries i e))
      ((seen_at entries i e).put.mid == mid)
      (and_from
      (seen_at entries i e).standing
      (bytes_eq e.cuid client.cuid)
      (standing_at entries i t e has.stands.stands)
      (bytes_own e.cuid client.cuid has.of_client))
      (eq-eqb (seen_at entries i e).put.mid mid (ap (λ (p : Put). p.mid) same ∙ has.of_mid)))

  never_two : (mid : ℕ) (one other : Put) (a : HasMid t entries client mid one) (b : HasMid t entries client mid other) → a.place < b.place → ⊥
  never_two mid one other a b less =
      both_ways
      (ends a.entry b.entry)
      (a.stands.stands.not_ended b.place b.entry less b.stands.stands.there)
      (ends_by_mid
      a.entry
      b.entry
      one
      other
      (a.stands.of_domain ∙ sym b.stands.of_domain)
      (a.of_client ∙ sym b.of_client)
      a.stands.puts
      b.stands.puts
      (a.of_mid ∙ sym b.of_mid))

  -- at most one stands of a mid
  pub one_of_mid : (mid : ℕ) (one other : Put) → HasMid t entries client mid one → HasMid t entries client mid other → one ≡ other
  one_of_mid mid one other a b =
      elim (cases_order a.place b.place) [
        | inl same ↦
            let entry : a.entry ≡ b.entry =
            same_Some a.entry b.entry (sym a.stands.stands.there ∙ ap (slice_get entries) same ∙ b.stands.stands.there) in
            ap (λ c. put_or_nothing (put_of c)) (sym a.stands.puts ∙ ap (λ (e : Entry). e.change) entry ∙ b.stands.puts)
        | inr (inl less) ↦ absurd (never_two mid one other a b less)
        | inr (inr more) ↦ absurd (never_two mid other one b a more)
      ]

  -- one stands
  pub mid_stands : (mid : ℕ) → list_any (has_mid client.cuid mid) lives ≡ true → (put : Put) × HasMid t entries client mid put
  mid_stands mid is =
      let one = found_some (has_mid client.cuid mid) lives is in (one.0.put, mid_there mid one.0 one.1)

  -- ---- a higher mid
  pub higher_there : (wants : Put) (i : ℕ) (e : Entry) → At client.domain t entries i e → is_higher client.cuid wants (seen_at entries i e) ≡ true
      → IsHigher t entries client wants (seen_at entries i e).put.mid
  higher_there wants i e at is =
      let m = seen_at entries i e in
      let parts = and_parts (stands_for client.cuid m) (nat_lt wants.mid m.put.mid && rivals m.put wants) is in
      let standing = and_parts m.standing (bytes_eq e.cuid client.cuid) parts.0 in
      let more = and_parts (nat_lt wants.mid m.put.mid) (rivals m.put wants) parts.1 in
      record {
        place = i;
        entry = e;
        put = m.put;
        stands = stands_at client.domain t entries i e at standing.0;
        of_client = own_bytes e.cuid client.cuid standing.1;
        of_mid = refl;
        higher = ltb-true wants.mid m.put.mid more.0;
        overlapping = more.1;
      }

  abbrev pub higher_mids : Put → List ℕ
  higher_mids wants = map (λ (m : Live). m.put.mid) (filter (is_higher client.cuid wants) lives)

  pub in_higher : (wants : Put) (mid : ℕ) → In mid (higher_mids wants) → IsHigher t entries client wants mid
  in_higher wants mid is =
      let mapped = of_map (λ (m : Live). m.put.mid) (filter (is_higher client.cuid wants) lives) mid is in
      let kept = of_filter (is_higher client.cuid wants) lives mapped.0 mapped.1 in
      let at = seen_there client.domain t entries mapped.0 kept.0 in
      let there = higher_there wants at.0 at.1 at.2 (ap (is_higher client.cuid wants) (sym at.3) ∙ kept.1) in
      subst (IsHigher t entries client wants) (ap (λ (m : Live). m.put.mid) (sym at.3) ∙ sym mapped.2) there

  pub higher_in : (wants : Put) (mid : ℕ) → IsHigher t entries client wants mid → In mid (higher_mids wants)
  higher_in wants mid has =
      let i = has.place in
      let e = has.entry in
      let m = seen_at entries i e in
      let same : m.put ≡ has.put = same_put entries i e has.put has.stands.puts in
      let at = at_lives client.domain t entries i e has.put (lives_of_standing client.domain t entries i e has.put has.stands) in
      let less : nat_lt wants.mid m.put.mid ≡ true =
      ap (λ (p : Put). nat_lt wants.mid p.mid) same ∙ ap (λ n. nat_lt wants.mid n) has.of_mid ∙ lt-ltb wants.mid mid has.higher in
      let passes : is_higher client.cuid wants m ≡ true =
      and_from
      (stands_for client.cuid m)
      (nat_lt wants.mid m.put.mid && rivals m.put wants)
      (and_from m.standing (bytes_eq e.cuid client.cuid) (standing_at entries i t e has.stands.stands) (bytes_own e.cuid client.cuid has.of_client))
      (and_from
      (nat_lt wants.mid m.put.mid)
      (rivals m.put wants)
      less
      (ap (λ (p : Put). rivals p wants) same ∙ has.overlapping)) in
      subst
      (λ n. In n (higher_mids wants))
      (ap (λ (p : Put). p.mid) same ∙ has.of_mid)
      (in_map
      (λ (x : Live). x.put.mid)
      m
      (filter (is_higher client.cuid wants) lives)
      (to_filter (is_higher client.cuid wants) lives m (there_seen client.domain t entries i e at) passes))

  -- ---- other clients
  pub meets_there : (prefix : PrefixValue) → meets_another lives client.cuid prefix ≡ true → Meets t entries client prefix
  meets_there prefix is =
      let one = at_any (λ (m : Live). stands_against client.cuid m && some_prefix (meets prefix) m.put.targets) is in
      let m = seen_at entries one.0 one.1 in
      let parts = and_parts (stands_against client.cuid m) (some_prefix (meets prefix) m.put.targets) one.3 in
      let against = and_parts m.standing (not (bytes_eq one.1.cuid client.cuid)) parts.0 in
      record {
        place = one.0;
        entry = one.1;
        put = m.put;
        stands = stands_at client.domain t entries one.0 one.1 one.2 against.0;
        of_another = other_bytes one.1.cuid client.cuid (not_is (bytes_eq one.1.cuid client.cuid) against.1);
        meeting = parts.1;
      }

  pub there_meets : (prefix : PrefixValue) → Meets t entries client prefix → meets_another lives client.cuid prefix ≡ true
  there_meets prefix has =
      let i = has.place in
      let e = has.entry in
      let m = seen_at entries i e in
      let same : m.put ≡ has.put = same_put entries i e has.put has.stands.puts in
      any_at
      (λ (x : Live). stands_against client.cuid x && some_prefix (meets prefix) x.put.targets)
      i
      e
      (at_lives client.domain t entries i e has.put (lives_of_standing client.domain t entries i e has.put has.stands))
      (and_from
      (stands_against client.cuid m)
      (some_prefix (meets prefix) m.put.targets)
      (and_from
      m.standing
      (not (bytes_eq e.cuid client.cuid))
      (standing_at entries i t e has.stands.stands)
      (ap not (bytes_other e.cuid client.cuid has.of_another)))
      (ap (λ (p : Put). some_prefix (meets prefix) p.targets) same ∙ has.meeting))

  pub those_meet : (prefixes : List PrefixValue) → Those (Meets t entries client) prefixes (filter (meets_another lives client.cuid) prefixes)
  those_meet [] = refl
  those_meet (p ∷ ps) =
      let rest = filter (meets_another lives client.cuid) ps in
      let go = those_meet ps in
      cond_both
      (meets_another lives client.cuid p)
      (p ∷ rest)
      rest
      (Those (Meets t entries client) (p ∷ ps))
      (λ is. inl (meets_there p is, (rest, refl, go)))
      (λ out. inr (λ has. both_ways (meets_another lives client.cuid p) out (there_meets p has), go))

  pub meet_those : (prefixes those : List PrefixValue) → Those (Meets t entries client) prefixes those → those ≡ filter (meets_another lives client.cuid) prefixes
  meet_those [] those is = is
  meet_those (p ∷ ps) those (inl has) =
      let rest = filter (meets_another lives client.cuid) ps in
      has.1.1
      ∙ ap (λ more. p ∷ more) (meet_those ps has.1.0 has.1.2)
      ∙ sym (cond-true (meets_another lives client.cuid p) (p ∷ rest) rest (there_meets p has.0))
  meet_those (p ∷ ps) those (inr out) =
      let rest = filter (meets_another lives client.cuid) ps in
      meet_those ps those out.1
      ∙ sym (cond-false
      (meets_another lives client.cuid p)
      (p ∷ rest)
      rest
      (false_from_ne_true (meets_another lives client.cuid p) (λ is. out.0 (meets_there p is))))

  -- ---- those that stay
  stays_of : (wants : Put) (i : ℕ) (e : Entry) → At client.domain t entries i e → (bytes_eq e.cuid client.cuid ≡ true → (((seen_at entries i e).put.mid == wants.mid) || rivals (seen_at entries i e).put wants) ≡ false)
      → e.cuid ≡ client.cuid → ((seen_at entries i e).put.mid ≢ wants.mid) × (rivals (seen_at entries i e).put wants ≡ false)
  stays_of wants i e at out own =
      let m = seen_at entries i e in
      let parts = or_parts (m.put.mid == wants.mid) (rivals m.put wants) (out (bytes_own e.cuid client.cuid own)) in
      (λ same. both_ways (m.put.mid == wants.mid) parts.0 (eq-eqb m.put.mid wants.mid same), parts.1)

  stays_there : (wants : Put) (i : ℕ) → PassesAt client.domain t (λ m. not (would_end client.cuid wants m)) entries i → Stays t entries client wants i
  stays_there wants i has =
      let e = has.0 in
      let m = seen_at entries i e in
      record {
        entry = e;
        put = m.put;
        lives = lives_at client.domain t entries i e has.1;
        unended = stays_of wants i e has.1 (λ own.
            sym (replaced m.put wants) ∙ unended_by (bytes_eq e.cuid client.cuid) (replaces (change.Put m.put) (change.Put wants)) has.2 own);
      }

  there_stays : (wants : Put) (i : ℕ) → Stays t entries client wants i → PassesAt client.domain t (λ m. not (would_end client.cuid wants m)) entries i
  there_stays wants i has =
      let e = has.entry in
      let m = seen_at entries i e in (
        e,
        at_lives client.domain t entries i e has.put has.lives,
        by_unended
            (bytes_eq e.cuid client.cuid)
            (replaces (change.Put m.put) (change.Put wants))
            (λ own. unending wants m.put has.put (same_put entries i e has.put has.lives.puts) (has.unended (own_bytes e.cuid client.cuid own))),
      )

  own_there : (wants : Put) (i : ℕ) → PassesAt client.domain t (λ m. is_of client.cuid m && not (would_end client.cuid wants m)) entries i → StaysOwn t entries client wants i
  own_there wants i has =
      let e = has.0 in
      let m = seen_at entries i e in
      let parts = and_parts (bytes_eq e.cuid client.cuid) (not (would_end client.cuid wants m)) has.2 in
      record {
        entry = e;
        put = m.put;
        lives = lives_at client.domain t entries i e has.1;
        of_client = own_bytes e.cuid client.cuid parts.0;
        unended = stays_of
            wants
            i
            e
            has.1
            (λ own. sym (replaced m.put wants) ∙ unended_by (bytes_eq e.cuid client.cuid) (replaces (change.Put m.put) (change.Put wants)) parts.1 own)
            (own_bytes e.cuid client.cuid parts.0);
      }

  there_own : (wants : Put) (i : ℕ) → StaysOwn t entries client wants i → PassesAt client.domain t (λ m. is_of client.cuid m && not (would_end client.cuid wants m)) entries i
  there_own wants i has =
      let e = has.entry in
      let m = seen_at entries i e in (
        e,
        at_lives client.domain t entries i e has.put has.lives,
        and_from
            (bytes_eq e.cuid client.cuid)
            (not (would_end client.cuid wants m))
            (bytes_own e.cuid client.cuid has.of_client)
            (by_unended
            (bytes_eq e.cuid client.cuid)
            (replaces (change.Put m.put) (change.Put wants))
            (λ own. unending wants m.put has.put (same_put entries i e has.put has.lives.puts) has.unended)),
      )

  pub number_staying : (wants : Put) → Number (Stays t entries client wants) 0 (length entries) (staying lives client.cuid wants)
  number_staying wants =
      number_by
      (PassesAt client.domain t (λ m. not (would_end client.cuid wants m)) entries)
      (Stays t entries client wants)
      (stays_there wants)
      (there_stays wants)
      0
      (length entries)
      (staying lives client.cuid wants)
      (number_passing client.domain t (λ m. not (would_end client.cuid wants m)) entries)

  pub number_own : (wants : Put) → Number (StaysOwn t entries client wants) 0 (length entries) (own_staying lives client.cuid wants)
  number_own wants =
      number_by
      (PassesAt client.domain t (λ m. is_of client.cuid m && not (would_end client.cuid wants m)) entries)
      (StaysOwn t entries client wants)
      (own_there wants)
      (there_own wants)
      0
      (length entries)
      (own_staying lives client.cuid wants)
      (number_passing client.domain t (λ m. is_of client.cuid m && not (would_end client.cuid wants m)) entries)

-- ---- the greatest of some numbers
max_right : (a b : ℕ) → nat_le a b ≡ true → max a b ≡ b
max_right a b is = grind (arith, is)

max_left : (a b : ℕ) → nat_le a b ≡ false → max a b ≡ a
max_left a b is = grind (arith, is)

pub greatest_none : (xs : List ℕ) (k : ℕ) → greatest xs ≡ None → In k xs → ⊥
greatest_none [] k none is = absurd is
greatest_none (y ∷ ys) k none is = none-some (greatest_from y (greatest ys)) (sym none)

first_most : (x n : ℕ) (xs : List ℕ) → x ≡ n → ((k : ℕ) → In k xs → k ≤ n) → (k : ℕ) → In k (x ∷ xs) → k ≤ n
first_most x n xs same rest k (inl is) = omega (arith, is, same)
first_most x n xs same rest k (inr more) = rest k more

all_most : (x y n : ℕ) (xs : List ℕ) → max x y ≡ n → ((k : ℕ) → In k xs → k ≤ y) → (k : ℕ) → In k (x ∷ xs) → k ≤ n
all_most x y n xs larger go k (inl is) = omega (arith, is, larger)
all_most x y n xs larger go k (inr more) = let less = go k more in omega (arith, less, larger)

greatest_by : (x n : ℕ) (xs : List ℕ) (o : Option ℕ) → greatest xs ≡ o → ((y : ℕ) → greatest xs ≡ Some y → In y xs × ((k : ℕ) → In k xs → k ≤ y))
    → greatest_from x o ≡ n → In n (x ∷ xs) × ((k : ℕ) → In k (x ∷ xs) → k ≤ n)
greatest_by x n xs None none go most = (inl (sym most), first_most x n xs most (λ k more. absurd (greatest_none xs k none more)))
greatest_by x n xs (Some y) some go larger =
    let rest = go y some in
    elim (cases_Bool (nat_le x y)) [
      | inl less ↦ (inr (subst (λ k. In k xs) (sym (max_right x y less) ∙ larger) rest.0), all_most x y n xs larger rest.1)
      | inr more ↦ (inl (sym larger ∙ max_left x y more), all_most x y n xs larger rest.1)
    ]

pub greatest_in : (xs : List ℕ) (n : ℕ) → greatest xs ≡ Some n → In n xs × ((k : ℕ) → In k xs → k ≤ n)
greatest_in [] n is = absurd (none-some n is)
greatest_in (x ∷ xs) n is =
    greatest_by x n xs (greatest xs) refl (λ y some. greatest_in xs y some) (same_Some (greatest_from x (greatest xs)) n is)

greatest_only : (xs : List ℕ) (n : ℕ) (o : Option ℕ) → greatest xs ≡ o → In n xs → ((k : ℕ) → In k xs → k ≤ n) → greatest xs ≡ Some n
greatest_only xs n None none is most = absurd (greatest_none xs n none is)
greatest_only xs n (Some m) some is most =
    let both = greatest_in xs m some in
    let up : m ≤ n = most m both.0 in
    let down : n ≤ m = both.1 n is in
    let same : m ≡ n = omega (arith, up, down) in
    some ∙ ap Some same

pub in_greatest : (xs : List ℕ) (n : ℕ) → In n xs → ((k : ℕ) → In k xs → k ≤ n) → greatest xs ≡ Some n
in_greatest xs n is most = greatest_only xs n (greatest xs) refl is most

-- ---- contested, by the prefixes
bit_any : (b : Bool) (rest : ℕ) (some : Bool) → nat_lt 0 rest ≡ some → nat_lt 0 ((if b then 1 else 0) + 2 * rest) ≡ b || some
bit_any true rest some e = grind arith
bit_any false rest true e = grind (arith, e)
bit_any false rest false e = grind (arith, e)

bits_any : {A : Type 0} (test : A → Bool) (xs : List A) → nat_lt 0 (bits (map test xs)) ≡ list_any test xs
bits_any test [] = refl
bits_any test (x ∷ xs) = bit_any (test x) (bits (map test xs)) (list_any test xs) (bits_any test xs)

pub contested_by : (live : List Live) (cuid : List ℕ) (request : Put) → is_contested live cuid request ≡ list_any (meets_another live cuid) (resolved request.targets)
contested_by live cuid request = contested_marked live cuid request ∙ bits_any (meets_another live cuid) (resolved request.targets)

pub none_pass : {A : Type 0} (test : A → Bool) (xs : List A) → list_any test xs ≡ false → filter test xs ≡ []
none_pass test [] out = refl
none_pass test (x ∷ xs) out =
    let parts = or_parts (test x) (list_any test xs) out in
    cond-false (test x) (x ∷ filter test xs) (filter test xs) parts.0 ∙ none_pass test xs parts.1

is_empty : {A : Type 0} → List A → Bool
is_empty [] = true
is_empty (y ∷ ys) = false

not_nothing : {A : Type 0} (y : A) (ys : List A) → y ∷ ys ≡ [] → ⊥
unfolding is_empty
not_nothing y ys same = false≢true (ap is_empty same)

pub some_pass : {A : Type 0} (test : A → Bool) (xs : List A) → list_any test xs ≡ true → filter test xs ≢ []
some_pass test [] is none = false≢true is
some_pass test (x ∷ xs) is none =
    elim (cases_Bool (test x)) [
      | inl here ↦ not_nothing x (filter test xs) (sym (cond-true (test x) (x ∷ filter test xs) (filter test xs) here) ∙ none)
      | inr out ↦
          elim (or_cases (test x) (list_any test xs) is) [
            | inl here ↦ both_ways (test x) out here
            | inr more ↦ some_pass test xs more (sym (cond-false (test x) (x ∷ filter test xs) (filter test xs) out) ∙ none)
          ]
    ]
