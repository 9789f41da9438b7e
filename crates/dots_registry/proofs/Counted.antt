-- How many live mitigations there are after an entry that is granted or withdraws.
use Rattle.std.proofs.Common.{◌≡◌, ◌⊎◌, ℕ, suc, ◌+◌, ◌<◌, ◌≤◌, Bool, true, false, cond, not, ◌&&◌, ◌||◌, List, [], ◌∷◌, ◌++◌, map, Some, None, inl, inr, refl, sym, ap, ◌∙◌, subst, arith}
use Rattle.std.specs.Prelude.{◌==◌, nat_le, bytes_eq, option_to_list}
use Rattle.std.specs.List.{list_any, list_all}
use Rattle.std.proofs.lemmas.Bool.{false≢true, both_ways, cond_both, cond-true, cases_Bool, and_parts, and_from, or_left, or_right, or_cases, eqb-true, leb-false, false_from_ne_true}
use Rattle.dots_settings.specs.declared.limits.Limits.{Limits}
use Rattle.dots_settings.specs.Settings.{SettingsValue}
use Rattle.dots_history.specs.declared.entry.Entry.{Entry}
use Rattle.dots_history.specs.declared.put.Put.{Put}
use Rattle.dots_history.specs.declared.put.Target.{Target}
use Rattle.dots_history.specs.declared.change.Change.{Change}
use Rattle.dots_history.specs.declared.change.Change.TheVariants as change
use Rattle.dots_history.specs.declared.status.Status.{Status}
use Rattle.dots_history.specs.declared.status.Status.TheVariants.{Ended, Open, Withdrawn}
use Rattle.dots_history.specs.Entries.{same_client, put_of, ends, withdraws, replaces, is_loss}
use Rattle.dots_history.specs.Histories.{Mitigation, live, step, status, tally, mitigations}
use Rattle.dots_history.specs.Keeping.{moved}
use Rattle.dots_history.specs.Views.{mitigations_with, mitigations_of}
use Rattle.dots_history.proofs.Adding.{adding}
use Rattle.dots_history.proofs.Joining.{tally_same}
use Rattle.dots_history.proofs.Touching.{never_live, ends_parts}
use Rattle.conflict_rules.specs.declared.live.Live.{Live}
use Rattle.conflict_rules.specs.Wanted.{wanted}
use Rattle.conflict_rules.specs.Live.{is_of, stands_for, would_end}
use Rattle.conflict_rules.specs.ByMid.{has_mid}
use Rattle.conflict_rules.specs.ByOverlap.{rivals, staying, own_staying}
use Rattle.conflict_rules.proofs.Ending.{ended}
use Rattle.conflict_rules.specs.Lives.{live_of, lives_of}
use Rattle.live_mitigations.specs.LiveValues.{puts}
use Rattle.conflict_rules.proofs.Puts.{put_there, live_puts, counted}
use Rattle.held_resources.proofs.Holdings.{turned_eq, turned_bytes}
use Rattle.conflict_rules.specs.declared.judging.Judged.{Judged}
use Rattle.conflict_rules.specs.Requests.{Request, ClientValue}
use Rattle.conflict_rules.specs.Targets.{targets_of}
use Rattle.conflict_rules.specs.Judging.{granted_put}
use Rattle.dots_registry.proofs.Lists.{found_any}
use Rattle.dots_registry.proofs.Granted.{IsGranted, refreshes, begins}

-- ---- what an entry leaves: those that it doesn't end, and its own
dead_ended : (t : ℕ) (put : Entry) (s : Status) (e : Entry) → ends put e ≡ true → live t put (step put s e) ≡ false
dead_ended t put Ended e is = refl
dead_ended t put Open e is = ap (live t put) (cond-true (ends put e) Ended (cond (withdraws put e) (Withdrawn e.time) Open) is)
dead_ended t put (Withdrawn at) e is = ap (live t put) (cond-true (ends put e) Ended (Withdrawn at) is)

live_unended : (put : Entry) (s : Status) (e : Entry) → live e.time put (step put s e) ≡ true → ends put e ≡ false
live_unended put s e alive =
    false_from_ne_true (ends put e) (λ is. both_ways (live e.time put (step put s e)) (dead_ended e.time put s e is) alive)

at_most_one : (b : Bool) → cond b 1 0 ≤ 1
at_most_one true = omega arith
at_most_one false = omega arith

own_count : (q : Bool) (b : Bool) (x : Mitigation) (test : Mitigation → Bool) → test x ≡ q → tally test (cond b (x ∷ []) []) ≤ 0 + cond b 1 0
own_count q true x test is = let one = at_most_one (test x) in omega (arith, one)
own_count q false x test is = omega arith

at_least : (a b : Bool) → b ≡ false → cond a 1 0 ≤ cond (a && not b) 1 0
at_least true true is = absurd (false≢true (sym is))
at_least true false is = omega arith
at_least false b is = omega arith

pub left_by : (q : Entry → Bool) (e : Entry) (ms : List Mitigation)
    → tally (λ (m : Mitigation). q m.put) (mitigations_with e ms)
    ≤ tally (λ (m : Mitigation). q m.put && not (ends m.put e)) ms + cond (live e.time e Open) 1 0
left_by q e [] = own_count (q e) (live e.time e Open) (record { put = e; status = Open }) (λ (m : Mitigation). q m.put) refl
left_by q e (m ∷ ms) =
    let go = left_by q e ms in
    cond_both
    (live e.time m.put (step m.put m.status e))
    (moved e m ∷ mitigations_with e ms)
    (mitigations_with e ms)
    (λ ys. tally (λ (x : Mitigation). q x.put) ys
    ≤ cond (q m.put && not (ends m.put e)) 1 0 + tally (λ (x : Mitigation). q x.put && not (ends x.put e)) ms + cond (live e.time e Open) 1 0)
    (λ alive.
    let one = at_least (q m.put) (ends m.put e) (live_unended m.put m.status e alive) in
    omega (arith, go, one))
    (λ dead. omega (arith, go))

-- ---- fewer, where one is ended
no_more : (a b : Bool) → cond (a && not b) 1 0 ≤ cond a 1 0
no_more true true = omega arith
no_more true false = omega arith
no_more false b = omega arith

pub none_more : {A : Type 0} (q r : A → Bool) (xs : List A) → tally (λ x. q x && not (r x)) xs ≤ tally q xs
none_more q r [] = omega arith
none_more q r (x ∷ xs) = let go = none_more q r xs in let here = no_more (q x) (r x) in omega (arith, go, here)

taken_away : (a b : Bool) → (a && b) ≡ true → suc (cond (a && not b) 1 0) ≤ cond a 1 0
taken_away true true is = omega arith
taken_away true false is = absurd (false≢true is)
taken_away false b is = absurd (false≢true is)

one_fewer : {A : Type 0} (q r : A → Bool) (xs : List A) → list_any (λ x. q x && r x) xs ≡ true → suc (tally (λ x. q x && not (r x)) xs) ≤ tally q xs
one_fewer q r [] is = absurd (false≢true is)
one_fewer q r (x ∷ xs) is =
    elim (or_cases (q x && r x) (list_any (λ y. q y && r y) xs) is) [
      | inl here ↦ let less = taken_away (q x) (r x) here in let rest = none_more q r xs in omega (arith, less, rest)
      | inr beyond ↦ let go = one_fewer q r xs beyond in let here = no_more (q x) (r x) in omega (arith, go, here)
    ]

any_leads : {A : Type 0} (f g : A → Bool) (xs : List A) → ((x : A) → f x ≡ true → g x ≡ true) → list_any f xs ≡ true → list_any g xs ≡ true
any_leads f g [] leads is = absurd (false≢true is)
any_leads f g (x ∷ xs) leads is =
    elim (or_cases (f x) (list_any f xs) is) [
      | inl here ↦ or_left (g x) (list_any g xs) (leads x here)
      | inr beyond ↦ or_right (g x) (list_any g xs) (any_leads f g xs leads beyond)
    ]

-- ---- each live one is a mitigation
if_alive : (b : Bool) (m : Mitigation) (rest : List Mitigation) → (b ≡ true → puts m.put ≡ true) → list_all (λ (x : Mitigation). puts x.put) rest ≡ true
    → list_all (λ (x : Mitigation). puts x.put) (option_to_list (cond b (Some m) None) ++ rest) ≡ true
if_alive true m rest leads all = and_from (puts m.put) (list_all (λ (x : Mitigation). puts x.put) rest) (leads refl) all
if_alive false m rest leads all = all

all_put : (t : ℕ) (entries : List Entry) → list_all (λ (m : Mitigation). puts m.put) (mitigations t entries) ≡ true
all_put t [] = refl
all_put t (e ∷ later) =
    if_alive
    (live t e (status e Open later))
    (record { put = e; status = status e Open later })
    (mitigations t later)
    (live_puts t e (status e Open later))
    (all_put t later)

-- ---- those of a domain, as the rules see them
tally_lives : (test : Live → Bool) (q : Mitigation → Bool) (domain : ℕ) (ms : List Mitigation)
    → ((m : Mitigation) → puts m.put ≡ true → (m.put.domain == domain) ≡ true → q m ≡ test (live_of m))
    → list_all (λ (m : Mitigation). puts m.put) ms ≡ true
    → tally (λ (m : Mitigation). (m.put.domain == domain) && q m) ms ≡ tally test (map live_of (mitigations_of domain ms))
tally_lives test q domain [] same all = refl
tally_lives test q domain (m ∷ ms) same all =
    let parts = and_parts (puts m.put) (list_all (λ (x : Mitigation). puts x.put) ms) all in
    let go = tally_lives test q domain ms same parts.1 in
    let rest = tally (λ (x : Mitigation). (x.put.domain == domain) && q x) ms in
    cond_both
    (m.put.domain == domain)
    (m ∷ mitigations_of domain ms)
    (mitigations_of domain ms)
    (λ xs. cond ((m.put.domain == domain) && q m) 1 0 + rest ≡ tally test (map live_of xs))
    (λ here.
    ap (λ b. cond (b && q m) 1 0 + rest) here
    ∙ ap (λ b. cond b 1 0 + rest) (same m parts.0 here)
    ∙ ap (λ n. cond (test (live_of m)) 1 0 + n) go)
    (λ out.
    let nought : ℕ = 0 in
    let none : cond ((m.put.domain == domain) && q m) 1 0 ≡ nought = ap (λ b. cond (b && q m) 1 0) out in
    omega (arith, none, go))

any_lives : (test : Live → Bool) (q : Mitigation → Bool) (domain : ℕ) (ms : List Mitigation)
    → ((m : Mitigation) → puts m.put ≡ true → (m.put.domain == domain) ≡ true → test (live_of m) ≡ true → q m ≡ true)
    → list_all (λ (m : Mitigation). puts m.put) ms ≡ true
    → list_any test (map live_of (mitigations_of domain ms)) ≡ true → list_any q ms ≡ true
any_lives test q domain [] leads all is = absurd (false≢true is)
any_lives test q domain (m ∷ ms) leads all is =
    let parts = and_parts (puts m.put) (list_all (λ (x : Mitigation). puts x.put) ms) all in
    let rest = list_any q ms in
    cond_both
    (m.put.domain == domain)
    (m ∷ mitigations_of domain ms)
    (mitigations_of domain ms)
    (λ xs. list_any test (map live_of xs) ≡ true → (m.put.domain == domain) ≡ true ⊎ (m.put.domain == domain) ≡ false → q m || rest ≡ true)
    (λ here found known.
    elim (or_cases (test (live_of m)) (list_any test (map live_of (mitigations_of domain ms))) found) [
      | inl first ↦ or_left (q m) rest (leads m parts.0 here first)
      | inr beyond ↦ or_right (q m) rest (any_lives test q domain ms leads parts.1 beyond)
    ])
    (λ out found known. or_right (q m) rest (any_lives test q domain ms leads parts.1 found))
    is
    (cases_Bool (m.put.domain == domain))

-- ---- what a put ends
bracketed : (a b c : Bool) → ((a && b) && c) ≡ (a && (b && c))
bracketed true b c = refl
bracketed false b c = refl

module _ (e : Entry) (put : Put) (asks : e.change ≡ change.Put put) where
  abbrev request : Put
  request = wanted put.mid put.asked put.targets put.trigger

  ends_as : (m : Mitigation) → puts m.put ≡ true → (m.put.domain == e.domain) ≡ true → ends m.put e ≡ would_end e.cuid request (live_of m)
  ends_as m is here = ended m.put e (live_of m) put (eqb-true m.put.domain e.domain here) refl (put_there m.put.change is) asks

  -- those of the domain that would stay
  stay_in : (t : ℕ) (entries : List Entry)
      → tally (λ (m : Mitigation). (m.put.domain == e.domain) && not (ends m.put e)) (mitigations t entries)
      ≡ staying (lives_of e.domain t entries) e.cuid request
  stay_in t entries =
      tally_lives
      (λ (x : Live). not (would_end e.cuid request x))
      (λ (m : Mitigation). not (ends m.put e))
      e.domain
      (mitigations t entries)
      (λ m is here. ap not (ends_as m is here))
      (all_put t entries)
      ∙ counted (λ (x : Live). not (would_end e.cuid request x)) (lives_of e.domain t entries)

  client_by : (m : Mitigation) → (same_client e m.put && not (ends m.put e)) ≡ ((m.put.domain == e.domain) && (bytes_eq m.put.cuid e.cuid && not (ends m.put e)))
  unfolding same_client
  client_by m =
      ap (λ b. (b && bytes_eq e.cuid m.put.cuid) && not (ends m.put e)) (turned_eq e.domain m.put.domain)
      ∙ ap (λ b. ((m.put.domain == e.domain) && b) && not (ends m.put e)) (turned_bytes e.cuid m.put.cuid)
      ∙ bracketed (m.put.domain == e.domain) (bytes_eq m.put.cuid e.cuid) (not (ends m.put e))

  -- and the client's own
  stay_own : (t : ℕ) (entries : List Entry)
      → tally (λ (m : Mitigation). same_client e m.put && not (ends m.put e)) (mitigations t entries)
      ≡ own_staying (lives_of e.domain t entries) e.cuid request
  stay_own t entries =
      tally_same
      (λ (m : Mitigation). same_client e m.put && not (ends m.put e))
      (λ (m : Mitigation). (m.put.domain == e.domain) && (bytes_eq m.put.cuid e.cuid && not (ends m.put e)))
      client_by
      (mitigations t entries)
      ∙ tally_lives
      (λ (x : Live). is_of e.cuid x && not (would_end e.cuid request x))
      (λ (m : Mitigation). bytes_eq m.put.cuid e.cuid && not (ends m.put e))
      e.domain
      (mitigations t entries)
      (λ m is here. ap (λ b. bytes_eq m.put.cuid e.cuid && not b) (ends_as m is here))
      (all_put t entries)
      ∙ counted (λ (x : Live). is_of e.cuid x && not (would_end e.cuid request x)) (lives_of e.domain t entries)

  same_mid : (m : Live) → has_mid e.cuid put.mid m ≡ true → would_end e.cuid request m ≡ true
  unfolding replaces
  same_mid m is =
      let parts = and_parts (stands_for e.cuid m) (m.put.mid == put.mid) is in
      let of = and_parts m.standing (is_of e.cuid m) parts.0 in
      and_from
      (is_of e.cuid m)
      ((m.put.mid == put.mid) || rivals m.put request)
      of.1
      (or_left (m.put.mid == put.mid) (rivals m.put request) parts.1)

  -- one that has its mid is ended
  ends_one : (t : ℕ) (entries : List Entry) → list_any (has_mid e.cuid put.mid) (lives_of e.domain t entries) ≡ true
      → list_any (λ (m : Mitigation). ends m.put e) (mitigations t entries) ≡ true
  ends_one t entries is =
      any_lives
      (has_mid e.cuid put.mid)
      (λ (m : Mitigation). ends m.put e)
      e.domain
      (mitigations t entries)
      (λ m put here has. ends_as m put here ∙ same_mid (live_of m) has)
      (all_put t entries)
      is

-- ---- after the entry there are no more than may be
-- where there were no more before, of the entry's domain and of its client
pub record Keeps (limits : Limits) (t : ℕ) (entries : List Entry) (e : Entry) : Type 0 where
  pub of_domain : tally (λ (m : Mitigation). m.put.domain == e.domain) (mitigations t entries) ≤ limits.domain_mitigations
      → tally (λ (m : Mitigation). m.put.domain == e.domain) (mitigations t (entries ++ e ∷ [])) ≤ limits.domain_mitigations
  pub of_client : tally (λ (m : Mitigation). same_client e m.put) (mitigations t entries) ≤ limits.client_mitigations
      → tally (λ (m : Mitigation). same_client e m.put) (mitigations t (entries ++ e ∷ [])) ≤ limits.client_mitigations

after_entry : (q : Entry → Bool) (t most : ℕ) (entries : List Entry) (e : Entry) → e.time ≡ t
    → suc (tally (λ (m : Mitigation). q m.put && not (ends m.put e)) (mitigations t entries)) ≤ most
    → tally (λ (m : Mitigation). q m.put) (mitigations t (entries ++ e ∷ [])) ≤ most
after_entry q t most entries e at less =
    let timely : t ≤ e.time = omega (arith, at) in
    let left = left_by q e (mitigations t entries) in
    let one = at_most_one (live e.time e Open) in
    let few : tally (λ (m : Mitigation). q m.put) (mitigations_with e (mitigations t entries)) ≤ most = omega (arith, left, one, less) in
    subst
    (λ u. tally (λ (m : Mitigation). q m.put) (mitigations u (entries ++ e ∷ [])) ≤ most)
    at
    (subst (λ ms. tally (λ (m : Mitigation). q m.put) ms ≤ most) (sym (adding t e entries timely)) few)

ended_client : (m : Mitigation) (e : Entry) → ends m.put e ≡ true → same_client e m.put ≡ true
unfolding same_client
ended_client m e is =
    let parts = and_parts (m.put.domain == e.domain) (bytes_eq m.put.cuid e.cuid) (ends_parts m.put e is).0 in
    and_from
    (e.domain == m.put.domain)
    (bytes_eq e.cuid m.put.cuid)
    (turned_eq e.domain m.put.domain ∙ parts.0)
    (turned_bytes e.cuid m.put.cuid ∙ parts.1)

ended_domain : (m : Mitigation) (e : Entry) → ends m.put e ≡ true → (m.put.domain == e.domain) ≡ true
unfolding same_client
ended_domain m e is = (and_parts (m.put.domain == e.domain) (bytes_eq m.put.cuid e.cuid) (ends_parts m.put e is).0).0

-- where it ends one, as many as before
room_ending : (limits : Limits) (t : ℕ) (entries : List Entry) (e : Entry) → e.time ≡ t
    → list_any (λ (m : Mitigation). ends m.put e) (mitigations t entries) ≡ true
    → Keeps limits t entries e
room_ending limits t entries e at one =
    let ms = mitigations t entries in
    record {
      of_domain = λ few.
          let fewer = one_fewer
          (λ (m : Mitigation). m.put.domain == e.domain)
          (λ (m : Mitigation). ends m.put e)
          ms
          (any_leads
          (λ (m : Mitigation). ends m.put e)
          (λ (m : Mitigation). (m.put.domain == e.domain) && ends m.put e)
          ms
          (λ m is. and_from (m.put.domain == e.domain) (ends m.put e) (ended_domain m e is) is)
          one) in
          after_entry (λ (x : Entry). x.domain == e.domain) t limits.domain_mitigations entries e at (omega (arith, few, fewer));
      of_client = λ few.
          let fewer = one_fewer
          (λ (m : Mitigation). same_client e m.put)
          (λ (m : Mitigation). ends m.put e)
          ms
          (any_leads
          (λ (m : Mitigation). ends m.put e)
          (λ (m : Mitigation). same_client e m.put && ends m.put e)
          ms
          (λ m is. and_from (same_client e m.put) (ends m.put e) (ended_client m e is) is)
          one) in
          after_entry (same_client e) t limits.client_mitigations entries e at (omega (arith, few, fewer));
    }

-- The numbers after what is granted, for the domain and for the client: that of a new one by the rules, and that of a refresh
-- by those before.
pub granted_room : (settings : SettingsValue) (t : ℕ) (entries : List Entry) (client : ClientValue) (request : Request) (judged : Judged) (e : Entry)
    → e.time ≡ t → IsGranted settings (lives_of e.domain t entries) client t request judged → e.cuid ≡ request.cuid → e.change ≡ change.Put judged.put
    → Keeps settings.limits t entries e
granted_room settings t entries client request judged e at (refreshes m found is) cuid asks =
    let put = granted_put settings request m.put.targets m.put.start in
    let changes : e.change ≡ change.Put put = asks ∙ ap (λ (j : Judged). change.Put j.put) is in
    let any : list_any (has_mid e.cuid request.mid) (lives_of e.domain t entries) ≡ true =
    ap (λ c. list_any (has_mid c request.mid) (lives_of e.domain t entries)) cuid
    ∙ found_any (has_mid request.cuid request.mid) (lives_of e.domain t entries) m found in
    room_ending settings.limits t entries e at (ends_one e put changes t entries any)
granted_room settings t entries client request judged e at (begins few place is) cuid asks =
    let targets : List Target = targets_of settings client.aliases request.asked in
    let put = granted_put settings request targets t in
    let wants = wanted request.mid request.asked targets request.trigger in
    let changes : e.change ≡ change.Put put = asks ∙ ap (λ (j : Judged). change.Put j.put) is in
    let lives = lives_of e.domain t entries in
    let all : staying lives e.cuid wants < settings.limits.domain_mitigations =
    leb-false
    settings.limits.domain_mitigations
    (staying lives e.cuid wants)
    (ap (λ c. nat_le settings.limits.domain_mitigations (staying lives c wants)) cuid ∙ place.all) in
    let own : own_staying lives e.cuid wants < settings.limits.client_mitigations =
    leb-false
    settings.limits.client_mitigations
    (own_staying lives e.cuid wants)
    (ap (λ c. nat_le settings.limits.client_mitigations (own_staying lives c wants)) cuid ∙ place.own) in
    let stay = stay_in e put changes t entries in
    let stay_too = stay_own e put changes t entries in
    record {
      of_domain = λ before. after_entry (λ (x : Entry). x.domain == e.domain) t settings.limits.domain_mitigations entries e at (omega (arith, all, stay));
      of_client = λ before. after_entry (same_client e) t settings.limits.client_mitigations entries e at (omega (arith, own, stay_too));
    }

-- ---- what puts none adds none
none_least : (q : Entry → Bool) (t most : ℕ) (entries : List Entry) (e : Entry) → e.time ≡ t → put_of e.change ≡ None
    → tally (λ (m : Mitigation). q m.put) (mitigations t entries) ≤ most
    → tally (λ (m : Mitigation). q m.put) (mitigations t (entries ++ e ∷ [])) ≤ most
none_least q t most entries e at is few =
    let timely : t ≤ e.time = omega (arith, at) in
    let left = left_by q e (mitigations t entries) in
    let fewer = none_more (λ (m : Mitigation). q m.put) (λ (m : Mitigation). ends m.put e) (mitigations t entries) in
    let nought : ℕ = 0 in
    let none : cond (live e.time e Open) 1 0 ≡ nought = ap (λ b. cond b 1 0) (never_live e.time e Open is) in
    let less : tally (λ (m : Mitigation). q m.put) (mitigations_with e (mitigations t entries)) ≤ most = omega (arith, left, fewer, none, few) in
    subst
    (λ u. tally (λ (m : Mitigation). q m.put) (mitigations u (entries ++ e ∷ [])) ≤ most)
    at
    (subst (λ ms. tally (λ (m : Mitigation). q m.put) ms ≤ most) (sym (adding t e entries timely)) less)

pub none_room : (limits : Limits) (t : ℕ) (entries : List Entry) (e : Entry) → e.time ≡ t → put_of e.change ≡ None → Keeps limits t entries e
none_room limits t entries e at is =
    record {
      of_domain = none_least (λ (x : Entry). x.domain == e.domain) t limits.domain_mitigations entries e at is;
      of_client = none_least (same_client e) t limits.client_mitigations entries e at is;
    }

pub withdrawn_room : (limits : Limits) (t mid : ℕ) (entries : List Entry) (e : Entry) → e.time ≡ t → e.change ≡ change.Withdraw mid
    → Keeps limits t entries e
withdrawn_room limits t mid entries e at is = none_room limits t entries e at (ap put_of is)

loss_puts_none : (c : Change) → is_loss c ≡ true → put_of c ≡ None
unfolding is_loss
loss_puts_none change.Lost is = refl
loss_puts_none change.Back is = refl
loss_puts_none _ is = absurd (false≢true is)

pub lost_room : (limits : Limits) (t : ℕ) (entries : List Entry) (e : Entry) → e.time ≡ t → is_loss e.change ≡ true → Keeps limits t entries e
lost_room limits t entries e at is = none_room limits t entries e at (loss_puts_none e.change is)
