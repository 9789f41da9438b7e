-- How many entries the view of a history names that keeps its capacities.
use Rattle.std.proofs.Common.{◌≡◌, ℕ, ◌+◌, ◌*◌, ◌-◌, ◌≤◌, Bool, true, false, cond, not, ◌&&◌, ◌||◌, List, [], ◌∷◌, ◌++◌, length, filter, length-drop, Option, Some, None, inl, inr, refl, sym, ap, ◌∙◌, subst, mul-add, mul_assoc, mul_comm, mul-le-mul_right, arith}
use Rattle.std.specs.Prelude.{option_to_list, ◌==◌}
use Rattle.std.specs.List.{list_any, list_all}
use Rattle.std.proofs.lemmas.Bool.{false≢true, both_ways, cond_both, cases_Bool, and_parts, and_from, or_parts, or_cases, or_left, or_right, not_from_true, eqb-true, eq-eqb}
use Rattle.std.proofs.lemmas.Option.{none-some}
use Rattle.dots_history.specs.declared.entry.Entry.{Entry}
use Rattle.dots_history.specs.declared.put.Put.{Put}
use Rattle.dots_history.specs.declared.status.Status.{Status}
use Rattle.dots_history.specs.declared.status.Status.TheVariants.{Open}
use Rattle.dots_history.specs.declared.change.Change.{Change}
use Rattle.dots_history.specs.declared.change.Change.TheVariants as change
use Rattle.dots_history.specs.Entries.{put_of, same_client, is_signal, signals, is_held, is_configuration, undoes, undoes_of_client, undoes_of_peer, reconfigures, resumes, is_lost, is_loss, undoes_loss}
use Rattle.dots_history.specs.Histories.{Mitigation, tally, live, status, is_recent, recent, stays, held, last, mitigations}
use Rattle.dots_history.specs.Keeping.{kept}
use Rattle.dots_history.specs.Places.{lasts}
use Rattle.dots_history.proofs.Remembering.{recent_are_lasts}
use Rattle.dots_history.specs.Capacities.{Capacities, is_registration, is_alias, is_list, is_setting, belongs, has_client, KeepsCapacities, most_named, belongs_there, loses_as}
use Rattle.dots_history.proofs.Touching.{never_live}
use Rattle.dots_history.proofs.Keyed.{by_keys, tally_filter, length_filter}
use Rattle.dots_history.proofs.Counting.{few}

abbrev one : Bool → ℕ
one b = cond b 1 0

-- ---- a test of all entries is one of those that a history comes to

some_or_none : {A : Type 0} → (b : Bool) (test : A → Bool) (x : A) (rest : List A) → (b ≡ true → test x ≡ true) → list_all test rest ≡ true
    → list_all test (option_to_list (cond b (Some x) None) ++ rest) ≡ true
some_or_none true test x rest passes all = and_from (test x) (list_all test rest) (passes refl) all
some_or_none false test x rest passes all = all

-- what is live is a mitigation
put_no_configuration : (c : Change) (put : Put) → put_of c ≡ Some put → is_configuration c ≡ false
unfolding is_configuration
put_no_configuration (change.Put p) put there = refl
put_no_configuration _ put there = absurd (none-some put there)

live_put : (t : ℕ) (e : Entry) (s : Status) → live t e s ≡ true → is_configuration e.change ≡ false
live_put t e s is = by_put (put_of e.change) refl
  where
    by_put : (o : Option Put) → put_of e.change ≡ o → is_configuration e.change ≡ false
    by_put None none = absurd (both_ways (live t e s) (never_live t e s none) is)
    by_put (Some put) there = put_no_configuration e.change put there

-- the domains of the live mitigations
abbrev has_domain : Capacities → Entry → Bool
has_domain room e = list_any (λ domain. e.domain == domain) room.domains

domain_of : (room : Capacities) (e : Entry) → belongs room e ≡ true → is_configuration e.change ≡ false → has_domain room e ≡ true
domain_of room e belong out =
    let parts = and_parts
    (not (is_signal e.change) || list_any (λ (actor : ℕ × ℕ). signals actor.0 actor.1 e) room.actors)
    (cond (is_configuration e.change) (list_any (λ peer. e.peer == peer) room.peers) (has_domain room e))
    (and_parts (belongs_there room e) (not (is_lost e.change) || list_any (loses_as e) room.losers) belong).0 in
    sym (ap (λ b. cond b (list_any (λ peer. e.peer == peer) room.peers) (has_domain room e)) out) ∙ parts.1

peer_of : (room : Capacities) (e : Entry) → belongs room e ≡ true → is_configuration e.change ≡ true → list_any (λ peer. e.peer == peer) room.peers ≡ true
peer_of room e belong is =
    let parts = and_parts
    (not (is_signal e.change) || list_any (λ (actor : ℕ × ℕ). signals actor.0 actor.1 e) room.actors)
    (cond (is_configuration e.change) (list_any (λ peer. e.peer == peer) room.peers) (has_domain room e))
    (and_parts (belongs_there room e) (not (is_lost e.change) || list_any (loses_as e) room.losers) belong).0 in
    sym (ap (λ b. cond b (list_any (λ peer. e.peer == peer) room.peers) (has_domain room e)) is) ∙ parts.1

actor_of : (room : Capacities) (e : Entry) → belongs room e ≡ true → is_signal e.change ≡ true → list_any (λ (actor : ℕ × ℕ). signals actor.0 actor.1 e) room.actors ≡ true
actor_of room e belong is =
    let parts = and_parts
    (not (is_signal e.change) || list_any (λ (actor : ℕ × ℕ). signals actor.0 actor.1 e) room.actors)
    (cond (is_configuration e.change) (list_any (λ peer. e.peer == peer) room.peers) (has_domain room e))
    (and_parts (belongs_there room e) (not (is_lost e.change) || list_any (loses_as e) room.losers) belong).0 in
    elim (or_cases (not (is_signal e.change)) (list_any (λ (actor : ℕ × ℕ). signals actor.0 actor.1 e) room.actors) parts.0) [
      | inl out ↦ absurd (both_ways (not (is_signal e.change)) (not_from_true (is_signal e.change) is) out)
      | inr there ↦ there
    ]

-- ---- live mitigations
live_domains : (room : Capacities) (t : ℕ) (entries : List Entry) → list_all (belongs room) entries ≡ true
    → list_all (λ (m : Mitigation). list_any (λ domain. m.put.domain == domain) room.domains) (mitigations t entries) ≡ true
live_domains room t [] all = refl
live_domains room t (e ∷ later) all =
    let parts = and_parts (belongs room e) (list_all (belongs room) later) all in
    some_or_none
    (live t e (status e Open later))
    (λ (m : Mitigation). list_any (λ domain. m.put.domain == domain) room.domains)
    (record { put = e; status = status e Open later })
    (mitigations t later)
    (λ is. domain_of room e parts.0 (live_put t e (status e Open later) is))
    (live_domains room t later parts.1)

few_live : (room : Capacities) (t : ℕ) (entries : List Entry) → list_all (belongs room) entries ≡ true → KeepsCapacities room t entries → length (mitigations t entries) ≤ length room.domains * room.mitigations
few_live room t entries belong keeps =
    by_keys
    (λ domain (m : Mitigation). m.put.domain == domain)
    room.mitigations
    room.domains
    (mitigations t entries)
    (live_domains room t entries belong)
    keeps.live

-- ---- remembered messages
recent_actors : (room : Capacities) (n : ℕ) (entries : List Entry) → list_all (belongs room) entries ≡ true
    → list_all (λ (e : Entry). list_any (λ (actor : ℕ × ℕ). signals actor.0 actor.1 e) room.actors) (recent n entries) ≡ true
recent_actors room n [] all = refl
recent_actors room n (e ∷ later) all =
    let parts = and_parts (belongs room e) (list_all (belongs room) later) all in
    some_or_none
    (is_recent n e later)
    (λ (x : Entry). list_any (λ (actor : ℕ × ℕ). signals actor.0 actor.1 x) room.actors)
    e
    (recent n later)
    (λ is. actor_of room e parts.0 (and_parts (is_signal e.change) _ is).0)
    (recent_actors room n later parts.1)

lasts_few : (n : ℕ) (xs : List Entry) → length (lasts n xs) ≤ n
lasts_few n xs = let long = length-drop (length xs - n) xs in omega (arith, long)

actor_few : (n peer domain : ℕ) (entries : List Entry) → tally (signals peer domain) (recent n entries) ≤ n
actor_few n peer domain entries =
    subst
    (λ k. k ≤ n)
    (sym (ap length (recent_are_lasts n peer domain entries)) ∙ length_filter (signals peer domain) (recent n entries))
    (lasts_few n (filter (signals peer domain) entries))

few_recent : (room : Capacities) (n : ℕ) (entries : List Entry) → list_all (belongs room) entries ≡ true → length (recent n entries) ≤ length room.actors * n
few_recent room n entries all =
    by_keys
    (λ (actor : ℕ × ℕ) e. signals actor.0 actor.1 e)
    n
    room.actors
    (recent n entries)
    (recent_actors room n entries all)
    (λ actor. actor_few n actor.0 actor.1 entries)

-- ---- what is held: each is a registration, an alias, an access list or a session configuration
kinds : Entry → ℕ
kinds e = one (is_registration e.change) + one (is_alias e.change) + one (is_list e.change) + one (is_setting e.change) + one (is_lost e.change)

of_a_kind : (c : Change) → is_held c ≡ true → 1 ≤ one (is_registration c) + one (is_alias c) + one (is_list c) + one (is_setting c) + one (is_lost c)
unfolding is_held is_registration is_alias is_list is_setting is_lost
of_a_kind change.Register is = omega arith
of_a_kind (change.SetAlias alias) is = omega arith
of_a_kind (change.SetAcl acl) is = omega arith
of_a_kind (change.SetConfig sid config) is = omega arith
of_a_kind change.Lost is = omega arith
of_a_kind _ is = absurd (false≢true is)

all_held : (entries : List Entry) → list_all (λ (e : Entry). is_held e.change) (held entries) ≡ true
all_held [] = refl
all_held (e ∷ later) =
    some_or_none
    (stays e later)
    (λ (x : Entry). is_held x.change)
    e
    (held later)
    (λ is. (and_parts (is_held e.change) _ is).0)
    (all_held later)

by_kind : (xs : List Entry) → list_all (λ (e : Entry). is_held e.change) xs ≡ true
    → length xs
    ≤ tally (λ (e : Entry). is_registration e.change) xs + tally (λ (e : Entry). is_alias e.change) xs + tally (λ (e : Entry). is_list e.change) xs
    + tally (λ (e : Entry). is_setting e.change) xs + tally (λ (e : Entry). is_lost e.change) xs
by_kind [] all = omega arith
by_kind (e ∷ xs) all =
    let parts = and_parts (is_held e.change) (list_all (λ (x : Entry). is_held x.change) xs) all in
    let own = of_a_kind e.change parts.0 in
    let go = by_kind xs parts.1 in
    omega (arith, own, go)

-- ---- how many of each kind
held_belong : (room : Capacities) (entries : List Entry) → list_all (belongs room) entries ≡ true → list_all (belongs room) (held entries) ≡ true
held_belong room [] all = refl
held_belong room (e ∷ later) all =
    let parts = and_parts (belongs room e) (list_all (belongs room) later) all in
    some_or_none (stays e later) (belongs room) e (held later) (λ is. parts.0) (held_belong room later parts.1)

filter_all : (keep test want : Entry → Bool) → ((x : Entry) → keep x ≡ true → test x ≡ true → want x ≡ true) → (xs : List Entry)
    → list_all test xs ≡ true → list_all want (filter keep xs) ≡ true
filter_all keep test want leads [] all = refl
filter_all keep test want leads (x ∷ xs) all =
    let parts = and_parts (test x) (list_all test xs) all in
    let go = filter_all keep test want leads xs parts.1 in
    cond_both
    (keep x)
    (x ∷ filter keep xs)
    (filter keep xs)
    (λ ys. list_all want ys ≡ true)
    (λ is. and_from (want x) (list_all want (filter keep xs)) (leads x is parts.0) go)
    (λ out. go)

any_filter : (keep test : Entry → Bool) (xs : List Entry) → list_any (λ x. keep x && test x) xs ≡ true → list_any test (filter keep xs) ≡ true
any_filter keep test [] is = is
any_filter keep test (x ∷ xs) is =
    elim (or_cases (keep x && test x) (list_any (λ y. keep y && test y) xs) is) [
      | inl here ↦
          let parts = and_parts (keep x) (test x) here in
          ap (λ b. list_any test (cond b (x ∷ filter keep xs) (filter keep xs))) parts.0 ∙ or_left (test x) (list_any test (filter keep xs)) parts.1
      | inr beyond ↦
          let go = any_filter keep test xs beyond in
          cond_both
          (keep x)
          (x ∷ filter keep xs)
          (filter keep xs)
          (λ ys. list_any test ys ≡ true)
          (λ is. or_right (test x) (list_any test (filter keep xs)) go)
          (λ out. go)
    ]

abbrev registration : Entry → Bool
registration e = is_registration e.change

registration_no_configuration : (c : Change) → is_registration c ≡ true → is_configuration c ≡ false
unfolding is_registration is_configuration
registration_no_configuration change.Register is = refl
registration_no_configuration _ is = absurd (false≢true is)

few_registered : (room : Capacities) (t : ℕ) (entries : List Entry) → list_all (belongs room) entries ≡ true → KeepsCapacities room t entries
    → length (filter registration (held entries)) ≤ length room.domains * room.clients
few_registered room t entries belong keeps =
    by_keys
    (λ domain (e : Entry). e.domain == domain)
    room.clients
    room.domains
    (filter registration (held entries))
    (filter_all
    registration
    (belongs room)
    (has_domain room)
    (λ x is own. domain_of room x own (registration_no_configuration x.change is))
    (held entries)
    (held_belong room entries belong))
    (λ domain. subst (λ k. k ≤ room.clients) (sym (tally_filter registration (λ (e : Entry). e.domain == domain) (held entries))) (keeps.registered domain))

-- what belongs to clients
owned_by : (standing : List Entry) (e : Entry) → has_client standing e ≡ true → is_alias e.change || is_list e.change ≡ true
    → list_any (λ r. same_client r e) (filter registration standing) ≡ true
owned_by standing e has is =
    elim (or_cases (not (is_alias e.change || is_list e.change)) (list_any (λ r. is_registration r.change && same_client r e) standing) has) [
      | inl out ↦ absurd (both_ways (not (is_alias e.change || is_list e.change)) (not_from_true (is_alias e.change || is_list e.change) is) out)
      | inr there ↦ any_filter registration (λ r. same_client r e) standing there
    ]

few_of_clients : (kind : Entry → Bool) (most : ℕ) (standing : List Entry) → ((e : Entry) → kind e ≡ true → is_alias e.change || is_list e.change ≡ true)
    → list_all (has_client standing) standing ≡ true → ((client : Entry) → tally (λ (e : Entry). kind e && same_client client e) standing ≤ most)
    → length (filter kind standing) ≤ length (filter registration standing) * most
few_of_clients kind most standing leads owned each =
    by_keys
    (λ (client : Entry) e. same_client client e)
    most
    (filter registration standing)
    (filter kind standing)
    (filter_all
    kind
    (has_client standing)
    (λ e. list_any (λ r. same_client r e) (filter registration standing))
    (λ e is has. owned_by standing e has (leads e is))
    standing
    owned)
    (λ client. subst (λ k. k ≤ most) (sym (tally_filter kind (same_client client) standing)) (each client))

-- a peer has one session configuration at most
setting_configures : (c : Change) → is_setting c ≡ true → is_configuration c ≡ true
unfolding is_setting is_configuration
setting_configures (change.SetConfig sid config) is = refl
setting_configures _ is = absurd (false≢true is)

setting_undone : (c later : Change) → is_setting c ≡ true → is_configuration later ≡ true → undoes_of_peer c later ≡ true
unfolding is_setting undoes_of_peer
setting_undone (change.SetConfig sid config) later is configures = configures
setting_undone _ later is configures = absurd (false≢true is)

undone_by_setting : (e x : Entry) (peer : ℕ) → is_setting e.change ≡ true → e.peer ≡ peer → is_setting x.change && (x.peer == peer) ≡ true → undoes e x ≡ true
unfolding undoes reconfigures
undone_by_setting e x peer is own later =
    let parts = and_parts (is_setting x.change) (x.peer == peer) later in
    let same : e.peer ≡ x.peer = own ∙ sym (eqb-true x.peer peer parts.1) in
    or_right
    (same_client e x && undoes_of_client e.change x.change)
    (((e.peer == x.peer) && undoes_of_peer e.change x.change) || resumes e x)
    (or_left ((e.peer == x.peer) && undoes_of_peer e.change x.change) (resumes e x)
    (and_from
    (e.peer == x.peer)
    (undoes_of_peer e.change x.change)
    (eq-eqb e.peer x.peer same)
    (setting_undone e.change x.change is (setting_configures x.change parts.0))))

abbrev setting_of : ℕ → Entry → Bool
setting_of peer e = is_setting e.change && (e.peer == peer)

no_more : (e : Entry) (peer : ℕ) (later : List Entry) → is_setting e.change ≡ true → e.peer ≡ peer → list_any (undoes e) later ≡ false
    → tally (setting_of peer) (held later) ≤ 0
no_more e peer [] is own none = omega arith
no_more e peer (x ∷ later) is own none =
    let parts = or_parts (undoes e x) (list_any (undoes e) later) none in
    let go = no_more e peer later is own parts.1 in
    let out : one (setting_of peer x) ≤ 0 =
    cond_both
    (setting_of peer x)
    1
    0
    (λ k. k ≤ 0)
    (λ same. absurd (both_ways (undoes e x) parts.0 (undone_by_setting e x peer is own same)))
    (λ other. omega arith) in
    cond_both
    (stays x later)
    (Some x)
    None
    (λ o. tally (setting_of peer) (option_to_list o ++ held later) ≤ 0)
    (λ stay. omega (arith, go, out))
    (λ gone. go)

one_setting : (peer : ℕ) (entries : List Entry) → tally (setting_of peer) (held entries) ≤ 1
one_setting peer [] = omega arith
one_setting peer (e ∷ later) =
    let go = one_setting peer later in
    elim (cases_Bool (stays e later)) [
      | inl stay ↦
          let parts = and_parts (is_held e.change) (not (list_any (undoes e) later)) stay in
          subst
          (λ o. tally (setting_of peer) (option_to_list o ++ held later) ≤ 1)
          (sym (ap (λ b. cond b (Some e) None) stay))
          (cond_both
          (setting_of peer e)
          1
          0
          (λ k. k + tally (setting_of peer) (held later) ≤ 1)
          (λ is.
          let own = and_parts (is_setting e.change) (e.peer == peer) is in
          let rest = no_more e peer later own.0 (eqb-true e.peer peer own.1) (not_is (list_any (undoes e) later) parts.1) in
          omega (arith, rest))
          (λ out. omega (arith, go)))
      | inr gone ↦
          subst
          (λ o. tally (setting_of peer) (option_to_list o ++ held later) ≤ 1)
          (sym (ap (λ b. cond b (Some e) None) gone))
          go
    ]
  where
    not_is : (b : Bool) → not b ≡ true → b ≡ false
    not_is true is = absurd (false≢true is)
    not_is false is = refl

abbrev setting : Entry → Bool
setting e = is_setting e.change

few_settings : (room : Capacities) (entries : List Entry) → list_all (belongs room) entries ≡ true → length (filter setting (held entries)) ≤ length room.peers * 1
few_settings room entries belong =
    by_keys
    (λ peer (e : Entry). e.peer == peer)
    1
    room.peers
    (filter setting (held entries))
    (filter_all
    setting
    (belongs room)
    (λ e. list_any (λ peer. e.peer == peer) room.peers)
    (λ x is own. peer_of room x own (setting_configures x.change is))
    (held entries)
    (held_belong room entries belong))
    (λ peer. subst (λ k. k ≤ 1) (sym (tally_filter setting (λ (e : Entry). e.peer == peer) (held entries))) (one_setting peer entries))

-- of a peer and domain one loss is held at most
loss_of : ℕ × ℕ → Entry → Bool
loss_of loser e = is_lost e.change && loses_as e loser

lost_is_loss : (c : Change) → is_lost c ≡ true → is_loss c ≡ true
unfolding is_lost is_loss
lost_is_loss change.Lost is = refl
lost_is_loss _ is = absurd (false≢true is)

undone_by_loss : (e x : Entry) (loser : ℕ × ℕ) → is_lost e.change ≡ true → loses_as e loser ≡ true → is_lost x.change && loses_as x loser ≡ true → undoes e x ≡ true
unfolding undoes resumes undoes_loss
undone_by_loss e x loser is own later =
    let parts = and_parts (is_lost x.change) (loses_as x loser) later in
    let a = and_parts (e.peer == loser.0) (e.domain == loser.1) own in
    let b = and_parts (x.peer == loser.0) (x.domain == loser.1) parts.1 in
    or_right
    (same_client e x && undoes_of_client e.change x.change)
    (reconfigures e x || ((e.peer == x.peer) && ((e.domain == x.domain) && (is_lost e.change && is_loss x.change))))
    (or_right
    (reconfigures e x)
    ((e.peer == x.peer) && ((e.domain == x.domain) && (is_lost e.change && is_loss x.change)))
    (and_from (e.peer == x.peer) ((e.domain == x.domain) && (is_lost e.change && is_loss x.change))
    (eq-eqb e.peer x.peer (eqb-true e.peer loser.0 a.0 ∙ sym (eqb-true x.peer loser.0 b.0)))
    (and_from (e.domain == x.domain) (is_lost e.change && is_loss x.change)
    (eq-eqb e.domain x.domain (eqb-true e.domain loser.1 a.1 ∙ sym (eqb-true x.domain loser.1 b.1)))
    (and_from (is_lost e.change) (is_loss x.change) is (lost_is_loss x.change parts.0)))))

no_more_losses : (e : Entry) (loser : ℕ × ℕ) (later : List Entry) → is_lost e.change ≡ true → loses_as e loser ≡ true → list_any (undoes e) later ≡ false
    → tally (λ (x : Entry). is_lost x.change && loses_as x loser) (held later) ≤ 0
no_more_losses e loser [] is own none = omega arith
no_more_losses e loser (x ∷ later) is own none =
    let parts = or_parts (undoes e x) (list_any (undoes e) later) none in
    let go = no_more_losses e loser later is own parts.1 in
    let out : one (is_lost x.change && loses_as x loser) ≤ 0 =
    cond_both
    (is_lost x.change && loses_as x loser)
    1
    0
    (λ k. k ≤ 0)
    (λ same. absurd (both_ways (undoes e x) parts.0 (undone_by_loss e x loser is own same)))
    (λ other. omega arith) in
    cond_both
    (stays x later)
    (Some x)
    None
    (λ o. tally (λ (x : Entry). is_lost x.change && loses_as x loser) (option_to_list o ++ held later) ≤ 0)
    (λ stay. omega (arith, go, out))
    (λ gone. go)

one_loss : (loser : ℕ × ℕ) (entries : List Entry) → tally (λ (x : Entry). is_lost x.change && loses_as x loser) (held entries) ≤ 1
one_loss loser [] = omega arith
one_loss loser (e ∷ later) =
    let go = one_loss loser later in
    elim (cases_Bool (stays e later)) [
      | inl stay ↦
          let parts = and_parts (is_held e.change) (not (list_any (undoes e) later)) stay in
          subst
          (λ o. tally (λ (x : Entry). is_lost x.change && loses_as x loser) (option_to_list o ++ held later) ≤ 1)
          (sym (ap (λ b. cond b (Some e) None) stay))
          (cond_both
          (is_lost e.change && loses_as e loser)
          1
          0
          (λ k. k + tally (λ (x : Entry). is_lost x.change && loses_as x loser) (held later) ≤ 1)
          (λ is.
          let own = and_parts (is_lost e.change) (loses_as e loser) is in
          let rest = no_more_losses e loser later own.0 own.1 (not_is (list_any (undoes e) later) parts.1) in
          omega (arith, rest))
          (λ out. omega (arith, go)))
      | inr gone ↦
          subst
          (λ o. tally (λ (x : Entry). is_lost x.change && loses_as x loser) (option_to_list o ++ held later) ≤ 1)
          (sym (ap (λ b. cond b (Some e) None) gone))
          go
    ]
  where
    not_is : (b : Bool) → not b ≡ true → b ≡ false
    not_is true is = absurd (false≢true is)
    not_is false is = refl

abbrev loss : Entry → Bool
loss e = is_lost e.change

loser_of : (room : Capacities) (e : Entry) → belongs room e ≡ true → is_lost e.change ≡ true → list_any (loses_as e) room.losers ≡ true
loser_of room e belong is =
    elim (or_cases (not (is_lost e.change)) (list_any (loses_as e) room.losers) (and_parts (belongs_there room e) (not (is_lost e.change) || list_any (loses_as e) room.losers) belong).1) [
      | inl out ↦ absurd (both_ways (not (is_lost e.change)) (not_from_true (is_lost e.change) is) out)
      | inr there ↦ there
    ]

few_losses : (room : Capacities) (entries : List Entry) → list_all (belongs room) entries ≡ true → length (filter loss (held entries)) ≤ length room.losers * 1
few_losses room entries belong =
    by_keys
    (λ loser (e : Entry). loses_as e loser)
    1
    room.losers
    (filter loss (held entries))
    (filter_all
    loss
    (belongs room)
    (λ e. list_any (λ loser. loses_as e loser) room.losers)
    (λ x is own. loser_of room x own is)
    (held entries)
    (held_belong room entries belong))
    (λ loser. subst (λ k. k ≤ 1) (sym (tally_filter loss (λ (e : Entry). loses_as e loser) (held entries))) (one_loss loser entries))

few_last : (entries : List Entry) → length (last entries) ≤ 1
few_last [] = omega arith
few_last (e ∷ []) = omega arith
few_last (e ∷ x ∷ later) = few_last (x ∷ later)

-- ---- all together
times_all : (d m c a l : ℕ) → 2 * (d * m) + d * c + d * c * a + d * c * l ≡ d * (2 * m + c + c * (a + l))
times_all d m c a l =
    let whole = mul-add d (2 * m + c) (c * (a + l)) in
    let front = mul-add d (2 * m) c in
    let twice : d * (2 * m) ≡ 2 * (d * m) = sym (mul_assoc d 2 m) ∙ ap (λ k. k * m) (mul_comm d 2) ∙ mul_assoc 2 d m in
    let back : d * (c * (a + l)) ≡ d * c * a + d * c * l = sym (mul_assoc d c (a + l)) ∙ mul-add (d * c) a l in
    omega (arith, whole, front, twice, back)

times_less : (x y k : ℕ) → x ≤ y → x * k ≤ y * k
times_less x y k less = mul-le-mul_right k less

pub named_few : (room : Capacities) (n t : ℕ) (entries : List Entry) → list_all (belongs room) entries ≡ true → KeepsCapacities room t entries → length (kept n t entries) ≤ most_named room n
named_few room n t entries belong keeps =
    let standing = held entries in
    let d = length room.domains in
    let all = few n t entries in
    let ms = few_live room t entries belong keeps in
    let rs = few_recent room n entries belong in
    let kinds = by_kind standing (all_held entries) in
    let regs = few_registered room t entries belong keeps in
    let als = few_of_clients (λ (e : Entry). is_alias e.change) room.aliases standing (λ e is. or_left (is_alias e.change) (is_list e.change) is) keeps.owned keeps.aliased in
    let ls = few_of_clients (λ (e : Entry). is_list e.change) room.acls standing (λ e is. or_right (is_alias e.change) (is_list e.change) is) keeps.owned keeps.listed in
    let ss = few_settings room entries belong in
    let lost = few_losses room entries belong in
    let end = few_last entries in
    let r = length_filter registration standing in
    let a = length_filter (λ (e : Entry). is_alias e.change) standing in
    let l = length_filter (λ (e : Entry). is_list e.change) standing in
    let s = length_filter setting standing in
    let o = length_filter loss standing in
    let more_aliases = times_less (length (filter registration standing)) (d * room.clients) room.aliases regs in
    let more_lists = times_less (length (filter registration standing)) (d * room.clients) room.acls regs in
    let whole = times_all d room.mitigations room.clients room.aliases room.acls in
    omega (arith, all, ms, rs, kinds, regs, als, ls, ss, lost, end, r, a, l, s, o, more_aliases, more_lists, whole)
