-- What is done of observation is what the machine does, and observers are shown what the machine shows.
use Rattle.std.proofs.Common.{◌≡◌, ℕ, ◌<◌, Bool, true, false, cond, List, [], ◌∷◌, map, filter, length, Option, Some, None, Result, Ok, Err, refl, sym, ap, ◌∙◌, subst}
use Rattle.std.proofs.Math.Path.{fun_ext}
use Rattle.std.specs.Prelude.{nat_lt, IfOk, ◌==◌, ◌&&◌, ◌||◌, not}
use Rattle.std.specs.List.{list_any}
use Rattle.std.proofs.lemmas.Bool.{cond-true, cond-false, ltb-true, lt-ltb}
use Rattle.coap_observe.specs.Seen.{Lists}
use Rattle.coap_observe.specs.Observed.{ObservedValue}
use Rattle.coap_observe.specs.Observing.{registered, deregistered}
use Rattle.conflict_rules.specs.LiveViews.{LiveView, live_views_of, live_views_in}
use Rattle.conflict_rules.specs.Statuses.{view_with, views_in}
use Rattle.dots_keys.specs.declared.head_request.Content.{Content}
use Rattle.dots_keys.specs.declared.head_request.Observe.{Observe}
use Rattle.dots_keys.specs.declared.head_request.Observe.TheVariants as said
use Rattle.dots_history.specs.Histories.{Mitigation}
use Rattle.dots_history.specs.declared.entry.Entry.{Entry}
use Rattle.dots_keys.specs.declared.request.Request.{Request}
use Rattle.dots_keys.specs.declared.request.Request.TheVariants as request
use Rattle.dots_lists.specs.declared.memory.NoMemory.{NoMemory}
use Rattle.dots_registry.specs.RegistryValues.{RegistryValue, time_of, domains_of}
use Rattle.dots_registry.specs.RegistryValues as registry
use Rattle.dots_registry.specs.ObserverViews.{seen_of, views_among, views_of}
use Rattle.dots_registry.proofs.ViewRows.{views_so}
use Rattle.dots_settings.specs.Settings.{SettingsValue}
use Rattle.dots_settings.specs.Lookups.{role_of}
use Rattle.held_resources.specs.Tables.{lost_in}
use Rattle.live_mitigations.specs.LiveValues.{rows_for}
use Rattle.live_mitigations.proofs.Room.{rows_are_live, views_are}
use Rattle.dots_machine.specs.declared.client_request.ClientRequest.{ClientRequest}
use Rattle.dots_keys.specs.declared.dismissal.Dismissal.{Dismissal}
use Rattle.dots_keys.specs.declared.dismissal.Dismissal.TheVariants as dismissal
use Rattle.dots_keys.specs.declared.exchange.Exchange.{Exchange}
use Rattle.dots_machine.specs.declared.received.Received.TheVariants as received
use Rattle.dots_machine.specs.declared.watching.Watching.TheVariants as watching
use Rattle.dots_machine.specs.Verdict.{Verdict}
use Rattle.dots_machine.specs.declared.verdict.Verdict.TheVariants as verdict
use Rattle.dots_machine.specs.Domains.{domain_for}
use Rattle.dots_machine.specs.Facts.{Facts}
use Rattle.dots_machine.specs.Mitigations.{is_wanted, client_for, is_taken, get_reply, get_by, get_answer}
use Rattle.dots_machine.specs.Observing.{seen_among, views_at, bodies_at, watching_of, number_of, is_retrieved, is_unavailable, observing, code_of}
use Rattle.dots_machine.specs.Replies.{unavailable, showing, retrieved_body}
use Rattle.dots_machine.specs.Machine.{State, sends_of, after, seen_in, dismissal_verdict}
use Rattle.dots_machine.proofs.Observing.{known_leaves}
use Rattle.coap_exchange.specs.Rings.{RingValue, is_ring_of}
use Rattle.coap_exchange.specs.Pairs.{is_pair}
use Rattle.coap_observe.specs.Observing.{ObserversValue}
use Rattle.dots_history.specs.declared.change.Change.TheVariants as change
use Rattle.dots_history.specs.declared.entry.MessageKey.TheVariants as key
use Rattle.dots_history.specs.Entries.{is_signal, is_configuration, is_loss}
use Rattle.dots_history.specs.Calm.{may_act, is_of_settings}
use Rattle.dots_registry.specs.RegistryValues.{pair_of}
use Rattle.dots_registry.proofs.Rings.{own_has_ring}
use Rattle.dots_server.specs.declared.deciding.Decision.{Decision}
use Rattle.dots_server.specs.Observing.{asked_from, leaving, rejecting, spoken, changed, Does, MayObserve, views_by, bodies_of}
use Rattle.dots_server.specs.ServerValues.{ServerValue, Represents, IsServing, CanCarryOut}

-- ---- verdicts as they are sent
pub spoken_sends : (number : Option ℕ) (v : Verdict) (peer : ℕ) → sends_of number v peer ≡ sends_of None (spoken number v) peer
spoken_sends number verdict.Silent peer = refl
spoken_sends number (verdict.Reply reply) peer = refl
spoken_sends number (verdict.LongReply reply) peer = refl
spoken_sends number (verdict.Retrieves x body) peer = refl
spoken_sends number (verdict.Accept reply entry) peer = refl

pub spoken_after : (number : Option ℕ) (v : Verdict) (state : State) → after (spoken number v) state ≡ after v state
spoken_after number verdict.Silent state = refl
spoken_after number (verdict.Reply reply) state = refl
spoken_after number (verdict.LongReply reply) state = refl
spoken_after number (verdict.Retrieves x body) state = refl
spoken_after number (verdict.Accept reply entry) state = refl

pub spoken_accepts : (number : Option ℕ) (v : Verdict) (reply : List ℕ) (entry : Entry) → spoken number v ≡ verdict.Accept reply entry → v ≡ verdict.Accept reply entry
spoken_accepts number verdict.Silent reply entry is = is
spoken_accepts number (verdict.Reply r) reply entry is = is
spoken_accepts number (verdict.LongReply r) reply entry is = is
spoken_accepts number (verdict.Retrieves x body) reply entry is = absurd (cc is)
spoken_accepts number (verdict.Accept r e) reply entry is = is

module _ (server : ServerValue) where
  pub spoken_plain : (number : Option ℕ) (v : Verdict) → CanCarryOut v server → spoken number v ≡ v
  spoken_plain number verdict.Silent can = refl
  spoken_plain number (verdict.Reply reply) can = refl
  spoken_plain number (verdict.LongReply reply) can = refl
  spoken_plain number (verdict.Retrieves x body) can = absurd can
  spoken_plain number (verdict.Accept reply entry) can = refl

  retrieves_nothing : (v : Verdict) → CanCarryOut v server → is_retrieved v ≡ false
  retrieves_nothing verdict.Silent can = refl
  retrieves_nothing (verdict.Reply reply) can = refl
  retrieves_nothing (verdict.LongReply reply) can = refl
  retrieves_nothing (verdict.Retrieves x body) can = absurd can
  retrieves_nothing (verdict.Accept reply entry) can = refl

  module _ (settings : SettingsValue) (peer : ℕ) (observed : List ObservedValue) where
    -- nothing is asked
    pub nothing_does : (v decided : Verdict) → v ≡ decided → CanCarryOut v server → Does settings peer observed watching.Nothing decided watching.Nothing v
    nothing_does v decided is can = record {
      verdict_is = is ∙ sym (spoken_plain None decided (subst (λ v. CanCarryOut v server) is can));
      observers = λ lists. refl;
    }

    pub alone_does : (decided : Result Verdict NoMemory) (made : Result Decision NoMemory) (answer : Verdict)
        → IfOk made (λ decision. (decision.watching ≡ watching.Nothing) × (decided ≡ Ok decision.verdict)) → IfOk decided (λ v. v ≡ answer) → IfOk decided (λ v. CanCarryOut v server)
        → IfOk made (λ decision. Does settings peer observed watching.Nothing answer decision.watching decision.verdict)
    alone_does decided (Err e) answer is valued can = tt
    alone_does decided (Ok decision) answer is valued can =
        let v = subst (λ r. IfOk r (λ v. v ≡ answer)) is.1 valued in
        let ready = subst (λ r. IfOk r (λ v. CanCarryOut v server)) is.1 can in
        subst (λ w. Does settings peer observed watching.Nothing answer w decision.verdict) (sym is.0) (nothing_does decision.verdict answer v ready)

  pub alone_ready : (decided : Result Verdict NoMemory) (made : Result Decision NoMemory) → IfOk made (λ decision. (decision.watching ≡ watching.Nothing) × (decided ≡ Ok decision.verdict))
      → IfOk decided (λ v. CanCarryOut v server) → IfOk made (λ decision. CanCarryOut decision.verdict server)
  alone_ready decided (Err e) is can = tt
  alone_ready decided (Ok decision) is can = subst (λ r. IfOk r (λ v. CanCarryOut v server)) is.1 can

  -- ---- a GET of mitigations
  retrieved_available : (number : Option ℕ) (x : Exchange) (content : Content) (ms : List LiveView) (peer : ℕ) → is_unavailable (sends_of number (get_reply x content ms) peer) ≡ false
  retrieved_available number x content [] peer = refl
  retrieved_available number x content (m ∷ ms) peer = refl

  get_available : (number : Option ℕ) (x : Exchange) (mid : Option ℕ) (content : Content) (taken : Bool) (ms : List LiveView) (peer : ℕ)
      → is_unavailable (sends_of number (get_by x mid content taken ms) peer) ≡ false
  get_available number x mid content true ms peer = refl
  get_available number x mid content false ms peer = retrieved_available number x content (filter (is_wanted mid) ms) peer

  -- something else than mitigations is told
  module _ (settings : SettingsValue) (facts : Facts) (from : ClientRequest) (mid : Option ℕ) (content : Content) (observed : List ObservedValue) (v : Verdict)
      (is : v ≡ get_answer facts from mid content) (can : CanCarryOut v server) where
    abbrev answer : Verdict
    answer = get_answer facts from mid content

    can_answer : CanCarryOut answer server
    can_answer = subst (λ v. CanCarryOut v server) is can

    available : is_unavailable (sends_of None v from.peer) ≡ false
    available = ap (λ v. is_unavailable (sends_of None v from.peer)) is ∙ get_available None from.exchange mid content (is_taken facts from) (facts.views (client_for from)) from.peer

    watched_so : (lists : Lists) (s : Observe)
        → observing settings lists from.peer (asked_from from mid content s) answer (sends_of None v from.peer) observed ≡ changed settings.limits.observers lists from.peer (leaving from.exchange s) observed
    watched_so lists said.Register =
        cond-false (is_retrieved answer) (registered lists settings.limits.observers (record { peer = from.peer; domain = from.domain; token = from.exchange.token; cuid = from.cuid; mid = mid; content = content }) observed) observed
        (retrieves_nothing answer can_answer)
    watched_so lists said.Deregister = cond-false (is_unavailable (sends_of None v from.peer)) observed (deregistered from.peer from.exchange.token observed) available
    watched_so lists said.No = refl

    pub watched_does : (s : Observe) → Does settings from.peer observed (asked_from from mid content s) answer (leaving from.exchange s) v
    watched_does s = record {
      verdict_is = is ∙ sym (spoken_plain (number_of settings (asked_from from mid content s) observed) answer can_answer);
      observers = λ lists. watched_so lists s;
    }

-- mitigations are shown
module _ (settings : SettingsValue) (from : ClientRequest) (mid : Option ℕ) (content : Content) (observed : List ObservedValue) (body reply : List ℕ) (number : Option ℕ) where
  observers_so : (lists : Lists) (s : Observe) → reply ≡ showing from.exchange number body
      → observing settings lists from.peer (asked_from from mid content s) (verdict.Retrieves from.exchange body) (sends_of None (verdict.LongReply reply) from.peer) observed
      ≡ changed settings.limits.observers lists from.peer (asked_from from mid content s) observed
  observers_so lists said.Register is = refl
  observers_so lists said.Deregister is =
      cond-false (code_of reply == 160) observed (deregistered from.peer from.exchange.token observed) (ap (λ r. code_of r == 160) is ∙ by_number number)
    where
      by_number : (n : Option ℕ) → (code_of (showing from.exchange n body) == 160) ≡ false
      by_number None = refl
      by_number (Some k) = refl
  observers_so lists said.No is = refl

  pub show_does : (s : Observe) → number ≡ number_of settings (asked_from from mid content s) observed → reply ≡ showing from.exchange number body
      → Does settings from.peer observed (asked_from from mid content s) (verdict.Retrieves from.exchange body) (asked_from from mid content s) (verdict.LongReply reply)
  show_does s number_is is = record {
    verdict_is = ap verdict.LongReply (is ∙ ap (λ n. showing from.exchange n body) number_is);
    observers = λ lists. observers_so lists s is;
  }

-- ---- what asks nothing, and what can't be answered for want of memory
module _ (settings : SettingsValue) (peer : ℕ) (observed : List ObservedValue) where
  pub dismissed_does : (d : Dismissal) → Does settings peer observed (watching_of settings peer (received.Dismissed d)) (dismissal_verdict d) (rejecting d) (dismissal_verdict d)
  dismissed_does dismissal.Ignored = record { verdict_is = refl; observers = λ lists. refl }
  dismissed_does (dismissal.Reset id) = record { verdict_is = refl; observers = λ lists. refl }
  dismissed_does (dismissal.Rejected id) = record { verdict_is = refl; observers = λ lists. refl }

  pub unread_does : (d : Dismissal) → Does settings peer observed watching.Nothing (dismissal_verdict d) watching.Nothing (dismissal_verdict d)
  unread_does dismissal.Ignored = record { verdict_is = refl; observers = λ lists. refl }
  unread_does (dismissal.Reset id) = record { verdict_is = refl; observers = λ lists. refl }
  unread_does (dismissal.Rejected id) = record { verdict_is = refl; observers = λ lists. refl }

  asked_leaves : (lists : Lists) (x : Exchange) (r : Request)
      → observing settings lists peer (watching_of settings peer (received.Asked x r)) (verdict.Reply (unavailable x)) (sends_of None (verdict.Reply (unavailable x)) peer) observed ≡ observed
  asked_leaves lists x (request.PutMitigation path body) = refl
  asked_leaves lists x (request.GetMitigation path content s) = known_leaves settings peer x lists x observed content path s (domain_for settings (role_of settings peer) path.cdid)
  asked_leaves lists x (request.DeleteMitigation path) = refl
  asked_leaves lists x (request.PutConfig sid body) = refl
  asked_leaves lists x (request.GetConfig sid) = refl
  asked_leaves lists x (request.DeleteConfig sid) = refl
  asked_leaves lists x (request.PutHeartbeat heard) = refl

  pub lacking_does : (x : Exchange) (r : Request)
      → Does settings peer observed (watching_of settings peer (received.Asked x r)) (verdict.Reply (unavailable x)) watching.Nothing (verdict.Reply (unavailable x))
  lacking_does x r = record { verdict_is = refl; observers = λ lists. asked_leaves lists x r }

-- ---- what observers are shown
among_history : (tables : RegistryValue) (entries : List Entry) (domain : ℕ) (cuid : List ℕ) → registry.Represents tables entries → domain < domains_of tables
    → views_among (lost_in tables.held) domain (time_of tables) cuid (rows_for tables.live domain) ≡ views_in domain cuid (time_of tables) entries
among_history tables entries domain cuid represents inside =
    let lost = lost_in tables.held in
    let t = time_of tables in
    ap (λ (ms : List Mitigation). map (view_with lost domain) (live_views_of t cuid ms)) (rows_are_live tables.live entries domain inside represents.live)
    ∙ ap (map (view_with lost domain)) (views_are t domain cuid entries)
    ∙ views_so tables.held entries domain (live_views_in domain cuid t entries) represents.held

-- those of a client of a domain
pub views_by_is : (tables : RegistryValue) (entries : List Entry) (domain : ℕ) (cuid : List ℕ) → registry.Represents tables entries → domain < domains_of tables
    → views_in domain cuid (time_of tables) entries ≡ views_by tables domain cuid
views_by_is tables entries domain cuid represents inside =
    sym (among_history tables entries domain cuid represents inside)
    ∙ sym (cond-true (nat_lt domain (domains_of tables)) (views_among (lost_in tables.held) domain (time_of tables) cuid (rows_for tables.live domain)) [] (lt-ltb domain (domains_of tables) inside))

same_wanted : (mid : Option ℕ) (views : List LiveView) → seen_of mid views ≡ seen_among mid views
same_wanted None views = refl
same_wanted (Some mid) views = refl

module _ (server : ServerValue) (settings : SettingsValue) (state : State) (represents : Represents server settings state) where
  abbrev tables : RegistryValue
  tables = server.registry

  views_there : (domain : ℕ) (cuid : List ℕ) → domain < domains_of tables
      → views_among (lost_in tables.held) domain (time_of tables) cuid (rows_for tables.live domain) ≡ views_in domain cuid state.time state.history
  views_there domain cuid inside =
      among_history tables state.history domain cuid represents.registry inside ∙ ap (λ t. views_in domain cuid t state.history) represents.time_is

  same_domains : (domain : ℕ) → nat_lt domain (domains_of tables) ≡ nat_lt domain (length settings.domains)
  same_domains domain = ap (nat_lt domain) represents.is_of.domains

  -- the client's live mitigations
  views_same : (domain : ℕ) (cuid : List ℕ) → views_by tables domain cuid ≡ views_at settings state.time state.history domain cuid
  views_same domain cuid =
      by_test (nat_lt domain (domains_of tables)) refl
      ∙ ap (λ b. cond b (views_in domain cuid state.time state.history) []) (same_domains domain)
    where
      by_test : (b : Bool) → nat_lt domain (domains_of tables) ≡ b
          → cond b (views_among (lost_in tables.held) domain (time_of tables) cuid (rows_for tables.live domain)) [] ≡ cond b (views_in domain cuid state.time state.history) []
      by_test true is = views_there domain cuid (ltb-true domain (domains_of tables) is)
      by_test false is = refl

  seen_there : (domain : ℕ) (cuid : List ℕ) (mid : Option ℕ) → views_of tables domain cuid mid ≡ seen_in settings state domain cuid mid
  seen_there domain cuid mid = by_test (nat_lt domain (domains_of tables)) ∙ ap (seen_among mid) (views_same domain cuid)
    where
      there : List LiveView
      there = views_among (lost_in tables.held) domain (time_of tables) cuid (rows_for tables.live domain)

      none_seen : (wanted : Option ℕ) → [] ≡ seen_among wanted []
      none_seen wanted = refl

      by_test : (b : Bool) → cond b (seen_of mid there) [] ≡ seen_among mid (cond b there [])
      by_test true = same_wanted mid there
      by_test false = none_seen mid

  pub seen_same : views_of tables ≡ seen_in settings state
  seen_same = fun_ext (λ domain. fun_ext (λ cuid. fun_ext (λ mid. seen_there domain cuid mid)))

  pub bodies_same : bodies_of tables ≡ bodies_at settings state.time state.history
  bodies_same = fun_ext (λ observer. ap (λ views. retrieved_body observer.content (filter (is_wanted observer.mid) views)) (views_same observer.domain observer.cuid))

-- ---- who may observe
ring_pairs : (peer domain : ℕ) (rings : List RingValue) → list_any (is_ring_of peer domain) rings ≡ list_any (is_pair peer domain) (map pair_of rings)
ring_pairs peer domain [] = refl
ring_pairs peer domain (ring ∷ rings) = ap (λ b. is_ring_of peer domain ring || b) (ring_pairs peer domain rings)

-- a withdrawal of this peer in this domain
abbrev withdrawn : ℕ → ℕ → Entry
withdrawn peer domain = record { time = 0; peer = peer; domain = domain; cuid = []; key = key.Http; reply = []; change = change.Withdraw 0 }

withdrawn_own : (settings : SettingsValue) (peer domain : ℕ) → may_act settings (role_of settings peer) domain ≡ true → is_of_settings settings (withdrawn peer domain) ≡ true
unfolding is_configuration is_loss
withdrawn_own settings peer domain may = ap (λ b. (b && true) && true) may

withdrawn_signals : (peer domain : ℕ) → is_signal (withdrawn peer domain).change ≡ true
unfolding is_signal is_configuration
withdrawn_signals peer domain = refl

module _ (server : ServerValue) (serving : IsServing server) where
  pair_there : (peer domain : ℕ) → may_act server.settings (role_of server.settings peer) domain ≡ true → list_any (is_pair peer domain) server.watch.observers.pairs ≡ true
  pair_there peer domain may =
      let of = serving.represents.represents in
      let ring = own_has_ring server.settings server.registry (withdrawn peer domain) of.is_of (withdrawn_own server.settings peer domain may) in
      let rings = subst (λ b. (not b || list_any (is_ring_of peer domain) server.registry.rings) ≡ true) (withdrawn_signals peer domain) ring in
      ap (λ (v : ObserversValue). list_any (is_pair peer domain) v.pairs) of.observers
      ∙ ap (list_any (is_pair peer domain)) (sym of.is_of.pairs) ∙ sym (ring_pairs peer domain server.registry.rings) ∙ rings

  pub may_observe : (from : ClientRequest) (mid : Option ℕ) (content : Content) (s : Observe) → may_act server.settings (role_of server.settings from.peer) from.domain ≡ true
      → MayObserve server.watch.observers.pairs (asked_from from mid content s)
  may_observe from mid content said.Register may = pair_there from.peer from.domain may
  may_observe from mid content said.Deregister may = tt
  may_observe from mid content said.No may = tt
