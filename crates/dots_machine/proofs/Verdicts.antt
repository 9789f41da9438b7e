-- There are facts, and whatever facts are taken, the rules say the same.
use Rattle.std.proofs.Common.{◌≡◌, ℕ, Bool, true, false, ◌&&◌, ◌||◌, ◌==◌, List, [], ◌∷◌, map, Option, Some, None, refl, sym, ap, ◌∙◌}
use Rattle.std.specs.Prelude.{bytes_eq}
use Rattle.std.specs.List.{list_any}
use Rattle.std.proofs.lemmas.Bool.{false≢true, cond_both, false_from_ne_true}
use Rattle.dots_settings.specs.Settings.{SettingsValue}
use Rattle.dots_settings.specs.Lookups.{role_of, prefixes_of}
use Rattle.dots_history.specs.declared.entry.Entry.{Entry}
use Rattle.dots_history.specs.declared.put.Put.{Put}
use Rattle.dots_history.specs.declared.status.Status.{Status}
use Rattle.dots_history.specs.declared.status.Status.TheVariants.{Ended, Open, Withdrawn}
use Rattle.dots_history.specs.Histories.{Mitigation, mitigations, held}
use Rattle.dots_history.specs.Rows.{is_lost_in}
use Rattle.dots_history.specs.Keeping.{is_open}
use Rattle.dots_history.specs.Tables.{Client}
use Rattle.dots_history.specs.Views.{mitigations_of}
use Rattle.dots_keys.specs.declared.head_request.Content.{Content}
use Rattle.dots_keys.specs.declared.request.Request.{Request}
use Rattle.dots_keys.specs.declared.request.Request.TheVariants as request
use Rattle.conflict_rules.specs.ByMid.{has_mid}
use Rattle.conflict_rules.specs.Lives.{live_of, put_or_nothing}
use Rattle.conflict_rules.specs.LiveViews.{status_number, live_view, of_cuid, live_views_of}
use Rattle.dots_history.specs.Entries.{put_of}
use Rattle.conflict_rules.specs.Requests.{Request as Wish}
use Rattle.conflict_rules.specs.Judgements.{IsTaken, HasMid}
use Rattle.conflict_rules.specs.Statuses.{status_by, works_for, view_with, is_standing}
use Rattle.conflict_rules.proofs.Rules.{collides_taken, taken_collides, mid_stands, there_mid}
use Rattle.conflict_rules.proofs.JudgedByPlaces.{judged_by_places, places_judge}
use Rattle.dots_keys.specs.declared.exchange.Exchange.{Exchange}
use Rattle.dots_machine.specs.declared.received.Received.{Received}
use Rattle.dots_machine.specs.declared.received.Received.TheVariants as received
use Rattle.dots_machine.specs.declared.client_request.ClientRequest.{ClientRequest}
use Rattle.dots_machine.specs.declared.mitigation_request.MitigationRequest.{MitigationRequest}
use Rattle.dots_machine.specs.Verdict.{Verdict}
use Rattle.dots_machine.specs.Domains.{domain_for, config_domain}
use Rattle.conflict_rules.specs.AskableTargets.{scope_fault}
use Rattle.dots_machine.specs.MessageRepeats.{Sent, sent_for, Repeats, unless_repeated}
use Rattle.dots_keys.specs.declared.request.ConfigBody.{ConfigBody}
use Rattle.session_core.specs.Negotiating.{negotiated}
use Rattle.dots_machine.specs.ConfiguredPeers.{sid_of, is_held}
use Rattle.dots_machine.specs.Facts.{Facts, IsTestOf, AreFacts, stands_as, facts_of}
use Rattle.dots_machine.specs.Mitigations.{sent_by, request_of, judged, unless_faulty, put_answer, client_for, delete_by, delete_answer, get_by, get_answer}
use Rattle.dots_machine.specs.Deciding.{in_domain, asks_for, with_mid, put_in, put_for, delete_in, delete_for, get_for, config_answer, put_config_for, clear_answer, delete_config_for, config_view, get_config_for, answer_to}
use Rattle.dots_machine.specs.Machine.{State, facts_in, DecidesRequest, rules_say, Rules}
use Rattle.dots_machine.proofs.MessageRepeats.{is_repeated, is_remembered, none_remembered, never_repeated}

-- ---- what stands, as it is shown and as the rules see it
standing_is_open : (works : Bool) (s : Status) → is_standing (status_by works (status_number s)) ≡ is_open s
standing_is_open true Open = refl
standing_is_open false Open = refl
standing_is_open works (Withdrawn at) = refl
standing_is_open works Ended = refl

own_one : (stands own mid : Bool) → own ≡ true → (mid && stands) ≡ ((stands && own) && mid)
own_one stands false mid is = absurd (cc is)
own_one true true true is = refl
own_one true true false is = refl
own_one false true true is = refl
own_one false true false is = refl

other_one : (stands own mid : Bool) → own ≡ false → ((stands && own) && mid) ≡ false
other_one stands true mid is = absurd (cc is)
other_one true false mid is = refl
other_one false false mid is = refl

module _ (lost : ℕ → ℕ → Bool) (domain t : ℕ) (cuid : List ℕ) (mid : ℕ) where
  same_standing : (ms : List Mitigation) → list_any (stands_as mid) (map (view_with lost domain) (live_views_of t cuid ms)) ≡ list_any (has_mid cuid mid) (map live_of ms)
  same_standing [] = refl
  same_standing (m ∷ ms) =
      let go = same_standing ms in
      let own = bytes_eq m.put.cuid cuid in
      let rest = list_any (has_mid cuid mid) (map live_of ms) in
      let of_mid = (put_or_nothing (put_of m.put.change)).mid == mid in
      cond_both
      own
      (m ∷ of_cuid cuid ms)
      (of_cuid cuid ms)
      (λ xs. list_any (stands_as mid) (map (view_with lost domain) (map (live_view t) xs)) ≡ (((is_open m.status && own) && of_mid) || rest))
      (λ is.
      ap (λ b. (of_mid && b) || list_any (stands_as mid) (map (view_with lost domain) (live_views_of t cuid ms)))
      (standing_is_open (works_for lost domain (live_view t m)) m.status)
      ∙ ap (λ b. b || list_any (stands_as mid) (map (view_with lost domain) (live_views_of t cuid ms))) (own_one (is_open m.status) own of_mid is)
      ∙ ap (λ b. ((is_open m.status && own) && of_mid) || b) go)
      (λ out. go ∙ sym (ap (λ b. b || rest) (other_one (is_open m.status) own of_mid out)))

-- ---- the facts that a registry reads
is_test : (b : Bool) (P : Type 0) → (b ≡ true → P) → (P → b ≡ true) → IsTestOf b P
is_test true P to from = to refl
is_test false P to from = λ p. false≢true (from p)

-- another test of the same has the same value
tested : (b test : Bool) (P : Type 0) → IsTestOf b P → (test ≡ true → P) → (P → test ≡ true) → b ≡ test
tested true test P is to from = sym (from is)
tested false test P is to from = sym (false_from_ne_true test (λ yes. is (to yes)))

module _ (settings : SettingsValue) (t : ℕ) (history : List Entry) where
  abbrev read : Facts
  read = facts_of settings t history

  repeats_read : (sent : Sent) → Repeats settings.limits.remembered t history sent (read.repeated sent)
  repeats_read sent = by_found (read.repeated sent) refl
    where
      by_found : (o : Option Entry) → read.repeated sent ≡ o → Repeats settings.limits.remembered t history sent o
      by_found (Some entry) at = is_repeated settings.limits.remembered t sent history entry at
      by_found None at = never_repeated settings.limits.remembered t sent history at

  module _ (client : Client) (mid : ℕ) where
    as_rules : read.stands client mid ≡ list_any (has_mid client.cuid mid) (map live_of (mitigations_of client.domain (mitigations t history)))
    as_rules = same_standing (is_lost_in (held history)) client.domain t client.cuid mid (mitigations_of client.domain (mitigations t history))

    stands_so : read.stands client mid ≡ true → (put : Put) × HasMid t history client mid put
    stands_so is = mid_stands t history client mid (sym as_rules ∙ is)

    stands_true : (put : Put) × HasMid t history client mid put → read.stands client mid ≡ true
    stands_true has = as_rules ∙ there_mid t history client mid has.0 has.1

  pub are_facts : AreFacts settings t history read
  are_facts = record {
    time = refl;
    repeated = repeats_read;
    judged = λ domain request. judged_by_places settings t history domain request (read.judged domain request) refl;
    taken = λ client peer. is_test (read.taken client peer) (IsTaken t history client peer) (collides_taken t history client peer) (taken_collides t history client peer);
    stands = λ client mid. is_test (read.stands client mid) ((put : Put) × HasMid t history client mid put) (stands_so client mid) (stands_true client mid);
    views = λ client. refl;
    configured = λ domain peer. refl;
  }

  -- ---- and any others are the same
  module _ (facts : Facts) (are : AreFacts settings t history facts) where
    pub repeated_is : (sent : Sent) → facts.repeated sent ≡ read.repeated sent
    repeated_is sent = by_found (facts.repeated sent) (are.repeated sent)
      where
        by_found : (o : Option Entry) → Repeats settings.limits.remembered t history sent o → o ≡ read.repeated sent
        by_found (Some entry) is = sym (is_remembered settings.limits.remembered t sent history entry is)
        by_found None never = sym (none_remembered settings.limits.remembered t sent history never)

    pub judged_is : (domain : ℕ) (wish : Wish) → facts.judged domain wish ≡ read.judged domain wish
    judged_is domain wish = sym (places_judge settings t history domain wish (facts.judged domain wish) (are.judged domain wish))

    pub taken_is : (client : Client) (peer : ℕ) → facts.taken client peer ≡ read.taken client peer
    taken_is client peer =
        tested (facts.taken client peer) (read.taken client peer) (IsTaken t history client peer) (are.taken client peer)
        (collides_taken t history client peer) (taken_collides t history client peer)

    pub stands_is : (client : Client) (mid : ℕ) → facts.stands client mid ≡ read.stands client mid
    stands_is client mid =
        tested (facts.stands client mid) (read.stands client mid) ((put : Put) × HasMid t history client mid put) (are.stands client mid)
        (stands_so client mid) (stands_true client mid)

    in_domain_is : (x : Exchange) (found : Option ℕ) (f g : ℕ → Verdict) → ((d : ℕ) → f d ≡ g d) → in_domain x found f ≡ in_domain x found g
    in_domain_is x None f g each = refl
    in_domain_is x (Some d) f g each = each d

    with_mid_is : (x : Exchange) (mid : Option ℕ) (f g : ℕ → Verdict) → ((m : ℕ) → f m ≡ g m) → with_mid x mid f ≡ with_mid x mid g
    with_mid_is x None f g each = refl
    with_mid_is x (Some m) f g each = each m

    put_is : (a : MitigationRequest) → put_answer settings facts a ≡ put_answer settings read a
    put_is a =
        let fault = scope_fault settings (prefixes_of settings a.from.domain) a.body.asked in
        ap (λ o. unless_faulty a.from.exchange fault (unless_repeated o (judged facts.time a (facts.judged a.from.domain (request_of a))))) (repeated_is (sent_by a.from))
        ∙ ap (λ n. unless_faulty a.from.exchange fault (unless_repeated (read.repeated (sent_by a.from)) (judged n a (facts.judged a.from.domain (request_of a))))) are.time
        ∙ ap (λ r. unless_faulty a.from.exchange fault (unless_repeated (read.repeated (sent_by a.from)) (judged t a r))) (judged_is a.from.domain (request_of a))

    delete_is : (from : ClientRequest) (mid : ℕ) → delete_in facts from mid ≡ delete_in read from mid
    delete_is from mid =
        ap (λ o. unless_repeated o (delete_answer facts from mid)) (repeated_is (sent_by from))
        ∙ ap (λ n. unless_repeated (read.repeated (sent_by from)) (delete_by n from mid (facts.taken (client_for from) from.peer) (facts.stands (client_for from) mid))) are.time
        ∙ ap (λ b. unless_repeated (read.repeated (sent_by from)) (delete_by t from mid b (facts.stands (client_for from) mid))) (taken_is (client_for from) from.peer)
        ∙ ap (λ b. unless_repeated (read.repeated (sent_by from)) (delete_by t from mid (read.taken (client_for from) from.peer) b)) (stands_is (client_for from) mid)

    get_is : (from : ClientRequest) (mid : Option ℕ) (content : Content) → get_answer facts from mid content ≡ get_answer read from mid content
    get_is from mid content =
        ap (λ b. get_by from.exchange mid content b (facts.views (client_for from))) (taken_is (client_for from) from.peer)
        ∙ ap (get_by from.exchange mid content (read.taken (client_for from) from.peer)) (are.views (client_for from))

    module _ (peer : ℕ) (x : Exchange) where
      put_config_is : (sid : ℕ) (body : ConfigBody) (d : ℕ) → put_config_for facts peer x sid body d ≡ put_config_for read peer x sid body d
      put_config_is sid body d =
          ap (λ o. unless_repeated o (config_answer facts.time peer d x sid (is_held sid (facts.configured d peer)) (negotiated (sid_of (facts.configured d peer)) sid body)))
          (repeated_is (sent_for peer x d))
          ∙ ap
          (λ n. unless_repeated (read.repeated (sent_for peer x d)) (config_answer n peer d x sid (is_held sid (facts.configured d peer)) (negotiated (sid_of (facts.configured d peer)) sid body)))
          are.time
          ∙ ap (λ c. unless_repeated (read.repeated (sent_for peer x d)) (config_answer t peer d x sid (is_held sid c) (negotiated (sid_of c) sid body))) (are.configured d peer)

      delete_config_is : (sid d : ℕ) → delete_config_for facts peer x sid d ≡ delete_config_for read peer x sid d
      delete_config_is sid d =
          ap (λ o. unless_repeated o (clear_answer facts.time peer d x (is_held sid (facts.configured d peer)))) (repeated_is (sent_for peer x d))
          ∙ ap (λ n. unless_repeated (read.repeated (sent_for peer x d)) (clear_answer n peer d x (is_held sid (facts.configured d peer)))) are.time
          ∙ ap (λ c. unless_repeated (read.repeated (sent_for peer x d)) (clear_answer t peer d x (is_held sid c))) (are.configured d peer)

      answer_is : (r : Request) → answer_to settings facts peer x r ≡ answer_to settings read peer x r
      answer_is (request.PutMitigation path body) =
          in_domain_is x (domain_for settings (role_of settings peer) path.cdid) (put_for settings facts peer x path body) (put_for settings read peer x path body)
          (λ d.
          with_mid_is x path.mid (put_in settings facts (asks_for peer x path d) body) (put_in settings read (asks_for peer x path d) body)
          (λ m. put_is (record { from = asks_for peer x path d; mid = m; body = body })))
      answer_is (request.GetMitigation path content observe) =
          in_domain_is x (domain_for settings (role_of settings peer) path.cdid) (get_for facts peer x path content) (get_for read peer x path content)
          (λ d. get_is (asks_for peer x path d) path.mid content)
      answer_is (request.DeleteMitigation path) =
          in_domain_is x (domain_for settings (role_of settings peer) path.cdid) (delete_for facts peer x path) (delete_for read peer x path)
          (λ d. with_mid_is x path.mid (delete_in facts (asks_for peer x path d)) (delete_in read (asks_for peer x path d)) (delete_is (asks_for peer x path d)))
      answer_is (request.PutConfig sid body) =
          in_domain_is x (config_domain (role_of settings peer)) (put_config_for facts peer x sid body) (put_config_for read peer x sid body) (put_config_is sid body)
      answer_is (request.GetConfig sid) =
          in_domain_is x (config_domain (role_of settings peer)) (get_config_for facts peer x sid) (get_config_for read peer x sid)
          (λ d. ap (config_view x sid) (are.configured d peer))
      answer_is (request.DeleteConfig sid) =
          in_domain_is x (config_domain (role_of settings peer)) (delete_config_for facts peer x sid) (delete_config_for read peer x sid) (delete_config_is sid)
      answer_is (request.PutHeartbeat heard) = refl

    say_is : (peer : ℕ) (got : Received) → rules_say settings facts peer got ≡ rules_say settings read peer got
    say_is peer (received.Unread d) = refl
    say_is peer (received.Dismissed d) = refl
    say_is peer (received.Refused x e) = refl
    say_is peer (received.Asked x r) = answer_is peer x r

-- ---- what is decided in a state
module _ (settings : SettingsValue) (state : State) (peer : ℕ) where
  pub request_valued : (x : Exchange) (r : Request) (v : Verdict) → DecidesRequest settings state peer x r v → v ≡ answer_to settings (facts_in settings state) peer x r
  request_valued x r v is = is.2 ∙ answer_is settings state.time state.history is.0 is.1 peer x r

  pub request_there : (x : Exchange) (r : Request) → DecidesRequest settings state peer x r (answer_to settings (facts_in settings state) peer x r)
  request_there x r = (facts_in settings state, are_facts settings state.time state.history, refl)

  pub valued : (got : Received) (v : Verdict) → Rules settings state peer got v → v ≡ rules_say settings (facts_in settings state) peer got
  valued got v is = is.2 ∙ say_is settings state.time state.history is.0 is.1 peer got

  pub ruled : (got : Received) (v : Verdict) → v ≡ rules_say settings (facts_in settings state) peer got → Rules settings state peer got v
  ruled got v is = (facts_in settings state, are_facts settings state.time state.history, is)
