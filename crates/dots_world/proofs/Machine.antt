-- The machine is such a server.
use Rattle.std.specs.Prelude.{IsTrue, if◌then◌else◌}
use Rattle.std.specs.Int.{w64, to_be_bytes}
use Rattle.std.proofs.Common.{◌≡◌, inl, inr, ℕ, ℤ, ◌<◌, ◌≤◌, ◌^◌, ◌/◌, ◌==◌, ◌&&◌, not, Bool, true, false, List, [], length, Contains, Some, None, Ok, Err, refl, sym, ap, ◌∙◌, subst, arith, ◌++◌, ◌∷◌, map}
use Rattle.std.proofs.lemmas.Option.{same_Some}
use Rattle.cbor_profile.specs.Canon.{canon}
use Rattle.coap_message.specs.declared.codes.TheConstants.{DELETED}
use Rattle.coap_message.specs.declared.kind.Kind.{Kind}
use Rattle.coap_message.specs.declared.kind.Kind.TheVariants.{Con, Non, Ack, Rst}
use Rattle.coap_message.specs.Message.{CoapMessage, IsMessage, spelling}
use Rattle.coap_message.proofs.Whole.{one_message}
use Rattle.dots_keys.specs.declared.exchange.Exchange.{Exchange}
use Rattle.dots_keys.specs.declared.dismissal.Dismissal.TheVariants as dismissal
use Rattle.dots_keys.specs.Exchanges.{exchange_in, emptied, may_ask, is_request, rejected, dismissed}
use Rattle.dots_host.specs.declared.event.Event.{Event}
use Rattle.dots_host.specs.declared.event.Event.TheVariants as event
use Rattle.dots_host.specs.declared.out.OwnedOut.{OwnedOut}
use Rattle.dots_host.specs.declared.out.OwnedOut.TheVariants as owned
use Rattle.dots_host.specs.Runs.{outs_of}
use Rattle.dots_settings.specs.declared.peer.Role.{Role}
use Rattle.dots_settings.specs.declared.peer.Role.TheVariants as role
use Rattle.dots_settings.specs.Settings.{SettingsValue}
use Rattle.dots_settings.specs.Lookups.{role_of}
use Rattle.dots_keys.specs.declared.reject.Reject.{Reject}
use Rattle.dots_keys.specs.declared.head_request.MitigationPath.{MitigationPath}
use Rattle.dots_keys.specs.Operations.{is_client_name}
use Rattle.dots_keys.specs.Results.{missing}
use Rattle.dots_keys.specs.declared.request.Request.{Request}
use Rattle.dots_keys.specs.declared.request.Request.TheVariants as request
use Rattle.dots_keys.specs.declared.request.MitigationBody.{MitigationBody}
use Rattle.dots_keys.specs.Mitigations.{has_target}
use Rattle.dots_history.specs.declared.entry.Entry.{Entry}
use Rattle.dots_history.specs.declared.change.Change.TheVariants as change
use Rattle.reply_bodies.specs.Mitigations.{granted_tree}
use Rattle.dots_gateway.specs.Forwarding.{forwarded}
use Rattle.dots_machine.specs.declared.received.Received.{Received}
use Rattle.dots_machine.specs.declared.received.Received.TheVariants as received
use Rattle.dots_machine.specs.Answering.{AreBytes}
use Rattle.dots_machine.specs.Apart.{domain_of}
use Rattle.dots_machine.specs.Domains.{is_gateway}
use Rattle.dots_machine.specs.Machine.{State, later, Step}
use Rattle.dots_machine.specs.Replies.{grant_code}
use Rattle.dots_machine.specs.Requests.{received_as, IsReceived, unread, asks_nothing, meant}
use Rattle.dots_machine.proofs.Hearing.{tick_history}
use Rattle.dots_world.specs.Adding.{CarriesPut, CarriesWithdrawal, CarriesRequest, AddsWhatIsAsked}
use Rattle.dots_world.specs.Adding as adding
use Rattle.dots_world.specs.Forwarding.{passage_for}
use Rattle.dots_world.specs.Granting.{IsGrant}
use Rattle.dots_world.specs.ReceivedAs.{IsReadAs}
use Rattle.dots_world.proofs.Adding.{step_adds}
use Rattle.dots_world.proofs.Forwarding.{asking_forwarded, withdrawing_forwarded}
use Rattle.dots_world.proofs.Granting.{step_grants}
use Rattle.dots_world.proofs.MachineStays.{grant_stays}
use Rattle.dots_world.proofs.Others.{step_grants_none}
use Rattle.dots_world.proofs.ReceivedAs.{asking_read, withdrawing_read}
use Rattle.dots_world.proofs.Telling.{Says, quiet, plain_message, body_message, grant_says}
use Rattle.dots_world.specs.Plans.{Plan, IsPlan, named_domain}
use Rattle.dots_world.specs.Worlds.{Aim, mitigates, withdraws, message_with, CanSay}
use Rattle.dots_world.proofs.Kept.{Answered}
use Rattle.dots_lists.specs.Name.{is_name}
use Rattle.dots_keys.specs.declared.reject.Reject.TheVariants as reject
use Rattle.dots_world.proofs.Messages.{written}
use Rattle.dots_world.proofs.Slashes.{slash_head, head_refused}
use Rattle.dots_world.proofs.Serving.{AddsOne, IsEntryOf, IsServing}
use Rattle.dots_world.proofs.AtOnce.{AtOnce, nothing_lapses, nothing_back}
use Rattle.dots_machine.specs.Signals.{last_heard}

abbrev pub history_of : State → List Entry
history_of s = s.history

-- ---- what asks nothing adds nothing

pub asks_then : (kind : Kind) (id : ℕ) (empty class : Bool)
    → (if empty then Some (emptied kind id) else if not (may_ask kind) then Some dismissal.Ignored else if not class then Some (rejected kind id) else None) ≡ None
    → (may_ask kind && not empty && class) ≡ true
asks_then kind id true class e = absurd (cc e)
asks_then Con id false true e = refl
asks_then Non id false true e = refl
asks_then Ack id false class e = absurd (cc e)
asks_then Rst id false class e = absurd (cc e)
asks_then Con id false false e = absurd (cc e)
asks_then Non id false false e = absurd (cc e)

none_asked : (m : CoapMessage) (gateway : Bool) (x : Exchange) (asked : Request) → IsMessage m → is_request m ≡ false → IsReceived (spelling m) gateway (received.Asked x asked) → ⊥
none_asked m gateway x asked is none (unread fault breaks e) = absurd (cc e)
none_asked m gateway x asked is none (asks_nothing n said also spelled dismisses e) = absurd (cc e)
none_asked m gateway x asked is none (meant n answer also spelled dismisses means e) =
    let same = one_message n m also is (sym spelled) in
    let asks = asks_then m.kind m.identifier (m.code == 0) (m.code / 32 == 0) (sym (ap dismissed same) ∙ dismisses) in
    absurd (cc (sym none ∙ asks))

-- ---- the request that was received

request_is : (x : Exchange) (asked : Request) (m : CoapMessage) (b : Bool) (made : Request) (r : Reject) → received.Asked x asked ≡ received_as (exchange_in m) (if b then Ok made else Err r)
    → (x ≡ exchange_in m) × (asked ≡ made)
request_is x asked m true made r e = (cc, cc)
request_is x asked m false made r e = absurd (cc e)

one_request : (x : Exchange) (asked : Request) (m : CoapMessage) (made : Request) → received.Asked x asked ≡ received.Asked (exchange_in m) made → (x ≡ exchange_in m) × (asked ≡ made)
one_request x asked m made e = (cc, cc)

-- ---- what an entry carries

body_fits : (refreshed : Bool) (x : Exchange) (body : List ℕ) → x.id < 2 ^ 16 → length x.token ≤ 8 → IsMessage (body_message (grant_code refreshed) x body)
body_fits true x body id token = record { code = omega arith; identifier = id; token = token; options = (omega arith, omega arith, omega arith, tt); empty = λ none. absurd (cc none) }
body_fits false x body id token = record { code = omega arith; identifier = id; token = token; options = (omega arith, omega arith, omega arith, tt); empty = λ none. absurd (cc none) }

module _ (plan : Plan) (is_plan : IsPlan plan) (time peer : ℕ) (datagram : List ℕ) (e : Entry) (c : CarriesRequest plan.settings time peer datagram e) (m : CoapMessage) (number mid : ℕ) (cuid : List ℕ)
    (id : m.identifier < 2 ^ 16) (token : m.token ≡ to_be_bytes w64 number) (same : c.exchange ≡ exchange_in m) where
  short : length m.token ≤ 8
  short = subst (λ (t : List ℕ). length t ≤ 8) (sym token) (omega arith)

  of_put : (path : MitigationPath) (body : MitigationBody) → path.cuid ≡ cuid → path.mid ≡ Some mid → body.trigger ≡ true → c.asked ≡ request.PutMitigation path body
      → IsEntryOf plan peer number cuid mid (mitigates body.asked body.lifetime) e
  of_put path body named mid_is at_once asked =
      let p : CarriesPut plan.settings (exchange_in m) path body e =
      subst (λ x. CarriesPut plan.settings x path body e) same (subst (λ r. adding.Carries plan.settings c.exchange r e) asked c.carries) in
      let mids : p.put.mid ≡ mid = same_Some p.put.mid mid (sym p.mid ∙ mid_is) in
      record {
        of_peer = c.peer_is;
        of_cuid = p.cuid ∙ named;
        carries = (p.put, p.changes, mids, p.asked, p.lasts, p.trigger ∙ at_once);
        numbered = record {
          message = body_message (grant_code p.refreshed) (exchange_in m) (canon (granted_tree p.put.mid p.put.granted));
          is_message = body_fits p.refreshed (exchange_in m) (canon (granted_tree p.put.mid p.put.granted)) id short;
          spelled = p.reply;
          token = token;
        };
        says = λ other other_mid lifetime g.
            let k = grant_stays plan.settings time peer datagram e other other_mid lifetime c g in
            let most = is_plan.settings.most_ceiling in
            let said = k.same (k.within (omega (arith, most))) in
            (k.put, k.changes, said.1, said.2);
      }

  of_withdrawal : (path : MitigationPath) → path.cuid ≡ cuid → path.mid ≡ Some mid → c.asked ≡ request.DeleteMitigation path → IsEntryOf plan peer number cuid mid withdraws e
  of_withdrawal path named mid_is asked =
      let p : CarriesWithdrawal (exchange_in m) path e =
      subst (λ x. CarriesWithdrawal x path e) same (subst (λ r. adding.Carries plan.settings c.exchange r e) asked c.carries) in
      let mids : p.mid ≡ mid = same_Some p.mid mid (sym p.mid_is ∙ mid_is) in
      record {
        of_peer = c.peer_is;
        of_cuid = p.cuid ∙ named;
        carries = p.changes ∙ ap change.Withdraw mids;
        numbered = record {
          message = plain_message DELETED (exchange_in m) [];
          is_message = record { code = omega arith; identifier = id; token = short; options = tt; empty = λ none. absurd (cc none) };
          spelled = p.reply;
          token = token;
        };
        says = λ other other_mid lifetime g. absurd (quiet (plain_message DELETED (exchange_in m) []) refl (subst Says p.reply (grant_says e.reply other other_mid lifetime g)));
      }

-- ---- the laws

module _ (plan : Plan) (is_plan : IsPlan plan) where
  settings : SettingsValue
  settings = plan.settings

  adds_by : (old new : List Entry) (time peer : ℕ) (datagram : List ℕ) (P : Entry → Type 0) → AtOnce old → AddsWhatIsAsked plan.settings time peer datagram old new
      → ((e : Entry) → CarriesRequest plan.settings time peer datagram e → P e) → AddsOne old new P
  adds_by old new time peer datagram P now (met, back, inl is) each = inl (is ∙ nothing_back plan.settings time peer old met now back)
  adds_by old new time peer datagram P now (met, back, inr (e, is, c)) each =
      inr (e, is ∙ ap (λ es. es ++ e ∷ []) (nothing_back plan.settings time peer old met now back), each e c)

  answers : (old : State) (peer : ℕ) (m : CoapMessage) (at : ℕ) (owed : List (State × OwnedOut)) (new : State) → AtOnce old.history → IsMessage m → is_request m ≡ false
      → Step plan.settings old (event.Datagram peer (spelling m)) at owed new → new.history ≡ old.history
  answers old peer m at owed new now is none st = by (step_adds plan.settings old peer (spelling m) at owed new st)
    where
      by : AddsWhatIsAsked plan.settings (later old at).time peer (spelling m) old.history new.history → new.history ≡ old.history
      by (met, back, inl same) = same ∙ nothing_back plan.settings (later old at).time peer old.history met now back
      by (met, back, inr (e, added, c)) = absurd (none_asked m (is_gateway (role_of plan.settings peer)) c.exchange c.asked is none c.received)

  -- for the domain of the peer
  domain_is : (who : Role) (peer : ℕ) (asked made : Request) (domain found : ℕ) → role_of plan.settings peer ≡ who → asked ≡ made → domain_of plan.settings (role_of plan.settings peer) asked ≡ Some found
      → domain_of plan.settings who made ≡ Some found
  domain_is who peer asked made domain found whose same is = ap (λ r. domain_of plan.settings who r) (sym same) ∙ ap (λ r. domain_of plan.settings r asked) (sym whose) ∙ is

  module _ (old : State) (peer number mid : ℕ) (cuid : List ℕ) (domain at : ℕ) (owed : List (State × OwnedOut)) (new : State) (now : AtOnce old.history) (whose : role_of plan.settings peer ≡ role.Client domain)
      (named : IsTrue (is_client_name cuid)) (small : mid < 2 ^ 32) where
    abbrev Wanted : Aim → Entry → Type 0
    Wanted aim e = (e.domain ≡ domain) × IsEntryOf plan peer number cuid mid aim e

    received_so : (m : CoapMessage) (e : Entry) (c : CarriesRequest plan.settings (later old at).time peer (spelling m) e) (got : Received) → IsReadAs (spelling m) false got → received.Asked c.exchange c.asked ≡ got
    received_so m e c got read = read.only (received.Asked c.exchange c.asked) (subst (λ g. IsReceived (spelling m) g (received.Asked c.exchange c.asked)) (ap is_gateway whose) c.received)

    asked_adds : (aim : Aim) → CanSay aim → AreBytes (spelling (message_with number cuid mid aim)) → Step plan.settings old (event.Datagram peer (spelling (message_with number cuid mid aim))) at owed new
        → AddsOne old.history new.history (Wanted aim)
    asked_adds (mitigates asked lifetime) can are st =
        adds_by old.history new.history (later old at).time peer _ (Wanted (mitigates asked lifetime)) now (step_adds plan.settings old peer _ at owed new st)
        (λ e c.
        let m = message_with number cuid mid (mitigates asked lifetime) in
        let got = received_so m e c _ (asking_read number mid cuid asked lifetime named small can.0 can.1 can.2 are) in
        let is = request_is c.exchange c.asked m (has_target asked) (request.PutMitigation (record { cdid = None; cuid = cuid; mid = Some mid }) (record { asked = asked; lifetime = lifetime; trigger = true })) (missing 6) got in (
          same_Some e.domain domain (sym (domain_is (role.Client domain) peer c.asked _ domain e.domain whose is.1 c.domain_is)),
          of_put plan is_plan (later old at).time peer _ e c m number mid cuid (omega arith) refl is.0 (record { cdid = None; cuid = cuid; mid = Some mid }) (record { asked = asked; lifetime = lifetime; trigger = true }) refl refl refl is.1,
        ))
    asked_adds withdraws can are st =
        adds_by old.history new.history (later old at).time peer _ (Wanted withdraws) now (step_adds plan.settings old peer _ at owed new st)
        (λ e c.
        let m = message_with number cuid mid withdraws in
        let got = received_so m e c _ (withdrawing_read number mid cuid named small are) in
        let is = one_request c.exchange c.asked m (request.DeleteMitigation (record { cdid = None; cuid = cuid; mid = Some mid })) got in (
          same_Some e.domain domain (sym (domain_is (role.Client domain) peer c.asked _ domain e.domain whose is.1 c.domain_is)),
          of_withdrawal plan is_plan (later old at).time peer _ e c m number mid cuid (omega arith) refl is.0 (record { cdid = None; cuid = cuid; mid = Some mid }) refl refl is.1,
        ))

  module _ (old : State) (peer next number mid : ℕ) (domain cuid : List ℕ) (at : ℕ) (owed : List (State × OwnedOut)) (new : State) (now : AtOnce old.history) (whose : role_of plan.settings peer ≡ role.Gateway)
      (named_domain_is : IsTrue (is_client_name domain)) (named : IsTrue (is_client_name cuid)) (small : mid < 2 ^ 32) where
    abbrev Passed : Aim → Entry → Type 0
    Passed aim e = (named_domain plan.settings domain ≡ Some e.domain) × IsEntryOf plan peer next cuid mid aim e

    passed_so : (m : CoapMessage) (e : Entry) (c : CarriesRequest plan.settings (later old at).time peer (spelling m) e) (got : Received) → IsReadAs (spelling m) true got → received.Asked c.exchange c.asked ≡ got
    passed_so m e c got read = read.only (received.Asked c.exchange c.asked) (subst (λ g. IsReceived (spelling m) g (received.Asked c.exchange c.asked)) (ap is_gateway whose) c.received)

    passed_adds : (aim : Aim) → CanSay aim → AreBytes (spelling (forwarded next domain (passage_for cuid mid) (message_with number cuid mid aim)))
        → Step plan.settings old (event.Datagram peer (spelling (forwarded next domain (passage_for cuid mid) (message_with number cuid mid aim)))) at owed new → AddsOne old.history new.history (Passed aim)
    passed_adds (mitigates asked lifetime) can are st =
        adds_by old.history new.history (later old at).time peer _ (Passed (mitigates asked lifetime)) now (step_adds plan.settings old peer _ at owed new st)
        (λ e c.
        let m = forwarded next domain (passage_for cuid mid) (message_with number cuid mid (mitigates asked lifetime)) in
        let got = passed_so m e c _ (asking_forwarded next number mid domain cuid asked lifetime named_domain_is named small can.0 can.1 can.2 are) in
        let is = request_is c.exchange c.asked m (has_target asked) (request.PutMitigation (record { cdid = Some domain; cuid = cuid; mid = Some mid }) (record { asked = asked; lifetime = lifetime; trigger = true })) (missing 6) got in (
          domain_is role.Gateway peer c.asked _ 0 e.domain whose is.1 c.domain_is,
          of_put plan is_plan (later old at).time peer _ e c m next mid cuid (omega arith) refl is.0 (record { cdid = Some domain; cuid = cuid; mid = Some mid }) (record { asked = asked; lifetime = lifetime; trigger = true }) refl refl refl is.1,
        ))
    passed_adds withdraws can are st =
        adds_by old.history new.history (later old at).time peer _ (Passed withdraws) now (step_adds plan.settings old peer _ at owed new st)
        (λ e c.
        let m = forwarded next domain (passage_for cuid mid) (message_with number cuid mid withdraws) in
        let got = passed_so m e c _ (withdrawing_forwarded next number mid domain cuid named_domain_is named small are) in
        let is = one_request c.exchange c.asked m (request.DeleteMitigation (record { cdid = Some domain; cuid = cuid; mid = Some mid })) got in (
          domain_is role.Gateway peer c.asked _ 0 e.domain whose is.1 c.domain_is,
          of_withdrawal plan is_plan (later old at).time peer _ e c m next mid cuid (omega arith) refl is.0 (record { cdid = Some domain; cuid = cuid; mid = Some mid }) refl refl is.1,
        ))

  -- a client whose name has a slash adds nothing
  asked_law : (old : State) (peer number mid : ℕ) (cuid : List ℕ) (domain at : ℕ) (owed : List (State × OwnedOut)) (new : State) → AtOnce old.history → role_of plan.settings peer ≡ role.Client domain → IsTrue (is_name cuid) → mid < 2 ^ 32
      → (aim : Aim) → CanSay aim → AreBytes (spelling (message_with number cuid mid aim)) → Step plan.settings old (event.Datagram peer (spelling (message_with number cuid mid aim))) at owed new
      → (b : Bool) → is_client_name cuid ≡ b → AddsOne old.history new.history (λ e. (e.domain ≡ domain) × IsEntryOf plan peer number cuid mid aim e)
  asked_law old peer number mid cuid domain at owed new now whose named small aim can are st true e = asked_adds old peer number mid cuid domain at owed new now whose e small aim can are st
  asked_law old peer number mid cuid domain at owed new now whose named small aim can are st false e = inl (by (step_adds plan.settings old peer _ at owed new st))
    where
      by : AddsWhatIsAsked plan.settings (later old at).time peer (spelling (message_with number cuid mid aim)) old.history new.history → new.history ≡ old.history
      by (met, back, inl same) = same ∙ nothing_back plan.settings (later old at).time peer old.history met now back
      by (met, back, inr (x, is, c)) =
          absurd (head_refused (message_with number cuid mid aim) false reject.Parameter c.exchange c.asked (written number mid cuid named small aim) (slash_head number mid cuid named e small aim)
          (subst (λ g. IsReceived (spelling (message_with number cuid mid aim)) g (received.Asked c.exchange c.asked)) (ap is_gateway whose) c.received))

  grants_stay : (old : State) (came : Event) (at : ℕ) (owed : List (State × OwnedOut)) (new : State) (to : ℕ) (bytes token : List ℕ) (mid : ℕ) (lifetime : ℤ)
      → Step plan.settings old came at owed new → Contains (outs_of owed) (owned.To to bytes) → IsGrant bytes token mid lifetime → Answered new.history to bytes
  grants_stay old (event.Datagram peer datagram) at owed new to bytes token mid lifetime st has g =
      let w = step_grants plan.settings old peer datagram at owed new to bytes token mid lifetime st has g in (w.entry, w.kept, w.peer_is, w.reply_is)
  grants_stay old (event.Opened conn peer) at owed new to bytes token mid lifetime st has g = absurd (step_grants_none plan.settings old (event.Opened conn peer) at owed new to bytes token mid lifetime tt st has g)
  grants_stay old (event.Piece conn piece) at owed new to bytes token mid lifetime st has g = absurd (step_grants_none plan.settings old (event.Piece conn piece) at owed new to bytes token mid lifetime tt st has g)
  grants_stay old (event.Closed conn) at owed new to bytes token mid lifetime st has g = absurd (step_grants_none plan.settings old (event.Closed conn) at owed new to bytes token mid lifetime tt st has g)
  grants_stay old event.Tick at owed new to bytes token mid lifetime st has g = absurd (step_grants_none plan.settings old event.Tick at owed new to bytes token mid lifetime tt st has g)
  grants_stay old event.Restart at owed new to bytes token mid lifetime st has g = absurd (step_grants_none plan.settings old event.Restart at owed new to bytes token mid lifetime tt st has g)
  grants_stay old event.End at owed new to bytes token mid lifetime st has g = absurd (step_grants_none plan.settings old event.End at owed new to bytes token mid lifetime tt st has g)
  grants_stay old event.Failed at owed new to bytes token mid lifetime st has g = absurd (step_grants_none plan.settings old event.Failed at owed new to bytes token mid lifetime tt st has g)

  pub machine_serves : IsServing plan history_of (Step plan.settings)
  machine_serves = record {
    ticks = λ old at owed new now st. tick_history plan.settings (later old at) st.0 new st.2 ∙ nothing_lapses plan.settings (later old at).time old.history (map last_heard old.contacts) now;
    restarts = λ old at owed new st. ap (λ (s : State). s.history) st.1;
    answers = answers;
    asked = λ old peer number mid cuid aim domain at owed new now whose named small can are st. asked_law old peer number mid cuid domain at owed new now whose named small aim can are st (is_client_name cuid) refl;
    forwards = λ old peer next number mid domain cuid aim at owed new now whose named_domain_is named small can are st.
        passed_adds old peer next number mid domain cuid at owed new now whose named_domain_is named small aim can are st;
    grants = grants_stay;
  }
