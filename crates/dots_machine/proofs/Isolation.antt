-- Over a whole run a domain's entries are what its own requests make.
use Rattle.std.proofs.Common.{◌≡◌, ◌≢◌, ◌⊎◌, ◌==◌, inl, inr, ℕ, Bool, true, false, List, [], ◌∷◌, ◌++◌, Option, Some, None, refl, sym, ap, ◌∙◌, subst, arith, append-nil, map, append_assoc}
use Rattle.std.proofs.lemmas.Bool.{false≢true, cond_both, both_ways, cond-true}
use Rattle.std.proofs.lemmas.Bool.Decides.{nat_tests}
use Rattle.std.proofs.lemmas.List.Elements.{filter-append}
use Rattle.dots_host.specs.declared.event.Event.{Event}
use Rattle.dots_host.specs.declared.event.Event.TheVariants as event
use Rattle.dots_host.specs.declared.out.OwnedOut.{OwnedOut}
use Rattle.dots_host.specs.declared.out.OwnedOut.TheVariants as owned
use Rattle.dots_host.specs.Acts.{Timed}
use Rattle.dots_host.specs.Runs.{resting, Turn, Chain, outs_of, Trace}
use Rattle.dots_host.proofs.RunLemmas.{outs_back}
use Rattle.dots_settings.specs.declared.peer.Role.{Role}
use Rattle.dots_settings.specs.declared.peer.Role.TheVariants as role
use Rattle.dots_settings.specs.Settings.{SettingsValue}
use Rattle.dots_settings.specs.Lookups.{role_of}
use Rattle.dots_history.specs.declared.entry.Entry.{Entry}
use Rattle.dots_history.specs.Histories.{alone}
use Rattle.stream_table.specs.Lines.{PeerLines}
use Rattle.http_cut.specs.Requests.{Request as HttpRequest, takes, IsCut}
use Rattle.rest_answers.specs.declared.caller.Caller.{Caller}
use Rattle.rest_answers.specs.declared.front.RestFront.TheVariants as fronts
use Rattle.rest_answers.specs.Answer.{RestAnswer}
use Rattle.rest_answers.specs.Answers.{answer_to as http_answer, Answers as HttpAnswers}
use Rattle.rest_answers.specs.Replies.{unavailable}
use Rattle.rest_answers.specs.Turns.{RestFront, caller_of, IsFront, is_waiting, reply_in, closing, sends_of as http_sends, entries_in, entries_of as http_entries, HttpTurn}
use Rattle.dots_keys.specs.declared.request.Request.{Request}
use Rattle.dots_keys.specs.declared.request.Request.TheVariants as request
use Rattle.dots_keys.specs.declared.exchange.Exchange.{Exchange}
use Rattle.dots_keys.specs.declared.dismissal.Dismissal.{Dismissal}
use Rattle.dots_keys.specs.declared.dismissal.Dismissal.TheVariants as dismissal
use Rattle.dots_machine.specs.Machine as machine
use Rattle.dots_machine.specs.Isolation as isolation
use Rattle.dots_machine.specs.declared.received.Received.{Received}
use Rattle.dots_machine.specs.declared.received.Received.TheVariants as received
use Rattle.dots_machine.specs.Verdict.{Verdict}
use Rattle.dots_machine.specs.declared.verdict.Verdict.TheVariants as verdict
use Rattle.dots_machine.specs.Domains.{is_gateway, domain_for, config_domain, is_stranger}
use Rattle.dots_machine.specs.Requests.{IsReceived}
use Rattle.dots_machine.specs.Machine.{State, afresh, later, DecidesRequest, Rules, dismissal_verdict, reject_verdict, Decides, by_silence, by_rules, for_want_of_memory, sends_of, after, AnswersFront, receiving, Takes, Step, facts_in, Answers, Hears, watched}
use Rattle.dots_machine.specs.Apart.{SameFor, domain_of, AsksFor, by_datagram, AsksOn}
use Rattle.dots_machine.specs.Handlings.{Handling, IsHandling, EachHandling, handlings_of}
use Rattle.dots_machine.specs.Isolation.{by_message, by_http, TakenUp, TakesUp, PassesBy, none_came, was_refused, lacked_memory, FrontTakesUp, FrontPassesBy, of_another, front_refused, failed, FrontsTakeUp, PieceTakesUp, TakesUpAll, entries_of, AnsweredBy, Make, IsIsolated, DomainTurn, hears, asks, ticks, restarts, IsHeard, SignalsFirst}
use Rattle.dots_machine.specs.Deciding.{in_domain, put_for, delete_for, get_for, put_config_for, delete_config_for, get_config_for, answer_to}
use Rattle.dots_machine.proofs.OneRequest.{Same, one, first_refused, second_refused, same_received}
use Rattle.dots_machine.proofs.Outcomes.{AcceptsWell, IsRefusal, reject_refuses, puts_accept, deletes_accept, gets_accept, put_configs_accept, delete_configs_accept, get_configs_accept, request_accepts}
use Rattle.dots_machine.proofs.Verdicts.{request_valued, request_there}
use Rattle.dots_machine.specs.Observing.{number_of}
use Rattle.dots_machine.proofs.Hearing.{answer_history, answer_time, tick_history, after_time, tick_time}
use Rattle.dots_machine.proofs.Connections.{opens_history}
use Rattle.dots_machine.proofs.Observing.{notified_history, notified_time}
use Rattle.dots_machine.proofs.Apart.{untouched, Elsewhere, asked_apart, heard_of, after_contacts, fronts_contacts}
use Rattle.dots_machine.proofs.Fronts.{takes_outs}
use Rattle.dots_machine.proofs.FrontsApart.{front_elsewhere, front_alike}
use Rattle.dots_machine.proofs.Handlings.{by_handlings}
use Rattle.dots_machine.specs.Signals.{domain_of_client, own_domain, LastHeard}
use Rattle.dots_machine.specs.Parts.{Part, is_domain, heard_in, part_of, part_heard, part_lapsed, part_restarted}
use Rattle.dots_machine.proofs.Parting.{alone_twice, own_or_not, is_own_domain, hearing_own, hearing_other, notified_part, tick_part}
use Rattle.std.proofs.lemmas.Option.{none-some}

-- ---- small steps
some_same : {X : Type 0} (x y : X) → Some x ≡ Some y → x ≡ y
some_same x y e = cc

some_or_none : {X : Type 0} (x : X) → Some x ≡ None → ⊥
some_or_none x e = cc

stranger_is : (who : Role) → is_stranger who ≡ true → who ≡ role.Stranger
stranger_is role.Stranger is = refl
stranger_is (role.Client d) is = absurd (cc is)
stranger_is role.Gateway is = absurd (cc is)

stranger_asks : (settings : SettingsValue) (r : Request) → domain_of settings role.Stranger r ≡ None
stranger_asks settings (request.PutMitigation path body) = refl
stranger_asks settings (request.GetMitigation path content observe) = refl
stranger_asks settings (request.DeleteMitigation path) = refl
stranger_asks settings (request.PutConfig sid body) = refl
stranger_asks settings (request.GetConfig sid) = refl
stranger_asks settings (request.DeleteConfig sid) = refl
stranger_asks settings (request.PutHeartbeat heard) = refl

stranger_nowhere : (settings : SettingsValue) (who : Role) (r : Request) (domain : ℕ) → is_stranger who ≡ true → domain_of settings who r ≡ Some domain → ⊥
stranger_nowhere settings who r domain is found =
    some_or_none domain (sym found ∙ ap (λ who. domain_of settings who r) (stranger_is who is) ∙ stranger_asks settings r)

-- who refuses adds nothing
refusal_adds_nothing : (v : Verdict) (state : State) → IsRefusal v → after v state ≡ state
refusal_adds_nothing verdict.Silent state none = refl
refusal_adds_nothing (verdict.Reply reply) state none = refl
refusal_adds_nothing (verdict.LongReply reply) state none = absurd none
refusal_adds_nothing (verdict.Retrieves y body) state none = absurd none
refusal_adds_nothing (verdict.Accept reply entry) state none = absurd none

dismissal_adds_nothing : (d : Dismissal) (state : State) → after (dismissal_verdict d) state ≡ state
dismissal_adds_nothing dismissal.Ignored state = refl
dismissal_adds_nothing (dismissal.Reset id) state = refl
dismissal_adds_nothing (dismissal.Rejected id) state = refl

-- ---- the entries that requests make

abbrev MakeEntries : SettingsValue → ℕ → List Entry → List TakenUp → List Entry → Type 0
MakeEntries settings domain before [] after = after ≡ before
MakeEntries settings domain before (taken ∷ rest) after =
    (accepted : List Entry) × AnsweredBy settings domain before taken.time taken.peer taken.asking taken.replies accepted
    × MakeEntries settings domain (before ++ accepted) rest after

-- the part with these entries
abbrev with_entries : List LastHeard → List Entry → Part
with_entries heard entries = record { entries = entries; heard = heard }

requests_make : (settings : SettingsValue) (domain : ℕ) (heard : List LastHeard) (before : List Entry) (requests : List TakenUp) (after : List Entry) → MakeEntries settings domain before requests after
    → Make settings domain (with_entries heard before) (map asks requests) (with_entries heard after)
requests_make settings domain heard before [] after is = ap (with_entries heard) is
requests_make settings domain heard before (taken ∷ rest) after make =
    (with_entries heard (before ++ make.0), (make.0, make.1, refl), requests_make settings domain heard (before ++ make.0) rest after make.2)

-- ---- turns, one after the other

make_then : (settings : SettingsValue) (domain : ℕ) (before between after : Part) (first rest : List DomainTurn) → Make settings domain before first between → Make settings domain between rest after
    → Make settings domain before (first ++ rest) after
make_then settings domain before between after [] rest a b = subst (λ part. Make settings domain part rest after) a b
make_then settings domain before between after (turn ∷ first) rest a b = (a.0, a.1, make_then settings domain a.0 between after first rest a.2 b)

-- ---- of a connection

module _ (settings : SettingsValue) (domain conn : ℕ) where
  module _ (state : State) (sends : List OwnedOut) (new : State) where
    -- one turn, and what it makes of the entries of the domain
    abbrev Front : Type 0
    Front =
        ((taken : TakenUp) × FrontTakesUp settings domain conn state sends taken × (accepted : List Entry)
        × AnsweredBy settings domain (alone domain state.history) taken.time taken.peer taken.asking taken.replies accepted
        × (alone domain new.history ≡ alone domain state.history ++ accepted))
        ⊎ (FrontPassesBy settings domain conn state sends × (alone domain new.history ≡ alone domain state.history))

    module _ (extra : List Entry) (made : alone domain new.history ≡ alone domain state.history ++ extra) (lines : List PeerLines)
        (turn : HttpTurn settings conn state.time (alone domain state.history) state.lines sends (alone domain state.history ++ extra) lines) (here : turn.caller.domain ≡ domain) where
      -- it leaves the domain with what its front adds
      left_with : (at : RestFront) → turn.front ≡ at → alone domain new.history ≡ alone domain state.history ++ http_entries at
      left_with at is = made ∙ turn.history_is ∙ ap (λ f. alone domain state.history ++ http_entries f) is

      left_alone : (at : RestFront) → turn.front ≡ at → http_entries at ≡ [] → alone domain new.history ≡ alone domain state.history
      left_alone at is none = left_with at is ∙ ap (λ es. alone domain state.history ++ es) none ∙ append-nil (alone domain state.history)

      by_answers : (size : ℕ) (close : Bool) (answered : RestAnswer) → turn.front ≡ fronts.Answered size close answered → (message : HttpRequest) → IsCut turn.line.buffered (takes message)
          → close ≡ message.close → HttpAnswers settings state.time (alone domain state.history) turn.caller message answered → Front
      by_answers size close answered is message cut closes (inl (read, means, given)) = inl (
        record { time = state.time; peer = turn.caller.peer; asking = by_http conn message; replies = sends },
        record {
          caller = turn.caller;
          asks_on = turn.asks;
          for_domain = here;
          peer_is = refl;
          line = turn.line;
          there = turn.there;
          message = message;
          cut = cut;
          asks = refl;
          time_is = refl;
          sends_are = refl;
        },
        entries_in answered,
        (
          read,
          means,
          answered,
          given ∙ ap (λ d. http_answer settings state.time (alone domain state.history) (asks_as turn.caller.peer d) message.close read) here,
          turn.sends_are ∙ ap (http_sends conn) is ∙ ap (λ b. owned.Conn conn (reply_in answered) ∷ closing conn b) closes,
          refl,
        ),
        left_with (fronts.Answered size close answered) is,
      )
        where
          asks_as : ℕ → ℕ → Caller
          asks_as peer domain = record { peer = peer; domain = domain }
      by_answers size close answered is message cut closes (inr lacks) = inr (
        failed (
          message.close,
          turn.sends_are ∙ ap (http_sends conn) (is ∙ ap (fronts.Answered size close) lacks) ∙ ap (λ b. owned.Conn conn (unavailable message.close) ∷ closing conn b) closes,
        ),
        left_alone (fronts.Answered size close answered) is (ap entries_in lacks),
      )

      by_front : (at : RestFront) → turn.front ≡ at → IsFront settings state.time (alone domain state.history) turn.caller turn.line.buffered at → Front
      by_front fronts.Waits is stands = absurd (false≢true (sym turn.due ∙ ap is_waiting is))
      by_front (fronts.Refused fault) is stands = inr (front_refused turn.line fault turn.there stands, left_alone (fronts.Refused fault) is refl)
      by_front (fronts.Answered size close answered) is stands = by_answers size close answered is stands.0 stands.1 stands.3 stands.4

    one_front_isolated : AnswersFront settings conn state sends new → Front
    one_front_isolated x = by_test (x.2.caller.domain == domain) refl
      where
        callers : (c : Caller) → caller_of settings conn state.lines ≡ Some c → x.2.caller ≡ c
        callers c there = some_same x.2.caller c (sym x.2.asks ∙ there)

        by_test : (own : Bool) → (x.2.caller.domain == domain) ≡ own → Front
        by_test false out =
            let away : x.2.caller.domain ≢ domain = λ same. both_ways (x.2.caller.domain == domain) out (grind (arith, nat_tests, same)) in inr (
              of_another x.2.caller x.2.asks away,
              front_elsewhere settings conn domain state sends new x (λ c there same. away (ap (λ (c : Caller). c.domain) (callers c there) ∙ same)),
            )
        by_test true own =
            let here : x.2.caller.domain ≡ domain = grind (arith, nat_tests, own) in
            let asks : AsksOn settings domain conn state = λ c there. ap (λ (c : Caller). c.domain) (sym (callers c there)) ∙ here in
            let alone_state : State = record state { history = alone domain state.history } in
            let a = front_alike settings conn domain state alone_state sends new x asks (alone_twice domain state.history) in
            by_front a.extra
            (ap (alone domain) a.history_is ∙ filter-append (λ (e : Entry). e.domain == domain) state.history a.extra ∙ ap (λ es. alone domain state.history ++ es) a.own)
            a.lines a.turn (asks a.turn.caller a.turn.asks) a.turn.front refl a.turn.stands

  fronts_isolated : (state : State) (turns : List (Turn State)) (new : State) → Chain (AnswersFront settings conn) state turns new
      → (requests : List TakenUp) × FrontsTakeUp settings domain conn state turns requests × MakeEntries settings domain (alone domain state.history) requests (alone domain new.history)
  fronts_isolated state [] new x = ([], refl, ap (λ (s : State). alone domain s.history) x)
  fronts_isolated state (turn ∷ turns) new x = joined (one_front_isolated state turn.sends turn.left x.0) (fronts_isolated turn.left turns new x.1)
    where
      joined : Front state turn.sends turn.left
          → ((requests : List TakenUp) × FrontsTakeUp settings domain conn turn.left turns requests × MakeEntries settings domain (alone domain turn.left.history) requests (alone domain new.history))
          → (requests : List TakenUp) × FrontsTakeUp settings domain conn state (turn ∷ turns) requests × MakeEntries settings domain (alone domain state.history) requests (alone domain new.history)
      joined (inl (taken, how, accepted, answered, entries)) more = (
        taken ∷ more.0,
        inl (taken, more.0, refl, how, more.1),
        (accepted, answered, subst (λ es. MakeEntries settings domain es more.0 (alone domain new.history)) entries more.2),
      )
      joined (inr (passes, entries)) more =
          (more.0, inr (passes, more.1), subst (λ es. MakeEntries settings domain es more.0 (alone domain new.history)) entries more.2)

-- ---- of a handling

-- What it takes up is decided on in this state: the one in which its peer was heard, or in which signals are lost.
module _ (settings : SettingsValue) (domain : ℕ) (now : State) (handling : Handling) (new : State) where
  -- the state that has the domain's entries alone
  abbrev own : State
  own = afresh settings (alone domain now.history) new.time

  -- a request for the domain was taken up, and its answer goes by the domain's entries alone
  abbrev Taken : Type 0
  Taken =
      (taken : TakenUp) × TakesUp settings domain handling new taken × (accepted : List Entry)
      × AnsweredBy settings domain (alone domain now.history) taken.time taken.peer taken.asking taken.replies accepted
      × (alone domain new.history ≡ alone domain now.history ++ accepted)

  abbrev Passed : Type 0
  Passed = PassesBy settings domain handling × (alone domain new.history ≡ alone domain now.history)

  module _ (peer : ℕ) (datagram : List ℕ) (came : handling.what ≡ event.Datagram peer datagram) where
    abbrev who : Role
    who = role_of settings peer

    -- what a request for the domain is
    abbrev IsAsked : Request → Type 0
    IsAsked r = domain_of settings who r ≡ Some domain

    abbrev Asks : Type 0
    Asks = (x : Exchange) × (r : Request) × IsReceived datagram (is_gateway who) (received.Asked x r) × IsAsked r

    same_datagram : (p : ℕ) (bytes : List ℕ) → event.Datagram peer datagram ≡ event.Datagram p bytes → (p ≡ peer) × (bytes ≡ datagram)
    same_datagram p bytes e = (cc e, cc e)

    asks_here : (what : Event) → what ≡ event.Datagram peer datagram → AsksFor settings domain what → Asks
    asks_here what is (by_datagram p bytes x r e got found) =
        let same = same_datagram p bytes (sym is ∙ e) in (
          x,
          r,
          subst (λ p. IsReceived datagram (is_gateway (role_of settings p)) (received.Asked x r)) same.0
              (subst (λ bytes. IsReceived bytes (is_gateway (role_of settings p)) (received.Asked x r)) same.1 got),
          subst (λ p. domain_of settings (role_of settings p) r ≡ Some domain) same.0 found,
        )

    none_by : (Asks → ⊥) → PassesBy settings domain handling
    none_by never = none_came (λ asks. never (asks_here handling.what came asks))

    -- whether a request is for the domain
    is_asked : (r : Request) → IsAsked r ⊎ (IsAsked r → ⊥)
    is_asked r = by_domain (domain_of settings who r) refl
      where
        by_domain : (found : Option ℕ) → domain_of settings who r ≡ found → IsAsked r ⊎ (IsAsked r → ⊥)
        by_domain None at = inr (λ asked. some_or_none domain (sym asked ∙ at))
        by_domain (Some d) at = by_test (d == domain) refl
          where
            by_test : (b : Bool) → (d == domain) ≡ b → IsAsked r ⊎ (IsAsked r → ⊥)
            by_test true here = let same : d ≡ domain = grind (arith, nat_tests, here) in inl (at ∙ ap Some same)
            by_test false out = inr (λ asked. let same : d ≡ domain = some_same d domain (sym at ∙ asked) in both_ways (d == domain) out (grind (arith, nat_tests, same)))

    module _ (replies notices : List OwnedOut) (sent : handling.sends ≡ replies ++ notices) (decided : Verdict) (number : Option ℕ) (told : replies ≡ sends_of number decided peer)
        (history_is : new.history ≡ (after decided now).history) (time_is : new.time ≡ (after decided now).time) where
      unchanged : after decided now ≡ now → alone domain new.history ≡ alone domain now.history
      unchanged same = ap (alone domain) (history_is ∙ ap (λ (state : State). state.history) same)

      -- the verdict leaves the domain's entries as they were
      abbrev Left : Verdict → Type 0
      Left v = alone domain (after v now).history ≡ alone domain now.history

      -- not for the domain
      not_taken : (x : Exchange) (r : Request) → (IsAsked r → ⊥) → decided ≡ answer_to settings (facts_in settings now) peer x r → alone domain new.history ≡ alone domain now.history
      not_taken x r never is = ap (alone domain) (history_is ∙ ap (λ v. (after v now).history) is) ∙ left r never
        where
          same_now : SameFor domain now now
          same_now = record { time = refl; entries = refl }

          in_domain_left : (found : Option ℕ) (f : ℕ → Verdict) → ((d : ℕ) → AcceptsWell d (f d)) → (found ≡ Some domain → ⊥) → Left (in_domain x found f)
          in_domain_left None f well out = refl
          in_domain_left (Some d) f well out = untouched settings domain now now same_now d (f d) (λ same. out (ap Some same)) (well d)

          left : (r : Request) → (IsAsked r → ⊥) → Left (answer_to settings (facts_in settings now) peer x r)
          left (request.PutMitigation path body) never =
              in_domain_left (domain_for settings who path.cdid) (put_for settings (facts_in settings now) peer x path body) (puts_accept settings (facts_in settings now) peer x path body) never
          left (request.GetMitigation path content observe) never =
              in_domain_left (domain_for settings who path.cdid) (get_for (facts_in settings now) peer x path content) (gets_accept settings (facts_in settings now) peer x path content) never
          left (request.DeleteMitigation path) never =
              in_domain_left (domain_for settings who path.cdid) (delete_for (facts_in settings now) peer x path) (deletes_accept settings (facts_in settings now) peer x path) never
          left (request.PutConfig sid body) never =
              in_domain_left (config_domain who) (put_config_for (facts_in settings now) peer x sid body) (put_configs_accept settings (facts_in settings now) peer x sid body) never
          left (request.GetConfig sid) never =
              in_domain_left (config_domain who) (get_config_for (facts_in settings now) peer x sid) (get_configs_accept settings (facts_in settings now) peer x sid) never
          left (request.DeleteConfig sid) never =
              in_domain_left (config_domain who) (delete_config_for (facts_in settings now) peer x sid) (delete_configs_accept settings (facts_in settings now) peer x sid) never
          left (request.PutHeartbeat heard) never = refl

      time_same : (v : Verdict) → (after v now).time ≡ now.time
      time_same verdict.Silent = refl
      time_same (verdict.Reply reply) = refl
      time_same (verdict.LongReply reply) = refl
      time_same (verdict.Retrieves y body) = refl
      time_same (verdict.Accept reply entry) = refl

      -- for the domain
      taken_up : (x : Exchange) (r : Request) → IsReceived datagram (is_gateway who) (received.Asked x r) → IsAsked r → decided ≡ answer_to settings (facts_in settings now) peer x r → Taken
      taken_up x r got asked is = (
        record { time = new.time; peer = peer; asking = by_message x r; replies = replies },
        record {
          datagram = datagram;
          came = came;
          exchange = x;
          request = r;
          asks = refl;
          is_received = got;
          for_domain = asked;
          time_is = refl;
          notices = notices;
          sends_are = sent;
        },
        entries_of decided,
        (decided, subst (DecidesRequest settings own peer x r) (sym (is ∙ alike)) (request_there settings own peer x r), number, told, refl),
        ap (alone domain) history_is ∙ added decided (well_so is),
      )
        where
          same : SameFor domain now own
          same = record { time = sym (time_is ∙ time_same decided); entries = alone_twice domain now.history }

          alike : answer_to settings (facts_in settings now) peer x r ≡ answer_to settings (facts_in settings own) peer x r
          alike = by_apart (asked_apart settings domain now own same peer x r)
            where
              by_apart : Elsewhere settings domain now own same r peer (answer_to settings (facts_in settings now) peer x r) ⊎ (answer_to settings (facts_in settings now) peer x r ≡ answer_to settings (facts_in settings own) peer x r)
                  → answer_to settings (facts_in settings now) peer x r ≡ answer_to settings (facts_in settings own) peer x r
              by_apart (inl (another, apart, at, none)) = absurd (apart (some_same another domain (sym at ∙ asked)))
              by_apart (inr same) = same

          well_so : decided ≡ answer_to settings (facts_in settings now) peer x r → AcceptsWell domain decided
          well_so is = subst (AcceptsWell domain) (sym is) (request_accepts settings (facts_in settings now) peer x r domain asked)

          added : (v : Verdict) → AcceptsWell domain v → alone domain (after v now).history ≡ alone domain now.history ++ entries_of v
          added verdict.Silent well = absurd well
          added (verdict.Reply reply) well = sym (append-nil (alone domain now.history))
          added (verdict.LongReply reply) well = sym (append-nil (alone domain now.history))
          added (verdict.Retrieves y body) well = sym (append-nil (alone domain now.history))
          added (verdict.Accept reply entry) well =
              filter-append (λ e. e.domain == domain) now.history (entry ∷ [])
              ∙ ap (λ es. alone domain now.history ++ es) (cond-true (entry.domain == domain) (entry ∷ []) [] (grind (arith, nat_tests, well.1)))

      -- ---- what was received
      never_asked : (got : Received) → ((x : Exchange) (r : Request) → IsAsked r → Same got (received.Asked x r) → ⊥) → IsReceived datagram (is_gateway who) got → PassesBy settings domain handling
      never_asked got out is = none_by (λ asks. out asks.0 asks.1 asks.3 (same_received datagram (is_gateway who) got (received.Asked asks.0 asks.1) is asks.2))

      dismissed_never : (d : Dismissal) (x : Exchange) (r : Request) → IsAsked r → Same (received.Dismissed d) (received.Asked x r) → ⊥
      dismissed_never d x r asked (one e) = cc e
      dismissed_never d x r asked (first_refused m e is) = cc is
      dismissed_never d x r asked (second_refused m e is) = cc is

      same_request : (x y : Exchange) (r q : Request) → received.Asked x r ≡ received.Asked y q → r ≡ q
      same_request x y r q e = cc e

      another_never : (y : Exchange) (q : Request) → (IsAsked q → ⊥) → (x : Exchange) (r : Request) → IsAsked r → Same (received.Asked y q) (received.Asked x r) → ⊥
      another_never y q out x r asked (one e) = out (subst IsAsked (sym (same_request y x q r e)) asked)
      another_never y q out x r asked (first_refused m e is) = cc is
      another_never y q out x r asked (second_refused m e is) = cc is

      unread_never : (d : Dismissal) (x : Exchange) (r : Request) → IsAsked r → Same (received.Unread d) (received.Asked x r) → ⊥
      unread_never d x r asked (one e) = cc e
      unread_never d x r asked (first_refused m e is) = cc is
      unread_never d x r asked (second_refused m e is) = cc is

      by_received : (got : Received) → IsReceived datagram (is_gateway who) got → Rules settings now peer got decided → Taken ⊎ Passed
      by_received (received.Unread d) got is =
          inr (never_asked (received.Unread d) (unread_never d) got, unchanged (ap (λ v. after v now) is.2 ∙ dismissal_adds_nothing d now))
      by_received (received.Dismissed d) got is =
          inr (never_asked (received.Dismissed d) (dismissed_never d) got, unchanged (ap (λ v. after v now) is.2 ∙ dismissal_adds_nothing d now))
      by_received (received.Refused x e) got is =
          inr (was_refused peer datagram x e came got, unchanged (ap (λ v. after v now) is.2 ∙ refusal_adds_nothing (reject_verdict x e) now (reject_refuses x e)))
      by_received (received.Asked x r) got is = by_asked (is_asked r)
        where
          valued : decided ≡ answer_to settings (facts_in settings now) peer x r
          valued = request_valued settings now peer x r decided is

          by_asked : IsAsked r ⊎ (IsAsked r → ⊥) → Taken ⊎ Passed
          by_asked (inl asked) = inl (taken_up x r got asked valued)
          by_asked (inr out) = inr (never_asked (received.Asked x r) (another_never x r out) got, not_taken x r out valued)

      by_decision : Decides settings now peer datagram decided → Taken ⊎ Passed
      by_decision (by_silence stranger is) =
          inr (none_by (λ asks. stranger_nowhere settings who asks.1 domain stranger asks.3), unchanged (ap (λ v. after v now) is))
      by_decision (for_want_of_memory n lacks) =
          inr (
            lacked_memory peer datagram came (record {
              message = lacks.message;
              spelled = lacks.spelled;
              notices = notices;
              sent = sent ∙ ap (λ replies. replies ++ notices) (told ∙ ap (λ v. sends_of number v peer) lacks.answer);
            }),
            unchanged (ap (λ v. after v now) lacks.answer),
          )
      by_decision (by_rules n got received rules) = by_received got received rules

  -- nothing was asked
  nothing_asked : (what : Event) → handling.what ≡ what → ((peer : ℕ) (datagram : List ℕ) → what ≡ event.Datagram peer datagram → ⊥) → new.history ≡ now.history → Taken ⊎ Passed
  nothing_asked what is never same = inr (none_came out, ap (alone domain) same)
    where
      out : AsksFor settings domain handling.what → ⊥
      out (by_datagram p bytes x r e got found) = never p bytes (sym is ∙ e)

  -- what was taken up, which makes the later entries of the domain of the earlier ones
  abbrev IsolatedBy : (List TakenUp → Type 0) → Type 0
  IsolatedBy TakeUp = (requests : List TakenUp) × TakeUp requests × MakeEntries settings domain (alone domain now.history) requests (alone domain new.history)

  abbrev OneOrNone : List TakenUp → Type 0
  OneOrNone requests = ((taken : TakenUp) × (requests ≡ taken ∷ []) × TakesUp settings domain handling new taken) ⊎ ((requests ≡ []) × PassesBy settings domain handling)

  one_or_none : Taken ⊎ Passed → IsolatedBy OneOrNone
  one_or_none (inl (taken, how, accepted, answered, entries)) = (taken ∷ [], inl (taken, refl, how), (accepted, answered, entries))
  one_or_none (inr (passes, entries)) = ([], inr (refl, passes), entries)

-- ---- of each handling

module _ (settings : SettingsValue) (domain : ℕ) (old : State) (handling : Handling) (new : State) where
  abbrev now : State
  now = later old handling.at

  -- the turns of the domain in the handling, which make the later part of it of the earlier one
  abbrev IsolatedIn : Event → Type 0
  IsolatedIn what =
      (signals : List DomainTurn) × (requests : List TakenUp) × SignalsFirst settings domain new what signals × TakesUpAll settings domain old handling new what requests
      × Make settings domain (part_of settings domain old) (signals ++ map asks requests) (part_of settings domain new)

  -- what was taken up behind this state
  requests_behind : (state : State) (requests : List TakenUp) → heard_in settings domain new ≡ heard_in settings domain state
      → MakeEntries settings domain (alone domain state.history) requests (alone domain new.history)
      → Make settings domain (part_of settings domain state) (map asks requests) (part_of settings domain new)
  requests_behind state requests heard make =
      subst (λ h. Make settings domain (part_of settings domain state) (map asks requests) (with_entries h (alone domain new.history))) (sym heard)
      (requests_make settings domain (heard_in settings domain state) (alone domain state.history) requests (alone domain new.history) make)

  no_datagram : (what : Event) → handling.what ≡ what → ((peer : ℕ) (datagram : List ℕ) → what ≡ event.Datagram peer datagram → ⊥) → AsksFor settings domain handling.what → ⊥
  no_datagram what is never (by_datagram p bytes x r e got found) = never p bytes (sym is ∙ e)

  -- no signal changes, and nothing is asked
  quiet : (what : Event) → handling.what ≡ what → ((peer : ℕ) (datagram : List ℕ) → what ≡ event.Datagram peer datagram → ⊥) → new.history ≡ old.history
      → IsolatedBy settings domain now handling new (OneOrNone settings domain now handling new)
  quiet what is never same = one_or_none settings domain now handling new (nothing_asked settings domain now handling new what is never same)

  by_datagram_heard : (peer : ℕ) (datagram : List ℕ) (owed : List (State × OwnedOut)) → handling.what ≡ event.Datagram peer datagram → outs_of owed ≡ handling.sends
      → Step settings old (event.Datagram peer datagram) handling.at owed new → IsolatedIn (event.Datagram peer datagram)
  by_datagram_heard peer datagram owed is sent step = joined (heard_first a.met a.hears) (one_or_none settings domain a.met handling new decided)
    where
      a : Answers settings now peer datagram step.0 new
      a = step.2

      left : State
      left = watched settings peer a.asked a.decided a.replies (after a.decided a.met)

      decided : Taken settings domain a.met handling new ⊎ Passed settings domain a.met handling new
      decided =
          by_decision settings domain a.met handling new peer datagram is a.replies a.notices
          (sym sent ∙ ap outs_of step.1 ∙ outs_back new step.0 ∙ a.sends_are) a.decided (number_of settings a.asked a.met.observers) a.replies_are
          (answer_history settings now peer datagram step.0 new a)
          (notified_time settings left new a.notices a.notified)
          a.decides

      time_is : new.time ≡ now.time
      time_is = answer_time settings now peer datagram step.0 new a ∙ after_time a.decided now

      heard_is : heard_in settings domain new ≡ heard_in settings domain a.met
      heard_is =
          ap (λ (part : Part). part.heard) (notified_part settings domain left new a.notices a.notified)
          ∙ heard_of settings domain (after a.decided a.met) a.met (after_contacts settings a.decided a.met)

      Heard : State → Type 0
      Heard met = (signals : List DomainTurn) × IsHeard settings domain new.time peer datagram signals × Make settings domain (part_of settings domain old) signals (part_of settings domain met)

      heard_first : (met : State) → Hears settings now peer datagram met → Heard met
      heard_first met (machine.by_message known m readable spelled e) = by_own (is_domain domain (own_domain settings peer)) refl
        where
          by_own : (own : Bool) → is_domain domain (own_domain settings peer) ≡ own → Heard met
          by_own true here =
              let own = own_or_not domain (own_domain settings peer) here in (
                hears new.time peer ∷ [],
                isolation.by_message own m readable spelled refl,
                (
                  part_heard settings new.time peer (part_of settings domain old),
                  refl,
                  ap (part_of settings domain) e ∙ hearing_own settings domain now peer own ∙ ap (λ t. part_heard settings t peer (part_of settings domain old)) (sym time_is),
                ),
              )
          by_own false never =
              let out : own_domain settings peer ≢ Some domain = λ own. both_ways (is_domain domain (own_domain settings peer)) never (is_own_domain domain (own_domain settings peer) own) in
              ([], isolation.of_another out refl, ap (part_of settings domain) e ∙ hearing_other settings domain now peer out)
      heard_first met (machine.unreadable fault breaks e) = ([], isolation.unreadable fault breaks refl, ap (part_of settings domain) e)
      heard_first met (machine.by_stranger unknown e) = (
        [],
        isolation.of_another (λ own. none-some domain (sym (ap domain_of_client (stranger_is (role_of settings peer) unknown)) ∙ own)) refl,
        ap (part_of settings domain) e,
      )

      joined : Heard a.met → IsolatedBy settings domain a.met handling new (OneOrNone settings domain a.met handling new) → IsolatedIn (event.Datagram peer datagram)
      joined (signals, first, made) (requests, take, make) = (
        signals,
        requests,
        first,
        take,
        make_then settings domain (part_of settings domain old) (part_of settings domain a.met) (part_of settings domain new) signals (map asks requests) made
            (requests_behind a.met requests heard_is make),
      )

  by_piece : (conn : ℕ) (piece : List ℕ) (owed : List (State × OwnedOut)) → outs_of owed ≡ handling.sends → Step settings old (event.Piece conn piece) handling.at owed new
      → IsolatedIn (event.Piece conn piece)
  by_piece conn piece owed sent step =
      let x : Takes settings conn (receiving conn piece now) step.0 new = step.2 in
      let all = fronts_isolated settings domain conn (receiving conn piece now) x.answered x.rested x.fronts in (
        [],
        all.0,
        refl,
        record {
          turns = x.answered;
          rested = x.rested;
          fronts = x.fronts;
          take_up = all.1;
          notices = x.notices;
          sends_are = sym sent ∙ ap outs_of step.1 ∙ takes_outs settings conn (receiving conn piece now) step.0 new x;
        },
        requests_behind old all.0
            (ap (λ (part : Part). part.heard) (notified_part settings domain x.rested new x.notices x.notified)
            ∙ heard_of settings domain x.rested old (fronts_contacts settings conn (receiving conn piece now) x.answered x.rested x.fronts))
            (subst (MakeEntries settings domain (alone domain old.history) all.0) (sym (ap (alone domain) (notified_history settings x.rested new x.notices x.notified))) all.2),
      )

  by_event : (what : Event) (owed : List (State × OwnedOut)) → handling.what ≡ what → outs_of owed ≡ handling.sends → Step settings old what handling.at owed new → IsolatedIn what
  by_event (event.Datagram peer datagram) owed is sent step = by_datagram_heard peer datagram owed is sent step
  by_event event.End owed is sent step =
      let one = quiet event.End is (λ p d e. cc e) (ap (λ (state : State). state.history) step.1) in
      ([], one.0, refl, one.1, requests_behind old one.0 (ap (heard_in settings domain) step.1) one.2)
  by_event event.Failed owed is sent step =
      let one = quiet event.Failed is (λ p d e. cc e) (ap (λ (state : State). state.history) step.1) in
      ([], one.0, refl, one.1, requests_behind old one.0 (ap (heard_in settings domain) step.1) one.2)
  by_event (event.Opened c p) owed is sent step =
      let one = quiet (event.Opened c p) is (λ p d e. cc e) (opens_history now p c step.0 new step.2) in
      ([], one.0, refl, one.1, requests_behind old one.0 (ap (heard_in settings domain) step.2.1) one.2)
  by_event (event.Piece c p) owed is sent step = by_piece c p owed sent step
  by_event (event.Closed c) owed is sent step =
      let one = quiet (event.Closed c) is (λ p d e. cc e) (ap (λ (state : State). state.history) step.1) in
      ([], one.0, refl, one.1, requests_behind old one.0 (ap (heard_in settings domain) step.1) one.2)
  by_event event.Tick owed is sent step =
      let time_is = tick_time settings now step.0 new step.2 in (
        ticks new.time ∷ [],
        [],
        refl,
        inr (refl, none_came (λ asks. no_datagram event.Tick is (λ p d e. cc e) asks)),
        (
          part_lapsed settings new.time (part_of settings domain old),
          refl,
          tick_part settings domain now step.0 new step.2 ∙ ap (λ t. part_lapsed settings t (part_of settings domain old)) (sym time_is),
        ),
      )
  by_event event.Restart owed is sent step = (
    restarts ∷ [],
    [],
    refl,
    inr (refl, none_came (λ asks. no_datagram event.Restart is (λ p d e. cc e) asks)),
    (part_restarted settings domain (part_of settings domain old), refl, ap (part_of settings domain) step.1),
  )

  pub one_handling_isolated : IsHandling settings old handling new → IsolatedIn handling.what
  one_handling_isolated is = by_event handling.what is.owed refl is.sent is.step

module _ (settings : SettingsValue) (domain : ℕ) where
  handlings_isolated : (old : State) (handlings : List Handling) (new : State) → EachHandling (IsHandling settings) old handlings new → IsIsolated settings old handlings new domain
  handlings_isolated old [] new is = record { turns = []; are = (refl, is); make = ap (part_of settings domain) is }
  handlings_isolated old (handling ∷ handlings) new each =
      let one = one_handling_isolated settings domain old handling each.0 each.1 in
      let rest = handlings_isolated each.0 handlings new each.2 in record {
        turns = one.0 ++ (map asks one.1 ++ rest.turns);
        are = (each.0, each.1, one.0, one.1, rest.turns, refl, one.2, one.3, rest.are);
        make =
            subst (λ turns. Make settings domain (part_of settings domain old) turns (part_of settings domain new)) (append_assoc one.0 (map asks one.1) rest.turns)
            (make_then settings domain (part_of settings domain old) (part_of settings domain each.0) (part_of settings domain new) (one.0 ++ map asks one.1) rest.turns one.4 rest.make);
      }

pub run_isolated : (settings : SettingsValue) (domain : ℕ) (from : State) (acts : List Timed) (trace : List State) (new : State) → Trace (Step settings) (resting from) acts trace (resting new)
    → IsIsolated settings from (handlings_of acts) new domain
run_isolated settings domain from acts trace new run = handlings_isolated settings domain from (handlings_of acts) new (by_handlings settings (resting from) acts trace new run)
