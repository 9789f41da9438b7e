-- The gateway's part: what it passes on is an ask of its client, and what it returns grants what the server granted it.
use Rattle.std.specs.Prelude.{IsTrue, bytes_eq}
use Rattle.std.specs.Int.{w64, to_be_bytes}
use Rattle.std.proofs.Common.{◌≡◌, ◌⊎◌, inl, inr, ℕ, suc, ◌<◌, ◌≤◌, ◌^◌, ◌==◌, Bool, true, false, cond, List, [], ◌∷◌, ◌++◌, append-nil, length, filter, flat_map, slice_get, position, find, Contains, Option, Some, None, Result, Ok, Err, option_map, refl, sym, ap, ◌∙◌, subst, subst₂, arith}
use Rattle.std.proofs.lemmas.Bool.{and_parts, eqb-true, eq-eqb}
use Rattle.std.proofs.lemmas.Option.{same_Some, none-some}
use Rattle.std.proofs.lemmas.List.Elements.{Contains-append_left, Contains-push}
use Rattle.std.proofs.lemmas.Slice.Eq.{bytes_eq-Decides}
use Rattle.coap_message.specs.declared.kind.Kind.{Kind}
use Rattle.coap_message.specs.declared.kind.Kind.TheVariants.{Con, Non, Ack, Rst}
use Rattle.coap_message.specs.Message.{CoapMessage, IsMessage, spelling}
use Rattle.coap_message.proofs.Whole.{one_message}
use Rattle.dots_keys.specs.Exchanges.{exchange_in, reply_kind}
use Rattle.dots_keys.specs.Replies.{plain}
use Rattle.dots_host.specs.declared.out.OwnedOut.{OwnedOut}
use Rattle.dots_host.specs.declared.out.OwnedOut.TheVariants as owned
use Rattle.dots_keys.specs.Operations.{is_client_name}
use Rattle.dots_history.specs.declared.entry.Entry.{Entry}
use Rattle.dots_gateway.specs.declared.exchange.Exchange.{Exchange}
use Rattle.dots_gateway.specs.declared.exchange.Waiting.{Waiting}
use Rattle.dots_gateway.specs.declared.passed.Passed.{Passed}
use Rattle.dots_gateway.specs.declared.passed.Passed.TheVariants as passed
use Rattle.dots_gateway.specs.declared.passed.GatewayFault.TheVariants as fault
use Rattle.dots_gateway.specs.declared.routes.Route.{Route}
use Rattle.dots_gateway.specs.Exchanges.{with_one, id_of, key_for, waiting_again}
use Rattle.dots_gateway.specs.Forwarding.{forwarded}
use Rattle.dots_gateway.specs.Gateway.{GatewayValue, Said, gateway_at, UpOrLacks, DownOrLacks, came_again, same_message}
use Rattle.dots_gateway.specs.Routes.{routes_of, domain_for}
use Rattle.dots_gateway.specs.Wanted.{Passage, Wanted, passage, wanted_of}
use Rattle.gateway_agent.specs.Exchanges.{number_or, last_number, is_young}
use Rattle.gateway_agent.specs.Passing.{GatewayState, Refuses, answered as says_so, silent as says_nothing, UpSends, sends_of, fresh_in, restarted, time_from, full_text}
use Rattle.dots_world.specs.Forwarding.{passage_for}
use Rattle.dots_world.specs.Granting.{IsGrant}
use Rattle.dots_world.proofs.Telling.{IsQuiet, quiet, grant_says, may_grant}
use Rattle.dots_keys.specs.declared.reject.Reject.{Reject}
use Rattle.dots_world.proofs.Forwarding.{asking_passes, withdrawing_passes}
use Rattle.dots_world.specs.Plans.{a_client, the_gateway, the_server, PlanClient, Plan, IsPlan, upstream_of, is_behind, from_gateway}
use Rattle.dots_world.specs.Worlds.{Aim, mitigates, withdraws, MadeAsk, message_with, message_by, Packet, packet_passed}
use Rattle.dots_world.specs.Granted.{IsExchangeOf}
use Rattle.dots_world.proofs.Lists.{not_in_none, contains_cases, by_last, filtered, mapped}
use Rattle.dots_world.proofs.Messages.{written, written_token, IsAnswer, answers_no_request}
use Rattle.dots_world.proofs.Slashes.{slash_wanted}
use Rattle.dots_world.proofs.Gateways.{IsPassed, IsFresh, IsAgain, UpFine, ups_fine, IsBeaten, IsReturned, downs_fine, IsKeyed, grant_returned}
use Rattle.dots_world.proofs.Kept.{Within, AsksInv, IsMade, IsOfKept, GatewayInv, raised_gateway, IsClientRequest, Answered, GrantsBy, IsForwarded, SaysOf}

-- ---- small facts

pub not_upstream : (routes : List Route) (up peer : ℕ) (name : List ℕ) → domain_for routes up peer ≡ Some name → (peer == up) ≡ false
not_upstream routes up peer name e = by (peer == up) refl e
  where
    by : (b : Bool) → (peer == up) ≡ b → cond b None (option_map (λ (route : Route). route.domain) (find (λ (route : Route). route.peer == peer) routes)) ≡ Some name → (peer == up) ≡ false
    by true is e = absurd (none-some name e)
    by false is e = is

key_id : (kind : Kind) (id : ℕ) → id_of (key_for kind id) ≡ id
key_id Con id = refl
key_id Non id = refl
key_id Ack id = refl
key_id Rst id = refl

last_pushed : (n : ℕ) (xs : List Exchange) (x : Exchange) → number_or n (xs ++ x ∷ []) ≡ x.number
last_pushed n [] x = refl
last_pushed n (y ∷ xs) x = last_pushed y.number xs x

one_passage : (p q : Passage) → ◌≡◌ {A = Result Wanted Reject} (Ok (passage p)) (Ok (passage q)) → p ≡ q
one_passage p q is = cc

client_passes : (number mid : ℕ) (cuid : List ℕ) (aim : Aim) → IsTrue (is_client_name cuid) → mid < 2 ^ 32 → wanted_of (message_with number cuid mid aim) ≡ Ok (passage (passage_for cuid mid))
client_passes number mid cuid (mitigates asked lifetime) named below = asking_passes number mid cuid asked lifetime named below
client_passes number mid cuid withdraws named below = withdrawing_passes number mid cuid named below

-- the packets of what is sent hold so
pub all_none : (plan : Plan) (P : Packet → Type 0) (outs : List OwnedOut) → outs ≡ [] → (p : Packet) → Contains (flat_map (packet_passed plan) outs) p → P p
all_none plan P outs is p there = absurd (not_in_none p (subst (λ os. Contains (flat_map (packet_passed plan) os) p) is there))

all_one : (plan : Plan) (P : Packet → Type 0) (outs : List OwnedOut) (to : ℕ) (bytes : List ℕ) → outs ≡ owned.To to bytes ∷ [] → P (record { source = the_gateway; target = from_gateway plan to; bytes = bytes })
    → (p : Packet) → Contains (flat_map (packet_passed plan) outs) p → P p
all_one plan P outs to bytes is holds p there =
    elim (contains_cases _ [] p (subst (λ os. Contains (flat_map (packet_passed plan) os) p) is there)) [ inl same ↦ subst P same holds | inr none ↦ absurd (not_in_none p none) ]

-- ---- the time, and a restart

pub aged : (plan : Plan) (n : ℕ) (asks : List MadeAsk) (core : GatewayValue) (kept : List Exchange) (at : ℕ) → GatewayInv plan n asks core kept → GatewayInv plan n asks (gateway_at at core) kept
aged plan n asks core kept at inv = record {
  routes = inv.routes;
  upstream = inv.upstream;
  next = inv.next;
  below = inv.below;
  last = inv.last;
  one = inv.one;
  made = inv.made;
  waits = λ k there. inv.waits k (filtered _ core.exchanges.waiting k there);
}

pub begun_anew : (plan : Plan) (n : ℕ) (asks : List MadeAsk) (old : GatewayState) (at : ℕ) → GatewayInv plan n asks old.core old.kept → GatewayInv plan n asks (restarted old at).core (restarted old at).kept
begun_anew plan n asks old at inv =
    let next = inv.next in
    let below = inv.below in
    record {
      routes = inv.routes;
      upstream = inv.upstream;
      next = omega (arith, next, below);
      below = omega arith;
      last = inv.last;
      one = inv.one;
      made = inv.made;
      waits = λ k there. again k (mapped waiting_again _ k there);
    }
  where
    again : (k : Waiting) → (x : Exchange) × Contains (filter (is_young (time_from old.kept at)) old.kept) x × (waiting_again x ≡ k) → IsOfKept old.kept k
    again k (x, there, is) = subst (IsOfKept old.kept) is (record { there = filtered (is_young (time_from old.kept at)) old.kept x there; asked = λ d some. absurd (none-some d some) })

-- ---- what an event of the gateway leaves

pub record Left (plan : Plan) (n : ℕ) (asks : List MadeAsk) (history : List Entry) (kept : List Exchange) (outs : List OwnedOut) (core : GatewayValue) (now : List Exchange) : Type 0 where
  pub inv : GatewayInv plan n asks core now
  pub more : Within kept now
  pub says : (p : Packet) → Contains (flat_map (packet_passed plan) outs) p → SaysOf plan asks now history p

module _ (plan : Plan) (is_plan : IsPlan plan) (n : ℕ) (few : n < 2 ^ 62) (asks : List MadeAsk) (history : List Entry) (asked_inv : AsksInv plan n asks) (core : GatewayValue) (kept : List Exchange) (inv : GatewayInv plan n asks core kept) where
  -- what is kept, and the gateway, stay
  stays : (outs : List OwnedOut) (core2 : GatewayValue) (kept2 : List Exchange) → core2 ≡ core → kept2 ≡ kept → ((p : Packet) → Contains (flat_map (packet_passed plan) outs) p → SaysOf plan asks kept history p)
      → Left plan (suc n) asks history kept outs core2 kept2
  stays outs core2 kept2 same_core same_kept says =
      subst (λ c. Left plan (suc n) asks history kept outs c kept2) (sym same_core)
      (subst (λ xs. Left plan (suc n) asks history kept outs core xs) (sym same_kept)
      (record { inv = raised_gateway plan n asks core kept inv; more = λ x there. there; says = says }))

  no_more : (kept2 : List Exchange) → kept2 ≡ kept ++ [] → kept2 ≡ kept
  no_more kept2 is = is ∙ append-nil kept

  -- a reply that grants nothing
  quiet_reply : (to : ℕ) (bytes : List ℕ) → (to == upstream_of plan) ≡ false → IsQuiet bytes → SaysOf plan asks kept history (record { source = the_gateway; target = from_gateway plan to; bytes = bytes })
  quiet_reply to bytes other none =
      inr (to, ap (λ b. cond b (Some the_server) (option_map a_client (position (is_behind to) plan.clients))) other, λ token mid lifetime g. absurd (none (grant_says bytes token mid lifetime g)))

  -- what goes to the server
  to_the_server : (kept2 : List Exchange) (bytes : List ℕ) → IsForwarded plan asks kept2 bytes ⊎ IsAnswer bytes
      → SaysOf plan asks kept2 history (record { source = the_gateway; target = from_gateway plan core.upstream; bytes = bytes })
  to_the_server kept2 bytes holds =
      inl (ap (λ b. cond b (Some the_server) (option_map a_client (position (is_behind core.upstream) plan.clients))) (eq-eqb core.upstream (upstream_of plan) inv.upstream), holds)

  -- ---- up
  module _ (i : ℕ) (c : PlanClient) (planned : slice_get plan.clients i ≡ Some c) (behind : c.behind ≡ true) (bytes : List ℕ) (says : IsClientRequest asks i c bytes ⊎ IsAnswer bytes) where
    name : (domain : List ℕ) × (domain_for (routes_of plan.gateway_settings) (upstream_of plan) c.peer ≡ Some domain)
    name = (is_plan.clients i c planned).behind behind

    other : (c.peer == upstream_of plan) ≡ false
    other = not_upstream (routes_of plan.gateway_settings) (upstream_of plan) c.peer name.0 name.1

    -- what was passed on asks what the client asked
    record IsFor (message : CoapMessage) : Type 0 where
      ask : MadeAsk
      there : Contains asks ask
      who : ask.who ≡ i
      same : message ≡ message_by c.cuid ask

    is_for : (sent : List ℕ) (number : ℕ) (message : CoapMessage) → IsPassed core c.peer bytes sent number message → IsFor message
    is_for sent number message p = by says
      where
        by : IsClientRequest asks i c bytes ⊎ IsAnswer bytes → IsFor message
        by (inl r) =
            let good = asked_inv.good r.ask r.there in
            record {
              ask = r.ask;
              there = r.there;
              who = r.who;
              same = one_message message (message_by c.cuid r.ask) p.is_message (written r.ask.number r.ask.mid c.cuid (is_plan.clients i c planned).named good.mid r.ask.aim) (sym p.spelled ∙ r.spelled);
            }
        by (inr a) = absurd (answers_no_request bytes message a p.is_message p.spelled p.asks)

    -- a client whose name has a slash is refused
    client_named : (message : CoapMessage) (f : IsFor message) (taken : Passage) → wanted_of message ≡ Ok (passage taken) → IsTrue (is_client_name c.cuid)
    client_named message f taken wanted = by (is_client_name c.cuid) refl
      where
        by : (b : Bool) → is_client_name c.cuid ≡ b → IsTrue (is_client_name c.cuid)
        by true e = e
        by false e =
            let good = asked_inv.good f.ask f.there in
            absurd (cc (sym wanted ∙ ap wanted_of f.same ∙ slash_wanted f.ask.number f.ask.mid c.cuid (is_plan.clients i c planned).named e good.mid f.ask.aim))

    exchange_of : (message : CoapMessage) (f : IsFor message) (x : Exchange) → x.peer ≡ c.peer → x.token ≡ message.token → IsExchangeOf plan f.ask x
    exchange_of message f x peer token = record {
      c = c;
      planned = ap (slice_get plan.clients) f.who ∙ planned;
      behind = behind;
      peer = peer;
      token = token ∙ ap (λ (m : CoapMessage). m.token) f.same ∙ written_token f.ask.number f.ask.mid c.cuid f.ask.aim;
    }

    forwarded_for : (sent : List ℕ) (number : ℕ) (message : CoapMessage) → IsPassed core c.peer bytes sent number message → (f : IsFor message) → (kept2 : List Exchange) (x : Exchange) → Contains kept2 x
        → x.number ≡ number → x.peer ≡ c.peer → x.token ≡ message.token → IsForwarded plan asks kept2 sent
    unfolding exchange_of
    forwarded_for sent number message p f kept2 x there number_is peer token =
        let good = asked_inv.good f.ask f.there in
        let cuid_is = client_named message f p.taken p.wanted in
        let taken : p.taken ≡ passage_for c.cuid f.ask.mid =
        one_passage p.taken (passage_for c.cuid f.ask.mid) (sym p.wanted ∙ ap wanted_of f.same ∙ client_passes f.ask.number f.ask.mid c.cuid f.ask.aim cuid_is good.mid) in
        record {
          x = x;
          made = there;
          ask = f.ask;
          there = f.there;
          of = exchange_of message f x peer token;
          cuid = cuid_is;
          domain = p.domain;
          named = subst₂ (λ routes up. domain_for routes up c.peer ≡ Some p.domain) inv.routes inv.upstream p.of;
          spelled = p.written ∙ ap (λ k. spelling (forwarded k p.domain p.taken message)) (sym number_is)
              ∙ ap (λ q. spelling (forwarded x.number p.domain q message)) taken ∙ ap (λ m. spelling (forwarded x.number p.domain (passage_for c.cuid f.ask.mid) m)) f.same;
        }

    -- a new exchange
    fresh_left : (sent : List ℕ) (x : Exchange) (outs : List OwnedOut) → IsFresh core c.peer bytes sent x → outs ≡ owned.To core.upstream sent ∷ []
        → Left plan (suc n) asks history kept outs (record core { exchanges = with_one x bytes core.exchanges }) (kept ++ x ∷ [])
    fresh_left sent x outs f outs_are =
        let p = f.passes in
        let asked_for = is_for sent core.exchanges.next f.message p in
        let next = inv.next in
        let below = inv.below in
        let number : x.number ≡ core.exchanges.next = ap (λ (y : Exchange). y.number) f.is in
        let peer : x.peer ≡ c.peer = ap (λ (y : Exchange). y.peer) f.is in
        let token : x.token ≡ f.message.token = ap (λ (y : Exchange). y.token) f.is in
        let last : last_number (kept ++ x ∷ []) ≡ x.number = last_pushed 0 kept x in
        let id : id_of x.key < 2 ^ 16 = subst (λ k. k < 2 ^ 16) (sym (ap (λ (y : Exchange). id_of y.key) f.is ∙ key_id f.message.kind f.message.identifier)) p.is_message.identifier in
        let lower : (y : Exchange) → Contains kept y → y.number < x.number = λ y there. let le = inv.last y there in omega (arith, le, below, number) in
        record {
          inv = record {
            routes = inv.routes;
            upstream = inv.upstream;
            next = omega (arith, next);
            below = omega (arith, last, number);
            last = by_last (λ y. y.number ≤ last_number (kept ++ x ∷ [])) kept x (λ y there. let low = lower y there in omega (arith, low, last)) (omega (arith, last));
            one = λ y z y_there z_there. one_of lower y y_there z z_there;
            made = by_last (IsMade plan asks) kept x inv.made (record { ask = asked_for.ask; there = asked_for.there; of = exchange_of f.message asked_for x peer token; id = id });
            waits = by_last (IsOfKept (kept ++ x ∷ [])) core.exchanges.waiting _
                (λ k there. let h = inv.waits k there in record { there = Contains-append_left kept (x ∷ []) k.exchange h.there; asked = h.asked })
                (record { there = Contains-push kept x; asked = λ d is. (f.message, p.is_message, sym (same_Some bytes d is) ∙ p.spelled, sym token) });
          };
          more = λ y there. Contains-append_left kept (x ∷ []) y there;
          says = all_one plan (SaysOf plan asks (kept ++ x ∷ []) history) outs core.upstream sent outs_are
              (to_the_server (kept ++ x ∷ []) sent (inl (forwarded_for sent core.exchanges.next f.message p asked_for (kept ++ x ∷ []) x (Contains-push kept x) number peer token)));
        }
      where
        one_of : ((y : Exchange) → Contains kept y → y.number < x.number) → (y : Exchange) → Contains (kept ++ x ∷ []) y → (z : Exchange) → Contains (kept ++ x ∷ []) z → y.number ≡ z.number → y ≡ z
        one_of lower =
            by_last (λ y. (z : Exchange) → Contains (kept ++ x ∷ []) z → y.number ≡ z.number → y ≡ z) kept x
            (λ y there. by_last (λ z. y.number ≡ z.number → y ≡ z) kept x (λ z z_there. inv.one y z there z_there) (λ same. let low = lower y there in absurd (omega (arith, low, same))))
            (by_last (λ z. x.number ≡ z.number → x ≡ z) kept x (λ z z_there same. let low = lower z z_there in absurd (omega (arith, low, same))) (λ same. refl))

    -- an exchange whose request came again has its token
    came_token : (k : Waiting) (message : CoapMessage) → IsMessage message → bytes ≡ spelling message → IsOfKept kept k → came_again k.asked k.exchange bytes message ≡ true → k.exchange.token ≡ message.token
    came_token k message is spelled h came = by k.asked refl came
      where
        by : (o : Option (List ℕ)) → k.asked ≡ o → came_again o k.exchange bytes message ≡ true → k.exchange.token ≡ message.token
        by (Some d) asked came =
            let m = h.asked d asked in
            let alike : d ≡ bytes = (bytes_eq-Decides d bytes).0 came in
            sym m.3 ∙ ap (λ (o : CoapMessage). o.token) (one_message m.0 message m.1 is (sym m.2 ∙ alike ∙ spelled))
        by None asked came = (bytes_eq-Decides k.exchange.token message.token).0 (and_parts (same_message k.exchange.key (key_for message.kind message.identifier)) (bytes_eq k.exchange.token message.token) came).1

    again_left : (sent : List ℕ) (outs : List OwnedOut) → IsAgain core c.peer bytes sent → outs ≡ owned.To core.upstream sent ∷ []
        → (p : Packet) → Contains (flat_map (packet_passed plan) outs) p → SaysOf plan asks kept history p
    again_left sent outs a outs_are =
        let p = a.passes in
        let h = inv.waits a.k a.waits in
        let asked_for = is_for sent a.k.exchange.number a.message p in
        let from = and_parts (a.k.exchange.peer == c.peer) (id_of a.k.exchange.key == a.message.identifier) a.from in
        let token = came_token a.k a.message p.is_message p.spelled h a.came in
        all_one plan (SaysOf plan asks kept history) outs core.upstream sent outs_are
        (to_the_server kept sent (inl (forwarded_for sent a.k.exchange.number a.message p asked_for kept a.k.exchange h.there refl (eqb-true a.k.exchange.peer c.peer from.0) token)))

    refused_left : (code : ℕ) (text : List ℕ) (outs : List OwnedOut) → may_grant code ≡ false → Refuses c.peer bytes code text outs → (p : Packet) → Contains (flat_map (packet_passed plan) outs) p
        → SaysOf plan asks kept history p
    refused_left code text outs none (says_so m is spelled is_asking e) =
        all_one plan (SaysOf plan asks kept history) outs c.peer (plain code (exchange_in m) text) e
        (quiet_reply c.peer (plain code (exchange_in m) text) other (quiet (record { kind = reply_kind m.kind; code = code; identifier = m.identifier; token = m.token; options = []; payload = text }) none))
    refused_left code text outs none (says_nothing never e) = all_none plan (SaysOf plan asks kept history) outs e

    pub up_left : (said : Said) (outs : List OwnedOut) (core2 : GatewayValue) (kept2 : List Exchange) → UpOrLacks core c.peer bytes said core2 → UpSends core.upstream c.peer bytes said outs
        → kept2 ≡ kept ++ fresh_in said → Left plan (suc n) asks history kept outs core2 kept2
    up_left (Err fault.NoMemory) outs core2 kept2 ups sends kept_is = stays outs core2 kept2 ups.3 (no_more kept2 kept_is) (refused_left 160 [] outs refl sends)
    up_left (Err fault.TableFull) outs core2 kept2 ups sends kept_is = stays outs core2 kept2 ups.1 (no_more kept2 kept_is) (refused_left 163 full_text outs refl sends)
    up_left (Ok passed.Nothing) outs core2 kept2 ups sends kept_is = stays outs core2 kept2 ups.1 (no_more kept2 kept_is) (all_none plan (SaysOf plan asks kept history) outs sends)
    up_left (Ok passed.NoMemory) outs core2 kept2 ups sends kept_is = stays outs core2 kept2 ups.1 (no_more kept2 kept_is) (all_none plan (SaysOf plan asks kept history) outs sends)
    up_left (Ok (passed.Reply to reply)) outs core2 kept2 ups sends kept_is =
        let fine : UpFine core c.peer bytes (Ok (passed.Reply to reply)) = ups_fine core c.peer bytes (Ok (passed.Reply to reply)) ups.0 in
        stays outs core2 kept2 ups.1 (no_more kept2 kept_is)
        (all_one plan (SaysOf plan asks kept history) outs to reply sends (quiet_reply to reply (ap (λ peer. peer == upstream_of plan) fine.0 ∙ other) fine.1))
    up_left (Ok (passed.Forward sent None)) outs core2 kept2 ups sends kept_is =
        let fine : UpFine core c.peer bytes (Ok (passed.Forward sent None)) = ups_fine core c.peer bytes (Ok (passed.Forward sent None)) ups.0 in
        stays outs core2 kept2 ups.1 (no_more kept2 kept_is) (again_left sent outs fine sends)
    up_left (Ok (passed.Forward sent (Some x))) outs core2 kept2 ups sends kept_is =
        let fine : UpFine core c.peer bytes (Ok (passed.Forward sent (Some x))) = ups_fine core c.peer bytes (Ok (passed.Forward sent (Some x))) ups.0 in
        subst₂ (λ c2 xs. Left plan (suc n) asks history kept outs c2 xs) (sym ups.1) (sym kept_is) (fresh_left sent x outs fine sends)

  -- ---- down
  module _ (bytes : List ℕ) (grants : GrantsBy (λ token mid lifetime. Answered history plan.gateway bytes) bytes) where
    keyed : (x : Exchange) → IsMade plan asks x → IsKeyed x
    keyed x m = record { id = m.id; token = subst (λ (t : List ℕ). length t ≤ 8) (sym m.of.token) (omega arith) }

    returned_says : (to : ℕ) (reply : List ℕ) → IsReturned core bytes to reply → SaysOf plan asks kept history (record { source = the_gateway; target = from_gateway plan to; bytes = reply })
    returned_says to reply r =
        let h = inv.waits r.k r.waits in
        let m = inv.made r.k.exchange h.there in
        let valid = (is_plan.clients m.ask.who m.of.c m.of.planned).behind m.of.behind in
        let other : (to == upstream_of plan) ≡ false = ap (λ peer. peer == upstream_of plan) (r.peer ∙ m.of.peer) ∙ not_upstream (routes_of plan.gateway_settings) (upstream_of plan) m.of.c.peer valid.0 valid.1 in
        inr (
          to,
          ap (λ b. cond b (Some the_server) (option_map a_client (position (is_behind to) plan.clients))) other,
          λ token mid lifetime g.
              let back = grant_returned r.k.exchange r.message token mid lifetime (keyed r.k.exchange m) r.is_message (subst (λ b. IsGrant b token mid lifetime) r.written g) in
              let of_server : IsGrant bytes (to_be_bytes w64 r.k.exchange.number) mid lifetime =
              subst₂ (λ b t. IsGrant b t mid lifetime) (sym r.spelled) r.token back.0 in
              record {
                x = r.k.exchange;
                made = h.there;
                peer = r.peer;
                of_token = back.1;
                reply = bytes;
                grants = of_server;
                answered = grants (to_be_bytes w64 r.k.exchange.number) mid lifetime of_server;
              },
        )

    pub down_says : (said : Passed) → DownOrLacks core bytes said → (outs : List OwnedOut) → outs ≡ sends_of core.upstream said → (p : Packet) → Contains (flat_map (packet_passed plan) outs) p
        → SaysOf plan asks kept history p
    down_says passed.Nothing downs outs e = all_none plan (SaysOf plan asks kept history) outs e
    down_says passed.NoMemory downs outs e = all_none plan (SaysOf plan asks kept history) outs e
    down_says (passed.Forward sent fresh) downs outs e = absurd (downs_fine core bytes (passed.Forward sent fresh) downs)
    down_says (passed.Reply to reply) downs outs e = all_one plan (SaysOf plan asks kept history) outs to reply e (by (downs_fine core bytes (passed.Reply to reply) downs))
      where
        by : IsBeaten core to reply ⊎ IsReturned core bytes to reply → SaysOf plan asks kept history (record { source = the_gateway; target = from_gateway plan to; bytes = reply })
        by (inl b) = subst (λ t. SaysOf plan asks kept history (record { source = the_gateway; target = from_gateway plan t; bytes = reply })) (sym b.0) (to_the_server kept reply (inr b.1))
        by (inr r) = returned_says to reply r
