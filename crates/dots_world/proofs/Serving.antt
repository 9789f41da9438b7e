-- The server's part: what it adds carries an ask, and what it sends that grants something is in its history.
use Rattle.std.specs.Prelude.{IsTrue}
use Rattle.std.proofs.Common.{◌≡◌, ◌⊎◌, inl, inr, ℕ, ℤ, ◌<◌, ◌^◌, false, List, [], ◌∷◌, ◌++◌, flat_map, slice_get, Contains, Option, Some, option_map, refl, sym, ap, ◌∙◌, subst}
use Rattle.std.proofs.lemmas.Option.{same_Some, none-some}
use Rattle.std.proofs.lemmas.List.Elements.{Contains-append_left}
use Rattle.coap_message.specs.Message.{CoapMessage, IsMessage, spelling}
use Rattle.dots_keys.specs.Exchanges.{is_request}
use Rattle.dots_host.specs.declared.event.Event.{Event}
use Rattle.dots_host.specs.declared.event.Event.TheVariants as event
use Rattle.dots_host.specs.declared.out.OwnedOut.{OwnedOut}
use Rattle.dots_host.specs.declared.out.OwnedOut.TheVariants as owned
use Rattle.dots_host.specs.Runs.{outs_of}
use Rattle.dots_settings.specs.declared.peer.Role.TheVariants as role
use Rattle.dots_settings.specs.Lookups.{role_of}
use Rattle.dots_lists.specs.Name.{is_name}
use Rattle.dots_keys.specs.Operations.{is_client_name}
use Rattle.dots_history.specs.declared.entry.Entry.{Entry}
use Rattle.dots_gateway.specs.declared.exchange.Exchange.{Exchange}
use Rattle.dots_gateway.specs.Forwarding.{forwarded}
use Rattle.dots_machine.specs.Answering.{AreBytes}
use Rattle.dots_world.specs.Forwarding.{passage_for}
use Rattle.dots_world.specs.Granting.{IsGrant}
use Rattle.dots_world.specs.Plans.{Party, a_client, the_gateway, the_server, PlanClient, Plan, IsPlan, named_domain, to_server, direct, through}
use Rattle.dots_world.specs.Worlds.{Aim, MadeAsk, message_with, message_by, CanSay, Packet, World, packet_from, served}
use Rattle.dots_world.specs.Granted.{Carries, HasNumber, own, passed}
use Rattle.dots_world.specs.Once.{CarriesAsk, sent, sent_on}
use Rattle.dots_world.proofs.Lists.{not_in_none, contains_cases, by_last, by_parts, gathered}
use Rattle.dots_world.proofs.Messages.{IsAnswer}
use Rattle.dots_world.proofs.Kept.{Within, AsksInv, SaysGrant, IsFrom, EntriesInv, ClientsInv, GatewayInv, PacketsInv, Answered, Says, SaysOf, row_more, packets_more}
use Rattle.dots_world.proofs.Received.{asked_of_server, no_server_at}
use Rattle.dots_world.proofs.AtOnce.{AtOnce, carried_at_once}

-- nothing was added, or one entry of which this holds
abbrev pub AddsOne : List Entry → List Entry → (Entry → Type 0) → Type 0
AddsOne old new P = (new ≡ old) ⊎ ((e : Entry) × (new ≡ old ++ e ∷ []) × P e)

-- the entry is what this peer asked so, under this number
pub record IsEntryOf (plan : Plan) (peer number : ℕ) (cuid : List ℕ) (mid : ℕ) (aim : Aim) (e : Entry) : Type 0 where
  pub of_peer : e.peer ≡ peer
  pub of_cuid : e.cuid ≡ cuid
  pub carries : Carries plan.settings aim mid e
  pub numbered : HasNumber e.reply number
  pub says : SaysGrant e

-- the laws by which a server is known here, whatever it is
pub record IsServing {S : Type 0} (plan : Plan) (history : S → List Entry) (step : S → Event → ℕ → List (S × OwnedOut) → S → Type 0) : Type 0 where
  pub ticks : (old : S) (at : ℕ) (owed : List (S × OwnedOut)) (new : S) → AtOnce (history old) → step old event.Tick at owed new → history new ≡ history old
  pub restarts : (old : S) (at : ℕ) (owed : List (S × OwnedOut)) (new : S) → step old event.Restart at owed new → history new ≡ history old
  pub answers : (old : S) (peer : ℕ) (m : CoapMessage) (at : ℕ) (owed : List (S × OwnedOut)) (new : S) → AtOnce (history old) → IsMessage m → is_request m ≡ false
      → step old (event.Datagram peer (spelling m)) at owed new → history new ≡ history old
  pub asked : (old : S) (peer number mid : ℕ) (cuid : List ℕ) (aim : Aim) (domain at : ℕ) (owed : List (S × OwnedOut)) (new : S)
      → AtOnce (history old) → role_of plan.settings peer ≡ role.Client domain → IsTrue (is_name cuid) → mid < 2 ^ 32 → CanSay aim → AreBytes (spelling (message_with number cuid mid aim))
      → step old (event.Datagram peer (spelling (message_with number cuid mid aim))) at owed new
      → AddsOne (history old) (history new) (λ e. (e.domain ≡ domain) × IsEntryOf plan peer number cuid mid aim e)
  pub forwards : (old : S) (peer next number mid : ℕ) (domain cuid : List ℕ) (aim : Aim) (at : ℕ) (owed : List (S × OwnedOut)) (new : S)
      → AtOnce (history old) → role_of plan.settings peer ≡ role.Gateway → IsTrue (is_client_name domain) → IsTrue (is_client_name cuid) → mid < 2 ^ 32 → CanSay aim
      → AreBytes (spelling (forwarded next domain (passage_for cuid mid) (message_with number cuid mid aim)))
      → step old (event.Datagram peer (spelling (forwarded next domain (passage_for cuid mid) (message_with number cuid mid aim)))) at owed new
      → AddsOne (history old) (history new) (λ e. (named_domain plan.settings domain ≡ Some e.domain) × IsEntryOf plan peer next cuid mid aim e)
  pub grants : (old : S) (came : Event) (at : ℕ) (owed : List (S × OwnedOut)) (new : S) (to : ℕ) (bytes token : List ℕ) (mid : ℕ) (lifetime : ℤ)
      → step old came at owed new → Contains (outs_of owed) (owned.To to bytes) → IsGrant bytes token mid lifetime → Answered (history new) to bytes

-- ---- a world

pub record Inv {S : Type 0} (plan : Plan) (history : S → List Entry) (n : ℕ) (w : World S) : Type 0 where
  pub asks : AsksInv plan n w.asks
  pub clients : ClientsInv plan n w.asks (history w.server) w.clients
  pub gateway : GatewayInv plan n w.asks w.gateway.core w.gateway.kept
  pub packets : PacketsInv plan w.asks w.gateway.kept (history w.server) w.packets
  pub entries : EntriesInv plan w.asks w.gateway.kept (history w.server)

-- what was asked for is at once
pub asked_at_once : (plan : Plan) (asks : List MadeAsk) (kept : List Exchange) (history : List Entry) → EntriesInv plan asks kept history → AtOnce history
asked_at_once plan asks kept history inv e there = let from = inv e there in carried_at_once plan.settings from.ask.aim from.ask.mid e from.of.carries

-- the history is longer, if at all, and each entry of it was asked for
abbrev pub Grows : Plan → List MadeAsk → List Exchange → List Entry → List Entry → Type 0
Grows plan asks kept old new = Within old new × EntriesInv plan asks kept new

grows_same : (plan : Plan) (asks : List MadeAsk) (kept : List Exchange) (old new : List Entry) → EntriesInv plan asks kept old → new ≡ old → Grows plan asks kept old new
grows_same plan asks kept old new inv same = (λ e there. subst (λ es. Contains es e) (sym same) there, subst (EntriesInv plan asks kept) (sym same) inv)

grows_one : (plan : Plan) (asks : List MadeAsk) (kept : List Exchange) (old new : List Entry) → EntriesInv plan asks kept old → AddsOne old new (IsFrom plan asks kept) → Grows plan asks kept old new
grows_one plan asks kept old new inv (inl same) = grows_same plan asks kept old new inv same
grows_one plan asks kept old new inv (inr (e, is, from)) = (
  λ x there. subst (λ es. Contains es x) (sym is) (Contains-append_left old (e ∷ []) x there),
  subst (EntriesInv plan asks kept) (sym is) (by_last (IsFrom plan asks kept) old e inv from),
)

adds_weaker : (old new : List Entry) (P Q : Entry → Type 0) → ((e : Entry) → P e → Q e) → AddsOne old new P → AddsOne old new Q
adds_weaker old new P Q each (inl same) = inl same
adds_weaker old new P Q each (inr (e, is, holds)) = inr (e, is, each e holds)

-- the entry is of an ask, which these bytes carry
abbrev pub IsFromBy : Plan → List MadeAsk → List Exchange → Party → List ℕ → Entry → Type 0
IsFromBy plan asks kept source bytes e = (f : IsFrom plan asks kept e) × CarriesAsk plan kept f.ask source bytes

module _ {S : Type 0} (plan : Plan) (is_plan : IsPlan plan) (history : S → List Entry) (step : S → Event → ℕ → List (S × OwnedOut) → S → Type 0) (laws : IsServing plan history step) where
  -- ---- a datagram adds what was asked

  module _ (n : ℕ) (asks : List MadeAsk) (kept : List Exchange) (asked_inv : AsksInv plan n asks) (old : S) (now : AtOnce (history old)) (at : ℕ) (owed : List (S × OwnedOut)) (new : S) (peer : ℕ) where
    silent : (P : Entry → Type 0) (bytes : List ℕ) → IsAnswer bytes → step old (event.Datagram peer bytes) at owed new → AddsOne (history old) (history new) P
    silent P bytes a st =
        inl (laws.answers old peer a.message at owed new now a.is_message a.asks (subst (λ b. step old (event.Datagram peer b) at owed new) a.spelled st))

    of_client : (source : Party) (i : ℕ) (c : PlanClient) (bytes : List ℕ) → source ≡ a_client i → slice_get plan.clients i ≡ Some c → c.behind ≡ false → c.peer ≡ peer → AreBytes bytes
        → (a : MadeAsk) → Contains asks a → a.who ≡ i → bytes ≡ spelling (message_by c.cuid a) → step old (event.Datagram peer bytes) at owed new
        → AddsOne (history old) (history new) (IsFromBy plan asks kept source bytes)
    of_client source i c bytes source_is planned straight peer_is are a there who spelled st =
        let valid = is_plan.clients i c planned in
        let whose = valid.direct straight in
        let good = asked_inv.good a there in
        adds_weaker (history old) (history new) _ (IsFromBy plan asks kept source bytes)
        (λ e is. (
          record {
            ask = a;
            there = there;
            of = record {
              c = c;
              planned = ap (slice_get plan.clients) who ∙ planned;
              domain = direct straight (whose.1 ∙ ap role.Client (sym is.0));
              cuid = is.1.of_cuid;
              carries = is.1.carries;
            };
            under = own c (ap (slice_get plan.clients) who ∙ planned) straight (is.1.of_peer ∙ sym peer_is) is.1.numbered;
            says = is.1.says;
          },
          sent c (ap (slice_get plan.clients) who ∙ planned) (source_is ∙ ap a_client (sym who)) spelled,
        ))
        (laws.asked old peer a.number a.mid c.cuid a.aim whose.0 at owed new now (ap (role_of plan.settings) (sym peer_is) ∙ whose.1) valid.named good.mid good.can
        (subst AreBytes spelled are) (subst (λ b. step old (event.Datagram peer b) at owed new) spelled st))

    pub from_source : (source : Party) (target : Option Party) (bytes : List ℕ) → target ≡ Some the_server → to_server plan source ≡ Some peer → Says plan asks kept (history old) source target bytes
        → AreBytes bytes → step old (event.Datagram peer bytes) at owed new → AddsOne (history old) (history new) (IsFromBy plan asks kept source bytes)
    from_source (a_client i) target bytes is peer_is (c, planned, goes, inl r) are st =
        of_client (a_client i) i c bytes refl planned (asked_of_server c.behind (sym is ∙ goes))
        (same_Some c.peer peer (sym (ap (option_map (λ (c : PlanClient). c.peer)) planned) ∙ peer_is)) are r.ask r.there r.who r.spelled st
    from_source (a_client i) target bytes is peer_is (c, planned, goes, inr a) are st = silent _ bytes a st
    from_source the_gateway target bytes is peer_is (inl (goes, inl f)) are st =
        let gateway_is = same_Some plan.gateway peer peer_is in
        let good = asked_inv.good f.ask f.there in
        adds_weaker (history old) (history new) _ (IsFromBy plan asks kept the_gateway bytes)
        (λ e is. (
          record {
            ask = f.ask;
            there = f.there;
            of = record { c = f.of.c; planned = f.of.planned; domain = through f.of.behind f.domain f.named is.0; cuid = is.1.of_cuid; carries = is.1.carries };
            under = passed f.x f.made f.of (is.1.of_peer ∙ sym gateway_is) is.1.numbered;
            says = is.1.says;
          },
          sent_on f.x f.made f.of f.domain refl f.spelled,
        ))
        (laws.forwards old peer f.x.number f.ask.number f.ask.mid f.domain f.of.c.cuid f.ask.aim at owed new now (ap (role_of plan.settings) (sym gateway_is) ∙ is_plan.gateway)
        (is_plan.names f.of.c.peer f.domain f.named) f.cuid good.mid good.can (subst AreBytes f.spelled are) (subst (λ b. step old (event.Datagram peer b) at owed new) f.spelled st))
    from_source the_gateway target bytes is peer_is (inl (goes, inr a)) are st = silent _ bytes a st
    from_source the_gateway target bytes is peer_is (inr (to, goes, grants)) are st = absurd (no_server_at _ (sym goes ∙ is))
    from_source the_server target bytes is peer_is s are st = absurd (none-some peer peer_is)

  -- ---- after an event of the server

  pub served_keeps : (n : ℕ) (w : World S) (came : Event) (owed : List (S × OwnedOut)) (server : S) → Inv plan history n w → step w.server came w.time owed server
      → Grows plan w.asks w.gateway.kept (history w.server) (history server) → Inv plan history n (served plan w came owed server)
  served_keeps n w came owed server inv st (more, entries) = record {
    asks = inv.asks;
    clients = λ i c k planned there.
        let k_inv = inv.clients i c k planned there in
        record {
          cuid = k_inv.cuid;
          number = k_inv.number;
          mid = k_inv.mid;
          past = k_inv.past;
          waiting = k_inv.waiting;
          rows = λ row row_there. row_more plan w.asks w.asks w.gateway.kept w.gateway.kept (history w.server) (history server) (λ a a_there. a_there) (λ x x_there. x_there) more i row (k_inv.rows row row_there);
        };
    gateway = inv.gateway;
    packets = by_parts (SaysOf plan w.asks w.gateway.kept (history server)) w.packets (flat_map (packet_from plan) (outs_of owed))
        (packets_more plan w.asks w.asks w.gateway.kept w.gateway.kept (history w.server) (history server) (λ a a_there. a_there) (λ x x_there. x_there) more w.packets inv.packets)
        (λ p there. let out = gathered (packet_from plan) (outs_of owed) p there in says_sent out.0 out.1 p out.2);
    entries = entries;
  }
    where
      says_sent : (out : OwnedOut) → Contains (outs_of owed) out → (p : Packet) → Contains (packet_from plan out) p → SaysOf plan w.asks w.gateway.kept (history server) p
      says_sent (owned.To peer bytes) there p is = elim (contains_cases _ [] p is) [
        | inl same ↦ subst (SaysOf plan w.asks w.gateway.kept (history server)) same (peer, refl, λ token mid lifetime g. laws.grants w.server came w.time owed server peer bytes token mid lifetime st there g)
        | inr none ↦ absurd (not_in_none p none)
      ]
      says_sent (owned.Conn conn bytes) there p is = absurd (not_in_none p is)
      says_sent (owned.Close conn) there p is = absurd (not_in_none p is)

  -- what a packet brings, and a tick, and a restart
  pub delivered_keeps : (n : ℕ) (w : World S) (p : Packet) (peer : ℕ) (owed : List (S × OwnedOut)) (server : S) → Inv plan history n w → Contains w.packets p → p.target ≡ Some the_server
      → to_server plan p.source ≡ Some peer → AreBytes p.bytes → step w.server (event.Datagram peer p.bytes) w.time owed server → Inv plan history n (served plan w (event.Datagram peer p.bytes) owed server)
  delivered_keeps n w p peer owed server inv there target peer_is are st =
      served_keeps n w (event.Datagram peer p.bytes) owed server inv st
      (grows_one plan w.asks w.gateway.kept (history w.server) (history server) inv.entries
      (adds_weaker (history w.server) (history server) (IsFromBy plan w.asks w.gateway.kept p.source p.bytes) (IsFrom plan w.asks w.gateway.kept) (λ e is. is.0)
      (from_source n w.asks w.gateway.kept inv.asks w.server (asked_at_once plan w.asks w.gateway.kept (history w.server) inv.entries) w.time owed server peer p.source p.target p.bytes target peer_is (inv.packets p there) are st)))

  pub quiet_keeps : (n : ℕ) (w : World S) (came : Event) (owed : List (S × OwnedOut)) (server : S) → Inv plan history n w → step w.server came w.time owed server
      → history server ≡ history w.server → Inv plan history n (served plan w came owed server)
  quiet_keeps n w came owed server inv st same =
      served_keeps n w came owed server inv st (grows_same plan w.asks w.gateway.kept (history w.server) (history server) inv.entries same)
