-- The events decide a world in which nobody lacked memory.
use Rattle.std.specs.Prelude.{IsTrue}
use Rattle.std.specs.List.{range_with_len}
use Rattle.std.proofs.Common.{◌≡◌, inl, inr, ℕ, suc, ◌+◌, ◌<◌, ◌≤◌, ◌^◌, max, List, [], ◌∷◌, length, slice_get, Contains, Option, Some, None, refl, sym, ap, ◌∙◌, subst, arith}
use Rattle.std.proofs.lemmas.Option.{same_Some, none-some}
use Rattle.coap_message.specs.Message.{IsMessage}
use Rattle.dots_host.specs.declared.event.Event.{Event}
use Rattle.dots_host.specs.declared.event.Event.TheVariants as event
use Rattle.dots_host.specs.declared.out.OwnedOut.{OwnedOut}
use Rattle.dots_keys.specs.Operations.{is_client_name}
use Rattle.dots_keys.specs.Options.{value_of}
use Rattle.dots_gateway.specs.declared.exchange.Exchange.{Exchange}
use Rattle.dots_gateway.specs.Forwarding.{forwarded}
use Rattle.dots_machine.specs.Answering.{AreBytes}
use Rattle.dots_machine.specs.Machine.{State, begun_from, Step}
use Rattle.dots_history.specs.declared.entry.Entry.{Entry}
use Rattle.dots_client.specs.declared.ask.Ask.{Ask}
use Rattle.dots_world.specs.Forwarding.{passage_for}
use Rattle.dots_world.specs.OneWorld.{StepsWell, PassesOnWell, ComesWell, DeliversWell, BeginsWell, HappensWell, RunsWell, RunsChosenWell}
use Rattle.dots_world.specs.Plans.{Party, a_client, the_gateway, the_server, Plan, IsPlan, to_server}
use Rattle.dots_world.specs.Worlds.{Aim, mitigates, withdraws, MadeAsk, message_with, message_by, Packet, World, WorldEvent, asks, ticks, restarts, gateway_restarts, delivers, begun, served, Serves, passed, PassesOn, AsksFor, made, unmade, AllHandOut, Comes, Delivers, Begins, Happens, Runs}
use Rattle.dots_world.proofs.Lists.{got_in}
use Rattle.dots_world.proofs.Forwarding.{passed_asking, passed_withdrawing}
use Rattle.dots_world.proofs.Kept.{AsksInv, Says}
use Rattle.dots_world.proofs.Machine.{history_of, machine_serves}
use Rattle.dots_world.proofs.Messages.{written}
use Rattle.dots_world.proofs.OnePassing.{one_passing, passing_well}
use Rattle.dots_world.proofs.OneReceiving.{one_packet, one_ask, one_handing}
use Rattle.dots_world.proofs.Over.{happens_keep, at_first}
use Rattle.dots_world.proofs.Received.{no_server_at}
use Rattle.dots_world.proofs.Serving.{Inv}
use Rattle.dots_machine.proofs.Unobserved.{RegistersNobody, without_observe}
use Rattle.dots_world.proofs.Unwatched.{without_request, IsUnwatching, still_none, one_step}

-- ---- a run without want of memory is a run

module _ {S : Type 0} (plan : Plan) (step : S → Event → ℕ → List (S × OwnedOut) → S → Type 0) where
  serves_so : (old : World S) (came : Event) (new : World S) → Serves (StepsWell step) plan old came new → Serves step plan old came new
  serves_so old came new (owed, server, st, leaves) = (owed, server, st.0, leaves)

  passes_so : (old : World S) (came : Event) (new : World S) → PassesOnWell plan old came new → PassesOn plan old came new
  passes_so old came new (outs, gateway, p, leaves) = (outs, gateway, passing_well old.gateway old.time outs gateway came p, leaves)

  comes_so : (old : World S) (p : Packet) (target : Option Party) (new : World S) → ComesWell step plan old p target new → Comes step plan old p target new
  comes_so old p None new c = c
  comes_so old p (Some the_server) new (peer, peer_is, c) = (peer, peer_is, serves_so old (event.Datagram peer p.bytes) new c)
  comes_so old p (Some the_gateway) new (peer, peer_is, c) = (peer, peer_is, passes_so old (event.Datagram peer p.bytes) new c)
  comes_so old p (Some (a_client i)) new c = c.0

  delivers_so : (old : World S) (o : Option Packet) (new : World S) → DeliversWell step plan old o new → Delivers step plan old o new
  delivers_so old None new d = d
  delivers_so old (Some p) new d = (d.0, comes_so old p p.target new d.1)

  begins_so : (old : World S) (what : WorldEvent) (new : World S) → BeginsWell step plan old what new → Begins step plan old what new
  begins_so old (asks i what) new b = b
  begins_so old (ticks at) new b = serves_so (record old { time = max old.time at }) event.Tick new b
  begins_so old restarts new b = serves_so old event.Restart new b
  begins_so old gateway_restarts new b = b
  begins_so old (delivers k) new b = delivers_so old (slice_get old.packets k) new b

  happens_so : (old : World S) (what : WorldEvent) (new : World S) → HappensWell step plan old what new → Happens step plan old what new
  happens_so old what new (between, b, all) = (between, begins_so old what between b, all)

  pub runs_so : (old : World S) (events : List WorldEvent) (new : World S) → RunsWell step plan old events new → Runs step plan old events new
  runs_so old [] new r = r
  runs_so old (what ∷ events) new (between, h, rest) = (between, happens_so old what between h, runs_so between events new rest)

-- ---- no packet asks to observe

asks_no_observe : (number mid : ℕ) (cuid : List ℕ) (aim : Aim) → value_of 6 (message_with number cuid mid aim).options ≡ None
asks_no_observe number mid cuid (mitigates asked lifetime) = refl
asks_no_observe number mid cuid withdraws = refl

passes_no_observe : (next number mid : ℕ) (domain cuid : List ℕ) (aim : Aim) → value_of 6 (forwarded next domain (passage_for cuid mid) (message_with number cuid mid aim)).options ≡ None
passes_no_observe next number mid domain cuid (mitigates asked lifetime) = refl
passes_no_observe next number mid domain cuid withdraws = refl

passed_message : (next number mid : ℕ) (domain cuid : List ℕ) (aim : Aim) → IsTrue (is_client_name domain) → IsTrue (is_client_name cuid) → mid < 2 ^ 32
    → IsMessage (forwarded next domain (passage_for cuid mid) (message_with number cuid mid aim))
passed_message next number mid domain cuid (mitigates asked lifetime) named_domain named below = passed_asking next number mid domain cuid named_domain named below asked lifetime
passed_message next number mid domain cuid withdraws named_domain named below = passed_withdrawing next number mid domain cuid named_domain named below

module _ (plan : Plan) (is_plan : IsPlan plan) where
  unobserved : (n : ℕ) (made_asks : List MadeAsk) (kept : List Exchange) (history : List Entry) (peer : ℕ) → AsksInv plan n made_asks → (source : Party) (target : Option Party) (bytes : List ℕ)
      → target ≡ Some the_server → to_server plan source ≡ Some peer → Says plan made_asks kept history source target bytes → RegistersNobody plan.settings peer bytes
  unobserved n made_asks kept history peer asked_inv (a_client i) target bytes is peer_is (c, planned, goes, inl r) =
      let good = asked_inv.good r.ask r.there in
      subst (RegistersNobody plan.settings peer) (sym r.spelled)
      (without_observe plan.settings peer (message_by c.cuid r.ask) (written r.ask.number r.ask.mid c.cuid (is_plan.clients i c planned).named good.mid r.ask.aim)
      (asks_no_observe r.ask.number r.ask.mid c.cuid r.ask.aim))
  unobserved n made_asks kept history peer asked_inv (a_client i) target bytes is peer_is (c, planned, goes, inr a) =
      subst (RegistersNobody plan.settings peer) (sym a.spelled) (without_request plan.settings peer a.message a.is_message a.asks)
  unobserved n made_asks kept history peer asked_inv the_gateway target bytes is peer_is (inl (goes, inl f)) =
      let good = asked_inv.good f.ask f.there in
      subst (RegistersNobody plan.settings peer) (sym f.spelled)
      (without_observe plan.settings peer (forwarded f.x.number f.domain (passage_for f.of.c.cuid f.ask.mid) (message_by f.of.c.cuid f.ask))
      (passed_message f.x.number f.ask.number f.ask.mid f.domain f.of.c.cuid f.ask.aim (is_plan.names f.of.c.peer f.domain f.named) f.cuid good.mid)
      (passes_no_observe f.x.number f.ask.number f.ask.mid f.domain f.of.c.cuid f.ask.aim))
  unobserved n made_asks kept history peer asked_inv the_gateway target bytes is peer_is (inl (goes, inr a)) =
      subst (RegistersNobody plan.settings peer) (sym a.spelled) (without_request plan.settings peer a.message a.is_message a.asks)
  unobserved n made_asks kept history peer asked_inv the_gateway target bytes is peer_is (inr (to, goes, grants)) = absurd (no_server_at _ (sym goes ∙ is))
  unobserved n made_asks kept history peer asked_inv the_server target bytes is peer_is says = absurd (none-some peer peer_is)

  -- ---- an event leads to one world, in which nobody observes

  abbrev steps : State → Event → ℕ → List (State × OwnedOut) → State → Type 0
  steps = Step plan.settings

  abbrev Nobody : World State → Type 0
  Nobody w = w.server.observers ≡ []

  abbrev One : World State → World State → Type 0
  One one other = (one ≡ other) × Nobody one

  still : (old new : World State) → new.server ≡ old.server → Nobody old → Nobody new
  still old new same none = ap (λ (s : State). s.observers) same ∙ none

  one_serving : (old : World State) (came : Event) (one other : World State) → Nobody old → IsUnwatching plan.settings came → Serves (StepsWell steps) plan old came one → Serves (StepsWell steps) plan old came other
      → One one other
  one_serving old came one other none is (owed, server, st, leaves) (others, last, too, left) =
      let same = one_step plan.settings old.server old.time none came owed others server last is st too in (
        leaves ∙ ap (λ sends. served plan old came sends server) same.0 ∙ ap (λ s. served plan old came others s) same.1 ∙ sym left,
        ap (λ (w : World State). w.server.observers) leaves ∙ still_none plan.settings old.server old.time none came owed server is st.0,
      )

  one_passing_on : (old : World State) (came : Event) (one other : World State) → Nobody old → PassesOnWell plan old came one → PassesOnWell plan old came other → One one other
  one_passing_on old came one other none (outs, gateway, p, leaves) (others, last, q, left) =
      let same = one_passing old.gateway old.time outs others gateway last came p q in (
        leaves ∙ ap (λ sends. passed plan old sends gateway) same.0 ∙ ap (λ g. passed plan old others g) same.1 ∙ sym left,
        ap (λ (w : World State). w.server.observers) leaves ∙ none,
      )

  one_coming : (n : ℕ) (old : World State) (p : Packet) (target : Option Party) (one other : World State) → Inv plan history_of n old → Nobody old → Contains old.packets p → p.target ≡ target → AreBytes p.bytes
      → ComesWell steps plan old p target one → ComesWell steps plan old p target other → One one other
  one_coming n old p None one other inv none there is are a b = (a ∙ sym b, ap (λ (w : World State). w.server.observers) a ∙ none)
  one_coming n old p (Some the_server) one other inv none there is are (peer, peer_is, a) (also, also_is, b) =
      one_serving old (event.Datagram peer p.bytes) one other none
      (are, unobserved n old.asks old.gateway.kept old.server.history peer inv.asks p.source p.target p.bytes is peer_is (inv.packets p there))
      a (subst (λ q. Serves (StepsWell steps) plan old (event.Datagram q p.bytes) other) (same_Some also peer (sym also_is ∙ peer_is)) b)
  one_coming n old p (Some the_gateway) one other inv none there is are (peer, peer_is, a) (also, also_is, b) =
      one_passing_on old (event.Datagram peer p.bytes) one other none a
      (subst (λ q. PassesOnWell plan old (event.Datagram q p.bytes) other) (same_Some also peer (sym also_is ∙ peer_is)) b)
  one_coming n old p (Some (a_client i)) one other inv none there is are a b =
      (one_packet plan old i p.bytes one other a b, ap (λ (w : World State). w.server.observers) a.0.leaves ∙ none)

  one_delivery : (n : ℕ) (old : World State) (k : ℕ) (o : Option Packet) (one other : World State) → Inv plan history_of n old → Nobody old → slice_get old.packets k ≡ o
      → DeliversWell steps plan old o one → DeliversWell steps plan old o other → One one other
  one_delivery n old k None one other inv none at a b = (a ∙ sym b, ap (λ (w : World State). w.server.observers) a ∙ none)
  one_delivery n old k (Some p) one other inv none at a b = one_coming n old p p.target one other inv none (got_in old.packets k p at) refl a.0 a.1 b.1

  asked_nobody : (old : World State) (i : ℕ) (what : Ask) (one : World State) → Nobody old → AsksFor plan old i what one → Nobody one
  asked_nobody old i what one none (made c k is may leaves) = ap (λ (w : World State). w.server.observers) leaves ∙ none
  asked_nobody old i what one none (unmade never leaves) = ap (λ (w : World State). w.server.observers) leaves ∙ none

  one_beginning : (n : ℕ) (old : World State) (what : WorldEvent) (one other : World State) → Inv plan history_of n old → Nobody old → BeginsWell steps plan old what one → BeginsWell steps plan old what other → One one other
  one_beginning n old (asks i what) one other inv none a b = (one_ask plan old i what one other a b, asked_nobody old i what one none a)
  one_beginning n old (ticks at) one other inv none a b = one_serving (record old { time = max old.time at }) event.Tick one other none tt a b
  one_beginning n old restarts one other inv none a b = one_serving old event.Restart one other none tt a b
  one_beginning n old gateway_restarts one other inv none a b = one_passing_on old event.Restart one other none a b
  one_beginning n old (delivers k) one other inv none a b = one_delivery n old k (slice_get old.packets k) one other inv none refl a b

  handed_nobody : (places : List ℕ) (old new : World State) → Nobody old → AllHandOut plan places old new → Nobody new
  handed_nobody [] old new none h = ap (λ (w : World State). w.server.observers) h ∙ none
  handed_nobody (i ∷ places) old new none h = handed_nobody places h.0 new (ap (λ (w : World State). w.server.observers) h.1.leaves ∙ none) h.2

  -- and of the world that it leads to as much is true
  record OneLater (n : ℕ) (one other : World State) : Type 0 where
    same : one ≡ other
    none : Nobody one
    inv : Inv plan history_of (suc n) one

  one_happening : (n : ℕ) → n < 2 ^ 62 → (old : World State) (what : WorldEvent) (one other : World State) → Inv plan history_of n old → Nobody old
      → HappensWell steps plan old what one → HappensWell steps plan old what other → OneLater n one other
  one_happening n few old what one other inv none (first, begins, all) (second, starts, each) =
      let same = one_beginning n old what first second inv none begins starts in
      let places = range_with_len 0 (length plan.clients) in
      record {
        same = one_handing plan places second one other (subst (λ (w : World State). AllHandOut plan places w one) same.0 all) each;
        none = handed_nobody places first one same.1 all;
        inv = happens_keep plan is_plan history_of steps (machine_serves plan is_plan) n few old what one inv (happens_so plan steps old what one (first, begins, all));
      }

  -- ---- and so do all of them

  over_one : (n : ℕ) (old : World State) (events : List WorldEvent) (one other : World State) → n + length events ≤ 2 ^ 31 → Inv plan history_of n old → Nobody old
      → RunsWell steps plan old events one → RunsWell steps plan old events other → one ≡ other
  over_one n old [] one other few inv none a b = a ∙ sym b
  over_one n old (what ∷ events) one other few inv none (between, h, rest) (also, i, more) =
      let later = one_happening n (omega (arith, few)) old what between also inv none h i in
      over_one (suc n) between events one other (omega (arith, few)) later.inv later.none rest (subst (λ (w : World State). RunsWell steps plan w events other) (sym later.same) more)

  -- also where they are chosen as they come
  over_chosen : (choose : ℕ → World State → WorldEvent) (n k : ℕ) (old : World State) (events others : List WorldEvent) (one other : World State) → n + length events ≤ 2 ^ 31 → length others ≡ length events
      → Inv plan history_of n old → Nobody old → RunsChosenWell steps choose plan k old events one → RunsChosenWell steps choose plan k old others other → (events ≡ others) × (one ≡ other)
  over_chosen choose n k old [] [] one other few lengths inv none a b = (refl, a ∙ sym b)
  over_chosen choose n k old [] (word ∷ others) one other few lengths inv none a b = absurd (omega (arith, lengths))
  over_chosen choose n k old (what ∷ events) [] one other few lengths inv none a b = absurd (omega (arith, lengths))
  over_chosen choose n k old (what ∷ events) (word ∷ others) one other few lengths inv none (between, chosen, h, rest) (also, likewise, i, more) =
      let alike : what ≡ word = chosen ∙ sym likewise in
      let later = one_happening n (omega (arith, few)) old what between also inv none h (subst (λ w. HappensWell steps plan old w also) (sym alike) i) in
      let all =
      over_chosen choose (suc n) (suc k) between events others one other (omega (arith, few)) (omega (arith, lengths)) later.inv later.none rest
      (subst (λ (w : World State). RunsChosenWell steps choose plan (suc k) w others other) (sym later.same) more) in
      (ap (λ w. w ∷ events) alike ∙ ap (λ es. word ∷ es) all.0, all.1)

  at_begin : Inv plan history_of 0 (begun plan (begun_from plan.settings []))
  at_begin = at_first plan is_plan history_of steps (machine_serves plan is_plan) (begun_from plan.settings []) refl

  pub one_run : (events : List WorldEvent) (one other : World State) → length events ≤ 2 ^ 31
      → RunsWell (Step plan.settings) plan (begun plan (begun_from plan.settings [])) events one → RunsWell (Step plan.settings) plan (begun plan (begun_from plan.settings [])) events other → one ≡ other
  one_run events one other few a b = over_one 0 (begun plan (begun_from plan.settings [])) events one other (omega (arith, few)) at_begin refl a b

  pub one_chosen : (choose : ℕ → World State → WorldEvent) (events others : List WorldEvent) (one other : World State) → length events ≤ 2 ^ 31 → length others ≡ length events
      → RunsChosenWell (Step plan.settings) choose plan 0 (begun plan (begun_from plan.settings [])) events one
      → RunsChosenWell (Step plan.settings) choose plan 0 (begun plan (begun_from plan.settings [])) others other → (events ≡ others) × (one ≡ other)
  one_chosen choose events others one other few lengths a b = over_chosen choose 0 0 (begun plan (begun_from plan.settings [])) events others one other (omega (arith, few)) lengths at_begin refl a b
