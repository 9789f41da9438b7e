-- What is true goes on being true over each event, and so over all.
use Rattle.std.specs.Prelude.{IsTrue}
use Rattle.std.specs.Bool.{MatchBool}
use Rattle.std.specs.List.{list_any, range_with_len}
use Rattle.std.proofs.Common.{◌≡◌, ◌⊎◌, inl, inr, ℕ, suc, ◌+◌, ◌<◌, ◌≤◌, ◌^◌, ◌%◌, ◌==◌, ◌||◌, max, mod-eq_of_lt, Bool, true, false, cond, List, [], ◌∷◌, ◌++◌, length, map, slice_get, Contains, Option, Some, None, option_map, refl, sym, ap, ◌∙◌, subst, arith}
use Rattle.std.proofs.lemmas.Bool.{eqb-true, eq-eqb}
use Rattle.std.proofs.lemmas.Option.{same_Some, none-some, slice_get-map}
use Rattle.std.proofs.lemmas.List.Elements.{Contains-append_left, Contains-push}
use Rattle.coap_message.specs.Message.{spelling}
use Rattle.dots_host.specs.declared.event.Event.{Event}
use Rattle.dots_host.specs.declared.event.Event.TheVariants as event
use Rattle.dots_host.specs.declared.out.OwnedOut.{OwnedOut}
use Rattle.dots_history.specs.declared.entry.Entry.{Entry}
use Rattle.dots_client.specs.declared.ask.Ask.{Ask}
use Rattle.dots_client.specs.declared.ask.Ask.TheVariants as ask
use Rattle.dots_client.specs.declared.granted.Granted.{Granted}
use Rattle.dots_client.specs.Client.{ClientValue, IsKnown, has_mid, mid_for, mid_after, scope_for, bytes_for, new_waiting, asked_at}
use Rattle.dots_gateway.specs.declared.exchange.Exchange.{Exchange}
use Rattle.dots_gateway.specs.Routes.{routes_of}
use Rattle.gateway_agent.specs.Passing.{GatewayState, GoesUp, GoesDown, Passes, state_at}
use Rattle.dots_machine.specs.Answering.{AreBytes}
use Rattle.dots_world.specs.Plans.{Party, a_client, the_gateway, the_server, PlanClient, Plan, IsPlan, upstream_of, to_gateway}
use Rattle.dots_world.specs.Worlds.{MadeAsk, message_with, aim_for, made_by, MayAsk, Packet, World, new_client, begun, WorldEvent, asks, ticks, restarts, gateway_restarts, delivers, packet_by, passed, PassesOn, changed, IsClient, AsksFor, made, unmade, answers_to, ReceivesPacket, HandsOut, AllHandOut, Comes, Delivers, Begins, Happens, Runs}
use Rattle.dots_world.specs.Granted.{IsGrantedTo, WasAsked}
use Rattle.dots_world.proofs.Lists.{not_in_none, contains_first, contains_more, by_last, by_parts, mapped, got_in}
use Rattle.dots_world.proofs.Clients.{drained, receives}
use Rattle.dots_world.proofs.Messages.{IsAnswer, answers_nothing}
use Rattle.dots_world.proofs.Kept.{Within, scope_of, IsGood, AsksInv, IsWaiting, ClientInv, IsClientRequest, Answered, GrantsBy, Says, SaysOf, waiting_more, row_more, made_more, packets_more, entries_more, raised_asks, raised_clients, raised_gateway, client_set, less_client}
use Rattle.dots_world.proofs.Received.{asked_of_gateway, gateway_at, row_granted}
use Rattle.dots_world.proofs.Serving.{IsServing, Inv, delivered_keeps, quiet_keeps, asked_at_once}
use Rattle.dots_world.proofs.Passing.{Left, aged, begun_anew, up_left, down_says, not_upstream, all_none}

-- ---- the mid of an ask

known_mid : (mid : ℕ) (ledger : List Granted) → IsTrue (list_any (has_mid mid) ledger) → (row : Granted) × Contains ledger row × (row.mid ≡ mid)
known_mid mid [] is = absurd (cc is)
known_mid mid (r ∷ rows) is = by (r.mid == mid) refl is (λ more. known_mid mid rows more)
  where
    by : (b : Bool) → (r.mid == mid) ≡ b → IsTrue (b || list_any (has_mid mid) rows) → (IsTrue (list_any (has_mid mid) rows) → (row : Granted) × Contains rows row × (row.mid ≡ mid))
        → (row : Granted) × Contains (r ∷ rows) row × (row.mid ≡ mid)
    by true e is rest = (r, contains_first r rows, eqb-true r.mid mid e)
    by false e is rest = let there = rest is in (there.0, contains_more r rows there.0 there.1, there.2)

new_mid : (k : ClientValue) → k.mid ≤ 3221225471 → (cond (k.mid == 3221225471) 0 k.mid) + 1 ≤ 3221225471
new_mid k few = by (k.mid == 3221225471) refl
  where
    by : (b : Bool) → (k.mid == 3221225471) ≡ b → (cond b 0 k.mid) + 1 ≤ 3221225471
    by true e = omega arith
    by false e = let differ : k.mid ≡ 3221225471 → ⊥ = λ is. (let same = eq-eqb k.mid 3221225471 is in cc (sym same ∙ e)) in omega (arith, few, differ)

mid_later : (k : ClientValue) (what : Ask) → k.mid ≤ 3221225471 → mid_after k what ≤ 3221225471
mid_later k (ask.New asked lifetime) few = new_mid k few
mid_later k (ask.Refresh mid lifetime) few = few
mid_later k (ask.Withdraw mid) few = few

scope_asked : (k : ClientValue) (what : Ask) → scope_for k what ≡ scope_of (aim_for k what)
scope_asked k (ask.New asked lifetime) = refl
scope_asked k (ask.Refresh mid lifetime) = refl
scope_asked k (ask.Withdraw mid) = refl

bytes_asked : (k : ClientValue) (what : Ask) (cuid : List ℕ) → k.cuid ≡ cuid → bytes_for k what ≡ spelling (message_with k.number cuid (mid_for k what) (aim_for k what))
bytes_asked k (ask.New asked lifetime) cuid is = ap (λ c. spelling (message_with k.number c (mid_for k (ask.New asked lifetime)) (aim_for k (ask.New asked lifetime)))) is
bytes_asked k (ask.Refresh mid lifetime) cuid is = ap (λ c. spelling (message_with k.number c mid (aim_for k (ask.Refresh mid lifetime)))) is
bytes_asked k (ask.Withdraw mid) cuid is = ap (λ c. spelling (message_with k.number c mid (aim_for k (ask.Withdraw mid)))) is

row_mid : (plan : Plan) (n : ℕ) (made_asks : List MadeAsk) (history : List Entry) (i : ℕ) (c : PlanClient) (k : ClientValue) → AsksInv plan n made_asks → ClientInv plan n made_asks history i c k
    → (mid : ℕ) → IsTrue (list_any (has_mid mid) k.ledger) → mid < 2 ^ 32
row_mid plan n made_asks history i c k asked_inv inv mid known =
    let at = known_mid mid k.ledger known in
    let row = inv.rows at.0 at.1 in
    subst (λ m. m < 2 ^ 32) (row.mid ∙ at.2) (asked_inv.good row.ask row.there).mid

mid_small : (plan : Plan) (n : ℕ) (made_asks : List MadeAsk) (history : List Entry) (i : ℕ) (c : PlanClient) (k : ClientValue) → AsksInv plan n made_asks → ClientInv plan n made_asks history i c k
    → (what : Ask) → IsKnown what k.ledger → mid_for k what < 2 ^ 32
mid_small plan n made_asks history i c k asked_inv inv (ask.New asked lifetime) known = let later = new_mid k inv.mid in omega (arith, later)
mid_small plan n made_asks history i c k asked_inv inv (ask.Refresh mid lifetime) known = row_mid plan n made_asks history i c k asked_inv inv mid known
mid_small plan n made_asks history i c k asked_inv inv (ask.Withdraw mid) known = row_mid plan n made_asks history i c k asked_inv inv mid known

module _ {S : Type 0} (plan : Plan) (is_plan : IsPlan plan) (history : S → List Entry) (step : S → Event → ℕ → List (S × OwnedOut) → S → Type 0) (laws : IsServing plan history step) where
  raised : (n : ℕ) (w : World S) → Inv plan history n w → Inv plan history (suc n) w
  raised n w inv = record {
    asks = raised_asks plan n w.asks inv.asks;
    clients = raised_clients plan n w.asks (history w.server) w.clients inv.clients;
    gateway = raised_gateway plan n w.asks w.gateway.core w.gateway.kept inv.gateway;
    packets = inv.packets;
    entries = inv.entries;
  }

  -- ---- a client is changed

  client_changed : (n : ℕ) (w : World S) (i : ℕ) (c : PlanClient) (k : ClientValue) (messages : List (List ℕ)) → Inv plan history n w → slice_get plan.clients i ≡ Some c
      → ClientInv plan n w.asks (history w.server) i c k → ((bytes : List ℕ) → Contains messages bytes → IsClientRequest w.asks i c bytes ⊎ IsAnswer bytes) → Inv plan history n (changed w i c k messages)
  client_changed n w i c k messages inv planned k_inv says = record {
    asks = inv.asks;
    clients = client_set plan (ClientInv plan n w.asks (history w.server)) w.clients i c k planned k_inv (λ j d m apart at there. inv.clients j d m at there);
    gateway = inv.gateway;
    packets = by_parts (SaysOf plan w.asks w.gateway.kept (history w.server)) w.packets (map (packet_by i c) messages) inv.packets
        (λ p there. let m = mapped (packet_by i c) messages p there in subst (SaysOf plan w.asks w.gateway.kept (history w.server)) m.2 (c, planned, refl, says m.0 m.1));
    entries = inv.entries;
  }

  hands : (n : ℕ) (old : World S) (i : ℕ) (new : World S) → Inv plan history n old → HandsOut plan old i new → Inv plan history n new
  hands n old i new inv h =
      let k_inv = inv.clients i h.c h.client h.is.planned h.is.there in
      let d = drained old.time h.client h.messages h.after h.drains in
      subst (Inv plan history n) (sym h.leaves)
      (client_changed n old i h.c h.after h.messages inv h.is.planned
      (less_client plan n old.asks (history old.server) i h.c h.client h.after k_inv d.0.cuid d.0.number d.0.mid d.0.waiting (λ row there. k_inv.rows row (d.0.rows row there)))
      (λ bytes there.
      let v = d.1 bytes there in
      let waits = k_inv.waiting v.0 v.1 in
      inl (record { ask = waits.ask; there = waits.there; who = waits.who; spelled = v.2 ∙ waits.bytes })))

  pub all_hand : (n : ℕ) (places : List ℕ) (old new : World S) → Inv plan history n old → AllHandOut plan places old new → Inv plan history n new
  all_hand n [] old new inv h = subst (Inv plan history n) (sym h) inv
  all_hand n (i ∷ places) old new inv h = all_hand n places h.0 new (hands n old i h.0 inv h.1) h.2

  pub made_small : (n : ℕ) → n < 2 ^ 62 → (w : World S) → Inv plan history n w → (x : Exchange) → Contains w.gateway.kept x → x.number < 2 ^ 64
  made_small n few w inv x there =
      let le = inv.gateway.last x there in
      let below = inv.gateway.below in
      let next = inv.gateway.next in
      omega (arith, le, below, next, few)

  receives_one : (n : ℕ) → n < 2 ^ 62 → (old : World S) (p : Packet) (i : ℕ) (new : World S) → Inv plan history n old → Contains old.packets p → p.target ≡ Some (a_client i) → ReceivesPacket plan old i p.bytes new → Inv plan history n new
  receives_one n few old p i new inv there target h =
      let k_inv = inv.clients i h.c h.client h.is.planned h.is.there in
      let received = receives h.client p.bytes old.time h.said h.after h.receives in
      subst (Inv plan history n) (sym h.leaves)
      (client_changed n old i h.c h.after (answers_to h.said) inv h.is.planned
      (less_client plan n old.asks (history old.server) i h.c h.client h.after k_inv received.cuid received.number received.mid received.waiting
      (λ row row_there. elim (received.rows row row_there) [
        | inl before ↦ k_inv.rows row before
        | inr g ↦ row_granted plan n few is_plan old.asks old.gateway.kept (history old.server) inv.asks inv.entries inv.gateway.one (made_small n few old inv) i h.c h.client h.is.planned k_inv p.bytes row g
            p.source p.target target (inv.packets p there)
      ]))
      (λ bytes bytes_there. inr (answers_nothing h.client p.bytes old.time h.said h.after h.receives bytes bytes_there)))

  -- ---- an ask

  module _ (n : ℕ) (few : n < 2 ^ 62) (old : World S) (i : ℕ) (c : PlanClient) (k : ClientValue) (what : Ask) (inv : Inv plan history n old) (planned : slice_get plan.clients i ≡ Some c)
      (k_inv : ClientInv plan n old.asks (history old.server) i c k) (may : MayAsk k what) (word : ℕ) where
    abbrev a : MadeAsk
    a = made_by i k what

    abbrev asks2 : List MadeAsk
    asks2 = old.asks ++ made_by i k what ∷ []

    abbrev k2 : ClientValue
    k2 = asked_at k what old.time word

    more : Within old.asks asks2
    more b there = Contains-append_left old.asks (a ∷ []) b there

    next_number : (k.number + 1) % 2 ^ 64 ≡ k.number + 1
    next_number = let number = k_inv.number in mod-eq_of_lt (omega (arith, number, few))

    asked_good : AsksInv plan (suc n) asks2
    asked_good = record {
      good = by_last (IsGood plan (suc n)) old.asks a (raised_asks plan n old.asks inv.asks).good
          (let number = k_inv.number in record {
            c = c;
            planned = planned;
            number = omega (arith, number);
            mid = mid_small plan n old.asks (history old.server) i c k inv.asks k_inv what may.known;
            can = may.can;
          });
      one = λ b d b_there d_there. one_of b b_there d d_there;
    }
      where
        unused : (b : MadeAsk) → Contains old.asks b → b.who ≡ i → b.number ≡ k.number → ⊥
        unused b there who number = let past = k_inv.past b there who in omega (arith, past, number)

        one_of : (b : MadeAsk) → Contains asks2 b → (d : MadeAsk) → Contains asks2 d → b.who ≡ d.who → b.number ≡ d.number → b ≡ d
        one_of =
            by_last (λ b. (d : MadeAsk) → Contains asks2 d → b.who ≡ d.who → b.number ≡ d.number → b ≡ d) old.asks a
            (λ b there. by_last (λ d. b.who ≡ d.who → b.number ≡ d.number → b ≡ d) old.asks a (λ d d_there. inv.asks.one b d there d_there) (λ who number. absurd (unused b there who number)))
            (by_last (λ d. i ≡ d.who → k.number ≡ d.number → a ≡ d) old.asks a (λ d there who number. absurd (unused d there (sym who) (sym number))) (λ who number. refl))

    own_client : ClientInv plan (suc n) asks2 (history old.server) i c k2
    own_client =
        let number = k_inv.number in record {
          cuid = k_inv.cuid;
          number = subst (λ m. m ≤ suc n + 1) (sym next_number) (omega (arith, number));
          mid = mid_later k what k_inv.mid;
          past = λ b there who. subst (λ m. b.number < m) (sym next_number)
              (by_last (λ b. b.who ≡ i → b.number < k.number + 1) old.asks a (λ b there who. let past = k_inv.past b there who in omega (arith, past)) (λ who. omega arith) b there who);
          waiting = by_last (IsWaiting asks2 i c) k.waiting (new_waiting k what old.time word)
              (λ v there. waiting_more plan old.asks asks2 old.gateway.kept old.gateway.kept (history old.server) (history old.server) more (λ x x_there. x_there) (λ e e_there. e_there) i c v (k_inv.waiting v there))
              (record { ask = a; there = by_new; who = refl; number = refl; mid = refl; scope = scope_asked k what; bytes = bytes_asked k what c.cuid k_inv.cuid });
          rows = λ row there. row_more plan old.asks asks2 old.gateway.kept old.gateway.kept (history old.server) (history old.server) more (λ x x_there. x_there) (λ e e_there. e_there) i row (k_inv.rows row there);
        }
      where
        by_new : Contains asks2 a
        by_new = Contains-push old.asks a

    other_client : (j : ℕ) (d : PlanClient) (m : ClientValue) → (j ≡ i → ⊥) → ClientInv plan n old.asks (history old.server) j d m → ClientInv plan (suc n) asks2 (history old.server) j d m
    other_client j d m apart is =
        let number = is.number in record {
          cuid = is.cuid;
          number = omega (arith, number);
          mid = is.mid;
          past = by_last (λ b. b.who ≡ j → b.number < m.number) old.asks a is.past (λ who. absurd (apart (sym who)));
          waiting = λ v there. waiting_more plan old.asks asks2 old.gateway.kept old.gateway.kept (history old.server) (history old.server) more (λ x x_there. x_there) (λ e e_there. e_there) j d v (is.waiting v there);
          rows = λ row there. row_more plan old.asks asks2 old.gateway.kept old.gateway.kept (history old.server) (history old.server) more (λ x x_there. x_there) (λ e e_there. e_there) j row (is.rows row there);
        }

    asked_keeps : Inv plan history (suc n) (record (changed old i c k2 []) { asks = asks2 })
    asked_keeps =
        let gateway_inv = raised_gateway plan n old.asks old.gateway.core old.gateway.kept inv.gateway in record {
          asks = asked_good;
          clients = client_set plan (ClientInv plan (suc n) asks2 (history old.server)) old.clients i c k2 planned own_client (λ j d m apart at there. other_client j d m apart (inv.clients j d m at there));
          gateway = record {
            routes = gateway_inv.routes;
            upstream = gateway_inv.upstream;
            next = gateway_inv.next;
            below = gateway_inv.below;
            last = gateway_inv.last;
            one = gateway_inv.one;
            made = λ x there. made_more plan old.asks asks2 old.gateway.kept old.gateway.kept (history old.server) (history old.server) more (λ y y_there. y_there) (λ e e_there. e_there) x (gateway_inv.made x there);
            waits = gateway_inv.waits;
          };
          packets = by_parts (SaysOf plan asks2 old.gateway.kept (history old.server)) old.packets []
              (packets_more plan old.asks asks2 old.gateway.kept old.gateway.kept (history old.server) (history old.server) more (λ x x_there. x_there) (λ e e_there. e_there) old.packets inv.packets)
              (λ p there. absurd (not_in_none p there));
          entries = entries_more plan old.asks asks2 old.gateway.kept old.gateway.kept (history old.server) (history old.server) more (λ x x_there. x_there) (λ e e_there. e_there) inv.entries;
        }

  asks_keep : (n : ℕ) → n < 2 ^ 62 → (old : World S) (i : ℕ) (what : Ask) (new : World S) → Inv plan history n old → AsksFor plan old i what new → Inv plan history (suc n) new
  asks_keep n few old i what new inv (made c k is may leaves) =
      subst (Inv plan history (suc n)) (sym leaves) (asked_keeps n few old i c k what inv is.planned (inv.clients i c k is.planned is.there) may (k.number % 2 ^ 16))
  asks_keep n few old i what new inv (unmade none leaves) = subst (Inv plan history (suc n)) (sym leaves) (raised n old inv)

  -- ---- the gateway

  left_keeps : (n : ℕ) (w : World S) (outs : List OwnedOut) (next : GatewayState) → Inv plan history n w → Left plan (suc n) w.asks (history w.server) w.gateway.kept outs next.core next.kept → Inv plan history (suc n) (passed plan w outs next)
  left_keeps n w outs next inv left = record {
    asks = raised_asks plan n w.asks inv.asks;
    clients = raised_clients plan n w.asks (history w.server) w.clients inv.clients;
    gateway = left.inv;
    packets = by_parts (SaysOf plan w.asks next.kept (history w.server)) w.packets _
        (packets_more plan w.asks w.asks w.gateway.kept next.kept (history w.server) (history w.server) (λ a there. there) left.more (λ e there. there) w.packets inv.packets) left.says;
    entries = entries_more plan w.asks w.asks w.gateway.kept next.kept (history w.server) (history w.server) (λ a there. there) left.more (λ e there. there) inv.entries;
  }

  match_true : (b : Bool) (P Q : Type 0) → b ≡ true → MatchBool b P Q → P
  match_true true P Q is m = m
  match_true false P Q is m = absurd (cc is)

  match_false : (b : Bool) (P Q : Type 0) → b ≡ false → MatchBool b P Q → Q
  match_false true P Q is m = absurd (cc is)
  match_false false P Q is m = m

  gateway_receives : (n : ℕ) → n < 2 ^ 62 → (w : World S) (source : Party) (target : Option Party) (bytes : List ℕ) (peer : ℕ) (outs : List OwnedOut) (next : GatewayState) → Inv plan history n w → target ≡ Some the_gateway
      → to_gateway plan source ≡ Some peer → Says plan w.asks w.gateway.kept (history w.server) source target bytes → Passes w.gateway (event.Datagram peer bytes) w.time outs next
      → Left plan (suc n) w.asks (history w.server) w.gateway.kept outs next.core next.kept
  gateway_receives n few w (a_client i) target bytes peer outs next inv is peer_is (c, planned, goes, says) passes =
      let peers : c.peer ≡ peer = same_Some c.peer peer (sym (ap (option_map (λ (c : PlanClient). c.peer)) planned) ∙ peer_is) in
      let behind = asked_of_gateway c.behind (sym is ∙ goes) in
      let name = (is_plan.clients i c planned).behind behind in
      let other : (peer == w.gateway.core.upstream) ≡ false =
      ap (λ p. p == w.gateway.core.upstream) (sym peers) ∙ ap (λ u. c.peer == u) inv.gateway.upstream ∙ not_upstream (routes_of plan.gateway_settings) (upstream_of plan) c.peer name.0 name.1 in
      let up : GoesUp (state_at w.gateway w.time) c.peer bytes outs next =
      subst (λ p. GoesUp (state_at w.gateway w.time) p bytes outs next) (sym peers) (match_false (peer == w.gateway.core.upstream) _ _ other passes) in
      up_left plan is_plan n few w.asks (history w.server) inv.asks _ w.gateway.kept (aged plan n w.asks w.gateway.core w.gateway.kept w.time inv.gateway) i c planned behind bytes says
      up.said outs next.core next.kept up.ups up.sends up.kept
  gateway_receives n few w the_server target bytes peer outs next inv is peer_is (to, goes, grants) passes =
      let peers : upstream_of plan ≡ peer = same_Some (upstream_of plan) peer peer_is in
      let own : (peer == w.gateway.core.upstream) ≡ true = eq-eqb peer w.gateway.core.upstream (sym peers ∙ sym inv.gateway.upstream) in
      let down : GoesDown (state_at w.gateway w.time) bytes outs next = match_true (peer == w.gateway.core.upstream) _ _ own passes in
      let to_is : to ≡ plan.gateway = gateway_at plan to (sym goes ∙ is) in
      let old_inv = aged plan n w.asks w.gateway.core w.gateway.kept w.time inv.gateway in
      subst (λ (g : GatewayState). Left plan (suc n) w.asks (history w.server) w.gateway.kept outs g.core g.kept) (sym down.same)
      (record {
        inv = raised_gateway plan n w.asks _ w.gateway.kept old_inv;
        more = λ x there. there;
        says = down_says plan is_plan n few w.asks (history w.server) inv.asks _ w.gateway.kept old_inv bytes
            (subst (λ t. GrantsBy (λ token mid lifetime. Answered (history w.server) t bytes) bytes) to_is grants) down.said down.downs outs down.sends;
      })
  gateway_receives n few w the_gateway target bytes peer outs next inv is peer_is says passes = absurd (none-some peer peer_is)

  gateway_restarted : (n : ℕ) (w new : World S) → Inv plan history n w → PassesOn plan w event.Restart new → Inv plan history (suc n) new
  gateway_restarted n w new inv (outs, next, (none, same), leaves) =
      subst (Inv plan history (suc n)) (sym leaves)
      (left_keeps n w outs next inv
      (subst (λ (g : GatewayState). Left plan (suc n) w.asks (history w.server) w.gateway.kept outs g.core g.kept) (sym same)
      (record {
        inv = raised_gateway plan n w.asks _ w.gateway.kept (begun_anew plan n w.asks w.gateway w.time inv.gateway);
        more = λ x there. there;
        says = all_none plan _ outs none;
      })))

  -- ---- an event

  comes : (n : ℕ) → n < 2 ^ 62 → (old : World S) (p : Packet) (target : Option Party) (new : World S) → Inv plan history n old → Contains old.packets p → p.target ≡ target → AreBytes p.bytes
      → Comes step plan old p target new → Inv plan history (suc n) new
  comes n few old p None new inv there is are c = subst (Inv plan history (suc n)) (sym c) (raised n old inv)
  comes n few old p (Some the_server) new inv there is are (peer, peer_is, (owed, server, st, leaves)) =
      subst (Inv plan history (suc n)) (sym leaves) (raised n _ (delivered_keeps plan is_plan history step laws n old p peer owed server inv there is peer_is are st))
  comes n few old p (Some the_gateway) new inv there is are (peer, peer_is, (outs, next, passes, leaves)) =
      subst (Inv plan history (suc n)) (sym leaves) (left_keeps n old outs next inv (gateway_receives n few old p.source p.target p.bytes peer outs next inv is peer_is (inv.packets p there) passes))
  comes n few old p (Some (a_client i)) new inv there is are c = raised n new (receives_one n few old p i new inv there is c)

  delivers_keep : (n : ℕ) → n < 2 ^ 62 → (old : World S) (k : ℕ) (o : Option Packet) (new : World S) → Inv plan history n old → slice_get old.packets k ≡ o → Delivers step plan old o new → Inv plan history (suc n) new
  delivers_keep n few old k None new inv at d = subst (Inv plan history (suc n)) (sym d) (raised n old inv)
  delivers_keep n few old k (Some p) new inv at d = comes n few old p p.target new inv (got_in old.packets k p at) refl d.0 d.1

  timed : (n : ℕ) (w : World S) (at : ℕ) → Inv plan history n w → Inv plan history n (record w { time = at })
  timed n w at inv = record { asks = inv.asks; clients = inv.clients; gateway = inv.gateway; packets = inv.packets; entries = inv.entries }

  pub begins_keep : (n : ℕ) → n < 2 ^ 62 → (old : World S) (what : WorldEvent) (new : World S) → Inv plan history n old → Begins step plan old what new → Inv plan history (suc n) new
  begins_keep n few old (asks i what) new inv b = asks_keep n few old i what new inv b
  begins_keep n few old (ticks at) new inv (owed, server, st, leaves) =
      subst (Inv plan history (suc n)) (sym leaves)
      (raised n _ (quiet_keeps plan is_plan history step laws n (record old { time = max old.time at }) event.Tick owed server (timed n old (max old.time at) inv) st
      (laws.ticks old.server (max old.time at) owed server (asked_at_once plan old.asks old.gateway.kept (history old.server) inv.entries) st)))
  begins_keep n few old restarts new inv (owed, server, st, leaves) =
      subst (Inv plan history (suc n)) (sym leaves) (raised n _ (quiet_keeps plan is_plan history step laws n old event.Restart owed server inv st (laws.restarts old.server old.time owed server st)))
  begins_keep n few old gateway_restarts new inv b = gateway_restarted n old new inv b
  begins_keep n few old (delivers k) new inv b = delivers_keep n few old k (slice_get old.packets k) new inv refl b

  pub happens_keep : (n : ℕ) → n < 2 ^ 62 → (old : World S) (what : WorldEvent) (new : World S) → Inv plan history n old → Happens step plan old what new → Inv plan history (suc n) new
  happens_keep n few old what new inv h = all_hand (suc n) (range_with_len 0 (length plan.clients)) h.0 new (begins_keep n few old what h.0 inv h.1) h.2

  pub over : (n : ℕ) (old : World S) (events : List WorldEvent) (new : World S) → n + length events ≤ 2 ^ 31 → Inv plan history n old → Runs step plan old events new → Inv plan history (n + length events) new
  over n old [] new few inv r = subst (Inv plan history (n + 0)) (sym r) (subst (λ m. Inv plan history m old) (omega arith) inv)
  over n old (what ∷ events) new few inv r =
      subst (λ m. Inv plan history m new) (omega arith) (over (suc n) r.0 events new (omega (arith, few)) (happens_keep n (omega (arith, few)) old what r.0 inv r.1) r.2)

  -- ---- at first

  pub at_first : (server : S) → history server ≡ [] → Inv plan history 0 (begun plan server)
  at_first server none = record {
    asks = record { good = λ a there. absurd (not_in_none a there); one = λ a b there. absurd (not_in_none a there) };
    clients = λ i c k planned there. subst (ClientInv plan 0 [] (history server) i c) (first_client i c k planned there) (new_inv i c);
    gateway = record {
      routes = refl;
      upstream = refl;
      next = omega arith;
      below = omega arith;
      last = λ x there. absurd (not_in_none x there);
      one = λ x y there. absurd (not_in_none x there);
      made = λ x there. absurd (not_in_none x there);
      waits = λ k there. absurd (not_in_none k there);
    };
    packets = λ p there. absurd (not_in_none p there);
    entries = λ e there. absurd (not_in_none e (subst (λ es. Contains es e) none there));
  }
    where
      first_client : (i : ℕ) (c : PlanClient) (k : ClientValue) → slice_get plan.clients i ≡ Some c → slice_get (map new_client plan.clients) i ≡ Some k → new_client c ≡ k
      first_client i c k planned there = same_Some (new_client c) k (sym (ap (option_map new_client) planned) ∙ sym (slice_get-map new_client plan.clients i) ∙ there)

      new_inv : (i : ℕ) (c : PlanClient) → ClientInv plan 0 [] (history server) i c (new_client c)
      new_inv i c = record {
        cuid = refl;
        number = omega arith;
        mid = omega arith;
        past = λ a there. absurd (not_in_none a there);
        waiting = λ v there. absurd (not_in_none v there);
        rows = λ row there. absurd (not_in_none row there);
      }

  -- ---- what it comes to

  pub reached : (server : S) (events : List WorldEvent) (w : World S) → history server ≡ [] → length events ≤ 2 ^ 31 → Runs step plan (begun plan server) events w → Inv plan history (length events) w
  reached server events w none few r = subst (λ m. Inv plan history m w) (omega arith) (over 0 (begun plan server) events w (omega (arith, few)) (at_first server none) r)

  pub ledgers : (server : S) (events : List WorldEvent) (w : World S) → history server ≡ [] → length events ≤ 2 ^ 31 → Runs step plan (begun plan server) events w
      → (i : ℕ) (c : PlanClient) (k : ClientValue) (row : Granted) → IsClient plan w i c k → Contains k.ledger row → IsGrantedTo plan (history w.server) i row
  ledgers server events w none few r i c k row is there = (((reached server events w none few r).clients i c k is.planned is.there).rows row there).granted

  pub entries_asked : (server : S) (events : List WorldEvent) (w : World S) → history server ≡ [] → length events ≤ 2 ^ 31 → Runs step plan (begun plan server) events w
      → (e : Entry) → Contains (history w.server) e → WasAsked plan w.asks e
  entries_asked server events w none few r e there = let f = (reached server events w none few r).entries e there in (f.ask, f.there, f.of)
