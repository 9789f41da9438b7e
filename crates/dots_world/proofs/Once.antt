-- An ask has at most one entry where each of its packets finds the entry that there is.
use Rattle.std.specs.Bool.{MatchBool}
use Rattle.std.specs.List.{range_with_len}
use Rattle.std.specs.Int.{w64, to_be_bytes}
use Rattle.std.proofs.Common.{◌≡◌, ◌⊎◌, inl, inr, ℕ, zero, suc, ◌+◌, ◌<◌, ◌≤◌, ◌^◌, ◌==◌, max, Bool, true, false, List, [], ◌∷◌, ◌++◌, length, length-append, slice_get, Contains, Option, Some, None, refl, sym, ap, ◌∙◌, subst, arith}
use Rattle.std.proofs.lemmas.Option.{same_Some, none-some}
use Rattle.std.proofs.lemmas.List.Elements.{Contains-append_left}
use Rattle.coap_message.specs.Message.{CoapMessage}
use Rattle.coap_message.proofs.Whole.{one_message}
use Rattle.dots_host.specs.declared.event.Event.{Event}
use Rattle.dots_host.specs.declared.event.Event.TheVariants as event
use Rattle.dots_host.specs.declared.out.OwnedOut.{OwnedOut}
use Rattle.dots_history.specs.declared.entry.Entry.{Entry}
use Rattle.dots_client.specs.Client.{ClientValue}
use Rattle.dots_gateway.specs.declared.exchange.Exchange.{Exchange}
use Rattle.dots_machine.specs.Answering.{AreBytes}
use Rattle.gateway_agent.specs.Passing.{GatewayState, GoesUp, GoesDown, Passes, fresh_in, state_at}
use Rattle.dots_world.specs.Plans.{Party, a_client, the_gateway, the_server, PlanClient, Plan, IsPlan, to_server}
use Rattle.dots_world.specs.Worlds.{MadeAsk, Packet, World, begun, WorldEvent, asks, ticks, restarts, gateway_restarts, delivers, changed, made, unmade, AllHandOut, Comes, Delivers, Begins}
use Rattle.dots_world.specs.Granted.{HasNumber, IsUnder, own, passed, HasOneEntry}
use Rattle.dots_world.specs.Once.{CarriesAsk, FindsAt, RunsFinding}
use Rattle.dots_world.proofs.Lists.{not_in_none, got_in, one_number}
use Rattle.dots_world.proofs.Kept.{Within, AsksInv, under_more}
use Rattle.dots_world.proofs.Received.{no_direct_gateway}
use Rattle.dots_world.proofs.Serving.{AddsOne, IsServing, Inv, IsFromBy, from_source, asked_at_once}
use Rattle.dots_world.proofs.Over.{made_small, all_hand, begins_keep, at_first}
use Rattle.dots_world.proofs.AtOnce.{AtOnce}

-- ---- one ask of an entry

has_one : (bytes : List ℕ) (m n : ℕ) → HasNumber bytes m → HasNumber bytes n → to_be_bytes w64 m ≡ to_be_bytes w64 n
has_one bytes m n a b =
    let same = one_message a.message b.message a.is_message b.is_message (sym a.spelled ∙ b.spelled) in
    sym a.token ∙ ap (λ (m : CoapMessage). m.token) same ∙ b.token

module _ (plan : Plan) (is_plan : IsPlan plan) (n : ℕ) (few : n < 2 ^ 62) (made_asks : List MadeAsk) (kept : List Exchange) (asked_inv : AsksInv plan n made_asks)
    (one_made : (x y : Exchange) → Contains kept x → Contains kept y → x.number ≡ y.number → x ≡ y) (small_made : (x : Exchange) → Contains kept x → x.number < 2 ^ 64) (e : Entry) (a b : MadeAsk)
    (a_there : Contains made_asks a) (b_there : Contains made_asks b) where
  small : (d : MadeAsk) → Contains made_asks d → d.number < 2 ^ 64
  small d there = let number = (asked_inv.good d there).number in omega (arith, number, few)

  by_tokens : a.who ≡ b.who → to_be_bytes w64 a.number ≡ to_be_bytes w64 b.number → a ≡ b
  by_tokens who tokens = asked_inv.one a b a_there b_there who (one_number a.number b.number (small a a_there) (small b b_there) tokens)

  under_one : IsUnder plan kept e a → IsUnder plan kept e b → a ≡ b
  under_one (own c c_planned straight c_peer c_number) (own d d_planned d_straight d_peer d_number) =
      by_tokens (is_plan.apart a.who b.who c d c_planned d_planned (straight ∙ sym d_straight) (sym c_peer ∙ d_peer)) (has_one e.reply a.number b.number c_number d_number)
  under_one (own c c_planned straight c_peer c_number) (passed y y_there y_of y_peer y_number) = absurd (no_direct_gateway plan is_plan a.who c c_planned straight (sym c_peer ∙ y_peer))
  under_one (passed x x_there x_of x_peer x_number) (own d d_planned d_straight d_peer d_number) = absurd (no_direct_gateway plan is_plan b.who d d_planned d_straight (sym d_peer ∙ x_peer))
  under_one (passed x x_there x_of x_peer x_number) (passed y y_there y_of y_peer y_number) =
      let same : x ≡ y = one_made x y x_there y_there (one_number x.number y.number (small_made x x_there) (small_made y y_there) (has_one e.reply x.number y.number x_number y_number)) in
      by_tokens
      (is_plan.apart a.who b.who x_of.c y_of.c x_of.planned y_of.planned (x_of.behind ∙ sym y_of.behind) (sym x_of.peer ∙ ap (λ (z : Exchange). z.peer) same ∙ y_of.peer))
      (sym x_of.token ∙ ap (λ (z : Exchange). z.token) same ∙ y_of.token)

-- ---- the places of a longer list

pushed_at : {A : Type 0} (xs : List A) (x : A) (i : ℕ) (y : A) → slice_get (xs ++ x ∷ []) i ≡ Some y → (slice_get xs i ≡ Some y) ⊎ ((i ≡ length xs) × (x ≡ y))
pushed_at [] x zero y is = inr (refl, same_Some x y is)
pushed_at [] x (suc i) y is = absurd (none-some y is)
pushed_at (z ∷ xs) x zero y is = inl is
pushed_at (z ∷ xs) x (suc i) y is = elim (pushed_at xs x i y is) [ inl old ↦ inl old | inr last ↦ inr (ap suc last.0, last.1) ]

longer : {A : Type 0} (xs : List A) (x : A) → xs ++ x ∷ [] ≡ xs → ⊥
longer xs x is = let sum = length-append xs (x ∷ []) in let same = ap length is in omega (arith, sum, same)

module _ {S : Type 0} (plan : Plan) (is_plan : IsPlan plan) (history : S → List Entry) (step : S → Event → ℕ → List (S × OwnedOut) → S → Type 0) (laws : IsServing plan history step)
    (finds : S → ℕ → ℕ → List ℕ → Entry → Type 0)
    (repeats : (old : S) (at peer : ℕ) (bytes : List ℕ) (e : Entry) (owed : List (S × OwnedOut)) (new : S) → AtOnce (history old) → AreBytes bytes → finds old at peer bytes e → step old (event.Datagram peer bytes) at owed new → history new ≡ history old)
    (a : MadeAsk) where
  abbrev One : World S → Type 0
  One w = Contains w.asks a → HasOneEntry plan w.gateway.kept (history w.server) a

  under_in : (n : ℕ) → n < 2 ^ 62 → (w : World S) → Inv plan history n w → (e : Entry) (b : MadeAsk) → Contains w.asks b → Contains w.asks a → IsUnder plan w.gateway.kept e b → IsUnder plan w.gateway.kept e a → b ≡ a
  under_in n few w inv e b b_there a_there one other =
      under_one plan is_plan n few w.asks w.gateway.kept inv.asks inv.gateway.one (made_small plan is_plan history step laws n few w inv) e b a b_there a_there one other

  -- where the history stays
  record Stays (old new : World S) : Type 0 where
    asked : Within old.asks new.asks
    kept : Within old.gateway.kept new.gateway.kept
    same : history new.server ≡ history old.server

  stays : (n : ℕ) → n < 2 ^ 62 → (old new : World S) → Inv plan history n old → (m : ℕ) → m < 2 ^ 62 → Inv plan history m new → Stays old new → One old → One new
  stays n few old new inv m m_few new_inv s one there i j e f e_at f_at e_under f_under =
      let x = was e i e_at e_under in
      let y = was f j f_at f_under in
      one x.0 i j e f (subst (λ es. slice_get es i ≡ Some e) s.same e_at) (subst (λ es. slice_get es j ≡ Some f) s.same f_at) x.1 y.1
    where
      was : (e : Entry) (i : ℕ) → slice_get (history new.server) i ≡ Some e → IsUnder plan new.gateway.kept e a → Contains old.asks a × IsUnder plan old.gateway.kept e a
      was e i at under =
          let from = inv.entries e (subst (λ es. Contains es e) s.same (got_in (history new.server) i e at)) in
          let later = under_more plan old.asks new.asks old.gateway.kept new.gateway.kept (history old.server) (history old.server) s.asked s.kept (λ x x_there. x_there) e from.ask from.under in
          let same : from.ask ≡ a = under_in m m_few new new_inv e from.ask (s.asked from.ask from.there) there later under in
          (subst (Contains old.asks) same from.there, subst (IsUnder plan old.gateway.kept e) same from.under)

  -- where an entry is added, whose packet would have found another one of the ask
  added : (n : ℕ) → n < 2 ^ 62 → (old : World S) → Inv plan history n old → (source : Party) (bytes : List ℕ) (server : S) → AddsOne (history old.server) (history server) (IsFromBy plan old.asks old.gateway.kept source bytes)
      → ((e : Entry) → CarriesAsk plan old.gateway.kept a source bytes → Contains (history old.server) e → IsUnder plan old.gateway.kept e a → history server ≡ history old.server)
      → One old → Contains old.asks a → HasOneEntry plan old.gateway.kept (history server) a
  added n few old inv source bytes server (inl same) found one there = subst (λ es. HasOneEntry plan old.gateway.kept es a) (sym same) (one there)
  added n few old inv source bytes server (inr (last, is, from)) found one there = by_place
    where
      never : (k : ℕ) (x : Entry) → slice_get (history old.server) k ≡ Some x → IsUnder plan old.gateway.kept x a → IsUnder plan old.gateway.kept last a → ⊥
      never k x at under last_under =
          let same : from.0.ask ≡ a = under_in n few old inv last from.0.ask from.0.there there from.0.under last_under in
          longer (history old.server) last
          (sym is ∙ found x (subst (λ b. CarriesAsk plan old.gateway.kept b source bytes) same from.1) (got_in (history old.server) k x at) under)

      by_place : HasOneEntry plan old.gateway.kept (history server) a
      by_place i j e f e_at f_at e_under f_under =
          elim (pushed_at (history old.server) last i e (subst (λ es. slice_get es i ≡ Some e) is e_at)) [
            | inl e_old ↦ elim (pushed_at (history old.server) last j f (subst (λ es. slice_get es j ≡ Some f) is f_at)) [
              | inl f_old ↦ one there i j e f e_old f_old e_under f_under
              | inr f_last ↦ absurd (never i e e_old e_under (subst (λ x. IsUnder plan old.gateway.kept x a) (sym f_last.1) f_under))
            ]
            | inr e_last ↦ elim (pushed_at (history old.server) last j f (subst (λ es. slice_get es j ≡ Some f) is f_at)) [
              | inl f_old ↦ absurd (never j f f_old f_under (subst (λ x. IsUnder plan old.gateway.kept x a) (sym e_last.1) e_under))
              | inr f_last ↦ e_last.0 ∙ sym f_last.0
            ]
          ]

  -- ---- an event

  nothing : (old : World S) → Stays old old
  nothing old = record { asked = λ b there. there; kept = λ x there. there; same = refl }

  more_kept : (old : World S) (came : Event) (outs : List OwnedOut) (next : GatewayState) → Passes old.gateway came old.time outs next → Within old.gateway.kept next.kept
  more_kept old (event.Datagram peer bytes) outs next p = by (peer == old.gateway.core.upstream) p
    where
      by : (b : Bool) → MatchBool b (GoesDown (state_at old.gateway old.time) bytes outs next) (GoesUp (state_at old.gateway old.time) peer bytes outs next) → Within old.gateway.kept next.kept
      by true down = λ x there. subst (λ (g : GatewayState). Contains g.kept x) (sym down.same) there
      by false up = λ x there. subst (λ xs. Contains xs x) (sym up.kept) (Contains-append_left old.gateway.kept (fresh_in up.said) x there)
  more_kept old event.Restart outs next p = λ x there. subst (λ (g : GatewayState). Contains g.kept x) (sym p.1) there
  more_kept old event.End outs next p = λ x there. subst (λ (g : GatewayState). Contains g.kept x) (sym p.1) there
  more_kept old event.Failed outs next p = λ x there. subst (λ (g : GatewayState). Contains g.kept x) (sym p.1) there
  more_kept old event.Tick outs next p = λ x there. subst (λ (g : GatewayState). Contains g.kept x) (sym p.1) there
  more_kept old (event.Opened conn peer) outs next p = λ x there. subst (λ (g : GatewayState). Contains g.kept x) (sym p.1) there
  more_kept old (event.Closed conn) outs next p = λ x there. subst (λ (g : GatewayState). Contains g.kept x) (sym p.1) there
  more_kept old (event.Piece conn piece) outs next p = λ x there. subst (λ (g : GatewayState). Contains g.kept x) (sym p.1) there

  module _ (n : ℕ) (few : n < 2 ^ 61) (old new : World S) (inv : Inv plan history n old) (new_inv : Inv plan history (suc n) new) (one : One old) where
    at_once : AtOnce (history old.server)
    at_once = asked_at_once plan old.asks old.gateway.kept (history old.server) inv.entries

    staying : Stays old new → One new
    staying s = stays n (omega (arith, few)) old new inv (suc n) (omega (arith, few)) new_inv s one

    comes_once : (p : Packet) (target : Option Party) → Contains old.packets p → p.target ≡ target → AreBytes p.bytes
        → ((peer : ℕ) (e : Entry) → p.target ≡ Some the_server → to_server plan p.source ≡ Some peer → CarriesAsk plan old.gateway.kept a p.source p.bytes → Contains (history old.server) e
        → IsUnder plan old.gateway.kept e a → finds old.server old.time peer p.bytes e)
        → Comes step plan old p target new → One new
    comes_once p None there is are found c = staying (subst (Stays old) (sym c) (nothing old))
    comes_once p (Some the_server) there is are found (peer, peer_is, (owed, server, st, leaves)) =
        subst One (sym leaves)
        (λ a_there. added n (omega (arith, few)) old inv p.source p.bytes server
        (from_source plan is_plan history step laws n old.asks old.gateway.kept inv.asks old.server at_once old.time owed server peer p.source p.target p.bytes is peer_is (inv.packets p there) are st)
        (λ e carries e_there under. repeats old.server old.time peer p.bytes e owed server at_once are (found peer e is peer_is carries e_there under) st) one a_there)
    comes_once p (Some the_gateway) there is are found (peer, peer_is, (outs, next, passes, leaves)) =
        staying (subst (Stays old) (sym leaves) (record { asked = λ b b_there. b_there; kept = more_kept old (event.Datagram peer p.bytes) outs next passes; same = refl }))
    comes_once p (Some (a_client i)) there is are found c = staying (subst (Stays old) (sym c.leaves) (nothing_of c.c i c.after _))
      where
        nothing_of : (c : PlanClient) (i : ℕ) (k : ClientValue) (messages : List (List ℕ)) → Stays old (changed old i c k messages)
        nothing_of c i k messages = record { asked = λ b there. there; kept = λ x there. there; same = refl }

    delivers_once : (k : ℕ) (o : Option Packet) → slice_get old.packets k ≡ o → FindsAt history finds plan a old (delivers k) → Delivers step plan old o new → One new
    delivers_once k None at found d = staying (subst (Stays old) (sym d) (nothing old))
    delivers_once k (Some p) at found d = comes_once p p.target (got_in old.packets k p at) refl d.0 (λ peer e target peer_is carries there under. found p peer e at target peer_is carries there under) d.1

    begins_once : (what : WorldEvent) → FindsAt history finds plan a old what → Begins step plan old what new → One new
    begins_once (asks i what) found (made c k is may leaves) =
        staying (subst (Stays old) (sym leaves) (record { asked = λ b there. Contains-append_left old.asks _ b there; kept = λ x there. there; same = refl }))
    begins_once (asks i what) found (unmade none leaves) = staying (subst (Stays old) (sym leaves) (nothing old))
    begins_once (ticks at) found (owed, server, st, leaves) =
        staying (subst (Stays old) (sym leaves) (record { asked = λ b there. there; kept = λ x there. there; same = laws.ticks old.server (max old.time at) owed server at_once st }))
    begins_once restarts found (owed, server, st, leaves) =
        staying (subst (Stays old) (sym leaves) (record { asked = λ b there. there; kept = λ x there. there; same = laws.restarts old.server old.time owed server st }))
    begins_once gateway_restarts found (outs, next, passes, leaves) =
        staying (subst (Stays old) (sym leaves) (record { asked = λ b there. there; kept = more_kept old event.Restart outs next passes; same = refl }))
    begins_once (delivers k) found d = delivers_once k (slice_get old.packets k) refl found d

  all_once : (places : List ℕ) (old new : World S) → One old → AllHandOut plan places old new → One new
  all_once [] old new one h = subst One (sym h) one
  all_once (i ∷ places) old new one h = all_once places h.0 new (subst One (sym h.1.leaves) one) h.2

  over_once : (n : ℕ) (old : World S) (events : List WorldEvent) (new : World S) → n + length events ≤ 2 ^ 31 → Inv plan history n old → One old → RunsFinding step history finds plan a old events new → One new
  over_once n old [] new few inv one r = subst One (sym r) one
  over_once n old (what ∷ events) new few inv one (between, found, (begun_so, begins, all), rest) =
      let first = begins_keep plan is_plan history step laws n (omega (arith, few)) old what begun_so inv begins in
      let second = all_hand plan is_plan history step laws (suc n) (range_with_len 0 (length plan.clients)) begun_so between first all in
      over_once (suc n) between events new (omega (arith, few)) second
      (all_once (range_with_len 0 (length plan.clients)) begun_so between (begins_once n (omega (arith, few)) old begun_so inv first one what found begins) all) rest

  pub one_entry : (server : S) (events : List WorldEvent) (w : World S) → history server ≡ [] → length events ≤ 2 ^ 31 → RunsFinding step history finds plan a (begun plan server) events w → Contains w.asks a
      → HasOneEntry plan w.gateway.kept (history w.server) a
  one_entry server events w none few r there =
      over_once 0 (begun plan server) events w (omega (arith, few)) (at_first plan is_plan history step laws server none) (λ a_there. absurd (not_in_none a a_there)) r there
