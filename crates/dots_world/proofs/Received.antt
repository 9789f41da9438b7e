-- A grant that a client receives is in the history: by the tokens it is that of its own ask.
use Rattle.std.specs.Int.{w64, to_be_bytes}
use Rattle.std.proofs.Common.{◌≡◌, inl, inr, ℕ, ℤ, ◌<◌, ◌^◌, ◌==◌, not, Bool, true, false, cond, List, [], slice_get, position, Contains, Option, Some, None, option_map, refl, sym, ap, ◌∙◌, subst, arith}
use Rattle.std.proofs.lemmas.Bool.{and_parts, eqb-true}
use Rattle.std.proofs.lemmas.Option.{same_Some, none-some}
use Rattle.acl_lists.specs.declared.asked.Asked.{Asked}
use Rattle.dots_settings.specs.declared.peer.Role.{Role}
use Rattle.dots_settings.specs.declared.peer.Role.TheVariants as role
use Rattle.dots_settings.specs.Lookups.{role_of}
use Rattle.dots_history.specs.declared.entry.Entry.{Entry}
use Rattle.dots_history.specs.declared.put.Put.{Put}
use Rattle.dots_history.specs.declared.change.Change.TheVariants as change
use Rattle.dots_client.specs.declared.granted.Granted.{Granted}
use Rattle.dots_client.specs.Client.{ClientValue}
use Rattle.dots_gateway.specs.declared.exchange.Exchange.{Exchange}
use Rattle.dots_world.specs.Granting.{IsGrant}
use Rattle.dots_world.specs.Plans.{Party, a_client, the_gateway, the_server, PlanClient, Plan, IsPlan, asks_at, is_direct, is_behind, from_server}
use Rattle.dots_world.specs.Worlds.{Aim, mitigates, withdraws, MadeAsk}
use Rattle.dots_world.specs.Granted.{Carries, IsUnder, own, passed}
use Rattle.dots_world.proofs.Lists.{placed, one_number}
use Rattle.dots_world.proofs.Clients.{IsGrantReceived}
use Rattle.dots_world.proofs.Kept.{scope_of, AsksInv, IsFrom, EntriesInv, IsWaiting, IsRow, ClientInv, Answered, IsPassedGrant, Says, grant_number}

-- ---- parties

same_client : (i j : ℕ) → a_client i ≡ a_client j → i ≡ j
same_client i j is = ap place is
  where
    place : Party → ℕ
    place (a_client k) = k
    place the_gateway = 0
    place the_server = 0

abbrev IsServer : Party → Type 0
IsServer the_server = Unit {0}
IsServer _ = ⊥

abbrev IsGateway : Party → Type 0
IsGateway the_gateway = Unit {0}
IsGateway _ = ⊥

pub no_server : (i : ℕ) → Some the_server ≡ Some (a_client i) → ⊥
no_server i is = subst IsServer (same_Some the_server (a_client i) is) tt

pub no_gateway : (i : ℕ) → Some the_gateway ≡ Some (a_client i) → ⊥
no_gateway i is = subst IsGateway (same_Some the_gateway (a_client i) is) tt

pub not_both : Some the_server ≡ Some the_gateway → ⊥
not_both is = subst IsServer (same_Some the_server the_gateway is) tt

pub asked_of_none : (behind : Bool) (i : ℕ) → Some (asks_at behind) ≡ Some (a_client i) → ⊥
asked_of_none true i is = no_gateway i is
asked_of_none false i is = no_server i is

pub asked_of_server : (behind : Bool) → Some the_server ≡ Some (asks_at behind) → behind ≡ false
asked_of_server true is = absurd (not_both is)
asked_of_server false is = refl

pub asked_of_gateway : (behind : Bool) → Some the_gateway ≡ Some (asks_at behind) → behind ≡ true
asked_of_gateway true is = refl
asked_of_gateway false is = absurd (not_both (sym is))

-- what the peers of a plan lead to
abbrev no_client : PlanClient
no_client = record { peer = 0; cuid = []; behind = false }

pub record IsAt (plan : Plan) (behind : Bool) (to i : ℕ) : Type 0 where
  pub c : PlanClient
  pub planned : slice_get plan.clients i ≡ Some c
  pub side : c.behind ≡ behind
  pub peer : c.peer ≡ to

not_true : (b : Bool) → not b ≡ true → b ≡ false
not_true true is = absurd (cc is)
not_true false is = refl

at_client : (o : Option ℕ) (i : ℕ) → option_map a_client o ≡ Some (a_client i) → o ≡ Some i
at_client None i is = absurd (none-some (a_client i) is)
at_client (Some j) i is = ap Some (same_client j i (same_Some (a_client j) (a_client i) is))

pub direct_at : (plan : Plan) (to i : ℕ) → from_server plan to ≡ Some (a_client i) → IsAt plan false to i
direct_at plan to i is = by (to == plan.gateway) is
  where
    by : (b : Bool) → cond b (Some the_gateway) (option_map a_client (position (is_direct to) plan.clients)) ≡ Some (a_client i) → IsAt plan false to i
    by true is = absurd (no_gateway i is)
    by false is =
        let at = placed (is_direct to) plan.clients i no_client (at_client (position (is_direct to) plan.clients) i is) in
        let both = and_parts (not at.0.behind) (at.0.peer == to) at.2 in
        record { c = at.0; planned = at.1; side = not_true at.0.behind both.0; peer = eqb-true at.0.peer to both.1 }

pub behind_at : (plan : Plan) (to i : ℕ) → option_map a_client (position (is_behind to) plan.clients) ≡ Some (a_client i) → IsAt plan true to i
behind_at plan to i is =
    let at = placed (is_behind to) plan.clients i no_client (at_client (position (is_behind to) plan.clients) i is) in
    let both = and_parts at.0.behind (at.0.peer == to) at.2 in
    record { c = at.0; planned = at.1; side = both.0; peer = eqb-true at.0.peer to both.1 }

no_party_at : (o : Option ℕ) (P : Party → Type 0) (party : Party) → P party → ((i : ℕ) → P (a_client i) → ⊥) → option_map a_client o ≡ Some party → ⊥
no_party_at None P party holds none is = none-some party is
no_party_at (Some i) P party holds none is = none i (subst P (sym (same_Some (a_client i) party is)) holds)

pub no_server_at : (o : Option ℕ) → option_map a_client o ≡ Some the_server → ⊥
no_server_at o is = no_party_at o IsServer the_server tt (λ i none. none) is

pub no_gateway_at : (o : Option ℕ) → option_map a_client o ≡ Some the_gateway → ⊥
no_gateway_at o is = no_party_at o IsGateway the_gateway tt (λ i none. none) is

-- whom the server sends to as the gateway is the gateway
pub gateway_at : (plan : Plan) (to : ℕ) → from_server plan to ≡ Some the_gateway → to ≡ plan.gateway
gateway_at plan to is = by (to == plan.gateway) refl is
  where
    by : (b : Bool) → (to == plan.gateway) ≡ b → cond b (Some the_gateway) (option_map a_client (position (is_direct to) plan.clients)) ≡ Some the_gateway → to ≡ plan.gateway
    by true e is = eqb-true to plan.gateway e
    by false e is = absurd (no_gateway_at (position (is_direct to) plan.clients) is)

abbrev IsGatewayRole : Role → Type 0
IsGatewayRole role.Gateway = Unit {0}
IsGatewayRole _ = ⊥

-- the gateway is no client of the server's
pub no_direct_gateway : (plan : Plan) → IsPlan plan → (i : ℕ) (c : PlanClient) → slice_get plan.clients i ≡ Some c → c.behind ≡ false → c.peer ≡ plan.gateway → ⊥
no_direct_gateway plan is i c planned direct same =
    let whose = (is.clients i c planned).direct direct in
    subst IsGatewayRole (sym is.gateway ∙ ap (role_of plan.settings) (sym same) ∙ whose.1) tt

-- ---- by the ask of the entry

the_scope : (aim : Aim) (asked : Asked) → scope_of aim ≡ Some asked → (lifetime : ℤ) × (aim ≡ mitigates asked lifetime)
the_scope (mitigates other lifetime) asked is = (lifetime, ap (λ (a : Asked). mitigates a lifetime) (same_Some other asked is))
the_scope withdraws asked is = absurd (none-some asked is)

one_put : (one other : Put) → change.Put one ≡ change.Put other → one ≡ other
one_put one other is = cc

module _ (plan : Plan) (n : ℕ) (few : n < 2 ^ 62) (is_plan : IsPlan plan) (asks : List MadeAsk) (kept : List Exchange) (history : List Entry) (asked : AsksInv plan n asks) (entries : EntriesInv plan asks kept history)
    (one_made : (x y : Exchange) → Contains kept x → Contains kept y → x.number ≡ y.number → x ≡ y) (made_small : (x : Exchange) → Contains kept x → x.number < 2 ^ 64)
    (i : ℕ) (c : PlanClient) (k : ClientValue) (planned : slice_get plan.clients i ≡ Some c) (inv : ClientInv plan n asks history i c k)
    (bytes : List ℕ) (row : Granted) (h : IsGrantReceived k bytes row) where
  waits : IsWaiting asks i c h.w
  waits = inv.waiting h.w h.waits

  token : List ℕ
  token = to_be_bytes w64 waits.ask.number

  small : (a : MadeAsk) → Contains asks a → a.number < 2 ^ 64
  small a there = let number = (asked.good a there).number in omega (arith, number, few)

  grant : IsGrant bytes (to_be_bytes w64 waits.ask.number) row.mid row.lifetime
  grant = record { message = h.message; is_message = h.is_message; spelled = h.spelled; token_is = h.token ∙ ap (to_be_bytes w64) (sym waits.number); grants = h.grants }

  aimed : (lifetime : ℤ) × (waits.ask.aim ≡ mitigates row.asked lifetime)
  aimed = the_scope waits.ask.aim row.asked (sym waits.scope ∙ h.scope)

  -- the entry carries this very ask
  by_ask : (e : Entry) → Contains history e → (f : IsFrom plan asks kept e) → f.ask.who ≡ i → to_be_bytes w64 waits.ask.number ≡ to_be_bytes w64 f.ask.number
      → (other : List ℕ) → IsGrant e.reply other row.mid row.lifetime → IsRow plan asks history i row
  by_ask e there f who tokens other g =
      let numbers = one_number waits.ask.number f.ask.number (small waits.ask waits.there) (small f.ask f.there) tokens in
      let same : waits.ask ≡ f.ask = asked.one waits.ask f.ask waits.there f.there (waits.who ∙ sym who) numbers in
      let said = f.says other row.mid row.lifetime g in
      let aim : f.ask.aim ≡ mitigates row.asked aimed.0 = sym (ap (λ (a : MadeAsk). a.aim) same) ∙ aimed.1 in
      let carried : Carries plan.settings (mitigates row.asked aimed.0) f.ask.mid e = subst (λ (aim : Aim). Carries plan.settings aim f.ask.mid e) aim f.of.carries in
      let puts : carried.0 ≡ said.0 = one_put carried.0 said.0 (sym carried.1 ∙ said.1) in
      record {
        granted = record {
          entry = e;
          there = there;
          c = f.of.c;
          planned = ap (slice_get plan.clients) (sym who) ∙ f.of.planned;
          domain = f.of.domain;
          cuid = f.of.cuid;
          put = carried.0;
          changes = carried.1;
          mid = ap (λ (p : Put). p.mid) puts ∙ sym said.2;
          scope = carried.3;
          lasts = ap (λ (p : Put). p.granted) puts ∙ sym said.3;
        };
        ask = waits.ask;
        there = waits.there;
        mid = waits.mid ∙ sym h.mid;
        lifetime = aimed.0;
        aim = aimed.1;
      }

  -- ---- of the server

  by_server : (to : ℕ) → from_server plan to ≡ Some (a_client i) → Answered history to bytes → IsRow plan asks history i row
  by_server to target (e, there, peer, reply) = by (entries e there).under
    where
      f : IsFrom plan asks kept e
      f = entries e there

      at : IsAt plan false to i
      at = direct_at plan to i target

      g : IsGrant e.reply (to_be_bytes w64 waits.ask.number) row.mid row.lifetime
      g = subst (λ bytes. IsGrant bytes (to_be_bytes w64 waits.ask.number) row.mid row.lifetime) (sym reply) grant

      by : IsUnder plan kept e f.ask → IsRow plan asks history i row
      by (own d d_planned direct d_peer number) =
          by_ask e there f
          (is_plan.apart f.ask.who i d at.c d_planned at.planned (direct ∙ sym at.side) (sym d_peer ∙ peer ∙ sym at.peer))
          (grant_number e.reply _ row.mid row.lifetime f.ask.number g number) (to_be_bytes w64 waits.ask.number) g
      by (passed x x_there of x_peer number) = absurd (no_direct_gateway plan is_plan i at.c at.planned at.side (at.peer ∙ sym peer ∙ x_peer))

  -- ---- through the gateway

  by_gateway : (to : ℕ) → option_map a_client (position (is_behind to) plan.clients) ≡ Some (a_client i) → IsPassedGrant plan kept history to (to_be_bytes w64 waits.ask.number) row.mid row.lifetime
      → IsRow plan asks history i row
  by_gateway to target p = by (entries p.answered.0 p.answered.1).under
    where
      e : Entry
      e = p.answered.0

      f : IsFrom plan asks kept p.answered.0
      f = entries p.answered.0 p.answered.1

      at : IsAt plan true to i
      at = behind_at plan to i target

      g : IsGrant p.answered.0.reply (to_be_bytes w64 p.x.number) row.mid row.lifetime
      g = subst (λ bytes. IsGrant bytes (to_be_bytes w64 p.x.number) row.mid row.lifetime) (sym p.answered.3) p.grants

      by : IsUnder plan kept p.answered.0 f.ask → IsRow plan asks history i row
      by (own d d_planned direct d_peer number) = absurd (no_direct_gateway plan is_plan f.ask.who d d_planned direct (sym d_peer ∙ p.answered.2))
      by (passed y y_there of y_peer number) =
          let numbers = one_number p.x.number y.number (made_small p.x p.made) (made_small y y_there) (grant_number p.answered.0.reply _ row.mid row.lifetime y.number g number) in
          let same : p.x ≡ y = one_made p.x y p.made y_there numbers in
          by_ask p.answered.0 p.answered.1 f
          (is_plan.apart f.ask.who i of.c at.c of.planned at.planned (of.behind ∙ sym at.side) (sym of.peer ∙ sym (ap (λ (x : Exchange). x.peer) same) ∙ sym p.peer ∙ sym at.peer))
          (sym p.of_token ∙ ap (λ (x : Exchange). x.token) same ∙ of.token) (to_be_bytes w64 p.x.number) g

  pub row_granted : (source : Party) (target : Option Party) → target ≡ Some (a_client i) → Says plan asks kept history source target bytes → IsRow plan asks history i row
  row_granted (a_client j) target is s = absurd (asked_of_none s.0.behind i (sym s.2 ∙ is))
  row_granted the_server target is s = by_server s.0 (sym s.1 ∙ is) (s.2 (to_be_bytes w64 waits.ask.number) row.mid row.lifetime grant)
  row_granted the_gateway target is (inl s) = absurd (no_server i (sym s.0 ∙ is))
  row_granted the_gateway target is (inr s) = by_gateway s.0 (sym s.1 ∙ is) (s.2 (to_be_bytes w64 waits.ask.number) row.mid row.lifetime grant)
