-- What holds of a gateway along a run: the numbers of what it kept rise, and each request that it sends is of one of these.
use Rattle.std.proofs.Common.{◌≡◌, ℕ, ◌+◌, ◌<◌, Bool, true, false, List, [], ◌∷◌, ◌++◌, max, Contains, refl, sym, ap, subst, ◌∙◌, append-nil, arith}
use Rattle.std.specs.Prelude.{◌^◌, ◌-◌, ◌==◌, All, length, nat_le, not, ⊤, Some, None, Ok, Err}
use Rattle.std.specs.Bool.{MatchBool}
use Rattle.std.proofs.lemmas.Bool.{eqb-false, or_parts}
use Rattle.std.proofs.lemmas.List.Elements.{All-contains_itself, All-filter, All-map, All-push, All-weaker, All-contains, Contains-append_left, Contains-push}
use Rattle.dots_host.specs.declared.event.Event.{Event}
use Rattle.dots_host.specs.declared.event.Event.TheVariants as event
use Rattle.dots_host.specs.declared.out.OwnedOut.{OwnedOut}
use Rattle.dots_host.specs.declared.out.OwnedOut.TheVariants as owned
use Rattle.dots_gateway.specs.declared.exchange.Exchange.{Exchange}
use Rattle.dots_gateway.specs.declared.exchange.Waiting.{Waiting}
use Rattle.dots_gateway.specs.declared.passed.Passed.{Passed}
use Rattle.dots_gateway.specs.declared.passed.Passed.TheVariants as passed
use Rattle.dots_gateway.specs.declared.passed.GatewayFault.TheVariants as fault
use Rattle.dots_gateway.specs.declared.routes.Route.{Route}
use Rattle.dots_gateway.specs.Exchanges.{ExchangesValue, is_full, is_over, waiting_again, with_one}
use Rattle.dots_gateway.specs.Gateway.{GatewayValue, Said, gateway_at, UpOrLacks, DownOrLacks}
use Rattle.gateway_agent.specs.Exchanges.{is_young, young_at, next_number}
use Rattle.gateway_agent.proofs.Orders.{number_more}
use Rattle.gateway_agent.specs.Passing.{GatewayState, begun, restarted, time_from, state_at, sends_of, fresh_in, Refuses, answered, silent, full_text, UpSends, GoesUp, GoesDown, Passes}
use Rattle.gateway_agent.specs.Sent.{IsPacket}
use Rattle.gateway_agent.proofs.Fresh.{fresh_of, fresh_number}
use Rattle.gateway_agent.proofs.Packets.{IsNumbered, IsNone, may_be_asked, one_number}
use Rattle.gateway_agent.proofs.Rising.{AreUp, up_more, to_last}
use Rattle.gateway_agent.proofs.Sending.{plain_none, down_replies, up_of_one}

-- ---- a state

-- what waits is kept, and the next number is above that of the last one
pub record IsSound (core : GatewayValue) (kept : List Exchange) : Type 0 where
  pub up : AreUp 0 kept
  pub next : core.exchanges.next ≡ next_number kept
  pub small : core.exchanges.next < 2 ^ 64
  pub waits : All (λ (k : Waiting). Contains kept k.exchange) core.exchanges.waiting

-- an exchange with the number is among these
pub record HasNumber (kept : List Exchange) (number : ℕ) : Type 0 where
  pub x : Exchange
  pub among : Contains kept x
  pub is : x.number ≡ number

-- what is sent is no request, or one of them
abbrev pub IsOf : List Exchange → OwnedOut → Type 0
IsOf kept (owned.To peer bytes) = (number : ℕ) → IsPacket number bytes → HasNumber kept number
IsOf kept (owned.Conn conn bytes) = ⊤
IsOf kept (owned.Close conn) = ⊤

abbrev pub AreOf : List Exchange → List OwnedOut → Type 0
AreOf kept [] = ⊤
AreOf kept (out ∷ outs) = IsOf kept out × AreOf kept outs

-- an event leads from what was kept to a state with its sends
pub record Leads (kept : List Exchange) (outs : List OwnedOut) (new : GatewayState) : Type 0 where
  pub sound : IsSound new.core new.kept
  pub are_of : AreOf new.kept outs
  pub more : List Exchange
  pub grows : new.kept ≡ kept ++ more

-- ---- it begins

pub begun_sound : (routes : List Route) (upstream room : ℕ) (kept : List Exchange) (at : ℕ) → AreUp 0 kept → next_number kept < 2 ^ 64 → IsSound (begun routes upstream room kept at).core kept
begun_sound routes upstream room kept at up small = record {
  up = up;
  next = refl;
  small = small;
  waits = All-map (λ (k : Waiting). Contains kept k.exchange) waiting_again (young_at (time_from kept at) kept) (All-filter (is_young (time_from kept at)) (Contains kept) kept (All-contains_itself kept));
}

-- ---- the time

aged : (core : GatewayValue) (kept : List Exchange) (at : ℕ) → IsSound core kept → IsSound (gateway_at at core) kept
aged core kept at is = record {
  up = is.up;
  next = is.next;
  small = is.small;
  waits = All-filter (λ (k : Waiting). not (is_over (max at core.exchanges.time) k)) (λ (k : Waiting). Contains kept k.exchange) core.exchanges.waiting is.waits;
}

-- ---- a new one

free_number : (e : ExchangesValue) → is_full e ≡ false → e.next ≡ 2 ^ 64 - 1 → ⊥
free_number e free is = eqb-false e.next (2 ^ 64 - 1) (or_parts (nat_le e.room (length e.waiting)) (e.next == 2 ^ 64 - 1) free).1 is

below_last : (n : ℕ) → n < 2 ^ 64 → (n ≡ 2 ^ 64 - 1 → ⊥) → n + 1 < 2 ^ 64
below_last n less other = omega (arith, less, other)

more_sound : (core : GatewayValue) (kept : List Exchange) (x : Exchange) (datagram : List ℕ) → IsSound core kept → x.number ≡ core.exchanges.next → is_full core.exchanges ≡ false
    → IsSound (record core { exchanges = with_one x datagram core.exchanges }) (kept ++ x ∷ [])
more_sound core kept x datagram is number free =
    let next = is.next in
    let last = number_more 0 kept x in
    record {
      up = up_more 0 kept x is.up (omega (arith, next, number));
      next = omega (arith, last, number);
      small = below_last core.exchanges.next is.small (free_number core.exchanges free);
      waits = All-push (λ (k : Waiting). Contains (kept ++ x ∷ []) k.exchange) core.exchanges.waiting (record { exchange = x; asked = Some datagram })
          (All-weaker (λ (k : Waiting). Contains kept k.exchange) (λ (k : Waiting). Contains (kept ++ x ∷ []) k.exchange)
          (λ k has. Contains-append_left kept (x ∷ []) k.exchange has) core.exchanges.waiting is.waits)
          (Contains-push kept x);
    }

-- ---- sends

kept_small : (core : GatewayValue) (kept : List Exchange) (x : Exchange) → IsSound core kept → Contains kept x → x.number < 2 ^ 64
kept_small core kept x is has =
    let last = to_last 0 kept x is.up has in
    let next = is.next in
    let small = is.small in
    omega (arith, last, next, small)

of_kept : (core : GatewayValue) (kept : List Exchange) (x : Exchange) (peer : ℕ) (bytes : List ℕ) → IsSound core kept → Contains kept x → IsNumbered x.number bytes → IsOf kept (owned.To peer bytes)
of_kept core kept x peer bytes is has numbered =
    λ number packet. record { x = x; among = has; is = one_number x.number number bytes (kept_small core kept x is has) numbered packet }

of_none : (kept : List Exchange) (peer : ℕ) (bytes : List ℕ) → IsNone bytes → IsOf kept (owned.To peer bytes)
of_none kept peer bytes none = λ number packet. absurd (none number packet)

refused_of : (kept : List Exchange) (peer : ℕ) (datagram : List ℕ) (code : ℕ) (text : List ℕ) (outs : List OwnedOut) → may_be_asked code ≡ false → Refuses peer datagram code text outs → AreOf kept outs
refused_of kept peer datagram code text outs other (answered m message spelled asks is) =
    subst (AreOf kept) (sym is) (of_none kept peer _ (plain_none code m text other), tt)
refused_of kept peer datagram code text outs other (silent none is) = subst (AreOf kept) (sym is) tt

-- ---- a datagram of a client

module _ (old new : GatewayState) (peer : ℕ) (datagram : List ℕ) (outs : List OwnedOut) (is : IsSound old.core old.kept) where
  still : new.core ≡ old.core → new.kept ≡ old.kept ++ [] → IsSound new.core new.kept
  still same kept = subst (λ (core : GatewayValue). IsSound core new.kept) (sym same) (subst (IsSound old.core) (sym (kept ∙ append-nil old.kept)) is)

  up_leads : (said : Said) → UpOrLacks old.core peer datagram said new.core → UpSends old.core.upstream peer datagram said outs → new.kept ≡ old.kept ++ fresh_in said → Leads old.kept outs new
  up_leads (Err fault.NoMemory) ups sends kept =
      record { sound = still ups.3 kept; are_of = refused_of new.kept peer datagram 0xa0 [] outs refl sends; more = []; grows = kept }
  up_leads (Err fault.TableFull) ups sends kept =
      record { sound = still ups.1 kept; are_of = refused_of new.kept peer datagram 0xa3 full_text outs refl sends; more = []; grows = kept }
  up_leads (Ok (passed.Forward bytes (Some x))) ups sends kept =
      let fresh = fresh_of old.core peer datagram bytes x ups.0 in
      let number = fresh_number old.core.exchanges peer x fresh in
      let sound = subst (λ (core : GatewayValue). IsSound core new.kept) (sym ups.1)
      (subst (IsSound (record old.core { exchanges = with_one x datagram old.core.exchanges })) (sym kept) (more_sound old.core old.kept x datagram is number fresh.free)) in
      let has = subst (λ (xs : List Exchange). Contains xs x) (sym kept) (Contains-push old.kept x) in
      let numbered = subst (λ (n : ℕ). IsNumbered n bytes) (sym number) (up_of_one old.core peer datagram (Ok (passed.Forward bytes (Some x))) ups.0) in
      record {
        sound = sound;
        are_of = subst (AreOf new.kept) (sym sends) (of_kept new.core new.kept x old.core.upstream bytes sound has numbered, tt);
        more = x ∷ [];
        grows = kept;
      }
  up_leads (Ok (passed.Forward bytes None)) ups sends kept =
      let one = up_of_one old.core peer datagram (Ok (passed.Forward bytes None)) ups.0 in
      let sound = still ups.1 kept in
      let has = All-contains (λ (k : Waiting). Contains old.kept k.exchange) old.core.exchanges.waiting one.0 is.waits one.1 in
      let there = subst (λ (xs : List Exchange). Contains xs one.0.exchange) (sym (kept ∙ append-nil old.kept)) has in
      record {
        sound = sound;
        are_of = subst (AreOf new.kept) (sym sends) (of_kept new.core new.kept one.0.exchange old.core.upstream bytes sound there one.2, tt);
        more = [];
        grows = kept;
      }
  up_leads (Ok (passed.Reply to bytes)) ups sends kept =
      record {
        sound = still ups.1 kept;
        are_of = subst (AreOf new.kept) (sym sends) (of_none new.kept to bytes (up_of_one old.core peer datagram (Ok (passed.Reply to bytes)) ups.0), tt);
        more = [];
        grows = kept;
      }
  up_leads (Ok passed.Nothing) ups sends kept = record { sound = still ups.1 kept; are_of = subst (AreOf new.kept) (sym sends) tt; more = []; grows = kept }
  up_leads (Ok passed.NoMemory) ups sends kept = record { sound = still ups.1 kept; are_of = subst (AreOf new.kept) (sym sends) tt; more = []; grows = kept }

  -- ---- a datagram of the upstream, and any other event

  same_leads : new ≡ old → AreOf new.kept outs → Leads old.kept outs new
  same_leads same are_of = record {
    sound = subst (λ (s : GatewayState). IsSound s.core s.kept) (sym same) is;
    are_of = are_of;
    more = [];
    grows = ap (λ (s : GatewayState). s.kept) same ∙ sym (append-nil old.kept);
  }

  none_leads : outs ≡ [] → new ≡ old → Leads old.kept outs new
  none_leads none same = same_leads same (subst (AreOf new.kept) (sym none) tt)

  down_leads : (said : Passed) → DownOrLacks old.core datagram said → outs ≡ sends_of old.core.upstream said → new ≡ old → Leads old.kept outs new
  down_leads (passed.Forward bytes fresh) downs sends same = absurd (down_replies old.core datagram (passed.Forward bytes fresh) downs)
  down_leads (passed.Reply to bytes) downs sends same =
      same_leads same (subst (AreOf new.kept) (sym sends) (of_none new.kept to bytes (down_replies old.core datagram (passed.Reply to bytes) downs), tt))
  down_leads passed.Nothing downs sends same = none_leads sends same
  down_leads passed.NoMemory downs sends same = none_leads sends same

datagram_leads : (old new : GatewayState) (from : ℕ) (bytes : List ℕ) (outs : List OwnedOut) (b : Bool) → IsSound old.core old.kept → MatchBool b (GoesDown old bytes outs new) (GoesUp old from bytes outs new) → Leads old.kept outs new
datagram_leads old new from bytes outs true is goes = down_leads old new from bytes outs is goes.said goes.downs goes.sends goes.same
datagram_leads old new from bytes outs false is goes = up_leads old new from bytes outs is goes.said goes.ups goes.sends goes.kept

module _ (old new : GatewayState) (at : ℕ) (outs : List OwnedOut) (is : IsSound old.core old.kept) where
  at_it : IsSound (state_at old at).core old.kept
  at_it = aged old.core old.kept at is

  ages : (outs ≡ []) × (new ≡ state_at old at) → Leads old.kept outs new
  ages passes = none_leads (state_at old at) new 0 [] outs at_it passes.0 passes.1

  restart_leads : outs ≡ [] → new ≡ restarted old at → Leads old.kept outs new
  restart_leads none same =
      let small = is.small in
      let next = is.next in
      none_leads (restarted old at) new 0 [] outs
      (begun_sound old.core.routes old.core.upstream old.core.exchanges.room old.kept at is.up (omega (arith, small, next))) none same

  pub passes_leads : (came : Event) → Passes old came at outs new → Leads old.kept outs new
  passes_leads (event.Datagram from bytes) passes = datagram_leads (state_at old at) new from bytes outs (from == old.core.upstream) at_it passes
  passes_leads (event.Opened conn from) passes = ages passes
  passes_leads (event.Piece conn bytes) passes = ages passes
  passes_leads (event.Closed conn) passes = ages passes
  passes_leads event.Tick passes = ages passes
  passes_leads event.Restart passes = restart_leads passes.0 passes.1
  passes_leads event.End passes = none_leads old new 0 [] outs is passes.0 passes.1
  passes_leads event.Failed passes = none_leads old new 0 [] outs is passes.0 passes.1
