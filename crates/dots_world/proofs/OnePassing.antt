-- What comes decides what the gateway passes on, but for want of memory.
use Rattle.std.specs.Bool.{MatchBool}
use Rattle.std.proofs.Common.{◌≡◌, ◌≢◌, ℕ, ◌==◌, Bool, true, false, List, [], ◌∷◌, ◌++◌, Ok, Err, refl, sym, ap, ◌∙◌, subst}
use Rattle.std.proofs.lemmas.Option.{same_Some, none-some}
use Rattle.coap_message.specs.Message.{CoapMessage}
use Rattle.coap_message.proofs.Whole.{one_message}
use Rattle.dots_keys.specs.Exchanges.{exchange_in}
use Rattle.dots_keys.specs.Replies.{plain}
use Rattle.dots_host.specs.declared.event.Event.{Event}
use Rattle.dots_host.specs.declared.event.Event.TheVariants as event
use Rattle.dots_host.specs.declared.out.OwnedOut.{OwnedOut}
use Rattle.dots_host.specs.declared.out.OwnedOut.TheVariants as owned
use Rattle.dots_gateway.specs.declared.exchange.Exchange.{Exchange}
use Rattle.dots_gateway.specs.declared.passed.Passed.{Passed}
use Rattle.dots_gateway.specs.declared.passed.Passed.TheVariants as passed
use Rattle.dots_gateway.specs.declared.passed.GatewayFault.TheVariants as fault
use Rattle.dots_gateway.specs.Gateway.{GatewayValue, Said, Ups, of_no_client, unreadable, asking, asked_said, after, IsBeat, beat_answer, response_said, Downs, no_message, beating, answering, UpOrLacks, DownOrLacks}
use Rattle.gateway_agent.specs.Passing.{GatewayState, Refuses, answered, silent, UpSends, sends_of, fresh_in, GoesUp, GoesDown, Passes, state_at}
use Rattle.gateway_agent.specs.PassingWell.{GoesUpWell, GoesDownWell, PassesWell}

-- ---- what is said

module _ (g : GatewayValue) (peer : ℕ) (datagram : List ℕ) where
  one_up : (said other : Said) → Ups g peer datagram said → Ups g peer datagram other → said ≡ other
  one_up said other (of_no_client none is) (of_no_client also at) = is ∙ sym at
  one_up said other (of_no_client none is) (unreadable domain some never at) = absurd (none-some domain (sym none ∙ some))
  one_up said other (of_no_client none is) (asking domain m some message spelled at) = absurd (none-some domain (sym none ∙ some))
  one_up said other (unreadable domain some never is) (of_no_client none at) = absurd (none-some domain (sym none ∙ some))
  one_up said other (unreadable domain some never is) (unreadable name too still at) = is ∙ sym at
  one_up said other (unreadable domain some never is) (asking name m too message spelled at) = absurd (never m message spelled)
  one_up said other (asking domain m some message spelled is) (of_no_client none at) = absurd (none-some domain (sym none ∙ some))
  one_up said other (asking domain m some message spelled is) (unreadable name too never at) = absurd (never m message spelled)
  one_up said other (asking domain m some message spelled is) (asking name n too also written at) =
      is ∙ ap (λ d. asked_said g.exchanges peer d datagram m) (same_Some domain name (sym some ∙ too))
      ∙ ap (λ (k : CoapMessage). asked_said g.exchanges peer name datagram k) (one_message m n message also (sym spelled ∙ written)) ∙ sym at

  one_refusal : (code : ℕ) (text : List ℕ) (outs others : List OwnedOut) → Refuses peer datagram code text outs → Refuses peer datagram code text others → outs ≡ others
  one_refusal code text outs others (answered m message spelled asks is) (answered n also written too at) =
      is ∙ ap (λ (k : CoapMessage). owned.To peer (plain code (exchange_in k) text) ∷ []) (one_message m n message also (sym spelled ∙ written)) ∙ sym at
  one_refusal code text outs others (answered m message spelled asks is) (silent never at) = absurd (never m message spelled asks)
  one_refusal code text outs others (silent never is) (answered m message spelled asks at) = absurd (never m message spelled asks)
  one_refusal code text outs others (silent never is) (silent still at) = is ∙ sym at

  -- what is said without want of memory is what the rules say
  ups : (said : Said) (new : GatewayValue) → said ≢ Err fault.NoMemory → UpOrLacks g peer datagram said new → Ups g peer datagram said × (new ≡ after g datagram said)
  ups (Err fault.NoMemory) new well u = absurd (well refl)
  ups (Err fault.TableFull) new well u = u
  ups (Ok said) new well u = u

  one_sent : (upstream : ℕ) (said : Said) (outs others : List OwnedOut) → said ≢ Err fault.NoMemory → UpSends upstream peer datagram said outs → UpSends upstream peer datagram said others → outs ≡ others
  one_sent upstream (Err fault.NoMemory) outs others well a b = absurd (well refl)
  one_sent upstream (Err fault.TableFull) outs others well a b = one_refusal _ _ outs others a b
  one_sent upstream (Ok said) outs others well a b = a ∙ sym b

module _ (g : GatewayValue) (datagram : List ℕ) where
  one_down : (said other : Passed) → Downs g datagram said → Downs g datagram other → said ≡ other
  one_down said other (no_message never is) (no_message still at) = is ∙ sym at
  one_down said other (no_message never is) (beating m message spelled beat at) = absurd (never m message spelled)
  one_down said other (no_message never is) (answering m message spelled none at) = absurd (never m message spelled)
  one_down said other (beating m message spelled beat is) (no_message never at) = absurd (never m message spelled)
  one_down said other (beating m message spelled beat is) (beating n also written too at) =
      is ∙ ap (λ (k : CoapMessage). passed.Reply g.upstream (beat_answer k)) (one_message m n message also (sym spelled ∙ written)) ∙ sym at
  one_down said other (beating m message spelled beat is) (answering n also written none at) =
      absurd (none (subst IsBeat (one_message m n message also (sym spelled ∙ written)) beat))
  one_down said other (answering m message spelled none is) (no_message never at) = absurd (never m message spelled)
  one_down said other (answering m message spelled none is) (beating n also written beat at) =
      absurd (none (subst IsBeat (one_message n m also message (sym written ∙ spelled)) beat))
  one_down said other (answering m message spelled none is) (answering n also written nor at) =
      is ∙ ap (λ (k : CoapMessage). response_said g.exchanges k) (one_message m n message also (sym spelled ∙ written)) ∙ sym at

  downs : (said : Passed) → said ≢ passed.NoMemory → DownOrLacks g datagram said → Downs g datagram said
  downs passed.NoMemory well d = absurd (well refl)
  downs passed.Nothing well d = d
  downs (passed.Reply to bytes) well d = d
  downs (passed.Forward bytes fresh) well d = d

-- ---- what is sent, and what it leaves

same_state : (one other : GatewayState) → one.core ≡ other.core → one.kept ≡ other.kept → one ≡ other
same_state one other core kept = ap (λ c. with_parts c one.kept) core ∙ ap (with_parts other.core) kept
  where
    with_parts : GatewayValue → List Exchange → GatewayState
    with_parts core kept = record { core = core; kept = kept }

goes_up : (old : GatewayState) (peer : ℕ) (datagram : List ℕ) (outs others : List OwnedOut) (new last : GatewayState) → GoesUpWell old peer datagram outs new → GoesUpWell old peer datagram others last
    → (outs ≡ others) × (new ≡ last)
goes_up old peer datagram outs others new last (a, well) (b, fine) =
    let x = ups old.core peer datagram a.said new.core well a.ups in
    let y = ups old.core peer datagram b.said last.core fine b.ups in
    let same : a.said ≡ b.said = one_up old.core peer datagram a.said b.said x.0 y.0 in (
      one_sent old.core peer datagram old.core.upstream b.said outs others fine (subst (λ said. UpSends old.core.upstream peer datagram said outs) same a.sends) b.sends,
      same_state new last (x.1 ∙ ap (after old.core datagram) same ∙ sym y.1) (a.kept ∙ ap (λ said. old.kept ++ fresh_in said) same ∙ sym b.kept),
    )

goes_down : (old : GatewayState) (datagram : List ℕ) (outs others : List OwnedOut) (new last : GatewayState) → GoesDownWell old datagram outs new → GoesDownWell old datagram others last
    → (outs ≡ others) × (new ≡ last)
goes_down old datagram outs others new last (a, well) (b, fine) =
    let same : a.said ≡ b.said = one_down old.core datagram a.said b.said (downs old.core datagram a.said well a.downs) (downs old.core datagram b.said fine b.downs) in
    (a.sends ∙ ap (sends_of old.core.upstream) same ∙ sym b.sends, a.same ∙ sym b.same)

both : (outs others : List OwnedOut) (new last from : GatewayState) → (outs ≡ []) × (new ≡ from) → (others ≡ []) × (last ≡ from) → (outs ≡ others) × (new ≡ last)
both outs others new last from a b = (a.0 ∙ sym b.0, a.1 ∙ sym b.1)

module _ (old : GatewayState) (at : ℕ) (outs others : List OwnedOut) (new last : GatewayState) where
  pub one_passing : (came : Event) → PassesWell old came at outs new → PassesWell old came at others last → (outs ≡ others) × (new ≡ last)
  one_passing (event.Datagram from bytes) a b = by (from == old.core.upstream) a b
    where
      by : (up : Bool) → MatchBool up (GoesDownWell (state_at old at) bytes outs new) (GoesUpWell (state_at old at) from bytes outs new)
          → MatchBool up (GoesDownWell (state_at old at) bytes others last) (GoesUpWell (state_at old at) from bytes others last) → (outs ≡ others) × (new ≡ last)
      by true a b = goes_down (state_at old at) bytes outs others new last a b
      by false a b = goes_up (state_at old at) from bytes outs others new last a b
  one_passing event.Restart a b = both outs others new last _ a b
  one_passing event.End a b = both outs others new last _ a b
  one_passing event.Failed a b = both outs others new last _ a b
  one_passing event.Tick a b = both outs others new last _ a b
  one_passing (event.Opened conn peer) a b = both outs others new last _ a b
  one_passing (event.Closed conn) a b = both outs others new last _ a b
  one_passing (event.Piece conn piece) a b = both outs others new last _ a b

-- it is one as any
module _ (old : GatewayState) (at : ℕ) (outs : List OwnedOut) (new : GatewayState) where
  pub passing_well : (came : Event) → PassesWell old came at outs new → Passes old came at outs new
  passing_well (event.Datagram from bytes) a = by (from == old.core.upstream) a
    where
      by : (up : Bool) → MatchBool up (GoesDownWell (state_at old at) bytes outs new) (GoesUpWell (state_at old at) from bytes outs new)
          → MatchBool up (GoesDown (state_at old at) bytes outs new) (GoesUp (state_at old at) from bytes outs new)
      by true a = a.0
      by false a = a.0
  passing_well event.Restart a = a
  passing_well event.End a = a
  passing_well event.Failed a = a
  passing_well event.Tick a = a
  passing_well (event.Opened conn peer) a = a
  passing_well (event.Closed conn) a = a
  passing_well (event.Piece conn piece) a = a
