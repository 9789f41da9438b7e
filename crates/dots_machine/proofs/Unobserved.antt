-- A step from a state in which nobody observes, on a datagram that asks nothing of it or at a tick, is decided by the event, but for want of memory.
use Rattle.std.proofs.Common.{◌≡◌, ◌⊎◌, inl, inr, ℕ, Bool, true, false, cond, List, [], ◌∷◌, ◌++◌, Option, Some, None, Result, Ok, Err, refl, sym, ap, ◌∙◌, subst, arith}
use Rattle.std.specs.Prelude.{count_by, ok_or}
use Rattle.std.proofs.lemmas.List.Sums.{sum_by-cons}
use Rattle.dots_host.specs.declared.out.OwnedOut.{OwnedOut}
use Rattle.dots_host.specs.declared.out.OwnedOut.TheVariants as owned
use Rattle.dots_host.specs.Runs.{outs_of, each_telling}
use Rattle.dots_host.proofs.RunLemmas.{outs_back}
use Rattle.coap_message.specs.Message.{CoapMessage, IsMessage, spelling}
use Rattle.coap_message.proofs.Whole.{one_message}
use Rattle.coap_observe.specs.Seen.{Lists}
use Rattle.coap_observe.specs.Observed.{ObservedValue}
use Rattle.dots_keys.specs.declared.reject.Reject.{Reject}
use Rattle.dots_keys.specs.declared.reject.Reject.TheVariants as reject
use Rattle.dots_keys.specs.declared.head_request.Content.{Content}
use Rattle.dots_keys.specs.declared.head_request.Observe.{Observe}
use Rattle.dots_keys.specs.declared.head_request.Observe.TheVariants as observe
use Rattle.dots_keys.specs.declared.head_request.MitigationPath.{MitigationPath}
use Rattle.dots_keys.specs.Heads.{Head, head_of, observe_of, refuse_critical, refuse_hop_limit, refuse_media, refuse_format, content_of}
use Rattle.dots_keys.specs.Options.{value_of, values_of, first_critical}
use Rattle.dots_keys.specs.Operations.{Operation, method_of, operation_of, put_mitigation, get_mitigation, delete_mitigation, put_config, get_config, delete_config, put_heartbeat}
use Rattle.dots_keys.specs.Results.{◌>>=◌}
use Rattle.dots_keys.specs.Paths.{Resource, resource_at}
use Rattle.dots_keys.specs.declared.operation.Method.{Method}
use Rattle.dots_settings.specs.Settings.{SettingsValue}
use Rattle.dots_settings.specs.Lookups.{role_of}
use Rattle.dots_keys.specs.declared.dismissal.Dismissal.{Dismissal}
use Rattle.dots_keys.specs.declared.dismissal.Dismissal.TheVariants as dismissal
use Rattle.dots_keys.specs.declared.exchange.Exchange.{Exchange}
use Rattle.dots_keys.specs.Exchanges.{exchange_in, dismissed}
use Rattle.dots_machine.specs.declared.watching.Watching.{Watching}
use Rattle.dots_machine.specs.declared.watching.Watching.TheVariants as watching
use Rattle.dots_machine.specs.Verdict.{Verdict}
use Rattle.dots_machine.specs.Domains.{is_gateway, domain_for}
use Rattle.dots_machine.specs.Observing.{bodies_at, asked_in, in_known, asked_of, asked_by, unless_dismissed, watching_in, Watches, by_message, unreadable, by_stranger, is_unavailable, observing}
use Rattle.dots_machine.specs.Answering.{AreBytes}
use Rattle.dots_machine.specs.Replies.{unavailable}
use Rattle.dots_machine.specs.Machine.{State, LacksMemory, after, seen_in, Notified, Answers, Ticks, beating, Decides, lapsed}
use Rattle.dots_machine.proofs.Hearing.{left, hears_observers, after_observers, hears_once}
use Rattle.dots_machine.proofs.OneAnswer.{one_verdict, says, same_replies, same_left}
use Rattle.session_core.specs.declared.contact.PeerContact.{PeerContact}
use Rattle.session_core.specs.Beats.{beats, after_beats}
use Rattle.session_core.specs.Notifying.{Notifies}

-- ---- what asks to observe

-- what is asked registers nobody
abbrev pub NoneRegistered : Watching → Type 0
NoneRegistered (watching.Registers observer) = ⊥
NoneRegistered _ = Unit {0}

-- a head says this of observation
abbrev Observes : Observe → Result Head Reject → Type 0
Observes o (Ok head) = head.observe ≡ o
Observes o (Err refusal) = Unit {0}

then_observes : {A : Type 0} (o : Observe) (r : Result A Reject) (f : A → Result Head Reject) → ((x : A) → Observes o (f x)) → Observes o (r >>= f)
then_observes o (Ok x) f each = each x
then_observes o (Err e) f each = tt

module _ (Found Asking : Type 0) (o : Observe) (options : Result (Unit {0}) Reject) (found : Result Found Reject) (methods : Found → Result Asking Reject) (hops : Result (Unit {0}) Reject)
    (operations : Found → Asking → Result Operation Reject) (media : Result (Unit {0}) Reject) (formats : Asking → Result (Unit {0}) Reject) (contents : Asking → Result Content Reject) where
  abbrev whole : Operation → Content → Result Head Reject
  whole operation content = Ok (record { operation = operation; content = content; observe = o })

  abbrev behind_format : Asking → Operation → Result Head Reject
  behind_format method operation = contents method >>= whole operation

  abbrev behind_media : Asking → Operation → Result Head Reject
  behind_media method operation = formats method >>= (λ _. behind_format method operation)

  abbrev behind_operation : Asking → Operation → Result Head Reject
  behind_operation method operation = media >>= (λ _. behind_media method operation)

  abbrev behind_hops : Found → Asking → Result Head Reject
  behind_hops resource method = operations resource method >>= behind_operation method

  abbrev behind_method : Found → Asking → Result Head Reject
  behind_method resource method = hops >>= (λ _. behind_hops resource method)

  abbrev behind_path : Found → Result Head Reject
  behind_path resource = methods resource >>= behind_method resource

  all_observe : Observes o (options >>= (λ _. found >>= behind_path))
  all_observe =
      then_observes o options (λ _. found >>= behind_path)
      (λ _. then_observes o found behind_path
      (λ resource. then_observes o (methods resource) (behind_method resource)
      (λ method. then_observes o hops (λ _. behind_hops resource method)
      (λ _. then_observes o (operations resource method) (behind_operation method)
      (λ operation. then_observes o media (λ _. behind_media method operation)
      (λ _. then_observes o (formats method) (λ _. behind_format method operation)
      (λ _. then_observes o (contents method) (whole operation)
      (λ content. refl))))))))

head_observes : (m : CoapMessage) (gateway : Bool) → Observes (observe_of (value_of 6 m.options)) (head_of m gateway)
head_observes m gateway =
    all_observe Resource Method (observe_of (value_of 6 m.options)) (refuse_critical (first_critical None m.options)) (ok_or (resource_at (values_of 11 m.options)) reject.Path)
    (λ resource. method_of resource m.code) (refuse_hop_limit (value_of 16 m.options)) (λ resource method. operation_of resource method gateway)
    (refuse_media reject.Accept (value_of 17 m.options)) (λ method. refuse_format method m.options) (λ method. content_of method (values_of 15 m.options))

module _ (settings : SettingsValue) (peer : ℕ) (x : Exchange) where
  said_nothing : (content : Content) (path : MitigationPath) (said : Observe) (domain : ℕ) → said ≡ observe.No → NoneRegistered (asked_in peer x content path said domain)
  said_nothing content path said domain is = subst (λ said. NoneRegistered (asked_in peer x content path said domain)) (sym is) tt

  known_nothing : (content : Content) (path : MitigationPath) (said : Observe) (found : Option ℕ) → said ≡ observe.No → NoneRegistered (in_known found (asked_in peer x content path said))
  known_nothing content path said None is = tt
  known_nothing content path said (Some domain) is = said_nothing content path said domain is

  asked_nothing : (content : Content) (said : Observe) (operation : Operation) → said ≡ observe.No → NoneRegistered (asked_of settings peer x content said operation)
  asked_nothing content said (put_mitigation path) is = tt
  asked_nothing content said (get_mitigation path) is = known_nothing content path said (domain_for settings (role_of settings peer) path.cdid) is
  asked_nothing content said (delete_mitigation path) is = tt
  asked_nothing content said (put_config sid) is = tt
  asked_nothing content said (get_config sid) is = tt
  asked_nothing content said (delete_config sid) is = tt
  asked_nothing content said put_heartbeat is = tt

  head_nothing : (head : Result Head Reject) → Observes observe.No head → NoneRegistered (asked_by settings peer x head)
  head_nothing (Ok head) is = asked_nothing head.content head.observe head.operation is
  head_nothing (Err refusal) is = tt

dismissed_nothing : (d : Option Dismissal) (asked : Watching) → NoneRegistered asked → NoneRegistered (unless_dismissed d asked)
dismissed_nothing None asked none = none
dismissed_nothing (Some dismissal.Ignored) asked none = tt
dismissed_nothing (Some (dismissal.Reset id)) asked none = tt
dismissed_nothing (Some (dismissal.Rejected id)) asked none = tt

message_nothing : (settings : SettingsValue) (peer : ℕ) (m : CoapMessage) → value_of 6 m.options ≡ None → NoneRegistered (watching_in settings peer m)
message_nothing settings peer m none =
    dismissed_nothing (dismissed m) (asked_by settings peer (exchange_in m) (head_of m (is_gateway (role_of settings peer))))
    (head_nothing settings peer (exchange_in m) (head_of m (is_gateway (role_of settings peer)))
    (subst (λ value. Observes (observe_of value) (head_of m (is_gateway (role_of settings peer)))) none (head_observes m (is_gateway (role_of settings peer)))))

-- whatever of observation these bytes of a peer ask, they register nobody
abbrev pub RegistersNobody : SettingsValue → ℕ → List ℕ → Type 0
RegistersNobody settings peer bytes = (asked : Watching) → Watches settings peer bytes asked → NoneRegistered asked

module _ (settings : SettingsValue) (peer : ℕ) (message : CoapMessage) (is : IsMessage message) where
  pub by_watching : NoneRegistered (watching_in settings peer message) → RegistersNobody settings peer (spelling message)
  by_watching none asked (by_message known m also s e) =
      subst NoneRegistered (sym e) (subst (λ (n : CoapMessage). NoneRegistered (watching_in settings peer n)) (one_message message m is also s) none)
  by_watching none asked (unreadable fault breaks e) = subst NoneRegistered (sym e) tt
  by_watching none asked (by_stranger unknown e) = subst NoneRegistered (sym e) tt

  -- a message without Observe
  pub without_observe : value_of 6 message.options ≡ None → RegistersNobody settings peer (spelling message)
  without_observe none = by_watching (message_nothing settings peer message none)

-- ---- nobody observes

abbrev nobody : List ObservedValue
nobody = []

either_way : (b : Bool) → cond b nobody nobody ≡ nobody
either_way true = refl
either_way false = refl

none_left : (settings : SettingsValue) (lists : Lists) (peer : ℕ) (asked : Watching) (decided : Verdict) (replies : List OwnedOut) (observed : List ObservedValue) → NoneRegistered asked → observed ≡ []
    → observing settings lists peer asked decided replies observed ≡ []
none_left settings lists peer asked decided replies observed none is = subst (λ os. observing settings lists peer asked decided replies os ≡ []) (sym is) (by_asked asked none)
  where
    by_asked : (asked : Watching) → NoneRegistered asked → observing settings lists peer asked decided replies [] ≡ []
    by_asked (watching.Registers observer) none = absurd none
    by_asked (watching.Cancels token) none = either_way (is_unavailable replies)
    by_asked (watching.Rejects id) none = refl
    by_asked watching.Nothing none = refl

-- nobody is told
notifies_none : (settings : SettingsValue) (state new : State) (sends : List OwnedOut) → state.observers ≡ [] → Notified settings state sends new → (sends ≡ []) × (new ≡ state) × (new.observers ≡ [])
notifies_none settings state new sends none n = (
  told.0,
  n.3 ∙ ap (λ os. after_notices os n.1) (told.1 ∙ sym none) ∙ ap (λ contacts. after_notices state.observers contacts) told.2,
  ap (λ (s : State). s.observers) n.3 ∙ told.1,
)
  where
    after_notices : List ObservedValue → List PeerContact → State
    after_notices observers contacts = record state { observers = observers; contacts = contacts }

    told : (sends ≡ []) × (n.0 ≡ []) × (n.1 ≡ state.contacts)
    told = subst (λ os. Notifies (seen_in settings state) (bodies_at settings state.time state.history) os state.contacts sends n.0 n.1) none n.2

-- what is counted among sends is each 5.00, at least
abbrev pub IsUnavailable : (OwnedOut → Bool) → Type 0
IsUnavailable lacks = (peer : ℕ) (x : Exchange) → lacks (owned.To peer (unavailable x)) ≡ true

counted : (lacks : OwnedOut → Bool) → IsUnavailable lacks → (x : CoapMessage) (peer : ℕ) (sends notices : List OwnedOut) → sends ≡ owned.To peer (unavailable (exchange_in x)) ∷ notices
    → count_by lacks sends ≡ 0 → ⊥
counted lacks are x peer sends notices is none =
    let all = subst (λ sends. count_by lacks sends ≡ 0) is none in
    let first = sum_by-cons (λ out. cond (lacks out) 1 0) (owned.To peer (unavailable (exchange_in x))) notices in
    let unit : ℕ = 1 in
    let one : cond (lacks (owned.To peer (unavailable (exchange_in x)))) unit 0 ≡ unit = ap (λ (b : Bool). cond b unit 0) (are peer (exchange_in x)) in
    absurd (omega (arith, all, first, one))

module _ (settings : SettingsValue) (state : State) (peer : ℕ) (bytes : List ℕ) (are : AreBytes bytes) (quiet : RegistersNobody settings peer bytes) (none : state.observers ≡ []) where
  left_none : (sends : List OwnedOut) (new : State) (a : Answers settings state peer bytes sends new) → (left settings state peer bytes sends new a).observers ≡ []
  left_none sends new a =
      none_left settings (seen_in settings (after a.decided a.met)) peer a.asked a.decided a.replies (after a.decided a.met).observers (quiet a.asked a.watches)
      (after_observers a.decided a.met ∙ hears_observers settings peer bytes state a.met a.hears ∙ none)

  pub answered_none : (sends : List OwnedOut) (new : State) (a : Answers settings state peer bytes sends new) → (a.notices ≡ []) × (new ≡ left settings state peer bytes sends new a) × (new.observers ≡ [])
  answered_none sends new a = notifies_none settings (left settings state peer bytes sends new a) new a.notices (left_none sends new a) a.notified

  pub answered_one : (lacks : OwnedOut → Bool) → IsUnavailable lacks → (sends others : List OwnedOut) (new last : State) → Answers settings state peer bytes sends new
      → Answers settings state peer bytes others last → count_by lacks sends ≡ 0 → count_by lacks others ≡ 0 → (sends ≡ others) × (new ≡ last)
  answered_one lacks unavailable_are sends others new last a b nought nil =
      by_verdicts (one_verdict settings b.met peer bytes are a.decided b.decided
      (subst (λ met. Decides settings met peer bytes a.decided) (hears_once settings peer bytes state a.met b.met a.hears b.hears) a.decides) b.decides)
    where
      by_verdicts : (a.decided ≡ b.decided) ⊎ (LacksMemory bytes (is_gateway (role_of settings peer)) a.decided ⊎ LacksMemory bytes (is_gateway (role_of settings peer)) b.decided)
          → (sends ≡ others) × (new ≡ last)
      by_verdicts (inl same) =
          let one = answered_none sends new a in
          let another = answered_none others last b in (
            a.sends_are ∙ ap (λ notices. a.replies ++ notices) one.0 ∙ ap (λ replies. replies ++ []) (same_replies settings state peer bytes are sends others new last a b same)
                ∙ sym (b.sends_are ∙ ap (λ notices. b.replies ++ notices) another.0),
            one.1 ∙ same_left settings state peer bytes are sends others new last a b same ∙ sym another.1,
          )
      by_verdicts (inr (inl lacking)) =
          let s = says settings state peer bytes are sends new a lacking in absurd (counted lacks unavailable_are s.message peer sends s.notices s.sent nought)
      by_verdicts (inr (inr lacking)) =
          let s = says settings state peer bytes are others last b lacking in absurd (counted lacks unavailable_are s.message peer others s.notices s.sent nil)

pub ticked_none : (settings : SettingsValue) (state new : State) (sends : List OwnedOut) → state.observers ≡ [] → Ticks settings state sends new
    → (sends ≡ beats (beating settings (lapsed settings state)) state.time (lapsed settings state).contacts)
    × (new ≡ record (lapsed settings state) { contacts = after_beats (beating settings (lapsed settings state)) state.time (lapsed settings state).contacts }) × (new.observers ≡ [])
ticked_none settings state new sends none t =
    let told = notifies_none settings (lapsed settings state) t.between t.notices none t.notified in (
      t.sends_are ∙ ap (λ notices. notices ++ t.heartbeats) told.0 ∙ t.beaten.0 ∙ ap (λ (s : State). beats (beating settings s) s.time s.contacts) told.1,
      t.beaten.1 ∙ ap beaten told.1,
      ap (λ (s : State). s.observers) t.beaten.1 ∙ told.2,
    )
  where
    beaten : State → State
    beaten s = record s { contacts = after_beats (beating settings s) s.time s.contacts }

pub outs_are : (owed : List (State × OwnedOut)) (new : State) (sends : List OwnedOut) → owed ≡ each_telling new sends → outs_of owed ≡ sends
outs_are owed new sends is = ap outs_of is ∙ outs_back new sends

-- the same sends of one turn, and the same state
pub turn_one : (owed others : List (State × OwnedOut)) (new last : State) (sends also : List OwnedOut) → owed ≡ each_telling new sends → others ≡ each_telling last also → (sends ≡ also) × (new ≡ last)
    → (owed ≡ others) × (new ≡ last)
turn_one owed others new last sends also is at same = (is ∙ ap (each_telling new) same.0 ∙ ap (λ s. each_telling s also) same.1 ∙ sym at, same.1)

pub rests : (owed others : List (State × OwnedOut)) (new last from : State) → (owed ≡ []) × (new ≡ from) → (others ≡ []) × (last ≡ from) → (owed ≡ others) × (new ≡ last)
rests owed others new last from a b = (a.0 ∙ sym b.0, a.1 ∙ sym b.1)
