-- What is asked of observation is one thing, and to be told changes neither the history nor the time.
use Rattle.std.proofs.Common.{◌≡◌, ℕ, ◌==◌, Bool, true, false, cond, List, [], ◌∷◌, ◌++◌, map, Option, Some, None, Result, Ok, Err, refl, sym, ap, ◌∙◌, subst, inl, inr, is_some}
use Rattle.std.specs.Prelude.{filter_map}
use Rattle.std.proofs.lemmas.Bool.{false≢true}
use Rattle.dots_host.specs.declared.out.OwnedOut.{OwnedOut}
use Rattle.dots_host.specs.declared.out.OwnedOut.TheVariants as owned
use Rattle.coap_message.proofs.Whole.{one_message}
use Rattle.coap_message.proofs.Faults.{breaks_no_message}
use Rattle.coap_observe.specs.Seen.{Lists, list_for}
use Rattle.coap_observe.specs.Observed.{ObservedValue}
use Rattle.coap_observe.specs.Observing.{has_room, entered, registered, deregistered}
use Rattle.session_core.specs.declared.contact.Beat.{Beat}
use Rattle.session_core.specs.declared.contact.PeerContact.{PeerContact}
use Rattle.session_core.specs.Contacts.{numbered}
use Rattle.session_core.specs.Beating.{Beating, due_beat}
use Rattle.session_core.specs.Beats.{beat_sent, beats}
use Rattle.session_core.specs.Notices.{content_notice, gone_notice}
use Rattle.session_core.specs.Notifying.{Bodies, is_gone, notice, Notifies, Apart}
use Rattle.session_core.proofs.Fixing.{fixed}
use Rattle.session_core.proofs.Parting.{apart_entered, apart_filtered, apart_notified}
use Rattle.dots_settings.specs.Settings.{SettingsValue}
use Rattle.dots_settings.specs.Lookups.{role_of}
use Rattle.dots_keys.specs.declared.reject.Reject.{Reject}
use Rattle.dots_keys.specs.declared.head_request.Content.{Content}
use Rattle.dots_keys.specs.declared.head_request.MitigationPath.{MitigationPath}
use Rattle.dots_keys.specs.declared.head_request.Observe.{Observe}
use Rattle.dots_keys.specs.declared.head_request.Observe.TheVariants as observe
use Rattle.dots_keys.specs.Heads.{Head, head_of}
use Rattle.dots_keys.specs.Operations.{Operation, put_mitigation, get_mitigation, delete_mitigation, put_config, get_config, delete_config, put_heartbeat}
use Rattle.dots_keys.specs.declared.request.Request.{Request}
use Rattle.dots_keys.specs.declared.request.Request.TheVariants as request
use Rattle.dots_keys.specs.Meaning.{IsBody, AnswersBody, Completes, Means, put_mitigation_with, put_config_with, put_heartbeat_with}
use Rattle.dots_keys.specs.Meaning as meaning
use Rattle.dots_keys.specs.Mitigations.{mitigation_of}
use Rattle.dots_keys.specs.Configurations.{configuration_of}
use Rattle.dots_keys.specs.Heartbeats.{heartbeat_of}
use Rattle.dots_keys.specs.Results.{◌>>=◌}
use Rattle.cbor_profile.specs.Tree.{Tree}
use Rattle.dots_keys.specs.declared.dismissal.Dismissal.{Dismissal}
use Rattle.dots_keys.specs.declared.dismissal.Dismissal.TheVariants as dismissal
use Rattle.dots_keys.specs.declared.exchange.Exchange.{Exchange}
use Rattle.dots_machine.specs.declared.received.Received.{Received}
use Rattle.dots_machine.specs.declared.received.Received.TheVariants as received
use Rattle.dots_machine.specs.declared.watching.Watching.{Watching}
use Rattle.dots_machine.specs.declared.watching.Watching.TheVariants as watching
use Rattle.dots_machine.specs.Verdict.{Verdict}
use Rattle.dots_machine.specs.declared.verdict.Verdict.TheVariants as verdict
use Rattle.dots_machine.specs.Replies.{unavailable}
use Rattle.dots_machine.specs.Domains.{is_gateway, is_stranger, domain_for}
use Rattle.dots_keys.specs.Exchanges.{exchange_in}
use Rattle.dots_machine.specs.Requests.{received_as, IsReceived, unread, asks_nothing, meant}
use Rattle.dots_machine.specs.Observing.{asked_in, in_known, asked_of, asked_by, unless_dismissed, watching_in, Watches, by_message, unreadable, by_stranger, bodies_at, watching_of, code_of, is_retrieved, is_unavailable, observing}
use Rattle.dots_machine.specs.Machine.{State, seen_in, watched, Notified}

-- ---- what is asked
module _ (settings : SettingsValue) (peer : ℕ) (datagram : List ℕ) where
  known_or_not : {A : Type 0} → is_stranger (role_of settings peer) ≡ false → is_stranger (role_of settings peer) ≡ true → A
  known_or_not known unknown = absurd (false≢true (sym known ∙ unknown))

  pub watches_once : (a b : Watching) → Watches settings peer datagram a → Watches settings peer datagram b → a ≡ b
  watches_once a b (by_message known m is spelled e) (by_message k n also s f) = e ∙ ap (watching_in settings peer) (one_message m n is also (sym spelled ∙ s)) ∙ sym f
  watches_once a b (by_message known m is spelled e) (unreadable fault breaks f) = absurd (breaks_no_message datagram fault m breaks is spelled)
  watches_once a b (by_message known m is spelled e) (by_stranger unknown f) = known_or_not known unknown
  watches_once a b (unreadable fault breaks e) (by_message known m is spelled f) = absurd (breaks_no_message datagram fault m breaks is spelled)
  watches_once a b (unreadable fault breaks e) (unreadable g c f) = e ∙ sym f
  watches_once a b (unreadable fault breaks e) (by_stranger unknown f) = e ∙ sym f
  watches_once a b (by_stranger unknown e) (by_message known m is spelled f) = known_or_not known unknown
  watches_once a b (by_stranger unknown e) (unreadable g c f) = e ∙ sym f
  watches_once a b (by_stranger unknown e) (by_stranger u f) = e ∙ sym f

module _ (settings : SettingsValue) (peer : ℕ) (x : Exchange) where
  abbrev of_answer : Result Request Reject → Watching
  of_answer (Ok r) = watching_of settings peer (received.Asked x r)
  of_answer (Err e) = watching.Nothing

  -- a request that is no GET of mitigations asks nothing
  abbrev IsOther : Result Request Reject → Type 0
  IsOther (Ok (request.GetMitigation path content said)) = ⊥
  IsOther _ = Unit {0}

  other_asks : (answer : Result Request Reject) → IsOther answer → watching.Nothing ≡ of_answer answer
  other_asks (Ok (request.PutMitigation path body)) other = refl
  other_asks (Ok (request.GetMitigation path content said)) other = absurd other
  other_asks (Ok (request.DeleteMitigation path)) other = refl
  other_asks (Ok (request.PutConfig sid body)) other = refl
  other_asks (Ok (request.GetConfig sid)) other = refl
  other_asks (Ok (request.DeleteConfig sid)) other = refl
  other_asks (Ok (request.PutHeartbeat heard)) other = refl
  other_asks (Err e) other = refl

  read_is_other : {A : Type 0} (r : Result A Reject) (wrap : A → Request) → ((a : A) → IsOther (Ok (wrap a))) → IsOther (r >>= λ a. Ok (wrap a))
  read_is_other (Ok a) wrap each = each a
  read_is_other (Err e) wrap each = tt

  body_is_other : (payload : List ℕ) (read : Tree → Result Request Reject) (answer : Result Request Reject) → ((tree : Tree) → IsOther (read tree)) → AnswersBody payload read answer → IsOther answer
  body_is_other payload read answer each a = by_body a.0 a.2
    where
      by_body : (body : Result Tree Reject) → answer ≡ (body >>= read) → IsOther answer
      by_body (Ok tree) same = subst IsOther (sym same) (each tree)
      by_body (Err refusal) same = subst IsOther (sym same) tt

  completed_asks : (operation : Operation) (content : Content) (said : Observe) (payload : List ℕ) (answer : Result Request Reject) → Completes operation content said payload answer
      → asked_of settings peer x content said operation ≡ of_answer answer
  completed_asks (put_mitigation path) content said payload answer a =
      other_asks answer (body_is_other payload (put_mitigation_with path) answer (λ tree. read_is_other (mitigation_of (is_some path.cdid) tree) (request.PutMitigation path) (λ body. tt)) a)
  completed_asks (get_mitigation path) content said payload answer a = sym (ap of_answer a)
  completed_asks (delete_mitigation path) content said payload answer a = sym (ap of_answer a)
  completed_asks (put_config sid) content said payload answer a =
      other_asks answer (body_is_other payload (put_config_with sid) answer (λ tree. read_is_other (configuration_of tree) (request.PutConfig sid) (λ body. tt)) a)
  completed_asks (get_config sid) content said payload answer a = sym (ap of_answer a)
  completed_asks (delete_config sid) content said payload answer a = sym (ap of_answer a)
  completed_asks put_heartbeat content said payload answer a =
      other_asks answer (body_is_other payload put_heartbeat_with answer (λ tree. read_is_other (heartbeat_of tree) request.PutHeartbeat (λ heard. tt)) a)

  read_asks : (head : Result Head Reject) (payload : List ℕ) (answer : Result Request Reject) → meaning.ReadsAs head payload answer → asked_by settings peer x head ≡ of_answer answer
  read_asks (Ok head) payload answer a = completed_asks head.operation head.content head.observe payload answer a
  read_asks (Err refusal) payload answer a = sym (ap of_answer a)

  received_asks : (answer : Result Request Reject) → watching_of settings peer (received_as x answer) ≡ of_answer answer
  received_asks (Ok r) = refl
  received_asks (Err e) = refl

  -- 5.00 leaves the observers, whatever was asked
  module _ (lists : Lists) (y : Exchange) (observed : List ObservedValue) where
    abbrev Leaves : Watching → Type 0
    Leaves asked = observing settings lists peer asked (verdict.Reply (unavailable y)) (owned.To peer (unavailable y) ∷ []) observed ≡ observed

    said_leaves : (content : Content) (path : MitigationPath) (said : Observe) (domain : ℕ) → Leaves (asked_in peer x content path said domain)
    said_leaves content path observe.Register domain = refl
    said_leaves content path observe.Deregister domain = refl
    said_leaves content path observe.No domain = refl

    pub known_leaves : (content : Content) (path : MitigationPath) (said : Observe) (found : Option ℕ) → Leaves (in_known found (asked_in peer x content path said))
    known_leaves content path said None = refl
    known_leaves content path said (Some domain) = said_leaves content path said domain

    asked_leaves : (content : Content) (said : Observe) (operation : Operation) → Leaves (asked_of settings peer x content said operation)
    asked_leaves content said (put_mitigation path) = refl
    asked_leaves content said (get_mitigation path) = known_leaves content path said (domain_for settings (role_of settings peer) path.cdid)
    asked_leaves content said (delete_mitigation path) = refl
    asked_leaves content said (put_config sid) = refl
    asked_leaves content said (get_config sid) = refl
    asked_leaves content said (delete_config sid) = refl
    asked_leaves content said put_heartbeat = refl

    pub unavailable_leaves : (head : Result Head Reject) → Leaves (asked_by settings peer x head)
    unavailable_leaves (Ok head) = asked_leaves head.content head.observe head.operation
    unavailable_leaves (Err refusal) = refl

module _ (settings : SettingsValue) (peer : ℕ) (datagram : List ℕ) where
  dismissed_asks : (d : Dismissal) (rest : Watching) → watching_of settings peer (received.Dismissed d) ≡ unless_dismissed (Some d) rest
  dismissed_asks dismissal.Ignored rest = refl
  dismissed_asks (dismissal.Reset id) rest = refl
  dismissed_asks (dismissal.Rejected id) rest = refl

  pub received_watches : (got : Received) → is_stranger (role_of settings peer) ≡ false → IsReceived datagram (is_gateway (role_of settings peer)) got
      → Watches settings peer datagram (watching_of settings peer got)
  received_watches got known (unread fault breaks e) = unreadable fault breaks (ap (watching_of settings peer) e)
  received_watches got known (asks_nothing m answer is spelled found e) =
      let rest : Watching = asked_by settings peer (exchange_in m) (head_of m (is_gateway (role_of settings peer))) in
      by_message known m is spelled (ap (watching_of settings peer) e ∙ dismissed_asks answer rest ∙ sym (ap (λ o. unless_dismissed o rest) found))
  received_watches got known (meant m answer is spelled found means e) =
      let head : Result Head Reject = head_of m (is_gateway (role_of settings peer)) in
      by_message known m is spelled (
      ap (watching_of settings peer) e ∙ received_asks settings peer (exchange_in m) answer ∙ sym (read_asks settings peer (exchange_in m) head m.payload answer means)
      ∙ sym (ap (λ o. unless_dismissed o (asked_by settings peer (exchange_in m) head)) found)
      )

  -- what was received asks one thing
  pub asks_once : (got : Received) (asked : Watching) → is_stranger (role_of settings peer) ≡ false → IsReceived datagram (is_gateway (role_of settings peer)) got
      → Watches settings peer datagram asked → asked ≡ watching_of settings peer got
  asks_once got asked known is watches = watches_once settings peer datagram asked (watching_of settings peer got) watches (received_watches got known is)

-- ---- what notifications leave
module _ (settings : SettingsValue) where
  pub notified_history : (state new : State) (sends : List OwnedOut) → Notified settings state sends new → new.history ≡ state.history
  notified_history state new sends n = ap (λ (s : State). s.history) n.3

  pub notified_time : (state new : State) (sends : List OwnedOut) → Notified settings state sends new → new.time ≡ state.time
  notified_time state new sends n = ap (λ (s : State). s.time) n.3

  pub notified_apart : (state new : State) (sends : List OwnedOut) → Apart state.observers → Notified settings state sends new → Apart new.observers
  notified_apart state new sends apart n =
      subst (λ (s : State). Apart s.observers) (sym n.3)
      (apart_notified (seen_in settings state) (bodies_at settings state.time state.history) state.observers n.0 state.contacts n.1 sends apart n.2)

  abbrev after_notified : State → List ObservedValue → List PeerContact → State
  after_notified state observers contacts = record state { observers = observers; contacts = contacts }

  pub notified_once : (state new other : State) (sends : List OwnedOut) → Apart state.observers → Notified settings state sends new → Notified settings state sends other → new ≡ other
  notified_once state new other sends apart n m =
      let same = fixed (seen_in settings state) (bodies_at settings state.time state.history) state.observers n.0 m.0 state.contacts n.1 m.1 sends apart n.2 m.2 in
      n.3 ∙ ap (λ observers. after_notified state observers n.1) same.0 ∙ ap (λ contacts. after_notified state m.0 contacts) same.1 ∙ sym m.3

  module _ (lists : Lists) (peer : ℕ) (decided : Verdict) (replies : List OwnedOut) (observed : List ObservedValue) (apart : Apart observed) where
    apart_so : (asked : Watching) → Apart (observing settings lists peer asked decided replies observed)
    apart_so (watching.Registers observer) = by_shown (is_retrieved decided) (has_room settings.limits.observers observer observed)
      where
        by_shown : (shown room : Bool) → Apart (cond shown (cond room (entered observer (list_for lists observer) observed) observed) observed)
        by_shown true true = apart_entered observer (list_for lists observer) observed apart
        by_shown true false = apart
        by_shown false room = apart
    apart_so (watching.Cancels token) = by_reply (is_unavailable replies)
      where
        by_reply : (lacks : Bool) → Apart (cond lacks observed (deregistered peer token observed))
        by_reply true = apart
        by_reply false = apart_filtered _ observed apart
    apart_so (watching.Rejects id) = apart_filtered _ observed apart
    apart_so watching.Nothing = apart

  pub watched_apart : (peer : ℕ) (asked : Watching) (decided : Verdict) (replies : List OwnedOut) (state : State) → Apart state.observers
      → Apart (watched settings peer asked decided replies state).observers
  watched_apart peer asked decided replies state apart = apart_so (seen_in settings state) peer decided replies state.observers apart asked

  -- verdicts that both show nothing leave the same observers
  pub unshown_alike : (lists : Lists) (peer : ℕ) (replies : List OwnedOut) (observed : List ObservedValue) (v w : Verdict) (asked : Watching) → is_retrieved v ≡ is_retrieved w
      → observing settings lists peer asked v replies observed ≡ observing settings lists peer asked w replies observed
  unshown_alike lists peer replies observed v w (watching.Registers observer) same = ap (λ b. cond b (registered lists settings.limits.observers observer observed) observed) same
  unshown_alike lists peer replies observed v w (watching.Cancels token) same = refl
  unshown_alike lists peer replies observed v w (watching.Rejects id) same = refl
  unshown_alike lists peer replies observed v w watching.Nothing same = refl

-- ---- notifications and heartbeats can be told apart: these are requests
abbrev pub is_beat : OwnedOut → Bool
is_beat (owned.To peer bytes) = code_of bytes == 3
is_beat _ = false

abbrev pub NoBeats : List OwnedOut → Type 0
NoBeats [] = Unit {0}
NoBeats (out ∷ outs) = (is_beat out ≡ false) × NoBeats outs

abbrev pub AllBeats : List OwnedOut → Type 0
AllBeats [] = Unit {0}
AllBeats (out ∷ outs) = (is_beat out ≡ true) × AllBeats outs

first_is : (o p : OwnedOut) (os ps : List OwnedOut) → o ∷ os ≡ p ∷ ps → o ≡ p
first_is o p os ps e = cc e

rest_is : (o p : OwnedOut) (os ps : List OwnedOut) → o ∷ os ≡ p ∷ ps → os ≡ ps
rest_is o p os ps e = cc e

nil_not : (o : OwnedOut) (os : List OwnedOut) → [] ≡ o ∷ os → ⊥
nil_not o os e = cc e

front_beats : (xs ys : List OwnedOut) (o : OwnedOut) → AllBeats xs → is_beat o ≡ false → xs ≡ o ∷ ys → ⊥
front_beats [] ys o all differs e = nil_not o ys e
front_beats (x ∷ xs) ys o all differs e = false≢true (sym differs ∙ ap is_beat (sym (first_is x o xs ys e)) ∙ all.0)

pub border : (a b x y : List OwnedOut) → NoBeats a → NoBeats b → AllBeats x → AllBeats y → a ++ x ≡ b ++ y → (a ≡ b) × (x ≡ y)
border [] [] x y na nb bx by e = (refl, e)
border [] (o ∷ b) x y na nb bx by e = absurd (front_beats x (b ++ y) o bx nb.0 e)
border (o ∷ a) [] x y na nb bx by e = absurd (front_beats y (a ++ x) o by na.0 (sym e))
border (o ∷ a) (p ∷ b) x y na nb bx by e =
    let rest = border a b x y na.1 nb.1 bx by (rest_is o p (a ++ x) (b ++ y) e) in
    (ap (λ out. out ∷ a) (first_is o p (a ++ x) (b ++ y) e) ∙ ap (λ outs. p ∷ outs) rest.0, rest.1)

notice_no_beat : (lists : Lists) (bodies : Bodies) (id : ℕ) (o : ObservedValue) → is_beat (notice lists bodies id o) ≡ false
notice_no_beat lists bodies id o = by_gone (is_gone lists o)
  where
    by_gone : (b : Bool) → is_beat (owned.To o.observer.peer (cond b (gone_notice id o.observer.token) (content_notice id o.observer.token o.number (bodies o.observer)))) ≡ false
    by_gone true = refl
    by_gone false = refl

pub notices_no_beats : (lists : Lists) (bodies : Bodies) (old new : List ObservedValue) (contacts left : List PeerContact) (sends : List OwnedOut)
    → Notifies lists bodies old contacts sends new left → NoBeats sends
notices_no_beats lists bodies [] new contacts left sends n = subst NoBeats (sym n.0) tt
notices_no_beats lists bodies (o ∷ os) new contacts left sends (inl n) = notices_no_beats lists bodies os n.0 contacts left sends n.2
notices_no_beats lists bodies (o ∷ os) new contacts left sends (inr n) =
    subst NoBeats (sym n.5) (notice_no_beat lists bodies n.0 o, notices_no_beats lists bodies os n.2 (numbered o.observer.peer contacts) left n.1 n.7)

sent_beats : (given : List Beat) → AllBeats (map beat_sent given)
sent_beats [] = tt
sent_beats (b ∷ given) = (refl, sent_beats given)

pub all_beats : (by : Beating) (now : ℕ) (contacts : List PeerContact) → AllBeats (beats by now contacts)
all_beats by now contacts = sent_beats (filter_map (due_beat by now) contacts)
