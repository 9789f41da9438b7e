-- To be heard changes no time, and adds to the history at most that a signal is back; and a datagram leaves one state heard.
use Rattle.std.proofs.Common.{◌≡◌, ◌⊎◌, inl, inr, ℕ, Bool, true, false, List, [], ◌∷◌, ◌++◌, refl, sym, ap, ◌∙◌, subst}
use Rattle.std.proofs.lemmas.Bool.{false≢true}
use Rattle.coap_message.proofs.Faults.{breaks_no_message}
use Rattle.dots_settings.specs.Settings.{SettingsValue}
use Rattle.dots_settings.specs.Lookups.{role_of}
use Rattle.dots_keys.specs.declared.request.Request.{Request}
use Rattle.dots_keys.specs.declared.exchange.Exchange.{Exchange}
use Rattle.dots_machine.specs.declared.received.Received.TheVariants as received
use Rattle.dots_machine.specs.Requests.{IsReceived, unread, asks_nothing, meant}
use Rattle.dots_machine.specs.Verdict.{Verdict}
use Rattle.dots_machine.specs.declared.verdict.Verdict.TheVariants as verdict
use Rattle.dots_machine.specs.Domains.{is_stranger}
use Rattle.dots_host.specs.declared.out.OwnedOut.{OwnedOut}
use Rattle.session_core.specs.Notifying.{Apart}
use Rattle.dots_machine.proofs.Observing.{notified_history, notified_time, notified_apart, watched_apart}
use Rattle.dots_machine.specs.Signals.{back_of}
use Rattle.dots_machine.specs.Machine.{State, watched, Answers, Ticks, lapsed, hearing, Hears, by_message, unreadable, by_stranger, after}

module _ (settings : SettingsValue) (peer : ℕ) (datagram : List ℕ) where
  -- what it adds to the history: nothing, or that a signal is back
  pub hears_adds : (state met : State) → Hears settings state peer datagram met
      → (met.history ≡ state.history) ⊎ (met.history ≡ state.history ++ back_of settings state.time state.history peer)
  hears_adds state met (by_message known m is spelled e) = inr (ap (λ (state : State). state.history) e)
  hears_adds state met (unreadable fault breaks e) = inl (ap (λ (state : State). state.history) e)
  hears_adds state met (by_stranger unknown e) = inl (ap (λ (state : State). state.history) e)

  pub hears_lines : (state met : State) → Hears settings state peer datagram met → met.lines ≡ state.lines
  hears_lines state met (by_message known m is spelled e) = ap (λ (state : State). state.lines) e
  hears_lines state met (unreadable fault breaks e) = ap (λ (state : State). state.lines) e
  hears_lines state met (by_stranger unknown e) = ap (λ (state : State). state.lines) e

  pub hears_observers : (state met : State) → Hears settings state peer datagram met → met.observers ≡ state.observers
  hears_observers state met (by_message known m is spelled e) = ap (λ (state : State). state.observers) e
  hears_observers state met (unreadable fault breaks e) = ap (λ (state : State). state.observers) e
  hears_observers state met (by_stranger unknown e) = ap (λ (state : State). state.observers) e

  pub hears_time : (state met : State) → Hears settings state peer datagram met → met.time ≡ state.time
  hears_time state met (by_message known m is spelled e) = ap (λ (state : State). state.time) e
  hears_time state met (unreadable fault breaks e) = ap (λ (state : State). state.time) e
  hears_time state met (by_stranger unknown e) = ap (λ (state : State). state.time) e

  known_or_not : {A : Type 0} → is_stranger (role_of settings peer) ≡ false → is_stranger (role_of settings peer) ≡ true → A
  known_or_not known unknown = absurd (false≢true (sym known ∙ unknown))

  pub hears_once : (state met other : State) → Hears settings state peer datagram met → Hears settings state peer datagram other → met ≡ other
  hears_once state met other (by_message known m is spelled e) (by_message k n also s f) = e ∙ sym f
  hears_once state met other (by_message known m is spelled e) (unreadable fault breaks f) = absurd (breaks_no_message datagram fault m breaks is spelled)
  hears_once state met other (by_message known m is spelled e) (by_stranger unknown f) = known_or_not known unknown
  hears_once state met other (unreadable fault breaks e) (by_message known m is spelled f) = absurd (breaks_no_message datagram fault m breaks is spelled)
  hears_once state met other (unreadable fault breaks e) (unreadable g b f) = e ∙ sym f
  hears_once state met other (unreadable fault breaks e) (by_stranger unknown f) = e ∙ sym f
  hears_once state met other (by_stranger unknown e) (by_message known m is spelled f) = known_or_not known unknown
  hears_once state met other (by_stranger unknown e) (unreadable g b f) = e ∙ sym f
  hears_once state met other (by_stranger unknown e) (by_stranger u f) = e ∙ sym f

  -- it is heard in any state
  pub hears_too : (state other met : State) → Hears settings state peer datagram met → (last : State) × Hears settings other peer datagram last
  hears_too state other met (by_message known m is spelled e) = (hearing settings peer other, by_message known m is spelled refl)
  hears_too state other met (unreadable fault breaks e) = (other, unreadable fault breaks refl)
  hears_too state other met (by_stranger unknown e) = (other, by_stranger unknown refl)

  -- who asks something is heard
  pub asked_is_heard : (gateway : Bool) (x : Exchange) (r : Request) (state met : State) → is_stranger (role_of settings peer) ≡ false → IsReceived datagram gateway (received.Asked x r)
      → Hears settings state peer datagram met → met ≡ hearing settings peer state
  asked_is_heard gateway x r state met known got (by_message k m is spelled e) = e
  asked_is_heard gateway x r state met known got (by_stranger unknown e) = known_or_not known unknown
  asked_is_heard gateway x r state met known (unread fault b e) (unreadable f breaks same) = absurd (cc e)
  asked_is_heard gateway x r state met known (asks_nothing m answer is spelled dismissed e) (unreadable f breaks same) = absurd (cc e)
  asked_is_heard gateway x r state met known (meant m answer is spelled dismissed means e) (unreadable f breaks same) = absurd (breaks_no_message datagram f m breaks is spelled)

-- ---- what a verdict makes of states with one history, or one time
pub same_history_after : (v : Verdict) (a b : State) → a.history ≡ b.history → (after v a).history ≡ (after v b).history
same_history_after verdict.Silent a b same = same
same_history_after (verdict.Reply reply) a b same = same
same_history_after (verdict.LongReply reply) a b same = same
same_history_after (verdict.Retrieves x body) a b same = same
same_history_after (verdict.Accept reply entry) a b same = ap (λ es. es ++ entry ∷ []) same

pub same_time_after : (v : Verdict) (a b : State) → a.time ≡ b.time → (after v a).time ≡ (after v b).time
same_time_after verdict.Silent a b same = same
same_time_after (verdict.Reply reply) a b same = same
same_time_after (verdict.LongReply reply) a b same = same
same_time_after (verdict.Retrieves x body) a b same = same
same_time_after (verdict.Accept reply entry) a b same = same

-- a verdict moves no time
pub after_time : (v : Verdict) (state : State) → (after v state).time ≡ state.time
after_time verdict.Silent state = refl
after_time (verdict.Reply reply) state = refl
after_time (verdict.LongReply reply) state = refl
after_time (verdict.Retrieves y body) state = refl
after_time (verdict.Accept reply entry) state = refl

-- a verdict changes no observer
pub after_observers : (v : Verdict) (state : State) → (after v state).observers ≡ state.observers
after_observers verdict.Silent state = refl
after_observers (verdict.Reply reply) state = refl
after_observers (verdict.LongReply reply) state = refl
after_observers (verdict.Retrieves x body) state = refl
after_observers (verdict.Accept reply entry) state = refl

-- ---- what an answer leaves
module _ (settings : SettingsValue) (state : State) (peer : ℕ) (datagram : List ℕ) (sends : List OwnedOut) (new : State) (a : Answers settings state peer datagram sends new) where
  abbrev pub left : State
  left = watched settings peer a.asked a.decided a.replies (after a.decided a.met)

  pub answer_history : new.history ≡ (after a.decided a.met).history
  answer_history = notified_history settings left new a.notices a.notified

  pub answer_time : new.time ≡ (after a.decided state).time
  answer_time = notified_time settings left new a.notices a.notified ∙ same_time_after a.decided a.met state (hears_time settings peer datagram state a.met a.hears)

  pub left_apart : Apart state.observers → Apart left.observers
  left_apart apart =
      watched_apart settings peer a.asked a.decided a.replies (after a.decided a.met)
      (subst Apart (sym (after_observers a.decided a.met ∙ hears_observers settings peer datagram state a.met a.hears)) apart)

-- ---- what a tick leaves
module _ (settings : SettingsValue) (state : State) (sends : List OwnedOut) (new : State) (t : Ticks settings state sends new) where
  pub tick_history : new.history ≡ (lapsed settings state).history
  tick_history = ap (λ (s : State). s.history) t.beaten.1 ∙ notified_history settings (lapsed settings state) t.between t.notices t.notified

  pub tick_time : new.time ≡ state.time
  tick_time = ap (λ (s : State). s.time) t.beaten.1 ∙ notified_time settings (lapsed settings state) t.between t.notices t.notified

  pub tick_apart : Apart state.observers → Apart new.observers
  tick_apart apart = subst Apart (sym (ap (λ (s : State). s.observers) t.beaten.1)) (notified_apart settings (lapsed settings state) t.between t.notices apart t.notified)
