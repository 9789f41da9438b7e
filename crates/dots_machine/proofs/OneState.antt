-- The sends of a step fix the state after it, so a list of acts fixes one state.
use Rattle.std.proofs.Common.{◌≡◌, ◌⊎◌, inl, inr, ℕ, Bool, true, false, List, [], ◌∷◌, ◌++◌, length, Option, refl, sym, ◌∙◌, ap, subst, arith}
use Rattle.std.proofs.lemmas.Bool.{false≢true}
use Rattle.dots_host.specs.declared.event.Event.{Event}
use Rattle.dots_host.specs.declared.event.Event.TheVariants as event
use Rattle.dots_host.specs.declared.out.OwnedOut.{OwnedOut}
use Rattle.dots_host.specs.declared.out.OwnedOut.TheVariants as owned
use Rattle.dots_host.specs.Acts.{WireAct, took, gave, Timed}
use Rattle.dots_host.specs.Runs.{Owing, resting, owed_in, outs_of, ToldStep, Trace}
use Rattle.dots_host.proofs.RunLemmas.{one_run, one_turn}
use Rattle.dots_settings.specs.Settings.{SettingsValue}
use Rattle.dots_settings.specs.Lookups.{role_of}
use Rattle.coap_observe.specs.Observed.{ObservedValue}
use Rattle.session_core.specs.Beats.{after_beats}
use Rattle.session_core.specs.Notifying.{Apart}
use Rattle.dots_machine.specs.declared.watching.Watching.{Watching}
use Rattle.dots_machine.specs.Observing.{bodies_at, code_of, is_retrieved, number_of}
use Rattle.dots_machine.specs.Verdict.{Verdict}
use Rattle.dots_machine.specs.declared.verdict.Verdict.TheVariants as verdict
use Rattle.dots_machine.specs.Domains.{is_gateway}
use Rattle.dots_keys.specs.Exchanges.{exchange_in}
use Rattle.dots_machine.specs.Replies.{unavailable}
use Rattle.dots_machine.specs.Machine.{State, later, Decides, by_silence, by_rules, for_want_of_memory, sends_of, after, seen_in, watched, Notified, Answers, Ticks, lapsed, beating, Opens, receiving, Step, facts_in, rules_say}
use Rattle.dots_machine.proofs.Verdicts.{valued}
use Rattle.dots_machine.proofs.Hearing.{hears_once, left, left_apart, tick_apart}
use Rattle.dots_machine.proofs.Connections.{opens_observers, opens_once}
use Rattle.dots_machine.proofs.Fronts.{takes_apart}
use Rattle.dots_machine.proofs.FrontsOnce.{takes_once}
use Rattle.dots_machine.proofs.Quiet.{sends_size, one_size}
use Rattle.dots_machine.proofs.Observing.{AllBeats, watches_once, notified_apart, notified_once, unshown_alike, border, notices_no_beats, all_beats}
use Rattle.dots_machine.proofs.OneRequest.{Same, one, first_refused, second_refused, same_received}
use Rattle.dots_machine.proofs.Outcomes.{is_success, IsRefusal, SucceedsWell, reject_refuses, succeeds}

-- a success is sent
abbrev SendsSuccess : List OwnedOut → Type 0
SendsSuccess (owned.To peer reply ∷ sends) = is_success (code_of reply) ≡ true
SendsSuccess _ = ⊥

-- something is accepted, or mitigations are shown
abbrev IsChange : Verdict → Type 0
IsChange (verdict.Accept reply entry) = Unit {0}
IsChange (verdict.Retrieves x body) = Unit {0}
IsChange _ = ⊥

refusal_sends : (number : Option ℕ) (v : Verdict) (peer : ℕ) → IsRefusal v → SendsSuccess (sends_of number v peer) → ⊥
refusal_sends number verdict.Silent peer none s = s
refusal_sends number (verdict.Reply reply) peer none s = false≢true (sym none ∙ s)
refusal_sends number (verdict.LongReply reply) peer none s = none
refusal_sends number (verdict.Retrieves x body) peer none s = none
refusal_sends number (verdict.Accept reply entry) peer none s = none

refusal_is_no_change : (v : Verdict) → IsRefusal v → IsChange v → ⊥
refusal_is_no_change verdict.Silent none a = a
refusal_is_no_change (verdict.Reply reply) none a = a
refusal_is_no_change (verdict.LongReply reply) none a = a
refusal_is_no_change (verdict.Retrieves x body) none a = none
refusal_is_no_change (verdict.Accept reply entry) none a = none

-- two lists of sends with fronts of one length
first_out : (o p : OwnedOut) (os ps : List OwnedOut) → o ∷ os ≡ p ∷ ps → o ≡ p
first_out o p os ps e = cc e

other_outs : (o p : OwnedOut) (os ps : List OwnedOut) → o ∷ os ≡ p ∷ ps → os ≡ ps
other_outs o p os ps e = cc e

fronts : (a b x y : List OwnedOut) → length a ≡ length b → a ++ x ≡ b ++ y → (a ≡ b) × (x ≡ y)
fronts [] [] x y size e = (refl, e)
fronts [] (p ∷ b) x y size e = absurd (omega (arith, size))
fronts (o ∷ a) [] x y size e = absurd (omega (arith, size))
fronts (o ∷ a) (p ∷ b) x y size e =
    let rest = fronts a b x y (omega (arith, size)) (other_outs o p (a ++ x) (b ++ y) e) in
    (ap (λ out. out ∷ a) (first_out o p (a ++ x) (b ++ y) e) ∙ ap (λ outs. p ∷ outs) rest.0, rest.1)

module _ (settings : SettingsValue) (state : State) (peer : ℕ) (datagram : List ℕ) where
  abbrev gateway : Bool
  gateway = is_gateway (role_of settings peer)

  -- who accepts or shows tells a success
  changes_well : (number : Option ℕ) (v : Verdict) → Decides settings state peer datagram v → IsChange v → SendsSuccess (sends_of number v peer)
  changes_well number v (by_silence n is) a = absurd (subst IsChange is a)
  changes_well number v (for_want_of_memory n lacks) a = absurd (subst IsChange lacks.answer a)
  changes_well number v (by_rules n got received is) a = told v a (subst (SucceedsWell settings (facts_in settings state)) (sym (valued settings state peer got v is)) (succeeds settings (facts_in settings state) peer got))
    where
      told : (v : Verdict) → IsChange v → SucceedsWell settings (facts_in settings state) v → SendsSuccess (sends_of number v peer)
      told (verdict.Accept reply entry) a well = well
      told (verdict.Retrieves x body) a well = refl
      told verdict.Silent a well = absurd a
      told (verdict.Reply reply) a well = absurd a
      told (verdict.LongReply reply) a well = absurd a

  -- who accepts or shows, and who sends the same, decide the same
  one_change : (i j : Option ℕ) (v w : Verdict) → Decides settings state peer datagram v → Decides settings state peer datagram w → sends_of i v peer ≡ sends_of j w peer → IsChange v → v ≡ w
  one_change i j v w (by_silence n is) d same a = absurd (subst IsChange is a)
  one_change i j v w (for_want_of_memory n lacks) d same a = absurd (subst IsChange lacks.answer a)
  one_change i j v w (by_rules n got received is) (by_silence m at) same a =
      absurd (subst (λ w. SendsSuccess (sends_of j w peer)) at (subst SendsSuccess same (changes_well i v (by_rules n got received is) a)))
  one_change i j v w (by_rules n got received is) (for_want_of_memory m lacks) same a =
      absurd (refusal_sends j (verdict.Reply (unavailable (exchange_in lacks.message))) peer refl
      (subst (λ w. SendsSuccess (sends_of j w peer)) lacks.answer (subst SendsSuccess same (changes_well i v (by_rules n got received is) a))))
  one_change i j v w (by_rules n got received is) (by_rules m other also at) same a = both (same_received datagram gateway got other received also)
    where
      first : v ≡ rules_say settings (facts_in settings state) peer got
      first = valued settings state peer got v is

      second : w ≡ rules_say settings (facts_in settings state) peer other
      second = valued settings state peer other w at

      both : Same got other → v ≡ w
      both (one eq) = first ∙ ap (rules_say settings (facts_in settings state) peer) eq ∙ sym second
      both (first_refused message e refused) =
          absurd (refusal_is_no_change v (subst IsRefusal (sym (first ∙ ap (rules_say settings (facts_in settings state) peer) refused)) (reject_refuses _ e)) a)
      both (second_refused message e refused) =
          absurd (refusal_sends j w peer (subst IsRefusal (sym (second ∙ ap (rules_say settings (facts_in settings state) peer) refused)) (reject_refuses _ e))
          (subst SendsSuccess same (changes_well i v (by_rules n got received is) a)))

  -- what a verdict leaves, where this was replied
  abbrev left_by : Watching → State → List OwnedOut → Verdict → State
  left_by asked met replies v = watched settings peer asked v replies (after v met)

  -- verdicts that are both no change leave the same
  no_change : (asked : Watching) (met : State) (replies : List OwnedOut) (v w : Verdict) → after v met ≡ met → after w met ≡ met → is_retrieved v ≡ false → is_retrieved w ≡ false
      → left_by asked met replies v ≡ left_by asked met replies w
  no_change asked met replies v w first second shows none =
      ap (watched settings peer asked v replies) first
      ∙ ap (λ observers. with_observers met observers) (unshown_alike settings (seen_in settings met) peer replies met.observers v w asked (shows ∙ sym none))
      ∙ sym (ap (watched settings peer asked w replies) second)
    where
      with_observers : State → List ObservedValue → State
      with_observers met observers = record met { observers = observers }

  change_or_not : (v : Verdict) (met : State) → IsChange v ⊎ ((after v met ≡ met) × (is_retrieved v ≡ false))
  change_or_not verdict.Silent met = inr (refl, refl)
  change_or_not (verdict.Reply reply) met = inr (refl, refl)
  change_or_not (verdict.LongReply reply) met = inr (refl, refl)
  change_or_not (verdict.Retrieves x body) met = inl tt
  change_or_not (verdict.Accept reply entry) met = inl tt

  -- the same replies leave the same state
  by_replies : (i j : Option ℕ) (asked : Watching) (met : State) (replies : List OwnedOut) (v w : Verdict) → Decides settings state peer datagram v → Decides settings state peer datagram w
      → sends_of i v peer ≡ sends_of j w peer → left_by asked met replies v ≡ left_by asked met replies w
  by_replies i j asked met replies v w d e same = by_change (change_or_not v met) (change_or_not w met)
    where
      by_change : IsChange v ⊎ ((after v met ≡ met) × (is_retrieved v ≡ false)) → IsChange w ⊎ ((after w met ≡ met) × (is_retrieved w ≡ false)) → left_by asked met replies v ≡ left_by asked met replies w
      by_change (inl a) other = ap (left_by asked met replies) (one_change i j v w d e same a)
      by_change (inr a) (inl b) = ap (left_by asked met replies) (sym (one_change j i w v e d (sym same) b))
      by_change (inr a) (inr b) = no_change asked met replies v w a.0 b.0 a.1 b.1

module _ (settings : SettingsValue) (state : State) (peer : ℕ) (datagram : List ℕ) where
  pub answered_once : (sends : List OwnedOut) (new last : State) → Apart state.observers → Answers settings state peer datagram sends new → Answers settings state peer datagram sends last → new ≡ last
  answered_once sends new last apart a b =
      notified_once settings (left settings state peer datagram sends last b) new last b.notices (left_apart settings state peer datagram sends last b apart)
      (subst (λ notices. Notified settings (left settings state peer datagram sends last b) notices new) split.1 (subst (λ from. Notified settings from a.notices new) same_left a.notified))
      b.notified
    where
      i : Option ℕ
      i = number_of settings a.asked a.met.observers

      j : Option ℕ
      j = number_of settings b.asked b.met.observers

      met_is : a.met ≡ b.met
      met_is = hears_once settings peer datagram state a.met b.met a.hears b.hears

      -- the one is decided where the other is
      decides_there : Decides settings b.met peer datagram a.decided
      decides_there = subst (λ met. Decides settings met peer datagram a.decided) met_is a.decides

      sizes : length a.replies ≡ length b.replies
      sizes = ap length a.replies_are ∙ sends_size i a.decided peer ∙ one_size settings b.met peer datagram a.decided b.decided decides_there b.decides ∙ sym (ap length b.replies_are ∙ sends_size j b.decided peer)

      split : (a.replies ≡ b.replies) × (a.notices ≡ b.notices)
      split = fronts a.replies b.replies a.notices b.notices sizes (sym a.sends_are ∙ b.sends_are)

      asked_is : a.asked ≡ b.asked
      asked_is = watches_once settings peer datagram a.asked b.asked a.watches b.watches

      same_left : left settings state peer datagram sends new a ≡ left settings state peer datagram sends last b
      same_left =
          ap (λ asked. left_by settings a.met peer datagram asked a.met a.replies a.decided) asked_is
          ∙ ap (λ met. left_by settings b.met peer datagram b.asked met a.replies a.decided) met_is
          ∙ ap (λ replies. left_by settings b.met peer datagram b.asked b.met replies a.decided) split.0
          ∙ by_replies settings b.met peer datagram i j b.asked b.met b.replies a.decided b.decided decides_there b.decides (sym a.replies_are ∙ split.0 ∙ b.replies_are)

ticked_once : (settings : SettingsValue) (state : State) (sends : List OwnedOut) (new last : State) → Apart state.observers → Ticks settings state sends new → Ticks settings state sends last → new ≡ last
ticked_once settings state sends new last apart a b =
    a.beaten.1 ∙ ap beaten same ∙ sym b.beaten.1
  where
    beaten : State → State
    beaten told = record told { contacts = after_beats (beating settings told) told.time told.contacts }

    before : State
    before = lapsed settings state

    split : (a.notices ≡ b.notices) × (a.heartbeats ≡ b.heartbeats)
    split =
        border a.notices b.notices a.heartbeats b.heartbeats
        (notices_no_beats (seen_in settings before) (bodies_at settings before.time before.history) before.observers a.notified.0 before.contacts a.notified.1 a.notices a.notified.2)
        (notices_no_beats (seen_in settings before) (bodies_at settings before.time before.history) before.observers b.notified.0 before.contacts b.notified.1 b.notices b.notified.2)
        (subst AllBeats (sym a.beaten.0) (all_beats (beating settings a.between) a.between.time a.between.contacts))
        (subst AllBeats (sym b.beaten.0) (all_beats (beating settings b.between) b.between.time b.between.contacts))
        (sym a.sends_are ∙ b.sends_are)

    same : a.between ≡ b.between
    same = notified_once settings before a.between b.between b.notices apart (subst (λ notices. Notified settings before notices a.between) split.0 a.notified) b.notified

pub step_keeps_apart : (settings : SettingsValue) (old : State) (event : Event) (at : ℕ) (owed : List (State × OwnedOut)) (new : State) → Apart old.observers → Step settings old event at owed new → Apart new.observers
step_keeps_apart settings old (event.Datagram peer datagram) at owed new apart step =
    let now = later old at in
    notified_apart settings (left settings now peer datagram step.0 new step.2) new step.2.notices (left_apart settings now peer datagram step.0 new step.2 apart) step.2.notified
step_keeps_apart settings old event.End at owed new apart step = subst (λ (s : State). Apart s.observers) (sym step.1) apart
step_keeps_apart settings old event.Failed at owed new apart step = subst (λ (s : State). Apart s.observers) (sym step.1) apart
step_keeps_apart settings old (event.Opened c p) at owed new apart step = subst Apart (sym (opens_observers (later old at) p c step.0 new step.2)) apart
step_keeps_apart settings old (event.Piece c p) at owed new apart step = takes_apart settings c (receiving c p (later old at)) step.0 new step.2 apart
step_keeps_apart settings old (event.Closed c) at owed new apart step = subst (λ (s : State). Apart s.observers) (sym step.1) apart
step_keeps_apart settings old event.Tick at owed new apart step = tick_apart settings (later old at) step.0 new step.2 apart
step_keeps_apart settings old event.Restart at owed new apart step = subst (λ (s : State). Apart s.observers) (sym step.1) tt

-- a step from a state in which no two observe under one token
abbrev ApartStep : SettingsValue → State → Event → ℕ → List (State × OwnedOut) → State → Type 0
ApartStep settings old event at owed new = Apart old.observers × Step settings old event at owed new

step_once : (settings : SettingsValue) (old : State) (event : Event) (at : ℕ) (owed others : List (State × OwnedOut)) (new last : State)
    → ApartStep settings old event at owed new → ApartStep settings old event at others last → outs_of owed ≡ outs_of others → (owed ≡ others) × (new ≡ last)
step_once settings old (event.Datagram peer datagram) at owed others new last (apart, a) (too, b) outs =
    one_turn owed others new last (λ sends. Answers settings (later old at) peer datagram sends new) (λ sends. Answers settings (later old at) peer datagram sends last) a b outs
    (λ sends x y. answered_once settings (later old at) peer datagram sends new last apart x y)
step_once settings old event.End at owed others new last (apart, a) (too, b) outs = (a.0 ∙ sym b.0, a.1 ∙ sym b.1)
step_once settings old event.Failed at owed others new last (apart, a) (too, b) outs = (a.0 ∙ sym b.0, a.1 ∙ sym b.1)
step_once settings old (event.Opened c p) at owed others new last (apart, a) (too, b) outs =
    one_turn owed others new last (λ sends. Opens (later old at) p c sends new) (λ sends. Opens (later old at) p c sends last) a b outs
    (λ sends x y. (opens_once (later old at) p c sends new x sends last y).1)
step_once settings old (event.Piece c p) at owed others new last (apart, a) (too, b) outs =
    let one = takes_once settings c (receiving c p (later old at)) a.0 b.0 new last apart a.2 b.2 (sym (ap outs_of a.1) ∙ outs ∙ ap outs_of b.1) in
    (a.1 ∙ ap owed_in one.0 ∙ sym b.1, one.1)
step_once settings old (event.Closed c) at owed others new last (apart, a) (too, b) outs = (a.0 ∙ sym b.0, a.1 ∙ sym b.1)
step_once settings old event.Tick at owed others new last (apart, a) (too, b) outs =
    one_turn owed others new last (λ sends. Ticks settings (later old at) sends new) (λ sends. Ticks settings (later old at) sends last) a b outs
    (λ sends x y. ticked_once settings (later old at) sends new last apart x y)
step_once settings old event.Restart at owed others new last (apart, a) (too, b) outs = (a.0 ∙ sym b.0, a.1 ∙ sym b.1)

-- and so it is all the way
sent_apart : (settings : SettingsValue) (old between : Owing State) (act : WireAct) (told : State) → Apart old.last.observers → ToldStep (Step settings) old act told between
    → ToldStep (ApartStep settings) old act told between × Apart between.last.observers
sent_apart settings old between (took event at) told apart s = ((s.0, (apart, s.1)), step_keeps_apart settings old.last event at between.owed between.last apart s.1)
sent_apart settings old between (gave out done) told apart s = (s, subst (λ (s : State). Apart s.observers) (sym s.1) apart)

trace_apart : (settings : SettingsValue) (old : Owing State) (acts : List Timed) (trace : List State) (new : Owing State) → Apart old.last.observers
    → Trace (Step settings) old acts trace new → Trace (ApartStep settings) old acts trace new
trace_apart settings old [] [] new apart t = t
trace_apart settings old [] (told ∷ trace) new apart t = absurd t
trace_apart settings old (timed ∷ acts) [] new apart t = absurd t
trace_apart settings old (timed ∷ acts) (told ∷ trace) new apart t =
    let first = sent_apart settings old t.0 timed.act told apart t.1 in
    (t.0, first.0, trace_apart settings t.0 acts trace new first.1 t.2)

pub one_state : (settings : SettingsValue) (from : State) (acts : List Timed) (trace others : List State) (new last : State) → Apart from.observers
    → Trace (Step settings) (resting from) acts trace (resting new) → Trace (Step settings) (resting from) acts others (resting last) → new ≡ last
one_state settings from acts trace others new last apart a b =
    one_run (ApartStep settings) (step_once settings) (resting from) acts trace others new last
    (trace_apart settings (resting from) acts trace (resting new) apart a) (trace_apart settings (resting from) acts others (resting last) apart b)
