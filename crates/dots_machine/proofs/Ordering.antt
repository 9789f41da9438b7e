-- A run keeps the mitigations that stand apart.
use Rattle.std.proofs.Common.{◌≡◌, ◌≢◌, ◌⊎◌, inl, inr, ℕ, false, List, [], ◌∷◌, ◌++◌, refl, sym, ap, ◌∙◌, subst, arith, append-nil, append_assoc, map}
use Rattle.std.proofs.lemmas.Bool.{false≢true}
use Rattle.std.proofs.lemmas.Option.{none-some}
use Rattle.dots_host.specs.declared.event.Event.{Event}
use Rattle.dots_host.specs.declared.event.Event.TheVariants as event
use Rattle.dots_host.specs.declared.out.OwnedOut.{OwnedOut}
use Rattle.dots_host.specs.declared.out.OwnedOut.TheVariants as owned
use Rattle.dots_host.specs.Acts.{Timed}
use Rattle.dots_host.specs.Runs.{resting, Turn, Chain, Trace}
use Rattle.dots_history.specs.Fits.{last_time, is_of_mitigations}
use Rattle.dots_history.proofs.Joining.{last_of_push}
use Rattle.dots_settings.specs.Settings.{SettingsValue}
use Rattle.dots_history.specs.declared.entry.Entry.{Entry}
use Rattle.dots_history.specs.declared.put.Put.{Put}
use Rattle.dots_history.specs.declared.change.Change.TheVariants as change
use Rattle.dots_machine.specs.Verdict.{Verdict}
use Rattle.dots_machine.specs.declared.verdict.Verdict.TheVariants as verdict
use Rattle.dots_machine.specs.Mitigations.{entry_of, request_of, client_for}
use Rattle.dots_machine.specs.Machine.{State, afresh, later, restarted, with_entry, Decides, after, AnswersFront, receiving, Takes, Step, StepInto, Hears, lapsed}
use Rattle.dots_machine.specs.Orderly.{ShareNone, HigherStays, IsOrderly}
use Rattle.dots_machine.specs.Handlings.{Handling, IsHandling, EachHandling, handlings_of}
use Rattle.dots_machine.proofs.Granting.{Granted, PutsNone, AcceptsAs, accepts_as}
use Rattle.dots_machine.proofs.Hearing.{answer_history, answer_time, tick_history, tick_time, hears_adds, hears_time, same_time_after}
use Rattle.dots_machine.proofs.Returning.{AreOfSignals, puts_none, back_signals, history_lapses}
use Rattle.dots_machine.specs.Signals.{back_of, last_heard}
use Rattle.dots_machine.proofs.Connections.{opens_history, opens_time}
use Rattle.dots_machine.proofs.Observing.{notified_history, notified_time}
use Rattle.dots_machine.proofs.Fronts.{front_time}
use Rattle.rest_answers.specs.Turns.{AddsOne}
use Rattle.rest_answers.proofs.Turning.{adds_one}
use Rattle.dots_machine.proofs.Orderly.{share_later, share_without, share_with, higher_more, higher_with}
use Rattle.dots_machine.proofs.Handlings.{by_handlings}

-- what is answered of a connection adds no mitigation
mitigates_no : (entry : Entry) → is_of_mitigations entry.change ≡ false → (put : Put) → entry.change ≡ change.Put put → ⊥
unfolding is_of_mitigations
mitigates_no entry none put is = false≢true (sym none ∙ ap is_of_mitigations is)

abbrev with_entries : State → List Entry → State
with_entries state extra = record state { history = state.history ++ extra }

-- ---- what goes by the history and the time alone, and is kept by a mitigation that the rules granted, and by each entry of the time that is none, is kept by a step

module _ (settings : SettingsValue) (Keeps : State → Type 0)
    (as_other : (one other : State) → other.history ≡ one.history → other.time ≡ one.time → Keeps one → Keeps other)
    (granted_keeps : (state : State) (entry : Entry) → Granted settings state entry → Keeps state → Keeps (with_entry state entry))
    (none_keeps : (state : State) (entry : Entry) → PutsNone settings state entry → Keeps state → Keeps (with_entry state entry)) where
  verdict_keeps : (state : State) (v : Verdict) → AcceptsAs settings state v → Keeps state → Keeps (after v state)
  verdict_keeps state verdict.Silent how keeps = keeps
  verdict_keeps state (verdict.Reply reply) how keeps = keeps
  verdict_keeps state (verdict.LongReply reply) how keeps = keeps
  verdict_keeps state (verdict.Retrieves y body) how keeps = keeps
  verdict_keeps state (verdict.Accept reply entry) (inl granted) keeps = granted_keeps state entry granted keeps
  verdict_keeps state (verdict.Accept reply entry) (inr none) keeps = none_keeps state entry none keeps

  front_keeps : (conn : ℕ) (state : State) (sends : List OwnedOut) (new : State) → AnswersFront settings conn state sends new → Keeps state → Keeps new
  front_keeps conn state sends new x keeps =
      by_entry (adds_one settings conn state.time state.history state.lines sends x.0 x.1 x.2.caller x.2 x.2.asks)
    where
      by_entry : AddsOne state.time x.2.caller state.history x.0 → Keeps new
      by_entry (inl same) = as_other state new (ap (λ (s : State). s.history) x.3 ∙ same) (front_time settings conn state sends new x) keeps
      by_entry (inr (asked, entry, is, of)) =
          as_other (with_entry state entry) new (ap (λ (s : State). s.history) x.3 ∙ is) (front_time settings conn state sends new x)
          (none_keeps state entry (of.now, mitigates_no entry of.other) keeps)

  fronts_keep : (conn : ℕ) (state : State) (turns : List (Turn State)) (new : State) → Chain (AnswersFront settings conn) state turns new → Keeps state → Keeps new
  fronts_keep conn state [] new x keeps = subst Keeps (sym x) keeps
  fronts_keep conn state (turn ∷ turns) new x keeps = fronts_keep conn turn.left turns new x.1 (front_keeps conn state turn.sends turn.left x.0 keeps)

  -- signals that are lost, and that are back
  signals_keep : (state : State) (extra : List Entry) → AreOfSignals state.time extra → Keeps state → Keeps (with_entries state extra)
  signals_keep state [] are keeps = as_other state (with_entries state []) (append-nil state.history) refl keeps
  signals_keep state (e ∷ extra) are keeps =
      as_other (with_entries (with_entry state e) extra) (with_entries state (e ∷ extra)) (sym (append_assoc state.history (e ∷ []) extra)) refl
      (signals_keep (with_entry state e) extra are.1 (none_keeps state e (are.0.now, puts_none state.time e are.0) keeps))

  heard_keeps : (state : State) (peer : ℕ) (datagram : List ℕ) (met : State) → Hears settings state peer datagram met → Keeps state → Keeps met
  heard_keeps state peer datagram met hears keeps = by_which (hears_adds settings peer datagram state met hears)
    where
      same_time : met.time ≡ state.time
      same_time = hears_time settings peer datagram state met hears

      by_which : (met.history ≡ state.history) ⊎ (met.history ≡ state.history ++ back_of settings state.time state.history peer) → Keeps met
      by_which (inl same) = as_other state met same same_time keeps
      by_which (inr more) =
          as_other (with_entries state (back_of settings state.time state.history peer)) met more same_time
          (signals_keep state (back_of settings state.time state.history peer) (back_signals settings state.time state.history peer) keeps)

  lapsed_keeps : (state : State) → Keeps state → Keeps (lapsed settings state)
  lapsed_keeps state keeps =
      let more = history_lapses settings state.time state.history (map last_heard state.contacts) in
      as_other (with_entries state more.0) (lapsed settings state) more.1 refl (signals_keep state more.0 more.2 keeps)

  received_keeps : (conn : ℕ) (piece : List ℕ) (state : State) → Keeps state → Keeps (receiving conn piece state)
  received_keeps conn piece state keeps = as_other state (receiving conn piece state) refl refl keeps

  -- from the state in which the event came, or in which the machine restarted; or nothing is done
  pub step_keeps : (old : State) (event : Event) (at : ℕ) (owed : List (State × OwnedOut)) (new : State) → Step settings old event at owed new
      → Keeps (later old at) → Keeps (restarted settings old at) → Keeps new ⊎ (new ≡ old)
  step_keeps old (event.Datagram peer datagram) at owed new step keeps anew =
      let a = step.2 in
      let now = later old at in
      inl (as_other (after a.decided a.met) new
      (answer_history settings now peer datagram step.0 new a)
      (answer_time settings now peer datagram step.0 new a ∙ same_time_after a.decided now a.met (sym (hears_time settings peer datagram now a.met a.hears)))
      (verdict_keeps a.met a.decided (accepts_as settings a.met peer datagram a.decided a.decides) (heard_keeps now peer datagram a.met a.hears keeps)))
  step_keeps old event.End at owed new step keeps anew = inr step.1
  step_keeps old event.Failed at owed new step keeps anew = inr step.1
  step_keeps old (event.Opened c p) at owed new step keeps anew =
      inl (as_other (later old at) new (opens_history (later old at) p c step.0 new step.2) (opens_time (later old at) p c step.0 new step.2) keeps)
  step_keeps old (event.Piece c p) at owed new step keeps anew =
      let state = receiving c p (later old at) in
      let x : Takes settings c state step.0 new = step.2 in
      inl (as_other x.rested new (notified_history settings x.rested new x.notices x.notified) (notified_time settings x.rested new x.notices x.notified)
      (fronts_keep c state x.answered x.rested x.fronts (received_keeps c p (later old at) keeps)))
  step_keeps old (event.Closed c) at owed new step keeps anew =
      inl (as_other (later old at) new (ap (λ (s : State). s.history) step.1) (ap (λ (s : State). s.time) step.1) keeps)
  step_keeps old event.Tick at owed new step keeps anew =
      inl (as_other (lapsed settings (later old at)) new (tick_history settings (later old at) step.0 new step.2) (tick_time settings (later old at) step.0 new step.2)
      (lapsed_keeps (later old at) keeps))
  step_keeps old event.Restart at owed new step keeps anew = inl (subst Keeps (sym step.1) anew)

  -- and one that the disk cuts off
  pub into_keeps : (old : State) (event : Event) (at : ℕ) (turns : List (Turn State)) (last : Turn State) → StepInto settings old event at turns last → Keeps (later old at) → Keeps last.left
  into_keeps old (event.Datagram peer datagram) at turns last into keeps = by_which into.3
    where
      met_keeps : Keeps into.1
      met_keeps = heard_keeps (later old at) peer datagram into.1 into.2 keeps

      by_which : ((into.1.history ≢ old.history) × (last ≡ (record { sends = []; left = into.1 })))
          ⊎ ((reply : List ℕ) × (entry : Entry) × Decides settings into.1 peer datagram (verdict.Accept reply entry)
          × (last ≡ (record { sends = owned.To peer reply ∷ []; left = with_entry into.1 entry }))) → Keeps last.left
      by_which (inl (added, is)) = subst Keeps (sym (ap (λ (turn : Turn State). turn.left) is)) met_keeps
      by_which (inr (reply, entry, decides, is)) =
          subst Keeps (sym (ap (λ (turn : Turn State). turn.left) is))
          (verdict_keeps into.1 (verdict.Accept reply entry) (accepts_as settings into.1 peer datagram (verdict.Accept reply entry) decides) met_keeps)
  into_keeps old event.Tick at turns last into keeps = subst Keeps (sym (ap (λ (turn : Turn State). turn.left) into.2)) (lapsed_keeps (later old at) keeps)
  into_keeps old (event.Piece conn piece) at turns last into keeps =
      front_keeps conn into.0 last.sends last.left into.2
      (fronts_keep conn (receiving conn piece (later old at)) turns into.0 into.1 (received_keeps conn piece (later old at) keeps))
  into_keeps old event.End at turns last into keeps = absurd into
  into_keeps old event.Failed at turns last into keeps = absurd into
  into_keeps old (event.Opened c p) at turns last into keeps = absurd into
  into_keeps old (event.Closed c) at turns last into keeps = absurd into
  into_keeps old event.Restart at turns last into keeps = absurd into

-- ---- that they share none, and that the higher stays

-- an entry of the state's time was added, and they share none then
orderly_with : (state : State) (e : Entry) → e.time ≡ state.time → ShareNone state.time (state.history ++ e ∷ []) → HigherStays (state.history ++ e ∷ []) → IsOrderly (with_entry state e)
orderly_with state e now share stays =
    let last : last_time (state.history ++ e ∷ []) ≡ state.time = last_of_push state.history e ∙ now in record {
      timely = omega (arith, last);
      share_none = λ t less. share_later state.time t (state.history ++ e ∷ []) (omega (arith, last, less)) share;
      higher_stays = stays;
    }

-- it depends on the history and the time alone
orderly_as : (one other : State) → other.history ≡ one.history → other.time ≡ one.time → IsOrderly one → IsOrderly other
orderly_as one other history time orderly = record {
  timely = let same = ap last_time history in omega (arith, same, time, orderly.timely);
  share_none = λ t less. subst (ShareNone t) (sym history) (orderly.share_none t (let same = ap last_time history in omega (arith, same, less)));
  higher_stays = subst HigherStays (sym history) orderly.higher_stays;
}

module _ (settings : SettingsValue) where
  granted_orderly : (state : State) (entry : Entry) → Granted settings state entry → IsOrderly state → IsOrderly (with_entry state entry)
  granted_orderly state entry (asked, given, reply, is, same) orderly =
      let e = entry_of state.time asked.from reply (change.Put given.put) in
      let share = orderly.share_none state.time orderly.timely in
      subst (λ e. IsOrderly (with_entry state e)) (sym same) (orderly_with state e refl
      (share_with settings state.time state.history (client_for asked.from) (request_of asked) given share is e refl refl refl refl)
      (higher_with settings state.time state.history (client_for asked.from) (request_of asked) given share is e refl refl refl refl orderly.higher_stays))

  none_orderly : (state : State) (entry : Entry) → PutsNone settings state entry → IsOrderly state → IsOrderly (with_entry state entry)
  none_orderly state entry (now, none) orderly =
      orderly_with state entry now
      (share_without state.time state.history entry none (orderly.share_none state.time orderly.timely))
      (higher_more state.history entry orderly.higher_stays (λ domain i a one put is st ended. absurd (none put is)))

later_orderly : (state : State) (at : ℕ) → IsOrderly state → IsOrderly (later state at)
later_orderly state at orderly = record { timely = omega (arith, orderly.timely); share_none = orderly.share_none; higher_stays = orderly.higher_stays }

restarted_orderly : (settings : SettingsValue) (state : State) (at : ℕ) → IsOrderly state → IsOrderly (restarted settings state at)
restarted_orderly settings state at orderly = record { timely = omega arith; share_none = orderly.share_none; higher_stays = orderly.higher_stays }

-- ---- a step

pub step_orderly : (settings : SettingsValue) (old : State) (event : Event) (at : ℕ) (owed : List (State × OwnedOut)) (new : State) → IsOrderly old → Step settings old event at owed new → IsOrderly new
step_orderly settings old event at owed new orderly step =
    by_which (step_keeps settings IsOrderly orderly_as (granted_orderly settings) (none_orderly settings) old event at owed new step
    (later_orderly old at orderly) (restarted_orderly settings old at orderly))
  where
    by_which : IsOrderly new ⊎ (new ≡ old) → IsOrderly new
    by_which (inl kept) = kept
    by_which (inr same) = subst IsOrderly (sym same) orderly

handlings_orderly : (settings : SettingsValue) (old : State) (handlings : List Handling) (new : State) → IsOrderly old → EachHandling (IsHandling settings) old handlings new → IsOrderly new
handlings_orderly settings old [] new orderly is = subst IsOrderly (sym is) orderly
handlings_orderly settings old (handling ∷ handlings) new orderly each =
    handlings_orderly settings each.0 handlings new (step_orderly settings old handling.what handling.at each.1.owed each.0 orderly each.1.step) each.2

pub run_orderly : (settings : SettingsValue) (from : State) (acts : List Timed) (trace : List State) (new : State) → IsOrderly from → Trace (Step settings) (resting from) acts trace (resting new) → IsOrderly new
run_orderly settings from acts trace new orderly run = handlings_orderly settings from (handlings_of acts) new orderly (by_handlings settings (resting from) acts trace new run)

pub begun_orderly : (settings : SettingsValue) (t : ℕ) → IsOrderly (afresh settings [] t)
begun_orderly settings t = record {
  timely = omega arith;
  share_none = λ u less domain i j a b one put apart sa sb alike. absurd (none-some a sa.stands.there);
  higher_stays = λ domain i j a b one put less found puts st ended. absurd (none-some b found);
}
