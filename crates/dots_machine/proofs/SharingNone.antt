-- No two mitigations that stand share an address, over a crash, too.
use Rattle.std.proofs.Common.{◌≡◌, ◌⊎◌, inl, inr, ℕ, zero, suc, ◌≤◌, max, List, [], ◌∷◌, ◌++◌, length, take, Option, refl, sym, ap, ◌∙◌, subst, arith, length-append, le_refl}
use Rattle.std.proofs.lemmas.Bool.{cases_order, cond_both}
use Rattle.std.proofs.lemmas.Option.{none-some}
use Rattle.std.specs.Prelude.{nat_lt, if◌then◌else◌}
use Rattle.dots_host.specs.declared.event.Event.{Event}
use Rattle.dots_host.specs.declared.event.Event.TheVariants as event
use Rattle.dots_host.specs.declared.out.OwnedOut.{OwnedOut}
use Rattle.dots_host.specs.Acts.{WireAct, took, gave, Timed}
use Rattle.dots_host.specs.Media.{Media}
use Rattle.dots_host.specs.Runs.{Owing, resting, ToldStep, Turn, Chain, Trace, each_telling, owed_in}
use Rattle.slot_store.specs.Gates.{Sees}
use Rattle.slot_journal.specs.DiskEntries.{HasEntries}
use Rattle.dots_settings.specs.Settings.{SettingsValue}
use Rattle.dots_history.specs.declared.entry.Entry.{Entry}
use Rattle.dots_history.specs.declared.change.Change.TheVariants as change
use Rattle.dots_history.specs.Histories.{View, Kept, last}
use Rattle.dots_history.specs.Fits.{last_or, last_time}
use Rattle.dots_history.proofs.Joining.{last_of_push}
use Rattle.dots_history.proofs.Composing.{kept_later}
use Rattle.conflict_rules.proofs.StandingLives.{still_stand}
use Rattle.dots_machine.specs.declared.ending.Stop.{Stop}
use Rattle.dots_machine.specs.declared.ending.Stop.TheVariants as stop
use Rattle.dots_machine.specs.Mitigations.{entry_of, request_of, client_for}
use Rattle.dots_machine.specs.Machine.{State, afresh, begun_from, later, restarted, with_entry, AnswersFront, receiving, Step, StepInto}
use Rattle.dots_machine.specs.Endings.{EndsBehind, BreaksOff, Ran}
use Rattle.dots_machine.specs.Surviving.{Story, ShowsState, shown_by, entries_shown, shown, time_at, MeansAt}
use Rattle.dots_machine.specs.Orderly.{ShareNone, SharesNoneSince, SharesNone, CameSince, AllCameSince}
use Rattle.dots_machine.proofs.Fronts.{owed_then, front_history}
use Rattle.dots_machine.proofs.Going.{found_again}
use Rattle.dots_machine.proofs.Granting.{Granted, PutsNone}
use Rattle.dots_machine.proofs.Orderly.{share_later, share_without, share_with}
use Rattle.dots_machine.proofs.Ordering.{step_keeps, into_keeps}
use Rattle.dots_machine.proofs.Surviving.{story_trace, step_grows}

-- ---- fronts of a list

front_of : (n : ℕ) (xs ys : List Entry) → n ≤ length xs → take n (xs ++ ys) ≡ take n xs
front_of zero xs ys le = refl
front_of (suc n) [] ys le = absurd (omega (arith, le))
front_of (suc n) (x ∷ xs) ys le = ap (λ zs. x ∷ zs) (front_of n xs ys (omega (arith, le)))

whole_of : (xs : List Entry) → take (length xs) xs ≡ xs
whole_of [] = refl
whole_of (x ∷ xs) = ap (λ zs. x ∷ zs) (whole_of xs)

-- ---- each front shares none

-- The time isn't before that of the last entry, and of each front with at least so many entries no two that stand share an address, at each time
-- since this one and since its last entry.
pub record FrontsShareNone (since base : ℕ) (state : State) : Type 0 where
  pub timely : last_time state.history ≤ state.time
  pub long : base ≤ length state.history
  pub fronts : (count : ℕ) → base ≤ count → count ≤ length state.history → (t : ℕ) → since ≤ t → last_time (take count state.history) ≤ t → ShareNone t (take count state.history)

-- and its time isn't before this one
abbrev pub GoesOnSo : ℕ → ℕ → State → Type 0
GoesOnSo since base state = FrontsShareNone since base state × (since ≤ state.time)

module _ (since base : ℕ) where
  fronts_as : (one other : State) → other.history ≡ one.history → last_time one.history ≤ other.time → FrontsShareNone since base one → FrontsShareNone since base other
  fronts_as one other history timely share = record {
    timely = let same = ap last_time history in omega (arith, same, timely);
    long = let same = ap length history in omega (arith, same, share.long);
    fronts = λ count low high t after late.
        subst (λ es. ShareNone t (take count es)) (sym history)
        (share.fronts count low (let same = ap length history in omega (arith, same, high)) t after
        (let same = ap (λ es. last_time (take count es)) history in omega (arith, same, late)));
  }

  so_as : (one other : State) → other.history ≡ one.history → other.time ≡ one.time → GoesOnSo since base one → GoesOnSo since base other
  so_as one other history time so =
      (fronts_as one other history (let timely = so.0.timely in omega (arith, time, timely)) so.0, let now = so.1 in omega (arith, time, now))

  -- one more entry, of the state's time
  fronts_with : (state : State) (e : Entry) → e.time ≡ state.time → ShareNone state.time (state.history ++ e ∷ []) → GoesOnSo since base state → GoesOnSo since base (with_entry state e)
  fronts_with state e now share so = (
    record {
      timely = omega (arith, last_is);
      long = let more = length-append state.history (e ∷ []) in let long = so.0.long in omega (arith, more, long);
      fronts = λ count low high t after late.
          elim (cases_order count (length (state.history ++ e ∷ []))) [
            | inl all ↦ whole count all t late
            | inr (inl less) ↦
                let within : count ≤ length state.history = let more = length-append state.history (e ∷ []) in omega (arith, more, less) in
                let same = front_of count state.history (e ∷ []) within in
                subst (ShareNone t) (sym same) (so.0.fronts count low within t after (let is = ap last_time same in omega (arith, is, late)))
            | inr (inr more) ↦ absurd (omega (arith, more, high))
          ];
    },
    so.1,
  )
    where
      last_is : last_time (state.history ++ e ∷ []) ≡ state.time
      last_is = last_of_push state.history e ∙ now

      whole : (count : ℕ) → count ≡ length (state.history ++ e ∷ []) → (t : ℕ) → last_time (take count (state.history ++ e ∷ [])) ≤ t → ShareNone t (take count (state.history ++ e ∷ []))
      whole count all t late =
          let same : take count (state.history ++ e ∷ []) ≡ state.history ++ e ∷ [] = ap (λ n. take n (state.history ++ e ∷ [])) all ∙ whole_of (state.history ++ e ∷ []) in
          subst (ShareNone t) (sym same)
          (share_later state.time t (state.history ++ e ∷ []) (let is = ap last_time same in omega (arith, is, last_is, late)) share)

  -- of the whole history at the state's time
  share_now : (state : State) → GoesOnSo since base state → ShareNone state.time state.history
  share_now state so =
      let same = whole_of state.history in
      subst (ShareNone state.time) same
      (so.0.fronts (length state.history) so.0.long (le_refl (length state.history)) state.time so.1
      (let is = ap last_time same in let timely = so.0.timely in omega (arith, is, timely)))

  module _ (settings : SettingsValue) where
    granted_so : (state : State) (entry : Entry) → Granted settings state entry → GoesOnSo since base state → GoesOnSo since base (with_entry state entry)
    granted_so state entry (asked, given, reply, is, same) so =
        let e = entry_of state.time asked.from reply (change.Put given.put) in
        subst (λ e. GoesOnSo since base (with_entry state e)) (sym same)
        (fronts_with state e refl
        (share_with settings state.time state.history (client_for asked.from) (request_of asked) given (share_now state so) is e refl refl refl refl) so)

    none_so : (state : State) (entry : Entry) → PutsNone settings state entry → GoesOnSo since base state → GoesOnSo since base (with_entry state entry)
    none_so state entry (now, none) so = fronts_with state entry now (share_without state.time state.history entry none (share_now state so)) so

    -- an event that came since
    later_so : (state : State) (at : ℕ) → since ≤ at → FrontsShareNone since base state → GoesOnSo since base (later state at)
    later_so state at came share = (fronts_as state (later state at) refl (let timely = share.timely in omega (arith, timely)) share, omega (arith, came))

    restarted_so : (state : State) (at : ℕ) → since ≤ at → FrontsShareNone since base state → GoesOnSo since base (restarted settings state at)
    restarted_so state at came share = (fronts_as state (restarted settings state at) refl (omega arith) share, omega (arith, came))

    pub step_fronts : (old : State) (event : Event) (at : ℕ) (owed : List (State × OwnedOut)) (new : State) → since ≤ at → FrontsShareNone since base old → Step settings old event at owed new
        → FrontsShareNone since base new
    step_fronts old event at owed new came share step =
        by_which (step_keeps settings (GoesOnSo since base) so_as granted_so none_so old event at owed new step (later_so old at came share) (restarted_so old at came share))
      where
        by_which : GoesOnSo since base new ⊎ (new ≡ old) → FrontsShareNone since base new
        by_which (inl so) = so.0
        by_which (inr same) = subst (FrontsShareNone since base) (sym same) share

    pub into_fronts : (old : State) (event : Event) (at : ℕ) (turns : List (Turn State)) (last : Turn State) → since ≤ at → FrontsShareNone since base old → StepInto settings old event at turns last
        → FrontsShareNone since base last.left
    into_fronts old event at turns last came share into =
        (into_keeps settings (GoesOnSo since base) so_as granted_so none_so old event at turns last into (later_so old at came share)).0

    act_fronts : (old between : Owing State) (act : WireAct) (told : State) → ToldStep (Step settings) old act told between → CameSince since act → FrontsShareNone since base old.last
        → FrontsShareNone since base between.last
    act_fronts old between (took event at) told step came share = step_fronts old.last event at between.owed between.last came share step.1
    act_fronts old between (gave out done) told step came share = subst (FrontsShareNone since base) (sym step.1) share

    pub run_fronts : (old new : Owing State) (acts : List Timed) (trace : List State) → Trace (Step settings) old acts trace new → AllCameSince since acts → FrontsShareNone since base old.last
        → FrontsShareNone since base new.last
    run_fronts old new [] [] t came share = subst (λ (owing : Owing State). FrontsShareNone since base owing.last) (sym t) share
    run_fronts old new [] (told ∷ trace) t came share = absurd t
    run_fronts old new (timed ∷ acts) [] t came share = absurd t
    run_fronts old new (timed ∷ acts) (told ∷ trace) t came share =
        run_fronts t.0 new acts trace t.2 came.1 (act_fronts old t.0 timed.act told t.1 came.0 share)

-- the whole is the one front that is as long
pub from_shares : (since : ℕ) (state : State) → SharesNoneSince since state → FrontsShareNone since (length state.history) state
from_shares since state share = record {
  timely = share.timely;
  long = le_refl (length state.history);
  fronts = λ count low high t after late.
      let all : count ≡ length state.history = omega (arith, low, high) in
      let same : take count state.history ≡ state.history = ap (λ n. take n state.history) all ∙ whole_of state.history in
      subst (ShareNone t) (sym same) (share.share_none t after (let is = ap last_time same in omega (arith, is, late)));
}

pub to_shares : (since base : ℕ) (state : State) → FrontsShareNone since base state → SharesNoneSince since state
to_shares since base state share = record {
  timely = share.timely;
  share_none = λ t after late.
      let same = whole_of state.history in
      subst (ShareNone t) same
      (share.fronts (length state.history) share.long (le_refl (length state.history)) t after (let is = ap last_time same in omega (arith, is, late)));
}

-- ---- from a state on

pub shares_begun : (settings : SettingsValue) (t : ℕ) → SharesNone (afresh settings [] t)
shares_begun settings t = record {
  timely = omega arith;
  share_none = λ u after late domain i j a b one put apart sa sb alike. absurd (none-some a sa.stands.there);
}

pub shares_step : (settings : SettingsValue) (since : ℕ) (old : State) (event : Event) (at : ℕ) (owed : List (State × OwnedOut)) (new : State)
    → SharesNoneSince since old → since ≤ at → Step settings old event at owed new → SharesNoneSince since new
shares_step settings since old event at owed new share came step =
    to_shares since (length old.history) new (step_fronts since (length old.history) settings old event at owed new came (from_shares since old share) step)

pub shares_run : (settings : SettingsValue) (since : ℕ) (from : State) (acts : List Timed) (trace : List State) (new : State)
    → SharesNoneSince since from → AllCameSince since acts → Trace (Step settings) (resting from) acts trace (resting new) → SharesNoneSince since new
shares_run settings since from acts trace new share came run =
    to_shares since (length from.history) new (run_fronts since (length from.history) settings (resting from) (resting new) acts trace run came (from_shares since from share))

pub since_last : (since : ℕ) (state : State) → since ≤ last_time state.history → SharesNoneSince since state → SharesNone state
since_last since state early share = record { timely = share.timely; share_none = λ t after late. share.share_none t (omega (arith, early, late)) late }

-- ---- what is kept of a history shares none where the history doesn't

abbrev head_time : ℕ → List Entry → ℕ
head_time t [] = t
head_time t (e ∷ later) = e.time

last_at : (t : ℕ) (e : Entry) (later : List Entry) → head_time t (last (e ∷ later)) ≡ last_or e.time later
last_at t e [] = refl
last_at t e (x ∷ later) = last_at t x later

last_is : (entries : List Entry) → last_time entries ≡ head_time 0 (last entries)
last_is [] = refl
last_is (e ∷ later) = sym (last_at 0 e later)

pub same_last : (n t : ℕ) (few all : List Entry) → Kept n t few all → last_time few ≡ last_time all
same_last n t few all kept = last_is few ∙ ap (λ (v : View). head_time 0 v.last) kept.same_view ∙ sym (last_is all)

kept_share : (n t : ℕ) (few all : List Entry) → Kept n t few all → ShareNone t all → ShareNone t few
kept_share n t few all kept share domain i j a b one put apart sa sb alike =
    let both = still_stand t few all (ap (λ (v : View). v.mitigations) kept.same_view) domain i j a b one put apart sa sb in
    share domain both.first both.second both.entry both.another one put both.apart both.stands both.stands_too (λ cuid. alike (sym both.of_cuid ∙ cuid ∙ both.of_beside))

kept_shares : (settings : SettingsValue) (n since now : ℕ) (few all : List Entry) → Kept n now few all → ((t : ℕ) → since ≤ t → last_time all ≤ t → ShareNone t all)
    → SharesNoneSince (max since now) (begun_from settings few)
kept_shares settings n since now few all kept share = record {
  timely = le_refl (last_time few);
  share_none = λ t after late.
      let is = same_last n now few all kept in
      kept_share n t few all (kept_later n now t few all (omega (arith, after)) kept) (share t (omega (arith, after)) (omega (arith, is, late)));
}

-- ---- what was shown before a moment has at least the entries of the start

abbrev AllLong : ℕ → List State → Type 0
AllLong base [] = Unit {0}
AllLong base (state ∷ states) = (base ≤ length state.history) × AllLong base states

abbrev OwesLong : ℕ → List (State × OwnedOut) → Type 0
OwesLong base owed = AllLong base (shown_by owed)

long_then : (base : ℕ) (xs ys : List State) → AllLong base xs → AllLong base ys → AllLong base (xs ++ ys)
long_then base [] ys a b = b
long_then base (x ∷ xs) ys a b = (a.0, long_then base xs ys a.1 b)

owes_then : (base : ℕ) (xs ys : List (State × OwnedOut)) → OwesLong base xs → OwesLong base ys → OwesLong base (xs ++ ys)
owes_then base [] ys a b = b
owes_then base (x ∷ xs) ys a b = (a.0, owes_then base xs ys a.1 b)

owes_each : (base : ℕ) (state : State) (outs : List OwnedOut) → base ≤ length state.history → OwesLong base (each_telling state outs)
owes_each base state [] long = tt
owes_each base state (out ∷ outs) long = (long, owes_each base state outs long)

none_owed : (base : ℕ) (owed : List (State × OwnedOut)) → owed ≡ [] → OwesLong base owed
none_owed base owed is = subst (OwesLong base) (sym is) tt

longer_by : (base : ℕ) (old new extra : List Entry) → base ≤ length old → new ≡ old ++ extra → base ≤ length new
longer_by base old new extra long is = let same = ap length is ∙ length-append old extra in omega (arith, long, same)

module _ (settings : SettingsValue) (base : ℕ) where
  fronts_owe : (conn : ℕ) (state : State) (turns : List (Turn State)) (new : State) → Chain (AnswersFront settings conn) state turns new → base ≤ length state.history → OwesLong base (owed_in turns)
  fronts_owe conn state [] new x long = tt
  fronts_owe conn state (turn ∷ turns) new x long =
      let left : base ≤ length turn.left.history = longer_by base state.history turn.left.history _ long (front_history settings conn state turn.sends turn.left x.0) in
      owes_then base (each_telling turn.left turn.sends) (owed_in turns) (owes_each base turn.left turn.sends left) (fronts_owe conn turn.left turns new x.1 left)

  step_long : (old : State) (event : Event) (at : ℕ) (owed : List (State × OwnedOut)) (new : State) → Step settings old event at owed new → base ≤ length old.history → base ≤ length new.history
  step_long old event at owed new step long = let grown = step_grows settings old event at owed new step in longer_by base old.history new.history grown.0 long grown.1

  in_turn : (owed : List (State × OwnedOut)) (new : State) (sends : List OwnedOut) → owed ≡ each_telling new sends → base ≤ length new.history → OwesLong base owed
  in_turn owed new sends is long = subst (OwesLong base) (sym is) (owes_each base new sends long)

  step_owes : (old : State) (event : Event) (at : ℕ) (owed : List (State × OwnedOut)) (new : State) → Step settings old event at owed new → base ≤ length old.history → OwesLong base owed
  step_owes old (event.Datagram peer datagram) at owed new step long = in_turn owed new step.0 step.1 (step_long old (event.Datagram peer datagram) at owed new step long)
  step_owes old event.End at owed new step long = none_owed base owed step.0
  step_owes old event.Failed at owed new step long = none_owed base owed step.0
  step_owes old (event.Opened c p) at owed new step long = in_turn owed new step.0 step.1 (step_long old (event.Opened c p) at owed new step long)
  step_owes old (event.Closed c) at owed new step long = none_owed base owed step.0
  step_owes old event.Tick at owed new step long = in_turn owed new step.0 step.1 (step_long old event.Tick at owed new step long)
  step_owes old event.Restart at owed new step long = none_owed base owed step.0
  step_owes old (event.Piece c p) at owed new step long =
      let x = step.2 in
      let state = receiving c p (later old at) in
      let all : OwesLong base (owed_in x.answered ++ owed_in (record { sends = x.notices; left = new } ∷ [])) =
      owes_then base (owed_in x.answered) (owed_in (record { sends = x.notices; left = new } ∷ [])) (fronts_owe c state x.answered x.rested x.fronts long)
      (owes_then base (each_telling new x.notices) [] (owes_each base new x.notices (step_long old (event.Piece c p) at owed new step long)) tt) in
      subst (OwesLong base) (sym (step.1 ∙ ap owed_in x.turns_are ∙ owed_then x.answered (record { sends = x.notices; left = new } ∷ []))) all

  act_long : (old between : Owing State) (act : WireAct) (told : State) → ToldStep (Step settings) old act told between → ShowsState act told between → base ≤ length old.last.history → OwesLong base old.owed
      → (base ≤ length told.history) × (base ≤ length between.last.history) × OwesLong base between.owed
  act_long old between (took event at) told step shows long owes =
      let left = step_long old.last event at between.owed between.last step.1 long in (
        subst (λ (state : State). base ≤ length state.history) (sym shows) left,
        left,
        step_owes old.last event at between.owed between.last step.1 long,
      )
  act_long old between (gave out done) told step shows long owes =
      let first : OwesLong base ((told, out) ∷ between.owed) = subst (OwesLong base) step.0 owes in
      (first.0, subst (λ (state : State). base ≤ length state.history) (sym step.1) long, first.1)

  story_long : (old new : Owing State) (acts : List Timed) (trace : List State) → Story settings old acts trace new → base ≤ length old.last.history → OwesLong base old.owed → AllLong base trace
  story_long old new [] [] s long owes = tt
  story_long old new [] (told ∷ trace) s long owes = absurd s
  story_long old new (timed ∷ acts) [] s long owes = absurd s
  story_long old new (timed ∷ acts) (told ∷ trace) s long owes =
      let first = act_long old s.0 timed.act told s.1 s.2 long owes in (first.0, story_long s.0 new acts trace s.3 first.1 first.2)

  into_owes : (old : State) (event : Event) (at : ℕ) (turns : List (Turn State)) (last : Turn State) → StepInto settings old event at turns last → base ≤ length old.history → OwesLong base (owed_in turns)
  into_owes old (event.Datagram peer datagram) at turns last into long = subst (λ ts. OwesLong base (owed_in ts)) (sym into.0) tt
  into_owes old event.Tick at turns last into long = subst (λ ts. OwesLong base (owed_in ts)) (sym into.0) tt
  into_owes old (event.Piece c p) at turns last into long = fronts_owe c (receiving c p (later old at)) turns into.0 into.1 long
  into_owes old event.End at turns last into long = absurd into
  into_owes old event.Failed at turns last into long = absurd into
  into_owes old (event.Opened c p) at turns last into long = absurd into
  into_owes old (event.Closed c) at turns last into long = absurd into
  into_owes old event.Restart at turns last into long = absurd into

shows_long : (base n m : ℕ) (timed : Timed) (state : State) → base ≤ n → base ≤ length state.history → base ≤ (if nat_lt timed.moment m then entries_shown timed.act state n else n)
shows_long base n m timed state low long =
    cond_both (nat_lt timed.moment m) (entries_shown timed.act state n) n (λ k. base ≤ k) (λ before. by_act timed.act) (λ after. low)
  where
    by_act : (act : WireAct) → base ≤ entries_shown act state n
    by_act (took event at) = low
    by_act (gave out done) = long

shown_long : (base m : ℕ) (acts : List Timed) (trace : List State) (n : ℕ) → base ≤ n → AllLong base trace → base ≤ shown m acts trace n
shown_long base m [] trace n low all = low
shown_long base m (timed ∷ acts) [] n low all = low
shown_long base m (timed ∷ acts) (state ∷ trace) n low all =
    shown_long base m acts trace (if nat_lt timed.moment m then entries_shown timed.act state n else n) (shows_long base n m timed state low all.0) all.1

-- ---- a run, however it ended

came_front : (since : ℕ) (front back : List Timed) → AllCameSince since (front ++ back) → AllCameSince since front
came_front since [] back came = tt
came_front since (timed ∷ front) back came = (came.0, came_front since front back came.1)

came_back : (since : ℕ) (front back : List Timed) → AllCameSince since (front ++ back) → AllCameSince since back
came_back since [] back came = came
came_back since (timed ∷ front) back came = came_back since front back came.1

module _ (settings : SettingsValue) (since base : ℕ) (state : State) (share : FrontsShareNone since base state) (end : Owing State) (trace : List State) (acts : List Timed) (came : AllCameSince since acts) where
  abbrev EndsSo : Type 0
  EndsSo = FrontsShareNone since base end.last × AllLong base trace

  rested_so : (acts ≡ []) × (trace ≡ []) × (end ≡ resting state) → EndsSo
  rested_so ends = (
    subst (λ (owing : Owing State). FrontsShareNone since base owing.last) (sym ends.2) share,
    subst (AllLong base) (sym ends.1) tt,
  )

  broken_so : BreaksOff settings state trace end acts → EndsSo
  broken_so broke =
      let at_last : since ≤ broke.at = (subst (AllCameSince since) broke.acts_are came).0 in
      let left : FrontsShareNone since base broke.last.left = into_fronts since base settings state broke.came broke.at broke.turns broke.last at_last share broke.into in (
        subst (λ (owing : Owing State). FrontsShareNone since base owing.last) (sym broke.end_is) left,
        subst (AllLong base) (sym broke.trace_is) (left.long, into_owes settings base state broke.came broke.at broke.turns broke.last broke.into share.long),
      )

  ends_so : (how : Stop) → EndsBehind how settings state trace end acts → EndsSo
  ends_so stop.DiskFailed ends = broken_so ends
  ends_so stop.Ended ends = rested_so ends
  ends_so stop.NextFailed ends = rested_so ends
  ends_so stop.TooMany ends = rested_so ends
  ends_so (stop.Unrecovered fault) ends = rested_so ends

module _ (settings : SettingsValue) (since : ℕ) (start : State) (share : SharesNoneSince since start) (trace : List State) (end : Owing State) (how : Stop) (acts : List Timed)
    (came : AllCameSince since acts) (ran : Ran settings start trace end how acts) where
  abbrev base : ℕ
  base = length start.history

  came_so : AllCameSince since (ran.whole ++ ran.behind)
  came_so = subst (AllCameSince since) ran.acts_are came

  there : FrontsShareNone since base ran.state
  there =
      run_fronts since base settings (resting start) (resting ran.state) ran.whole ran.states
      (story_trace settings (resting start) (resting ran.state) ran.whole ran.states ran.run)
      (came_front since ran.whole ran.behind came_so) (from_shares since start share)

  behind : FrontsShareNone since base end.last × AllLong base ran.states_behind
  behind = ends_so settings since base ran.state there end ran.states_behind ran.behind (came_back since ran.whole ran.behind came_so) how ran.ends

  all_long : AllLong base trace
  all_long =
      subst (AllLong base) (sym ran.trace_is)
      (long_then base ran.states ran.states_behind (story_long settings base (resting start) (resting ran.state) ran.whole ran.states ran.run (le_refl base) tt) behind.1)

  pub recovered : (m : ℕ) (image : ℕ → ℕ) (media : Option Media) (stored : List Entry)
      → MeansAt settings start acts trace end.last.history m image → Sees media image → ((seen : ℕ → ℕ) → Sees media seen → HasEntries settings seen stored)
      → SharesNoneSince (max since (time_at m acts trace start.time)) (begun_from settings stored)
  recovered m image media stored means sees was_stored =
      let found = found_again settings start acts trace end.last.history m image media stored means sees was_stored in
      let low : base ≤ found.0 = let shows = shown_long base m acts trace base (le_refl base) all_long in let told = found.2 in omega (arith, shows, told) in
      kept_shares settings settings.limits.remembered since (time_at m acts trace start.time) stored (take found.0 end.last.history) found.3 (behind.0.fronts found.0 low found.1)
