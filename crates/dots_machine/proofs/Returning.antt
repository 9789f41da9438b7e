-- What the entries of signals that are lost, and that are back, leave as it was.
use Rattle.std.proofs.Common.{◌≡◌, ◌⊎◌, inl, inr, ℕ, suc, ◌+◌, ◌<◌, ◌≤◌, Bool, true, false, if◌then◌else◌, List, [], ◌∷◌, ◌++◌, length, drop, Option, Some, None, slice_get, refl, sym, ap, ◌∙◌, subst, arith, append_assoc, append-nil, ◌&&◌, ◌==◌, zero}
use Rattle.std.proofs.lemmas.Bool.{false≢true, cond_both}
use Rattle.dots_settings.specs.Settings.{SettingsValue}
use Rattle.dots_history.specs.declared.entry.Entry.{Entry}
use Rattle.dots_history.specs.declared.entry.MessageKey.TheVariants.{Http}
use Rattle.dots_history.specs.declared.put.Put.{Put}
use Rattle.dots_history.specs.declared.change.Change.{Change}
use Rattle.dots_history.specs.declared.change.Change.TheVariants as change
use Rattle.dots_history.specs.Entries.{signals, is_signal, is_loss, may_repeat}
use Rattle.dots_history.specs.Histories.{tally}
use Rattle.dots_keys.specs.declared.exchange.Exchange.{Exchange}
use Rattle.dots_machine.specs.MessageRepeats.{Sent, sent_for, IsRepeatOf}
use Rattle.dots_machine.specs.Signals.{own_domain, signal_entry, is_lost_in, is_watched_in, LastHeard, is_silent, loss_in, loss_of, history_lapsed, back_in, back_of}
use Rattle.dots_machine.specs.ConfiguredPeers.{beating_at}
use Rattle.dots_machine.specs.Machine.{State, hearing, lapsed}

-- ---- what they are

-- of this time, and of a signal that is lost or back
pub record IsOfSignal (time : ℕ) (entry : Entry) : Type 0 where
  pub now : entry.time ≡ time
  pub loss : is_loss entry.change ≡ true

abbrev pub AreOfSignals : ℕ → List Entry → Type 0
AreOfSignals time [] = Unit {0}
AreOfSignals time (e ∷ es) = IsOfSignal time e × AreOfSignals time es

pub lost_is : (time peer domain : ℕ) → IsOfSignal time (signal_entry time peer change.Lost domain)
unfolding is_loss
lost_is time peer domain = record { now = refl; loss = refl }

pub back_is : (time peer domain : ℕ) → IsOfSignal time (signal_entry time peer change.Back domain)
unfolding is_loss
back_is time peer domain = record { now = refl; loss = refl }

pub then_signals : (time : ℕ) (xs ys : List Entry) → AreOfSignals time xs → AreOfSignals time ys → AreOfSignals time (xs ++ ys)
then_signals time [] ys a b = b
then_signals time (x ∷ xs) ys a b = (a.0, then_signals time xs ys a.1 b)

pub one_if : (time : ℕ) (test : Bool) (e : Entry) → IsOfSignal time e → AreOfSignals time (if test then e ∷ [] else [])
one_if time test e is = cond_both test (e ∷ []) [] (AreOfSignals time) (λ yes. (is, tt)) (λ never. tt)

pub back_signals : (settings : SettingsValue) (time : ℕ) (history : List Entry) (peer : ℕ) → AreOfSignals time (back_of settings time history peer)
back_signals settings time history peer = by_domain (own_domain settings peer)
  where
    by_domain : (own : Option ℕ) → AreOfSignals time (back_in time history peer own)
    by_domain None = tt
    by_domain (Some domain) = one_if time (is_lost_in history domain peer) (signal_entry time peer change.Back domain) (back_is time peer domain)

pub loss_signals : (settings : SettingsValue) (time : ℕ) (history : List Entry) (row : LastHeard) → AreOfSignals time (loss_of settings time history row)
loss_signals settings time history row =
    cond_both (is_silent (beating_at settings time history row.peer) time row.heard) (loss_in time history row.peer (own_domain settings row.peer)) [] (AreOfSignals time)
    (λ silent. by_domain (own_domain settings row.peer)) (λ never. tt)
  where
    by_domain : (own : Option ℕ) → AreOfSignals time (loss_in time history row.peer own)
    by_domain None = tt
    by_domain (Some domain) = one_if time (is_watched_in time history domain row.peer) (signal_entry time row.peer change.Lost domain) (lost_is time row.peer domain)

-- a tick adds such entries, and nothing else
abbrev pub Lapses : ℕ → List Entry → List Entry → Type 0
Lapses time history new = (extra : List Entry) × (new ≡ history ++ extra) × AreOfSignals time extra

pub history_lapses : (settings : SettingsValue) (time : ℕ) (history : List Entry) (rows : List LastHeard) → Lapses time history (history_lapsed settings time history rows)
history_lapses settings time history [] = ([], sym (append-nil history), tt)
history_lapses settings time history (row ∷ rows) =
    let loss = loss_of settings time history row in
    let rest = history_lapses settings time (history ++ loss) rows in
    (loss ++ rest.0, rest.1 ∙ append_assoc history loss rest.0, then_signals time loss rest.0 (loss_signals settings time history row) rest.2)

-- ---- what they leave

signal_no_loss : (c : Change) → is_loss c ≡ true → is_signal c ≡ false
unfolding is_loss is_signal
signal_no_loss change.Lost is = refl
signal_no_loss change.Back is = refl
signal_no_loss (change.Put put) is = absurd (false≢true is)
signal_no_loss (change.Withdraw mid) is = absurd (false≢true is)
signal_no_loss (change.SetConfig sid config) is = absurd (false≢true is)
signal_no_loss change.ClearConfig is = absurd (false≢true is)
signal_no_loss _ is = refl

-- a change of a signal puts no mitigation
pub puts_none : (time : ℕ) (e : Entry) → IsOfSignal time e → (put : Put) → e.change ≡ change.Put put → ⊥
unfolding is_loss
puts_none time e of put is = false≢true (sym (ap is_loss is) ∙ of.loss)

-- no message of anybody made it
pub signals_none : (time peer domain : ℕ) (e : Entry) → IsOfSignal time e → signals peer domain e ≡ false
unfolding signals
signals_none time peer domain e of = ap (λ b. b && ((e.peer == peer) && (e.domain == domain))) (signal_no_loss e.change of.loss)

tally_none : (time peer domain : ℕ) (es : List Entry) → AreOfSignals time es → tally (signals peer domain) es ≡ 0
tally_none time peer domain [] are = refl
tally_none time peer domain (e ∷ es) are = cc (signals_none time peer domain e are.0, tally_none time peer domain es are.1)

tally_both : (test : Entry → Bool) (xs ys : List Entry) → tally test (xs ++ ys) ≡ tally test xs + tally test ys
tally_both test [] ys = omega arith
tally_both test (x ∷ xs) ys = let more = tally_both test xs ys in omega (arith, more)

module _ (n t time : ℕ) (sent : Sent) (entry : Entry) where
  drop_front : (place : ℕ) (xs ys : List Entry) (x : Entry) → slice_get xs place ≡ Some x → drop (suc place) (xs ++ ys) ≡ drop (suc place) xs ++ ys
  drop_front place [] ys x there = absurd (cc there)
  drop_front zero (y ∷ xs) ys x there = refl
  drop_front (suc place) (y ∷ xs) ys x there = drop_front place xs ys x there

  get_front : (place : ℕ) (xs ys : List Entry) (x : Entry) → slice_get xs place ≡ Some x → slice_get (xs ++ ys) place ≡ Some x
  get_front place [] ys x there = absurd (cc there)
  get_front zero (y ∷ xs) ys x there = there
  get_front (suc place) (y ∷ xs) ys x there = get_front place xs ys x there

  -- an entry at a place is of the first list, or of the other
  which : (j : ℕ) (xs ys : List Entry) (later : Entry) → AreOfSignals time ys → slice_get (xs ++ ys) j ≡ Some later → (slice_get xs j ≡ Some later) ⊎ IsOfSignal time later
  which j [] [] later are found = absurd (cc found)
  which zero [] (y ∷ ys) later are found = inr (subst (IsOfSignal time) (cc found) are.0)
  which (suc j) [] (y ∷ ys) later are found = which j [] ys later are.1 found
  which zero (x ∷ xs) ys later are found = inl found
  which (suc j) (x ∷ xs) ys later are found = which j xs ys later are found

  pub repeats_on : (history extra : List Entry) → AreOfSignals time extra → IsRepeatOf n t history sent entry → IsRepeatOf n t (history ++ extra) sent entry
  repeats_on history extra are is = record {
    place = is.place;
    there = get_front is.place history extra entry is.there;
    of_both = is.of_both;
    recent =
        let same = ap (tally (signals sent.peer sent.domain)) (drop_front is.place history extra entry is.there) in
        let both = tally_both (signals sent.peer sent.domain) (drop (suc is.place) history) extra in
        let none = tally_none time sent.peer sent.domain extra are in
        omega (arith, same, both, none, is.recent);
    may = is.may;
    last = λ j later behind found of. by_which j later behind of (which j history extra later are found);
  }
    where
      by_which : (j : ℕ) (later : Entry) → is.place < j → signals sent.peer sent.domain later ≡ true → (slice_get history j ≡ Some later) ⊎ IsOfSignal time later
          → may_repeat t sent.id later.time later.key ≡ false
      by_which j later behind of (inl found) = is.last j later behind found of
      by_which j later behind of (inr signal) = absurd (false≢true (sym (signals_none time sent.peer sent.domain later signal) ∙ of))

pub back_repeats : (settings : SettingsValue) (state : State) (peer : ℕ) (x : Exchange) (domain : ℕ) (entry : Entry)
    → IsRepeatOf settings.limits.remembered state.time state.history (sent_for peer x domain) entry
    → IsRepeatOf settings.limits.remembered (hearing settings peer state).time (hearing settings peer state).history (sent_for peer x domain) entry
back_repeats settings state peer x domain entry is =
    repeats_on settings.limits.remembered state.time state.time (sent_for peer x domain) entry state.history (back_of settings state.time state.history peer)
    (back_signals settings state.time state.history peer) is
