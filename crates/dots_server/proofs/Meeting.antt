-- What is kept of a signal, or that nothing is.
use Rattle.std.proofs.Common.{◌≡◌, ◌≢◌, inl, inr, ℕ, Bool, true, false, List, [], ◌∷◌, ◌++◌, length, Option, Some, None, sym, ap, ◌∙◌, subst, arith, append-nil, length-append}
use Rattle.dots_host.specs.Acts.{Timed}
use Rattle.dots_host.specs.Media.{Media}
use Rattle.slot_store.proofs.Steps.{leaves_as}
use Rattle.dots_settings.specs.Settings.{SettingsValue}
use Rattle.dots_history.specs.declared.entry.Entry.{Entry}
use Rattle.dots_history.specs.declared.change.Change.{Change}
use Rattle.dots_history.specs.declared.change.Change.TheVariants as change
use Rattle.slot_store.specs.StoreValues.{JournalValue}
use Rattle.slot_journal.specs.DiskEntries as journal
use Rattle.slot_journal.specs.Kept.{HasKept}
use Rattle.dots_machine.specs.Signals.{signal_entry}
use Rattle.dots_machine.specs.Machine.{State, with_entry}
use Rattle.dots_server.specs.ServerValues.{ServerValue, RestartsWith}
use Rattle.dots_server.specs.HearingPeers.{as_heard, met}
use Rattle.dots_server.specs.Signals.{returned, signals}
use Rattle.dots_server.specs.Turning.{HasTurn, Wrote, Broke}
use Rattle.dots_server.proofs.Turning.{unwritten_wrote, broke_from}
use Rattle.dots_server.proofs.LostSignals.{back_found}

-- a peer was met: it was heard, and its signal is back where it was lost
pub met_is : (settings : SettingsValue) (heard : Bool) (peer : ℕ) (state : State)
    → met settings heard peer state ≡ record (as_heard heard peer state) { history = state.history ++ signals state.time peer change.Back (returned heard settings state.history peer) }
met_is settings true peer state = ap (λ more. record (as_heard true peer state) { history = state.history ++ more }) (back_found settings state.time state.history peer)
met_is settings false peer state = ap (λ es. record state { history = es }) (sym (append-nil state.history))

-- from another state with the same history
wrote_from : (settings : SettingsValue) (from old new : State) → from.history ≡ old.history → (Before After : (ℕ → ℕ) → Type 0) (media media_new : Option Media) (acts acts_new : Option (List Timed))
    → Wrote settings from new Before After media media_new acts acts_new → Wrote settings old new Before After media media_new acts acts_new
wrote_from settings from old new same Before After media media_new acts acts_new wrote = record {
  silent = wrote.silent;
  writes = λ rests. leaves_as media media_new (HasTurn settings from new) (HasTurn settings old new) same_start (wrote.writes rests);
  rests = wrote.rests;
}
  where
    same_start : (image : ℕ → ℕ) → HasTurn settings from new image → HasTurn settings old new image
    same_start image (inl holds) = inl (subst (λ es. HasKept settings settings.limits.remembered new.time es image) same holds)
    same_start image (inr holds) = inr holds

-- A server represents a state on the way from one to another, to which it comes by what is kept of a peer.
module _ (settings : SettingsValue) (state base to : State) (peer : ℕ) (c : Change) (o : Option ℕ) (same : base.history ≡ state.history)
    (to_is : to ≡ record base { history = base.history ++ signals base.time peer c o }) (old mid : ServerValue) (entries : List Entry) (journal_is : mid.journal ≡ old.journal) where
  abbrev UnchangedBy : ServerValue → Option Media → Option Media → Option (List Timed) → Option (List Timed) → Type 0
  UnchangedBy now media media_new acts acts_new =
      (few : List Entry) × RestartsWith now settings to few
      × Wrote settings state to (journal.Represents old.journal settings entries) (journal.Represents now.journal settings few) media media_new acts acts_new

  nothing_is : o ≡ None → base ≡ to
  nothing_is none =
      ap (λ es. record base { history = es }) (sym (append-nil base.history))
      ∙ ap (λ x. record base { history = base.history ++ signals base.time peer c x }) (sym none) ∙ sym to_is

  pub nothing_restarts : o ≡ None → RestartsWith mid settings base entries → (media : Option Media) (acts : Option (List Timed)) → UnchangedBy mid media media acts acts
  nothing_restarts none kept media acts = (
    entries,
    subst (λ (s : State). RestartsWith mid settings s entries) (nothing_is none) kept,
    subst (λ (j : JournalValue). Wrote settings state to (journal.Represents j settings entries) (journal.Represents mid.journal settings entries) media media acts acts) journal_is
        (unwritten_wrote settings state to (journal.Represents mid.journal settings entries) media acts),
  )

  module _ (domain : ℕ) (there : o ≡ Some domain) where
    one_is : with_entry base (signal_entry base.time peer c domain) ≡ to
    one_is = ap (λ x. record base { history = base.history ++ signals base.time peer c x }) (sym there) ∙ sym to_is

    module _ (now : ServerValue) (media media_new : Option Media) (acts acts_new : Option (List Timed)) where
      pub one_restarts : (few : List Entry) → RestartsWith now settings (with_entry base (signal_entry base.time peer c domain)) few
          → Wrote settings base (with_entry base (signal_entry base.time peer c domain)) (journal.Represents mid.journal settings entries) (journal.Represents now.journal settings few) media media_new acts acts_new
          → UnchangedBy now media media_new acts acts_new
      one_restarts few kept wrote = (
        few,
        subst (λ (s : State). RestartsWith now settings s few) one_is kept,
        subst (λ (j : JournalValue). Wrote settings state to (journal.Represents j settings entries) (journal.Represents now.journal settings few) media media_new acts acts_new) journal_is
            (wrote_from settings base state to same (journal.Represents mid.journal settings entries) (journal.Represents now.journal settings few) media media_new acts acts_new
            (subst (λ (s : State). Wrote settings base s (journal.Represents mid.journal settings entries) (journal.Represents now.journal settings few) media media_new acts acts_new) one_is wrote)),
      )

      pub one_broke : Broke settings base (with_entry base (signal_entry base.time peer c domain)) (journal.Represents mid.journal settings entries) media media_new acts acts_new
          → (to.history ≢ state.history) × Broke settings state to (journal.Represents old.journal settings entries) media media_new acts acts_new
      one_broke broke = (
        λ none. more_than (ap (λ (s : State). s.history) one_is ∙ none ∙ sym same),
        subst (λ (j : JournalValue). Broke settings state to (journal.Represents j settings entries) media media_new acts acts_new) journal_is
            (broke_from settings base state to same (journal.Represents mid.journal settings entries) media media_new acts acts_new
            (subst (λ (s : State). Broke settings base s (journal.Represents mid.journal settings entries) media media_new acts acts_new) one_is broke)),
      )
        where
          more_than : base.history ++ signal_entry base.time peer c domain ∷ [] ≡ base.history → ⊥
          more_than none =
              let longer = length-append base.history (signal_entry base.time peer c domain ∷ []) in
              let is = ap length none in
              omega (arith, longer, is)
