-- No client of the world asks for a mitigation that waits, so no signal is lost, and none comes back.
use Rattle.std.proofs.Common.{◌≡◌, ◌⊎◌, inl, inr, ℕ, Bool, true, false, not, ◌==◌, ◌&&◌, ◌||◌, option_to_list, cond, if◌then◌else◌, List, [], ◌∷◌, ◌++◌, map, filter, Option, Some, None, Contains, refl, sym, ap, ◌∙◌, subst, append-nil}
use Rattle.std.proofs.lemmas.Bool.{cond_both, cond-false}
use Rattle.std.specs.List.{list_any}
use Rattle.dots_settings.specs.Settings.{SettingsValue}
use Rattle.dots_history.specs.declared.entry.Entry.{Entry}
use Rattle.dots_history.specs.declared.put.Put.{Put}
use Rattle.dots_history.specs.declared.change.Change.{Change}
use Rattle.dots_history.specs.declared.change.Change.TheVariants as change
use Rattle.dots_history.specs.Entries.{is_lost}
use Rattle.dots_history.specs.Rows.{waits}
use Rattle.dots_history.specs.Histories.{Mitigation, live, status, mitigations, stays, held, alone}
use Rattle.dots_history.specs.Held.{is_lost_of}
use Rattle.dots_history.specs.HistoryReading.{is_waiting}
use Rattle.dots_machine.specs.ConfiguredPeers.{beating_at}
use Rattle.dots_machine.specs.Signals.{own_domain, LastHeard, is_silent, is_lost_in, is_watched_in, loss_in, loss_of, history_lapsed, back_in, back_of}
use Rattle.dots_world.specs.Adding.{AddsBack}
use Rattle.dots_world.specs.Worlds.{Aim, mitigates, withdraws}
use Rattle.dots_world.specs.Granted.{Carries}
use Rattle.dots_world.proofs.Lists.{contains_first, contains_more}
use Rattle.dots_history.specs.declared.status.Status.TheVariants.{Open}

-- it filters at once, and no signal is lost by it
pub record IsAtOnce (e : Entry) : Type 0 where
  pub no_wait : waits e.change ≡ false
  pub no_loss : is_lost e.change ≡ false

-- so is each entry
abbrev pub AtOnce : List Entry → Type 0
AtOnce entries = (e : Entry) → Contains entries e → IsAtOnce e

waits_not : (put : Put) → put.trigger ≡ true → waits (change.Put put) ≡ false
waits_not put is = ap not is

lost_not : (put : Put) → is_lost (change.Put put) ≡ false
unfolding is_lost
lost_not put = refl

withdrawal_lost_not : (mid : ℕ) → is_lost (change.Withdraw mid) ≡ false
unfolding is_lost
withdrawal_lost_not mid = refl

pub carried_at_once : (settings : SettingsValue) (aim : Aim) (mid : ℕ) (e : Entry) → Carries settings aim mid e → IsAtOnce e
carried_at_once settings (mitigates asked lifetime) mid e (put, is, mid_is, asked_is, granted_is, at_once) =
    record { no_wait = ap waits is ∙ waits_not put at_once; no_loss = ap is_lost is ∙ lost_not put }
carried_at_once settings withdraws mid e is = record { no_wait = ap waits is; no_loss = ap is_lost is ∙ withdrawal_lost_not mid }

-- ---- nothing waits, and nothing is lost

abbrev Each : List Entry → Type 0
Each [] = Unit {0}
Each (e ∷ es) = IsAtOnce e × Each es

each_of : (es : List Entry) → AtOnce es → Each es
each_of [] all = tt
each_of (e ∷ es) all = (all e (contains_first e es), each_of es (λ x there. all x (contains_more e es x there)))

each_alone : (domain : ℕ) (es : List Entry) → Each es → Each (alone domain es)
each_alone domain [] each = tt
each_alone domain (e ∷ es) each =
    cond_both (e.domain == domain) (e ∷ alone domain es) (alone domain es) Each (λ yes. (each.0, each_alone domain es each.1)) (λ never. each_alone domain es each.1)

and_not : (a b : Bool) → b ≡ false → (a && b) ≡ false
and_not true b is = is
and_not false b is = refl

not_and : (a b : Bool) → a ≡ false → (a && b) ≡ false
not_and a b is = ap (λ a. a && b) is

neither : (a b : Bool) → a ≡ false → b ≡ false → (a || b) ≡ false
neither true b is also = absurd (cc is)
neither false b is also = also

-- among what each entry comes to by those after it there is none that passes, where none does at its own entry
none_waits : (t peer : ℕ) (es : List Entry) → Each es → is_waiting t es peer ≡ false
none_waits t peer [] each = refl
none_waits t peer (e ∷ es) each = by_live (live t e (status e Open es)) (none_waits t peer es each.1)
  where
    by_live : (lives : Bool) → list_any (λ (m : Mitigation). (m.put.peer == peer) && waits m.put.change) (mitigations t es) ≡ false
        → list_any (λ (m : Mitigation). (m.put.peer == peer) && waits m.put.change)
        (option_to_list (if lives then Some (record { put = e; status = status e Open es }) else None) ++ mitigations t es) ≡ false
    by_live true rest = neither _ _ (and_not (e.peer == peer) (waits e.change) each.0.no_wait) rest
    by_live false rest = rest

none_lost : (peer : ℕ) (es : List Entry) → Each es → is_lost_of (held es) peer ≡ false
none_lost peer [] each = refl
none_lost peer (e ∷ es) each = by_stay (stays e es) (none_lost peer es each.1)
  where
    by_stay : (stay : Bool) → is_lost_of (held es) peer ≡ false → is_lost_of (option_to_list (if stay then Some e else None) ++ held es) peer ≡ false
    by_stay true rest = neither _ _ (not_and (is_lost e.change) (e.peer == peer) each.0.no_loss) rest
    by_stay false rest = rest

-- ---- what that leaves

module _ (settings : SettingsValue) (time : ℕ) (history : List Entry) (each : Each history) where
  none_back : (peer : ℕ) (own : Option ℕ) → back_in time history peer own ≡ []
  none_back peer None = refl
  none_back peer (Some domain) = cond-false (is_lost_in history domain peer) _ [] (none_lost peer (alone domain history) (each_alone domain history each))

  none_loss : (row : LastHeard) (own : Option ℕ) → loss_in time history row.peer own ≡ []
  none_loss row None = refl
  none_loss row (Some domain) =
      cond-false (is_watched_in time history domain row.peer) _ []
      (not_and (is_waiting time (alone domain history) row.peer) (not (is_lost_in history domain row.peer)) (none_waits time row.peer (alone domain history) (each_alone domain history each)))

  no_loss_of : (row : LastHeard) → loss_of settings time history row ≡ []
  no_loss_of row =
      cond_both (is_silent (beating_at settings time history row.peer) time row.heard) (loss_in time history row.peer (own_domain settings row.peer)) [] (λ es. es ≡ [])
      (λ silent. none_loss row (own_domain settings row.peer)) (λ never. refl)

  none_lapsed : (rows : List LastHeard) → history_lapsed settings time history rows ≡ history
  none_lapsed [] = refl
  none_lapsed (row ∷ rows) =
      ap (λ es. history_lapsed settings time es rows) (ap (λ es. history ++ es) (no_loss_of row) ∙ append-nil history) ∙ none_lapsed rows

  none_met : (peer : ℕ) (met : List Entry) → AddsBack settings time peer history met → met ≡ history
  none_met peer met (inl same) = same
  none_met peer met (inr more) = more ∙ ap (λ es. history ++ es) (none_back peer (own_domain settings peer)) ∙ append-nil history

pub nothing_lapses : (settings : SettingsValue) (time : ℕ) (history : List Entry) (rows : List LastHeard) → AtOnce history → history_lapsed settings time history rows ≡ history
nothing_lapses settings time history rows all = none_lapsed settings time history (each_of history all) rows

pub nothing_back : (settings : SettingsValue) (time peer : ℕ) (history met : List Entry) → AtOnce history → AddsBack settings time peer history met → met ≡ history
nothing_back settings time peer history met all = none_met settings time history (each_of history all) peer met
