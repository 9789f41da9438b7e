-- Which mitigations stand beside each other: what an operator may rely on.
use Rattle.std.specs.Prelude.{◌≡◌, ◌≢◌, ℕ, ◌<◌, ◌≤◌, true, false, List, [], ◌∷◌, take, Some, slice_get, ⊤}
use Rattle.dots_host.specs.Acts.{WireAct, took, gave, Timed}
use Rattle.dots_history.specs.declared.entry.Entry.{Entry}
use Rattle.dots_history.specs.declared.put.Put.{Put}
use Rattle.dots_history.specs.declared.change.Change.TheVariants as change
use Rattle.dots_history.specs.Entries.{ends, targets_meet}
use Rattle.dots_history.specs.Fits.{last_time}
use Rattle.conflict_rules.specs.Judgements.{StandsIn}
use Rattle.dots_machine.specs.Machine.{State}

-- No two mitigations of a domain that stand at the time have an address in common, of whichever clients they are; but of one client
-- one that filters at once may have, and one that waits for a lost signal.
abbrev pub ShareNone : ℕ → List Entry → Type 0
ShareNone t entries =
    (domain i j : ℕ) (a b : Entry) (one other : Put) → i ≢ j → StandsIn domain t entries i a one → StandsIn domain t entries j b other
    → (a.cuid ≡ b.cuid → one.trigger ≡ other.trigger) → targets_meet one other ≡ false

-- Of two of one client the one with the higher mid stands: where a mitigation ended one that stood when it came, by overlapping with it, with
-- its trigger value, or by having its mid, its mid isn't the lower one.
abbrev pub HigherStays : List Entry → Type 0
HigherStays entries =
    (domain i j : ℕ) (a b : Entry) (one other : Put) → i < j → slice_get entries j ≡ Some b → b.change ≡ change.Put other
    → StandsIn domain b.time (take j entries) i a one → ends a b ≡ true → one.mid ≤ other.mid

-- The time isn't before that of the last entry; at each time from that one on they share none; and the higher stays.
pub record IsOrderly (state : State) : Type 0 where
  pub timely : last_time state.history ≤ state.time
  pub share_none : (t : ℕ) → last_time state.history ≤ t → ShareNone t state.history
  pub higher_stays : HigherStays state.history

-- ---- after a crash, too

-- The time isn't before that of the last entry; and at each time from that one on, and from this one on, they share none. A clock that runs backwards over a crash
-- may make one stand again that was over.
pub record SharesNoneSince (since : ℕ) (state : State) : Type 0 where
  pub timely : last_time state.history ≤ state.time
  pub share_none : (t : ℕ) → since ≤ t → last_time state.history ≤ t → ShareNone t state.history

-- and so at each time from that of the last entry on
abbrev pub SharesNone : State → Type 0
SharesNone state = SharesNoneSince 0 state

-- no event of these acts came before this time
abbrev pub CameSince : ℕ → WireAct → Type 0
CameSince since (took event at) = since ≤ at
CameSince since (gave out done) = ⊤

abbrev pub AllCameSince : ℕ → List Timed → Type 0
AllCameSince since [] = ⊤
AllCameSince since (timed ∷ acts) = CameSince since timed.act × AllCameSince since acts
