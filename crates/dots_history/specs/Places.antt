-- What a history means, by places in the list of its entries, which are numbered from 0.
use Rattle.std.specs.Prelude.{◌≡◌, ℕ, suc, ◌+◌, ◌-◌, ◌<◌, ◌⊎◌, true, false, List, [], ◌∷◌, length, take, drop, filter, ◌||◌, Option, Some, None, slice_get}
use Rattle.dots_history.specs.declared.entry.Entry.{Entry}
use Rattle.dots_history.specs.Entries.{ends, withdraws, runs, is_signal, signals, may_repeat, is_held, undoes, reconfigures, is_lost, is_loss}
use Rattle.dots_history.specs.Histories.{or_else, tally}

-- no entry after place i ends this one
abbrev pub IsNotEnded : List Entry → ℕ → Entry → Type 0
IsNotEnded entries i put = (j : ℕ) (e : Entry) → i < j → slice_get entries j ≡ Some e → ends put e ≡ false

-- At place i is a mitigation that stands at time t: no later one ends it, none of the later entries withdraws it, and
-- its lifetime isn't over (RFC 9132, section 4.4.1).
pub record Stands (entries : List Entry) (i t : ℕ) (put : Entry) : Type 0 where
  pub there : slice_get entries i ≡ Some put
  pub not_ended : IsNotEnded entries i put
  pub not_withdrawn : (j : ℕ) (e : Entry) → i < j → slice_get entries j ≡ Some e → withdraws put e ≡ false
  pub granted : runs t put ≡ true

-- At place i is a mitigation that no later one ends, and that is terminating at time t: the first later entry that
-- withdraws it came while its lifetime wasn't over, less than 120 seconds ago (RFC 9132, section 4.4.4).
pub record Terminating (entries : List Entry) (i t : ℕ) (put : Entry) : Type 0 where
  pub there : slice_get entries i ≡ Some put
  pub not_ended : IsNotEnded entries i put
  pub place : ℕ
  pub withdrawal : Entry
  pub later : i < place
  pub found : slice_get entries place ≡ Some withdrawal
  pub is_withdrawal : withdraws put withdrawal ≡ true
  pub first : (j : ℕ) (e : Entry) → i < j → j < place → slice_get entries j ≡ Some e → withdraws put e ≡ false
  pub ran : runs withdrawal.time put ≡ true
  pub before : t < withdrawal.time + 120

-- the mitigation at place i is live at time t
abbrev pub Live : List Entry → ℕ → ℕ → Entry → Type 0
Live entries i t put = Stands entries i t put ⊎ Terminating entries i t put

-- At place i something was written that is held until it is undone, and no later entry undoes it.
pub record IsHeld (entries : List Entry) (i : ℕ) (e : Entry) : Type 0 where
  pub there : slice_get entries i ≡ Some e
  pub written : is_held e.change ≡ true
  pub not_undone : (j : ℕ) (x : Entry) → i < j → slice_get entries j ≡ Some x → undoes e x ≡ false

-- The signal of this peer is lost in its domain: at some place an entry says so, and no later one says that it is lost
-- anew, or back.
pub record IsLost (entries : List Entry) (peer domain : ℕ) : Type 0 where
  pub place : ℕ
  pub entry : Entry
  pub there : slice_get entries place ≡ Some entry
  pub lost : is_lost entry.change ≡ true
  pub of_peer : (entry.peer ≡ peer) × (entry.domain ≡ domain)
  pub not_since :
      (j : ℕ) (x : Entry) → place < j → slice_get entries j ≡ Some x → is_loss x.change ≡ true → x.peer ≡ peer → x.domain ≡ domain → ⊥

-- the last n
abbrev pub lasts : {A : Type 0} → ℕ → List A → List A
lasts n xs = drop (length xs - n) xs

-- the last, where there is one
abbrev pub last_of : {A : Type 0} → List A → Option A
last_of [] = None
last_of (x ∷ xs) = or_else (last_of xs) (Some x)

-- The entry whose reply the repeat of a message gets: of the last n signal entries of this peer and domain those are
-- taken whose message had this Message ID and may still be repeated at time t, and of these the last (RFC 7252, section
-- 4.5).
abbrev pub last_repeated : ℕ → ℕ → ℕ → ℕ → ℕ → List Entry → Option Entry
last_repeated n t peer domain id entries =
    last_of (filter (λ (e : Entry). may_repeat t id e.time e.key) (lasts n (filter (signals peer domain) entries)))

-- A history is calm where what ends or withdraws a mitigation that was live just before it, at its time, has its peer,
-- and where the session configurations of one peer are of one domain.
pub record IsCalm (entries : List Entry) : Type 0 where
  pub peers :
      (i j : ℕ) (put e : Entry) → i < j → slice_get entries i ≡ Some put → slice_get entries j ≡ Some e → Live (take j entries) i e.time put
      → ends put e || withdraws put e ≡ true → e.peer ≡ put.peer
  pub domains :
      (i j : ℕ) (e x : Entry) → i < j → slice_get entries i ≡ Some e → slice_get entries j ≡ Some x → reconfigures e x ≡ true → x.domain ≡ e.domain

-- Why the view at time t names the entry at place i, when n messages of a peer and domain are remembered: it is a live
-- mitigation; it is the first withdrawal of a terminating one; it is a signal entry with fewer than n of its peer and
-- domain after it; it is the last entry; or what it wrote is held.
pub data NamedAt (n t : ℕ) (entries : List Entry) (i : ℕ) (e : Entry) : Type 0 where
  mitigates : Live entries i t e → NamedAt n t entries i e
  withdrawn : (j : ℕ) (put : Entry) (terminating : Terminating entries j t put) → terminating.place ≡ i → NamedAt n t entries i e
  recent : is_signal e.change ≡ true → tally (signals e.peer e.domain) (drop (suc i) entries) < n → NamedAt n t entries i e
  last : suc i ≡ length entries → NamedAt n t entries i e
  holds : IsHeld entries i e → NamedAt n t entries i e
