-- Places of connections after a write at one of them.
use Rattle.std.proofs.Common.{◌≡◌, ◌≢◌, ℕ, ◌+◌, ◌%◌, ◌<◌, ◌≤◌, true, zero, suc, List, [], ◌∷◌, ◌++◌, length, Option, None, get_or, set, refl, sym, ap, ◌∙◌, subst, inl, inr, arith, get_or-set_same, get_or-set_other}
use Rattle.std.proofs.lemmas.Bool.{cases_eq}
use Rattle.std.proofs.lemmas.List.{get_or_read}
use Rattle.dots_edge.specs.declared.connection.Connection.{Connection}
use Rattle.dots_edge.specs.Idle.{idle_at, sound_at, ahead, AreIdleBeyond, AreSound}
use Rattle.dots_edge.specs.Places.{is_opened}

-- one place more without a connection
pub none_more : {X : Type 0} (places : List (Option X)) → ((place : ℕ) → get_or places place None ≡ None) → (place : ℕ) → get_or (places ++ None ∷ []) place None ≡ None
none_more [] none zero = refl
none_more [] none (suc place) = refl
none_more (x ∷ places) none zero = none zero
none_more (x ∷ places) none (suc place) = none_more places (λ other. none (suc other)) place

-- what holds at each other place, and of what is written, holds at each place
pub each_written : {X : Type 0} (places : List (Option X)) (at : ℕ) (new : Option X) (P : ℕ → Option X → Type 0) → at < length places → ((place : ℕ) → P place (get_or places place None)) → P at new → (place : ℕ) → P place (get_or (set places at new) place None)
each_written places at new P inside old here place =
    elim (cases_eq place at) [
      | inl same ↦ subst (λ p. P p (get_or (set places at new) p None)) (sym same) (subst (P at) (sym (get_or-set_same places at new None inside)) here)
      | inr other ↦ subst (P place) (sym (get_or-set_other places at place new None other)) (old place)
    ]

pub sound_written : (places : List (Option Connection)) (at : ℕ) (old new : Option Connection) → at < length places → old ≡ get_or places at old → AreSound places → (sound_at old ≡ true → sound_at new ≡ true) → AreSound (set places at new)
sound_written places at old new inside read sound keeps =
    each_written places at new (λ place found. place < 128 → sound_at found ≡ true) inside sound
    (λ lt. keeps (subst (λ found. sound_at found ≡ true) (sym (get_or_read places at old inside read None)) (sound at lt)))

pub idle_written : (places : List (Option Connection)) (turn looks at : ℕ) (old new : Option Connection) → at < length places → old ≡ get_or places at old → AreIdleBeyond places turn looks → (looks ≤ ahead turn at → idle_at old ≡ true → idle_at new ≡ true) → AreIdleBeyond (set places at new) turn looks
idle_written places turn looks at old new inside read idle keeps =
    each_written places at new (λ place found. place < 128 → looks ≤ ahead turn place → idle_at found ≡ true) inside idle
    (λ lt beyond. keeps beyond (subst (λ found. idle_at found ≡ true) (sym (get_or_read places at old inside read None)) (idle at lt beyond)))

-- no place is farther ahead than all of them
pub none_beyond : (turn place : ℕ) → 128 ≤ ahead turn place → ⊥
none_beyond turn place far = omega arith

-- the place that has the turn is the first
pub turn_first : (turn : ℕ) → ahead turn (turn % 128) ≡ 0
turn_first turn = omega arith

-- once the turn has gone on, the place that had it is the last
pub turn_last : (turn : ℕ) → ahead (turn % 128 + 1) (turn % 128) ≡ 127
turn_last turn = omega arith

-- and any other is nearer by one
pub turn_nearer : (turn place : ℕ) → place < 128 → place ≢ turn % 128 → ahead (turn % 128 + 1) place + 1 ≡ ahead turn place
turn_nearer turn place within other = omega arith

-- the place that is so many ahead
pub place_ahead : (turn place count : ℕ) → place < 128 → ahead turn place ≡ count → place ≡ (turn + count) % 128
place_ahead turn place count within is = omega arith

-- what was open at each place is open still, where it is so at the one that was written
pub opened_written : (places : List (Option Connection)) (at : ℕ) (old new : Option Connection) → at < length places → old ≡ get_or places at old → is_opened new ≡ is_opened old → (place : ℕ) → is_opened (get_or (set places at new) place None) ≡ is_opened (get_or places place None)
opened_written places at old new inside read same =
    each_written places at new (λ place found. is_opened found ≡ is_opened (get_or places place None)) inside (λ place. refl)
    (same ∙ ap is_opened (get_or_read places at old inside read None))
