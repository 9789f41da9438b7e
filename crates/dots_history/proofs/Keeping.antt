-- What a keeper keeps of a list of entries.
use Rattle.std.proofs.Common.{◌≡◌, ℕ, ◌≤◌, Bool, true, false, List, [], ◌∷◌, inl, inr, refl, le_trans}
use Rattle.std.proofs.lemmas.Bool.{cond_both}
use Rattle.dots_history.specs.declared.entry.Entry.{Entry}
use Rattle.dots_history.specs.Histories.{Mitigation, Within, IsPart, is_recent}
use Rattle.dots_history.specs.Keeping.{pass, kept_by}
use Rattle.dots_history.proofs.Recents.{HasRecent, left_here}

abbrev pub Keeper : Type 0
Keeper = List Mitigation → Entry → List Entry → Bool

-- by what it does with the first entry
pub by_first : (keep : Keeper) (passed : List Mitigation) (e : Entry) (later : List Entry) (P : List Entry → Type 0)
    → (keep passed e later ≡ true → P (e ∷ kept_by keep (pass passed e) later))
    → (keep passed e later ≡ false → P (kept_by keep (pass passed e) later))
    → P (kept_by keep passed (e ∷ later))
by_first keep passed e later P is out =
    cond_both (keep passed e later) (e ∷ kept_by keep (pass passed e) later) (kept_by keep (pass passed e) later) P is out

-- it is a part
part_more : (xs : List Entry) (y : Entry) (ys : List Entry) → IsPart xs ys → IsPart xs (y ∷ ys)
part_more [] y ys part = record {}
part_more (x ∷ xs) y ys part = inr part

pub kept_is_part : (keep : Keeper) (passed : List Mitigation) (entries : List Entry) → IsPart (kept_by keep passed entries) entries
kept_is_part keep passed [] = record {}
kept_is_part keep passed (e ∷ later) =
    by_first
    keep
    passed
    e
    later
    (λ es. IsPart es (e ∷ later))
    (λ is. inl (refl, kept_is_part keep (pass passed e) later))
    (λ out. part_more (kept_by keep (pass passed e) later) e later (kept_is_part keep (pass passed e) later))

-- its times don't fall
pub within_more : (low between high : ℕ) (entries : List Entry) → low ≤ between → Within between entries high → Within low entries high
within_more low between high [] less within = le_trans less within
within_more low between high (e ∷ later) less within = (le_trans less within.0, within.1)

pub kept_within : (keep : Keeper) (passed : List Mitigation) (low high : ℕ) (entries : List Entry) → Within low entries high → Within low (kept_by keep passed entries) high
kept_within keep passed low high [] within = within
kept_within keep passed low high (e ∷ later) within =
    by_first
    keep
    passed
    e
    later
    (λ es. Within low es high)
    (λ is. (within.0, kept_within keep (pass passed e) e.time high later within.1))
    (λ out. within_more low e.time high (kept_by keep (pass passed e) later) within.0 (kept_within keep (pass passed e) e.time high later within.1))

-- a keeper of the recent ones
abbrev pub KeepsRecent : ℕ → Keeper → Type 0
KeepsRecent n keep = (passed : List Mitigation) (e : Entry) (later : List Entry) → keep passed e later ≡ false → is_recent n e later ≡ false

pub keeps_recent : (n : ℕ) (keep : Keeper) (passed : List Mitigation) (entries : List Entry) → KeepsRecent n keep → HasRecent n (kept_by keep passed entries) entries
keeps_recent n keep passed [] keeps = record {}
keeps_recent n keep passed (e ∷ later) keeps =
    by_first
    keep
    passed
    e
    later
    (λ es. HasRecent n es (e ∷ later))
    (λ is. inl (refl, keeps_recent n keep (pass passed e) later keeps))
    (λ out. left_here n (kept_by keep (pass passed e) later) e later (keeps passed e later out) (keeps_recent n keep (pass passed e) later keeps))
