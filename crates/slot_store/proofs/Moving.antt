-- A half that is copied, and then named by the selector.
use Rattle.std.proofs.Common.{inl, inr, ℕ, ◌-◌, List, Option}
use Rattle.dots_host.specs.Media.{Media}
use Rattle.dots_host.specs.Becoming.{Leaves, RestsWith}
use Rattle.slot_store.specs.declared.format.Format.{Format}
use Rattle.slot_store.specs.Copying.{Elsewhere, BesideHalf, HalfIsCopied, IsMoving, IsMoved, IsSelected}
use Rattle.slot_store.specs.Opening.{Is}
use Rattle.slot_store.proofs.Steps.{leaves_as, leaves_then, seen_at_rest, rests_as}

pub move_copied : (start between : Option Media) (slots half : ℕ) (format : Format) (keep : List ℕ) (seen : ℕ → ℕ) → Leaves start between (BesideHalf slots (1 - half) seen) → Leaves start between (IsMoving slots half format keep seen)
move_copied start between slots half format keep seen leaves = leaves_as start between (BesideHalf slots (1 - half) seen) (IsMoving slots half format keep seen) (λ image elsewhere. inl elsewhere) leaves

pub move_selects : (start between new : Option Media) (slots half : ℕ) (format : Format) (keep : List ℕ) (seen : ℕ → ℕ) → Leaves start between (BesideHalf slots (1 - half) seen) → RestsWith between (HalfIsCopied slots half format keep seen)
    → ((copied : ℕ → ℕ) → RestsWith between (Is copied) → Leaves between new (Elsewhere copied 48 1)) → Leaves start new (IsMoving slots half format keep seen)
move_selects start between new slots half format keep seen leaves rests moments =
    let found = seen_at_rest between (HalfIsCopied slots half format keep seen) rests in
    leaves_then start between new (IsMoving slots half format keep seen) (move_copied start between slots half format keep seen leaves)
    (leaves_as between new (Elsewhere found.0 48 1) (IsMoving slots half format keep seen) (λ image elsewhere. inr (found.0, found.2, elsewhere)) (moments found.0 found.1))

pub move_rests : (between new : Option Media) (slots half : ℕ) (format : Format) (keep : List ℕ) (seen : ℕ → ℕ) (selector : ℕ) → RestsWith between (HalfIsCopied slots half format keep seen) → ((copied : ℕ → ℕ) → RestsWith between (Is copied) → RestsWith new (IsSelected copied selector))
    → RestsWith new (IsMoved slots half format keep seen selector)
move_rests between new slots half format keep seen selector rests selected =
    let found = seen_at_rest between (HalfIsCopied slots half format keep seen) rests in
    rests_as new (IsSelected found.0 selector) (IsMoved slots half format keep seen selector) (λ image is. (found.0, found.2, is)) (selected found.0 found.1)
