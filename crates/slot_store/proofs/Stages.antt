-- The four calls of the opening of a gate, one after the other.
use Rattle.std.proofs.Common.{◌≡◌, inr, ℕ, ◌+◌, List, [], ◌∷◌, length, Option, refl, ◌∙◌}
use Rattle.dots_host.specs.Media.{Medium, Media, overwritten, written, settled, IsTorn}
use Rattle.dots_host.specs.Becoming.{Becomes, MayBecome, Stays, Leaves, RestsWith}
use Rattle.slot_store.specs.Opening.{IsOpening, IsOpened, Is}
use Rattle.slot_store.proofs.Steps.{Now, Images, Rests, begins, rests_now, leaves_more, leaves_lost, now_then, rests_with}
use Rattle.slot_store.proofs.Places.{same_bytes}
use Rattle.slot_store.proofs.OpeningLemmas.{Wrote, Opened, behind, behind_torn, wrote_behind, images_behind, images_opening, opens_torn, opened, settled_opened, rests_settled, images_at_rest, images_stay, same_outside, bytes_stand}

-- what was left at each moment, and what is now
pub record Stage (start new : Option Media) (P : (ℕ → ℕ) → Type 0) (Q : Medium → Type 0) : Type 0 where
  pub leaves : Leaves start new P
  pub now : Now new Q

pub more : (start between new : Option Media) (P : (ℕ → ℕ) → Type 0) (Q R : Medium → Type 0) (Step : Medium → Medium → Type 0) → Stage start between P Q → Becomes between new Step
    → ((old now : Medium) → Q old → Step old now → R now) → ((now : Medium) → R now → Images P now) → Stage start new P R
more start between new P Q R Step stage becomes goes images = record {
  leaves = leaves_more start between new P Q Step stage.leaves stage.now becomes (λ old now q step. images now (goes old now q step));
  now = now_then between new Q R Step stage.now becomes goes;
}

pub lost : (start between new : Option Media) (P : (ℕ → ℕ) → Type 0) (Q R : Medium → Type 0) (Step : Medium → Medium → Type 0) → Stage start between P Q → MayBecome between new Step
    → ((old now : Medium) → Q old → Step old now → R now) → ((now : Medium) → R now → Images P now) → Leaves start new P
lost start between new P Q R Step stage becomes goes images = leaves_lost start between new P Q Step stage.leaves stage.now becomes (λ old now q step. images now (goes old now q step))

-- a failed sync
pub unsynced : (start between new : Option Media) (P : (ℕ → ℕ) → Type 0) (Q : Medium → Type 0) → Stage start between P Q → MayBecome between new Stays → ((now : Medium) → Q now → Images P now) → Leaves start new P
unsynced start between new P Q stage becomes images = leaves_lost start between new P Q Stays stage.leaves stage.now becomes (λ old now q step. images_stay old now P step (images old q))

-- a disk at rest whose bytes stand behind the gate
images_written : (seen : ℕ → ℕ) (at : ℕ) (bytes : List ℕ) (now : Medium) → Rests (overwritten seen (at + 1) bytes) now → Images (IsOpening seen at bytes) now
images_written seen at bytes now rests = images_at_rest (overwritten seen (at + 1) bytes) now (IsOpening seen at bytes) rests (λ image same. record {
  kept = same_outside seen at bytes image (λ place outside. same place);
  gate = inr (bytes_stand seen at bytes image (λ place low. same place));
})

pub no_call : (start : Option Media) (seen : ℕ → ℕ) (P : (ℕ → ℕ) → Type 0) → RestsWith start (Is seen) → Stage start start P (Rests seen)
no_call start seen P rests = record { leaves = begins start P; now = rests_now start seen rests }

pub write_lost : (start new : Option Media) (seen : ℕ → ℕ) (at : ℕ) (bytes : List ℕ) → RestsWith start (Is seen) → MayBecome start new (IsTorn (at + 1) (length bytes)) → Leaves start new (IsOpening seen at bytes)
write_lost start new seen at bytes rests becomes = lost start start new (IsOpening seen at bytes) (Rests seen) _ (IsTorn (at + 1) (length bytes)) (no_call start seen (IsOpening seen at bytes) rests) becomes
    (behind_torn seen at (length bytes)) (images_behind seen at bytes)

pub write_done : (start new : Option Media) (seen : ℕ → ℕ) (at : ℕ) (bytes : List ℕ) → RestsWith start (Is seen) → Becomes start new (λ old now. now ≡ written old (at + 1) bytes)
    → Stage start new (IsOpening seen at bytes) (Wrote seen at bytes)
write_done start new seen at bytes rests becomes = more start start new (IsOpening seen at bytes) (Rests seen) (Wrote seen at bytes) (λ old now. now ≡ written old (at + 1) bytes) (no_call start seen (IsOpening seen at bytes) rests) becomes
    (wrote_behind seen at bytes) (λ now wrote. images_behind seen at bytes now (behind seen at bytes now wrote))

pub sync_lost : (start between new : Option Media) (seen : ℕ → ℕ) (at : ℕ) (bytes : List ℕ) → Stage start between (IsOpening seen at bytes) (Wrote seen at bytes) → MayBecome between new Stays → Leaves start new (IsOpening seen at bytes)
sync_lost start between new seen at bytes stage becomes = unsynced start between new (IsOpening seen at bytes) (Wrote seen at bytes) stage becomes (λ now wrote. images_behind seen at bytes now (behind seen at bytes now wrote))

pub sync_done : (start between new : Option Media) (seen : ℕ → ℕ) (at : ℕ) (bytes : List ℕ) → Stage start between (IsOpening seen at bytes) (Wrote seen at bytes) → Becomes between new (λ old now. now ≡ settled old)
    → Stage start new (IsOpening seen at bytes) (Rests (overwritten seen (at + 1) bytes))
sync_done start between new seen at bytes stage becomes = more start between new (IsOpening seen at bytes) (Wrote seen at bytes) (Rests (overwritten seen (at + 1) bytes)) (λ old now. now ≡ settled old) stage becomes
    (λ old now wrote is. rests_settled (overwritten seen (at + 1) bytes) old now wrote.same is) (images_written seen at bytes)

pub open_lost : (start between new : Option Media) (seen : ℕ → ℕ) (at : ℕ) (bytes : List ℕ) → Stage start between (IsOpening seen at bytes) (Rests (overwritten seen (at + 1) bytes)) → MayBecome between new (IsTorn at 1)
    → Leaves start new (IsOpening seen at bytes)
open_lost start between new seen at bytes stage becomes = lost start between new (IsOpening seen at bytes) (Rests (overwritten seen (at + 1) bytes)) _ (IsTorn at 1) stage becomes (opens_torn seen at bytes) (images_opening seen at bytes)

pub open_done : (start between new : Option Media) (seen : ℕ → ℕ) (at : ℕ) (bytes : List ℕ) → Stage start between (IsOpening seen at bytes) (Rests (overwritten seen (at + 1) bytes)) → Becomes between new (λ old now. now ≡ written old at (165 ∷ []))
    → Stage start new (IsOpening seen at bytes) (Opened seen at bytes)
open_done start between new seen at bytes stage becomes = more start between new (IsOpening seen at bytes) (Rests (overwritten seen (at + 1) bytes)) (Opened seen at bytes) (λ old now. now ≡ written old at (165 ∷ [])) stage becomes
    (opened seen at bytes) (λ now is. images_opening seen at bytes now is.opens)

pub last_lost : (start between new : Option Media) (seen : ℕ → ℕ) (at : ℕ) (bytes : List ℕ) → Stage start between (IsOpening seen at bytes) (Opened seen at bytes) → MayBecome between new Stays → Leaves start new (IsOpening seen at bytes)
last_lost start between new seen at bytes stage becomes = unsynced start between new (IsOpening seen at bytes) (Opened seen at bytes) stage becomes (λ now is. images_opening seen at bytes now is.opens)

images_opened : (seen : ℕ → ℕ) (at : ℕ) (bytes : List ℕ) (old now : Medium) → Opened seen at bytes old → now ≡ settled old → Images (IsOpening seen at bytes) now
images_opened seen at bytes old now is same =
    let done = settled_opened seen at bytes old now is same in
    images_at_rest now.seen now (IsOpening seen at bytes) (record { none = done.0; same = refl }) (λ image agree. record {
      kept = λ place outside. agree place ∙ done.1.kept place outside;
      gate = inr (same_bytes now.seen image (at + 1) (length bytes) (λ place low high. agree place) ∙ done.1.bytes);
    })

pub last_left : (start between new : Option Media) (seen : ℕ → ℕ) (at : ℕ) (bytes : List ℕ) → Stage start between (IsOpening seen at bytes) (Opened seen at bytes) → Becomes between new (λ old now. now ≡ settled old)
    → Leaves start new (IsOpening seen at bytes)
last_left start between new seen at bytes stage becomes = leaves_more start between new (IsOpening seen at bytes) (Opened seen at bytes) (λ old now. now ≡ settled old) stage.leaves stage.now becomes (images_opened seen at bytes)

pub last_done : (start between new : Option Media) (seen : ℕ → ℕ) (at : ℕ) (bytes : List ℕ) → RestsWith start (Is seen) → Stage start between (IsOpening seen at bytes) (Opened seen at bytes) → Becomes between new (λ old now. now ≡ settled old)
    → RestsWith new (IsOpened seen at bytes)
last_done start between new seen at bytes rests stage becomes = rests_with start new (IsOpening seen at bytes) (IsOpened seen at bytes) (Is seen) (λ now. (now.pending ≡ []) × IsOpened seen at bytes now.seen) rests
    (last_left start between new seen at bytes stage becomes) (now_then between new (Opened seen at bytes) (λ now. (now.pending ≡ []) × IsOpened seen at bytes now.seen) (λ old now. now ≡ settled old) stage.now becomes (settled_opened seen at bytes)) (λ now is. is)
