-- The calls by which a slot is written and its gate opened.
use Rattle.std.proofs.Common.{◌≡◌, ◌⊎◌, inl, inr, ℕ, ◌+◌, ◌<◌, ◌≤◌, List, [], ◌∷◌, length, sym, ap, subst, ◌∙◌, arith}
use Rattle.dots_host.specs.Media.{Medium, Outside, IsImage, bytes_at, overwritten, written, settled, IsTorn}
use Rattle.slot_store.specs.Opening.{IsOpening, IsOpened}
use Rattle.dots_host.proofs.WrittenLemmas.{overwritten_outside, overwritten_byte, bytes_written}
use Rattle.slot_store.proofs.Places.{same_bytes}
use Rattle.slot_store.proofs.Steps.{Images, Rests, image_at_rest}

-- an image while one range is pending is as what a read gives elsewhere
pub outside_one : (medium : Medium) (image : ℕ → ℕ) (at count place : ℕ) → medium.pending ≡ (at, count) ∷ [] → IsImage medium image → (place < at ⊎ at + count ≤ place) → image place ≡ medium.seen place
outside_one medium image at count place pending is outside = is place (subst (λ ranges. Outside ranges place) (sym pending) (outside, tt))

-- bytes behind the closed gate are being written, or have been
pub record Behind (seen : ℕ → ℕ) (at count : ℕ) (medium : Medium) : Type 0 where
  pub pending : medium.pending ≡ (at + 1, count) ∷ []
  pub kept : (place : ℕ) → (place < at + 1 ⊎ at + 1 + count ≤ place) → medium.seen place ≡ seen place

pub record Wrote (seen : ℕ → ℕ) (at : ℕ) (bytes : List ℕ) (medium : Medium) : Type 0 where
  pub pending : medium.pending ≡ (at + 1, length bytes) ∷ []
  pub same : medium.seen ≡ overwritten seen (at + 1) bytes

pub behind_torn : (seen : ℕ → ℕ) (at count : ℕ) (old now : Medium) → Rests seen old → IsTorn (at + 1) count old now → Behind seen at count now
behind_torn seen at count old now rests torn = record {
  pending = torn.pending ∙ ap (λ ranges. (at + 1, count) ∷ ranges) rests.none;
  kept = λ place outside. torn.kept place outside ∙ ap (λ bytes. bytes place) rests.same;
}

pub wrote_behind : (seen : ℕ → ℕ) (at : ℕ) (bytes : List ℕ) (old now : Medium) → Rests seen old → now ≡ written old (at + 1) bytes → Wrote seen at bytes now
wrote_behind seen at bytes old now rests is = record {
  pending = ap (λ medium. medium.pending) is ∙ ap (λ ranges. (at + 1, length bytes) ∷ ranges) rests.none;
  same = ap (λ medium. medium.seen) is ∙ ap (λ seen. overwritten seen (at + 1) bytes) rests.same;
}

pub behind : (seen : ℕ → ℕ) (at : ℕ) (bytes : List ℕ) (medium : Medium) → Wrote seen at bytes medium → Behind seen at (length bytes) medium
behind seen at bytes medium wrote = record {
  pending = wrote.pending;
  kept = λ place outside. ap (λ bytes. bytes place) wrote.same ∙ overwritten_outside seen (at + 1) bytes place outside;
}

pub images_behind : (seen : ℕ → ℕ) (at : ℕ) (bytes : List ℕ) (medium : Medium) → Behind seen at (length bytes) medium → Images (IsOpening seen at bytes) medium
images_behind seen at bytes medium is = λ image of. record {
  kept = λ place outside. as_seen image of place (wider place outside);
  gate = inl (as_seen image of at (inl (omega arith)));
}
  where
    wider : (place : ℕ) → (place < at ⊎ at + 1 + length bytes ≤ place) → (place < at + 1 ⊎ at + 1 + length bytes ≤ place)
    wider place (inl below) = inl (omega arith)
    wider place (inr past) = inr past

    as_seen : (image : ℕ → ℕ) → IsImage medium image → (place : ℕ) → (place < at + 1 ⊎ at + 1 + length bytes ≤ place) → image place ≡ seen place
    as_seen image of place outside = outside_one medium image (at + 1) (length bytes) place is.pending of outside ∙ is.kept place outside

-- the gate is being opened, or has been, on bytes that are on the disk
pub record Opens (seen : ℕ → ℕ) (at : ℕ) (bytes : List ℕ) (medium : Medium) : Type 0 where
  pub pending : medium.pending ≡ (at, 1) ∷ []
  pub kept : (place : ℕ) → (place < at ⊎ at + 1 ≤ place) → medium.seen place ≡ overwritten seen (at + 1) bytes place

pub record Opened (seen : ℕ → ℕ) (at : ℕ) (bytes : List ℕ) (medium : Medium) : Type 0 where
  pub opens : Opens seen at bytes medium
  pub gate : medium.seen at ≡ 165

pub opens_torn : (seen : ℕ → ℕ) (at : ℕ) (bytes : List ℕ) (old now : Medium) → Rests (overwritten seen (at + 1) bytes) old → IsTorn at 1 old now → Opens seen at bytes now
opens_torn seen at bytes old now rests torn = record {
  pending = torn.pending ∙ ap (λ ranges. (at, 1) ∷ ranges) rests.none;
  kept = λ place outside. torn.kept place outside ∙ ap (λ bytes. bytes place) rests.same;
}

pub opened : (seen : ℕ → ℕ) (at : ℕ) (bytes : List ℕ) (old now : Medium) → Rests (overwritten seen (at + 1) bytes) old → now ≡ written old at (165 ∷ []) → Opened seen at bytes now
opened seen at bytes old now rests is = record {
  opens = record {
    pending = ap (λ medium. medium.pending) is ∙ ap (λ ranges. (at, 1) ∷ ranges) rests.none;
    kept = λ place outside. ap (λ medium. medium.seen place) is ∙ overwritten_outside old.seen at (165 ∷ []) place outside ∙ ap (λ bytes. bytes place) rests.same;
  };
  gate = ap (λ medium. medium.seen at) is ∙ ap (overwritten old.seen at (165 ∷ [])) at_zero ∙ overwritten_byte old.seen at (165 ∷ []) 0 (omega arith);
}
  where
    at_zero : at ≡ at + 0
    at_zero = omega arith

-- the bytes behind a gate stand there whatever the gate is
pub bytes_stand : (seen : ℕ → ℕ) (at : ℕ) (bytes : List ℕ) (image : ℕ → ℕ) → ((place : ℕ) → at + 1 ≤ place → image place ≡ overwritten seen (at + 1) bytes place) → bytes_at image (at + 1) (length bytes) ≡ bytes
bytes_stand seen at bytes image same = same_bytes (overwritten seen (at + 1) bytes) image (at + 1) (length bytes) (λ place low high. same place low) ∙ bytes_written seen (at + 1) bytes

pub same_outside : (seen : ℕ → ℕ) (at : ℕ) (bytes : List ℕ) (image : ℕ → ℕ) → ((place : ℕ) → (place < at ⊎ at + 1 ≤ place) → image place ≡ overwritten seen (at + 1) bytes place)
    → (place : ℕ) → (place < at ⊎ at + 1 + length bytes ≤ place) → image place ≡ seen place
same_outside seen at bytes image same place (inl below) = same place (inl below) ∙ overwritten_outside seen (at + 1) bytes place (inl (omega arith))
same_outside seen at bytes image same place (inr past) = same place (inr (omega arith)) ∙ overwritten_outside seen (at + 1) bytes place (inr past)

pub images_opening : (seen : ℕ → ℕ) (at : ℕ) (bytes : List ℕ) (medium : Medium) → Opens seen at bytes medium → Images (IsOpening seen at bytes) medium
images_opening seen at bytes medium opens = λ image of.
    let same = as_seen image of in
    record { kept = same_outside seen at bytes image same; gate = inr (bytes_stand seen at bytes image (λ place low. same place (inr low))) }
  where
    as_seen : (image : ℕ → ℕ) → IsImage medium image → (place : ℕ) → (place < at ⊎ at + 1 ≤ place) → image place ≡ overwritten seen (at + 1) bytes place
    as_seen image of place outside = outside_one medium image at 1 place opens.pending of outside ∙ opens.kept place outside

pub settled_opened : (seen : ℕ → ℕ) (at : ℕ) (bytes : List ℕ) (old now : Medium) → Opened seen at bytes old → now ≡ settled old → (now.pending ≡ []) × IsOpened seen at bytes now.seen
settled_opened seen at bytes old now is same = (
  ap (λ medium. medium.pending) same,
  record {
    kept = same_outside seen at bytes now.seen as_old;
    gate = ap (λ medium. medium.seen at) same ∙ is.gate;
    bytes = bytes_stand seen at bytes now.seen (λ place low. as_old place (inr low));
  },
)
  where
    as_old : (place : ℕ) → (place < at ⊎ at + 1 ≤ place) → now.seen place ≡ overwritten seen (at + 1) bytes place
    as_old place outside = ap (λ medium. medium.seen place) same ∙ is.opens.kept place outside

-- ---- a sync

pub rests_settled : (seen : ℕ → ℕ) (old now : Medium) → old.seen ≡ seen → now ≡ settled old → Rests seen now
rests_settled seen old now same is = record { none = ap (λ medium. medium.pending) is; same = ap (λ medium. medium.seen) is ∙ same }

-- a disk at rest leaves what a read gives
pub images_at_rest : (seen : ℕ → ℕ) (medium : Medium) (P : (ℕ → ℕ) → Type 0) → Rests seen medium → ((image : ℕ → ℕ) → ((place : ℕ) → image place ≡ seen place) → P image) → Images P medium
images_at_rest seen medium P rests goes = λ image of. goes image (λ place. image_at_rest medium image rests.none of place ∙ ap (λ bytes. bytes place) rests.same)

-- an image of a disk that stayed as it was
pub images_stay : (old now : Medium) (P : (ℕ → ℕ) → Type 0) → now ≡ old → Images P old → Images P now
images_stay old now P same images = subst (Images P) (sym same) images
