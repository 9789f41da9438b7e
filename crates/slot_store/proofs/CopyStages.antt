-- The calls by which a half is copied, one after the other.
use Rattle.std.proofs.Common.{zero, suc, ◌≡◌, ◌⊎◌, inl, inr, ℕ, ◌+◌, ◌-◌, ◌<◌, ◌≤◌, List, [], ◌∷◌, ◌++◌, length, take, get_or, Option, Some, None, refl, sym, ap, subst, ◌∙◌, append_assoc, arith}
use Rattle.std.proofs.lemmas.List.{length-take}
use Rattle.dots_host.specs.Media.{Medium, Media, byte_of, all_media, written, settled, IsTorn}
use Rattle.dots_host.specs.Becoming.{Becomes, MayBecome, Stays, EachMedium, KeepsMedia, Leaves, RestsWith}
use Rattle.slot_store.specs.declared.format.Format.{Format}
use Rattle.slot_store.specs.declared.format.Format.TheVariants.{Two}
use Rattle.slot_store.specs.Formats.{format_byte}
use Rattle.slot_store.specs.Layout.{place_of, format_place}
use Rattle.slot_store.specs.Gates.{Sees}
use Rattle.slot_store.specs.Copying.{BesideHalf, IsCopy, IsEnough, AreSlots, HalfIsCopied}
use Rattle.slot_store.proofs.Places.{same_slot}
use Rattle.slot_store.specs.Opening.{Is}
use Rattle.slot_store.proofs.Steps.{Now, Images, Rests, leaves_more, leaves_lost, now_then, rests_with}
use Rattle.slot_store.proofs.Stages.{Stage, more, unsynced, no_call}
use Rattle.slot_store.proofs.OpeningLemmas.{images_at_rest}
use Rattle.slot_store.proofs.CopyingLemmas.{Copying, Marked, written_copy, copying_images, copying_begins, copying_torn, copying_more, marking_torn, marking, marked_settled}

each_then : (front back : List Medium) (P : Medium → Type 0) → EachMedium front P → EachMedium back P → EachMedium (front ++ back) P
each_then [] back P a b = b
each_then (medium ∷ front) back P a b = (a.0, each_then front back P a.1 b)

each_like : (media : List Medium) (now : Medium) (P : Medium → Type 0) → P now → EachMedium media (λ medium. medium ≡ now) → EachMedium media P
each_like [] now P image_has are = tt
each_like (medium ∷ media) now P image_has are = (subst P (sym are.0) image_has, each_like media now P image_has are.1)

-- reads came
pub stage_read : (start between new : Option Media) (P : (ℕ → ℕ) → Type 0) (Q : Medium → Type 0) → Stage start between P Q → KeepsMedia between new → ((medium : Medium) → Q medium → Images P medium) → Stage start new P Q
stage_read None None None P Q stage keeps images = stage
stage_read None None (Some new) P Q stage keeps images = absurd keeps
stage_read None (Some between) new P Q stage keeps images = absurd stage.leaves
stage_read (Some start) None new P Q stage keeps images = absurd stage.leaves
stage_read (Some start) (Some between) None P Q stage keeps images = absurd keeps
stage_read (Some start) (Some between) (Some new) P Q stage keeps images = record {
  leaves = (
    stage.leaves.0 ++ keeps.0,
    keeps.1 ∙ ap (λ media. media ++ keeps.0) stage.leaves.1 ∙ append_assoc (all_media start) stage.leaves.0 keeps.0,
    each_then stage.leaves.0 keeps.0 (Images P) stage.leaves.2 (each_like keeps.0 between.now (Images P) (images between.now stage.now) keeps.2),
  );
  now = subst Q (sym keeps.3) stage.now;
}

-- the disk now, which is told
pub current : (start between : Option Media) (P Any : (ℕ → ℕ) → Type 0) (Q : Medium → Type 0) → RestsWith start Any → Stage start between P Q → (medium : Medium) × Sees between medium.seen × Q medium
current None between P Any Q rests stage = absurd rests
current (Some start) None P Any Q rests stage = absurd stage.leaves
current (Some start) (Some between) P Any Q rests stage = (between.now, refl, stage.now)

-- the one half lies elsewhere than the other
pub halves_apart : (slots half slot offset : ℕ) → half < 2 → slot < slots → offset < 8192 → (place_of slots half slot + offset < place_of slots (1 - half) 0 ⊎ place_of slots (1 - half) slots ≤ place_of slots half slot + offset)
halves_apart slots zero slot offset half within under = inl (omega arith)
halves_apart slots (suc zero) slot offset half within under = inr (omega arith)
halves_apart slots (suc (suc n)) slot offset half within under = absurd (omega arith)

copy_seen : (slots half : ℕ) (format : Format) (keep : List ℕ) (seen later : ℕ → ℕ) (slot : ℕ) (bytes : ℕ → ℕ) (at : ℕ) → half < 2 → AreSlots slots keep → BesideHalf slots (1 - half) seen later
    → IsCopy slots half format keep later slot bytes at → IsCopy slots half format keep seen slot bytes at
copy_seen slots half format keep seen later slot bytes at within are elsewhere is = record {
  kept = λ inside filled there.
      is.kept inside filled (same_slot seen later (place_of slots half (get_or keep slot 0)) (place_of slots half (get_or keep slot 0)) filled
      (λ offset under. elsewhere (place_of slots half (get_or keep slot 0) + offset) (inr (omega arith)) (halves_apart slots half (get_or keep slot 0) offset within (are slot inside) under)) there);
  closed = is.closed;
}

pub copy_begins : (start : Option Media) (slots half : ℕ) (format : Format) (keep : List ℕ) (seen : ℕ → ℕ) → RestsWith start (Is seen) → Stage start start (BesideHalf slots (1 - half) seen) (Copying slots half format keep seen 0)
copy_begins start slots half format keep seen rests =
    let none = no_call start seen (BesideHalf slots (1 - half) seen) rests in
    record { leaves = none.leaves; now = as_now start none.now }
  where
    as_now : (start : Option Media) → Now start (Rests seen) → Now start (Copying slots half format keep seen 0)
    as_now None now = tt
    as_now (Some start) now = copying_begins slots half format keep seen start.now now

pub copy_reads : (start between new : Option Media) (slots half : ℕ) (format : Format) (keep : List ℕ) (seen : ℕ → ℕ) (first : ℕ) → Stage start between (BesideHalf slots (1 - half) seen) (Copying slots half format keep seen first) → KeepsMedia between new
    → Stage start new (BesideHalf slots (1 - half) seen) (Copying slots half format keep seen first)
copy_reads start between new slots half format keep seen first stage keeps = stage_read start between new (BesideHalf slots (1 - half) seen) (Copying slots half format keep seen first) stage keeps (copying_images slots half format keep seen first)

pub copy_torn : (start between new : Option Media) (slots half : ℕ) (format : Format) (keep : List ℕ) (seen : ℕ → ℕ) (first at size : ℕ) → first < slots → size ≤ 8192 → at ≡ place_of slots (1 - half) first
    → Stage start between (BesideHalf slots (1 - half) seen) (Copying slots half format keep seen first) → MayBecome between new (IsTorn at size) → Leaves start new (BesideHalf slots (1 - half) seen)
copy_torn start between new slots half format keep seen first at size within fits place stage becomes = leaves_lost start between new (BesideHalf slots (1 - half) seen) (Copying slots half format keep seen first)
    (IsTorn (place_of slots (1 - half) first) size) stage.leaves stage.now (subst (λ at. MayBecome between new (IsTorn at size)) place becomes) (λ old now is torn. copying_torn slots half format keep seen first size old now within fits is torn)

pub copy_more : (start between fill new : Option Media) (slots half : ℕ) (format : Format) (keep : List ℕ) (seen : ℕ → ℕ) (first at size : ℕ) (room : List ℕ) → half < 2 → AreSlots slots keep → first < slots → at ≡ place_of slots (1 - half) first
    → IsEnough keep first (byte_of room) size → size ≤ length room → RestsWith start (Is seen)
    → Stage start between (BesideHalf slots (1 - half) seen) (Copying slots half format keep seen first) → KeepsMedia between fill
    → ((later : ℕ → ℕ) → Sees between later → IsCopy slots half format keep later first (byte_of room) 0)
    → Becomes fill new (λ old now. now ≡ written old at (take size room)) → Stage start new (BesideHalf slots (1 - half) seen) (Copying slots half format keep seen (first + 1))
copy_more start between fill new slots half format keep seen first at size room two are within place enough fits rests stage keeps copy becomes =
    let P = BesideHalf slots (1 - half) seen in
    let read = copy_reads start between fill slots half format keep seen first stage keeps in
    let now = current start between P (Is seen) (Copying slots half format keep seen first) rests stage in
    let here = copy_seen slots half format keep seen now.0.seen first (byte_of room) 0 two are now.2.elsewhere (copy now.0.seen now.1) in
    more start fill new P (Copying slots half format keep seen first) (Copying slots half format keep seen (first + 1)) (λ old now. now ≡ written old (place_of slots (1 - half) first) (take size room)) read
    (subst (λ at. Becomes fill new (λ old now. now ≡ written old at (take size room))) place becomes)
    (λ old new is same. copying_more slots half format keep seen first (take size room) old new within short
    (written_copy slots half format keep seen old.seen first room size (place_of slots (1 - half) first) here enough fits) is same)
    (copying_images slots half format keep seen (first + 1))
  where
    short : length (take size room) ≤ 8192
    short = let taken = length-take size room in let low = enough.fits in omega arith

-- ---- the byte of its format, and the sync

pub mark_torn : (start between new : Option Media) (slots half : ℕ) (format : Format) (keep : List ℕ) (seen : ℕ → ℕ) (at : ℕ) → at ≡ format_place (1 - half) → Stage start between (BesideHalf slots (1 - half) seen) (Copying slots half format keep seen slots)
    → MayBecome between new (IsTorn at 1) → Leaves start new (BesideHalf slots (1 - half) seen)
mark_torn start between new slots half format keep seen at place stage becomes = leaves_lost start between new (BesideHalf slots (1 - half) seen) (Copying slots half format keep seen slots) (IsTorn (format_place (1 - half)) 1)
    stage.leaves stage.now (subst (λ at. MayBecome between new (IsTorn at 1)) place becomes) (marking_torn slots half format keep seen)

marked_images : (slots half : ℕ) (format : Format) (keep : List ℕ) (seen : ℕ → ℕ) (now : Medium) → Marked slots half format keep seen now → Images (BesideHalf slots (1 - half) seen) now
marked_images slots half format keep seen now is = copying_images slots half format keep seen slots now is.copying

pub mark_more : (start between new : Option Media) (slots half : ℕ) (format : Format) (keep : List ℕ) (seen : ℕ → ℕ) (at byte : ℕ) → at ≡ format_place (1 - half) → byte ≡ format_byte Two
    → Stage start between (BesideHalf slots (1 - half) seen) (Copying slots half format keep seen slots) → Becomes between new (λ old now. now ≡ written old at (byte ∷ []))
    → Stage start new (BesideHalf slots (1 - half) seen) (Marked slots half format keep seen)
mark_more start between new slots half format keep seen at byte place says stage becomes =
    let here = subst (λ at. Becomes between new (λ old now. now ≡ written old at (byte ∷ []))) place becomes in
    more start between new (BesideHalf slots (1 - half) seen) (Copying slots half format keep seen slots) (Marked slots half format keep seen) (λ old now. now ≡ written old (format_place (1 - half)) (format_byte Two ∷ [])) stage
    (subst (λ byte. Becomes between new (λ old now. now ≡ written old (format_place (1 - half)) (byte ∷ []))) says here) (marking slots half format keep seen) (marked_images slots half format keep seen)

pub mark_unsynced : (start between new : Option Media) (slots half : ℕ) (format : Format) (keep : List ℕ) (seen : ℕ → ℕ) → Stage start between (BesideHalf slots (1 - half) seen) (Marked slots half format keep seen) → MayBecome between new Stays
    → Leaves start new (BesideHalf slots (1 - half) seen)
mark_unsynced start between new slots half format keep seen stage becomes = unsynced start between new (BesideHalf slots (1 - half) seen) (Marked slots half format keep seen) stage becomes (marked_images slots half format keep seen)

settled_images : (slots half : ℕ) (format : Format) (keep : List ℕ) (seen : ℕ → ℕ) (old now : Medium) → Marked slots half format keep seen old → now ≡ settled old → Images (BesideHalf slots (1 - half) seen) now
settled_images slots half format keep seen old now is same =
    let done = marked_settled slots half format keep seen old now is same in
    images_at_rest now.seen now (BesideHalf slots (1 - half) seen) (record { none = done.0; same = refl }) (λ image agree place byte outside. agree place ∙ done.1.elsewhere place byte outside)

pub half_left : (start between new : Option Media) (slots half : ℕ) (format : Format) (keep : List ℕ) (seen : ℕ → ℕ) → Stage start between (BesideHalf slots (1 - half) seen) (Marked slots half format keep seen) → Becomes between new (λ old now. now ≡ settled old)
    → Leaves start new (BesideHalf slots (1 - half) seen)
half_left start between new slots half format keep seen stage becomes = leaves_more start between new (BesideHalf slots (1 - half) seen) (Marked slots half format keep seen) (λ old now. now ≡ settled old) stage.leaves stage.now becomes
    (settled_images slots half format keep seen)

pub half_done : (start between new : Option Media) (slots half : ℕ) (format : Format) (keep : List ℕ) (seen : ℕ → ℕ) → RestsWith start (Is seen) → Stage start between (BesideHalf slots (1 - half) seen) (Marked slots half format keep seen)
    → Becomes between new (λ old now. now ≡ settled old) → RestsWith new (HalfIsCopied slots half format keep seen)
half_done start between new slots half format keep seen rests stage becomes =
    rests_with start new (BesideHalf slots (1 - half) seen) (HalfIsCopied slots half format keep seen) (Is seen) (λ now. (now.pending ≡ []) × HalfIsCopied slots half format keep seen now.seen)
    rests (half_left start between new slots half format keep seen stage becomes)
    (now_then between new (Marked slots half format keep seen) (λ now. (now.pending ≡ []) × HalfIsCopied slots half format keep seen now.seen) (λ old now. now ≡ settled old) stage.now becomes (marked_settled slots half format keep seen)) (λ now is. is)

-- each slot was copied
pub copied_all : (start between : Option Media) (slots half : ℕ) (format : Format) (keep : List ℕ) (seen : ℕ → ℕ) (first : ℕ) → first ≡ slots → Stage start between (BesideHalf slots (1 - half) seen) (Copying slots half format keep seen first)
    → Stage start between (BesideHalf slots (1 - half) seen) (Copying slots half format keep seen slots)
copied_all start between slots half format keep seen first all stage = subst (λ first. Stage start between (BesideHalf slots (1 - half) seen) (Copying slots half format keep seen first)) all stage
