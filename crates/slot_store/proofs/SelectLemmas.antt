-- The two calls by which the half in use is changed.
use Rattle.std.proofs.Common.{◌≡◌, ℕ, [], ◌∷◌, Option, refl, ap, ◌∙◌, arith}
use Rattle.dots_host.specs.Media.{Medium, Media, written, settled, IsTorn}
use Rattle.dots_host.specs.Becoming.{Becomes, MayBecome, Stays, Leaves, RestsWith}
use Rattle.dots_host.proofs.WrittenLemmas.{overwritten_outside, overwritten_byte}
use Rattle.slot_store.specs.Opening.{Is}
use Rattle.slot_store.specs.Copying.{Elsewhere, IsSelected}
use Rattle.slot_store.proofs.Steps.{Images, Rests, leaves_more, now_then, rests_with}
use Rattle.slot_store.proofs.OpeningLemmas.{outside_one, images_at_rest}
use Rattle.slot_store.proofs.Stages.{Stage, more, lost, unsynced, no_call}

pub record Selects (seen : ℕ → ℕ) (medium : Medium) : Type 0 where
  pub pending : medium.pending ≡ (48, 1) ∷ []
  pub elsewhere : Elsewhere seen 48 1 medium.seen

pub record Selected (seen : ℕ → ℕ) (selector : ℕ) (medium : Medium) : Type 0 where
  pub selects : Selects seen medium
  pub here : medium.seen 48 ≡ selector

images_selecting : (seen : ℕ → ℕ) (medium : Medium) → Selects seen medium → Images (Elsewhere seen 48 1) medium
images_selecting seen medium is = λ image of place outside. outside_one medium image 48 1 place is.pending of outside ∙ is.elsewhere place outside

selects_torn : (seen : ℕ → ℕ) (old now : Medium) → Rests seen old → IsTorn 48 1 old now → Selects seen now
selects_torn seen old now rests torn = record {
  pending = torn.pending ∙ ap (λ ranges. (48, 1) ∷ ranges) rests.none;
  elsewhere = λ place outside. torn.kept place outside ∙ ap (λ bytes. bytes place) rests.same;
}

selected_by : (seen : ℕ → ℕ) (selector : ℕ) (old now : Medium) → Rests seen old → now ≡ written old 48 (selector ∷ []) → Selected seen selector now
selected_by seen selector old now rests is = record {
  selects = record {
    pending = ap (λ medium. medium.pending) is ∙ ap (λ ranges. (48, 1) ∷ ranges) rests.none;
    elsewhere = λ place outside. ap (λ medium. medium.seen place) is ∙ overwritten_outside old.seen 48 (selector ∷ []) place outside ∙ ap (λ bytes. bytes place) rests.same;
  };
  here = ap (λ medium. medium.seen 48) is ∙ overwritten_byte old.seen 48 (selector ∷ []) 0 (omega arith);
}

selected_settled : (seen : ℕ → ℕ) (selector : ℕ) (old now : Medium) → Selected seen selector old → now ≡ settled old → (now.pending ≡ []) × IsSelected seen selector now.seen
selected_settled seen selector old now is same = (
  ap (λ medium. medium.pending) same,
  record {
    elsewhere = λ place outside. ap (λ medium. medium.seen place) same ∙ is.selects.elsewhere place outside;
    here = ap (λ medium. medium.seen 48) same ∙ is.here;
  },
)

pub select_lost : (start new : Option Media) (seen : ℕ → ℕ) → RestsWith start (Is seen) → MayBecome start new (IsTorn 48 1) → Leaves start new (Elsewhere seen 48 1)
select_lost start new seen rests becomes = lost start start new (Elsewhere seen 48 1) (Rests seen) _ (IsTorn 48 1) (no_call start seen (Elsewhere seen 48 1) rests) becomes (selects_torn seen) (images_selecting seen)

pub select_written : (start new : Option Media) (seen : ℕ → ℕ) (selector : ℕ) → RestsWith start (Is seen) → Becomes start new (λ old now. now ≡ written old 48 (selector ∷ [])) → Stage start new (Elsewhere seen 48 1) (Selected seen selector)
select_written start new seen selector rests becomes = more start start new (Elsewhere seen 48 1) (Rests seen) (Selected seen selector) (λ old now. now ≡ written old 48 (selector ∷ [])) (no_call start seen (Elsewhere seen 48 1) rests) becomes
    (selected_by seen selector) (λ now is. images_selecting seen now is.selects)

pub select_unsynced : (start between new : Option Media) (seen : ℕ → ℕ) (selector : ℕ) → Stage start between (Elsewhere seen 48 1) (Selected seen selector) → MayBecome between new Stays → Leaves start new (Elsewhere seen 48 1)
select_unsynced start between new seen selector stage becomes = unsynced start between new (Elsewhere seen 48 1) (Selected seen selector) stage becomes (λ now is. images_selecting seen now is.selects)

pub select_left : (start between new : Option Media) (seen : ℕ → ℕ) (selector : ℕ) → Stage start between (Elsewhere seen 48 1) (Selected seen selector) → Becomes between new (λ old now. now ≡ settled old) → Leaves start new (Elsewhere seen 48 1)
select_left start between new seen selector stage becomes = leaves_more start between new (Elsewhere seen 48 1) (Selected seen selector) (λ old now. now ≡ settled old) stage.leaves stage.now becomes (λ old now is same.
    let done = selected_settled seen selector old now is same in
    images_at_rest now.seen now (Elsewhere seen 48 1) (record { none = done.0; same = refl }) (λ image agree place outside. agree place ∙ done.1.elsewhere place outside))

pub select_done : (start between new : Option Media) (seen : ℕ → ℕ) (selector : ℕ) → RestsWith start (Is seen) → Stage start between (Elsewhere seen 48 1) (Selected seen selector) → Becomes between new (λ old now. now ≡ settled old) → RestsWith new (IsSelected seen selector)
select_done start between new seen selector rests stage becomes = rests_with start new (Elsewhere seen 48 1) (IsSelected seen selector) (Is seen) (λ now. (now.pending ≡ []) × IsSelected seen selector now.seen) rests
    (select_left start between new seen selector stage becomes)
    (now_then between new (Selected seen selector) (λ now. (now.pending ≡ []) × IsSelected seen selector now.seen) (λ old now. now ≡ settled old) stage.now becomes (selected_settled seen selector)) (λ now is. is)
