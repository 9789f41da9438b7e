-- What the calls of a disk leave at each moment, one call after the other.
use Rattle.std.proofs.Common.{◌≡◌, inl, inr, ℕ, List, [], ◌∷◌, ◌++◌, Option, Some, None, refl, sym, ap, subst, ◌∙◌, append_assoc, append-nil}
use Rattle.dots_host.specs.Media.{Medium, Media, Outside, IsImage, all_media}
use Rattle.dots_host.specs.Becoming.{Becomes, MayBecome, EachMedium, Leaves, RestsWith}

-- the disk now has this, where it is told
abbrev pub Now : Option Media → (Medium → Type 0) → Type 0
Now None Q = Unit {0}
Now (Some media) Q = Q media.now

-- every image of the disk has this
abbrev pub Images : ((ℕ → ℕ) → Type 0) → Medium → Type 0
Images P medium = (image : ℕ → ℕ) → IsImage medium image → P image

-- nothing is pending, and a read gives this
pub record Rests (seen : ℕ → ℕ) (medium : Medium) : Type 0 where
  pub none : medium.pending ≡ []
  pub same : medium.seen ≡ seen

-- no call yet
pub begins : (start : Option Media) (P : (ℕ → ℕ) → Type 0) → Leaves start start P
begins None P = tt
begins (Some media) P = ([], sym (append-nil (all_media media)), tt)

pub rests_now : (start : Option Media) (seen : ℕ → ℕ) → RestsWith start (λ now. now ≡ seen) → Now start (Rests seen)
rests_now None seen rests = absurd rests
rests_now (Some media) seen rests = record { none = rests.0; same = rests.1 }

each_push : (media : List Medium) (medium : Medium) (P : Medium → Type 0) → EachMedium media P → P medium → EachMedium (media ++ medium ∷ []) P
each_push [] medium P each last = (last, tt)
each_push (first ∷ media) medium P each last = (each.0, each_push media medium P each.1 last)

pub leaves_more : (start between new : Option Media) (P : (ℕ → ℕ) → Type 0) (Q : Medium → Type 0) (Step : Medium → Medium → Type 0)
    → Leaves start between P → Now between Q → Becomes between new Step → ((old now : Medium) → Q old → Step old now → Images P now) → Leaves start new P
leaves_more None None None P Q Step leaves now becomes images = tt
leaves_more None None (Some new) P Q Step leaves now becomes images = absurd becomes
leaves_more None (Some between) new P Q Step leaves now becomes images = absurd leaves
leaves_more (Some start) None new P Q Step leaves now becomes images = absurd leaves
leaves_more (Some start) (Some between) None P Q Step leaves now becomes images = absurd becomes
leaves_more (Some start) (Some between) (Some new) P Q Step leaves now becomes images = (
  leaves.0 ++ becomes.0 ∷ [],
  ap all_media becomes.1 ∙ ap (λ media. media ++ becomes.0 ∷ []) leaves.1 ∙ append_assoc (all_media start) leaves.0 (becomes.0 ∷ []),
  each_push leaves.0 becomes.0 (Images P) leaves.2 (images between.now becomes.0 now becomes.2),
)

pub leaves_lost : (start between new : Option Media) (P : (ℕ → ℕ) → Type 0) (Q : Medium → Type 0) (Step : Medium → Medium → Type 0)
    → Leaves start between P → Now between Q → MayBecome between new Step → ((old now : Medium) → Q old → Step old now → Images P now) → Leaves start new P
leaves_lost None None None P Q Step leaves now becomes images = tt
leaves_lost None None (Some new) P Q Step leaves now becomes images = absurd becomes
leaves_lost None (Some between) new P Q Step leaves now becomes images = absurd leaves
leaves_lost (Some start) None new P Q Step leaves now becomes images = absurd leaves
leaves_lost (Some start) (Some between) None P Q Step leaves now becomes images = absurd becomes
leaves_lost (Some start) (Some between) (Some new) P Q Step leaves now (inl same) images = subst (λ media. Leaves (Some start) (Some media) P) (sym same) leaves
leaves_lost (Some start) (Some between) (Some new) P Q Step leaves now (inr becomes) images = leaves_more (Some start) (Some between) (Some new) P Q Step leaves now becomes images

pub now_then : (between new : Option Media) (Q R : Medium → Type 0) (Step : Medium → Medium → Type 0) → Now between Q → Becomes between new Step → ((old now : Medium) → Q old → Step old now → R now) → Now new R
now_then None None Q R Step now becomes goes = tt
now_then None (Some new) Q R Step now becomes goes = absurd becomes
now_then (Some between) None Q R Step now becomes goes = absurd becomes
now_then (Some between) (Some new) Q R Step now becomes goes = subst (λ media. R media.now) (sym becomes.1) (goes between.now becomes.0 now becomes.2)

-- the disk is told in the end where it was told at the start
pub rests_with : (start new : Option Media) (P Rest Any : (ℕ → ℕ) → Type 0) (Q : Medium → Type 0) → RestsWith start Any → Leaves start new P → Now new Q
    → ((medium : Medium) → Q medium → (medium.pending ≡ []) × Rest medium.seen) → RestsWith new Rest
rests_with None new P Rest Any Q rests leaves now goes = absurd rests
rests_with (Some start) None P Rest Any Q rests leaves now goes = absurd leaves
rests_with (Some start) (Some new) P Rest Any Q rests leaves now goes = goes new.now now

-- ---- where nothing is pending, an image is what a read gives

pub image_at_rest : (medium : Medium) (image : ℕ → ℕ) → medium.pending ≡ [] → IsImage medium image → (place : ℕ) → image place ≡ medium.seen place
image_at_rest medium image none is place = is place (subst (λ pending. Outside pending place) (sym none) tt)

-- ---- what is said of one disk at rest

pub leaves_as : (start new : Option Media) (P R : (ℕ → ℕ) → Type 0) → ((image : ℕ → ℕ) → P image → R image) → Leaves start new P → Leaves start new R
leaves_as None None P R goes leaves = tt
leaves_as None (Some new) P R goes leaves = absurd leaves
leaves_as (Some start) None P R goes leaves = absurd leaves
leaves_as (Some start) (Some new) P R goes leaves = (leaves.0, leaves.1, each leaves.0 leaves.2)
  where
    each : (media : List Medium) → EachMedium media (Images P) → EachMedium media (Images R)
    each [] are = tt
    each (medium ∷ media) are = ((λ image of. goes image (are.0 image of)), each media are.1)

-- what a read gives of a disk at rest
pub seen_at_rest : (start : Option Media) (P : (ℕ → ℕ) → Type 0) → RestsWith start P → (seen : ℕ → ℕ) × RestsWith start (λ now. now ≡ seen) × P seen
seen_at_rest None P rests = absurd rests
seen_at_rest (Some start) P rests = (start.now.seen, (rests.0, refl), rests.1)

pub rests_as : (start : Option Media) (P R : (ℕ → ℕ) → Type 0) → ((seen : ℕ → ℕ) → P seen → R seen) → RestsWith start P → RestsWith start R
rests_as None P R goes rests = absurd rests
rests_as (Some start) P R goes rests = (rests.0, goes start.now.seen rests.1)

each_join : (front back : List Medium) (P : Medium → Type 0) → EachMedium front P → EachMedium back P → EachMedium (front ++ back) P
each_join [] back P a b = b
each_join (medium ∷ front) back P a b = (a.0, each_join front back P a.1 b)

-- one call after the other
pub leaves_then : (start between new : Option Media) (P : (ℕ → ℕ) → Type 0) → Leaves start between P → Leaves between new P → Leaves start new P
leaves_then None None None P a b = tt
leaves_then None None (Some new) P a b = absurd b
leaves_then None (Some between) new P a b = absurd a
leaves_then (Some start) None new P a b = absurd a
leaves_then (Some start) (Some between) None P a b = absurd b
leaves_then (Some start) (Some between) (Some new) P a b = (
  a.0 ++ b.0,
  b.1 ∙ ap (λ media. media ++ b.0) a.1 ∙ append_assoc (all_media start) a.0 b.0,
  each_join a.0 b.0 (Images P) a.2 b.2,
)
