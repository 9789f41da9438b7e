-- Reads change nothing, and answer what is there.
use Rattle.std.proofs.Common.{◌≡◌, inl, inr, ℕ, ◌+◌, ◌*◌, List, [], ◌∷◌, ◌++◌, Option, Some, None, refl, sym, ap, subst, ◌∙◌, append_assoc, append-nil, arith}
use Rattle.std.specs.Prelude.{IfSome, false}
use Rattle.std.proofs.lemmas.Bool.{cases_lt}
use Rattle.std.proofs.Math.Path.{fun_ext}
use Rattle.dots_host.specs.Media.{Medium, Media, bytes_at, all_media}
use Rattle.dots_host.specs.Becoming.{Becomes, MayBecome, Stays, EachMedium, KeepsMedia, Leaves, RestsWith}
use Rattle.slot_store.specs.declared.wanted.Wanted.{Wanted}
use Rattle.slot_store.specs.Gates.{is_wanted}
use Rattle.slot_store.specs.Gates.{Sees, NoneIs}
use Rattle.slot_store.specs.Opening.{Is}
use Rattle.slot_store.proofs.Steps.{Images, image_at_rest}

each_push : (media : List Medium) (medium : Medium) (P : Medium → Type 0) → EachMedium media P → P medium → EachMedium (media ++ medium ∷ []) P
each_push [] medium P each last = (last, tt)
each_push (first ∷ media) medium P each last = (each.0, each_push media medium P each.1 last)

pub reads_none : (start : Option Media) → KeepsMedia start start
reads_none None = tt
reads_none (Some media) = ([], sym (append-nil (all_media media)), tt, refl)

pub reads_more : (start between new : Option Media) → KeepsMedia start between → Becomes between new Stays → KeepsMedia start new
reads_more None None None keeps becomes = tt
reads_more None None (Some new) keeps becomes = absurd becomes
reads_more None (Some between) new keeps becomes = absurd keeps
reads_more (Some start) None new keeps becomes = absurd keeps
reads_more (Some start) (Some between) None keeps becomes = absurd becomes
reads_more (Some start) (Some between) (Some new) keeps becomes = (
  keeps.0 ++ becomes.0 ∷ [],
  ap all_media becomes.1 ∙ ap (λ media. media ++ becomes.0 ∷ []) keeps.1 ∙ append_assoc (all_media start) keeps.0 (becomes.0 ∷ []),
  each_push keeps.0 becomes.0 (λ medium. medium ≡ start.now) keeps.2 (becomes.2 ∙ keeps.3),
  ap (λ media. media.now) becomes.1 ∙ becomes.2 ∙ keeps.3,
)

pub reads_lost : (start between new : Option Media) → KeepsMedia start between → MayBecome between new Stays → KeepsMedia start new
reads_lost None None None keeps becomes = tt
reads_lost None None (Some new) keeps becomes = absurd becomes
reads_lost None (Some between) new keeps becomes = absurd keeps
reads_lost (Some start) None new keeps becomes = absurd keeps
reads_lost (Some start) (Some between) None keeps becomes = absurd becomes
reads_lost (Some start) (Some between) (Some new) keeps (inl same) = subst (λ media. KeepsMedia (Some start) (Some media)) (sym same) keeps
reads_lost (Some start) (Some between) (Some new) keeps (inr becomes) = reads_more (Some start) (Some between) (Some new) keeps becomes

each_then : (front back : List Medium) (P : Medium → Type 0) → EachMedium front P → EachMedium back P → EachMedium (front ++ back) P
each_then [] back P a b = b
each_then (medium ∷ front) back P a b = (a.0, each_then front back P a.1 b)

pub reads_then : (start between new : Option Media) → KeepsMedia start between → KeepsMedia between new → KeepsMedia start new
reads_then None None None a b = tt
reads_then None None (Some new) a b = absurd b
reads_then None (Some between) new a b = absurd a
reads_then (Some start) None new a b = absurd a
reads_then (Some start) (Some between) None a b = absurd b
reads_then (Some start) (Some between) (Some new) a b = (
  a.0 ++ b.0,
  b.1 ∙ ap (λ media. media ++ b.0) a.1 ∙ append_assoc (all_media start) a.0 b.0,
  each_then a.0 b.0 (λ medium. medium ≡ start.now) a.2 (subst (λ now. EachMedium b.0 (λ medium. medium ≡ now)) a.3 b.2),
  b.3 ∙ a.3,
)

pub sees_unchanged : (start new : Option Media) (seen : ℕ → ℕ) → KeepsMedia start new → Sees start seen → Sees new seen
sees_unchanged None new seen keeps sees = absurd sees
sees_unchanged (Some start) None seen keeps sees = absurd keeps
sees_unchanged (Some start) (Some new) seen keeps sees = ap (λ medium. medium.seen) keeps.3 ∙ sees

pub rests_unchanged : (start new : Option Media) (P : (ℕ → ℕ) → Type 0) → KeepsMedia start new → RestsWith start P → RestsWith new P
rests_unchanged None new P keeps rests = absurd rests
rests_unchanged (Some start) None P keeps rests = absurd keeps
rests_unchanged (Some start) (Some new) P keeps rests = subst (λ medium. (medium.pending ≡ []) × P medium.seen) (sym keeps.3) rests

pub sees_at_rest : (start : Option Media) (seen : ℕ → ℕ) → RestsWith start (Is seen) → Sees start seen
sees_at_rest None seen rests = absurd rests
sees_at_rest (Some start) seen rests = rests.1

pub bytes_seen : (start : Option Media) (seen : ℕ → ℕ) (at count : ℕ) (bytes : List ℕ) → IfSome start (λ media. bytes ≡ bytes_at media.now.seen at count) → Sees start seen → bytes ≡ bytes_at seen at count
bytes_seen None seen at count bytes read sees = absurd sees
bytes_seen (Some start) seen at count bytes read sees = read ∙ ap (λ seen. bytes_at seen at count) sees

-- while a disk at rest is read, its images are what a read gives
pub leaves_unchanged : (start new : Option Media) (seen : ℕ → ℕ) (P : (ℕ → ℕ) → Type 0) → KeepsMedia start new → RestsWith start (Is seen) → P seen → Leaves start new P
leaves_unchanged None new seen P keeps rests image_has = absurd rests
leaves_unchanged (Some start) None seen P keeps rests image_has = absurd keeps
leaves_unchanged (Some start) (Some new) seen P keeps rests image_has = (keeps.0, keeps.1, each keeps.0 keeps.2)
  where
    image_of : (medium : Medium) → medium ≡ start.now → Images P medium
    image_of medium same = λ image of.
        let none : medium.pending ≡ [] = ap (λ medium. medium.pending) same ∙ rests.0 in
        let is : image ≡ seen = fun_ext (λ place. image_at_rest medium image none of place) ∙ ap (λ medium. medium.seen) same ∙ rests.1 in
        subst P (sym is) image_has

    each : (media : List Medium) → EachMedium media (λ medium. medium ≡ start.now) → EachMedium media (Images P)
    each [] are = tt
    each (medium ∷ media) are = (image_of medium are.0, each media are.1)

-- one gate more that isn't looked for
pub none_more : (what : Wanted) (seen : ℕ → ℕ) (first from to : ℕ) → NoneIs what seen first from to → is_wanted what (seen (first + 8192 * to)) ≡ false → NoneIs what seen first from (to + 1)
none_more what seen first from to none last index low under = elim (cases_lt index to) [
  | inl below ↦ none index low below
  | inr above ↦
      let same : index ≡ to = omega arith in
      ap (λ index. is_wanted what (seen (first + 8192 * index))) same ∙ last
]
