-- A memory disk over one call more.
use Rattle.std.proofs.Common.{◌≡◌, ◌⊎◌, inl, inr, ℕ, List, [], ◌∷◌, ◌++◌, length, Some, refl, sym, ap, subst, ◌∙◌, append-nil}
use Rattle.std.specs.Prelude.{true, false, Bool, MatchBool}
use Rattle.std.proofs.lemmas.Bool.{false≢true}
use Rattle.dots_host.specs.declared.act.Act.{Act}
use Rattle.dots_host.specs.declared.act.Act.TheVariants as act
use Rattle.dots_host.specs.declared.event.Event.{Event}
use Rattle.dots_host.specs.Acts.{Adds, took}
use Rattle.dots_host.specs.Memory.{Coming, HandsOne, Hands, told}
use Rattle.dots_host.proofs.TapeLemmas.{adds_took}
use Rattle.dots_host.specs.Media.{Medium, after, all_media, next_media, blank, grown}
use Rattle.dots_host.specs.Becoming.{Becomes, MayBecome, KeepsMedia}
use Rattle.dots_host.specs.Stored.{Stored, media_of, IsOfDisk, IsOfWire, GoesOn, KeepsDisk, Records, Forgets, MakesRoom}
use Rattle.dots_host.specs.StoredLaws.{grown-push}
use Rattle.dots_host.specs.Hosted.{Hosted}

media_more : (old new : Stored) (call : Act) → new.base ≡ old.base → new.acts ≡ old.acts ++ call ∷ [] → media_of new ≡ next_media (media_of old) (after (media_of old).now call)
media_more old new call base acts = ap (λ base. grown (blank base) new.acts) base ∙ ap (grown (blank old.base)) acts ∙ grown-push (blank old.base) old.acts call

pub media_after : (old new : Stored) (call : Act) → Records old new call → media_of new ≡ next_media (media_of old) (after (media_of old).now call)
media_after old new call made = media_more old new call made.base made.acts

pub becomes : (old new : Stored) (call : Act) (Step : Medium → Medium → Type 0) → Records old new call → Step (media_of old).now (after (media_of old).now call)
    → Becomes (Some (media_of old)) (Some (media_of new)) Step
becomes old new call Step made step = (after (media_of old).now call, media_after old new call made, step)

-- the same of parts
pub became : (old : Stored) (base : List ℕ) (acts : List Act) (call : Act) (Step : Medium → Medium → Type 0) → base ≡ old.base → acts ≡ old.acts ++ call ∷ [] → Step (media_of old).now (after (media_of old).now call)
    → Becomes (Some (media_of old)) (Some (grown (blank base) acts)) Step
became old base acts call Step same more step =
    (after (media_of old).now call, ap (λ base. grown (blank base) acts) same ∙ ap (grown (blank old.base)) more ∙ grown-push (blank old.base) old.acts call, step)

media_same : (old new : Stored) → new.base ≡ old.base → new.acts ≡ old.acts → media_of new ≡ media_of old
media_same old new base acts = ap (λ base. grown (blank base) new.acts) base ∙ ap (grown (blank old.base)) acts

pub same_media : (old new : Stored) → Forgets old new → media_of new ≡ media_of old
same_media old new made = media_same old new made.base made.acts

pub may_stay : (old new : Stored) (Step : Medium → Medium → Type 0) → Forgets old new → MayBecome (Some (media_of old)) (Some (media_of new)) Step
may_stay old new Step made = inl (same_media old new made)

pub may_become : (old new : Stored) (call : Act) (Step : Medium → Medium → Type 0) → Records old new call ⊎ Forgets old new → Step (media_of old).now (after (media_of old).now call)
    → MayBecome (Some (media_of old)) (Some (media_of new)) Step
may_become old new call Step (inl made) step = inr (becomes old new call Step made step)
may_become old new call Step (inr made) step = may_stay old new Step made

pub goes_on : (old new : Stored) (call : Act) → Records old new call → IsOfDisk call → GoesOn old new
goes_on old new call made is = record { more = call ∷ []; grown = made.acts; disk = (is, tt); whole = λ whole. sym made.whole ∙ whole }

pub goes_nowhere : (old new : Stored) → Forgets old new → GoesOn old new
goes_nowhere old new made = record { more = []; grown = made.acts ∙ sym (append-nil old.acts); disk = tt; whole = λ whole. absurd (false≢true (sym made.whole ∙ whole)) }

pub may_go_on : (old new : Stored) (call : Act) → Records old new call ⊎ Forgets old new → IsOfDisk call → GoesOn old new
may_go_on old new call (inl made) is = goes_on old new call made is
may_go_on old new call (inr made) is = goes_nowhere old new made

pub forgotten_extent : (old new : Stored) (call : Act) → Records old new call ⊎ Forgets old new → new.extent ≡ old.extent
forgotten_extent old new call (inl made) = made.extent
forgotten_extent old new call (inr made) = made.extent

-- what a read gives is what the content holds, after a call more
pub seen_after : (base : List ℕ) (acts later : List Act) (call : Act) (bytes : ℕ → ℕ) → later ≡ acts ++ call ∷ [] → bytes ≡ (after (grown (blank base) acts).now call).seen
    → bytes ≡ (grown (blank base) later).now.seen
seen_after base acts later call bytes more same = same ∙ sym (ap (λ media. media.now.seen) (grown-push (blank base) acts call)) ∙ sym (ap (λ acts. (grown (blank base) acts).now.seen) more)

-- the same where the call changes nothing of it
pub seen_same : (base : List ℕ) (acts later : List Act) (call : Act) (bytes : ℕ → ℕ) → later ≡ acts ++ call ∷ [] → bytes ≡ (grown (blank base) acts).now.seen
    → ((medium : Medium) → (after medium call).seen ≡ medium.seen) → bytes ≡ (grown (blank base) later).now.seen
seen_same base acts later call bytes more same keeps = seen_after base acts later call bytes more (same ∙ sym (keeps (grown (blank base) acts).now))

-- a call of the wire changes nothing
pub after_wire : (medium : Medium) (call : Act) → IsOfWire call → after medium call ≡ medium
after_wire medium (act.Took e t) is = refl
after_wire medium (act.Gave o d) is = refl
after_wire medium (act.Read o) is = absurd is
after_wire medium (act.Wrote a b o) is = absurd is
after_wire medium (act.Synced o) is = absurd is

pub seen_wire : (call : Act) → IsOfWire call → (medium : Medium) → (after medium call).seen ≡ medium.seen
seen_wire call is medium = ap (λ medium. medium.seen) (after_wire medium call is)

-- a call that was recorded where there was room for it
pub records_from : (old between new : Stored) (call : Act) → between.acts ≡ old.acts → between.whole ≡ old.whole → between.base ≡ old.base → between.extent ≡ old.extent → Records between new call → Records old new call
records_from old between new call acts whole base extent made = record {
  acts = made.acts ∙ ap (λ acts. acts ++ call ∷ []) acts;
  whole = made.whole ∙ whole;
  base = made.base ∙ base;
  extent = made.extent ∙ extent;
}

pub records_in_room : (old between new : Stored) (call : Act) → MakesRoom old between → Records between new call → Records old new call
records_in_room old between new call room made = records_from old between new call room.acts room.whole room.base room.extent made

-- a call of the wire that was recorded, or not
pub seen_may_rest : (made : Bool) (base : List ℕ) (acts later : List Act) (call : Act) (bytes : ℕ → ℕ) → IsOfWire call → MatchBool made (later ≡ acts ++ call ∷ []) (later ≡ acts)
    → bytes ≡ (grown (blank base) acts).now.seen → bytes ≡ (grown (blank base) later).now.seen
seen_may_rest true base acts later call bytes is more same = seen_same base acts later call bytes more same (seen_wire call is)
seen_may_rest false base acts later call bytes is more same = same ∙ sym (ap (λ acts. (grown (blank base) acts).now.seen) more)

-- ---- calls of a host

keeps_by_wire : (old new : Stored) (call : Act) → IsOfWire call → new.base ≡ old.base → new.acts ≡ old.acts ++ call ∷ [] → KeepsMedia (Some (media_of old)) (Some (media_of new))
keeps_by_wire old new call is base acts =
    let same : after (media_of old).now call ≡ (media_of old).now = after_wire (media_of old).now call is in
    let next = media_more old new call base acts in (
      after (media_of old).now call ∷ [],
      ap all_media next,
      (same, tt),
      ap (λ media. media.now) next ∙ same,
    )

keeps_nothing : (old new : Stored) → new.base ≡ old.base → new.acts ≡ old.acts → KeepsMedia (Some (media_of old)) (Some (media_of new))
keeps_nothing old new base acts =
    let same = media_same old new base acts in
    ([], ap all_media same ∙ sym (append-nil (all_media (media_of old))), tt, ap (λ media. media.now) same)

pub wire_beside : (old new : Stored) (call : Act) → Records old new call → IsOfWire call → new.faults ≡ old.faults → KeepsDisk old new
wire_beside old new call made is faults = record { media = keeps_by_wire old new call is made.base made.acts; extent = made.extent; faults = faults }

-- a call of the wire that was recorded, or not, and changed nothing else
pub wire_may_rest : (made : Bool) (old new : Stored) (call : Act) → IsOfWire call → MatchBool made (new.acts ≡ old.acts ++ call ∷ []) (new.acts ≡ old.acts) → new.base ≡ old.base → new.extent ≡ old.extent
    → new.faults ≡ old.faults → KeepsDisk old new
wire_may_rest true old new call is acts base extent faults = record { media = keeps_by_wire old new call is base acts; extent = extent; faults = faults }
wire_may_rest false old new call is acts base extent faults = record { media = keeps_nothing old new base acts; extent = extent; faults = faults }

pub handed : (old : Hosted) (disk : Stored) (later : List Coming) (call : Act) → Records old.disk disk call → HandsOne old.coming call later
    → disk.whole ≡ true → (old.disk.whole ≡ true) × (more : List Act) × (disk.acts ≡ old.disk.acts ++ more) × Hands old.coming more later
handed old disk later call made one = λ whole. (sym made.whole ∙ whole, call ∷ [], made.acts, (later, one, refl))

-- a host's disk before and after a call
pub carried : (old same between new : Stored) (call : Act) → same ≡ old → new ≡ between → Records same between call → Records old new call
carried old same between new call before after made = subst (λ new. Records old new call) (sym after) (subst (λ old. Records old between call) before made)

-- the wire tells one act more
pub adds_by : (old new : Stored) (event : Event) (at : ℕ) → Records old new (act.Took event at) → Adds (told old.whole old.acts) (length old.acts) (told new.whole new.acts) (length new.acts) (took event at)
adds_by old new event at made = adds_took old.whole old.whole new.whole old.acts old.acts new.acts event at refl made.whole refl made.acts
