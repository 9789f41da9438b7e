-- Calls beside a memory disk go on from none, and one after the other, and what they leave of what is told.
use Rattle.std.proofs.Common.{◌≡◌, ℕ, ◌+◌, List, [], ◌∷◌, ◌++◌, length, Some, refl, sym, ap, subst, ◌∙◌, append_assoc, append-nil, arith}
use Rattle.std.proofs.lemmas.Bool.{false≢true}
use Rattle.std.proofs.lemmas.List.{length_push}
use Rattle.std.specs.Prelude.{true, Bool, false}
use Rattle.dots_host.specs.declared.act.Act.{Act}
use Rattle.dots_host.specs.declared.act.Act.TheVariants as act
use Rattle.dots_host.specs.Acts.{took, gave, wire_acts}
use Rattle.dots_host.specs.Memory.{told}
use Rattle.dots_host.specs.Media.{Medium, Media, after, all_media, next_media, blank, grown}
use Rattle.dots_host.specs.Becoming.{EachMedium, KeepsMedia, IsMoment}
use Rattle.dots_host.specs.Beside.{KeepsActs}
use Rattle.dots_host.specs.Stored.{Stored, media_of, AreOfDisk, GoesOn, KeepsDisk}

pub of_disk_then : (front back : List Act) → AreOfDisk front → AreOfDisk back → AreOfDisk (front ++ back)
of_disk_then [] back a b = b
of_disk_then (call ∷ front) back a b = (a.0, of_disk_then front back a.1 b)

pub goes_on_same : (disk : Stored) → GoesOn disk disk
goes_on_same disk = record { more = []; grown = sym (append-nil disk.acts); disk = tt; whole = λ is. is }

pub goes_on_then : (old between new : Stored) → GoesOn old between → GoesOn between new → GoesOn old new
goes_on_then old between new a b = record {
  more = a.more ++ b.more;
  grown = b.grown ∙ ap (λ acts. acts ++ b.more) a.grown ∙ append_assoc old.acts a.more b.more;
  disk = of_disk_then a.more b.more a.disk b.disk;
  whole = λ is. a.whole (b.whole is);
}

-- ---- calls of the wire

each_then : (front back : List Medium) (P : Medium → Type 0) → EachMedium front P → EachMedium back P → EachMedium (front ++ back) P
each_then [] back P a b = b
each_then (medium ∷ front) back P a b = (a.0, each_then front back P a.1 b)

each_same : (media : List Medium) (old between : Medium) → between ≡ old → EachMedium media (λ medium. medium ≡ between) → EachMedium media (λ medium. medium ≡ old)
each_same media old between same each = subst (λ now. EachMedium media (λ medium. medium ≡ now)) same each

pub keeps_media_same : (media : Media) → KeepsMedia (Some media) (Some media)
keeps_media_same media = ([], sym (append-nil (all_media media)), tt, refl)

pub keeps_media_then : (old between new : Media) → KeepsMedia (Some old) (Some between) → KeepsMedia (Some between) (Some new) → KeepsMedia (Some old) (Some new)
keeps_media_then old between new a b = (
  a.0 ++ b.0,
  b.1 ∙ ap (λ media. media ++ b.0) a.1 ∙ append_assoc (all_media old) a.0 b.0,
  each_then a.0 b.0 (λ medium. medium ≡ old.now) a.2 (each_same b.0 old.now between.now a.3 b.2),
  b.3 ∙ a.3,
)

pub keeps_disk_same : (disk : Stored) → KeepsDisk disk disk
keeps_disk_same disk = record { media = keeps_media_same (media_of disk); extent = refl; faults = refl }

pub keeps_disk_then : (old between new : Stored) → KeepsDisk old between → KeepsDisk between new → KeepsDisk old new
keeps_disk_then old between new a b = record {
  media = keeps_media_then (media_of old) (media_of between) (media_of new) a.media b.media;
  extent = b.extent ∙ a.extent;
  faults = b.faults ∙ a.faults;
}

-- ---- the moments, and the acts of the wire

-- a call more is a moment more
pub grown-push : (media : Media) (acts : List Act) (call : Act) → grown media (acts ++ call ∷ []) ≡ next_media (grown media acts) (after (grown media acts).now call)
grown-push media [] call = refl
grown-push media (first ∷ acts) call = grown-push (next_media media (after media.now first)) acts call

pub moments : (media : Media) (acts : List Act) (moment : ℕ) → length media.past ≡ moment → length (grown media acts).past ≡ moment + length acts
moments media [] moment is = omega arith
moments media (call ∷ acts) moment is =
    let next : length (all_media media) ≡ moment + 1 = length_push media.past media.now ∙ ap (λ n. n + 1) is in
    let rest = moments (next_media media (after media.now call)) acts (moment + 1) next in
    omega arith

pub one_moment : (disk : Stored) → IsMoment (length disk.acts) (Some (media_of disk))
one_moment disk =
    let all = moments (blank disk.base) disk.acts 0 refl in
    omega arith

disk_acts : (moment : ℕ) (acts : List Act) → AreOfDisk acts → wire_acts moment acts ≡ []
disk_acts moment [] are = refl
disk_acts moment (act.Took e t ∷ acts) are = absurd are.0
disk_acts moment (act.Gave o d ∷ acts) are = absurd are.0
disk_acts moment (act.Read o ∷ acts) are = disk_acts (moment + 1) acts are.1
disk_acts moment (act.Wrote a b o ∷ acts) are = disk_acts (moment + 1) acts are.1
disk_acts moment (act.Synced o ∷ acts) are = disk_acts (moment + 1) acts are.1

pub same_acts : (moment : ℕ) (acts more : List Act) → AreOfDisk more → wire_acts moment (acts ++ more) ≡ wire_acts moment acts
same_acts moment [] more are = disk_acts moment more are
same_acts moment (act.Took e t ∷ acts) more are = ap (λ later. (record { moment = moment; act = took e t }) ∷ later) (same_acts (moment + 1) acts more are)
same_acts moment (act.Gave o d ∷ acts) more are = ap (λ later. (record { moment = moment; act = gave o d }) ∷ later) (same_acts (moment + 1) acts more are)
same_acts moment (act.Read o ∷ acts) more are = same_acts (moment + 1) acts more are
same_acts moment (act.Wrote a b o ∷ acts) more are = same_acts (moment + 1) acts more are
same_acts moment (act.Synced o ∷ acts) more are = same_acts (moment + 1) acts more are

pub keeps_acts : (old new : Stored) → GoesOn old new → KeepsActs (told old.whole old.acts) (told new.whole new.acts)
keeps_acts old new goes = kept old.whole new.whole old.acts new.acts goes.more goes.grown goes.disk goes.whole
  where
    kept : (old new : Bool) (acts later more : List Act) → later ≡ acts ++ more → AreOfDisk more → (new ≡ true → old ≡ true) → KeepsActs (told old acts) (told new later)
    kept true true acts later more grown are whole = ap (wire_acts 0) grown ∙ same_acts 0 acts more are
    kept true false acts later more grown are whole = tt
    kept false false acts later more grown are whole = tt
    kept false true acts later more grown are whole = absurd (false≢true (whole refl))
