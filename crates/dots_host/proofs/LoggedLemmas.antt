-- A disk with a log over one call more.
use Rattle.std.proofs.Common.{◌≡◌, List, [], ◌∷◌, ◌++◌, Some, ap, ◌∙◌}
use Rattle.dots_host.specs.declared.act.Act.{Act}
use Rattle.dots_host.specs.Media.{Medium, after, all_media, blank}
use Rattle.dots_host.specs.Becoming.{Becomes}
use Rattle.dots_host.specs.Stored.{IsOfDisk, IsOfWire}
use Rattle.dots_host.specs.StoredLaws.{grown-push}
use Rattle.dots_host.specs.Logged.{Logged, media_since, AddsCalls, KeepsLogged}
use Rattle.dots_host.proofs.DiskLemmas.{after_wire}

pub becomes_more : (acts later : List Act) (call : Act) (Step : Medium → Medium → Type 0) → later ≡ acts ++ call ∷ [] → Step (media_since acts).now (after (media_since acts).now call)
    → Becomes (Some (media_since acts)) (Some (media_since later)) Step
becomes_more acts later call Step more step = (after (media_since acts).now call, ap media_since more ∙ grown-push (blank []) acts call, step)

-- what a read gives after a call that changed nothing of it
pub seen_unchanged : (acts later : List Act) (call : Act) → later ≡ acts ++ call ∷ [] → ((medium : Medium) → (after medium call).seen ≡ medium.seen)
    → (media_since later).now.seen ≡ (media_since acts).now.seen
seen_unchanged acts later call more keeps = ap (λ acts. (media_since acts).now.seen) more ∙ ap (λ media. media.now.seen) (grown-push (blank []) acts call) ∙ keeps (media_since acts).now

pub adds_one : (old new : Logged) (call : Act) → new.acts ≡ old.acts ++ call ∷ [] → IsOfDisk call → AddsCalls old new
adds_one old new call more is = record { more = call ∷ []; grown = more; disk = (is, tt) }

pub keeps_one : (old new : Logged) (call : Act) → new.acts ≡ old.acts ++ call ∷ [] → IsOfWire call → new.extent ≡ old.extent → new.faults ≡ old.faults → KeepsLogged old new
keeps_one old new call more is extent faults =
    let same : after (media_since old.acts).now call ≡ (media_since old.acts).now = after_wire (media_since old.acts).now call is in
    let next = ap media_since more ∙ grown-push (blank []) old.acts call in
    record {
      media = (after (media_since old.acts).now call ∷ [], ap all_media next, (same, tt), ap (λ media. media.now) next ∙ same);
      extent = extent;
      faults = faults;
    }
