-- Calls beside a disk with a log go on from none, and one after the other, and what they leave of what is told.
use Rattle.std.proofs.Common.{[], ◌++◌, length, Some, refl, sym, ap, ◌∙◌, append_assoc, append-nil, arith}
use Rattle.dots_host.specs.Acts.{wire_acts}
use Rattle.dots_host.specs.Media.{blank}
use Rattle.dots_host.specs.Becoming.{IsMoment}
use Rattle.dots_host.specs.Beside.{KeepsActs}
use Rattle.dots_host.specs.Logged.{Logged, media_since, acts_told, AddsCalls, KeepsLogged}
use Rattle.dots_host.specs.StoredLaws.{of_disk_then, keeps_media_same, keeps_media_then, moments, same_acts}

pub adds_calls_same : (disk : Logged) → AddsCalls disk disk
adds_calls_same disk = record { more = []; grown = sym (append-nil disk.acts); disk = tt }

pub adds_calls_then : (old between new : Logged) → AddsCalls old between → AddsCalls between new → AddsCalls old new
adds_calls_then old between new a b = record {
  more = a.more ++ b.more;
  grown = b.grown ∙ ap (λ acts. acts ++ b.more) a.grown ∙ append_assoc old.acts a.more b.more;
  disk = of_disk_then a.more b.more a.disk b.disk;
}

pub keeps_logged_same : (disk : Logged) → KeepsLogged disk disk
keeps_logged_same disk = record { media = keeps_media_same (media_since disk.acts); extent = refl; faults = refl }

pub keeps_logged_then : (old between new : Logged) → KeepsLogged old between → KeepsLogged between new → KeepsLogged old new
keeps_logged_then old between new a b = record {
  media = keeps_media_then (media_since old.acts) (media_since between.acts) (media_since new.acts) a.media b.media;
  extent = b.extent ∙ a.extent;
  faults = b.faults ∙ a.faults;
}

-- a call more is a moment more
pub one_moment_logged : (disk : Logged) → IsMoment (length disk.acts) (Some (media_since disk.acts))
one_moment_logged disk =
    let all = moments (blank []) disk.acts 0 refl in
    omega arith

-- calls of the disk leave the acts of the wire as they were
pub keeps_acts_logged : (old new : Logged) → AddsCalls old new → KeepsActs (acts_told old) (acts_told new)
keeps_acts_logged old new adds = ap (wire_acts 0) adds.grown ∙ same_acts 0 old.acts adds.more adds.disk
