-- What is read of the live mitigations of a client.
use Rattle.std.specs.Prelude.{ℕ, ℤ, pos, negsuc, bytes_eq, List, map, filter}
use Rattle.std.specs.Int.{int_min, int_max}
use Rattle.dots_history.specs.declared.entry.Entry.{Entry}
use Rattle.dots_history.specs.declared.put.Put.{Put}
use Rattle.dots_history.specs.declared.status.Status.{Status}
use Rattle.dots_history.specs.declared.status.Status.TheVariants.{Ended, Open, Withdrawn}
use Rattle.dots_history.specs.Entries.{put_of}
use Rattle.dots_history.specs.Histories.{Mitigation, mitigations, seconds_left}
use Rattle.dots_history.specs.Views.{mitigations_of}
use Rattle.conflict_rules.specs.Lives.{put_or_nothing}

-- what a reader sees of a mitigation
pub record LiveView : Type 0 where
  pub put : Put
  pub peer : ℕ
  pub left : ℤ
  pub status : ℕ

-- 2 where it stands, and 5 where it is terminating (RFC 9132, section 4.4.2); an ended one isn't shown
abbrev pub status_number : Status → ℕ
status_number Open = 2
status_number (Withdrawn at) = 5
status_number Ended = 0

-- the nearest number of an i32
abbrev pub fitted : ℤ → ℤ
fitted seconds = int_min (int_max seconds (negsuc 2147483647)) (pos 2147483647)

abbrev pub live_view : ℕ → Mitigation → LiveView
live_view t m = record {
  put = put_or_nothing (put_of m.put.change);
  peer = m.put.peer;
  left = fitted (seconds_left t m.put m.status);
  status = status_number m.status;
}

-- those of the client of this name, where all are of one domain
abbrev pub of_cuid : List ℕ → List Mitigation → List Mitigation
of_cuid cuid ms = filter (λ (m : Mitigation). bytes_eq m.put.cuid cuid) ms

abbrev pub live_views_of : ℕ → List ℕ → List Mitigation → List LiveView
live_views_of t cuid ms = map (live_view t) (of_cuid cuid ms)

-- the live mitigations of a client at a time, in order of the entries
abbrev pub live_views_in : ℕ → List ℕ → ℕ → List Entry → List LiveView
live_views_in domain cuid t entries = live_views_of t cuid (mitigations_of domain (mitigations t entries))
