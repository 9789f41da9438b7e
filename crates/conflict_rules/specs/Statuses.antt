-- What is shown of the live mitigations of a client: whether each filters, too.
use Rattle.std.specs.Prelude.{ℕ, Bool, not, ◌&&◌, ◌||◌, ◌==◌, if◌then◌else◌, List, map}
use Rattle.dots_history.specs.declared.entry.Entry.{Entry}
use Rattle.dots_history.specs.Histories.{held}
use Rattle.dots_history.specs.Rows.{is_lost_in}
use Rattle.conflict_rules.specs.LiveViews.{LiveView, live_views_in}

-- 2 where it stands and filters, 8 where it stands and waits for a lost signal, and 5 where it is terminating (RFC 9132, section
-- 4.4.2)
abbrev pub status_by : Bool → ℕ → ℕ
status_by works status = if (status == 2) && not works then 8 else status

-- it filters at once, or the signal of its peer is lost; the test says of a peer and its domain whether it is
abbrev pub works_for : (ℕ → ℕ → Bool) → ℕ → LiveView → Bool
works_for lost domain view = view.put.trigger || lost view.peer domain

-- a mitigation of the domain as it is shown
abbrev pub view_with : (ℕ → ℕ → Bool) → ℕ → LiveView → LiveView
view_with lost domain view = record {
  put = view.put;
  peer = view.peer;
  left = view.left;
  status = status_by (works_for lost domain view) view.status;
}

-- the live mitigations of a client as they are shown, in order of the entries
abbrev pub views_in : ℕ → List ℕ → ℕ → List Entry → List LiveView
views_in domain cuid t entries = map (view_with (is_lost_in (held entries)) domain) (live_views_in domain cuid t entries)

-- it stands, by the status that is shown
abbrev pub is_standing : ℕ → Bool
is_standing status = (status == 2) || (status == 8)
