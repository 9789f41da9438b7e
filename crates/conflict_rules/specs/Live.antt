-- What a live mitigation of a domain is to a request in that domain.
use Rattle.std.specs.Prelude.{ℕ, List, Bool, ◌&&◌, not, bytes_eq}
use Rattle.dots_history.specs.declared.put.Put.{Put}
use Rattle.dots_history.specs.declared.change.Change.TheVariants as change
use Rattle.dots_history.specs.Entries.{replaces}
use Rattle.conflict_rules.specs.declared.live.Live.{Live}

-- it is of the client: a client is its cuid, since all are of one domain
abbrev pub is_of : List ℕ → Live → Bool
is_of cuid m = bytes_eq m.cuid cuid

-- it stands, and is of the client; one that is terminating is live but doesn't stand
abbrev pub stands_for : List ℕ → Live → Bool
stands_for cuid m = m.standing && is_of cuid m

-- it stands, and is of another client
abbrev pub stands_against : List ℕ → Live → Bool
stands_against cuid m = m.standing && not (is_of cuid m)

-- The request would end it: it is of the client, and has the mid of the request, or has the same trigger value and
-- overlaps with it (RFC 9132, section 4.4.1). This is what an accepted mitigation does in a history.
abbrev pub would_end : List ℕ → Put → Live → Bool
would_end cuid request m = is_of cuid m && replaces (change.Put m.put) (change.Put request)
