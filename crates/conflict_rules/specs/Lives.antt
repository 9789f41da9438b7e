-- A live mitigation, as the rules for a request see it.
use Rattle.std.specs.Prelude.{ℕ, true, List, [], map, Option, Some, None}
use Rattle.dots_history.specs.declared.entry.Entry.{Entry}
use Rattle.dots_history.specs.declared.put.Put.{Put}
use Rattle.dots_history.specs.Entries.{put_of}
use Rattle.dots_history.specs.Histories.{Mitigation, mitigations}
use Rattle.dots_history.specs.Keeping.{is_open}
use Rattle.dots_history.specs.Views.{mitigations_of}
use Rattle.conflict_rules.specs.declared.live.Live.{Live}
use Rattle.conflict_rules.specs.Wanted.{wanted}

-- what asks for nothing
abbrev pub nothing : Put
nothing = wanted 0 (record { prefixes = []; ports = []; protocols = []; names = []; aliases = [] }) [] true

-- The mitigation of an entry. Each live one is one, so `nothing` never comes of it.
abbrev pub put_or_nothing : Option Put → Put
put_or_nothing (Some put) = put
put_or_nothing None = nothing

-- A live one stands exactly where it wasn't withdrawn.
abbrev pub live_of : Mitigation → Live
live_of m = record {
  peer = m.put.peer;
  cuid = m.put.cuid;
  put = put_or_nothing (put_of m.put.change);
  standing = is_open m.status;
}

-- those of a domain, in order of the entries
abbrev pub lives_of : ℕ → ℕ → List Entry → List Live
lives_of domain t entries = map live_of (mitigations_of domain (mitigations t entries))
