use Rattle.std.proofs.Common.{◌≡◌, ◌++◌, List, map, filter}
use Rattle.reply_bodies.specs.Mitigations.{scope_of}
use Rattle.dots_history.specs.declared.entry.Entry.{Entry}
use Rattle.conflict_rules.specs.Statuses.{views_in}
use Rattle.dots_registry.specs.RegistryValues.{Represents, time_of}
use Rattle.dots_machine.specs.Replies.{mitigation_fields}
use Rattle.dots_machine.specs.Mitigations.{is_wanted}
use Rattle.dots_server.proofs.mitigations.views_of.Given as goal

abbrev pub invariant-loop-row : goal.invariant-loop-row
invariant-loop-row l =
    (entries : List Entry) → Represents l.fn.tables entries
    → map (mitigation_fields l.content) (filter (is_wanted l.fn.mid) (views_in l.fn.domain l.fn.cuid (time_of l.fn.tables) entries))
    ≡ map scope_of l.views ++ map (mitigation_fields l.content) (filter (is_wanted l.fn.mid) l.row-iterator)
