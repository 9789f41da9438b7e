-- the one of the rest, or else the one found, is the one of all
use Rattle.std.proofs.Common.{◌≡◌, drop, option_copied}
use Rattle.dots_history.specs.Histories.{remembered, or_else}
use Rattle.dots_history.proofs.reply.remembered.Given as goal

abbrev pub invariant-loop-place : goal.invariant-loop-place
invariant-loop-place l =
    or_else (remembered l.count l.t l.peer l.domain l.id (drop l.place l.entries)) (option_copied l.found)
    ≡ remembered l.count l.t l.peer l.domain l.id l.entries
