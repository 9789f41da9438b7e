use Rattle.std.proofs.Common.{◌≡◌, drop}
use Rattle.dots_settings.specs.Lines.{lines_of}
use Rattle.dots_script.proofs.settings_check.from_line.Given as goal

abbrev pub invariant-loop-turn : goal.invariant-loop-turn
invariant-loop-turn l = record { left : lines_of l.rest ≡ drop l._turn (lines_of l.content) }
