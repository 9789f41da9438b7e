use Rattle.std.proofs.Common.{◌≡◌, ◌++◌, take, flat_map}
use Rattle.server_figures.proofs.lines.add.Given as goal

abbrev pub invariant-loop-piece : goal.invariant-loop-piece
invariant-loop-piece l = record { added : l.text.items ≡ l.fn.text.items ++ flat_map (λ piece. piece.now) (take l.piece-index l.pieces) }
