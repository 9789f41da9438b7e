-- How many rows filter at the server of a world.
use Rattle.std.specs.Prelude.{ℕ, length, filter}
use Rattle.dots_history.specs.Rows.{plain_rows}
use Rattle.dots_machine.specs.Machine.{State}

-- those of mitigations that filter in a state
abbrev pub rows_of : State → ℕ
rows_of state = length (filter (λ row. row.active) (plain_rows state.time state.history))
