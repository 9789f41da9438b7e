-- Which connections have nothing to read and none of whose rest is taken.
use Rattle.std.specs.Prelude.{◌≡◌, ℕ, ◌+◌, ◌-◌, ◌%◌, ◌<◌, ◌≤◌, ◌==◌, ◌&&◌, ◌||◌, ◌⊎◌, Bool, true, not, if◌then◌else◌, List, length, Option, Some, None, get_or}
use Rattle.dots_edge.specs.Answers.{is_exhausted}
use Rattle.dots_edge.specs.declared.connection.Connection.{Connection}

-- whether something of what was sent is kept
abbrev pub is_unwritten : Connection → Bool
is_unwritten connection = not (length connection.rest.bytes.items == 0)

-- A turn gives nothing: where something is kept, the socket takes none of it, and else it has nothing to read. Neither has a connection that is of no
-- use any more, or that the server has closed and of which nothing is kept.
abbrev pub is_idle : Connection → Bool
is_idle connection =
    not connection.broken && (if is_unwritten connection then not connection.takes else not connection.ready && not connection.closing)

-- What isn't tried is known from the socket: it had nothing to read at the last read, and took nothing at the last write.
abbrev pub is_sound : Connection → Bool
is_sound connection =
    (connection.ready || is_exhausted connection.came.answers)
    && (connection.takes || not (is_unwritten connection) || is_exhausted connection.taken.answers)

-- how often the socket was read or written to
abbrev pub calls_of : Connection → ℕ
calls_of connection = length connection.came.answers + length connection.taken.answers

-- the same of a place, where nothing is to be done if no connection is there
abbrev pub idle_at : Option Connection → Bool
idle_at None = true
idle_at (Some connection) = is_idle connection

abbrev pub sound_at : Option Connection → Bool
sound_at None = true
sound_at (Some connection) = is_sound connection

abbrev pub calls_at : Option Connection → ℕ
calls_at None = 0
calls_at (Some connection) = calls_of connection

-- how many places have their turn before this one
abbrev pub ahead : ℕ → ℕ → ℕ
ahead turn place = (place + (128 - turn % 128)) % 128

-- nothing is to be done at a place whose turn isn't among the next so many
abbrev pub AreIdleBeyond : List (Option Connection) → ℕ → ℕ → Type 0
AreIdleBeyond places turn looks = (place : ℕ) → place < 128 → looks ≤ ahead turn place → idle_at (get_or places place None) ≡ true

abbrev pub AreSound : List (Option Connection) → Type 0
AreSound places = (place : ℕ) → place < 128 → sound_at (get_or places place None) ≡ true

-- nothing can be done at the place now, or its socket was called
abbrev pub WasTried : Option Connection → Option Connection → Type 0
WasTried old new = (idle_at new ≡ true) ⊎ (calls_at old < calls_at new)

-- The socket of the connection had nothing to read at the last read, or took nothing of what is kept at the last write.
abbrev pub is_spent : Option Connection → Bool
is_spent None = true
is_spent (Some connection) = if is_unwritten connection then is_exhausted connection.taken.answers else is_exhausted connection.came.answers
