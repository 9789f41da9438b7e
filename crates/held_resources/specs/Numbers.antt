-- How much is held of a kind, and how much may be.
use Rattle.std.specs.Prelude.{ℕ, ◌&&◌, ◌==◌, nat_lt, if◌then◌else◌, List, Option, Some, None}
use Rattle.dots_history.specs.declared.entry.Entry.{Entry}
use Rattle.dots_history.specs.Histories.{tally}
use Rattle.dots_history.specs.Capacities.{is_registration, is_alias, is_list}
use Rattle.dots_history.specs.Tables.{Client, is_of}
use Rattle.held_resources.specs.declared.kind.RoomKind.{RoomKind}
use Rattle.held_resources.specs.declared.kind.RoomKind.TheVariants as kind

-- how many registered clients the client's domain has, and how many aliases and access lists the client
abbrev pub number_of : RoomKind → Client → List Entry → ℕ
number_of kind.Client client held_now = tally (λ e. is_registration e.change && (e.domain == client.domain)) held_now
number_of kind.Alias client held_now = tally (λ e. is_alias e.change && is_of client e) held_now
number_of kind.Acl client held_now = tally (λ e. is_list e.change && is_of client e) held_now

-- the number that there may be of a kind, where it is reached
abbrev pub reached : ℕ → ℕ → Option ℕ
reached most number = if nat_lt number most then None else Some most
