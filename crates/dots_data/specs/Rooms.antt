-- Of what there may be only so many.
use Rattle.held_resources.specs.declared.kind.RoomKind.{RoomKind}
use Rattle.held_resources.specs.declared.kind.RoomKind.TheVariants as room
use Rattle.data_channel.specs.declared.asking.RestKind.{RestKind}
use Rattle.data_channel.specs.declared.asking.RestKind.TheVariants as kind

abbrev pub room_of : RestKind → RoomKind
room_of kind.Client = room.Client
room_of kind.Alias = room.Alias
room_of kind.Aliases = room.Alias
room_of kind.Acl = room.Acl
room_of kind.Acls = room.Acl
