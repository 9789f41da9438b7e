-- What reading a body of the data channel adds to the sum.
use Rattle.std.specs.Prelude.{ℕ, length, codes, is_some, if◌then◌else◌, Result, Ok}
use Rattle.serde_json.specs.Data.{Data}
use Rattle.serde_json.specs.Find.{get}
use Rattle.list_json.specs.declared.fault.ListFault.{ListFault}
use Rattle.list_json.specs.Steps.{◌>>=◌}
use Rattle.data_channel.specs.Bodies.{acl_body, alias_body}

-- how many entries its access list has
abbrev pub entries_in : Data → Result ℕ ListFault
entries_in d = acl_body d >>= (λ acl. Ok (length acl.aces))

-- how many prefixes its alias has
abbrev pub prefixes_in : Data → Result ℕ ListFault
prefixes_in d = alias_body d >>= (λ alias. Ok (length alias.asked.prefixes))

-- that of an access list, where it has one, and else of an alias
abbrev pub size_in : Data → Result ℕ ListFault
size_in d = if is_some (get (codes "ietf-dots-data-channel:acl") d) then entries_in d else prefixes_in d
