-- What a request of the data channel changes where it is accepted (RFC 8783, sections 5 to 7).
use Rattle.std.specs.Prelude.{ℕ, List, [], Option, Some, None, option_map}
use Rattle.dots_history.specs.declared.entry.Entry.{Entry}
use Rattle.dots_history.specs.declared.entry.MessageKey.TheVariants.{Http}
use Rattle.dots_history.specs.declared.change.Change.{Change}
use Rattle.dots_history.specs.declared.change.Change.TheVariants as change
use Rattle.data_channel.specs.declared.request.RestRequest.{RestRequest}
use Rattle.data_channel.specs.declared.request.RestRequest.TheVariants as request
use Rattle.data_channel.specs.Asking.{cuid_of}
use Rattle.rest_answers.specs.declared.caller.Caller.{Caller}

-- A client registers, or leaves with all that it has; an alias or an access list is written, or deleted. A GET changes nothing.
abbrev pub change_of : RestRequest → Option Change
change_of (request.PutClient cuid) = Some change.Register
change_of (request.PostClient cuid) = Some change.Register
change_of (request.GetClient cuid) = None
change_of (request.DeleteClient cuid) = Some change.Deregister
change_of (request.PutAlias cuid alias) = Some (change.SetAlias alias)
change_of (request.PostAlias cuid alias) = Some (change.SetAlias alias)
change_of (request.GetAlias cuid name) = None
change_of (request.DeleteAlias cuid name) = Some (change.DropAlias name)
change_of (request.GetAliases cuid) = None
change_of (request.PutAcl cuid acl) = Some (change.SetAcl acl)
change_of (request.PostAcl cuid acl) = Some (change.SetAcl acl)
change_of (request.GetAcl cuid name) = None
change_of (request.DeleteAcl cuid name) = Some (change.DropAcl name)
change_of (request.GetAcls cuid) = None

-- It has no Message ID, and its reply isn't kept.
abbrev pub changed_by : ℕ → Caller → List ℕ → Change → Entry
changed_by time caller cuid changed = record {
  time = time;
  peer = caller.peer;
  domain = caller.domain;
  cuid = cuid;
  key = Http;
  reply = [];
  change = changed;
}

abbrev pub entry_with : ℕ → Caller → List ℕ → Option Change → Option Entry
entry_with time caller cuid changed = option_map (changed_by time caller cuid) changed

-- **what is kept of a request that is accepted at this time**
abbrev pub entry_of : ℕ → Caller → RestRequest → Option Entry
entry_of time caller asked = entry_with time caller (cuid_of asked) (change_of asked)
