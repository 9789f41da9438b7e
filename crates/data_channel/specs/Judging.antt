-- The order in which a readable request of the data channel is judged (RFC 8783, sections 5 to 7).
use Rattle.std.specs.Prelude.{if◌then◌else◌}
use Rattle.data_channel.specs.declared.asking.RestVerb.{RestVerb}
use Rattle.data_channel.specs.declared.asking.RestVerb.TheVariants as verb
use Rattle.data_channel.specs.declared.asking.RestKind.{RestKind}
use Rattle.data_channel.specs.declared.asking.RestKind.TheVariants as kind
use Rattle.data_channel.specs.declared.facts.RestFacts.{RestFacts}
use Rattle.data_channel.specs.declared.decision.RestDecision.{RestDecision}
use Rattle.data_channel.specs.declared.decision.RestDecision.TheVariants.{BadTarget, Taken, Absent, Exists, Full, Retrieved, Unchanged, Created, Replaced, Deleted}

-- a new resource, where there may be one more
abbrev pub made : RestFacts → RestDecision
made facts = if facts.full then Full else Created

-- An alias or an access list of a registered client. Only what is there is read or deleted; PUT replaces what is there, and POST
-- doesn't (RFC 8040, sections 4.4.1 and 4.5).
abbrev pub of_one : RestVerb → RestFacts → RestDecision
of_one verb.Get facts = if facts.there then Retrieved else Absent
of_one verb.Delete facts = if facts.there then Deleted else Absent
of_one verb.Put facts = if facts.there then Replaced else made facts
of_one verb.Post facts = if facts.there then Exists else made facts

-- A client. A PUT of one that is registered changes nothing below it, and nothing else (RFC 8783, section 5.1).
abbrev pub of_client : RestVerb → RestFacts → RestDecision
of_client verb.Get facts = if facts.there then Retrieved else Absent
of_client verb.Delete facts = if facts.there then Deleted else Absent
of_client verb.Put facts = if facts.there then Unchanged else made facts
of_client verb.Post facts = if facts.there then Exists else made facts

-- what is below a registered client; all of a kind are read, also where there is none
abbrev pub below_client : RestVerb → RestKind → RestFacts → RestDecision
below_client asked kind.Client facts = of_client asked facts
below_client asked kind.Alias facts = of_one asked facts
below_client asked kind.Acl facts = of_one asked facts
below_client asked kind.Aliases facts = Retrieved
below_client asked kind.Acls facts = Retrieved

-- a resource below a client that isn't registered isn't there
abbrev pub of_resource : RestVerb → RestKind → RestFacts → RestDecision
of_resource asked kind.Client facts = of_client asked facts
of_resource asked about facts = if facts.registered then below_client asked about facts else Absent

-- **what is decided**: what may not be asked for, a name that another peer uses, and then the resource
abbrev pub judge : RestVerb → RestKind → RestFacts → RestDecision
judge asked about facts = if facts.fault then BadTarget else if facts.taken then Taken else of_resource asked about facts
