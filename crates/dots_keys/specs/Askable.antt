-- What stands in each request that is read, so that later steps rest on it (RFC 9132, sections 4.4.1 and 4.5.2).
use Rattle.std.specs.Prelude.{◌≡◌, ◌≤◌, false, ◌&&◌, length, IsTrue, IsSome, IfSome, ⊤}
use Rattle.acl_lists.specs.declared.limits.TheConstants.{MAX_ITEMS, MAX_NAMES}
use Rattle.acl_lists.specs.declared.asked.Asked.{Asked}
use Rattle.lifetime_clock.specs.Lifetime.{IsLifetime}
use Rattle.dots_keys.specs.declared.request.ConfigBody.{ConfigBody}
use Rattle.dots_keys.specs.declared.request.MitigationBody.{MitigationBody}
use Rattle.dots_keys.specs.declared.head_request.MitigationPath.{MitigationPath}
use Rattle.dots_keys.specs.declared.request.Request.{Request}
use Rattle.dots_keys.specs.declared.request.Request.TheVariants as request
use Rattle.dots_keys.specs.Configurations.{offers_nothing}
use Rattle.dots_keys.specs.Mitigations.{has_target}
use Rattle.dots_keys.specs.Operations.{is_client_name}

-- the client, and the domain that a gateway says, are names without a slash
pub record NamesClient (path : MitigationPath) : Type 0 where
  pub cuid : IsTrue (is_client_name path.cuid)
  pub cdid : IfSome path.cdid (λ cdid. IsTrue (is_client_name cdid))

-- the path of one mitigation
pub record NamesMitigation (path : MitigationPath) : Type 0 where
  pub client : NamesClient path
  pub mid : IsSome path.mid

-- the lists within their numbers
pub record AreFew (asked : Asked) : Type 0 where
  pub prefixes : length asked.prefixes ≤ MAX_ITEMS
  pub ports : length asked.ports ≤ MAX_ITEMS
  pub protocols : length asked.protocols ≤ MAX_ITEMS
  pub names : length asked.names ≤ MAX_NAMES
  pub aliases : length asked.aliases ≤ MAX_NAMES

-- a prefix, a name or an alias at least, and a lifetime that can be granted
pub record IsAskableBody (body : MitigationBody) : Type 0 where
  pub target : IsTrue (has_target body.asked)
  pub few : AreFew body.asked
  pub lifetime : IsLifetime body.lifetime

-- a value at least
abbrev pub OffersSome : ConfigBody → Type 0
OffersSome body = (offers_nothing body.mitigating && offers_nothing body.idle) ≡ false

-- the sid of a PUT and a DELETE is a part of their type
abbrev pub IsAskable : Request → Type 0
IsAskable (request.PutMitigation path body) = NamesMitigation path × IsAskableBody body
IsAskable (request.GetMitigation path content observe) = NamesClient path
IsAskable (request.DeleteMitigation path) = NamesMitigation path
IsAskable (request.PutConfig sid body) = OffersSome body
IsAskable (request.GetConfig sid) = ⊤
IsAskable (request.DeleteConfig sid) = ⊤
IsAskable (request.PutHeartbeat heard) = ⊤
