-- A mitigation that waits for a lost signal (RFC 9132, section 4.4.1, trigger-mitigation).
use Rattle.std.specs.Prelude.{◌≡◌, true, is_some, ⊤}
use Rattle.dots_keys.specs.declared.request.Request.{Request}
use Rattle.dots_keys.specs.declared.request.Request.TheVariants as request

-- it is asked for by a client, and by no gateway, which says for which domain it asks
abbrev pub WaitsForClient : Request → Type 0
WaitsForClient (request.PutMitigation path body) = is_some path.cdid ≡ true → body.trigger ≡ true
WaitsForClient _ = ⊤
