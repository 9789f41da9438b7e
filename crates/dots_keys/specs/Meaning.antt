-- What a message means: a request, or the first refusal that applies.
use Rattle.std.specs.Prelude.{is_some, ◌≡◌, Bool, List, ℕ, Result, Ok, Err}
use Rattle.cbor_profile.specs.declared.fault.CborFault.{CborFault}
use Rattle.cbor_profile.specs.Breaking.{Refuses}
use Rattle.cbor_profile.specs.Spelling.{Spells}
use Rattle.cbor_profile.specs.Tree.{Tree}
use Rattle.coap_message.specs.Message.{CoapMessage}
use Rattle.dots_keys.specs.declared.reject.Reject.{Reject}
use Rattle.dots_keys.specs.declared.reject.Reject.TheVariants as reject
use Rattle.dots_keys.specs.declared.reject.Cause.TheVariants as cause
use Rattle.dots_keys.specs.declared.head_request.MitigationPath.{MitigationPath}
use Rattle.dots_keys.specs.declared.request.Request.{Request}
use Rattle.dots_keys.specs.declared.request.Request.TheVariants as request
use Rattle.dots_keys.specs.declared.head_request.Content.{Content}
use Rattle.dots_keys.specs.declared.head_request.Observe.{Observe}
use Rattle.dots_keys.specs.Configurations.{configuration_of}
use Rattle.dots_keys.specs.Heads.{Head, head_of}
use Rattle.dots_keys.specs.Heartbeats.{heartbeat_of}
use Rattle.dots_keys.specs.Mitigations.{mitigation_of}
use Rattle.dots_keys.specs.Operations.{Operation, put_mitigation, get_mitigation, delete_mitigation, put_config, get_config, delete_config, put_heartbeat}
use Rattle.dots_keys.specs.Results.{◌>>=◌}

-- The payload as an item of CBOR (RFC 8949), in any spelling, or its first fault.
abbrev pub IsBody : List ℕ → Result Tree Reject → Type 0
IsBody payload (Ok tree) = Spells payload tree 0
IsBody payload (Err refusal) = (fault : CborFault) × Refuses payload fault × (refusal ≡ reject.Body (cause.Cbor fault))

-- The answer is what is read of the payload.
abbrev pub AnswersBody : List ℕ → (Tree → Result Request Reject) → Result Request Reject → Type 0
AnswersBody payload read answer = (body : Result Tree Reject) × IsBody payload body × (answer ≡ (body >>= read))

-- the requests with a body
abbrev pub put_mitigation_with : MitigationPath → Tree → Result Request Reject
put_mitigation_with path tree = mitigation_of (is_some path.cdid) tree >>= λ body. Ok (request.PutMitigation path body)

abbrev pub put_config_with : ℕ → Tree → Result Request Reject
put_config_with sid tree = configuration_of tree >>= λ body. Ok (request.PutConfig sid body)

abbrev pub put_heartbeat_with : Tree → Result Request Reject
put_heartbeat_with tree = heartbeat_of tree >>= λ heard. Ok (request.PutHeartbeat heard)

-- a PUT has a body, other requests have none
abbrev pub Completes : Operation → Content → Observe → List ℕ → Result Request Reject → Type 0
Completes (put_mitigation path) content observe payload answer = AnswersBody payload (put_mitigation_with path) answer
Completes (get_mitigation path) content observe payload answer = answer ≡ Ok (request.GetMitigation path content observe)
Completes (delete_mitigation path) content observe payload answer = answer ≡ Ok (request.DeleteMitigation path)
Completes (put_config sid) content observe payload answer = AnswersBody payload (put_config_with sid) answer
Completes (get_config sid) content observe payload answer = answer ≡ Ok (request.GetConfig sid)
Completes (delete_config sid) content observe payload answer = answer ≡ Ok (request.DeleteConfig sid)
Completes put_heartbeat content observe payload answer = AnswersBody payload put_heartbeat_with answer

abbrev pub ReadsAs : Result Head Reject → List ℕ → Result Request Reject → Type 0
ReadsAs (Ok head) payload answer = Completes head.operation head.content head.observe payload answer
ReadsAs (Err refusal) payload answer = answer ≡ Err refusal

-- what a message from a gateway or from a client means
abbrev pub Means : CoapMessage → Bool → Result Request Reject → Type 0
Means message gateway answer = ReadsAs (head_of message gateway) message.payload answer
