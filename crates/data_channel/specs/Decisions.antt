-- What is decided, and the status of the reply (RFC 9110, section 15; RFC 8040, section 7).
use Rattle.std.specs.Prelude.{ℕ, Bool, true, false}
use Rattle.data_channel.specs.declared.reject.RestReject.{RestReject}
use Rattle.data_channel.specs.declared.reject.RestReject.TheVariants as reject
use Rattle.data_channel.specs.declared.decision.RestDecision.{RestDecision}
use Rattle.data_channel.specs.declared.decision.RestDecision.TheVariants as decision

abbrev pub status_of : RestDecision → ℕ
status_of decision.BadTarget = 400
status_of decision.Taken = 409
status_of decision.Absent = 404
status_of decision.Exists = 409
status_of decision.Full = 503
status_of decision.Retrieved = 200
status_of decision.Unchanged = 204
status_of decision.Created = 201
status_of decision.Replaced = 204
status_of decision.Deleted = 204

-- something changes, and an entry is made of it
abbrev pub is_accepted : RestDecision → Bool
is_accepted decision.Created = true
is_accepted decision.Replaced = true
is_accepted decision.Deleted = true
is_accepted _ = false

-- the status of what can't be read as a request
abbrev pub status_of_reject : RestReject → ℕ
status_of_reject reject.NotFound = 404
status_of_reject reject.BadName = 400
status_of_reject reject.Query = 400
status_of_reject (reject.Method allow) = 405
status_of_reject reject.Media = 415
status_of_reject reject.NotJson = 400
status_of_reject (reject.Body fault) = 400
status_of_reject reject.NoMemory = 500
