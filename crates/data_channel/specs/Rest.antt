-- What a message of the data channel means.
use Rattle.std.specs.Prelude.{◌≡◌, ℕ, List, IsUtf8, Option, Some, None, Result, Ok, Err}
use Rattle.std.specs.Bool.{MatchBool}
use Rattle.http_cut.specs.Requests.{Request}
use Rattle.serde_json.specs.Data.{Data}
use Rattle.serde_json.specs.Read.{read}
use Rattle.list_json.specs.declared.fault.ListFault.{ListFault}
use Rattle.data_channel.specs.declared.reject.RestReject.{RestReject}
use Rattle.data_channel.specs.declared.reject.RestReject.TheVariants as reject
use Rattle.data_channel.specs.declared.request.Head.{Head}
use Rattle.data_channel.specs.declared.request.Head.TheVariants.{Plain, Wants}
use Rattle.data_channel.specs.declared.request.RestRequest.{RestRequest}
use Rattle.data_channel.specs.declared.request.Wanted.{Wanted}
use Rattle.data_channel.specs.Heads.{IsHead, is_yang_json, reject_of}
use Rattle.data_channel.specs.Bodies.{whole_request}

-- the value that a body is as JSON (RFC 8259), which is UTF-8, or none
abbrev pub IsJson : List ℕ → Option Data → Type 0
IsJson body (Some d) = IsUtf8 body × (read body ≡ Some d)
IsJson body None = IsUtf8 body → read body ≡ None

abbrev pub rest_result : Result RestRequest ListFault → Result RestRequest RestReject
rest_result (Ok request) = Ok request
rest_result (Err fault) = Err (reject_of fault)

abbrev pub with_json : Wanted → Option Data → Result RestRequest RestReject
with_json wanted None = Err reject.NotJson
with_json wanted (Some d) = rest_result (whole_request wanted d)

-- a body whose media type isn't known isn't read
abbrev pub IsAnswer : Wanted → Option (List ℕ) → List ℕ → Result RestRequest RestReject → Type 0
IsAnswer wanted media body result =
    MatchBool (is_yang_json media) ((json : Option Data) × IsJson body json × (result ≡ with_json wanted json)) (result ≡ Err reject.Media)

abbrev pub ByHead : Result Head RestReject → Option (List ℕ) → List ℕ → Result RestRequest RestReject → Type 0
ByHead (Err e) media body result = result ≡ Err e
ByHead (Ok (Plain asked)) media body result = result ≡ Ok asked
ByHead (Ok (Wants wanted)) media body result = IsAnswer wanted media body result

-- **what a message means**: one request, or the first refusal that applies
abbrev pub Rest : Request → Result RestRequest RestReject → Type 0
Rest request result = (head : Result Head RestReject) × IsHead request.method request.target head × ByHead head request.media request.body result
