-- The bytes of the replies (RFC 9112, section 4; RFC 8040, section 4).
use Rattle.std.specs.Prelude.{ℕ, ◌≤◌, Bool, true, false, IsTrue, List, [], ◌++◌, length, codes, Option, Some, None}
use Rattle.http_cut.specs.declared.fault.HttpFault.{HttpFault}
use Rattle.http_cut.specs.declared.fault.HttpFault.TheVariants.{BadHead, LengthRequired, BodyTooLong}
use Rattle.http_cut.specs.Reply.{is_reply_status, is_in_line, status_line, closing_line, text_line, media_line, length_line}
use Rattle.data_channel.specs.declared.reject.Allow.{Allow}
use Rattle.data_channel.specs.declared.reject.RestReject.{RestReject}
use Rattle.data_channel.specs.declared.reject.RestReject.TheVariants as reject
use Rattle.data_channel.specs.declared.request.RestRequest.{RestRequest}
use Rattle.data_channel.specs.Heads.{allow_text}
use Rattle.data_channel.specs.Replies.{location_in}
use Rattle.data_channel.specs.declared.asking.RestVerb.{RestVerb}
use Rattle.data_channel.specs.declared.asking.RestVerb.TheVariants.{Post}
use Rattle.data_channel.specs.declared.decision.RestDecision.{RestDecision}
use Rattle.data_channel.specs.declared.decision.RestDecision.TheVariants.{Created}
use Rattle.data_channel.specs.Asking.{verb_of}
use Rattle.data_channel.specs.Decisions.{status_of, status_of_reject}

-- The head: the status, whether the connection is closed behind the reply, where a resource is, which methods it has, whether the body is
-- YANG data in JSON, and how many bytes it has, which 204 doesn't say.
abbrev pub head_of : ℕ → Bool → List ℕ → List ℕ → Bool → ℕ → List ℕ
head_of status close location methods json n =
    status_line status
    ++ closing_line close
    ++ text_line (codes "Location") location
    ++ text_line (codes "Allow") methods
    ++ media_line json
    ++ length_line status n
    ++ codes "\r\n"

-- a reply without a body
abbrev pub bodiless : ℕ → Bool → List ℕ → List ℕ → List ℕ
bodiless status close location methods = head_of status close location methods false 0

-- one that can be written: its status is known, and the location is short and ends no line
pub record IsWritable (status : ℕ) (location : List ℕ) : Type 0 where
  pub status_known : IsTrue (is_reply_status status)
  pub in_line : IsTrue (is_in_line location)
  pub short : length location ≤ 700

-- a reply with what is shown
abbrev pub content_reply : Bool → List ℕ → List ℕ
content_reply close text = head_of 200 close [] [] true (length text) ++ text

-- where what a POST created is (RFC 8040, section 4.4.1); no other reply says it
abbrev pub located : RestVerb → RestDecision → List ℕ → List ℕ
located Post Created location = location
located _ _ location = []

-- the reply to a request on which this is decided
abbrev pub decision_reply : Bool → RestRequest → RestDecision → List ℕ
decision_reply close asked decision = bodiless (status_of decision) close (located (verb_of asked) decision (location_in asked)) []

-- the methods of a resource that doesn't have the one of the request (RFC 9110, section 15.5.6)
abbrev pub methods_in : Option Allow → List ℕ
methods_in None = []
methods_in (Some allow) = allow_text allow

abbrev pub allowed : RestReject → Option Allow
allowed (reject.Method allow) = Some allow
allowed _ = None

-- the reply to what can't be read as a request
abbrev pub rejection : Bool → RestReject → List ℕ
rejection close rejected = bodiless (status_of_reject rejected) close [] (methods_in (allowed rejected))

-- the reply to a stream that is refused, whose connection is closed behind it
abbrev pub status_of_fault : HttpFault → ℕ
status_of_fault BadHead = 400
status_of_fault LengthRequired = 411
status_of_fault BodyTooLong = 413

abbrev pub refusal : HttpFault → List ℕ
refusal fault = bodiless (status_of_fault fault) true [] []

-- the reply for want of memory
abbrev pub unavailable : Bool → List ℕ
unavailable close = bodiless 500 close [] []
