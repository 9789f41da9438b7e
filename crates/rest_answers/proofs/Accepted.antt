-- What an accepted change has.
use Rattle.std.proofs.Common.{◌≡◌, ℕ, Bool, true, false, List, ◌++◌, Option, Some, None, refl, ap, subst, cond}
use Rattle.std.specs.Prelude.{codes, option_map, ⊤}
use Rattle.std.proofs.lemmas.Option.{none-some, same_Some}
use Rattle.std.proofs.lemmas.Bool.{false≢true}
use Rattle.dots_history.specs.declared.entry.Entry.{Entry}
use Rattle.dots_history.specs.declared.change.Change.{Change}
use Rattle.dots_history.specs.Fits.{is_of_mitigations}
use Rattle.http_cut.specs.Reply.{status_line}
use Rattle.data_channel.specs.declared.replies.RestBody.{RestBody}
use Rattle.data_channel.specs.declared.request.RestRequest.{RestRequest}
use Rattle.data_channel.specs.declared.request.RestRequest.TheVariants as request
use Rattle.data_channel.specs.declared.decision.RestDecision.{RestDecision}
use Rattle.data_channel.specs.declared.decision.RestDecision.TheVariants as decision
use Rattle.data_channel.specs.Asking.{verb_of, kind_of, cuid_of}
use Rattle.data_channel.specs.Decisions.{is_accepted}
use Rattle.data_channel.specs.Judging.{judge}
use Rattle.rest_answers.specs.declared.answer.RestAnswer.TheVariants as answer
use Rattle.rest_answers.specs.declared.caller.Caller.{Caller}
use Rattle.rest_answers.specs.Known.{Known}
use Rattle.rest_answers.specs.Changes.{change_of, changed_by, entry_of}
use Rattle.rest_answers.specs.Replies.{decision_reply, unavailable}
use Rattle.rest_answers.specs.Answers.{body_of, changing, showing, telling, rest_answer, IsOf}

-- ---- the entry

abbrev IsOther : Option Change → Type 0
IsOther None = ⊤
IsOther (Some change) = is_of_mitigations change ≡ false

other_change : (asked : RestRequest) → IsOther (change_of asked)
unfolding is_of_mitigations
other_change (request.PutClient cuid) = refl
other_change (request.PostClient cuid) = refl
other_change (request.GetClient cuid) = tt
other_change (request.DeleteClient cuid) = refl
other_change (request.PutAlias cuid alias) = refl
other_change (request.PostAlias cuid alias) = refl
other_change (request.GetAlias cuid name) = tt
other_change (request.DeleteAlias cuid name) = refl
other_change (request.GetAliases cuid) = tt
other_change (request.PutAcl cuid acl) = refl
other_change (request.PostAcl cuid acl) = refl
other_change (request.GetAcl cuid name) = tt
other_change (request.DeleteAcl cuid name) = refl
other_change (request.GetAcls cuid) = tt

of_change : (time : ℕ) (caller : Caller) (asked : RestRequest) (changed : Option Change) (e : Entry) → IsOther changed
    → option_map (changed_by time caller (cuid_of asked)) changed ≡ Some e → IsOf time caller asked e
of_change time caller asked None e other is = absurd (none-some e is)
of_change time caller asked (Some change) e other is =
    subst (λ (x : Entry). IsOf time caller asked x) (same_Some (changed_by time caller (cuid_of asked) change) e is)
    (record { now = refl; peer = refl; domain = refl; cuid = refl; http = refl; other = other })

pub entry_is_of : (time : ℕ) (caller : Caller) (asked : RestRequest) (e : Entry) → entry_of time caller asked ≡ Some e → IsOf time caller asked e
entry_is_of time caller asked e is = of_change time caller asked (change_of asked) e (other_change asked) is

-- ---- the reply

abbrev IsSuccess : List ℕ → Type 0
IsSuccess reply = (rest : List ℕ) × (reply ≡ codes "HTTP/1.1 2" ++ rest)

success : (close : Bool) (asked : RestRequest) (decision : RestDecision) → is_accepted decision ≡ true → IsSuccess (decision_reply close asked decision)
unfolding status_line
success close asked decision.Created is = (_, refl)
success close asked decision.Replaced is = (_, refl)
success close asked decision.Deleted is = (_, refl)
success close asked decision.BadTarget is = absurd (false≢true is)
success close asked decision.Taken is = absurd (false≢true is)
success close asked decision.Absent is = absurd (false≢true is)
success close asked decision.Exists is = absurd (false≢true is)
success close asked decision.Full is = absurd (false≢true is)
success close asked decision.Retrieved is = absurd (false≢true is)
success close asked decision.Unchanged is = absurd (false≢true is)

pub failure : (close : Bool) → (rest : List ℕ) × (unavailable close ≡ codes "HTTP/1.1 5" ++ rest)
unfolding status_line
failure close = (_, refl)

-- ---- both

-- what is accepted is the reply and the entry of an accepted outcome
pub record Accepts (time : ℕ) (caller : Caller) (close : Bool) (asked : RestRequest) (decision : RestDecision) (reply : List ℕ) (e : Entry) : Type 0 where
  pub accepted : is_accepted decision ≡ true
  pub reply_is : decision_reply close asked decision ≡ reply
  pub entry_is : entry_of time caller asked ≡ Some e

body_is_none : (close : Bool) (asked : RestRequest) (shown : Option RestBody) (reply : List ℕ) (e : Entry) → ¬ (showing close asked shown ≡ answer.Accept reply e)
body_is_none close asked None reply e is = cc is
body_is_none close asked (Some body) reply e is = cc is

decided_is_none : (close : Bool) (asked : RestRequest) (shown : Option RestBody) (decision : RestDecision) (reply : List ℕ) (e : Entry) → ¬ (telling close asked shown decision ≡ answer.Accept reply e)
decided_is_none close asked shown decision.Retrieved reply e is = body_is_none close asked shown reply e is
decided_is_none close asked shown decision.Created reply e is = cc is
decided_is_none close asked shown decision.Replaced reply e is = cc is
decided_is_none close asked shown decision.Deleted reply e is = cc is
decided_is_none close asked shown decision.BadTarget reply e is = cc is
decided_is_none close asked shown decision.Taken reply e is = cc is
decided_is_none close asked shown decision.Absent reply e is = cc is
decided_is_none close asked shown decision.Exists reply e is = cc is
decided_is_none close asked shown decision.Full reply e is = cc is
decided_is_none close asked shown decision.Unchanged reply e is = cc is

changed_is : (made : List ℕ) (found : Option Entry) (reply : List ℕ) (e : Entry) → changing made found ≡ answer.Accept reply e → (made ≡ reply) × (found ≡ Some e)
changed_is made None reply e is = absurd (cc is)
changed_is made (Some x) reply e is = (cc is, ap Some (cc is))

accepts_by : (known : Known) (caller : Caller) (close : Bool) (asked : RestRequest) (decision : RestDecision) (b : Bool) (reply : List ℕ) (e : Entry) → is_accepted decision ≡ b
    → cond b (changing (decision_reply close asked decision) (entry_of known.time caller asked)) (telling close asked (body_of asked known.aliases known.acls) decision) ≡ answer.Accept reply e
    → Accepts known.time caller close asked decision reply e
accepts_by known caller close asked decision true reply e accepted is =
    let both = changed_is (decision_reply close asked decision) (entry_of known.time caller asked) reply e is in
    record { accepted = accepted; reply_is = both.0; entry_is = both.1 }
accepts_by known caller close asked decision false reply e accepted is = absurd (decided_is_none close asked (body_of asked known.aliases known.acls) decision reply e is)

pub accepts : (known : Known) (caller : Caller) (close : Bool) (asked : RestRequest) (reply : List ℕ) (e : Entry) → rest_answer known caller close asked ≡ answer.Accept reply e
    → Accepts known.time caller close asked (judge (verb_of asked) (kind_of asked) known.facts) reply e
accepts known caller close asked reply e is =
    let decision = judge (verb_of asked) (kind_of asked) known.facts in
    accepts_by known caller close asked decision (is_accepted decision) reply e refl is

pub accepted_succeeds : (known : Known) (caller : Caller) (close : Bool) (asked : RestRequest) (reply : List ℕ) (e : Entry) → rest_answer known caller close asked ≡ answer.Accept reply e → IsSuccess reply
accepted_succeeds known caller close asked reply e is =
    let how = accepts known caller close asked reply e is in
    subst (λ (bytes : List ℕ). IsSuccess bytes) how.reply_is (success close asked (judge (verb_of asked) (kind_of asked) known.facts) how.accepted)

pub accepted_is_of : (known : Known) (caller : Caller) (close : Bool) (asked : RestRequest) (reply : List ℕ) (e : Entry) → rest_answer known caller close asked ≡ answer.Accept reply e → IsOf known.time caller asked e
accepted_is_of known caller close asked reply e is = entry_is_of known.time caller asked e (accepts known caller close asked reply e is).entry_is
