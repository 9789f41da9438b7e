-- What is known of a request that is accepted.
use Rattle.std.proofs.Common.{◌≡◌, Bool, true, false, cond, ◌⊎◌, inl, inr, refl}
use Rattle.std.proofs.lemmas.Bool.{false≢true}
use Rattle.data_channel.specs.declared.asking.RestVerb.{RestVerb}
use Rattle.data_channel.specs.declared.asking.RestVerb.TheVariants as verb
use Rattle.data_channel.specs.declared.asking.RestKind.{RestKind}
use Rattle.data_channel.specs.declared.asking.RestKind.TheVariants as kind
use Rattle.data_channel.specs.declared.facts.RestFacts.{RestFacts}
use Rattle.data_channel.specs.declared.decision.RestDecision.{RestDecision}
use Rattle.data_channel.specs.declared.decision.RestDecision.TheVariants.{BadTarget, Taken, Absent, Exists, Full, Unchanged, Created, Replaced}
use Rattle.data_channel.specs.Decisions.{is_accepted}
use Rattle.data_channel.specs.Judging.{of_resource, judge}

unfaulted : (fault taken : Bool) (decision : RestDecision) → is_accepted (cond fault BadTarget (cond taken Taken decision)) ≡ true → (fault ≡ false) × (is_accepted decision ≡ true)
unfaulted true taken decision is = absurd (false≢true is)
unfaulted false true decision is = absurd (false≢true is)
unfaulted false false decision is = (refl, is)

-- it may be asked for, and the resource is one for which it is accepted
pub judged_clear : (asked : RestVerb) (about : RestKind) (facts : RestFacts) → is_accepted (judge asked about facts) ≡ true
    → (facts.fault ≡ false) × (is_accepted (of_resource asked about facts) ≡ true)
judged_clear asked about facts is = unfaulted facts.fault facts.taken (of_resource asked about facts) is

-- ---- what isn't there has room

room_made : (full : Bool) → is_accepted (cond full Full Created) ≡ true → full ≡ false
room_made true is = absurd (false≢true is)
room_made false is = refl

put_new : (there full : Bool) → is_accepted (cond there Unchanged (cond full Full Created)) ≡ true → (there ≡ false) × (full ≡ false)
put_new true full is = absurd (false≢true is)
put_new false full is = (refl, room_made full is)

post_new : (there full : Bool) → is_accepted (cond there Exists (cond full Full Created)) ≡ true → (there ≡ false) × (full ≡ false)
post_new true full is = absurd (false≢true is)
post_new false full is = (refl, room_made full is)

put_one : (there full : Bool) → is_accepted (cond there Replaced (cond full Full Created)) ≡ true → (there ≡ true) ⊎ (full ≡ false)
put_one true full is = inl refl
put_one false full is = inr (room_made full is)

registered_one : (registered : Bool) (decision : RestDecision) → is_accepted (cond registered decision Absent) ≡ true → (registered ≡ true) × (is_accepted decision ≡ true)
registered_one true decision is = (refl, is)
registered_one false decision is = absurd (false≢true is)

-- a client that registers isn't registered, and its domain has room for one more
pub new_by_put : (facts : RestFacts) → is_accepted (judge verb.Put kind.Client facts) ≡ true → (facts.there ≡ false) × (facts.full ≡ false)
new_by_put facts is = put_new facts.there facts.full (judged_clear verb.Put kind.Client facts is).1

pub new_by_post : (facts : RestFacts) → is_accepted (judge verb.Post kind.Client facts) ≡ true → (facts.there ≡ false) × (facts.full ≡ false)
new_by_post facts is = post_new facts.there facts.full (judged_clear verb.Post kind.Client facts is).1

-- An alias or an access list is of a registered client. It is there already, or the client has room for one more.
abbrev pub HasPlace : RestFacts → Type 0
HasPlace facts = (facts.registered ≡ true) × ((facts.there ≡ true) ⊎ (facts.full ≡ false))

put_placed : (registered there full : Bool) → is_accepted (cond registered (cond there Replaced (cond full Full Created)) Absent) ≡ true
    → (registered ≡ true) × ((there ≡ true) ⊎ (full ≡ false))
put_placed registered there full is =
    let parts = registered_one registered (cond there Replaced (cond full Full Created)) is in
    (parts.0, put_one there full parts.1)

post_placed : (registered there full : Bool) → is_accepted (cond registered (cond there Exists (cond full Full Created)) Absent) ≡ true
    → (registered ≡ true) × ((there ≡ true) ⊎ (full ≡ false))
post_placed registered there full is =
    let parts = registered_one registered (cond there Exists (cond full Full Created)) is in
    (parts.0, inr (post_new there full parts.1).1)

pub alias_by_put : (facts : RestFacts) → is_accepted (judge verb.Put kind.Alias facts) ≡ true → HasPlace facts
alias_by_put facts is = put_placed facts.registered facts.there facts.full (judged_clear verb.Put kind.Alias facts is).1

pub alias_by_post : (facts : RestFacts) → is_accepted (judge verb.Post kind.Alias facts) ≡ true → HasPlace facts
alias_by_post facts is = post_placed facts.registered facts.there facts.full (judged_clear verb.Post kind.Alias facts is).1

pub list_by_put : (facts : RestFacts) → is_accepted (judge verb.Put kind.Acl facts) ≡ true → HasPlace facts
list_by_put facts is = put_placed facts.registered facts.there facts.full (judged_clear verb.Put kind.Acl facts is).1

pub list_by_post : (facts : RestFacts) → is_accepted (judge verb.Post kind.Acl facts) ≡ true → HasPlace facts
list_by_post facts is = post_placed facts.registered facts.there facts.full (judged_clear verb.Post kind.Acl facts is).1
