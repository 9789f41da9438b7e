-- What the answer to a request says.
use Rattle.std.specs.Prelude.{◌≡◌, ◌≢◌, ℕ, ℤ, ◌⊎◌, Option, Some, None}
use Rattle.cbor_profile.specs.Spelling.{Spells}
use Rattle.coap_message.specs.declared.codes.TheConstants.{CREATED, DELETED, CHANGED}
use Rattle.coap_message.specs.Message.{CoapMessage}
use Rattle.acl_lists.specs.declared.asked.Asked.{Asked}
use Rattle.reply_bodies.specs.Mitigations.{granted_tree}
use Rattle.dots_client.specs.Grants.{IsGranted}
use Rattle.dots_client.specs.declared.answers.Answer.{Answer}
use Rattle.dots_client.specs.declared.answers.Answer.TheVariants as answer
use Rattle.dots_client.specs.declared.request.Request.{Request}

-- 2.01 or 2.04, with a body of this mid
pub record GrantsMid (mid : ℕ) (m : CoapMessage) (lifetime : ℤ) : Type 0 where
  pub code : (m.code ≡ CREATED) ⊎ (m.code ≡ CHANGED)
  pub body : Spells m.payload (granted_tree mid lifetime) 0
  pub lasts : IsGranted lifetime

abbrev pub SaysGrant : ℕ → CoapMessage → Answer → Type 0
SaysGrant mid m (answer.Granted lifetime) = GrantsMid mid m lifetime
SaysGrant mid m answer.Withdrawn = ⊥
SaysGrant mid m answer.Refused = (lifetime : ℤ) → GrantsMid mid m lifetime → ⊥

abbrev pub SaysWithdrawn : CoapMessage → Answer → Type 0
SaysWithdrawn m (answer.Granted lifetime) = ⊥
SaysWithdrawn m answer.Withdrawn = m.code ≡ DELETED
SaysWithdrawn m answer.Refused = m.code ≢ DELETED

abbrev pub SaysTo : Option Asked → ℕ → CoapMessage → Answer → Type 0
SaysTo (Some asked) mid m answer = SaysGrant mid m answer
SaysTo None mid m answer = SaysWithdrawn m answer

abbrev pub Says : Request → CoapMessage → Answer → Type 0
Says request m answer = SaysTo request.scope request.mid m answer
