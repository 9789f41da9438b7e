use Rattle.std.proofs.Common.{◌≡◌, List, ℕ, Some, Option, false, sym, subst, ◌∙◌}
use Rattle.std.specs.Prelude.{unwrap_or}
use Rattle.std.proofs.Common.{ap}
use Rattle.coap_message.specs.Message.{CoapMessage}
use Rattle.coap_block.specs.declared.awaiting.Awaiting.{Awaiting}
use Rattle.coap_block.specs.Blocks.{is_reply}
use Rattle.coap_block.specs.Knowing.{asked_with}
use Rattle.coap_block.proofs.awaiting.replied.Goals as goal

-- the only one that is awaited
no_other : (awaited : Option Awaiting) (one : Awaiting) (peer : ℕ) (m : CoapMessage) → awaited ≡ Some one → ((request : List ℕ) → is_reply (asked_with request one) peer m ≡ false)
    → (other : Awaiting) (request : List ℕ) → awaited ≡ Some other → is_reply (asked_with request other) peer m ≡ false
no_other awaited one peer m is none other request other_is =
    subst (λ a. is_reply (asked_with request a) peer m ≡ false) (ap (λ o. unwrap_or o one) (sym is ∙ other_is)) (none request)

pub returns-then-not-is_reply-clause-none : goal.returns-then-not-is_reply-clause-none
returns-then-not-is_reply-clause-none c =
    no_other c.args.awaited c.in_ok-one.one c.args.peer c.args.message.now c.in_ok-one.was (λ request. sym (c.is_reply.ensures request) ∙ c.if-not-is_reply.true)

pub returns-clause-some : goal.returns-clause-some
returns-clause-some c = (c.in_ok-one.was, λ request. sym (c.is_reply.ensures request) ∙ c.if-not-is_reply.false)
