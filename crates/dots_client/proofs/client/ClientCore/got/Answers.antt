use Rattle.std.proofs.Common.{refl, sym, subst, inl, inr}
use Rattle.coap_message.specs.Message.{CoapMessage}
use Rattle.dots_client.specs.Receiving.{IsBeat, Answers}
use Rattle.dots_client.proofs.Ends.{same_message}
use Rattle.dots_client.proofs.client.ClientCore.got.Goals as goal

pub returns-in_default-place_of : goal.returns-in_default-place_of
returns-in_default-place_of c = (
  λ m request is spelled either.
      let same = same_message c.in-Ok.message m _ _ refl refl (c.in-Ok.ensures.only m is spelled) in
      elim either [
        | inl beat ↦ c.is_beat.ensures.no c.if-is_beat.false (subst (λ (n : CoapMessage). IsBeat n) (sym same) beat)
        | inr answers ↦ c.in_default-place_of.ensures.none request (subst (λ (n : CoapMessage). Answers c.args.self.now n request) (sym same) answers)
      ],
  refl,
)
