use Rattle.std.proofs.Common.{ap, sym, ◌∙◌}
use Rattle.std.specs.Prelude.{position}
use Rattle.dots_client.specs.Client.{ClientValue}
use Rattle.dots_client.specs.Receiving.{waits_by}
use Rattle.dots_client.proofs.Beside.{by_none}
use Rattle.dots_client.proofs.Ends.{no_place}
use Rattle.dots_client.proofs.client.ClientCore.place_of.Goals as goal

pub returns-clause-none : goal.returns-clause-none
returns-clause-none c = by_none c.place.result
    (λ none request answers.
    let at = ap (λ (k : ClientValue). position (waits_by c.args.message.now.token) k.waiting) (sym c.self.view_is)
    ∙ ap (λ token. position (waits_by token) c.self.inside.waiting.waiting) (sym c.token.ensures.value) ∙ sym c.place.ensures ∙ none in
    no_place c.args.message.now.token c.args.self.now.waiting answers.sent.0 at answers.sent.1)
