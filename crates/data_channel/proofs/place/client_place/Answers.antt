use Rattle.std.proofs.Common.{ℕ, take, drop, ap, ap₂, ◌∙◌}
use Rattle.data_channel.specs.Places.{below_client}
use Rattle.data_channel.proofs.place.client_place.Goals as goal

pub returns : goal.returns
returns c =
    let rest = c.args.rest.now in
    c.below_client.ensures ∙ ap₂ below_client c.split_at.ensures.front c.split_at.ensures.back
    ∙ ap (λ (end : ℕ). below_client (take end rest) (drop end rest)) c.place_of_first.ensures.place
