use Rattle.std.proofs.Common.{ap, sym, ◌∙◌}
use Rattle.std.specs.Prelude.{option_map, slice_get}
use Rattle.dots_client.specs.declared.request.Request.{Request}
use Rattle.dots_client.specs.Client.{ClientValue, WaitingValue}
use Rattle.dots_client.proofs.Beside.{some_there}
use Rattle.dots_client.proofs.Ends.{request_there, none_some}
use Rattle.dots_client.proofs.client.ClientCore.granted.Goals as goal

pub unreachable-requires : goal.unreachable-requires
unreachable-requires c =
    let w = some_there c.args.self.now.waiting c.args.place c.requires.place in
    let seen = sym (ap (λ (k : ClientValue). option_map (λ (x : WaitingValue). x.request) (slice_get k.waiting c.args.place)) c.self.view_is) ∙ c.end-mid.ensures.value in
    let own = request_there c.args.self.now.waiting c.args.place w.0 c.end-mid.result seen w.1 in
    none_some w.0.request.scope (ap (λ (r : Request). r.scope) own ∙ c.in_default.is) (c.requires.scope w.0 w.1)
