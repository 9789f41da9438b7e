use Rattle.std.proofs.Common.{sym, ◌∙◌}
use Rattle.std.specs.Prelude.{option_map}
use Rattle.serde_json.specs.View.{view}
use Rattle.data_channel.proofs.Answering.{value_answers}
use Rattle.data_channel.proofs.reading.answer.Goals as goal

pub returns-then-is_yang_json : goal.returns-then-is_yang_json
returns-then-is_yang_json c =
    let media = option_map (λ media. media.now) c.args.request.now.media in
    value_answers c.args.wanted media c.args.request.now.body.now (view c.in_ok-value.value) c.with_body.result (sym c.is_yang_json.ensures ∙ c.if-is_yang_json.true) c.in_ok-value.ensures.found c.with_body.ensures
