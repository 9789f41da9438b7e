use Rattle.std.proofs.Common.{ap, ◌∙◌}
use Rattle.serde_json.specs.Written.{has_float, compact_text}
use Rattle.data_channel.proofs.Plain.{body_plain}
use Rattle.data_channel.proofs.replies.body_text.Goals as goal

pub returns : goal.returns
returns c =
    c.from_vec.ensures
    ∙ c.in_ok-text.ensures.text (ap has_float c.in_ok-value.ensures ∙ body_plain c.args.body.now)
    ∙ ap compact_text c.in_ok-value.ensures
