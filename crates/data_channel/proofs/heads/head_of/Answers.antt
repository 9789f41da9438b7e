use Rattle.std.proofs.Common.{◌∙◌, ap}
use Rattle.std.specs.Prelude.{option_map}
use Rattle.data_channel.specs.Paths.{place_value}
use Rattle.data_channel.specs.Places.{place_in}
use Rattle.data_channel.proofs.Grammar.{head_given}
use Rattle.data_channel.proofs.heads.head_of.Goals as goal

pub returns : goal.returns
returns c =
    head_given c.args.method.now c.args.target.now c.head_at.result (option_map place_value c.place_in-found.result) c.verb_in.result c.has_query.result
    (c.place_in-found.ensures ∙ ap place_in c.path_of.ensures) c.verb_in.ensures c.has_query.ensures c.head_at.ensures
