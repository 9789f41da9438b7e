use Rattle.std.proofs.Common.{rules}
use Rattle.std.specs.Prelude.{FitsSigned}
use Rattle.std.specs.Int.{w32}
use Rattle.reply_bodies.proofs.Parts.{always}
use Rattle.reply_bodies.proofs.Shapes.{config_within}
use Rattle.reply_bodies.proofs.scope.put_config.Goals as goal

pub returns-clause-within : goal.returns-clause-within
returns-clause-within c =
    let fits : FitsSigned w32 c.args.view.now.left = search (rules, c.integer.ensures.fits) in
    always c.put.result (config_within c.args.view.now c.in_ok-put_asked.ensures.within fits)
