use Rattle.std.proofs.Common.{ℕ, subst, arith}
use Rattle.dots_script.specs.Lines.{HasNoFeed}
use Rattle.dots_script.proofs.Feeds.{no_feed_behind, feed_behind, behind_length}
use Rattle.dots_script.proofs.lines.find_feed.Goals as goal

pub returns-in-Some-clause-some : goal.returns-in-Some-clause-some
returns-in-Some-clause-some c =
    let long = behind_length c.args.from c.args.bytes.now in (
      omega (arith, long, c.in-Some.ensures.0.high, c.requires.within),
      feed_behind c.args.from c.in-Some.at c.args.bytes.now c.in-Some.ensures.1,
      no_feed_behind c.args.from c.in-Some.at c.args.bytes.now c.requires.none_before c.in-Some.ensures.0.before,
    )

pub returns-in-None-clause-none : goal.returns-in-None-clause-none
returns-in-None-clause-none c =
    let long = behind_length c.args.from c.args.bytes.now in
    subst (λ (n : ℕ). HasNoFeed n c.args.bytes.now) (omega (arith, long, c.requires.within)) (no_feed_behind c.args.from _ c.args.bytes.now c.requires.none_before c.in-None.ensures)
