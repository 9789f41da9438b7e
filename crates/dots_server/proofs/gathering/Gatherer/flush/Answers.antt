use Rattle.std.proofs.Common.{◌≡◌, ◌∙◌, ap, sym, refl, false, true, []}
use Rattle.dots_server.proofs.Puts.{puts_flushed, puts_unflushed}
use Rattle.dots_server.proofs.gathering.Gatherer.flush.Goals as goal

pub returns-in-Ok-clause-puts : goal.returns-in-Ok-clause-puts
returns-in-Ok-clause-puts g c =
    let failed : c.args.self.now.failed ≡ false = sym (ap (λ gathered. gathered.failed) c.self.view_is) ∙ c.if-self.false in
    puts_flushed _ _ c.args.self.now _ _ (sym (ap (λ gathered. gathered.block) c.self.view_is)) failed refl c.if-self.false c.in-Ok.ensures.ok c.in-Ok.ensures.cause.same

pub returns-in-Err-clause-puts : goal.returns-in-Err-clause-puts
returns-in-Err-clause-puts g c =
    let failed : c.args.self.now.failed ≡ false = sym (ap (λ gathered. gathered.failed) c.self.view_is) ∙ c.if-self.false in
    puts_unflushed _ _ c.args.self.now (record { block = []; failed = true }) _ (sym (ap (λ gathered. gathered.block) c.self.view_is)) failed refl c.in-Err.ensures.err c.in-Err.ensures.cause.later c.in-Err.ensures.cause.rose
