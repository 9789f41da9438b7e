use Rattle.std.proofs.Common.{option_and_then, refl, subst}
use Rattle.std.specs.Prelude.{⊤}
use Rattle.std.specs.Fn.{FnReturnsAt}
use Rattle.std.proofs.lemmas.Fn.{says_at}
use Rattle.dots_run.specs.Migrate.{Migrates}
use Rattle.dots_run.proofs.Migrating.{whatever}
use Rattle.dots_run.proofs.migrate_words.migrate.Goals as goal

pub returns : goal.returns
returns g c =
    let left = option_and_then g.F.Read.remaining in
    let former = c.new-former.result in
    let later = c.new-later.result in
    let lines = c.new-lines.result in
    let status = c.migrate_sources.result in
    let whole = whatever status (left former.reader) (left later.reader) (left lines.reader) _ _ c.migrate_sources.ensures in (
      c.opening.result,
      c.opening-2.result,
      c.opening-3.result,
      subst (λ name. FnReturnsAt g.Open.Fn c.args.opening name c.opening.result) c.names_of.ensures.old (says_at g.Open.Fn c.opening.ensures refl),
      subst (λ name. FnReturnsAt g.Open.Fn c.args.opening name c.opening-2.result) c.names_of.ensures.new (says_at g.Open.Fn c.opening-2.ensures refl),
      subst (λ name. FnReturnsAt g.Open.Fn c.args.opening name c.opening-3.result) c.names_of.ensures.host (says_at g.Open.Fn c.opening-3.ensures refl),
      subst (λ source. Migrates status (left c.opening.result) (left c.opening-2.result) (left source.reader) ⊤ ⊤) c.new-lines.ensures
          (subst (λ source. Migrates status (left c.opening.result) (left source.reader) (left lines.reader) ⊤ ⊤) c.new-later.ensures
          (subst (λ source. Migrates status (left source.reader) (left later.reader) (left lines.reader) ⊤ ⊤) c.new-former.ensures whole)),
    )
