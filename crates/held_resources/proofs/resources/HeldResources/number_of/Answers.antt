use Rattle.std.proofs.Common.{ap, ◌∙◌, sym, length}
use Rattle.dots_history.specs.Histories.{held}
use Rattle.held_resources.specs.Numbers.{number_of}
use Rattle.dots_history.proofs.Written.{number_of_aliases, number_of_acls}
use Rattle.held_resources.proofs.HistoryTables.{number_is}
use Rattle.held_resources.proofs.resources.HeldResources.number_of.Goals as goal

pub returns-in-Client : goal.returns-in-Client
returns-in-Client c =
    λ entries represents.
    c.number.ensures
    ∙ number_is c.args.self.now (held entries) represents c.args.domain
    ∙ ap (λ k. number_of k (record { domain = c.args.domain; cuid = c.args.cuid.now }) (held entries)) (sym c.in-Client.is)

pub returns-in-Alias : goal.returns-in-Alias
returns-in-Alias c =
    λ entries represents.
    ap length (c.aliases.ensures entries represents)
    ∙ number_of_aliases (record { domain = c.args.domain; cuid = c.args.cuid.now }) (held entries)
    ∙ ap (λ k. number_of k (record { domain = c.args.domain; cuid = c.args.cuid.now }) (held entries)) (sym c.in-Alias.is)

pub returns-in-Acl : goal.returns-in-Acl
returns-in-Acl c =
    λ entries represents.
    ap length (c.acls.ensures entries represents)
    ∙ number_of_acls (record { domain = c.args.domain; cuid = c.args.cuid.now }) (held entries)
    ∙ ap (λ k. number_of k (record { domain = c.args.domain; cuid = c.args.cuid.now }) (held entries)) (sym c.in-Acl.is)
