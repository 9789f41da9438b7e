use Rattle.std.proofs.Common.{ap, ◌∙◌, sym, map, length}
use Rattle.std.specs.Prelude.{◌==◌, nat_lt}
use Rattle.std.specs.List.{list_any}
use Rattle.std.proofs.lemmas.Bool.{cond-true}
use Rattle.dots_history.specs.Entries.{is_configuration}
use Rattle.held_resources.specs.declared.configurations.Configuration.{Configuration}
use Rattle.held_resources.specs.Tables.{Tables, is_placed, peer_of}
use Rattle.held_resources.proofs.Configs.{any_peer}
use Rattle.held_resources.proofs.resources.HeldResources.places.Goals as goal

pub returns-then-is_configuration : goal.returns-then-is_configuration
returns-then-is_configuration c =
    c.has_peer.ensures
    ∙ ap (list_any (λ (s : Configuration). c.args.entry.now.peer == s.peer)) c.as_slice.ensures.value
    ∙ sym (any_peer c.args.entry.now.peer c.self.inside.configurations.items)
    ∙ sym (cond-true
    (is_configuration c.args.entry.now.change)
    (list_any (λ other. c.args.entry.now.peer == other) (map peer_of c.self.inside.configurations.items))
    (nat_lt c.args.entry.now.domain (length c.self.inside.domains.items))
    (sym c.is_configuration.ensures ∙ c.if-is_configuration.true))
    ∙ ap (λ (t : Tables). is_placed t.sizes c.args.entry.now) c.self.view_is
