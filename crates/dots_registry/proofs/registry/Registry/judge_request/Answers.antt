use Rattle.std.proofs.Common.{List, ap, ◌∙◌, sym, subst, map}
use Rattle.dots_history.specs.Histories.{Mitigation, held}
use Rattle.conflict_rules.specs.Lives.{live_of, lives_of}
use Rattle.live_mitigations.specs.declared.live_row.LiveRow.{LiveRow}
use Rattle.live_mitigations.proofs.LiveRows.{lives_alike}
use Rattle.live_mitigations.proofs.Room.{lives_are}
use Rattle.dots_history.specs.Held.{aliases_of, registrant}
use Rattle.conflict_rules.specs.Requests.{Request}
use Rattle.dots_registry.specs.RegistryValues.{RegistryValue, Represents, time_of}
use Rattle.dots_registry.proofs.RegistryValues.{joined}
use Rattle.dots_registry.proofs.Judged.{judged_is}
use Rattle.dots_registry.proofs.registry.Registry.judge_request.Goals as goal

pub returns : goal.returns
returns c = λ entries represents.
    let here : Represents (joined c.self.inside.live c.self.inside.held c.self.inside.remembered c.self.inside.filters c.self.inside.last) entries
    = subst (λ (r : RegistryValue). Represents r entries) (sym c.self.view_is) represents in
    judged_is
    c.args.settings.now
    (map (λ (row : LiveRow). live_of row.mitigation) c.rows-live.result.now)
    (lives_of c.args.domain (time_of c.args.self.now) entries)
    c.registrant.result
    (registrant (record { domain = c.args.domain; cuid = c.args.request.now.cuid }) (held entries))
    c.aliases.result.now
    (aliases_of (record { domain = c.args.domain; cuid = c.args.request.now.cuid }) (held entries))
    c.time.result
    (time_of c.args.self.now)
    c.args.request.now
    c.judge_put.result
    (lives_alike c.rows-live.result.now
    ∙ ap (λ (ms : List Mitigation). map live_of ms) (c.rows-live.ensures.live entries here.live)
    ∙ lives_are c.self.inside.live.time c.args.domain entries
    ∙ ap (λ (r : RegistryValue). lives_of c.args.domain (time_of r) entries) c.self.view_is)
    (c.registrant.ensures entries here.held
    ∙ ap (λ (r : Request). registrant (record { domain = c.args.domain; cuid = r.cuid }) (held entries)) c.request.view_is)
    (c.aliases.ensures entries here.held
    ∙ ap (λ (r : Request). aliases_of (record { domain = c.args.domain; cuid = r.cuid }) (held entries)) c.request.view_is)
    (c.time.ensures ∙ ap time_of c.self.view_is)
    c.judge_put.ensures
