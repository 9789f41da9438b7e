use Rattle.std.proofs.Common.{ap, ◌∙◌, sym, refl}
use Rattle.std.specs.Prelude.{option_map}
use Rattle.std.proofs.lemmas.Option.{slice_get-map, slice_get_read, same_Some}
use Rattle.conflict_rules.specs.declared.live.Live.{Live}
use Rattle.conflict_rules.proofs.judging.put_at.Goals as goal

pub returns : goal.returns
returns g c = λ m there.
    c.put.ensures
    ∙ ap
    (λ (x : Live). x.put)
    (same_Some
    (g.T.Mitigates.live c.index-live-at.result)
    m
    (sym
    (slice_get-map g.T.Mitigates.live c.args.live.now c.args.at
    ∙ ap (option_map g.T.Mitigates.live) (slice_get_read c.args.live.now _ c.args.at c.index-live-at.result refl c.requires c.index-live-at.is))
    ∙ there))
