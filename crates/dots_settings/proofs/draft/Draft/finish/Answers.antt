use Rattle.std.proofs.Common.{sym, subst}
use Rattle.dots_settings.specs.Admitting.{draft_value}
use Rattle.dots_settings.specs.Settings.{IsSettings}
use Rattle.dots_settings.proofs.Sound.{sound_few, sound_settings}
use Rattle.dots_settings.proofs.draft.Draft.finish.Goals as goal

pub make_rows-requires : goal.make_rows-requires
make_rows-requires c = sound_few (draft_value c.args.self) c.requires.sound

pub invariant_of-result : goal.invariant_of-result
invariant_of-result c = subst IsSettings
    (sym (λ i. record {
      domains = c.in-Ok.ensures.domains i;
      peers = c.in-Ok.ensures.peers i;
      upstream = c.args.self.upstream;
      names = c.in-Ok.ensures.names i;
      ceiling = c.unwrap_or.ensures i;
      indefinite = c.unwrap_or-in-Ok.ensures i;
      limits = c.make_limits-limits.ensures i;
      packets = c.args.self.packets.items;
      lines = c.args.lines;
      digest = c.args.digest;
    }))
    (sound_settings (draft_value c.args.self) c.args.lines c.args.digest c.requires.sound c.requires.few)

pub returns-in-Ok : goal.returns-in-Ok
returns-in-Ok c = λ i. record {
  domains = c.in-Ok.ensures.domains i;
  peers = c.in-Ok.ensures.peers i;
  upstream = c.args.self.upstream;
  names = c.in-Ok.ensures.names i;
  ceiling = c.unwrap_or.ensures i;
  indefinite = c.unwrap_or-in-Ok.ensures i;
  limits = c.make_limits-limits.ensures i;
  packets = c.args.self.packets.items;
  lines = c.args.lines;
  digest = c.args.digest;
}
