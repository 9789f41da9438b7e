use Rattle.std.proofs.Common.{[], ◌∷◌, ◌++◌, ◌∙◌, refl, arith}
use Rattle.session_core.proofs.Sends.{sent_none, keeps_still, keeps_then}
use Rattle.session_core.proofs.NoticeTicking.{due_more, due_last, sent_more, sent_as}
use Rattle.session_core.proofs.beating.send_beats.Goals as goal

pub loop-beat-init : goal.loop-beat-init
loop-beat-init g c = record {
  sent = ([], (λ by agrees rest new all. all), sent_none (g.H.Wire.acts c.args.host.now) (g.H.Wire.moment c.args.host.now));
  peers = refl;
  media = keeps_still (g.H.Disk.media c.args.host.now);
  extent = refl;
  disk = refl;
  wire = refl;
  leads = g.met.H.Wire.leads_same c.args.host.now;
}

pub loop-beat-smaller : goal.loop-beat-smaller
loop-beat-smaller g c =
    let one = c.in-Some.ensures.fewer in
    omega (arith, one)

pub loop-beat-preserved : goal.loop-beat-preserved
loop-beat-preserved g c =
    let kept = c.loop-beat.invariant in
    record {
      sent = (
        kept.sent.0 ++ c.in-Some.beat ∷ [],
        (λ by agrees. due_more by _ _ _ _ _ _ (kept.sent.1 by agrees) (c.in-Some.ensures.first by agrees)),
        sent_more _ _ _ _ _ _ kept.sent.0 c.in-Some.beat kept.sent.2 (sent_as _ _ _ _ _ _ _ (c.as_slice.ensures ∙ c.beat_bytes-bytes.ensures) c.send_to.ensures.acts),
      );
      peers = c.in-Some.ensures.peers ∙ kept.peers;
      media = keeps_then _ _ _ kept.media c.send_to.ensures.media;
      extent = c.send_to.ensures.extent ∙ kept.extent;
      disk = c.send_to.ensures.disk ∙ kept.disk;
      wire = c.send_to.ensures.wire ∙ kept.wire;
      leads = g.met.H.Wire.leads_then _ _ _ kept.leads c.send_to.ensures.leads;
    }

pub returns-clause-sent : goal.returns-clause-sent
returns-clause-sent g c =
    let kept = c.loop-beat.invariant in
    (kept.sent.0, (λ by agrees. due_last by _ _ _ _ _ (kept.sent.1 by agrees) (c.in_default.ensures.first by agrees)), kept.sent.2)

pub returns-clause-peers : goal.returns-clause-peers
returns-clause-peers g c = c.in_default.ensures.peers ∙ c.loop-beat.invariant.peers
