use Rattle.std.proofs.Common.{arith, ◌≡◌, length, ap, sym, ◌∙◌}
use Rattle.filter_table.specs.TableRows.{ScrubsValue}
use Rattle.filter_table.proofs.Gathered.{length-gathered}
use Rattle.filter_table.proofs.scrubs.Scrubs.len.Goals as goal

pub returns : goal.returns
returns c =
    let same : c.len.result ≡ length c.self.inside.turns.items = omega (arith, c.len.ensures) in
    same ∙ sym (length-gathered c.self.inside.rows.items c.self.inside.turns.items c.self.invariant.0.tied) ∙ ap (λ (v : ScrubsValue). length v.placed) c.self.view_is
