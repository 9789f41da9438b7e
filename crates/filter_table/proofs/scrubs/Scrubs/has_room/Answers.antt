use Rattle.std.proofs.Common.{arith, ◌≡◌, ℕ, nat_lt, length, ap, sym, ◌∙◌}
use Rattle.filter_table.specs.TableRows.{ScrubsValue}
use Rattle.filter_table.proofs.Gathered.{length-gathered}
use Rattle.filter_table.proofs.scrubs.Scrubs.has_room.Goals as goal

pub returns : goal.returns
returns c =
    let same : c.len.result ≡ length c.self.inside.turns.items = omega (arith, c.len.ensures) in
    ap (λ (n : ℕ). nat_lt n c.self.inside.room) (same ∙ sym (length-gathered c.self.inside.rows.items c.self.inside.turns.items c.self.invariant.0.tied))
    ∙ ap (λ (v : ScrubsValue). nat_lt (length v.placed) v.room) c.self.view_is
