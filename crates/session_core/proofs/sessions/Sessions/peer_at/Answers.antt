use Rattle.std.proofs.Common.{◌≡◌, ◌<◌, length, vec_len, ap, sym, subst, ◌∙◌, arith}
use Rattle.std.proofs.lemmas.Grind.{common_steps}
use Rattle.std.specs.Prelude.{option_map, slice_get}
use Rattle.session_core.specs.Places.{row_peer}
use Rattle.session_core.proofs.Placing.{there_is}
use Rattle.session_core.proofs.sessions.Sessions.peer_at.Goals as goal

pub index-requires : goal.index-requires
index-requires c =
    let less = subst (λ rows. c.args.place < length rows) (sym c.self.view_is) c.requires in
    let size : length c.self.inside.rows.items ≡ vec_len c.self.inside.rows = grind (arith, common_steps) in
    omega (arith, less, size)

pub returns : goal.returns
returns c =
    let rows = c.self.inside.rows.items in
    ap (λ xs. option_map row_peer (slice_get xs c.args.place)) (sym c.self.view_is)
    ∙ ap (option_map row_peer) (there_is rows c.args.place c.index.result.now (subst (λ xs. c.args.place < length xs) (sym c.self.view_is) c.requires) c.index.ensures)
