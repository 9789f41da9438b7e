use Rattle.std.proofs.Common.{◌≡◌, ◌<◌, length, arith, vec_len}
use Rattle.std.proofs.lemmas.Grind.{common_steps}
use Rattle.dots_run.proofs.HostText.{too_long}
use Rattle.dots_run.proofs.sockets.read_text.Goals as goal

pub returns-in-Ok : goal.returns-in-Ok
returns-in-Ok g c =
    let size : length c.in-Ok.text.items ≡ vec_len c.in-Ok.text = grind (arith, common_steps) in
    let many : 65536 < length c.in-Ok.text.items = omega (arith, c.len.ensures, c.if-len-le-MAX_HOST_FILE.false, size) in
    rw c.in_ok-from_slice-in-Ok.ensures.items (too_long _ _ c.in-Ok.text.items many c.in-Ok.ensures.bytes)
