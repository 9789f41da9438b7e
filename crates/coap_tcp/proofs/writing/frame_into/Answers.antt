use Rattle.std.proofs.Common.{◌≡◌, ℕ, ◌+◌, ◌-◌, List, ◌++◌, length, drop, ap, ◌∙◌, arith}
use Rattle.coap_message.specs.Message.{header}
use Rattle.coap_message.specs.Writing.{put_at}
use Rattle.coap_tcp.specs.Frames.{front_bytes, length_extension}
use Rattle.coap_tcp.specs.Datagrams.{rest_of}
use Rattle.coap_tcp.proofs.Putting.{moved, front_len, spelling_rest, spelling_len}
use Rattle.coap_tcp.proofs.writing.frame_into.Goals as goal

pub returns-clause-written : goal.returns-clause-written
returns-clause-written c =
    let parts = c.args.parts.now in
    let token = parts.token.now in
    let rest = rest_of parts in
    let front = header parts.kind parts.code parts.id token in
    let len = c.encode_into-len.result in
    let whole : len ≡ 4 + length token + length rest = c.encode_into-len.ensures.len ∙ spelling_len parts in
    let size : len - (4 + length token) ≡ length rest = omega (arith, whole) in
    let extension : c.extension_len.result ≡ length (length_extension (length rest)) = c.extension_len.ensures.value ∙ ap (λ (k : ℕ). length (length_extension k)) size in
    moved front rest (drop len c.args.into.now) c.encode_into-len.new.into c.copy_within.new.self (front_bytes parts.code token (length rest)) c.put_front.new.into
    (4 + length token) len (2 + c.extension_len.result + length token) _
    (omega arith) (omega (arith, whole)) (omega (arith, size))
    (c.encode_into-len.ensures.written ∙ ap (λ (y : List ℕ). y ++ drop len c.args.into.now) (spelling_rest parts))
    c.copy_within.ensures.after
    (omega (arith, c.requires.room, c.extension_len.ensures.bound))
    (omega (arith, extension, front_len parts.code token (length rest)))
    (c.put_front.ensures ∙ ap (λ (k : ℕ). put_at 0 (front_bytes parts.code token k) c.copy_within.new.self) size)
