use Rattle.std.proofs.Common.{◌≡◌, ◌∙◌, ℕ, arith, sym}
use Rattle.std.proofs.lemmas.Result.{err_from_is_err_and}
use Rattle.dots_host.specs.Media.{byte_of, bytes_at}
use Rattle.dots_host.specs.Becoming.{RestsWith}
use Rattle.slot_store.specs.Layout.{IsHeader, HasFormat}
use Rattle.slot_store.specs.Refusing.{RefusesHeader, RefusesDisk, IsNoSize, IsOpen}
use Rattle.slot_store.specs.Opening.{Is}
use Rattle.slot_store.proofs.Steps.{begins}
use Rattle.slot_store.proofs.OpenLemmas.{found_byte, format_seen, if_ok_as, if_err_as, gate_closed, has_formatted, header_seen, header_refuses, header_size, gates_refuse, open_formatted, open_as_it_was}
use Rattle.slot_store.proofs.formatting.open_found.Goals as goal

pub returns-then-gate : goal.returns-then-gate
returns-then-gate g c = record {
  moments = λ seen format records rests read image_has.
      has_formatted _ _ _ c.args.slots c.args.digest.now format seen records (begins _ (Is seen)) (gate_closed seen c.args.found.now read c.if-gate.true) image_has (c.in_ok-format_disk.ensures.moments seen rests);
  opened = λ seen rests read.
      let gate = gate_closed seen c.args.found.now read c.if-gate.true in
      open_formatted _ c.args.slots c.args.digest.now seen (c.in_ok-format_disk.ensures.blank seen rests gate) (c.in_ok-format_disk.ensures.formatted seen rests gate);
  refused = tt;
  sized = tt;
  unwritten = tt;
  extent = c.in_ok-format_disk.ensures.extent;
  cause = c.in_ok-format_disk.ensures.cause;
  beside = c.in_ok-format_disk.ensures.beside;
}

pub returns-in_err-format_disk : goal.returns-in_err-format_disk
returns-in_err-format_disk g c =
    let p = err_from_is_err_and c.from_residual.result c.from_residual.ensures.1 in
    record {
      moments = λ seen format records rests read image_has.
          has_formatted _ _ _ c.args.slots c.args.digest.now format seen records (begins _ (Is seen)) (gate_closed seen c.args.found.now read c.if-gate.true) image_has (c.in_err-format_disk.ensures.moments seen rests);
      opened = rw p.1 tt;
      refused = rw (p.1, p.2) (λ seen rests read. gates_refuse c.args.slots c.args.digest.now seen _ (gate_closed seen c.args.found.now read c.if-gate.true) (c.in_err-format_disk.ensures.refused seen rests));
      sized = rw (p.1, p.2) c.in_err-format_disk.ensures.sized;
      unwritten = rw (p.1, p.2) c.in_err-format_disk.ensures.unwritten;
      extent = c.in_err-format_disk.ensures.extent;
      cause = rw (p.1, p.2) c.in_err-format_disk.ensures.cause;
      beside = c.in_err-format_disk.ensures.beside;
    }

pub returns-clause-opened : goal.returns-clause-opened
returns-clause-opened g c = if_ok_as c.check_header.result
    (λ in_use. IsHeader c.args.slots c.args.digest.now (byte_of c.args.found.now) × (byte_of c.args.found.now 48 ≡ in_use.selector) × HasFormat in_use.format (byte_of c.args.found.now))
    (λ in_use. (seen : ℕ → ℕ) → RestsWith (g.D.Disk.media c.args.disk.now) (Is seen) → c.args.found.now ≡ bytes_at seen 0 64 → RestsWith (g.D.Disk.media c.args.disk.now) (IsOpen c.args.slots c.args.digest.now seen in_use.selector in_use.format))
    (λ in_use is seen rests read.
    open_as_it_was _ c.args.slots c.args.digest.now seen in_use.selector in_use.format (header_seen c.args.slots c.args.digest.now seen c.args.found.now read is.0)
    (sym (found_byte seen c.args.found.now 48 read (omega arith)) ∙ is.1) (format_seen in_use.format seen c.args.found.now read is.2) rests) c.check_header.ensures.ok

pub returns-clause-refused : goal.returns-clause-refused
returns-clause-refused g c = if_err_as c.check_header.result (RefusesHeader c.args.slots c.args.digest.now (byte_of c.args.found.now))
    (λ fault. (seen : ℕ → ℕ) → RestsWith (g.D.Disk.media c.args.disk.now) (Is seen) → c.args.found.now ≡ bytes_at seen 0 64 → RefusesDisk c.args.slots c.args.digest.now seen fault)
    (λ fault refuses seen rests read. header_refuses c.args.slots c.args.digest.now seen c.args.found.now fault read c.if-gate.false refuses) c.check_header.ensures.err

pub returns-clause-sized : goal.returns-clause-sized
returns-clause-sized g c =
    if_err_as c.check_header.result (RefusesHeader c.args.slots c.args.digest.now (byte_of c.args.found.now)) IsNoSize (header_size c.args.slots c.args.digest.now (byte_of c.args.found.now)) c.check_header.ensures.err
