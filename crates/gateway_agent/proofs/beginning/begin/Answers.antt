use Rattle.std.proofs.Common.{inr}
use Rattle.std.proofs.lemmas.Result.{err_from_is_err_and}
use Rattle.slot_store.proofs.DiskReading.{sees_at_rest}
use Rattle.gateway_agent.specs.Forms.{entries_of}
use Rattle.gateway_agent.proofs.OpeningLemmas.{begun_in}
use Rattle.gateway_agent.proofs.beginning.begin.Goals as goal

pub returns-in_err-store : goal.returns-in_err-store
returns-in_err-store g c =
    let p = err_from_is_err_and c.from_residual.result c.from_residual.ensures.1 in
    record {
      moments = c.in_err-store.ensures.moments;
      opened = rw p.1 tt;
      begun = rw p.1 tt;
      size = rw p.1 tt;
      refused = rw (p.1, p.2) c.in_err-store.ensures.refused;
      complete = rw (p.1, p.2) c.in_err-store.ensures.complete;
      unwritten = rw (p.1, p.2) c.in_err-store.ensures.unwritten;
      extent = c.in_err-store.ensures.extent;
      cause = rw (p.1, p.2) c.in_err-store.ensures.cause;
      beside = c.in_err-store.ensures.beside;
    }

-- memory ran out behind the store
pub returns-in_err-core : goal.returns-in_err-core
returns-in_err-core g c =
    let p = err_from_is_err_and c.from_residual-in_err-core.result c.from_residual-in_err-core.ensures.1 in
    record {
      moments = c.in_ok-store.ensures.moments;
      opened = rw p.1 tt;
      begun = rw p.1 tt;
      size = rw p.1 tt;
      refused = rw (p.1, p.2) (λ seen sees. tt);
      complete = rw (p.1, p.2) (λ seen exchanges sees image_has store size. tt);
      unwritten = rw p.1 (λ seen other rests. inr (entries_of c.in_ok-store.store.exchanges, (c.in_ok-store.ensures.opened seen (sees_at_rest _ seen rests)).0));
      extent = c.in_ok-store.ensures.extent;
      cause = rw (p.1, p.2) c.in_ok-store.ensures.cause;
      beside = c.in_ok-store.ensures.beside;
    }

pub returns : goal.returns
returns g c = record {
  moments = c.in_ok-store.ensures.moments;
  opened = c.in_ok-store.ensures.opened;
  begun = begun_in c.args.settings.now c.args.upstream c.in_ok-core.core c.in_ok-store.store c.args.at c.in_ok-store.ensures.store c.in_ok-store.ensures.early c.requires.early c.in_ok-store.ensures.size.0
      c.in_ok-core.ensures;
  size = c.in_ok-store.ensures.size.1;
  refused = tt;
  complete = tt;
  unwritten = tt;
  extent = c.in_ok-store.ensures.extent;
  cause = c.in_ok-store.ensures.cause;
  beside = c.in_ok-store.ensures.beside;
}
