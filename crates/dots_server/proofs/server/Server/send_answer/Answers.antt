use Rattle.std.proofs.Common.{List, ℕ, arith, [], ◌∷◌, refl, ◌∙◌, subst}
use Rattle.dots_host.specs.declared.out.OwnedOut.TheVariants as owned
use Rattle.dots_host.specs.Runs.{Added}
use Rattle.slot_journal.specs.DiskEntries as journal
use Rattle.dots_registry.proofs.Answering.{err_of}
use Rattle.session_core.specs.Notifying.{SentTo}
use Rattle.dots_machine.specs.Machine.{with_entry}
use Rattle.dots_server.specs.Pieces.{CanAnswer}
use Rattle.dots_server.proofs.Turning.{unwritten_to, sent_behind}
use Rattle.dots_server.proofs.server.Server.send_answer.Goals as goal

-- ---- nothing is accepted

pub returns-in-Reply-clause-done : goal.returns-in-Reply-clause-done
returns-in-Reply-clause-done g c = λ settings state entries kept.
    let host = c.args.host.now in
    let new = c.send_reply.new.host in
    rw c.in-Reply.is (
      entries,
      kept,
      unwritten_to settings state state (owned.Conn c.args.conn c.in-Reply.reply ∷ []) (journal.Represents c.args.self.now.journal settings entries) (g.H.Disk.media host) (g.H.Disk.media new) (g.H.Wire.moment host)
          (g.H.Wire.acts host) (g.H.Wire.acts new) (g.H.Wire.moment new) (g.met.H.Host.one_moment host) c.send_reply.ensures.acts c.send_reply.ensures.media,
    )

pub returns-in-LongReply-clause-done : goal.returns-in-LongReply-clause-done
returns-in-LongReply-clause-done g c = λ settings state entries kept.
    let host = c.args.host.now in
    let new = c.send_on.new.host in
    let gives = subst (λ (reply : List ℕ). Added (g.H.Wire.acts host) (g.H.Wire.acts new) (SentTo (g.H.Wire.moment host) (g.H.Wire.moment new) (owned.Conn c.args.conn reply ∷ []))) c.items.ensures c.send_on.ensures.acts in
    rw c.in-LongReply.is (
      entries,
      kept,
      unwritten_to settings state state (owned.Conn c.args.conn c.in-LongReply.reply ∷ []) (journal.Represents c.args.self.now.journal settings entries) (g.H.Disk.media host) (g.H.Disk.media new) (g.H.Wire.moment host)
          (g.H.Wire.acts host) (g.H.Wire.acts new) (g.H.Wire.moment new) (g.met.H.Host.one_moment host) gives c.send_on.ensures.media,
    )

pub returns-in-Reply-clause-cause : goal.returns-in-Reply-clause-cause
returns-in-Reply-clause-cause g c = record { later = omega (arith, c.send_reply.ensures.disk); same = c.send_reply.ensures.disk; rose = tt }

pub returns-in-LongReply-clause-cause : goal.returns-in-LongReply-clause-cause
returns-in-LongReply-clause-cause g c = record { later = omega (arith, c.send_on.ensures.disk); same = c.send_on.ensures.disk; rose = tt }

-- ---- an entry is accepted

pub keep_entry-requires-clause-ready : goal.keep_entry-requires-clause-ready
keep_entry-requires-clause-ready g c = subst (λ a. CanAnswer a c.args.self.now) c.in-Accept.is c.requires.ready

-- the disk failed
pub returns-in_err-keep_entry-in-Accept-clause-failed : goal.returns-in_err-keep_entry-in-Accept-clause-failed
returns-in_err-keep_entry-in-Accept-clause-failed g c =
    err_of c.from_residual.result _ (λ settings state entries kept.
    rw c.in-Accept.is ((c.in-Accept.reply, c.in-Accept.entry, refl), c.in_err-keep_entry-in-Accept.ensures.failed settings state entries kept))

-- it is on the disk and in the tables
pub returns-in-Accept-clause-done : goal.returns-in-Accept-clause-done
returns-in-Accept-clause-done g c = λ settings state entries kept.
    let host = c.args.host.now in
    let between = c.keep_entry.new.host in
    let left = c.send_reply-in-Accept.new.host in
    let made = c.in_ok-keep_entry-in-Accept.ensures.done settings state entries kept in
    rw c.in-Accept.is (
      made.0,
      made.1,
      sent_behind settings state (with_entry state c.in-Accept.entry) (owned.Conn c.args.conn c.in-Accept.reply ∷ []) (journal.Represents c.args.self.now.journal settings entries)
          (journal.Represents c.keep_entry.new.self.journal settings made.0) (g.H.Disk.media host) (g.H.Disk.media between) (g.H.Disk.media left) (g.H.Wire.moment between) (g.H.Wire.moment left) (g.H.Wire.acts host)
          (g.H.Wire.acts between) (g.H.Wire.acts left) made.2 (g.met.H.Host.one_moment between) c.send_reply-in-Accept.ensures.acts c.send_reply-in-Accept.ensures.media,
    )

pub returns-in-Accept-clause-cause : goal.returns-in-Accept-clause-cause
returns-in-Accept-clause-cause g c =
    let same = c.send_reply-in-Accept.ensures.disk ∙ c.in_ok-keep_entry-in-Accept.ensures.cause.same in
    record { later = omega (arith, same); same = same; rose = tt }

pub returns-in-Accept-clause-leads : goal.returns-in-Accept-clause-leads
returns-in-Accept-clause-leads g c = g.met.H.Wire.leads_then _ _ _ c.keep_entry.ensures.leads c.send_reply-in-Accept.ensures.leads
