use Rattle.std.proofs.Common.{ℕ, List, length, sym, ap, subst, ◌∙◌, arith}
use Rattle.std.proofs.lemmas.Result.{err_from_is_err_and}
use Rattle.dots_host.specs.Becoming.{Leaves, RestsWith}
use Rattle.dots_history.specs.declared.entry.Entry.{Entry}
use Rattle.dots_history.specs.Keeping.{kept}
use Rattle.dots_history.specs.Slots.{Slots, Rises}
use Rattle.dots_registry.specs.Kept.{filed, named_slots}
use Rattle.dots_registry.proofs.Numbering.{filed_rise, named_rise}
use Rattle.dots_registry.specs.RegistryValues.{RegistryValue, time_of, number_remembered}
use Rattle.slot_store.specs.Copying.{AreSlots, other_selector}
use Rattle.slot_store.specs.StoreValues.{JournalValue}
use Rattle.slot_journal.specs.DiskEntries as journal
use Rattle.dots_registry.specs.LedgerValues.{LedgerValue, Represents, RepresentsSome}
use Rattle.dots_registry.specs.Crashes.{HasOne}
use Rattle.dots_registry.proofs.Slots.{named_below, named_many}
use Rattle.dots_registry.proofs.LedgerValues.{most_same, number_same, represents_compacted}
use Rattle.dots_registry.proofs.Images.{entries_kept}
use Rattle.dots_registry.proofs.ledger.Ledger.compact.Goals as goal

pub compact-requires-clause-keep : goal.compact-requires-clause-keep
compact-requires-clause-keep g c =
    let inv = c.self.invariant.0 in
    let n = number_remembered c.self.inside.registry in
    let t = time_of c.self.inside.registry in
    subst
    (AreSlots c.self.inside.journal.used)
    (sym (c.items.ensures ∙ c.kept.ensures.kept (filed inv.entries) inv.represents.represents_filed (filed_rise inv.entries)))
    (subst (λ (k : ℕ). AreSlots k (named_slots n t (filed inv.entries))) (sym inv.represents.used) (named_below n t inv.entries))

pub moved-requires : goal.moved-requires
moved-requires g c =
    let inv = c.self.invariant.0 in
    subst
    Rises
    (sym (c.items-2.ensures ∙ c.kept.ensures.kept (filed inv.entries) inv.represents.represents_filed (filed_rise inv.entries)))
    (named_rise (number_remembered c.self.inside.registry) (time_of c.self.inside.registry) (filed inv.entries) (filed_rise inv.entries))

pub invariant_of-self-2 : goal.invariant_of-self-2
invariant_of-self-2 g c =
    let inv = c.self.invariant.0 in
    let n = number_remembered c.self.inside.registry in
    let t = time_of c.self.inside.registry in
    let most = most_same inv.settings c.self.inside.registry c.moved.new.self inv.represents.is_of (c.moved.ensures.settings inv.settings inv.represents.is_of) in
    let room = c.self.invariant.1 in
    let kept_room = c.kept.ensures.room in
    let cleared = ap (λ (s : Slots). s.room) c.clear.ensures in (
      record {
        settings = inv.settings;
        history = inv.history;
        entries = kept n t inv.entries;
        represents = represents_compacted
            c.items.result.now
            (record { registry = c.self.inside.registry; journal = c.self.inside.journal })
            (record { registry = c.moved.new.self; journal = c.compact.new.self })
            (ap (λ (j : JournalValue). j.used) c.in_ok-compact.ensures.next)
            (ap (λ (j : JournalValue). j.slots) c.in_ok-compact.ensures.next)
            c.moved.ensures.time
            c.moved.ensures.represents
            (λ es represents_filed calm.
            c.moved.ensures.filed (filed es) represents_filed (filed_rise es) calm (c.items-2.ensures ∙ c.kept.ensures.kept (filed es) represents_filed (filed_rise es)))
            c.moved.ensures.settings
            inv.settings
            inv.history
            inv.entries
            (ap length (c.items.ensures ∙ c.kept.ensures.kept (filed inv.entries) inv.represents.represents_filed (filed_rise inv.entries)) ∙ named_many n t inv.entries)
            inv.represents;
      },
      omega (arith, most, room, kept_room, cleared),
    )

pub kept-requires : goal.kept-requires
kept-requires g c =
    let room = ap (λ (slots : Slots). slots.room) c.clear.ensures in
    let most = c.self.invariant.1 in
    record { empty = ap (λ (slots : Slots). slots.items) c.clear.ensures; room = omega (arith, room, most) }

pub compact-requires-clause-few : goal.compact-requires-clause-few
compact-requires-clause-few g c =
    let few = c.kept.ensures.few in
    let free = c.self.invariant.0.represents.free in
    let items = ap length c.items.ensures in
    omega (arith, few, free, items)

pub compact-requires-clause-size : goal.compact-requires-clause-size
compact-requires-clause-size g c =
    let slots = ap (λ (l : LedgerValue). l.journal.slots) c.self.view_is in
    let size = c.requires.size in
    omega (arith, slots, size)

-- the tables beside a journal
abbrev beside_tables : RegistryValue → JournalValue → LedgerValue
beside_tables tables store = record { registry = tables; journal = store }

pub invariant_of-self : goal.invariant_of-self
invariant_of-self g c =
    let still = ap (beside_tables c.self.inside.registry) c.in_err-compact.ensures.same in
    let cleared = ap (λ (slots : Slots). slots.room) c.clear.ensures in
    let most = c.self.invariant.1 in
    let room = c.kept.ensures.room in
    (subst RepresentsSome (sym still) c.self.invariant.0, omega (arith, cleared, most, room))

pub returns-in_err-compact : goal.returns-in_err-compact
returns-in_err-compact g c =
    let p = err_from_is_err_and c.from_residual.result c.from_residual.ensures.1 in
    let same = ap (beside_tables c.self.inside.registry) c.in_err-compact.ensures.same ∙ c.self.view_is in
    record {
      moments = λ settings history entries represents rests.
          subst
          (λ (l : LedgerValue). Leaves (g.D.Disk.media c.args.disk.now) (g.D.Disk.media c.compact.new.disk) (HasOne settings entries (kept (number_remembered l.registry) (time_of l.registry) entries)))
          c.self.view_is
          (subst
          (λ (es : List Entry). Leaves (g.D.Disk.media c.args.disk.now) (g.D.Disk.media c.compact.new.disk) (HasOne settings entries es))
          (entries_kept (record { registry = c.self.inside.registry; journal = c.self.inside.journal }) settings history entries c.items.result.now (subst (λ (l : LedgerValue). Represents l settings history entries) (sym c.self.view_is) represents)
          (λ all represents_filed rises. c.items.ensures ∙ c.kept.ensures.kept all represents_filed rises))
          (c.compact.ensures.moments settings entries
          (subst (λ (l : LedgerValue). RestsWith (g.D.Disk.media c.args.disk.now) (journal.Represents l.journal settings entries)) (sym c.self.view_is) rests)));
      compacted = rw p.1 tt;
      half = rw p.1 tt;
      room = rw p.1 tt;
      same = rw p.1 same;
      time = ap (λ (l : LedgerValue). time_of l.registry) c.self.view_is;
      number = ap (λ (l : LedgerValue). number_remembered l.registry) c.self.view_is;
      slots = ap (λ (l : LedgerValue). l.journal.slots) same;
      extent = c.in_err-compact.ensures.extent;
      cause = record { later = c.in_err-compact.ensures.cause.later; same = rw p.1 tt; rose = rw p.1 c.in_err-compact.ensures.cause.rose };
      beside = c.in_err-compact.ensures.beside;
    }

pub returns : goal.returns
returns g c =
    let inv = c.self.invariant.0 in
    let used = ap (λ (store : JournalValue). store.used) c.in_ok-compact.ensures.next in
    let slots = ap (λ (store : JournalValue). store.slots) c.in_ok-compact.ensures.next in
    let few = c.kept.ensures.few in
    let free = inv.represents.free in
    let items = ap length c.items.ensures in
    record {
      moments = λ settings history entries represents rests.
          subst
          (λ (l : LedgerValue). Leaves (g.D.Disk.media c.args.disk.now) (g.D.Disk.media c.compact.new.disk) (HasOne settings entries (kept (number_remembered l.registry) (time_of l.registry) entries)))
          c.self.view_is
          (subst
          (λ (es : List Entry). Leaves (g.D.Disk.media c.args.disk.now) (g.D.Disk.media c.compact.new.disk) (HasOne settings entries es))
          (entries_kept (record { registry = c.self.inside.registry; journal = c.self.inside.journal }) settings history entries c.items.result.now (subst (λ (l : LedgerValue). Represents l settings history entries) (sym c.self.view_is) represents)
          (λ all represents_filed rises. c.items.ensures ∙ c.kept.ensures.kept all represents_filed rises))
          (c.compact.ensures.moments settings entries
          (subst (λ (l : LedgerValue). RestsWith (g.D.Disk.media c.args.disk.now) (journal.Represents l.journal settings entries)) (sym c.self.view_is) rests)));
      compacted = λ settings history entries represents.
          let n = number_remembered c.self.inside.registry in
          let t = time_of c.self.inside.registry in
          let here = subst (λ (l : LedgerValue). Represents l settings history entries) (sym c.self.view_is) represents in (
            subst
                (λ (l : LedgerValue). Represents (record { registry = c.moved.new.self; journal = c.compact.new.self }) settings history (kept (number_remembered l.registry) (time_of l.registry) entries))
                c.self.view_is
                (represents_compacted
                c.items.result.now
                (record { registry = c.self.inside.registry; journal = c.self.inside.journal })
                (record { registry = c.moved.new.self; journal = c.compact.new.self })
                (ap (λ (j : JournalValue). j.used) c.in_ok-compact.ensures.next)
                (ap (λ (j : JournalValue). j.slots) c.in_ok-compact.ensures.next)
                c.moved.ensures.time
                c.moved.ensures.represents
                (λ es represents_filed calm.
                c.moved.ensures.filed (filed es) represents_filed (filed_rise es) calm (c.items-2.ensures ∙ c.kept.ensures.kept (filed es) represents_filed (filed_rise es)))
                c.moved.ensures.settings
                settings
                history
                entries
                (ap length (c.items.ensures ∙ c.kept.ensures.kept (filed entries) here.represents_filed (filed_rise entries)) ∙ named_many n t entries)
                here),
            λ rests.
                subst
                (λ (l : LedgerValue). RestsWith (g.D.Disk.media c.compact.new.disk) (journal.Represents c.compact.new.self settings (kept (number_remembered l.registry) (time_of l.registry) entries)))
                c.self.view_is
                (subst
                (λ (es : List Entry). RestsWith (g.D.Disk.media c.compact.new.disk) (journal.Represents c.compact.new.self settings es))
                (entries_kept (record { registry = c.self.inside.registry; journal = c.self.inside.journal }) settings history entries c.items.result.now here (λ all represents_filed rises. c.items.ensures ∙ c.kept.ensures.kept all represents_filed rises))
                (c.in_ok-compact.ensures.rests settings entries
                (subst (λ (l : LedgerValue). RestsWith (g.D.Disk.media c.args.disk.now) (journal.Represents l.journal settings entries)) (sym c.self.view_is) rests))),
          );
      half =
          ap (λ (j : JournalValue). j.selector) c.in_ok-compact.ensures.next
          ∙ ap (λ (l : LedgerValue). other_selector l.journal.selector) c.self.view_is;
      room = omega (arith, used, slots, few, free, items);
      same = tt;
      time = c.moved.ensures.time ∙ ap (λ (l : LedgerValue). time_of l.registry) c.self.view_is;
      number = number_same inv.settings c.self.inside.registry c.moved.new.self inv.represents.is_of (c.moved.ensures.settings inv.settings inv.represents.is_of) ∙ ap (λ (l : LedgerValue). number_remembered l.registry) c.self.view_is;
      slots = slots ∙ ap (λ (l : LedgerValue). l.journal.slots) c.self.view_is;
      extent = c.in_ok-compact.ensures.extent;
      cause = record { later = c.in_ok-compact.ensures.cause.later; same = c.in_ok-compact.ensures.cause.same; rose = tt };
      beside = c.in_ok-compact.ensures.beside;
    }
