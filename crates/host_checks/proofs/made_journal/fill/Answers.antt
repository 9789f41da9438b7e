use Rattle.std.proofs.Common.{ℕ, List, [], ◌++◌, length, map, sym, ap, ◌∙◌, subst}
use Rattle.std.specs.Prelude.{Some, codes}
use Rattle.dots_host.specs.Stored.{media_of}
use Rattle.dots_history.specs.Histories.{Within}
use Rattle.dots_history.specs.Filed.{entry_of}
use Rattle.dots_script.specs.Summary.{count_line}
use Rattle.host_checks.specs.declared.kept_entry.KeptEntry.{KeptEntry}
use Rattle.host_checks.proofs.MadeOf.{filled_with}
use Rattle.host_checks.proofs.made_journal.fill.Goals as goal

pub returns-clause-filled : goal.returns-clause-filled
returns-clause-filled c = λ filed t are within.
    filled_with
    c.args.old.now
    c.args.new.now
    t
    c.args.list.items
    filed
    c.take_all-taken.new.ledger
    (Some (media_of c.take_all-taken.new.disk))
    c.add_count.new.text.items
    c.take_all-taken.new.text.items
    are
    (c.in_ok-add_count.ensures
    ∙ ap (λ (front : List ℕ). front ++ count_line (codes "entries that count") c.len.result) c.new-text.ensures.items
    ∙ ap (count_line (codes "entries that count")) (c.len.ensures ∙ sym c.as_slice.ensures.len ∙ ap (length {A = KeptEntry}) c.as_slice.ensures.value))
    (c.in_ok-taken.ensures.all [] filed t c.in_ok-ledger.ensures.begun.0 are (subst (λ (low : ℕ). Within low (map entry_of filed) t) (sym c.in_ok-ledger.ensures.begun.1) within))
