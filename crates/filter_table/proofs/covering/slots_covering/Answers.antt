use Rattle.std.proofs.Common.{◌≡◌, ℕ, ◌<◌, ◌^◌, ◌-◌, ◌==◌, nat_lt, List, map, filter, ap, sym, subst, ◌∙◌}
use Rattle.std.specs.List.{AllByRecursion}
use Rattle.ip_scope.specs.declared.family.Family.{Family}
use Rattle.filter_table.specs.declared.rank.Rank.{Rank}
use Rattle.filter_table.specs.Ranks.{slot_of}
use Rattle.filter_table.specs.Numbers.{number_of, Falls}
use Rattle.filter_table.specs.Covers.{cleared, covers}
use Rattle.filter_table.proofs.Searching.{falls_map}
use Rattle.filter_table.proofs.Runs.{numbers_rise, numbers_fall, short_numbers, small_numbers, slots_run, slots_run_short}
use Rattle.filter_table.proofs.Covered.{short_covering, long_covering, none_short, none_long}
use Rattle.filter_table.proofs.covering.slots_covering.Goals as goal

pub returns-then-kind-ge256 : goal.returns-then-kind-ge256
returns-then-kind-ge256 c =
    sym (ap (map slot_of) (ap (λ (f : Family). filter (covers f c.args.address.number) c.args.ranks.now) c.in-V4.is
    ∙ none_short c.args.address.number c.args.kind c.args.ranks.now c.if-kind-ge256.true c.requires.of_kind))

pub slots_of_number-requires-clause-in_order : goal.slots_of_number-requires-clause-in_order
slots_of_number-requires-clause-in_order c =
    let w = c.clear_short-number.result in
    subst (Falls (λ n. nat_lt n w)) (sym (c.requires.numbers ∙ short_numbers c.args.kind c.args.ranks.now c.if-kind-ge256.false c.requires.of_kind c.requires.short))
    (falls_map (λ n. nat_lt n w) number_of c.args.ranks.now (numbers_fall w c.args.ranks.now (numbers_rise c.args.kind c.args.ranks.now c.requires.in_order c.requires.of_kind)))

pub slots_of_number-requires-clause-small : goal.slots_of_number-requires-clause-small
slots_of_number-requires-clause-small c =
    subst (AllByRecursion (λ n. n < 2 ^ 63)) (sym (c.requires.numbers ∙ short_numbers c.args.kind c.args.ranks.now c.if-kind-ge256.false c.requires.of_kind c.requires.short))
    (small_numbers c.args.kind c.args.ranks.now c.if-kind-ge256.false c.requires.of_kind c.requires.short)

pub returns-else-kind-ge256 : goal.returns-else-kind-ge256
returns-else-kind-ge256 c =
    let w : c.clear_short-number.result ≡ cleared c.args.address.number (32 - c.args.kind) =
    c.clear_short-number.ensures.value ∙ ap (cleared c.args.address.number) c.saturating_sub.ensures in
    c.slots_of_number.ensures
    ∙ slots_run_short _ c.args.ranks.now c.args.numbers.now c.args.slots.now (numbers_rise c.args.kind c.args.ranks.now c.requires.in_order c.requires.of_kind)
    (c.requires.numbers ∙ short_numbers c.args.kind c.args.ranks.now c.if-kind-ge256.false c.requires.of_kind c.requires.short) c.requires.slots
    ∙ ap (λ (n : ℕ). map slot_of (filter (λ (r : Rank). r.number == n) c.args.ranks.now)) w
    ∙ ap (map slot_of) (short_covering c.args.address.number c.args.kind c.args.ranks.now c.if-kind-ge256.false c.requires.of_kind
    ∙ ap (λ (f : Family). filter (covers f c.args.address.number) c.args.ranks.now) (sym c.in-V4.is))

pub returns-then-kind-lt256 : goal.returns-then-kind-lt256
returns-then-kind-lt256 c =
    sym (ap (map slot_of) (ap (λ (f : Family). filter (covers f c.args.address.number) c.args.ranks.now) c.in-V6.is
    ∙ none_long c.args.address.number c.args.kind c.args.ranks.now c.if-kind-lt256.true c.requires.of_kind))

pub slots_of_long_number-requires-clause-in_order : goal.slots_of_long_number-requires-clause-in_order
slots_of_long_number-requires-clause-in_order c =
    numbers_fall c.clear_long-number.result c.args.ranks.now (numbers_rise c.args.kind c.args.ranks.now c.requires.in_order c.requires.of_kind)

pub returns-else-kind-lt256 : goal.returns-else-kind-lt256
returns-else-kind-lt256 c =
    let w : c.clear_long-number.result ≡ cleared c.args.address.number (384 - c.args.kind) =
    c.clear_long-number.ensures ∙ ap (cleared c.args.address.number) c.saturating_sub-in-V6.ensures in
    c.slots_of_long_number.ensures
    ∙ slots_run _ c.args.ranks.now c.args.slots.now (numbers_rise c.args.kind c.args.ranks.now c.requires.in_order c.requires.of_kind) c.requires.slots
    ∙ ap (λ (n : ℕ). map slot_of (filter (λ (r : Rank). r.number == n) c.args.ranks.now)) w
    ∙ ap (map slot_of) (long_covering c.args.address.number c.args.kind c.args.ranks.now c.if-kind-lt256.false c.requires.of_kind
    ∙ ap (λ (f : Family). filter (covers f c.args.address.number) c.args.ranks.now) (sym c.in-V6.is))
