use Rattle.std.proofs.Common.{ℕ, ◌≤◌, List, take, ap, subst, ◌∙◌, arith}
use Rattle.httparse.specs.Spans.{RequestOverflows}
use Rattle.http_cut.specs.Requests.{cut_value, cut_value_behind}
use Rattle.http_cut.specs.SpanValues.{head_at}
use Rattle.http_cut.proofs.Cuts.{window_fits, cut_whole, cut_waits, cut_full, cut_never}
use Rattle.http_cut.proofs.cutting.cut_buffered.Goals as goal

pub split_at-requires : goal.split_at-requires
split_at-requires c =
    let within = rw c.in-Ok-Complete.field-0-is at c.in-Ok-Complete.ensures.within in
    omega (arith, within.section.len_fits, (window_fits c.args.buffered.now c.window-bytes.result.now c.window-bytes.ensures.value).1)

pub cut_behind-requires-clause-size : goal.cut_behind-requires-clause-size
cut_behind-requires-clause-size c =
    let within = rw c.in-Ok-Complete.field-0-is at c.in-Ok-Complete.ensures.within in
    omega (arith, within.section.len_fits, (window_fits c.args.buffered.now c.window-bytes.result.now c.window-bytes.ensures.value).0)

pub returns-in-Ok-Complete : goal.returns-in-Ok-Complete
returns-in-Ok-Complete c =
    let within = rw c.in-Ok-Complete.field-0-is at c.in-Ok-Complete.ensures.within in
    let complete = rw c.in-Ok-Complete.field-0-is at c.in-Ok-Complete.ensures.complete in
    let head = c.in-Ok-Complete.head in
    let buffered = c.args.buffered.now in
    let window = c.window-bytes.result.now in
    let spans = c.parse_request.new.headers in
    let fits : head.len ≤ 8192 = omega (arith, within.section.len_fits, (window_fits buffered window c.window-bytes.ensures.value).0) in
    cut_whole buffered window spans head (cut_value c.cut_behind.result) c.window-bytes.ensures.value complete fits
    (c.cut_behind.ensures ∙ ap (λ (y : List ℕ). cut_value_behind (head_at window head (take head.headers spans)) y) c.split_at.ensures.back)

pub returns-then-buffered-lt-GREATEST_HEAD : goal.returns-then-buffered-lt-GREATEST_HEAD
returns-then-buffered-lt-GREATEST_HEAD c =
    let none = rw c.in-Ok-Partial.field-0-is at c.in-Ok-Partial.ensures.partial in
    let may = rw c.in-Ok-Partial.field-0-is at c.in-Ok-Partial.ensures.unfinished in
    let all = c.window-bytes.ensures.size (omega (arith, c.if-buffered-lt-GREATEST_HEAD.true)) in
    cut_waits c.args.buffered.now c.window-bytes.result.now c.window-bytes.ensures.value all c.if-buffered-lt-GREATEST_HEAD.true none may

pub returns-in-Ok-Partial : goal.returns-in-Ok-Partial
returns-in-Ok-Partial c =
    let none = rw c.in-Ok-Partial.field-0-is at c.in-Ok-Partial.ensures.partial in
    cut_full c.args.buffered.now c.window-bytes.result.now c.window-bytes.ensures.value c.if-buffered-lt-GREATEST_HEAD.false none

pub returns-in-Err : goal.returns-in-Err
returns-in-Err c =
    let over = subst (λ (n : ℕ). RequestOverflows n c.window-bytes.result.now) c.requires c.in-Err.ensures.no_room in
    cut_never c.args.buffered.now c.window-bytes.result.now c.window-bytes.ensures.value over
