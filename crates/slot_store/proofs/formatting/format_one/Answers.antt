use Rattle.std.proofs.Common.{arith, ◌≡◌, length}
use Rattle.slot_store.specs.declared.format.Format.TheVariants.{One}
use Rattle.slot_store.proofs.HeaderLemmas.{is_rest}
use Rattle.slot_store.proofs.FormatLemmas.{zeros_leave, zeros_rest}
use Rattle.slot_store.proofs.formatting.format_one.Goals as goal

pub returns-in-Ok-clause-moments : goal.returns-in-Ok-clause-moments
returns-in-Ok-clause-moments g c = λ rests.
    let size : length c.header-header.result ≡ 64 = omega arith in
    let rest = is_rest c.args.slots c.args.digest.now One c.header-header.result size c.header-header.ensures.bytes c.header-header.ensures.selector c.header-header.ensures.formats.0 in
    zeros_leave _ _ c.args.slots c.args.digest.now One _ rest c.in-Ok.ensures.moments rests

pub returns-in-Ok-clause-formatted : goal.returns-in-Ok-clause-formatted
returns-in-Ok-clause-formatted g c = λ rests.
    let size : length c.header-header.result ≡ 64 = omega arith in
    let rest = is_rest c.args.slots c.args.digest.now One c.header-header.result size c.header-header.ensures.bytes c.header-header.ensures.selector c.header-header.ensures.formats.0 in
    zeros_rest _ _ c.args.slots c.args.digest.now One _ rest c.in-Ok.ensures.opened rests

pub returns-in-Err-clause-moments : goal.returns-in-Err-clause-moments
returns-in-Err-clause-moments g c = λ rests.
    let size : length c.header-header.result ≡ 64 = omega arith in
    let rest = is_rest c.args.slots c.args.digest.now One c.header-header.result size c.header-header.ensures.bytes c.header-header.ensures.selector c.header-header.ensures.formats.0 in
    zeros_leave _ _ c.args.slots c.args.digest.now One _ rest c.in-Err.ensures.moments rests
