use Rattle.std.proofs.Common.{arith, ◌∙◌, ap, ◌≡◌, length, drop}
use Rattle.std.proofs.lemmas.List.{take_at}
use Rattle.dots_host.specs.Media.{byte_of, overwritten}
use Rattle.dots_host.proofs.content.Content.write.Goals as goal

pub returns-clause-ok : goal.returns-clause-ok
returns-clause-ok c =
    let size : length c.put.new.list ≡ c.grow.new.bytes.len = omega arith in
    let same : byte_of c.as_mut_slice.result.now ≡ byte_of c.args.self.now = ap byte_of c.as_mut_slice.ensures.value ∙ c.in_ok-grow.ensures.ok ∙ ap byte_of c.self.view_is in
    ap byte_of (take_at c.put.new.list (drop (length c.put.new.list) c.grow.new.bytes.items) c.grow.new.bytes.len size) ∙ c.put.ensures ∙ ap (λ bytes. overwritten bytes c.args.at c.args.bytes.now) same
