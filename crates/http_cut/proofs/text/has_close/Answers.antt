use Rattle.std.proofs.Common.{rules, tests}
use Rattle.std.proofs.lemmas.Iterator.Search.{any_from_yields_List}
use Rattle.std.proofs.lemmas.Iterator.Splits.{YieldsList-from_slice_split}
use Rattle.http_cut.specs.Fields.{is_close, has_close}
use Rattle.http_cut.proofs.text.has_close.Goals as goal

pub returns : goal.returns
unfolding has_close
returns c =
    any_from_yields_List is_close _ _ _ c.any.ensures.ran (YieldsList-from_slice_split _ _ c.args.value.now c.split.ensures.rest c.split.ensures.done c.split.ensures.closure (λ x r q k. search (rules, tests))) (λ x b q k. search (rules, tests))
