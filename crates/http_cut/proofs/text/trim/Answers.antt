use Rattle.std.proofs.Common.{ℕ, List, ap, ◌∙◌}
use Rattle.httparse.specs.Grammar.{trim_ows}
use Rattle.http_cut.specs.Fields.{skip_back}
use Rattle.http_cut.proofs.text.trim.Goals as goal

pub returns : goal.returns
unfolding trim_ows
returns c = c.trim_back.ensures ∙ ap (λ (y : List ℕ). skip_back y) c.trim_front.ensures
