use Rattle.std.proofs.Common.{ℕ, List, ap, ◌∙◌}
use Rattle.std.specs.Prelude.{codes}
use Rattle.http_cut.specs.Fields.{is_same_word, is_close}
use Rattle.http_cut.proofs.text.is_close.Goals as goal

pub returns : goal.returns
unfolding is_close
returns c = c.is_same_word.ensures ∙ ap (λ (y : List ℕ). is_same_word y (codes "close")) c.trim.ensures
