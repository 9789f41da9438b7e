use Rattle.ip_scope.proofs.AsciiTexts.{prefix_text_is_ascii}
use Rattle.ip_scope.proofs.laws.texts_are_ascii.Goals as goal

pub returns : goal.returns
returns c = prefix_text_is_ascii
