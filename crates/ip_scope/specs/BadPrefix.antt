-- What is printed of a text that is no prefix.
use Rattle.std.specs.Prelude.{ℕ, List, codes}
use Rattle.ip_scope.specs.declared.bad_prefix.BadPrefix.{BadPrefix}
use Rattle.ip_scope.specs.declared.bad_prefix.BadPrefix.TheVariants.{NotPrefix, Length}

abbrev pub refusal_text : BadPrefix → List ℕ
refusal_text NotPrefix = codes "not a prefix"
refusal_text Length = codes "the length of the prefix is too large"
