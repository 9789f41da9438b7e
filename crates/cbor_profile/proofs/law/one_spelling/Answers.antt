use Rattle.cbor_profile.proofs.WholeReading.{same_reading, same_front}
use Rattle.cbor_profile.proofs.law.one_spelling.Goals as goal

pub returns : goal.returns
returns c = λ s t a b x y f g e. let same = same_reading a b x y s t 16 f.1 g.1 e in (same_front a b x y same.1 e, same.0, same.1)
