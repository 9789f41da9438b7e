use Rattle.cbor_profile.proofs.WholeReading.{canon_is}
use Rattle.cbor_profile.proofs.law.encoding_spells.Goals as goal

pub returns : goal.returns
returns c = λ tree valid. canon_is tree valid
