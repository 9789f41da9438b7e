use Rattle.lifetime_clock.proofs.Entries.{length-le-keys}
use Rattle.lifetime_clock.proofs.laws.count_is_of_keys.Goals as goal

pub returns : goal.returns
returns c = λ times other map of_other within. length-le-keys times.entries other.entries map.keys of_other.keys within
