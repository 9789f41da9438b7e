use Rattle.std.proofs.Common.{ap, ◌∙◌}
use Rattle.std.specs.Net.Addr.{IsIpv4OfBits}
use Rattle.std.specs.Net.Text.{ipv4_text}
use Rattle.ip_scope.specs.PrefixText.{v4_octets}
use Rattle.ip_scope.proofs.Putting.{Puts-as}
use Rattle.ip_scope.proofs.write.put_v4.Goals as goal

pub returns-clause-text : goal.returns-clause-text
unfolding v4_octets IsIpv4OfBits
returns-clause-text c =
    Puts-as _ _ _ _ _ _ (ap ipv4_text (c.octets.ensures ∙ c.from_bits.ensures)) c.put_dotted.ensures.text
