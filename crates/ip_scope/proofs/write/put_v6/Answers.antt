use Rattle.std.proofs.Common.{ap, ◌∙◌}
use Rattle.std.specs.Net.Addr.{IsIpv6OfBits}
use Rattle.std.specs.Net.Text.{hex_groups_text}
use Rattle.ip_scope.specs.PrefixText.{v6_groups}
use Rattle.ip_scope.proofs.Putting.{Puts-as}
use Rattle.ip_scope.proofs.write.put_v6.Goals as goal

pub returns-clause-text : goal.returns-clause-text
unfolding v6_groups IsIpv6OfBits
returns-clause-text c =
    Puts-as _ _ _ _ _ _ (ap hex_groups_text (c.segments.ensures ∙ c.from_bits.ensures)) c.put_hex_groups.ensures.text
