-- What was sent by calls is what was sent.
use Rattle.std.proofs.Common.{◌≡◌, List, [], ◌∷◌, ◌++◌, refl, sym, ap, ◌∙◌}
use Rattle.std.specs.Prelude.{flat_map}
use Rattle.dots_host.specs.declared.act.Act.{Act}
use Rattle.dots_host.specs.declared.act.Act.TheVariants as act
use Rattle.dots_world.specs.declared.party.Party.{Party}
use Rattle.world_play.specs.declared.parties.Parties.{Parties}
use Rattle.world_play.specs.Calls.{sent_in}
use Rattle.world_play.specs.Packets.{packet_sent, packets_in}

first_then : {A : Type 0} (x : List A) (xs ys : List A) → xs ≡ ys → x ++ xs ≡ x ++ ys
first_then x xs ys same = ap (λ more. x ++ more) same

pub packets_are : (parties : Parties) (source : Party) (calls : List Act) → flat_map (packets_in parties source) calls ≡ flat_map (packet_sent parties source) (flat_map sent_in calls)
packets_are parties source [] = refl
packets_are parties source (act.Gave out done ∷ calls) = ap (λ more. packet_sent parties source out ++ more) (packets_are parties source calls)
packets_are parties source (act.Took e t ∷ calls) = packets_are parties source calls
packets_are parties source (act.Read o ∷ calls) = packets_are parties source calls
packets_are parties source (act.Wrote a b o ∷ calls) = packets_are parties source calls
packets_are parties source (act.Synced o ∷ calls) = packets_are parties source calls
