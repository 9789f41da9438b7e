-- What a memory host says of its calls holds where none was made, and goes on.
use Rattle.std.proofs.Common.{List, [], ◌∷◌, ◌++◌, refl, sym, ap, subst, ◌∙◌, append_assoc, append-nil}
use Rattle.dots_host.specs.declared.act.Act.{Act}
use Rattle.dots_host.specs.declared.act.Act.TheVariants as act
use Rattle.dots_host.specs.Memory.{Coming, Hands}
use Rattle.dots_host.specs.Handing.{hands_then}
use Rattle.dots_host.specs.Stored.{AreOfDisk}
use Rattle.dots_host.specs.StoredLaws.{goes_on_same, goes_on_then}
use Rattle.dots_host.specs.Hosted.{Hosted, HandsOut, KeepsWire}

pub hands_out_same : (host : Hosted) → HandsOut host host
hands_out_same host = λ whole. (whole, [], sym (append-nil host.disk.acts), refl)

pub hands_out_then : (old between new : Hosted) → HandsOut old between → HandsOut between new → HandsOut old new
hands_out_then old between new a b = λ whole.
    let second = b whole in
    let first = a second.0 in (
      first.0,
      first.1 ++ second.1,
      second.2 ∙ ap (λ front. front ++ second.1) first.2 ∙ append_assoc old.disk.acts first.1 second.1,
      hands_then old.coming between.coming new.coming first.1 second.1 first.3 second.3,
    )

pub keeps_wire_same : (host : Hosted) → KeepsWire host host
keeps_wire_same host = record { disk = goes_on_same host.disk; coming = refl; faults = refl }

pub keeps_wire_then : (old between new : Hosted) → KeepsWire old between → KeepsWire between new → KeepsWire old new
keeps_wire_then old between new a b = record {
  disk = goes_on_then old.disk between.disk new.disk a.disk b.disk;
  coming = b.coming ∙ a.coming;
  faults = b.faults ∙ a.faults;
}

hands_none : (coming : List Coming) (acts : List Act) → AreOfDisk acts → Hands coming acts coming
hands_none coming [] are = refl
hands_none coming (act.Took e t ∷ acts) are = absurd are.0
hands_none coming (act.Gave o d ∷ acts) are = absurd are.0
hands_none coming (act.Read o ∷ acts) are = (coming, refl, hands_none coming acts are.1)
hands_none coming (act.Wrote a b o ∷ acts) are = (coming, refl, hands_none coming acts are.1)
hands_none coming (act.Synced o ∷ acts) are = (coming, refl, hands_none coming acts are.1)

pub disk_leads : (old new : Hosted) → KeepsWire old new → HandsOut old new
disk_leads old new keeps = λ whole. (
  keeps.disk.whole whole,
  keeps.disk.more,
  keeps.disk.grown,
  subst (λ coming. Hands old.coming keeps.disk.more coming) (sym keeps.coming) (hands_none old.coming keeps.disk.more keeps.disk.disk),
)
