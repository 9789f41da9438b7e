-- Calls of the disk of a host of a script go on from none, and one after the other, and keep what its wire has read and written.
use Rattle.std.proofs.Common.{◌≡◌, ℕ, List, Option, refl, sym, ap, subst, ◌∙◌}
use Rattle.dots_host.specs.Acts.{wire_acts}
use Rattle.dots_host.specs.LoggedLaws.{adds_calls_same, adds_calls_then, keeps_acts_logged}
use Rattle.dots_script.specs.Lines.{to_come}
use Rattle.dots_script.specs.Scripting.{Scripting, KeepsScript}
use Rattle.dots_script.specs.Accounts.{Outer, Accounts, AccountsSince, outer}

pub keeps_script_same : {S K : Type 0} (host : Scripting S K) → KeepsScript host host
keeps_script_same host = record { disk = adds_calls_same host.disk; source = refl; ahead = refl; sink = refl; faults = refl }

pub keeps_script_then : {S K : Type 0} (old between new : Scripting S K) → KeepsScript old between → KeepsScript between new → KeepsScript old new
keeps_script_then old between new a b = record {
  disk = adds_calls_then old.disk between.disk new.disk a.disk b.disk;
  source = b.source ∙ a.source;
  ahead = b.ahead ∙ a.ahead;
  sink = b.sink ∙ a.sink;
  faults = b.faults ∙ a.faults;
}

module _ {S K : Type 0} (left : S → Option (List ℕ)) (failures : S → ℕ) (holds : K → Option (List ℕ)) where
  abbrev outer_of : List ℕ → S → K → Outer
  outer_of ahead source sink = record { script = to_come ahead (left source); written = holds sink; failures = failures source }

  -- calls of the disk alone change nothing of how the wire stands
  pub outer_stays : (old new : Scripting S K) → KeepsScript old new → outer left failures holds new ≡ outer left failures holds old
  outer_stays old new keeps =
      ap (λ ahead. outer_of ahead new.source new.sink) keeps.ahead
      ∙ ap (λ source. outer_of old.ahead source new.sink) keeps.source
      ∙ ap (λ sink. outer_of old.ahead old.source sink) keeps.sink

  pub script_leads : (old new : Scripting S K) → KeepsScript old new → (start : Outer) → AccountsSince left failures holds start old → AccountsSince left failures holds start new
  script_leads old new keeps start accounts =
      subst (λ now. Accounts start now (wire_acts 0 new.disk.acts)) (sym (outer_stays old new keeps))
      (subst (Accounts start (outer left failures holds old)) (sym (keeps_acts_logged old.disk new.disk keeps.disk)) accounts)
