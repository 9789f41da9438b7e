-- Among whom an observer may be due.
use Rattle.std.specs.Prelude.{◌≡◌, ℕ, Bool, true, false, ◌==◌, if◌then◌else◌, List, [], ◌∷◌, ⊤}
use Rattle.coap_observe.specs.declared.due_among.DueAmong.{DueAmong}
use Rattle.coap_observe.specs.declared.due_among.DueAmong.TheVariants.{Nobody, Domain, Anybody}
use Rattle.coap_observe.specs.Seen.{Lists}
use Rattle.coap_observe.specs.Observed.{ObservedValue, is_due}

-- the observers of a domain are among them
abbrev pub includes : DueAmong → ℕ → Bool
includes Nobody domain = false
includes (Domain own) domain = own == domain
includes Anybody domain = true

abbrev pub includes_one : DueAmong → ObservedValue → Bool
includes_one among o = includes among o.observer.domain

-- and the observers of one domain more
abbrev pub joined : DueAmong → ℕ → DueAmong
joined Nobody domain = Domain domain
joined (Domain own) domain = if own == domain then Domain own else Anybody
joined Anybody domain = Anybody

-- these, and those of the other
abbrev pub merged : DueAmong → DueAmong → DueAmong
merged among Nobody = among
merged among (Domain domain) = joined among domain
merged among Anybody = Anybody

-- each that isn't among them has been notified of what there is to see
abbrev pub AreNotified : Lists → DueAmong → List ObservedValue → Type 0
AreNotified lists among [] = ⊤
AreNotified lists among (o ∷ os) = (includes_one among o ≡ false → is_due lists o ≡ false) × AreNotified lists among os
