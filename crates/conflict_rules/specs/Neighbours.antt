-- Two mitigations that stand beside each other.
use Rattle.std.specs.Prelude.{◌≡◌, ◌≢◌, ℕ, List}
use Rattle.dots_history.specs.declared.entry.Entry.{Entry}
use Rattle.dots_history.specs.declared.put.Put.{Put}
use Rattle.conflict_rules.specs.Judgements.{StandsIn}

-- At two places stand mitigations of the domain, of clients of these names, which were granted these.
pub record StandBeside (domain t : ℕ) (entries : List Entry) (cuid beside : List ℕ) (one other : Put) : Type 0 where
  pub first : ℕ
  pub second : ℕ
  pub entry : Entry
  pub another : Entry
  pub apart : first ≢ second
  pub stands : StandsIn domain t entries first entry one
  pub stands_too : StandsIn domain t entries second another other
  pub of_cuid : entry.cuid ≡ cuid
  pub of_beside : another.cuid ≡ beside
