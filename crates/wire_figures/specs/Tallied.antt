-- A host around a host, which counts its calls.
use Rattle.std.specs.Prelude.{◌≡◌, List, ◌++◌, map, Option}
use Rattle.dots_host.specs.declared.act.Act.{Act}
use Rattle.dots_host.specs.declared.act.Act.TheVariants as act
use Rattle.dots_host.specs.Acts.{WireAct, took, gave, Timed}
use Rattle.dots_host.specs.Runs.{Added}

-- the host inside, and the calls of its wire since it was put inside, which are counted
pub record Tallied (H : Type 0) : Type 0 where
  pub inner : H
  pub calls : List Act

abbrev pub call_of : WireAct → Act
call_of (took event at) = act.Took event at
call_of (gave out done) = act.Gave out done

-- the calls that acts were
abbrev pub calls_in : List Timed → List Act
calls_in acts = map (λ timed. call_of timed.act) acts

-- From one moment to another calls were counted, and no others. Where the host inside tells its acts, these were just the acts that it made.
pub record Tallies (acts acts_now : Option (List Timed)) (calls calls_now : List Act) : Type 0 where
  pub more : List Act
  pub grown : calls_now ≡ calls ++ more
  pub told : Added acts acts_now (λ added. more ≡ calls_in added)
