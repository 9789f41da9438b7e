-- Counting goes on from nothing, and one time after the other, and a call of the disk isn't counted.
use Rattle.std.proofs.Common.{◌≡◌, List, [], ◌++◌, Option, Some, None, refl, sym, ap, ◌∙◌, append_assoc, append-nil}
use Rattle.std.proofs.lemmas.List.{map-append}
use Rattle.dots_host.specs.declared.act.Act.{Act}
use Rattle.dots_host.specs.Acts.{Timed}
use Rattle.dots_host.specs.Runs.{Added}
use Rattle.dots_host.specs.Beside.{KeepsActs}
use Rattle.wire_figures.specs.Tallied.{Tallies, call_of, calls_in}

none_added : (acts acts_now : Option (List Timed)) → KeepsActs acts acts_now → Added acts acts_now (λ added. [] ≡ calls_in added)
none_added acts None keeps = tt
none_added None (Some now) keeps = absurd keeps
none_added (Some acts) (Some now) keeps = ([], keeps ∙ sym (append-nil acts), refl)

-- no call came
pub tallies_none : (acts acts_now : Option (List Timed)) (calls calls_now : List Act) → calls_now ≡ calls → KeepsActs acts acts_now → Tallies acts acts_now calls calls_now
tallies_none acts acts_now calls calls_now same keeps = record { more = []; grown = same ∙ sym (append-nil calls); told = none_added acts acts_now keeps }

itself : (acts : Option (List Timed)) → KeepsActs acts acts
itself None = tt
itself (Some acts) = refl

pub tallies_same : (acts : Option (List Timed)) (calls : List Act) → Tallies acts acts calls calls
tallies_same acts calls = tallies_none acts acts calls calls refl (itself acts)

added_then : (old mid new : Option (List Timed)) (a b : List Act) → Added old mid (λ added. a ≡ calls_in added) → Added mid new (λ added. b ≡ calls_in added)
    → Added old new (λ added. a ++ b ≡ calls_in added)
added_then old mid None a b first then_b = tt
added_then old None (Some new) a b first next = absurd next
added_then None (Some mid) (Some new) a b first next = absurd first
added_then (Some old) (Some mid) (Some new) a b (xs, is, are) (ys, on, bs) = (
  xs ++ ys,
  on ∙ ap (λ acts. acts ++ ys) is ∙ append_assoc old xs ys,
  ap (λ calls. calls ++ b) are ∙ ap (λ calls. calls_in xs ++ calls) bs ∙ sym (map-append (λ (timed : Timed). call_of timed.act) xs ys),
)

pub tallies_then : (old mid new : Option (List Timed)) (calls between calls_now : List Act) → Tallies old mid calls between → Tallies mid new between calls_now
    → Tallies old new calls calls_now
tallies_then old mid new calls between calls_now a b = record {
  more = a.more ++ b.more;
  grown = b.grown ∙ ap (λ calls. calls ++ b.more) a.grown ∙ append_assoc calls a.more b.more;
  told = added_then old mid new a.more b.more a.told b.told;
}

pub same_then : {A : Type 0} (old between new : A) → between ≡ old → new ≡ between → new ≡ old
same_then old between new a b = b ∙ a
