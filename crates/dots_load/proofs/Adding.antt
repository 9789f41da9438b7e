-- The counts of sends add up.
use Rattle.std.proofs.Common.{◌≡◌, ℕ, ◌+◌, Bool, List, [], ◌∷◌, length, refl, arith}
use Rattle.std.specs.Prelude.{count_by, cond}
use Rattle.std.proofs.lemmas.List.Sums.{sum_by-cons}
use Rattle.dots_host.specs.declared.out.OwnedOut.{OwnedOut}
use Rattle.dots_host.specs.declared.out.OwnedOut.TheVariants as owned
use Rattle.dots_load.specs.Report.{created, changed, deleted, content, conflict, other}

abbrev one_if : (OwnedOut → Bool) → OwnedOut → ℕ
one_if kind out = cond (kind out) 1 0

count_more : (kind : OwnedOut → Bool) (out : OwnedOut) (sends : List OwnedOut) → count_by kind (out ∷ sends) ≡ one_if kind out + count_by kind sends
count_more kind out sends = sum_by-cons (one_if kind) out sends

each_once : (out : OwnedOut) → one_if created out + one_if changed out + one_if deleted out + one_if content out + one_if conflict out + one_if other out ≡ 1
each_once (owned.Conn conn bytes) = refl
each_once (owned.Close conn) = refl
each_once (owned.To peer []) = refl
each_once (owned.To peer (first ∷ [])) = refl
each_once (owned.To peer (first ∷ second ∷ bytes)) = grind arith

pub add_up : (sends : List OwnedOut) → count_by created sends + count_by changed sends + count_by deleted sends + count_by content sends
    + count_by conflict sends + count_by other sends ≡ length sends
add_up [] = refl
add_up (out ∷ sends) =
    omega (
      arith,
      each_once out,
      add_up sends,
      count_more created out sends,
      count_more changed out sends,
      count_more deleted out sends,
      count_more content out sends,
      count_more conflict out sends,
      count_more other out sends,
    )
