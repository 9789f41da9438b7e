-- Rings without slots.
use Rattle.std.proofs.Common.{◌≡◌, ◌≢◌, ℕ, zero, suc, ◌+◌, ◌<◌, ◌≤◌, List, [], ◌∷◌, ◌++◌, length, map, refl, sym, ap, subst, ◌∙◌, arith}
use Rattle.coap_observe.specs.declared.rings.Ring.{Ring}
use Rattle.coap_observe.specs.Links.{link, Each, Distinct}
use Rattle.coap_observe.specs.Rings.{begun, numbers_from, rings_from, ring_of, nodes, AreLinked, StartBehind, AreRings}

pub numbers_last : (start count : ℕ) → numbers_from start (suc count) ≡ numbers_from start count ++ (start + count) ∷ []
numbers_last start zero = ap (λ n. n ∷ []) (omega arith)
numbers_last start (suc count) = ap (λ ns. start ∷ ns) (numbers_last (suc start) count ∙ ap (λ n. numbers_from (suc start) count ++ n ∷ []) (omega arith))

pub rings_last : (start count : ℕ) → rings_from start (suc count) ≡ rings_from start count ++ (record { start = start + count; count = 0 }) ∷ []
rings_last start zero = ap (λ n. (record { start = n; count = 0 }) ∷ []) (omega arith)
rings_last start (suc count) =
    ap (λ rs. (record { start = start; count = 0 }) ∷ rs) (rings_last (suc start) count ∙ ap (λ n. rings_from (suc start) count ++ (record { start = n; count = 0 }) ∷ []) (omega arith))

pub length_numbers : (start count : ℕ) → length (numbers_from start count) ≡ count
length_numbers start zero = refl
length_numbers start (suc count) = let rest = length_numbers (suc start) count in omega (arith, rest)

pub length_rings : (start count : ℕ) → length (rings_from start count) ≡ count
length_rings start zero = refl
length_rings start (suc count) = let rest = length_rings (suc start) count in omega (arith, rest)

number_at : (start count i : ℕ) → i < count → link (numbers_from start count) i ≡ start + i
number_at start zero i less = absurd (omega (arith, less))
number_at start (suc count) zero less = omega arith
number_at start (suc count) (suc i) less = number_at (suc start) count i (omega (arith, less)) ∙ omega arith

each_number : (P : ℕ → Type 0) (start count : ℕ) → ((x : ℕ) → start ≤ x → x < start + count → P x) → Each P (numbers_from start count)
each_number P start zero is = record {}
each_number P start (suc count) is = (is start (omega arith) (omega arith), each_number P (suc start) count (λ x more less. is x (omega (arith, more)) (omega (arith, less))))

distinct_numbers : (start count : ℕ) → Distinct (numbers_from start count)
distinct_numbers start zero = record {}
distinct_numbers start (suc count) = (
  each_number (λ x. x ≢ start) (suc start) count (λ x more less same. absurd (omega (arith, more, same))),
  distinct_numbers (suc start) count,
)

nodes_begin : (links : List ℕ) (start count : ℕ) → nodes links (rings_from start count) ≡ numbers_from start count
nodes_begin links start zero = refl
nodes_begin links start (suc count) = ap (λ ns. start ∷ ns) (nodes_begin links (suc start) count)

linked_begin : (links : List ℕ) (start count : ℕ) → ((x : ℕ) → x < start + count → link links x ≡ x) → AreLinked links links (rings_from start count)
linked_begin links start zero is = record {}
linked_begin links start (suc count) is = ((is start (omega arith), is start (omega arith)), linked_begin links (suc start) count (λ x less. is x (omega (arith, less))))

starts_begin : (room start count : ℕ) → room ≤ start → StartBehind room (rings_from start count)
starts_begin room start zero more = record {}
starts_begin room start (suc count) more = (more, starts_begin room (suc start) count (omega (arith, more)))

pub values_begin : (links : List ℕ) (start count : ℕ) → map (ring_of links) (rings_from start count) ≡ begun start count
values_begin links start zero = refl
values_begin links start (suc count) = ap (λ rs. (record { start = start; slots = [] }) ∷ rs) (values_begin links (suc start) count)

rings_begin : (size room count : ℕ) → size ≡ room + count → AreRings (numbers_from 0 size) (numbers_from 0 size) (rings_from room count) room
rings_begin size room count sum =
    let links = numbers_from 0 size in
    let long = length_numbers 0 size in
    record {
      linked = linked_begin links room count (λ x less. number_at 0 size x (omega (arith, less, sum)) ∙ omega arith);
      distinct = subst Distinct (sym (nodes_begin links room count)) (distinct_numbers room count);
      below = subst (Each (λ x. x < length links)) (sym (nodes_begin links room count)) (each_number (λ x. x < length links) room count (λ x more less. omega (arith, less, long, sum)));
      starts = starts_begin room room count (omega arith);
      size = refl;
      wide = omega (arith, long, sum);
    }

pub numbers_begin : (size room count : ℕ) (behind before : List ℕ) (rings : List Ring) → size ≡ room + count → behind ≡ numbers_from 0 size → before ≡ numbers_from 0 size → rings ≡ rings_from room count
    → AreRings behind before rings room
numbers_begin size room count behind before rings sum behind_is before_is rings_are =
    subst (λ l. AreRings l before rings room) (sym behind_is)
    (subst (λ l. AreRings (numbers_from 0 size) l rings room) (sym before_is)
    (subst (λ rs. AreRings (numbers_from 0 size) (numbers_from 0 size) rs room) (sym rings_are) (rings_begin size room count sum)))
