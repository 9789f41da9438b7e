-- What stands is told by the live mitigations alone.
use Rattle.std.proofs.Common.{◌≡◌, ◌≢◌, ℕ, zero, suc, ◌<◌, true, ◌&&◌, List, [], ◌∷◌, map, Some, inl, inr, refl, sym, ap, ◌∙◌, subst, arith}
use Rattle.std.specs.Prelude.{◌==◌, slice_get}
use Rattle.std.proofs.lemmas.Bool.{cond_both, cond-true, cond-false, cases_Bool, cases_order, and_parts, and_from}
use Rattle.std.proofs.lemmas.Option.{none-some, same_Some}
use Rattle.dots_history.specs.declared.entry.Entry.{Entry}
use Rattle.dots_history.specs.declared.put.Put.{Put}
use Rattle.dots_history.specs.declared.status.Status.TheVariants.{Open}
use Rattle.dots_history.specs.Histories.{Mitigation, live, status, mitigations}
use Rattle.dots_history.specs.Views.{mitigations_of}
use Rattle.dots_history.proofs.Members.{In}
use Rattle.conflict_rules.specs.declared.live.Live.{Live as LiveView}
use Rattle.conflict_rules.specs.Lives.{live_of, lives_of}
use Rattle.conflict_rules.specs.Judgements.{StandsIn}
use Rattle.conflict_rules.specs.Neighbours.{StandBeside}
use Rattle.conflict_rules.proofs.LivePlaces.{At, seen_at, lives_more, further, nearer, seen_there, there_seen, at_lives, same_put, standing_at, stands_at, lives_of_standing}

-- ---- what is in a list, and where
place_of_in : (xs : List LiveView) (x : LiveView) → In x xs → (k : ℕ) × (slice_get xs k ≡ Some x)
place_of_in [] x is = absurd is
place_of_in (y ∷ ys) x (inl same) = (0, ap Some (sym same))
place_of_in (y ∷ ys) x (inr deeper) = let go = place_of_in ys x deeper in (suc go.0, go.1)

in_of_place : (xs : List LiveView) (k : ℕ) (x : LiveView) → slice_get xs k ≡ Some x → In x xs
in_of_place [] k x found = absurd (none-some x found)
in_of_place (y ∷ ys) zero x found = inl (sym (same_Some y x found))
in_of_place (y ∷ ys) (suc k) x found = inr (in_of_place ys k x found)

-- ---- two places of the entries, and two of what is live
-- what is seen of two entries stands in the list in their order
abbrev SeenInOrder : List LiveView → LiveView → LiveView → Type 0
SeenInOrder xs x y = (k : ℕ) × (l : ℕ) × (k < l) × (slice_get xs k ≡ Some x) × (slice_get xs l ≡ Some y)

abbrev StandInOrder : ℕ → ℕ → List Entry → LiveView → LiveView → Type 0
StandInOrder domain t entries x y =
    (i : ℕ) × (j : ℕ) × (e : Entry) × (f : Entry) × (i < j) × At domain t entries i e × At domain t entries j f
    × (x ≡ seen_at entries i e) × (y ≡ seen_at entries j f)

seen_in_order : (domain t : ℕ) (entries : List Entry) (i j : ℕ) (e f : Entry) → i < j → At domain t entries i e → At domain t entries j f
    → SeenInOrder (lives_of domain t entries) (seen_at entries i e) (seen_at entries j f)
seen_in_order domain t [] i j e f less at other = absurd (none-some e at.there)
seen_in_order domain t (x ∷ later) i zero e f less at other = absurd (omega (arith, less))
seen_in_order domain t (x ∷ later) zero (suc j) e f less at other =
    let same : x ≡ e = same_Some x e at.there in
    let rest = lives_of domain t later in
    let now : (live t x (status x Open later) && (x.domain == domain)) ≡ true =
    ap (λ (y : Entry). live t y (status y Open later) && (y.domain == domain)) same
    ∙ and_from (live t e (status e Open later)) (e.domain == domain) at.alive at.here in
    let go = place_of_in rest (seen_at later j f) (there_seen domain t later j f (nearer domain t x later j f other)) in
    subst
    (λ xs. SeenInOrder xs (seen_at (x ∷ later) 0 e) (seen_at later j f))
    (sym (lives_more domain t x later ∙ cond-true (live t x (status x Open later) && (x.domain == domain)) (seen_at (x ∷ later) 0 x ∷ rest) rest now))
    (0, suc go.0, omega arith, ap (λ (y : Entry). Some (seen_at (x ∷ later) 0 y)) same, go.1)
seen_in_order domain t (x ∷ later) (suc i) (suc j) e f less at other =
    let rest = lives_of domain t later in
    let go = seen_in_order domain t later i j e f (omega (arith, less)) (nearer domain t x later i e at) (nearer domain t x later j f other) in
    subst
    (λ xs. SeenInOrder xs (seen_at later i e) (seen_at later j f))
    (sym (lives_more domain t x later))
    (cond_both
    (live t x (status x Open later) && (x.domain == domain))
    (seen_at (x ∷ later) 0 x ∷ rest)
    rest
    (λ xs. SeenInOrder xs (seen_at later i e) (seen_at later j f))
    (λ now. let less_too = go.2 in (suc go.0, suc go.1, omega (arith, less_too), go.3, go.4))
    (λ out. go))

-- one more in front
behind_one : (domain t : ℕ) (z : Entry) (later : List Entry) (x y : LiveView) → StandInOrder domain t later x y → StandInOrder domain t (z ∷ later) x y
behind_one domain t z later x y (i, j, e, f, less, at, other, one, two) =
    (suc i, suc j, e, f, omega (arith, less), further domain t z later i e at, further domain t z later j f other, one, two)

-- of one that is live in front, and those behind it
first_or_later : (domain t : ℕ) (z : Entry) (later : List Entry) (x y : LiveView) → (live t z (status z Open later) && (z.domain == domain)) ≡ true
    → ((k l : ℕ) → k < l → slice_get (lives_of domain t later) k ≡ Some x → slice_get (lives_of domain t later) l ≡ Some y → StandInOrder domain t later x y)
    → (k l : ℕ) → k < l
    → slice_get (seen_at (z ∷ later) 0 z ∷ lives_of domain t later) k ≡ Some x → slice_get (seen_at (z ∷ later) 0 z ∷ lives_of domain t later) l ≡ Some y
    → StandInOrder domain t (z ∷ later) x y
first_or_later domain t z later x y now behind k zero less found also = absurd (omega (arith, less))
first_or_later domain t z later x y now behind zero (suc l) less found also =
    let parts = and_parts (live t z (status z Open later)) (z.domain == domain) now in
    let go = seen_there domain t later y (in_of_place (lives_of domain t later) l y also) in (
      0,
      suc go.0,
      z,
      go.1,
      omega arith,
      record { there = refl; alive = parts.0; here = parts.1 },
      further domain t z later go.0 go.1 go.2,
      sym (same_Some (seen_at (z ∷ later) 0 z) x found),
      go.3,
    )
first_or_later domain t z later x y now behind (suc k) (suc l) less found also =
    behind_one domain t z later x y (behind k l (omega (arith, less)) found also)

stand_in_order : (domain t : ℕ) (entries : List Entry) (x y : LiveView) (k l : ℕ) → k < l
    → slice_get (lives_of domain t entries) k ≡ Some x → slice_get (lives_of domain t entries) l ≡ Some y → StandInOrder domain t entries x y
stand_in_order domain t [] x y k l less found also = absurd (none-some x found)
stand_in_order domain t (z ∷ later) x y k l less found also =
    let own = seen_at (z ∷ later) 0 z in
    let rest = lives_of domain t later in
    let behind = stand_in_order domain t later x y in
    elim (cases_Bool (live t z (status z Open later) && (z.domain == domain))) [
      | inl now ↦
          let front = lives_more domain t z later ∙ cond-true (live t z (status z Open later) && (z.domain == domain)) (own ∷ rest) rest now in
          first_or_later domain t z later x y now behind k l less
          (subst (λ xs. slice_get xs k ≡ Some x) front found)
          (subst (λ xs. slice_get xs l ≡ Some y) front also)
      | inr out ↦
          let front = lives_more domain t z later ∙ cond-false (live t z (status z Open later) && (z.domain == domain)) (own ∷ rest) rest out in
          behind_one domain t z later x y
          (behind k l less
          (subst (λ xs. slice_get xs k ≡ Some x) front found)
          (subst (λ xs. slice_get xs l ≡ Some y) front also))
    ]

-- ---- the same are live
module _ (domain t : ℕ) (few all : List Entry) (same : mitigations t few ≡ mitigations t all) where
  same_lives : lives_of domain t few ≡ lives_of domain t all
  same_lives = ap (λ (ms : List Mitigation). map live_of (mitigations_of domain ms)) same

  in_order : (i j : ℕ) (a b : Entry) (one other : Put) → i < j → StandsIn domain t few i a one → StandsIn domain t few j b other
      → StandBeside domain t all a.cuid b.cuid one other
  in_order i j a b one other less st also =
      let at = at_lives domain t few i a one (lives_of_standing domain t few i a one st) in
      let at_too = at_lives domain t few j b other (lives_of_standing domain t few j b other also) in
      let seen = seen_in_order domain t few i j a b less at at_too in
      let there = stand_in_order domain t all (seen_at few i a) (seen_at few j b) seen.0 seen.1 seen.2
      (subst (λ xs. slice_get xs seen.0 ≡ Some (seen_at few i a)) same_lives seen.3)
      (subst (λ xs. slice_get xs seen.1 ≡ Some (seen_at few j b)) same_lives seen.4) in
      by_places there
    where
      by_places : StandInOrder domain t all (seen_at few i a) (seen_at few j b) → StandBeside domain t all a.cuid b.cuid one other
      by_places (k, l, e, f, before, here, beside, x, y) = record {
        first = k;
        second = l;
        entry = e;
        another = f;
        apart = λ is. absurd (omega (arith, before, is));
        stands = subst
            (StandsIn domain t all k e)
            (sym (ap (λ (v : LiveView). v.put) x) ∙ same_put few i a one st.puts)
            (stands_at domain t all k e here (sym (ap (λ (v : LiveView). v.standing) x) ∙ standing_at few i t a st.stands));
        stands_too = subst
            (StandsIn domain t all l f)
            (sym (ap (λ (v : LiveView). v.put) y) ∙ same_put few j b other also.puts)
            (stands_at domain t all l f beside (sym (ap (λ (v : LiveView). v.standing) y) ∙ standing_at few j t b also.stands));
        of_cuid = sym (ap (λ (v : LiveView). v.cuid) x);
        of_beside = sym (ap (λ (v : LiveView). v.cuid) y);
      }

  turned : (cuid beside : List ℕ) (one other : Put) → StandBeside domain t all beside cuid other one → StandBeside domain t all cuid beside one other
  turned cuid beside one other both = record {
    first = both.second;
    second = both.first;
    entry = both.another;
    another = both.entry;
    apart = λ is. both.apart (sym is);
    stands = both.stands_too;
    stands_too = both.stands;
    of_cuid = both.of_beside;
    of_beside = both.of_cuid;
  }

  stand_beside : (i j : ℕ) (a b : Entry) (one other : Put) → i ≢ j → StandsIn domain t few i a one → StandsIn domain t few j b other
      → StandBeside domain t all a.cuid b.cuid one other
  stand_beside i j a b one other apart st also =
      elim (cases_order i j) [
        | inl is ↦ absurd (apart is)
        | inr (inl less) ↦ in_order i j a b one other less st also
        | inr (inr more) ↦ turned a.cuid b.cuid one other (in_order j i b a other one more also st)
      ]

pub still_stand : (t : ℕ) (few all : List Entry) → mitigations t few ≡ mitigations t all
    → (domain i j : ℕ) (a b : Entry) (one other : Put) → i ≢ j → StandsIn domain t few i a one → StandsIn domain t few j b other
    → StandBeside domain t all a.cuid b.cuid one other
still_stand t few all same domain i j a b one other apart st also = stand_beside domain t few all same i j a b one other apart st also
