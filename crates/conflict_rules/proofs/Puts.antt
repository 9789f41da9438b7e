-- Each live mitigation is one that an entry puts.
use Rattle.std.proofs.Common.{◌≡◌, ℕ, ◌+◌, Bool, true, false, cond, List, Option, Some, None, inl, inr, refl, arith}
use Rattle.std.specs.List.{count_by}
use Rattle.std.proofs.lemmas.Bool.{true≢false, false≢true, both_ways, cases_Bool}
use Rattle.std.proofs.lemmas.List.Recursion.{is_count_by}
use Rattle.dots_history.specs.declared.entry.Entry.{Entry}
use Rattle.dots_history.specs.declared.put.Put.{Put}
use Rattle.dots_history.specs.declared.change.Change.{Change}
use Rattle.dots_history.specs.declared.change.Change.TheVariants as change
use Rattle.dots_history.specs.declared.status.Status.{Status}
use Rattle.dots_history.specs.Entries.{put_of, option_any}
use Rattle.dots_history.specs.Histories.{live, tally}
use Rattle.dots_history.proofs.Touching.{never_live}
use Rattle.conflict_rules.specs.Lives.{put_or_nothing}

none_put : (o : Option Put) → option_any (λ (put : Put). true) o ≡ false → o ≡ None
none_put None is = refl
none_put (Some put) is = absurd (true≢false is)

pub put_there : (c : Change) → option_any (λ (put : Put). true) (put_of c) ≡ true → c ≡ change.Put (put_or_nothing (put_of c))
put_there (change.Put put) is = refl
put_there _ is = absurd (false≢true is)

pub live_puts : (t : ℕ) (e : Entry) (s : Status) → live t e s ≡ true → option_any (λ (put : Put). true) (put_of e.change) ≡ true
live_puts t e s alive =
    elim (cases_Bool (option_any (λ (put : Put). true) (put_of e.change))) [
      | inl is ↦ is
      | inr none ↦ absurd (both_ways (live t e s) (never_live t e s (none_put (put_of e.change) none)) alive)
    ]

-- ---- numbers
one_first : (b : Bool) (n : ℕ) → cond b 1 0 + n ≡ cond b (1 + n) n
one_first true n = refl
one_first false n = omega arith

pub counted : {A : Type 0} (test : A → Bool) (xs : List A) → tally test xs ≡ count_by test xs
counted test xs = is_count_by (tally test) test refl (λ x ys. one_first (test x) (tally test ys)) xs
