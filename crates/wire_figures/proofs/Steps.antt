-- One call more: each count is one more where the call has the property.
use Rattle.std.proofs.Common.{◌≡◌, ℕ, ◌+◌, ◌<◌, Bool, true, false, List, [], ◌∷◌, ◌++◌, Option, get_or, length, replicate, min, ◌-◌, ◌^◌, sym, ap, ◌∙◌, arith}
use Rattle.std.proofs.lemmas.List.{length-replicate, get_or-replicate}
use Rattle.std.proofs.lemmas.List.Sums.{sum_by_push, fold_push}
use Rattle.std.specs.Prelude.{cond, count_by}
use Rattle.dots_host.specs.declared.act.Act.{Act}
use Rattle.wire_figures.specs.Counting.{counted, more_if, is_the, last_time, time_at}

one_counted : (holds : Bool) (before now : ℕ) → now ≡ before + cond holds 1 0 → min now (2 ^ 64 - 1) ≡ more_if holds (min before (2 ^ 64 - 1))
one_counted true before now is = omega (arith, is)
one_counted false before now is = omega (arith, is)

pub counted_push : (is : Act → Bool) (calls : List Act) (call : Act) → counted is (calls ++ call ∷ []) ≡ more_if (is call) (counted is calls)
counted_push is calls call = one_counted (is call) (count_by is calls) (count_by is (calls ++ call ∷ [])) (sum_by_push (λ x. cond (is x) 1 0) calls call)

pub counted_next : (is : Act → Bool) (calls grown : List Act) (call : Act) (before now : ℕ) (holds : Bool) → grown ≡ calls ++ call ∷ [] → holds ≡ is call → before ≡ counted is calls
    → now ≡ more_if holds before → now ≡ counted is grown
counted_next is calls grown call before now holds added same old more =
    more ∙ ap (λ holds. more_if holds before) same ∙ ap (more_if (is call)) old ∙ sym (counted_push is calls call) ∙ ap (counted is) (sym added)

pub last_next : (calls grown : List Act) (call : Act) (before now : ℕ) → grown ≡ calls ++ call ∷ [] → before ≡ last_time calls → now ≡ time_at before call → now ≡ last_time grown
last_next calls grown call before now added old next =
    next ∙ ap (λ time. time_at time call) old ∙ sym (fold_push time_at 0 calls call) ∙ ap last_time (sym added)

-- a table in which what the call comes to was counted
pub table_next : (find : Act → Option ℕ) (size : ℕ) (table counts : List ℕ) (calls grown : List Act) (call : Act) (found : Option ℕ) → grown ≡ calls ++ call ∷ [] → found ≡ find call
    → ((number : ℕ) → number < size → get_or table number 0 ≡ counted (λ call. is_the number (find call)) calls)
    → ((number : ℕ) → number < size → get_or counts number 0 ≡ more_if (is_the number found) (get_or table number 0))
    → (number : ℕ) → number < size → get_or counts number 0 ≡ counted (λ call. is_the number (find call)) grown
table_next find size table counts calls grown call found added same old more = λ number low.
    counted_next (λ call. is_the number (find call)) calls grown call (get_or table number 0) (get_or counts number 0) (is_the number found) added (ap (is_the number) same) (old number low) (more number low)

pub none_counted : (is : Act → Bool) (calls : List Act) → calls ≡ [] → 0 ≡ counted is calls
none_counted is calls none =
    let none_yet : counted is [] ≡ 0 = omega arith in
    sym (ap (counted is) none ∙ none_yet)

-- a table in which all counts are 0
pub table_begins : (find : Act → Option ℕ) (size : ℕ) (table : List ℕ) (calls : List Act) → table ≡ replicate size 0 → calls ≡ []
    → (length table ≡ size) × ((number : ℕ) → number < size → get_or table number 0 ≡ counted (λ call. is_the number (find call)) calls)
table_begins find size table calls fresh none = (
  ap length fresh ∙ length-replicate size 0,
  λ number low. ap (λ (table : List ℕ). get_or table number 0) fresh ∙ get_or-replicate size number 0 0 low ∙ none_counted (λ call. is_the number (find call)) calls none,
)
