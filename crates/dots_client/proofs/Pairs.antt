-- Requests beside their messages, over a turn.
use Rattle.std.proofs.Common.{◌≡◌, ℕ, zero, suc, ◌<◌, Bool, true, false, List, [], ◌∷◌, ◌++◌, length, Some, None, refl, sym, ap, ◌∙◌, arith}
use Rattle.std.specs.Prelude.{slice_get, option_map, unwrap_or, ◌||◌}
use Rattle.std.proofs.Common.{get_or}
use Rattle.std.specs.List.{remove, find, list_any}
use Rattle.std.proofs.lemmas.Bool.{cond-true, cond-false, or_from, or_left}
use Rattle.dots_client.specs.declared.request.Request.{Request}
use Rattle.coap_exchange.specs.Sent.{SentValue, is_due, repeated, may_repeat}
use Rattle.coap_exchange.specs.Resending.{after_timeout, turned, IsFirstDue, NoneIsDue}
use Rattle.coap_exchange.specs.Firsts.{replace_first}
use Rattle.dots_client.specs.Waiting.{pairs}
use Rattle.dots_client.specs.Client.{WaitingValue, again, is_new, is_unsent, handed, handed_out, bytes_of, repeat_answer, repeat_after}
use Rattle.coap_exchange.proofs.Firsts.{NoneBefore, NonePasses}

abbrev waiting : Request → SentValue → WaitingValue
waiting r s = record { request = r; sent = s }

pub none_turned : (now : ℕ) (ss : List SentValue) → NoneIsDue now ss → turned now ss ≡ ss
none_turned now [] none = refl
none_turned now (s ∷ ss) none = cond-false (is_due now s) (after_timeout s ++ ss) (s ∷ turned now ss) none.0 ∙ ap (λ ys. s ∷ ys) (none_turned now ss none.1)

pub none_answer : (now : ℕ) (rs : List Request) (ss : List SentValue) → NoneIsDue now ss → None ≡ repeat_answer now (pairs rs ss)
none_answer now [] ss none = refl
none_answer now (r ∷ rs) [] none = refl
none_answer now (r ∷ rs) (s ∷ ss) none = none_answer now rs ss none.1 ∙ sym (cond-false (is_due now s) _ (repeat_answer now (pairs rs ss)) none.0)

pub none_after : (now : ℕ) (rs : List Request) (ss : List SentValue) → NoneIsDue now ss → pairs rs ss ≡ repeat_after now (pairs rs ss)
none_after now [] ss none = refl
none_after now (r ∷ rs) [] none = refl
none_after now (r ∷ rs) (s ∷ ss) none =
    ap (λ ws. waiting r s ∷ ws) (none_after now rs ss none.1) ∙ sym (cond-false (is_due now s) _ (waiting r s ∷ repeat_after now (pairs rs ss)) none.0)

-- ---- one turn at the head, and one behind it

turned_first : (now : ℕ) (s : SentValue) (ss : List SentValue) → is_due now s ≡ true → turned now (s ∷ ss) ≡ after_timeout s ++ ss
turned_first now s ss due = cond-true (is_due now s) (after_timeout s ++ ss) (s ∷ turned now ss) due

turned_behind : (now : ℕ) (s : SentValue) (ss : List SentValue) → is_due now s ≡ false → turned now (s ∷ ss) ≡ s ∷ turned now ss
turned_behind now s ss early = cond-false (is_due now s) (after_timeout s ++ ss) (s ∷ turned now ss) early

turned_again : (now : ℕ) (s : SentValue) (ss : List SentValue) → is_due now s ≡ true → may_repeat s ≡ true → turned now (s ∷ ss) ≡ repeated s ∷ ss
turned_again now s ss due may = turned_first now s ss due ∙ ap (λ ys. ys ++ ss) (cond-true (may_repeat s) (repeated s ∷ []) [] may)

turned_up : (now : ℕ) (s : SentValue) (ss : List SentValue) → is_due now s ≡ true → may_repeat s ≡ false → turned now (s ∷ ss) ≡ ss
turned_up now s ss due no_more = turned_first now s ss due ∙ ap (λ ys. ys ++ ss) (cond-false (may_repeat s) (repeated s ∷ []) [] no_more)

answer_behind : (now : ℕ) (r : Request) (s : SentValue) (ws : List WaitingValue) → is_due now s ≡ false → repeat_answer now (waiting r s ∷ ws) ≡ repeat_answer now ws
answer_behind now r s ws early = cond-false (is_due now s) _ (repeat_answer now ws) early

after_behind : (now : ℕ) (r : Request) (s : SentValue) (ws : List WaitingValue) → is_due now s ≡ false → repeat_after now (waiting r s ∷ ws) ≡ waiting r s ∷ repeat_after now ws
after_behind now r s ws early = cond-false (is_due now s) _ (waiting r s ∷ repeat_after now ws) early

abbrev pub bytes_at : ℕ → List SentValue → List ℕ
bytes_at place ss = unwrap_or (option_map (λ (s : SentValue). s.bytes) (slice_get ss place)) []

-- ---- the first that is due may be repeated

pub again_length : (now : ℕ) (ss : List SentValue) (k : ℕ) → IsFirstDue now ss k true → length (turned now ss) ≡ length ss
again_length now [] k first = absurd first
again_length now (s ∷ ss) zero first = ap length (turned_again now s ss first.0 first.1)
again_length now (s ∷ ss) (suc k) first = ap length (turned_behind now s ss first.0) ∙ ap suc (again_length now ss k first.1)

pub again_within : (now : ℕ) (ss : List SentValue) (k : ℕ) → IsFirstDue now ss k true → k < length ss
again_within now [] k first = absurd first
again_within now (s ∷ ss) zero first = omega arith
again_within now (s ∷ ss) (suc k) first = let below = again_within now ss k first.1 in omega (arith, below)

pub again_answer : (now : ℕ) (rs : List Request) (ss : List SentValue) (k : ℕ) → length rs ≡ length ss → IsFirstDue now ss k true
    → Some (bytes_at k (turned now ss)) ≡ repeat_answer now (pairs rs ss)
again_answer now rs [] k same first = absurd first
again_answer now [] (s ∷ ss) k same first = absurd (omega (arith, same))
again_answer now (r ∷ rs) (s ∷ ss) zero same first =
    ap (λ zs. Some (bytes_at 0 zs)) (turned_again now s ss first.0 first.1)
    ∙ sym (cond-true (is_due now s) _ (repeat_answer now (pairs rs ss)) first.0 ∙ cond-true (may_repeat s) (Some s.bytes) _ first.1)
again_answer now (r ∷ rs) (s ∷ ss) (suc k) same first =
    ap (λ zs. Some (bytes_at (suc k) zs)) (turned_behind now s ss first.0)
    ∙ again_answer now rs ss k (omega (arith, same)) first.1
    ∙ sym (answer_behind now r s (pairs rs ss) first.0)

pub again_after : (now : ℕ) (rs : List Request) (ss : List SentValue) (k : ℕ) → length rs ≡ length ss → IsFirstDue now ss k true
    → pairs rs (turned now ss) ≡ repeat_after now (pairs rs ss)
again_after now rs [] k same first = absurd first
again_after now [] (s ∷ ss) k same first = absurd (omega (arith, same))
again_after now (r ∷ rs) (s ∷ ss) zero same first =
    ap (pairs (r ∷ rs)) (turned_again now s ss first.0 first.1)
    ∙ sym (cond-true (is_due now s) _ (waiting r s ∷ repeat_after now (pairs rs ss)) first.0 ∙ cond-true (may_repeat s) (again (waiting r s) ∷ pairs rs ss) _ first.1)
again_after now (r ∷ rs) (s ∷ ss) (suc k) same first =
    ap (pairs (r ∷ rs)) (turned_behind now s ss first.0)
    ∙ ap (λ ws. waiting r s ∷ ws) (again_after now rs ss k (omega (arith, same)) first.1)
    ∙ sym (after_behind now r s (pairs rs ss) first.0)

-- ---- it is given up

pub up_within : (now : ℕ) (ss : List SentValue) (k : ℕ) → IsFirstDue now ss k false → k < length ss
up_within now [] k first = absurd first
up_within now (s ∷ ss) zero first = omega arith
up_within now (s ∷ ss) (suc k) first = let below = up_within now ss k first.1 in omega (arith, below)

pub up_length : (now : ℕ) (ss : List SentValue) (k : ℕ) → IsFirstDue now ss k false → suc (length (turned now ss)) ≡ length ss
up_length now [] k first = absurd first
up_length now (s ∷ ss) zero first = ap (λ zs. suc (length zs)) (turned_up now s ss first.0 first.1)
up_length now (s ∷ ss) (suc k) first = ap (λ zs. suc (length zs)) (turned_behind now s ss first.0) ∙ ap suc (up_length now ss k first.1)

pub removed_length : (rs : List Request) (k : ℕ) → k < length rs → suc (length (remove rs k)) ≡ length rs
removed_length [] k below = absurd (omega (arith, below))
removed_length (r ∷ rs) zero below = refl
removed_length (r ∷ rs) (suc k) below = ap suc (removed_length rs k (omega (arith, below)))

pub up_answer : (now : ℕ) (rs : List Request) (ss : List SentValue) (k : ℕ) → length rs ≡ length ss → IsFirstDue now ss k false
    → repeat_answer now (pairs (remove rs k) (turned now ss)) ≡ repeat_answer now (pairs rs ss)
up_answer now rs [] k same first = absurd first
up_answer now [] (s ∷ ss) k same first = absurd (omega (arith, same))
up_answer now (r ∷ rs) (s ∷ ss) zero same first =
    ap (λ zs. repeat_answer now (pairs rs zs)) (turned_up now s ss first.0 first.1)
    ∙ sym (cond-true (is_due now s) _ (repeat_answer now (pairs rs ss)) first.0 ∙ cond-false (may_repeat s) (Some s.bytes) (repeat_answer now (pairs rs ss)) first.1)
up_answer now (r ∷ rs) (s ∷ ss) (suc k) same first =
    ap (λ zs. repeat_answer now (pairs (r ∷ remove rs k) zs)) (turned_behind now s ss first.0)
    ∙ answer_behind now r s (pairs (remove rs k) (turned now ss)) first.0
    ∙ up_answer now rs ss k (omega (arith, same)) first.1
    ∙ sym (answer_behind now r s (pairs rs ss) first.0)

pub up_after : (now : ℕ) (rs : List Request) (ss : List SentValue) (k : ℕ) → length rs ≡ length ss → IsFirstDue now ss k false
    → repeat_after now (pairs (remove rs k) (turned now ss)) ≡ repeat_after now (pairs rs ss)
up_after now rs [] k same first = absurd first
up_after now [] (s ∷ ss) k same first = absurd (omega (arith, same))
up_after now (r ∷ rs) (s ∷ ss) zero same first =
    ap (λ zs. repeat_after now (pairs rs zs)) (turned_up now s ss first.0 first.1)
    ∙ sym (cond-true (is_due now s) _ (waiting r s ∷ repeat_after now (pairs rs ss)) first.0 ∙ cond-false (may_repeat s) (again (waiting r s) ∷ pairs rs ss) (repeat_after now (pairs rs ss)) first.1)
up_after now (r ∷ rs) (s ∷ ss) (suc k) same first =
    ap (λ zs. repeat_after now (pairs (r ∷ remove rs k) zs)) (turned_behind now s ss first.0)
    ∙ after_behind now r s (pairs (remove rs k) (turned now ss)) first.0
    ∙ ap (λ ws. waiting r s ∷ ws) (up_after now rs ss k (omega (arith, same)) first.1)
    ∙ sym (after_behind now r s (pairs rs ss) first.0)

-- ---- requests that weren't handed out

abbrev hand : List Request → List Request
hand rs = replace_first is_new (λ r. handed r ∷ []) rs

pub none_new : (rs : List Request) (ss : List SentValue) → NonePasses is_new rs → list_any is_unsent (pairs rs ss) ≡ false
none_new [] ss none = refl
none_new (r ∷ rs) [] none = refl
none_new (r ∷ rs) (s ∷ ss) none = or_from (is_new r) (list_any is_unsent (pairs rs ss)) none.0 (none_new rs ss none.1)

pub some_new : (rs : List Request) (ss : List SentValue) (k : ℕ) (d : Request) → length rs ≡ length ss → k < length rs → is_new (get_or rs k d) ≡ true → NoneBefore is_new rs k d
    → (list_any is_unsent (pairs rs ss) ≡ true) × (Some (bytes_at k ss) ≡ option_map bytes_of (find is_unsent (pairs rs ss)))
    × (pairs (hand rs) ss ≡ replace_first is_unsent handed_out (pairs rs ss)) × (length (hand rs) ≡ length rs)
some_new [] ss k d same below is before = absurd (omega (arith, below))
some_new (r ∷ rs) [] k d same below is before = absurd (omega (arith, same))
some_new (r ∷ rs) (s ∷ ss) zero d same below is before = (
  or_left (is_new r) (list_any is_unsent (pairs rs ss)) is,
  sym (ap (option_map bytes_of) (cond-true (is_new r) (Some (waiting r s)) (find is_unsent (pairs rs ss)) is)),
  ap (λ zs. pairs zs (s ∷ ss)) (cond-true (is_new r) (handed r ∷ rs) (r ∷ hand rs) is)
      ∙ sym (cond-true (is_new r) (handed_out (waiting r s) ++ pairs rs ss) (waiting r s ∷ replace_first is_unsent handed_out (pairs rs ss)) is),
  ap length (cond-true (is_new r) (handed r ∷ rs) (r ∷ hand rs) is),
)
some_new (r ∷ rs) (s ∷ ss) (suc k) d same below is before =
    let early = before zero (omega arith) in
    let rest = some_new rs ss k d (omega (arith, same)) (omega (arith, below)) is (λ j less. before (suc j) (omega (arith, less))) in (
      or_right_true (is_new r) (list_any is_unsent (pairs rs ss)) rest.0,
      rest.1 ∙ sym (ap (option_map bytes_of) (cond-false (is_new r) (Some (waiting r s)) (find is_unsent (pairs rs ss)) early)),
      ap (λ zs. pairs zs (s ∷ ss)) (cond-false (is_new r) (handed r ∷ rs) (r ∷ hand rs) early)
          ∙ ap (λ ws. waiting r s ∷ ws) rest.2
          ∙ sym (cond-false (is_new r) (handed_out (waiting r s) ++ pairs rs ss) (waiting r s ∷ replace_first is_unsent handed_out (pairs rs ss)) early),
      ap length (cond-false (is_new r) (handed r ∷ rs) (r ∷ hand rs) early) ∙ ap suc rest.3,
    )
  where
    or_right_true : (a b : Bool) → b ≡ true → (a || b) ≡ true
    or_right_true true b is = refl
    or_right_true false b is = is
