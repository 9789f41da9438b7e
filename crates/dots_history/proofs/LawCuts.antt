-- What a view names of a history, up to one of its entries: it comes to no more than all entries up to there.
use Rattle.std.proofs.Common.{◌≡◌, ℕ, Bool, true, false, cond, ◌&&◌, not, List, [], ◌∷◌, ◌++◌, map, Option, Some, None, inl, inr, refl, sym, ap, ◌∙◌, subst, le_refl, append_assoc}
use Rattle.std.specs.Prelude.{option_to_list, nat_lt}
use Rattle.std.specs.List.{list_any}
use Rattle.std.proofs.lemmas.Bool.{false≢true, both_ways, cases_Bool, and_parts, and_left, or_cases, or_left, or_right, not_from_true}
use Rattle.std.proofs.lemmas.List.Folds.{list_any-append}
use Rattle.dots_history.specs.declared.entry.Entry.{Entry}
use Rattle.dots_history.specs.declared.status.Status.{Status}
use Rattle.dots_history.specs.declared.status.Status.TheVariants.{Open}
use Rattle.dots_history.specs.Entries.{is_signal, signals, is_held, undoes}
use Rattle.dots_history.specs.Histories.{Mitigation, Within, IsPart, OnePeer, OneDomain, Calm, live, if_live, status, step, tally, is_recent, is_nil, stays, mitigations, held}
use Rattle.dots_history.specs.Keeping.{is_first, names, moved, pass, kept_by}
use Rattle.dots_history.proofs.Lasting.{dead_for_good}
use Rattle.dots_history.proofs.Touching.{withdraws_parts, held_no_put, never_live, as_signal}
use Rattle.dots_history.proofs.Members.{In, in_back, any_has}
use Rattle.dots_history.proofs.Keeping.{Keeper, by_first, kept_is_part, kept_within}
use Rattle.dots_history.proofs.Dropping.{Named, lives, withdrawal, among_last, at_end, holds, named, unnamed, not_live, no_change, unchanged, still_there, fewer, still_recent}
use Rattle.dots_history.proofs.ViewLemmas.{first_withdraws, any_part, dead_both, signal_reconfigures, reconfigures_parts}
use Rattle.dots_history.proofs.Composing.{part_more}

-- those of the entries that the view names, where these entries come after them
abbrev pub cut : ℕ → ℕ → List Entry → Keeper
cut n t suffix passed e rest = names n t passed e (rest ++ suffix)

-- what was passed, after these
abbrev pub pass_all : List Mitigation → List Entry → List Mitigation
pass_all passed [] = passed
pass_all passed (e ∷ later) = pass_all (pass passed e) later

-- a cut of a cut
pub cut_split : (n t : ℕ) (passed : List Mitigation) (xs ys suffix : List Entry)
    → kept_by (cut n t suffix) passed (xs ++ ys) ≡ kept_by (cut n t (ys ++ suffix)) passed xs ++ kept_by (cut n t suffix) (pass_all passed xs) ys
cut_split n t passed [] ys suffix = refl
cut_split n t passed (x ∷ xs) ys suffix =
    let go = cut_split n t (pass passed x) xs ys suffix in
    ap
    (λ l. cond (names n t passed x l) (x ∷ kept_by (cut n t suffix) (pass passed x) (xs ++ ys)) (kept_by (cut n t suffix) (pass passed x) (xs ++ ys)))
    (append_assoc xs ys suffix)
    ∙ ap (λ es. cond (names n t passed x (xs ++ (ys ++ suffix))) (x ∷ es) es) go
    ∙ by_name
    (names n t passed x (xs ++ (ys ++ suffix)))
    x
    (kept_by (cut n t (ys ++ suffix)) (pass passed x) xs)
    (kept_by (cut n t suffix) (pass_all (pass passed x) xs) ys)
  where
    by_name : (b : Bool) (x : Entry) (front back : List Entry) → cond b (x ∷ (front ++ back)) (front ++ back) ≡ cond b (x ∷ front) front ++ back
    by_name true x front back = refl
    by_name false x front back = refl

pub pass_more : (passed : List Mitigation) (xs : List Entry) (e : Entry) → pass_all passed (xs ++ e ∷ []) ≡ pass (pass_all passed xs) e
pass_more passed [] e = refl
pass_more passed (x ∷ xs) e = pass_more (pass passed x) xs e

-- ---- mitigations
live_cut : (n t : ℕ) (suffix : List Entry) (put : Entry) (s : Status) (passed : List Mitigation) (rest : List Entry) → In (record { put = put; status = s }) passed
    → live t put (status put s (rest ++ suffix)) ≡ true → status put s (kept_by (cut n t suffix) passed rest) ≡ status put s rest
live_cut n t suffix put s passed [] there is = refl
live_cut n t suffix put s passed (e ∷ rest) there is =
    let go = live_cut n t suffix put (step put s e) (pass passed e) rest (still_there put s passed e there) is in
    by_first
    (cut n t suffix)
    passed
    e
    rest
    (λ es. status put s es ≡ status put (step put s e) rest)
    (λ kept. go)
    (λ out.
    ap
    (λ x. status put x (kept_by (cut n t suffix) (pass passed e) rest))
    (sym (no_change n t put s passed e (rest ++ suffix) there (unnamed n t passed e (rest ++ suffix) out).no_first is))
    ∙ go)

recent_cut : (n t u low : ℕ) (suffix : List Entry) (put : Entry) (s : Status) (passed : List Mitigation) (rest : List Entry)
    → nat_lt (tally (signals put.peer put.domain) (rest ++ suffix)) n ≡ true → OnePeer put s rest → Within low rest u
    → if_live u put (status put s (kept_by (cut n t suffix) passed rest)) ≡ if_live u put (status put s rest)
recent_cut n t u low suffix put s passed [] few one within = refl
recent_cut n t u low suffix put s passed (e ∷ rest) few one within =
    let go =
    recent_cut n t u e.time suffix put (step put s e) (pass passed e) rest (fewer n (signals put.peer put.domain) e (rest ++ suffix) few) one.1 within.1 in
    elim (cases_Bool (live e.time put s)) [
      | inl now ↦
          by_first
          (cut n t suffix)
          passed
          e
          rest
          (λ es. if_live u put (status put s es) ≡ if_live u put (status put (step put s e) rest))
          (λ kept. go)
          (λ out.
          ap
          (λ x. if_live u put (status put x (kept_by (cut n t suffix) (pass passed e) rest)))
          (sym (unchanged n t put s passed e (rest ++ suffix) few (one.0 now) (unnamed n t passed e (rest ++ suffix) out).old))
          ∙ go)
      | inr dead ↦
          let whole : Within e.time (e ∷ rest) u = (le_refl e.time, within.1) in
          not_live
          u
          put
          (status put s (kept_by (cut n t suffix) passed (e ∷ rest)))
          (dead_for_good put s e.time u (kept_by (cut n t suffix) passed (e ∷ rest)) dead (kept_within (cut n t suffix) passed e.time u (e ∷ rest) whole))
          ∙ sym (not_live u put (status put s (e ∷ rest)) (dead_for_good put s e.time u (e ∷ rest) dead whole))
    ]

nil_front : (xs ys : List Entry) → is_nil (xs ++ ys) ≡ true → xs ≡ []
nil_front [] ys is = refl
nil_front (x ∷ xs) ys is = absurd (false≢true is)

same_cut : (n t u low : ℕ) (suffix : List Entry) (passed : List Mitigation) (e : Entry) (rest : List Entry) → Named n t passed e (rest ++ suffix)
    → OnePeer e Open rest → Within low (e ∷ rest) u
    → if_live u e (status e Open (kept_by (cut n t suffix) (pass passed e) rest)) ≡ if_live u e (status e Open rest)
same_cut n t u low suffix passed e rest (lives now) one within =
    ap
    (if_live u e)
    (live_cut n t suffix e Open (pass passed e) rest (in_back (record { put = e; status = Open }) (map (moved e) passed) (record { put = e; status = Open } ∷ []) (inl refl)) now)
same_cut n t u low suffix passed e rest (withdrawal first) one within =
    let m = any_has (is_first t e (rest ++ suffix)) passed first in
    dead_both
    u
    e
    (status e Open (kept_by (cut n t suffix) (pass passed e) rest))
    (status e Open rest)
    (withdraws_parts m.0.put e (first_withdraws t e (rest ++ suffix) m.0 m.1)).2
same_cut n t u low suffix passed e rest (among_last recent) one within =
    recent_cut
    n
    t
    u
    e.time
    suffix
    e
    Open
    (pass passed e)
    rest
    (and_parts (is_signal e.change) (nat_lt (tally (signals e.peer e.domain) (rest ++ suffix)) n) recent).1
    one
    within.1
same_cut n t u low suffix passed e rest (at_end nothing) one within =
    subst
    (λ l. if_live u e (status e Open (kept_by (cut n t suffix) (pass passed e) l)) ≡ if_live u e (status e Open l))
    (sym (nil_front rest suffix nothing))
    refl
same_cut n t u low suffix passed e rest (holds still) one within =
    dead_both
    u
    e
    (status e Open (kept_by (cut n t suffix) (pass passed e) rest))
    (status e Open rest)
    (held_no_put e.change (and_parts (is_held e.change) (not (list_any (undoes e) (rest ++ suffix))) still).0)

pub option_same : {A : Type 0} (o : Option A) (xs ys : List A) → IsPart xs ys → IsPart (option_to_list o ++ xs) (option_to_list o ++ ys)
option_same None xs ys part = part
option_same (Some m) xs ys part = inl (refl, part)

pub option_over : {A : Type 0} (o : Option A) (xs ys : List A) → IsPart xs ys → IsPart xs (option_to_list o ++ ys)
option_over None xs ys part = part
option_over (Some m) xs ys part = part_more xs m ys part

pub lives_cut : (n t u low : ℕ) (suffix : List Entry) (passed : List Mitigation) (rest : List Entry) → Within low rest u → Calm rest
    → IsPart (mitigations u (kept_by (cut n t suffix) passed rest)) (mitigations u rest)
lives_cut n t u low suffix passed [] within calm = record {}
lives_cut n t u low suffix passed (e ∷ rest) within calm =
    let go = lives_cut n t u e.time suffix (pass passed e) rest within.1 calm.2 in
    by_first
    (cut n t suffix)
    passed
    e
    rest
    (λ es. IsPart (mitigations u es) (mitigations u (e ∷ rest)))
    (λ is.
    subst
    (λ o. IsPart (option_to_list o ++ mitigations u (kept_by (cut n t suffix) (pass passed e) rest)) (mitigations u (e ∷ rest)))
    (sym (same_cut n t u low suffix passed e rest (named n t passed e (rest ++ suffix) is) calm.0 within))
    (option_same (if_live u e (status e Open rest)) (mitigations u (kept_by (cut n t suffix) (pass passed e) rest)) (mitigations u rest) go))
    (λ out.
    option_over (if_live u e (status e Open rest)) (mitigations u (kept_by (cut n t suffix) (pass passed e) rest)) (mitigations u rest) go)

-- ---- what is held
undone_cut : (n t : ℕ) (suffix : List Entry) (e : Entry) (passed : List Mitigation) (rest : List Entry) → is_signal e.change ≡ true → OneDomain e rest
    → nat_lt (tally (signals e.peer e.domain) (rest ++ suffix)) n ≡ true → list_any (undoes e) rest ≡ true
    → list_any (undoes e) (kept_by (cut n t suffix) passed rest) ≡ true
undone_cut n t suffix e passed [] signal one few is = absurd (false≢true is)
undone_cut n t suffix e passed (x ∷ rest) signal one few is =
    elim (or_cases (undoes e x) (list_any (undoes e) rest) is) [
      | inl here ↦
          let parts = reconfigures_parts e x (signal_reconfigures e x signal here) in
          let domain = one.0 (signal_reconfigures e x signal here) in
          by_first
          (cut n t suffix)
          passed
          x
          rest
          (λ es. list_any (undoes e) es ≡ true)
          (λ kept. or_left (undoes e x) (list_any (undoes e) (kept_by (cut n t suffix) (pass passed x) rest)) here)
          (λ out.
          absurd (both_ways
          (is_recent n x (rest ++ suffix))
          (unnamed n t passed x (rest ++ suffix) out).old
          (still_recent n e.peer e.domain x (rest ++ suffix) (as_signal e.peer e.domain x parts.1 parts.0 domain) few)))
      | inr beyond ↦
          let go = undone_cut n t suffix e (pass passed x) rest signal one.1 (fewer n (signals e.peer e.domain) x (rest ++ suffix) few) beyond in
          by_first
          (cut n t suffix)
          passed
          x
          rest
          (λ es. list_any (undoes e) es ≡ true)
          (λ kept. or_right (undoes e x) (list_any (undoes e) (kept_by (cut n t suffix) (pass passed x) rest)) go)
          (λ out. go)
    ]

undone_by : (n t : ℕ) (suffix : List Entry) (passed : List Mitigation) (e : Entry) (rest : List Entry) → Named n t passed e (rest ++ suffix) → is_held e.change ≡ true
    → OneDomain e rest → list_any (undoes e) rest ≡ true → list_any (undoes e) (kept_by (cut n t suffix) (pass passed e) rest) ≡ true
undone_by n t suffix passed e rest (lives now) is one undone =
    absurd (both_ways (live t e (status e Open (rest ++ suffix))) (never_live t e (status e Open (rest ++ suffix)) (held_no_put e.change is)) now)
undone_by n t suffix passed e rest (withdrawal first) is one undone =
    let m = any_has (is_first t e (rest ++ suffix)) passed first in
    absurd (both_ways (is_held e.change) (withdraws_parts m.0.put e (first_withdraws t e (rest ++ suffix) m.0 m.1)).3 is)
undone_by n t suffix passed e rest (among_last recent) is one undone =
    let parts = and_parts (is_signal e.change) (nat_lt (tally (signals e.peer e.domain) (rest ++ suffix)) n) recent in
    undone_cut n t suffix e (pass passed e) rest parts.0 one parts.1 undone
undone_by n t suffix passed e rest (at_end nothing) is one undone =
    absurd (false≢true (sym (ap (list_any (undoes e)) (nil_front rest suffix nothing)) ∙ undone))
undone_by n t suffix passed e rest (holds still) is one undone =
    absurd (both_ways
    (not (list_any (undoes e) (rest ++ suffix)))
    (not_from_true
    (list_any (undoes e) (rest ++ suffix))
    (list_any-append (undoes e) rest suffix ∙ or_left (list_any (undoes e) rest) (list_any (undoes e) suffix) undone))
    (and_parts (is_held e.change) (not (list_any (undoes e) (rest ++ suffix))) still).1)

stays_cut : (n t : ℕ) (suffix : List Entry) (passed : List Mitigation) (e : Entry) (rest : List Entry) → Named n t passed e (rest ++ suffix) → OneDomain e rest
    → stays e (kept_by (cut n t suffix) (pass passed e) rest) ≡ stays e rest
stays_cut n t suffix passed e rest why one =
    let few = kept_by (cut n t suffix) (pass passed e) rest in
    elim (cases_Bool (is_held e.change)) [
      | inl is ↦
          elim (cases_Bool (list_any (undoes e) rest)) [
            | inl undone ↦ ap (λ b. is_held e.change && not b) (undone_by n t suffix passed e rest why is one undone ∙ sym undone)
            | inr not_undone ↦
                ap
                (λ b. is_held e.change && not b)
                (any_part (undoes e) few rest (kept_is_part (cut n t suffix) (pass passed e) rest) not_undone ∙ sym not_undone)
          ]
      | inr out ↦
          and_left (is_held e.change) (not (list_any (undoes e) few)) out
          ∙ sym (and_left (is_held e.change) (not (list_any (undoes e) rest)) out)
    ]

pub held_cut : (n t : ℕ) (suffix : List Entry) (passed : List Mitigation) (rest : List Entry) → Calm rest
    → IsPart (held (kept_by (cut n t suffix) passed rest)) (held rest)
held_cut n t suffix passed [] calm = record {}
held_cut n t suffix passed (e ∷ rest) calm =
    let go = held_cut n t suffix (pass passed e) rest calm.2 in
    by_first
    (cut n t suffix)
    passed
    e
    rest
    (λ es. IsPart (held es) (held (e ∷ rest)))
    (λ is.
    subst
    (λ b. IsPart (option_to_list (cond b (Some e) None) ++ held (kept_by (cut n t suffix) (pass passed e) rest)) (held (e ∷ rest)))
    (sym (stays_cut n t suffix passed e rest (named n t passed e (rest ++ suffix) is) calm.1))
    (option_same (cond (stays e rest) (Some e) None) (held (kept_by (cut n t suffix) (pass passed e) rest)) (held rest) go))
    (λ out. option_over (cond (stays e rest) (Some e) None) (held (kept_by (cut n t suffix) (pass passed e) rest)) (held rest) go)
