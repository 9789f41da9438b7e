-- The view of the entries that the view names.
use Rattle.std.proofs.Common.{◌≡◌, ℕ, Bool, true, false, cond, ◌&&◌, not, List, [], ◌∷◌, ◌++◌, map, Some, None, inl, inr, refl, sym, ap, ◌∙◌, subst}
use Rattle.std.specs.Prelude.{◌||◌, option_to_list, nat_lt, ◌==◌}
use Rattle.std.specs.List.{list_any}
use Rattle.std.proofs.lemmas.Bool.{false≢true, true≢false, both_ways, cases_Bool, and_parts, and_left, or_parts, or_from, or_cases, or_left, or_right, not_from_true, eqb-true}
use Rattle.dots_history.specs.declared.entry.Entry.{Entry}
use Rattle.dots_history.specs.declared.change.Change.{Change}
use Rattle.dots_history.specs.declared.change.Change.TheVariants as change
use Rattle.dots_history.specs.declared.status.Status.{Status}
use Rattle.dots_history.specs.declared.status.Status.TheVariants.{Open}
use Rattle.dots_history.specs.Entries.{put_of, withdraws, is_signal, signals, is_held, undoes, same_client, undoes_of_client, reconfigures, undoes_of_peer, is_configuration, resumes, is_lost, is_loss, undoes_loss}
use Rattle.dots_history.specs.Histories.{Mitigation, view, Kept, Within, IsPart, OnePeer, OneDomain, Calm, live, if_live, status, step, tally, is_recent, recent, is_nil, stays, held, last, mitigations}
use Rattle.dots_history.specs.Keeping.{is_open, is_first, names, moved, pass, kept_by, kept}
use Rattle.dots_history.proofs.Recents.{same_recent}
use Rattle.dots_history.proofs.Touching.{withdraws_parts, held_no_put, never_live, as_signal}
use Rattle.dots_history.proofs.Members.{in_back, any_has}
use Rattle.dots_history.proofs.Keeping.{by_first, keeps_recent, kept_is_part}
use Rattle.dots_history.proofs.Dropping.{Named, lives, withdrawal, among_last, at_end, holds, named, unnamed, not_live, live_kept, recent_fate, fewer, still_recent}
use Rattle.dots_history.proofs.GoingOn.{same_view}

pub nil_is : {A : Type 0} → (xs : List A) → is_nil xs ≡ true → xs ≡ []
nil_is [] is = refl
nil_is (x ∷ xs) is = absurd (false≢true is)

-- a first withdrawal withdraws
pub first_withdraws : (t : ℕ) (e : Entry) (later : List Entry) (m : Mitigation) → is_first t e later m ≡ true → withdraws m.put e ≡ true
first_withdraws t e later m is =
    let first = and_parts (is_open m.status && withdraws m.put e) (live t m.put (status m.put (step m.put m.status e) later)) is in
    (and_parts (is_open m.status) (withdraws m.put e) first.0).1

-- the live mitigations
pub dead_both : (t : ℕ) (e : Entry) (s u : Status) → put_of e.change ≡ None → if_live t e s ≡ if_live t e u
dead_both t e s u none = not_live t e s (never_live t e s none) ∙ sym (not_live t e u (never_live t e u none))

pub same_live_by : (n t u low : ℕ) (passed : List Mitigation) (e : Entry) (later : List Entry) → Named n t passed e later → OnePeer e Open later → Within low (e ∷ later) u
    → if_live u e (status e Open (kept_by (names n t) (pass passed e) later)) ≡ if_live u e (status e Open later)
same_live_by n t u low passed e later (lives now) one within =
    ap (if_live u e) (live_kept n t e Open (pass passed e) later (in_back (record { put = e; status = Open }) (map (moved e) passed) (record { put = e; status = Open } ∷ []) (inl refl)) now)
same_live_by n t u low passed e later (withdrawal first) one within =
    let m = any_has (is_first t e later) passed first in
    dead_both u e (status e Open (kept_by (names n t) (pass passed e) later)) (status e Open later) (withdraws_parts m.0.put e (first_withdraws t e later m.0 m.1)).2
same_live_by n t u low passed e later (among_last recent) one within =
    recent_fate n t u e.time e Open (pass passed e) later (and_parts (is_signal e.change) (nat_lt (tally (signals e.peer e.domain) later) n) recent).1 one within.1
same_live_by n t u low passed e later (at_end nothing) one within =
    subst
    (λ l. if_live u e (status e Open (kept_by (names n t) (pass passed e) l)) ≡ if_live u e (status e Open l))
    (sym (nil_is later nothing))
    refl
same_live_by n t u low passed e later (holds still) one within =
    dead_both
    u
    e
    (status e Open (kept_by (names n t) (pass passed e) later))
    (status e Open later)
    (held_no_put e.change (and_parts (is_held e.change) (not (list_any (undoes e) later)) still).0)

pub kept_mitigations : (n t low : ℕ) (passed : List Mitigation) (entries : List Entry) → Within low entries t → Calm entries
    → mitigations t (kept_by (names n t) passed entries) ≡ mitigations t entries
kept_mitigations n t low passed [] within calm = refl
kept_mitigations n t low passed (e ∷ later) within calm =
    let go = kept_mitigations n t e.time (pass passed e) later within.1 calm.2 in
    by_first
    (names n t)
    passed
    e
    later
    (λ es. mitigations t es ≡ mitigations t (e ∷ later))
    (λ is.
    ap (λ o. option_to_list o ++ mitigations t (kept_by (names n t) (pass passed e) later)) (same_live_by n t t low passed e later (named n t passed e later is) calm.0 within)
    ∙ ap (λ ms. option_to_list (if_live t e (status e Open later)) ++ ms) go)
    (λ out.
    go ∙ sym (ap (λ o. option_to_list o ++ mitigations t later) (not_live t e (status e Open later) (unnamed n t passed e later out).dead)))

-- what is held
signal_undoes : (c later : Change) → is_signal c ≡ true → undoes_of_client c later ≡ false
unfolding is_signal undoes_of_client
signal_undoes change.Register later is = absurd (false≢true is)
signal_undoes (change.SetAlias alias) later is = absurd (false≢true is)
signal_undoes (change.SetAcl acl) later is = absurd (false≢true is)
signal_undoes _ later is = refl

lost_no_signal : (c : Change) → is_lost c ≡ true → is_signal c ≡ false
unfolding is_lost is_signal
lost_no_signal change.Lost is = refl
lost_no_signal _ is = absurd (false≢true is)

-- what says anew whether a signal is lost is of its peer and domain
pub resumes_parts : (e x : Entry) → resumes e x ≡ true → (e.peer ≡ x.peer) × (e.domain ≡ x.domain) × (is_lost e.change ≡ true) × (is_loss x.change ≡ true)
unfolding resumes undoes_loss
resumes_parts e x is =
    let all = and_parts (e.peer == x.peer) ((e.domain == x.domain) && (is_lost e.change && is_loss x.change)) is in
    let rest = and_parts (e.domain == x.domain) (is_lost e.change && is_loss x.change) all.1 in
    let both = and_parts (is_lost e.change) (is_loss x.change) rest.1 in
    (eqb-true e.peer x.peer all.0, eqb-true e.domain x.domain rest.0, both.0, both.1)

pub signal_reconfigures : (e x : Entry) → is_signal e.change ≡ true → undoes e x ≡ true → reconfigures e x ≡ true
unfolding undoes
signal_reconfigures e x is undone =
    elim (or_cases (same_client e x && undoes_of_client e.change x.change) (reconfigures e x || resumes e x) undone) [
      | inl of_client ↦
          absurd (both_ways
          (undoes_of_client e.change x.change)
          (signal_undoes e.change x.change is)
          (and_parts (same_client e x) (undoes_of_client e.change x.change) of_client).1)
      | inr other ↦
          elim (or_cases (reconfigures e x) (resumes e x) other) [
            | inl of_peer ↦ of_peer
            | inr of_loss ↦ absurd (both_ways (is_signal e.change) (lost_no_signal e.change (resumes_parts e x of_loss).2) is)
          ]
    ]

configuration_signals : (c : Change) → is_configuration c ≡ true → is_signal c ≡ true
unfolding is_configuration is_signal
configuration_signals (change.SetConfig sid config) is = refl
configuration_signals change.ClearConfig is = refl
configuration_signals _ is = absurd (false≢true is)

reconfigured_by : (earlier later : Change) → undoes_of_peer earlier later ≡ true → is_configuration later ≡ true
unfolding undoes_of_peer
reconfigured_by (change.SetConfig sid config) later is = is
reconfigured_by _ later is = absurd (false≢true is)

pub reconfigures_parts : (e x : Entry) → reconfigures e x ≡ true → (x.peer ≡ e.peer) × (is_signal x.change ≡ true)
unfolding reconfigures
reconfigures_parts e x is =
    let parts = and_parts (e.peer == x.peer) (undoes_of_peer e.change x.change) is in
    (sym (eqb-true e.peer x.peer parts.0), configuration_signals x.change (reconfigured_by e.change x.change parts.1))

-- a session configuration among the last that is undone is undone by one of those that are named
still_undone : (n t : ℕ) (e : Entry) (passed : List Mitigation) (later : List Entry) → is_signal e.change ≡ true → OneDomain e later
    → nat_lt (tally (signals e.peer e.domain) later) n ≡ true → list_any (undoes e) later ≡ true
    → list_any (undoes e) (kept_by (names n t) passed later) ≡ true
still_undone n t e passed [] signal one few is = absurd (false≢true is)
still_undone n t e passed (x ∷ later) signal one few is =
    elim (or_cases (undoes e x) (list_any (undoes e) later) is) [
      | inl here ↦
          let parts = reconfigures_parts e x (signal_reconfigures e x signal here) in
          let domain = one.0 (signal_reconfigures e x signal here) in
          by_first
          (names n t)
          passed
          x
          later
          (λ es. list_any (undoes e) es ≡ true)
          (λ kept. or_left (undoes e x) (list_any (undoes e) (kept_by (names n t) (pass passed x) later)) here)
          (λ out.
          absurd (both_ways
          (is_recent n x later)
          (unnamed n t passed x later out).old
          (still_recent n e.peer e.domain x later (as_signal e.peer e.domain x parts.1 parts.0 domain) few)))
      | inr beyond ↦
          let go = still_undone n t e (pass passed x) later signal one.1 (fewer n (signals e.peer e.domain) x later few) beyond in
          by_first
          (names n t)
          passed
          x
          later
          (λ es. list_any (undoes e) es ≡ true)
          (λ kept. or_right (undoes e x) (list_any (undoes e) (kept_by (names n t) (pass passed x) later)) go)
          (λ out. go)
    ]

-- what passes a test in a part passes it in the whole
pub any_part : (test : Entry → Bool) (xs ys : List Entry) → IsPart xs ys → list_any test ys ≡ false → list_any test xs ≡ false
any_part test [] ys part none = refl
any_part test (x ∷ xs) [] part none = absurd part
any_part test (x ∷ xs) (y ∷ ys) (inl part) none =
    let parts = or_parts (test y) (list_any test ys) none in
    or_from (test x) (list_any test xs) (ap test part.0 ∙ parts.0) (any_part test xs ys part.1 parts.1)
any_part test (x ∷ xs) (y ∷ ys) (inr part) none =
    any_part test (x ∷ xs) ys part (or_parts (test y) (list_any test ys) none).1

undone_by : (n t : ℕ) (passed : List Mitigation) (e : Entry) (later : List Entry) → Named n t passed e later → is_held e.change ≡ true → OneDomain e later
    → list_any (undoes e) later ≡ true → list_any (undoes e) (kept_by (names n t) (pass passed e) later) ≡ true
undone_by n t passed e later (lives now) is one undone =
    absurd (both_ways (live t e (status e Open later)) (never_live t e (status e Open later) (held_no_put e.change is)) now)
undone_by n t passed e later (withdrawal first) is one undone =
    let m = any_has (is_first t e later) passed first in
    absurd (both_ways (is_held e.change) (withdraws_parts m.0.put e (first_withdraws t e later m.0 m.1)).3 is)
undone_by n t passed e later (among_last recent) is one undone =
    let parts = and_parts (is_signal e.change) (nat_lt (tally (signals e.peer e.domain) later) n) recent in
    still_undone n t e (pass passed e) later parts.0 one parts.1 undone
undone_by n t passed e later (at_end nothing) is one undone =
    absurd (false≢true (sym (ap (list_any (undoes e)) (nil_is later nothing)) ∙ undone))
undone_by n t passed e later (holds still) is one undone =
    absurd (both_ways
    (not (list_any (undoes e) later))
    (not_from_true (list_any (undoes e) later) undone)
    (and_parts (is_held e.change) (not (list_any (undoes e) later)) still).1)

kept_stays : (n t : ℕ) (passed : List Mitigation) (e : Entry) (later : List Entry) → Named n t passed e later → OneDomain e later
    → stays e (kept_by (names n t) (pass passed e) later) ≡ stays e later
kept_stays n t passed e later why one =
    let few = kept_by (names n t) (pass passed e) later in
    elim (cases_Bool (is_held e.change)) [
      | inl is ↦
          elim (cases_Bool (list_any (undoes e) later)) [
            | inl undone ↦ ap (λ b. is_held e.change && not b) (undone_by n t passed e later why is one undone ∙ sym undone)
            | inr not_undone ↦
                ap
                (λ b. is_held e.change && not b)
                (any_part (undoes e) few later (kept_is_part (names n t) (pass passed e) later) not_undone ∙ sym not_undone)
          ]
      | inr out ↦
          and_left (is_held e.change) (not (list_any (undoes e) few)) out
          ∙ sym (and_left (is_held e.change) (not (list_any (undoes e) later)) out)
    ]

pub kept_held : (n t : ℕ) (passed : List Mitigation) (entries : List Entry) → Calm entries → held (kept_by (names n t) passed entries) ≡ held entries
kept_held n t passed [] calm = refl
kept_held n t passed (e ∷ later) calm =
    let go = kept_held n t (pass passed e) later calm.2 in
    by_first
    (names n t)
    passed
    e
    later
    (λ es. held es ≡ held (e ∷ later))
    (λ is.
    ap
    (λ b. option_to_list (cond b (Some e) None) ++ held (kept_by (names n t) (pass passed e) later))
    (kept_stays n t passed e later (named n t passed e later is) calm.1)
    ∙ ap (λ es. option_to_list (cond (stays e later) (Some e) None) ++ es) go)
    (λ out.
    go ∙ sym (ap (λ b. option_to_list (cond b (Some e) None) ++ held later) (unnamed n t passed e later out).undone))

-- the last entry
some_last : (e : Entry) (later : List Entry) → is_nil (last (e ∷ later)) ≡ false
some_last e [] = refl
some_last e (x ∷ later) = some_last x later

last_of_more : (e : Entry) (entries : List Entry) → is_nil (last entries) ≡ false → last (e ∷ entries) ≡ last entries
last_of_more e [] some = absurd (true≢false some)
last_of_more e (x ∷ entries) some = refl

pub kept_last : (n t : ℕ) (passed : List Mitigation) (entries : List Entry) → last (kept_by (names n t) passed entries) ≡ last entries
kept_last n t passed [] = refl
kept_last n t passed (e ∷ []) =
    by_first
    (names n t)
    passed
    e
    []
    (λ es. last es ≡ e ∷ [])
    (λ is. refl)
    (λ out. absurd (true≢false (unnamed n t passed e [] out).more))
kept_last n t passed (e ∷ x ∷ later) =
    let go = kept_last n t (pass passed e) (x ∷ later) in
    by_first
    (names n t)
    passed
    e
    (x ∷ later)
    (λ es. last es ≡ last (x ∷ later))
    (λ is. last_of_more e (kept_by (names n t) (pass passed e) (x ∷ later)) (ap is_nil go ∙ some_last x later) ∙ go)
    (λ out. go)

pub kept_recent : (n t : ℕ) (passed : List Mitigation) (entries : List Entry) → recent n (kept_by (names n t) passed entries) ≡ recent n entries
kept_recent n t passed entries =
    same_recent n (kept_by (names n t) passed entries) entries (keeps_recent n (names n t) passed entries (λ before e later out. (unnamed n t before e later out).old))

pub dropping : (n t : ℕ) (entries : List Entry) → Within 0 entries t → Calm entries → Kept n t (kept n t entries) entries
dropping n t entries within calm = record {
  is_part = kept_is_part (names n t) [] entries;
  same_view =
      same_view
      (view n t (kept n t entries))
      (view n t entries)
      (kept_mitigations n t 0 [] entries within calm)
      (kept_recent n t [] entries)
      (kept_held n t [] entries calm)
      (kept_last n t [] entries);
}
