-- What is named of a calm history is calm, and none of it is revived.
use Rattle.std.proofs.Common.{◌≡◌, ℕ, true, false, not, List, [], ◌∷◌, ◌++◌, map, Option, Some, None, inl, inr, refl, sym, subst, le_refl}
use Rattle.std.specs.Prelude.{option_to_list, nat_lt}
use Rattle.std.specs.List.{list_any}
use Rattle.std.proofs.lemmas.Bool.{both_ways, cases_Bool, and_parts}
use Rattle.dots_history.specs.declared.entry.Entry.{Entry}
use Rattle.dots_history.specs.declared.status.Status.{Status}
use Rattle.dots_history.specs.declared.status.Status.TheVariants.{Open}
use Rattle.dots_history.specs.Entries.{put_of, is_signal, signals, is_held, undoes, reconfigures}
use Rattle.dots_history.specs.Histories.{Mitigation, Within, IsPart, OnePeer, OneDomain, Calm, live, if_live, status, step, tally, mitigations}
use Rattle.dots_history.specs.Keeping.{is_first, names, moved, pass, kept_by, kept}
use Rattle.dots_history.proofs.Lasting.{live_no_more, dead_step}
use Rattle.dots_history.proofs.Touching.{withdraws_parts, held_no_put, never_live}
use Rattle.dots_history.proofs.Members.{In, in_back, any_has}
use Rattle.dots_history.proofs.Keeping.{by_first, kept_is_part, kept_within}
use Rattle.dots_history.proofs.Dropping.{Named, lives, withdrawal, among_last, at_end, holds, named, unnamed, no_change, unchanged, still_there, fewer}
use Rattle.dots_history.proofs.ViewLemmas.{nil_is, first_withdraws, same_live_by}

-- whatever comes to what is no longer live may come from anyone
dead_one_peer : (put : Entry) (s : Status) (low high : ℕ) (later : List Entry) → live low put s ≡ false → Within low later high → OnePeer put s later
dead_one_peer put s low high [] dead within = record {}
dead_one_peer put s low high (e ∷ later) dead within =
    let now = live_no_more low e.time put s within.0 dead in (
      λ is touched. absurd (both_ways (live e.time put s) now is),
      dead_one_peer put (step put s e) e.time high later (dead_step put s e now) within.1,
    )

no_put_one_peer : (e : Entry) (s : Status) (later : List Entry) → put_of e.change ≡ None → OnePeer e s later
no_put_one_peer e s [] none = record {}
no_put_one_peer e s (x ∷ later) none =
    (λ is touched. absurd (both_ways (live x.time e s) (never_live x.time e s none) is), no_put_one_peer e (step e s x) later none)

live_one_peer : (n t : ℕ) (put : Entry) (s : Status) (passed : List Mitigation) (later : List Entry) → In (record { put = put; status = s }) passed
    → live t put (status put s later) ≡ true → OnePeer put s later → OnePeer put s (kept_by (names n t) passed later)
live_one_peer n t put s passed [] there is one = record {}
live_one_peer n t put s passed (e ∷ later) there is one =
    let go = live_one_peer n t put (step put s e) (pass passed e) later (still_there put s passed e there) is one.1 in
    by_first
    (names n t)
    passed
    e
    later
    (OnePeer put s)
    (λ kept. (one.0, go))
    (λ out.
    subst
    (λ x. OnePeer put x (kept_by (names n t) (pass passed e) later))
    (no_change n t put s passed e later there (unnamed n t passed e later out).no_first is)
    go)

recent_one_peer : (n t low high : ℕ) (put : Entry) (s : Status) (passed : List Mitigation) (later : List Entry)
    → nat_lt (tally (signals put.peer put.domain) later) n ≡ true → Within low later high → OnePeer put s later
    → OnePeer put s (kept_by (names n t) passed later)
recent_one_peer n t low high put s passed [] few within one = record {}
recent_one_peer n t low high put s passed (e ∷ later) few within one =
    let go =
    recent_one_peer n t e.time high put (step put s e) (pass passed e) later (fewer n (signals put.peer put.domain) e later few) within.1 one.1 in
    elim (cases_Bool (live e.time put s)) [
      | inl now ↦
          by_first
          (names n t)
          passed
          e
          later
          (OnePeer put s)
          (λ kept. (one.0, go))
          (λ out.
          subst
          (λ x. OnePeer put x (kept_by (names n t) (pass passed e) later))
          (unchanged n t put s passed e later few (one.0 now) (unnamed n t passed e later out).old)
          go)
      | inr dead ↦
          let whole : Within e.time (e ∷ later) high = (le_refl e.time, within.1) in
          dead_one_peer put s e.time high (kept_by (names n t) passed (e ∷ later)) dead (kept_within (names n t) passed e.time high (e ∷ later) whole)
    ]

named_one_peer : (n t low high : ℕ) (passed : List Mitigation) (e : Entry) (later : List Entry) → Named n t passed e later → Within low (e ∷ later) high
    → OnePeer e Open later → OnePeer e Open (kept_by (names n t) (pass passed e) later)
named_one_peer n t low high passed e later (lives now) within one =
    live_one_peer n t e Open (pass passed e) later (in_back (record { put = e; status = Open }) (map (moved e) passed) (record { put = e; status = Open } ∷ []) (inl refl)) now one
named_one_peer n t low high passed e later (withdrawal first) within one =
    let m = any_has (is_first t e later) passed first in
    no_put_one_peer e Open (kept_by (names n t) (pass passed e) later) (withdraws_parts m.0.put e (first_withdraws t e later m.0 m.1)).2
named_one_peer n t low high passed e later (among_last recent) within one =
    recent_one_peer n t e.time high e Open (pass passed e) later (and_parts (is_signal e.change) (nat_lt (tally (signals e.peer e.domain) later) n) recent).1 within.1 one
named_one_peer n t low high passed e later (at_end nothing) within one =
    subst (λ l. OnePeer e Open (kept_by (names n t) (pass passed e) l)) (sym (nil_is later nothing)) (record {})
named_one_peer n t low high passed e later (holds still) within one =
    no_put_one_peer
    e
    Open
    (kept_by (names n t) (pass passed e) later)
    (held_no_put e.change (and_parts (is_held e.change) (not (list_any (undoes e) later)) still).0)

part_one_domain : (e : Entry) (xs ys : List Entry) → IsPart xs ys → OneDomain e ys → OneDomain e xs
part_one_domain e [] ys part one = record {}
part_one_domain e (x ∷ xs) [] part one = absurd part
part_one_domain e (x ∷ xs) (y ∷ ys) (inl part) one =
    (subst (λ z. reconfigures e z ≡ true → z.domain ≡ e.domain) (sym part.0) one.0, part_one_domain e xs ys part.1 one.1)
part_one_domain e (x ∷ xs) (y ∷ ys) (inr part) one = part_one_domain e (x ∷ xs) ys part one.1

kept_calm : (n t low high : ℕ) (passed : List Mitigation) (entries : List Entry) → Within low entries high → Calm entries → Calm (kept_by (names n t) passed entries)
kept_calm n t low high passed [] within calm = record {}
kept_calm n t low high passed (e ∷ later) within calm =
    let go = kept_calm n t e.time high (pass passed e) later within.1 calm.2 in
    by_first
    (names n t)
    passed
    e
    later
    Calm
    (λ is. (
      named_one_peer n t low high passed e later (named n t passed e later is) within calm.0,
      part_one_domain e (kept_by (names n t) (pass passed e) later) later (kept_is_part (names n t) (pass passed e) later) calm.1,
      go,
    ))
    (λ out. go)

pub kept_is_calm : (n t high : ℕ) (entries : List Entry) → Within 0 entries high → Calm entries → Calm (kept n t entries)
kept_is_calm n t high entries within calm = kept_calm n t 0 high [] entries within calm

-- what is live at any later time was live without dropping too
part_same : (o : Option Mitigation) (xs ys : List Mitigation) → IsPart xs ys → IsPart (option_to_list o ++ xs) (option_to_list o ++ ys)
part_same None xs ys part = part
part_same (Some m) xs ys part = inl (refl, part)

part_over : (o : Option Mitigation) (xs ys : List Mitigation) → IsPart xs ys → IsPart xs (option_to_list o ++ ys)
part_over None xs ys part = part
part_over (Some m) [] ys part = record {}
part_over (Some m) (x ∷ xs) ys part = inr part

lives_on : (n t u low : ℕ) (passed : List Mitigation) (entries : List Entry) → Within low entries u → Calm entries
    → IsPart (mitigations u (kept_by (names n t) passed entries)) (mitigations u entries)
lives_on n t u low passed [] within calm = record {}
lives_on n t u low passed (e ∷ later) within calm =
    let go = lives_on n t u e.time (pass passed e) later within.1 calm.2 in
    by_first
    (names n t)
    passed
    e
    later
    (λ es. IsPart (mitigations u es) (mitigations u (e ∷ later)))
    (λ is.
    subst
    (λ o. IsPart (option_to_list o ++ mitigations u (kept_by (names n t) (pass passed e) later)) (mitigations u (e ∷ later)))
    (sym (same_live_by n t u low passed e later (named n t passed e later is) calm.0 within))
    (part_same (if_live u e (status e Open later)) (mitigations u (kept_by (names n t) (pass passed e) later)) (mitigations u later) go))
    (λ out.
    part_over (if_live u e (status e Open later)) (mitigations u (kept_by (names n t) (pass passed e) later)) (mitigations u later) go)

pub none_revived : (n t u : ℕ) (entries : List Entry) → Within 0 entries u → Calm entries → IsPart (mitigations u (kept n t entries)) (mitigations u entries)
none_revived n t u entries within calm = lives_on n t u 0 [] entries within calm
