-- What one more entry makes of whether a signal is lost.
use Rattle.std.proofs.Common.{◌≡◌, ℕ, Bool, true, false, cond, not, ◌&&◌, ◌||◌, List, [], ◌∷◌, ◌++◌, map, filter, inl, inr, refl, sym, ap, ◌∙◌, append-nil, append_assoc}
use Rattle.std.specs.Prelude.{◌==◌}
use Rattle.std.specs.List.{list_any, list_all}
use Rattle.std.proofs.lemmas.Bool.{false≢true, both_ways, cond_both, cond-true, cond-false, and_parts, and_right, or_cases, not_from_true, eqb-true}
use Rattle.std.proofs.lemmas.List.Folds.{list_any-append}
use Rattle.dots_history.specs.declared.entry.Entry.{Entry}
use Rattle.dots_history.specs.declared.change.Change.{Change}
use Rattle.dots_history.specs.declared.change.Change.TheVariants as change
use Rattle.dots_history.specs.Entries.{same_client, is_held, undoes, undoes_of_client, undoes_of_peer, undoes_loss, reconfigures, resumes, is_lost, is_loss}
use Rattle.dots_history.specs.Histories.{held}
use Rattle.dots_history.specs.Rows.{loses, is_lost_in}
use Rattle.dots_history.specs.Capacities.{loses_as}
use Rattle.dots_history.specs.Views.{held_with}
use Rattle.dots_history.proofs.GoingOn.{held_push}
use Rattle.held_resources.specs.declared.signals.Signal.{Signal}
use Rattle.dots_history.specs.Held.{of_peer}
use Rattle.held_resources.specs.Tables.{Sizes, own_of, lost_after, signal_with, signal_of, is_placed, is_known}
use Rattle.dots_history.proofs.Written.{or_no}
use Rattle.held_resources.proofs.Holdings.{turned_eq}

-- ---- what undoes a loss
lost_of_client : (c later : Change) → is_lost c ≡ true → undoes_of_client c later ≡ false
unfolding is_lost undoes_of_client
lost_of_client change.Lost later is = refl
lost_of_client _ later is = absurd (false≢true is)

lost_of_peer : (c later : Change) → is_lost c ≡ true → undoes_of_peer c later ≡ false
unfolding is_lost undoes_of_peer
lost_of_peer change.Lost later is = refl
lost_of_peer _ later is = absurd (false≢true is)

-- the entry says anew whether the signal is lost
abbrev over : ℕ → ℕ → Entry → Bool
over peer domain e = (peer == e.peer) && ((domain == e.domain) && is_loss e.change)

undone_by : (peer domain : ℕ) (x e : Entry) → loses peer domain x ≡ true → undoes x e ≡ over peer domain e
unfolding undoes reconfigures resumes undoes_loss
undone_by peer domain x e is =
    let parts = and_parts (is_lost x.change) ((x.peer == peer) && (x.domain == domain)) is in
    let own = and_parts (x.peer == peer) (x.domain == domain) parts.1 in
    let by_loss = (x.peer == e.peer) && ((x.domain == e.domain) && (is_lost x.change && is_loss e.change)) in
    ap
    (λ b. b || (((x.peer == e.peer) && undoes_of_peer x.change e.change) || by_loss))
    (and_right (same_client x e) (undoes_of_client x.change e.change) (lost_of_client x.change e.change parts.0))
    ∙ ap (λ b. b || by_loss) (and_right (x.peer == e.peer) (undoes_of_peer x.change e.change) (lost_of_peer x.change e.change parts.0))
    ∙ ap (λ b. (x.peer == e.peer) && ((x.domain == e.domain) && (b && is_loss e.change))) parts.0
    ∙ ap (λ p. (p == e.peer) && ((x.domain == e.domain) && is_loss e.change)) (eqb-true x.peer peer own.0)
    ∙ ap (λ d. (peer == e.peer) && ((d == e.domain) && is_loss e.change)) (eqb-true x.domain domain own.1)

-- ---- small steps
and_all : (b : Bool) → (b && true) ≡ b
and_all true = refl
and_all false = refl

and_none : (b : Bool) → (b && false) ≡ false
and_none true = refl
and_none false = refl

any_cond : (test : Entry → Bool) (gone : Bool) (x : Entry) (xs : List Entry) → list_any test (cond (not gone) (x ∷ xs) xs) ≡ ((not gone && test x) || list_any test xs)
any_cond test true x xs = refl
any_cond test false x xs = refl

any_one : (test : Entry → Bool) (there : Bool) (x : Entry) → list_any test (cond there (x ∷ []) []) ≡ (there && test x)
any_one test true x = or_no (test x) false refl
any_one test false x = refl

-- ---- one more entry
-- of the losses of a peer and domain all stay or none
left : (peer domain : ℕ) (e : Entry) (xs : List Entry)
    → list_any (loses peer domain) (filter (λ x. not (undoes x e)) xs) ≡ (not (over peer domain e) && is_lost_in xs peer domain)
left peer domain e [] = sym (and_none (not (over peer domain e)))
left peer domain e (x ∷ xs) =
    any_cond (loses peer domain) (undoes x e) x (filter (λ x. not (undoes x e)) xs)
    ∙ ap (λ b. (not (undoes x e) && loses peer domain x) || b) (left peer domain e xs)
    ∙ step (loses peer domain x) (undoes x e) (over peer domain e) (is_lost_in xs peer domain) (undone_by peer domain x e)
  where
    step : (loss gone all rest : Bool) → (loss ≡ true → gone ≡ all) → ((not gone && loss) || (not all && rest)) ≡ (not all && (loss || rest))
    step true gone all rest same = ap (λ b. (not b && true) || (not all && rest)) (same refl) ∙ both all
      where
        both : (b : Bool) → ((not b && true) || (not b && rest)) ≡ (not b && true)
        both true = refl
        both false = refl
    step false true all rest same = refl
    step false false all rest same = refl

-- what it says itself
own_loss : (c : Change) (of : Bool) → (is_held c && (is_lost c && of)) ≡ (is_lost c && of)
unfolding is_held is_lost
own_loss change.Lost of = refl
own_loss c of = and_none (is_held c)

-- what a change of its peer makes of it
loss_after : (c : Change) (before : Bool) → ((not (is_loss c) && before) || is_lost c) ≡ lost_after c before
unfolding is_loss is_lost
loss_after change.Lost before = refl
loss_after change.Back before = refl
loss_after _ before = or_no before false refl

by_own : (own : Bool) (c : Change) (before : Bool) → ((not (own && is_loss c) && before) || (is_lost c && own)) ≡ cond own (lost_after c before) before
by_own true c before = ap (λ b. (not (is_loss c) && before) || b) (and_all (is_lost c)) ∙ loss_after c before
by_own false c before = ap (λ b. before || b) (and_none (is_lost c)) ∙ or_no before false refl

pub lost_with : (peer domain : ℕ) (e : Entry) (es : List Entry)
    → is_lost_in (held_with e es) peer domain
    ≡ cond (loses_as e (peer, domain)) (lost_after e.change (is_lost_in es peer domain)) (is_lost_in es peer domain)
lost_with peer domain e es =
    let before = is_lost_in es peer domain in
    let own = (e.peer == peer) && (e.domain == domain) in
    list_any-append (loses peer domain) (filter (λ x. not (undoes x e)) es) (cond (is_held e.change) (e ∷ []) [])
    ∙ ap (λ b. b || list_any (loses peer domain) (cond (is_held e.change) (e ∷ []) [])) (left peer domain e es)
    ∙ ap (λ b. (not (over peer domain e) && before) || b) (any_one (loses peer domain) (is_held e.change) e ∙ own_loss e.change own)
    ∙ ap (λ b. (not b && before) || (is_lost e.change && own)) (over_is (is_loss e.change))
    ∙ by_own own e.change before
  where
    grouped : (a b c : Bool) → (a && (b && c)) ≡ ((a && b) && c)
    grouped true b c = refl
    grouped false b c = refl

    over_is : (b : Bool) → ((peer == e.peer) && ((domain == e.domain) && b)) ≡ (((e.peer == peer) && (e.domain == domain)) && b)
    over_is b =
        ap (λ p. p && ((domain == e.domain) && b)) (turned_eq peer e.peer)
        ∙ ap (λ d. (e.peer == peer) && (d && b)) (turned_eq domain e.domain)
        ∙ grouped (e.peer == peer) (e.domain == domain) b

pub signals_with : (e : Entry) (es : List Entry) (own : List (ℕ × ℕ)) → map (signal_with e) (map (signal_of es) own) ≡ map (signal_of (held_with e es)) own
signals_with e es [] = refl
signals_with e es (o ∷ own) =
    ap (λ lost. signal_by lost ∷ map (signal_with e) (map (signal_of es) own)) (sym (lost_with o.0 o.1 e es))
    ∙ ap (λ rest. signal_of (held_with e es) o ∷ rest) (signals_with e es own)
  where
    signal_by : Bool → Signal
    signal_by lost = record { peer = o.0; domain = o.1; lost = lost }

-- what an entry that says nothing of signals makes of them
quiet : (c : Change) (b : Bool) → is_loss c ≡ false → lost_after c b ≡ b
unfolding is_loss
quiet change.Lost b out = absurd (false≢true (sym out))
quiet change.Back b out = absurd (false≢true (sym out))
quiet _ b out = refl

pub as_before : (e : Entry) (signals : List Signal) → is_loss e.change ≡ false → map (signal_with e) signals ≡ signals
as_before e [] out = refl
as_before e (s ∷ signals) out =
    ap
    (λ lost. signal_by lost ∷ map (signal_with e) signals)
    (cond_both (loses_as e (own_of s)) (lost_after e.change s.lost) s.lost (λ b. b ≡ s.lost) (λ is. quiet e.change s.lost out) (λ no. refl))
    ∙ ap (λ rest. s ∷ rest) (as_before e signals out)
  where
    signal_by : Bool → Signal
    signal_by lost = record { peer = s.peer; domain = s.domain; lost = lost }

-- ---- readers
any_lost : (peer domain : ℕ) (es : List Entry) (own : List (ℕ × ℕ))
    → list_any (λ (s : Signal). s.lost && ((peer == s.peer) && (domain == s.domain))) (map (signal_of es) own)
    ≡ (list_any (λ (o : ℕ × ℕ). (peer == o.0) && (domain == o.1)) own && is_lost_in es peer domain)
any_lost peer domain es [] = refl
any_lost peer domain es (o ∷ own) =
    ap (λ b. (is_lost_in es o.0 o.1 && ((peer == o.0) && (domain == o.1))) || b) (any_lost peer domain es own)
    ∙ here
    (is_lost_in es o.0 o.1)
    ((peer == o.0) && (domain == o.1))
    (list_any (λ (o : ℕ × ℕ). (peer == o.0) && (domain == o.1)) own)
    (is_lost_in es peer domain)
    same
  where
    same : (peer == o.0) && (domain == o.1) ≡ true → is_lost_in es o.0 o.1 ≡ is_lost_in es peer domain
    same is =
        let both = and_parts (peer == o.0) (domain == o.1) is in
        ap (λ p. is_lost_in es p o.1) (sym (eqb-true peer o.0 both.0)) ∙ ap (is_lost_in es peer) (sym (eqb-true domain o.1 both.1))

    absorbed : (lost rest : Bool) → ((lost && true) || (rest && lost)) ≡ lost
    absorbed true rest = refl
    absorbed false true = refl
    absorbed false false = refl

    here : (its of rest lost : Bool) → (of ≡ true → its ≡ lost) → ((its && of) || (rest && lost)) ≡ ((of || rest) && lost)
    here its true rest lost is = ap (λ b. (b && true) || (rest && lost)) (is refl) ∙ absorbed lost rest
    here true false rest lost is = refl
    here false false rest lost is = refl

pub lost_loss : (c : Change) → is_lost c ≡ true → is_loss c ≡ true
unfolding is_lost is_loss
lost_loss change.Lost is = refl
lost_loss _ is = absurd (false≢true is)

-- the signal of no other peer is lost
known_own : (sizes : Sizes) (peer domain : ℕ) (xs : List Entry) → list_all (is_known sizes) xs ≡ true → is_lost_in xs peer domain ≡ true
    → list_any (λ (o : ℕ × ℕ). (peer == o.0) && (domain == o.1)) sizes.own ≡ true
known_own sizes peer domain [] all is = absurd (false≢true is)
known_own sizes peer domain (x ∷ xs) all is =
    let parts = and_parts (is_known sizes x) (list_all (is_known sizes) xs) all in
    elim (or_cases (loses peer domain x) (is_lost_in xs peer domain) is) [
      | inl here ↦
          let loss = and_parts (is_lost x.change) ((x.peer == peer) && (x.domain == domain)) here in
          let own = and_parts (x.peer == peer) (x.domain == domain) loss.1 in
          ap (λ d. list_any (λ (o : ℕ × ℕ). (peer == o.0) && (d == o.1)) sizes.own) (sym (eqb-true x.domain domain own.1))
          ∙ ap (λ p. list_any (λ (o : ℕ × ℕ). (p == o.0) && (x.domain == o.1)) sizes.own) (sym (eqb-true x.peer peer own.0))
          ∙ among loss.0 parts.0
      | inr there ↦ known_own sizes peer domain xs parts.1 there
    ]
  where
    among : is_lost x.change ≡ true → is_known sizes x ≡ true → list_any (loses_as x) sizes.own ≡ true
    among lost known =
        elim (or_cases
        (not (is_loss x.change))
        (list_any (loses_as x) sizes.own)
        (and_parts (is_placed sizes x) (not (is_loss x.change) || list_any (loses_as x) sizes.own) known).1) [
          | inl out ↦ absurd (both_ways (not (is_loss x.change)) (not_from_true (is_loss x.change) (lost_loss x.change lost)) out)
          | inr of ↦ of
        ]

pub find_lost : (sizes : Sizes) (peer domain : ℕ) (es : List Entry) → list_all (is_known sizes) es ≡ true
    → list_any (λ (s : Signal). s.lost && ((peer == s.peer) && (domain == s.domain))) (map (signal_of es) sizes.own) ≡ is_lost_in es peer domain
find_lost sizes peer domain es known =
    any_lost peer domain es sizes.own
    ∙ absorbed
    (list_any (λ (o : ℕ × ℕ). (peer == o.0) && (domain == o.1)) sizes.own)
    (is_lost_in es peer domain)
    (known_own sizes peer domain es known)
  where
    absorbed : (own lost : Bool) → (lost ≡ true → own ≡ true) → (own && lost) ≡ lost
    absorbed true lost is = refl
    absorbed false true is = is refl
    absorbed false false is = refl

pub any_own : (e : Entry) (signals : List Signal) → list_any (loses_as e) (map own_of signals) ≡ list_any (λ (s : Signal). loses_as e (own_of s)) signals
any_own e [] = refl
any_own e (s ∷ signals) = ap (λ b. loses_as e (own_of s) || b) (any_own e signals)

-- ---- by the entries of the peer and domain alone
abbrev step : ℕ → ℕ → Bool → Entry → Bool
step peer domain before e = cond (loses_as e (peer, domain)) (lost_after e.change before) before

lost_push : (peer domain : ℕ) (e : Entry) (es : List Entry)
    → is_lost_in (held (es ++ e ∷ [])) peer domain ≡ step peer domain (is_lost_in (held es) peer domain) e
lost_push peer domain e es = ap (λ held_now. is_lost_in held_now peer domain) (held_push e es) ∙ lost_with peer domain e (held es)

pub lost_changed : (peer domain : ℕ) (e : Entry) (es : List Entry) → loses_as e (peer, domain) ≡ true
    → is_lost_in (held (es ++ e ∷ [])) peer domain ≡ lost_after e.change (is_lost_in (held es) peer domain)
lost_changed peer domain e es own =
    let before = is_lost_in (held es) peer domain in
    lost_push peer domain e es ∙ cond-true (loses_as e (peer, domain)) (lost_after e.change before) before own

pub lost_still : (peer domain : ℕ) (e : Entry) (es : List Entry) → is_loss e.change && loses_as e (peer, domain) ≡ false
    → is_lost_in (held (es ++ e ∷ [])) peer domain ≡ is_lost_in (held es) peer domain
lost_still peer domain e es other =
    let before = is_lost_in (held es) peer domain in
    lost_push peer domain e es
    ∙ cond_both
    (loses_as e (peer, domain))
    (lost_after e.change before)
    before
    (λ b. b ≡ before)
    (λ own. quiet e.change before (sym (and_all (is_loss e.change)) ∙ ap (λ b. is_loss e.change && b) (sym own) ∙ other))
    (λ out. refl)

abbrev steps : ℕ → ℕ → Bool → List Entry → Bool
steps peer domain before [] = before
steps peer domain before (e ∷ later) = steps peer domain (step peer domain before e) later

by_steps : (peer domain : ℕ) (before later : List Entry)
    → is_lost_in (held (before ++ later)) peer domain ≡ steps peer domain (is_lost_in (held before) peer domain) later
by_steps peer domain before [] = ap (λ es. is_lost_in (held es) peer domain) (append-nil before)
by_steps peer domain before (e ∷ later) =
    ap (λ es. is_lost_in (held es) peer domain) (sym (append_assoc before (e ∷ []) later))
    ∙ by_steps peer domain (before ++ e ∷ []) later
    ∙ ap (λ b. steps peer domain b later) (lost_push peer domain e before)

own_steps : (peer domain : ℕ) (before : Bool) (later : List Entry) → steps peer domain before (of_peer peer domain later) ≡ steps peer domain before later
own_steps peer domain before [] = refl
own_steps peer domain before (e ∷ later) =
    cond_both
    (loses_as e (peer, domain))
    (e ∷ of_peer peer domain later)
    (of_peer peer domain later)
    (λ es. steps peer domain before es ≡ steps peer domain (step peer domain before e) later)
    (λ own. own_steps peer domain (step peer domain before e) later)
    (λ other.
    own_steps peer domain before later
    ∙ sym (ap
    (λ b. steps peer domain b later)
    (cond-false (loses_as e (peer, domain)) (lost_after e.change before) before other)))

pub lost_alone : (peer domain : ℕ) (entries : List Entry) → is_lost_in (held (of_peer peer domain entries)) peer domain ≡ is_lost_in (held entries) peer domain
lost_alone peer domain entries =
    by_steps peer domain [] (of_peer peer domain entries)
    ∙ own_steps peer domain false entries
    ∙ sym (by_steps peer domain [] entries)
