-- What a host handed out, and what it was asked to send.
use Rattle.std.proofs.Common.{◌≡◌, ℕ, ◌+◌, Bool, List, [], ◌∷◌, ◌++◌, drop, refl, sym, ap, subst, ◌∙◌, inl, inr, arith}
use Rattle.std.proofs.lemmas.List.Sums.{sum_by-cons}
use Rattle.std.specs.Prelude.{◌⊎◌, ⊤, count_by, codes, cond}
use Rattle.dots_host.specs.declared.event.Event.{Event}
use Rattle.dots_host.specs.declared.event.Event.TheVariants as event
use Rattle.dots_host.specs.declared.out.OwnedOut.{OwnedOut}
use Rattle.dots_host.specs.declared.act.Act.{Act}
use Rattle.dots_host.specs.declared.act.Act.TheVariants as act
use Rattle.dots_host.specs.Acts.{took, gave, Timed, wire_acts}
use Rattle.dots_host.specs.Memory.{Coming, HandsOne, Hands, first_coming}
use Rattle.dots_host.specs.Runs.{IsNoEnd, GoOn}
use Rattle.dots_load.specs.Calls.{gives, takes}
use Rattle.dots_load.specs.Report.{coming_in, sends_in, is_no_end, created, changed, deleted, content, conflict, other, lines, load_text}

count_more : {X : Type 0} (p : X → Bool) (x : X) (xs : List X) → count_by p (x ∷ xs) ≡ cond (p x) 1 0 + count_by p xs
count_more p x xs = sum_by-cons (λ y. cond (p y) 1 0) x xs

pub count_sends : (kind : OwnedOut → Bool) (m : ℕ) (acts : List Act) → count_by (gives kind) acts ≡ count_by kind (sends_in (wire_acts m acts))
count_sends kind m [] = refl
count_sends kind m (act.Gave out done ∷ acts) =
    count_more (gives kind) (act.Gave out done) acts ∙ ap (λ (n : ℕ). cond (kind out) 1 0 + n) (count_sends kind (m + 1) acts)
    ∙ sym (count_more kind out (sends_in (wire_acts (m + 1) acts)))
count_sends kind m (act.Took event at ∷ acts) = omega (arith, count_more (gives kind) (act.Took event at) acts, count_sends kind (m + 1) acts)
count_sends kind m (act.Read ok ∷ acts) = omega (arith, count_more (gives kind) (act.Read ok) acts, count_sends kind (m + 1) acts)
count_sends kind m (act.Wrote at bytes ok ∷ acts) = omega (arith, count_more (gives kind) (act.Wrote at bytes ok) acts, count_sends kind (m + 1) acts)
count_sends kind m (act.Synced ok ∷ acts) = omega (arith, count_more (gives kind) (act.Synced ok) acts, count_sends kind (m + 1) acts)

abbrev of_event : (Event → Bool) → Coming → Bool
of_event kind coming = kind coming.event

pub count_events : (kind : Event → Bool) (m : ℕ) (acts : List Act) → count_by (takes kind) acts ≡ count_by (λ coming. kind coming.event) (coming_in (wire_acts m acts))
count_events kind m [] = refl
count_events kind m (act.Took event at ∷ acts) =
    count_more (takes kind) (act.Took event at) acts ∙ ap (λ (n : ℕ). cond (kind event) 1 0 + n) (count_events kind (m + 1) acts)
    ∙ sym (count_more (of_event kind) (record { event = event; at = at }) (coming_in (wire_acts (m + 1) acts)))
count_events kind m (act.Gave out done ∷ acts) = omega (arith, count_more (takes kind) (act.Gave out done) acts, count_events kind (m + 1) acts)
count_events kind m (act.Read ok ∷ acts) = omega (arith, count_more (takes kind) (act.Read ok) acts, count_events kind (m + 1) acts)
count_events kind m (act.Wrote at bytes ok ∷ acts) = omega (arith, count_more (takes kind) (act.Wrote at bytes ok) acts, count_events kind (m + 1) acts)
count_events kind m (act.Synced ok ∷ acts) = omega (arith, count_more (takes kind) (act.Synced ok) acts, count_events kind (m + 1) acts)

-- ---- the events that were handed out

-- events of which none ends the run
abbrev pub NoneEnds : List Coming → Type 0
NoneEnds [] = ⊤
NoneEnds (coming ∷ later) = IsNoEnd (took coming.event coming.at) × NoneEnds later

hands_event : (coming later : List Coming) (e : Event) (at : ℕ) → HandsOne coming (act.Took e at) later
    → (e ≡ event.Failed) ⊎ ((first_coming coming ≡ record { event = e; at = at }) × (later ≡ drop 1 coming))
hands_event coming later event.Failed at one = inl refl
hands_event coming later (event.Datagram from bytes) at one = inr one
hands_event coming later (event.Opened conn from) at one = inr one
hands_event coming later (event.Piece conn bytes) at one = inr one
hands_event coming later (event.Closed conn) at one = inr one
hands_event coming later event.Tick at one = inr one
hands_event coming later event.Restart at one = inr one
hands_event coming later event.End at one = inr one

abbrev planned : Event → ℕ → Coming
planned e at = record { event = e; at = at }

no_gave : (out : OwnedOut) (done : Bool) (at : ℕ) → gave out done ≡ took event.End at → ⊥
no_gave out done at is = absurd cc

event_of : (e : Event) (t at : ℕ) → took e t ≡ took event.End at → e ≡ event.End
event_of e t at is = cc

act_of : (front last : Timed) (rest : List Timed) → front ∷ rest ≡ last ∷ [] → front.act ≡ last.act
act_of front last rest is = cc

front_of : (front b : Timed) (rest before : List Timed) → front ∷ rest ≡ b ∷ before → (front ≡ b) × (rest ≡ before)
front_of front b rest before is = (cc, cc)

no_end : (t : ℕ) → IsNoEnd (took event.End t) → ⊥
no_end t none = none

not_failed : {P : Type 0} (e : Event) (t : ℕ) → IsNoEnd (took e t) → (e ≡ event.Failed) ⊎ P → P
not_failed e t goes (inl failed) = absurd (subst (λ (x : Event). IsNoEnd (took x t)) failed goes)
not_failed e t goes (inr p) = p

end_is_no_failure : event.End ≡ event.Failed → ⊥
end_is_no_failure is = absurd cc

end_not_failed : {P : Type 0} (e : Event) → e ≡ event.End → (e ≡ event.Failed) ⊎ P → P
end_not_failed e end (inl failed) = absurd (end_is_no_failure (sym end ∙ failed))
end_not_failed e end (inr p) = p

-- End came where nothing was to come any more
at_end : (coming : List Coming) (e : Event) (t : ℕ) (rest : List Timed) → NoneEnds coming → first_coming coming ≡ planned e t → e ≡ event.End → rest ≡ []
    → planned e t ∷ coming_in rest ≡ coming ++ planned event.End 0 ∷ []
at_end [] e t rest none first end empty = ap (λ (r : List Timed). planned e t ∷ coming_in r) empty ∙ ap (λ (c : Coming). c ∷ []) (sym first)
at_end (c ∷ coming) e t rest none first end empty =
    let goes : IsNoEnd (took e t) = subst (λ (x : Coming). IsNoEnd (took x.event x.at)) first none.0 in
    absurd (no_end t (subst (λ (x : Event). IsNoEnd (took x t)) end goes))

-- Where no event that was to come ends the run and End came last, all of them came, in order, and then End.
pub handed : (coming : List Coming) (m : ℕ) (calls : List Act) (later : List Coming) (before : List Timed) (last : Timed) (at : ℕ)
    → NoneEnds coming → Hands coming calls later → last.act ≡ took event.End at → wire_acts m calls ≡ before ++ last ∷ [] → GoOn before
    → coming_in (wire_acts m calls) ≡ coming ++ (record { event = event.End; at = 0 }) ∷ []
handed coming m [] later [] last at none hands ends are on = absurd cc
handed coming m [] later (b ∷ before) last at none hands ends are on = absurd cc
handed coming m (act.Read ok ∷ calls) later before last at none hands ends are on =
    handed coming (m + 1) calls later before last at none (subst (λ (c : List Coming). Hands c calls later) hands.1 hands.2) ends are on
handed coming m (act.Wrote place bytes ok ∷ calls) later before last at none hands ends are on =
    handed coming (m + 1) calls later before last at none (subst (λ (c : List Coming). Hands c calls later) hands.1 hands.2) ends are on
handed coming m (act.Synced ok ∷ calls) later before last at none hands ends are on =
    handed coming (m + 1) calls later before last at none (subst (λ (c : List Coming). Hands c calls later) hands.1 hands.2) ends are on
handed coming m (act.Gave out done ∷ calls) later [] last at none hands ends are on = absurd (no_gave out done at (act_of _ last _ are ∙ ends))
handed coming m (act.Gave out done ∷ calls) later (b ∷ before) last at none hands ends are on =
    handed coming (m + 1) calls later before last at none (subst (λ (c : List Coming). Hands c calls later) hands.1 hands.2) ends (front_of _ b _ _ are).1 on.1
handed coming m (act.Took e t ∷ calls) later [] last at none hands ends are on =
    let end : e ≡ event.End = event_of e t at (act_of _ last _ are ∙ ends) in
    let one = end_not_failed e end (hands_event coming hands.0 e t hands.1) in
    at_end coming e t (wire_acts (m + 1) calls) none one.0 end (front_of _ last _ [] are).1
handed [] m (act.Took e t ∷ calls) later (b ∷ before) last at none hands ends are on =
    let goes : IsNoEnd (took e t) = subst (λ (x : Timed). IsNoEnd x.act) (sym (front_of _ b _ _ are).0) on.0 in
    let one = not_failed e t goes (hands_event [] hands.0 e t hands.1) in
    absurd (no_end t (subst (λ (x : Coming). IsNoEnd (took x.event t)) (sym one.0) goes))
handed (c ∷ coming) m (act.Took e t ∷ calls) later (b ∷ before) last at none hands ends are on =
    let both = front_of _ b _ _ are in
    let goes : IsNoEnd (took e t) = subst (λ (x : Timed). IsNoEnd x.act) (sym both.0) on.0 in
    let one = not_failed e t goes (hands_event (c ∷ coming) hands.0 e t hands.1) in
    let others = handed coming (m + 1) calls later before last at none.1 (subst (λ (l : List Coming). Hands l calls later) one.1 hands.2) ends both.1 on.1 in
    ap (λ (l : List Coming). planned e t ∷ l) others ∙ ap (λ (x : Coming). x ∷ coming ++ planned event.End 0 ∷ []) (sym one.0)

-- the report by the counts of the calls
pub text_is : (acts : List Act) (rows e created_n changed_n deleted_n content_n conflict_n other_n : ℕ) → e ≡ count_by (takes is_no_end) acts
    → created_n ≡ count_by (gives created) acts → changed_n ≡ count_by (gives changed) acts → deleted_n ≡ count_by (gives deleted) acts
    → content_n ≡ count_by (gives content) acts → conflict_n ≡ count_by (gives conflict) acts → other_n ≡ count_by (gives other) acts
    → lines ((codes "events", e) ∷ (codes "created", created_n) ∷ (codes "changed", changed_n) ∷ (codes "deleted", deleted_n)
    ∷ (codes "content", content_n) ∷ (codes "conflict", conflict_n) ∷ (codes "other", other_n) ∷ (codes "rows", rows) ∷ [])
    ≡ load_text (wire_acts 0 acts) rows
text_is acts rows e a b d f g h e_is a_is b_is d_is f_is g_is h_is =
    rw (
      e_is,
      a_is,
      b_is,
      d_is,
      f_is,
      g_is,
      h_is,
      count_events is_no_end 0 acts,
      count_sends created 0 acts,
      count_sends changed 0 acts,
      count_sends deleted 0 acts,
      count_sends content 0 acts,
      count_sends conflict 0 acts,
      count_sends other 0 acts,
    ) refl
