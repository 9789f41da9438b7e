-- What a crash leaves, one part of a run after the other.
use Rattle.std.proofs.Common.{◌≡◌, ℕ, ◌+◌, ◌<◌, ◌≤◌, ◌⊎◌, inl, inr, Bool, true, false, zero, suc, if◌then◌else◌, List, [], ◌∷◌, ◌++◌, length, take, Option, Some, None, refl, sym, ap, ◌∙◌, subst, arith, append_assoc, append-nil, length-append, le_refl}
use Rattle.std.specs.Prelude.{nat_lt}
use Rattle.std.proofs.Math.Path.{fun_ext}
use Rattle.std.proofs.lemmas.Bool.Decides.{nat_tests}
use Rattle.dots_host.specs.declared.out.OwnedOut.{OwnedOut}
use Rattle.dots_host.specs.declared.event.Event.{Event}
use Rattle.dots_host.specs.Acts.{WireAct, took, gave, Timed}
use Rattle.dots_host.specs.Runs.{Owing, Trace, each_telling, IsSend, outs_of, Gives}
use Rattle.dots_host.proofs.RunLemmas.{outs_back}
use Rattle.dots_host.specs.Media.{Medium, Media, IsImage, all_media}
use Rattle.dots_host.specs.Becoming.{EachMedium, KeepsMedia, Leaves, RestsWith}
use Rattle.slot_store.proofs.Steps.{image_at_rest}
use Rattle.dots_settings.specs.Settings.{SettingsValue}
use Rattle.dots_gateway.specs.declared.exchange.Exchange.{Exchange}
use Rattle.gateway_agent.specs.Passing.{GatewayState, step}
use Rattle.gateway_agent.specs.Turning.{HasAlike, time_in}
use Rattle.gateway_agent.specs.Surviving.{Story, kept_shown, shown, time_shown, time_at, past_of, NoneBefore, MeansAt, EachFrom, LeavesAt}

-- ---- runs with all that they tell

pub story_length : (old new : Owing GatewayState) (acts : List Timed) (trace : List GatewayState) → Story old acts trace new → length acts ≡ length trace
story_length old new [] [] s = refl
story_length old new [] (told ∷ trace) s = absurd s
story_length old new (timed ∷ acts) [] s = absurd s
story_length old new (timed ∷ acts) (told ∷ trace) s = let same = story_length s.0 new acts trace s.3 in omega (arith, same)

pub story_then : (old between new : Owing GatewayState) (front back : List Timed) (told later : List GatewayState) → Story old front told between → Story between back later new
    → Story old (front ++ back) (told ++ later) new
story_then old between new [] back [] later a b = subst (λ start. Story start back later new) a b
story_then old between new (timed ∷ front) back (state ∷ told) later a b = (a.0, a.1, a.2, story_then a.0 between new front back told later a.3 b)
story_then old between new [] back (state ∷ told) later a b = absurd a
story_then old between new (timed ∷ front) back [] later a b = absurd a

pub story_trace : (old new : Owing GatewayState) (acts : List Timed) (trace : List GatewayState) → Story old acts trace new → Trace step old acts trace new
story_trace old new [] [] s = s
story_trace old new [] (told ∷ trace) s = absurd s
story_trace old new (timed ∷ acts) [] s = absurd s
story_trace old new (timed ∷ acts) (told ∷ trace) s = (s.0, s.1, story_trace s.0 new acts trace s.3)

-- the states that sends tell
abbrev pub shown_by : List (GatewayState × OwnedOut) → List GatewayState
shown_by [] = []
shown_by (send ∷ owed) = send.0 ∷ shown_by owed

-- ---- before and after a moment

no_earlier : (a b : ℕ) → b ≤ a → nat_lt a b ≡ false
no_earlier a b le = grind (arith, nat_tests, le)

earlier : (a b : ℕ) → a < b → nat_lt a b ≡ true
earlier a b less = grind (arith, nat_tests, less)

pub gives_late : (m moment : ℕ) (outs : List OwnedOut) (acts : List Timed) → m ≤ moment → Gives moment outs acts → NoneBefore m acts
gives_late m moment [] [] le g = tt
gives_late m moment [] (timed ∷ acts) le g = absurd g
gives_late m moment (out ∷ outs) [] le g = absurd g
gives_late m moment (out ∷ outs) (timed ∷ acts) le g = let at = g.0 in (omega (arith, at, le), gives_late m (moment + 1) outs acts (omega (arith, le)) g.2)

pub none_then : (m : ℕ) (front back : List Timed) → NoneBefore m front → NoneBefore m back → NoneBefore m (front ++ back)
none_then m [] back a b = b
none_then m (timed ∷ front) back a b = (a.0, none_then m front back a.1 b)

shown_then : (m : ℕ) (front back : List Timed) (told later : List GatewayState) (n : ℕ) → length front ≡ length told → shown m (front ++ back) (told ++ later) n ≡ shown m back later (shown m front told n)
shown_then m [] back [] later n same = refl
shown_then m [] back (state ∷ told) later n same = absurd (omega (arith, same))
shown_then m (timed ∷ front) back [] later n same = absurd (omega (arith, same))
shown_then m (timed ∷ front) back (state ∷ told) later n same =
    shown_then m front back told later (if nat_lt timed.moment m then kept_shown timed.act state n else n) (omega (arith, same))

time_then : (m : ℕ) (front back : List Timed) (told later : List GatewayState) (t : ℕ) → length front ≡ length told → time_at m (front ++ back) (told ++ later) t ≡ time_at m back later (time_at m front told t)
time_then m [] back [] later t same = refl
time_then m [] back (state ∷ told) later t same = absurd (omega (arith, same))
time_then m (timed ∷ front) back [] later t same = absurd (omega (arith, same))
time_then m (timed ∷ front) back (state ∷ told) later t same =
    time_then m front back told later (if nat_lt timed.moment m then time_shown timed.act state t else t) (omega (arith, same))

pub none_earlier : (m n : ℕ) (acts : List Timed) → m ≤ n → NoneBefore n acts → NoneBefore m acts
none_earlier m n [] le late = tt
none_earlier m n (timed ∷ acts) le late = let at = late.0 in (omega (arith, at, le), none_earlier m n acts le late.1)

shown_late : (m : ℕ) (acts : List Timed) (trace : List GatewayState) (n : ℕ) → NoneBefore m acts → shown m acts trace n ≡ n
shown_late m [] trace n late = refl
shown_late m (timed ∷ acts) [] n late = refl
shown_late m (timed ∷ acts) (told ∷ trace) n late =
    ap (λ b. shown m acts trace (if b then kept_shown timed.act told n else n)) (no_earlier timed.moment m late.0) ∙ shown_late m acts trace n late.1

time_late : (m : ℕ) (acts : List Timed) (trace : List GatewayState) (t : ℕ) → NoneBefore m acts → time_at m acts trace t ≡ t
time_late m [] trace t late = refl
time_late m (timed ∷ acts) [] t late = refl
time_late m (timed ∷ acts) (told ∷ trace) t late =
    ap (λ b. time_at m acts trace (if b then time_shown timed.act told t else t)) (no_earlier timed.moment m late.0) ∙ time_late m acts trace t late.1

-- ---- sends

-- none of the sends tells more entries
abbrev pub ShowFew : ℕ → List (GatewayState × OwnedOut) → Type 0
ShowFew most [] = Unit {0}
ShowFew most (send ∷ owed) = (length send.0.kept ≤ most) × ShowFew most owed

few_after : (act : WireAct) (out : OwnedOut) (told : GatewayState) (b : Bool) (n most : ℕ) → IsSend out act → n ≤ most → length told.kept ≤ most → (if b then kept_shown act told n else n) ≤ most
few_after (took e at) out told b n most s less few = absurd s
few_after (gave o d) out told true n most s less few = few
few_after (gave o d) out told false n most s less few = less

shown_sends : (m moment : ℕ) (owed : List (GatewayState × OwnedOut)) (acts : List Timed) (n most : ℕ) → Gives moment (outs_of owed) acts → n ≤ most → ShowFew most owed → shown m acts (shown_by owed) n ≤ most
shown_sends m moment [] [] n most g less few = less
shown_sends m moment [] (timed ∷ acts) n most g less few = absurd g
shown_sends m moment (send ∷ owed) [] n most g less few = absurd g
shown_sends m moment (send ∷ owed) (timed ∷ acts) n most g less few =
    shown_sends m (moment + 1) owed acts (if nat_lt timed.moment m then kept_shown timed.act send.0 n else n) most g.2
    (few_after timed.act send.1 send.0 (nat_lt timed.moment m) n most g.1 less few.0) few.1

no_time_sent : (act : WireAct) (out : OwnedOut) (told : GatewayState) (b : Bool) (t : ℕ) → IsSend out act → (if b then time_shown act told t else t) ≡ t
no_time_sent (took e at) out told b t s = absurd s
no_time_sent (gave o d) out told true t s = refl
no_time_sent (gave o d) out told false t s = refl

time_sends : (m moment : ℕ) (owed : List (GatewayState × OwnedOut)) (acts : List Timed) (t : ℕ) → Gives moment (outs_of owed) acts → time_at m acts (shown_by owed) t ≡ t
time_sends m moment [] [] t g = refl
time_sends m moment [] (timed ∷ acts) t g = absurd g
time_sends m moment (send ∷ owed) [] t g = absurd g
time_sends m moment (send ∷ owed) (timed ∷ acts) t g =
    ap (λ u. time_at m acts (shown_by owed) u) (no_time_sent timed.act send.1 send.0 (nat_lt timed.moment m) t g.1) ∙ time_sends m (moment + 1) owed acts t g.2

gives_length : (m : ℕ) (owed : List (GatewayState × OwnedOut)) (acts : List Timed) → Gives m (outs_of owed) acts → length acts ≡ length (shown_by owed)
gives_length m [] [] g = refl
gives_length m [] (timed ∷ acts) g = absurd g
gives_length m (send ∷ owed) [] g = absurd g
gives_length m (send ∷ owed) (timed ∷ acts) g = let same = gives_length (m + 1) owed acts g.2 in omega (arith, same)

few_each : (new : GatewayState) (outs : List OwnedOut) → ShowFew (length new.kept) (each_telling new outs)
few_each new [] = tt
few_each new (out ∷ outs) = (le_refl (length new.kept), few_each new outs)

-- ---- the disk, part by part

each_so : (m : ℕ) (media : List Medium) (P R : ℕ → (ℕ → ℕ) → Type 0) → ((k : ℕ) → m ≤ k → k < m + length media → (image : ℕ → ℕ) → P k image → R k image) → EachFrom m media P → EachFrom m media R
each_so m [] P R goes each = tt
each_so m (medium ∷ media) P R goes each =
    ((λ image is. goes m (le_refl m) (omega arith) image (each.0 image is)), each_so (m + 1) media P R (λ k low high. goes k (omega (arith, low)) (omega (arith, high))) each.1)

each_then : (m : ℕ) (front back : List Medium) (P : ℕ → (ℕ → ℕ) → Type 0) → EachFrom m front P → EachFrom (m + length front) back P → EachFrom m (front ++ back) P
each_then m [] back P a b = subst (λ k. EachFrom k back P) (omega arith) b
each_then m (medium ∷ front) back P a b = (a.0, each_then (m + 1) front back P a.1 (subst (λ k. EachFrom k back P) (omega arith) b))

-- how many moments came
many : (old new : Media) (added : List Medium) → all_media new ≡ all_media old ++ added → length new.past ≡ length old.past + length added
many old new added is =
    let count = ap length is in
    let before = length-append old.past (old.now ∷ []) in
    let after_it = length-append new.past (new.now ∷ []) in
    let both = length-append (all_media old) added in
    omega (arith, count, before, after_it, both)

module _ (P : ℕ → (ℕ → ℕ) → Type 0) where
  pub leaves_at_then : (old between new : Option Media) → LeavesAt old between P → LeavesAt between new P → LeavesAt old new P
  leaves_at_then None between new a b = absurd a
  leaves_at_then (Some old) None new a b = absurd a
  leaves_at_then (Some old) (Some between) None a b = absurd b
  leaves_at_then (Some old) (Some between) (Some new) a b = (
    a.0 ++ b.0,
    b.1 ∙ ap (λ media. media ++ b.0) a.1 ∙ append_assoc (all_media old) a.0 b.0,
    each_then (length old.past + 1) a.0 b.0 P a.2 (subst (λ k. EachFrom k b.0 P) (let count = many old between a.0 a.1 in omega (arith, count)) b.2),
  )

  pub leaves_at_none : (media : Option Media) (Any : (ℕ → ℕ) → Type 0) → RestsWith media Any → LeavesAt media media P
  leaves_at_none None Any rests = absurd rests
  leaves_at_none (Some media) Any rests = ([], sym (append-nil (all_media media)), tt)

  each_at : (m : ℕ) (media : List Medium) (R : (ℕ → ℕ) → Type 0) → ((k : ℕ) → m ≤ k → k < m + length media → (image : ℕ → ℕ) → R image → P k image)
      → EachMedium media (λ medium. (image : ℕ → ℕ) → IsImage medium image → R image) → EachFrom m media P
  each_at m [] R goes each = tt
  each_at m (medium ∷ media) R goes each =
      ((λ image is. goes m (le_refl m) (omega arith) image (each.0 image is)), each_at (m + 1) media R (λ k low high. goes k (omega (arith, low)) (omega (arith, high))) each.1)

  -- what holds at each moment of a part holds there at its moment
  pub leaves_there : (old new : Option Media) (Any R : (ℕ → ℕ) → Type 0) → RestsWith old Any → ((k : ℕ) → past_of old < k → k ≤ past_of new → (image : ℕ → ℕ) → R image → P k image)
      → Leaves old new R → LeavesAt old new P
  leaves_there None new Any R rests goes leaves = absurd rests
  leaves_there (Some old) None Any R rests goes leaves = absurd leaves
  leaves_there (Some old) (Some new) Any R rests goes leaves = (
    leaves.0,
    leaves.1,
    each_at (length old.past + 1) leaves.0 R (λ k low high. goes k (omega (arith, low)) (let count = many old new leaves.0 leaves.1 in omega (arith, high, count))) leaves.2,
  )

pub leaves_at_so : (old new : Option Media) (P R : ℕ → (ℕ → ℕ) → Type 0) → ((k : ℕ) → k ≤ past_of new → (image : ℕ → ℕ) → P k image → R k image) → LeavesAt old new P → LeavesAt old new R
leaves_at_so None new P R goes leaves = absurd leaves
leaves_at_so (Some old) None P R goes leaves = absurd leaves
leaves_at_so (Some old) (Some new) P R goes leaves = (
  leaves.0,
  leaves.1,
  each_so (length old.past + 1) leaves.0 P R (λ k low high. goes k (let count = many old new leaves.0 leaves.1 in omega (arith, high, count))) leaves.2,
)

-- an image of a disk at rest has what a read gives
pub image_rests : (medium : Medium) (image : ℕ → ℕ) (R : (ℕ → ℕ) → Type 0) → medium.pending ≡ [] → R medium.seen → IsImage medium image → R image
image_rests medium image R none image_has is = subst R (sym (fun_ext (image_at_rest medium image none is))) image_has

-- a disk that rests, and on which nothing is written, has the same at each moment
pub rests_on : (old new : Option Media) (R : (ℕ → ℕ) → Type 0) → RestsWith old R → KeepsMedia old new → Leaves old new R
rests_on None new R rests keeps = absurd rests
rests_on (Some old) None R rests keeps = absurd keeps
rests_on (Some old) (Some new) R rests keeps = (keeps.0, keeps.1, each keeps.0 keeps.2)
  where
    each : (media : List Medium) → EachMedium media (λ medium. medium ≡ old.now) → EachMedium media (λ medium. (image : ℕ → ℕ) → IsImage medium image → R image)
    each [] are = tt
    each (medium ∷ media) are =
        ((λ image is. image_rests old.now image R rests.0 rests.1 (subst (λ medium. IsImage medium image) are.0 is)), each media are.1)

pub rests_still : (old new : Option Media) (R : (ℕ → ℕ) → Type 0) → RestsWith old R → KeepsMedia old new → RestsWith new R
rests_still None new R rests keeps = absurd rests
rests_still (Some old) None R rests keeps = absurd keeps
rests_still (Some old) (Some new) R rests keeps = (ap (λ (medium : Medium). medium.pending) keeps.3 ∙ rests.0, subst (λ (medium : Medium). R medium.seen) (sym keeps.3) rests.1)

pub keeps_past : (old new : Option Media) (Any : (ℕ → ℕ) → Type 0) → RestsWith old Any → KeepsMedia old new → past_of old ≤ past_of new
keeps_past None new Any rests keeps = absurd rests
keeps_past (Some old) None Any rests keeps = absurd keeps
keeps_past (Some old) (Some new) Any rests keeps = let count = many old new keeps.0 keeps.1 in omega (arith, count)

pub leaves_past : (old new : Option Media) (Any R : (ℕ → ℕ) → Type 0) → RestsWith old Any → Leaves old new R → past_of old ≤ past_of new
leaves_past None new Any R rests leaves = absurd rests
leaves_past (Some old) None Any R rests leaves = absurd leaves
leaves_past (Some old) (Some new) Any R rests leaves = let count = many old new leaves.0 leaves.1 in omega (arith, count)

pub leaves_at_past : (old new : Option Media) (P : ℕ → (ℕ → ℕ) → Type 0) → LeavesAt old new P → past_of old ≤ past_of new
leaves_at_past None new P leaves = absurd leaves
leaves_at_past (Some old) None P leaves = absurd leaves
leaves_at_past (Some old) (Some new) P leaves = let count = many old new leaves.0 leaves.1 in omega (arith, count)

pub later_past : (a b c : Option Media) (Before Either : (ℕ → ℕ) → Type 0) → RestsWith a Before → KeepsMedia a b → Leaves b c Either → past_of a ≤ past_of c
later_past a b c Before Either rests keeps writes =
    let later_b = keeps_past a b Before rests keeps in
    let later_c = leaves_past b c Before Either (rests_still a b Before rests keeps) writes in
    omega (arith, later_b, later_c)

-- ---- one turn

take_front : (n : ℕ) (xs ys : List Exchange) → n ≤ length xs → take n (xs ++ ys) ≡ take n xs
take_front zero xs ys le = refl
take_front (suc n) [] ys le = absurd (omega (arith, le))
take_front (suc n) (x ∷ xs) ys le = ap (λ zs. x ∷ zs) (take_front n xs ys (omega (arith, le)))

take_all : (xs : List Exchange) → take (length xs) xs ≡ xs
take_all [] = refl
take_all (x ∷ xs) = ap (λ zs. x ∷ zs) (take_all xs)

either_way : (b : Bool) (n : ℕ) → (if b then n else n) ≡ n
either_way true n = refl
either_way false n = refl

module _ (settings : SettingsValue) (most : ℕ) (start : GatewayState) where
  abbrev HasFrom : ℕ → List Exchange → (ℕ → ℕ) → Type 0
  HasFrom t kept image = HasAlike settings most t kept image

  abbrev first_kept : ℕ
  first_kept = length start.kept

  -- the moments before the turn
  older : (acts more : List Timed) (trace told : List GatewayState) (kept extra : List Exchange) (m : ℕ) (image : ℕ → ℕ) → length acts ≡ length trace → NoneBefore m more
      → MeansAt settings most start acts trace kept m image → MeansAt settings most start (acts ++ more) (trace ++ told) (kept ++ extra) m image
  older acts more trace told kept extra m image same late stands = record {
    count = stands.count;
    within = let within = stands.within in let longer = length-append kept extra in omega (arith, within, longer);
    has_shown = subst (λ n. n ≤ stands.count) (sym (shown_then m acts more trace told first_kept same ∙ shown_late m more told (shown m acts trace first_kept) late)) stands.has_shown;
    image_has = subst (λ t. HasFrom t (take stands.count (kept ++ extra)) image) (sym (time_then m acts more trace told (time_in start) same ∙ time_late m more told (time_at m acts trace (time_in start)) late))
        (subst (λ es. HasFrom (time_at m acts trace (time_in start)) es image) (sym (take_front stands.count kept extra stands.within)) stands.image_has);
  }

  -- how a run stands in the middle of an event, with this kept and time: it survived so far
  pub record IsAt (kept : List Exchange) (time : ℕ) (first media : Option Media) (acts : List Timed) (trace : List GatewayState) : Type 0 where
    pub same : length acts ≡ length trace
    pub bounded : (m : ℕ) → shown m acts trace first_kept ≤ length kept
    pub timed : (m : ℕ) → past_of media < m → time_at m acts trace (time_in start) ≡ time
    pub survives : LeavesAt first media (MeansAt settings most start acts trace kept)

  -- ---- an event is taken, and moves the time

  module _ (acts : List Timed) (trace : List GatewayState) (kept : List Exchange) (first a b : Option Media) (moment at : ℕ) (what : Event) (new : GatewayState)
      (same : length acts ≡ length trace) (bounded : (m : ℕ) → shown m acts trace first_kept ≤ length kept) (here : past_of a ≡ moment)
      (leaves : LeavesAt first a (MeansAt settings most start acts trace kept)) (rests : RestsWith a (HasFrom (time_in new) kept)) (keeps : KeepsMedia a b) where
    abbrev event_taken : Timed
    event_taken = record { moment = moment; act = took what at }

    abbrev Taken : ℕ → (ℕ → ℕ) → Type 0
    Taken m image = MeansAt settings most start (acts ++ event_taken ∷ []) (trace ++ new ∷ []) kept m image

    shown_taken : (m : ℕ) → shown m (acts ++ event_taken ∷ []) (trace ++ new ∷ []) first_kept ≡ shown m acts trace first_kept
    shown_taken m = shown_then m acts (event_taken ∷ []) trace (new ∷ []) first_kept same ∙ either_way (nat_lt moment m) (shown m acts trace first_kept)

    time_taken : (m : ℕ) → moment < m → time_at m (acts ++ event_taken ∷ []) (trace ++ new ∷ []) (time_in start) ≡ (time_in new)
    time_taken m less =
        time_then m acts (event_taken ∷ []) trace (new ∷ []) (time_in start) same
        ∙ ap (λ b. if b then (time_in new) else time_at m acts trace (time_in start)) (earlier moment m less)

    a_to_b : past_of a ≤ past_of b
    a_to_b = keeps_past a b (HasFrom (time_in new) kept) rests keeps

    before_taken : LeavesAt first a Taken
    before_taken =
        leaves_at_so first a (MeansAt settings most start acts trace kept) Taken (λ k under image stands.
        subst (λ es. MeansAt settings most start (acts ++ event_taken ∷ []) (trace ++ new ∷ []) es k image) (append-nil kept)
        (older acts (event_taken ∷ []) trace (new ∷ []) kept [] k image same (omega (arith, under, here), tt) stands)) leaves

    still_held : (k : ℕ) → past_of a < k → k ≤ past_of b → (image : ℕ → ℕ) → HasFrom (time_in new) kept image → Taken k image
    still_held k low high image image_has = record {
      count = length kept;
      within = le_refl (length kept);
      has_shown = subst (λ n. n ≤ length kept) (sym (shown_taken k)) (bounded k);
      image_has = subst (λ t. HasFrom t (take (length kept) kept) image) (sym (time_taken k (omega (arith, low, here))))
          (subst (λ es. HasFrom (time_in new) es image) (sym (take_all kept)) image_has);
    }

    pub event_on : IsAt kept (time_in new) first b (acts ++ event_taken ∷ []) (trace ++ new ∷ [])
    event_on = record {
      same =
          let l = length-append acts (event_taken ∷ []) in
          let t = length-append trace (new ∷ []) in
          omega (arith, l, t, same);
      bounded = λ m. subst (λ n. n ≤ length kept) (sym (shown_taken m)) (bounded m);
      timed = λ m less. time_taken m (let p = a_to_b in omega (arith, less, p, here));
      survives = leaves_at_then Taken first a b before_taken
          (leaves_there Taken a b (HasFrom (time_in new) kept) (HasFrom (time_in new) kept) rests still_held (rests_on a b (HasFrom (time_in new) kept) rests keeps));
    }

  -- ---- a turn of the event

  module _ (kept extra : List Exchange) (new : GatewayState) (time : ℕ) (first a c : Option Media) (acts more : List Timed) (trace : List GatewayState) (outs : List OwnedOut) (moment : ℕ)
      (grows : new.kept ≡ kept ++ extra) (late : past_of c ≤ moment) (gave_them : Gives moment outs more)
      (here : IsAt kept time first a acts trace) (rests : RestsWith a (HasFrom time kept))
      (writes : Leaves a c (λ image. HasFrom time kept image ⊎ HasFrom time new.kept image)) where
    abbrev owed : List (GatewayState × OwnedOut)
    owed = each_telling new outs

    abbrev Before : (ℕ → ℕ) → Type 0
    Before = HasFrom time kept

    abbrev After : (ℕ → ℕ) → Type 0
    After = HasFrom time new.kept

    abbrev Either : (ℕ → ℕ) → Type 0
    Either image = HasFrom time kept image ⊎ HasFrom time new.kept image

    abbrev Whole : ℕ → (ℕ → ℕ) → Type 0
    Whole m image = MeansAt settings most start (acts ++ more) (trace ++ shown_by owed) new.kept m image

    gives : Gives moment (outs_of owed) more
    gives = subst (λ xs. Gives moment xs more) (sym (outs_back new outs)) gave_them

    longer : length kept ≤ length new.kept
    longer = let is = ap length grows ∙ length-append kept extra in omega (arith, is)

    front_is : take (length kept) new.kept ≡ kept
    front_is = ap (take (length kept)) grows ∙ take_front (length kept) kept extra (le_refl (length kept)) ∙ take_all kept

    a_to_c : past_of a ≤ past_of c
    a_to_c = leaves_past a c Before Either rests writes

    shown_on : (m : ℕ) → shown m (acts ++ more) (trace ++ shown_by owed) first_kept ≡ shown m more (shown_by owed) (shown m acts trace first_kept)
    shown_on m = shown_then m acts more trace (shown_by owed) first_kept here.same

    time_on : (m : ℕ) → past_of a < m → time_at m (acts ++ more) (trace ++ shown_by owed) (time_in start) ≡ time
    time_on m less =
        time_then m acts more trace (shown_by owed) (time_in start) here.same
        ∙ time_sends m moment owed more (time_at m acts trace (time_in start)) gives ∙ here.timed m less

    none_shown : (m : ℕ) → m ≤ moment → shown m more (shown_by owed) (shown m acts trace first_kept) ≡ shown m acts trace first_kept
    none_shown m le = shown_late m more (shown_by owed) (shown m acts trace first_kept) (gives_late m moment (outs_of owed) more le gives)

    -- at a moment of the turn, with so many entries on the disk
    with_count : (m count : ℕ) (image : ℕ → ℕ) → past_of a < m → count ≤ length new.kept → shown m more (shown_by owed) (shown m acts trace first_kept) ≤ count
        → HasFrom time (take count new.kept) image → Whole m image
    with_count m count image less within told image_has = record {
      count = count;
      within = within;
      has_shown = subst (λ n. n ≤ count) (sym (shown_on m)) told;
      image_has = subst (λ t. HasFrom t (take count new.kept) image) (sym (time_on m less)) image_has;
    }

    -- before the first send the disk has the old entries or the new ones
    unsent : (m : ℕ) (image : ℕ → ℕ) → past_of a < m → m ≤ moment → Either image → Whole m image
    unsent m image less le (inl image_has) =
        with_count m (length kept) image less longer
        (subst (λ n. n ≤ length kept) (sym (none_shown m le)) (here.bounded m))
        (subst (λ es. HasFrom time es image) (sym front_is) image_has)
    unsent m image less le (inr image_has) =
        let told = here.bounded m in
        let more_there = longer in
        with_count m (length new.kept) image less (le_refl (length new.kept))
        (subst (λ n. n ≤ length new.kept) (sym (none_shown m le)) (omega (arith, told, more_there)))
        (subst (λ es. HasFrom time es image) (sym (take_all new.kept)) image_has)

    few_shown : (m : ℕ) → shown m more (shown_by owed) (shown m acts trace first_kept) ≤ length new.kept
    few_shown m =
        let told = here.bounded m in
        let more_there = longer in
        shown_sends m moment owed more (shown m acts trace first_kept) (length new.kept) gives (omega (arith, told, more_there)) (few_each new outs)

    -- and then the new ones alone
    sent : (m : ℕ) (image : ℕ → ℕ) → past_of a < m → After image → Whole m image
    sent m image less image_has =
        with_count m (length new.kept) image less (le_refl (length new.kept)) (few_shown m)
        (subst (λ es. HasFrom time es image) (sym (take_all new.kept)) image_has)

    -- it was written
    written : LeavesAt first c Whole
    written =
        leaves_at_then Whole first a c
        (leaves_at_so first a (MeansAt settings most start acts trace kept) Whole (λ k under image stands.
        subst (λ es. MeansAt settings most start (acts ++ more) (trace ++ shown_by owed) es k image) (sym grows)
        (older acts more trace (shown_by owed) kept extra k image here.same
        (gives_late k moment (outs_of owed) more (let p = a_to_c in omega (arith, under, p, late)) gives) stands)) here.survives)
        (leaves_there Whole a c Before Either rests (λ k low high image image_has. unsent k image low (omega (arith, high, late)) image_has) writes)

    same_on : length (acts ++ more) ≡ length (trace ++ shown_by owed)
    same_on =
        let l = length-append acts more in
        let t = length-append trace (shown_by owed) in
        let s = here.same in
        let g = gives_length moment owed more gives in
        omega (arith, l, t, s, g)

    -- and then it was sent
    pub turn_on : (d : Option Media) → RestsWith c After → KeepsMedia c d → IsAt new.kept time first d (acts ++ more) (trace ++ shown_by owed)
    turn_on d rests_c sends =
        let p = a_to_c in
        let q = keeps_past c d After rests_c sends in
        record {
          same = same_on;
          bounded = λ m. subst (λ n. n ≤ length new.kept) (sym (shown_on m)) (few_shown m);
          timed = λ m less. time_on m (omega (arith, less, p, q));
          survives = leaves_at_then Whole first c d written
              (leaves_there Whole c d After After rests_c (λ k low high image image_has. sent k image (omega (arith, low, p)) image_has) (rests_on c d After rests_c sends));
        }

  -- a turn that was being written when the disk failed: nothing of it was sent
  pub broken_on : (kept extra : List Exchange) (new : GatewayState) (time : ℕ) (first a c : Option Media) (acts : List Timed) (trace : List GatewayState) → new.kept ≡ kept ++ extra
      → IsAt kept time first a acts trace → RestsWith a (HasFrom time kept)
      → Leaves a c (λ image. HasFrom time kept image ⊎ HasFrom time new.kept image)
      → LeavesAt first c (MeansAt settings most start acts trace new.kept)
  broken_on kept extra new time first a c acts trace grows here rests writes =
      subst (λ xs. LeavesAt first c (MeansAt settings most start xs trace new.kept)) (append-nil acts)
      (subst (λ ts. LeavesAt first c (MeansAt settings most start (acts ++ []) ts new.kept)) (append-nil trace)
      (written kept extra new time first a c acts [] trace [] (past_of c) grows (le_refl (past_of c)) tt here rests writes))

-- ---- the opening, before the first event

pub survives_opening : (settings : SettingsValue) (most : ℕ) (start : GatewayState) (first a b : Option Media) (acts : List Timed) (trace : List GatewayState) (kept extra : List Exchange) → kept ≡ start.kept ++ extra → NoneBefore (past_of a) acts
    → (Any : (ℕ → ℕ) → Type 0) → RestsWith first Any → Leaves first a (HasAlike settings most (time_in start) start.kept)
    → LeavesAt a b (MeansAt settings most start acts trace kept) → LeavesAt first b (MeansAt settings most start acts trace kept)
survives_opening settings most start first a b acts trace kept extra grown late Any rests leaves rest =
    let Whole : ℕ → (ℕ → ℕ) → Type 0 = λ m image. MeansAt settings most start acts trace kept m image in
    let Before : (ℕ → ℕ) → Type 0 = λ image. HasAlike settings most (time_in start) start.kept image in
    leaves_at_then Whole first a b (leaves_there Whole first a Any Before rests opened leaves) rest
  where
    opened : (k : ℕ) → past_of first < k → k ≤ past_of a → (image : ℕ → ℕ) → HasAlike settings most (time_in start) start.kept image → MeansAt settings most start acts trace kept k image
    opened k low high image image_has =
        let none = none_earlier k (past_of a) acts high late in record {
          count = length start.kept;
          within = let longer = ap length grown ∙ length-append start.kept extra in omega (arith, longer);
          has_shown = subst (λ n. n ≤ length start.kept) (sym (shown_late k acts trace (length start.kept) none)) (le_refl (length start.kept));
          image_has = subst (λ t. HasAlike settings most t (take (length start.kept) kept) image) (sym (time_late k acts trace (time_in start) none))
              (subst (λ es. HasAlike settings most (time_in start) es image)
              (sym (ap (take (length start.kept)) grown ∙ take_front (length start.kept) start.kept extra (le_refl (length start.kept)) ∙ take_all start.kept)) image_has);
        }
