-- What was sent, among the calls of a host.
use Rattle.std.proofs.Common.{◌≡◌, ℕ, suc, ◌+◌, Bool, true, false, List, [], ◌∷◌, ◌++◌, length, map, drop, Option, Some, None, refl, sym, ap, ◌∙◌, subst, append_assoc, append-nil, arith}
use Rattle.std.specs.Prelude.{flat_map, count_by, ◌==◌, ⊤}
use Rattle.std.proofs.lemmas.Bool.{eqb-true}
use Rattle.dots_load.specs.Report.{sends_in, unavailable}
use Rattle.dots_host.specs.declared.act.Act.{Act}
use Rattle.dots_host.specs.declared.act.Act.TheVariants as act
use Rattle.dots_host.specs.declared.out.OwnedOut.{OwnedOut}
use Rattle.dots_host.specs.Acts.{WireAct, took, gave, Timed, wire_acts}
use Rattle.dots_host.specs.Memory.{told}
use Rattle.dots_host.specs.Runs.{Added, Gives, IsSend, each_telling, outs_of}
use Rattle.dots_host.proofs.RunLemmas.{outs_back}
use Rattle.dots_host.specs.Media.{Media}
use Rattle.dots_host.specs.Becoming.{RestsWith, KeepsMedia}
use Rattle.dots_host.specs.Hosted.{Hosted, HandsOut}
use Rattle.world_play.specs.Calls.{sent_in, acts_in}

-- ---- the acts of a wire among calls that were added

wire_acts_then : (m : ℕ) (xs ys : List Act) → wire_acts m (xs ++ ys) ≡ wire_acts m xs ++ wire_acts (m + length xs) ys
wire_acts_then m [] ys = let at : m ≡ m + 0 = omega arith in ap (λ n. wire_acts n ys) at
wire_acts_then m (act.Took e t ∷ xs) ys = let rest = wire_acts_then (m + 1) xs ys in let at : m + 1 + length xs ≡ m + suc (length xs) = omega arith in
    ap (λ more. (record { moment = m; act = took e t }) ∷ more) (rest ∙ ap (λ n. wire_acts (m + 1) xs ++ wire_acts n ys) at)
wire_acts_then m (act.Gave o d ∷ xs) ys = let rest = wire_acts_then (m + 1) xs ys in let at : m + 1 + length xs ≡ m + suc (length xs) = omega arith in
    ap (λ more. (record { moment = m; act = gave o d }) ∷ more) (rest ∙ ap (λ n. wire_acts (m + 1) xs ++ wire_acts n ys) at)
wire_acts_then m (act.Read o ∷ xs) ys = let rest = wire_acts_then (m + 1) xs ys in let at : m + 1 + length xs ≡ m + suc (length xs) = omega arith in
    rest ∙ ap (λ n. wire_acts (m + 1) xs ++ wire_acts n ys) at
wire_acts_then m (act.Wrote a b o ∷ xs) ys = let rest = wire_acts_then (m + 1) xs ys in let at : m + 1 + length xs ≡ m + suc (length xs) = omega arith in
    rest ∙ ap (λ n. wire_acts (m + 1) xs ++ wire_acts n ys) at
wire_acts_then m (act.Synced o ∷ xs) ys = let rest = wire_acts_then (m + 1) xs ys in let at : m + 1 + length xs ≡ m + suc (length xs) = omega arith in
    rest ∙ ap (λ n. wire_acts (m + 1) xs ++ wire_acts n ys) at

-- ---- these acts are these sends

abbrev pub AreSends : List OwnedOut → List Timed → Type 0
AreSends [] [] = ⊤
AreSends (out ∷ outs) (timed ∷ acts) = IsSend out timed.act × AreSends outs acts
AreSends [] (timed ∷ acts) = ⊥
AreSends (out ∷ outs) [] = ⊥

pub given_sends : (m : ℕ) (outs : List OwnedOut) (acts : List Timed) → Gives m outs acts → AreSends outs acts
given_sends m [] [] gives = tt
given_sends m (out ∷ outs) (timed ∷ acts) gives = (gives.1, given_sends (m + 1) outs acts gives.2)
given_sends m [] (timed ∷ acts) gives = absurd gives
given_sends m (out ∷ outs) [] gives = absurd gives

pub sends_then : (front back : List OwnedOut) (acts more : List Timed) → AreSends front acts → AreSends back more → AreSends (front ++ back) (acts ++ more)
sends_then [] back [] more a b = b
sends_then (out ∷ front) back (timed ∷ acts) more a b = (a.0, sends_then front back acts more a.1 b)
sends_then [] back (timed ∷ acts) more a b = absurd a
sends_then (out ∷ front) back [] more a b = absurd a

sends_are : (m : ℕ) (outs : List OwnedOut) (calls : List Act) → AreSends outs (wire_acts m calls) → flat_map sent_in calls ≡ outs
sends_are m [] [] are = refl
sends_are m (out ∷ outs) [] are = absurd are
sends_are m [] (act.Took e t ∷ calls) are = absurd are
sends_are m (out ∷ outs) (act.Took e t ∷ calls) are = absurd are.0
sends_are m [] (act.Gave o d ∷ calls) are = absurd are
sends_are m (out ∷ outs) (act.Gave o d ∷ calls) are = ap (λ x. x ∷ flat_map sent_in calls) are.0 ∙ ap (λ xs. out ∷ xs) (sends_are (m + 1) outs calls are.1)
sends_are m outs (act.Read o ∷ calls) are = sends_are (m + 1) outs calls are
sends_are m outs (act.Wrote a b o ∷ calls) are = sends_are (m + 1) outs calls are
sends_are m outs (act.Synced o ∷ calls) are = sends_are (m + 1) outs calls are

-- the sends among the acts of a wire are those of the calls
sends_among : (m : ℕ) (calls : List Act) → sends_in (wire_acts m calls) ≡ flat_map sent_in calls
sends_among m [] = refl
sends_among m (act.Took e t ∷ calls) = sends_among (m + 1) calls
sends_among m (act.Gave o d ∷ calls) = ap (λ more. o ∷ more) (sends_among (m + 1) calls)
sends_among m (act.Read o ∷ calls) = sends_among (m + 1) calls
sends_among m (act.Wrote a b o ∷ calls) = sends_among (m + 1) calls
sends_among m (act.Synced o ∷ calls) = sends_among (m + 1) calls

-- no reply among the calls is 5.00
pub none_unavailable : (calls : List Act) (served : Bool) → served ≡ (count_by unavailable (sends_in (wire_acts 0 calls)) == 0) → served ≡ true → count_by unavailable (flat_map sent_in calls) ≡ 0
none_unavailable calls served is none =
    ap (count_by unavailable) (sym (sends_among 0 calls)) ∙ eqb-true (count_by unavailable (sends_in (wire_acts 0 calls))) 0 (sym is ∙ none)

-- ---- what a disk rests with

pub rests_on : (media now : Option Media) (P : (ℕ → ℕ) → Type 0) → KeepsMedia media now → RestsWith media P → RestsWith now P
rests_on None None P keeps rests = rests
rests_on (Some old) (Some new) P keeps rests = (sym (ap (λ m. m.pending) (sym keeps.3)) ∙ rests.0, subst (λ m. P m.seen) (sym keeps.3) rests.1)
rests_on None (Some new) P keeps rests = absurd keeps
rests_on (Some old) None P keeps rests = absurd keeps

-- ---- the calls behind those that there were

after_front : (xs ys zs : List Timed) → xs ++ ys ≡ xs ++ zs → ys ≡ zs
after_front [] ys zs same = same
after_front (x ∷ xs) ys zs same = after_front xs ys zs cc

drop_front : (xs ys : List Act) → drop (length xs) (xs ++ ys) ≡ ys
drop_front [] ys = refl
drop_front (x ∷ xs) ys = drop_front xs ys

-- where each call was recorded, the sends among the later calls are those that were added to the acts
pub added_calls : (old new : Hosted) (outs : List OwnedOut) → new.disk.whole ≡ true → HandsOut old new
    → Added (told old.disk.whole old.disk.acts) (told new.disk.whole new.disk.acts) (AreSends outs) → flat_map sent_in (drop (length old.disk.acts) new.disk.acts) ≡ outs
added_calls old new outs whole leads added =
    let (was, more, grown, hands) = leads whole in
    let known : Added (Some (wire_acts 0 old.disk.acts)) (Some (wire_acts 0 new.disk.acts)) (AreSends outs) =
    subst (λ b. Added (told b old.disk.acts) (Some (wire_acts 0 new.disk.acts)) (AreSends outs)) was (subst (λ b. Added (told old.disk.whole old.disk.acts) (told b new.disk.acts) (AreSends outs)) whole added) in
    let (acts, is, are) = known in
    let same : acts ≡ wire_acts (0 + length old.disk.acts) more =
    after_front (wire_acts 0 old.disk.acts) acts (wire_acts (0 + length old.disk.acts) more) (sym is ∙ ap (wire_acts 0) grown ∙ wire_acts_then 0 old.disk.acts more) in
    ap (λ calls. flat_map sent_in (drop (length old.disk.acts) calls)) grown ∙ ap (flat_map sent_in) (drop_front old.disk.acts more)
    ∙ sends_are (0 + length old.disk.acts) outs more (subst (AreSends outs) same are)

-- ---- the acts of a tape

same_acts : (m n : ℕ) (calls : List Act) → map (λ (t : Timed). t.act) (wire_acts m calls) ≡ map (λ (t : Timed). t.act) (wire_acts n calls)
same_acts m n [] = refl
same_acts m n (act.Took e t ∷ calls) = ap (λ xs. took e t ∷ xs) (same_acts (m + 1) (n + 1) calls)
same_acts m n (act.Gave o d ∷ calls) = ap (λ xs. gave o d ∷ xs) (same_acts (m + 1) (n + 1) calls)
same_acts m n (act.Read o ∷ calls) = same_acts (m + 1) (n + 1) calls
same_acts m n (act.Wrote a b o ∷ calls) = same_acts (m + 1) (n + 1) calls
same_acts m n (act.Synced o ∷ calls) = same_acts (m + 1) (n + 1) calls

acts_mapped : (xs ys : List Timed) → map (λ (t : Timed). t.act) (xs ++ ys) ≡ map (λ (t : Timed). t.act) xs ++ map (λ (t : Timed). t.act) ys
acts_mapped [] ys = refl
acts_mapped (x ∷ xs) ys = ap (λ more. x.act ∷ more) (acts_mapped xs ys)

pub acts_then : (xs ys : List Act) → acts_in (xs ++ ys) ≡ acts_in xs ++ acts_in ys
acts_then xs ys =
    ap (map (λ (t : Timed). t.act)) (wire_acts_then 0 xs ys) ∙ acts_mapped (wire_acts 0 xs) (wire_acts (0 + length xs) ys)
    ∙ ap (λ more. acts_in xs ++ more) (same_acts (0 + length xs) 0 ys)
