-- Sends behind sends.
use Rattle.std.proofs.Common.{◌≡◌, ℕ, ◌+◌, List, [], ◌∷◌, ◌++◌, length, Option, Some, None, refl, sym, ap, ◌∙◌, subst, arith, append-nil, append_assoc}
use Rattle.std.proofs.lemmas.List.{length-append}
use Rattle.dots_host.specs.declared.out.OwnedOut.{OwnedOut}
use Rattle.dots_host.specs.Acts.{Timed}
use Rattle.dots_host.specs.Runs.{Added, Gives}
use Rattle.dots_host.proofs.RunLemmas.{added_then}
use Rattle.dots_host.proofs.RunLemmas.{added_none}
use Rattle.dots_host.specs.Media.{Medium, Media, all_media}
use Rattle.dots_host.specs.Becoming.{KeepsMedia, EachMedium}
use Rattle.session_core.specs.Notifying.{SentTo}

no_more : (m : ℕ) → m + 0 ≡ m
no_more m = omega arith

pub gives_then : (m : ℕ) (s t : List OwnedOut) (front back : List Timed) → Gives m s front → Gives (m + length s) t back → Gives m (s ++ t) (front ++ back)
gives_then m [] t [] back f g = subst (λ k. Gives k t back) (no_more m) g
gives_then m [] t (x ∷ front) back f g = absurd f
gives_then m (o ∷ s) t [] back f g = absurd f
gives_then m (o ∷ s) t (x ∷ front) back f g =
    let is : m + length (o ∷ s) ≡ m + 1 + length s = omega arith in
    (f.0, f.1, gives_then (m + 1) s t front back f.2 (subst (λ k. Gives k t back) is g))

pub sent_then : (a b c : Option (List Timed)) (first mid last : ℕ) (s t : List OwnedOut) → Added a b (SentTo first mid s) → Added b c (SentTo mid last t) → Added a c (SentTo first last (s ++ t))
sent_then a b c first mid last s t f g =
    added_then a b c (SentTo first mid s) (SentTo mid last t) (SentTo first last (s ++ t)) f g (λ front back x y. (
      gives_then first s t front back x.0 (subst (λ k. Gives k t back) x.1 y.0),
      let p = x.1 in let q = y.1 in let n = length-append s t in omega (arith, p, q, n),
    ))

pub sent_none : (a : Option (List Timed)) (m : ℕ) → Added a a (SentTo m m [])
sent_none a m = added_none a (SentTo m m []) (tt, sym (no_more m))

pub keeps_still : (media : Option Media) → KeepsMedia media media
keeps_still None = tt
keeps_still (Some media) = ([], sym (append-nil _), tt, refl)

each_then : (front back : List Medium) (P : Medium → Type 0) → EachMedium front P → EachMedium back P → EachMedium (front ++ back) P
each_then [] back P f b = b
each_then (x ∷ front) back P f b = (f.0, each_then front back P f.1 b)

pub keeps_then : (a b c : Option Media) → KeepsMedia a b → KeepsMedia b c → KeepsMedia a c
keeps_then None None c x y = y
keeps_then None (Some b) c x y = absurd x
keeps_then (Some a) None c x y = absurd x
keeps_then (Some a) (Some b) None x y = absurd y
keeps_then (Some a) (Some b) (Some c) x y = (
  x.0 ++ y.0,
  y.1 ∙ ap (λ front. front ++ y.0) x.1 ∙ append_assoc (all_media a) x.0 y.0,
  each_then x.0 y.0 (λ medium. medium ≡ a.now) x.2 (subst (λ now. EachMedium y.0 (λ medium. medium ≡ now)) x.3 y.2),
  y.3 ∙ x.3,
)
