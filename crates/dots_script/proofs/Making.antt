-- Lists that are made of parts, and the events among acts.
use Rattle.std.proofs.Common.{◌≡◌, ℕ, ◌+◌, ◌≤◌, inl, inr, List, [], ◌∷◌, ◌++◌, length, refl, sym, ap, ◌∙◌, subst, arith, append_assoc, append-nil, length-append}
use Rattle.std.specs.Prelude.{◌⊎◌}
use Rattle.dots_host.specs.declared.event.Event.{Event}
use Rattle.dots_host.specs.Acts.{Timed}
use Rattle.dots_host.specs.Memory.{Coming}
use Rattle.dots_script.specs.Lines.{with_feed, with_feeds, AreSkipped}
use Rattle.dots_script.specs.Accounts.{AreMade, LineSays, event_in, events_among, IsTaken, Took}

pub made_then : {A B : Type 0} (makes : A → List B → Type 0) (xs ys : List A) (front back : List B) → AreMade makes xs front → AreMade makes ys back → AreMade makes (xs ++ ys) (front ++ back)
made_then makes [] ys front back first second = subst (AreMade makes ys) (sym (ap (λ whole. whole ++ back) first)) second
made_then makes (x ∷ xs) ys front back first second = (
  first.0,
  first.1 ++ back,
  ap (λ whole. whole ++ back) first.2 ∙ append_assoc first.0 first.1 back,
  first.3,
  made_then makes xs ys first.1 back first.4 second,
)

pub made_one : {A B : Type 0} (makes : A → List B → Type 0) (x : A) (part : List B) → makes x part → AreMade makes (x ∷ []) part
made_one makes x part h = (part, [], sym (append-nil part), h, refl)

pub feeds_append : (xs ys : List (List ℕ)) → with_feeds (xs ++ ys) ≡ with_feeds xs ++ with_feeds ys
feeds_append [] ys = refl
feeds_append (x ∷ xs) ys = ap (λ rest. with_feed x ++ rest) (feeds_append xs ys) ∙ sym (append_assoc (with_feed x) (with_feeds xs) (with_feeds ys))

pub skipped_say : (lines : List (List ℕ)) → AreSkipped lines → AreMade LineSays lines []
skipped_say [] all = refl
skipped_say (line ∷ lines) all = ([], [], refl, (all.0, inl (all.1, refl)), skipped_say lines all.2)

one_at_most : (line : List ℕ) (said : List Coming) → LineSays line said → length said ≤ 1
one_at_most line said says = elim says.1 [
  | inl skipped ↦ let none : length said ≡ 0 = ap length skipped.1 in omega (arith, none)
  | inr event ↦ let one : length said ≡ 1 = ap length event.2 in omega (arith, one)
]

pub few_said : (lines : List (List ℕ)) (said : List Coming) → AreMade LineSays lines said → length said ≤ length lines
few_said [] said made = let none : length said ≡ 0 = ap length made in omega (arith, none)
few_said (line ∷ lines) said made =
    let whole : length said ≡ length made.0 + length made.1 = ap length made.2 ∙ length-append made.0 made.1 in
    omega (arith, whole, one_at_most line made.0 made.3, few_said lines made.1 made.4)

pub events_push : (acts : List Timed) (timed : Timed) → events_among (acts ++ timed ∷ []) ≡ events_among acts ++ event_in timed.act
events_push [] timed = append-nil (event_in timed.act)
events_push (first ∷ acts) timed = ap (λ rest. event_in first.act ++ rest) (events_push acts timed) ∙ sym (append_assoc (event_in first.act) (events_among acts) (event_in timed.act))

pub took_back : (event : Event) (acts : List Timed) (timed : Timed) → Took event (acts ++ timed ∷ []) → Took event acts ⊎ IsTaken event timed.act
took_back event [] timed (inl now) = inr now
took_back event [] timed (inr none) = absurd none
took_back event (first ∷ acts) timed (inl is) = inl (inl is)
took_back event (first ∷ acts) timed (inr later) = elim (took_back event acts timed later) [ inl among ↦ inl (inr among) | inr now ↦ inr now ]

pub nil_back : (front back : List ℕ) → [] ≡ front ++ back → back ≡ []
nil_back [] back is = sym is
nil_back (byte ∷ front) back is = let size : 0 ≡ length (byte ∷ (front ++ back)) = ap length is in absurd (omega (arith, size))
