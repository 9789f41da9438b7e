-- What an event does to the disk and to the wire, part by part.
use Rattle.std.proofs.Common.{◌≡◌, ℕ, inl, inr, true, List, [], ◌∷◌, ◌++◌, length, Option, Some, None, refl, sym, ap, ◌∙◌, subst, arith, append-nil, append_assoc, length-append}
use Rattle.std.specs.List.{list_all}
use Rattle.dots_host.specs.declared.out.OwnedOut.{OwnedOut}
use Rattle.dots_host.specs.Acts.{Timed}
use Rattle.dots_host.specs.Runs.{Added, Gives}
use Rattle.dots_host.proofs.RunLemmas.{added_none, added_weaker, added_then}
use Rattle.dots_host.specs.Media.{Media}
use Rattle.dots_host.specs.Becoming.{Leaves, KeepsMedia, IsMoment}
use Rattle.dots_host.specs.Beside.{KeepsActs}
use Rattle.slot_store.proofs.Steps.{begins, leaves_as}
use Rattle.dots_settings.specs.Settings.{SettingsValue}
use Rattle.dots_history.specs.declared.entry.Entry.{Entry}
use Rattle.slot_journal.specs.Kept.{HasKept}
use Rattle.dots_registry.specs.Crashes.{HasEither}
use Rattle.dots_machine.specs.Machine.{State, with_entry}
use Rattle.session_core.specs.Notifying.{SentTo}
use Rattle.session_core.proofs.Sends.{sent_then, sent_none, keeps_then}
use Rattle.dots_history.specs.Calm.{is_own}
use Rattle.dots_server.specs.Turning.{HasTurn, Turned, TurnedTo, Wrote, Broke, Grows}

-- where nothing was written the disk is as it was, at each moment of none
pub keeps_itself : (media : Option Media) → KeepsMedia media media
keeps_itself None = tt
keeps_itself (Some media) = ([], sym (append-nil _), tt, refl)

-- acts that no call of the disk added to
pub none_added : (a b : Option (List Timed)) → KeepsActs a b → Added a b (λ more. more ≡ [])
none_added a None keeps = tt
none_added None (Some ys) keeps = absurd keeps
none_added (Some xs) (Some ys) keeps = ([], keeps ∙ sym (append-nil xs), refl)

pub added_behind : (a b c : Option (List Timed)) (P : List Timed → Type 0) → KeepsActs a b → Added b c P → Added a c P
added_behind a b c P keeps added = added_then a b c (λ more. more ≡ []) P P (none_added a b keeps) added (λ front back none p. subst (λ f. P (f ++ back)) (sym none) p)

-- where no call of the wire was made some acts were added: none
pub silent_adds : (a b : Option (List Timed)) → KeepsActs a b → Added a b (λ _. Unit {0})
silent_adds a b keeps = added_weaker a b (λ more. more ≡ []) (λ _. Unit {0}) (none_added a b keeps) (λ more none. tt)

module _ (settings : SettingsValue) (old new : State) (outs : List OwnedOut) (Before : (ℕ → ℕ) → Type 0) (media media_new : Option Media) (moment : ℕ) (acts acts_new : Option (List Timed)) where
  -- nothing is written, and the sends end at this moment
  pub unwritten_to : (last : ℕ) → IsMoment moment media → Added acts acts_new (SentTo moment last outs) → KeepsMedia media media_new
      → TurnedTo last settings old new outs Before Before media media_new acts acts_new
  unwritten_to last at gives sends = record {
    between = media;
    moment = moment;
    is_moment = at;
    gives = gives;
    writes = λ rests. begins media (HasTurn settings old new);
    rests = λ rests. rests;
    sends = sends;
  }

  -- nothing is written
  pub unwritten : IsMoment moment media → Added acts acts_new (Gives moment outs) → KeepsMedia media media_new → Turned settings old new outs Before Before media media_new acts acts_new
  unwritten at gives sends = record {
    between = media;
    moment = moment;
    is_moment = at;
    gives = gives;
    writes = λ rests. begins media (HasTurn settings old new);
    rests = λ rests. rests;
    sends = sends;
  }

-- nothing is sent, and nothing is written
pub silent : (settings : SettingsValue) (old new : State) (Before : (ℕ → ℕ) → Type 0) (media : Option Media) (moment : ℕ) (acts : Option (List Timed)) → IsMoment moment media
    → Turned settings old new [] Before Before media media acts acts
silent settings old new Before media moment acts at = unwritten settings old new [] Before media media moment acts acts at (added_none acts (Gives moment []) tt) (keeps_itself media)

pub silent_to : (settings : SettingsValue) (old new : State) (Before : (ℕ → ℕ) → Type 0) (media : Option Media) (moment : ℕ) (acts : Option (List Timed)) → IsMoment moment media
    → TurnedTo moment settings old new [] Before Before media media acts acts
silent_to settings old new Before media moment acts at =
    unwritten_to settings old new [] Before media media moment acts acts moment at (sent_none acts moment) (keeps_itself media)

-- it was written, and then the sends were given
pub sent_behind : (settings : SettingsValue) (old new : State) (outs : List OwnedOut) (Before After : (ℕ → ℕ) → Type 0) (media there media_new : Option Media) (moment last : ℕ) (acts told acts_new : Option (List Timed))
    → Wrote settings old new Before After media there acts told → IsMoment moment there → Added told acts_new (SentTo moment last outs) → KeepsMedia there media_new
    → TurnedTo last settings old new outs Before After media media_new acts acts_new
sent_behind settings old new outs Before After media there media_new moment last acts told acts_new wrote at sent keeps = record {
  between = there;
  moment = moment;
  is_moment = at;
  gives = added_behind acts told acts_new (SentTo moment last outs) wrote.silent sent;
  writes = wrote.writes;
  rests = wrote.rests;
  sends = keeps;
}

-- more was sent behind the sends of a turn, which made this of the observers
pub notices_behind : (settings : SettingsValue) (old left new : State) (outs more : List OwnedOut) (Before After : (ℕ → ℕ) → Type 0) (media there media_new : Option Media) (first last : ℕ) (acts told acts_new : Option (List Timed))
    → TurnedTo first settings old left outs Before After media there acts told → new.history ≡ left.history → new.time ≡ left.time
    → Added told acts_new (SentTo first last more) → KeepsMedia there media_new → Turned settings old new (outs ++ more) Before After media media_new acts acts_new
notices_behind settings old left new outs more Before After media there media_new first last acts told acts_new turned history time sent keeps = record {
  between = turned.between;
  moment = turned.moment;
  is_moment = turned.is_moment;
  gives = added_weaker acts acts_new (SentTo turned.moment last (outs ++ more)) (Gives turned.moment (outs ++ more)) (sent_then acts told acts_new turned.moment first last outs more turned.gives sent)
      (λ acts is. is.0);
  writes = λ rests. leaves_as media turned.between (HasTurn settings old left) (HasTurn settings old new) (λ image holds. same_turn image holds) (turned.writes rests);
  rests = turned.rests;
  sends = keeps_then turned.between there media_new turned.sends keeps;
}
  where
    same_turn : (image : ℕ → ℕ) → HasTurn settings old left image → HasTurn settings old new image
    same_turn image (inl holds) = inl (subst (λ t. HasKept settings settings.limits.remembered t old.history image) (sym time) holds)
    same_turn image (inr holds) =
        inr (subst (λ t. HasKept settings settings.limits.remembered t new.history image) (sym time)
        (subst (λ es. HasKept settings settings.limits.remembered left.time es image) (sym history) holds))

-- what a ledger leaves while it accepts an entry at the time of the state
pub accepting : (settings : SettingsValue) (n t : ℕ) (state : State) (entry : Entry) (old new : Option Media) → n ≡ settings.limits.remembered → t ≡ state.time → entry.time ≡ state.time
    → Leaves old new (HasEither settings n t state.history entry) → Leaves old new (HasTurn settings state (with_entry state entry))
accepting settings n t state entry old new same at now =
    leaves_as old new (HasEither settings n t state.history entry) (HasTurn settings state (with_entry state entry)) by_image
  where
    by_image : (image : ℕ → ℕ) → HasEither settings n t state.history entry image → HasTurn settings state (with_entry state entry) image
    by_image image (inl holds) =
        inl (subst (λ k. HasKept settings k state.time state.history image) same (subst (λ u. HasKept settings n u state.history image) at holds))
    by_image image (inr holds) =
        inr (subst (λ k. HasKept settings k state.time (state.history ++ entry ∷ []) image) same (subst (λ u. HasKept settings n u (state.history ++ entry ∷ []) image) now holds))

-- nothing is sent behind what was written
pub wrote_turned : (settings : SettingsValue) (old new : State) (Before After : (ℕ → ℕ) → Type 0) (media media_new : Option Media) (moment : ℕ) (acts acts_new : Option (List Timed)) → IsMoment moment media_new
    → Wrote settings old new Before After media media_new acts acts_new → Turned settings old new [] Before After media media_new acts acts_new
wrote_turned settings old new Before After media media_new moment acts acts_new at wrote = record {
  between = media_new;
  moment = moment;
  is_moment = at;
  gives = added_behind acts acts_new acts_new (Gives moment []) wrote.silent (added_none acts_new (Gives moment []) tt);
  writes = wrote.writes;
  rests = wrote.rests;
  sends = keeps_itself media_new;
}

-- nothing is written
pub unwritten_wrote : (settings : SettingsValue) (old new : State) (Before : (ℕ → ℕ) → Type 0) (media : Option Media) (acts : Option (List Timed)) → Wrote settings old new Before Before media media acts acts
unwritten_wrote settings old new Before media acts = record {
  silent = keeps_acts acts;
  writes = λ rests. begins media (HasTurn settings old new);
  rests = λ rests. rests;
}
  where
    keeps_acts : (acts : Option (List Timed)) → KeepsActs acts acts
    keeps_acts None = tt
    keeps_acts (Some xs) = refl

-- histories that grow without coming to more
pub none_more : (from to start last : List Entry) → Grows start from → Grows from to → Grows to last → last ≡ start → to ≡ from
none_more from to start last first more rest same =
    let a = ap length first.1 ∙ length-append start first.0 in
    let b = ap length more.1 ∙ length-append from more.0 in
    let c = ap length rest.1 ∙ length-append to rest.0 in
    let d = ap length same in
    more.1 ∙ ap (λ es. from ++ es) (nothing more.0 (omega (arith, a, b, c, d))) ∙ append-nil from
  where
    nothing : (es : List Entry) → length es ≡ 0 → es ≡ []
    nothing [] none = refl
    nothing (e ∷ es) none = absurd (omega (arith, none))

-- the disk failed on the way to a state on which another builds, from another with the same history
pub broke_more : (settings : SettingsValue) (from old new last : State) → from.history ≡ old.history → new.time ≡ last.time → Grows new.history last.history → list_all (is_own settings) last.history ≡ true
    → (Before : (ℕ → ℕ) → Type 0) (media media_new : Option Media) (acts acts_new : Option (List Timed))
    → Broke settings from new Before media media_new acts acts_new → Broke settings old last Before media media_new acts acts_new
broke_more settings from old new last was time grows own Before media media_new acts acts_new broke = record {
  written = broke.written;
  adds = subst (λ es. Grows es broke.written) was broke.adds;
  on = (broke.on.0 ++ grows.0, grows.1 ∙ ap (λ es. es ++ grows.0) broke.on.1 ∙ append_assoc broke.written broke.on.0 grows.0);
  silent = broke.silent;
  writes = λ rests. leaves_as media media_new (HasTurn settings from (record new { history = broke.written })) (HasTurn settings old (record last { history = broke.written })) as_held (broke.writes rests);
  own = own;
}
  where
    as_held : (image : ℕ → ℕ) → HasTurn settings from (record new { history = broke.written }) image → HasTurn settings old (record last { history = broke.written }) image
    as_held image (inl holds) =
        inl (subst (λ t. HasKept settings settings.limits.remembered t old.history image) time (subst (λ es. HasKept settings settings.limits.remembered new.time es image) was holds))
    as_held image (inr holds) = inr (subst (λ t. HasKept settings settings.limits.remembered t broke.written image) time holds)

-- from another state with the same history
module _ (settings : SettingsValue) (from old new : State) (same : from.history ≡ old.history) (Before : (ℕ → ℕ) → Type 0) (media media_new : Option Media) (acts acts_new : Option (List Timed)) where
  same_start : (image : ℕ → ℕ) → HasTurn settings from new image → HasTurn settings old new image
  same_start image (inl holds) = inl (subst (λ es. HasKept settings settings.limits.remembered new.time es image) same holds)
  same_start image (inr holds) = inr holds

  pub turned_from : (outs : List OwnedOut) (After : (ℕ → ℕ) → Type 0) → Turned settings from new outs Before After media media_new acts acts_new
      → Turned settings old new outs Before After media media_new acts acts_new
  turned_from outs After turned = record {
    between = turned.between;
    moment = turned.moment;
    is_moment = turned.is_moment;
    gives = turned.gives;
    writes = λ rests. leaves_as media turned.between (HasTurn settings from new) (HasTurn settings old new) same_start (turned.writes rests);
    rests = turned.rests;
    sends = turned.sends;
  }

  pub broke_from : Broke settings from new Before media media_new acts acts_new → Broke settings old new Before media media_new acts acts_new
  broke_from broke = broke_more settings from old new new same refl ([], sym (append-nil new.history)) broke.own Before media media_new acts acts_new broke
