-- What an event does to the disk and to the wire, part by part.
use Rattle.std.proofs.Common.{◌≡◌, ℕ, ◌<◌, ◌≤◌, ◌⊎◌, inl, inr, Bool, true, false, List, [], ◌∷◌, ◌++◌, Option, Some, None, refl, sym, ap, ◌∙◌, subst, append-nil, arith}
use Rattle.std.specs.Prelude.{◌^◌, ◌==◌, Ok, Err}
use Rattle.std.specs.Bool.{MatchBool}
use Rattle.std.proofs.lemmas.Bool.{eq-eqb, ne_eqb, false≢true}
use Rattle.dots_host.specs.declared.event.Event.TheVariants as event
use Rattle.dots_host.specs.declared.event.What.{What}
use Rattle.dots_host.specs.declared.event.What.TheVariants as what
use Rattle.dots_host.specs.declared.out.OwnedOut.{OwnedOut}
use Rattle.dots_host.specs.Acts.{Timed, event_of}
use Rattle.dots_host.specs.Runs.{Added, Gives}
use Rattle.dots_host.proofs.RunLemmas.{added_none, added_weaker, added_then}
use Rattle.dots_host.specs.Media.{Media}
use Rattle.dots_host.specs.Becoming.{Leaves, RestsWith, KeepsMedia, IsMoment}
use Rattle.dots_host.specs.Beside.{KeepsActs}
use Rattle.slot_store.proofs.Steps.{begins, leaves_as}
use Rattle.dots_settings.specs.Settings.{SettingsValue}
use Rattle.dots_gateway.specs.declared.exchange.Exchange.{Exchange}
use Rattle.dots_gateway.specs.declared.passed.Passed.{Passed}
use Rattle.dots_gateway.specs.declared.passed.Passed.TheVariants as passed
use Rattle.dots_gateway.specs.declared.passed.GatewayFault.{GatewayFault}
use Rattle.dots_gateway.specs.declared.passed.GatewayFault.TheVariants as fault
use Rattle.dots_gateway.specs.Gateway.{GatewayValue, Said, gateway_at, UpOrLacks, DownOrLacks}
use Rattle.gateway_agent.specs.Crashes.{AreAlike, HasYoung}
use Rattle.gateway_agent.specs.Exchanges.{last_time, most_young}
use Rattle.gateway_agent.specs.Stores.{StoreValue, IsOn}
use Rattle.gateway_agent.specs.Passing.{GatewayState, GoesUp, FaultSends, fresh_in, sends_of, state_at}
use Rattle.gateway_agent.specs.PassingWell.{GoesUpWell, GoesUpAs, GoesDownAs, PassesWell, PassesAs, is_enough, is_table_full}
use Rattle.gateway_agent.proofs.Enough.{down_as, refused_as}
use Rattle.gateway_agent.specs.Keeping.{AgentValue, AreJoined, CanKeepAll, Counts, HasMore, IsIn, IsMore, agent}
use Rattle.gateway_agent.specs.Turning.{HasAlike, HasTurn, Turned, TookBy, BrokeBy, BrokeOff, IsTaken, most_of, time_in}
use Rattle.gateway_agent.proofs.Fresh.{fresh_of, fresh_token, fresh_time}
use Rattle.gateway_agent.proofs.Joining.{alike_then, alike_more, counts_at, counts_more, fresh_can, joined_at, joined_more}

-- ---- calls of one side

-- where nothing was written the disk is as it was, at each moment of none
pub keeps_itself : (media : Option Media) → KeepsMedia media media
keeps_itself None = tt
keeps_itself (Some media) = ([], sym (append-nil _), tt, refl)

-- acts that stay as they were
pub keeps_same : (acts : Option (List Timed)) → KeepsActs acts acts
keeps_same None = tt
keeps_same (Some xs) = refl

-- acts that no call of the disk added to
pub none_added : (a b : Option (List Timed)) → KeepsActs a b → Added a b (λ more. more ≡ [])
none_added a None keeps = tt
none_added None (Some ys) keeps = absurd keeps
none_added (Some xs) (Some ys) keeps = ([], keeps ∙ sym (append-nil xs), refl)

pub added_behind : (a b c : Option (List Timed)) (P : List Timed → Type 0) → KeepsActs a b → Added b c P → Added a c P
added_behind a b c P keeps added = added_then a b c (λ more. more ≡ []) P P (none_added a b keeps) added (λ front back none p. subst (λ f. P (f ++ back)) (sym none) p)

-- where no call of the wire was made some acts were added: none
pub silent_adds : (a b : Option (List Timed)) → KeepsActs a b → Added a b (λ _. Unit {0})
silent_adds a b keeps = added_weaker a b (λ more. more ≡ []) (λ _. Unit {0}) (none_added a b keeps) (λ more none. tt)

pub some_adds : (a b : Option (List Timed)) (P : List Timed → Type 0) → Added a b P → Added a b (λ _. Unit {0})
some_adds a b P added = added_weaker a b P (λ _. Unit {0}) added (λ more p. tt)

-- ---- turns

module _ (settings : SettingsValue) (most : ℕ) (old new : GatewayState) (outs : List OwnedOut) (Before : (ℕ → ℕ) → Type 0) (media media_new : Option Media) (moment : ℕ) (acts acts_new : Option (List Timed)) where
  -- nothing is written
  pub unwritten : IsMoment moment media → Added acts acts_new (Gives moment outs) → KeepsMedia media media_new → Turned settings most old new outs Before Before media media_new acts acts_new
  unwritten at gives sends = record {
    between = media;
    moment = moment;
    is_moment = at;
    gives = gives;
    writes = λ rests. begins media (HasTurn settings most old new);
    rests = λ rests. rests;
    sends = sends;
  }

-- nothing is sent, and nothing is written
pub silent : (settings : SettingsValue) (most : ℕ) (old new : GatewayState) (Before : (ℕ → ℕ) → Type 0) (media : Option Media) (moment : ℕ) (acts : Option (List Timed)) → IsMoment moment media
    → Turned settings most old new [] Before Before media media acts acts
silent settings most old new Before media moment acts at = unwritten settings most old new [] Before media media moment acts acts at (added_none acts (Gives moment []) tt) (keeps_itself media)

-- ---- the time

pub in_at : (core : GatewayValue) (store : StoreValue) (state : GatewayState) (at : ℕ) → IsIn (agent core store) state → at < 2 ^ 48 → IsIn (agent (gateway_at at core) store) (state_at state at)
in_at core store state at is early = record { core = ap (gateway_at at) is.core; joined = joined_at core store at is.joined early; counts = is.counts }

-- the time of the last exchange that was kept isn't after that of the gateway
pub in_time : (core : GatewayValue) (store : StoreValue) (state : GatewayState) → IsIn (agent core store) state → last_time state.kept ≤ core.exchanges.time
in_time core store state is =
    let past = is.joined.past in
    let same = is.counts.time in
    omega (arith, past, same)

-- nor once a time has come
at_timely : (core : GatewayValue) (store : StoreValue) (state : GatewayState) (at : ℕ) → IsIn (agent core store) state → last_time state.kept ≤ time_in (state_at state at)
at_timely core store state at is =
    let late = in_time core store state is in
    let same = ap (λ (g : GatewayValue). g.exchanges.time) is.core in
    omega (arith, late, same)

none_new : (kept : List Exchange) → (fresh : List Exchange) × (kept ≡ kept ++ fresh)
none_new kept = ([], sym (append-nil kept))

-- ---- an event that only moves the time

only_ages : (old : GatewayState) (w : What) (room : List ℕ) (at : ℕ) → IsTaken w → ((from len : ℕ) → w ≡ what.Datagram from len → ⊥) → PassesWell old (event_of w room) at [] (state_at old at)
only_ages old (what.Datagram from len) room at taken none = absurd (none from len refl)
only_ages old (what.Opened conn from) room at taken none = (refl, refl)
only_ages old (what.Piece conn len) room at taken none = (refl, refl)
only_ages old (what.Closed conn) room at taken none = (refl, refl)
only_ages old what.Tick room at taken none = (refl, refl)
only_ages old what.Restart room at taken none = absurd taken
only_ages old what.End room at taken none = absurd taken
only_ages old what.Failed room at taken none = absurd taken

pub took_time : (settings : SettingsValue) (state : GatewayState) (core : GatewayValue) (store : StoreValue) (w : What) (room : List ℕ) (at : ℕ) (media : Option Media) (moment : ℕ) (acts : Option (List Timed))
    → IsIn (agent core store) state → at < 2 ^ 48 → IsTaken w → ((from len : ℕ) → w ≡ what.Datagram from len → ⊥) → IsMoment moment media
    → TookBy (λ outs new. PassesAs true state (event_of w room) at outs new) settings state (agent core store) (agent (gateway_at at core) store) media media acts acts
took_time settings state core store w room at media moment acts is early taken none here = record {
  outs = [];
  new = state_at state at;
  made = only_ages state w room at taken none;
  grows = none_new state.kept;
  timely = at_timely core store state at is;
  is_in = in_at core store state at is early;
  turned = silent settings (most_of (agent core store)) state (state_at state at) (IsOn settings store) media moment acts here;
}

-- ---- a datagram of the upstream

pub took_down : (settings : SettingsValue) (state : GatewayState) (core : GatewayValue) (store : StoreValue) (datagram : List ℕ) (at : ℕ) (said : Passed) (media media_new : Option Media) (moment : ℕ) (acts acts_new : Option (List Timed))
    → IsIn (agent core store) state → at < 2 ^ 48 → DownOrLacks (gateway_at at core) datagram said → IsMoment moment media → Added acts acts_new (Gives moment (sends_of core.upstream said)) → KeepsMedia media media_new
    → TookBy (λ outs new. GoesDownAs (is_enough said) (state_at state at) datagram outs new) settings state (agent core store) (agent (gateway_at at core) store) media media_new acts acts_new
took_down settings state core store datagram at said media media_new moment acts acts_new is early downs here gives keeps = record {
  outs = sends_of core.upstream said;
  new = state_at state at;
  made = down_as said (state_at state at) datagram (sends_of core.upstream said) (state_at state at) (record {
    said = said;
    downs = subst (λ (g : GatewayValue). DownOrLacks (gateway_at at g) datagram said) is.core downs;
    sends = ap (λ (g : GatewayValue). sends_of g.upstream said) is.core;
    same = refl;
  }) refl;
  grows = none_new state.kept;
  timely = at_timely core store state at is;
  is_in = in_at core store state at is early;
  turned = unwritten settings (most_of (agent core store)) state (state_at state at) (sends_of core.upstream said) (IsOn settings store) media media_new moment acts acts_new here gives keeps;
}

-- ---- a datagram that can't be passed on

err_same : (g : GatewayValue) (peer : ℕ) (datagram : List ℕ) (why : GatewayFault) (new : GatewayValue) → UpOrLacks g peer datagram (Err why) new → new ≡ g
err_same g peer datagram fault.TableFull new ups = ups.1
err_same g peer datagram fault.NoMemory new ups = ups.3

pub err_joined : (core new : GatewayValue) (store : StoreValue) (peer : ℕ) (datagram : List ℕ) (at : ℕ) (why : GatewayFault) → AreJoined core store → at < 2 ^ 48
    → UpOrLacks (gateway_at at core) peer datagram (Err why) new → AreJoined new store
err_joined core new store peer datagram at why joined early ups =
    subst (λ (g : GatewayValue). AreJoined g store) (sym (err_same (gateway_at at core) peer datagram why new ups)) (joined_at core store at joined early)

pub took_refused : (settings : SettingsValue) (state : GatewayState) (core new : GatewayValue) (store : StoreValue) (peer : ℕ) (datagram : List ℕ) (at : ℕ) (why : GatewayFault) (outs : List OwnedOut)
    (media media_new : Option Media) (moment : ℕ) (acts acts_new : Option (List Timed))
    → IsIn (agent core store) state → at < 2 ^ 48 → UpOrLacks (gateway_at at core) peer datagram (Err why) new → FaultSends peer datagram why outs
    → IsMoment moment media → Added acts acts_new (Gives moment outs) → KeepsMedia media media_new
    → TookBy (λ outs new. GoesUpAs (is_table_full why) (state_at state at) peer datagram outs new) settings state (agent core store) (agent new store) media media_new acts acts_new
took_refused settings state core new store peer datagram at why outs media media_new moment acts acts_new is early ups sends here gives keeps =
    let now : GatewayState = record { core = new; kept = state.kept } in
    record {
      outs = outs;
      new = now;
      made = refused_as why (state_at state at) peer datagram outs now (record {
        said = Err why;
        ups = subst (λ (g : GatewayValue). UpOrLacks (gateway_at at g) peer datagram (Err why) new) is.core ups;
        sends = sends;
        kept = sym (append-nil state.kept);
      }) refl;
      grows = none_new state.kept;
      timely =
          let late = in_time core store state is in
          let same = ap (λ (g : GatewayValue). g.exchanges.time) (err_same (gateway_at at core) peer datagram why new ups) in
          omega (arith, late, same);
      is_in = record { core = refl; joined = err_joined core new store peer datagram at why is.joined early ups; counts = is.counts };
      turned = unwritten settings (most_of (agent core store)) state now outs (IsOn settings store) media media_new moment acts acts_new here gives keeps;
    }

-- ---- a datagram of a client, at its time

-- what is new may be kept
pub up_can : (core new : GatewayValue) (store : StoreValue) (peer : ℕ) (datagram : List ℕ) (said : Passed) → AreJoined core store → UpOrLacks core peer datagram (Ok said) new
    → CanKeepAll store (fresh_in (Ok said))
up_can core new store peer datagram (passed.Forward bytes (Some x)) joined ups =
    let fresh = fresh_of core peer datagram bytes x ups.0 in
    (fresh_can core store peer x joined fresh, fresh_token core.exchanges peer x fresh)
up_can core new store peer datagram (passed.Forward bytes None) joined ups = tt
up_can core new store peer datagram (passed.Reply to bytes) joined ups = tt
up_can core new store peer datagram passed.Nothing joined ups = tt
up_can core new store peer datagram passed.NoMemory joined ups = tt

module _ (core new : GatewayValue) (old store : StoreValue) (peer : ℕ) (datagram : List ℕ) (joined : AreJoined core old) (slots : store.journal.slots ≡ old.journal.slots) where
  old_joined : new ≡ core → store ≡ old → AreJoined new store
  old_joined same kept = subst (λ (g : GatewayValue). AreJoined g store) (sym same) (subst (λ (s : StoreValue). AreJoined core s) (sym kept) joined)

  -- where what is new was kept, they go together still
  pub up_joined : (said : Passed) → UpOrLacks core peer datagram (Ok said) new → IsMore old store (fresh_in (Ok said)) → AreJoined new store
  up_joined (passed.Forward bytes (Some x)) ups more =
      subst (λ (g : GatewayValue). AreJoined g store) (sym ups.1) (joined_more core old store peer x datagram joined (fresh_of core peer datagram bytes x ups.0) more slots)
  up_joined (passed.Forward bytes None) ups more = old_joined ups.1 more
  up_joined (passed.Reply to bytes) ups more = old_joined ups.1 more
  up_joined passed.Nothing ups more = old_joined ups.1 more
  up_joined passed.NoMemory ups more = old_joined ups.1 more

  module _ (kept : List Exchange) (counts : Counts old.exchanges kept) (late : last_time kept ≤ core.exchanges.time) where
    old_counts : store ≡ old → Counts store.exchanges (kept ++ [])
    old_counts same = subst (λ (l : List Exchange). Counts store.exchanges l) (sym (append-nil kept)) (subst (λ (s : StoreValue). Counts s.exchanges kept) (sym same) counts)

    -- and the store has what counts
    pub up_counts : (said : Passed) → UpOrLacks core peer datagram (Ok said) new → IsMore old store (fresh_in (Ok said)) → Counts store.exchanges (kept ++ fresh_in (Ok said))
    up_counts (passed.Forward bytes (Some x)) ups more =
        let time = fresh_time core.exchanges peer x (fresh_of core peer datagram bytes x ups.0) in
        counts_more old store kept x counts (omega (arith, late, time)) more
    up_counts (passed.Forward bytes None) ups more = old_counts more
    up_counts (passed.Reply to bytes) ups more = old_counts more
    up_counts passed.Nothing ups more = old_counts more
    up_counts passed.NoMemory ups more = old_counts more

    -- ---- the images while it is kept

    module _ (settings : SettingsValue) (most : ℕ) (image : ℕ → ℕ) where
      -- of these exchanges, or of these and one more
      abbrev pub OneOf : ℕ → List Exchange → Type 0
      OneOf now fresh = HasAlike settings most now kept image ⊎ HasAlike settings most now (kept ++ fresh) image

      young_has : (x : Exchange) → last_time kept ≤ x.time → HasYoung settings most x.time old.exchanges x image → OneOf x.time (x ∷ [])
      young_has x timely image_has = by_cases image_has.alike
        where
          by_cases : AreAlike x.time image_has.some old.exchanges ⊎ AreAlike x.time image_has.some (old.exchanges ++ x ∷ []) → OneOf x.time (x ∷ [])
          by_cases (inl alike) = inl (record {
            some = image_has.some;
            image_has = image_has.image_has;
            store = image_has.store;
            alike = alike_then x.time image_has.some old.exchanges kept alike (counts_at old.exchanges kept x.time counts timely);
          })
          by_cases (inr alike) = inr (record {
            some = image_has.some;
            image_has = image_has.image_has;
            store = image_has.store;
            alike = alike_then x.time image_has.some (old.exchanges ++ x ∷ []) (kept ++ x ∷ []) alike
                (alike_more x.time old.exchanges kept x refl (counts_at old.exchanges kept x.time counts timely));
          })

      pub up_has : (said : Passed) → UpOrLacks core peer datagram (Ok said) new → HasMore settings most old.exchanges (fresh_in (Ok said)) image
          → OneOf new.exchanges.time (fresh_in (Ok said))
      up_has (passed.Forward bytes (Some x)) ups image_has =
          let time = fresh_time core.exchanges peer x (fresh_of core peer datagram bytes x ups.0) in
          let same : new.exchanges.time ≡ x.time = ap (λ (g : GatewayValue). g.exchanges.time) ups.1 ∙ sym time in
          subst (λ (t : ℕ). OneOf t (x ∷ [])) (sym same) (young_has x (omega (arith, late, time)) image_has)
      up_has (passed.Forward bytes None) ups image_has = absurd image_has
      up_has (passed.Reply to bytes) ups image_has = absurd image_has
      up_has passed.Nothing ups image_has = absurd image_has
      up_has passed.NoMemory ups image_has = absurd image_has

-- the clients and the upstream stay
pub up_fixed : (g : GatewayValue) (peer : ℕ) (datagram : List ℕ) (answer : Said) (new : GatewayValue) → UpOrLacks g peer datagram answer new → (new.routes ≡ g.routes) × (new.upstream ≡ g.upstream)
up_fixed g peer datagram answer new ups = by_answer answer ups
  where
    as_before : new ≡ g → (new.routes ≡ g.routes) × (new.upstream ≡ g.upstream)
    as_before same = (ap (λ (g : GatewayValue). g.routes) same, ap (λ (g : GatewayValue). g.upstream) same)

    by_answer : (answer : Said) → UpOrLacks g peer datagram answer new → (new.routes ≡ g.routes) × (new.upstream ≡ g.upstream)
    by_answer (Err fault.NoMemory) ups = as_before ups.3
    by_answer (Err fault.TableFull) ups = as_before ups.1
    by_answer (Ok (passed.Forward bytes (Some x))) ups = (ap (λ (g : GatewayValue). g.routes) ups.1, ap (λ (g : GatewayValue). g.upstream) ups.1)
    by_answer (Ok (passed.Forward bytes None)) ups = as_before ups.1
    by_answer (Ok (passed.Reply to bytes)) ups = as_before ups.1
    by_answer (Ok passed.Nothing) ups = as_before ups.1
    by_answer (Ok passed.NoMemory) ups = as_before ups.1

-- ---- and the whole of it

module _ (settings : SettingsValue) (state : GatewayState) (core new : GatewayValue) (old store : StoreValue) (peer : ℕ) (datagram : List ℕ) (at : ℕ) (said : Passed)
    (is : IsIn (agent core old) state) (early : at < 2 ^ 48) (ups : UpOrLacks (gateway_at at core) peer datagram (Ok said) new) where
  abbrev Goes : List OwnedOut → GatewayState → Type 0
  Goes outs now = GoesUp (state_at state at) peer datagram outs now

  abbrev left : GatewayState
  left = record { core = new; kept = state.kept ++ fresh_in (Ok said) }

  made : Goes (sends_of core.upstream said) left
  made = record {
    said = Ok said;
    ups = subst (λ (g : GatewayValue). UpOrLacks (gateway_at at g) peer datagram (Ok said) new) is.core ups;
    sends = ap (λ (g : GatewayValue). sends_of g.upstream said) is.core;
    kept = refl;
  }

  at_joined : AreJoined (gateway_at at core) old
  at_joined = joined_at core old at is.joined early

  at_late : last_time state.kept ≤ (gateway_at at core).exchanges.time
  at_late = let late = in_time core old state is in omega (arith, late)

  up_time : (said : Passed) → UpOrLacks (gateway_at at core) peer datagram (Ok said) new → new.exchanges.time ≡ (gateway_at at core).exchanges.time
  up_time (passed.Forward bytes (Some x)) ups = ap (λ (g : GatewayValue). g.exchanges.time) ups.1
  up_time (passed.Forward bytes None) ups = ap (λ (g : GatewayValue). g.exchanges.time) ups.1
  up_time (passed.Reply to bytes) ups = ap (λ (g : GatewayValue). g.exchanges.time) ups.1
  up_time passed.Nothing ups = ap (λ (g : GatewayValue). g.exchanges.time) ups.1
  up_time passed.NoMemory ups = ap (λ (g : GatewayValue). g.exchanges.time) ups.1

  left_timely : last_time state.kept ≤ new.exchanges.time
  left_timely =
      let late = at_late in
      let same = up_time said ups in
      omega (arith, late, same)

  slots_same : old.journal.slots ≡ old.journal.slots
  slots_same = refl

  writes : (media between : Option Media) → Leaves media between (HasMore settings (most_young old.journal.slots) old.exchanges (fresh_in (Ok said)))
      → Leaves media between (HasTurn settings (most_young old.journal.slots) state left)
  writes media between =
      leaves_as media between (HasMore settings (most_young old.journal.slots) old.exchanges (fresh_in (Ok said))) (HasTurn settings (most_young old.journal.slots) state left)
      (λ image image_has. up_has (gateway_at at core) new old old peer datagram at_joined slots_same state.kept is.counts at_late settings (most_young old.journal.slots) image said ups image_has)

  -- it was kept, and then the sends were given
  pub took_up : (media between media_new : Option Media) (moment : ℕ) (acts told acts_new : Option (List Timed)) → store.journal.slots ≡ old.journal.slots → IsMore old store (fresh_in (Ok said))
      → (RestsWith media (IsOn settings old) → Leaves media between (HasMore settings (most_young old.journal.slots) old.exchanges (fresh_in (Ok said))))
      → (RestsWith media (IsOn settings old) → RestsWith between (IsOn settings store))
      → KeepsActs acts told → IsMoment moment between → Added told acts_new (Gives moment (sends_of core.upstream said)) → KeepsMedia between media_new
      → TookBy (λ outs now. GoesUpWell (state_at state at) peer datagram outs now) settings state (agent core old) (agent new store) media media_new acts acts_new
  unfolding made
  took_up media between media_new moment acts told acts_new slots more leaves rests silent here gives keeps = record {
    outs = sends_of core.upstream said;
    new = left;
    made = (made, λ lacks. cc lacks);
    grows = (fresh_in (Ok said), refl);
    timely = left_timely;
    is_in = record {
      core = refl;
      joined = up_joined (gateway_at at core) new old store peer datagram at_joined slots said ups more;
      counts = up_counts (gateway_at at core) new old store peer datagram at_joined slots state.kept is.counts at_late said ups more;
    };
    turned = record {
      between = between;
      moment = moment;
      is_moment = here;
      gives = added_behind acts told acts_new (Gives moment (sends_of core.upstream said)) silent gives;
      writes = λ rest. writes media between (leaves rest);
      rests = rests;
      sends = keeps;
    };
  }

  -- the disk failed while it was kept
  pub broke_up : (media between : Option Media) (acts told : Option (List Timed))
      → (RestsWith media (IsOn settings old) → Leaves media between (HasMore settings (most_young old.journal.slots) old.exchanges (fresh_in (Ok said))))
      → KeepsActs acts told → BrokeBy Goes settings state (agent core old) media between acts told
  broke_up media between acts told leaves silent = record {
    outs = sends_of core.upstream said;
    new = left;
    made = made;
    grows = (fresh_in (Ok said), refl);
    timely = left_timely;
    broke = record { silent = silent; writes = λ rest. writes media between (leaves rest) };
  }

-- ---- either datagram

at_true : (b : Bool) (P Q : Type 0) → b ≡ true → P → MatchBool b P Q
at_true true P Q is p = p
at_true false P Q is p = absurd (false≢true is)

at_false : (b : Bool) (P Q : Type 0) → b ≡ false → Q → MatchBool b P Q
at_false true P Q is q = absurd (false≢true (sym is))
at_false false P Q is q = q

module _ (settings : SettingsValue) (state : GatewayState) (from : ℕ) (bytes : List ℕ) (at : ℕ) (old : AgentValue) (media media_now : Option Media) (acts acts_now : Option (List Timed)) where
  down_made : (enough : Bool) (outs : List OwnedOut) (new : GatewayState) → from ≡ state.core.upstream → GoesDownAs enough (state_at state at) bytes outs new → PassesAs enough state (event.Datagram from bytes) at outs new
  down_made true outs new is goes = at_true (from == state.core.upstream) _ _ (eq-eqb from state.core.upstream is) goes
  down_made false outs new is goes = at_true (from == state.core.upstream) _ _ (eq-eqb from state.core.upstream is) goes

  up_made : (enough : Bool) (outs : List OwnedOut) (new : GatewayState) → (from ≡ state.core.upstream → ⊥) → GoesUpAs enough (state_at state at) from bytes outs new → PassesAs enough state (event.Datagram from bytes) at outs new
  up_made true outs new other goes = at_false (from == state.core.upstream) _ _ (ne_eqb from state.core.upstream other) goes
  up_made false outs new other goes = at_false (from == state.core.upstream) _ _ (ne_eqb from state.core.upstream other) goes

  pub as_down : (enough : Bool) (now : AgentValue) → from ≡ state.core.upstream → TookBy (λ outs new. GoesDownAs enough (state_at state at) bytes outs new) settings state old now media media_now acts acts_now
      → TookBy (λ outs new. PassesAs enough state (event.Datagram from bytes) at outs new) settings state old now media media_now acts acts_now
  as_down enough now is took = record {
    outs = took.outs;
    new = took.new;
    made = down_made enough took.outs took.new is took.made;
    grows = took.grows;
    timely = took.timely;
    is_in = took.is_in;
    turned = took.turned;
  }

  pub as_up : (enough : Bool) (now : AgentValue) → (from ≡ state.core.upstream → ⊥) → TookBy (λ outs new. GoesUpAs enough (state_at state at) from bytes outs new) settings state old now media media_now acts acts_now
      → TookBy (λ outs new. PassesAs enough state (event.Datagram from bytes) at outs new) settings state old now media media_now acts acts_now
  as_up enough now other took = record {
    outs = took.outs;
    new = took.new;
    made = up_made enough took.outs took.new other took.made;
    grows = took.grows;
    timely = took.timely;
    is_in = took.is_in;
    turned = took.turned;
  }

  pub as_broke : (from ≡ state.core.upstream → ⊥) → BrokeBy (λ outs new. GoesUp (state_at state at) from bytes outs new) settings state old media media_now acts acts_now
      → BrokeOff settings state (event.Datagram from bytes) at old media media_now acts acts_now
  as_broke other broke = record {
    outs = broke.outs;
    new = broke.new;
    made = at_false (from == state.core.upstream) _ _ (ne_eqb from state.core.upstream other) broke.made;
    grows = broke.grows;
    timely = broke.timely;
    broke = broke.broke;
  }
