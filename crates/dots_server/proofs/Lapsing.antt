-- Each peer has its turn at a tick, one after the other.
use Rattle.std.proofs.Common.{◌≡◌, ◌≢◌, ℕ, zero, suc, ◌+◌, ◌<◌, ◌≤◌, Bool, true, false, List, [], ◌∷◌, ◌++◌, length, map, Option, Some, refl, sym, ap, ◌∙◌, subst, arith, append-nil, append_assoc, length-append}
use Rattle.std.specs.Prelude.{if◌then◌else◌, slice_get}
use Rattle.std.specs.List.{list_all}
use Rattle.std.proofs.lemmas.Bool.{and_from}
use Rattle.std.proofs.lemmas.List.Folds.{list_all-append}
use Rattle.dots_host.specs.Acts.{Timed}
use Rattle.dots_host.specs.Runs.{Turn, owed_in}
use Rattle.dots_host.specs.Media.{Media}
use Rattle.dots_host.specs.Becoming.{IsMoment}
use Rattle.dots_settings.specs.declared.peer.Role.{Role}
use Rattle.dots_settings.specs.declared.peer.Role.TheVariants as role
use Rattle.dots_settings.specs.Settings.{SettingsValue, IsSettings}
use Rattle.dots_settings.specs.Lookups.{role_of}
use Rattle.dots_history.specs.declared.entry.Entry.{Entry}
use Rattle.dots_history.specs.declared.change.Change.TheVariants as change
use Rattle.dots_history.specs.declared.entry.MessageKey.TheVariants as key
use Rattle.dots_history.specs.Calm.{is_own}
use Rattle.session_core.specs.declared.contact.PeerContact.{PeerContact}
use Rattle.session_core.specs.Places.{with_place}
use Rattle.slot_journal.specs.DiskEntries as journal
use Rattle.dots_machine.specs.ConfiguredPeers.{beating_at}
use Rattle.dots_machine.specs.Signals.{domain_of_client, own_domain, LastHeard, last_heard, is_silent, is_watched_in, loss_in, loss_of, row_lapsed, history_lapsed, rows_lapsed}
use Rattle.dots_machine.specs.Machine.{State, lapsed}
use Rattle.dots_server.specs.ServerValues.{ServerValue, RestartsWith}
use Rattle.dots_server.specs.Turning.{Wrote, Broke, LiesOn, IsStored, Grows, last_left, Chained}
use Rattle.dots_server.specs.Taking.{stored_of}
use Rattle.dots_server.specs.Signals.{loss_in_row, loss_at, lapsed_at, HasLapsed, LapseBroke}
use Rattle.dots_server.proofs.Looping.{restarts_stored}
use Rattle.dots_server.proofs.Chaining.{turned_as, last_more, chained_more}
use Rattle.dots_machine.proofs.Fronts.{owed_then}
use Rattle.dots_server.proofs.Turning.{wrote_turned, broke_more, none_more}
use Rattle.dots_server.proofs.Turns.{grows_then}
use Rattle.dots_server.proofs.LostSignals.{client_known, signal_own, is_loss_lost}

-- ---- the row at a place

pub row_at : (done rest : List PeerContact) (row : PeerContact) → slice_get (done ++ row ∷ rest) (length done) ≡ Some row
row_at [] rest row = refl
row_at (one ∷ done) rest row = row_at done rest row

pub placed_at : (becomes : PeerContact → PeerContact) (done rest : List PeerContact) (row : PeerContact) → with_place (length done) becomes (done ++ row ∷ rest) ≡ done ++ becomes row ∷ rest
placed_at becomes [] rest row = refl
placed_at becomes (one ∷ done) rest row = ap (λ rows. one ∷ rows) (placed_at becomes done rest row)

pub placed_length : (place : ℕ) (becomes : PeerContact → PeerContact) (rows : List PeerContact) → length (with_place place becomes rows) ≡ length rows
placed_length place becomes [] = refl
placed_length zero becomes (row ∷ rows) = refl
placed_length (suc place) becomes (row ∷ rows) = ap suc (placed_length place becomes rows)

-- ---- what is kept in the turns

module _ (settings : SettingsValue) (time : ℕ) where
  pub history_grows : (history : List Entry) (rows : List LastHeard) → Grows history (history_lapsed settings time history rows)
  history_grows history [] = ([], sym (append-nil history))
  history_grows history (row ∷ rows) =
      grows_then history (history ++ loss_of settings time history row) (history_lapsed settings time (history ++ loss_of settings time history row) rows)
      (loss_of settings time history row, refl) (history_grows (history ++ loss_of settings time history row) rows)

  module _ (is : IsSettings settings) where
    loss_own : (history : List Entry) (row : LastHeard) → list_all (is_own settings) (loss_of settings time history row) ≡ true
    loss_own history row = by_test (is_silent (beating_at settings time history row.peer) time row.heard)
      where
        by_role : (who : Role) → role_of settings row.peer ≡ who → list_all (is_own settings) (loss_in time history row.peer (domain_of_client who)) ≡ true
        by_role (role.Client domain) at = by_watch (is_watched_in time history domain row.peer)
          where
            by_watch : (b : Bool) → list_all (is_own settings) (if b then record {
              time = time;
              peer = row.peer;
              domain = domain;
              cuid = [];
              key = key.Http;
              reply = [];
              change = change.Lost;
            } ∷ [] else []) ≡ true
            by_watch true =
                and_from _ true (signal_own settings time row.peer domain change.Lost is_loss_lost at (client_known settings row.peer domain is at)) refl
            by_watch false = refl
        by_role role.Gateway at = refl
        by_role role.Stranger at = refl

        by_test : (b : Bool) → list_all (is_own settings) (if b then loss_in time history row.peer (own_domain settings row.peer) else []) ≡ true
        by_test true = by_role (role_of settings row.peer) refl
        by_test false = refl

    pub history_own : (history : List Entry) (rows : List LastHeard) → list_all (is_own settings) history ≡ true → list_all (is_own settings) (history_lapsed settings time history rows) ≡ true
    history_own history [] own = own
    history_own history (row ∷ rows) own =
        history_own (history ++ loss_of settings time history row) rows
        (list_all-append (is_own settings) history (loss_of settings time history row) ∙ and_from _ _ own (loss_own history row))

-- ---- the turns before a place

pub record IsLapsing (settings : SettingsValue) (start : State) (place : ℕ) (now : State) : Type 0 where
  pub done : List PeerContact
  pub rest : List PeerContact
  pub place_is : length done ≡ place
  pub contacts : now.contacts ≡ done ++ rest
  pub history : history_lapsed settings start.time now.history (map last_heard rest) ≡ history_lapsed settings start.time start.history (map last_heard start.contacts)
  pub rows : done ++ rows_lapsed settings start.time now.history rest ≡ rows_lapsed settings start.time start.history start.contacts
  pub others : now ≡ record start { history = now.history; contacts = now.contacts }
  pub grown : Grows start.history now.history
  pub size : length now.contacts ≡ length start.contacts

pub lapsing_first : (settings : SettingsValue) (start : State) → IsLapsing settings start 0 start
lapsing_first settings start = record {
  done = [];
  rest = start.contacts;
  place_is = refl;
  contacts = refl;
  history = refl;
  rows = refl;
  others = refl;
  grown = ([], sym (append-nil start.history));
  size = refl;
}

module _ (settings : SettingsValue) (start : State) (place : ℕ) (now : State) (is : IsLapsing settings start place now) where
  time_is : now.time ≡ start.time
  time_is = ap (λ (s : State). s.time) is.others

  -- the row at the place has its turn
  pub lapsing_more : place < length now.contacts → IsLapsing settings start (place + 1) (lapsed_at settings place now)
  lapsing_more less = by_rest is.rest refl
    where
      by_rest : (rest : List PeerContact) → is.rest ≡ rest → IsLapsing settings start (place + 1) (lapsed_at settings place now)
      by_rest [] at =
          let size = ap length (is.contacts ∙ ap (λ rows. is.done ++ rows) at ∙ append-nil is.done) in
          absurd (omega (arith, size, less, is.place_is))
      by_rest (row ∷ more) at = record {
        done = is.done ++ next ∷ [];
        rest = more;
        place_is = length-append is.done (next ∷ []) ∙ ap (λ n. n + 1) is.place_is;
        contacts = contacts_now ∙ sym (append_assoc is.done (next ∷ []) more);
        history = ap (λ es. history_lapsed settings start.time es (map last_heard more)) history_now
            ∙ ap (λ rows. history_lapsed settings start.time now.history (map last_heard rows)) (sym at) ∙ is.history;
        rows = append_assoc is.done (next ∷ []) (rows_lapsed settings start.time (lapsed_at settings place now).history more)
            ∙ ap (λ es. is.done ++ next ∷ rows_lapsed settings start.time es more) history_now
            ∙ ap (λ rows. is.done ++ rows_lapsed settings start.time now.history rows) (sym at) ∙ is.rows;
        others = ap (λ (s : State). record s { history = (lapsed_at settings place now).history; contacts = (lapsed_at settings place now).contacts }) is.others;
        grown = grows_then start.history now.history (lapsed_at settings place now).history is.grown (loss_at settings place now, refl);
        size = placed_length place (row_lapsed settings now.time now.history) now.contacts ∙ is.size;
      }
        where
          next : PeerContact
          next = row_lapsed settings start.time now.history row

          there : now.contacts ≡ is.done ++ row ∷ more
          there = is.contacts ∙ ap (λ rows. is.done ++ rows) at

          contacts_now : (lapsed_at settings place now).contacts ≡ is.done ++ next ∷ more
          contacts_now =
              ap (λ t. with_place place (row_lapsed settings t now.history) now.contacts) time_is
              ∙ ap (λ rows. with_place place (row_lapsed settings start.time now.history) rows) there
              ∙ ap (λ n. with_place n (row_lapsed settings start.time now.history) (is.done ++ row ∷ more)) (sym is.place_is)
              ∙ placed_at (row_lapsed settings start.time now.history) is.done more row

          found : slice_get now.contacts place ≡ Some row
          found = ap (λ rows. slice_get rows place) there ∙ ap (slice_get (is.done ++ row ∷ more)) (sym is.place_is) ∙ row_at is.done more row

          history_now : (lapsed_at settings place now).history ≡ now.history ++ loss_of settings start.time now.history (last_heard row)
          history_now =
              ap (λ o. now.history ++ loss_in_row settings now.time now.history o) found
              ∙ ap (λ t. now.history ++ loss_of settings t now.history (last_heard row)) time_is

  -- all rows have had it
  pub lapsing_last : length now.contacts ≤ place → now ≡ lapsed settings start
  lapsing_last all =
      let size = ap length is.contacts ∙ length-append is.done is.rest in
      by_rest is.rest refl (omega (arith, size, all, is.place_is))
    where
      by_rest : (rest : List PeerContact) → is.rest ≡ rest → length is.rest ≤ 0 → now ≡ lapsed settings start
      by_rest (row ∷ more) at none = let size = ap length at in absurd (omega (arith, size, none))
      by_rest [] at none =
          let history_is : now.history ≡ (lapsed settings start).history =
          ap (λ rows. history_lapsed settings start.time now.history (map last_heard rows)) (sym at) ∙ is.history in
          let contacts_are : now.contacts ≡ (lapsed settings start).contacts =
          is.contacts ∙ ap (λ rows. is.done ++ rows) at ∙ sym (ap (λ rows. is.done ++ rows_lapsed settings start.time now.history rows) at) ∙ is.rows in
          is.others ∙ ap (λ es. record start { history = es; contacts = now.contacts }) history_is
          ∙ ap (λ rows. record start { history = (lapsed settings start).history; contacts = rows }) contacts_are

  pub lapsing_grows : Grows now.history (lapsed settings start).history
  lapsing_grows = subst (Grows now.history) is.history (history_grows settings start.time now.history (map last_heard is.rest))

  pub lapsing_own : IsSettings settings → list_all (is_own settings) now.history ≡ true → list_all (is_own settings) (lapsed settings start).history ≡ true
  lapsing_own valid own = subst (λ es. list_all (is_own settings) es ≡ true) is.history (history_own settings start.time valid now.history (map last_heard is.rest) own)

-- ---- with what stands on the disk

-- The peers before the place had their turns, and a step stands on the disk for each.
pub record LapsedSoFar (settings : SettingsValue) (start : State) (place : ℕ) (old now : ServerValue) (entries : List Entry) (media media_now : Option Media) (acts acts_now : Option (List Timed)) : Type 0 where
  pub reached : State
  pub few : List Entry
  pub is : IsLapsing settings start place reached
  pub kept : RestartsWith now settings reached few
  pub steps : List (Turn State)
  pub silent : owed_in steps ≡ []
  pub chained : Chained settings start.time start (stored_of old entries) steps (stored_of now few) media media_now acts acts_now
  pub left : reached.history ≡ (last_left start steps).history

module _ (settings : SettingsValue) (start : State) (old : ServerValue) (entries : List Entry) (media : Option Media) (acts : Option (List Timed)) where
  pub none_lapsed : RestartsWith old settings start entries → LapsedSoFar settings start 0 old old entries media media acts acts
  none_lapsed kept = record {
    reached = start;
    few = entries;
    is = lapsing_first settings start;
    kept = kept;
    steps = [];
    silent = refl;
    chained = (refl, refl, refl);
    left = refl;
  }

  module _ (place : ℕ) (now next : ServerValue) (there media_new : Option Media) (told acts_new : Option (List Timed))
      (so_far : LapsedSoFar settings start place old now entries media there acts told) where
    abbrev from : State
    from = so_far.reached

    abbrev to : State
    to = lapsed_at settings place from

    time_so_far : to.time ≡ start.time
    time_so_far = ap (λ (s : State). s.time) so_far.is.others

    -- one more
    pub one_lapsed : (few : List Entry) (moment : ℕ) → place < length now.watch.sessions → IsMoment moment media_new → RestartsWith next settings to few
        → Wrote settings from to (journal.Represents now.journal settings so_far.few) (journal.Represents next.journal settings few) there media_new told acts_new
        → LapsedSoFar settings start (place + 1) old next entries media media_new acts acts_new
    one_lapsed few moment less here kept wrote =
        let turn : Turn State = record { sends = []; left = to } in
        record {
          reached = to;
          few = few;
          is = lapsing_more settings start place from so_far.is (subst (λ rows. place < length rows) so_far.kept.represents.represents.contacts less);
          kept = kept;
          steps = so_far.steps ++ turn ∷ [];
          silent = owed_then so_far.steps (turn ∷ []) ∙ ap (λ owed. owed ++ []) so_far.silent;
          chained = chained_more settings start.time start (stored_of old entries) so_far.steps (stored_of now so_far.few) (stored_of next few) turn media there media_new acts told acts_new so_far.chained time_so_far
              (subst (λ es. Grows es to.history) so_far.left (loss_at settings place from, refl))
              (subst (λ t. IsStored settings t to.history few) time_so_far (restarts_stored next settings to few kept))
              (turned_as settings from (last_left start so_far.steps) to to so_far.left refl refl (LiesOn settings (stored_of now so_far.few)) there media_new told acts_new []
              (LiesOn settings (stored_of next few))
              (wrote_turned settings from to (LiesOn settings (stored_of now so_far.few)) (LiesOn settings (stored_of next few)) there media_new moment told acts_new here wrote));
          left = sym (ap (λ (s : State). s.history) (last_more start so_far.steps turn));
        }

    -- the disk failed in the turn of the peer at the place
    pub broke_lapsed : IsSettings settings → place < length now.watch.sessions → to.history ≢ from.history
        → Broke settings from to (journal.Represents now.journal settings so_far.few) there media_new told acts_new
        → LapseBroke settings start old entries media media_new acts acts_new
    broke_lapsed valid less adds broke =
        let more = lapsing_more settings start place from so_far.is (subst (λ rows. place < length rows) so_far.kept.represents.represents.contacts less) in
        let grows = lapsing_grows settings start (place + 1) to more in
        record {
          adds = λ same. adds (none_more from.history to.history start.history (lapsed settings start).history so_far.is.grown (loss_at settings place from, refl) grows same);
          steps = so_far.steps;
          silent = so_far.silent;
          stored = stored_of now so_far.few;
          there = there;
          told = told;
          chained = so_far.chained;
          grows = grows_then (last_left start so_far.steps).history to.history (lapsed settings start).history (subst (λ es. Grows es to.history) so_far.left (loss_at settings place from, refl)) grows;
          broke = broke_more settings from (last_left start so_far.steps) to (lapsed settings start) so_far.left time_so_far grows
              (lapsing_own settings start (place + 1) to more valid broke.own) (LiesOn settings (stored_of now so_far.few)) there media_new told acts_new broke;
        }

  -- all of them
  pub all_lapsed : (place : ℕ) (now : ServerValue) (there : Option Media) (told : Option (List Timed)) → place ≡ length old.watch.sessions → RestartsWith old settings start entries
      → LapsedSoFar settings start place old now entries media there acts told → HasLapsed settings start old now entries media there acts told
  all_lapsed place now there told all kept so_far =
      let size = so_far.is.size in
      let was = ap length kept.represents.represents.contacts in
      let whole : so_far.reached ≡ lapsed settings start = lapsing_last settings start place so_far.reached so_far.is (omega (arith, size, was, all)) in
      record {
        steps = so_far.steps;
        silent = so_far.silent;
        few = so_far.few;
        kept = subst (λ (s : State). RestartsWith now settings s so_far.few) whole so_far.kept;
        chained = so_far.chained;
        left = ap (λ (s : State). s.history) (sym whole) ∙ so_far.left;
      }
