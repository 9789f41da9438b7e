-- Whose signal is lost, who waits for that, and who mitigates, of a client by its domain's entries alone.
use Rattle.std.proofs.Common.{◌≡◌, ℕ, ◌<◌, ◌^◌, Bool, true, false, cond, ◌&&◌, ◌||◌, not, List, [], ◌∷◌, ◌++◌, length, unwrap_or, Option, Some, None, option_map, refl, sym, ap, ◌∙◌, subst}
use Rattle.std.specs.Prelude.{◌==◌, nat_lt, if◌then◌else◌, is_some, IfSome, option_to_list}
use Rattle.std.specs.List.{list_any, list_all, find, AllByRecursion}
use Rattle.std.proofs.lemmas.Bool.{false≢true, cond_both, cond-false, and_parts, and_from, eqb-true, eq-eqb}
use Rattle.dots_settings.specs.declared.peer.PeerRow.{PeerRow}
use Rattle.dots_settings.specs.declared.peer.Role.{Role}
use Rattle.dots_settings.specs.declared.peer.Role.TheVariants as role
use Rattle.dots_settings.specs.Settings.{SettingsValue, IsSettings, IsKnown}
use Rattle.dots_settings.specs.Lookups.{role_of, prefixes_of}
use Rattle.dots_history.specs.declared.entry.Entry.{Entry}
use Rattle.dots_history.specs.declared.change.Change.{Change}
use Rattle.dots_history.specs.declared.change.Change.TheVariants as change
use Rattle.dots_history.specs.declared.status.Status.{Status}
use Rattle.dots_history.specs.declared.status.Status.TheVariants.{Open}
use Rattle.dots_history.specs.declared.put.Put.{Put}
use Rattle.dots_history.specs.Entries.{same_client, is_configuration, is_loss, is_lost, put_of}
use Rattle.dots_history.specs.Histories.{Mitigation, live, status, is_nil, mitigations, held, alone}
use Rattle.dots_history.specs.Rows.{waits, works, triggers, loses}
use Rattle.dots_history.specs.Rows as rows
use Rattle.dots_history.specs.Calm.{may_act, is_client_of, change_inside, acts_rightly, loses_rightly, waits_rightly, is_of_settings, came_rightly, is_own}
use Rattle.dots_history.specs.Held.{is_lost_of}
use Rattle.dots_history.specs.HistoryReading.{is_mitigated, is_waiting}
use Rattle.dots_history.specs.Views.{mitigations_of}
use Rattle.dots_history.proofs.Apart.{apart}
use Rattle.dots_history.proofs.Isolating.{lost_alone}
use Rattle.dots_history.proofs.Touching.{never_live}
use Rattle.dots_registry.proofs.Lists.{held_pass}
use Rattle.dots_registry.proofs.Inside.{configures, acts, acts_of, own_loss}
use Rattle.dots_registry.proofs.Bounded.{bounded_loss}
use Rattle.dots_registry.proofs.FittingEntries.{fits_loss}
use Rattle.dots_registry.specs.RegistryValues.{time_of}
use Rattle.dots_registry.specs.Limits.{ClientsKeepLimits}
use Rattle.installed_filters.specs.Filters.{needs_rows}
use Rattle.dots_history.specs.Fits.{is_of_mitigations}
use Rattle.dots_machine.specs.Machine.{State}
use Rattle.dots_server.specs.ServerValues.{ServerValue, Represents, IsAcceptable}
use Rattle.dots_machine.specs.ConfiguredPeers.{entries_for}
use Rattle.dots_machine.specs.Signals.{domain_of_client, own_domain, signal_entry, is_lost_in, is_watched_in, is_watched, watched_by, loss_in, back_in, back_of}
use Rattle.dots_server.specs.Signals.{passing, watched_domain, lost_domain, signals}

-- ---- of the settings

role_known : (n : ℕ) (peer : ℕ) (rows : List PeerRow) → AllByRecursion (λ (row : PeerRow). IsKnown n row.role) rows
    → IsKnown n (unwrap_or (option_map (λ (row : PeerRow). row.role) (find (λ (row : PeerRow). row.peer == peer) rows)) role.Stranger)
role_known n peer [] all = tt
role_known n peer (row ∷ rows) all = by_test (row.peer == peer) (role_known n peer rows all.1)
  where
    by_test : (b : Bool) → IsKnown n (unwrap_or (option_map (λ (row : PeerRow). row.role) (find (λ (row : PeerRow). row.peer == peer) rows)) role.Stranger)
        → IsKnown n (unwrap_or (option_map (λ (row : PeerRow). row.role) (cond b (Some row) (find (λ (row : PeerRow). row.peer == peer) rows))) role.Stranger)
    by_test true rest = all.0
    by_test false rest = rest

-- a client's domain is one of the settings
pub client_known : (settings : SettingsValue) (peer domain : ℕ) → IsSettings settings → role_of settings peer ≡ role.Client domain → domain < length settings.domains
client_known settings peer domain is client = subst (IsKnown (length settings.domains)) client (role_known (length settings.domains) peer settings.peers is.known)

-- ---- entries of a client are of its domain

lost_is_loss : (c : Change) → is_lost c ≡ true → is_loss c ≡ true
unfolding is_lost is_loss
lost_is_loss change.Lost is = refl
lost_is_loss _ is = absurd (false≢true is)

put_is_none : (c : Change) → is_some (put_of c) ≡ true → is_configuration c ≡ false
unfolding is_configuration
put_is_none (change.Put put) is = refl
put_is_none _ is = absurd (false≢true is)

not_or : (a b : Bool) → (not a || b) ≡ true → a ≡ true → b ≡ true
not_or true b is on = is
not_or false b is on = absurd (false≢true on)

module _ (settings : SettingsValue) (peer domain : ℕ) (client : role_of settings peer ≡ role.Client domain) where
  role_there : (e : Entry) → (e.peer == peer) ≡ true → role_of settings e.peer ≡ role.Client domain
  role_there e is = ap (role_of settings) (eqb-true e.peer peer is) ∙ client

  turned : (a b : ℕ) → (a == b) ≡ true → (b == a) ≡ true
  turned a b is = eq-eqb b a (sym (eqb-true a b is))

  loss_there : (e : Entry) → is_own settings e ≡ true → is_lost e.change ≡ true → (e.peer == peer) ≡ true → (e.domain == domain) ≡ true
  loss_there e own lost of =
      let of_settings = (and_parts (is_of_settings settings e) (came_rightly e) own).0 in
      let rest = (and_parts (acts_rightly settings e) (loses_rightly settings e && waits_rightly settings e) of_settings).1 in
      let losing = (and_parts (loses_rightly settings e) (waits_rightly settings e) rest).0 in
      let right = not_or (is_loss e.change) (is_nil e.cuid && is_client_of (role_of settings e.peer) e.domain) losing (lost_is_loss e.change lost) in
      let there = (and_parts (is_nil e.cuid) (is_client_of (role_of settings e.peer) e.domain) right).1 in
      turned domain e.domain (sym (ap (λ who. is_client_of who e.domain) (role_there e of)) ∙ there)

  put_there : (e : Entry) → is_own settings e ≡ true → is_some (put_of e.change) ≡ true → (e.peer == peer) ≡ true → (e.domain == domain) ≡ true
  put_there e own put of =
      let acts_so =
      sym (cond-false (is_configuration e.change) (configures settings e) (acts settings e && change_inside settings (prefixes_of settings e.domain) e.change) (put_is_none e.change put))
      ∙ acts_of settings e own in
      let may = (and_parts (acts settings e) (change_inside settings (prefixes_of settings e.domain) e.change) acts_so).0 in
      let here : (domain == e.domain) && nat_lt e.domain (length settings.domains) ≡ true = sym (ap (λ who. may_act settings who e.domain) (role_there e of)) ∙ may in
      turned domain e.domain (and_parts (domain == e.domain) (nat_lt e.domain (length settings.domains)) here).0

  -- ---- whose signal is lost

  both_or_all : (a b c : Bool) → (a ≡ true → b ≡ true → c ≡ true) → a && b ≡ a && (b && c)
  both_or_all false b c leads = refl
  both_or_all true false c leads = refl
  both_or_all true true c leads = sym (leads refl refl)

  lost_one : (standing : List Entry) → list_all (is_own settings) standing ≡ true → is_lost_of standing peer ≡ rows.is_lost_in standing peer domain
  lost_one [] all = refl
  lost_one (e ∷ standing) all =
      let parts = and_parts (is_own settings e) (list_all (is_own settings) standing) all in
      ap (λ b. b || is_lost_of standing peer) (both_or_all (is_lost e.change) (e.peer == peer) (e.domain == domain) (λ lost of. loss_there e parts.0 lost of))
      ∙ ap (λ b. loses peer domain e || b) (lost_one standing parts.1)

  own_alone : (entries : List Entry) → list_all (is_own settings) entries ≡ true → list_all (is_own settings) (alone domain entries) ≡ true
  own_alone [] all = refl
  own_alone (e ∷ entries) all =
      let parts = and_parts (is_own settings e) (list_all (is_own settings) entries) all in
      let rest = own_alone entries parts.1 in
      cond_both
      (e.domain == domain)
      (e ∷ alone domain entries)
      (alone domain entries)
      (λ es. list_all (is_own settings) es ≡ true)
      (λ own. and_from (is_own settings e) (list_all (is_own settings) (alone domain entries)) parts.0 rest)
      (λ other. rest)

  module _ (entries : List Entry) (own : list_all (is_own settings) entries ≡ true) where
    pub lost_here : is_lost_of (held entries) peer ≡ is_lost_in entries domain peer
    lost_here =
        lost_one (held entries) (held_pass (is_own settings) entries own)
        ∙ sym (lost_alone domain peer entries)
        ∙ sym (lost_one (held (alone domain entries)) (held_pass (is_own settings) (alone domain entries) (own_alone entries own)))

    -- ---- its live mitigations

    abbrev IsPut : Mitigation → Bool
    IsPut m = is_own settings m.put && is_some (put_of m.put.change)

    puts_when : (t : ℕ) (e : Entry) (s : Status) → live t e s ≡ true → is_some (put_of e.change) ≡ true
    puts_when t e s alive = by_put (put_of e.change) refl
      where
        by_put : (o : Option Put) → put_of e.change ≡ o → is_some o ≡ true
        by_put (Some put) is = refl
        by_put None is = absurd (false≢true (sym (never_live t e s is) ∙ alive))

    one_more : (b : Bool) (test : Mitigation → Bool) (m : Mitigation) (rest : List Mitigation) → (b ≡ true → test m ≡ true) → list_all test rest ≡ true
        → list_all test (option_to_list (cond b (Some m) None) ++ rest) ≡ true
    one_more true test m rest leads all = and_from (test m) (list_all test rest) (leads refl) all
    one_more false test m rest leads all = all

    all_put : (t : ℕ) (es : List Entry) → list_all (is_own settings) es ≡ true → list_all IsPut (mitigations t es) ≡ true
    all_put t [] all = refl
    all_put t (e ∷ later) all =
        let parts = and_parts (is_own settings e) (list_all (is_own settings) later) all in
        let s = status e Open later in
        one_more (live t e s) IsPut (record { put = e; status = s }) (mitigations t later)
        (λ alive. and_from (is_own settings e) (is_some (put_of e.change)) parts.0 (puts_when t e s alive))
        (all_put t later parts.1)

    -- what one in the domain says, and none elsewhere
    any_apart : (test one : Mitigation → Bool) (ms : List Mitigation) → list_all IsPut ms ≡ true
        → ((m : Mitigation) → (m.put.domain == domain) ≡ true → one m ≡ test m)
        → ((m : Mitigation) → IsPut m ≡ true → (m.put.domain == domain) ≡ false → test m ≡ false)
        → list_any one (mitigations_of domain ms) ≡ list_any test ms
    any_apart test one [] all same none = refl
    any_apart test one (m ∷ ms) all same none =
        let parts = and_parts (IsPut m) (list_all IsPut ms) all in
        let go = any_apart test one ms parts.1 same none in
        cond_both
        (m.put.domain == domain)
        (m ∷ mitigations_of domain ms)
        (mitigations_of domain ms)
        (λ ys. list_any one ys ≡ test m || list_any test ms)
        (λ here. ap (λ b. b || list_any one (mitigations_of domain ms)) (same m here) ∙ ap (λ b. test m || b) go)
        (λ there. go ∙ sym (ap (λ b. b || list_any test ms) (none m parts.0 there)))

    no_other : (m : Mitigation) (b : Bool) → IsPut m ≡ true → (m.put.domain == domain) ≡ false → (m.put.peer == peer) && b ≡ false
    no_other m b is there = by_peer (m.put.peer == peer) refl
      where
        by_peer : (of : Bool) → (m.put.peer == peer) ≡ of → of && b ≡ false
        by_peer false at = refl
        by_peer true at =
            let parts = and_parts (is_own settings m.put) (is_some (put_of m.put.change)) is in
            absurd (false≢true (sym there ∙ put_there m.put parts.0 parts.1 at))

    pub waiting_here : (t : ℕ) → is_waiting t entries peer ≡ is_waiting t (alone domain entries) peer
    waiting_here t =
        sym (ap (list_any (λ (m : Mitigation). (m.put.peer == peer) && waits m.put.change)) (apart domain t entries)
        ∙ any_apart (λ m. (m.put.peer == peer) && waits m.put.change) (λ m. (m.put.peer == peer) && waits m.put.change) (mitigations t entries) (all_put t entries own)
        (λ m here. refl) (λ m is there. no_other m (waits m.put.change) is there))

    works_here : (put : Entry) → (put.domain == domain) ≡ true → works (held (alone domain entries)) put ≡ works (held entries) put
    works_here put here =
        ap (λ b. triggers put.change || b)
        (subst (λ d. rows.is_lost_in (held (alone domain entries)) put.peer d ≡ rows.is_lost_in (held entries) put.peer d) (sym (eqb-true put.domain domain here)) (lost_alone domain put.peer entries))

    pub mitigated_here : (t : ℕ) → is_mitigated t entries peer ≡ is_mitigated t (alone domain entries) peer
    mitigated_here t =
        sym (ap (list_any (λ (m : Mitigation). (m.put.peer == peer) && works (held (alone domain entries)) m.put)) (apart domain t entries)
        ∙ any_apart (λ m. (m.put.peer == peer) && works (held entries) m.put) (λ m. (m.put.peer == peer) && works (held (alone domain entries)) m.put) (mitigations t entries) (all_put t entries own)
        (λ m here. ap (λ b. (m.put.peer == peer) && b) (works_here m.put here)) (λ m is there. no_other m (works (held entries) m.put) is there))

-- a mitigation of it filters, by the entries that say so
pub mitigated_for : (settings : SettingsValue) (t : ℕ) (entries : List Entry) (peer : ℕ) → list_all (is_own settings) entries ≡ true
    → is_mitigated t entries peer ≡ is_mitigated t (entries_for (role_of settings peer) entries) peer
mitigated_for settings t entries peer own = by_role (role_of settings peer) refl
  where
    by_role : (who : Role) → role_of settings peer ≡ who → is_mitigated t entries peer ≡ is_mitigated t (entries_for who entries) peer
    by_role (role.Client domain) is = mitigated_here settings peer domain is entries own t
    by_role role.Gateway is = refl
    by_role role.Stranger is = refl

-- ---- what is found

pub passing_all : (o : Option ℕ) → o ≡ passing (λ _. true) o
passing_all None = refl
passing_all (Some domain) = refl

pub passing_none : (o : Option ℕ) → None ≡ passing (λ _. false) o
passing_none None = refl
passing_none (Some domain) = refl

pub passing_keeps : (P : ℕ → Type 0) (found : Bool) (o : Option ℕ) → IfSome o P → IfSome (passing (λ _. found) o) P
passing_keeps P true None is = tt
passing_keeps P false None is = tt
passing_keeps P true (Some domain) is = is
passing_keeps P false (Some domain) is = tt

module _ (settings : SettingsValue) (peer : ℕ) where
  -- it is a client
  pub passing_client : (found : Bool) → IfSome (passing (λ _. found) (own_domain settings peer)) (λ domain. role_of settings peer ≡ role.Client domain)
  passing_client found = by_role (role_of settings peer) refl
    where
      by_role : (who : Role) → role_of settings peer ≡ who → IfSome (passing (λ _. found) (domain_of_client who)) (λ domain. role_of settings peer ≡ role.Client domain)
      by_role (role.Client domain) is = by_test found
        where
          by_test : (b : Bool) → IfSome (if b then Some domain else None) (λ domain. role_of settings peer ≡ role.Client domain)
          by_test true = is
          by_test false = tt
      by_role role.Gateway is = tt
      by_role role.Stranger is = tt

  -- of a domain of the settings
  pub passing_known : (found : Bool) → IsSettings settings → IfSome (passing (λ _. found) (own_domain settings peer)) (λ domain. domain < length settings.domains)
  passing_known found valid = by_role (role_of settings peer) refl
    where
      by_role : (who : Role) → role_of settings peer ≡ who → IfSome (passing (λ _. found) (domain_of_client who)) (λ domain. domain < length settings.domains)
      by_role (role.Client domain) is = by_test found
        where
          by_test : (b : Bool) → IfSome (if b then Some domain else None) (λ domain. domain < length settings.domains)
          by_test true = client_known settings peer domain valid is
          by_test false = tt
      by_role role.Gateway is = tt
      by_role role.Stranger is = tt

  module _ (history : List Entry) (own : list_all (is_own settings) history ≡ true) where
    pub lost_passing : (found : Bool) → found ≡ is_lost_of (held history) peer → passing (λ _. found) (own_domain settings peer) ≡ lost_domain settings history peer
    lost_passing found is = by_role (role_of settings peer) refl
      where
        by_role : (who : Role) → role_of settings peer ≡ who → passing (λ _. found) (domain_of_client who) ≡ passing (λ domain. is_lost_in history domain peer) (domain_of_client who)
        by_role (role.Client domain) at = ap (λ b. if b then Some domain else None) (is ∙ lost_here settings peer domain at history own)
        by_role role.Gateway at = refl
        by_role role.Stranger at = refl

    pub watched_passing : (time : ℕ) (found : Bool) → found ≡ (is_waiting time history peer && not (is_lost_of (held history) peer))
        → passing (λ _. found) (own_domain settings peer) ≡ watched_domain settings time history peer
    watched_passing time found is = by_role (role_of settings peer) refl
      where
        by_role : (who : Role) → role_of settings peer ≡ who → passing (λ _. found) (domain_of_client who) ≡ passing (λ domain. is_watched_in time history domain peer) (domain_of_client who)
        by_role (role.Client domain) at =
            ap (λ b. if b then Some domain else None)
            (is ∙ ap (λ b. b && not (is_lost_of (held history) peer)) (waiting_here settings peer domain at history own time)
            ∙ ap (λ b. is_waiting time (alone domain history) peer && not b) (lost_here settings peer domain at history own))
        by_role role.Gateway at = refl
        by_role role.Stranger at = refl

-- what is kept of a peer is the entry of its domain, where this was found
module _ (settings : SettingsValue) (time : ℕ) (history : List Entry) (peer : ℕ) where
  pub back_found : back_of settings time history peer ≡ signals time peer change.Back (lost_domain settings history peer)
  back_found = by_own (own_domain settings peer)
    where
      by_own : (own : Option ℕ) → back_in time history peer own ≡ signals time peer change.Back (passing (λ domain. is_lost_in history domain peer) own)
      by_own None = refl
      by_own (Some domain) = by_test (is_lost_in history domain peer)
        where
          by_test : (b : Bool) → (if b then signal_entry time peer change.Back domain ∷ [] else []) ≡ signals time peer change.Back (if b then Some domain else None)
          by_test true = refl
          by_test false = refl

  pub loss_found : loss_in time history peer (own_domain settings peer) ≡ signals time peer change.Lost (watched_domain settings time history peer)
  loss_found = by_own (own_domain settings peer)
    where
      by_own : (own : Option ℕ) → loss_in time history peer own ≡ signals time peer change.Lost (passing (λ domain. is_watched_in time history domain peer) own)
      by_own None = refl
      by_own (Some domain) = by_test (is_watched_in time history domain peer)
        where
          by_test : (b : Bool) → (if b then signal_entry time peer change.Lost domain ∷ [] else []) ≡ signals time peer change.Lost (if b then Some domain else None)
          by_test true = refl
          by_test false = refl

  pub watched_found : is_watched settings time history peer ≡ is_some (watched_domain settings time history peer)
  watched_found = by_own (own_domain settings peer)
    where
      by_own : (own : Option ℕ) → watched_by time history peer own ≡ is_some (passing (λ domain. is_watched_in time history domain peer) own)
      by_own None = refl
      by_own (Some domain) = by_test (is_watched_in time history domain peer)
        where
          by_test : (b : Bool) → b ≡ is_some (if b then Some domain else None)
          by_test true = refl
          by_test false = refl

-- what is kept of a client's signal is the settings' own
pub signal_own : (settings : SettingsValue) (time peer domain : ℕ) (c : Change) → is_loss c ≡ true → role_of settings peer ≡ role.Client domain → domain < length settings.domains
    → is_own settings (signal_entry time peer c domain) ≡ true
signal_own settings time peer domain c loss client within = own_loss settings (signal_entry time peer c domain) loss client within refl refl

pub is_loss_lost : is_loss change.Lost ≡ true
unfolding is_loss
is_loss_lost = refl

pub is_loss_back : is_loss change.Back ≡ true
unfolding is_loss
is_loss_back = refl

lost_of_no_mitigation : (c : Change) → is_loss c ≡ true → is_of_mitigations c ≡ false
unfolding is_loss is_of_mitigations
lost_of_no_mitigation change.Lost is = refl
lost_of_no_mitigation change.Back is = refl
lost_of_no_mitigation _ is = absurd (false≢true is)

-- it takes no rows
pub loss_needs_none : (c : Change) → is_loss c ≡ true → needs_rows c ≡ false
unfolding is_loss
loss_needs_none change.Lost is = refl
loss_needs_none change.Back is = refl
loss_needs_none _ is = absurd (false≢true is)

module _ (server : ServerValue) (peer domain : ℕ) (c : Change) (loss : is_loss c ≡ true) (client : role_of server.settings peer ≡ role.Client domain) (within : domain < length server.settings.domains) where
  abbrev entry_kept : Entry
  entry_kept = signal_entry (time_of server.registry) peer c domain

  signal_owned : (settings : SettingsValue) (state : State) → Represents server settings state → is_own settings entry_kept ≡ true
  signal_owned settings state represents =
      signal_own settings (time_of server.registry) peer domain c loss (subst (λ s. role_of s peer ≡ role.Client domain) represents.settings_are client)
      (subst (λ (s : SettingsValue). domain < length s.domains) represents.settings_are within)

  pub signal_acceptable : IsAcceptable server entry_kept
  signal_acceptable = record {
    now = refl;
    fits = λ settings state represents.
        let early : entry_kept.time < 2 ^ 48 = subst (λ t. t < 2 ^ 48) (sym represents.time_is) represents.early in
        fits_loss settings server.registry state.history entry_kept loss represents.is_of represents.registry
        (subst (λ t. ClientsKeepLimits settings.limits t state.history) (sym represents.time_is) represents.limits)
        (signal_owned settings state represents) (bounded_loss entry_kept loss early refl refl) refl;
    own = signal_owned;
    one_peer = λ settings state represents.
        ap (λ b. not b || list_all (λ (m : Mitigation). not (same_client m.put entry_kept) || (peer == m.put.peer)) (mitigations (time_of server.registry) state.history))
        (lost_of_no_mitigation c loss);
  }
