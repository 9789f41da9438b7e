-- Who is heard, what is configured, and what heartbeats go by.
use Rattle.std.proofs.Common.{◌≡◌, ◌⊎◌, inl, inr, ℕ, ◌≤◌, ◌<◌, ◌^◌, Bool, true, false, List, [], ◌∷◌, if◌then◌else◌, option_map, option_and_then, Bor, length, Option, Some, None, Result, Ok, Err, refl, sym, ap, ◌∙◌, subst, arith}
use Rattle.std.specs.List.{list_any, list_all}
use Rattle.std.specs.Prelude.{◌==◌, ◌||◌, not, nat_lt, nat_le}
use Rattle.std.proofs.lemmas.Bool.{false≢true, or_parts, or_cases, and_parts, and_from, cond-true, cond-false, eq-eqb, eqb-true, leb-true, lt-ltb}
use Rattle.dots_settings.specs.declared.peer.Role.{Role}
use Rattle.dots_settings.specs.declared.peer.Role.TheVariants as role
use Rattle.dots_settings.specs.Settings.{SettingsValue}
use Rattle.dots_settings.specs.Lookups.{role_of}
use Rattle.dots_history.specs.declared.config.Config.{Config}
use Rattle.dots_history.specs.declared.config.Values.{Values}
use Rattle.dots_history.specs.declared.change.Change.TheVariants as change
use Rattle.dots_history.specs.declared.entry.Entry.{Entry}
use Rattle.dots_history.specs.declared.change.Change.{Change}
use Rattle.dots_history.specs.Bounds.{values_within, change_within}
use Rattle.dots_history.specs.Entries.{same_client, is_configuration}
use Rattle.dots_history.specs.Histories.{Mitigation, held, mitigations}
use Rattle.dots_history.specs.Calm.{may_configure, is_own}
use Rattle.dots_history.specs.Fits.{is_of_mitigations}
use Rattle.dots_history.specs.Held.{config_of}
use Rattle.session_core.specs.declared.contact.PeerContact.{PeerContact}
use Rattle.session_core.specs.Contacts.{is_of, with_row, heard_from, row_heard}
use Rattle.session_core.specs.declared.setting.Setting.{Setting}
use Rattle.session_core.specs.declared.setting.Setting.TheVariants.{Interval, Missing, Retransmit, Timeout, Factor, Rate}
use Rattle.session_core.specs.Ranges.{is_within, is_accepted}
use Rattle.session_core.specs.Negotiating.{AreAccepted, negotiated}
use Rattle.session_core.specs.Beating.{Beating, Agrees}
use Rattle.session_core.specs.Beats.{after_beats}
use Rattle.session_core.proofs.Accepting.{taken}
use Rattle.dots_keys.specs.declared.request.ConfigBody.{ConfigBody}
use Rattle.dots_keys.specs.declared.request.Request.{Request}
use Rattle.dots_keys.specs.declared.reject.Reject.{Reject}
use Rattle.dots_registry.specs.RegistryValues.{RegistryValue, time_of}
use Rattle.dots_registry.specs.RegistryValues as registry
use Rattle.dots_registry.specs.Limits.{ClientsKeepLimits}
use Rattle.dots_registry.proofs.Configured.{own_configured, bounded_configured, fits_configured, configured_alone}
use Rattle.dots_keys.specs.declared.exchange.Exchange.{Exchange}
use Rattle.dots_machine.specs.declared.received.Received.{Received}
use Rattle.dots_settings.specs.Lookups.{no_domain}
use Rattle.dots_keys.specs.Exchanges.{exchange_in}
use Rattle.dots_machine.specs.Domains.{config_domain, is_gateway, is_stranger}
use Rattle.dots_machine.specs.Requests.{IsReceived, received_as, unread, asks_nothing, meant}
use Rattle.held_resources.specs.Tables.{config_now}
use Rattle.dots_machine.specs.Replies.{configuration_reply, absent}
use Rattle.dots_machine.specs.Deciding.{config_entry, config_view}
use Rattle.dots_machine.specs.ConfiguredPeers.{Configured, sid_of, is_held, configured_in, configured_by, beating_at}
use Rattle.dots_machine.specs.Verdict.{Verdict}
use Rattle.dots_machine.specs.declared.verdict.Verdict.TheVariants as verdict
use Rattle.dots_machine.specs.Machine.{State, Hears, by_message, unreadable, by_stranger, hearing, beating}
use Rattle.dots_server.specs.Receiving.{Lacks}
use Rattle.dots_server.specs.ServerValues.{ServerValue, Represents, RepresentsWith, RestartsWith, IsServing, IsAcceptable, CanCarryOut}
use Rattle.dots_server.specs.HearingPeers.{is_heard, is_wanted, as_heard, met, SaysBeat, beaten}
use Rattle.dots_server.specs.declared.deciding.Came.{Came}
use Rattle.dots_server.specs.declared.deciding.Came.TheVariants as came
use Rattle.dots_server.specs.Asking.{IsCome, heard_by}
use Rattle.dots_server.proofs.Verdicts.{known_is}

-- ---- who is heard

-- where no row is of the peer nothing is heard
pub none_heard : (peer now : ℕ) (rows : List PeerContact) → list_any (is_of peer) rows ≡ false → heard_from peer now rows ≡ rows
none_heard peer now rows none = no_row rows none
  where
    no_row : (rows : List PeerContact) → list_any (is_of peer) rows ≡ false → with_row peer (row_heard now) rows ≡ rows
    no_row [] none = refl
    no_row (row ∷ rows) none =
        let (here, later) = or_parts (is_of peer row) (list_any (is_of peer) rows) none in
        cond-false (is_of peer row) (row_heard now row ∷ rows) (row ∷ with_row peer (row_heard now) rows) here ∙ ap (λ rows. row ∷ rows) (no_row rows later)

module _ (settings : SettingsValue) (peer : ℕ) (datagram : List ℕ) (known : is_stranger (role_of settings peer) ≡ false) (state : State) where
  pub received_heard : (gateway : Bool) (got : Received) → IsReceived datagram gateway got → Hears settings state peer datagram (met settings (is_heard got) peer state)
  received_heard gateway got (unread fault breaks e) = unreadable fault breaks (ap (λ got. met settings (is_heard got) peer state) e)
  received_heard gateway got (asks_nothing message answer is spelled dismissed e) = by_message known message is spelled (ap (λ got. met settings (is_heard got) peer state) e)
  received_heard gateway got (meant message answer is spelled asks means e) = by_message known message is spelled (ap (λ got. met settings (is_heard got) peer state) e ∙ by_answer answer)
    where
      by_answer : (answer : Result Request Reject) → met settings (is_heard (received_as (exchange_in message) answer)) peer state ≡ hearing settings peer state
      by_answer (Ok request) = refl
      by_answer (Err reject) = refl

  pub lacking_heard : (gateway : Bool) (x : Exchange) → Lacks datagram gateway x → Hears settings state peer datagram (met settings true peer state)
  lacking_heard gateway x lacks = by_message known lacks.message lacks.is_message lacks.spelled refl

-- by what came of a datagram
pub came_heard : (settings : SettingsValue) (state : State) (peer : ℕ) (datagram : List ℕ) (what : Came) → IsCome settings peer datagram what
    → Hears settings state peer datagram (met settings (heard_by what) peer state)
came_heard settings state peer datagram came.FromStranger is = by_stranger is refl
came_heard settings state peer datagram (came.Lacking x) is = lacking_heard settings peer datagram is.0 state (is_gateway (role_of settings peer)) x is.1
came_heard settings state peer datagram (came.Received own got) is =
    received_heard settings peer datagram (ap is_stranger is.0.role ∙ known_is own) state (is_gateway (role_of settings peer)) got is.1

-- under the settings that a server has
pub hears_by : (given settings : SettingsValue) → given ≡ settings → (state : State) (peer : ℕ) (datagram : List ℕ) (new : State) → Hears given state peer datagram new
    → Hears settings state peer datagram new
hears_by given settings same state peer datagram new is = subst (λ s. Hears s state peer datagram new) same is

-- ---- a server that heard a peer

module _ (heard : Bool) (peer : ℕ) (old : ServerValue) where
  abbrev pub heard_sessions : List PeerContact
  heard_sessions = if heard then heard_from peer (time_of old.registry) old.watch.sessions else old.watch.sessions

  abbrev pub with_heard : ServerValue
  with_heard = record old { watch = record old.watch { sessions = heard_sessions } }

  with_met : (settings : SettingsValue) (state : State) (entries : List Entry) → RepresentsWith old settings state entries → RepresentsWith with_heard settings (as_heard heard peer state) entries
  with_met settings state entries represents =
      let of = represents.represents in record {
        represents = record {
          settings_are = of.settings_are;
          is_of = of.is_of;
          registry = of.registry;
          time_is = of.time_is;
          observers = of.observers;
          contacts = ap (λ t. if heard then heard_from peer t old.watch.sessions else old.watch.sessions) of.time_is
              ∙ ap (λ rows. if heard then heard_from peer state.time rows else rows) of.contacts;
          lines = of.lines;
          early = of.early;
          own = of.own;
          bounded = of.bounded;
          limits = of.limits;
        };
        ledger = represents.ledger;
        slots = represents.slots;
      }

  pub heard_restarts : (settings : SettingsValue) (state : State) (entries : List Entry) → RestartsWith old settings state entries → RestartsWith with_heard settings (as_heard heard peer state) entries
  heard_restarts settings state entries kept = record { represents = with_met settings state entries kept.represents; rests = kept.rests }

  pub heard_lives : IsServing old → IsServing with_heard
  heard_lives serving = record {
    state = as_heard heard peer serving.state;
    entries = serving.entries;
    represents = with_met old.settings serving.state serving.entries serving.represents;
    notified = serving.notified;
    rows = serving.rows;
    apart = serving.apart;
  }

-- a peer that isn't heard, or has no row, leaves the server as it is
pub not_heard : (heard : Bool) (peer : ℕ) (server : ServerValue) → (heard ≡ true → list_any (is_of peer) server.watch.sessions ≡ false) → server ≡ with_heard heard peer server
not_heard false peer server none = refl
not_heard true peer server none =
    ap (λ rows. record server { watch = record server.watch { sessions = rows } }) (sym (none_heard peer (time_of server.registry) server.watch.sessions (none refl)))

-- what is acceptable is so whatever the sessions are
module _ (server : ServerValue) (sessions : List PeerContact) where
  abbrev other : ServerValue
  other = record server { watch = record server.watch { sessions = sessions } }

  same_tables : (settings : SettingsValue) (state : State) → Represents other settings state → Represents server settings (record state { contacts = server.watch.sessions })
  same_tables settings state is = record {
    settings_are = is.settings_are;
    is_of = is.is_of;
    registry = is.registry;
    time_is = is.time_is;
    observers = is.observers;
    contacts = refl;
    lines = is.lines;
    early = is.early;
    own = is.own;
    bounded = is.bounded;
    limits = is.limits;
  }

  acceptable_still : (entry : Entry) → IsAcceptable server entry → IsAcceptable other entry
  acceptable_still entry can = record {
    now = can.now;
    fits = λ settings state is. can.fits settings (record state { contacts = server.watch.sessions }) (same_tables settings state is);
    own = λ settings state is. can.own settings (record state { contacts = server.watch.sessions }) (same_tables settings state is);
    one_peer = λ settings state is. can.one_peer settings (record state { contacts = server.watch.sessions }) (same_tables settings state is);
  }

  pub carried_still : (v : Verdict) → CanCarryOut v server → CanCarryOut v other
  carried_still verdict.Silent can = tt
  carried_still (verdict.Reply reply) can = tt
  carried_still (verdict.LongReply reply) can = tt
  carried_still (verdict.Retrieves x body) can = can
  carried_still (verdict.Accept reply entry) can = acceptable_still entry can

-- ---- what a peer has configured

module _ (server : ServerValue) (settings : SettingsValue) (state : State) (represents : Represents server settings state) (peer domain : ℕ)
    (may : may_configure (role_of server.settings peer) domain ≡ true) where
  pub configured_here : (found : Option Configured) → ((entries : List Entry) → registry.Represents server.registry entries → found ≡ config_of peer (held entries))
      → found ≡ configured_in state.history domain peer
  configured_here found is =
      is state.history represents.registry
      ∙ configured_alone settings state.history peer domain represents.own (subst (λ s. may_configure (role_of s peer) domain ≡ true) represents.settings_are may)

-- its sid is the one that is held
pub sid_found : (held_now : Option (ℕ × Bor Config)) → option_map (λ held_one. held_one.0) held_now ≡ sid_of (option_map config_now held_now)
sid_found None = refl
sid_found (Some (sid, config)) = refl

pub view_wanted : (x : Exchange) (sid : Option ℕ) (configured : Option Configured) → is_wanted sid configured ≡ true → config_view x sid configured ≡ verdict.LongReply (configuration_reply x configured)
view_wanted x None configured is = refl
view_wanted x (Some sid) configured is = cond-true (is_held sid configured) (verdict.LongReply (configuration_reply x configured)) (verdict.Reply (absent x)) is

pub view_absent : (x : Exchange) (sid : Option ℕ) (configured : Option Configured) → is_wanted sid configured ≡ false → config_view x sid configured ≡ verdict.Reply (absent x)
view_absent x None configured is = absurd (false≢true (sym is))
view_absent x (Some sid) configured is = cond-false (is_held sid configured) (verdict.LongReply (configuration_reply x configured)) (verdict.Reply (absent x)) is

-- ---- a configuration that is accepted

pub setting_configures : (sid : ℕ) (config : Config) → is_configuration (change.SetConfig sid config) ≡ true
unfolding is_configuration
setting_configures sid config = refl

pub clearing_configures : is_configuration change.ClearConfig ≡ true
unfolding is_configuration
clearing_configures = refl

-- each value that is accepted takes 32 bits
accepted_small : (setting : Setting) (value : ℕ) → is_accepted setting value ≡ true → nat_lt value (2 ^ 32) ≡ true
accepted_small setting value is = lt-ltb value (2 ^ 32) (below setting is)
  where
    most : (low high : ℕ) → is_within low high value ≡ true → value ≤ high
    most low high is = leb-true value high (and_parts (nat_le low value) (nat_le value high) is).1

    below : (setting : Setting) → is_accepted setting value ≡ true → value < 2 ^ 32
    below Interval is = by_interval (or_cases (value == 0) (is_within 15 240 value) is)
      where
        by_interval : (value == 0 ≡ true) ⊎ (is_within 15 240 value ≡ true) → value < 2 ^ 32
        by_interval (inl none) = let nothing = eqb-true value 0 none in omega (arith, nothing)
        by_interval (inr within) = let le = most 15 240 within in omega (arith, le)
    below Missing is = let le = most 3 20 is in omega (arith, le)
    below Retransmit is = let le = most 2 15 is in omega (arith, le)
    below Timeout is = let le = most 100 3000 is in omega (arith, le)
    below Factor is = let le = most 110 400 is in omega (arith, le)
    below Rate is = let le = most 1 100 is in omega (arith, le)

values_small : (values : Values) → AreAccepted values → values_within values ≡ true
values_small values are =
    and_from _ _
    (and_from _ _
    (and_from _ _
    (and_from _ _
    (and_from _ _ (accepted_small Interval values.interval are.interval) (accepted_small Missing values.missing are.missing))
    (accepted_small Retransmit values.retransmit are.retransmit))
    (accepted_small Timeout values.timeout are.timeout))
    (accepted_small Factor values.factor are.factor))
    (accepted_small Rate values.rate are.rate)

pub taken_within : (held : Option ℕ) (sid : ℕ) (body : ConfigBody) (config : Config) → negotiated held sid body ≡ Ok config → change_within (change.SetConfig sid config) ≡ true
taken_within held sid body config is =
    let accepted = taken held sid body config is in
    and_from (values_within config.mitigating) (values_within config.idle) (values_small config.mitigating accepted.0) (values_small config.idle accepted.1)

of_no_mitigation : (c : Change) → is_configuration c ≡ true → is_of_mitigations c ≡ false
unfolding is_configuration is_of_mitigations
of_no_mitigation (change.SetConfig sid config) is = refl
of_no_mitigation change.ClearConfig is = refl
of_no_mitigation _ is = absurd (false≢true is)

module _ (server : ServerValue) (peer domain : ℕ) (x : Exchange) (reply : List ℕ) (made : Change) (may : may_configure (role_of server.settings peer) domain ≡ true)
    (is : is_configuration made ≡ true) (within : change_within made ≡ true) (short : length reply ≤ 64) where
  abbrev entry_configured : Entry
  entry_configured = config_entry (time_of server.registry) peer domain x reply made

  owned : (settings : SettingsValue) (state : State) → Represents server settings state → is_own settings entry_configured ≡ true
  owned settings state represents =
      own_configured settings entry_configured is (subst (λ s. may_configure (role_of s peer) domain ≡ true) represents.settings_are may) refl

  pub config_acceptable : IsAcceptable server entry_configured
  config_acceptable = record {
    now = refl;
    fits = λ settings state represents.
        let early : entry_configured.time < 2 ^ 48 = subst (λ t. t < 2 ^ 48) (sym represents.time_is) represents.early in
        fits_configured settings server.registry state.history entry_configured is represents.is_of represents.registry
        (subst (λ t. ClientsKeepLimits settings.limits t state.history) (sym represents.time_is) represents.limits)
        (owned settings state represents) (bounded_configured entry_configured early refl short within) refl;
    own = owned;
    one_peer = λ settings state represents.
        ap (λ b. not b || list_all (λ (m : Mitigation). not (same_client m.put entry_configured) || (peer == m.put.peer)) (mitigations (time_of server.registry) state.history))
        (of_no_mitigation made is);
  }

-- ---- heartbeats

-- what the server says of all peers is what the state says
pub agrees : (server : ServerValue) (settings : SettingsValue) (state : State) → Represents server settings state → Agrees (SaysBeat server.settings server.registry) (beating settings state)
agrees server settings state represents peer beat says =
    says state.history represents.registry (subst (λ s. list_all (is_own s) state.history ≡ true) (sym represents.settings_are) represents.own)
    ∙ ap (λ s. beating_at s (time_of server.registry) state.history peer) represents.settings_are
    ∙ ap (λ t. beating_at settings t state.history peer) represents.time_is

-- the heartbeats that were due were sent
module _ (old : ServerValue) (now : ℕ) (rows : List PeerContact) (time_is : now ≡ time_of old.registry)
    (left : (by : Beating) → Agrees (SaysBeat old.settings old.registry) by → rows ≡ after_beats by now old.watch.sessions) where
  abbrev with_rows : ServerValue
  with_rows = record old { watch = record old.watch { sessions = rows } }

  with_beaten : (settings : SettingsValue) (state : State) (entries : List Entry) → RepresentsWith old settings state entries → RepresentsWith with_rows settings (beaten settings state) entries
  with_beaten settings state entries represents =
      let of = represents.represents in record {
        represents = record {
          settings_are = of.settings_are;
          is_of = of.is_of;
          registry = of.registry;
          time_is = of.time_is;
          observers = of.observers;
          contacts = left (beating settings state) (agrees old settings state of)
              ∙ ap (λ t. after_beats (beating settings state) t old.watch.sessions) (time_is ∙ of.time_is)
              ∙ ap (after_beats (beating settings state) state.time) of.contacts;
          lines = of.lines;
          early = of.early;
          own = of.own;
          bounded = of.bounded;
          limits = of.limits;
        };
        ledger = represents.ledger;
        slots = represents.slots;
      }

  pub beaten_restarts : (settings : SettingsValue) (state : State) (entries : List Entry) → RestartsWith old settings state entries → RestartsWith with_rows settings (beaten settings state) entries
  beaten_restarts settings state entries kept = record { represents = with_beaten settings state entries kept.represents; rests = kept.rests }

  pub beaten_lives : IsServing old → IsServing with_rows
  beaten_lives serving = record {
    state = beaten old.settings serving.state;
    entries = serving.entries;
    represents = with_beaten old.settings serving.state serving.entries serving.represents;
    notified = serving.notified;
    rows = serving.rows;
    apart = serving.apart;
  }

module _ (settings : SettingsValue) (entries : List Entry) (peer : ℕ) (own : list_all (is_own settings) entries ≡ true) where
  -- a stranger has none, and any other has it in its domain
  pub configured_by_role : (who : Role) (found : Option Configured) → role_of settings peer ≡ who → ((domain : ℕ) → config_domain who ≡ Some domain → found ≡ config_of peer (held entries))
      → (config_domain who ≡ None → found ≡ None) → found ≡ configured_by settings entries peer
  configured_by_role role.Stranger found at there none = none refl ∙ sym (ap (λ who. option_and_then (λ domain. configured_in entries domain peer) (config_domain who)) at)
  configured_by_role (role.Client d) found at there none =
      there d refl ∙ configured_alone settings entries peer d own (ap (λ who. may_configure who d) at ∙ eq-eqb d d refl)
      ∙ sym (ap (λ who. option_and_then (λ domain. configured_in entries domain peer) (config_domain who)) at)
  configured_by_role role.Gateway found at there none =
      there no_domain refl ∙ configured_alone settings entries peer no_domain own (ap (λ who. may_configure who no_domain) at ∙ refl)
      ∙ sym (ap (λ who. option_and_then (λ domain. configured_in entries domain peer) (config_domain who)) at)
