-- What becomes of the part of a domain.
use Rattle.std.proofs.Common.{◌≡◌, ◌≢◌, ℕ, Bool, true, false, if◌then◌else◌, List, [], ◌∷◌, ◌++◌, map, filter, Option, Some, None, refl, sym, ap, ◌∙◌, subst, arith, append-nil, ◌==◌, ◌&&◌, not, option_map, option_and_then, is_some, inl, inr}
use Rattle.std.proofs.lemmas.Bool.{false≢true, both_ways, cond_both, cond-true, cond-false, cases_Bool}
use Rattle.std.proofs.lemmas.Bool.Decides.{nat_tests}
use Rattle.std.proofs.lemmas.Option.{same_Some}
use Rattle.std.proofs.lemmas.List.Elements.{filter-append}
use Rattle.dots_host.specs.declared.out.OwnedOut.{OwnedOut}
use Rattle.dots_settings.specs.declared.peer.Role.{Role}
use Rattle.dots_settings.specs.declared.peer.Role.TheVariants as role
use Rattle.dots_settings.specs.Settings.{SettingsValue}
use Rattle.dots_settings.specs.Lookups.{role_of}
use Rattle.dots_history.specs.declared.entry.Entry.{Entry}
use Rattle.dots_history.specs.Histories.{alone, held}
use Rattle.dots_history.specs.HistoryReading.{is_mitigated, is_waiting}
use Rattle.coap_observe.specs.Observed.{ObservedValue}
use Rattle.coap_observe.specs.Seen.{Lists}
use Rattle.session_core.specs.declared.contact.Contact.{Contact}
use Rattle.session_core.specs.declared.contact.Session.{Session}
use Rattle.session_core.specs.declared.contact.PeerContact.{PeerContact}
use Rattle.session_core.specs.Contacts.{is_of, session_of, session_heard, row_heard, heard_from, row_begun, numbered, session_in, contact_numbered, row_numbered}
use Rattle.session_core.specs.Beating.{Beating, has_lost, has_due, row_forgotten, row_sent, lost_in, contact_forgotten, session_sent, contact_sent}
use Rattle.session_core.specs.Spacing.{without_lost, with_beat}
use Rattle.session_core.specs.Notifying.{Bodies, Notifies}
use Rattle.dots_machine.specs.Domains.{config_domain}
use Rattle.dots_machine.specs.ConfiguredPeers.{beat_of, values_in_force, config_in, configured_in, entries_for, beating_at}
use Rattle.dots_machine.specs.Signals.{domain_of_client, own_domain, is_lost_in, is_watched_in, watched_by, is_watched, LastHeard, heard_at, last_heard, is_silent, loss_in, loss_of, row_lapsed, history_lapsed, rows_lapsed, back_in, back_of, signal_entry}
use Rattle.dots_machine.specs.Machine.{State, seen_in, Notified, hearing, lapsed, beating, Beats, Ticks}
use Rattle.dots_machine.specs.Observing.{bodies_at}
use Rattle.dots_machine.specs.Parts.{Part, is_domain, is_client_in, heard_in, part_of, heard_now, part_heard, begun_at, unless_silent, last_heard_lapsed, heard_lapsed, part_lapsed}
use Rattle.dots_history.specs.Held.{config_of, is_lost_of}
use Rattle.dots_history.specs.declared.change.Change.TheVariants as change

pub alone_twice : (domain : ℕ) (entries : List Entry) → alone domain entries ≡ alone domain (alone domain entries)
alone_twice domain [] = refl
alone_twice domain (e ∷ later) =
    cond_both
    (e.domain == domain)
    (e ∷ alone domain later)
    (alone domain later)
    (λ es. es ≡ alone domain es)
    (λ here. ap (λ es. e ∷ es) (alone_twice domain later) ∙ sym (cond-true (e.domain == domain) (e ∷ alone domain (alone domain later)) (alone domain (alone domain later)) here))
    (λ out. alone_twice domain later)

-- ---- whose a peer is

client_is : (who : Role) (domain : ℕ) → domain_of_client who ≡ Some domain → who ≡ role.Client domain
client_is (role.Client d) domain is = ap role.Client (same_Some d domain is)
client_is role.Gateway domain is = absurd (cc is)
client_is role.Stranger domain is = absurd (cc is)

pub own_or_not : (domain : ℕ) (own : Option ℕ) → is_domain domain own ≡ true → own ≡ Some domain
own_or_not domain None is = absurd (false≢true is)
own_or_not domain (Some other) is = let same : other ≡ domain = grind (arith, nat_tests, is) in ap Some same

pub is_own_domain : (domain : ℕ) (own : Option ℕ) → own ≡ Some domain → is_domain domain own ≡ true
is_own_domain domain None is = absurd (cc is)
is_own_domain domain (Some other) is = let same : other ≡ domain = same_Some other domain is in grind (arith, nat_tests, same)

pub not_own : (domain : ℕ) (own : Option ℕ) → own ≢ Some domain → is_domain domain own ≡ false
not_own domain own out = elim (cases_Bool (is_domain domain own)) [
  | inl is ↦ absurd (out (own_or_not domain own is))
  | inr never ↦ never
]

-- ---- what the entries of a domain say of its clients

module _ (settings : SettingsValue) (domain peer : ℕ) (own : own_domain settings peer ≡ Some domain) where
  who : role_of settings peer ≡ role.Client domain
  who = client_is (role_of settings peer) domain own

  abbrev beat_by : Role → ℕ → List Entry → ℕ × ℕ
  beat_by by_role t history = beat_of (values_in_force (is_mitigated t (entries_for by_role history) peer) (config_in (option_and_then (λ d. configured_in history d peer) (config_domain by_role))))

  pub beating_alone : (t : ℕ) (history : List Entry) → beating_at settings t history peer ≡ beating_at settings t (alone domain history) peer
  beating_alone t history =
      ap (λ by_role. beat_by by_role t history) who
      ∙ ap (λ es. beat_of (values_in_force (is_mitigated t es peer) (config_in (config_of peer (held es))))) (alone_twice domain history)
      ∙ sym (ap (λ by_role. beat_by by_role t (alone domain history)) who)

  pub watched_alone : (t : ℕ) (history : List Entry) → is_watched settings t history peer ≡ is_watched settings t (alone domain history) peer
  watched_alone t history =
      ap (watched_by t history peer) own
      ∙ ap (λ es. is_waiting t es peer && not (is_lost_of (held es) peer)) (alone_twice domain history)
      ∙ sym (ap (watched_by t (alone domain history) peer) own)

  pub back_alone : (t : ℕ) (history : List Entry) → back_of settings t history peer ≡ back_of settings t (alone domain history) peer
  back_alone t history =
      ap (back_in t history peer) own
      ∙ ap (λ es. if is_lost_of (held es) peer then signal_entry t peer change.Back domain ∷ [] else []) (alone_twice domain history)
      ∙ sym (ap (back_in t (alone domain history) peer) own)

  loss_alone_in : (t : ℕ) (history : List Entry) → loss_in t history peer (own_domain settings peer) ≡ loss_in t (alone domain history) peer (own_domain settings peer)
  loss_alone_in t history =
      ap (loss_in t history peer) own
      ∙ ap (λ es. if is_waiting t es peer && not (is_lost_of (held es) peer) then signal_entry t peer change.Lost domain ∷ [] else []) (alone_twice domain history)
      ∙ sym (ap (loss_in t (alone domain history) peer) own)

  pub loss_alone : (t : ℕ) (history : List Entry) (heard : Option ℕ)
      → loss_of settings t history (record { peer = peer; heard = heard }) ≡ loss_of settings t (alone domain history) (record { peer = peer; heard = heard })
  loss_alone t history heard =
      ap (λ by. if is_silent by t heard then loss_in t history peer (own_domain settings peer) else []) (beating_alone t history)
      ∙ ap (λ es. if is_silent (beating_at settings t (alone domain history) peer) t heard then es else []) (loss_alone_in t history)

  pub lapsed_alone : (t : ℕ) (history : List Entry) (heard : Option ℕ)
      → last_heard_lapsed settings t history (record { peer = peer; heard = heard }) ≡ last_heard_lapsed settings t (alone domain history) (record { peer = peer; heard = heard })
  lapsed_alone t history heard =
      ap (λ by. lapsed_by by (is_watched settings t history peer)) (beating_alone t history)
      ∙ ap (lapsed_by (beating_at settings t (alone domain history) peer)) (watched_alone t history)
    where
      lapsed_by : ℕ × ℕ → Bool → LastHeard
      lapsed_by by watched = record { peer = peer; heard = unless_silent by t (if watched then begun_at t heard else heard) }

-- ---- an entry of a signal is of the peer's domain

-- each is of this domain
abbrev AreOf : ℕ → List Entry → Type 0
AreOf domain [] = Unit {0}
AreOf domain (e ∷ es) = (e.domain ≡ domain) × AreOf domain es

one_of : (domain : ℕ) (test : Bool) (e : Entry) → e.domain ≡ domain → AreOf domain (if test then e ∷ [] else [])
one_of domain test e is = cond_both test (e ∷ []) [] (AreOf domain) (λ yes. (is, tt)) (λ never. tt)

all_here : (domain : ℕ) (es : List Entry) → AreOf domain es → alone domain es ≡ es
all_here domain [] are = refl
all_here domain (e ∷ es) are =
    cond-true (e.domain == domain) (e ∷ alone domain es) (alone domain es) (let is = are.0 in grind (arith, nat_tests, is)) ∙ ap (λ es. e ∷ es) (all_here domain es are.1)

none_here : (domain other : ℕ) (es : List Entry) → other ≢ domain → AreOf other es → alone domain es ≡ []
none_here domain other [] out are = refl
none_here domain other (e ∷ es) out are =
    cond-false (e.domain == domain) (e ∷ alone domain es) (alone domain es) (let is = are.0 in grind (arith, nat_tests, is, out)) ∙ none_here domain other es out are.1

-- they are of the domain of the peer, if it has one
abbrev AreOfPeer : Option ℕ → List Entry → Type 0
AreOfPeer None es = es ≡ []
AreOfPeer (Some domain) es = AreOf domain es

of_peer : (domain : ℕ) (history : List Entry) (own : Option ℕ) (es : List Entry) → AreOfPeer own es → own ≢ Some domain → alone domain (history ++ es) ≡ alone domain history
of_peer domain history None es are out = ap (λ es. alone domain (history ++ es)) are ∙ ap (alone domain) (append-nil history)
of_peer domain history (Some other) es are out =
    filter-append (λ (e : Entry). e.domain == domain) history es ∙ ap (λ es. alone domain history ++ es) (none_here domain other es (λ same. out (ap Some same)) are)
    ∙ append-nil (alone domain history)

here_of_peer : (domain : ℕ) (history es : List Entry) → AreOf domain es → alone domain (history ++ es) ≡ alone domain history ++ es
here_of_peer domain history es are = filter-append (λ (e : Entry). e.domain == domain) history es ∙ ap (λ es. alone domain history ++ es) (all_here domain es are)

backs_are : (t : ℕ) (history : List Entry) (peer : ℕ) (own : Option ℕ) → AreOfPeer own (back_in t history peer own)
backs_are t history peer None = refl
backs_are t history peer (Some domain) = one_of domain (is_lost_in history domain peer) (signal_entry t peer change.Back domain) refl

losses_are_in : (t : ℕ) (history : List Entry) (peer : ℕ) (own : Option ℕ) → AreOfPeer own (loss_in t history peer own)
losses_are_in t history peer None = refl
losses_are_in t history peer (Some domain) = one_of domain (is_watched_in t history domain peer) (signal_entry t peer change.Lost domain) refl

none_of_peer : (own : Option ℕ) → AreOfPeer own []
none_of_peer None = refl
none_of_peer (Some domain) = tt

losses_are : (settings : SettingsValue) (t : ℕ) (history : List Entry) (row : LastHeard) → AreOfPeer (own_domain settings row.peer) (loss_of settings t history row)
losses_are settings t history row =
    let own = own_domain settings row.peer in
    cond_both (is_silent (beating_at settings t history row.peer) t row.heard) (loss_in t history row.peer own) [] (AreOfPeer own)
    (λ silent. losses_are_in t history row.peer own) (λ never. none_of_peer own)

-- ---- what a message makes of the part

module _ (settings : SettingsValue) (domain : ℕ) where
  heard_row : (t : ℕ) (row : PeerContact) → last_heard (row_heard t row) ≡ record { peer = row.peer; heard = Some t }
  heard_row t row = ap (λ h. record { peer = row.peer; heard = Some h }) (at_session (session_of row))
    where
      at_session : (session : Option Session) → heard_at (session_heard t session) ≡ t
      at_session None = refl
      at_session (Some session) = refl

  heard_rows : (t peer : ℕ) (rows : List PeerContact) → map last_heard (heard_from peer t rows) ≡ heard_now t peer (map last_heard rows)
  heard_rows t peer [] = refl
  heard_rows t peer (row ∷ rows) =
      elim (cases_Bool (is_of peer row)) [
        | inl is ↦
            ap (map last_heard) (cond-true (is_of peer row) (row_heard t row ∷ rows) (row ∷ heard_from peer t rows) is)
            ∙ ap (λ r. r ∷ map last_heard rows) (heard_row t row)
            ∙ sym (cond-true (row.peer == peer) (record { peer = row.peer; heard = Some t } ∷ map last_heard rows) (last_heard row ∷ heard_now t peer (map last_heard rows)) is)
        | inr never ↦
            ap (map last_heard) (cond-false (is_of peer row) (row_heard t row ∷ rows) (row ∷ heard_from peer t rows) never)
            ∙ ap (λ rs. last_heard row ∷ rs) (heard_rows t peer rows)
            ∙ sym (cond-false (row.peer == peer) (record { peer = row.peer; heard = Some t } ∷ map last_heard rows) (last_heard row ∷ heard_now t peer (map last_heard rows)) never)
      ]

  abbrev clients : List LastHeard → List LastHeard
  clients rows = filter (is_client_in settings domain) rows

  -- a row of the domain's client stays, and others go
  keeps : (row : LastHeard) (rows : List LastHeard) → is_client_in settings domain row ≡ true → clients (row ∷ rows) ≡ row ∷ clients rows
  keeps row rows is = cond-true (is_client_in settings domain row) (row ∷ clients rows) (clients rows) is

  leaves : (row : LastHeard) (rows : List LastHeard) → is_client_in settings domain row ≡ false → clients (row ∷ rows) ≡ clients rows
  leaves row rows never = cond-false (is_client_in settings domain row) (row ∷ clients rows) (clients rows) never

  now_first : (t peer : ℕ) (row : LastHeard) (rows : List LastHeard) → (row.peer == peer) ≡ true → heard_now t peer (row ∷ rows) ≡ record { peer = row.peer; heard = Some t } ∷ rows
  now_first t peer row rows is = cond-true (row.peer == peer) (record { peer = row.peer; heard = Some t } ∷ rows) (row ∷ heard_now t peer rows) is

  now_later : (t peer : ℕ) (row : LastHeard) (rows : List LastHeard) → (row.peer == peer) ≡ false → heard_now t peer (row ∷ rows) ≡ row ∷ heard_now t peer rows
  now_later t peer row rows never = cond-false (row.peer == peer) (record { peer = row.peer; heard = Some t } ∷ rows) (row ∷ heard_now t peer rows) never

  is_peer : (peer : ℕ) (row : LastHeard) → (row.peer == peer) ≡ true → row.peer ≡ peer
  is_peer peer row is = grind (arith, nat_tests, is)

  -- a client of the domain is heard
  client_heard : (t peer : ℕ) (rows : List LastHeard) → own_domain settings peer ≡ Some domain → clients (heard_now t peer rows) ≡ heard_now t peer (clients rows)
  client_heard t peer [] own = refl
  client_heard t peer (row ∷ rows) own =
      elim (cases_Bool (row.peer == peer)) [
        | inl is ↦
            let client : is_client_in settings domain row ≡ true = is_own_domain domain (own_domain settings row.peer) (ap (own_domain settings) (is_peer peer row is) ∙ own) in
            ap clients (now_first t peer row rows is) ∙ keeps (record { peer = row.peer; heard = Some t }) rows client
            ∙ sym (ap (heard_now t peer) (keeps row rows client) ∙ now_first t peer row (clients rows) is)
        | inr never ↦ ap clients (now_later t peer row rows never) ∙ by_row never (client_heard t peer rows own)
      ]
    where
      by_row : (row.peer == peer) ≡ false → clients (heard_now t peer rows) ≡ heard_now t peer (clients rows) → clients (row ∷ heard_now t peer rows) ≡ heard_now t peer (clients (row ∷ rows))
      by_row never more =
          elim (cases_Bool (is_client_in settings domain row)) [
            | inl is ↦
                keeps row (heard_now t peer rows) is ∙ ap (λ rs. row ∷ rs) more
                ∙ sym (ap (heard_now t peer) (keeps row rows is) ∙ now_later t peer row (clients rows) never)
            | inr out ↦ leaves row (heard_now t peer rows) out ∙ more ∙ sym (ap (heard_now t peer) (leaves row rows out))
          ]

  -- any other peer is heard
  other_heard : (t peer : ℕ) (rows : List LastHeard) → own_domain settings peer ≢ Some domain → clients (heard_now t peer rows) ≡ clients rows
  other_heard t peer [] out = refl
  other_heard t peer (row ∷ rows) out =
      elim (cases_Bool (row.peer == peer)) [
        | inl is ↦
            let none : is_client_in settings domain row ≡ false = not_own domain (own_domain settings row.peer) (λ own. out (sym (ap (own_domain settings) (is_peer peer row is)) ∙ own)) in
            ap clients (now_first t peer row rows is) ∙ leaves (record { peer = row.peer; heard = Some t }) rows none ∙ sym (leaves row rows none)
        | inr never ↦ ap clients (now_later t peer row rows never) ∙ by_row (other_heard t peer rows out)
      ]
    where
      by_row : clients (heard_now t peer rows) ≡ clients rows → clients (row ∷ heard_now t peer rows) ≡ clients (row ∷ rows)
      by_row more =
          elim (cases_Bool (is_client_in settings domain row)) [
            | inl is ↦ keeps row (heard_now t peer rows) is ∙ ap (λ rs. row ∷ rs) more ∙ sym (keeps row rows is)
            | inr never ↦ leaves row (heard_now t peer rows) never ∙ more ∙ sym (leaves row rows never)
          ]

  abbrev part : State → Part
  part state = part_of settings domain state

  abbrev pub made : List Entry → List LastHeard → Part
  made entries heard = record { entries = entries; heard = heard }

  pub part_is : (a b : List Entry) (x y : List LastHeard) → a ≡ b → x ≡ y → made a x ≡ made b y
  part_is a b x y entries heard = ap (λ es. made es x) entries ∙ ap (made b) heard

  pub hearing_own : (state : State) (peer : ℕ) → own_domain settings peer ≡ Some domain → part (hearing settings peer state) ≡ part_heard settings state.time peer (part state)
  hearing_own state peer own =
      part_is _ _ _ _
      (here_of_peer domain state.history (back_of settings state.time state.history peer) (subst (λ o. AreOfPeer o (back_of settings state.time state.history peer)) own (backs_are state.time state.history peer (own_domain settings peer)))
      ∙ ap (λ es. alone domain state.history ++ es) (back_alone settings domain peer own state.time state.history))
      (ap clients (heard_rows state.time peer state.contacts) ∙ client_heard state.time peer (map last_heard state.contacts) own)

  pub hearing_other : (state : State) (peer : ℕ) → own_domain settings peer ≢ Some domain → part (hearing settings peer state) ≡ part state
  hearing_other state peer out =
      part_is _ _ _ _
      (of_peer domain state.history (own_domain settings peer) (back_of settings state.time state.history peer) (backs_are state.time state.history peer (own_domain settings peer)) out)
      (ap clients (heard_rows state.time peer state.contacts) ∙ other_heard state.time peer (map last_heard state.contacts) out)

  -- ---- what a tick makes of the part

  lost_as : (by : Beating) (t : ℕ) (row : PeerContact) → has_lost by t row ≡ is_silent (by row.peer) t (last_heard row).heard
  lost_as by t row = at_session (session_of row)
    where
      at_session : (session : Option Session) → lost_in (by row.peer) t session ≡ is_silent (by row.peer) t (option_map heard_at session)
      at_session None = refl
      at_session (Some session) = refl

  -- a row that is silent is forgotten
  unless_lost : (by : Beating) (t : ℕ) (row : PeerContact) → last_heard (without_lost by t row) ≡ record { peer = row.peer; heard = unless_silent (by row.peer) t (last_heard row).heard }
  unless_lost by t row =
      elim (cases_Bool (has_lost by t row)) [
        | inl is ↦
            ap last_heard (cond-true (has_lost by t row) (row_forgotten row) row is) ∙ ap of_heard (forgotten row.contact)
            ∙ sym (ap of_heard (cond-true (is_silent (by row.peer) t (last_heard row).heard) None (last_heard row).heard (sym (lost_as by t row) ∙ is)))
        | inr never ↦
            ap last_heard (cond-false (has_lost by t row) (row_forgotten row) row never)
            ∙ sym (ap of_heard (cond-false (is_silent (by row.peer) t (last_heard row).heard) None (last_heard row).heard (sym (lost_as by t row) ∙ never)))
      ]
    where
      of_heard : Option ℕ → LastHeard
      of_heard heard = record { peer = row.peer; heard = heard }

      forgotten : (contact : Option Contact) → option_map heard_at (option_and_then session_in (option_map contact_forgotten contact)) ≡ None
      forgotten None = refl
      forgotten (Some contact) = refl

  -- with a row that has never session one begins
  begun_as : (t : ℕ) (row : PeerContact) → last_heard (row_begun t row) ≡ record { peer = row.peer; heard = begun_at t (last_heard row).heard }
  begun_as t row = by_session (session_of row) refl
    where
      by_session : (session : Option Session) → session_of row ≡ session → last_heard (row_begun t row) ≡ record { peer = row.peer; heard = begun_at t (last_heard row).heard }
      by_session None is =
          ap (λ o. last_heard (if is_some o then row else row_heard t row)) is ∙ heard_row t row
          ∙ sym (ap (λ o. record { peer = row.peer; heard = begun_at t (option_map heard_at o) }) is)
      by_session (Some session) is =
          ap (λ o. last_heard (if is_some o then row else row_heard t row)) is
          ∙ ap (λ o. record { peer = row.peer; heard = option_map heard_at o }) is
          ∙ sym (ap (λ o. record { peer = row.peer; heard = begun_at t (option_map heard_at o) }) is)

  row_after : (t : ℕ) (history : List Entry) (row : PeerContact) → last_heard (row_lapsed settings t history row) ≡ last_heard_lapsed settings t history (last_heard row)
  row_after t history row = by_watched (is_watched settings t history row.peer) refl
    where
      by : Beating
      by = beating_at settings t history

      by_watched : (watched : Bool) → is_watched settings t history row.peer ≡ watched → last_heard (row_lapsed settings t history row) ≡ last_heard_lapsed settings t history (last_heard row)
      by_watched true is =
          ap (λ b. last_heard (without_lost by t (if b then row_begun t row else row))) is
          ∙ unless_lost by t (row_begun t row)
          ∙ ap (λ (r : LastHeard). record { peer = r.peer; heard = unless_silent (by r.peer) t r.heard }) (begun_as t row)
          ∙ sym (ap (λ b. record { peer = row.peer; heard = unless_silent (by row.peer) t (if b then begun_at t (last_heard row).heard else (last_heard row).heard) }) is)
      by_watched false is =
          ap (λ b. last_heard (without_lost by t (if b then row_begun t row else row))) is
          ∙ unless_lost by t row
          ∙ sym (ap (λ b. record { peer = row.peer; heard = unless_silent (by row.peer) t (if b then begun_at t (last_heard row).heard else (last_heard row).heard) }) is)

  -- in the turn of a client of the domain, and of another peer
  turn_own : (t : ℕ) (history : List Entry) (row : LastHeard) → own_domain settings row.peer ≡ Some domain
      → alone domain (history ++ loss_of settings t history row) ≡ alone domain history ++ loss_of settings t (alone domain history) row
  turn_own t history row own =
      here_of_peer domain history (loss_of settings t history row) (subst (λ o. AreOfPeer o (loss_of settings t history row)) own (losses_are settings t history row))
      ∙ ap (λ es. alone domain history ++ es) (loss_alone settings domain row.peer own t history row.heard)

  turn_other : (t : ℕ) (history : List Entry) (row : LastHeard) → own_domain settings row.peer ≢ Some domain → alone domain (history ++ loss_of settings t history row) ≡ alone domain history
  turn_other t history row out = of_peer domain history (own_domain settings row.peer) (loss_of settings t history row) (losses_are settings t history row) out

  other_row : (row : LastHeard) → is_client_in settings domain row ≡ false → own_domain settings row.peer ≢ Some domain
  other_row row never own = both_ways (is_client_in settings domain row) never (is_own_domain domain (own_domain settings row.peer) own)

  own_row : (row : LastHeard) → is_client_in settings domain row ≡ true → own_domain settings row.peer ≡ Some domain
  own_row row is = own_or_not domain (own_domain settings row.peer) is

  history_alone : (t : ℕ) (history : List Entry) (rows : List LastHeard) → alone domain (history_lapsed settings t history rows) ≡ history_lapsed settings t (alone domain history) (clients rows)
  history_alone t history [] = refl
  history_alone t history (row ∷ rows) =
      elim (cases_Bool (is_client_in settings domain row)) [
        | inl is ↦
            history_alone t (history ++ loss_of settings t history row) rows
            ∙ ap (λ es. history_lapsed settings t es (clients rows)) (turn_own t history row (own_row row is))
            ∙ sym (ap (history_lapsed settings t (alone domain history)) (keeps row rows is))
        | inr never ↦
            history_alone t (history ++ loss_of settings t history row) rows
            ∙ ap (λ es. history_lapsed settings t es (clients rows)) (turn_other t history row (other_row row never))
            ∙ sym (ap (history_lapsed settings t (alone domain history)) (leaves row rows never))
      ]

  rows_alone : (t : ℕ) (history : List Entry) (rows : List PeerContact)
      → clients (map last_heard (rows_lapsed settings t history rows)) ≡ heard_lapsed settings t (alone domain history) (clients (map last_heard rows))
  rows_alone t history [] = refl
  rows_alone t history (row ∷ rows) =
      ap (λ r. clients (r ∷ map last_heard (rows_lapsed settings t next rows))) (row_after t history row)
      ∙ elim (cases_Bool (is_client_in settings domain (last_heard row))) [
        | inl is ↦
            keeps (last_heard_lapsed settings t history (last_heard row)) (map last_heard (rows_lapsed settings t next rows)) is
            ∙ ap (λ rs. last_heard_lapsed settings t history (last_heard row) ∷ rs) (rows_alone t next rows)
            ∙ ap (λ es. last_heard_lapsed settings t history (last_heard row) ∷ heard_lapsed settings t es (clients (map last_heard rows))) (turn_own t history (last_heard row) (own_row (last_heard row) is))
            ∙ ap (λ r. r ∷ heard_lapsed settings t (alone domain history ++ loss_of settings t (alone domain history) (last_heard row)) (clients (map last_heard rows)))
            (lapsed_alone settings domain row.peer (own_row (last_heard row) is) t history (last_heard row).heard)
            ∙ sym (ap (heard_lapsed settings t (alone domain history)) (keeps (last_heard row) (map last_heard rows) is))
        | inr never ↦
            leaves (last_heard_lapsed settings t history (last_heard row)) (map last_heard (rows_lapsed settings t next rows)) never
            ∙ rows_alone t next rows
            ∙ ap (λ es. heard_lapsed settings t es (clients (map last_heard rows))) (turn_other t history (last_heard row) (other_row (last_heard row) never))
            ∙ sym (ap (heard_lapsed settings t (alone domain history)) (leaves (last_heard row) (map last_heard rows) never))
      ]
    where
      next : List Entry
      next = history ++ loss_of settings t history (last_heard row)

  pub lapsed_part : (state : State) → part (lapsed settings state) ≡ part_lapsed settings state.time (part state)
  lapsed_part state =
      part_is _ _ _ _ (history_alone state.time state.history (map last_heard state.contacts)) (rows_alone state.time state.history state.contacts)

-- ---- notifications and heartbeats leave it

numbered_row : (row : PeerContact) → last_heard (row_numbered row) ≡ last_heard row
numbered_row row = ap (λ h. record { peer = row.peer; heard = h }) (by_contact row.contact)
  where
    by_contact : (contact : Option Contact) → option_map heard_at (option_and_then session_in (option_map contact_numbered contact)) ≡ option_map heard_at (option_and_then session_in contact)
    by_contact None = refl
    by_contact (Some contact) = refl

numbered_rows : (peer : ℕ) (rows : List PeerContact) → map last_heard (numbered peer rows) ≡ map last_heard rows
numbered_rows peer [] = refl
numbered_rows peer (row ∷ rows) =
    cond_both (is_of peer row) (row_numbered row ∷ rows) (row ∷ numbered peer rows) (λ rs. map last_heard rs ≡ map last_heard (row ∷ rows))
    (λ yes. ap (λ r. r ∷ map last_heard rows) (numbered_row row)) (λ never. ap (λ rs. last_heard row ∷ rs) (numbered_rows peer rows))

notified_rows : (lists : Lists) (bodies : Bodies) (observed : List ObservedValue) (contacts : List PeerContact) (sends : List OwnedOut) (new : List ObservedValue) (left : List PeerContact)
    → Notifies lists bodies observed contacts sends new left → map last_heard left ≡ map last_heard contacts
notified_rows lists bodies [] contacts sends new left n = ap (map last_heard) n.2
notified_rows lists bodies (o ∷ os) contacts sends new left (inl (rest, is, more)) = notified_rows lists bodies os contacts sends rest left more
notified_rows lists bodies (o ∷ os) contacts sends new left (inr (id, later, rest, due, numbered_so, sent, is, more)) =
    notified_rows lists bodies os (numbered o.observer.peer contacts) later rest left more ∙ numbered_rows o.observer.peer contacts

pub notified_heard : (settings : SettingsValue) (state new : State) (sends : List OwnedOut) → Notified settings state sends new → map last_heard new.contacts ≡ map last_heard state.contacts
notified_heard settings state new sends n =
    ap (λ (s : State). map last_heard s.contacts) n.3
    ∙ notified_rows (seen_in settings state) (bodies_at settings state.time state.history) state.observers state.contacts sends n.0 n.1 n.2

sent_row : (t : ℕ) (row : PeerContact) → last_heard (row_sent t row) ≡ last_heard row
sent_row t row = ap (λ h. record { peer = row.peer; heard = h }) (by_contact row.contact)
  where
    by_session : (session : Option Session) → option_map heard_at (option_map (session_sent t) session) ≡ option_map heard_at session
    by_session None = refl
    by_session (Some session) = refl

    by_contact : (contact : Option Contact) → option_map heard_at (option_and_then session_in (option_map (contact_sent t) contact)) ≡ option_map heard_at (option_and_then session_in contact)
    by_contact None = refl
    by_contact (Some contact) = by_session contact.session

beaten_rows : (by : Beating) (t : ℕ) (rows : List PeerContact) → map last_heard (map (with_beat by t) rows) ≡ map last_heard rows
beaten_rows by t [] = refl
beaten_rows by t (row ∷ rows) =
    ap (λ rs. last_heard (with_beat by t row) ∷ rs) (beaten_rows by t rows)
    ∙ ap (λ r. r ∷ map last_heard rows)
    (cond_both (has_due by t row) (row_sent t row) row (λ r. last_heard r ≡ last_heard row) (λ yes. sent_row t row) (λ never. refl))

module _ (settings : SettingsValue) (domain : ℕ) where
  pub notified_part : (state new : State) (sends : List OwnedOut) → Notified settings state sends new → part_of settings domain new ≡ part_of settings domain state
  notified_part state new sends n =
      part_is settings domain _ _ _ _ (ap (λ (s : State). alone domain s.history) n.3) (ap (filter (is_client_in settings domain)) (notified_heard settings state new sends n))

  pub tick_part : (state : State) (sends : List OwnedOut) (new : State) → Ticks settings state sends new → part_of settings domain new ≡ part_lapsed settings state.time (part_of settings domain state)
  tick_part state sends new t =
      ap (part_of settings domain) t.beaten.1
      ∙ part_is settings domain _ _ _ _ refl (ap (filter (is_client_in settings domain)) (beaten_rows (beating settings t.between) t.between.time t.between.contacts))
      ∙ notified_part (lapsed settings state) t.between t.notices t.notified
      ∙ lapsed_part settings domain state
