-- What is granted and what is withdrawn fits the history, and the clients keep their limits.
use Rattle.std.proofs.Common.{◌≡◌, ℕ, ◌+◌, ◌≤◌, Bool, true, false, cond, not, ◌&&◌, ◌||◌, List, [], ◌∷◌, ◌++◌, Ok, inl, inr, refl, sym, ap, ◌∙◌, subst, le_trans, arith}
use Rattle.std.specs.Prelude.{◌==◌, nat_le}
use Rattle.std.proofs.lemmas.Bool.{false≢true, cond_both, cases_Bool, and_parts, and_from, and_left, or_parts, le-leb}
use Rattle.dots_settings.specs.declared.limits.Limits.{Limits}
use Rattle.dots_settings.specs.Settings.{SettingsValue}
use Rattle.dots_history.specs.declared.entry.Entry.{Entry}
use Rattle.dots_history.specs.declared.change.Change.{Change}
use Rattle.dots_history.specs.declared.change.Change.TheVariants as change
use Rattle.dots_history.specs.Bounds.{within_bounds}
use Rattle.dots_history.specs.Entries.{same_client, is_loss}
use Rattle.dots_history.specs.Histories.{Mitigation, live, tally, mitigations, held}
use Rattle.dots_history.specs.Calm.{is_of_settings, came_rightly, is_own, IsCalmBy}
use Rattle.dots_history.specs.Capacities.{is_registration, is_alias, is_list, has_client}
use Rattle.dots_history.specs.Fits.{is_of_mitigations, is_registered, registers_rightly, fits}
use Rattle.dots_history.proofs.Adding.{adding}
use Rattle.dots_history.proofs.Ageing.{mitigations_age}
use Rattle.dots_history.proofs.GoingOn.{held_push}
use Rattle.dots_history.proofs.Joining.{fits_so, tally_with, tally_held, tally_same, same_by}
use Rattle.dots_history.specs.Views.{mitigations_at}
use Rattle.held_resources.specs.Tables.{rooms_of}
use Rattle.held_resources.specs.Accepting.{accepts, keeps_rooms}
use Rattle.held_resources.proofs.Lawful.{accepts_own}
use Rattle.live_mitigations.specs.LiveValues.{has_live_room}
use Rattle.conflict_rules.specs.Lives.{lives_of}
use Rattle.conflict_rules.specs.declared.judging.Judged.{Judged}
use Rattle.conflict_rules.specs.Requests.{Request}
use Rattle.dots_registry.specs.RegistryValues.{RegistryValue, IsOf, Represents, time_of}
use Rattle.dots_registry.specs.Fitting.{fits_now}
use Rattle.conflict_rules.specs.ByHistory.{client_in, judge_request}
use Rattle.dots_registry.proofs.Conditions.{fits_possible}
use Rattle.dots_registry.specs.Limits.{ClientsKeepLimits}
use Rattle.dots_registry.proofs.Granted.{granted_by}
use Rattle.dots_registry.proofs.Counted.{Keeps, granted_room, withdrawn_room, lost_room}

-- ---- what puts or withdraws a mitigation registers nothing, and holds nothing
nothing_held : (c : Change) → is_of_mitigations c ≡ true → (is_registration c ≡ false) × (is_alias c || is_list c ≡ false)
unfolding is_of_mitigations is_registration is_alias is_list
nothing_held (change.Put put) is = (refl, refl)
nothing_held (change.Withdraw mid) is = (refl, refl)
nothing_held _ is = absurd (false≢true is)

-- nor does what says that a signal is lost or back
nothing_lost : (c : Change) → is_loss c ≡ true → (is_registration c ≡ false) × (is_alias c || is_list c ≡ false)
unfolding is_loss is_registration is_alias is_list
nothing_lost change.Lost is = (refl, refl)
nothing_lost change.Back is = (refl, refl)
nothing_lost _ is = absurd (false≢true is)

-- an entry that registers nothing and writes no alias and no list
abbrev HoldsNone : Entry → Type 0
HoldsNone e = (is_registration e.change ≡ false) × (is_alias e.change || is_list e.change ≡ false)

rightly : (standing : List Entry) (e : Entry) → HoldsNone e → registers_rightly standing e ≡ true
rightly standing e none =
    and_from
    (not (is_registration e.change) || not (is_registered standing e))
    (has_client standing e)
    (ap (λ b. not b || not (is_registered standing e)) none.0)
    (ap (λ b. not b || is_registered standing e) none.1)

-- of what it isn't itself no more is held after it
held_fewer : (q : Entry → Bool) (e : Entry) (entries : List Entry) → q e ≡ false → tally q (held (entries ++ e ∷ [])) ≤ tally q (held entries)
held_fewer q e entries out =
    subst (λ es. tally q es ≤ tally q (held entries)) (sym (held_push e entries)) (tally_held q e (held entries) out)

aliases_fewer : (client e : Entry) (entries : List Entry) → HoldsNone e
    → tally (λ (x : Entry). is_alias x.change && same_client client x) (held (entries ++ e ∷ []))
    ≤ tally (λ (x : Entry). is_alias x.change && same_client client x) (held entries)
aliases_fewer client e entries none =
    held_fewer (λ (x : Entry). is_alias x.change && same_client client x) e entries
    (and_left (is_alias e.change) (same_client client e) (or_parts (is_alias e.change) (is_list e.change) none.1).0)

module _ (settings : SettingsValue) (registry : RegistryValue) (entries : List Entry) (e : Entry) (is_of : IsOf settings registry)
    (represents : Represents registry entries) (clients : ClientsKeepLimits settings.limits (time_of registry) entries) (own : is_own settings e ≡ true)
    (within : within_bounds e ≡ true) (at : e.time ≡ time_of registry) (none : HoldsNone e)
    (keeps : Keeps settings.limits (time_of registry) entries e) where
  of_settings : is_of_settings settings e ≡ true
  of_settings = (and_parts (is_of_settings settings e) (came_rightly e) own).0

  same_limits : registry.live.limits ≡ settings.limits
  same_limits = is_of.limits

  held_rooms : keeps_rooms (rooms_of settings.limits) e (held (entries ++ e ∷ [])) ≡ true
  held_rooms =
      let after = held (entries ++ e ∷ []) in
      let registered = tally (λ (x : Entry). is_registration x.change && (x.domain == e.domain)) in
      let aliased = tally (λ (x : Entry). is_alias x.change && same_client e x) in
      let listed = tally (λ (x : Entry). is_list x.change && same_client e x) in
      let lists = or_parts (is_alias e.change) (is_list e.change) none.1 in
      and_from
      (nat_le (registered after) settings.limits.clients)
      (nat_le (aliased after) settings.limits.aliases && nat_le (listed after) settings.limits.acls)
      (le-leb (registered after) settings.limits.clients
      (le_trans
      (held_fewer (λ (x : Entry). is_registration x.change && (x.domain == e.domain)) e entries (and_left (is_registration e.change) (e.domain == e.domain) none.0))
      (subst (λ (l : Limits). registered (held entries) ≤ l.clients) same_limits (represents.limits.registered e.domain))))
      (and_from
      (nat_le (aliased after) settings.limits.aliases)
      (nat_le (listed after) settings.limits.acls)
      (le-leb (aliased after) settings.limits.aliases (le_trans (aliases_fewer e e entries none) (clients.aliased e)))
      (le-leb (listed after) settings.limits.acls
      (le_trans
      (held_fewer (λ (x : Entry). is_list x.change && same_client e x) e entries (and_left (is_list e.change) (same_client e e) lists.1))
      (subst (λ (l : Limits). listed (held entries) ≤ l.acls) same_limits (represents.limits.listed e)))))

  accepted : accepts registry.held.sizes entries e ≡ true
  accepted =
      ap (λ sizes. accepts sizes entries e) is_of.sizes
      ∙ accepts_own settings entries e of_settings
      ∙ and_from
      (registers_rightly (held entries) e)
      (keeps_rooms (rooms_of settings.limits) e (held (entries ++ e ∷ [])))
      (rightly (held entries) e none)
      held_rooms

  live_room : has_live_room registry.live.limits entries e ≡ true
  live_room =
      let t = time_of registry in
      let of_domain = tally (λ (m : Mitigation). m.put.domain == e.domain) (mitigations t (entries ++ e ∷ [])) in
      let of_client = tally (λ (m : Mitigation). same_client e m.put) (mitigations t (entries ++ e ∷ [])) in
      ap (λ (l : Limits). has_live_room l entries e) same_limits
      ∙ ap
      (λ u. nat_le (tally (λ (m : Mitigation). m.put.domain == e.domain) (mitigations u (entries ++ e ∷ []))) settings.limits.domain_mitigations
      && nat_le (tally (λ (m : Mitigation). same_client e m.put) (mitigations u (entries ++ e ∷ []))) settings.limits.client_mitigations)
      at
      ∙ and_from
      (nat_le of_domain settings.limits.domain_mitigations)
      (nat_le of_client settings.limits.client_mitigations)
      (le-leb
      of_domain
      settings.limits.domain_mitigations
      (keeps.of_domain
      (subst
      (λ (l : Limits). tally (λ (m : Mitigation). m.put.domain == e.domain) (mitigations t entries) ≤ l.domain_mitigations)
      same_limits
      (represents.limits.live e.domain))))
      (le-leb of_client settings.limits.client_mitigations (keeps.of_client (clients.live e)))

  pub entry_fits_now : fits_now settings registry entries e ≡ true
  entry_fits_now =
      fits_possible settings registry entries e is_of represents (and_from (within_bounds e) (is_of_settings settings e) within of_settings)
      ∙ and_from
      (nat_le (time_of registry) e.time)
      (accepts registry.held.sizes entries e && has_live_room registry.live.limits entries e)
      (le-leb (time_of registry) e.time (omega (arith, at)))
      (and_from (accepts registry.held.sizes entries e) (has_live_room registry.live.limits entries e) accepted live_room)

-- ---- the clients' limits after an entry
live_still : (limits : Limits) (t : ℕ) (entries : List Entry) (e : Entry) → ClientsKeepLimits limits t entries → t ≤ e.time
    → tally (λ (m : Mitigation). same_client e m.put) (mitigations e.time (entries ++ e ∷ [])) ≤ limits.client_mitigations
    → (client : Entry) → tally (λ (m : Mitigation). same_client client m.put) (mitigations e.time (entries ++ e ∷ [])) ≤ limits.client_mitigations
live_still limits t entries e clients later few client =
    elim (cases_Bool (same_client client e)) [
      | inl same ↦
          subst
          (λ n. n ≤ limits.client_mitigations)
          (sym (tally_same
          (λ (m : Mitigation). same_client client m.put)
          (λ (m : Mitigation). same_client e m.put)
          (λ m. same_by client e m.put same)
          (mitigations e.time (entries ++ e ∷ []))))
          few
      | inr other ↦
          le_trans
          (subst
          (λ ms. tally (λ (m : Mitigation). same_client client m.put) ms ≤ tally (λ (m : Mitigation). same_client client m.put) (mitigations t entries))
          (sym (adding t e entries later))
          (tally_with (same_client client) e (mitigations t entries) other))
          (clients.live client)
    ]

aliased_still : (limits : Limits) (t : ℕ) (entries : List Entry) (e : Entry) → ClientsKeepLimits limits t entries
    → tally (λ (x : Entry). is_alias x.change && same_client e x) (held (entries ++ e ∷ [])) ≤ limits.aliases
    → (client : Entry) → tally (λ (x : Entry). is_alias x.change && same_client client x) (held (entries ++ e ∷ [])) ≤ limits.aliases
aliased_still limits t entries e clients few client =
    elim (cases_Bool (is_alias e.change && same_client client e)) [
      | inl both ↦
          let same = (and_parts (is_alias e.change) (same_client client e) both).1 in
          subst
          (λ n. n ≤ limits.aliases)
          (sym (tally_same
          (λ (x : Entry). is_alias x.change && same_client client x)
          (λ (x : Entry). is_alias x.change && same_client e x)
          (λ x. ap (λ b. is_alias x.change && b) (same_by client e x same))
          (held (entries ++ e ∷ []))))
          few
      | inr other ↦
          le_trans
          (subst
          (λ hs. tally (λ (x : Entry). is_alias x.change && same_client client x) hs ≤ tally (λ (x : Entry). is_alias x.change && same_client client x) (held entries))
          (sym (held_push e entries))
          (tally_held (λ (x : Entry). is_alias x.change && same_client client x) e (held entries) other))
          (clients.aliased client)
    ]

pub limits_empty : (limits : Limits) (t : ℕ) → ClientsKeepLimits limits t []
limits_empty limits t = record { live = λ client. omega arith; aliased = λ client. omega arith }

fewer_at : (q : Mitigation → Bool) (u : ℕ) (ms : List Mitigation) → tally q (mitigations_at u ms) ≤ tally q ms
fewer_at q u [] = omega arith
fewer_at q u (m ∷ ms) =
    let go = fewer_at q u ms in
    cond_both
    (live u m.put m.status)
    (m ∷ mitigations_at u ms)
    (mitigations_at u ms)
    (λ ys. tally q ys ≤ cond (q m) 1 0 + tally q ms)
    (λ stays. omega (arith, go))
    (λ goes. omega (arith, go))

pub limits_later : (limits : Limits) (t u : ℕ) (entries : List Entry) → t ≤ u → ClientsKeepLimits limits t entries → ClientsKeepLimits limits u entries
limits_later limits t u entries later clients = record {
  live = λ client.
      le_trans
      (subst
      (λ ms. tally (λ (m : Mitigation). same_client client m.put) ms ≤ tally (λ (m : Mitigation). same_client client m.put) (mitigations t entries))
      (sym (mitigations_age t u entries later))
      (fewer_at (λ (m : Mitigation). same_client client m.put) u (mitigations t entries)))
      (clients.live client);
  aliased = clients.aliased;
}

pub limits_fitting : (settings : SettingsValue) (t : ℕ) (entries : List Entry) (e : Entry) → ClientsKeepLimits settings.limits t entries → t ≤ e.time
    → fits settings entries e ≡ true → ClientsKeepLimits settings.limits e.time (entries ++ e ∷ [])
limits_fitting settings t entries e clients later is =
    let so = fits_so settings entries e is in
    record {
      live = live_still settings.limits t entries e clients later so.of_client;
      aliased = aliased_still settings.limits t entries e clients so.aliased;
    }

pub limits_calm : (settings : SettingsValue) (t : ℕ) (entries : List Entry) → IsCalmBy settings t entries → ClientsKeepLimits settings.limits t entries
limits_calm settings t entries calm = record { live = calm.of_client; aliased = calm.capacities.aliased }

pub limits_hold : (limits : Limits) (t : ℕ) (entries : List Entry) (e : Entry) → ClientsKeepLimits limits t entries → e.time ≡ t → HoldsNone e
    → Keeps limits t entries e → ClientsKeepLimits limits t (entries ++ e ∷ [])
limits_hold limits t entries e clients at none keeps =
    let timely : t ≤ e.time = omega (arith, at) in
    let few : tally (λ (m : Mitigation). same_client e m.put) (mitigations e.time (entries ++ e ∷ [])) ≤ limits.client_mitigations =
    subst
    (λ u. tally (λ (m : Mitigation). same_client e m.put) (mitigations u (entries ++ e ∷ [])) ≤ limits.client_mitigations)
    (sym at)
    (keeps.of_client (clients.live e)) in
    record {
      live = λ client.
          subst
          (λ u. tally (λ (m : Mitigation). same_client client m.put) (mitigations u (entries ++ e ∷ [])) ≤ limits.client_mitigations)
          at
          (live_still limits t entries e clients timely few client);
      aliased = λ client. le_trans (aliases_fewer client e entries none) (clients.aliased client);
    }

-- ---- what is granted
put_kind : (e : Entry) (judged : Judged) → e.change ≡ change.Put judged.put → is_of_mitigations e.change ≡ true
unfolding is_of_mitigations
put_kind e judged is = ap is_of_mitigations is

granted_keeps : (settings : SettingsValue) (t : ℕ) (entries : List Entry) (domain : ℕ) (request : Request) (judged : Judged) (e : Entry)
    → e.time ≡ t → judge_request settings t entries domain request ≡ Ok judged → e.domain ≡ domain → e.cuid ≡ request.cuid → e.change ≡ change.Put judged.put
    → Keeps settings.limits t entries e
granted_keeps settings t entries domain request judged e at is of cuid asks =
    let here : judge_request settings t entries e.domain request ≡ Ok judged = ap (λ d. judge_request settings t entries d request) of ∙ is in
    let client = client_in entries (record { domain = e.domain; cuid = request.cuid }) in
    granted_room settings t entries client request judged e at (granted_by settings (lives_of e.domain t entries) client t request judged here) cuid asks

pub fits_granted : (settings : SettingsValue) (registry : RegistryValue) (entries : List Entry) (domain : ℕ) (request : Request) (judged : Judged) (e : Entry)
    → IsOf settings registry → Represents registry entries → ClientsKeepLimits settings.limits (time_of registry) entries
    → is_own settings e ≡ true → within_bounds e ≡ true → e.time ≡ time_of registry
    → judge_request settings (time_of registry) entries domain request ≡ Ok judged
    → e.peer ≡ request.peer → e.domain ≡ domain → e.cuid ≡ request.cuid → e.change ≡ change.Put judged.put
    → fits_now settings registry entries e ≡ true
fits_granted settings registry entries domain request judged e is_of represents clients own within at is peer of cuid asks =
    entry_fits_now
    settings
    registry
    entries
    e
    is_of
    represents
    clients
    own
    within
    at
    (nothing_held e.change (put_kind e judged asks))
    (granted_keeps settings (time_of registry) entries domain request judged e at is of cuid asks)

pub limits_granted : (settings : SettingsValue) (t : ℕ) (entries : List Entry) (domain : ℕ) (request : Request) (judged : Judged) (e : Entry)
    → ClientsKeepLimits settings.limits t entries → e.time ≡ t
    → judge_request settings t entries domain request ≡ Ok judged
    → e.peer ≡ request.peer → e.domain ≡ domain → e.cuid ≡ request.cuid → e.change ≡ change.Put judged.put
    → ClientsKeepLimits settings.limits t (entries ++ e ∷ [])
limits_granted settings t entries domain request judged e clients at is peer of cuid asks =
    limits_hold
    settings.limits
    t
    entries
    e
    clients
    at
    (nothing_held e.change (put_kind e judged asks))
    (granted_keeps settings t entries domain request judged e at is of cuid asks)

-- ---- what is withdrawn
withdrawal_kind : (e : Entry) (mid : ℕ) → e.change ≡ change.Withdraw mid → is_of_mitigations e.change ≡ true
unfolding is_of_mitigations
withdrawal_kind e mid is = ap is_of_mitigations is

pub fits_withdrawal : (settings : SettingsValue) (registry : RegistryValue) (entries : List Entry) (mid : ℕ) (e : Entry) → e.change ≡ change.Withdraw mid
    → IsOf settings registry → Represents registry entries → ClientsKeepLimits settings.limits (time_of registry) entries
    → is_own settings e ≡ true → within_bounds e ≡ true → e.time ≡ time_of registry
    → fits_now settings registry entries e ≡ true
fits_withdrawal settings registry entries mid e is is_of represents clients own within at =
    entry_fits_now
    settings
    registry
    entries
    e
    is_of
    represents
    clients
    own
    within
    at
    (nothing_held e.change (withdrawal_kind e mid is))
    (withdrawn_room settings.limits (time_of registry) mid entries e at is)

pub limits_withdrawal : (limits : Limits) (t : ℕ) (entries : List Entry) (mid : ℕ) (e : Entry) → e.change ≡ change.Withdraw mid
    → ClientsKeepLimits limits t entries → e.time ≡ t → ClientsKeepLimits limits t (entries ++ e ∷ [])
limits_withdrawal limits t entries mid e is clients at =
    limits_hold limits t entries e clients at (nothing_held e.change (withdrawal_kind e mid is)) (withdrawn_room limits t mid entries e at is)

-- ---- a loss, or its end
pub fits_loss : (settings : SettingsValue) (registry : RegistryValue) (entries : List Entry) (e : Entry) → is_loss e.change ≡ true
    → IsOf settings registry → Represents registry entries → ClientsKeepLimits settings.limits (time_of registry) entries
    → is_own settings e ≡ true → within_bounds e ≡ true → e.time ≡ time_of registry
    → fits_now settings registry entries e ≡ true
fits_loss settings registry entries e is is_of represents clients own within at =
    entry_fits_now
    settings
    registry
    entries
    e
    is_of
    represents
    clients
    own
    within
    at
    (nothing_lost e.change is)
    (lost_room settings.limits (time_of registry) entries e at is)

pub limits_loss : (limits : Limits) (t : ℕ) (entries : List Entry) (e : Entry) → is_loss e.change ≡ true
    → ClientsKeepLimits limits t entries → e.time ≡ t → ClientsKeepLimits limits t (entries ++ e ∷ [])
limits_loss limits t entries e is clients at =
    limits_hold limits t entries e clients at (nothing_lost e.change is) (lost_room limits t entries e at is)
