-- What the rules accept can be carried out.
use Rattle.std.proofs.Common.{◌≡◌, ℕ, ◌<◌, ◌≤◌, Bool, true, ◌&&◌, List, [], ◌∷◌, ◌++◌, length, ◌⊎◌, inl, inr, Result, Ok, Err, refl, sym, ◌∙◌, subst, arith}
use Rattle.std.specs.Prelude.{◌==◌, nat_le, nat_lt}
use Rattle.std.proofs.lemmas.Bool.{false≢true, and_from, and_parts, le-leb, ltb-true}
use Rattle.dots_settings.specs.declared.limits.Limits.{Limits}
use Rattle.dots_settings.specs.declared.peer.Role.{Role}
use Rattle.dots_settings.specs.declared.peer.Role.TheVariants as role
use Rattle.dots_settings.specs.Settings.{SettingsValue}
use Rattle.dots_settings.specs.Lookups.{role_of}
use Rattle.dots_history.specs.declared.entry.Entry.{Entry}
use Rattle.dots_history.specs.Bounds.{within_bounds}
use Rattle.dots_history.specs.Entries.{same_client}
use Rattle.dots_history.specs.Histories.{Mitigation, Within, tally, mitigations, held}
use Rattle.dots_history.specs.Calm.{may_act}
use Rattle.dots_history.specs.Capacities.{is_registration, is_alias, is_list}
use Rattle.dots_history.specs.Fits.{last_or, last_time}
use Rattle.dots_history.specs.Fits as laws
use Rattle.installed_filters.specs.HistoryRows.{KeepsLimits}
use Rattle.http_cut.specs.Requests.{Request}
use Rattle.data_channel.specs.declared.reject.RestReject.{RestReject}
use Rattle.data_channel.specs.declared.request.RestRequest.{RestRequest}
use Rattle.data_channel.specs.Rest.{Rest}
use Rattle.data_channel.specs.Within.{IsWithin}
use Rattle.data_channel.proofs.Within.{asked_within}
use Rattle.dots_registry.specs.RegistryValues.{RegistryValue, Represents, IsOf, time_of, domains_of}
use Rattle.dots_registry.specs.Fitting.{fits_now, fits_then}
use Rattle.dots_registry.specs.Limits.{ClientsKeepLimits}
use Rattle.dots_registry.proofs.Conditions.{same_fits}
use Rattle.dots_registry.proofs.FittingEntries.{limits_fitting}
use Rattle.rest_answers.specs.declared.answer.RestAnswer.TheVariants as answer
use Rattle.rest_answers.specs.declared.caller.Caller.{Caller}
use Rattle.rest_answers.specs.Answer.{RestAnswer}
use Rattle.rest_answers.specs.Known.{known_of}
use Rattle.rest_answers.specs.Replies.{unavailable}
use Rattle.rest_answers.specs.Answers.{answer_to, rest_answer, Answers}
use Rattle.rest_answers.specs.Room.{KeepsRoom}
use Rattle.rest_answers.proofs.Accepted.{accepted_is_of}
use Rattle.rest_answers.proofs.Taken.{accepted_own, accepted_bounded, accepted_fits}
use Rattle.dots_data.specs.Accepting.{IsInUse, IsAcceptable, CanCarryOut}

-- ---- who may act for a domain

inside_role : (settings : SettingsValue) (r : Role) (domain : ℕ) → may_act settings r domain ≡ true → domain < length settings.domains
inside_role settings role.Stranger domain may = absurd (false≢true may)
inside_role settings (role.Client own) domain may = ltb-true domain (length settings.domains) (and_parts (own == domain) (nat_lt domain (length settings.domains)) may).1
inside_role settings role.Gateway domain may = ltb-true domain (length settings.domains) may

-- it is one of the settings
pub acts_inside : (settings : SettingsValue) (registry : RegistryValue) (caller : Caller) → IsOf settings registry
    → may_act settings (role_of settings caller.peer) caller.domain ≡ true → caller.domain < domains_of registry
acts_inside settings registry caller is_of may =
    let inside = inside_role settings (role_of settings caller.peer) caller.domain may in
    let same = is_of.domains in
    omega (arith, inside, same)

-- ---- a registry in use keeps the capacities

last_within : (low high : ℕ) (entries : List Entry) → Within low entries high → last_or low entries ≤ high
last_within low high [] is = is
last_within low high (e ∷ later) is = last_within e.time high later is.1

keeps_room : (settings : SettingsValue) (registry : RegistryValue) → IsOf settings registry → (used : IsInUse settings registry) → KeepsRoom settings.limits (time_of registry) used.history
keeps_room settings registry is_of used =
    let t = time_of registry in
    let history = used.history in
    let keeps : KeepsLimits settings.limits t history = subst (λ (l : Limits). KeepsLimits l t history) is_of.limits used.represents.limits in
    record {
      last = last_within 0 t history used.represents.live.in_order;
      room = λ e.
          let a = tally (λ (m : Mitigation). m.put.domain == e.domain) (mitigations t history) in
          let b = tally (λ (m : Mitigation). same_client e m.put) (mitigations t history) in
          let c = tally (λ (x : Entry). is_registration x.change && (x.domain == e.domain)) (held history) in
          let d = tally (λ (x : Entry). is_alias x.change && same_client e x) (held history) in
          let f = tally (λ (x : Entry). is_list x.change && same_client e x) (held history) in
          and_from
          (nat_le a settings.limits.domain_mitigations && nat_le b settings.limits.client_mitigations)
          (nat_le c settings.limits.clients && (nat_le d settings.limits.aliases && nat_le f settings.limits.acls))
          (and_from
          (nat_le a settings.limits.domain_mitigations)
          (nat_le b settings.limits.client_mitigations)
          (le-leb a settings.limits.domain_mitigations (keeps.live e.domain))
          (le-leb b settings.limits.client_mitigations (used.limits.live e)))
          (and_from
          (nat_le c settings.limits.clients)
          (nat_le d settings.limits.aliases && nat_le f settings.limits.acls)
          (le-leb c settings.limits.clients (keeps.registered e.domain))
          (and_from
          (nat_le d settings.limits.aliases)
          (nat_le f settings.limits.acls)
          (le-leb d settings.limits.aliases (used.limits.aliased e))
          (le-leb f settings.limits.acls (keeps.listed e))));
    }

-- ---- what is accepted

module _ (settings : SettingsValue) (registry : RegistryValue) (caller : Caller) (is_of : IsOf settings registry) (used : IsInUse settings registry)
    (may : may_act settings (role_of settings caller.peer) caller.domain ≡ true) where
  taken : (asked : RestRequest) (close : Bool) (reply : List ℕ) (entry : Entry) → IsWithin asked
      → rest_answer (known_of settings (time_of registry) used.history caller asked) caller close asked ≡ answer.Accept reply entry → IsAcceptable settings registry entry
  taken asked close reply entry within is =
      let t = time_of registry in
      let history = used.history in
      let has = accepted_is_of (known_of settings t history caller asked) caller close asked reply entry is in
      let quiet = has.other in
      let now = has.now in
      let keeps = keeps_room settings registry is_of used in
      let fits : fits_now settings registry history entry ≡ true =
      and_from
      (within_bounds entry)
      (fits_then settings registry history entry)
      (accepted_bounded (known_of settings t history caller asked) caller close asked reply entry within used.early is)
      (and_from
      (nat_le t entry.time)
      (laws.fits settings history entry)
      (le-leb t entry.time (omega (arith, now)))
      (accepted_fits settings t history caller close asked reply entry may keeps used.early is)) in
      record {
        now = now;
        fits = λ other represents. same_fits settings registry other history entry is_of represents used.represents ∙ fits;
        own = λ other represents. accepted_own settings t history caller close asked reply entry may is;
        one_peer = λ other represents. rw quiet refl;
      }

  pub ready : (asked : RestRequest) (close : Bool) (answered : RestAnswer) → IsWithin asked
      → (answered ≡ rest_answer (known_of settings (time_of registry) used.history caller asked) caller close asked) ⊎ (answered ≡ answer.Reply (unavailable close))
      → CanCarryOut settings registry answered
  ready asked close (answer.Reply reply) within is = tt
  ready asked close (answer.LongReply reply) within is = tt
  ready asked close (answer.Accept reply entry) within (inl is) = taken asked close reply entry within (sym is)
  ready asked close (answer.Accept reply entry) within (inr is) = absurd (cc)

  read_ready : (message : Request) (read : Result RestRequest RestReject) (answered : RestAnswer) → Rest message read
      → answered ≡ answer_to settings (time_of registry) used.history caller message.close read → CanCarryOut settings registry answered
  read_ready message (Ok asked) answered means is = ready asked message.close answered (asked_within message asked means) (inl is)
  read_ready message (Err rejected) (answer.Reply reply) means is = tt
  read_ready message (Err rejected) (answer.LongReply reply) means is = tt
  read_ready message (Err rejected) (answer.Accept reply entry) means is = absurd (cc)

  pub message_ready : (message : Request) (answered : RestAnswer) → Answers settings (time_of registry) used.history caller message answered → CanCarryOut settings registry answered
  message_ready message answered (inl by_rules) = read_ready message by_rules.0 answered by_rules.1 by_rules.2
  message_ready message (answer.Reply reply) (inr lacks) = tt
  message_ready message (answer.LongReply reply) (inr lacks) = tt
  message_ready message (answer.Accept reply entry) (inr lacks) = absurd (cc)

-- ---- a registry stays in use

pub new_in_use : (settings : SettingsValue) (registry : RegistryValue) → Represents registry [] → time_of registry ≡ 0 → IsInUse settings registry
new_in_use settings registry represents start = record {
  history = [];
  represents = represents;
  limits = record { live = λ client. omega arith; aliased = λ client. omega arith };
  early = let zero = start in omega (arith, zero);
}

pub still_in_use : (settings : SettingsValue) (registry next : RegistryValue) (entry : Entry) → IsInUse settings registry → IsAcceptable settings registry entry
    → ((history : List Entry) → Represents registry history → Represents next (history ++ entry ∷ [])) → time_of next ≡ entry.time → IsInUse settings next
still_in_use settings registry next entry used acceptable goes at =
    let history = used.history in
    let now = acceptable.now in
    let all = and_parts (within_bounds entry) (fits_then settings registry history entry) (acceptable.fits history used.represents) in
    let then = and_parts (nat_le (time_of registry) entry.time) (laws.fits settings history entry) all.1 in
    let early = used.early in
    record {
      history = history ++ entry ∷ [];
      represents = goes history used.represents;
      limits =
          subst
          (λ t. ClientsKeepLimits settings.limits t (history ++ entry ∷ []))
          (sym at)
          (limits_fitting settings (time_of registry) history entry used.limits (omega (arith, now)) then.1);
      early = omega (arith, now, at, early);
    }
