-- The domain for which is asked is that of the peer's role.
use Rattle.std.proofs.Common.{◌≡◌, ℕ, Bool, true, ◌||◌, Option, Some, None, Result, List, refl, sym, ap, ◌∙◌, subst}
use Rattle.std.specs.Prelude.{is_some}
use Rattle.std.proofs.lemmas.Bool.{or_right, eq-eqb}
use Rattle.std.proofs.lemmas.Option.{none-some, same_Some}
use Rattle.dots_settings.specs.Settings.{SettingsValue}
use Rattle.dots_settings.specs.Lookups.{role_of}
use Rattle.dots_history.specs.Calm.{is_client_of}
use Rattle.dots_keys.specs.declared.exchange.Exchange.{Exchange}
use Rattle.dots_machine.specs.Verdict.{Verdict}
use Rattle.dots_machine.specs.declared.verdict.Verdict.TheVariants as verdict
use Rattle.dots_machine.specs.Domains.{domain_for}
use Rattle.dots_machine.specs.Replies.{bad_parameter}
use Rattle.dots_machine.specs.Deciding.{in_domain, asks_for, get_for}
use Rattle.coap_observe.specs.Observed.{ObservedValue}
use Rattle.dots_keys.specs.declared.head_request.Content.{Content}
use Rattle.dots_keys.specs.declared.head_request.MitigationPath.{MitigationPath}
use Rattle.dots_keys.specs.declared.head_request.Observe.{Observe}
use Rattle.dots_keys.specs.declared.head_request.Observe.TheVariants as said
use Rattle.dots_machine.specs.declared.client_request.ClientRequest.{ClientRequest}
use Rattle.dots_machine.specs.declared.watching.Watching.{Watching}
use Rattle.dots_machine.specs.declared.watching.Watching.TheVariants as watching
use Rattle.dots_machine.specs.Facts.{Facts}
use Rattle.dots_machine.specs.Mitigations.{get_answer}
use Rattle.dots_machine.specs.Observing.{in_known, asked_in}
use Rattle.dots_server.specs.Asking.{role_with, IsOwn, domain_asked}
use Rattle.dots_history.specs.Entries.{option_any}
use Rattle.dots_server.specs.LackingMemory.{Yields}
use Rattle.dots_server.specs.Observing.{asked_from, Does}

by_role : (settings : SettingsValue) (own : Option ℕ) (cdid : Option (List ℕ)) → domain_for settings (role_with own) cdid ≡ domain_asked settings own cdid
by_role settings (Some domain) cdid = refl
by_role settings None None = refl
by_role settings None (Some name) = refl

module _ (here settings : SettingsValue) (peer : ℕ) (own : Option ℕ) (cdid : Option (List ℕ)) (is_own : IsOwn here peer own) (same : here ≡ settings) (x : Exchange) (decided : ℕ → Verdict) where
  domain_is : domain_for settings (role_of settings peer) cdid ≡ domain_asked here own cdid
  domain_is = subst (λ s. domain_for s (role_of s peer) cdid ≡ domain_asked here own cdid) same (ap (λ role. domain_for here role cdid) is_own.role ∙ by_role here own cdid)

  pub without_domain : domain_asked here own cdid ≡ None → verdict.Reply (bad_parameter x) ≡ in_domain x (domain_for settings (role_of settings peer) cdid) decided
  without_domain none = sym (ap (λ d. in_domain x d decided) (domain_is ∙ none))

  pub with_domain : (domain : ℕ) → domain_asked here own cdid ≡ Some domain → decided domain ≡ in_domain x (domain_for settings (role_of settings peer) cdid) decided
  with_domain domain some = sym (ap (λ d. in_domain x d decided) (domain_is ∙ some))

  pub yields_there : {E : Type 0} (r : Result Verdict E) (takes : ℕ → Bool) (domain : ℕ) → domain_asked here own cdid ≡ Some domain → Yields r (decided domain) (takes domain)
      → Yields r (in_domain x (domain_for settings (role_of settings peer) cdid) decided) (option_any takes (domain_for settings (role_of settings peer) cdid))
  yields_there r takes domain some yields = subst (λ d. Yields r (in_domain x d decided) (option_any takes d)) (sym (domain_is ∙ some)) yields

  pub known_nowhere : (asked : ℕ → Watching) → domain_asked here own cdid ≡ None → in_known (domain_for settings (role_of settings peer) cdid) asked ≡ watching.Nothing
  known_nowhere asked none = ap (λ d. in_known d asked) (domain_is ∙ none)

  pub known_there : (asked : ℕ → Watching) (domain : ℕ) → domain_asked here own cdid ≡ Some domain → asked domain ≡ in_known (domain_for settings (role_of settings peer) cdid) asked
  known_there asked domain some = sym (ap (λ d. in_known d asked) (domain_is ∙ some))

-- a mitigation that waits for a lost signal is asked for by a client
pub may_wait : (settings : SettingsValue) (peer : ℕ) (own : Option ℕ) → IsOwn settings peer own → (cdid : Option (List ℕ)) (trigger : Bool) (domain : ℕ) → domain_asked settings own cdid ≡ Some domain
    → (is_some cdid ≡ true → trigger ≡ true) → trigger || is_client_of (role_of settings peer) domain ≡ true
may_wait settings peer (Some d) is cdid trigger domain there waits =
    or_right trigger (is_client_of (role_of settings peer) domain) (ap (λ who. is_client_of who domain) is.role ∙ eq-eqb d domain (same_Some d domain there))
may_wait settings peer None is None trigger domain there waits = absurd (none-some domain there)
may_wait settings peer None is (Some name) trigger domain there waits = ap (λ b. b || is_client_of (role_of settings peer) domain) (waits refl)

-- ---- a GET of mitigations
asked_as : (peer : ℕ) (x : Exchange) (path : MitigationPath) (content : Content) (domain : ℕ) (s : Observe)
    → asked_from (asks_for peer x path domain) path.mid content s ≡ asked_in peer x content path s domain
asked_as peer x path content domain said.Register = refl
asked_as peer x path content domain said.Deregister = refl
asked_as peer x path content domain said.No = refl

module _ (here settings : SettingsValue) (peer : ℕ) (own : Option ℕ) (path : MitigationPath) (is_own : IsOwn here peer own) (same : here ≡ settings) (x : Exchange) (content : Content) (s : Observe)
    (facts : Facts) (observed : List ObservedValue) where
  abbrev found : Option ℕ
  found = domain_for settings (role_of settings peer) path.cdid

  abbrev DoesRead : Watching → Verdict → Type 0
  DoesRead watching verdict = Does settings peer observed (in_known found (asked_in peer x content path s)) (in_domain x found (get_for facts peer x path content)) watching verdict

  pub reads_there : (from : ClientRequest) (watching : Watching) (verdict : Verdict) → domain_asked here own path.cdid ≡ Some from.domain → from ≡ asks_for peer x path from.domain
      → Does settings from.peer observed (asked_from from path.mid content s) (get_answer facts from path.mid content) watching verdict → DoesRead watching verdict
  reads_there from watching verdict some is does =
      let domain = from.domain in
      let by_path : Does settings peer observed (asked_from (asks_for peer x path domain) path.mid content s) (get_answer facts (asks_for peer x path domain) path.mid content) watching verdict
      = subst (λ (from : ClientRequest). Does settings from.peer observed (asked_from from path.mid content s) (get_answer facts from path.mid content) watching verdict) is does in
      subst (λ asked. Does settings peer observed asked (in_domain x found (get_for facts peer x path content)) watching verdict)
      (asked_as peer x path content domain s ∙ known_there here settings peer own path.cdid is_own same x (get_for facts peer x path content) (asked_in peer x content path s) domain some)
      (subst (λ decided. Does settings peer observed (asked_from (asks_for peer x path domain) path.mid content s) decided watching verdict)
      (with_domain here settings peer own path.cdid is_own same x (get_for facts peer x path content) domain some) by_path)

  pub reads_nowhere : (reply : List ℕ) → domain_asked here own path.cdid ≡ None → reply ≡ bad_parameter x → DoesRead watching.Nothing (verdict.Reply reply)
  reads_nowhere reply none is =
      subst (λ asked. Does settings peer observed asked (in_domain x found (get_for facts peer x path content)) watching.Nothing (verdict.Reply reply))
      (sym (known_nowhere here settings peer own path.cdid is_own same x (get_for facts peer x path content) (asked_in peer x content path s) none))
      (subst (λ decided. Does settings peer observed watching.Nothing decided watching.Nothing (verdict.Reply reply))
      (without_domain here settings peer own path.cdid is_own same x (get_for facts peer x path content) none)
      (record { verdict_is = ap verdict.Reply is; observers = λ lists. refl }))
