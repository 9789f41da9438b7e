-- What is accepted can be taken.
use Rattle.std.proofs.Common.{◌≡◌, ℕ, ◌≤◌, ◌<◌, ◌^◌, ◌||◌, true, false, nat_le, List, length, None, Ok, refl, sym, ap, ◌∙◌, subst, arith}
use Rattle.std.proofs.lemmas.Bool.{and_from}
use Rattle.std.proofs.lemmas.Bool.Decides.{nat_tests}
use Rattle.dots_lists.specs.Name.{is_name}
use Rattle.acl_lists.specs.declared.asked.Asked.{Asked}
use Rattle.dots_settings.specs.Settings.{SettingsValue}
use Rattle.dots_settings.specs.Lookups.{role_of, prefixes_of}
use Rattle.dots_history.specs.declared.entry.Entry.{Entry}
use Rattle.dots_history.specs.declared.change.Change.TheVariants as change
use Rattle.dots_history.specs.Bounds.{asked_within}
use Rattle.dots_history.specs.Histories.{mitigations}
use Rattle.dots_history.specs.Calm.{may_act, is_client_of, is_own}
use Rattle.dots_history.specs.Fits.{has_one_peer}
use Rattle.dots_history.specs.Tables.{Client}
use Rattle.dots_keys.specs.Askable.{AreFew}
use Rattle.conflict_rules.specs.declared.judging.Judged.{Judged}
use Rattle.dots_registry.specs.RegistryValues.{time_of}
use Rattle.conflict_rules.specs.ByHistory.{judge_request}
use Rattle.dots_registry.specs.Limits.{ClientsKeepLimits}
use Rattle.dots_registry.proofs.Inside.{own_granted, own_withdrawal}
use Rattle.dots_registry.proofs.Bounded.{bounded_granted, bounded_withdrawal}
use Rattle.dots_registry.proofs.FittingEntries.{fits_granted, fits_withdrawal}
use Rattle.dots_registry.proofs.OnePeer.{free_is_one_peer, granted_is_free}
use Rattle.dots_machine.specs.declared.client_request.ClientRequest.{ClientRequest}
use Rattle.dots_machine.specs.declared.mitigation_request.MitigationRequest.{MitigationRequest}
use Rattle.conflict_rules.specs.AskableTargets.{scope_fault}
use Rattle.dots_machine.specs.Mitigations.{request_of, client_for, entry_of, is_taken}
use Rattle.dots_machine.specs.Machine.{State, facts_in}
use Rattle.dots_server.specs.ServerValues.{ServerValue, Represents, IsAcceptable}
use Rattle.dots_server.proofs.Insides.{lies_inside}
use Rattle.acl_lists.specs.declared.limits.TheConstants.{MAX_ITEMS, MAX_NAMES}

few_within : (asked : Asked) → AreFew asked → asked_within asked ≡ true
few_within asked few =
    let at_most : (n m : ℕ) → n ≤ m → nat_le n m ≡ true = λ n m le. grind (arith, nat_tests, le) in
    and_from _ _
    (and_from _ _
    (and_from _ _
    (and_from _ _ (at_most (length asked.prefixes) MAX_ITEMS few.prefixes) (at_most (length asked.ports) MAX_ITEMS few.ports))
    (at_most (length asked.protocols) MAX_ITEMS few.protocols))
    (at_most (length asked.names) MAX_NAMES few.names))
    (at_most (length asked.aliases) MAX_NAMES few.aliases)

module _ (server : ServerValue) (asked : MitigationRequest) (judged : Judged) (reply : List ℕ) (may : may_act server.settings (role_of server.settings asked.from.peer) asked.from.domain ≡ true)
    (clear : scope_fault server.settings (prefixes_of server.settings asked.from.domain) asked.body.asked ≡ None) (few : AreFew asked.body.asked)
    (waits : (asked.body.trigger || is_client_of (role_of server.settings asked.from.peer) asked.from.domain) ≡ true)
    (named : is_name asked.from.cuid ≡ true) (short : length reply ≤ 64)
    (is : (settings : SettingsValue) (state : State) → Represents server settings state → judge_request settings state.time state.history asked.from.domain (request_of asked) ≡ Ok judged) where
  abbrev entry_put : Entry
  entry_put = entry_of (time_of server.registry) asked.from reply (change.Put judged.put)

  owned : (settings : SettingsValue) (state : State) → Represents server settings state → is_own settings entry_put ≡ true
  owned settings state represents =
      let same = represents.settings_are in
      let inside = lies_inside settings (prefixes_of settings asked.from.domain) asked.body.asked
      (subst (λ s. scope_fault s (prefixes_of s asked.from.domain) asked.body.asked ≡ None) same clear) in
      own_granted settings state.time state.history asked.from.domain (request_of asked) judged entry_put represents.own
      (subst (λ s. may_act s (role_of s asked.from.peer) asked.from.domain ≡ true) same may)
      (subst (λ s. (asked.body.trigger || is_client_of (role_of s asked.from.peer) asked.from.domain) ≡ true) same waits)
      inside.prefixes inside.names (is settings state represents) refl refl refl refl

  pub grant_acceptable : IsAcceptable server entry_put
  grant_acceptable = record {
    now = refl;
    fits = λ settings state represents.
        let early : entry_put.time < 2 ^ 48 = subst (λ t. t < 2 ^ 48) (sym represents.time_is) represents.early in
        let judged_so = is settings state represents in
        let here : judge_request settings (time_of server.registry) state.history asked.from.domain (request_of asked) ≡ Ok judged =
        ap (λ t. judge_request settings t state.history asked.from.domain (request_of asked)) represents.time_is ∙ judged_so in
        fits_granted settings server.registry state.history asked.from.domain (request_of asked) judged entry_put represents.is_of represents.registry
        (subst (λ t. ClientsKeepLimits settings.limits t state.history) (sym represents.time_is) represents.limits)
        (owned settings state represents)
        (bounded_granted settings state.time state.history asked.from.domain (request_of asked) judged entry_put represents.bounded (few_within asked.body.asked few) early named short
        judged_so refl refl refl refl)
        refl here refl refl refl refl;
    own = owned;
    one_peer = λ settings state represents.
        let client : Client = record { domain = asked.from.domain; cuid = asked.from.cuid } in
        subst (λ t. has_one_peer entry_put (mitigations t state.history) ≡ true) (sym represents.time_is)
        (free_is_one_peer state.time state.history asked.from.peer client entry_put
        (granted_is_free settings state.time state.history asked.from.domain (request_of asked) judged (is settings state represents)) refl refl refl);
  }

module _ (server : ServerValue) (from : ClientRequest) (mid : ℕ) (reply : List ℕ) (may : may_act server.settings (role_of server.settings from.peer) from.domain ≡ true)
    (named : is_name from.cuid ≡ true) (short : length reply ≤ 64)
    (free : (settings : SettingsValue) (state : State) → Represents server settings state → is_taken (facts_in settings state) from ≡ false) where
  abbrev entry_withdrawn : Entry
  entry_withdrawn = entry_of (time_of server.registry) from reply (change.Withdraw mid)

  withdrawn_owned : (settings : SettingsValue) (state : State) → Represents server settings state → is_own settings entry_withdrawn ≡ true
  withdrawn_owned settings state represents =
      own_withdrawal settings mid entry_withdrawn refl (subst (λ s. may_act s (role_of s from.peer) from.domain ≡ true) represents.settings_are may)

  pub withdrawal_acceptable : IsAcceptable server entry_withdrawn
  withdrawal_acceptable = record {
    now = refl;
    fits = λ settings state represents.
        let early : entry_withdrawn.time < 2 ^ 48 = subst (λ t. t < 2 ^ 48) (sym represents.time_is) represents.early in
        fits_withdrawal settings server.registry state.history mid entry_withdrawn refl represents.is_of represents.registry
        (subst (λ t. ClientsKeepLimits settings.limits t state.history) (sym represents.time_is) represents.limits)
        (withdrawn_owned settings state represents)
        (bounded_withdrawal mid entry_withdrawn refl early named short)
        refl;
    own = withdrawn_owned;
    one_peer = λ settings state represents.
        subst (λ t. has_one_peer entry_withdrawn (mitigations t state.history) ≡ true) (sym represents.time_is)
        (free_is_one_peer state.time state.history from.peer (client_for from) entry_withdrawn (free settings state represents) refl refl refl);
  }
