-- What is accepted can be taken.
use Rattle.std.proofs.Common.{◌≡◌, ℕ, ◌<◌, ◌≤◌, Bool, true, false, cond, not, ◌&&◌, ◌||◌, List, [], ◌∷◌, ◌++◌, length, Option, Some, None, refl, ap, ◌∙◌, subst, arith}
use Rattle.std.specs.Prelude.{⊤, ◌==◌, ◌^◌, nat_le, nat_lt}
use Rattle.std.proofs.lemmas.Bool.{and_parts, and_from, or_right, le-leb, lt-ltb}
use Rattle.std.proofs.lemmas.Option.{none-some, same_Some}
use Rattle.dots_lists.specs.Name.{is_name}
use Rattle.acl_lists.specs.declared.acl.Acl.{Acl}
use Rattle.acl_lists.specs.declared.alias.Alias.{Alias}
use Rattle.dots_settings.specs.Settings.{SettingsValue}
use Rattle.dots_settings.specs.Lookups.{role_of, prefixes_of}
use Rattle.dots_history.specs.declared.entry.Entry.{Entry}
use Rattle.dots_history.specs.declared.change.Change.{Change}
use Rattle.dots_history.specs.declared.change.Change.TheVariants as change
use Rattle.dots_history.specs.Bounds.{alias_within, change_within, within_bounds}
use Rattle.dots_history.specs.Entries.{same_client, put_of, is_configuration, is_signal, is_loss}
use Rattle.dots_history.specs.Histories.{tally, is_nil, mitigations, held}
use Rattle.dots_history.specs.Rows.{waits}
use Rattle.dots_history.specs.Calm.{may_act, may_configure, is_client_of, change_inside, acts_rightly, loses_rightly, waits_rightly, came_rightly, is_of_settings, is_own}
use Rattle.dots_history.specs.Capacities.{is_registration, is_alias, is_list, has_client}
use Rattle.dots_history.specs.Fits.{last_time, registers_rightly, keeps_room, fits}
use Rattle.dots_history.specs.Fits as laws
use Rattle.dots_history.specs.Held.{is_registered}
use Rattle.dots_history.specs.Tables.{client_of}
use Rattle.list_json.specs.Within.{IsAliasWithin}
use Rattle.data_channel.specs.declared.request.RestRequest.{RestRequest}
use Rattle.data_channel.specs.declared.request.RestRequest.TheVariants as request
use Rattle.data_channel.specs.Within.{IsWithin}
use Rattle.data_channel.specs.Asking.{verb_of, kind_of, cuid_of}
use Rattle.data_channel.specs.Decisions.{is_accepted}
use Rattle.data_channel.specs.Judging.{judge}
use Rattle.rest_answers.specs.declared.answer.RestAnswer.TheVariants as answer
use Rattle.rest_answers.specs.declared.caller.Caller.{Caller}
use Rattle.rest_answers.specs.Known.{Known, is_faulty, facts_of, known_of}
use Rattle.rest_answers.specs.Changes.{change_of, changed_by, entry_with, entry_of}
use Rattle.rest_answers.specs.Answers.{rest_answer}
use Rattle.rest_answers.specs.Room.{KeepsRoom}
use Rattle.rest_answers.proofs.Accepted.{accepts}
use Rattle.rest_answers.proofs.Insides.{alias_inside, list_inside}
use Rattle.rest_answers.proofs.Judged.{judged_clear, new_by_put, new_by_post, HasPlace, alias_by_put, alias_by_post, list_by_put, list_by_post}
use Rattle.rest_answers.proofs.Rooms.{HasRoom, held_most, held_room, alias_placed, list_placed, room_parts, room_after, registered_same}
use Rattle.acl_lists.specs.declared.limits.TheConstants.{MAX_ITEMS, MAX_NAMES, MAX_ACES}

-- it holds of a change that is made
abbrev OfChange : (Change → Type 0) → Option Change → Type 0
OfChange P None = ⊤
OfChange P (Some c) = P c

-- ---- the kinds of change

-- no mitigation, no session configuration and no loss
abbrev IsOfData : Change → Type 0
IsOfData c = (is_configuration c ≡ false) × (is_loss c ≡ false) × (waits c ≡ false) × (put_of c ≡ None)

data_kind : (asked : RestRequest) → OfChange IsOfData (change_of asked)
unfolding is_configuration is_loss
data_kind (request.PutClient cuid) = (refl, refl, refl, refl)
data_kind (request.PostClient cuid) = (refl, refl, refl, refl)
data_kind (request.GetClient cuid) = tt
data_kind (request.DeleteClient cuid) = (refl, refl, refl, refl)
data_kind (request.PutAlias cuid alias) = (refl, refl, refl, refl)
data_kind (request.PostAlias cuid alias) = (refl, refl, refl, refl)
data_kind (request.GetAlias cuid name) = tt
data_kind (request.DeleteAlias cuid name) = (refl, refl, refl, refl)
data_kind (request.GetAliases cuid) = tt
data_kind (request.PutAcl cuid acl) = (refl, refl, refl, refl)
data_kind (request.PostAcl cuid acl) = (refl, refl, refl, refl)
data_kind (request.GetAcl cuid name) = tt
data_kind (request.DeleteAcl cuid name) = (refl, refl, refl, refl)
data_kind (request.GetAcls cuid) = tt

-- ---- the settings' own

abbrev IsInside : SettingsValue → ℕ → Change → Type 0
IsInside settings domain c = change_inside settings (prefixes_of settings domain) c ≡ true

inside_of : (settings : SettingsValue) (domain : ℕ) (asked : RestRequest) → is_faulty settings domain asked ≡ false → OfChange (IsInside settings domain) (change_of asked)
inside_of settings domain (request.PutClient cuid) clear = refl
inside_of settings domain (request.PostClient cuid) clear = refl
inside_of settings domain (request.GetClient cuid) clear = tt
inside_of settings domain (request.DeleteClient cuid) clear = refl
inside_of settings domain (request.PutAlias cuid alias) clear = alias_inside settings (prefixes_of settings domain) alias clear
inside_of settings domain (request.PostAlias cuid alias) clear = alias_inside settings (prefixes_of settings domain) alias clear
inside_of settings domain (request.GetAlias cuid name) clear = tt
inside_of settings domain (request.DeleteAlias cuid name) clear = refl
inside_of settings domain (request.GetAliases cuid) clear = tt
inside_of settings domain (request.PutAcl cuid acl) clear = list_inside settings (prefixes_of settings domain) acl clear
inside_of settings domain (request.PostAcl cuid acl) clear = list_inside settings (prefixes_of settings domain) acl clear
inside_of settings domain (request.GetAcl cuid name) clear = tt
inside_of settings domain (request.DeleteAcl cuid name) clear = refl
inside_of settings domain (request.GetAcls cuid) clear = tt

own_made : (settings : SettingsValue) (t : ℕ) (caller : Caller) (cuid : List ℕ) (c : Change) → may_act settings (role_of settings caller.peer) caller.domain ≡ true
    → IsOfData c → IsInside settings caller.domain c → is_own settings (changed_by t caller cuid c) ≡ true
own_made settings t caller cuid c may kind within =
    let e = changed_by t caller cuid c in
    let acts = may_act settings (role_of settings caller.peer) caller.domain in
    let of_client = is_client_of (role_of settings caller.peer) caller.domain in
    let configures = is_nil cuid && may_configure (role_of settings caller.peer) caller.domain in
    and_from
    (is_of_settings settings e)
    (came_rightly e)
    (and_from
    (acts_rightly settings e)
    (loses_rightly settings e && waits_rightly settings e)
    (ap (λ b. cond b configures (acts && change_inside settings (prefixes_of settings caller.domain) c)) kind.0
    ∙ and_from acts (change_inside settings (prefixes_of settings caller.domain) c) may within)
    (and_from
    (loses_rightly settings e)
    (waits_rightly settings e)
    (ap (λ b. not b || (is_nil cuid && of_client)) kind.1)
    (ap (λ b. not b || of_client) kind.2)))
    (or_right (is_signal c) true refl)

-- ---- within bounds

few : (n most : ℕ) → n ≤ most → nat_le n most ≡ true
few n most less = le-leb n most less

alias_bounded : (alias : Alias) → IsAliasWithin alias → alias_within alias ≡ true
alias_bounded alias within =
    let none = ap length within.aliases in
    let asked = alias.asked in
    and_from _ (length asked.aliases == 0)
    (and_from _ (nat_le (length asked.aliases) MAX_NAMES)
    (and_from _ (nat_le (length asked.names) MAX_NAMES)
    (and_from _ (nat_le (length asked.protocols) MAX_ITEMS)
    (and_from (nat_le (length asked.prefixes) MAX_ITEMS) (nat_le (length asked.ports) MAX_ITEMS) (few (length asked.prefixes) MAX_ITEMS within.prefixes) (few (length asked.ports) MAX_ITEMS within.ports))
    (few (length asked.protocols) MAX_ITEMS within.protocols))
    (few (length asked.names) MAX_NAMES within.names))
    (few (length asked.aliases) MAX_NAMES (omega (arith, none))))
    (ap (λ (xs : List (List ℕ)). length xs == 0) within.aliases)

abbrev ChangeWithin : Change → Type 0
ChangeWithin c = change_within c ≡ true

-- the client has a name, and the change is within bounds
bounds_of : (asked : RestRequest) → IsWithin asked → (is_name (cuid_of asked) ≡ true) × OfChange ChangeWithin (change_of asked)
bounds_of (request.PutClient cuid) within = (within, refl)
bounds_of (request.PostClient cuid) within = (within, refl)
bounds_of (request.GetClient cuid) within = (within, tt)
bounds_of (request.DeleteClient cuid) within = (within, refl)
bounds_of (request.PutAlias cuid alias) within = (within.0, alias_bounded alias within.1)
bounds_of (request.PostAlias cuid alias) within = (within.0, alias_bounded alias within.1)
bounds_of (request.GetAlias cuid name) within = (within, tt)
bounds_of (request.DeleteAlias cuid name) within = (within, refl)
bounds_of (request.GetAliases cuid) within = (within, tt)
bounds_of (request.PutAcl cuid acl) within = (within.0, few (length acl.aces) MAX_ACES within.1)
bounds_of (request.PostAcl cuid acl) within = (within.0, few (length acl.aces) MAX_ACES within.1)
bounds_of (request.GetAcl cuid name) within = (within, tt)
bounds_of (request.DeleteAcl cuid name) within = (within, refl)
bounds_of (request.GetAcls cuid) within = (within, tt)

bounded_made : (t : ℕ) (caller : Caller) (cuid : List ℕ) (c : Change) → t < 2 ^ 48 → is_name cuid ≡ true → ChangeWithin c → within_bounds (changed_by t caller cuid c) ≡ true
bounded_made t caller cuid c early name within =
    let timed = nat_lt t (2 ^ 48) in
    let named = (length cuid == 0) || is_name cuid in
    and_from
    (timed && named && true)
    (change_within c)
    (and_from (timed && named) true (and_from timed named (lt-ltb t (2 ^ 48) early) (or_right (length cuid == 0) (is_name cuid) name)) refl)
    within

-- ---- what the history takes

-- the client registers rightly, and there is room for what is held then
record Takes (settings : SettingsValue) (history : List Entry) (e : Entry) : Type 0 where
  registers : registers_rightly (held history) e ≡ true
  registered : tally (λ (x : Entry). is_registration x.change && (x.domain == e.domain)) (held (history ++ e ∷ [])) ≤ settings.limits.clients
  aliased : tally (λ (x : Entry). is_alias x.change && same_client e x) (held (history ++ e ∷ [])) ≤ settings.limits.aliases
  listed : tally (λ (x : Entry). is_list x.change && same_client e x) (held (history ++ e ∷ [])) ≤ settings.limits.acls

module _ (settings : SettingsValue) (t : ℕ) (history : List Entry) (caller : Caller) (cuid : List ℕ) (keeps : KeepsRoom settings.limits t history) where
  abbrev made : Change → Entry
  made c = changed_by t caller cuid c

  room_of : (c : Change) → HasRoom settings.limits (made c) (mitigations t history) (held history)
  room_of c = room_parts settings.limits (made c) (mitigations t history) (held history) (keeps.room (made c))

  no_registration : (c : Change) → is_registration c ≡ false
      → tally (λ (x : Entry). is_registration x.change && (x.domain == caller.domain)) (held (history ++ made c ∷ [])) ≤ settings.limits.clients
  no_registration c out =
      held_most
      (λ (x : Entry). is_registration x.change && (x.domain == caller.domain))
      settings.limits.clients
      history
      (made c)
      (ap (λ b. b && (caller.domain == caller.domain)) out)
      (room_of c).registered

  no_alias : (c : Change) → is_alias c ≡ false → tally (λ (x : Entry). is_alias x.change && same_client (made c) x) (held (history ++ made c ∷ [])) ≤ settings.limits.aliases
  no_alias c out =
      held_most
      (λ (x : Entry). is_alias x.change && same_client (made c) x)
      settings.limits.aliases
      history
      (made c)
      (ap (λ b. b && same_client (made c) (made c)) out)
      (room_of c).aliased

  no_list : (c : Change) → is_list c ≡ false → tally (λ (x : Entry). is_list x.change && same_client (made c) x) (held (history ++ made c ∷ [])) ≤ settings.limits.acls
  no_list c out =
      held_most
      (λ (x : Entry). is_list x.change && same_client (made c) x)
      settings.limits.acls
      history
      (made c)
      (ap (λ b. b && same_client (made c) (made c)) out)
      (room_of c).listed

  -- what only takes away
  takes_away : (c : Change) → is_registration c ≡ false → is_alias c ≡ false → is_list c ≡ false → Takes settings history (made c)
  takes_away c reg alias acl = record {
    registers =
        and_from
        (not (is_registration c) || not (laws.is_registered (held history) (made c)))
        (has_client (held history) (made c))
        (ap (λ b. not b || not (laws.is_registered (held history) (made c))) reg)
        (ap (λ b. not (b || is_list c) || laws.is_registered (held history) (made c)) alias ∙ ap (λ b. not b || laws.is_registered (held history) (made c)) acl);
    registered = no_registration c reg;
    aliased = no_alias c alias;
    listed = no_list c acl;
  }

  takes_client : is_registered (client_of (made change.Register)) (held history) ≡ false
      → not (nat_lt (tally (λ (x : Entry). is_registration x.change && (x.domain == caller.domain)) (held history)) settings.limits.clients) ≡ false
      → Takes settings history (made change.Register)
  unfolding is_registration is_alias is_list
  takes_client out room = record {
    registers =
        and_from
        (not (laws.is_registered (held history) (made change.Register)))
        true
        (ap not (registered_same (held history) (made change.Register) ∙ out))
        refl;
    registered = held_room (λ (x : Entry). is_registration x.change && (x.domain == caller.domain)) settings.limits.clients history (made change.Register) room;
    aliased = no_alias change.Register refl;
    listed = no_list change.Register refl;
  }

  takes_alias : (alias : Alias) → HasPlace (facts_of settings t history caller (request.PutAlias cuid alias)) → Takes settings history (made (change.SetAlias alias))
  unfolding is_registration is_alias is_list
  takes_alias alias place = record {
    registers = registered_same (held history) (made (change.SetAlias alias)) ∙ place.0;
    registered = no_registration (change.SetAlias alias) refl;
    aliased = alias_placed settings.limits.aliases history (made (change.SetAlias alias)) alias refl (room_of (change.SetAlias alias)).aliased place.1;
    listed = no_list (change.SetAlias alias) refl;
  }

  takes_list : (acl : Acl) → HasPlace (facts_of settings t history caller (request.PutAcl cuid acl)) → Takes settings history (made (change.SetAcl acl))
  unfolding is_registration is_alias is_list
  takes_list acl place = record {
    registers = registered_same (held history) (made (change.SetAcl acl)) ∙ place.0;
    registered = no_registration (change.SetAcl acl) refl;
    aliased = no_alias (change.SetAcl acl) refl;
    listed = list_placed settings.limits.acls history (made (change.SetAcl acl)) acl refl (room_of (change.SetAcl acl)).listed place.1;
  }

abbrev TakesOf : SettingsValue → ℕ → List Entry → Caller → List ℕ → Change → Type 0
TakesOf settings t history caller cuid c = Takes settings history (changed_by t caller cuid c)

takes_of : (settings : SettingsValue) (t : ℕ) (history : List Entry) (caller : Caller) (asked : RestRequest) → KeepsRoom settings.limits t history
    → is_accepted (judge (verb_of asked) (kind_of asked) (facts_of settings t history caller asked)) ≡ true
    → OfChange (TakesOf settings t history caller (cuid_of asked)) (change_of asked)
unfolding is_registration is_alias is_list
takes_of settings t history caller (request.PutClient cuid) keeps is =
    let new = new_by_put (facts_of settings t history caller (request.PutClient cuid)) is in takes_client settings t history caller cuid keeps new.0 new.1
takes_of settings t history caller (request.PostClient cuid) keeps is =
    let new = new_by_post (facts_of settings t history caller (request.PostClient cuid)) is in takes_client settings t history caller cuid keeps new.0 new.1
takes_of settings t history caller (request.GetClient cuid) keeps is = tt
takes_of settings t history caller (request.DeleteClient cuid) keeps is = takes_away settings t history caller cuid keeps change.Deregister refl refl refl
takes_of settings t history caller (request.PutAlias cuid alias) keeps is =
    takes_alias settings t history caller cuid keeps alias (alias_by_put (facts_of settings t history caller (request.PutAlias cuid alias)) is)
takes_of settings t history caller (request.PostAlias cuid alias) keeps is =
    takes_alias settings t history caller cuid keeps alias (alias_by_post (facts_of settings t history caller (request.PostAlias cuid alias)) is)
takes_of settings t history caller (request.GetAlias cuid name) keeps is = tt
takes_of settings t history caller (request.DeleteAlias cuid name) keeps is = takes_away settings t history caller cuid keeps (change.DropAlias name) refl refl refl
takes_of settings t history caller (request.GetAliases cuid) keeps is = tt
takes_of settings t history caller (request.PutAcl cuid acl) keeps is =
    takes_list settings t history caller cuid keeps acl (list_by_put (facts_of settings t history caller (request.PutAcl cuid acl)) is)
takes_of settings t history caller (request.PostAcl cuid acl) keeps is =
    takes_list settings t history caller cuid keeps acl (list_by_post (facts_of settings t history caller (request.PostAcl cuid acl)) is)
takes_of settings t history caller (request.GetAcl cuid name) keeps is = tt
takes_of settings t history caller (request.DeleteAcl cuid name) keeps is = takes_away settings t history caller cuid keeps (change.DropAcl name) refl refl refl
takes_of settings t history caller (request.GetAcls cuid) keeps is = tt

fits_made : (settings : SettingsValue) (t : ℕ) (history : List Entry) (caller : Caller) (cuid : List ℕ) (c : Change) → KeepsRoom settings.limits t history → t < 2 ^ 48
    → IsOfData c → is_of_settings settings (changed_by t caller cuid c) ≡ true → TakesOf settings t history caller cuid c
    → fits settings history (changed_by t caller cuid c) ≡ true
fits_made settings t history caller cuid c keeps early kind own takes =
    let e = changed_by t caller cuid c in
    let timed = nat_le (last_time history) t && nat_lt t (2 ^ 48) in
    let room = keeps_room settings.limits e (mitigations t (history ++ e ∷ [])) (held (history ++ e ∷ [])) in
    and_from
    (timed && is_of_settings settings e)
    (registers_rightly (held history) e && room)
    (and_from
    timed
    (is_of_settings settings e)
    (and_from (nat_le (last_time history) t) (nat_lt t (2 ^ 48)) (le-leb (last_time history) t keeps.last) (lt-ltb t (2 ^ 48) early))
    own)
    (and_from
    (registers_rightly (held history) e)
    room
    takes.registers
    (room_after
    settings.limits
    history
    e
    kind.3
    (room_parts settings.limits e (mitigations t history) (held history) (keeps.room e))
    takes.registered
    takes.aliased
    takes.listed))

-- ---- the entry that is accepted

-- what holds of the entry of each change holds of the entry that is made
of_entry : (P : Entry → Type 0) (t : ℕ) (caller : Caller) (asked : RestRequest) (e : Entry) → OfChange (λ c. P (changed_by t caller (cuid_of asked) c)) (change_of asked)
    → entry_of t caller asked ≡ Some e → P e
of_entry P t caller asked e holds is = by_change (change_of asked) holds is
  where
    by_change : (changed : Option Change) → OfChange (λ c. P (changed_by t caller (cuid_of asked) c)) changed → entry_with t caller (cuid_of asked) changed ≡ Some e → P e
    by_change None holds is = absurd (none-some e is)
    by_change (Some c) holds is = subst P (same_Some (changed_by t caller (cuid_of asked) c) e is) holds

-- two facts of a change that is made give a third
together : (P Q R : Change → Type 0) (changed : Option Change) → ((c : Change) → P c → Q c → R c) → OfChange P changed → OfChange Q changed → OfChange R changed
together P Q R None leads p q = tt
together P Q R (Some c) leads p q = leads c p q

abbrev IsOwn : SettingsValue → Entry → Type 0
IsOwn settings e = is_own settings e ≡ true

own_of : (settings : SettingsValue) (t : ℕ) (history : List Entry) (caller : Caller) (asked : RestRequest) → may_act settings (role_of settings caller.peer) caller.domain ≡ true
    → is_accepted (judge (verb_of asked) (kind_of asked) (facts_of settings t history caller asked)) ≡ true
    → OfChange (λ c. IsOwn settings (changed_by t caller (cuid_of asked) c)) (change_of asked)
own_of settings t history caller asked may is =
    together
    IsOfData
    (IsInside settings caller.domain)
    (λ c. IsOwn settings (changed_by t caller (cuid_of asked) c))
    (change_of asked)
    (λ c kind within. own_made settings t caller (cuid_of asked) c may kind within)
    (data_kind asked)
    (inside_of settings caller.domain asked (judged_clear (verb_of asked) (kind_of asked) (facts_of settings t history caller asked) is).0)

pub accepted_own : (settings : SettingsValue) (t : ℕ) (history : List Entry) (caller : Caller) (close : Bool) (asked : RestRequest) (reply : List ℕ) (entry : Entry)
    → may_act settings (role_of settings caller.peer) caller.domain ≡ true
    → rest_answer (known_of settings t history caller asked) caller close asked ≡ answer.Accept reply entry → is_own settings entry ≡ true
accepted_own settings t history caller close asked reply entry may is =
    let how = accepts (known_of settings t history caller asked) caller close asked reply entry is in
    of_entry (IsOwn settings) t caller asked entry (own_of settings t history caller asked may how.accepted) how.entry_is

pub accepted_bounded : (known : Known) (caller : Caller) (close : Bool) (asked : RestRequest) (reply : List ℕ) (entry : Entry) → IsWithin asked → known.time < 2 ^ 48
    → rest_answer known caller close asked ≡ answer.Accept reply entry → within_bounds entry ≡ true
accepted_bounded known caller close asked reply entry within early is =
    let how = accepts known caller close asked reply entry is in
    let bounds = bounds_of asked within in
    of_entry
    (λ e. within_bounds e ≡ true)
    known.time
    caller
    asked
    entry
    (together
    ChangeWithin
    ChangeWithin
    (λ c. within_bounds (changed_by known.time caller (cuid_of asked) c) ≡ true)
    (change_of asked)
    (λ c small also. bounded_made known.time caller (cuid_of asked) c early bounds.0 small)
    bounds.1
    bounds.1)
    how.entry_is

abbrev IsTaken : SettingsValue → ℕ → List Entry → Caller → List ℕ → Change → Type 0
IsTaken settings t history caller cuid c = TakesOf settings t history caller cuid c × IsOwn settings (changed_by t caller cuid c)

pub accepted_fits : (settings : SettingsValue) (t : ℕ) (history : List Entry) (caller : Caller) (close : Bool) (asked : RestRequest) (reply : List ℕ) (entry : Entry)
    → may_act settings (role_of settings caller.peer) caller.domain ≡ true → KeepsRoom settings.limits t history → t < 2 ^ 48
    → rest_answer (known_of settings t history caller asked) caller close asked ≡ answer.Accept reply entry → fits settings history entry ≡ true
accepted_fits settings t history caller close asked reply entry may keeps early is =
    let how = accepts (known_of settings t history caller asked) caller close asked reply entry is in
    of_entry
    (λ e. fits settings history e ≡ true)
    t
    caller
    asked
    entry
    (together
    IsOfData
    (IsTaken settings t history caller (cuid_of asked))
    (λ c. fits settings history (changed_by t caller (cuid_of asked) c) ≡ true)
    (change_of asked)
    (λ c kind taken.
    let own = and_parts (is_of_settings settings (changed_by t caller (cuid_of asked) c)) (came_rightly (changed_by t caller (cuid_of asked) c)) taken.1 in
    fits_made settings t history caller (cuid_of asked) c keeps early kind own.0 taken.0)
    (data_kind asked)
    (together
    (TakesOf settings t history caller (cuid_of asked))
    (λ c. IsOwn settings (changed_by t caller (cuid_of asked) c))
    (IsTaken settings t history caller (cuid_of asked))
    (change_of asked)
    (λ c takes own. (takes, own))
    (takes_of settings t history caller asked keeps how.accepted)
    (own_of settings t history caller asked may how.accepted)))
    how.entry_is
