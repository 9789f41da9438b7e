-- What is granted and what is withdrawn is within bounds.
use Rattle.std.proofs.Common.{◌≡◌, ℕ, ◌≤◌, ◌<◌, Bool, true, false, ◌&&◌, ◌||◌, List, [], ◌∷◌, length, Option, Some, None, Ok, refl, sym, ap, ◌∙◌, length-append, arith}
use Rattle.std.specs.Prelude.{◌==◌, ◌^◌, nat_le, nat_lt, option_to_list, option_map, bytes_eq}
use Rattle.std.specs.List.{list_all, flat_map}
use Rattle.std.proofs.lemmas.Bool.{false≢true, cond_both, and_parts, and_from, or_right, leb-true, le-leb, lt-ltb}
use Rattle.std.proofs.lemmas.List.Folds.{list_all-append}
use Rattle.std.proofs.lemmas.Option.{none-some, same_Some}
use Rattle.dots_lists.specs.Name.{is_name}
use Rattle.acl_lists.specs.declared.alias.Alias.{Alias}
use Rattle.acl_lists.specs.declared.asked.Asked.{Asked}
use Rattle.dots_settings.specs.Settings.{SettingsValue}
use Rattle.dots_history.specs.declared.entry.Entry.{Entry}
use Rattle.dots_history.specs.declared.put.Put.{Put}
use Rattle.dots_history.specs.declared.put.Target.{Target}
use Rattle.dots_history.specs.declared.change.Change.{Change}
use Rattle.dots_history.specs.declared.change.Change.TheVariants as change
use Rattle.dots_history.specs.Entries.{put_of, is_loss}
use Rattle.dots_history.specs.Histories.{is_nil, held}
use Rattle.dots_history.specs.Bounds.{asked_within, alias_within, target_within, prefix_count, put_within, change_within, within_bounds}
use Rattle.dots_history.specs.Tables.{Client}
use Rattle.conflict_rules.specs.declared.live.Live.{Live}
use Rattle.conflict_rules.specs.ByMid.{has_mid}
use Rattle.conflict_rules.specs.Lives.{put_or_nothing, lives_of}
use Rattle.dots_history.specs.Held.{alias_of, aliases_of}
use Rattle.conflict_rules.specs.declared.judging.Judged.{Judged}
use Rattle.conflict_rules.specs.Requests.{Request}
use Rattle.conflict_rules.specs.Targets.{prefixes_asked, target_of, own_target, alias_named, alias_target, targets_of}
use Rattle.conflict_rules.specs.Judging.{refreshed, begun}
use Rattle.conflict_rules.specs.ByHistory.{client_in, judge_request}
use Rattle.dots_registry.proofs.Lists.{found_passes, held_pass, lives_pass, written_pass}
use Rattle.dots_registry.proofs.Granted.{IsGranted, refreshes, begins, granted_by}
use Rattle.acl_lists.specs.declared.limits.TheConstants.{MAX_ITEMS, MAX_NAMES, MAX_TARGETS, MAX_RESOLVED}

-- ---- the parts of the bounds
abbrev targets_within : List Target → Bool
targets_within targets = nat_le (length targets) MAX_TARGETS && list_all target_within targets && nat_le (prefix_count targets) MAX_RESOLVED

-- as a put has them behind what was asked
behind : (a b c d : Bool) → a && b && c && d ≡ a && (b && c && d)
behind true b c d = refl
behind false b c d = refl

abbrev pub in_front : Entry → Bool
in_front e = nat_lt e.time (2 ^ 48) && ((length e.cuid == 0) || is_name e.cuid) && nat_le (length e.reply) 64

change_of : (e : Entry) → within_bounds e ≡ true → change_within e.change ≡ true
change_of e is = (and_parts (in_front e) (change_within e.change) is).1

entry_within : (e : Entry) → e.time < 2 ^ 48 → is_name e.cuid ≡ true → length e.reply ≤ 64 → change_within e.change ≡ true → within_bounds e ≡ true
entry_within e time name reply is =
    let named = or_right (length e.cuid == 0) (is_name e.cuid) name in
    let timed = nat_lt e.time (2 ^ 48) in
    and_from
    (in_front e)
    (change_within e.change)
    (and_from
    (timed && ((length e.cuid == 0) || is_name e.cuid))
    (nat_le (length e.reply) 64)
    (and_from timed ((length e.cuid == 0) || is_name e.cuid) (lt-ltb e.time (2 ^ 48) time) named)
    (le-leb (length e.reply) 64 reply))
    is

-- ---- what is asked for
ports_of : (settings : SettingsValue) (asked : Asked) → asked_within asked ≡ true
    → (target_within (target_of settings asked) ≡ true) × (length asked.aliases ≤ MAX_NAMES)
ports_of settings asked is =
    let prefixes = nat_le (length asked.prefixes) MAX_ITEMS in
    let ports = nat_le (length asked.ports) MAX_ITEMS in
    let protocols = nat_le (length asked.protocols) MAX_ITEMS in
    let names = nat_le (length asked.names) MAX_NAMES in
    let four = and_parts (prefixes && ports && protocols && names) (nat_le (length asked.aliases) MAX_NAMES) is in
    let three = and_parts (prefixes && ports && protocols) names four.0 in
    let two = and_parts (prefixes && ports) protocols three.0 in
    (and_from ports protocols (and_parts prefixes ports two.0).1 two.1, leb-true (length asked.aliases) MAX_NAMES four.1)

own_within : (settings : SettingsValue) (asked : Asked) → target_within (target_of settings asked) ≡ true
    → (list_all target_within (own_target settings asked) ≡ true) × (length (own_target settings asked) ≤ 1)
own_within settings asked is =
    cond_both
    (is_nil (prefixes_asked settings asked))
    []
    (target_of settings asked ∷ [])
    (λ targets. (list_all target_within targets ≡ true) × (length targets ≤ 1))
    (λ none. (refl, omega arith))
    (λ some. (and_from (target_within (target_of settings asked)) true is refl, omega arith))

if_named : (settings : SettingsValue) (o : Option Alias) → ((alias : Alias) → o ≡ Some alias → alias_within alias ≡ true)
    → (list_all target_within (option_to_list (option_map (λ (alias : Alias). target_of settings alias.asked) o)) ≡ true)
    × (length (option_to_list (option_map (λ (alias : Alias). target_of settings alias.asked) o)) ≤ 1)
if_named settings None leads = (refl, omega arith)
if_named settings (Some alias) leads =
    let asked = (and_parts (asked_within alias.asked) (length alias.asked.aliases == 0) (leads alias refl)).0 in
    (and_from (target_within (target_of settings alias.asked)) true (ports_of settings alias.asked asked).0 refl, omega arith)

named_within : (settings : SettingsValue) (aliases : List Alias) (names : List (List ℕ)) → list_all alias_within aliases ≡ true
    → (list_all target_within (flat_map (alias_target settings aliases) names) ≡ true)
    × (length (flat_map (alias_target settings aliases) names) ≤ length names)
named_within settings aliases [] all = (refl, omega arith)
named_within settings aliases (name ∷ names) all =
    let rest = flat_map (alias_target settings aliases) names in
    let go = named_within settings aliases names all in
    let here = if_named
    settings
    (alias_named name aliases)
    (λ alias is. found_passes (λ (other : Alias). bytes_eq name other.name) alias_within aliases alias is all) in
    let few = here.1 in
    let fewer = go.1 in
    let long = length-append (alias_target settings aliases name) rest in (
      list_all-append target_within (alias_target settings aliases name) rest
          ∙ and_from (list_all target_within (alias_target settings aliases name)) (list_all target_within rest) here.0 go.0,
      omega (arith, few, fewer, long),
    )

new_within : (settings : SettingsValue) (aliases : List Alias) (asked : Asked) → list_all alias_within aliases ≡ true → asked_within asked ≡ true
    → nat_le (prefix_count (targets_of settings aliases asked)) MAX_RESOLVED ≡ true → targets_within (targets_of settings aliases asked) ≡ true
new_within settings aliases asked all within few =
    let rest = flat_map (alias_target settings aliases) asked.aliases in
    let asks = ports_of settings asked within in
    let own = own_within settings asked asks.0 in
    let named = named_within settings aliases asked.aliases all in
    let long = length-append (own_target settings asked) rest in
    let one = own.1 in
    let more = named.1 in
    let eight = asks.1 in
    let nine : length (targets_of settings aliases asked) ≤ MAX_TARGETS = omega (arith, long, one, more, eight) in
    let each : list_all target_within (targets_of settings aliases asked) ≡ true =
    list_all-append target_within (own_target settings asked) rest
    ∙ and_from (list_all target_within (own_target settings asked)) (list_all target_within rest) own.0 named.0 in
    and_from
    (nat_le (length (targets_of settings aliases asked)) MAX_TARGETS && list_all target_within (targets_of settings aliases asked))
    (nat_le (prefix_count (targets_of settings aliases asked)) MAX_RESOLVED)
    (and_from
    (nat_le (length (targets_of settings aliases asked)) MAX_TARGETS)
    (list_all target_within (targets_of settings aliases asked))
    (le-leb (length (targets_of settings aliases asked)) MAX_TARGETS nine)
    each)
    few

-- ---- what entries within bounds name
alias_of_change : (c : Change) (alias : Alias) → alias_of c ≡ Some alias → change_within c ≡ true → alias_within alias ≡ true
alias_of_change (change.SetAlias other) alias is within = ap alias_within (sym (same_Some other alias is)) ∙ within
alias_of_change _ alias is within = absurd (none-some alias is)

put_of_change : (c : Change) → change_within c ≡ true → targets_within (put_or_nothing (put_of c)).targets ≡ true
put_of_change (change.Put put) within =
    let asked = asked_within put.asked in
    let nine = nat_le (length put.targets) MAX_TARGETS in
    let each = list_all target_within put.targets in
    let few = nat_le (prefix_count put.targets) MAX_RESOLVED in
    (and_parts asked (nine && each && few) (sym (behind asked nine each few) ∙ within)).1
put_of_change _ within = refl

put_from : (put : Put) → asked_within put.asked ≡ true → targets_within put.targets ≡ true → put_within put ≡ true
put_from put asked within =
    let nine = nat_le (length put.targets) MAX_TARGETS in
    let each = list_all target_within put.targets in
    let few = nat_le (prefix_count put.targets) MAX_RESOLVED in
    behind (asked_within put.asked) nine each few ∙ and_from (asked_within put.asked) (nine && each && few) asked within

-- ---- the entry
granted_within : (settings : SettingsValue) (t : ℕ) (entries : List Entry) (domain : ℕ) (request : Request) (judged : Judged)
    → list_all within_bounds entries ≡ true → asked_within request.asked ≡ true
    → IsGranted settings (lives_of domain t entries) (client_in entries (record { domain = domain; cuid = request.cuid })) t request judged
    → put_within judged.put ≡ true
granted_within settings t entries domain request judged all asked (refreshes m found is) =
    ap (λ (j : Judged). put_within j.put) is
    ∙ put_from
    (refreshed settings m.put request).put
    asked
    (found_passes
    (has_mid request.cuid request.mid)
    (λ (x : Live). targets_within x.put.targets)
    (lives_of domain t entries)
    m
    found
    (lives_pass
    (λ (x : Live). targets_within x.put.targets)
    within_bounds
    domain
    t
    entries
    (λ x within here. put_of_change x.put.change (change_of x.put within))
    all))
granted_within settings t entries domain request judged all asked (begins few place is) =
    let client : Client = record { domain = domain; cuid = request.cuid } in
    let aliases = aliases_of client (held entries) in
    ap (λ (j : Judged). put_within j.put) is
    ∙ put_from
    (begun settings (targets_of settings aliases request.asked) t request).put
    asked
    (new_within
    settings
    aliases
    request.asked
    (written_pass
    alias_of
    alias_within
    within_bounds
    client
    (held entries)
    (λ e alias within of is. alias_of_change e.change alias is (change_of e within))
    (held_pass within_bounds entries all))
    asked
    few)

pub bounded_granted : (settings : SettingsValue) (t : ℕ) (entries : List Entry) (domain : ℕ) (request : Request) (judged : Judged) (e : Entry)
    → list_all within_bounds entries ≡ true
    → asked_within request.asked ≡ true
    → e.time < 2 ^ 48 → is_name e.cuid ≡ true → length e.reply ≤ 64
    → judge_request settings t entries domain request ≡ Ok judged
    → e.peer ≡ request.peer → e.domain ≡ domain → e.cuid ≡ request.cuid → e.change ≡ change.Put judged.put
    → within_bounds e ≡ true
bounded_granted settings t entries domain request judged e all asked time name reply is peer of cuid put =
    let client : Client = record { domain = domain; cuid = request.cuid } in
    entry_within e time name reply
    (ap change_within put
    ∙ granted_within settings t entries domain request judged all asked
    (granted_by settings (lives_of domain t entries) (client_in entries client) t request judged is))

pub bounded_withdrawal : (mid : ℕ) (e : Entry) → e.change ≡ change.Withdraw mid → e.time < 2 ^ 48 → is_name e.cuid ≡ true → length e.reply ≤ 64
    → within_bounds e ≡ true
bounded_withdrawal mid e is time name reply = entry_within e time name reply (ap change_within is)

loss_within : (c : Change) → is_loss c ≡ true → change_within c ≡ true
unfolding is_loss
loss_within change.Lost is = refl
loss_within change.Back is = refl
loss_within _ is = absurd (false≢true is)

pub bounded_loss : (e : Entry) → is_loss e.change ≡ true → e.time < 2 ^ 48 → e.cuid ≡ [] → e.reply ≡ [] → within_bounds e ≡ true
bounded_loss e is time nobody silent =
    let timed = nat_lt e.time (2 ^ 48) in
    and_from
    (in_front e)
    (change_within e.change)
    (and_from
    (timed && ((length e.cuid == 0) || is_name e.cuid))
    (nat_le (length e.reply) 64)
    (and_from timed ((length e.cuid == 0) || is_name e.cuid) (lt-ltb e.time (2 ^ 48) time) (ap (λ (c : List ℕ). (length c == 0) || is_name c) nobody))
    (ap (λ (r : List ℕ). nat_le (length r) 64) silent))
    (loss_within e.change is)
