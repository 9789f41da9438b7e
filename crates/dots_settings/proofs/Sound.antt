-- What holds of all settings, as each line has its form and no fault.
use Rattle.std.proofs.Common.{◌≡◌, ℕ, suc, ◌+◌, ◌^◌, ◌<◌, ◌≤◌, ◌==◌, Bool, true, false, cond, nat_lt, List, [], ◌∷◌, length, map, find, bytes_eq, unwrap_or, option_map, Option, Some, None, refl, sym, ap, subst, ◌∙◌, arith, lit≤}
use Rattle.std.proofs.lemmas.Bool.Decides.{nat_tests}
use Rattle.std.specs.Bool.{MatchBool}
use Rattle.std.specs.List.{AllByRecursion, cons_option, onto_first, position_or_len}
use Rattle.dots_settings.specs.declared.capacity.Capacity.{Capacity}
use Rattle.dots_settings.specs.declared.capacity.Capacity.TheVariants as capacity
use Rattle.dots_settings.specs.declared.draft.Chosen.{Chosen}
use Rattle.dots_settings.specs.declared.draft.Peer.{Peer}
use Rattle.dots_settings.specs.declared.peer.Role.TheVariants as role
use Rattle.dots_settings.specs.Capacity.{place_of, same_capacity, greatest_of, default_of}
use Rattle.dots_settings.specs.Form.{FormValue, Says, ceiling_line, capacity_line}
use Rattle.sha2.specs.Sha256.{sha256}
use Rattle.dots_settings.specs.Lines.{is_skipped, lines_of, content_of}
use Rattle.dots_settings.specs.Row.{Row, row_of, AreRows}
use Rattle.dots_settings.specs.Draft.{DraftValue, draft_of, first_of, forms_by, ceiling_in, capacity_in}
use Rattle.dots_settings.specs.File.{IsSound, SettingsAre}
use Rattle.dots_settings.specs.Settings.{SettingsValue, settings_by, digest_text, draft_role, peer_row_of, name_row_of, limits_of, domain_of, IsKnown, IsInRange, AreLimits, IsSettings, AreApart}
use Rattle.dots_settings.proofs.OneForm.{IsWithin, says_within}
use Rattle.dots_settings.proofs.Whole.{sound_whole}
use Rattle.dots_settings.proofs.Finished.{mapped_length, domains_once, prefixes_few, gateways_few, peers_once, no_strangers, upstream_apart, names_once, names_addressed}
use Rattle.dots_settings.proofs.Apart.{distinct_rows, few_rows, apart_rows, apart_domains}

abbrev pub SaysItsForm : Row → Type 0
SaysItsForm row = Says row.text row.form

rows_say : (number : ℕ) (lines : List (List ℕ)) (rows : List Row) → AreRows number lines rows → AllByRecursion SaysItsForm rows
rows_say number [] rows are = subst (AllByRecursion SaysItsForm) (sym are) tt
rows_say number (line ∷ lines) rows are = by (λ later are. rows_say (number + 1) lines later are) (is_skipped line) are
  where
    by : ((later : List Row) → AreRows (number + 1) lines later → AllByRecursion SaysItsForm later) → (b : Bool)
        → MatchBool b (AreRows (number + 1) lines rows) ((form : FormValue) × (later : List Row) × Says line form × (rows ≡ row_of number line form ∷ later) × AreRows (number + 1) lines later)
        → AllByRecursion SaysItsForm rows
    by rest true are = rest rows are
    by rest false (form, later, says, is, are) = subst (AllByRecursion SaysItsForm) (sym is) (says, rest later are)

all_of_part : (A : Type 0) (part : FormValue → Option A) (P : A → Type 0) → ((line : List ℕ) (form : FormValue) (x : A) → Says line form → part form ≡ Some x → P x)
    → (rows : List Row) → AllByRecursion SaysItsForm rows → AllByRecursion P (forms_by part rows)
all_of_part A part P holds [] all = tt
all_of_part A part P holds (row ∷ rows) all = by (all_of_part A part P holds rows all.1) (part row.form) refl
  where
    by : AllByRecursion P (forms_by part rows) → (o : Option A) → part row.form ≡ o → AllByRecursion P (cons_option o (forms_by part rows))
    by rest None is = rest
    by rest (Some x) is = (holds row.text row.form x all.0 is, rest)

-- ---- the ceiling

said_ceiling : (line : List ℕ) (form : FormValue) (seconds : ℕ) → Says line form → ceiling_in form ≡ Some seconds → (1 ≤ seconds) × (seconds ≤ 604800)
said_ceiling line form seconds says is = by form (says_within line form says) is
  where
    by : (form : FormValue) → IsWithin form → ceiling_in form ≡ Some seconds → (1 ≤ seconds) × (seconds ≤ 604800)
    by (ceiling_line given) within is =
        let same : given ≡ seconds = cc in
        subst (λ (n : ℕ). (1 ≤ n) × (n ≤ 604800)) same within
    by _ within is = absurd (cc)

first_or : {A : Type 0} (P : A → Type 0) (xs : List A) (d : A) → AllByRecursion P xs → P d → P (unwrap_or (first_of xs) d)
first_or P [] d all other = other
first_or P (x ∷ xs) d all other = all.0

-- ---- the capacities

said_capacity : (line : List ℕ) (form : FormValue) (chosen : Chosen) → Says line form → capacity_in form ≡ Some chosen → IsInRange chosen.what chosen.limit
said_capacity line form chosen says is = by form (says_within line form says) is
  where
    injected : (x y : Chosen) → Some x ≡ Some y → x ≡ y
    injected x y e = cc

    by : (form : FormValue) → IsWithin form → capacity_in form ≡ Some chosen → IsInRange chosen.what chosen.limit
    by (capacity_line what (Some limit)) within is = subst (λ (x : Chosen). IsInRange x.what x.limit) (injected (record { what = what; limit = limit }) chosen is) within
    by (capacity_line what None) within is = absurd (cc)
    by _ within is = absurd (cc)

greatest_at : ℕ → ℕ
greatest_at place = cond (place == 0) 64 (cond (place == 1) 64 (cond (place == 2) 8 (cond (place == 3) 16 (cond (place == 4) 8 (cond (place == 5) 64 8)))))

by_place : (what : Capacity) → greatest_of what ≡ greatest_at (place_of what)
unfolding greatest_at
by_place capacity.ClientMitigations = refl
by_place capacity.DomainMitigations = refl
by_place capacity.Clients = refl
by_place capacity.Aliases = refl
by_place capacity.Acls = refl
by_place capacity.Remembered = refl
by_place capacity.Observers = refl

equal_places : (x y : ℕ) → (x == y) ≡ true → x ≡ y
equal_places x y e = grind (arith, nat_tests)

same_greatest : (one other : Capacity) → same_capacity one other ≡ true → greatest_of one ≡ greatest_of other
same_greatest one other same = by_place one ∙ ap greatest_at (equal_places (place_of one) (place_of other) same) ∙ sym (by_place other)

default_in_range : (what : Capacity) → IsInRange what (default_of what)
default_in_range capacity.ClientMitigations = (lit≤ tt, lit≤ tt)
default_in_range capacity.DomainMitigations = (lit≤ tt, lit≤ tt)
default_in_range capacity.Clients = (lit≤ tt, lit≤ tt)
default_in_range capacity.Aliases = (lit≤ tt, lit≤ tt)
default_in_range capacity.Acls = (lit≤ tt, lit≤ tt)
default_in_range capacity.Remembered = (lit≤ tt, lit≤ tt)
default_in_range capacity.Observers = (lit≤ tt, lit≤ tt)

found_in_range : (what : Capacity) (capacities : List Chosen) → AllByRecursion (λ chosen. IsInRange chosen.what chosen.limit) capacities
    → IsInRange what (unwrap_or (option_map (λ (chosen : Chosen). chosen.limit) (find (λ (chosen : Chosen). same_capacity chosen.what what) capacities)) (default_of what))
found_in_range what [] all = default_in_range what
found_in_range what (chosen ∷ capacities) all = by (found_in_range what capacities all.1) (same_capacity chosen.what what) refl
  where
    by : IsInRange what (unwrap_or (option_map (λ (chosen : Chosen). chosen.limit) (find (λ (chosen : Chosen). same_capacity chosen.what what) capacities)) (default_of what)) → (b : Bool) → same_capacity chosen.what what ≡ b
        → IsInRange what (unwrap_or (option_map (λ (chosen : Chosen). chosen.limit) (cond b (Some chosen) (find (λ (chosen : Chosen). same_capacity chosen.what what) capacities))) (default_of what))
    by rest false e = rest
    by rest true e = (all.0.0, subst (λ (n : ℕ). chosen.limit ≤ n) (same_greatest chosen.what what e) all.0.1)

all_in_range : (draft : DraftValue) → AllByRecursion (λ chosen. IsInRange chosen.what chosen.limit) draft.capacities → AreLimits (limits_of draft)
all_in_range draft all = record {
  client_mitigations = found_in_range capacity.ClientMitigations draft.capacities all;
  domain_mitigations = found_in_range capacity.DomainMitigations draft.capacities all;
  clients = found_in_range capacity.Clients draft.capacities all;
  aliases = found_in_range capacity.Aliases draft.capacities all;
  acls = found_in_range capacity.Acls draft.capacities all;
  remembered = found_in_range capacity.Remembered draft.capacities all;
  observers = found_in_range capacity.Observers draft.capacities all;
}

-- ---- the peers

below_length : (n k : ℕ) → nat_lt n k ≡ true → n < k
below_length n k e = grind (arith, nat_tests)

role_known : (draft : DraftValue) (domain : Option (List ℕ)) → IsKnown (length draft.domains) (draft_role draft domain)
role_known draft None = tt
role_known draft (Some name) = by (nat_lt (position_or_len (bytes_eq name) draft.domains) (length draft.domains)) refl
  where
    by : (b : Bool) → nat_lt (position_or_len (bytes_eq name) draft.domains) (length draft.domains) ≡ b
        → IsKnown (length draft.domains) (unwrap_or (option_map role.Client (cond b (Some (position_or_len (bytes_eq name) draft.domains)) None)) role.Stranger)
    by true e = below_length _ _ e
    by false e = tt

peers_known : (draft : DraftValue) (peers : List Peer) → AllByRecursion (λ row. IsKnown (length draft.domains) row.role) (map (peer_row_of draft) peers)
peers_known draft [] = tt
peers_known draft (peer ∷ peers) = (role_known draft peer.domain, peers_known draft peers)

-- ---- the lines

-- each line has a byte at least
pub lines_few : (file : List ℕ) → length (lines_of file) ≤ length file
lines_few [] = omega arith
lines_few (byte ∷ bytes) = by (lines_few bytes) (byte == 10)
  where
    onto : (lines : List (List ℕ)) (n : ℕ) → length lines ≤ n → length (onto_first byte lines) ≤ suc n
    onto [] n few = omega arith
    onto (line ∷ lines) n few = omega (arith, few)

    by : length (lines_of bytes) ≤ length bytes → (b : Bool) → length (cond b ([] ∷ lines_of bytes) (onto_first byte (lines_of bytes))) ≤ suc (length bytes)
    by few true = omega (arith, few)
    by few false = onto (lines_of bytes) (length bytes) few

-- ---- together

pub sound_few : (draft : DraftValue) → IsSound draft → length draft.domains ≤ 16
sound_few draft (rows, lines, stand, is) = subst (λ (d : DraftValue). length d.domains ≤ 16) (sym is) (omega (arith, few_rows [] rows stand.faultless (omega arith)))

sound_ceiling : (draft : DraftValue) → IsSound draft → (1 ≤ unwrap_or draft.ceiling 86400) × (unwrap_or draft.ceiling 86400 ≤ 604800)
sound_ceiling draft (rows, lines, stand, is) =
    let said = all_of_part ℕ ceiling_in (λ (n : ℕ). (1 ≤ n) × (n ≤ 604800)) said_ceiling rows (rows_say 1 lines rows stand.read) in
    subst (λ (d : DraftValue). (1 ≤ unwrap_or d.ceiling 86400) × (unwrap_or d.ceiling 86400 ≤ 604800)) (sym is)
    (first_or (λ (n : ℕ). (1 ≤ n) × (n ≤ 604800)) (forms_by ceiling_in rows) 86400 said (lit≤ tt, lit≤ tt))

sound_apart : (draft : DraftValue) → IsSound draft → AreApart (map (domain_of draft) draft.domains)
sound_apart draft (rows, lines, stand, is) =
    subst (λ (d : DraftValue). AreApart (map (domain_of d) d.domains)) (sym is)
    (apart_domains (draft_of rows) (distinct_rows [] rows stand.faultless) (apart_rows [] rows stand.faultless))

sound_limits : (draft : DraftValue) → IsSound draft → AreLimits (limits_of draft)
sound_limits draft (rows, lines, stand, is) =
    subst (λ (d : DraftValue). AreLimits (limits_of d)) (sym is)
    (all_in_range (draft_of rows) (all_of_part Chosen capacity_in (λ (chosen : Chosen). IsInRange chosen.what chosen.limit) said_capacity rows (rows_say 1 lines rows stand.read)))

pub sound_settings : (draft : DraftValue) (lines : ℕ) (digest : List ℕ) → IsSound draft → lines ≤ 2 ^ 16 → IsSettings (settings_by draft lines digest)
sound_settings draft lines digest sound few =
    let whole = sound_whole draft sound in
    record {
      few = subst (λ (n : ℕ). n ≤ 16) (sym (mapped_length (domain_of draft) draft.domains)) (sound_few draft sound);
      domain_once = domains_once draft whole;
      few_prefixes = prefixes_few draft whole draft.domains;
      apart = sound_apart draft sound;
      few_peers = subst (λ (n : ℕ). n ≤ 64) (sym (mapped_length (peer_row_of draft) draft.peers)) whole.peers.few;
      few_gateways = gateways_few draft whole;
      peer_once = peers_once draft whole;
      known = subst (λ (n : ℕ). AllByRecursion (λ row. IsKnown n row.role) (map (peer_row_of draft) draft.peers)) (sym (mapped_length (domain_of draft) draft.domains)) (peers_known draft draft.peers);
      no_stranger = no_strangers draft whole;
      no_peer = upstream_apart draft draft.upstream whole.upstream;
      few_names = subst (λ (n : ℕ). n ≤ 64) (sym (mapped_length (name_row_of draft) draft.names)) whole.names.few;
      name_once = names_once draft whole;
      addresses = names_addressed draft whole;
      some_ceiling = (sound_ceiling draft sound).0;
      most_ceiling = (sound_ceiling draft sound).1;
      limits = sound_limits draft sound;
      few_packets = whole.packets;
      few_lines = few;
    }

-- what a file gives
pub given_settings : (file : List ℕ) (settings : SettingsValue) → SettingsAre file settings → IsSettings settings
given_settings file settings are =
    subst IsSettings (sym are.given)
    (sound_settings (draft_of are.rows) (length (lines_of file)) (sha256 (digest_text are.rows)) (are.rows, lines_of (content_of file), are.stand, refl) (omega (arith, lines_few file, are.short)))
