-- Readers of aliases, access lists, mitigations, changes and whole entries.
use Rattle.std.proofs.Common.{◌≡◌, ℕ, ℤ, zero, suc, ◌-◌, ◌/◌, ◌%◌, ◌^◌, ◌<◌, ◌≤◌, Bool, true, false, Option, List, [], ◌∷◌, ◌++◌, length, drop, refl, sym, ap, subst, ◌∙◌, arith}
use Rattle.std.specs.Prelude.{◌==◌, if◌then◌else◌}
use Rattle.std.specs.List.{flat_map}
use Rattle.std.specs.Int.{w16, w32, w64, to_be_bytes, from_be_bytes, cast_signed, cast_unsigned}
use Rattle.std.proofs.lemmas.Nat.{be_bytes_8, from_be_bytes-to_be_bytes_8}
use Rattle.std.proofs.lemmas.Int.{of_z-to_z}
use Rattle.slot_store.specs.declared.format.Format.{Format}
use Rattle.slot_store.specs.declared.format.Format.TheVariants.{One, Two}
use Rattle.ip_scope.specs.declared.family.Family.{Family}
use Rattle.ip_scope.specs.declared.family.Family.TheVariants.{V4, V6}
use Rattle.ip_scope.specs.Prefix.{PrefixValue, IsPrefix}
use Rattle.ip_scope.specs.Ports.{Ports}
use Rattle.acl_lists.specs.declared.ace.Ace.{Ace}
use Rattle.acl_lists.specs.declared.acl.Acl.{Acl}
use Rattle.acl_lists.specs.declared.acl.Activation.{Activation}
use Rattle.acl_lists.specs.declared.acl.Activation.TheVariants as activation
use Rattle.acl_lists.specs.declared.alias.Alias.{Alias}
use Rattle.acl_lists.specs.declared.asked.Asked.{Asked}
use Rattle.acl_lists.specs.declared.port_test.PortTest.{PortTest}
use Rattle.dots_history.specs.declared.change.Change.{Change}
use Rattle.dots_history.specs.declared.change.Change.TheVariants as change
use Rattle.dots_history.specs.declared.config.Config.{Config}
use Rattle.dots_history.specs.declared.config.Values.{Values}
use Rattle.dots_history.specs.declared.entry.Entry.{Entry}
use Rattle.dots_history.specs.declared.entry.MessageKey.{MessageKey}
use Rattle.dots_history.specs.declared.entry.MessageKey.TheVariants as key
use Rattle.dots_history.specs.declared.put.Put.{Put}
use Rattle.dots_history.specs.declared.put.Target.{Target}
use Rattle.slot_journal.specs.Values.{IsByte, IsName, IsRange, IfThere, IsTest, IsKey}
use Rattle.slot_journal.specs.Layout.{byte, counted, listed, optional, flag_number, prefix_bytes, ports_bytes, asked_bytes, alias_bytes, test_bytes, ace_bytes, family_number, activation_number, acl_bytes, target_bytes, trigger_bytes, put_bytes, values_bytes, config_bytes, put_number, change_number, change_fields, change_bytes, key_number, key_id, key_bytes, reply_bytes, body_bytes}
use Rattle.slot_journal.specs.RecordReading.{pair_at, both_at, second, made_at, prepended, number_at, within_at, bytes_at, time_of, time_at, visible_at, name_at, counted_at, list_at, optional_at, flag_at, prefix_at, ports_at, test_at, asked_from, asked_at, alias_from, alias_at, ace_from, ace_at, family_at, activation_of, activation_at, acl_from, acl_at, target_from, target_at, targets_at, all_targets_at, granted_at, trigger_at, put_from, put_at, values_from, values_at, config_from, config_at, fields_at, last_number, change_at, id_at, key_at, reply_at, entry_from, entry_at}
use Rattle.slot_journal.proofs.Readers.{AreBytes, IsReader, made_reader, pair_reader}
use Rattle.slot_journal.proofs.Fields.{IsWithin, within_reader, is_between, between_most, between_least, AtMost, AreSoMany, bytes_reader, byte_at_place, both_reader, two_reader, four_reader, eight_reader, bytes_of_8, list_reader, counted_reader}
use Rattle.slot_journal.proofs.Parts.{AreVisible, visible_reader, name_reader, optional_reader, flag_reader}
use Rattle.slot_journal.proofs.Prefixes.{constant_reader, variant_reader, prefix_reader, ports_reader, test_reader}

-- ---- what is asked, and aliases

abbrev pub AskedTuple : Type 0
AskedTuple = List PrefixValue × (List Ports × (List ℕ × (List (List ℕ) × List (List ℕ))))

abbrev pub IsAskedTuple : ℕ → AskedTuple → Type 0
IsAskedTuple most p = AtMost 32 IsPrefix p.0 × (AtMost 32 IsRange p.1.0 × (AtMost 32 IsByte p.1.1.0 × (AtMost 8 IsName p.1.1.1.0 × AtMost most IsName p.1.1.1.1)))

abbrev pub asked_tuple : Asked → AskedTuple
asked_tuple asked = (asked.prefixes, (asked.ports, (asked.protocols, (asked.names, asked.aliases))))

abbrev pub MayAsk : ℕ → Asked → Type 0
MayAsk most asked = IsAskedTuple most (asked_tuple asked)

abbrev asked_tuple_bytes : AskedTuple → List ℕ
asked_tuple_bytes p = listed prefix_bytes p.0 ++ (listed ports_bytes p.1.0 ++ (counted p.1.1.0 ++ (listed counted p.1.1.1.0 ++ listed counted p.1.1.1.1)))

prefixes_reader : (most : ℕ) → most < 256 → IsReader (AtMost most IsPrefix) (listed prefix_bytes) (list_at most prefix_at)
prefixes_reader most small = list_reader most IsPrefix prefix_bytes prefix_at small prefix_reader

ranges_reader : IsReader (AtMost 32 IsRange) (listed ports_bytes) (list_at 32 ports_at)
ranges_reader = list_reader 32 IsRange ports_bytes ports_at (omega arith) ports_reader

names_reader : (most : ℕ) → most < 256 → IsReader (AtMost most IsName) (listed counted) (list_at most name_at)
names_reader most small = list_reader most IsName counted name_at small name_reader

asked_reader : (most : ℕ) → most < 256 → IsReader (MayAsk most) asked_bytes (asked_at most)
unfolding asked_at asked_bytes
asked_reader most small =
    made_reader (IsAskedTuple most) asked_tuple_bytes (both_at (list_at 32 prefix_at) (both_at (list_at 32 ports_at) (both_at (counted_at 32) (both_at (list_at 8 name_at) (list_at most name_at)))))
    (MayAsk most) asked_bytes asked_from
    (λ p holds. (holds, refl))
    (λ asked holds. (asked_tuple asked, holds, refl))
    (both_reader _ _ _ _ _ _ (prefixes_reader 32 (omega arith))
    (both_reader _ _ _ _ _ _ ranges_reader
    (both_reader _ _ _ _ _ _ (counted_reader 32 (omega arith))
    (both_reader _ _ _ _ _ _ (names_reader 8 (omega arith)) (names_reader most small)))))

abbrev pub MayStand : Alias → Type 0
MayStand alias = IsName alias.name × MayAsk 0 alias.asked

alias_reader : IsReader MayStand alias_bytes alias_at
unfolding alias_at alias_bytes
alias_reader =
    made_reader (λ p. IsName p.0 × MayAsk 0 p.1) (λ p. counted p.0 ++ asked_bytes p.1) (both_at name_at (asked_at 0))
    MayStand alias_bytes alias_from
    (λ p holds. (holds, refl))
    (λ alias holds. ((alias.name, alias.asked), holds, refl))
    (both_reader _ _ _ _ _ _ name_reader (asked_reader 0 (omega arith)))

-- ---- access lists

abbrev AceTuple : Type 0
AceTuple = List ℕ × (Option PrefixValue × (Option PrefixValue × (Option ℕ × (PortTest × (PortTest × Bool)))))

abbrev IsAceTuple : AceTuple → Type 0
IsAceTuple p = IsName p.0 × (IfThere IsPrefix p.1.0 × (IfThere IsPrefix p.1.1.0 × (IfThere (IsWithin 0 255) p.1.1.1.0 × (IsTest p.1.1.1.1.0 × (IsTest p.1.1.1.1.1.0 × Unit {0})))))

abbrev ace_tuple : Ace → AceTuple
ace_tuple ace = (ace.name, (ace.source, (ace.destination, (ace.protocol, (ace.source_port, (ace.destination_port, ace.accept))))))

abbrev ace_tuple_bytes : AceTuple → List ℕ
ace_tuple_bytes p = counted p.0 ++ (optional prefix_bytes p.1.0 ++ (optional prefix_bytes p.1.1.0 ++ (optional byte p.1.1.1.0 ++ (test_bytes p.1.1.1.1.0 ++ (test_bytes p.1.1.1.1.1.0 ++ byte (flag_number p.1.1.1.1.1.1))))))

abbrev pub MayEnter : Ace → Type 0
MayEnter ace = IsAceTuple (ace_tuple ace)

optional_prefix_reader : IsReader (IfThere IsPrefix) (optional prefix_bytes) (optional_at prefix_at)
optional_prefix_reader = optional_reader IsPrefix prefix_bytes prefix_at prefix_reader

optional_protocol_reader : IsReader (IfThere (IsWithin 0 255)) (optional byte) (optional_at (within_at 0 255))
optional_protocol_reader = optional_reader (IsWithin 0 255) byte (within_at 0 255) (within_reader 0 255 (omega arith) (omega arith))

ace_reader : IsReader MayEnter ace_bytes ace_at
unfolding ace_at ace_bytes
ace_reader =
    made_reader IsAceTuple ace_tuple_bytes (both_at name_at (both_at (optional_at prefix_at) (both_at (optional_at prefix_at) (both_at (optional_at (within_at 0 255)) (both_at test_at (both_at test_at flag_at))))))
    MayEnter ace_bytes ace_from
    (λ p holds. (holds, refl))
    (λ ace holds. (ace_tuple ace, holds, refl))
    (both_reader _ _ _ _ _ _ name_reader
    (both_reader _ _ _ _ _ _ optional_prefix_reader
    (both_reader _ _ _ _ _ _ optional_prefix_reader
    (both_reader _ _ _ _ _ _ optional_protocol_reader
    (both_reader _ _ _ _ _ _ test_reader
    (both_reader _ _ _ _ _ _ test_reader flag_reader))))))

family_to : (n : ℕ) → IsWithin 0 1 n → Unit {0} × (byte (family_number (if n == 0 then V4 else V6)) ≡ byte n)
family_to zero holds = (tt, refl)
family_to (suc zero) holds = (tt, refl)
family_to (suc (suc n)) holds = absurd (omega (arith, between_most 0 1 (suc (suc n)) holds.0))

family_back : (family : Family) → (n : ℕ) × IsWithin 0 1 n × ((if n == 0 then V4 else V6) ≡ family)
family_back V4 = (0, (refl, omega arith), refl)
family_back V6 = (1, (refl, omega arith), refl)

family_reader : IsReader (λ _. Unit {0}) (λ family. byte (family_number family)) family_at
family_reader = made_reader (IsWithin 0 1) byte (within_at 0 1) (λ _. Unit {0}) (λ family. byte (family_number family)) (λ n. if n == 0 then V4 else V6) family_to (λ family holds. family_back family) (within_reader 0 1 (omega arith) (omega arith))

activation_to : (n : ℕ) → IsWithin 0 2 n → Unit {0} × (byte (activation_number (activation_of n)) ≡ byte n)
activation_to zero holds = (tt, refl)
activation_to (suc zero) holds = (tt, refl)
activation_to (suc (suc zero)) holds = (tt, refl)
activation_to (suc (suc (suc n))) holds = absurd (omega (arith, between_most 0 2 (suc (suc (suc n))) holds.0))

activation_back : (active : Activation) → (n : ℕ) × IsWithin 0 2 n × (activation_of n ≡ active)
activation_back activation.WhenMitigating = (0, (refl, omega arith), refl)
activation_back activation.Immediate = (1, (refl, omega arith), refl)
activation_back activation.Deactivate = (2, (refl, omega arith), refl)

activation_reader : IsReader (λ _. Unit {0}) (λ active. byte (activation_number active)) activation_at
activation_reader = made_reader (IsWithin 0 2) byte (within_at 0 2) (λ _. Unit {0}) (λ active. byte (activation_number active)) activation_of activation_to (λ active holds. activation_back active) (within_reader 0 2 (omega arith) (omega arith))

abbrev AclTuple : Type 0
AclTuple = List ℕ × (Family × (Activation × List Ace))

abbrev acl_tuple : Acl → AclTuple
acl_tuple acl = (acl.name, (acl.family, (acl.activation, acl.aces)))

abbrev pub MayList : Acl → Type 0
MayList acl = IsName acl.name × (Unit {0} × (Unit {0} × AtMost 64 MayEnter acl.aces))

acl_reader : IsReader MayList acl_bytes acl_at
unfolding acl_at acl_bytes
acl_reader =
    made_reader (λ (p : AclTuple). IsName p.0 × (Unit {0} × (Unit {0} × AtMost 64 MayEnter p.1.1.1))) (λ p. counted p.0 ++ (byte (family_number p.1.0) ++ (byte (activation_number p.1.1.0) ++ listed ace_bytes p.1.1.1))) (both_at name_at (both_at family_at (both_at activation_at (list_at 64 ace_at))))
    MayList acl_bytes acl_from
    (λ p holds. (holds, refl))
    (λ acl holds. (acl_tuple acl, holds, refl))
    (both_reader _ _ _ _ _ _ name_reader
    (both_reader _ _ _ _ _ _ family_reader
    (both_reader _ _ _ _ _ _ activation_reader (list_reader 64 MayEnter ace_bytes ace_at (omega arith) ace_reader))))

-- ---- mitigations

abbrev TargetTuple : Type 0
TargetTuple = List PrefixValue × (List Ports × List ℕ)

abbrev pub MayAim : ℕ → Target → Type 0
MayAim room target = AtMost room IsPrefix target.prefixes × (AtMost 32 IsRange target.ports × AtMost 32 IsByte target.protocols)

target_reader : (room : ℕ) → room < 256 → IsReader (MayAim room) target_bytes (target_at room)
unfolding target_at target_bytes
target_reader room small =
    made_reader (λ (p : TargetTuple). AtMost room IsPrefix p.0 × (AtMost 32 IsRange p.1.0 × AtMost 32 IsByte p.1.1)) (λ p. listed prefix_bytes p.0 ++ (listed ports_bytes p.1.0 ++ counted p.1.1)) (both_at (list_at room prefix_at) (both_at (list_at 32 ports_at) (counted_at 32)))
    (MayAim room) target_bytes target_from
    (λ p holds. (holds, refl))
    (λ target holds. ((target.prefixes, (target.ports, target.protocols)), holds, refl))
    (both_reader _ _ _ _ _ _ (prefixes_reader room small) (both_reader _ _ _ _ _ _ ranges_reader (counted_reader 32 (omega arith))))

-- so many targets, with at most so many prefixes together
abbrev pub MayAimAll : ℕ → ℕ → List Target → Type 0
MayAimAll zero room [] = Unit {0}
MayAimAll zero room (target ∷ targets) = ⊥
MayAimAll (suc n) room [] = ⊥
MayAimAll (suc n) room (target ∷ targets) = MayAim room target × MayAimAll n (room - length target.prefixes) targets

none_aimed : (room : ℕ) (targets : List Target) → MayAimAll 0 room targets → [] ≡ targets
none_aimed room [] holds = refl
none_aimed room (target ∷ targets) holds = absurd holds

some_aimed : (n room : ℕ) (targets : List Target) → MayAimAll (suc n) room targets → (p : Target × List Target) × (MayAim room p.0 × MayAimAll n (room - length p.0.prefixes) p.1) × (prepended p ≡ targets)
some_aimed n room [] holds = absurd holds
some_aimed n room (target ∷ targets) holds = ((target, targets), holds, refl)

targets_reader : (n room : ℕ) → room < 256 → IsReader (MayAimAll n room) (flat_map target_bytes) (targets_at n room)
unfolding targets_at
targets_reader zero room small = constant_reader (MayAimAll 0 room) (flat_map target_bytes) [] tt refl (none_aimed room)
targets_reader (suc n) room small =
    made_reader (λ p. MayAim room p.0 × MayAimAll n (room - length p.0.prefixes) p.1) (λ p. target_bytes p.0 ++ flat_map target_bytes p.1) (pair_at (target_at room) (λ target. targets_at n (room - length target.prefixes)))
    (MayAimAll (suc n) room) (flat_map target_bytes) prepended
    (λ p holds. (holds, refl))
    (some_aimed n room)
    (pair_reader (MayAim room) target_bytes (target_at room) (λ target. MayAimAll n (room - length target.prefixes)) (λ _. flat_map target_bytes) (λ target. targets_at n (room - length target.prefixes))
    (target_reader room small) (λ target holds. targets_reader n (room - length target.prefixes) (omega (arith, small))))

abbrev pub AreAimed : List Target → Type 0
AreAimed targets = (length targets ≤ 9) × MayAimAll (length targets) 128 targets

aimed_count : (n room : ℕ) (targets : List Target) → MayAimAll n room targets → length targets ≡ n
aimed_count zero room [] holds = refl
aimed_count zero room (target ∷ targets) holds = absurd holds
aimed_count (suc n) room [] holds = absurd holds
aimed_count (suc n) room (target ∷ targets) holds = ap suc (aimed_count n (room - length target.prefixes) targets holds.1)

all_targets_reader : IsReader AreAimed (listed target_bytes) all_targets_at
unfolding all_targets_at
all_targets_reader =
    made_reader (λ p. IsWithin 0 9 p.0 × MayAimAll p.0 128 p.1) (λ p. byte p.0 ++ flat_map target_bytes p.1) (pair_at (within_at 0 9) (λ n. targets_at n 128))
    AreAimed (listed target_bytes) second
    (λ p holds. let count = aimed_count p.0 128 p.1 holds.1 in (
      (subst (λ (n : ℕ). n ≤ 9) (sym count) (between_most 0 9 p.0 holds.0.0), subst (λ (n : ℕ). MayAimAll n 128 p.1) (sym count) holds.1),
      ap (λ (n : ℕ). n ∷ flat_map target_bytes p.1) count,
    ))
    (λ targets holds. ((length targets, targets), ((is_between 0 9 (length targets) (omega arith) holds.0, omega (arith, holds.0)), holds.1), refl))
    (pair_reader (IsWithin 0 9) byte (within_at 0 9) (λ n. MayAimAll n 128) (λ _. flat_map target_bytes) (λ n. targets_at n 128)
    (within_reader 0 9 (omega arith) (omega arith)) (λ n holds. targets_reader n 128 (omega arith)))

abbrev pub IsSigned : ℤ → Type 0
IsSigned z = (n : ℕ) × (n < 2 ^ 32) × (cast_signed w32 n ≡ z)

granted_reader : IsReader IsSigned (λ z. to_be_bytes w32 (cast_unsigned w32 z)) granted_at
granted_reader =
    made_reader (λ n. n < 2 ^ 32) (to_be_bytes w32) (number_at w32) IsSigned (λ z. to_be_bytes w32 (cast_unsigned w32 z)) (cast_signed w32)
    (λ n fits. ((n, fits, refl), ap (to_be_bytes w32) (of_z-to_z w32 n fits)))
    (λ z is. is)
    four_reader

abbrev PutTuple : Type 0
PutTuple = ℕ × (Asked × (List Target × (ℤ × (ℕ × Bool))))

abbrev put_tuple : Put → PutTuple
put_tuple put = (put.mid, (put.asked, (put.targets, (put.granted, (put.start, put.trigger)))))

-- of the fields but the trigger
abbrev pub MayPut : Put → Type 0
MayPut put = (put.mid < 2 ^ 32) × (MayAsk 8 put.asked × (AreAimed put.targets × (IsSigned put.granted × (put.start < 2 ^ 64))))

-- which trigger a mitigation has where the number of the change has this one
abbrev HasTrigger : Format → Bool → Bool → Type 0
HasTrigger One numbered trigger = numbered ≡ trigger
HasTrigger Two numbered trigger = Unit {0}

trigger_reader : (format : Format) (numbered : Bool) → IsReader (HasTrigger format numbered) (trigger_bytes format) (trigger_at format numbered)
trigger_reader One numbered = constant_reader (HasTrigger One numbered) (trigger_bytes One) numbered refl refl (λ trigger is. is)
trigger_reader Two numbered = flag_reader

abbrev MayPutWith : Format → Bool → Put → Type 0
MayPutWith format numbered put = MayPut put × HasTrigger format numbered put.trigger

put_reader : (format : Format) (numbered : Bool) → IsReader (MayPutWith format numbered) (put_bytes format) (put_at format numbered)
unfolding put_at put_bytes
put_reader format numbered =
    made_reader (λ (p : PutTuple). (p.0 < 2 ^ 32) × (MayAsk 8 p.1.0 × (AreAimed p.1.1.0 × (IsSigned p.1.1.1.0 × ((p.1.1.1.1.0 < 2 ^ 64) × HasTrigger format numbered p.1.1.1.1.1)))))
    (λ p. to_be_bytes w32 p.0 ++ (asked_bytes p.1.0 ++ (listed target_bytes p.1.1.0 ++ (to_be_bytes w32 (cast_unsigned w32 p.1.1.1.0) ++ (to_be_bytes w64 p.1.1.1.1.0 ++ trigger_bytes format p.1.1.1.1.1)))))
    (both_at (number_at w32) (both_at (asked_at 8) (both_at all_targets_at (both_at granted_at (both_at (number_at w64) (trigger_at format numbered))))))
    (MayPutWith format numbered) (put_bytes format) put_from
    (λ p holds. (((holds.0, (holds.1.0, (holds.1.1.0, (holds.1.1.1.0, holds.1.1.1.1.0)))), holds.1.1.1.1.1), refl))
    (λ put holds. (put_tuple put, (holds.0.0, (holds.0.1.0, (holds.0.1.1.0, (holds.0.1.1.1.0, (holds.0.1.1.1.1, holds.1))))), refl))
    (both_reader _ _ _ _ _ _ four_reader
    (both_reader _ _ _ _ _ _ (asked_reader 8 (omega arith))
    (both_reader _ _ _ _ _ _ all_targets_reader
    (both_reader _ _ _ _ _ _ granted_reader
    (both_reader _ _ _ _ _ _ eight_reader (trigger_reader format numbered))))))

-- ---- session configurations

abbrev ValuesTuple : Type 0
ValuesTuple = ℕ × (ℕ × (ℕ × (ℕ × (ℕ × ℕ))))

abbrev IsWord : ℕ → Type 0
IsWord n = n < 2 ^ 32

abbrev AreWords : ValuesTuple → Type 0
AreWords p = IsWord p.0 × (IsWord p.1.0 × (IsWord p.1.1.0 × (IsWord p.1.1.1.0 × (IsWord p.1.1.1.1.0 × IsWord p.1.1.1.1.1))))

abbrev values_tuple : Values → ValuesTuple
values_tuple values = (values.interval, (values.missing, (values.retransmit, (values.timeout, (values.factor, values.rate)))))

abbrev word_bytes : ValuesTuple → List ℕ
word_bytes p = to_be_bytes w32 p.0 ++ (to_be_bytes w32 p.1.0 ++ (to_be_bytes w32 p.1.1.0 ++ (to_be_bytes w32 p.1.1.1.0 ++ (to_be_bytes w32 p.1.1.1.1.0 ++ to_be_bytes w32 p.1.1.1.1.1))))

abbrev pub AreValues : Values → Type 0
AreValues values = AreWords (values_tuple values)

values_reader : IsReader AreValues values_bytes values_at
unfolding values_at values_bytes
values_reader =
    made_reader AreWords word_bytes (both_at (number_at w32) (both_at (number_at w32) (both_at (number_at w32) (both_at (number_at w32) (both_at (number_at w32) (number_at w32))))))
    AreValues values_bytes values_from
    (λ p holds. (holds, refl))
    (λ values holds. (values_tuple values, holds, refl))
    (both_reader _ _ _ _ _ _ four_reader
    (both_reader _ _ _ _ _ _ four_reader
    (both_reader _ _ _ _ _ _ four_reader
    (both_reader _ _ _ _ _ _ four_reader
    (both_reader _ _ _ _ _ _ four_reader four_reader)))))

abbrev pub MaySet : Config → Type 0
MaySet config = AreValues config.mitigating × AreValues config.idle

config_reader : IsReader MaySet config_bytes config_at
unfolding config_at
config_reader =
    made_reader (λ p. AreValues p.0 × AreValues p.1) (λ p. values_bytes p.0 ++ values_bytes p.1) (both_at values_at values_at)
    MaySet config_bytes config_from
    (λ p holds. (holds, refl))
    (λ config holds. ((config.mitigating, config.idle), holds, refl))
    (both_reader _ _ _ _ _ _ values_reader values_reader)

-- ---- changes

abbrev ChangeOf : Format → ℕ → Change → Type 0
ChangeOf format zero c = ⊥
ChangeOf format (suc zero) c = (put : Put) × HasTrigger format true put.trigger × (change.Put put ≡ c)
ChangeOf format (suc (suc zero)) c = (mid : ℕ) × (change.Withdraw mid ≡ c)
ChangeOf format (suc (suc (suc zero))) c = (alias : Alias) × (change.SetAlias alias ≡ c)
ChangeOf format (suc (suc (suc (suc zero)))) c = (name : List ℕ) × (change.DropAlias name ≡ c)
ChangeOf format (suc (suc (suc (suc (suc zero))))) c = (acl : Acl) × (change.SetAcl acl ≡ c)
ChangeOf format (suc (suc (suc (suc (suc (suc zero)))))) c = (name : List ℕ) × (change.DropAcl name ≡ c)
ChangeOf format (suc (suc (suc (suc (suc (suc (suc zero))))))) c = change.Register ≡ c
ChangeOf format (suc (suc (suc (suc (suc (suc (suc (suc zero)))))))) c = change.Deregister ≡ c
ChangeOf format (suc (suc (suc (suc (suc (suc (suc (suc (suc zero))))))))) c = (p : ℕ × Config) × (change.SetConfig p.0 p.1 ≡ c)
ChangeOf format (suc (suc (suc (suc (suc (suc (suc (suc (suc (suc zero)))))))))) c = change.ClearConfig ≡ c
ChangeOf format (suc (suc (suc (suc (suc (suc (suc (suc (suc (suc (suc zero))))))))))) c = change.Lost ≡ c
ChangeOf format (suc (suc (suc (suc (suc (suc (suc (suc (suc (suc (suc (suc zero)))))))))))) c = change.Back ≡ c
ChangeOf format (suc (suc (suc (suc (suc (suc (suc (suc (suc (suc (suc (suc (suc n))))))))))))) c = (put : Put) × HasTrigger format false put.trigger × (change.Put put ≡ c)

put_of_number : (format : Format) (put : Put) (trigger : Bool) → put.trigger ≡ trigger → ChangeOf format (put_number format trigger) (change.Put put)
put_of_number One put true is = (put, sym is, refl)
put_of_number One put false is = (put, sym is, refl)
put_of_number Two put trigger is = (put, tt, refl)

change_of : (format : Format) (c : Change) → ChangeOf format (change_number format c) c
change_of format (change.Put put) = put_of_number format put put.trigger refl
change_of format (change.Withdraw mid) = (mid, refl)
change_of format (change.SetAlias alias) = (alias, refl)
change_of format (change.DropAlias name) = (name, refl)
change_of format (change.SetAcl acl) = (acl, refl)
change_of format (change.DropAcl name) = (name, refl)
change_of format change.Register = refl
change_of format change.Deregister = refl
change_of format (change.SetConfig sid config) = ((sid, config), refl)
change_of format change.ClearConfig = refl
change_of format change.Lost = refl
change_of format change.Back = refl

change_is : (format : Format) (n : ℕ) (c : Change) → change_number format c ≡ n → ChangeOf format n c
change_is format n c is = subst (λ (k : ℕ). ChangeOf format k c) is (change_of format c)

abbrev pub MayChange : Change → Type 0
MayChange (change.Put put) = MayPut put
MayChange (change.Withdraw mid) = mid < 2 ^ 32
MayChange (change.SetAlias alias) = MayStand alias
MayChange (change.DropAlias name) = IsName name
MayChange (change.SetAcl acl) = MayList acl
MayChange (change.DropAcl name) = IsName name
MayChange change.Register = Unit {0}
MayChange change.Deregister = Unit {0}
MayChange (change.SetConfig sid config) = (sid < 2 ^ 32) × MaySet config
MayChange change.ClearConfig = Unit {0}
MayChange change.Lost = Unit {0}
MayChange change.Back = Unit {0}

abbrev IsChangeOf : Format → ℕ → Change → Type 0
IsChangeOf format n c = MayChange c × (change_number format c ≡ n)

set_config_reader : IsReader (λ (p : ℕ × Config). (p.0 < 2 ^ 32) × MaySet p.1) (λ p. to_be_bytes w32 p.0 ++ config_bytes p.1) (both_at (number_at w32) config_at)
set_config_reader = both_reader _ _ _ _ _ _ four_reader config_reader

-- A mitigation has this trigger where the number of the change is that of a mitigation with it.
numbered_is : (format : Format) (numbered trigger : Bool) → HasTrigger format numbered trigger → put_number format trigger ≡ put_number format numbered
numbered_is One numbered trigger is = ap (put_number One) (sym is)
numbered_is Two numbered trigger is = refl

put_fields_reader : (format : Format) (numbered : Bool) → ((c : Change) → change_number format c ≡ put_number format numbered → (put : Put) × HasTrigger format numbered put.trigger × (change.Put put ≡ c))
    → IsReader (IsChangeOf format (put_number format numbered)) (change_fields format) (made_at change.Put (put_at format numbered))
unfolding change_fields
put_fields_reader format numbered back =
    made_reader (MayPutWith format numbered) (put_bytes format) (put_at format numbered) (IsChangeOf format (put_number format numbered)) (change_fields format) change.Put
    (λ put holds. ((holds.0, numbered_is format numbered put.trigger holds.1), refl))
    (λ c holds. let of = back c holds.1 in (of.0, (subst MayChange (sym of.2) holds.0, of.1), of.2))
    (put_reader format numbered)

-- a mitigation of the least number
first_put_reader : (format : Format) → IsReader (IsChangeOf format 1) (change_fields format) (made_at change.Put (put_at format true))
first_put_reader One = put_fields_reader One true (change_is One 1)
first_put_reader Two = put_fields_reader Two true (change_is Two 1)

-- a mitigation of the greatest
last_put_reader : (format : Format) → IsWithin 1 (last_number format) 13 → IsReader (IsChangeOf format 13) (change_fields format) (made_at change.Put (put_at format false))
last_put_reader One some = put_fields_reader One false (change_is One 13)
last_put_reader Two some = absurd (omega (arith, between_most 1 12 13 some.0))

last_small : (format : Format) → last_number format ≤ 13
last_small One = omega arith
last_small Two = omega arith

fields_reader : (format : Format) (n : ℕ) → IsWithin 1 (last_number format) n → IsReader (IsChangeOf format n) (change_fields format) (fields_at format n)
unfolding fields_at change_fields
fields_reader format zero some = absurd (omega (arith, between_least 1 (last_number format) 0 some.0))
fields_reader format (suc zero) some = first_put_reader format
fields_reader format (suc (suc zero)) some = variant_reader (λ (mid : ℕ). mid < 2 ^ 32) (to_be_bytes w32) (number_at w32) MayChange (change_number format) (change_fields format) 2 change.Withdraw (λ a holds. holds) (λ a holds. holds) (λ a. refl) (λ a. refl) (change_is format 2) four_reader
fields_reader format (suc (suc (suc zero))) some = variant_reader MayStand alias_bytes alias_at MayChange (change_number format) (change_fields format) 3 change.SetAlias (λ a holds. holds) (λ a holds. holds) (λ a. refl) (λ a. refl) (change_is format 3) alias_reader
fields_reader format (suc (suc (suc (suc zero)))) some = variant_reader IsName counted name_at MayChange (change_number format) (change_fields format) 4 change.DropAlias (λ a holds. holds) (λ a holds. holds) (λ a. refl) (λ a. refl) (change_is format 4) name_reader
fields_reader format (suc (suc (suc (suc (suc zero))))) some = variant_reader MayList acl_bytes acl_at MayChange (change_number format) (change_fields format) 5 change.SetAcl (λ a holds. holds) (λ a holds. holds) (λ a. refl) (λ a. refl) (change_is format 5) acl_reader
fields_reader format (suc (suc (suc (suc (suc (suc zero)))))) some = variant_reader IsName counted name_at MayChange (change_number format) (change_fields format) 6 change.DropAcl (λ a holds. holds) (λ a holds. holds) (λ a. refl) (λ a. refl) (change_is format 6) name_reader
fields_reader format (suc (suc (suc (suc (suc (suc (suc zero))))))) some = constant_reader (IsChangeOf format 7) (change_fields format) change.Register (tt, refl) refl (λ c holds. change_is format 7 c holds.1)
fields_reader format (suc (suc (suc (suc (suc (suc (suc (suc zero)))))))) some = constant_reader (IsChangeOf format 8) (change_fields format) change.Deregister (tt, refl) refl (λ c holds. change_is format 8 c holds.1)
fields_reader format (suc (suc (suc (suc (suc (suc (suc (suc (suc zero))))))))) some =
    variant_reader (λ (p : ℕ × Config). (p.0 < 2 ^ 32) × MaySet p.1) (λ p. to_be_bytes w32 p.0 ++ config_bytes p.1) (both_at (number_at w32) config_at) MayChange (change_number format) (change_fields format) 9 (λ p. change.SetConfig p.0 p.1)
    (λ a holds. holds) (λ a holds. holds) (λ a. refl) (λ a. refl) (change_is format 9) set_config_reader
fields_reader format (suc (suc (suc (suc (suc (suc (suc (suc (suc (suc zero)))))))))) some = constant_reader (IsChangeOf format 10) (change_fields format) change.ClearConfig (tt, refl) refl (λ c holds. change_is format 10 c holds.1)
fields_reader format (suc (suc (suc (suc (suc (suc (suc (suc (suc (suc (suc zero))))))))))) some = constant_reader (IsChangeOf format 11) (change_fields format) change.Lost (tt, refl) refl (λ c holds. change_is format 11 c holds.1)
fields_reader format (suc (suc (suc (suc (suc (suc (suc (suc (suc (suc (suc (suc zero)))))))))))) some = constant_reader (IsChangeOf format 12) (change_fields format) change.Back (tt, refl) refl (λ c holds. change_is format 12 c holds.1)
fields_reader format (suc (suc (suc (suc (suc (suc (suc (suc (suc (suc (suc (suc (suc zero))))))))))))) some = last_put_reader format some
fields_reader format (suc (suc (suc (suc (suc (suc (suc (suc (suc (suc (suc (suc (suc (suc n)))))))))))))) some =
    absurd (omega (arith, last_small format, between_most 1 (last_number format) (suc (suc (suc (suc (suc (suc (suc (suc (suc (suc (suc (suc (suc (suc n)))))))))))))) some.0))

last_least : (format : Format) → 12 ≤ last_number format
last_least One = omega arith
last_least Two = omega arith

put_small : (format : Format) (trigger : Bool) → (1 ≤ put_number format trigger) × (put_number format trigger ≤ last_number format)
put_small One true = (omega arith, omega arith)
put_small One false = (omega arith, omega arith)
put_small Two trigger = (omega arith, omega arith)

change_small : (format : Format) (c : Change) → (1 ≤ change_number format c) × (change_number format c ≤ last_number format)
change_small format (change.Put put) = put_small format put.trigger
change_small format (change.Withdraw mid) = (omega arith, omega (arith, last_least format))
change_small format (change.SetAlias alias) = (omega arith, omega (arith, last_least format))
change_small format (change.DropAlias name) = (omega arith, omega (arith, last_least format))
change_small format (change.SetAcl acl) = (omega arith, omega (arith, last_least format))
change_small format (change.DropAcl name) = (omega arith, omega (arith, last_least format))
change_small format change.Register = (omega arith, omega (arith, last_least format))
change_small format change.Deregister = (omega arith, omega (arith, last_least format))
change_small format (change.SetConfig sid config) = (omega arith, omega (arith, last_least format))
change_small format change.ClearConfig = (omega arith, omega (arith, last_least format))
change_small format change.Lost = (omega arith, omega (arith, last_least format))
change_small format change.Back = (omega arith, omega (arith, last_least format))

change_reader : (format : Format) → IsReader MayChange (change_bytes format) (change_at format)
unfolding change_at
change_reader format =
    let last = last_number format in
    made_reader (λ p. IsWithin 1 last p.0 × IsChangeOf format p.0 p.1) (λ p. byte p.0 ++ change_fields format p.1) (pair_at (within_at 1 last) (fields_at format))
    MayChange (change_bytes format) second
    (λ p holds. (holds.1.0, ap (λ (n : ℕ). n ∷ change_fields format p.1) holds.1.1))
    (λ c is.
    let small = change_small format c in
    ((change_number format c, c), ((is_between 1 last (change_number format c) small.0 small.1, omega (arith, small.1, last_small format)), (is, refl)), refl))
    (pair_reader (IsWithin 1 last) byte (within_at 1 last) (IsChangeOf format) (λ _. change_fields format) (fields_at format)
    (within_reader 1 last (omega (arith, last_least format)) (omega (arith, last_small format))) (fields_reader format))

-- ---- keys, replies and times

abbrev KeyOf : ℕ → MessageKey → Type 0
KeyOf zero k = key.Http ≡ k
KeyOf (suc zero) k = (id : ℕ) × (key.Non id ≡ k)
KeyOf (suc (suc n)) k = (id : ℕ) × (key.Con id ≡ k)

key_of : (k : MessageKey) → KeyOf (key_number k) k
key_of key.Http = refl
key_of (key.Non id) = (id, refl)
key_of (key.Con id) = (id, refl)

key_is : (n : ℕ) (k : MessageKey) → key_number k ≡ n → KeyOf n k
key_is n k is = subst (λ (m : ℕ). KeyOf m k) is (key_of k)

abbrev IsKeyOf : ℕ → MessageKey → Type 0
IsKeyOf n k = IsKey k × (key_number k ≡ n)

abbrev id_bytes : MessageKey → List ℕ
id_bytes k = to_be_bytes w16 (key_id k)

nought_byte : (n : ℕ) → IsWithin 0 0 n → n ≡ 0
nought_byte n is = omega (arith, between_most 0 0 n is.0)

no_id_reader : IsReader (IsKeyOf 0) id_bytes (id_at 0)
no_id_reader =
    made_reader (λ p. IsWithin 0 0 p.0 × IsWithin 0 0 p.1) (λ p. byte p.0 ++ byte p.1) (both_at (within_at 0 0) (within_at 0 0))
    (IsKeyOf 0) id_bytes (λ _. key.Http)
    (λ p holds. ((tt, refl), rw (nought_byte p.0 holds.0, nought_byte p.1 holds.1) refl))
    (λ k is. ((0, 0), ((refl, omega arith), (refl, omega arith)), key_is 0 k is.1))
    (both_reader _ _ _ _ _ _ (within_reader 0 0 (omega arith) (omega arith)) (within_reader 0 0 (omega arith) (omega arith)))

id_reader : (n : ℕ) → IsWithin 0 2 n → IsReader (IsKeyOf n) id_bytes (id_at n)
id_reader zero few = no_id_reader
id_reader (suc zero) few = variant_reader (λ (id : ℕ). id < 2 ^ 16) (to_be_bytes w16) (number_at w16) IsKey key_number id_bytes 1 key.Non (λ a holds. holds) (λ a holds. holds) (λ a. refl) (λ a. refl) (key_is 1) two_reader
id_reader (suc (suc zero)) few = variant_reader (λ (id : ℕ). id < 2 ^ 16) (to_be_bytes w16) (number_at w16) IsKey key_number id_bytes 2 key.Con (λ a holds. holds) (λ a holds. holds) (λ a. refl) (λ a. refl) (key_is 2) two_reader
id_reader (suc (suc (suc n))) few = absurd (omega (arith, between_most 0 2 (suc (suc (suc n))) few.0))

key_small : (k : MessageKey) → key_number k ≤ 2
key_small key.Http = omega arith
key_small (key.Non id) = omega arith
key_small (key.Con id) = omega arith

key_reader : IsReader IsKey key_bytes key_at
unfolding key_at
key_reader =
    made_reader (λ p. IsWithin 0 2 p.0 × IsKeyOf p.0 p.1) (λ p. byte p.0 ++ id_bytes p.1) (pair_at (within_at 0 2) id_at)
    IsKey key_bytes second
    (λ p holds. (holds.1.0, ap (λ (n : ℕ). n ∷ id_bytes p.1) holds.1.1))
    (λ k is. ((key_number k, k), ((is_between 0 2 (key_number k) (omega arith) (key_small k), omega (arith, key_small k)), (is, refl)), refl))
    (pair_reader (IsWithin 0 2) byte (within_at 0 2) IsKeyOf (λ _. id_bytes) id_at
    (within_reader 0 2 (omega arith) (omega arith)) id_reader)

short_bytes : (n : ℕ) → n ≤ 64 → to_be_bytes w16 n ≡ 0 ∷ (n ∷ [])
short_bytes n few =
    let high : n / 256 % 256 ≡ 0 = omega (arith, few) in
    let low : n % 256 ≡ n = omega (arith, few) in
    λ i. high i ∷ (low i ∷ [])

reply_reader : IsReader (AtMost 64 IsByte) reply_bytes reply_at
unfolding reply_at
reply_reader =
    made_reader (λ p. IsWithin 0 0 p.0 × AtMost 64 IsByte p.1) (λ p. byte p.0 ++ counted p.1) (both_at (within_at 0 0) (counted_at 64))
    (AtMost 64 IsByte) reply_bytes second
    (λ p holds. (holds.1, ap (λ (l : List ℕ). l ++ p.1) (short_bytes (length p.1) holds.1.0) ∙ ap (λ (n : ℕ). n ∷ counted p.1) (sym (nought_byte p.0 holds.0))))
    (λ reply holds. ((0, reply), ((refl, omega arith), holds), refl))
    (both_reader _ _ _ _ _ _ (within_reader 0 0 (omega arith) (omega arith)) (counted_reader 64 (omega arith)))

abbrev IsTime : ℕ → Type 0
IsTime time = time < 2 ^ 48

six_below : (low : List ℕ) → AreBytes low → time_of low < 2 ^ 48
six_below low fits =
    omega (arith, byte_at_place low 0 fits, byte_at_place low 1 fits, byte_at_place low 2 fits, byte_at_place low 3 fits, byte_at_place low 4 fits, byte_at_place low 5 fits)

time_bytes : (low : List ℕ) → AreSoMany 6 low → to_be_bytes w64 (time_of low) ≡ 0 ∷ (0 ∷ low)
time_bytes low is = be_bytes_8 (0 ∷ (0 ∷ low)) (time_of low) (ap (λ (n : ℕ). suc (suc n)) is.0) (λ i. byte_at_place (0 ∷ (0 ∷ low)) i (omega arith, (omega arith, is.1))) refl

abbrev low_bytes : ℕ → List ℕ
low_bytes time = drop 2 (to_be_bytes w64 time)

high_nought : (time : ℕ) → time < 2 ^ 48 → to_be_bytes w64 time ≡ 0 ∷ (0 ∷ low_bytes time)
high_nought time fits =
    let first : time / 72057594037927936 % 256 ≡ 0 = omega (arith, fits) in
    let next : time / 281474976710656 % 256 ≡ 0 = omega (arith, fits) in
    λ i. first i ∷ (next i ∷ low_bytes time)

time_back : (time : ℕ) → time < 2 ^ 48 → time_of (low_bytes time) ≡ time
time_back time fits = ap (from_be_bytes w64) (sym (high_nought time fits)) ∙ from_be_bytes-to_be_bytes_8 time (omega (arith, fits))

low_are : (time : ℕ) → AreSoMany 6 (low_bytes time)
low_are time = let eight = bytes_of_8 time in (refl, eight.1.1.1)

time_reader : IsReader IsTime (to_be_bytes w64) time_at
unfolding time_at
time_reader =
    made_reader (λ p. IsWithin 0 0 p.0 × (IsWithin 0 0 p.1.0 × AreSoMany 6 p.1.1)) (λ p. byte p.0 ++ (byte p.1.0 ++ p.1.1)) (both_at (within_at 0 0) (both_at (within_at 0 0) (bytes_at 6)))
    IsTime (to_be_bytes w64) (λ p. time_of p.1.1)
    (λ p holds. (six_below p.1.1 holds.1.1.1, rw (nought_byte p.0 holds.0, nought_byte p.1.0 holds.1.0) (time_bytes p.1.1 holds.1.1)))
    (λ time fits. ((0, (0, low_bytes time)), ((refl, omega arith), ((refl, omega arith), low_are time)), time_back time fits))
    (both_reader _ _ _ _ _ _ (within_reader 0 0 (omega arith) (omega arith))
    (both_reader _ _ _ _ _ _ (within_reader 0 0 (omega arith) (omega arith)) (bytes_reader 6)))

-- ---- entries

abbrev EntryTuple : Type 0
EntryTuple = ℕ × (ℕ × (ℕ × (List ℕ × (MessageKey × (List ℕ × Change)))))

abbrev IsEntryTuple : EntryTuple → Type 0
IsEntryTuple p = IsTime p.0 × ((p.1.0 < 2 ^ 32) × ((p.1.1.0 < 2 ^ 16) × (AreVisible 0 64 p.1.1.1.0 × (IsKey p.1.1.1.1.0 × (AtMost 64 IsByte p.1.1.1.1.1.0 × MayChange p.1.1.1.1.1.1)))))

abbrev entry_tuple : Entry → EntryTuple
entry_tuple e = (e.time, (e.peer, (e.domain, (e.cuid, (e.key, (e.reply, e.change))))))

abbrev entry_tuple_bytes : Format → EntryTuple → List ℕ
entry_tuple_bytes format p = to_be_bytes w64 p.0 ++ (to_be_bytes w32 p.1.0 ++ (to_be_bytes w16 p.1.1.0 ++ (counted p.1.1.1.0 ++ (key_bytes p.1.1.1.1.0 ++ (reply_bytes p.1.1.1.1.1.0 ++ change_bytes format p.1.1.1.1.1.1)))))

-- what the parts of a record say of the entry
abbrev pub MayBe : Entry → Type 0
MayBe e = IsEntryTuple (entry_tuple e)

pub entry_reader : (format : Format) → IsReader MayBe (body_bytes format) (entry_at format)
unfolding entry_at body_bytes
entry_reader format =
    made_reader IsEntryTuple (entry_tuple_bytes format) (both_at time_at (both_at (number_at w32) (both_at (number_at w16) (both_at (visible_at 0 64) (both_at key_at (both_at reply_at (change_at format)))))))
    MayBe (body_bytes format) entry_from
    (λ p holds. (holds, refl))
    (λ e holds. (entry_tuple e, holds, refl))
    (both_reader _ _ _ _ _ _ time_reader
    (both_reader _ _ _ _ _ _ four_reader
    (both_reader _ _ _ _ _ _ two_reader
    (both_reader _ _ _ _ _ _ (visible_reader 0 64 (omega arith) (omega arith))
    (both_reader _ _ _ _ _ _ key_reader
    (both_reader _ _ _ _ _ _ reply_reader (change_reader format)))))))
