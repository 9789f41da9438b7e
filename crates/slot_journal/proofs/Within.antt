-- What the parts of a record say of an entry is what its types and bounds say.
use Rattle.std.proofs.Common.{◌≡◌, ℕ, ℤ, zero, suc, ◌-◌, ◌^◌, ◌<◌, ◌≤◌, Bool, true, false, ◌&&◌, ◌||◌, nat_le, nat_lt, Option, Some, None, List, [], ◌∷◌, length, IsTrue, refl, sym, ap, subst, ◌∙◌, arith}
use Rattle.std.specs.Prelude.{◌==◌, FitsSigned}
use Rattle.std.specs.List.{AllByRecursion, list_all}
use Rattle.std.specs.Int.{w32, cast_unsigned}
use Rattle.std.proofs.lemmas.Bool.{and_from, and_parts}
use Rattle.std.proofs.lemmas.Bool.Decides.{nat_tests}
use mir.ValLaws.{to_z-Fits, of_z_fits, to_z-of_z}
use Rattle.dots_lists.specs.Name.{is_name}
use Rattle.acl_lists.specs.declared.ace.Ace.{Ace}
use Rattle.acl_lists.specs.declared.acl.Acl.{Acl}
use Rattle.acl_lists.specs.declared.alias.Alias.{Alias}
use Rattle.acl_lists.specs.declared.asked.Asked.{Asked}
use Rattle.dots_history.specs.Bounds.{asked_within, alias_within, target_within, prefix_count, put_within, values_within, change_within, within_bounds}
use Rattle.dots_history.specs.declared.change.Change.{Change}
use Rattle.dots_history.specs.declared.change.Change.TheVariants as change
use Rattle.dots_history.specs.declared.config.Values.{Values}
use Rattle.dots_history.specs.declared.entry.Entry.{Entry}
use Rattle.dots_history.specs.declared.put.Put.{Put}
use Rattle.dots_history.specs.declared.put.Target.{Target}
use Rattle.slot_journal.specs.Values.{IsByte, IfThere, IsAsked, IsAlias, IsAce, IsAcl, IsTarget, IsPut, IsChange, IsEntry}
use Rattle.slot_journal.proofs.Fields.{IsWithin, is_between}
use Rattle.slot_journal.proofs.Parts.{AreVisible, name_visible, visible_name}
use Rattle.slot_journal.proofs.Wholes.{MayAsk, MayStand, MayEnter, MayList, MayAimAll, IsSigned, MayPut, AreValues, MayChange, MayBe}

pub at_most : (a b : ℕ) → nat_le a b ≡ true → a ≤ b
at_most a b is = grind (arith, nat_tests)

is_most : (a b : ℕ) → a ≤ b → nat_le a b ≡ true
is_most a b few = grind (arith, nat_tests)

below : (a b : ℕ) → nat_lt a b ≡ true → a < b
below a b is = grind (arith, nat_tests)

is_below : (a b : ℕ) → a < b → nat_lt a b ≡ true
is_below a b less = grind (arith, nat_tests)

none_is : (a : ℕ) → (a == 0) ≡ true → a ≤ 0
none_is a is = grind (arith, nat_tests)

is_none : (a : ℕ) → a ≤ 0 → (a == 0) ≡ true
is_none a few = grind (arith, nat_tests)

pub five_of : (a b c d e : Bool) → (a && b && c && d && e) ≡ true → (a ≡ true) × ((b ≡ true) × ((c ≡ true) × ((d ≡ true) × (e ≡ true))))
five_of a b c d e is =
    let p = and_parts (a && b && c && d) e is in
    let q = and_parts (a && b && c) d p.0 in
    let r = and_parts (a && b) c q.0 in
    let s = and_parts a b r.0 in
    (s.0, (s.1, (r.1, (q.1, p.1))))

of_five : (a b c d e : Bool) → a ≡ true → b ≡ true → c ≡ true → d ≡ true → e ≡ true → (a && b && c && d && e) ≡ true
of_five a b c d e ia ib ic id ie = and_from (a && b && c && d) e (and_from (a && b && c) d (and_from (a && b) c (and_from a b ia ib) ic) id) ie

each_of : {A : Type 0} (P Q : A → Type 0) → ((a : A) → P a → Q a) → (xs : List A) → AllByRecursion P xs → AllByRecursion Q xs
each_of P Q to [] holds = tt
each_of P Q to (x ∷ xs) holds = (to x holds.0, each_of P Q to xs holds.1)

-- ---- what is asked, and aliases

asked_to : (asked : Asked) → MayAsk 8 asked → IsAsked asked × (asked_within asked ≡ true)
asked_to asked may = (
  record { prefixes = may.0.1; ports = may.1.0.1; protocols = may.1.1.0.1; names = may.1.1.1.0.1; aliases = may.1.1.1.1.1 },
  of_five _ _ _ _ _ (is_most _ _ may.0.0) (is_most _ _ may.1.0.0) (is_most _ _ may.1.1.0.0) (is_most _ _ may.1.1.1.0.0) (is_most _ _ may.1.1.1.1.0),
)

asked_from : (asked : Asked) → IsAsked asked → asked_within asked ≡ true → MayAsk 8 asked
asked_from asked is within =
    let parts = five_of (nat_le (length asked.prefixes) 32) (nat_le (length asked.ports) 32) (nat_le (length asked.protocols) 32) (nat_le (length asked.names) 8) (nat_le (length asked.aliases) 8) within in
    ((at_most _ _ parts.0, is.prefixes), ((at_most _ _ parts.1.0, is.ports), ((at_most _ _ parts.1.1.0, is.protocols), ((at_most _ _ parts.1.1.1.0, is.names), (at_most _ _ parts.1.1.1.1, is.aliases)))))

none_more : (asked : Asked) → MayAsk 0 asked → MayAsk 8 asked
none_more asked may = (may.0, (may.1.0, (may.1.1.0, (may.1.1.1.0, (omega (arith, may.1.1.1.1.0), may.1.1.1.1.1)))))

alias_to : (alias : Alias) → MayStand alias → IsAlias alias × (alias_within alias ≡ true)
alias_to alias may =
    let asked = asked_to alias.asked (none_more alias.asked may.1) in
    (record { name = may.0; asked = asked.0 }, and_from _ _ asked.1 (is_none _ may.1.1.1.1.1.0))

alias_from : (alias : Alias) → IsAlias alias → alias_within alias ≡ true → MayStand alias
alias_from alias is within =
    let parts = and_parts (asked_within alias.asked) (length alias.asked.aliases == 0) within in
    let may = asked_from alias.asked is.asked parts.0 in
    (is.name, (may.0, (may.1.0, (may.1.1.0, (may.1.1.1.0, (none_is _ parts.1, may.1.1.1.1.1))))))

-- ---- access lists

byte_of : (o : Option ℕ) → IfThere (IsWithin 0 255) o → IfThere IsByte o
byte_of None holds = tt
byte_of (Some b) holds = holds.1

of_byte : (o : Option ℕ) → IfThere IsByte o → IfThere (IsWithin 0 255) o
of_byte None holds = tt
of_byte (Some b) holds = (is_between 0 255 b (omega arith) (omega (arith, holds)), holds)

ace_to : (ace : Ace) → MayEnter ace → IsAce ace
ace_to ace may = record { name = may.0; source = may.1.0; destination = may.1.1.0; protocol = byte_of ace.protocol may.1.1.1.0; source_port = may.1.1.1.1.0; destination_port = may.1.1.1.1.1.0 }

ace_from : (ace : Ace) → IsAce ace → MayEnter ace
ace_from ace is = (is.name, (is.source, (is.destination, (of_byte ace.protocol is.protocol, (is.source_port, (is.destination_port, tt))))))

acl_to : (acl : Acl) → MayList acl → IsAcl acl × (nat_le (length acl.aces) 64 ≡ true)
acl_to acl may = (record { name = may.0; aces = each_of MayEnter IsAce ace_to acl.aces may.1.1.1.1 }, is_most _ _ may.1.1.1.0)

acl_from : (acl : Acl) → IsAcl acl → nat_le (length acl.aces) 64 ≡ true → MayList acl
acl_from acl is within = (is.name, (tt, (tt, (at_most _ _ within, each_of IsAce MayEnter ace_from acl.aces is.aces))))

-- ---- mitigations

targets_to : (n room : ℕ) (targets : List Target) → MayAimAll n room targets → AllByRecursion IsTarget targets × ((list_all target_within targets ≡ true) × (prefix_count targets ≤ room))
targets_to zero room [] may = (tt, (refl, omega arith))
targets_to zero room (target ∷ targets) may = absurd may
targets_to (suc n) room [] may = absurd may
targets_to (suc n) room (target ∷ targets) may =
    let rest = targets_to n (room - length target.prefixes) targets may.1 in
    let first = may.0 in (
      (record { prefixes = first.0.1; ports = first.1.0.1; protocols = first.1.1.1 }, rest.0),
      (and_from _ _ (and_from _ _ (is_most _ _ first.1.0.0) (is_most _ _ first.1.1.0)) rest.1.0, omega (arith, first.0.0, rest.1.1)),
    )

targets_from : (room : ℕ) (targets : List Target) → AllByRecursion IsTarget targets → list_all target_within targets ≡ true → prefix_count targets ≤ room → MayAimAll (length targets) room targets
targets_from room [] are within few = tt
targets_from room (target ∷ targets) are within few =
    let parts = and_parts (target_within target) (list_all target_within targets) within in
    let sizes = and_parts (nat_le (length target.ports) 32) (nat_le (length target.protocols) 32) parts.0 in (
      ((omega (arith, few), are.0.prefixes), ((at_most _ _ sizes.0, are.0.ports), (at_most _ _ sizes.1, are.0.protocols))),
      targets_from (room - length target.prefixes) targets are.1 parts.1 (omega (arith, few)),
    )

signed_fits : (z : ℤ) → IsSigned z → FitsSigned w32 z
signed_fits z is = subst (FitsSigned w32) is.2 (to_z-Fits w32 is.0 (record { fits = is.1 }))

fits_signed : (z : ℤ) → FitsSigned w32 z → IsSigned z
fits_signed z fits = (cast_unsigned w32 z, (of_z_fits w32 z fits).fits, to_z-of_z w32 z fits)

put_to : (put : Put) → MayPut put → IsPut put × (put_within put ≡ true)
put_to put may =
    let asked = asked_to put.asked may.1.0 in
    let targets = targets_to (length put.targets) 128 put.targets may.1.1.0.1 in (
      record { mid = may.0; asked = asked.0; targets = targets.0; granted = signed_fits put.granted may.1.1.1.0; start = may.1.1.1.1 },
      and_from _ _ (and_from _ _ (and_from _ _ asked.1 (is_most _ _ may.1.1.0.0)) targets.1.0) (is_most _ _ targets.1.1),
    )

put_from : (put : Put) → IsPut put → put_within put ≡ true → MayPut put
put_from put is within =
    let few = and_parts (asked_within put.asked && nat_le (length put.targets) 9 && list_all target_within put.targets) (nat_le (prefix_count put.targets) 128) within in
    let all = and_parts (asked_within put.asked && nat_le (length put.targets) 9) (list_all target_within put.targets) few.0 in
    let first = and_parts (asked_within put.asked) (nat_le (length put.targets) 9) all.0 in
    (is.mid, (asked_from put.asked is.asked first.0, ((at_most _ _ first.1, targets_from 128 put.targets is.targets all.1 (at_most _ _ few.1)), (fits_signed put.granted is.granted, is.start))))

-- ---- session configurations

values_to : (values : Values) → AreValues values → values_within values ≡ true
values_to values are =
    and_from _ _ (of_five _ _ _ _ _ (is_below _ _ are.0) (is_below _ _ are.1.0) (is_below _ _ are.1.1.0) (is_below _ _ are.1.1.1.0) (is_below _ _ are.1.1.1.1.0)) (is_below _ _ are.1.1.1.1.1)

values_from : (values : Values) → values_within values ≡ true → AreValues values
values_from values within =
    let last = and_parts (nat_lt values.interval (2 ^ 32) && nat_lt values.missing (2 ^ 32) && nat_lt values.retransmit (2 ^ 32) && nat_lt values.timeout (2 ^ 32) && nat_lt values.factor (2 ^ 32)) (nat_lt values.rate (2 ^ 32)) within in
    let parts = five_of (nat_lt values.interval (2 ^ 32)) (nat_lt values.missing (2 ^ 32)) (nat_lt values.retransmit (2 ^ 32)) (nat_lt values.timeout (2 ^ 32)) (nat_lt values.factor (2 ^ 32)) last.0 in
    (below _ _ parts.0, (below _ _ parts.1.0, (below _ _ parts.1.1.0, (below _ _ parts.1.1.1.0, (below _ _ parts.1.1.1.1, below _ _ last.1)))))

-- ---- entries

change_to : (c : Change) → MayChange c → IsChange c × (change_within c ≡ true)
change_to (change.Put put) may = put_to put may
change_to (change.Withdraw mid) may = (may, refl)
change_to (change.SetAlias alias) may = alias_to alias may
change_to (change.DropAlias name) may = (may, refl)
change_to (change.SetAcl acl) may = acl_to acl may
change_to (change.DropAcl name) may = (may, refl)
change_to change.Register may = (tt, refl)
change_to change.Deregister may = (tt, refl)
change_to (change.SetConfig sid config) may = (may.0, and_from _ _ (values_to config.mitigating may.1.0) (values_to config.idle may.1.1))
change_to change.ClearConfig may = (tt, refl)
change_to change.Lost may = (tt, refl)
change_to change.Back may = (tt, refl)

change_from : (c : Change) → IsChange c → change_within c ≡ true → MayChange c
change_from (change.Put put) is within = put_from put is within
change_from (change.Withdraw mid) is within = is
change_from (change.SetAlias alias) is within = alias_from alias is within
change_from (change.DropAlias name) is within = is
change_from (change.SetAcl acl) is within = acl_from acl is within
change_from (change.DropAcl name) is within = is
change_from change.Register is within = tt
change_from change.Deregister is within = tt
change_from (change.SetConfig sid config) is within =
    let parts = and_parts (values_within config.mitigating) (values_within config.idle) within in
    (is, (values_from config.mitigating parts.0, values_from config.idle parts.1))
change_from change.ClearConfig is within = tt
change_from change.Lost is within = tt
change_from change.Back is within = tt

some_left : (n : ℕ) (v : Bool) → ((suc n == 0) || v) ≡ v
some_left n v = let no : (suc n == 0) ≡ false = grind (arith, nat_tests) in ap (λ (b : Bool). b || v) no

cuid_to : (cuid : List ℕ) → AreVisible 0 64 cuid → ((length cuid == 0) || is_name cuid) ≡ true
cuid_to [] are = refl
cuid_to (b ∷ cuid) are = some_left (length cuid) (is_name (b ∷ cuid)) ∙ visible_name (b ∷ cuid) (record { low = omega arith; high = are.high; visible = are.visible })

pub cuid_from : (cuid : List ℕ) → ((length cuid == 0) || is_name cuid) ≡ true → AreVisible 0 64 cuid
cuid_from [] is = record { low = omega arith; high = omega arith; visible = tt }
cuid_from (b ∷ cuid) is = let name = name_visible (b ∷ cuid) (sym (some_left (length cuid) (is_name (b ∷ cuid))) ∙ is) in record { low = omega arith; high = name.high; visible = name.visible }

pub entry_to : (e : Entry) → MayBe e → IsEntry e × IsTrue (within_bounds e)
entry_to e may =
    let changed = change_to e.change may.1.1.1.1.1.1 in (
      record { peer = may.1.0; domain = may.1.1.0; key = may.1.1.1.1.0; reply = may.1.1.1.1.1.0.1; change = changed.0 },
      and_from _ _ (and_from _ _ (and_from _ _ (is_below _ _ may.0) (cuid_to e.cuid may.1.1.1.0)) (is_most _ _ may.1.1.1.1.1.0.0)) changed.1,
    )

pub entry_from : (e : Entry) → IsEntry e → IsTrue (within_bounds e) → MayBe e
entry_from e is within =
    let last = and_parts (nat_lt e.time (2 ^ 48) && ((length e.cuid == 0) || is_name e.cuid) && nat_le (length e.reply) 64) (change_within e.change) within in
    let replied = and_parts (nat_lt e.time (2 ^ 48) && ((length e.cuid == 0) || is_name e.cuid)) (nat_le (length e.reply) 64) last.0 in
    let first = and_parts (nat_lt e.time (2 ^ 48)) ((length e.cuid == 0) || is_name e.cuid) replied.0 in
    (below _ _ first.0, (is.peer, (is.domain, (cuid_from e.cuid first.1, (is.key, ((at_most _ _ replied.1, is.reply), change_from e.change is.change last.1))))))
