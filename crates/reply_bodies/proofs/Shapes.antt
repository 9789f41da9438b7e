-- The trees of replies are valid, by their parts.
use Rattle.std.proofs.Common.{◌≡◌, ℕ, ◌^◌, ◌<◌, ◌≤◌, List, [], ◌∷◌, length, map, subst, arith, ℤ}
use Rattle.std.specs.Prelude.{FitsSigned, Bool, true, false, IfSome}
use Rattle.std.specs.Int.{w32}
use Rattle.acl_lists.specs.declared.asked.Asked.{Asked}
use Rattle.cbor_profile.specs.Tree.{Tree, unsigned, negative, text, array, boolean}
use Rattle.cbor_profile.specs.Valid.{IsValid}
use Rattle.cbor_profile.specs.Within.{IsWithin}
use Rattle.ip_scope.specs.Ports.{Ports}
use Rattle.ip_scope.specs.Prefix.{PrefixValue}
use Rattle.reply_bodies.specs.declared.scope.MitigationView.{MitigationView}
use Rattle.reply_bodies.specs.declared.conflict.Conflict.{Conflict}
use Rattle.reply_bodies.specs.declared.session.Current.{Current}
use Rattle.reply_bodies.specs.declared.session.SessionView.{SessionView}
use Rattle.reply_bodies.specs.Maps.{listed}
use Rattle.reply_bodies.specs.Mitigations.{prefix_tree, range_tree, asked_fields, config_fields, config_part, state_fields, state_part, trigger_fields, trigger_part, scope_of, granted_scope, mitigations_with}
use Rattle.reply_bodies.specs.Conflicts.{status_and_cause, higher, other, collision, information, conflict_scope}
use Rattle.reply_bodies.specs.Requests.{request_scope}
use Rattle.reply_bodies.specs.Sessions.{decimal, number_field, decimal_field, values, configuration, session_tree, beat_tree}
use Rattle.reply_bodies.specs.Within.{AllWithin, AreFieldsWithin}
use Rattle.reply_bodies.proofs.Parts.{raised, valid, number_within, integer_within, array_within, fields_then, no_fields, field_within, listed_within, numbered_within, map_within, sole_within}

-- ---- mitigations

pub range_within : (range : Ports) → range.lower < 2 ^ 64 → range.upper < 2 ^ 64 → IsWithin 1 (range_tree range)
range_within range lower upper =
    map_within 0 8 10 _ (omega arith)
    (fields_then 0 8 9 10 _ _ (field_within 0 8 8 9 _ (omega arith) (omega arith) (number_within 0 _ lower)) (field_within 0 9 9 10 _ (omega arith) (omega arith) (number_within 0 _ upper)))

-- an array that may be empty
pub record IsArray (ts : List Tree) : Type 0 where
  pub all : AllWithin 1 ts
  pub few : length ts < 2 ^ 64

-- the items of a list, of which an array was made
pub an_array : {A : Type 0} (tree : A → Tree) (xs ys : List A) (ts : List Tree) → ys ≡ xs → ts ≡ map tree ys → AllWithin 1 (map tree ys) → length ts < 2 ^ 64 → IsArray (map tree xs)
an_array {A = A} tree xs ys ts same is all few =
    subst (λ (zs : List A). IsArray (map tree zs)) same (record { all = all; few = subst (λ (us : List Tree). length us < 2 ^ 64) is few })

a_list : (low key high : ℕ) (ts : List Tree) → low ≤ key → key < high → IsArray ts → AreFieldsWithin 2 low high (listed key ts)
a_list low key high ts le below is = listed_within 1 low key high ts le below is.few is.all

pub asked_within : (asked : Asked) → IsArray (map prefix_tree asked.prefixes) → IsArray (map range_tree asked.ports) → IsArray (map unsigned asked.protocols) → IsArray (map text asked.names) → IsArray (map text asked.aliases)
    → AreFieldsWithin 2 6 14 (asked_fields asked)
asked_within asked prefixes ports protocols names aliases =
    let p = a_list 6 6 7 (map prefix_tree asked.prefixes) (omega arith) (omega arith) prefixes in
    let r = a_list 7 7 8 (map range_tree asked.ports) (omega arith) (omega arith) ports in
    let n = a_list 8 10 11 (map unsigned asked.protocols) (omega arith) (omega arith) protocols in
    let f = a_list 11 11 12 (map text asked.names) (omega arith) (omega arith) names in
    let g = a_list 12 13 14 (map text asked.aliases) (omega arith) (omega arith) aliases in
    fields_then 2 6 12 14 _ _ (fields_then 2 6 11 12 _ _ (fields_then 2 6 8 11 _ _ (fields_then 2 6 7 8 _ _ p r) n) f) g

pub config_within : (view : MitigationView) → AreFieldsWithin 2 6 14 (asked_fields view.asked.now) → FitsSigned w32 view.left → AreFieldsWithin 2 6 15 (config_fields view)
config_within view asked fits = fields_then 2 6 14 15 _ _ asked (field_within 2 14 14 15 _ (omega arith) (omega arith) (integer_within 2 view.left fits))

-- a scope that is asked for
pub request_within : (asked : Asked) (lifetime : ℤ) → AreFieldsWithin 2 6 14 (asked_fields asked) → FitsSigned w32 lifetime → IsWithin 5 (request_scope asked lifetime)
request_within asked lifetime fields fits =
    raised 3 5 _
    (map_within 2 6 15 _ (omega arith) (fields_then 2 6 14 15 _ _ fields (field_within 2 14 14 15 _ (omega arith) (omega arith) (integer_within 2 lifetime fits))))
    (omega arith)

pub state_within : (view : MitigationView) → view.start < 2 ^ 64 → view.status < 2 ^ 64 → AreFieldsWithin 2 15 17 (state_fields view)
state_within view start status =
    fields_then 2 15 16 17 _ _
    (field_within 2 15 15 16 _ (omega arith) (omega arith) (number_within 2 _ start))
    (field_within 2 16 16 17 _ (omega arith) (omega arith) (number_within 2 _ status))

pub trigger_within : (trigger : Bool) → AreFieldsWithin 2 17 46 (trigger_fields trigger)
trigger_within true = no_fields 2 17 46 (omega arith)
trigger_within false = field_within 2 17 45 46 _ (omega arith) (omega arith) (record { sound = tt; nests = omega arith })

pub scope_within : (view : MitigationView) → view.mid < 2 ^ 64 → AreFieldsWithin 2 6 15 (config_part view.content view) → AreFieldsWithin 2 15 17 (state_part view.content view)
    → AreFieldsWithin 2 17 46 (trigger_part view.content view) → IsWithin 5 (scope_of view)
scope_within view mid config state trigger =
    let first = field_within 2 5 5 6 (unsigned view.mid) (omega arith) (omega arith) (number_within 2 view.mid mid) in
    raised 3 5 _
    (map_within 2 5 46 _ (omega arith) (fields_then 2 5 17 46 _ _ (fields_then 2 5 15 17 _ _ (fields_then 2 5 6 15 _ _ first config) state) trigger)) (omega arith)

pub granted_within : (mid : ℕ) (lifetime : ℤ) → mid < 2 ^ 64 → FitsSigned w32 lifetime → IsWithin 5 (granted_scope mid lifetime)
granted_within mid lifetime small fits =
    raised 1 5 _
    (
    map_within 0 5 15 _ (omega arith)
    (fields_then 0 5 6 15 _ _ (field_within 0 5 5 6 _ (omega arith) (omega arith) (number_within 0 mid small)) (field_within 0 6 14 15 _ (omega arith) (omega arith) (integer_within 0 lifetime fits)))
    )
    (omega arith)

pub mitigations_valid : (scopes : List Tree) → AllWithin 5 scopes → length scopes < 2 ^ 64 → IsValid (mitigations_with scopes)
mitigations_valid scopes all few =
    valid 8 _ (sole_within 7 1 _ (omega arith) (sole_within 6 2 _ (omega arith) (array_within 5 scopes all few))) (omega arith)

-- ---- conflicts

status_within : (levels cause : ℕ) → cause < 2 ^ 64 → AreFieldsWithin levels 18 20 (status_and_cause cause)
status_within levels cause small =
    fields_then levels 18 19 20 _ _
    (field_within levels 18 18 19 _ (omega arith) (omega arith) (number_within levels 1 (omega arith)))
    (field_within levels 19 19 20 _ (omega arith) (omega arith) (number_within levels cause small))

pub higher_within : (mid : ℕ) → mid < 2 ^ 64 → IsWithin 4 (higher mid)
higher_within mid small =
    let own = sole_within 0 5 (unsigned mid) (omega arith) (number_within 0 mid small) in
    raised 2 4 _ (map_within 1 18 22 _ (omega arith) (fields_then 1 18 20 22 _ _ (status_within 1 1 (omega arith)) (field_within 1 20 21 22 _ (omega arith) (omega arith) own))) (omega arith)

pub other_within : (prefixes : List PrefixValue) → IsArray (map prefix_tree prefixes) → IsWithin 4 (other prefixes)
other_within prefixes is =
    let met = sole_within 2 6 _ (omega arith) (array_within 1 (map prefix_tree prefixes) is.all is.few) in
    let timer = field_within 3 20 20 21 (unsigned 120) (omega arith) (omega arith) (number_within 3 120 (omega arith)) in
    map_within 3 18 22 _ (omega arith)
    (fields_then 3 18 21 22 _ _ (fields_then 3 18 20 21 _ _ (status_within 3 1 (omega arith)) timer) (field_within 3 21 21 22 _ (omega arith) (omega arith) met))

pub collision_within : IsWithin 4 collision
collision_within = raised 1 4 _ (map_within 0 18 20 _ (omega arith) (status_within 0 3 (omega arith))) (omega arith)

pub conflict_within : (conflict : Conflict) → IfSome conflict.mid (λ n. n < 2 ^ 64) → IsWithin 4 (information conflict.cause) → IsWithin 5 (conflict_scope conflict)
conflict_within conflict small within =
    map_within 4 5 18 _ (omega arith)
    (fields_then 4 5 6 18 _ _ (numbered_within 4 5 5 6 conflict.mid (omega arith) (omega arith) small) (field_within 4 6 17 18 _ (omega arith) (omega arith) within))

-- ---- sessions

number_value : (low key high n : ℕ) → low ≤ key → key < high → n < 2 ^ 64 → AreFieldsWithin 3 low high (number_field key n)
number_value low key high n le below small = field_within 3 low key high _ le below (raised 1 3 _ (sole_within 0 36 _ (omega arith) (number_within 0 n small)) (omega arith))

decimal_within : (n : ℕ) → n < 2 ^ 64 → IsWithin 2 (decimal n)
decimal_within n small =
    let parts = array_within 0 (negative 1 ∷ unsigned n ∷ []) (record { each = (record { sound = omega arith; nests = omega arith }, (number_within 0 n small, tt)) }) (omega arith) in
    let nests = parts.nests in
    record { sound = (omega arith, parts.sound); nests = omega arith }

decimal_value : (low key high n : ℕ) → low ≤ key → key < high → n < 2 ^ 64 → AreFieldsWithin 3 low high (decimal_field key n)
decimal_value low key high n le below small = field_within 3 low key high _ le below (sole_within 2 43 _ (omega arith) (decimal_within n small))

pub record AreSmall (current : Current) : Type 0 where
  pub interval : current.interval < 2 ^ 64
  pub missing : current.missing < 2 ^ 64
  pub retransmit : current.retransmit < 2 ^ 64
  pub timeout : current.timeout < 2 ^ 64
  pub factor : current.factor < 2 ^ 64
  pub rate : current.rate < 2 ^ 64

pub values_within : (current : Current) → AreSmall current → IsWithin 5 (values current)
values_within current small =
    let a = number_value 33 33 34 current.interval (omega arith) (omega arith) small.interval in
    let b = number_value 34 37 38 current.missing (omega arith) (omega arith) small.missing in
    let d = number_value 38 38 39 current.retransmit (omega arith) (omega arith) small.retransmit in
    let e = decimal_value 39 39 40 current.timeout (omega arith) (omega arith) small.timeout in
    let f = decimal_value 40 40 41 current.factor (omega arith) (omega arith) small.factor in
    let g = number_value 41 50 51 current.rate (omega arith) (omega arith) small.rate in
    let all = fields_then 3 33 41 51 _ _ (fields_then 3 33 40 41 _ _ (fields_then 3 33 39 40 _ _ (fields_then 3 33 38 39 _ _ (fields_then 3 33 34 38 _ _ a b) d) e) f) g in
    raised 4 5 _ (map_within 3 33 51 _ (omega arith) all) (omega arith)

pub configuration_within : (view : SessionView) → IfSome view.sid (λ n. n < 2 ^ 64) → IsWithin 5 (values view.mitigating) → IsWithin 5 (values view.idle) → IsWithin 6 (configuration view)
configuration_within view small mitigating idle =
    let sid = numbered_within 5 31 31 32 view.sid (omega arith) (omega arith) small in
    let m = field_within 5 32 32 33 (values view.mitigating) (omega arith) (omega arith) mitigating in
    let i = field_within 5 33 44 45 (values view.idle) (omega arith) (omega arith) idle in
    map_within 5 31 45 _ (omega arith) (fields_then 5 31 33 45 _ _ (fields_then 5 31 32 33 _ _ sid m) i)

pub session_valid : (view : SessionView) → IsWithin 6 (configuration view) → IsValid (session_tree view)
session_valid view within = valid 7 _ (sole_within 6 30 _ (omega arith) within) (omega arith)

pub beat_valid : (heard : Bool) → IsValid (beat_tree heard)
beat_valid heard = valid 2 _ (sole_within 1 49 _ (omega arith) (sole_within 0 51 (boolean heard) (omega arith) (record { sound = tt; nests = omega arith }))) (omega arith)
