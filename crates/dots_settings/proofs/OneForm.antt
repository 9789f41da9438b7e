-- A line has one form at most, and what it says is within its range.
use Rattle.std.proofs.Common.{◌≡◌, ℕ, ◌≤◌, Bool, true, false, List, [], ◌∷◌, Option, Some, None, Result, Ok, Err, IfOk, refl, sym, subst, ◌∙◌, if◌then◌else◌}
use Rattle.std.specs.Prelude.{⊤, ◌&&◌, nat_le, bytes_eq, decimal}
use Rattle.std.specs.Str.Parse.{digits_value}
use Rattle.std.proofs.lemmas.Bool.{and_parts, leb-true}
use Rattle.std.proofs.NetLemmas.Options.{cond_some}
use Rattle.dots_lists.specs.Numbers.{number_in, is_number_in}
use Rattle.dots_lists.specs.Name.{is_name}
use Rattle.ip_scope.specs.PrefixReader.{prefix_in}
use Rattle.acl_lists.specs.declared.packet.Packet.{Packet}
use Rattle.dots_settings.specs.declared.capacity.Capacity.{Capacity}
use Rattle.dots_settings.specs.declared.complaint.Complaint.{Complaint}
use Rattle.dots_settings.specs.declared.mistake.Mistake.{Mistake}
use Rattle.dots_settings.specs.declared.mistake.Mistake.TheVariants as mistake
use Rattle.dots_settings.specs.Admitting.{IsNamed}
use Rattle.dots_settings.specs.Capacity.{capacity_named, greatest_of}
use Rattle.dots_settings.specs.Form.{FormValue, Says, is_domain_name, is_number, granted_in, prefix_mistake, unless, given, mapped, domain_form, prefix_form, client_form, gateway_form, upstream_form, name_form, ceiling_form, indefinite_form, capacity_of, capacity_form, packet_of, packet_form, form_by_word, form_of, domain_line, prefix_line, client_line, gateway_line, upstream_line, name_line, ceiling_line, indefinite_line, capacity_line, packet_line}
use Rattle.dots_settings.specs.Lines.{fields_of}
use Rattle.dots_settings.specs.Settings.{IsInRange}

pub says_once : (line : List ℕ) (one other : FormValue) → Says line one → Says line other → one ≡ other
says_once line one other x y = once one other (sym x ∙ y)
  where
    result : FormValue → Result FormValue Complaint
    result form = Ok form

    once : (a b : FormValue) → result a ≡ result b → a ≡ b
    once a b same = cc

-- ---- the ranges

-- a host name is one, and the ceiling and a capacity are in their ranges
abbrev pub IsWithin : FormValue → Type 0
IsWithin (name_line fqdn value) = is_name fqdn ≡ true
IsWithin (ceiling_line seconds) = (1 ≤ seconds) × (seconds ≤ 604800)
IsWithin (capacity_line what (Some limit)) = IsInRange what limit
IsWithin _ = ⊤

number_within : (least most : ℕ) (text : List ℕ) (n : ℕ) → number_in least most text ≡ Some n → (least ≤ n) × (n ≤ most)
number_within least most text n is =
    let value = digits_value 10 text in
    let holds = cond_some (is_number_in least most text) value n is in
    let upper = and_parts (bytes_eq (decimal value) text && nat_le least value) (nat_le value most) holds.0 in
    let lower = and_parts (bytes_eq (decimal value) text) (nat_le least value) upper.0 in
    (subst (λ (k : ℕ). least ≤ k) holds.1 (leb-true least value lower.1), subst (λ (k : ℕ). k ≤ most) holds.1 (leb-true value most upper.1))

if_within : (b : Bool) (one other : Result FormValue Complaint) → IfOk one IsWithin → IfOk other IsWithin → IfOk (if b then one else other) IsWithin
if_within true one other x y = x
if_within false one other x y = y

unless_within : (b : Bool) (mistake : Mistake) (field : ℕ) (later : Result FormValue Complaint) → (b ≡ true → IfOk later IsWithin) → IfOk (unless b mistake field later) IsWithin
unless_within true mistake field later x = x refl
unless_within false mistake field later x = tt

given_within : {A : Type 0} (o : Option A) (mistake : Mistake) (field : ℕ) (later : A → Result FormValue Complaint) → ((value : A) → o ≡ Some value → IfOk (later value) IsWithin)
    → IfOk (given o mistake field later) IsWithin
given_within None mistake field later x = tt
given_within (Some value) mistake field later x = x value refl

domain_within : (fields : List (List ℕ)) → IfOk (domain_form fields) IsWithin
domain_within [] = tt
domain_within (name ∷ []) = unless_within (is_domain_name name) mistake.DomainName 1 (Ok (domain_line name)) (λ is. tt)
domain_within (a ∷ b ∷ rest) = tt

prefix_within : (fields : List (List ℕ)) → IfOk (prefix_form fields) IsWithin
prefix_within [] = tt
prefix_within (a ∷ []) = tt
prefix_within (name ∷ text ∷ []) = unless_within (is_domain_name name) mistake.DomainName 1 (given (prefix_in text) (prefix_mistake text) 2 (λ value. Ok (prefix_line name value)))
    (λ is. given_within (prefix_in text) (prefix_mistake text) 2 (λ value. Ok (prefix_line name value)) (λ value is. tt))
prefix_within (a ∷ b ∷ c ∷ rest) = tt

client_within : (fields : List (List ℕ)) → IfOk (client_form fields) IsWithin
client_within [] = tt
client_within (a ∷ []) = tt
client_within (peer ∷ name ∷ []) = given_within (number_in 0 4294967295 peer) mistake.Peer 1 (λ number. unless (is_domain_name name) mistake.DomainName 2 (Ok (client_line number name)))
    (λ number is. unless_within (is_domain_name name) mistake.DomainName 2 (Ok (client_line number name)) (λ is. tt))
client_within (a ∷ b ∷ c ∷ rest) = tt

gateway_within : (fields : List (List ℕ)) → IfOk (gateway_form fields) IsWithin
gateway_within [] = tt
gateway_within (peer ∷ []) = given_within (number_in 0 4294967295 peer) mistake.Peer 1 (λ number. Ok (gateway_line number)) (λ number is. tt)
gateway_within (a ∷ b ∷ rest) = tt

upstream_within : (fields : List (List ℕ)) → IfOk (upstream_form fields) IsWithin
upstream_within [] = tt
upstream_within (peer ∷ []) = given_within (number_in 0 4294967295 peer) mistake.Peer 1 (λ number. Ok (upstream_line number)) (λ number is. tt)
upstream_within (a ∷ b ∷ rest) = tt

name_within : (fields : List (List ℕ)) → IfOk (name_form fields) IsWithin
name_within [] = tt
name_within (a ∷ []) = tt
name_within (fqdn ∷ text ∷ []) = unless_within (is_name fqdn) mistake.HostName 1 (given (prefix_in text) (prefix_mistake text) 2 (λ value. Ok (name_line fqdn value)))
    (λ named. given_within (prefix_in text) (prefix_mistake text) 2 (λ value. Ok (name_line fqdn value)) (λ value is. named))
name_within (a ∷ b ∷ c ∷ rest) = tt

ceiling_within : (fields : List (List ℕ)) → IfOk (ceiling_form fields) IsWithin
ceiling_within [] = tt
ceiling_within (text ∷ []) = given_within (number_in 1 604800 text) mistake.Ceiling 1 (λ seconds. Ok (ceiling_line seconds)) (λ seconds is. number_within 1 604800 text seconds is)
ceiling_within (a ∷ b ∷ rest) = tt

indefinite_within : (fields : List (List ℕ)) → IfOk (indefinite_form fields) IsWithin
indefinite_within [] = tt
indefinite_within (text ∷ []) = given_within (granted_in text) mistake.YesOrNo 1 (λ granted. Ok (indefinite_line granted)) (λ granted is. tt)
indefinite_within (a ∷ b ∷ rest) = tt

limit_within : (what : Capacity) (text : List ℕ) (o : Option ℕ) → number_in 1 (greatest_of what) text ≡ o → IsWithin (capacity_line what o)
limit_within what text None is = tt
limit_within what text (Some n) is = number_within 1 (greatest_of what) text n is

named_within : (name text : List ℕ) → IfOk (capacity_of name text) IsWithin
unfolding capacity_of
named_within name text =
    given_within (capacity_named name) mistake.CapacityName 1 (λ what. unless (is_number text) mistake.Limit 2 (Ok (said what)))
    (λ what is. unless_within (is_number text) mistake.Limit 2 (Ok (said what)) (λ number. limit_within what text (number_in 1 (greatest_of what) text) refl))
  where
    said : Capacity → FormValue
    said what = capacity_line what (number_in 1 (greatest_of what) text)

capacity_within : (fields : List (List ℕ)) → IfOk (capacity_form fields) IsWithin
capacity_within [] = tt
capacity_within (a ∷ []) = tt
capacity_within (name ∷ text ∷ []) = named_within name text
capacity_within (a ∷ b ∷ c ∷ rest) = tt

packet_mapped : (r : Result Packet Complaint) → IfOk (mapped packet_line r) IsWithin
packet_mapped (Ok packet) = tt
packet_mapped (Err complaint) = tt

packet_within : (fields : List (List ℕ)) → IfOk (packet_form fields) IsWithin
packet_within [] = tt
packet_within (a ∷ []) = tt
packet_within (a ∷ b ∷ []) = tt
packet_within (a ∷ b ∷ c ∷ []) = tt
packet_within (a ∷ b ∷ c ∷ d ∷ []) = tt
packet_within (a ∷ b ∷ c ∷ d ∷ e ∷ []) = packet_mapped (packet_of a b c d e)
packet_within (a ∷ b ∷ c ∷ d ∷ e ∷ f ∷ rest) = tt

by_word : (word : List ℕ) (fields : List (List ℕ)) → IfOk (form_by_word word fields) IsWithin
unfolding form_by_word
by_word word fields =
    search (if_within, domain_within, prefix_within, client_within, gateway_within, upstream_within, name_within, ceiling_within, indefinite_within, capacity_within, packet_within) depth 13

all_within : (fields : List (List ℕ)) → IfOk (form_of fields) IsWithin
all_within [] = tt
all_within (word ∷ fields) = by_word word fields

pub says_within : (line : List ℕ) (form : FormValue) → Says line form → IsWithin form
says_within line form says = subst (λ (r : Result FormValue Complaint). IfOk r IsWithin) says (all_within (fields_of line))

pub says_named : (line : List ℕ) (form : FormValue) → Says line form → IsNamed form
says_named line form says = by form (says_within line form says)
  where
    by : (form : FormValue) → IsWithin form → IsNamed form
    by (name_line fqdn value) within = within
    by _ within = tt
