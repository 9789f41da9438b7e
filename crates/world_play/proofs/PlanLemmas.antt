-- A plan that was looked at can be.
use Rattle.std.proofs.Common.{◌≡◌, ◌≢◌, inl, inr, ℕ, zero, suc, ◌==◌, Bool, true, false, List, [], ◌∷◌, ◌++◌, slice_get, Option, Some, None, refl, sym, ap, ◌∙◌, subst}
use Rattle.std.specs.Prelude.{IsTrue, if◌then◌else◌, is_some}
use Rattle.std.specs.List.{list_all, find}
use Rattle.std.specs.Option.{option_map}
use Rattle.std.proofs.lemmas.Bool.{and_parts}
use Rattle.std.proofs.lemmas.Option.{same_Some, none-some}
use Rattle.dots_keys.specs.Operations.{is_client_name}
use Rattle.dots_gateway.specs.Routes.{routes_of, domain_for}
use Rattle.dots_gateway.specs.declared.routes.Route.{Route}
use Rattle.dots_settings.proofs.Sound.{given_settings}
use Rattle.dots_settings.specs.File.{SettingsAre}
use Rattle.dots_settings.specs.Lookups.{role_of}
use Rattle.dots_settings.specs.Settings.{is_gateway_role}
use Rattle.dots_settings.specs.declared.peer.Role.{Role}
use Rattle.dots_settings.specs.declared.peer.Role.TheVariants as role
use Rattle.dots_world.specs.Plans.{Plan, IsPlan, IsPlanClient, upstream_of}
use Rattle.dots_world.specs.declared.plan.PlanClient.{PlanClient}
use Rattle.world_play.specs.Plans.{server_text, gateway_text, clients, is_client_role, has_domain, can_be, IsGenerated}

-- what is found among routes whose names have no slash has none
found_name : (routes : List Route) (peer : ℕ) (name : List ℕ) → list_all (λ (route : Route). is_client_name route.domain) routes ≡ true
    → option_map (λ (route : Route). route.domain) (find (λ (route : Route). route.peer == peer) routes) ≡ Some name → IsTrue (is_client_name name)
found_name [] peer name all is = absurd (none-some name is)
found_name (route ∷ routes) peer name all is =
    by (found_name routes peer name (and_parts (is_client_name route.domain) (list_all (λ (r : Route). is_client_name r.domain) routes) all).1) (route.peer == peer) is
  where
    by : (option_map (λ (r : Route). r.domain) (find (λ (r : Route). r.peer == peer) routes) ≡ Some name → IsTrue (is_client_name name))
        → (here : Bool) → option_map (λ (r : Route). r.domain) (if here then Some route else find (λ (r : Route). r.peer == peer) routes) ≡ Some name → IsTrue (is_client_name name)
    by later true at = subst (λ (n : List ℕ). is_client_name n ≡ true) (same_Some route.domain name at) (and_parts (is_client_name route.domain) (list_all (λ (r : Route). is_client_name r.domain) routes) all).0
    by later false at = later at

named : (plan : Plan) → list_all (λ (route : Route). is_client_name route.domain) (routes_of plan.gateway_settings) ≡ true → (peer : ℕ) (name : List ℕ)
    → domain_for (routes_of plan.gateway_settings) (upstream_of plan) peer ≡ Some name → IsTrue (is_client_name name)
named plan names peer name is = by (peer == upstream_of plan) is
  where
    by : (up : Bool) → (if up then None else option_map (λ (r : Route). r.domain) (find (λ (r : Route). r.peer == peer) (routes_of plan.gateway_settings))) ≡ Some name → IsTrue (is_client_name name)
    by true at = absurd (none-some name at)
    by false at = found_name (routes_of plan.gateway_settings) peer name names at

-- a client that has a domain
a_client : (found : Role) → is_client_role found ≡ true → (domain : ℕ) × (found ≡ role.Client domain)
a_client (role.Client domain) is = (domain, refl)
a_client role.Gateway is = absurd (cc is)
a_client role.Stranger is = absurd (cc is)

a_domain : (found : Option (List ℕ)) → is_some found ≡ true → (name : List ℕ) × (found ≡ Some name)
a_domain (Some name) is = (name, refl)
a_domain None is = absurd (cc is)

a_gateway : (found : Role) → is_gateway_role found ≡ true → found ≡ role.Gateway
a_gateway role.Gateway is = refl
a_gateway (role.Client domain) is = absurd (cc is)
a_gateway role.Stranger is = absurd (cc is)

-- each of the three clients has a name
three : (plan : Plan) (i : ℕ) (c : PlanClient) → list_all (has_domain plan) clients ≡ true → slice_get clients i ≡ Some c → IsPlanClient plan c
three plan zero c all is =
    subst (IsPlanClient plan) (same_Some _ c is) (record { named = refl; direct = λ none. a_client (role_of plan.settings 0) (first all); behind = λ no. absurd (cc no) })
  where
    first : list_all (has_domain plan) clients ≡ true → is_client_role (role_of plan.settings 0) ≡ true
    first all = (and_parts (is_client_role (role_of plan.settings 0)) _ all).0
three plan (suc zero) c all is =
    subst (IsPlanClient plan) (same_Some _ c is) (record { named = refl; direct = λ none. a_client (role_of plan.settings 2) (second all); behind = λ no. absurd (cc no) })
  where
    second : list_all (has_domain plan) clients ≡ true → is_client_role (role_of plan.settings 2) ≡ true
    second all = (and_parts (is_client_role (role_of plan.settings 2)) _ (and_parts (is_client_role (role_of plan.settings 0)) _ all).1).0
three plan (suc (suc zero)) c all is =
    subst (IsPlanClient plan) (same_Some _ c is) (record { named = refl; direct = λ no. absurd (cc no); behind = λ none. a_domain (domain_for (routes_of plan.gateway_settings) (upstream_of plan) 1) (third all) })
  where
    third : list_all (has_domain plan) clients ≡ true → is_some (domain_for (routes_of plan.gateway_settings) (upstream_of plan) 1) ≡ true
    third all =
        (and_parts (is_some (domain_for (routes_of plan.gateway_settings) (upstream_of plan) 1)) _
        (and_parts (is_client_role (role_of plan.settings 2)) _ (and_parts (is_client_role (role_of plan.settings 0)) _ all).1).1).0
three plan (suc (suc (suc i))) c all is = absurd (none-some c is)

-- and no two of them have one peer number with whom they ask
apart : (i j : ℕ) (one other : PlanClient) → slice_get clients i ≡ Some one → slice_get clients j ≡ Some other → one.behind ≡ other.behind → one.peer ≡ other.peer → i ≡ j
apart zero zero one other is also behind peer = refl
apart (suc zero) (suc zero) one other is also behind peer = refl
apart (suc (suc zero)) (suc (suc zero)) one other is also behind peer = refl
apart zero (suc zero) one other is also behind peer = let no = ap (λ c. c.peer) (same_Some _ one is) ∙ peer ∙ sym (ap (λ c. c.peer) (same_Some _ other also)) in absurd (cc no)
apart (suc zero) zero one other is also behind peer = let no = ap (λ c. c.peer) (same_Some _ one is) ∙ peer ∙ sym (ap (λ c. c.peer) (same_Some _ other also)) in absurd (cc no)
apart zero (suc (suc zero)) one other is also behind peer = let no = ap (λ c. c.peer) (same_Some _ one is) ∙ peer ∙ sym (ap (λ c. c.peer) (same_Some _ other also)) in absurd (cc no)
apart (suc (suc zero)) zero one other is also behind peer = let no = ap (λ c. c.peer) (same_Some _ one is) ∙ peer ∙ sym (ap (λ c. c.peer) (same_Some _ other also)) in absurd (cc no)
apart (suc zero) (suc (suc zero)) one other is also behind peer = let no = ap (λ c. c.peer) (same_Some _ one is) ∙ peer ∙ sym (ap (λ c. c.peer) (same_Some _ other also)) in absurd (cc no)
apart (suc (suc zero)) (suc zero) one other is also behind peer = let no = ap (λ c. c.peer) (same_Some _ one is) ∙ peer ∙ sym (ap (λ c. c.peer) (same_Some _ other also)) in absurd (cc no)
apart (suc (suc (suc i))) j one other is also behind peer = absurd (none-some one is)
apart i (suc (suc (suc j))) one other is also behind peer = absurd (none-some other also)

pub generated : (plan : Plan) → can_be plan ≡ true → SettingsAre server_text plan.settings → SettingsAre gateway_text plan.gateway_settings → plan.gateway ≡ 3 → plan.clients ≡ clients → IsGenerated plan
generated plan can settings gateway_settings gateway are =
    let both = and_parts (is_gateway_role (role_of plan.settings plan.gateway)) _ can in
    let rest = and_parts (list_all (λ (route : Route). is_client_name route.domain) (routes_of plan.gateway_settings)) _ both.1 in
    record {
      is_plan = record {
        settings = given_settings server_text plan.settings settings;
        gateway = a_gateway (role_of plan.settings plan.gateway) both.0;
        names = named plan rest.0;
        clients = λ i c is. three plan i c (subst (λ (cs : List PlanClient). list_all (has_domain plan) cs ≡ true) are rest.1) (subst (λ (cs : List PlanClient). slice_get cs i ≡ Some c) are is);
        apart = λ i j one other is also. apart i j one other (subst (λ (cs : List PlanClient). slice_get cs i ≡ Some one) are is) (subst (λ (cs : List PlanClient). slice_get cs j ≡ Some other) are also);
      };
      settings = settings;
      gateway_settings = gateway_settings;
      gateway = gateway;
      clients = are;
    }
