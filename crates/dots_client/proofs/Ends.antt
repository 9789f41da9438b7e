-- What the answer to a request does, by the place of the request.
use Rattle.std.proofs.Common.{◌≡◌, ℕ, ℤ, pos, negsuc, arith, ◌<◌, List, [], length, Option, Some, None, Result, Ok, refl, sym, ap, subst, ◌∙◌}
use Rattle.std.specs.Prelude.{slice_get, option_map, position, IsSome, FitsSigned}
use Rattle.std.specs.List.{find, remove}
use Rattle.std.proofs.lemmas.List.Quantifiers.{position-Some}
use mir.Val.{to_z, of_z}
use mir.ValLaws.{to_z-of_z}
use Rattle.std.specs.Int.{w32}
use Rattle.dots_client.specs.Grants.{IsGranted}
use Rattle.acl_lists.specs.declared.asked.Asked.{Asked}
use Rattle.coap_exchange.specs.Firsts.{without_first}
use Rattle.coap_exchange.proofs.Firsts.{remove_at, first_replaced, first_found, none_passes, found_none}
use Rattle.coap_message.specs.Message.{CoapMessage}
use Rattle.dots_client.specs.declared.answers.Answer.TheVariants as answer
use Rattle.dots_client.specs.declared.heard.Heard.{Heard}
use Rattle.dots_client.specs.declared.heard.Heard.TheVariants as heard
use Rattle.dots_client.specs.declared.request.Request.{Request}
use Rattle.dots_client.specs.Answers.{GrantsMid, Says, SaysTo}
use Rattle.dots_client.specs.Client.{ClientValue, WaitingValue}
use Rattle.dots_client.specs.Receiving.{Answers, YieldsOrLacks, waits_by, granted_row}
use Rattle.dots_client.specs.Ledger.{with_row, without_row}
use Rattle.dots_client.specs.Steps.{IsOf, Sets, Removes, Drops}

same_item : {A : Type 0} (x y : A) → Some x ≡ Some y → x ≡ y
same_item x y is = cc

pub place_ends : (token : List ℕ) (ws : List WaitingValue) (place : ℕ) (w : WaitingValue) → position (waits_by token) ws ≡ Some place → slice_get ws place ≡ Some w
    → (remove ws place ≡ without_first (waits_by token) ws) × (find (waits_by token) ws ≡ Some w)
place_ends token ws place w is there =
    let at = position-Some (waits_by token) ws place w is in (
      remove_at (λ x. []) ws place w there refl ∙ first_replaced (waits_by token) (λ x. []) ws place w at.0 at.1 at.2,
      first_found (waits_by token) ws place w at.0 at.1 at.2 ∙ there,
    )

pub no_place : (token : List ℕ) (ws : List WaitingValue) (w : WaitingValue) → position (waits_by token) ws ≡ None → find (waits_by token) ws ≡ Some w → ⊥
no_place token ws w none found =
    let missing = found_none (waits_by token) ws (none_passes (waits_by token) ws none) in
    absurd (cc)

pub none_some : (scope : Option Asked) → scope ≡ None → IsSome scope → ⊥
none_some None none is = absurd (cc)
none_some (Some asked) none is = absurd (cc)

pub place_within : (token : List ℕ) (ws : List WaitingValue) (place : ℕ) (w : WaitingValue) → position (waits_by token) ws ≡ Some place → place < length ws
place_within token ws place w is = (position-Some (waits_by token) ws place w is).0

-- the request that is seen there
pub request_there : (ws : List WaitingValue) (place : ℕ) (w : WaitingValue) (request : Request) → option_map (λ (x : WaitingValue). x.request) (slice_get ws place) ≡ Some request
    → slice_get ws place ≡ Some w → w.request ≡ request
request_there ws place w request seen there = same_item w.request request (sym (ap (option_map (λ (x : WaitingValue). x.request)) there) ∙ seen)

-- what is seen there is a request that waits
seen_there : (ws : List WaitingValue) (place : ℕ) (request : Request) → option_map (λ (x : WaitingValue). x.request) (slice_get ws place) ≡ Some request
    → (w : WaitingValue) × (slice_get ws place ≡ Some w) × (w.request ≡ request)
seen_there ws place request seen = by (slice_get ws place) refl seen
  where
    by : (o : Option WaitingValue) → slice_get ws place ≡ o → option_map (λ (x : WaitingValue). x.request) o ≡ Some request
        → (w : WaitingValue) × (slice_get ws place ≡ Some w) × (w.request ≡ request)
    by (Some w) is seen = (w, is, same_item w.request request seen)
    by None is seen = absurd (cc)

pub answers_there : (client : ClientValue) (m : CoapMessage) (place : ℕ) (w : WaitingValue) → IsOf client m place → slice_get client.waiting place ≡ Some w → Answers client m w.request
answers_there client m place w is there =
    record { kind = is.kind; class = is.class; sent = (w, (place_ends m.token client.waiting place w is.place_is there).1, refl) }

pub same_message : {E : Type 0} (one other : CoapMessage) (a b : Result CoapMessage E) → a ≡ Ok one → b ≡ Ok other → a ≡ b → one ≡ other
same_message one other a b first second is = cc

-- memory runs out
pub lacks : (client : ClientValue) (m : CoapMessage) (place now : ℕ) (request : Request) → IsOf client m place
    → option_map (λ (x : WaitingValue). x.request) (slice_get client.waiting place) ≡ Some request → IsSome request.scope → YieldsOrLacks client m now heard.NoMemory client
lacks client m place now request is seen scope =
    let w = seen_there client.waiting place request seen in
    (request, subst (λ (r : Request). Answers client m r) w.2 (answers_there client m place w.0 is w.1), scope, refl)

-- ---- what it says of the scope

pub grant_scope : (request : Request) (m : CoapMessage) (lifetime : ℤ) → Says request m (answer.Granted lifetime) → IsSome request.scope
grant_scope request m lifetime says = by request.scope says
  where
    by : (scope : Option Asked) → SaysTo scope request.mid m (answer.Granted lifetime) → IsSome scope
    by (Some asked) says = refl
    by None says = absurd says

granted_lifetime : (request : Request) (m : CoapMessage) (lifetime : ℤ) → Says request m (answer.Granted lifetime) → IsGranted lifetime
granted_lifetime request m lifetime says = by request.scope says
  where
    by : (scope : Option Asked) → SaysTo scope request.mid m (answer.Granted lifetime) → IsGranted lifetime
    by (Some asked) says = says.lasts
    by None says = absurd says

granted_fits : (lifetime : ℤ) → IsGranted lifetime → FitsSigned w32 lifetime
granted_fits (pos n) is = omega (arith, is.0, is.1)
granted_fits (negsuc n) is = omega (arith, is)

-- the lifetime that was read is passed on as it is
pub lifetime_passed : (request : Request) (m : CoapMessage) (lifetime : ℤ) → Says request m (answer.Granted lifetime) → to_z w32 (of_z w32 lifetime) ≡ lifetime
lifetime_passed request m lifetime says = to_z-of_z w32 lifetime (granted_fits lifetime (granted_lifetime request m lifetime says))

grant_said : (request : Request) (m : CoapMessage) (lifetime : ℤ) (asked : Asked) → request.scope ≡ Some asked → Says request m (answer.Granted lifetime) → GrantsMid request.mid m lifetime
grant_said request m lifetime asked scope says = subst (λ (s : Option Asked). SaysTo s request.mid m (answer.Granted lifetime)) scope says

withdrawal_said : (request : Request) (m : CoapMessage) → Says request m answer.Withdrawn → (request.scope ≡ None) × SaysTo None request.mid m answer.Withdrawn
withdrawal_said request m says = by request.scope refl says
  where
    by : (scope : Option Asked) → request.scope ≡ scope → SaysTo scope request.mid m answer.Withdrawn → (request.scope ≡ None) × SaysTo None request.mid m answer.Withdrawn
    by (Some asked) is says = absurd says
    by None is says = (is, says)

-- ---- what it does

pub yields_grant : (client : ClientValue) (m : CoapMessage) (place now : ℕ) (lifetime : ℤ) (request : Request) (told : Heard) (new : ClientValue) → IsOf client m place
    → option_map (λ (x : WaitingValue). x.request) (slice_get client.waiting place) ≡ Some request → Says request m (answer.Granted lifetime)
    → Sets client place lifetime now told new → YieldsOrLacks client m now told new
yields_grant client m place now lifetime request (heard.Granted mid) new is seen says sets =
    let w = sets.0 in
    let asked = sets.1 in
    let there = sets.2 in
    let own = request_there client.waiting place w request seen there in
    let said = subst (λ (r : Request). Says r m (answer.Granted lifetime)) (sym own) says in
    let gone = (place_ends m.token client.waiting place w is.place_is there).0 in (
      w.request,
      answers_there client m place w is there,
      (
        sets.3,
        asked,
        lifetime,
        sets.4,
        grant_said w.request m lifetime asked sets.4 said,
        sets.5 ∙ ap (λ (ws : List WaitingValue). (record client { waiting = ws; ledger = with_row (granted_row mid asked lifetime now) client.ledger })) gone,
      ),
    )
yields_grant client m place now lifetime request heard.NoMemory new is seen says sets =
    subst (λ (k : ClientValue). YieldsOrLacks client m now heard.NoMemory k) (sym sets) (lacks client m place now request is seen (grant_scope request m lifetime says))
yields_grant client m place now lifetime request (heard.Withdrawn mid) new is seen says sets = absurd sets
yields_grant client m place now lifetime request (heard.Refused mid code) new is seen says sets = absurd sets
yields_grant client m place now lifetime request (heard.Beat short) new is seen says sets = absurd sets
yields_grant client m place now lifetime request heard.Nothing new is seen says sets = absurd sets

pub yields_withdrawal : (client : ClientValue) (m : CoapMessage) (place now : ℕ) (request : Request) (told : Heard) (new : ClientValue) → IsOf client m place
    → option_map (λ (x : WaitingValue). x.request) (slice_get client.waiting place) ≡ Some request → Says request m answer.Withdrawn
    → Removes client place told new → YieldsOrLacks client m now told new
yields_withdrawal client m place now request (heard.Withdrawn mid) new is seen says removes =
    let w = removes.0 in
    let there = removes.1 in
    let own = request_there client.waiting place w request seen there in
    let said = withdrawal_said w.request m (subst (λ (r : Request). Says r m answer.Withdrawn) (sym own) says) in
    let gone = (place_ends m.token client.waiting place w is.place_is there).0 in (
      w.request,
      answers_there client m place w is there,
      (removes.2, said.0, said.1, removes.3 ∙ ap (λ (ws : List WaitingValue). (record client { waiting = ws; ledger = without_row mid client.ledger })) gone),
    )
yields_withdrawal client m place now request heard.NoMemory new is seen says removes = absurd removes
yields_withdrawal client m place now request (heard.Granted mid) new is seen says removes = absurd removes
yields_withdrawal client m place now request (heard.Refused mid code) new is seen says removes = absurd removes
yields_withdrawal client m place now request (heard.Beat short) new is seen says removes = absurd removes
yields_withdrawal client m place now request heard.Nothing new is seen says removes = absurd removes

refused_grant : (request : Request) (m : CoapMessage) → Says request m answer.Refused → (asked : Asked) (lifetime : ℤ) → request.scope ≡ Some asked → GrantsMid request.mid m lifetime → ⊥
refused_grant request m says asked lifetime scope grants = subst (λ (s : Option Asked). SaysTo s request.mid m answer.Refused) scope says lifetime grants

refused_withdrawal : (request : Request) (m : CoapMessage) → Says request m answer.Refused → request.scope ≡ None → SaysTo None request.mid m answer.Refused
refused_withdrawal request m says scope = subst (λ (s : Option Asked). SaysTo s request.mid m answer.Refused) scope says

pub yields_refusal : (client : ClientValue) (m : CoapMessage) (place now : ℕ) (request : Request) (told : Heard) (new : ClientValue) → IsOf client m place
    → option_map (λ (x : WaitingValue). x.request) (slice_get client.waiting place) ≡ Some request → Says request m answer.Refused
    → Drops client place m.code told new → YieldsOrLacks client m now told new
yields_refusal client m place now request (heard.Refused mid code) new is seen says leaves =
    let w = leaves.0 in
    let there = leaves.1 in
    let own = request_there client.waiting place w request seen there in
    let said = subst (λ (r : Request). Says r m answer.Refused) (sym own) says in
    let gone = (place_ends m.token client.waiting place w is.place_is there).0 in (
      w.request,
      answers_there client m place w is there,
      (
        leaves.2,
        leaves.3,
        refused_grant w.request m said,
        refused_withdrawal w.request m said,
        leaves.4 ∙ ap (λ (ws : List WaitingValue). (record client { waiting = ws })) gone,
      ),
    )
yields_refusal client m place now request heard.NoMemory new is seen says leaves = absurd leaves
yields_refusal client m place now request (heard.Granted mid) new is seen says leaves = absurd leaves
yields_refusal client m place now request (heard.Withdrawn mid) new is seen says leaves = absurd leaves
yields_refusal client m place now request (heard.Beat short) new is seen says leaves = absurd leaves
yields_refusal client m place now request heard.Nothing new is seen says leaves = absurd leaves
