-- A client whose name has a slash is refused, by the server and by the gateway.
use Rattle.std.proofs.Common.{◌≡◌, ℕ, ◌<◌, ◌≤◌, ◌^◌, Bool, true, false, List, [], ◌∷◌, ◌++◌, length, map, decimal, Option, Some, None, Ok, Err, refl, sym, ap, ◌∙◌, subst, arith}
use Rattle.std.specs.Prelude.{IsTrue}
use Rattle.std.specs.List.{AllByRecursion}
use Rattle.std.proofs.lemmas.Bool.{cond-false, le-leb}
use Rattle.coap_message.specs.Message.{CoapOption, CoapMessage, IsMessage, spelling}
use Rattle.coap_message.proofs.Whole.{one_message}
use Rattle.dots_keys.specs.declared.exchange.Exchange.{Exchange}
use Rattle.dots_keys.specs.Exchanges.{exchange_in}
use Rattle.dots_keys.specs.Replies.{dots_cbor}
use Rattle.dots_lists.specs.Name.{is_name}
use Rattle.dots_keys.specs.declared.reject.Reject.{Reject}
use Rattle.dots_keys.specs.declared.reject.Reject.TheVariants as reject
use Rattle.dots_keys.specs.Heads.{head_of}
use Rattle.dots_keys.specs.Operations.{is_client_name, client_name}
use Rattle.dots_keys.specs.Options.{first_critical, has_length}
use Rattle.dots_keys.specs.Paths.{mitigation, path_of}
use Rattle.dots_keys.specs.declared.request.Request.{Request}
use Rattle.dots_keys.specs.Meaning.{ReadsAs, Means}
use Rattle.dots_client.specs.Requests.{uri_path}
use Rattle.dots_gateway.specs.Wanted.{wanted_of}
use Rattle.dots_machine.specs.declared.received.Received.TheVariants as received
use Rattle.dots_machine.specs.Requests.{received_as, IsReceived, unread, asks_nothing, meant}
use Rattle.dots_world.specs.Worlds.{Aim, mitigates, withdraws, message_with}
use Rattle.dots_world.proofs.Messages.{client_length, mid_length}

path_length : (n : ℕ) → n ≤ 255 → has_length 11 n ≡ true
path_length n le = rw (le-leb n 255 le) refl

passed : (previous : Option ℕ) (segment : List ℕ) (options : List CoapOption) → length segment ≤ 255
    → first_critical previous (uri_path segment ∷ options) ≡ first_critical (Some 11) options
passed previous segment options le = rw (path_length (length segment) le) refl

abbrev after : Option ℕ → List (List ℕ) → Option ℕ
after previous [] = previous
after previous (segment ∷ segments) = after (Some 11) segments

abbrev AreShort : List (List ℕ) → Type 0
AreShort segments = AllByRecursion (λ (segment : List ℕ). length segment ≤ 255) segments

passed_all : (previous : Option ℕ) (segments : List (List ℕ)) (options : List CoapOption) → AreShort segments
    → first_critical previous (map uri_path segments ++ options) ≡ first_critical (after previous segments) options
passed_all previous [] options short = refl
passed_all previous (segment ∷ segments) options short =
    passed previous segment (map uri_path segments ++ options) short.0 ∙ passed_all (Some 11) segments options short.1

module _ (number mid : ℕ) (cuid : List ℕ) (named : IsTrue (is_name cuid)) (slash : is_client_name cuid ≡ false) (below : mid < 2 ^ 32) where
  recognised : (options : List CoapOption) → first_critical None (map uri_path (path_of (mitigation None (Some cuid) (Some (decimal mid)))) ++ options) ≡ first_critical (Some 11) options
  recognised options =
      passed_all None (path_of (mitigation None (Some cuid) (Some (decimal mid)))) options
      (omega arith, (omega arith, (omega arith, (client_length cuid named, (mid_length mid below, tt)))))

  no_client : client_name cuid ≡ Err reject.Parameter
  no_client = cond-false (is_client_name cuid) (Ok cuid) (Err reject.Parameter) slash

  pub slash_head : (aim : Aim) → head_of (message_with number cuid mid aim) false ≡ Err reject.Parameter
  slash_head (mitigates asked lifetime) = let critical = recognised (dots_cbor ∷ []) in let client = no_client in simp (critical, client) refl
  slash_head withdraws = let critical = recognised [] in let client = no_client in simp (critical, client) refl

  pub slash_wanted : (aim : Aim) → wanted_of (message_with number cuid mid aim) ≡ Err reject.Parameter
  slash_wanted (mitigates asked lifetime) = let critical = recognised (dots_cbor ∷ []) in let client = no_client in simp (critical, client) refl
  slash_wanted withdraws = let critical = recognised [] in let client = no_client in simp (critical, client) refl

-- a message whose head is refused asks nothing of the server
pub head_refused : (m : CoapMessage) (gateway : Bool) (r : Reject) (x : Exchange) (asked : Request) → IsMessage m → head_of m gateway ≡ Err r → IsReceived (spelling m) gateway (received.Asked x asked) → ⊥
head_refused m gateway r x asked is head (unread fault breaks e) = absurd (cc e)
head_refused m gateway r x asked is head (asks_nothing n said also spelled dismisses e) = absurd (cc e)
head_refused m gateway r x asked is head (meant n answer also spelled dismisses means e) =
    let same = one_message n m also is (sym spelled) in
    let reads = subst (λ (n : CoapMessage). Means n gateway answer) same means in
    let refused : answer ≡ Err r = subst (λ h. ReadsAs h m.payload answer) head reads in
    let got = e ∙ ap (received_as (exchange_in n)) refused in
    absurd (cc got)
