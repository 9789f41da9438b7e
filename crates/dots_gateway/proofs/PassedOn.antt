-- What is passed on, by the rules that lead to it.
use Rattle.std.proofs.Common.{◌≡◌, ℕ, ◌+◌, ◌-◌, ◌*◌, Bool, true, false, cond, List, [], ◌∷◌, ◌++◌, length, map, Option, Some, None, Result, Ok, Err, refl, sym, ap, ◌∙◌, inl, inr, arith}
use Rattle.std.specs.Prelude.{◌==◌}
use Rattle.std.specs.List.{find}
use Rattle.std.proofs.lemmas.Bool.{cases_eq, eqb-false}
use Rattle.std.proofs.lemmas.Option.{none-some, same_Some}
use Rattle.coap_message.specs.declared.kind.Kind.{Kind}
use Rattle.coap_message.specs.declared.kind.Kind.TheVariants.{Con, Non, Ack, Rst}
use Rattle.coap_message.specs.Message.{CoapOption, CoapMessage, spelling}
use Rattle.coap_message.specs.Salvage.{salvaged}
use Rattle.dots_keys.specs.Exchanges.{exchange_in, is_request, rejected, dismissed_unread}
use Rattle.dots_keys.specs.Replies.{plain}
use Rattle.dots_keys.specs.declared.reject.Reject.{Reject}
use Rattle.dots_keys.specs.declared.reject.Reject.TheVariants as reject
use Rattle.dots_keys.specs.Heads.{refuse_critical, refuse_hop_limit}
use Rattle.dots_keys.specs.Options.{first_critical, values_of, value_of, option_number, recognised_value, has_length}
use Rattle.dots_keys.specs.Paths.{Resource, mitigation, config, heartbeat, path_of, resource_at}
use Rattle.dots_keys.specs.Results.{◌>>=◌}
use Rattle.dots_keys.proofs.PathLaws.{read_back}
use Rattle.dots_gateway.specs.declared.exchange.Exchange.{Exchange}
use Rattle.dots_gateway.specs.declared.exchange.Waiting.{Waiting}
use Rattle.dots_gateway.specs.declared.passed.Passed.TheVariants as passed
use Rattle.dots_gateway.specs.declared.passed.GatewayFault.TheVariants as fault
use Rattle.dots_gateway.specs.Exchanges.{ExchangesValue, is_full, is_from, exchange_for}
use Rattle.dots_gateway.specs.Forwarding.{option_with, option_for, passed_options, forwarded}
use Rattle.dots_gateway.specs.Gateway.{GatewayValue, Said, Ups, of_no_client, unreadable, asking, dismissed_said, refused, refused_option, came_again, passed_again, passed_first, passed_by, passed_on, wanted_said, asked_said}
use Rattle.dots_gateway.specs.PassedOn.{IsPassedFor, IsPassedOn}
use Rattle.dots_gateway.specs.Routes.{domain_for}
use Rattle.dots_gateway.specs.Wanted.{Passage, Wanted, beat, passage, hop_limit, hop_in, refuse_operation, wanted_at, wanted_of}

-- ---- the options that are passed on

values_then : (number : ℕ) (xs ys : List CoapOption) → values_of number (xs ++ ys) ≡ values_of number xs ++ values_of number ys
values_then number [] ys = refl
values_then number (o ∷ os) ys = by_test (o.number == number) (values_then number os ys)
  where
    by_test : (b : Bool) → values_of number (os ++ ys) ≡ values_of number os ++ values_of number ys
        → cond b (o.value ∷ values_of number (os ++ ys)) (values_of number (os ++ ys)) ≡ cond b (o.value ∷ values_of number os) (values_of number os) ++ values_of number ys
    by_test true rest = ap (λ (vs : List (List ℕ)). o.value ∷ vs) rest
    by_test false rest = rest

-- all of one number
of_one : (n number : ℕ) (b : Bool) (vs : List (List ℕ)) → (n == number) ≡ b → values_of number (map (option_with n) vs) ≡ cond b vs []
of_one n number true [] is = refl
of_one n number false [] is = refl
of_one n number b (v ∷ vs) is =
    ap (λ (c : Bool). cond c (v ∷ values_of number (map (option_with n) vs)) (values_of number (map (option_with n) vs))) is ∙ by_test b (of_one n number b vs is)
  where
    by_test : (b : Bool) → values_of number (map (option_with n) vs) ≡ cond b vs [] → cond b (v ∷ values_of number (map (option_with n) vs)) (values_of number (map (option_with n) vs)) ≡ cond b (v ∷ vs) []
    by_test true rest = ap (λ (xs : List (List ℕ)). v ∷ xs) rest
    by_test false rest = rest

-- a value that may be missing, as a list
abbrev listed : Option (List ℕ) → List (List ℕ)
listed None = []
listed (Some v) = v ∷ []

of_option : (n : ℕ) (o : Option (List ℕ)) → option_for n o ≡ map (option_with n) (listed o)
of_option n None = refl
of_option n (Some v) = refl

-- the values of a number among those that are passed on
abbrev each_of : ℕ → List (List ℕ) → List (List ℕ) → List (List ℕ) → List (List ℕ) → List (List ℕ) → List (List ℕ)
each_of number path format queries hop accept =
    cond (11 == number) path [] ++ cond (12 == number) format [] ++ cond (15 == number) queries [] ++ (cond (16 == number) hop [] ++ cond (17 == number) accept [])

values_passed : (number : ℕ) (domain : List ℕ) (p : Passage) (options : List CoapOption)
    → values_of number (passed_options domain p options)
    ≡ each_of number (path_of (mitigation (Some domain) p.cuid p.mid)) (listed (value_of 12 options)) (values_of 15 options) (((p.hop - 1) ∷ []) ∷ []) (listed (value_of 17 options))
values_passed number domain p options =
    let path = map (option_with 11) (path_of (mitigation (Some domain) p.cuid p.mid)) in
    let format = option_for 12 (value_of 12 options) in
    let queries = map (option_with 15) (values_of 15 options) in
    let hop = option_with 16 ((p.hop - 1) ∷ []) ∷ [] in
    let accept = option_for 17 (value_of 17 options) in
    let one = λ (n : ℕ) (vs : List (List ℕ)). of_one n number (n == number) vs refl in
    let values = λ (os : List CoapOption). values_of number os in
    values_then number (path ++ format ++ queries) (hop ++ accept)
    ∙ ap (λ (vs : List (List ℕ)). vs ++ values (hop ++ accept)) (values_then number (path ++ format) queries ∙ ap (λ (vs : List (List ℕ)). vs ++ values queries) (values_then number path format))
    ∙ ap (λ (vs : List (List ℕ)). values path ++ values format ++ values queries ++ vs) (values_then number hop accept)
    ∙ ap (λ (vs : List (List ℕ)). vs ++ values format ++ values queries ++ (values hop ++ values accept)) (one 11 (path_of (mitigation (Some domain) p.cuid p.mid)))
    ∙ ap (λ (vs : List (List ℕ)). cond (11 == number) (path_of (mitigation (Some domain) p.cuid p.mid)) [] ++ vs ++ values queries ++ (values hop ++ values accept)) (ap values (of_option 12 (value_of 12 options)) ∙ one 12 (listed (value_of 12 options)))
    ∙ ap (λ (vs : List (List ℕ)). cond (11 == number) (path_of (mitigation (Some domain) p.cuid p.mid)) [] ++ cond (12 == number) (listed (value_of 12 options)) [] ++ vs ++ (values hop ++ values accept)) (one 15 (values_of 15 options))
    ∙ ap (λ (vs : List (List ℕ)). cond (11 == number) (path_of (mitigation (Some domain) p.cuid p.mid)) [] ++ cond (12 == number) (listed (value_of 12 options)) [] ++ cond (15 == number) (values_of 15 options) [] ++ (vs ++ values accept)) (one 16 (((p.hop - 1) ∷ []) ∷ []))
    ∙ ap (λ (vs : List (List ℕ)). cond (11 == number) (path_of (mitigation (Some domain) p.cuid p.mid)) [] ++ cond (12 == number) (listed (value_of 12 options)) [] ++ cond (15 == number) (values_of 15 options) [] ++ (cond (16 == number) (((p.hop - 1) ∷ []) ∷ []) [] ++ vs)) (ap values (of_option 17 (value_of 17 options)) ∙ one 17 (listed (value_of 17 options)))

-- a recognised value is recognised again
recognised_again : (number : ℕ) (vs : List (List ℕ)) → recognised_value number (listed (recognised_value number vs)) ≡ recognised_value number vs
recognised_again number [] = refl
recognised_again number (v ∷ vs) = by_test (has_length number (length v)) refl
  where
    by_test : (b : Bool) → has_length number (length v) ≡ b → recognised_value number (listed (cond b (Some v) None)) ≡ cond b (Some v) None
    by_test true is = ap (λ (c : Bool). cond c (Some v) None) is
    by_test false is = refl

nothing_behind : (xs : List (List ℕ)) → xs ++ [] ≡ xs
nothing_behind [] = refl
nothing_behind (x ∷ xs) = ap (λ (ys : List (List ℕ)). x ∷ ys) (nothing_behind xs)

lowered : (hop : ℕ) → (hop ≡ 0 → ⊥) → (256 * 0 + (hop - 1)) + 1 ≡ hop
lowered hop some =
    elim (cases_eq hop 0) [
      | inl none ↦ absurd (some none)
      | inr any ↦ omega (arith, any)
    ]

path_passed : (domain : List ℕ) (p : Passage) (options : List CoapOption) → values_of 11 (passed_options domain p options) ≡ path_of (mitigation (Some domain) p.cuid p.mid)
path_passed domain p options =
    let path = path_of (mitigation (Some domain) p.cuid p.mid) in
    values_passed 11 domain p options ∙ nothing_behind (path ++ [] ++ []) ∙ nothing_behind (path ++ []) ∙ nothing_behind path

format_passed : (domain : List ℕ) (p : Passage) (options : List CoapOption) → values_of 12 (passed_options domain p options) ≡ listed (value_of 12 options)
format_passed domain p options =
    let format = listed (value_of 12 options) in values_passed 12 domain p options ∙ nothing_behind (format ++ []) ∙ nothing_behind format

queries_passed : (domain : List ℕ) (p : Passage) (options : List CoapOption) → values_of 15 (passed_options domain p options) ≡ values_of 15 options
queries_passed domain p options = values_passed 15 domain p options ∙ nothing_behind (values_of 15 options)

-- ---- what is wanted

err_ok : {A E : Type 0} {x : A} {e : E} → ◌≡◌ {A = Result A E} (Err e) (Ok x) → ⊥
err_ok is = absurd (cc)

not_refused : (c : Option ℕ) (h : Option (List ℕ)) (code hop : ℕ) (r : Option Resource) (p : Passage)
    → (refuse_critical c >>= λ _. refuse_hop_limit h >>= λ _. wanted_at code hop r) ≡ Ok (passage p) → (hop_limit h ≡ 0 → ⊥) × (wanted_at code hop r ≡ Ok (passage p))
not_refused (Some n) h code hop r p is = absurd (err_ok is)
not_refused None None code hop r p is = ((λ none. absurd (omega (arith, none))), is)
not_refused None (Some value) code hop r p is = by_test (option_number value == 0) refl is
  where
    by_test : (b : Bool) → (option_number value == 0) ≡ b → (cond {A = Result (Unit {0}) Reject} b (Err reject.HopLimit) (Ok tt) >>= λ _. wanted_at code hop r) ≡ Ok (passage p)
        → (option_number value ≡ 0 → ⊥) × (wanted_at code hop r ≡ Ok (passage p))
    by_test true zero is = absurd (err_ok is)
    by_test false some is = (eqb-false (option_number value) 0 some, is)

same_passage : (p q : Passage) → ◌≡◌ {A = Result Wanted Reject} (Ok (passage p)) (Ok (passage q)) → p ≡ q
same_passage p q is = cc

beat_passage : (p : Passage) → ◌≡◌ {A = Result Wanted Reject} (Ok beat) (Ok (passage p)) → ⊥
beat_passage p is = absurd (cc)

of_mitigation : (code hop : ℕ) (r : Option Resource) (p : Passage) → wanted_at code hop r ≡ Ok (passage p)
    → (p.hop ≡ hop) × (cdid : Option (List ℕ)) × (r ≡ Some (mitigation cdid p.cuid p.mid))
of_mitigation code hop None p is = absurd (err_ok is)
of_mitigation code hop (Some (config sid)) p is = absurd (err_ok is)
of_mitigation code hop (Some heartbeat) p is = by_test (code == 3) is
  where
    by_test : (b : Bool) → cond {A = Result Wanted Reject} b (Ok beat) (Err reject.Path) ≡ Ok (passage p) → (p.hop ≡ hop) × (cdid : Option (List ℕ)) × (Some heartbeat ≡ Some (mitigation cdid p.cuid p.mid))
    by_test true is = absurd (beat_passage p is)
    by_test false is = absurd (err_ok is)
of_mitigation code hop (Some (mitigation cdid cuid mid)) p is = by_refusal (refuse_operation (mitigation cdid cuid mid) code) is
  where
    by_refusal : (r : Result (Unit {0}) Reject) → (r >>= λ _. Ok (passage (record { hop = hop; cuid = cuid; mid = mid }))) ≡ Ok (passage p)
        → (p.hop ≡ hop) × (other : Option (List ℕ)) × (Some (mitigation cdid cuid mid) ≡ Some (mitigation other p.cuid p.mid))
    by_refusal (Err e) is = absurd (err_ok is)
    by_refusal (Ok done) is =
        let same = same_passage (record { hop = hop; cuid = cuid; mid = mid }) p is in
        (sym (ap (λ (x : Passage). x.hop) same), cdid, ap (λ (x : Passage). Some (mitigation cdid x.cuid x.mid)) same)

-- ---- what is forwarded

abbrev Forwards : ExchangesValue → ℕ → List ℕ → CoapMessage → Passage → List ℕ → Option Exchange → Type 0
Forwards e peer domain m p bytes fresh = (number : ℕ) × (bytes ≡ spelling (forwarded number domain p m)) × ((exchange : Exchange) → fresh ≡ Some exchange → exchange ≡ exchange_for e peer m)

same_forward : (bytes other : List ℕ) (fresh made : Option Exchange) → ◌≡◌ {A = Said} (Ok (passed.Forward bytes fresh)) (Ok (passed.Forward other made)) → (other ≡ bytes) × (made ≡ fresh)
same_forward bytes other fresh made is = (cc, cc)

no_reply : {peer : ℕ} {reply bytes : List ℕ} {fresh : Option Exchange} → ◌≡◌ {A = Said} (Ok (passed.Reply peer reply)) (Ok (passed.Forward bytes fresh)) → ⊥
no_reply is = absurd (cc)

no_silence : {bytes : List ℕ} {fresh : Option Exchange} → ◌≡◌ {A = Said} (Ok passed.Nothing) (Ok (passed.Forward bytes fresh)) → ⊥
no_silence is = absurd (cc)

pub rejected_none : (peer : ℕ) (kind : Kind) (id : ℕ) (bytes : List ℕ) (fresh : Option Exchange) → dismissed_said peer (rejected kind id) ≡ Ok (passed.Forward bytes fresh) → ⊥
rejected_none peer Con id bytes fresh is = no_reply is
rejected_none peer Non id bytes fresh is = no_silence is
rejected_none peer Ack id bytes fresh is = no_silence is
rejected_none peer Rst id bytes fresh is = no_silence is

option_none : (peer : ℕ) (kind : Kind) (reply bytes : List ℕ) (fresh : Option Exchange) → refused_option peer kind reply ≡ Ok (passed.Forward bytes fresh) → ⊥
option_none peer Con reply bytes fresh is = no_reply is
option_none peer Non reply bytes fresh is = no_silence is
option_none peer Ack reply bytes fresh is = no_silence is
option_none peer Rst reply bytes fresh is = no_silence is

refused_none : (peer : ℕ) (m : CoapMessage) (e : Reject) (bytes : List ℕ) (fresh : Option Exchange) → refused peer m e ≡ Ok (passed.Forward bytes fresh) → ⊥
refused_none peer m (reject.Critical number) bytes fresh is = option_none peer m.kind _ bytes fresh is
refused_none peer m reject.Path bytes fresh is = no_reply is
refused_none peer m reject.Method bytes fresh is = no_reply is
refused_none peer m reject.HopLimit bytes fresh is = no_reply is
refused_none peer m reject.Parameter bytes fresh is = no_reply is
refused_none peer m reject.Accept bytes fresh is = no_reply is
refused_none peer m reject.Format bytes fresh is = no_reply is
refused_none peer m reject.Query bytes fresh is = no_reply is
refused_none peer m (reject.Body cause) bytes fresh is = no_reply is
refused_none peer m reject.NoMemory bytes fresh is = no_reply is

unread_none : (peer : ℕ) (o : Option (Kind × ℕ)) (bytes : List ℕ) (fresh : Option Exchange) → dismissed_said peer (dismissed_unread o) ≡ Ok (passed.Forward bytes fresh) → ⊥
unread_none peer None bytes fresh is = no_silence is
unread_none peer (Some message) bytes fresh is = rejected_none peer message.0 message.1 bytes fresh is

again_forwards : (e : ExchangesValue) (peer : ℕ) (domain datagram : List ℕ) (m : CoapMessage) (p : Passage) (k : Waiting) (bytes : List ℕ) (fresh : Option Exchange)
    → passed_again domain datagram m p k ≡ Ok (passed.Forward bytes fresh) → Forwards e peer domain m p bytes fresh
again_forwards e peer domain datagram m p k bytes fresh is = by_test (came_again k.asked k.exchange datagram m) is
  where
    by_test : (b : Bool) → cond {A = Said} b (Ok (passed.Forward (spelling (forwarded k.exchange.number domain p m)) None)) (Ok passed.Nothing) ≡ Ok (passed.Forward bytes fresh)
        → Forwards e peer domain m p bytes fresh
    by_test true is =
        let same = same_forward _ bytes None fresh is in
        (k.exchange.number, same.0, λ exchange there. absurd (none-some exchange (sym same.1 ∙ there)))
    by_test false is = absurd (no_silence is)

first_forwards : (e : ExchangesValue) (peer : ℕ) (domain : List ℕ) (m : CoapMessage) (p : Passage) (bytes : List ℕ) (fresh : Option Exchange)
    → passed_first e peer domain m p ≡ Ok (passed.Forward bytes fresh) → Forwards e peer domain m p bytes fresh
first_forwards e peer domain m p bytes fresh is = by_test (is_full e) is
  where
    by_test : (b : Bool) → cond {A = Said} b (Err fault.TableFull) (Ok (passed.Forward (spelling (forwarded e.next domain p m)) (Some (exchange_for e peer m)))) ≡ Ok (passed.Forward bytes fresh)
        → Forwards e peer domain m p bytes fresh
    by_test true is = absurd (err_ok is)
    by_test false is =
        let same = same_forward _ bytes (Some (exchange_for e peer m)) fresh is in
        (e.next, same.0, λ exchange there. sym (same_Some (exchange_for e peer m) exchange (sym same.1 ∙ there)))

found_forwards : (e : ExchangesValue) (peer : ℕ) (domain datagram : List ℕ) (m : CoapMessage) (p : Passage) (o : Option Waiting) (bytes : List ℕ) (fresh : Option Exchange)
    → passed_by e peer domain datagram m p o ≡ Ok (passed.Forward bytes fresh) → Forwards e peer domain m p bytes fresh
found_forwards e peer domain datagram m p (Some k) bytes fresh is = again_forwards e peer domain datagram m p k bytes fresh is
found_forwards e peer domain datagram m p None bytes fresh is = first_forwards e peer domain m p bytes fresh is

on_forwards : (e : ExchangesValue) (peer : ℕ) (domain datagram : List ℕ) (m : CoapMessage) (p : Passage) (bytes : List ℕ) (fresh : Option Exchange)
    → passed_on e peer domain datagram m p ≡ Ok (passed.Forward bytes fresh) → Forwards e peer domain m p bytes fresh
on_forwards e peer domain datagram m p bytes fresh is = by_test (p.hop == 1) is
  where
    by_test : (b : Bool) → cond {A = Said} b (Ok (passed.Reply peer (plain 0xa8 (exchange_in m) []))) (passed_by e peer domain datagram m p (find (is_from peer m.identifier) e.waiting)) ≡ Ok (passed.Forward bytes fresh)
        → Forwards e peer domain m p bytes fresh
    by_test true is = absurd (no_reply is)
    by_test false is = found_forwards e peer domain datagram m p (find (is_from peer m.identifier) e.waiting) bytes fresh is

-- what is forwarded was asked for
abbrev Asks : ExchangesValue → ℕ → List ℕ → CoapMessage → List ℕ → Option Exchange → Type 0
Asks e peer domain m bytes fresh = (p : Passage) × (wanted_of m ≡ Ok (passage p)) × Forwards e peer domain m p bytes fresh

wanted_forwards : (e : ExchangesValue) (peer : ℕ) (domain datagram : List ℕ) (m : CoapMessage) (w : Result Wanted Reject) (bytes : List ℕ) (fresh : Option Exchange)
    → wanted_of m ≡ w → wanted_said e peer domain datagram m w ≡ Ok (passed.Forward bytes fresh) → Asks e peer domain m bytes fresh
wanted_forwards e peer domain datagram m (Err reject) bytes fresh so is = absurd (refused_none peer m reject bytes fresh is)
wanted_forwards e peer domain datagram m (Ok beat) bytes fresh so is = absurd (no_reply is)
wanted_forwards e peer domain datagram m (Ok (passage p)) bytes fresh so is = (p, so, on_forwards e peer domain datagram m p bytes fresh is)

asked_forwards : (e : ExchangesValue) (peer : ℕ) (domain datagram : List ℕ) (m : CoapMessage) (bytes : List ℕ) (fresh : Option Exchange)
    → asked_said e peer domain datagram m ≡ Ok (passed.Forward bytes fresh) → Asks e peer domain m bytes fresh
asked_forwards e peer domain datagram m bytes fresh is = by_test (is_request m) is
  where
    by_test : (b : Bool) → cond b (wanted_said e peer domain datagram m (wanted_of m)) (dismissed_said peer (rejected m.kind m.identifier)) ≡ Ok (passed.Forward bytes fresh) → Asks e peer domain m bytes fresh
    by_test true is = wanted_forwards e peer domain datagram m (wanted_of m) bytes fresh refl is
    by_test false is = absurd (rejected_none peer m.kind m.identifier bytes fresh is)

-- ---- the laws

same_texts : (cdid cuid mid other : Option (List ℕ)) (p : Passage) → ◌≡◌ {A = Option Resource} (Some (mitigation cdid p.cuid p.mid)) (Some (mitigation other cuid mid)) → (p.cuid ≡ cuid) × (p.mid ≡ mid)
same_texts cdid cuid mid other p is = (cc, cc)

is_passed_for : (number : ℕ) (domain : List ℕ) (p : Passage) (m : CoapMessage) (own : Option (List ℕ)) → p.hop ≡ hop_in m.options → (p.hop ≡ 0 → ⊥)
    → resource_at (values_of 11 m.options) ≡ Some (mitigation own p.cuid p.mid) → IsPassedFor domain m (forwarded number domain p m)
is_passed_for number domain p m own hop some there = record {
  kind = refl;
  code = refl;
  payload = refl;
  path = λ cdid cuid mid is.
      let same = same_texts own cuid mid cdid p (sym there ∙ is) in
      ap resource_at (path_passed domain p m.options) ∙ read_back (mitigation (Some domain) p.cuid p.mid)
      ∙ ap (λ (c : Option (List ℕ)). Some (mitigation (Some domain) c p.mid)) same.0
      ∙ ap (λ (i : Option (List ℕ)). Some (mitigation (Some domain) cuid i)) same.1;
  format = ap (recognised_value 12) (format_passed domain p m.options) ∙ recognised_again 12 (values_of 12 m.options);
  queries = queries_passed domain p m.options;
  accept = ap (recognised_value 17) (values_passed 17 domain p m.options) ∙ recognised_again 17 (values_of 17 m.options);
  hop = ap (λ (vs : List (List ℕ)). hop_limit (recognised_value 16 vs) + 1) (values_passed 16 domain p m.options) ∙ lowered p.hop some ∙ hop;
  observe = values_passed 6 domain p m.options;
}

pub is_passed_on : (g : GatewayValue) (peer : ℕ) (datagram bytes : List ℕ) (fresh : Option Exchange) → Ups g peer datagram (Ok (passed.Forward bytes fresh))
    → (domain : List ℕ) × (domain_for g.routes g.upstream peer ≡ Some domain) × IsPassedOn domain datagram bytes
is_passed_on g peer datagram bytes fresh (of_no_client none said) = absurd (no_silence (sym said))
is_passed_on g peer datagram bytes fresh (unreadable domain is none said) = absurd (unread_none peer (salvaged datagram) bytes fresh (sym said))
is_passed_on g peer datagram bytes fresh (asking domain m is message spelled said) =
    let asks = asked_forwards g.exchanges peer domain datagram m bytes fresh (sym said) in
    let p = asks.0 in
    let fine = not_refused (first_critical None m.options) (value_of 16 m.options) m.code (hop_in m.options) (resource_at (values_of 11 m.options)) p asks.1 in
    let wants = of_mitigation m.code (hop_in m.options) (resource_at (values_of 11 m.options)) p fine.1 in (
      domain,
      is,
      record {
        asked = m;
        passed = forwarded asks.2.0 domain p m;
        is_message = message;
        spelled = spelled;
        written = asks.2.1;
        mitigates = (wants.1, p.cuid, p.mid, wants.2);
        same = is_passed_for asks.2.0 domain p m wants.1 wants.0 (λ zero. fine.0 (sym wants.0 ∙ zero)) wants.2;
      },
    )

pub fresh_number : (g : GatewayValue) (peer : ℕ) (datagram bytes : List ℕ) (exchange : Exchange) → Ups g peer datagram (Ok (passed.Forward bytes (Some exchange)))
    → exchange.number ≡ g.exchanges.next
fresh_number g peer datagram bytes exchange (of_no_client none said) = absurd (no_silence (sym said))
fresh_number g peer datagram bytes exchange (unreadable domain is none said) = absurd (unread_none peer (salvaged datagram) bytes (Some exchange) (sym said))
fresh_number g peer datagram bytes exchange (asking domain m is message spelled said) =
    let asks = asked_forwards g.exchanges peer domain datagram m bytes (Some exchange) (sym said) in
    ap (λ (x : Exchange). x.number) (asks.2.2 exchange refl)
