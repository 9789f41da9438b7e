-- What a gateway passes on for a client is read as the client's request for the domain.
use Rattle.std.specs.Prelude.{IsTrue, if◌then◌else◌}
use Rattle.std.proofs.Common.{◌≡◌, ℕ, ℤ, ◌<◌, ◌≤◌, ◌^◌, Bool, true, false, List, [], ◌∷◌, ◌++◌, map, length, codes, decimal, Some, None, Ok, Err, refl, sym, ap, ◌∙◌, subst, arith}
use Rattle.std.proofs.lemmas.Bool.{and_parts}
use Rattle.std.proofs.lemmas.List.{length-append}
use Rattle.acl_lists.specs.declared.asked.Asked.{Asked}
use Rattle.cbor_profile.specs.Canon.{canon}
use Rattle.cbor_profile.specs.Valid.{IsValid}
use Rattle.cbor_profile.proofs.WholeReading.{canon_is}
use Rattle.coap_message.specs.Message.{CoapOption, IsMessage, spelling}
use Rattle.dots_lists.specs.Name.{is_name}
use Rattle.dots_keys.specs.declared.head_request.Content.TheVariants as content
use Rattle.dots_keys.specs.declared.head_request.Observe.TheVariants as observe
use Rattle.dots_keys.specs.declared.head_request.MitigationPath.{MitigationPath}
use Rattle.dots_keys.specs.Heads.{head_of}
use Rattle.dots_keys.specs.Operations.{is_client_name, put_mitigation, delete_mitigation}
use Rattle.dots_keys.specs.Options.{first_critical}
use Rattle.dots_keys.specs.Paths.{mitigation, path_of}
use Rattle.dots_keys.specs.Results.{◌>>=◌, missing}
use Rattle.dots_keys.specs.declared.request.MitigationBody.{MitigationBody}
use Rattle.dots_keys.specs.declared.request.Request.TheVariants as request
use Rattle.dots_keys.specs.Meaning.{AnswersBody, ReadsAs, Means, put_mitigation_with}
use Rattle.dots_keys.specs.Mitigations.{has_target}
use Rattle.reply_bodies.specs.Requests.{request_tree}
use Rattle.dots_client.specs.Asked.{CanAsk}
use Rattle.dots_client.specs.Grants.{IsGranted}
use Rattle.dots_client.specs.Requests.{asking, withdrawing}
use Rattle.dots_client.proofs.Bodies.{is_read}
use Rattle.dots_client.proofs.Heads.{name_length, client_length, mid_length, passed_all, recognised, client_back, mid_back}
use Rattle.dots_gateway.specs.Forwarding.{option_with, forwarded}
use Rattle.dots_gateway.specs.Wanted.{passage, wanted_of}
use Rattle.dots_machine.specs.Answering.{AreBytes}
use Rattle.dots_keys.specs.Exchanges.{exchange_in}
use Rattle.dots_keys.specs.Replies.{dots_cbor}
use Rattle.dots_machine.specs.Requests.{received_as}
use Rattle.dots_world.specs.Forwarding.{passage_for, asked_in, withdrawn_in}
use Rattle.dots_world.specs.ReceivedAs.{IsReadAs}
use Rattle.dots_world.proofs.ReceivedAs.{read_as}

-- ---- the parameters
domain_length : (domain : List ℕ) → IsTrue (is_client_name domain) → length (codes "cdid=" ++ domain) ≤ 255
domain_length domain is =
    let few = name_length domain (and_parts (is_name domain) _ is).0 in
    let sum = length-append (codes "cdid=") domain in
    omega (arith, sum, few)

-- ---- what a gateway takes from a client's request
pub asking_passes : (number mid : ℕ) (cuid : List ℕ) (asked : Asked) (lifetime : ℤ) → IsTrue (is_client_name cuid) → mid < 2 ^ 32
    → wanted_of (asking number cuid mid asked lifetime) ≡ Ok (passage (passage_for cuid mid))
asking_passes number mid cuid asked lifetime named below =
    let critical = recognised cuid mid (dots_cbor ∷ []) named below in
    let client = client_back cuid named in
    let identified = mid_back mid below in
    simp (critical, client, identified) refl

pub withdrawing_passes : (number mid : ℕ) (cuid : List ℕ) → IsTrue (is_client_name cuid) → mid < 2 ^ 32
    → wanted_of (withdrawing number cuid mid) ≡ Ok (passage (passage_for cuid mid))
withdrawing_passes number mid cuid named below =
    let critical = recognised cuid mid [] named below in
    let client = client_back cuid named in
    let identified = mid_back mid below in
    simp (critical, client, identified) refl

-- ---- what it passes on
module _ (next number mid : ℕ) (domain cuid : List ℕ) (named_domain : IsTrue (is_client_name domain)) (named : IsTrue (is_client_name cuid)) (below : mid < 2 ^ 32) where
  abbrev path : MitigationPath
  path = record { cdid = Some domain; cuid = cuid; mid = Some mid }

  known : (options : List CoapOption)
      → first_critical None (map (option_with 11) (path_of (mitigation (Some domain) (Some cuid) (Some (decimal mid)))) ++ options) ≡ first_critical (Some 11) options
  known options =
      passed_all None (path_of (mitigation (Some domain) (Some cuid) (Some (decimal mid)))) options
      (omega arith, (omega arith, (omega arith, (domain_length domain named_domain, (client_length cuid named, (mid_length mid below, tt))))))

  module _ (asked : Asked) (lifetime : ℤ) where
    asking_head : head_of (forwarded next domain (passage_for cuid mid) (asking number cuid mid asked lifetime)) true
        ≡ Ok (record { operation = put_mitigation path; content = content.All; observe = observe.No })
    asking_head =
        let critical = known (dots_cbor ∷ option_with 16 (15 ∷ []) ∷ []) in
        let cdid = client_back domain named_domain in
        let client = client_back cuid named in
        let identified = mid_back mid below in
        simp (critical, cdid, client, identified) refl

    either : (b : Bool) (body : MitigationBody)
        → ((if b then Ok body else Err (missing 6)) >>= λ body. Ok (request.PutMitigation path body)) ≡ (if b then Ok (request.PutMitigation path body) else Err (missing 6))
    either true body = refl
    either false body = refl

    asking_means : CanAsk asked → IsGranted lifetime → IsValid (request_tree asked lifetime)
        → Means (forwarded next domain (passage_for cuid mid) (asking number cuid mid asked lifetime)) true (asked_in domain cuid mid asked lifetime)
    asking_means can lasts valid =
        let body : AnswersBody (canon (request_tree asked lifetime)) (put_mitigation_with path) (asked_in domain cuid mid asked lifetime) = (
          Ok (request_tree asked lifetime),
          canon_is (request_tree asked lifetime) valid,
          sym (ap (λ r. r >>= λ body. Ok (request.PutMitigation path body)) (is_read true asked lifetime can lasts) ∙ either (has_target asked) (record { asked = asked; lifetime = lifetime; trigger = true })),
        ) in
        subst (λ head. ReadsAs head (canon (request_tree asked lifetime)) (asked_in domain cuid mid asked lifetime)) (sym asking_head) body

    pub passed_asking : IsMessage (forwarded next domain (passage_for cuid mid) (asking number cuid mid asked lifetime))
    passed_asking =
        let cdid = domain_length domain named_domain in
        let client = client_length cuid named in
        let digits = mid_length mid below in
        record {
          code = omega arith;
          identifier = omega arith;
          token = omega arith;
          options = ((
            omega arith,
            omega arith,
            omega arith,
            (
              omega arith,
              omega arith,
              omega arith,
              (
                omega arith,
                omega arith,
                omega arith,
                (
                  omega arith,
                  omega arith,
                  omega (arith, cdid),
                  (
                    omega arith,
                    omega arith,
                    omega (arith, client),
                    (
                      omega arith,
                      omega arith,
                      omega (arith, digits),
                      (
                        omega arith,
                        omega arith,
                        omega arith,
                        (omega arith, omega arith, omega arith, tt),
                      ),
                    ),
                  ),
                ),
              ),
            ),
          )
              );
          empty = λ none. absurd (cc none);
        }

  withdrawing_head : head_of (forwarded next domain (passage_for cuid mid) (withdrawing number cuid mid)) true
      ≡ Ok (record { operation = delete_mitigation path; content = content.All; observe = observe.No })
  withdrawing_head =
      let critical = known (option_with 16 (15 ∷ []) ∷ []) in
      let cdid = client_back domain named_domain in
      let client = client_back cuid named in
      let identified = mid_back mid below in
      simp (critical, cdid, client, identified) refl

  withdrawing_means : Means (forwarded next domain (passage_for cuid mid) (withdrawing number cuid mid)) true (withdrawn_in domain cuid mid)
  withdrawing_means = subst (λ head. ReadsAs head [] (withdrawn_in domain cuid mid)) (sym withdrawing_head) refl

  pub passed_withdrawing : IsMessage (forwarded next domain (passage_for cuid mid) (withdrawing number cuid mid))
  passed_withdrawing =
      let cdid = domain_length domain named_domain in
      let client = client_length cuid named in
      let digits = mid_length mid below in
      record {
        code = omega arith;
        identifier = omega arith;
        token = omega arith;
        options = ((
          omega arith,
          omega arith,
          omega arith,
          (
            omega arith,
            omega arith,
            omega arith,
            (
              omega arith,
              omega arith,
              omega arith,
              (
                omega arith,
                omega arith,
                omega (arith, cdid),
                (
                  omega arith,
                  omega arith,
                  omega (arith, client),
                  (
                    omega arith,
                    omega arith,
                    omega (arith, digits),
                    (omega arith, omega arith, omega arith, tt),
                  ),
                ),
              ),
            ),
          ),
        )
            );
        empty = λ none. absurd (cc none);
      }

pub asking_forwarded : (next number mid : ℕ) (domain cuid : List ℕ) (asked : Asked) (lifetime : ℤ) → IsTrue (is_client_name domain) → IsTrue (is_client_name cuid) → mid < 2 ^ 32
    → CanAsk asked → IsGranted lifetime → IsValid (request_tree asked lifetime)
    → AreBytes (spelling (forwarded next domain (passage_for cuid mid) (asking number cuid mid asked lifetime)))
    → IsReadAs (spelling (forwarded next domain (passage_for cuid mid) (asking number cuid mid asked lifetime))) true
    (received_as (exchange_in (forwarded next domain (passage_for cuid mid) (asking number cuid mid asked lifetime))) (asked_in domain cuid mid asked lifetime))
asking_forwarded next number mid domain cuid asked lifetime named_domain named below can lasts valid are =
    read_as (forwarded next domain (passage_for cuid mid) (asking number cuid mid asked lifetime)) true (asked_in domain cuid mid asked lifetime)
    (passed_asking next number mid domain cuid named_domain named below asked lifetime) refl (asking_means next number mid domain cuid named_domain named below asked lifetime can lasts valid) are

pub withdrawing_forwarded : (next number mid : ℕ) (domain cuid : List ℕ) → IsTrue (is_client_name domain) → IsTrue (is_client_name cuid) → mid < 2 ^ 32
    → AreBytes (spelling (forwarded next domain (passage_for cuid mid) (withdrawing number cuid mid)))
    → IsReadAs (spelling (forwarded next domain (passage_for cuid mid) (withdrawing number cuid mid))) true
    (received_as (exchange_in (forwarded next domain (passage_for cuid mid) (withdrawing number cuid mid))) (withdrawn_in domain cuid mid))
withdrawing_forwarded next number mid domain cuid named_domain named below are =
    read_as (forwarded next domain (passage_for cuid mid) (withdrawing number cuid mid)) true (withdrawn_in domain cuid mid)
    (passed_withdrawing next number mid domain cuid named_domain named below) refl (withdrawing_means next number mid domain cuid named_domain named below) are
