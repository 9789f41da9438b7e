-- A message is received as what it means, and as nothing else.
use Rattle.std.specs.Prelude.{IsTrue}
use Rattle.std.proofs.Common.{◌≡◌, ℕ, ℤ, ◌<◌, ◌^◌, Bool, false, List, None, Result, refl, arith}
use Rattle.acl_lists.specs.declared.asked.Asked.{Asked}
use Rattle.cbor_profile.specs.Valid.{IsValid}
use Rattle.cbor_profile.proofs.WholeReading.{canon_is}
use Rattle.coap_message.specs.Message.{CoapMessage, IsMessage, spelling}
use Rattle.dots_keys.specs.declared.reject.Reject.{Reject}
use Rattle.dots_keys.specs.Operations.{is_client_name}
use Rattle.dots_keys.specs.declared.request.Request.{Request}
use Rattle.dots_keys.specs.Meaning.{Means}
use Rattle.reply_bodies.specs.Requests.{request_tree}
use Rattle.dots_client.specs.Asked.{CanAsk, asked_for, withdrawn}
use Rattle.dots_client.specs.Grants.{IsGranted}
use Rattle.dots_client.specs.Requests.{asking, withdrawing}
use Rattle.dots_client.proofs.Heads.{client_length, mid_length}
use Rattle.dots_client.proofs.Read.{asking_means, withdrawing_means}
use Rattle.dots_machine.specs.Answering.{AreBytes}
use Rattle.dots_keys.specs.Exchanges.{exchange_in, dismissed}
use Rattle.dots_machine.specs.Requests.{received_as, meant}
use Rattle.dots_machine.proofs.OneAnswer.{payload_are_bytes, reads_once}
use Rattle.dots_machine.proofs.OneRequest.{one_received}
use Rattle.dots_world.specs.ReceivedAs.{IsReadAs}

-- ---- a message that asks something
pub read_as : (m : CoapMessage) (gateway : Bool) (answer : Result Request Reject) → IsMessage m → dismissed m ≡ None → Means m gateway answer → AreBytes (spelling m)
    → IsReadAs (spelling m) gateway (received_as (exchange_in m) answer)
read_as m gateway answer is asks means are =
    let received = meant m answer is refl asks means refl in
    record {
      is = received;
      only = λ other also. one_received (spelling m) gateway other (received_as (exchange_in m) answer) (λ n spelled. reads_once n.payload (payload_are_bytes (spelling m) n spelled are)) also received;
    }

-- ---- the messages of a client
module _ (number mid : ℕ) (cuid : List ℕ) (named : IsTrue (is_client_name cuid)) (below : mid < 2 ^ 32) where
  asking_message : (asked : Asked) (lifetime : ℤ) → IsMessage (asking number cuid mid asked lifetime)
  asking_message asked lifetime =
      let client = client_length cuid named in
      let digits = mid_length mid below in
      record {
        code = omega arith;
        identifier = omega arith;
        token = omega arith;
        options = ((
          omega arith,
          omega arith,
          omega arith,
          (
            omega arith,
            omega arith,
            omega arith,
            (
              omega arith,
              omega arith,
              omega arith,
              (
                omega arith,
                omega arith,
                omega (arith, client),
                (
                  omega arith,
                  omega arith,
                  omega (arith, digits),
                  (omega arith, omega arith, omega arith, tt),
                ),
              ),
            ),
          ),
        )
            );
        empty = λ none. absurd (cc none);
      }

  withdrawing_message : IsMessage (withdrawing number cuid mid)
  withdrawing_message =
      let client = client_length cuid named in
      let digits = mid_length mid below in
      record {
        code = omega arith;
        identifier = omega arith;
        token = omega arith;
        options = ((
          omega arith,
          omega arith,
          omega arith,
          (
            omega arith,
            omega arith,
            omega arith,
            (
              omega arith,
              omega arith,
              omega arith,
              (
                omega arith,
                omega arith,
                omega (arith, client),
                (omega arith, omega arith, omega (arith, digits), tt),
              ),
            ),
          ),
        )
            );
        empty = λ none. absurd (cc none);
      }

pub asking_read : (number mid : ℕ) (cuid : List ℕ) (asked : Asked) (lifetime : ℤ) → IsTrue (is_client_name cuid) → mid < 2 ^ 32 → CanAsk asked → IsGranted lifetime
    → IsValid (request_tree asked lifetime) → AreBytes (spelling (asking number cuid mid asked lifetime))
    → IsReadAs (spelling (asking number cuid mid asked lifetime)) false (received_as (exchange_in (asking number cuid mid asked lifetime)) (asked_for cuid mid asked lifetime))
asking_read number mid cuid asked lifetime named below can lasts valid are =
    read_as (asking number cuid mid asked lifetime) false (asked_for cuid mid asked lifetime) (asking_message number mid cuid named below asked lifetime) refl
    (asking_means canon_is number mid cuid asked lifetime named below can lasts valid) are

pub withdrawing_read : (number mid : ℕ) (cuid : List ℕ) → IsTrue (is_client_name cuid) → mid < 2 ^ 32 → AreBytes (spelling (withdrawing number cuid mid))
    → IsReadAs (spelling (withdrawing number cuid mid)) false (received_as (exchange_in (withdrawing number cuid mid)) (withdrawn cuid mid))
withdrawing_read number mid cuid named below are =
    read_as (withdrawing number cuid mid) false (withdrawn cuid mid) (withdrawing_message number mid cuid named below) refl (withdrawing_means number mid cuid named below) are
