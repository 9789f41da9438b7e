-- The messages that clients write, and messages that ask nothing.
use Rattle.std.specs.Prelude.{IsTrue, nat_le}
use Rattle.std.specs.List.{list_all}
use Rattle.std.specs.Char.{is_ascii_graphic}
use Rattle.std.specs.Int.{w64, to_be_bytes}
use Rattle.std.proofs.Common.{◌≡◌, inl, inr, ℕ, ℤ, ◌<◌, ◌≤◌, ◌^◌, ◌&&◌, Bool, true, false, List, [], ◌++◌, length, codes, decimal, Contains, refl, sym, ap, ◌∙◌, subst, arith}
use Rattle.std.proofs.lemmas.Bool.{and_parts, leb-true}
use Rattle.std.proofs.lemmas.Fmt.{length-decimal-le}
use Rattle.std.proofs.lemmas.List.{length-append}
use Rattle.acl_lists.specs.declared.asked.Asked.{Asked}
use Rattle.coap_message.specs.declared.kind.Kind.TheVariants.{Non}
use Rattle.coap_message.specs.Message.{CoapMessage, IsMessage, spelling}
use Rattle.coap_message.proofs.Whole.{one_message}
use Rattle.dots_keys.specs.Exchanges.{is_request}
use Rattle.dots_lists.specs.Name.{is_name}
use Rattle.dots_client.specs.Requests.{asking, withdrawing}
use Rattle.dots_client.specs.declared.heard.Heard.{Heard}
use Rattle.dots_client.specs.declared.heard.Heard.TheVariants as heard
use Rattle.dots_client.specs.Client.{ClientValue}
use Rattle.dots_client.specs.Receiving.{Receives, is_spent_hop, beat_code, beat_answer}
use Rattle.dots_keys.specs.Options.{value_of}
use Rattle.dots_world.specs.Worlds.{Aim, mitigates, withdraws, message_with, answers_to}
use Rattle.dots_world.proofs.Lists.{not_in_none, contains_cases}

-- ---- what a client writes is a message

pub client_length : (cuid : List ℕ) → IsTrue (is_name cuid) → length (codes "cuid=" ++ cuid) ≤ 255
client_length cuid is =
    let parts = and_parts (nat_le 1 (length cuid) && nat_le (length cuid) 64) (list_all is_ascii_graphic cuid) is in
    let few = leb-true (length cuid) 64 (and_parts (nat_le 1 (length cuid)) (nat_le (length cuid) 64) parts.0).1 in
    let sum = length-append (codes "cuid=") cuid in
    omega (arith, sum, few)

pub mid_length : (mid : ℕ) → mid < 2 ^ 32 → length (codes "mid=" ++ decimal mid) ≤ 255
mid_length mid below =
    let few = length-decimal-le 10 mid (omega arith) (omega (arith, below)) (omega (arith, below)) in
    let sum = length-append (codes "mid=") (decimal mid) in
    omega (arith, sum, few)

module _ (number mid : ℕ) (cuid : List ℕ) (named : IsTrue (is_name cuid)) (below : mid < 2 ^ 32) where
  named_length : length (codes "cuid=" ++ cuid) ≤ 65804
  named_length = let few = client_length cuid named in omega (arith, few)

  digits : length (codes "mid=" ++ decimal mid) ≤ 65804
  digits = let few = mid_length mid below in omega (arith, few)

  asking_message : (asked : Asked) (lifetime : ℤ) → IsMessage (asking number cuid mid asked lifetime)
  asking_message asked lifetime =
      record {
        code = omega arith;
        identifier = omega arith;
        token = omega arith;
        options = ((
          omega arith,
          omega arith,
          omega arith,
          (
            omega arith,
            omega arith,
            omega arith,
            (
              omega arith,
              omega arith,
              omega arith,
              (
                omega arith,
                omega arith,
                named_length,
                (
                  omega arith,
                  omega arith,
                  digits,
                  (omega arith, omega arith, omega arith, tt),
                ),
              ),
            ),
          ),
        )
            );
        empty = λ none. absurd (cc none);
      }

  withdrawing_message : IsMessage (withdrawing number cuid mid)
  withdrawing_message =
      record {
        code = omega arith;
        identifier = omega arith;
        token = omega arith;
        options = ((
          omega arith,
          omega arith,
          omega arith,
          (
            omega arith,
            omega arith,
            omega arith,
            (
              omega arith,
              omega arith,
              omega arith,
              (
                omega arith,
                omega arith,
                named_length,
                (omega arith, omega arith, digits, tt),
              ),
            ),
          ),
        )
            );
        empty = λ none. absurd (cc none);
      }

  pub written : (aim : Aim) → IsMessage (message_with number cuid mid aim)
  written (mitigates asked lifetime) = asking_message asked lifetime
  written withdraws = withdrawing_message

pub written_token : (number mid : ℕ) (cuid : List ℕ) (aim : Aim) → (message_with number cuid mid aim).token ≡ to_be_bytes w64 number
written_token number mid cuid (mitigates asked lifetime) = refl
written_token number mid cuid withdraws = refl

-- ---- what asks nothing

pub record IsAnswer (bytes : List ℕ) : Type 0 where
  pub message : CoapMessage
  pub is_message : IsMessage message
  pub spelled : bytes ≡ spelling message
  pub asks : is_request message ≡ false

-- a message that answers a heartbeat asks nothing
beat_says : (m : CoapMessage) → IsMessage m → IsAnswer (beat_answer m)
beat_says m is = record {
  message = record { kind = Non; code = beat_code (is_spent_hop (value_of 16 m.options)); identifier = m.identifier; token = m.token; options = []; payload = [] };
  is_message = record {
    code = small (is_spent_hop (value_of 16 m.options));
    identifier = is.identifier;
    token = is.token;
    options = tt;
    empty = λ none. absurd (some (is_spent_hop (value_of 16 m.options)) none);
  };
  spelled = refl;
  asks = quiet (is_spent_hop (value_of 16 m.options));
}
  where
    small : (b : Bool) → beat_code b < 256
    small true = omega arith
    small false = omega arith

    some : (b : Bool) → beat_code b ≡ 0 → ⊥
    some true none = cc none
    some false none = cc none

    quiet : (b : Bool) → is_request (record { kind = Non; code = beat_code b; identifier = m.identifier; token = m.token; options = []; payload = [] }) ≡ false
    quiet true = refl
    quiet false = refl

-- what a client answers asks nothing
pub answers_nothing : (k : ClientValue) (bytes : List ℕ) (now : ℕ) (said : Heard) (new : ClientValue) → Receives k bytes now said new
    → (message : List ℕ) → Contains (answers_to said) message → IsAnswer message
answers_nothing k bytes now (heard.Beat answer) new h message there =
    elim (contains_cases answer [] message there) [
      | inl is ↦ subst IsAnswer (sym h.4 ∙ is) (beat_says h.0 h.1)
      | inr none ↦ absurd (not_in_none message none)
    ]
answers_nothing k bytes now heard.Nothing new h message there = absurd (not_in_none message there)
answers_nothing k bytes now heard.NoMemory new h message there = absurd (not_in_none message there)
answers_nothing k bytes now (heard.Granted mid) new h message there = absurd (not_in_none message there)
answers_nothing k bytes now (heard.Withdrawn mid) new h message there = absurd (not_in_none message there)
answers_nothing k bytes now (heard.Refused mid code) new h message there = absurd (not_in_none message there)

-- bytes that ask nothing are no message that asks
pub answers_no_request : (bytes : List ℕ) (m : CoapMessage) → IsAnswer bytes → IsMessage m → bytes ≡ spelling m → is_request m ≡ true → ⊥
answers_no_request bytes m a is spelled asks =
    let same = one_message a.message m a.is_message is (sym a.spelled ∙ spelled) in
    let no = sym a.asks ∙ ap is_request same ∙ asks in
    cc no
