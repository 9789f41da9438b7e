-- What bytes grant is one thing, and the reply to a request that is granted grants it.
use Rattle.std.specs.Prelude.{FitsSigned}
use Rattle.std.specs.Int.{w32}
use Rattle.std.proofs.Common.{◌≡◌, ◌⊎◌, inl, inr, ℕ, ℤ, pos, negsuc, ◌<◌, ◌≤◌, ◌^◌, Bool, true, false, List, [], ◌∷◌, length, refl, sym, ap, ◌∙◌, subst, arith}
use Rattle.cbor_profile.specs.Canon.{canon}
use Rattle.cbor_profile.specs.Spelling.{Spells}
use Rattle.cbor_profile.proofs.WholeReading.{same_reading, canon_is}
use Rattle.coap_message.specs.declared.codes.TheConstants.{CREATED, CHANGED}
use Rattle.coap_message.specs.Message.{CoapMessage, IsMessage, spelling}
use Rattle.coap_message.proofs.Whole.{one_message}
use Rattle.reply_bodies.specs.Maps.{integer}
use Rattle.reply_bodies.specs.Mitigations.{granted_scope, granted_tree}
use Rattle.reply_bodies.proofs.Shapes.{granted_within, mitigations_valid}
use Rattle.dots_client.specs.Grants.{IsGranted}
use Rattle.dots_history.specs.declared.put.Put.{Put}
use Rattle.dots_keys.specs.declared.exchange.Exchange.{Exchange}
use Rattle.dots_machine.specs.Replies.{grant_code, granting}
use Rattle.dots_world.specs.Granting.{IsGrant}
use Rattle.dots_world.proofs.Telling.{body_message}

-- ---- one grant
one_integer : (a b : ℤ) → integer a ≡ integer b → a ≡ b
one_integer (pos m) (pos n) e = cc
one_integer (pos m) (negsuc n) e = absurd (cc e)
one_integer (negsuc m) (pos n) e = absurd (cc e)
one_integer (negsuc m) (negsuc n) e = cc

pub one_tree : (mid other : ℕ) (lifetime last : ℤ) → granted_tree mid lifetime ≡ granted_tree other last → (mid ≡ other) × (lifetime ≡ last)
one_tree mid other lifetime last e =
    let values : integer lifetime ≡ integer last = cc in
    (cc, one_integer lifetime last values)

-- what a message of these bytes tells, whose payload spells the tree of a grant
module _ (bytes token : List ℕ) (mid other_mid : ℕ) (lifetime other_lifetime : ℤ) where
  pub one_granted : IsGrant bytes token mid lifetime → (m : CoapMessage) → IsMessage m → bytes ≡ spelling m → Spells m.payload (granted_tree other_mid other_lifetime) 0
      → (token ≡ m.token) × (mid ≡ other_mid) × (lifetime ≡ other_lifetime)
  one_granted a m is spelled other =
      let same : a.message ≡ m = one_message a.message m a.is_message is (sym a.spelled ∙ spelled) in
      let body : Spells m.payload (granted_tree mid lifetime) 0 = subst (λ (n : CoapMessage). Spells n.payload (granted_tree mid lifetime) 0) same a.grants.body in
      let tree = (same_reading m.payload m.payload [] [] (granted_tree mid lifetime) (granted_tree other_mid other_lifetime) 16 body.1 other.1 refl).0 in
      let both = one_tree mid other_mid lifetime other_lifetime tree in
      (sym a.token_is ∙ ap (λ (n : CoapMessage). n.token) same, both.0, both.1)

pub one_grant : (bytes token other_token : List ℕ) (mid other_mid : ℕ) (lifetime other_lifetime : ℤ)
    → IsGrant bytes token mid lifetime → IsGrant bytes other_token other_mid other_lifetime → (token ≡ other_token) × (mid ≡ other_mid) × (lifetime ≡ other_lifetime)
one_grant bytes token other_token mid other_mid lifetime other_lifetime a b =
    let told = one_granted bytes token mid other_mid lifetime other_lifetime a b.message b.is_message b.spelled b.grants.body in
    (told.0 ∙ b.token_is, told.1, told.2)

-- ---- the reply to a request that is granted
pub lasting : (lifetime : ℤ) → IsGranted lifetime → FitsSigned w32 lifetime
lasting (pos n) is = omega (arith, is.1)
lasting (negsuc n) is = omega (arith, is)

pub spelled : (mid : ℕ) (lifetime : ℤ) → mid < 2 ^ 32 → FitsSigned w32 lifetime → Spells (canon (granted_tree mid lifetime)) (granted_tree mid lifetime) 0
spelled mid lifetime small fits =
    canon_is (granted_tree mid lifetime) (mitigations_valid (granted_scope mid lifetime ∷ []) (record { each = (granted_within mid lifetime (omega (arith, small)) fits, tt) }) (omega arith))

module _ (x : Exchange) (put : Put) where
  abbrev pub granted_message : Bool → CoapMessage
  granted_message refreshed = body_message (grant_code refreshed) x (canon (granted_tree put.mid put.granted))

  pub is_message : (refreshed : Bool) → x.id < 2 ^ 16 → length x.token ≤ 8 → IsMessage (granted_message refreshed)
  is_message true id token = record { code = omega arith; identifier = id; token = token; options = (omega arith, omega arith, omega arith, tt); empty = λ none. absurd (cc none) }
  is_message false id token = record { code = omega arith; identifier = id; token = token; options = (omega arith, omega arith, omega arith, tt); empty = λ none. absurd (cc none) }

  codes_are : (refreshed : Bool) → (grant_code refreshed ≡ CREATED) ⊎ (grant_code refreshed ≡ CHANGED)
  codes_are true = inr refl
  codes_are false = inl refl

  pub grant_is : (refreshed : Bool) → x.id < 2 ^ 16 → length x.token ≤ 8 → put.mid < 2 ^ 32 → IsGranted put.granted
      → IsGrant (granting x (record { put = put; refreshed = refreshed })) x.token put.mid put.granted
  grant_is refreshed id token small is = record {
    message = granted_message refreshed;
    is_message = is_message refreshed id token;
    spelled = refl;
    token_is = refl;
    grants = record { code = codes_are refreshed; body = spelled put.mid put.granted small (lasting put.granted is); lasts = is };
  }
