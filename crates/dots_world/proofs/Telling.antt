-- Which messages tell a grant.
use Rattle.std.specs.Prelude.{slice_get}
use Rattle.std.proofs.Common.{◌≡◌, inl, inr, ◌⊎◌, ℕ, ℤ, ◌==◌, ◌&&◌, ◌||◌, Bool, true, false, List, [], ◌∷◌, Some, Contains, sym, ap, ◌∙◌, subst}
use Rattle.std.proofs.lemmas.Bool.{false≢true, and_parts, eqb-true}
use Rattle.std.proofs.lemmas.Option.{slice_get_within, get_or_from_slice_get}
use Rattle.cbor_profile.specs.Spelling.{Spells, SpellsWithin, Encloses, definite, indefinite}
use Rattle.coap_message.specs.declared.codes.TheConstants.{CREATED, CHANGED}
use Rattle.coap_message.specs.Message.{CoapMessage, IsMessage, spelling}
use Rattle.dots_history.specs.declared.entry.Entry.{Entry}
use Rattle.dots_history.specs.Entries.{is_signal, signals}
use Rattle.reply_bodies.specs.Mitigations.{granted_tree}
use Rattle.dots_keys.specs.declared.exchange.Exchange.{Exchange}
use Rattle.dots_keys.specs.Exchanges.{reply_kind}
use Rattle.dots_keys.specs.Replies.{dots_cbor}
use Rattle.dots_machine.specs.Observing.{code_of}
use Rattle.dots_world.specs.Granting.{IsGrant}

-- 2.01 or 2.04
abbrev pub may_grant : ℕ → Bool
may_grant code = (code == CREATED) || (code == CHANGED)

-- a message with such a code and a payload
pub record Says (bytes : List ℕ) : Type 0 where
  pub message : CoapMessage
  pub is_message : IsMessage message
  pub spelled : bytes ≡ spelling message
  pub code : may_grant message.code ≡ true
  pub filled : message.payload ≡ [] → ⊥

abbrev pub IsQuiet : List ℕ → Type 0
IsQuiet bytes = Says bytes → ⊥

-- a reply without a body, and one with it
abbrev pub plain_message : ℕ → Exchange → List ℕ → CoapMessage
plain_message code x text = record { kind = reply_kind x.kind; code = code; identifier = x.id; token = x.token; options = []; payload = text }

abbrev pub body_message : ℕ → Exchange → List ℕ → CoapMessage
body_message code x body = record { kind = reply_kind x.kind; code = code; identifier = x.id; token = x.token; options = dots_cbor ∷ []; payload = body }

pub quiet : (m : CoapMessage) → may_grant m.code ≡ false → IsQuiet (spelling m)
quiet m none says = false≢true (sym none ∙ ap (λ bytes. may_grant (code_of bytes)) says.spelled ∙ says.code)

code_grants : (code : ℕ) → (code ≡ CREATED) ⊎ (code ≡ CHANGED) → may_grant code ≡ true
code_grants code (inl is) = ap may_grant is
code_grants code (inr is) = ap may_grant is

-- nothing spells no item
unspelled : (mid : ℕ) (lifetime : ℤ) → Spells [] (granted_tree mid lifetime) 0 → ⊥
unfolding SpellsWithin
unspelled mid lifetime (le, inl plain) = plain
unspelled mid lifetime (le, inr nest) = unheld nest.2
  where
    unheld : {major n : ℕ} {content : List ℕ} → Encloses major n content [] → ⊥
    unheld (definite head is e) = let starts = is.is in cc
    unheld (indefinite e) = cc e

pub grant_says : (bytes token : List ℕ) (mid : ℕ) (lifetime : ℤ) → IsGrant bytes token mid lifetime → Says bytes
grant_says bytes token mid lifetime g = record {
  message = g.message;
  is_message = g.is_message;
  spelled = g.spelled;
  code = code_grants g.message.code g.grants.code;
  filled = λ none. unspelled mid lifetime (subst (λ payload. Spells payload (granted_tree mid lifetime) 0) none g.grants.body);
}

-- ---- of lists and entries
pub slice_contains : {X : Type 0} (xs : List X) (i : ℕ) (x : X) → slice_get xs i ≡ Some x → Contains xs x
slice_contains xs i x e = (i, slice_get_within xs i x e, get_or_from_slice_get xs i x x e)

pub signals_peer : (peer domain : ℕ) (entry : Entry) → signals peer domain entry ≡ true → entry.peer ≡ peer
unfolding signals
signals_peer peer domain entry is =
    let whose = and_parts (is_signal entry.change) ((entry.peer == peer) && (entry.domain == domain)) is in
    eqb-true entry.peer peer (and_parts (entry.peer == peer) (entry.domain == domain) whose.1).0
