-- What a request for a mitigation asks for, and what is held of its client.
use Rattle.std.specs.Prelude.{ℕ, ℤ, Bool, not, ◌==◌, List, Option}
use Rattle.acl_lists.specs.declared.alias.Alias.{Alias}
use Rattle.acl_lists.specs.declared.asked.Asked.{Asked}
use Rattle.dots_history.specs.Entries.{option_any}

-- Who asks for which client, and for what; the lifetime is in seconds, or -1. The mitigation is to filter at once, or only
-- while the signal of its client is lost (RFC 9132, section 4.4.1: `trigger-mitigation`).
pub record Request : Type 0 where
  pub peer : ℕ
  pub cuid : List ℕ
  pub mid : ℕ
  pub asked : Asked
  pub lifetime : ℤ
  pub trigger : Bool

-- the peer that registered the client, where it is registered, and its aliases
pub record ClientValue : Type 0 where
  pub registrant : Option ℕ
  pub aliases : List Alias

-- it is registered, by another peer than this one
abbrev pub is_of_another : ℕ → ClientValue → Bool
is_of_another peer client = option_any (λ other. not (other == peer)) client.registrant
