-- What becomes of the first row that passes a test.
use Rattle.std.specs.Prelude.{◌≡◌, Bool, true, false, List, ◌∷◌, ◌++◌}
use Rattle.std.specs.List.{list_any}
use Rattle.session_core.specs.declared.contact.PeerContact.{PeerContact}

-- no row passes, and they are as they were
pub record IsNowhere (test : PeerContact → Bool) (old new : List PeerContact) : Type 0 where
  pub none : list_any test old ≡ false
  pub same : new ≡ old

-- This is the first row that passes. It becomes another, and the others are as they were.
pub record IsFirst (test : PeerContact → Bool) (becomes : PeerContact → PeerContact) (old new : List PeerContact) (row : PeerContact) : Type 0 where
  pub front : List PeerContact
  pub rest : List PeerContact
  pub there : old ≡ front ++ row ∷ rest
  pub none : list_any test front ≡ false
  pub passes : test row ≡ true
  pub after : new ≡ front ++ becomes row ∷ rest
