-- What the types of an entry's fields say of their values: numbers fit their types, names are names, prefixes are
-- prefixes, and the lower port of a range is at most its upper one.
use Rattle.std.specs.Prelude.{ℕ, ◌^◌, ◌<◌, ◌≤◌, Option, Some, None, List, IsTrue, FitsSigned}
use Rattle.std.specs.List.{AllByRecursion}
use Rattle.std.specs.Int.{w32}
use Rattle.dots_lists.specs.Name.{is_name}
use Rattle.ip_scope.specs.Prefix.{IsPrefix}
use Rattle.ip_scope.specs.Ports.{Ports}
use Rattle.acl_lists.specs.declared.ace.Ace.{Ace}
use Rattle.acl_lists.specs.declared.acl.Acl.{Acl}
use Rattle.acl_lists.specs.declared.alias.Alias.{Alias}
use Rattle.acl_lists.specs.declared.asked.Asked.{Asked}
use Rattle.acl_lists.specs.declared.port_test.PortTest.{PortTest}
use Rattle.acl_lists.specs.declared.port_test.PortTest.TheVariants as port
use Rattle.dots_history.specs.declared.change.Change.{Change}
use Rattle.dots_history.specs.declared.change.Change.TheVariants as change
use Rattle.dots_history.specs.declared.entry.Entry.{Entry}
use Rattle.dots_history.specs.declared.entry.MessageKey.{MessageKey}
use Rattle.dots_history.specs.declared.entry.MessageKey.TheVariants as key
use Rattle.dots_history.specs.declared.put.Put.{Put}
use Rattle.dots_history.specs.declared.put.Target.{Target}

abbrev pub IsByte : ℕ → Type 0
IsByte b = b < 2 ^ 8

abbrev pub IsName : List ℕ → Type 0
IsName name = IsTrue (is_name name)

pub record IsRange (ports : Ports) : Type 0 where
  pub ordered : ports.lower ≤ ports.upper
  pub fits : ports.upper < 2 ^ 16

-- of a value that may be there
abbrev pub IfThere : {A : Type 0} → (A → Type 0) → Option A → Type 0
IfThere P None = Unit {0}
IfThere P (Some x) = P x

pub record IsAsked (asked : Asked) : Type 0 where
  pub prefixes : AllByRecursion IsPrefix asked.prefixes
  pub ports : AllByRecursion IsRange asked.ports
  pub protocols : AllByRecursion IsByte asked.protocols
  pub names : AllByRecursion IsName asked.names
  pub aliases : AllByRecursion IsName asked.aliases

pub record IsAlias (alias : Alias) : Type 0 where
  pub name : IsName alias.name
  pub asked : IsAsked alias.asked

abbrev pub IsTest : PortTest → Type 0
IsTest port.Any = Unit {0}
IsTest (port.Eq p) = p < 2 ^ 16
IsTest (port.Neq p) = p < 2 ^ 16
IsTest (port.Lte p) = p < 2 ^ 16
IsTest (port.Gte p) = p < 2 ^ 16
IsTest (port.Range ports) = IsRange ports

pub record IsAce (ace : Ace) : Type 0 where
  pub name : IsName ace.name
  pub source : IfThere IsPrefix ace.source
  pub destination : IfThere IsPrefix ace.destination
  pub protocol : IfThere IsByte ace.protocol
  pub source_port : IsTest ace.source_port
  pub destination_port : IsTest ace.destination_port

pub record IsAcl (acl : Acl) : Type 0 where
  pub name : IsName acl.name
  pub aces : AllByRecursion IsAce acl.aces

pub record IsTarget (target : Target) : Type 0 where
  pub prefixes : AllByRecursion IsPrefix target.prefixes
  pub ports : AllByRecursion IsRange target.ports
  pub protocols : AllByRecursion IsByte target.protocols

pub record IsPut (put : Put) : Type 0 where
  pub mid : put.mid < 2 ^ 32
  pub asked : IsAsked put.asked
  pub targets : AllByRecursion IsTarget put.targets
  pub granted : FitsSigned w32 put.granted
  pub start : put.start < 2 ^ 64

-- The values of a configuration are within 2^32 by the bounds of an entry.
abbrev pub IsChange : Change → Type 0
IsChange (change.Put put) = IsPut put
IsChange (change.Withdraw mid) = mid < 2 ^ 32
IsChange (change.SetAlias alias) = IsAlias alias
IsChange (change.DropAlias name) = IsName name
IsChange (change.SetAcl acl) = IsAcl acl
IsChange (change.DropAcl name) = IsName name
IsChange change.Register = Unit {0}
IsChange change.Deregister = Unit {0}
IsChange (change.SetConfig sid config) = sid < 2 ^ 32
IsChange change.ClearConfig = Unit {0}
IsChange change.Lost = Unit {0}
IsChange change.Back = Unit {0}

abbrev pub IsKey : MessageKey → Type 0
IsKey key.Http = Unit {0}
IsKey (key.Non id) = id < 2 ^ 16
IsKey (key.Con id) = id < 2 ^ 16

pub record IsEntry (entry : Entry) : Type 0 where
  pub peer : entry.peer < 2 ^ 32
  pub domain : entry.domain < 2 ^ 16
  pub key : IsKey entry.key
  pub reply : AllByRecursion IsByte entry.reply
  pub change : IsChange entry.change
