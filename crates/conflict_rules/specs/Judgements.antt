-- How a request for a mitigation is judged, by places in the list of the entries, which are numbered from 0 (RFC 9132,
-- section 4.4.1). What is live, stands or is held at a place is said in `dots_history`.
use Rattle.std.specs.Prelude.{◌≡◌, ◌≢◌, ◌⊎◌, ℕ, zero, suc, ◌<◌, ◌≤◌, true, false, List, [], ◌∷◌, ◌++◌, length, Result, Ok, Err}
use Rattle.ip_scope.specs.Prefix.{PrefixValue, meets}
use Rattle.acl_lists.specs.declared.limits.TheConstants.{MAX_RESOLVED}
use Rattle.acl_lists.specs.declared.alias.Alias.{Alias}
use Rattle.acl_lists.specs.declared.asked.Asked.{Asked}
use Rattle.dots_settings.specs.Settings.{SettingsValue}
use Rattle.dots_history.specs.declared.entry.Entry.{Entry}
use Rattle.dots_history.specs.declared.put.Put.{Put}
use Rattle.dots_history.specs.declared.put.Target.{Target}
use Rattle.dots_history.specs.declared.change.Change.TheVariants as change
use Rattle.dots_history.specs.Bounds.{prefix_count}
use Rattle.dots_history.specs.Entries.{some_prefix}
use Rattle.dots_history.specs.Places.{Stands, Live, IsHeld}
use Rattle.dots_history.specs.Tables.{Client}
use Rattle.conflict_rules.specs.declared.by_overlap.Which.TheVariants as which
use Rattle.conflict_rules.specs.Asking.{would_refresh}
use Rattle.conflict_rules.specs.Wanted.{wanted}
use Rattle.conflict_rules.specs.ByOverlap.{resolved, rivals}
use Rattle.conflict_rules.specs.declared.fault.PutFault.{PutFault}
use Rattle.conflict_rules.specs.declared.fault.PutFault.TheVariants as faults
use Rattle.conflict_rules.specs.declared.judging.Judged.{Judged}
use Rattle.conflict_rules.specs.Requests.{Request}
use Rattle.conflict_rules.specs.Targets.{target_of, own_target}
use Rattle.conflict_rules.specs.Judging.{refreshed, begun}

-- ---- what there is at a place

-- At place i is a live mitigation of the domain, which stands or is terminating.
pub record LivesIn (domain t : ℕ) (entries : List Entry) (i : ℕ) (e : Entry) (put : Put) : Type 0 where
  pub live : Live entries i t e
  pub of_domain : e.domain ≡ domain
  pub puts : e.change ≡ change.Put put

-- At place i is a mitigation of the domain that stands.
pub record StandsIn (domain t : ℕ) (entries : List Entry) (i : ℕ) (e : Entry) (put : Put) : Type 0 where
  pub stands : Stands entries i t e
  pub of_domain : e.domain ≡ domain
  pub puts : e.change ≡ change.Put put

-- At place i the client wrote what is held.
pub record HoldsIn (client : Client) (entries : List Entry) (i : ℕ) (e : Entry) : Type 0 where
  pub held : IsHeld entries i e
  pub of_domain : e.domain ≡ client.domain
  pub of_cuid : e.cuid ≡ client.cuid

-- ---- the client's name and the mid

-- The client's name is in use by another peer: a live mitigation of the client has another peer, or its registration does.
-- That is the first that is held; in a calm history there is one at most.
pub data IsTaken (t : ℕ) (entries : List Entry) (client : Client) (peer : ℕ) : Type 0 where
  by_mitigation : (i : ℕ) (e : Entry) (put : Put) → LivesIn client.domain t entries i e put → e.cuid ≡ client.cuid → e.peer ≢ peer → IsTaken t entries client peer
  by_registration :
      (i : ℕ) (e : Entry) → HoldsIn client entries i e → e.change ≡ change.Register
      → ((j : ℕ) (x : Entry) → j < i → HoldsIn client entries j x → x.change ≢ change.Register) → e.peer ≢ peer → IsTaken t entries client peer

-- A mitigation of the client with this mid stands, and was granted this.
pub record HasMid (t : ℕ) (entries : List Entry) (client : Client) (mid : ℕ) (put : Put) : Type 0 where
  pub place : ℕ
  pub entry : Entry
  pub stands : StandsIn client.domain t entries place entry put
  pub of_client : entry.cuid ≡ client.cuid
  pub of_mid : put.mid ≡ mid

-- ---- the targets

-- The client holds this alias.
pub record HoldsAlias (entries : List Entry) (client : Client) (alias : Alias) : Type 0 where
  pub place : ℕ
  pub entry : Entry
  pub holds : HoldsIn client entries place entry
  pub writes : entry.change ≡ change.SetAlias alias

-- It holds none of this name, which is one of these.
pub record HasUnknown (entries : List Entry) (client : Client) (names : List (List ℕ)) : Type 0 where
  pub before : List (List ℕ)
  pub name : List ℕ
  pub after : List (List ℕ)
  pub asked : names ≡ before ++ name ∷ after
  pub unknown : (alias : Alias) → HoldsAlias entries client alias → alias.name ≢ name

-- the targets of the aliases of these names, in order, each of which the client holds
abbrev pub AliasTargets : SettingsValue → List Entry → Client → List (List ℕ) → List Target → Type 0
AliasTargets settings entries client [] targets = targets ≡ []
AliasTargets settings entries client (name ∷ names) targets =
    (alias : Alias)
    × (rest : List Target)
    × HoldsAlias entries client alias
    × (alias.name ≡ name)
    × (targets ≡ target_of settings alias.asked ∷ rest)
    × AliasTargets settings entries client names rest

-- The targets of what is asked: that of its own prefixes and host names, where they come to a prefix, and then those of its
-- aliases.
abbrev pub AreTargets : SettingsValue → List Entry → Client → Asked → List Target → Type 0
AreTargets settings entries client asked targets =
    (rest : List Target) × (targets ≡ own_target settings asked ++ rest) × AliasTargets settings entries client asked.aliases rest

-- ---- what stands against it

-- A standing mitigation of the client has the trigger value of what is wanted, overlaps with it, and has this higher mid.
pub record IsHigher (t : ℕ) (entries : List Entry) (client : Client) (wants : Put) (mid : ℕ) : Type 0 where
  pub place : ℕ
  pub entry : Entry
  pub put : Put
  pub stands : StandsIn client.domain t entries place entry put
  pub of_client : entry.cuid ≡ client.cuid
  pub of_mid : put.mid ≡ mid
  pub higher : wants.mid < mid
  pub overlapping : rivals put wants ≡ true

-- The prefix meets one of a standing mitigation of another client of the domain.
pub record Meets (t : ℕ) (entries : List Entry) (client : Client) (prefix : PrefixValue) : Type 0 where
  pub place : ℕ
  pub entry : Entry
  pub put : Put
  pub stands : StandsIn client.domain t entries place entry put
  pub of_another : entry.cuid ≢ client.cuid
  pub meeting : some_prefix (meets prefix) put.targets ≡ true

-- those of these that have it, in order
abbrev pub Those : {A : Type 0} → (A → Type 0) → List A → List A → Type 0
Those Has [] those = those ≡ []
Those {A} Has (x ∷ xs) those =
    (Has x × ((rest : List A) × (those ≡ x ∷ rest) × Those Has xs rest)) ⊎ ((Has x → ⊥) × Those Has xs those)

-- At place i is a live mitigation of the domain that what is wanted wouldn't end: it is of another client, or has another
-- mid, and another trigger value or no overlap.
pub record Stays (t : ℕ) (entries : List Entry) (client : Client) (wants : Put) (i : ℕ) : Type 0 where
  pub entry : Entry
  pub put : Put
  pub lives : LivesIn client.domain t entries i entry put
  pub unended : entry.cuid ≡ client.cuid → (put.mid ≢ wants.mid) × (rivals put wants ≡ false)

-- and it is the client's own
pub record StaysOwn (t : ℕ) (entries : List Entry) (client : Client) (wants : Put) (i : ℕ) : Type 0 where
  pub entry : Entry
  pub put : Put
  pub lives : LivesIn client.domain t entries i entry put
  pub of_client : entry.cuid ≡ client.cuid
  pub unended : (put.mid ≢ wants.mid) × (rivals put wants ≡ false)

-- of so many places from place i on, n have it
abbrev pub Number : (ℕ → Type 0) → ℕ → ℕ → ℕ → Type 0
Number Has i zero n = n ≡ 0
Number Has i (suc places) n =
    (Has i × ((m : ℕ) × (n ≡ suc m) × Number Has (suc i) places m)) ⊎ ((Has i → ⊥) × Number Has (suc i) places n)

-- ---- the judgement

-- The name is the peer's to use, no mitigation of the mid stands, the client holds each alias, and the targets, which are
-- these, have at most 128 prefixes.
pub record IsNew (settings : SettingsValue) (t : ℕ) (entries : List Entry) (client : Client) (request : Request) (targets : List Target) : Type 0 where
  pub free : IsTaken t entries client request.peer → ⊥
  pub unused : (put : Put) → HasMid t entries client request.mid put → ⊥
  pub are : AreTargets settings entries client request.asked targets
  pub few : prefix_count targets ≤ MAX_RESOLVED

-- and no standing mitigation of the client overlaps and has a higher mid
pub record IsHighest (settings : SettingsValue) (t : ℕ) (entries : List Entry) (client : Client) (request : Request) (targets : List Target) : Type 0 where
  pub is_new : IsNew settings t entries client request targets
  pub none_higher : (mid : ℕ) → IsHigher t entries client (wanted request.mid request.asked targets request.trigger) mid → ⊥

-- and no prefix meets a standing mitigation of another client; so many live ones of the client, and of the domain, would stay
-- beside it
pub record IsFree (settings : SettingsValue) (t : ℕ) (entries : List Entry) (client : Client) (request : Request) (targets : List Target) (own all : ℕ) : Type 0 where
  pub is_highest : IsHighest settings t entries client request targets
  pub none_meets : Those (Meets t entries client) (resolved targets) []
  pub own_stay : Number (StaysOwn t entries client (wanted request.mid request.asked targets request.trigger)) 0 (length entries) own
  pub all_stay : Number (Stays t entries client (wanted request.mid request.asked targets request.trigger)) 0 (length entries) all

-- The rules, in their order: the first that applies gives the result.
pub data IsJudged (settings : SettingsValue) (t : ℕ) (entries : List Entry) (client : Client) (request : Request) (result : Result Judged PutFault) : Type 0 where
  collision : IsTaken t entries client request.peer → result ≡ Err faults.Collision → IsJudged settings t entries client request result
  refreshes :
      (put : Put) → (IsTaken t entries client request.peer → ⊥) → HasMid t entries client request.mid put → would_refresh request.asked request.trigger put ≡ true
      → result ≡ Ok (refreshed settings put request) → IsJudged settings t entries client request result
  changes :
      (put : Put) → (IsTaken t entries client request.peer → ⊥) → HasMid t entries client request.mid put → would_refresh request.asked request.trigger put ≡ false
      → result ≡ Err faults.Changed → IsJudged settings t entries client request result
  unknown :
      (IsTaken t entries client request.peer → ⊥) → ((put : Put) → HasMid t entries client request.mid put → ⊥) → HasUnknown entries client request.asked.aliases
      → result ≡ Err faults.UnknownAlias → IsJudged settings t entries client request result
  too_many :
      (targets : List Target) → (IsTaken t entries client request.peer → ⊥) → ((put : Put) → HasMid t entries client request.mid put → ⊥)
      → AreTargets settings entries client request.asked targets → MAX_RESOLVED < prefix_count targets
      → result ≡ Err faults.TooMany → IsJudged settings t entries client request result
  higher :
      (targets : List Target) (mid : ℕ) → IsNew settings t entries client request targets
      → IsHigher t entries client (wanted request.mid request.asked targets request.trigger) mid
      → ((other : ℕ) → IsHigher t entries client (wanted request.mid request.asked targets request.trigger) other → other ≤ mid)
      → result ≡ Err (faults.Higher mid) → IsJudged settings t entries client request result
  other :
      (targets : List Target) (prefixes : List PrefixValue) → IsHighest settings t entries client request targets
      → Those (Meets t entries client) (resolved targets) prefixes → prefixes ≢ []
      → result ≡ Err (faults.Other prefixes) → IsJudged settings t entries client request result
  client_full :
      (targets : List Target) (own all : ℕ) → IsFree settings t entries client request targets own all → settings.limits.client_mitigations ≤ own
      → result ≡ Err (faults.Capacity which.Client own) → IsJudged settings t entries client request result
  domain_full :
      (targets : List Target) (own all : ℕ) → IsFree settings t entries client request targets own all → own < settings.limits.client_mitigations
      → settings.limits.domain_mitigations ≤ all
      → result ≡ Err (faults.Capacity which.Domain all) → IsJudged settings t entries client request result
  begins :
      (targets : List Target) (own all : ℕ) → IsFree settings t entries client request targets own all → own < settings.limits.client_mitigations
      → all < settings.limits.domain_mitigations
      → result ≡ Ok (begun settings targets t request) → IsJudged settings t entries client request result
