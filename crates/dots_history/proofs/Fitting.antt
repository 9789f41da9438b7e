-- An entry that has the peer of each mitigation that it touches keeps a history calm.
use Rattle.std.proofs.Common.{◌≡◌, Bool, true, false, cond, ◌||◌, List, [], ◌∷◌, ◌++◌, Some, None}
use Rattle.std.specs.Prelude.{option_to_list}
use Rattle.std.specs.List.{All}
use Rattle.std.proofs.lemmas.List.Elements.{All-head, All-tail}
use Rattle.std.proofs.lemmas.Bool.{false≢true}
use Rattle.dots_history.specs.declared.entry.Entry.{Entry}
use Rattle.dots_history.specs.declared.status.Status.{Status}
use Rattle.dots_history.specs.declared.status.Status.TheVariants.{Open}
use Rattle.dots_history.specs.Entries.{ends, withdraws, reconfigures}
use Rattle.dots_history.specs.Histories.{Mitigation, OnePeer, OneDomain, Calm, live, status, step, mitigations}
use Rattle.dots_history.specs.Keeping.{HasPeerOfEach}

push_one_peer : (put : Entry) (s : Status) (later : List Entry) (e : Entry) → OnePeer put s later
    → (live e.time put (status put s later) ≡ true → ends put e || withdraws put e ≡ true → e.peer ≡ put.peer)
    → OnePeer put s (later ++ e ∷ [])
push_one_peer put s [] e one fits = (fits, record {})
push_one_peer put s (x ∷ later) e one fits = (one.0, push_one_peer put (step put s x) later e one.1 fits)

push_one_domain : (x : Entry) (later : List Entry) (e : Entry) → OneDomain x later → (reconfigures x e ≡ true → e.domain ≡ x.domain)
    → OneDomain x (later ++ e ∷ [])
push_one_domain x [] e one fits = (fits, record {})
push_one_domain x (y ∷ later) e one fits = (one.0, push_one_domain x later e one.1 fits)

abbrev HasPeer : Entry → Mitigation → Type 0
HasPeer e m = ends m.put e || withdraws m.put e ≡ true → e.peer ≡ m.put.peer

of_first : (b : Bool) (e : Entry) (m : Mitigation) (ms : List Mitigation) → All (HasPeer e) (option_to_list (cond b (Some m) None) ++ ms) → b ≡ true → HasPeer e m
of_first true e m ms all is = All-head (HasPeer e) m ms all
of_first false e m ms all is = absurd (false≢true is)

of_others : (b : Bool) (e : Entry) (m : Mitigation) (ms : List Mitigation) → All (HasPeer e) (option_to_list (cond b (Some m) None) ++ ms) → All (HasPeer e) ms
of_others true e m ms all = All-tail (HasPeer e) m ms all
of_others false e m ms all = all

pub push_calm : (entries : List Entry) (e : Entry) → Calm entries → HasPeerOfEach entries e
    → All (λ (x : Entry). reconfigures x e ≡ true → e.domain ≡ x.domain) entries → Calm (entries ++ e ∷ [])
push_calm [] e calm peers domains = (record {}, record {}, record {})
push_calm (x ∷ later) e calm peers domains =
    let m : Mitigation = record { put = x; status = status x Open later } in
    let now = live e.time x (status x Open later) in (
      push_one_peer x Open later e calm.0 (of_first now e m (mitigations e.time later) peers),
      push_one_domain x later e calm.1 (All-head (λ (y : Entry). reconfigures y e ≡ true → e.domain ≡ y.domain) x later domains),
      push_calm
          later
          e
          calm.2
          (of_others now e m (mitigations e.time later) peers)
          (All-tail (λ (y : Entry). reconfigures y e ≡ true → e.domain ≡ y.domain) x later domains),
    )
