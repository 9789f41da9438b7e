-- What is read of a history at a time.
use Rattle.std.specs.Prelude.{◌≡◌, ℕ, Bool, ◌&&◌, ◌==◌, List, map}
use Rattle.std.specs.List.{list_any}
use Rattle.ip_scope.specs.Prefix.{PrefixValue}
use Rattle.acl_lists.specs.declared.acl.Activation.{Activation}
use Rattle.acl_lists.specs.declared.packet.Packet.{Packet}
use Rattle.dots_history.specs.declared.entry.Entry.{Entry}
use Rattle.dots_history.specs.Histories.{Mitigation, seconds_left, mitigations, held, last, remembered}
use Rattle.dots_history.specs.Rows.{scrub_rows, list_rows, acl_rows, is_mitigating, is_active, is_lost_in, works, waits, fate}

-- an active mitigation of the peer is live
abbrev pub is_mitigated : ℕ → List Entry → ℕ → Bool
is_mitigated t entries peer = list_any (λ (m : Mitigation). (m.put.peer == peer) && works (held entries) m.put) (mitigations t entries)

-- a mitigation of the peer that waits for a lost signal is live
abbrev pub is_waiting : ℕ → List Entry → ℕ → Bool
is_waiting t entries peer = list_any (λ (m : Mitigation). (m.put.peer == peer) && waits m.put.change) (mitigations t entries)

-- Two histories say the same at time t, when n messages of a peer and domain are remembered: the live mitigations with
-- their status and the seconds left of them, which peers and clients have an active one, which peers have one that
-- waits, whose signal is lost, what is held, the rows of the filter table and which access lists are active, the fate
-- of each packet, the reply to each repeat, and the last entry.
pub record SaySame (n t : ℕ) (xs ys : List Entry) : Type 0 where
  pub live : mitigations t xs ≡ mitigations t ys
  pub seconds :
      map (λ (m : Mitigation). seconds_left t m.put m.status) (mitigations t xs) ≡ map (λ (m : Mitigation). seconds_left t m.put m.status) (mitigations t ys)
  pub peers : (peer : ℕ) → is_mitigated t xs peer ≡ is_mitigated t ys peer
  pub waits : (peer : ℕ) → is_waiting t xs peer ≡ is_waiting t ys peer
  pub lost : (peer domain : ℕ) → is_lost_in (held xs) peer domain ≡ is_lost_in (held ys) peer domain
  pub clients : (e : Entry) → is_mitigating t xs e ≡ is_mitigating t ys e
  pub written : held xs ≡ held ys
  pub rows : scrub_rows t xs ≡ scrub_rows t ys
  pub lists : list_rows xs ≡ list_rows ys
  pub list_rows : acl_rows t xs ≡ acl_rows t ys
  pub active : (e : Entry) (activation : Activation) → is_active t xs e activation ≡ is_active t ys e activation
  pub fates : (prefixes : ℕ → List PrefixValue) (packet : Packet) → fate prefixes t xs packet ≡ fate prefixes t ys packet
  pub replies : (peer domain id : ℕ) → remembered n t peer domain id xs ≡ remembered n t peer domain id ys
  pub end : last xs ≡ last ys
