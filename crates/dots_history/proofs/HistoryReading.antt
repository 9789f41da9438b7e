-- What is read of a history is a function of its view.
use Rattle.std.proofs.Common.{◌≡◌, ℕ, true, List, [], ◌∷◌, ◌++◌, filter, map, Option, Some, None, refl, sym, ap, ◌∙◌}
use Rattle.std.specs.Prelude.{option_to_list, ◌==◌, ◌&&◌}
use Rattle.std.specs.List.{list_any, flat_map}
use Rattle.ip_scope.specs.Prefix.{PrefixValue}
use Rattle.acl_lists.specs.declared.acl.Acl.{Acl}
use Rattle.acl_lists.specs.declared.acl.Activation.{Activation}
use Rattle.acl_lists.specs.declared.acl.Activation.TheVariants.{WhenMitigating, Immediate, Deactivate}
use Rattle.acl_lists.specs.declared.packet.Packet.{Packet}
use Rattle.dots_history.specs.declared.entry.Entry.{Entry}
use Rattle.dots_history.specs.Entries.{same_client, signals, may_repeat, option_any}
use Rattle.dots_history.specs.Histories.{Mitigation, View, view, mitigations, seconds_left, held, recent, remembered}
use Rattle.acl_lists.specs.Fates.{fate_by_rows}
use Rattle.dots_history.specs.Rows.{Row, rows_of, plain_row, plain_rows, acl_of, acl_row, acl_rows_of, acl_rows, list_rows, is_active, fate, is_mitigating, mitigates_by, works, waits, is_lost_in}
use Rattle.dots_history.specs.Places.{last_of}
use Rattle.dots_history.proofs.Remembering.{by_recent}
use Rattle.dots_history.specs.HistoryReading.{SaySame, is_mitigated}

same_mitigating : (t : ℕ) (xs ys : List Entry) (e : Entry) → mitigations t xs ≡ mitigations t ys → held xs ≡ held ys → is_mitigating t xs e ≡ is_mitigating t ys e
same_mitigating t xs ys e same still =
    ap (λ ms. list_any (λ (m : Mitigation). same_client e m.put && works (held xs) m.put) ms) same ∙ ap (λ standing. mitigates_by standing t ys e) still

same_mitigated : (t : ℕ) (xs ys : List Entry) → mitigations t xs ≡ mitigations t ys → held xs ≡ held ys → (peer : ℕ) → is_mitigated t xs peer ≡ is_mitigated t ys peer
same_mitigated t xs ys same still peer =
    ap (λ ms. list_any (λ (m : Mitigation). (m.put.peer == peer) && works (held xs) m.put) ms) same
    ∙ ap (λ standing. list_any (λ (m : Mitigation). (m.put.peer == peer) && works standing m.put) (mitigations t ys)) still

same_active : (t : ℕ) (xs ys : List Entry) (e : Entry) → mitigations t xs ≡ mitigations t ys → held xs ≡ held ys → (a : Activation) → is_active t xs e a ≡ is_active t ys e a
same_active t xs ys e same still Immediate = refl
same_active t xs ys e same still WhenMitigating = same_mitigating t xs ys e same still
same_active t xs ys e same still Deactivate = refl

same_row : (t : ℕ) (xs ys : List Entry) → mitigations t xs ≡ mitigations t ys → held xs ≡ held ys → (e : Entry) (o : Option Acl) → acl_row t xs e o ≡ acl_row t ys e o
same_row t xs ys same still e None = refl
same_row t xs ys same still e (Some acl) =
    ap (λ b. Some (record { domain = e.domain; cuid = e.cuid; acl = acl; active = b })) (same_active t xs ys e same still acl.activation)

same_rows_of : (t : ℕ) (xs ys : List Entry) → mitigations t xs ≡ mitigations t ys → held xs ≡ held ys → (es : List Entry) → acl_rows_of t xs es ≡ acl_rows_of t ys es
same_rows_of t xs ys same still [] = refl
same_rows_of t xs ys same still (e ∷ es) =
    ap (λ o. option_to_list o ++ acl_rows_of t xs es) (same_row t xs ys same still e (acl_of e.change))
    ∙ ap (λ rows. option_to_list (acl_row t ys e (acl_of e.change)) ++ rows) (same_rows_of t xs ys same still es)

abbrev lists_in : List Entry → List Entry
lists_in standing = filter (λ (e : Entry). option_any (λ (acl : Acl). true) (acl_of e.change)) standing

abbrev rows_in : List Mitigation → List Row
rows_in ms = flat_map (λ (m : Mitigation). rows_of m.put) ms

same_lists : (t : ℕ) (xs ys : List Entry) → mitigations t xs ≡ mitigations t ys → held xs ≡ held ys → acl_rows t xs ≡ acl_rows t ys
same_lists t xs ys same still = same_rows_of t xs ys same still (list_rows xs) ∙ ap (λ standing. acl_rows_of t ys (lists_in standing)) still

same_fate : (prefixes : ℕ → List PrefixValue) (t : ℕ) (xs ys : List Entry) (packet : Packet) → mitigations t xs ≡ mitigations t ys → held xs ≡ held ys
    → fate prefixes t xs packet ≡ fate prefixes t ys packet
same_fate prefixes t xs ys packet same still =
    ap (λ ms. fate_by_rows prefixes (map (plain_row (held xs)) (rows_in ms)) (acl_rows t xs) packet) same
    ∙ ap (λ standing. fate_by_rows prefixes (map (plain_row standing) (rows_in (mitigations t ys))) (acl_rows t xs) packet) still
    ∙ ap (λ lists. fate_by_rows prefixes (plain_rows t ys) lists packet) (same_lists t xs ys same still)

same_reply : (n t : ℕ) (xs ys : List Entry) → recent n xs ≡ recent n ys → (peer domain id : ℕ)
    → remembered n t peer domain id xs ≡ remembered n t peer domain id ys
same_reply n t xs ys same peer domain id =
    by_recent n t peer domain id xs
    ∙ ap (λ es. last_of (filter (λ (x : Entry). may_repeat t id x.time x.key) (filter (signals peer domain) es))) same
    ∙ sym (by_recent n t peer domain id ys)

pub read_of_view : (n t : ℕ) (xs ys : List Entry) → view n t xs ≡ view n t ys → SaySame n t xs ys
read_of_view n t xs ys same =
    let live : mitigations t xs ≡ mitigations t ys = ap (λ (v : View). v.mitigations) same in
    let still : held xs ≡ held ys = ap (λ (v : View). v.held) same in
    record {
      live = live;
      seconds = ap (λ ms. map (λ (m : Mitigation). seconds_left t m.put m.status) ms) live;
      peers = same_mitigated t xs ys live still;
      waits = λ peer. ap (λ ms. list_any (λ (m : Mitigation). (m.put.peer == peer) && waits m.put.change) ms) live;
      lost = λ peer domain. ap (λ standing. is_lost_in standing peer domain) still;
      clients = λ e. same_mitigating t xs ys e live still;
      written = still;
      rows = ap rows_in live;
      lists = ap lists_in still;
      list_rows = same_lists t xs ys live still;
      active = λ e activation. same_active t xs ys e live still activation;
      fates = λ prefixes packet. same_fate prefixes t xs ys packet live still;
      replies = same_reply n t xs ys (ap (λ (v : View). v.recent) same);
      end = ap (λ (v : View). v.last) same;
    }
