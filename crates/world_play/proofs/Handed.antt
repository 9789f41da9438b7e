-- Clients at one place after the other.
use Rattle.std.proofs.Common.{◌≡◌, inl, inr, ℕ, zero, suc, ◌+◌, ◌%◌, ◌^◌, ◌<◌, Bool, true, false, List, [], ◌∷◌, ◌++◌, length, map, get_or, slice_get, slice_set, Some, None, refl, sym, ap, ◌∙◌, subst, arith, append-nil}
use Rattle.std.specs.Bool.{MatchBool}
use Rattle.std.specs.List.{range_with_len}
use Rattle.std.proofs.lemmas.Option.{same_Some}
use Rattle.dots_client.specs.declared.ask.Ask.{Ask}
use Rattle.dots_client.specs.declared.heard.Heard.{Heard}
use Rattle.dots_client.specs.Client.{ClientValue, asked_at}
use Rattle.dots_world.specs.declared.party.Packet.{Packet}
use Rattle.dots_world.specs.declared.plan.PlanClient.{PlanClient}
use Rattle.dots_world.specs.Worlds.{MayAsk, answers_to}
use Rattle.world_play.specs.Clients.{AskedAt, HandedOut, AllHanded}
use Rattle.world_play.specs.Packets.{packet_of}

-- one more
pub all_more : (plan : List PlanClient) (now : ℕ) (places : List ℕ) (place : ℕ) (c : PlanClient) (clients between new : List ClientValue) (packets posted packets_now : List Packet)
    → AllHanded plan now places clients packets between posted → slice_get plan place ≡ Some c → HandedOut c now place between posted new packets_now
    → AllHanded plan now (places ++ place ∷ []) clients packets new packets_now
all_more plan now [] place c clients between new packets posted packets_now all there handed = (
  c,
  there,
  new,
  packets_now,
  subst (λ cs. HandedOut c now place cs packets new packets_now) all.0 (subst (λ ps. HandedOut c now place between ps new packets_now) all.1 handed),
  (refl, refl),
)
all_more plan now (first ∷ places) place c clients between new packets posted packets_now all there handed =
    let (c_first, is, middle, sent, out, rest) = all in (
      c_first,
      is,
      middle,
      sent,
      out,
      all_more plan now places place c middle between new sent posted packets_now rest there handed,
    )

pub range_more : (from n : ℕ) → range_with_len from (n + 1) ≡ range_with_len from n ++ (from + n) ∷ []
range_more from n = let one : suc n ≡ n + 1 = omega arith in subst (λ k. range_with_len from k ≡ range_with_len from n ++ (from + n) ∷ []) one (by n from)
  where
    by : (n from : ℕ) → range_with_len from (suc n) ≡ range_with_len from n ++ (from + n) ∷ []
    by zero from = let at : from ≡ from + 0 = omega arith in ap (λ k. k ∷ []) at
    by (suc n) from = let at : from + 1 + n ≡ from + suc n = omega arith in ap (λ ks. from ∷ ks) (by n (from + 1) ∙ ap (λ k. range_with_len (from + 1) n ++ k ∷ []) at)

-- ---- what a client heard

pub heard_quiet : (place : ℕ) (behind : Bool) (said : Heard) (packets : List Packet) → answers_to said ≡ [] → packets ≡ packets ++ map (packet_of place behind) (answers_to said)
heard_quiet place behind said packets quiet = sym (append-nil packets) ∙ ap (λ messages. packets ++ map (packet_of place behind) messages) (sym quiet)

-- ---- one client of several

pub there_at : {A : Type 0} (xs : List A) (i : ℕ) (x : A) → i < length xs → x ≡ get_or xs i x → slice_get xs i ≡ Some x
there_at [] i x less is = absurd (omega (arith, less))
there_at (y ∷ xs) zero x less is = ap Some (sym is)
there_at (y ∷ xs) (suc i) x less is = there_at xs i x (omega (arith, less)) is

set_same : (xs : List ClientValue) (i : ℕ) (x : ClientValue) → slice_get xs i ≡ Some x → slice_set xs i x ≡ xs
set_same [] i x is = refl
set_same (y ∷ xs) zero x is = ap (λ z. z ∷ xs) (same_Some x y (sym is))
set_same (y ∷ xs) (suc i) x is = ap (λ zs. y ∷ zs) (set_same xs i x is)

pub asked_either : (clients : List ClientValue) (place : ℕ) (client after : ClientValue) (what : Ask) (now : ℕ) (made : Bool) → slice_get clients place ≡ Some client
    → MatchBool made (MayAsk client what × (after ≡ asked_at client what now (client.number % 2 ^ 16))) ((MayAsk client what → ⊥) × (after ≡ client))
    → AskedAt clients place what now (slice_set clients place after)
asked_either clients place client after what now true there asked = inl (client, there, asked.0, ap (slice_set clients place) asked.1)
asked_either clients place client after what now false there asked = inr (
  (λ other is may. asked.0 (subst (λ k. MayAsk k what) (same_Some other client (sym is ∙ there)) may)),
  ap (slice_set clients place) asked.1 ∙ set_same clients place client there,
)

pub range_next : (n : ℕ) → range_with_len 0 (n + 1) ≡ range_with_len 0 n ++ n ∷ []
range_next n = let at : 0 + n ≡ n = omega arith in range_more 0 n ∙ ap (λ k. range_with_len 0 n ++ k ∷ []) at

pub none_at : {A : Type 0} (xs : List A) (i : ℕ) → (i < length xs → ⊥) → slice_get xs i ≡ None
none_at [] i out = refl
none_at (x ∷ xs) zero out = absurd (out (omega arith))
none_at (x ∷ xs) (suc i) out = none_at xs i (λ less. out (omega (arith, less)))
