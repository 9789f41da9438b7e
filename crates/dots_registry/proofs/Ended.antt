-- Of a domain in which no mitigation was over there is to see what there was.
use Rattle.std.proofs.Common.{◌≡◌, ◌≢◌, ℕ, Bool, false, cond, ◌&&◌, List, [], ◌∷◌, take, Option, Some, None, refl, sym, ap, ◌∙◌}
use Rattle.std.specs.Prelude.{bytes_eq, nat_lt, ◌==◌}
use Rattle.std.proofs.lemmas.Bool.{eq-eqb, false≢true}
use Rattle.dots_history.specs.Histories.{Mitigation}
use Rattle.live_mitigations.specs.LiveValues.{LiveValue, rows_for}
use Rattle.held_resources.specs.Tables.{Tables, lost_in}
use Rattle.coap_observe.specs.declared.due_among.DueAmong.{DueAmong}
use Rattle.coap_observe.specs.DueAmong.{includes, joined}
use Rattle.coap_observe.proofs.Notified.{excluded}
use Rattle.dots_registry.specs.RegistryValues.{RegistryValue, time_of, domains_of}
use Rattle.dots_registry.specs.ObserverViews.{seen, is_wanted, seen_among, views_of}
use Rattle.dots_registry.proofs.Seeing.{first_seen, view_at, is_here}

-- a domain more is among them
pub others_still : (ended : DueAmong) (domain : ℕ) (more : DueAmong) → more ≡ joined ended domain → (start before found after : LiveValue) → found ≡ before
    → ((other : ℕ) → other ≢ domain → rows_for after other ≡ rows_for found other)
    → ((other : ℕ) → includes ended other ≡ false → rows_for before other ≡ rows_for start other)
    → (other : ℕ) → includes more other ≡ false → rows_for after other ≡ rows_for start other
others_still ended domain more is start before found after same others so_far other out =
    let both = excluded ended domain other (ap (λ among. includes among other) (sym is) ∙ out) in
    let apart : other ≢ domain = λ one. false≢true (sym both.1 ∙ eq-eqb domain other (sym one)) in
    others other apart ∙ ap (λ (live : LiveValue). rows_for live other) same ∙ so_far other both.0

-- which mid and status are seen doesn't go by the time
wanted_then : (lost : ℕ → ℕ → Bool) (domain t u : ℕ) (cuid : List ℕ) (mid : Option ℕ) (m : Mitigation)
    → is_wanted mid (view_at lost domain t cuid mid m) ≡ is_wanted mid (view_at lost domain u cuid mid m)
wanted_then lost domain t u cuid None m = refl
wanted_then lost domain t u cuid (Some mid) m = refl

seen_then : (lost : ℕ → ℕ → Bool) (domain t u : ℕ) (cuid : List ℕ) (mid : Option ℕ) (ms : List Mitigation)
    → seen_among lost domain t cuid mid ms ≡ seen_among lost domain u cuid mid ms
seen_then lost domain t u cuid mid [] = refl
seen_then lost domain t u cuid mid (m ∷ ms) =
    first_seen lost domain t cuid mid m ms
    ∙ ap
    (λ b. cond (bytes_eq m.put.cuid cuid && b) (seen (view_at lost domain t cuid mid m) ∷ seen_among lost domain t cuid mid ms) (seen_among lost domain t cuid mid ms))
    (wanted_then lost domain t u cuid mid m)
    ∙ ap
    (λ xs. cond (is_here lost domain u cuid mid m) (seen (view_at lost domain u cuid mid m) ∷ xs) xs)
    (seen_then lost domain t u cuid mid ms)
    ∙ sym (first_seen lost domain u cuid mid m ms)

pub views_still : (old new : RegistryValue) (domain : ℕ) (cuid : List ℕ) (mid : Option ℕ) → domains_of new ≡ domains_of old → new.held ≡ old.held
    → rows_for new.live domain ≡ rows_for old.live domain → views_of new domain cuid mid ≡ views_of old domain cuid mid
views_still old new domain cuid mid domains held rows =
    ap (λ n. cond (nat_lt domain n) (take 64 (seen_among (lost_in new.held) domain (time_of new) cuid mid (rows_for new.live domain))) []) domains
    ∙ ap
    (λ xs. cond (nat_lt domain (domains_of old)) (take 64 xs) [])
    (seen_then (lost_in new.held) domain (time_of new) (time_of old) cuid mid (rows_for new.live domain)
    ∙ ap (λ (tables : Tables). seen_among (lost_in tables) domain (time_of old) cuid mid (rows_for new.live domain)) held
    ∙ ap (λ ms. seen_among (lost_in old.held) domain (time_of old) cuid mid ms) rows)
