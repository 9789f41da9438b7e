-- Whose signal is lost, and which mitigations filter, after one more entry.
use Rattle.std.proofs.Common.{◌≡◌, ℕ, Bool, true, false, cond, not, ◌&&◌, ◌||◌, List, [], ◌∷◌, ◌++◌, filter, inl, inr, refl, sym, ap, ◌∙◌}
use Rattle.std.proofs.Math.Path.{fun_ext}
use Rattle.std.specs.Prelude.{◌==◌}
use Rattle.std.specs.List.{list_any}
use Rattle.std.proofs.lemmas.Bool.{false≢true, both_ways, cond_both, cond-true, cond-false, cases_Bool, and_parts, and_from, and_left, and_right, or_from, eqb-true, eq-eqb, false_from_ne_true}
use Rattle.std.proofs.lemmas.List.Folds.{list_any-append}
use Rattle.dots_history.specs.declared.entry.Entry.{Entry}
use Rattle.dots_history.specs.declared.put.Put.{Put}
use Rattle.dots_history.specs.declared.change.Change.{Change}
use Rattle.dots_history.specs.declared.change.Change.TheVariants as change
use Rattle.dots_history.specs.Entries.{same_client, put_of, option_any, is_held, undoes, undoes_of_client, undoes_of_peer, reconfigures, resumes, undoes_loss, is_lost, is_loss}
use Rattle.dots_history.specs.Histories.{Mitigation, held}
use Rattle.dots_history.specs.Rows.{triggers, waits, loses, is_lost_in, works}
use Rattle.dots_history.specs.Views.{held_with}
use Rattle.dots_history.proofs.GoingOn.{held_push}
use Rattle.live_mitigations.specs.LiveValues.{puts}
use Rattle.installed_filters.specs.Filters.{is_waiting_for}
use Rattle.installed_filters.proofs.Sieving.{any_by, any_filter}
use Rattle.installed_filters.proofs.Keys.{goes_from}

-- the entry says anew whether the signal of this peer is lost
abbrev pub is_loss_of : ℕ → ℕ → Entry → Bool
is_loss_of peer domain e = is_loss e.change && ((e.peer == peer) && (e.domain == domain))

lost_is_loss : (c : Change) → is_lost c ≡ true → is_loss c ≡ true
unfolding is_lost is_loss
lost_is_loss change.Lost is = refl
lost_is_loss _ is = absurd (false≢true is)

of_no_client : (c later : Change) → is_lost c ≡ true → undoes_of_client c later ≡ false
unfolding is_lost undoes_of_client
of_no_client change.Lost later is = refl
of_no_client _ later is = absurd (false≢true is)

of_no_session : (c later : Change) → is_lost c ≡ true → undoes_of_peer c later ≡ false
unfolding is_lost undoes_of_peer
of_no_session change.Lost later is = refl
of_no_session _ later is = absurd (false≢true is)

-- a loss of this peer is undone by an entry that tells of it alone
loss_stays : (peer domain : ℕ) (x e : Entry) → loses peer domain x ≡ true → is_loss_of peer domain e ≡ false → undoes x e ≡ false
unfolding undoes reconfigures resumes undoes_loss
loss_stays peer domain x e lost other =
    let parts = and_parts (is_lost x.change) ((x.peer == peer) && (x.domain == domain)) lost in
    let of = and_parts (x.peer == peer) (x.domain == domain) parts.1 in
    or_from
    (same_client x e && undoes_of_client x.change e.change)
    (((x.peer == e.peer) && undoes_of_peer x.change e.change) || ((x.peer == e.peer) && ((x.domain == e.domain) && (is_lost x.change && is_loss e.change))))
    (and_right (same_client x e) (undoes_of_client x.change e.change) (of_no_client x.change e.change parts.0))
    (or_from
    ((x.peer == e.peer) && undoes_of_peer x.change e.change)
    ((x.peer == e.peer) && ((x.domain == e.domain) && (is_lost x.change && is_loss e.change)))
    (and_right (x.peer == e.peer) (undoes_of_peer x.change e.change) (of_no_session x.change e.change parts.0))
    (false_from_ne_true
    ((x.peer == e.peer) && ((x.domain == e.domain) && (is_lost x.change && is_loss e.change)))
    (λ is.
    let same_peer = and_parts (x.peer == e.peer) ((x.domain == e.domain) && (is_lost x.change && is_loss e.change)) is in
    let same_domain = and_parts (x.domain == e.domain) (is_lost x.change && is_loss e.change) same_peer.1 in
    let tells = and_parts (is_lost x.change) (is_loss e.change) same_domain.1 in
    both_ways
    (is_loss_of peer domain e)
    other
    (and_from
    (is_loss e.change)
    ((e.peer == peer) && (e.domain == domain))
    tells.1
    (and_from
    (e.peer == peer)
    (e.domain == domain)
    (eq-eqb e.peer peer (sym (eqb-true x.peer e.peer same_peer.0) ∙ eqb-true x.peer peer of.0))
    (eq-eqb e.domain domain (sym (eqb-true x.domain e.domain same_domain.0) ∙ eqb-true x.domain domain of.1)))))))

loses_none : (peer domain : ℕ) (e : Entry) → is_loss_of peer domain e ≡ false → loses peer domain e ≡ false
loses_none peer domain e other =
    false_from_ne_true
    (loses peer domain e)
    (λ is.
    let parts = and_parts (is_lost e.change) ((e.peer == peer) && (e.domain == domain)) is in
    both_ways
    (is_loss_of peer domain e)
    other
    (and_from (is_loss e.change) ((e.peer == peer) && (e.domain == domain)) (lost_is_loss e.change parts.0) parts.1))

-- by an entry that doesn't tell of it, nothing changes for a peer
pub lost_as_before : (peer domain : ℕ) (e : Entry) (es : List Entry) → is_loss_of peer domain e ≡ false
    → is_lost_in (held_with e es) peer domain ≡ is_lost_in es peer domain
lost_as_before peer domain e es other =
    list_any-append (loses peer domain) (filter (λ x. not (undoes x e)) es) (cond (is_held e.change) (e ∷ []) [])
    ∙ ap
    (λ b. b || list_any (loses peer domain) (cond (is_held e.change) (e ∷ []) []))
    (any_filter (loses peer domain) (λ x. not (undoes x e)) es ∙ any_by (λ x. not (undoes x e) && loses peer domain x) (loses peer domain) stays es)
    ∙ ap
    (λ b. is_lost_in es peer domain || b)
    (cond_both
    (is_held e.change)
    (e ∷ [])
    []
    (λ xs. list_any (loses peer domain) xs ≡ false)
    (λ is. ap (λ b. b || false) (loses_none peer domain e other))
    (λ out. refl))
    ∙ or_none (is_lost_in es peer domain)
  where
    stays : (x : Entry) → (not (undoes x e) && loses peer domain x) ≡ loses peer domain x
    stays x =
        elim (cases_Bool (loses peer domain x)) [
          | inl is ↦ ap (λ b. not b && loses peer domain x) (loss_stays peer domain x e is other)
          | inr out ↦ ap (λ b. not (undoes x e) && b) out ∙ none (not (undoes x e)) ∙ sym out
        ]
      where
        none : (b : Bool) → (b && false) ≡ false
        none true = refl
        none false = refl

    or_none : (b : Bool) → (b || false) ≡ b
    or_none true = refl
    or_none false = refl

-- ---- an entry that tells of no signal

pub quiet_works : (e : Entry) (entries : List Entry) → is_loss e.change ≡ false → works (held (entries ++ e ∷ [])) ≡ works (held entries)
quiet_works e entries quiet =
    ap works (held_push e entries)
    ∙ fun_ext
    (λ (put : Entry).
    ap
    (λ b. triggers put.change || b)
    (lost_as_before
    put.peer
    put.domain
    e
    (held entries)
    (and_left (is_loss e.change) ((e.peer == put.peer) && (e.domain == put.domain)) quiet)))

-- ---- one that says that a signal is lost or back

waiting : (c : Change) (p d peer domain : ℕ) (before after : ℕ → ℕ → Bool) → option_any (λ (put : Put). true) (put_of c) ≡ true
    → (((peer == p) && (domain == d)) ≡ false → after p d ≡ before p d)
    → (triggers c || after p d) ≡ cond ((d == domain) && (waits c && (p == peer))) (after peer domain) (triggers c || before p d)
waiting (change.Put put) p d peer domain before after is others = by_trigger put.trigger
  where
    by_trigger : (b : Bool) → (b || after p d) ≡ cond ((d == domain) && (not b && (p == peer))) (after peer domain) (b || before p d)
    by_trigger true = never (d == domain)
      where
        never : (b : Bool) → true ≡ cond (b && false) (after peer domain) true
        never true = refl
        never false = refl
    by_trigger false =
        elim (cases_Bool ((d == domain) && (p == peer))) [
          | inl here ↦
              let parts = and_parts (d == domain) (p == peer) here in
              ap (λ n. after n d) (eqb-true p peer parts.1)
              ∙ ap (after peer) (eqb-true d domain parts.0)
              ∙ sym (cond-true ((d == domain) && (p == peer)) (after peer domain) (before p d) here)
          | inr out ↦
              others
              (false_from_ne_true
              ((peer == p) && (domain == d))
              (λ same.
              let parts = and_parts (peer == p) (domain == d) same in
              both_ways
              ((d == domain) && (p == peer))
              out
              (and_from
              (d == domain)
              (p == peer)
              (eq-eqb d domain (sym (eqb-true domain d parts.1)))
              (eq-eqb p peer (sym (eqb-true peer p parts.0))))))
              ∙ sym (cond-false ((d == domain) && (p == peer)) (after peer domain) (before p d) out)
        ]
waiting _ p d peer domain before after is others = absurd (false≢true is)

-- the mitigations that filter after it are those before, but for those that wait for the signal
pub works_after : (e : Entry) (entries : List Entry) (m : Mitigation) → puts m.put ≡ true
    → works (held (entries ++ e ∷ [])) m.put
    ≡ cond (goes_from e.domain (is_waiting_for e.peer) m) (is_lost_in (held (entries ++ e ∷ [])) e.peer e.domain) (works (held entries) m.put)
works_after e entries m is =
    waiting
    m.put.change
    m.put.peer
    m.put.domain
    e.peer
    e.domain
    (is_lost_in (held entries))
    (is_lost_in (held (entries ++ e ∷ [])))
    is
    (λ other.
    ap (λ standing. is_lost_in standing m.put.peer m.put.domain) (held_push e entries)
    ∙ lost_as_before
    m.put.peer
    m.put.domain
    e
    (held entries)
    (and_right (is_loss e.change) ((e.peer == m.put.peer) && (e.domain == m.put.domain)) other))
