-- The mitigations of a domain are those of its entries alone.
use Rattle.std.proofs.Common.{◌≡◌, ℕ, ◌==◌, Bool, true, false, cond, List, [], ◌∷◌, ◌++◌, filter, Some, None, refl, sym, ap, ◌∙◌}
use Rattle.std.specs.Prelude.{option_to_list}
use Rattle.std.proofs.lemmas.Bool.{cond_both, cond-true, cond-false, and_left, eqb-true, eqb-false, ne_eqb}
use Rattle.dots_history.specs.declared.entry.Entry.{Entry}
use Rattle.dots_history.specs.declared.status.Status.{Status}
use Rattle.dots_history.specs.declared.status.Status.TheVariants.{Ended, Open, Withdrawn}
use Rattle.dots_history.specs.Entries.{same_client, ends, withdraws}
use Rattle.dots_history.specs.Histories.{Mitigation, live, if_live, status, step, mitigations, alone}
use Rattle.dots_history.specs.Views.{mitigations_of}

-- an entry of another domain ends nothing of this one
ends_none : (p e : Entry) → (p.domain == e.domain) ≡ false → ends p e ≡ false
unfolding ends same_client
ends_none p e apart = and_left _ _ (and_left _ _ apart)

withdraws_none : (p e : Entry) → (p.domain == e.domain) ≡ false → withdraws p e ≡ false
unfolding withdraws same_client
withdraws_none p e apart = and_left _ _ (and_left _ _ apart)

untouched : (p e : Entry) (s : Status) → (p.domain == e.domain) ≡ false → step p s e ≡ s
untouched p e Ended apart = refl
untouched p e Open apart =
    cond-false (ends p e) Ended (cond (withdraws p e) (Withdrawn e.time) Open) (ends_none p e apart)
    ∙ cond-false (withdraws p e) (Withdrawn e.time) Open (withdraws_none p e apart)
untouched p e (Withdrawn at) apart = cond-false (ends p e) Ended (Withdrawn at) (ends_none p e apart)

pub other_domain : (domain : ℕ) (p e : Entry) → (p.domain == domain) ≡ true → (e.domain == domain) ≡ false → (p.domain == e.domain) ≡ false
other_domain domain p e own other =
    ne_eqb p.domain e.domain (λ same. eqb-false e.domain domain other (sym same ∙ eqb-true p.domain domain own))

status_alone : (domain : ℕ) (p : Entry) (s : Status) (later : List Entry) → (p.domain == domain) ≡ true → status p s (alone domain later) ≡ status p s later
status_alone domain p s [] own = refl
status_alone domain p s (e ∷ later) own =
    cond_both
    (e.domain == domain)
    (e ∷ alone domain later)
    (alone domain later)
    (λ es. status p s es ≡ status p (step p s e) later)
    (λ same. status_alone domain p (step p s e) later own)
    (λ other.
    status_alone domain p s later own
    ∙ ap (λ now. status p now later) (sym (untouched p e s (other_domain domain p e own other))))

passes_of : (b : Bool) (q : Mitigation → Bool) (m : Mitigation) (rest : List Mitigation) → q m ≡ true
    → filter q (option_to_list (cond b (Some m) None) ++ rest) ≡ option_to_list (cond b (Some m) None) ++ filter q rest
passes_of true q m rest is = cond-true (q m) (m ∷ filter q rest) (filter q rest) is
passes_of false q m rest is = refl

left_out : (b : Bool) (q : Mitigation → Bool) (m : Mitigation) (rest : List Mitigation) → q m ≡ false
    → filter q (option_to_list (cond b (Some m) None) ++ rest) ≡ filter q rest
left_out true q m rest is = cond-false (q m) (m ∷ filter q rest) (filter q rest) is
left_out false q m rest is = refl

pub apart : (domain t : ℕ) (entries : List Entry) → mitigations t (alone domain entries) ≡ mitigations_of domain (mitigations t entries)
apart domain t [] = refl
apart domain t (e ∷ later) =
    let s = status e Open later in
    cond_both
    (e.domain == domain)
    (e ∷ alone domain later)
    (alone domain later)
    (λ es. mitigations t es ≡ mitigations_of domain (mitigations t (e ∷ later)))
    (λ own.
    ap (λ now. option_to_list (if_live t e now) ++ mitigations t (alone domain later)) (status_alone domain e Open later own)
    ∙ ap (λ rest. option_to_list (if_live t e s) ++ rest) (apart domain t later)
    ∙ sym (passes_of (live t e s) (λ (m : Mitigation). m.put.domain == domain) (record { put = e; status = s }) (mitigations t later) own))
    (λ other.
    apart domain t later
    ∙ sym (left_out (live t e s) (λ (m : Mitigation). m.put.domain == domain) (record { put = e; status = s }) (mitigations t later) other))
