-- What the rows have said, one more row at a time.
use Rattle.std.proofs.Common.{◌≡◌, ℕ, Bool, true, false, ◌||◌, List, [], ◌∷◌, ◌++◌, Option, Some, None, is_some, refl, ap, ◌∙◌, append-nil, true≢false, if◌then◌else◌}
use Rattle.std.proofs.lemmas.List.Elements.{filter_map-append}
use Rattle.std.specs.List.{filter_map, cons_option, list_any}
use Rattle.std.specs.Option.{option_or, option_to_list}
use Rattle.dots_settings.specs.declared.fault.SettingsFault.TheVariants as fault
use Rattle.dots_settings.specs.Form.{FormValue, domain_line, prefix_line, client_line, gateway_line, upstream_line, name_line, ceiling_line, indefinite_line, capacity_line, packet_line}
use Rattle.dots_settings.specs.Row.{Row, row_of}
use Rattle.dots_settings.specs.Draft.{DraftValue, same_name, draft_of, first_of, firsts_of, forms_by, domain_in, scope_in, peer_in, upstream_in, name_in, address_in, ceiling_in, indefinite_in, capacity_in, packet_in}
use Rattle.dots_settings.specs.Faults.{fault_of, has_peer, is_twice, is_unknown, overlap_of, overlap_or_limit, is_too_much}
use Rattle.dots_settings.specs.Admitting.{admitted}
use Rattle.dots_settings.proofs.HostNames.{firsts_then}

-- two tests, neither of which holds
pub both_false : (a b : Bool) → (a || b) ≡ false → (a ≡ false) × (b ≡ false)
both_false false b e = (refl, e)
both_false true b e = absurd (true≢false e)

one_or_none : {A : Type 0} (o : Option A) → cons_option o [] ≡ option_to_list o
one_or_none None = refl
one_or_none (Some x) = refl

-- a row adds at most one item to each list
more : {A : Type 0} (part : Row → Option A) (rows : List Row) (row : Row) → filter_map part (rows ++ row ∷ []) ≡ filter_map part rows ++ option_to_list (part row)
more part rows row = filter_map-append part rows (row ∷ []) ∙ ap (λ xs. filter_map part rows ++ xs) (one_or_none (part row))

first_more : {A : Type 0} (xs : List A) (o : Option A) → first_of (xs ++ option_to_list o) ≡ option_or (first_of xs) o
first_more [] None = refl
first_more [] (Some x) = refl
first_more (x ∷ xs) o = refl

or_none : {A : Type 0} (o : Option A) → option_or o None ≡ o
or_none None = refl
or_none (Some x) = refl

or_new : {A : Type 0} (o : Option A) (x : A) → is_some o ≡ false → option_or o (Some x) ≡ Some x
or_new None x none = refl
or_new (Some y) x none = absurd (true≢false none)

-- the names with one more
abbrev names_with : List (List ℕ) → Option (List ℕ) → List (List ℕ)
names_with names None = names
names_with names (Some name) = if list_any (same_name name) names then names else names ++ name ∷ []

firsts_more : (names : List (List ℕ)) (o : Option (List ℕ)) → firsts_of (names ++ option_to_list o) ≡ names_with (firsts_of names) o
firsts_more names None = ap firsts_of (append-nil names)
firsts_more names (Some name) = firsts_then names name

-- what one row adds to each part
abbrev grown : DraftValue → Row → DraftValue
grown draft row = record {
  domains = draft.domains ++ option_to_list (domain_in row.form);
  scopes = draft.scopes ++ option_to_list (scope_in row.number row.form);
  peers = draft.peers ++ option_to_list (peer_in row.form);
  upstream = option_or draft.upstream (upstream_in row.form);
  names = names_with draft.names (name_in row.form);
  addresses = draft.addresses ++ option_to_list (address_in row.form);
  ceiling = option_or draft.ceiling (ceiling_in row.form);
  indefinite = option_or draft.indefinite (indefinite_in row.form);
  capacities = draft.capacities ++ option_to_list (capacity_in row.form);
  packets = draft.packets ++ option_to_list (packet_in row.form);
}

draft_grown : (rows : List Row) (row : Row) → draft_of (rows ++ row ∷ []) ≡ grown (draft_of rows) row
draft_grown rows row = λ i. record {
  domains = more (λ row. domain_in row.form) rows row i;
  scopes = more (λ row. scope_in row.number row.form) rows row i;
  peers = more (λ row. peer_in row.form) rows row i;
  upstream = upstream i;
  names = names i;
  addresses = more (λ row. address_in row.form) rows row i;
  ceiling = ceiling i;
  indefinite = indefinite i;
  capacities = more (λ row. capacity_in row.form) rows row i;
  packets = more (λ row. packet_in row.form) rows row i;
}
  where
    names : firsts_of (forms_by name_in (rows ++ row ∷ [])) ≡ names_with (firsts_of (forms_by name_in rows)) (name_in row.form)
    names = ap firsts_of (more (λ row. name_in row.form) rows row) ∙ firsts_more (forms_by name_in rows) (name_in row.form)

    upstream : first_of (forms_by upstream_in (rows ++ row ∷ [])) ≡ option_or (first_of (forms_by upstream_in rows)) (upstream_in row.form)
    upstream = ap first_of (more (λ row. upstream_in row.form) rows row) ∙ first_more (forms_by upstream_in rows) (upstream_in row.form)

    ceiling : first_of (forms_by ceiling_in (rows ++ row ∷ [])) ≡ option_or (first_of (forms_by ceiling_in rows)) (ceiling_in row.form)
    ceiling = ap first_of (more (λ row. ceiling_in row.form) rows row) ∙ first_more (forms_by ceiling_in rows) (ceiling_in row.form)

    indefinite : first_of (forms_by indefinite_in (rows ++ row ∷ [])) ≡ option_or (first_of (forms_by indefinite_in rows)) (indefinite_in row.form)
    indefinite = ap first_of (more (λ row. indefinite_in row.form) rows row) ∙ first_more (forms_by indefinite_in rows) (indefinite_in row.form)

-- what stands already is no faultless line's
pub not_twice : (draft : DraftValue) (number : ℕ) (form : FormValue) → fault_of draft number form ≡ None → is_twice draft form ≡ false
not_twice draft number form none = by (is_twice draft form) none
  where
    by : (b : Bool) → (if b then Some (fault.Twice number) else if is_unknown draft form then Some (fault.Unknown number) else overlap_or_limit number (overlap_of draft form) (is_too_much draft form)) ≡ None → b ≡ false
    by false e = refl
    by true e = absurd (cc)

pub grown_admitted : (draft : DraftValue) (number : ℕ) (text : List ℕ) (form : FormValue) → is_twice draft form ≡ false → grown draft (row_of number text form) ≡ admitted draft number form
grown_admitted draft number text (domain_line name) once = simp (append-nil, or_none)
grown_admitted draft number text (prefix_line name value) once = simp (append-nil, or_none)
grown_admitted draft number text (client_line peer name) once = simp (append-nil, or_none)
grown_admitted draft number text (gateway_line peer) once = simp (append-nil, or_none)
grown_admitted draft number text (upstream_line peer) once = simp (append-nil, or_none, or_new draft.upstream peer (both_false (is_some draft.upstream) (has_peer draft peer) once).0)
grown_admitted draft number text (name_line fqdn value) once = simp (append-nil, or_none)
grown_admitted draft number text (ceiling_line seconds) once = simp (append-nil, or_none, or_new draft.ceiling seconds once)
grown_admitted draft number text (indefinite_line granted) once = simp (append-nil, or_none, or_new draft.indefinite granted once)
grown_admitted draft number text (capacity_line what None) once = simp (append-nil, or_none)
grown_admitted draft number text (capacity_line what (Some limit)) once = simp (append-nil, or_none)
grown_admitted draft number text (packet_line value) once = simp (append-nil, or_none)

-- the draft of the rows with one more, which has no fault
pub draft_then : (rows : List Row) (number : ℕ) (text : List ℕ) (form : FormValue) → fault_of (draft_of rows) number form ≡ None
    → draft_of (rows ++ row_of number text form ∷ []) ≡ admitted (draft_of rows) number form
draft_then rows number text form none = draft_grown rows (row_of number text form) ∙ grown_admitted (draft_of rows) number text form (not_twice (draft_of rows) number form none)
