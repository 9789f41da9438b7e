-- The copies that an entry needs.
use Rattle.std.proofs.Common.{◌≡◌, ℕ, Bool, false, List, [], ◌∷◌, ◌++◌, map, refl, sym, ap, ◌∙◌, append-nil, append_assoc, length, drop, get_or, ◌+◌, ◌<◌, ◌≤◌}
use Rattle.std.specs.List.{flat_map}
use Rattle.std.proofs.lemmas.List.{map-append, drop_all, drop_more}
use Rattle.ip_scope.specs.Prefix.{PrefixValue}
use Rattle.acl_lists.specs.declared.rows.ScrubRow.{ScrubRow}
use Rattle.dots_history.specs.declared.entry.Entry.{Entry}
use Rattle.dots_history.specs.declared.put.Put.{Put}
use Rattle.dots_history.specs.declared.put.Target.{Target}
use Rattle.dots_history.specs.declared.change.Change.TheVariants as change
use Rattle.dots_history.specs.Rows.{targets_of, mid_of}
use Rattle.installed_filters.specs.Filters.{scrub_row_with, rows_with, rows_put, rows_of_target, putting}

-- the rows of these targets
abbrev pub rows_in : Entry → List Target → List ScrubRow
rows_in e targets = flat_map (rows_of_target e) targets

prefixes_are : (e : Entry) (target : Target) (prefixes : List PrefixValue)
    → map (scrub_row_with false) (map (λ (p : PrefixValue). record { put = e; target = target; prefix = p }) prefixes)
    ≡ map (λ (p : PrefixValue). scrub_row_with false (record { put = e; target = target; prefix = p })) prefixes
prefixes_are e target [] = refl
prefixes_are e target (p ∷ prefixes) = ap (λ rows. scrub_row_with false (record { put = e; target = target; prefix = p }) ∷ rows) (prefixes_are e target prefixes)

targets_are : (e : Entry) (targets : List Target)
    → map (scrub_row_with false) (flat_map (λ (target : Target). map (λ (p : PrefixValue). record { put = e; target = target; prefix = p }) target.prefixes) targets)
    ≡ rows_in e targets
targets_are e [] = refl
targets_are e (target ∷ targets) =
    let here = map (λ (p : PrefixValue). record { put = e; target = target; prefix = p }) target.prefixes in
    let rest = flat_map (λ (t : Target). map (λ (p : PrefixValue). record { put = e; target = t; prefix = p }) t.prefixes) targets in
    map-append (scrub_row_with false) here rest
    ∙ ap (λ rows. rows ++ map (scrub_row_with false) rest) (prefixes_are e target target.prefixes)
    ∙ ap (λ rows. rows_of_target e target ++ rows) (targets_are e targets)

pub put_rows : (e : Entry) → rows_put e ≡ rows_in e (targets_of e.change)
put_rows e = targets_are e (targets_of e.change)

pub copied_end : (e : Entry) (put : Put) (i : ℕ) (items : List ScrubRow) → e.change ≡ change.Put put → length put.targets ≤ i
    → items ++ rows_in e (drop i put.targets) ≡ rows_in e put.targets → items ≡ rows_put e
copied_end e put i items is past all =
    sym (append-nil items)
    ∙ ap (λ targets. items ++ rows_in e targets) (sym (drop_all i put.targets past))
    ∙ all
    ∙ ap (λ c. rows_in e (targets_of c)) (sym is)
    ∙ sym (put_rows e)

-- one target more
pub copied_step : (e : Entry) (i : ℕ) (targets : List Target) (target : Target) (before after all : List ScrubRow) → i < length targets
    → target ≡ get_or targets i target → after ≡ before ++ rows_of_target e target → before ++ rows_in e (drop i targets) ≡ all
    → after ++ rows_in e (drop (i + 1) targets) ≡ all
copied_step e i targets target before after all less at is so_far =
    ap (λ rows. rows ++ rows_in e (drop (i + 1) targets)) is
    ∙ append_assoc before (rows_of_target e target) (rows_in e (drop (i + 1) targets))
    ∙ ap (λ ts. before ++ rows_in e ts) (ap (λ t. t ∷ drop (i + 1) targets) at ∙ sym (drop_more targets i target less))
    ∙ so_far

-- ---- entries that put the same of one client

abbrev made : Bool → ℕ → List ℕ → ℕ → Target → PrefixValue → ScrubRow
made active domain cuid mid target prefix = record {
  domain = domain;
  cuid = cuid;
  mid = mid;
  prefix = prefix;
  ports = target.ports;
  protocols = target.protocols;
  active = active;
}

abbrev all_made : Bool → ℕ → List ℕ → ℕ → List Target → List ScrubRow
all_made active domain cuid mid targets = flat_map (λ (target : Target). map (made active domain cuid mid target) target.prefixes) targets

prefixes_made : (active : Bool) (e : Entry) (target : Target) (prefixes : List PrefixValue)
    → map (scrub_row_with active) (map (λ (p : PrefixValue). record { put = e; target = target; prefix = p }) prefixes)
    ≡ map (made active e.domain e.cuid (mid_of e.change) target) prefixes
prefixes_made active e target [] = refl
prefixes_made active e target (p ∷ prefixes) =
    ap (λ rows. made active e.domain e.cuid (mid_of e.change) target p ∷ rows) (prefixes_made active e target prefixes)

targets_made : (active : Bool) (e : Entry) (targets : List Target)
    → map (scrub_row_with active) (flat_map (λ (target : Target). map (λ (p : PrefixValue). record { put = e; target = target; prefix = p }) target.prefixes) targets)
    ≡ all_made active e.domain e.cuid (mid_of e.change) targets
targets_made active e [] = refl
targets_made active e (target ∷ targets) =
    let here = map (λ (p : PrefixValue). record { put = e; target = target; prefix = p }) target.prefixes in
    let rest = flat_map (λ (t : Target). map (λ (p : PrefixValue). record { put = e; target = t; prefix = p }) t.prefixes) targets in
    map-append (scrub_row_with active) here rest
    ∙ ap (λ rows. rows ++ map (scrub_row_with active) rest) (prefixes_made active e target target.prefixes)
    ∙ ap (λ rows. map (made active e.domain e.cuid (mid_of e.change) target) target.prefixes ++ rows) (targets_made active e targets)

pub rows_alike : (active : Bool) (x e : Entry) → x.domain ≡ e.domain → x.cuid ≡ e.cuid → x.change ≡ e.change → rows_with active x ≡ rows_with active e
rows_alike active x e domains cuids changes =
    targets_made active x (targets_of x.change)
    ∙ ap (λ domain. all_made active domain x.cuid (mid_of x.change) (targets_of x.change)) domains
    ∙ ap (λ cuid. all_made active e.domain cuid (mid_of x.change) (targets_of x.change)) cuids
    ∙ ap (λ c. all_made active e.domain e.cuid (mid_of c) (targets_of c)) changes
    ∙ sym (targets_made active e (targets_of e.change))

-- by what is known of the entry
pub put_alike : (domain : ℕ) (cuid : List ℕ) (put : Put) (e : Entry) (rows : List ScrubRow) → domain ≡ e.domain → cuid ≡ e.cuid → e.change ≡ change.Put put
    → rows ≡ rows_put (putting domain cuid put) → rows ≡ rows_put e
put_alike domain cuid put e rows domains cuids is made = made ∙ rows_alike false (putting domain cuid put) e domains cuids (sym is)
