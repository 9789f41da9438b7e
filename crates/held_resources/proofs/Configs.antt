-- What one more entry makes of the session configurations.
use Rattle.std.proofs.Common.{◌≡◌, ℕ, Bool, true, false, cond, not, ◌&&◌, ◌||◌, List, [], ◌∷◌, ◌++◌, map, filter, Option, Some, None, inl, inr, refl, sym, ap, ◌∙◌}
use Rattle.std.specs.Prelude.{◌==◌, nat_lt}
use Rattle.std.specs.List.{list_any, list_all, find}
use Rattle.std.proofs.lemmas.Bool.{false≢true, both_ways, cond_both, cond-true, cond-false, cases_Bool, and_parts, and_left, and_right, or_left, eqb-true}
use Rattle.std.proofs.lemmas.Option.{none-some}
use Rattle.dots_history.specs.declared.config.Config.{Config}
use Rattle.dots_history.specs.declared.entry.Entry.{Entry}
use Rattle.dots_history.specs.declared.change.Change.{Change}
use Rattle.dots_history.specs.declared.change.Change.TheVariants as change
use Rattle.dots_history.specs.Entries.{same_client, is_held, undoes, undoes_of_client, undoes_of_peer, is_configuration, reconfigures, resumes, is_lost, is_loss}
use Rattle.dots_history.specs.Histories.{or_else}
use Rattle.dots_history.proofs.Remembering.{or_none}
use Rattle.dots_history.specs.Capacities.{loses_as}
use Rattle.dots_history.specs.Views.{held_with}
use Rattle.held_resources.specs.declared.configurations.Configuration.{Configuration}
use Rattle.dots_history.specs.Held.{config_set, config_of}
use Rattle.held_resources.specs.Tables.{Sizes, configured, configuration_with, configuration_of, peer_of, is_placed, is_known, config_in}
use Rattle.dots_history.proofs.Written.{some_of_both, or_no, not_resumed}
use Rattle.held_resources.proofs.Holdings.{turned_eq}

set_parts : (c later : Change) (s : ℕ × Config) → config_set c ≡ Some s
    → (undoes_of_client c later ≡ false) × (undoes_of_peer c later ≡ is_configuration later) × (is_lost c ≡ false)
unfolding undoes_of_client undoes_of_peer is_lost
set_parts (change.SetConfig sid config) later s is = (refl, refl, refl)
set_parts _ later s is = absurd (none-some s is)

set_undone : (x e : Entry) (s : ℕ × Config) → config_set x.change ≡ Some s → undoes x e ≡ ((x.peer == e.peer) && is_configuration e.change)
unfolding undoes reconfigures
set_undone x e s is =
    let parts = set_parts x.change e.change s is in
    ap
    (λ b. b || (((x.peer == e.peer) && undoes_of_peer x.change e.change) || resumes x e))
    (and_right (same_client x e) (undoes_of_client x.change e.change) parts.0)
    ∙ or_no ((x.peer == e.peer) && undoes_of_peer x.change e.change) (resumes x e) (not_resumed x e parts.2)
    ∙ ap (λ b. (x.peer == e.peer) && b) parts.1

abbrev one : ℕ → Entry → Option (ℕ × Config)
one peer e = cond (e.peer == peer) (config_set e.change) None

abbrev over : ℕ → Entry → Bool
over peer e = (peer == e.peer) && is_configuration e.change

undone_by : (peer : ℕ) (x e : Entry) (s : ℕ × Config) → one peer x ≡ Some s → undoes x e ≡ over peer e
undone_by peer x e s is =
    let parts = some_of_both (x.peer == peer) (config_set x.change) s is in
    set_undone x e s parts.1 ∙ ap (λ p. (p == e.peer) && is_configuration e.change) (eqb-true x.peer peer parts.0)

-- none is left after a configuration of the peer
none_left : (peer : ℕ) (e : Entry) (xs : List Entry) → over peer e ≡ true → config_of peer (filter (λ x. not (undoes x e)) xs) ≡ None
none_left peer e [] is = refl
none_left peer e (x ∷ xs) is = by_one (one peer x) refl (none_left peer e xs is)
  where
    by_one : (o : Option (ℕ × Config)) → one peer x ≡ o → config_of peer (filter (λ x. not (undoes x e)) xs) ≡ None
        → config_of peer (cond (not (undoes x e)) (x ∷ filter (λ x. not (undoes x e)) xs) (filter (λ x. not (undoes x e)) xs)) ≡ None
    by_one None none go =
        cond_both
        (not (undoes x e))
        (x ∷ filter (λ x. not (undoes x e)) xs)
        (filter (λ x. not (undoes x e)) xs)
        (λ ys. config_of peer ys ≡ None)
        (λ kept. ap (λ o. or_else o (config_of peer (filter (λ x. not (undoes x e)) xs))) none ∙ go)
        (λ gone. go)
    by_one (Some s) some go =
        ap
        (λ b. config_of peer (cond (not b) (x ∷ filter (λ x. not (undoes x e)) xs) (filter (λ x. not (undoes x e)) xs)))
        (undone_by peer x e s some ∙ is)
        ∙ go

-- and what was there after any other entry
all_left : (peer : ℕ) (e : Entry) (xs : List Entry) → over peer e ≡ false → config_of peer (filter (λ x. not (undoes x e)) xs) ≡ config_of peer xs
all_left peer e [] out = refl
all_left peer e (x ∷ xs) out = by_one (one peer x) refl (all_left peer e xs out)
  where
    by_one : (o : Option (ℕ × Config)) → one peer x ≡ o → config_of peer (filter (λ x. not (undoes x e)) xs) ≡ config_of peer xs
        → config_of peer (cond (not (undoes x e)) (x ∷ filter (λ x. not (undoes x e)) xs) (filter (λ x. not (undoes x e)) xs))
        ≡ or_else (one peer x) (config_of peer xs)
    by_one None none go =
        cond_both
        (not (undoes x e))
        (x ∷ filter (λ x. not (undoes x e)) xs)
        (filter (λ x. not (undoes x e)) xs)
        (λ ys. config_of peer ys ≡ or_else (one peer x) (config_of peer xs))
        (λ kept. ap (or_else (one peer x)) go)
        (λ gone. go ∙ sym (ap (λ o. or_else o (config_of peer xs)) none))
    by_one (Some s) some go =
        ap
        (λ b. config_of peer (cond (not b) (x ∷ filter (λ x. not (undoes x e)) xs) (filter (λ x. not (undoes x e)) xs)))
        (undone_by peer x e s some ∙ out)
        ∙ ap (or_else (one peer x)) go

or_else_assoc : {A : Type 0} (a b c : Option A) → or_else (or_else a b) c ≡ or_else a (or_else b c)
or_else_assoc None b c = refl
or_else_assoc (Some x) b c = refl

config-append : (peer : ℕ) (xs ys : List Entry) → config_of peer (xs ++ ys) ≡ or_else (config_of peer xs) (config_of peer ys)
config-append peer [] ys = refl
config-append peer (x ∷ xs) ys =
    ap (or_else (one peer x)) (config-append peer xs ys) ∙ sym (or_else_assoc (one peer x) (config_of peer xs) (config_of peer ys))

set_held : (c : Change) (s : ℕ × Config) → config_set c ≡ Some s → is_held c ≡ true
unfolding is_held
set_held (change.SetConfig sid config) s is = refl
set_held _ s is = absurd (none-some s is)

end_is : (peer : ℕ) (e : Entry) → config_of peer (cond (is_held e.change) (e ∷ []) []) ≡ one peer e
end_is peer e =
    cond_both
    (is_held e.change)
    (e ∷ [])
    []
    (λ ys. config_of peer ys ≡ one peer e)
    (λ is. or_none (one peer e))
    (λ out. by_one out (one peer e) refl)
  where
    by_one : is_held e.change ≡ false → (o : Option (ℕ × Config)) → one peer e ≡ o → None ≡ o
    by_one out None none = refl
    by_one out (Some s) some =
        absurd (both_ways (is_held e.change) out (set_held e.change s (some_of_both (e.peer == peer) (config_set e.change) s some).1))

parts_of : (peer : ℕ) (e : Entry) (es : List Entry)
    → config_of peer (held_with e es) ≡ or_else (config_of peer (filter (λ x. not (undoes x e)) es)) (one peer e)
parts_of peer e es =
    config-append peer (filter (λ x. not (undoes x e)) es) (cond (is_held e.change) (e ∷ []) [])
    ∙ ap (or_else (config_of peer (filter (λ x. not (undoes x e)) es))) (end_is peer e)

by_change : (c : Change) (before left : Option (ℕ × Config)) → (is_configuration c ≡ true → left ≡ None) → (is_configuration c ≡ false → left ≡ before)
    → or_else left (config_set c) ≡ configured c before
unfolding is_configuration
by_change (change.SetConfig sid config) before left gone same = ap (λ o. or_else o (Some (sid, config))) (gone refl)
by_change change.ClearConfig before left gone same = or_none left ∙ gone refl
by_change _ before left gone same = or_none left ∙ same refl

pub config_with : (peer : ℕ) (e : Entry) (es : List Entry)
    → config_of peer (held_with e es) ≡ cond (e.peer == peer) (configured e.change (config_of peer es)) (config_of peer es)
config_with peer e es =
    parts_of peer e es
    ∙ elim (cases_Bool (e.peer == peer)) [
      | inl own ↦
          let same : over peer e ≡ is_configuration e.change = ap (λ b. b && is_configuration e.change) (turned_eq peer e.peer ∙ own) in
          ap (λ b. or_else (config_of peer (filter (λ x. not (undoes x e)) es)) (cond b (config_set e.change) None)) own
          ∙ by_change
          e.change
          (config_of peer es)
          (config_of peer (filter (λ x. not (undoes x e)) es))
          (λ is. none_left peer e es (same ∙ is))
          (λ out. all_left peer e es (same ∙ out))
          ∙ sym (cond-true (e.peer == peer) (configured e.change (config_of peer es)) (config_of peer es) own)
      | inr other ↦
          ap (λ b. or_else (config_of peer (filter (λ x. not (undoes x e)) es)) (cond b (config_set e.change) None)) other
          ∙ or_none (config_of peer (filter (λ x. not (undoes x e)) es))
          ∙ all_left peer e es (and_left (peer == e.peer) (is_configuration e.change) (turned_eq peer e.peer ∙ other))
          ∙ sym (cond-false (e.peer == peer) (configured e.change (config_of peer es)) (config_of peer es) other)
    ]

pub configurations_with : (e : Entry) (es : List Entry) (peers : List ℕ) → map (configuration_with e) (map (configuration_of es) peers) ≡ map (configuration_of (held_with e es)) peers
configurations_with e es [] = refl
configurations_with e es (p ∷ peers) =
    ap (λ config. configuration_by p config ∷ map (configuration_with e) (map (configuration_of es) peers)) (sym (config_with p e es))
    ∙ ap (λ rest. configuration_of (held_with e es) p ∷ rest) (configurations_with e es peers)
  where
    configuration_by : ℕ → Option (ℕ × Config) → Configuration
    configuration_by peer config = record { peer = peer; config = config }

-- what an entry that configures nothing makes of sessions
quiet : (c : Change) (o : Option (ℕ × Config)) → is_configuration c ≡ false → configured c o ≡ o
unfolding is_configuration
quiet (change.SetConfig sid config) o out = absurd (false≢true (sym out))
quiet change.ClearConfig o out = absurd (false≢true (sym out))
quiet _ o out = refl

pub as_before : (e : Entry) (configurations : List Configuration) → is_configuration e.change ≡ false → map (configuration_with e) configurations ≡ configurations
as_before e [] out = refl
as_before e (s ∷ configurations) out =
    ap
    (λ (config : Option (ℕ × Config)). record { peer = s.peer; config = config } ∷ map (configuration_with e) configurations)
    (cond_both (e.peer == s.peer) (configured e.change s.config) s.config (λ o. o ≡ s.config) (λ is. quiet e.change s.config out) (λ no. refl))
    ∙ ap (λ rest. s ∷ rest) (as_before e configurations out)

-- ---- which peers
set_configures : (c : Change) (s : ℕ × Config) → config_set c ≡ Some s → is_configuration c ≡ true
unfolding is_configuration
set_configures (change.SetConfig sid config) s is = refl
set_configures _ s is = absurd (none-some s is)

pub no_config : (sizes : Sizes) (peer : ℕ) (xs : List Entry) → list_all (is_known sizes) xs ≡ true → list_any (λ p. peer == p) sizes.peers ≡ false
    → config_of peer xs ≡ None
no_config sizes peer [] all out = refl
no_config sizes peer (x ∷ xs) all out =
    let parts = and_parts (is_known sizes x) (list_all (is_known sizes) xs) all in
    by_one (one peer x) refl parts.0 (no_config sizes peer xs parts.1 out)
  where
    by_one : (o : Option (ℕ × Config)) → one peer x ≡ o → is_known sizes x ≡ true → config_of peer xs ≡ None → or_else o (config_of peer xs) ≡ None
    by_one None none known rest = rest
    by_one (Some s) some known rest =
        let both = some_of_both (x.peer == peer) (config_set x.change) s some in
        absurd (both_ways
        (list_any (λ p. peer == p) sizes.peers)
        out
        (ap (λ q. list_any (λ p. q == p) sizes.peers) (sym (eqb-true x.peer peer both.0))
        ∙ sym (cond-true
        (is_configuration x.change)
        (list_any (λ p. x.peer == p) sizes.peers)
        (nat_lt x.domain sizes.domains)
        (set_configures x.change s both.1))
        ∙ (and_parts (is_placed sizes x) (not (is_loss x.change) || list_any (loses_as x) sizes.own) known).0))

pub find_configuration : (peer : ℕ) (es : List Entry) (peers : List ℕ)
    → config_in (find (λ (s : Configuration). peer == s.peer) (map (configuration_of es) peers)) ≡ cond (list_any (λ p. peer == p) peers) (config_of peer es) None
find_configuration peer es [] = refl
find_configuration peer es (p ∷ peers) =
    elim (cases_Bool (peer == p)) [
      | inl is ↦
          ap config_in (cond-true (peer == p) (Some (configuration_of es p)) (find (λ (s : Configuration). peer == s.peer) (map (configuration_of es) peers)) is)
          ∙ ap (λ q. config_of q es) (sym (eqb-true peer p is))
          ∙ sym (cond-true (list_any (λ p. peer == p) (p ∷ peers)) (config_of peer es) None (or_left (peer == p) (list_any (λ p. peer == p) peers) is))
      | inr out ↦
          ap config_in (cond-false (peer == p) (Some (configuration_of es p)) (find (λ (s : Configuration). peer == s.peer) (map (configuration_of es) peers)) out)
          ∙ find_configuration peer es peers
          ∙ sym (ap (λ b. cond (b || list_any (λ p. peer == p) peers) (config_of peer es) None) out)
    ]

pub any_peer : (peer : ℕ) (configurations : List Configuration) → list_any (λ other. peer == other) (map peer_of configurations) ≡ list_any (λ (s : Configuration). peer == s.peer) configurations
any_peer peer [] = refl
any_peer peer (s ∷ configurations) = ap (λ b. (peer == s.peer) || b) (any_peer peer configurations)
