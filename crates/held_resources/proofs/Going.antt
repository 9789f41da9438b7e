-- The rows go on as their history does.
use Rattle.std.proofs.Common.{◌≡◌, ℕ, ◌+◌, Bool, true, false, cond, not, ◌&&◌, ◌||◌, List, [], ◌∷◌, ◌++◌, length, map, filter, Option, Some, None, refl, sym, ap, ◌∙◌, append_assoc}
use Rattle.std.specs.Prelude.{◌==◌, bytes_eq, is_some, option_map, option_to_list}
use Rattle.std.specs.List.{list_any}
use Rattle.std.proofs.lemmas.Bool.{false≢true, and_right, or_from}
use Rattle.std.proofs.lemmas.List.{map-append, length-append}
use Rattle.std.proofs.lemmas.List.Elements.{filter-append}
use Rattle.dots_history.specs.declared.entry.Entry.{Entry}
use Rattle.dots_history.specs.declared.change.Change.{Change}
use Rattle.dots_history.specs.declared.change.Change.TheVariants as change
use Rattle.dots_history.specs.Entries.{is_held, is_deregister, is_configuration, undoes, undoes_alias, undoes_acl, undoes_of_client, undoes_of_peer, undoes_loss, reconfigures, resumes, is_lost, is_loss, same_client}
use Rattle.dots_history.specs.Histories.{stays, held}
use Rattle.dots_history.specs.Fits.{is_of_mitigations}
use Rattle.dots_history.specs.Filed.{Filed, entry_of, refiled}
use Rattle.held_resources.specs.declared.row.HeldSlot.{HeldSlot}
use Rattle.held_resources.specs.declared.row.HeldName.{HeldName}
use Rattle.held_resources.specs.declared.row.HeldName.TheVariants as written
use Rattle.held_resources.specs.Rows.{written_of, row_with, row_of, rows_of, rows_with, undone_of_client, undone_of_peer, undone_of_signal, is_undone, renumbered}

some_is : {A : Type 0} → (x y : A) → Some x ≡ Some y → x ≡ y
some_is x y is = cc

-- ---- a row is undone where its entry is

of_client : (c : Change) (w : HeldName) (later : Change) → written_of c ≡ Some w → undone_of_client w later ≡ undoes_of_client c later
unfolding undoes_of_client
of_client change.Register w later is = sym (ap (λ v. undone_of_client v later) (some_is written.Registration w is))
of_client (change.SetAlias alias) w later is = sym (ap (λ v. undone_of_client v later) (some_is (written.Alias alias.name) w is))
of_client (change.SetAcl acl) w later is = sym (ap (λ v. undone_of_client v later) (some_is (written.Acl acl.name) w is))
of_client (change.SetConfig sid config) w later is = sym (ap (λ v. undone_of_client v later) (some_is written.Configuration w is))
of_client change.Lost w later is = sym (ap (λ v. undone_of_client v later) (some_is written.Loss w is))
of_client _ w later is = absurd (false≢true (ap is_some is))

of_peer : (c : Change) (w : HeldName) (later : Change) → written_of c ≡ Some w → undone_of_peer w later ≡ undoes_of_peer c later
unfolding undoes_of_peer
of_peer change.Register w later is = sym (ap (λ v. undone_of_peer v later) (some_is written.Registration w is))
of_peer (change.SetAlias alias) w later is = sym (ap (λ v. undone_of_peer v later) (some_is (written.Alias alias.name) w is))
of_peer (change.SetAcl acl) w later is = sym (ap (λ v. undone_of_peer v later) (some_is (written.Acl acl.name) w is))
of_peer (change.SetConfig sid config) w later is = sym (ap (λ v. undone_of_peer v later) (some_is written.Configuration w is))
of_peer change.Lost w later is = sym (ap (λ v. undone_of_peer v later) (some_is written.Loss w is))
of_peer _ w later is = absurd (false≢true (ap is_some is))

of_signal : (c : Change) (w : HeldName) (later : Change) → written_of c ≡ Some w → undone_of_signal w later ≡ undoes_loss c later
unfolding undoes_loss is_lost
of_signal change.Register w later is = sym (ap (λ v. undone_of_signal v later) (some_is written.Registration w is))
of_signal (change.SetAlias alias) w later is = sym (ap (λ v. undone_of_signal v later) (some_is (written.Alias alias.name) w is))
of_signal (change.SetAcl acl) w later is = sym (ap (λ v. undone_of_signal v later) (some_is (written.Acl acl.name) w is))
of_signal (change.SetConfig sid config) w later is = sym (ap (λ v. undone_of_signal v later) (some_is written.Configuration w is))
of_signal change.Lost w later is = sym (ap (λ v. undone_of_signal v later) (some_is written.Loss w is))
of_signal _ w later is = absurd (false≢true (ap is_some is))

with_undone : (x : Filed) (w : HeldName) (e : Entry) → written_of x.entry.change ≡ Some w → is_undone (row_with x w) e ≡ undoes x.entry e
unfolding undoes same_client reconfigures resumes
with_undone x w e is =
    let of = (x.entry.domain == e.domain) && bytes_eq x.entry.cuid e.cuid in
    let peer = x.entry.peer == e.peer in
    let domain = x.entry.domain == e.domain in
    ap (λ b. (of && b) || ((peer && undone_of_peer w e.change) || (peer && (domain && undone_of_signal w e.change)))) (of_client x.entry.change w e.change is)
    ∙ ap
    (λ b. (of && undoes_of_client x.entry.change e.change) || ((peer && b) || (peer && (domain && undone_of_signal w e.change))))
    (of_peer x.entry.change w e.change is)
    ∙ ap
    (λ b. (of && undoes_of_client x.entry.change e.change) || ((peer && undoes_of_peer x.entry.change e.change) || (peer && (domain && b))))
    (of_signal x.entry.change w e.change is)

row_undone : (x : Filed) (e : Entry) (o : Option HeldName) (r : HeldSlot) → written_of x.entry.change ≡ o → option_map (row_with x) o ≡ Some r
    → is_undone r e ≡ undoes x.entry e
row_undone x e None r is some = absurd (false≢true (ap is_some some))
row_undone x e (Some w) r is some = sym (ap (λ row. is_undone row e) (some_is (row_with x w) r some)) ∙ with_undone x w e is

-- ---- one more entry

any_push : (test : Entry → Bool) (later : List Entry) (e : Entry) → list_any test (later ++ e ∷ []) ≡ (list_any test later || test e)
any_push test [] e = or_false (test e)
  where
    or_false : (b : Bool) → (b || false) ≡ b
    or_false true = refl
    or_false false = refl
any_push test (x ∷ later) e = ap (λ rest. test x || rest) (any_push test later e) ∙ regroup (test x) (list_any test later) (test e)
  where
    regroup : (a b c : Bool) → (a || (b || c)) ≡ ((a || b) || c)
    regroup true b c = refl
    regroup false b c = refl

stays_push : (x e : Entry) (later : List Entry) → stays x (later ++ e ∷ []) ≡ (stays x later && not (undoes x e))
stays_push x e later =
    ap (λ any. is_held x.change && not any) (any_push (undoes x) later e) ∙ not_either (is_held x.change) (list_any (undoes x) later) (undoes x e)
  where
    not_either : (a b c : Bool) → (a && not (b || c)) ≡ ((a && not b) && not c)
    not_either true true c = refl
    not_either true false c = refl
    not_either false b c = refl

only_held : (c : Change) (x : Filed) → option_to_list (cond (is_held c && true) (option_map (row_with x) (written_of c)) None) ++ []
    ≡ option_to_list (option_map (row_with x) (written_of c))
unfolding is_held
only_held change.Register x = refl
only_held (change.SetAlias alias) x = refl
only_held (change.SetAcl acl) x = refl
only_held (change.SetConfig sid config) x = refl
only_held change.Lost x = refl
only_held _ x = refl

one_left : (e : Entry) (s u : Bool) (o : Option HeldSlot) → ((r : HeldSlot) → o ≡ Some r → is_undone r e ≡ u)
    → option_to_list (cond (s && not u) o None) ≡ filter (λ row. not (is_undone row e)) (option_to_list (cond s o None))
one_left e false u o is = refl
one_left e true true None is = refl
one_left e true false None is = refl
one_left e true true (Some r) is = sym (ap (λ b. cond (not b) (r ∷ []) []) (is r refl))
one_left e true false (Some r) is = sym (ap (λ b. cond (not b) (r ∷ []) []) (is r refl))

pub rows_more : (filed : List Filed) (x : Filed) → rows_of (filed ++ x ∷ []) ≡ rows_with x (rows_of filed)
rows_more [] x = only_held x.entry.change x
rows_more (y ∷ later) x =
    let keep : HeldSlot → Bool = λ row. not (is_undone row x.entry) in
    let was = option_to_list (cond (stays y.entry (map entry_of later)) (row_of y) None) in
    ap
    (λ s. option_to_list (cond s (row_of y) None) ++ rows_of (later ++ x ∷ []))
    (ap (stays y.entry) (map-append entry_of later (x ∷ [])) ∙ stays_push y.entry x.entry (map entry_of later))
    ∙ ap
    (λ front. front ++ rows_of (later ++ x ∷ []))
    (one_left x.entry (stays y.entry (map entry_of later)) (undoes y.entry x.entry) (row_of y)
    (λ r some. row_undone y x.entry (written_of y.entry.change) r refl some))
    ∙ ap (λ rest. filter keep was ++ rest) (rows_more later x)
    ∙ sym (append_assoc (filter keep was) (filter keep (rows_of later)) (option_to_list (row_of x)))
    ∙ ap (λ rows. rows ++ option_to_list (row_of x)) (sym (filter-append keep was (rows_of later)))

-- ---- as many as things are held

one_each : (b : Bool) (r : HeldSlot) (e : Entry) (n : ℕ) → length (option_to_list (cond b (Some r) None)) + n ≡ length (option_to_list (cond b (Some e) None)) + n
one_each true r e n = refl
one_each false r e n = refl

as_many : (c : Change) (b : Bool) (x : Filed) (n : ℕ) → length (option_to_list (cond (is_held c && b) (option_map (row_with x) (written_of c)) None)) + n
    ≡ length (option_to_list (cond (is_held c && b) (Some x.entry) None)) + n
unfolding is_held
as_many change.Register b x n = one_each b (row_with x written.Registration) x.entry n
as_many (change.SetAlias alias) b x n = one_each b (row_with x (written.Alias alias.name)) x.entry n
as_many (change.SetAcl acl) b x n = one_each b (row_with x (written.Acl acl.name)) x.entry n
as_many (change.SetConfig sid config) b x n = one_each b (row_with x written.Configuration) x.entry n
as_many change.Lost b x n = one_each b (row_with x written.Loss) x.entry n
as_many _ b x n = refl

pub rows_many : (filed : List Filed) → length (rows_of filed) ≡ length (held (map entry_of filed))
rows_many [] = refl
rows_many (x ∷ later) =
    let s = stays x.entry (map entry_of later) in
    let own = option_to_list (cond s (row_of x) None) in
    let theirs = option_to_list (cond s (Some x.entry) None) in
    length-append own (rows_of later)
    ∙ ap (λ n. length own + n) (rows_many later)
    ∙ as_many x.entry.change (not (list_any (undoes x.entry) (map entry_of later))) x (length (held (map entry_of later)))
    ∙ sym (length-append theirs (held (map entry_of later)))

-- ---- new numbers

same_entries : (keep : List ℕ) (filed : List Filed) → map entry_of (map (refiled keep) filed) ≡ map entry_of filed
same_entries keep [] = refl
same_entries keep (x ∷ later) = ap (λ rest. x.entry ∷ rest) (same_entries keep later)

one_moved : (keep : List ℕ) (x : Filed) (s : Bool) (o : Option HeldName) → map (renumbered keep) (option_to_list (cond s (option_map (row_with x) o) None))
    ≡ option_to_list (cond s (option_map (row_with (refiled keep x)) o) None)
one_moved keep x true None = refl
one_moved keep x true (Some w) = refl
one_moved keep x false o = refl

pub rows_moved : (keep : List ℕ) (filed : List Filed) → map (renumbered keep) (rows_of filed) ≡ rows_of (map (refiled keep) filed)
rows_moved keep [] = refl
rows_moved keep (x ∷ later) =
    let s = stays x.entry (map entry_of later) in
    map-append (renumbered keep) (option_to_list (cond s (row_of x) None)) (rows_of later)
    ∙ ap (λ front. front ++ map (renumbered keep) (rows_of later)) (one_moved keep x s (written_of x.entry.change))
    ∙ ap (λ rest. option_to_list (cond s (row_of (refiled keep x)) None) ++ rest) (rows_moved keep later)
    ∙ ap
    (λ es. option_to_list (cond (stays x.entry es) (row_of (refiled keep x)) None) ++ rows_of (map (refiled keep) later))
    (sym (same_entries keep later))

-- ---- mitigations undo nothing

quiet_client : (w : HeldName) (c : Change) → is_of_mitigations c ≡ true → undone_of_client w c ≡ false
unfolding is_of_mitigations is_deregister undoes_alias undoes_acl
quiet_client written.Registration (change.Put put) is = refl
quiet_client written.Registration (change.Withdraw mid) is = refl
quiet_client written.Registration _ is = absurd (false≢true is)
quiet_client (written.Alias name) (change.Put put) is = refl
quiet_client (written.Alias name) (change.Withdraw mid) is = refl
quiet_client (written.Alias name) _ is = absurd (false≢true is)
quiet_client (written.Acl name) (change.Put put) is = refl
quiet_client (written.Acl name) (change.Withdraw mid) is = refl
quiet_client (written.Acl name) _ is = absurd (false≢true is)
quiet_client _ c is = refl

quiet_setting : (c : Change) → is_of_mitigations c ≡ true → is_configuration c ≡ false
unfolding is_of_mitigations is_configuration
quiet_setting (change.Put put) is = refl
quiet_setting (change.Withdraw mid) is = refl
quiet_setting _ is = absurd (false≢true is)

quiet_peer : (w : HeldName) (c : Change) → is_of_mitigations c ≡ true → undone_of_peer w c ≡ false
quiet_peer written.Configuration c is = quiet_setting c is
quiet_peer _ c is = refl

quiet_loss : (c : Change) → is_of_mitigations c ≡ true → is_loss c ≡ false
unfolding is_of_mitigations is_loss
quiet_loss (change.Put put) is = refl
quiet_loss (change.Withdraw mid) is = refl
quiet_loss _ is = absurd (false≢true is)

quiet_signal : (w : HeldName) (c : Change) → is_of_mitigations c ≡ true → undone_of_signal w c ≡ false
quiet_signal written.Loss c is = quiet_loss c is
quiet_signal _ c is = refl

none_of : (client peer domain one other last : Bool) → one ≡ false → other ≡ false → last ≡ false
    → ((client && one) || ((peer && other) || (peer && (domain && last)))) ≡ false
none_of client peer domain one other last of_client of_peer of_loss =
    or_from
    (client && one)
    ((peer && other) || (peer && (domain && last)))
    (and_right client one of_client)
    (or_from (peer && other) (peer && (domain && last)) (and_right peer other of_peer) (and_right peer (domain && last) (and_right domain last of_loss)))

quiet_row : (row : HeldSlot) (e : Entry) → is_of_mitigations e.change ≡ true → is_undone row e ≡ false
quiet_row row e is =
    none_of
    ((row.domain == e.domain) && bytes_eq row.cuid e.cuid)
    (row.peer == e.peer)
    (row.domain == e.domain)
    (undone_of_client row.written e.change)
    (undone_of_peer row.written e.change)
    (undone_of_signal row.written e.change)
    (quiet_client row.written e.change is)
    (quiet_peer row.written e.change is)
    (quiet_signal row.written e.change is)

pub none_undone : (rows : List HeldSlot) (e : Entry) → is_of_mitigations e.change ≡ true → rows ≡ filter (λ row. not (is_undone row e)) rows
none_undone [] e is = refl
none_undone (row ∷ rows) e is =
    ap (λ rest. row ∷ rest) (none_undone rows e is)
    ∙ sym (ap (λ b. cond (not b) (row ∷ filter (λ r. not (is_undone r e)) rows) (filter (λ r. not (is_undone r e)) rows)) (quiet_row row e is))
