-- Each row is of a client of the settings.
use Rattle.std.proofs.Common.{◌≡◌, ℕ, ◌+◌, ◌≤◌, Bool, true, false, cond, List, [], ◌∷◌, ◌++◌, length, map, Option, Some, refl, sym, ap, ◌∙◌, subst, append_assoc, arith}
use Rattle.std.specs.Prelude.{◌==◌, ◌||◌, flat_map, count_by, option_map, unwrap_or, ⊤}
use Rattle.std.specs.List.{find, list_any, AllByRecursion}
use Rattle.std.proofs.lemmas.Bool.{eq-eqb, cond-true, false≢true}
use Rattle.std.proofs.lemmas.List.Sums.{sum_by-cons, sum_by-append}
use Rattle.dots_settings.specs.declared.peer.PeerRow.{PeerRow}
use Rattle.dots_settings.specs.declared.peer.Role.{Role}
use Rattle.dots_settings.specs.declared.peer.Role.TheVariants as roles
use Rattle.dots_settings.specs.Settings.{SettingsValue, IsKnown, IsSettings}
use Rattle.dots_settings.specs.Lookups.{role_of}
use Rattle.stream_table.specs.Lines.{Line, PeerLines, is_number, is_of, all_lines, has_number, peer_in, peer_of, no_lines_as, no_lines, AreOf, IsClientOf, emptied, row_opened, has_room, forgotten, with_row, opened, buffering}
use Rattle.stream_table.proofs.Placing.{one_there}

-- ---- the rows stay

peers_emptied : (rows : List PeerLines) → map peer_in (emptied rows) ≡ map peer_in rows
peers_emptied [] = refl
peers_emptied (row ∷ rows) = ap (λ (ps : List ℕ). row.peer ∷ ps) (peers_emptied rows)

peers_forgotten : (conn : ℕ) (rows : List PeerLines) → map peer_in (forgotten conn rows) ≡ map peer_in rows
peers_forgotten conn [] = refl
peers_forgotten conn (row ∷ rows) = ap (λ (ps : List ℕ). row.peer ∷ ps) (peers_forgotten conn rows)

peers_buffering : (conn : ℕ) (becomes : List ℕ → List ℕ) (rows : List PeerLines) → map peer_in (buffering conn becomes rows) ≡ map peer_in rows
peers_buffering conn becomes [] = refl
peers_buffering conn becomes (row ∷ rows) = ap (λ (ps : List ℕ). row.peer ∷ ps) (peers_buffering conn becomes rows)

peer_opened : (conn : ℕ) (row : PeerLines) → (row_opened conn row).peer ≡ row.peer
peer_opened conn row = by_room (has_room row)
  where
    by_room : (b : Bool) → (cond b (record { peer = row.peer; lines = row.lines ++ record { conn = conn; buffered = [] } ∷ [] }) row).peer ≡ row.peer
    by_room true = refl
    by_room false = refl

peers_opened : (peer conn : ℕ) (rows : List PeerLines) → map peer_in (with_row peer (row_opened conn) rows) ≡ map peer_in rows
peers_opened peer conn [] = refl
peers_opened peer conn (row ∷ rows) = by_test (is_of peer row) (peers_opened peer conn rows)
  where
    by_test : (b : Bool) → map peer_in (with_row peer (row_opened conn) rows) ≡ map peer_in rows
        → map peer_in (cond b (row_opened conn row ∷ rows) (row ∷ with_row peer (row_opened conn) rows)) ≡ row.peer ∷ map peer_in rows
    by_test true rest = ap (λ (p : ℕ). p ∷ map peer_in rows) (peer_opened conn row)
    by_test false rest = ap (λ (ps : List ℕ). row.peer ∷ ps) rest

pub begun_of : (peers : List PeerRow) → AreOf peers (flat_map no_lines peers)
begun_of peers = refl

pub emptied_of : (peers : List PeerRow) (rows : List PeerLines) → AreOf peers rows → AreOf peers (emptied rows)
emptied_of peers rows are = peers_emptied rows ∙ are

pub forgotten_of : (peers : List PeerRow) (conn : ℕ) (rows : List PeerLines) → AreOf peers rows → AreOf peers (forgotten conn rows)
forgotten_of peers conn rows are = peers_forgotten conn rows ∙ are

pub opened_of : (peers : List PeerRow) (peer conn : ℕ) (rows : List PeerLines) → AreOf peers rows → AreOf peers (opened peer conn rows)
opened_of peers peer conn rows are = peers_opened peer conn (forgotten conn rows) ∙ peers_forgotten conn rows ∙ are

pub buffering_of : (peers : List PeerRow) (conn : ℕ) (becomes : List ℕ → List ℕ) (rows : List PeerLines) → AreOf peers rows → AreOf peers (buffering conn becomes rows)
buffering_of peers conn becomes rows are = peers_buffering conn becomes rows ∙ are

-- ---- a row that has a connection

not_in_front : (conn : ℕ) (front back : List Line) → list_any (is_number conn) front ≡ false → find (is_number conn) (front ++ back) ≡ find (is_number conn) back
not_in_front conn [] back none = refl
not_in_front conn (line ∷ front) back none = by_test (is_number conn line) none (not_in_front conn front back)
  where
    by_test : (b : Bool) → b || list_any (is_number conn) front ≡ false → (list_any (is_number conn) front ≡ false → find (is_number conn) (front ++ back) ≡ find (is_number conn) back)
        → cond b (Some line) (find (is_number conn) (front ++ back)) ≡ find (is_number conn) back
    by_test true none rest = absurd (false≢true (sym none))
    by_test false none rest = rest none

row_of_line : (conn : ℕ) (rows : List PeerLines) (line : Line) → find (is_number conn) (all_lines rows) ≡ Some line → (row : PeerLines) × (find (has_number conn) rows ≡ Some row)
row_of_line conn [] line found = absurd (cc found)
row_of_line conn (row ∷ rows) line found = by_test (has_number conn row) refl (row_of_line conn rows line)
  where
    by_test : (b : Bool) → has_number conn row ≡ b → (find (is_number conn) (all_lines rows) ≡ Some line → (r : PeerLines) × (find (has_number conn) rows ≡ Some r))
        → (r : PeerLines) × (cond b (Some row) (find (has_number conn) rows) ≡ Some r)
    by_test true is rest = (row, refl)
    by_test false is rest = rest (sym (not_in_front conn row.lines (all_lines rows) is) ∙ found)

-- ---- of a client

abbrev IsClient : SettingsValue → ℕ → Type 0
IsClient settings peer = (domain : ℕ) × IsClientOf settings peer domain

-- so are all of the list
abbrev AllClients : SettingsValue → List ℕ → Type 0
AllClients settings [] = ⊤
AllClients settings (peer ∷ peers) = IsClient settings peer × AllClients settings peers

found_is : (settings : SettingsValue) (conn : ℕ) (rows : List PeerLines) (row : PeerLines) → AllClients settings (map peer_in rows) → find (has_number conn) rows ≡ Some row → IsClient settings row.peer
found_is settings conn [] row all found = absurd (cc found)
found_is settings conn (r ∷ rows) row all found = by_test (has_number conn r) found (found_is settings conn rows row all.1)
  where
    by_test : (b : Bool) → cond b (Some r) (find (has_number conn) rows) ≡ Some row → (find (has_number conn) rows ≡ Some row → IsClient settings row.peer) → IsClient settings row.peer
    by_test true found rest = subst (λ (x : PeerLines). IsClient settings x.peer) (one_there r row found) all.0
    by_test false found rest = rest found

abbrev is_peer : ℕ → PeerRow → Bool
is_peer peer row = row.peer == peer

abbrev peer_times : ℕ → List PeerRow → ℕ
peer_times peer rows = count_by (is_peer peer) rows

abbrev one_if : Bool → ℕ
one_if b = cond b 1 0

-- the first row of a peer, none before which is of it
first_row : (peer : ℕ) (front back : List PeerRow) (row : PeerRow) → peer_times peer front ≡ 0 → is_peer peer row ≡ true → find (is_peer peer) (front ++ row ∷ back) ≡ Some row
first_row peer [] back row none is = cond-true (is_peer peer row) (Some row) (find (is_peer peer) back) is
first_row peer (r ∷ front) back row none is = by_test (is_peer peer r) (sum_by-cons (λ x. cond (is_peer peer x) 1 0) r front) (first_row peer front back row)
  where
    by_test : (b : Bool) → peer_times peer (r ∷ front) ≡ one_if b + peer_times peer front → (peer_times peer front ≡ 0 → is_peer peer row ≡ true → find (is_peer peer) (front ++ row ∷ back) ≡ Some row)
        → cond b (Some r) (find (is_peer peer) (front ++ row ∷ back)) ≡ Some row
    by_test true n rest = absurd (omega (arith, n, none))
    by_test false n rest = rest (omega (arith, n, none)) is

role_there : (settings : SettingsValue) (front back : List PeerRow) (row : PeerRow) → IsSettings settings → settings.peers ≡ front ++ row ∷ back → role_of settings row.peer ≡ row.role
role_there settings front back row are whole =
    let own : is_peer row.peer row ≡ true = eq-eqb row.peer row.peer refl in
    let most = subst (λ (rows : List PeerRow). peer_times row.peer rows ≤ 1) whole (are.peer_once row.peer) in
    let sum = sum_by-append (λ x. cond (is_peer row.peer x) 1 0) front (row ∷ back) in
    let here = sum_by-cons (λ x. cond (is_peer row.peer x) 1 0) row back in
    let counted = ap one_if own in
    let none : peer_times row.peer front ≡ 0 = omega (arith, most, sum, here, counted) in
    ap (λ (rows : List PeerRow). unwrap_or (option_map (λ x. x.role) (find (is_peer row.peer) rows)) roles.Stranger) whole
    ∙ ap (λ (o : Option PeerRow). unwrap_or (option_map (λ x. x.role) o) roles.Stranger) (first_row row.peer front back row none own)

clients_by : (settings : SettingsValue) (row : PeerRow) (rows : List PeerLines) (r : Role) → role_of settings row.peer ≡ r → IsKnown (length settings.domains) r → AllClients settings (map peer_in rows)
    → AllClients settings (map peer_in (no_lines_as row.peer r ++ rows))
clients_by settings row rows (roles.Client domain) is known rest = ((domain, record { role = is; known = known }), rest)
clients_by settings row rows roles.Gateway is known rest = rest
clients_by settings row rows roles.Stranger is known rest = rest

all_clients : (settings : SettingsValue) (front back : List PeerRow) → IsSettings settings → settings.peers ≡ front ++ back → AllByRecursion (λ (row : PeerRow). IsKnown (length settings.domains) row.role) back
    → AllClients settings (map peer_in (flat_map no_lines back))
all_clients settings front [] are whole known = tt
all_clients settings front (row ∷ back) are whole known =
    clients_by settings row (flat_map no_lines back) row.role (role_there settings front back row are whole) known.0
    (all_clients settings (front ++ row ∷ []) back are (whole ∙ sym (append_assoc front (row ∷ []) back)) known.1)

pub connection_is_of_client : (settings : SettingsValue) (rows : List PeerLines) (conn : ℕ) (line : Line) → IsSettings settings → AreOf settings.peers rows
    → find (is_number conn) (all_lines rows) ≡ Some line → (peer : ℕ) × (domain : ℕ) × (peer_of conn rows ≡ Some peer) × IsClientOf settings peer domain
connection_is_of_client settings rows conn line are of_settings found =
    let row = row_of_line conn rows line found in
    let all = subst (AllClients settings) (sym of_settings) (all_clients settings [] settings.peers are refl are.known) in
    let client = found_is settings conn rows row.0 all row.1 in
    (row.0.peer, client.0, ap (option_map peer_in) row.1, client.1)
