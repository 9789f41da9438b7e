-- A file has one meaning.
use Rattle.std.proofs.Common.{◌≡◌, ℕ, ◌+◌, ◌^◌, ◌≤◌, Bool, true, false, nat_lt, inl, inr, List, [], ◌∷◌, ◌++◌, length, take, Option, Some, None, refl, sym, ap, subst, ◌∙◌, append_assoc, append-nil, true≢false, arith}
use Rattle.std.proofs.lemmas.Bool.Decides.{nat_tests}
use Rattle.std.specs.Bool.{MatchBool}
use Rattle.dots_settings.specs.declared.fault.SettingsFault.{SettingsFault}
use Rattle.dots_settings.specs.declared.fault.SettingsFault.TheVariants as fault
use Rattle.dots_settings.specs.Lines.{lines_of, is_skipped, content_of}
use Rattle.dots_settings.specs.Form.{FormValue, Says}
use Rattle.dots_settings.specs.Row.{Row, row_of, AreRows}
use Rattle.dots_settings.specs.Draft.{draft_of}
use Rattle.dots_settings.specs.Faults.{fault_of}
use Rattle.dots_settings.specs.Settings.{SettingsValue, settings_of}
use Rattle.dots_settings.specs.File.{AreFaultless, Stand, HasFault, SettingsAre, SettingsFail, is_past}
use Rattle.dots_settings.proofs.OneForm.{says_once}
use Rattle.dots_settings.proofs.ReadTo.{bytes_left}
use Rattle.dots_settings.proofs.Rows.{stand_none, stand_then_skipped, stand_then_row}

-- lines have one list of rows
rows_once : (number : ℕ) (lines : List (List ℕ)) (one other : List Row) → AreRows number lines one → AreRows number lines other → one ≡ other
rows_once number [] one other x y = x ∙ sym y
rows_once number (line ∷ lines) one other x y = by (λ one other x y. rows_once (number + 1) lines one other x y) (is_skipped line) x y
  where
    by : ((one other : List Row) → AreRows (number + 1) lines one → AreRows (number + 1) lines other → one ≡ other) → (b : Bool)
        → MatchBool b (AreRows (number + 1) lines one) ((form : FormValue) × (later : List Row) × Says line form × (one ≡ row_of number line form ∷ later) × AreRows (number + 1) lines later)
        → MatchBool b (AreRows (number + 1) lines other) ((form : FormValue) × (later : List Row) × Says line form × (other ≡ row_of number line form ∷ later) × AreRows (number + 1) lines later)
        → one ≡ other
    by rest true x y = rest one other x y
    by rest false (form, later, says, is, are) (form', later', says', is', are') =
        is ∙ (λ i. row_of number line (says_once line form form' says says' i) ∷ rest later later' are are' i) ∙ sym is'

-- the rows in front of a line, and its own
record HasRowAt (number : ℕ) (before : List (List ℕ)) (line : List ℕ) (rows : List Row) : Type 0 where
  pub front : List Row
  pub are : AreRows number before front
  pub here : MatchBool (is_skipped line) (Unit {0}) ((form : FormValue) × (back : List Row) × Says line form × (rows ≡ front ++ row_of (number + length before) line form ∷ back))

shift_here : (b : Bool) (line : List ℕ) (n m : ℕ) → n ≡ m → (ahead front later rows : List Row) → rows ≡ ahead ++ later
    → MatchBool b (Unit {0}) ((form : FormValue) × (back : List Row) × Says line form × (later ≡ front ++ row_of n line form ∷ back))
    → MatchBool b (Unit {0}) ((form : FormValue) × (back : List Row) × Says line form × (rows ≡ (ahead ++ front) ++ row_of m line form ∷ back))
shift_here true line n m same ahead front later rows is here = tt
shift_here false line n m same ahead front later rows is (form, back, says, at) =
    (form, back, says, is ∙ ap (λ xs. ahead ++ xs) (at ∙ ap (λ k. front ++ row_of k line form ∷ back) same) ∙ sym (append_assoc ahead front (row_of m line form ∷ back)))

row_at : (number : ℕ) (before : List (List ℕ)) (line : List ℕ) (behind : List (List ℕ)) (rows : List Row) → AreRows number (before ++ line ∷ behind) rows → HasRowAt number before line rows
row_at number [] line behind rows are = record { front = []; are = refl; here = by (is_skipped line) are }
  where
    by : (b : Bool)
        → MatchBool b (AreRows (number + 1) behind rows) ((form : FormValue) × (later : List Row) × Says line form × (rows ≡ row_of number line form ∷ later) × AreRows (number + 1) behind later)
        → MatchBool b (Unit {0}) ((form : FormValue) × (back : List Row) × Says line form × (rows ≡ row_of (number + 0) line form ∷ back))
    by true are = tt
    by false (form, later, says, is, are) = (form, later, says, subst (λ (n : ℕ). rows ≡ row_of n line form ∷ later) (omega arith) is)
row_at number (first ∷ before) line behind rows are = by (λ later are. row_at (number + 1) before line behind later are) (is_skipped first) refl are
  where
    by : ((later : List Row) → AreRows (number + 1) (before ++ line ∷ behind) later → HasRowAt (number + 1) before line later) → (b : Bool) → is_skipped first ≡ b
        → MatchBool b (AreRows (number + 1) (before ++ line ∷ behind) rows)
        ((form : FormValue) × (later : List Row) × Says first form × (rows ≡ row_of number first form ∷ later) × AreRows (number + 1) (before ++ line ∷ behind) later)
        → HasRowAt number (first ∷ before) line rows
    by rest true e are =
        let at = rest rows are in
        record { front = at.front; are = rw e at.are; here = shift_here (is_skipped line) line ((number + 1) + length before) (number + length (first ∷ before)) (omega arith) [] at.front rows rows refl at.here }
    by rest false e (form, later, says, is, are) =
        let at = rest later are in
        record {
          front = row_of number first form ∷ at.front;
          are = rw e (form, at.front, says, refl, at.are);
          here = shift_here (is_skipped line) line ((number + 1) + length before) (number + length (first ∷ before)) (omega arith) (row_of number first form ∷ []) at.front later rows is at.here;
        }

faultless_at : (before front : List Row) (row : Row) (back : List Row) → AreFaultless before (front ++ row ∷ back) → fault_of (draft_of (before ++ front)) row.number row.form ≡ None
faultless_at before [] row back are = subst (λ (xs : List Row). fault_of (draft_of xs) row.number row.form ≡ None) (sym (append-nil before)) are.0
faultless_at before (first ∷ front) row back are =
    subst (λ (xs : List Row). fault_of (draft_of xs) row.number row.form ≡ None) (append_assoc before (first ∷ []) front) (faultless_at (before ++ first ∷ []) front row back are.1)

none_some : {A : Type 0} (x : A) → None ≡ Some x → ⊥
none_some x e = cc

unskipped_of : (rows : List Row) (number : ℕ) (line : List ℕ) (why : SettingsFault) → HasFault rows number line why → is_skipped line ≡ false
unskipped_of rows number line why (inl (unskipped, none, is)) = unskipped
unskipped_of rows number line why (inr (unskipped, form, says, is)) = unskipped

no_fault_here : (front front' : List Row) (number number' : ℕ) (line : List ℕ) (form : FormValue) (why : SettingsFault) → front' ≡ front → number' ≡ number → Says line form
    → fault_of (draft_of front') number' form ≡ None → HasFault front number line why → ⊥
no_fault_here front front' number number' line form why rows place says none (inl (unskipped, no_form, is)) = no_form form says
no_fault_here front front' number number' line form why rows place says none (inr (unskipped, form', says', faulty)) =
    none_some why (sym none ∙ (λ i. fault_of (draft_of (rows i)) (place i) (says_once line form form' says says' i)) ∙ faulty)

-- a line among others that stand has no fault
no_fault_there : (before : List (List ℕ)) (line : List ℕ) (behind : List (List ℕ)) (rows front : List Row) (why : SettingsFault) → Stand (before ++ line ∷ behind) rows → Stand before front
    → HasFault front (length before + 1) line why → ⊥
no_fault_there before line behind rows front why stand stand_front at_fault = by (row_at 1 before line behind rows stand.read)
  where
    by : HasRowAt 1 before line rows → ⊥
    by at = here (is_skipped line) refl at.here
      where
        here : (b : Bool) → is_skipped line ≡ b → MatchBool b (Unit {0}) ((form : FormValue) × (back : List Row) × Says line form × (rows ≡ at.front ++ row_of (1 + length before) line form ∷ back)) → ⊥
        here true e row = true≢false (sym e ∙ unskipped_of front (length before + 1) line why at_fault)
        here false e (form, back, says, is) =
            no_fault_here front at.front (length before + 1) (1 + length before) line form why (rows_once 1 before at.front front at.are stand_front.read) (omega arith) says
            (faultless_at [] at.front (row_of (1 + length before) line form) back (subst (AreFaultless []) is stand.faultless)) at_fault

-- ---- settings and faults

long_or_not : (n : ℕ) → nat_lt (2 ^ 16) n ≡ true → n ≤ 2 ^ 16 → ⊥
long_or_not n long short = absurd (grind (arith, nat_tests))

not_behind : (file : List ℕ) (behind : List (List ℕ)) → is_past file behind ≡ true → (behind ≡ []) × (nat_lt (2 ^ 16) (length file) ≡ true)
not_behind file [] past = (refl, past)
not_behind file (line ∷ behind) past = absurd (true≢false (sym past))

-- where a file gives settings it has no fault
pub no_settings_at_fault : (file : List ℕ) (settings : SettingsValue) (why : SettingsFault) → SettingsAre file settings → SettingsFail file why → ⊥
no_settings_at_fault file settings why are fail = by (is_past file fail.behind) refl fail.at_fault
  where
    by : (b : Bool) → is_past file fail.behind ≡ b → MatchBool b (why ≡ fault.Capacity (length fail.before + 1)) (HasFault fail.rows (length fail.before + 1) fail.line why) → ⊥
    by true e at_fault = long_or_not (length file) (not_behind file fail.behind e).1 are.short
    by false e at_fault =
        no_fault_there fail.before fail.line fail.behind are.rows fail.rows why (subst (λ (lines : List (List ℕ)). Stand lines are.rows) fail.split are.stand) fail.stand at_fault

pub one_settings : (file : List ℕ) (one other : SettingsValue) → SettingsAre file one → SettingsAre file other → one ≡ other
one_settings file one other x y = x.given ∙ ap (settings_of (length (lines_of file))) (rows_once 1 (lines_of (content_of file)) x.rows y.rows x.stand.read y.stand.read) ∙ sym y.given

-- two places in a list: the same, or the one before the other
data Places (before : List (List ℕ)) (line : List ℕ) (behind before' : List (List ℕ)) (line' : List ℕ) (behind' : List (List ℕ)) : Type 0 where
  equal : before ≡ before' → line ≡ line' → behind ≡ behind' → Places before line behind before' line' behind'
  earlier : (between : List (List ℕ)) → before' ≡ before ++ line ∷ between → behind ≡ between ++ line' ∷ behind' → Places before line behind before' line' behind'
  later : (between : List (List ℕ)) → before ≡ before' ++ line' ∷ between → behind' ≡ between ++ line ∷ behind → Places before line behind before' line' behind'

one_farther : (first : List ℕ) (before : List (List ℕ)) (line : List ℕ) (behind : List (List ℕ)) (first' : List ℕ) (before' : List (List ℕ)) (line' : List ℕ) (behind' : List (List ℕ)) → first ≡ first'
    → Places before line behind before' line' behind' → Places (first ∷ before) line behind (first' ∷ before') line' behind'
one_farther first before line behind first' before' line' behind' same (equal b l r) = equal (λ i. same i ∷ b i) l r
one_farther first before line behind first' before' line' behind' same (earlier mid b r) = earlier mid (λ i. sym same i ∷ b i) r
one_farther first before line behind first' before' line' behind' same (later mid b r) = later mid (λ i. same i ∷ b i) r

cons_parts : (x y : List ℕ) (xs ys : List (List ℕ)) → x ∷ xs ≡ y ∷ ys → (x ≡ y) × (xs ≡ ys)
cons_parts x y xs ys e = (cc, cc)

places : (before : List (List ℕ)) (line : List ℕ) (behind before' : List (List ℕ)) (line' : List ℕ) (behind' : List (List ℕ)) → before ++ line ∷ behind ≡ before' ++ line' ∷ behind'
    → Places before line behind before' line' behind'
places [] line behind [] line' behind' e = let parts = cons_parts line line' behind behind' e in equal refl parts.0 parts.1
places [] line behind (first' ∷ before') line' behind' e = let parts = cons_parts line first' behind (before' ++ line' ∷ behind') e in earlier before' (λ i. sym parts.0 i ∷ before') parts.1
places (first ∷ before) line behind [] line' behind' e = let parts = cons_parts first line' (before ++ line ∷ behind) behind' e in later before (λ i. parts.0 i ∷ before) (sym parts.1)
places (first ∷ before) line behind (first' ∷ before') line' behind' e =
    let parts = cons_parts first first' (before ++ line ∷ behind) (before' ++ line' ∷ behind') e in
    one_farther first before line behind first' before' line' behind' parts.0 (places before line behind before' line' behind' parts.1)

-- a line that others follow fails by a fault of its own
own_fault : (file : List ℕ) (why : SettingsFault) (fail : SettingsFail file why) (between : List (List ℕ)) (line' : List ℕ) (behind' : List (List ℕ)) → fail.behind ≡ between ++ line' ∷ behind'
    → HasFault fail.rows (length fail.before + 1) fail.line why
own_fault file why fail between line' behind' more = rw (more_behind between) at (subst (λ (xs : List (List ℕ)). MatchBool (is_past file xs) (why ≡ fault.Capacity (length fail.before + 1)) (HasFault fail.rows (length fail.before + 1) fail.line why)) more fail.at_fault)
  where
    more_behind : (xs : List (List ℕ)) → is_past file (xs ++ line' ∷ behind') ≡ false
    more_behind [] = refl
    more_behind (x ∷ xs) = refl

-- no line in front of a failing one fails
not_earlier : (file : List ℕ) (one other : SettingsFault) (x : SettingsFail file one) (y : SettingsFail file other) (between : List (List ℕ)) → y.before ≡ x.before ++ x.line ∷ between → x.behind ≡ between ++ y.line ∷ y.behind → ⊥
not_earlier file one other x y between before behind =
    no_fault_there x.before x.line between y.rows x.rows one (subst (λ (lines : List (List ℕ)). Stand lines y.rows) before y.stand) x.stand (own_fault file one x between y.line y.behind behind)

faults_agree : (front front' : List Row) (number number' : ℕ) (line line' : List ℕ) (one other : SettingsFault) → front ≡ front' → number ≡ number' → line ≡ line'
    → HasFault front number line one → HasFault front' number' line' other → one ≡ other
faults_agree front front' number number' line line' one other rows place text (inl (u, none, is)) (inl (u', none', is')) = is ∙ ap fault.Line place ∙ sym is'
faults_agree front front' number number' line line' one other rows place text (inl (u, none, is)) (inr (u', form, says, is')) = absurd (none form (subst (λ (l : List ℕ). Says l form) (sym text) says))
faults_agree front front' number number' line line' one other rows place text (inr (u, form, says, is)) (inl (u', none, is')) = absurd (none form (subst (λ (l : List ℕ). Says l form) text says))
faults_agree front front' number number' line line' one other rows place text (inr (u, form, says, is)) (inr (u', form', says', is')) =
    same_some one other (sym is ∙ (λ i. fault_of (draft_of (rows i)) (place i) (says_once line form form' says (subst (λ (l : List ℕ). Says l form') (sym text) says') i)) ∙ is')
  where
    same_some : (a b : SettingsFault) → Some a ≡ Some b → a ≡ b
    same_some a b e = cc

same_place : (file : List ℕ) (one other : SettingsFault) (x : SettingsFail file one) (y : SettingsFail file other) → x.before ≡ y.before → x.line ≡ y.line → x.behind ≡ y.behind → one ≡ other
same_place file one other x y before line behind = by (is_past file x.behind) (is_past file y.behind) (ap (is_past file) behind) x.at_fault y.at_fault
  where
    number : length x.before + 1 ≡ length y.before + 1
    number = ap (λ (xs : List (List ℕ)). length xs + 1) before

    rows : x.rows ≡ y.rows
    rows = rows_once 1 x.before x.rows y.rows x.stand.read (subst (λ (xs : List (List ℕ)). AreRows 1 xs y.rows) (sym before) y.stand.read)

    by : (b c : Bool) → b ≡ c → MatchBool b (one ≡ fault.Capacity (length x.before + 1)) (HasFault x.rows (length x.before + 1) x.line one)
        → MatchBool c (other ≡ fault.Capacity (length y.before + 1)) (HasFault y.rows (length y.before + 1) y.line other) → one ≡ other
    by true true e at at' = at ∙ ap fault.Capacity number ∙ sym at'
    by true false e at at' = absurd (true≢false e)
    by false true e at at' = absurd (true≢false (sym e))
    by false false e at at' = faults_agree x.rows y.rows (length x.before + 1) (length y.before + 1) x.line y.line one other rows number line at at'

pub one_fault : (file : List ℕ) (one other : SettingsFault) → SettingsFail file one → SettingsFail file other → one ≡ other
one_fault file one other x y = by (places x.before x.line x.behind y.before y.line y.behind (sym x.split ∙ y.split))
  where
    by : Places x.before x.line x.behind y.before y.line y.behind → one ≡ other
    by (equal before line behind) = same_place file one other x y before line behind
    by (earlier mid before behind) = absurd (not_earlier file one other x y mid before behind)
    by (later mid before behind) = absurd (not_earlier file other one y x mid before behind)

-- ---- not neither

-- Lines that stand with the rest of a file behind them: it can't be that there are neither settings nor a fault.
neither_from : (file : List ℕ) → ((settings : SettingsValue) → SettingsAre file settings → ⊥) → ((why : SettingsFault) → SettingsFail file why → ⊥)
    → (rest lines : List (List ℕ)) (rows : List Row) → lines_of (content_of file) ≡ lines ++ rest → Stand lines rows → is_past file rest ≡ false → ⊥
neither_from file none faultless [] lines rows split stand before =
    none (settings_of (length (lines_of file)) rows) (record {
      rows = rows;
      stand = subst (λ (xs : List (List ℕ)). Stand xs rows) (sym (split ∙ append-nil lines)) stand;
      short = not_long (length file) before;
      given = refl;
    })
  where
    not_long : (n : ℕ) → nat_lt (2 ^ 16) n ≡ false → n ≤ 2 ^ 16
    not_long n e = grind (arith, nat_tests)
neither_from file none faultless (line ∷ rest) lines rows split stand before =
    by (λ more stand before. neither_from file none faultless rest (lines ++ line ∷ []) more (split ∙ sym (append_assoc lines (line ∷ []) rest)) stand before) (is_past file rest) refl (is_skipped line) refl
  where
    fails : (why : SettingsFault) → MatchBool (is_past file rest) (why ≡ fault.Capacity (length lines + 1)) (HasFault rows (length lines + 1) line why) → ⊥
    fails why at_fault = faultless why (record { before = lines; line = line; behind = rest; split = split; rows = rows; stand = stand; at_fault = at_fault })

    judged : ((more : List Row) → Stand (lines ++ line ∷ []) more → ⊥) → is_past file rest ≡ false → is_skipped line ≡ false → (form : FormValue) → Says line form
        → (o : Option SettingsFault) → fault_of (draft_of rows) (length lines + 1) form ≡ o → ⊥
    judged on last unskipped form says None is = on (rows ++ row_of (length lines + 1) line form ∷ []) (stand_then_row lines rows line form (length lines + 1) stand unskipped says refl is)
    judged on last unskipped form says (Some why) is = fails why (rw last (inr (unskipped, form, says, is)))

    by : ((more : List Row) → Stand (lines ++ line ∷ []) more → is_past file rest ≡ false → ⊥) → (b : Bool) → is_past file rest ≡ b → (c : Bool) → is_skipped line ≡ c → ⊥
    by on true last c skipped = fails (fault.Capacity (length lines + 1)) (rw last refl)
    by on false last true skipped = on rows (stand_then_skipped lines rows line stand skipped) last
    by on false last false skipped =
        fails (fault.Line (length lines + 1)) (rw last (inl (skipped, (λ form says. judged (λ more stand. on more stand last) last skipped form says (fault_of (draft_of rows) (length lines + 1) form) refl), refl)))

at_start_of : (file : List ℕ) → is_past file (lines_of (content_of file)) ≡ false
at_start_of [] = refl
at_start_of (byte ∷ file) = bytes_left (byte ∷ file) byte (take (2 ^ 16) file)

pub neither : (file : List ℕ) → ((settings : SettingsValue) → SettingsAre file settings → ⊥) → ((why : SettingsFault) → SettingsFail file why → ⊥) → ⊥
neither file none faultless = neither_from file none faultless (lines_of (content_of file)) [] [] refl stand_none (at_start_of file)
