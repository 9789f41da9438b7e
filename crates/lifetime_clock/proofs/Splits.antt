-- The values that callers see where a list of entries is put together again around a key.
use Rattle.std.proofs.Common.{◌≡◌, ◌≢◌, ℕ, ◌+◌, ◌<◌, ◌≤◌, if◌then◌else◌, List, [], ◌∷◌, ◌++◌, length, Option, Some, None, is_some, refl, sym, subst, ap, ◌∙◌, arith, length-append}
use Rattle.lifetime_clock.specs.Times.{look_up, KeysDiffer, IsMap, HasRoomFor, Updates, NothingIsDue, IsNextDue}
use Rattle.lifetime_clock.specs.Tree.{KeysBelow, KeysAbove, KeysRise, SplitsAt, Has, entry_at, least_time}
use Rattle.lifetime_clock.proofs.Entries.{at_its_key, at_another, behind, times_of, room_left}
use Rattle.lifetime_clock.proofs.Rising.{KeysBelow-before, KeysAbove-append, KeysAbove-further, KeysRise-front, KeysRise-back}
use Rattle.lifetime_clock.proofs.Least.{least_time-le}

-- ---- look-ups of the key and of others

look_up-above : (es : List (ℕ × ℕ)) (key : ℕ) → KeysAbove key es → look_up es key ≡ None
look_up-above [] key above = refl
look_up-above (entry ∷ es) key above = at_another entry es key (λ same. omega (arith, above.0, same)) ∙ look_up-above es key above.1

look_up-behind : (l m : List (ℕ × ℕ)) (key : ℕ) → KeysBelow key l → look_up (l ++ m) key ≡ look_up m key
look_up-behind [] m key below = refl
look_up-behind (entry ∷ l) m key below = at_another entry (l ++ m) key (λ same. omega (arith, below.0, same)) ∙ look_up-behind l m key below.1

look_up-middle : (key : ℕ) (time : Option ℕ) (es : List (ℕ × ℕ)) → KeysAbove key es → look_up (entry_at key time ++ es) key ≡ time
look_up-middle key None es above = look_up-above es key above
look_up-middle key (Some time) es above = at_its_key (key, time) es key refl

look_up-at_split : (below : List (ℕ × ℕ)) (key : ℕ) (time : Option ℕ) (above : List (ℕ × ℕ)) → KeysBelow key below → KeysAbove key above
    → look_up (below ++ (entry_at key time ++ above)) key ≡ time
look_up-at_split below key time above smaller greater =
    look_up-behind below (entry_at key time ++ above) key smaller ∙ look_up-middle key time above greater

-- other keys are found as if the key weren't there
look_up-others : (below : List (ℕ × ℕ)) (key : ℕ) (time : Option ℕ) (above : List (ℕ × ℕ)) (other : ℕ) → other ≢ key
    → look_up (below ++ (entry_at key time ++ above)) other ≡ look_up (below ++ above) other
look_up-others [] key None above other differs = refl
look_up-others [] key (Some time) above other differs = at_another (key, time) above other (λ same. differs (sym same))
look_up-others (entry ∷ below) key time above other differs = behind entry _ _ other (look_up-others below key time above other differs)

length-entry_at : (key : ℕ) (time : Option ℕ) → length (entry_at key time) ≡ (if is_some time then 1 else 0)
length-entry_at key None = refl
length-entry_at key (Some time) = refl

length-split : (below : List (ℕ × ℕ)) (key : ℕ) (time : Option ℕ) (above : List (ℕ × ℕ))
    → length (below ++ (entry_at key time ++ above)) ≡ length below + length above + (if is_some time then 1 else 0)
length-split below key time above =
    omega (arith, length-append below (entry_at key time ++ above), length-append (entry_at key time) above, length-entry_at key time)

-- ---- the keys rise still

KeysAbove-entry_at : (lower key : ℕ) (time : Option ℕ) → lower < key → KeysAbove lower (entry_at key time)
KeysAbove-entry_at lower key None less = tt
KeysAbove-entry_at lower key (Some time) less = (less, tt)

KeysRise-middle : (key : ℕ) (time : Option ℕ) (above : List (ℕ × ℕ)) → KeysAbove key above → KeysRise above → KeysRise (entry_at key time ++ above)
KeysRise-middle key None above greater rise = rise
KeysRise-middle key (Some time) above greater rise = (greater, rise)

KeysRise-around : (below : List (ℕ × ℕ)) (key : ℕ) (time : Option ℕ) (above : List (ℕ × ℕ)) → KeysBelow key below → KeysRise below → KeysAbove key above → KeysRise above
    → KeysRise (below ++ (entry_at key time ++ above))
KeysRise-around [] key time above smaller rise greater rise_above = KeysRise-middle key time above greater rise_above
KeysRise-around (entry ∷ below) key time above smaller rise greater rise_above =
    let further : KeysAbove entry.0 above = KeysAbove-further entry.0 key above (omega (arith, smaller.0)) greater in
    let middle = KeysAbove-append entry.0 (entry_at key time) above (KeysAbove-entry_at entry.0 key time smaller.0) further in
    (KeysAbove-append entry.0 below (entry_at key time ++ above) rise.0 middle, KeysRise-around below key time above smaller.1 rise.1 greater rise_above)

pub KeysRise-split : (es below : List (ℕ × ℕ)) (key : ℕ) (time new : Option ℕ) (above : List (ℕ × ℕ)) → KeysRise es → SplitsAt es key below time above
    → KeysRise (below ++ (entry_at key new ++ above))
KeysRise-split es below key time new above rise split =
    let parts : KeysRise (below ++ (entry_at key time ++ above)) = subst KeysRise split.parts rise in
    KeysRise-around below key new above split.smaller (KeysRise-front below _ parts) split.greater (KeysRise-back (entry_at key time) above (KeysRise-back below _ parts))

KeysDiffer-rise : (es : List (ℕ × ℕ)) → KeysRise es → KeysDiffer es
KeysDiffer-rise [] rise = tt
KeysDiffer-rise (entry ∷ es) rise = (look_up-above es entry.0 rise.0, KeysDiffer-rise es rise.1)

-- ---- what callers see

pub IsMap-rise : (es : List (ℕ × ℕ)) (room : ℕ) → KeysRise es → length es ≤ room → IsMap (times_of room es)
IsMap-rise es room rise fits = record { keys = KeysDiffer-rise es rise; fits = fits }

-- the time that was found is that of the key
pub time_of-split : (es below : List (ℕ × ℕ)) (key : ℕ) (time : Option ℕ) (above : List (ℕ × ℕ)) → SplitsAt es key below time above → look_up es key ≡ time
time_of-split es below key time above split =
    ap (λ (part : List (ℕ × ℕ)). look_up part key) split.parts ∙ look_up-at_split below key time above split.smaller split.greater

pub Updates-split : (es out below : List (ℕ × ℕ)) (room key : ℕ) (time new : Option ℕ) (above : List (ℕ × ℕ)) → SplitsAt es key below time above
    → out ≡ below ++ (entry_at key new ++ above) → Updates (times_of room es) (times_of room out) key new
Updates-split es out below room key time new above split is = rw is (record {
  changed = look_up-at_split below key new above split.smaller split.greater;
  others = λ other differs.
      look_up-others below key new above other differs ∙ sym (ap (λ (part : List (ℕ × ℕ)). look_up part other) split.parts ∙ look_up-others below key time above other differs);
  counted = (rw (time_of-split es below key time above split)
      (omega (arith, length-split below key new above, length-split below key time above, ap length split.parts)));
  room = refl;
})

-- what a key is given in place of the time that it had
pub record IsPut (room : ℕ) (es out : List (ℕ × ℕ)) (key : ℕ) (time new : Option ℕ) : Type 0 where
  pub was : look_up es key ≡ time
  pub rise : KeysRise out
  pub counted : length out + (if is_some time then 1 else 0) ≡ length es + (if is_some new then 1 else 0)
  pub updates : Updates (times_of room es) (times_of room out) key new

pub put : (room : ℕ) {tree es out below above : List (ℕ × ℕ)} {key : ℕ} {time new : Option ℕ} → tree ≡ es → KeysRise es → SplitsAt tree key below time above
    → out ≡ below ++ (entry_at key new ++ above) → IsPut room es out key time new
put room {tree} {es} {out} {below} {above} {key} {time} {new} same rise of_tree is =
    let split : SplitsAt es key below time above = subst (λ part. SplitsAt part key below time above) same of_tree in
    record {
      was = time_of-split es below key time above split;
      rise = rw is (KeysRise-split es below key time new above rise split);
      counted = omega (arith, length-split below key new above, length-split below key time above, ap length split.parts, ap length is);
      updates = Updates-split es out below room key time new above split is;
    }

-- an entry between two lists
pub entry_is : (out below : List (ℕ × ℕ)) (entry : ℕ × ℕ) (above : List (ℕ × ℕ)) (key time : ℕ) → out ≡ below ++ entry ∷ above → entry ≡ (key, time)
    → out ≡ below ++ (entry_at key (Some time) ++ above)
entry_is out below entry above key time is given = is ∙ ap (λ (middle : ℕ × ℕ). below ++ middle ∷ above) given

-- where there is room for a key that isn't there, a branch is spare
pub spare_left : (es : List (ℕ × ℕ)) (room key spare : ℕ) → look_up es key ≡ None → HasRoomFor (times_of room es) key → length es + spare ≡ room → 0 < spare
spare_left es room key spare absent has counted = omega (arith, room_left es room key absent has)

-- ---- what is due

look_up-has : (before : List (ℕ × ℕ)) (key time : ℕ) (later : List (ℕ × ℕ)) → KeysRise (before ++ (key, time) ∷ later) → look_up (before ++ (key, time) ∷ later) key ≡ Some time
look_up-has before key time later rise =
    look_up-behind before ((key, time) ∷ later) key (KeysBelow-before before (key, time) later key (omega arith) rise) ∙ at_its_key (key, time) later key refl

pub NothingIsDue-least : (es : List (ℕ × ℕ)) (room now : ℕ) → now < least_time es → NothingIsDue (times_of room es) now
NothingIsDue-least es room now later = λ key time found. omega (arith, later, least_time-le es key time found)

pub NothingIsDue-empty : (es : List (ℕ × ℕ)) (room now : ℕ) → es ≡ [] → NothingIsDue (times_of room es) now
NothingIsDue-empty es room now is = λ key time found. absurd (cc)

pub IsNextDue-has : (es : List (ℕ × ℕ)) (room now key : ℕ) → KeysRise es → Has es key (least_time es) → least_time es ≤ now → IsNextDue (times_of room es) now key
IsNextDue-has es room now key rise has due = record {
  time = least_time es;
  found = ap (λ (part : List (ℕ × ℕ)). look_up part key) has.is ∙ look_up-has has.before key (least_time es) has.behind (subst KeysRise has.is rise);
  due = due;
  least = λ other later found. least_time-le es other later found;
}
