-- Lists of entries whose keys rise, and what stands on the two sides of a key.
use Rattle.std.proofs.Common.{◌≡◌, ℕ, ◌<◌, ◌≤◌, List, [], ◌∷◌, ◌++◌, Option, Some, None, sym, subst, ap, ◌∙◌, arith, append_assoc}
use Rattle.lifetime_clock.specs.Tree.{KeysBelow, KeysAbove, KeysRise, SplitsAt, entry_at}

pub KeysAbove-further : (lower key : ℕ) (es : List (ℕ × ℕ)) → lower ≤ key → KeysAbove key es → KeysAbove lower es
KeysAbove-further lower key [] less above = tt
KeysAbove-further lower key (entry ∷ es) less above = (omega (arith, above.0), KeysAbove-further lower key es less above.1)

pub KeysAbove-append : (key : ℕ) (l m : List (ℕ × ℕ)) → KeysAbove key l → KeysAbove key m → KeysAbove key (l ++ m)
KeysAbove-append key [] m above of_m = of_m
KeysAbove-append key (entry ∷ l) m above of_m = (above.0, KeysAbove-append key l m above.1 of_m)

KeysBelow-append : (key : ℕ) (l m : List (ℕ × ℕ)) → KeysBelow key l → KeysBelow key m → KeysBelow key (l ++ m)
KeysBelow-append key [] m below of_m = of_m
KeysBelow-append key (entry ∷ l) m below of_m = (below.0, KeysBelow-append key l m below.1 of_m)

KeysAbove-front : (key : ℕ) (l m : List (ℕ × ℕ)) → KeysAbove key (l ++ m) → KeysAbove key l
KeysAbove-front key [] m above = tt
KeysAbove-front key (entry ∷ l) m above = (above.0, KeysAbove-front key l m above.1)

KeysAbove-back : (key : ℕ) (l m : List (ℕ × ℕ)) → KeysAbove key (l ++ m) → KeysAbove key m
KeysAbove-back key [] m above = above
KeysAbove-back key (entry ∷ l) m above = KeysAbove-back key l m above.1

pub KeysRise-front : (l m : List (ℕ × ℕ)) → KeysRise (l ++ m) → KeysRise l
KeysRise-front [] m rise = tt
KeysRise-front (entry ∷ l) m rise = (KeysAbove-front entry.0 l m rise.0, KeysRise-front l m rise.1)

pub KeysRise-back : (l m : List (ℕ × ℕ)) → KeysRise (l ++ m) → KeysRise m
KeysRise-back [] m rise = rise
KeysRise-back (entry ∷ l) m rise = KeysRise-back l m rise.1

-- what stands before an entry has smaller keys
pub KeysBelow-before : (l : List (ℕ × ℕ)) (entry : ℕ × ℕ) (m : List (ℕ × ℕ)) (key : ℕ) → entry.0 ≤ key → KeysRise (l ++ entry ∷ m) → KeysBelow key l
KeysBelow-before [] entry m key less rise = tt
KeysBelow-before (first ∷ l) entry m key less rise =
    (omega (arith, (KeysAbove-back first.0 l (entry ∷ m) rise.0).0), KeysBelow-before l entry m key less rise.1)

-- ---- splits of a list at the root between its two sides

pub SplitsAt-none : (es : List (ℕ × ℕ)) (key : ℕ) → es ≡ [] → SplitsAt es key [] None []
SplitsAt-none es key is = record { parts = is; smaller = tt; greater = tt }

pub SplitsAt-left : (es l : List (ℕ × ℕ)) (entry : ℕ × ℕ) (r : List (ℕ × ℕ)) (key : ℕ) (below : List (ℕ × ℕ)) (time : Option ℕ) (above : List (ℕ × ℕ))
    → es ≡ l ++ entry ∷ r → KeysRise es → key < entry.0 → SplitsAt l key below time above → SplitsAt es key below time (above ++ entry ∷ r)
SplitsAt-left es l entry r key below time above is rise less split =
    let sides : KeysRise (l ++ entry ∷ r) = subst KeysRise is rise in
    let later : KeysRise (entry ∷ r) = KeysRise-back l (entry ∷ r) sides in
    let further : KeysAbove key r = KeysAbove-further key entry.0 r (omega (arith, less)) later.0 in
    record {
      parts = is ∙ (ap (λ (part : List (ℕ × ℕ)). part ++ entry ∷ r) split.parts ∙ (append_assoc below (entry_at key time ++ above) (entry ∷ r)
          ∙ ap (λ (part : List (ℕ × ℕ)). below ++ part) (append_assoc (entry_at key time) above (entry ∷ r))));
      smaller = split.smaller;
      greater = KeysAbove-append key above (entry ∷ r) split.greater (less, further);
    }

pub SplitsAt-right : (es l : List (ℕ × ℕ)) (entry : ℕ × ℕ) (r : List (ℕ × ℕ)) (key : ℕ) (below : List (ℕ × ℕ)) (time : Option ℕ) (above : List (ℕ × ℕ))
    → es ≡ l ++ entry ∷ r → KeysRise es → entry.0 < key → SplitsAt r key below time above → SplitsAt es key (l ++ entry ∷ below) time above
SplitsAt-right es l entry r key below time above is rise less split =
    let sides : KeysRise (l ++ entry ∷ r) = subst KeysRise is rise in
    let before : KeysBelow key l = KeysBelow-before l entry r key (omega (arith, less)) sides in
    record {
      parts = is ∙ (ap (λ (part : List (ℕ × ℕ)). l ++ entry ∷ part) split.parts ∙ sym (append_assoc l (entry ∷ below) (entry_at key time ++ above)));
      smaller = KeysBelow-append key l (entry ∷ below) before (less, split.smaller);
      greater = split.greater;
    }

pub SplitsAt-here : (es l : List (ℕ × ℕ)) (entry : ℕ × ℕ) (r : List (ℕ × ℕ)) (key : ℕ) → es ≡ l ++ entry ∷ r → KeysRise es → entry.0 ≡ key
    → SplitsAt es key l (Some entry.1) r
SplitsAt-here es l entry r key is rise same =
    let sides : KeysRise (l ++ entry ∷ r) = subst KeysRise is rise in
    let later : KeysRise (entry ∷ r) = KeysRise-back l (entry ∷ r) sides in
    record {
      parts = is ∙ ap (λ (k : ℕ). l ++ (k, entry.1) ∷ r) same;
      smaller = KeysBelow-before l entry r key (omega (arith, same)) sides;
      greater = subst (λ k. KeysAbove k r) same later.0;
    }
