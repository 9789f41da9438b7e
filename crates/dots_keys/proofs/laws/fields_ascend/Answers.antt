use Rattle.std.proofs.Common.{◌≡◌, ℕ, Bool, true, false, List, cond, Ok, Err, refl, subst}
use Rattle.cbor_profile.specs.Tree.{Pairs, mapping}
use Rattle.cbor_profile.specs.Valid.{IsSound}
use Rattle.dots_keys.specs.Fields.{Field, fields_in, all_unsigned, Ascend}
use Rattle.dots_keys.specs.Results.{invalid}
use Rattle.dots_keys.proofs.Ascending.{fields_ascend}
use Rattle.dots_keys.proofs.laws.fields_ascend.Goals as goal

given : (pairs : Pairs) (fields : List Field) (under : ℕ) (b : Bool) → all_unsigned pairs ≡ b → IsSound (mapping pairs)
    → cond b (Ok (fields_in pairs)) (Err (invalid under)) ≡ Ok fields → Ascend fields
given pairs fields under true all sound is =
    let same : fields_in pairs ≡ fields = cc in
    subst (λ (l : List Field). Ascend l) same (fields_ascend pairs sound.2 sound.1 all)
given pairs fields under false all sound is = absurd (cc)

pub returns : goal.returns
returns c = λ pairs fields under sound is. given pairs fields under (all_unsigned pairs) refl sound is
