-- What a reading that went well, or didn't, says of its steps.
use Rattle.std.proofs.Common.{◌≡◌, Bool, true, false, cond, Result, Ok, Err, refl, ap, inl, inr}
use Rattle.std.specs.Prelude.{◌⊎◌}
use Rattle.cbor_profile.specs.declared.fault.CborFault.{CborFault}
use Rattle.cbor_profile.specs.ItemReading.{◌>>=◌}

abbrev pub done : {A : Type 0} → A → Result A CborFault
done x = Ok x

abbrev pub broken : {A : Type 0} → CborFault → Result A CborFault
broken e = Err e

pub ok_is : {A : Type 0} (x y : A) → done x ≡ done y → x ≡ y
ok_is x y e = cc

pub err_is : {A : Type 0} (d e : CborFault) → broken {A = A} d ≡ broken e → d ≡ e
err_is d e h = cc

pub not_both : {A : Type 0} (x : A) (e : CborFault) → done x ≡ broken e → ⊥
not_both x e h = cc

-- the value of a step that went well
pub bind_ok : {A B : Type 0} (r : Result A CborFault) (f : A → Result B CborFault) (y : B) → (r >>= f) ≡ Ok y → (x : A) × (r ≡ Ok x) × (f x ≡ Ok y)
bind_ok (Ok x) f y e = (x, refl, e)
bind_ok (Err d) f y e = absurd (cc)

-- the step that didn't
pub bind_err : {A B : Type 0} (r : Result A CborFault) (f : A → Result B CborFault) (e : CborFault) → (r >>= f) ≡ Err e → (r ≡ Err e) ⊎ ((x : A) × (r ≡ Ok x) × (f x ≡ Err e))
bind_err (Ok x) f e h = inr (x, refl, h)
bind_err {A} (Err d) f e h = inl (ap (λ f. broken {A = A} f) (err_is d e h))

-- which way a test went
pub chosen : {A : Type 0} (b : Bool) (x y z : A) → cond b x y ≡ z → ((b ≡ true) × (x ≡ z)) ⊎ ((b ≡ false) × (y ≡ z))
chosen true x y z e = inl (refl, e)
chosen false x y z e = inr (refl, e)
