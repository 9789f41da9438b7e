-- What an initial byte begins, by the reader of its parts.
use Rattle.std.proofs.Common.{◌≡◌, ℕ, zero, suc, ◌-◌, ◌<◌, List, length, Some, refl, ap, arith}
use Rattle.cbor_profile.specs.declared.major.Major.{Major}
use Rattle.cbor_profile.specs.declared.major.Major.TheVariants as major_type
use Rattle.cbor_profile.specs.ItemReading.{as_bytes, as_text, string_at, parts_at, array_at, map_at, tag_at, open_array_at, open_map_at, item_at, parts_of, value_at, indefinite_at}

parts_there : (levels end : ℕ) → 0 < levels → parts_of levels end ≡ Some (item_at (levels - 1) end)
parts_there zero end lt = absurd (omega arith)
parts_there (suc levels) end lt = let e : levels ≡ suc levels - 1 = omega arith in ap (λ (n : ℕ). Some (item_at n end)) e

module _ (levels end at : ℕ) (major : Major) (info : ℕ) (bytes : List ℕ) where
  pub value_bytes : major ≡ major_type.Bytes → as_bytes (string_at end at major_type.Bytes info bytes) ≡ value_at (parts_of levels end) end at major info bytes
  unfolding value_at
  value_bytes is = rw is refl

  pub value_text : major ≡ major_type.Text → as_text (string_at end at major_type.Text info bytes) ≡ value_at (parts_of levels end) end at major info bytes
  unfolding value_at
  value_text is = rw is refl

  pub value_array : major ≡ major_type.Array → 0 < levels → array_at (item_at (levels - 1) end) end info bytes ≡ value_at (parts_of levels end) end at major info bytes
  unfolding value_at
  value_array is lt = rw (is, parts_there levels end lt) refl

  pub value_map : major ≡ major_type.Map → 0 < levels → map_at (item_at (levels - 1) end) end info bytes ≡ value_at (parts_of levels end) end at major info bytes
  unfolding value_at
  value_map is lt = rw (is, parts_there levels end lt) refl

  pub value_tag : major ≡ major_type.Tag → 0 < levels → tag_at (item_at (levels - 1) end) end info bytes ≡ value_at (parts_of levels end) end at major info bytes
  unfolding value_at
  value_tag is lt = rw (is, parts_there levels end lt) refl

module _ (levels end at : ℕ) (major : Major) (bytes : List ℕ) where
  pub indefinite_bytes : major ≡ major_type.Bytes → as_bytes (parts_at (length bytes) end major_type.Bytes bytes) ≡ indefinite_at (parts_of levels end) end at major bytes
  unfolding indefinite_at
  indefinite_bytes is = rw is refl

  pub indefinite_text : major ≡ major_type.Text → as_text (parts_at (length bytes) end major_type.Text bytes) ≡ indefinite_at (parts_of levels end) end at major bytes
  unfolding indefinite_at
  indefinite_text is = rw is refl

  pub indefinite_array : major ≡ major_type.Array → 0 < levels → open_array_at (item_at (levels - 1) end) end bytes ≡ indefinite_at (parts_of levels end) end at major bytes
  unfolding indefinite_at
  indefinite_array is lt = rw (is, parts_there levels end lt) refl

  pub indefinite_map : major ≡ major_type.Map → 0 < levels → open_map_at (item_at (levels - 1) end) end bytes ≡ indefinite_at (parts_of levels end) end at major bytes
  unfolding indefinite_at
  indefinite_map is lt = rw (is, parts_there levels end lt) refl
