use Rattle.std.proofs.Common.{◌≡◌, ◌↔◌, ℕ, List, [], ◌∷◌, Ok, refl, arith}
use Rattle.pbwire.specs.Reading.{field_at, groups_at, part_at, tag_at, varint_at}
use Rattle.pbwire.specs.Wire.{WireField, AreFields}
use Rattle.csi_change_store.specs.Asking.{bytes_field, number_field}
use Rattle.csi_change_store.proofs.laws.reads_sample.Goals as goal

abbrev Order : Type 0
Order = (e : WireField) (es : List WireField) (bytes : List ℕ) → AreFields (e ∷ es) bytes ↔ ((rest : List ℕ) × (field_at bytes ≡ Ok (e, rest)) × AreFields es rest)

one : Order → (e : WireField) (es : List WireField) (bytes rest : List ℕ) → field_at bytes ≡ Ok (e, rest) → AreFields es rest → AreFields (e ∷ es) bytes
one order e es bytes rest read more = (order e es bytes).1 (rest, read, more)

meta_fields : Order → AreFields (number_field 1 2 ∷ number_field 2 1 ∷ []) (8 ∷ 2 ∷ 16 ∷ 1 ∷ [])
unfolding field_at groups_at part_at tag_at varint_at
meta_fields order =
    one order (number_field 1 2) (number_field 2 1 ∷ []) (8 ∷ 2 ∷ 16 ∷ 1 ∷ []) (16 ∷ 1 ∷ []) refl (one order (number_field 2 1) [] (16 ∷ 1 ∷ []) [] refl refl)

abbrev row_list : List WireField
row_list = number_field 1 7 ∷ bytes_field 2 (120 ∷ []) ∷ bytes_field 2 (97 ∷ []) ∷ number_field 3 5 ∷ number_field 7 1 ∷ []

row_fields : Order → AreFields row_list (8 ∷ 7 ∷ 18 ∷ 1 ∷ 120 ∷ 18 ∷ 1 ∷ 97 ∷ 24 ∷ 5 ∷ 56 ∷ 1 ∷ [])
unfolding field_at groups_at part_at tag_at varint_at
row_fields order =
    one order (number_field 1 7) (bytes_field 2 (120 ∷ []) ∷ bytes_field 2 (97 ∷ []) ∷ number_field 3 5 ∷ number_field 7 1 ∷ []) (8 ∷ 7 ∷ 18 ∷ 1 ∷ 120 ∷ 18 ∷ 1 ∷ 97 ∷ 24 ∷ 5 ∷ 56 ∷ 1 ∷ []) (18 ∷ 1 ∷ 120 ∷ 18 ∷ 1 ∷ 97 ∷ 24 ∷ 5 ∷ 56 ∷ 1 ∷ []) refl
    (one order (bytes_field 2 (120 ∷ [])) (bytes_field 2 (97 ∷ []) ∷ number_field 3 5 ∷ number_field 7 1 ∷ []) (18 ∷ 1 ∷ 120 ∷ 18 ∷ 1 ∷ 97 ∷ 24 ∷ 5 ∷ 56 ∷ 1 ∷ []) (18 ∷ 1 ∷ 97 ∷ 24 ∷ 5 ∷ 56 ∷ 1 ∷ []) refl
    (one order (bytes_field 2 (97 ∷ [])) (number_field 3 5 ∷ number_field 7 1 ∷ []) (18 ∷ 1 ∷ 97 ∷ 24 ∷ 5 ∷ 56 ∷ 1 ∷ []) (24 ∷ 5 ∷ 56 ∷ 1 ∷ []) refl
    (one order (number_field 3 5) (number_field 7 1 ∷ []) (24 ∷ 5 ∷ 56 ∷ 1 ∷ []) (56 ∷ 1 ∷ []) refl (one order (number_field 7 1) [] (56 ∷ 1 ∷ []) [] refl refl))))

pub returns : goal.returns
unfolding field_at groups_at part_at tag_at varint_at
returns c = (
  (bytes_field 1 (8 ∷ 2 ∷ 16 ∷ 1 ∷ []), 34 ∷ 0 ∷ [], refl, (8 ∷ 2 ∷ 16 ∷ 1 ∷ [], refl, (number_field 1 2 ∷ number_field 2 1 ∷ [], meta_fields c.listed.ensures.in_order, refl, refl)), (bytes_field 4 [], [], refl, refl, refl)),
  (
    number_field 9 7,
    18 ∷ 12 ∷ 8 ∷ 7 ∷ 18 ∷ 1 ∷ 120 ∷ 18 ∷ 1 ∷ 97 ∷ 24 ∷ 5 ∷ 56 ∷ 1 ∷ 34 ∷ 1 ∷ 116 ∷ [],
    refl,
    omega arith,
    (
      bytes_field 2 (8 ∷ 7 ∷ 18 ∷ 1 ∷ 120 ∷ 18 ∷ 1 ∷ 97 ∷ 24 ∷ 5 ∷ 56 ∷ 1 ∷ []),
      34 ∷ 1 ∷ 116 ∷ [],
      refl,
      (8 ∷ 7 ∷ 18 ∷ 1 ∷ 120 ∷ 18 ∷ 1 ∷ 97 ∷ 24 ∷ 5 ∷ 56 ∷ 1 ∷ [], refl, (row_list, row_fields c.listed.ensures.in_order, refl, refl)),
      (bytes_field 4 (116 ∷ []), [], refl, refl, refl),
    ),
  ),
)
