-- The index of names in memory.
use Rattle.std.specs.Prelude.{◌≡◌, ℕ, ◌⊎◌, List, Option, Some, None, if◌then◌else◌}
use Rattle.std.specs.BTreeMap.{is_at}
use Rattle.std.specs.FinMap.{FinMap, get}
use Rattle.std.specs.Map.{lookup}
use Rattle.std.specs.Option.{option_or}
use Rattle.std.specs.Ordering.{nat_cmp}
use Rattle.csi_types.specs.Maps.{same_text}
use Rattle.csi_keeper.specs.declared.volume.Volume.{Volume}
use Rattle.csi_keeper.specs.Texts.{Text, text_cmp}
use Rattle.csi_maps.specs.Hashing.{name_hash}
use Rattle.csi_maps.specs.declared.names.Names.{Names}

-- the number under a hash, and the number under a name
abbrev pub at_hash : Names → ℕ → Option ℕ
at_hash names hash = lookup (is_at (nat_cmp hash)) names.by_hash.entries

abbrev pub at_text : Names → Text → Option ℕ
at_text names name = lookup (is_at (text_cmp name)) names.by_text.entries

-- the index has this number for the name, under the name's hash or under the name
abbrev pub Lists : Names → Text → ℕ → Type 0
Lists names name n = (at_hash names (name_hash name) ≡ Some n) ⊎ (at_text names name ≡ Some n)

-- the volume with this number
abbrev pub at_number : FinMap nat_cmp Volume → Option ℕ → Option Volume
at_number volumes None = None
at_number volumes (Some n) = get volumes n

-- the volume, if it has this name
abbrev pub if_named : Text → Option Volume → Option Volume
if_named name None = None
if_named name (Some v) = if same_text v.name name then Some v else None

-- the volume that is found by a name: the volume under the name's hash, if it has the name, or the volume
-- under the name
abbrev pub named_by : Names → FinMap nat_cmp Volume → Text → Option Volume
named_by names volumes name =
    option_or (if_named name (at_number volumes (at_hash names (name_hash name)))) (at_number volumes (at_text names name))

-- the two indexes have the same numbers
pub record HasSameNames (old new : Names) : Type 0 where
  pub hashes : (h : ℕ) → at_hash new h ≡ at_hash old h
  pub texts : (q : Text) → at_text new q ≡ at_text old q

-- an index after a name got a number
pub record IsNamed (name : Text) (n : ℕ) (old new : Names) : Type 0 where
  pub listed : Lists new name n
  pub others : (q : Text) (m : ℕ) → (q ≡ name → ⊥) → Lists old q m → Lists new q m
  pub hashes : (h m : ℕ) → at_hash new h ≡ Some m → (at_hash old h ≡ Some m) ⊎ ((h ≡ name_hash name) × (m ≡ n))
  pub texts : (q : Text) (m : ℕ) → at_text new q ≡ Some m → (at_text old q ≡ Some m) ⊎ ((q ≡ name) × (m ≡ n))

-- the numbers under hashes after a hash, if it led to this number, was removed
pub record IsHashDropped (hash n : ℕ) (old new : List (ℕ × ℕ)) : Type 0 where
  pub left : (h m : ℕ) → lookup (is_at (nat_cmp h)) new ≡ Some m → (lookup (is_at (nat_cmp h)) old ≡ Some m) × (h ≡ hash → m ≡ n → ⊥)
  pub others : (h m : ℕ) → (m ≡ n → ⊥) → lookup (is_at (nat_cmp h)) old ≡ Some m → lookup (is_at (nat_cmp h)) new ≡ Some m

-- an index after a name and its number were removed
pub record IsUnnamed (name : Text) (n : ℕ) (old new : Names) : Type 0 where
  pub others : (q : Text) (m : ℕ) → (q ≡ name → ⊥) → (m ≡ n → ⊥) → Lists old q m → Lists new q m
  pub hashes : (h m : ℕ) → at_hash new h ≡ Some m → (at_hash old h ≡ Some m) × (h ≡ name_hash name → m ≡ n → ⊥)
  pub texts : (q : Text) (m : ℕ) → at_text new q ≡ Some m → (at_text old q ≡ Some m) × (q ≡ name → ⊥)
