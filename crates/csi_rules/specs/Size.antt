-- How large a volume is made (CSI specification, 'CreateVolume', the message CapacityRange).
use Rattle.std.specs.Prelude.{ℕ, ℤ, pos, negsuc, ◌+◌, ◌-◌, ◌*◌, ◌/◌, ◌==◌, ◌&&◌, ◌||◌, nat_lt, nat_le, min, Bool, true, Option, Some, None, if◌then◌else◌}
use Rattle.csi_types.specs.declared.capacity.CapacityRange.{CapacityRange}
use Rattle.csi_config.specs.declared.sizes.Sizes.{Sizes}
use Rattle.csi_config.specs.declared.sizes.TheConstants.{GRANULE_BYTES}

-- the number, or 0 if it is negative
abbrev pub whole : ℤ → ℕ
whole (pos n) = n
whole (negsuc n) = 0

abbrev pub rounded_down : ℕ → ℕ
rounded_down n = n / GRANULE_BYTES * GRANULE_BYTES

abbrev pub rounded_up : ℕ → ℕ
rounded_up n = rounded_down (n + (GRANULE_BYTES - 1))

-- the required size, rounded up; if it is not given, the default size, but at most the limit, rounded down; a
-- bound of 0 means that it is not given
abbrev pub requested_bytes : Sizes → ℕ → ℕ → ℕ
requested_bytes sizes required limit =
    if nat_lt 0 required then rounded_up required
    else (if nat_lt 0 limit then min sizes.default_bytes (rounded_down limit) else sizes.default_bytes)

-- The size, if it is not zero, nor above a given limit, nor above the greatest size. The required size is
-- also compared before it is rounded. This never decides, because rounding up makes no size smaller.
abbrev pub within : Sizes → ℕ → ℕ → ℕ → Option ℕ
within sizes required limit n =
    if nat_lt 0 n && (limit == 0 || nat_le n limit) && nat_le n sizes.greatest_bytes && nat_le required sizes.greatest_bytes then Some n else None

abbrev pub size_by : Sizes → ℕ → ℕ → Option ℕ
size_by sizes required limit = within sizes required limit (requested_bytes sizes required limit)

-- the size of a volume for this range, or none
abbrev pub size : Sizes → Option CapacityRange → Option ℕ
size sizes None = size_by sizes 0 0
size sizes (Some r) = size_by sizes (whole r.required) (whole r.limit)

-- a volume that exists has a size within a range
abbrev pub has_size : ℕ → Option CapacityRange → Bool
has_size bytes None = true
has_size bytes (Some r) = nat_le (whole r.required) bytes && (whole r.limit == 0 || nat_le bytes (whole r.limit))
