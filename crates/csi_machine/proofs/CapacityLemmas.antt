-- The free bytes of some pools are at most the free bytes of all pools.
use Rattle.std.proofs.Common.{◌≡◌, arith, cond, ℕ, ◌≤◌, ◌<◌, ◌^◌, List, [], ◌∷◌, map, sum_by, true, false, Option, ap}
use Rattle.std.proofs.lemmas.List.Sums.{sum_by-cons}
use Rattle.csi_types.specs.Maps.{TextMap}
use Rattle.csi_config.specs.Faults.{all_bytes}
use Rattle.csi_config.specs.declared.config.Config.{Config}
use Rattle.csi_config.specs.declared.pools.Pool.{Pool}
use Rattle.csi_rules.specs.declared.choice.Room as code
use Rattle.csi_rules.specs.Choice.{Room, room_value, free}
use Rattle.csi_keeper.specs.State.{up_to_u64}
use Rattle.csi_machine.specs.calls.Capacity.{served, is_served}

pub served_le : (rs : List Room) (t : Option TextMap) → sum_by free (served rs t) ≤ sum_by free rs
served_le [] t = omega arith
served_le (r ∷ rs) t = elim (is_served t r) as (λ b. sum_by free (cond b (r ∷ served rs t) (served rs t)) ≤ sum_by free (r ∷ rs)) [
  | true ↦ omega (arith, sum_by-cons free r (served rs t), sum_by-cons free r rs, served_le rs t)
  | false ↦ omega (arith, sum_by-cons free r rs, served_le rs t)
]

pub served_fits : (rs : List Room) (t : Option TextMap) → sum_by free rs < 2 ^ 64 → up_to_u64 (sum_by free (served rs t)) ≡ sum_by free (served rs t)
served_fits rs t h = let le = served_le rs t in omega arith

free_le : (rs : List code.Room) → sum_by free (map room_value rs) ≤ sum_by (λ p. p.bytes) (map (λ r. r.pool.now) rs)
free_le [] = omega arith
free_le (r ∷ rs) = omega (arith, sum_by-cons free (room_value r) (map room_value rs), sum_by-cons (λ (p : Pool). p.bytes) r.pool.now (map (λ r. r.pool.now) rs), free_le rs)

-- the pools of a configuration have at most 2 ^ 62 bytes free
pub rooms_fit : (config : Config) (rs : List code.Room) → all_bytes config.pools ≤ 2 ^ 62 → map (λ r. r.pool.now) rs ≡ config.pools → sum_by free (map room_value rs) ≤ 2 ^ 62
rooms_fit config rs few e = let le = free_le rs in let same = ap (sum_by (λ (p : Pool). p.bytes)) e in omega (arith, few, le, same)

-- the free bytes in the pools that serve a topology are reported unchanged
pub sum_small : (rs : List Room) (t : Option TextMap) (n : ℕ) → sum_by free rs ≤ 2 ^ 62 → n ≡ up_to_u64 (sum_by free (served rs t)) → n ≤ 2 ^ 62
sum_small rs t n h e = let le = served_le rs t in omega (arith, h, e, le)

pub served_reported : (rs : List Room) (t : Option TextMap) → sum_by free rs ≤ 2 ^ 62 → up_to_u64 (sum_by free (served rs t)) ≡ sum_by free (served rs t)
served_reported rs t h = served_fits rs t (omega (arith, h))
