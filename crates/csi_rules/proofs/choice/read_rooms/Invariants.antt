use Rattle.std.proofs.Common.{◌≡◌, true, map, take}
use Rattle.csi_keeper.specs.State.{State, used}
use Rattle.csi_keeper.specs.Keeper.{IsQuiet, Reports}
use Rattle.csi_rules.specs.Choice.{room_value}
use Rattle.csi_rules.proofs.choice.read_rooms.Given as goal

abbrev pub invariant-loop-pool : goal.invariant-loop-pool
invariant-loop-pool g l =
    let old = g.K.Keeper.model l.fn.keeper in
    let new = g.K.Keeper.model l.keeper in
    record {
      quiet : IsQuiet old new;
      count : new.refusals ≡ old.refusals;
      pools : map (λ r. r.pool.now) l.rooms.items ≡ take l.pool-index l.config.pools;
      reported : Reports old new (λ s. map room_value l.rooms.items ≡ map (λ p. (p, used s p.name)) (take l.pool-index l.config.pools));
      alone : old.is_down ≡ true → (s : State) → map room_value l.rooms.items ≡ map (λ p. (p, used s p.name)) (take l.pool-index l.config.pools);
    }
