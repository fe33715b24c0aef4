-- Calls that were served over a copy of a keeper are served over the keeper.
use Rattle.std.proofs.Common.{◌≡◌, false, inl, sym, arith}
use Rattle.csi_config.specs.declared.config.Config.{Config}
use Rattle.csi_keeper.specs.Model.{Model}
use Rattle.csi_keeper.specs.State.{State}
use Rattle.csi_memory.specs.Holding.{mem_model}
use Rattle.csi_memory.specs.declared.mem.MemKeeper.{MemKeeper}
use Rattle.csi_through.specs.Through.{Opens, through_model}
use Rattle.csi_through.specs.declared.change_store.KeeperChanges.{KeeperChanges}
use Rattle.csi_through.specs.declared.through.Through.{Through}
use Rattle.csi_server.specs.Volumes.{seen, volumes}
use Rattle.csi_files.specs.Streams.{Streams}
use Rattle.csi_files.specs.declared.run.RunReport.{RunReport}
use Rattle.csi_files.specs.Adopted.{ServesFrom, ServesWith, with_counts}
use Rattle.csi_files.proofs.RunLemmas.{Carries, ends}

module _ {K : Type 0} (model : K → Model State) where
  abbrev over_copy : Through MemKeeper (KeeperChanges K) → Model State
  over_copy t = through_model mem_model (λ logged. model logged.keeper) t

  module _ (config : Config) (begin : Model State) (first last : Through MemKeeper (KeeperChanges K)) (served : RunReport) (bytes : Streams) where
    pub copy_serves : Opens begin (over_copy first) → ServesWith config (over_copy first) (over_copy last) served bytes
        → ServesFrom config begin (model last.change_store.keeper) served bytes
    copy_serves opens it = record {
      clean = omega (arith, opens.clean, it.clean);
      writes = it.writes;
      serves = (
        it.serves.0,
        it.serves.1,
        λ z s has.
            let late : (over_copy last).doubt ≡ 0 = omega (arith, z) in
            let early : (over_copy first).doubt ≡ 0 = omega (arith, it.clean, late) in
            let carries : Carries (seen config (over_copy first)) (seen config (over_copy last)) (seen config (with_counts 0 false begin)) (seen config (with_counts served.refusals served.is_down (model last.change_store.keeper))) s = record {
              refused = (sym opens.fresh, it.counted);
              down = (sym opens.up, it.down);
              held = λ t has. (has.0.0, has.1);
              only = λ alone t there. alone t (opens.crash early t there);
              left = λ a t has there. inl there;
              tied = λ tied. opens.ties early tied;
              ties = λ a has tied. tied;
            } in
            ends (volumes config) (seen config (over_copy first)) (seen config (over_copy last)) _ _ s carries it.serves.0 _ bytes.held bytes.holds served.end (it.serves.2 late s (opens.state early config s has.0 has.1, has.1)),
      );
    }
