use Rattle.std.proofs.Common.{◌≡◌, ◌∙◌, ap, sym, subst, true, false}
use Rattle.csi_tables.specs.Keeping.{tables_model}
use Rattle.csi_through.specs.declared.change_store.KeeperChanges.{KeeperChanges}
use Rattle.csi_files.specs.Adopted.{IsSourceOf, ServesFrom}
use Rattle.csi_files.specs.Streams.{Streams, streams}
use Rattle.csi_files.specs.declared.reserve.Reserved.{Reserved}
use Rattle.csi_files.specs.declared.run.RunReport.{RunReport}
use Rattle.csi_files.proofs.RunLemmas.{file_serves}
use Rattle.csi_files.proofs.ThroughLemmas.{copy_serves}
use Rattle.csi_files.proofs.adopted.serve_adopted.Goals as goal

pub returns-in-Ok-Copy-clause-served : goal.returns-in-Ok-Copy-clause-served
returns-in-Ok-Copy-clause-served g c =
    let config = c.args.run.now.config.now in
    let report : RunReport = record { end = c.serve-end.result; refusals = c.refusals.result; is_down = c.is_down.result; is_copied = true; is_new = c.args.is_new } in
    let bytes : Streams = streams (g.R.Read.remaining c.args.reader.now) (g.R.Read.remaining c.serve-end.new.reader) (g.W.Write.contents c.args.writer.now) (g.W.Write.contents c.serve-end.new.writer) in
    let last = c.serve-end.new.keeper in
    let same : c.into_tables.result ≡ last.change_store.keeper.tables = c.into_tables.ensures ∙ ap (λ (r : Reserved g.row.S.Denot g.row.O.Denot). r.tables)
    (c.into_keeper-reserved.ensures ∙ ap (λ (l : KeeperChanges (Reserved g.row.S.Denot g.row.O.Denot)). l.keeper) c.into_change_store.ensures) in
    record {
      last = c.into_tables.result;
      run = subst (λ t. ServesFrom config (tables_model g.S.Store c.args.tables) (tables_model g.S.Store t) report bytes) (sym same)
          (copy_serves (λ (r : Reserved g.row.S.Denot g.row.O.Denot). tables_model g.S.Store r.tables) config (tables_model g.S.Store c.args.tables) c.in-Ok-Copy.through last report bytes
          (subst (IsSourceOf g.S.Store c.args.tables c.args.run.now.options.is_low_memory) c.in-Ok-Copy.field-0-is c.in-Ok-Copy.ensures.source).1
          (record { serves = c.serve-end.ensures.serves; clean = c.serve-end.ensures.clean; writes = c.serve-end.ensures.writes; counted = c.refusals.ensures; down = c.is_down.ensures }));
      back_is = c.give_back.ensures;
    }

pub returns-in-Ok-File-clause-served : goal.returns-in-Ok-File-clause-served
returns-in-Ok-File-clause-served g c =
    let config = c.args.run.now.config.now in
    let report : RunReport = record { end = c.serve-end-in-Ok-File.result; refusals = c.refusals-in-Ok-File.result; is_down = c.is_down-in-Ok-File.result; is_copied = false; is_new = c.args.is_new } in
    let bytes : Streams = streams (g.R.Read.remaining c.args.reader.now) (g.R.Read.remaining c.serve-end-in-Ok-File.new.reader) (g.W.Write.contents c.args.writer.now)
    (g.W.Write.contents c.serve-end-in-Ok-File.new.writer) in
    let last = c.serve-end-in-Ok-File.new.keeper in
    record {
      last = c.into_tables-in-Ok-File.result;
      run = subst (λ t. ServesFrom config (tables_model g.S.Store c.args.tables) (tables_model g.S.Store t) report bytes) (sym c.into_tables-in-Ok-File.ensures)
          (file_serves g.S.Store config c.args.tables c.in-Ok-File.reserved.tables last.tables report bytes c.requires.fresh.0 c.requires.fresh.1
          (subst (IsSourceOf g.S.Store c.args.tables c.args.run.now.options.is_low_memory) c.in-Ok-File.field-0-is c.in-Ok-File.ensures.source)
          (record {
            serves = c.serve-end-in-Ok-File.ensures.serves;
            clean = c.serve-end-in-Ok-File.ensures.clean;
            writes = c.serve-end-in-Ok-File.ensures.writes;
            counted = c.refusals-in-Ok-File.ensures;
            down = c.is_down-in-Ok-File.ensures;
          }));
      back_is = c.give_back-in-Ok-File.ensures;
    }
