use Rattle.csi_server.proofs.Runs.{run_settled}
use Rattle.csi_server.proofs.laws.stop_leaves_state.Goals as goal

pub returns : goal.returns
returns g c old new s events run none only t h =
    let v = g.S.Service.model c.args.config.now in
    run_settled (g.S.Service.machine c.args.config.now) (v old) (v new) s events run none only t h
