use Rattle.std.proofs.Common.{ℕ, ◌++◌, ◌∙◌, List, take, arith, subst, sym}
use Rattle.csi_client.specs.declared.showing.ShowEnd.TheVariants.{Malformed}
use Rattle.csi_client.specs.Showing.{Ended}
use Rattle.csi_client.specs.Live.{Live, end_of}
use Rattle.frames_core.specs.facts.Feeding.{one_piece, whole_piece}
use Rattle.csi_client.proofs.Printing.{live_as, ended_as}
use Rattle.csi_client.proofs.showing.Printer.show_piece.Goals as goal

pub loop-at-preserved : goal.loop-at-preserved
loop-at-preserved g c =
    let w = g.W.Write.contents in
    let a = c.in-Fed.ensures.count in
    let i = c.loop-at.invariant in
    record {
      within = omega (arith, a.within, c.split_at.ensures.back_len, i.within);
      count = omega (arith, a.count, i.count);
      ready = a.ready;
      method = c.show_next.ensures.method ∙ i.method;
      live = λ read held live.
          let before = read ++ take c.loop-at.at c.args.piece.now in
          let was = live_as before c.loop-at.framer held (w c.loop-at.writer) c.loop-at.self.refused _ _ (sym i.method) (i.live read held live) in
          subst (λ (x : List ℕ). Live c.args.self.now.method x c.show_next.new.framer held (w c.show_next.new.writer) c.show_next.new.self.refused)
          (one_piece read c.args.piece.now c.loop-at.at c.in-Fed.count c.split_at.result.1.now c.split_at.ensures.back)
          (live_as (before ++ take c.in-Fed.count c.split_at.result.1.now) c.show_next.new.framer held (w c.show_next.new.writer) c.show_next.new.self.refused _ _ i.method (c.in-Fed.ensures.steps before held was));
    }

pub returns-in-Faulty-clause-steps : goal.returns-in-Faulty-clause-steps
returns-in-Faulty-clause-steps g c read held live =
    let w = g.W.Write.contents in
    let i = c.loop-at.invariant in
    let before = read ++ take c.loop-at.at c.args.piece.now in
    let was = live_as before c.loop-at.framer held (w c.loop-at.writer) c.loop-at.self.refused _ _ (sym i.method) (i.live read held live) in
    subst (λ (x : List ℕ). Ended c.args.self.now.method x ⊥ held (w c.show_next.new.writer) (Malformed c.in-Faulty.fault))
    (whole_piece read c.args.piece.now c.loop-at.at c.split_at.result.1.now c.split_at.ensures.back)
    (ended_as (before ++ c.split_at.result.1.now) ⊥ held (w c.show_next.new.writer) (Malformed c.in-Faulty.fault) _ _ i.method (c.in-Faulty.ensures.steps before held was))

pub returns-in-Halted-clause-steps : goal.returns-in-Halted-clause-steps
returns-in-Halted-clause-steps g c read held live =
    let w = g.W.Write.contents in
    let i = c.loop-at.invariant in
    let before = read ++ take c.loop-at.at c.args.piece.now in
    let was = live_as before c.loop-at.framer held (w c.loop-at.writer) c.loop-at.self.refused _ _ (sym i.method) (i.live read held live) in
    subst (λ (x : List ℕ). Ended c.args.self.now.method x ⊥ held (w c.show_next.new.writer) (end_of c.in-Halted.halt))
    (whole_piece read c.args.piece.now c.loop-at.at c.split_at.result.1.now c.split_at.ensures.back)
    (ended_as (before ++ c.split_at.result.1.now) ⊥ held (w c.show_next.new.writer) (end_of c.in-Halted.halt) _ _ i.method (c.in-Halted.ensures.steps before held was))
