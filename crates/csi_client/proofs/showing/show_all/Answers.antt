use Rattle.std.proofs.Common.{rules, ℕ, ◌++◌, ◌≤◌, ◌∙◌, List, [], length, arith, subst, ap, sym}
use Rattle.std.specs.Prelude.{⊤}
use Rattle.std.specs.Io.KnownBytes.{Consumes, IsAtEnd}
use Rattle.std.proofs.KnownBytes.{Consumes-nil, Consumes-trans, Consumes-kept}
use Rattle.frames_core.specs.Framer.{ReplyFramerState}
use Rattle.csi_client.specs.declared.showing.ShowEnd.{ShowEnd}
use Rattle.csi_client.specs.declared.showing.ShowEnd.TheVariants.{Malformed}
use Rattle.csi_client.specs.Showing.{Ended}
use Rattle.csi_client.specs.Live.{end_of}
use Rattle.csi_client.proofs.Gathering.{nothing_more}
use Rattle.csi_client.proofs.Printing.{live_start, live_as, live_whole, ended_as, ended_at, read_failed}
use Rattle.csi_client.proofs.showing.show_all.Goals as goal

pub loop-turn-init : goal.loop-turn-init
loop-turn-init g c =
    let e = c.in-Ok.ensures.empty in
    record {
      few = omega (arith, ap (λ (s : ReplyFramerState). s.past) e, ap (λ (s : ReplyFramerState). length s.held) e);
      ready = (ap (λ (s : ReplyFramerState). s.fault) e, c.in-Ok.ensures.open);
      method = search;
      run = ([], Consumes-nil (g.R.Read.remaining c.args.reader.now), live_start c.args.method c.in-Ok.framer (g.W.Write.contents c.args.writer.now) e c.in-Ok.ensures.open);
    }

pub returns-in_default-read : goal.returns-in_default-read
returns-in_default-read g c =
    let r = g.R.Read.remaining in
    let w = g.W.Write.contents in
    let i = c.loop-turn.invariant in (
      i.run.0,
      Consumes-kept (r c.args.reader.now) (r c.loop-turn.reader) (r c.read.new.self) i.run.0 i.run.1 c.in_default-read.ensures.bytes,
      read_failed c.args.method i.run.0 (IsAtEnd (r c.read.new.self)) c.loop-turn.framer (w c.args.writer.now) (w c.loop-turn.writer) c.loop-turn.printer.refused i.run.2,
    )

pub returns-then-count-eq0 : goal.returns-then-count-eq0
returns-then-count-eq0 g c =
    let r = g.R.Read.remaining in
    let w = g.W.Write.contents in
    let i = c.loop-turn.invariant in
    let live = live_as i.run.0 c.loop-turn.framer (w c.args.writer.now) (w c.loop-turn.writer) c.loop-turn.printer.refused _ _ (sym i.method) i.run.2 in
    let at_end : IsAtEnd (r c.read.new.self) = c.in-Ok-read.ensures.bytes.1 c.if-count-eq0.true (search rules) in (
      i.run.0,
      nothing_more (r c.args.reader.now) (r c.loop-turn.reader) (r c.read.new.self) i.run.0 c.read.new.buf c.in-Ok-read.count i.run.1 c.if-count-eq0.true c.in-Ok-read.ensures.bytes.0,
      ended_as i.run.0 (IsAtEnd (r c.read.new.self)) (w c.args.writer.now) (w c.loop-turn.writer) c.finish.result _ _ i.method
          (ended_at c.loop-turn.printer.method i.run.0 ⊤ (IsAtEnd (r c.read.new.self)) (w c.args.writer.now) (w c.loop-turn.writer) c.finish.result (λ t. at_end) (c.finish.ensures i.run.0 (w c.args.writer.now) (w c.loop-turn.writer) live)),
    )

pub returns-in-Faulty : goal.returns-in-Faulty
returns-in-Faulty g c =
    let r = g.R.Read.remaining in
    let w = g.W.Write.contents in
    let i = c.loop-turn.invariant in
    let live = live_as i.run.0 c.loop-turn.framer (w c.args.writer.now) (w c.loop-turn.writer) c.loop-turn.printer.refused _ _ (sym i.method) i.run.2 in
    let read = i.run.0 ++ c.split_at.result.0.now in (
      read,
      Consumes-trans (r c.args.reader.now) (r c.loop-turn.reader) (r c.read.new.self) i.run.0 c.split_at.result.0.now i.run.1 (subst (λ (x : List ℕ). Consumes (r c.loop-turn.reader) (r c.read.new.self) x) (sym c.split_at.ensures.front) c.in-Ok-read.ensures.bytes.0),
      ended_as read (IsAtEnd (r c.read.new.self)) (w c.args.writer.now) (w c.show_piece.new.writer) (Malformed c.in-Faulty.fault) _ _ i.method
          (ended_at c.loop-turn.printer.method read ⊥ (IsAtEnd (r c.read.new.self)) (w c.args.writer.now) (w c.show_piece.new.writer) (Malformed c.in-Faulty.fault) (λ t. absurd t) (c.in-Faulty.ensures.steps i.run.0 (w c.args.writer.now) live)),
    )

pub returns-in-Halted : goal.returns-in-Halted
returns-in-Halted g c =
    let r = g.R.Read.remaining in
    let w = g.W.Write.contents in
    let i = c.loop-turn.invariant in
    let live = live_as i.run.0 c.loop-turn.framer (w c.args.writer.now) (w c.loop-turn.writer) c.loop-turn.printer.refused _ _ (sym i.method) i.run.2 in
    let read = i.run.0 ++ c.split_at.result.0.now in (
      read,
      Consumes-trans (r c.args.reader.now) (r c.loop-turn.reader) (r c.read.new.self) i.run.0 c.split_at.result.0.now i.run.1 (subst (λ (x : List ℕ). Consumes (r c.loop-turn.reader) (r c.read.new.self) x) (sym c.split_at.ensures.front) c.in-Ok-read.ensures.bytes.0),
      subst (λ (end : ShowEnd). Ended c.args.method read (IsAtEnd (r c.read.new.self)) (w c.args.writer.now) (w c.show_piece.new.writer) end) (sym c.halted.ensures) (ended_as read (IsAtEnd (r c.read.new.self)) (w c.args.writer.now) (w c.show_piece.new.writer) (end_of c.in-Halted.halt) _ _ i.method
          (ended_at c.loop-turn.printer.method read ⊥ (IsAtEnd (r c.read.new.self)) (w c.args.writer.now) (w c.show_piece.new.writer) (end_of c.in-Halted.halt) (λ t. absurd t) (c.in-Halted.ensures.steps i.run.0 (w c.args.writer.now) live))),
    )

pub loop-turn-preserved : goal.loop-turn-preserved
loop-turn-preserved g c =
    let r = g.R.Read.remaining in
    let w = g.W.Write.contents in
    let i = c.loop-turn.invariant in
    let live = live_as i.run.0 c.loop-turn.framer (w c.args.writer.now) (w c.loop-turn.writer) c.loop-turn.printer.refused _ _ (sym i.method) i.run.2 in
    let a = c.in-Fed.ensures.count in
    let all = c.in-Fed.ensures.all in
    record {
      few = (let b : c.in-Ok-read.count ≤ 4096 = search rules in omega (arith, i.few, a.count, all, c.split_at.ensures.front_len));
      ready = a.ready;
      method = c.show_piece.ensures.method ∙ i.method;
      run = (
        i.run.0 ++ c.split_at.result.0.now,
        Consumes-trans (r c.args.reader.now) (r c.loop-turn.reader) (r c.read.new.self) i.run.0 c.split_at.result.0.now i.run.1 (subst (λ (x : List ℕ). Consumes (r c.loop-turn.reader) (r c.read.new.self) x) (sym c.split_at.ensures.front) c.in-Ok-read.ensures.bytes.0),
        live_as (i.run.0 ++ c.split_at.result.0.now) c.show_piece.new.framer (w c.args.writer.now) (w c.show_piece.new.writer) c.show_piece.new.self.refused _ _ i.method
            (live_whole c.loop-turn.printer.method i.run.0 c.split_at.result.0.now c.in-Fed.field-0 c.show_piece.new.framer (w c.args.writer.now) (w c.show_piece.new.writer) c.show_piece.new.self.refused all (c.in-Fed.ensures.steps i.run.0 (w c.args.writer.now) live)),
      );
    }
