use Rattle.std.proofs.Common.{rules, ℕ, ◌++◌, ◌≤◌, List, [], length, arith, refl, subst, ap, sym, length-append}
use Rattle.std.specs.Io.KnownBytes.{Consumes, IsAtEnd}
use Rattle.std.proofs.KnownBytes.{Consumes-nil, Consumes-trans, Consumes-kept}
use Rattle.frames_core.specs.Framer.{FramerState}
use Rattle.csi_server.proofs.Feeding.{Keeps-refl, nothing_ends, live_start, ready_start, live_ends, finish_ends, refuse_ends, consumes_none, consumes_same}
use Rattle.csi_server.proofs.Runs.{cut_at}
use Rattle.csi_server.proofs.ReplyingLemmas.{broken_at, finish_writes, refusal_ends, replied_so_far, replying_start}
use Rattle.csi_server.proofs.running.run_service.Goals as goal

pub loop-turn-init : goal.loop-turn-init
loop-turn-init g c =
    let m = g.S.Service.machine c.args.config.now in
    let v = g.S.Service.model c.args.config.now in
    let e = c.in-Ok.ensures.empty in
    record {
      few = omega (arith, ap (λ (s : FramerState). s.past) e, ap (λ (s : FramerState). length s.held) e);
      ready = ready_start c.in-Ok.framer e c.in-Ok.ensures.open;
      run = ([], omega arith, Consumes-nil (g.R.Read.remaining c.args.reader.now), (λ s h clean. live_start m (v c.args.service.now) s c.in-Ok.framer (g.W.Write.contents c.args.writer.now) h e c.in-Ok.ensures.open), replying_start c.in-Ok.framer (g.W.Write.contents c.args.writer.now) e c.in-Ok.ensures.open);
      clean = omega arith;
    }

pub returns-in-Err-clause-serves : goal.returns-in-Err-clause-serves
returns-in-Err-clause-serves g c =
    let r = g.R.Read.remaining in
    let w = g.W.Write.contents in
    let run = c.loop-turn.invariant.run in (
      run.0,
      Consumes-kept (r c.args.reader.now) (r c.loop-turn.reader) (r c.read.new.self) run.0 run.2 c.in-Err.ensures.bytes,
      λ clean s h. live_ends (g.S.Service.machine c.args.config.now) (g.S.Service.model c.args.config.now c.args.service.now) (g.S.Service.model c.args.config.now c.loop-turn.service) s run.0 c.loop-turn.framer (w c.args.writer.now) (w c.loop-turn.writer) (run.3 s h clean),
    )

pub returns-then-count-eq0-clause-serves : goal.returns-then-count-eq0-clause-serves
returns-then-count-eq0-clause-serves g c =
    let r = g.R.Read.remaining in
    let w = g.W.Write.contents in
    let run = c.loop-turn.invariant.run in
    let none = consumes_none (r c.loop-turn.reader) (r c.read.new.self) c.read.new.buf c.in-Ok-read.count c.if-count-eq0.true c.in-Ok-read.ensures.bytes.0 in (
      run.0,
      consumes_same (r c.args.reader.now) (r c.loop-turn.reader) (r c.read.new.self) run.0 run.2 none,
      λ clean s h. finish_ends (g.S.Service.machine c.args.config.now) (g.S.Service.model c.args.config.now c.args.service.now) (g.S.Service.model c.args.config.now c.loop-turn.service) s run.0 (IsAtEnd (r c.read.new.self)) c.loop-turn.framer (w c.args.writer.now) (w c.loop-turn.writer) (w c.finish.new.writer) c.finish.result (run.3 s h clean)
          (c.in-Ok-read.ensures.bytes.1 c.if-count-eq0.true (search rules)) c.finish.ensures,
    )

pub returns-in-Faulty-clause-serves : goal.returns-in-Faulty-clause-serves
returns-in-Faulty-clause-serves g c =
    let r = g.R.Read.remaining in
    let w = g.W.Write.contents in
    let run = c.loop-turn.invariant.run in
    let steps = λ (s : g.S.Service.State) (h : (g.S.Service.model c.args.config.now c.args.service.now).holds s). c.in-Faulty.ensures.steps c.args.service.now s run.0 (w c.args.writer.now) (run.3 s h) in (
      run.0 ++ c.split_at.result.0.now,
      Consumes-trans (r c.args.reader.now) (r c.loop-turn.reader) (r c.read.new.self) run.0 c.split_at.result.0.now run.2 (subst (λ (x : List ℕ). Consumes (r c.loop-turn.reader) (r c.read.new.self) x) (sym c.split_at.ensures.front) c.in-Ok-read.ensures.bytes.0),
      λ clean s h. refuse_ends (g.S.Service.machine c.args.config.now) (g.S.Service.model c.args.config.now c.args.service.now) (g.S.Service.model c.args.config.now c.answer_piece.new.service) s (run.0 ++ c.split_at.result.0.now) (IsAtEnd (r c.read.new.self)) c.in-Faulty.fault (w c.args.writer.now) (w c.answer_piece.new.writer) (w c.refuse.new.writer) c.refuse.result (steps s h clean).1 (λ e. absurd ((steps s h clean).0 e)) c.refuse.ensures,
    )

pub returns-in-Cut-clause-serves : goal.returns-in-Cut-clause-serves
returns-in-Cut-clause-serves g c =
    let r = g.R.Read.remaining in
    let w = g.W.Write.contents in
    let run = c.loop-turn.invariant.run in (
      run.0 ++ c.split_at.result.0.now,
      Consumes-trans (r c.args.reader.now) (r c.loop-turn.reader) (r c.read.new.self) run.0 c.split_at.result.0.now run.2 (subst (λ (x : List ℕ). Consumes (r c.loop-turn.reader) (r c.read.new.self) x) (sym c.split_at.ensures.front) c.in-Ok-read.ensures.bytes.0),
      λ clean s h. cut_at (g.S.Service.machine c.args.config.now) (g.S.Service.model c.args.config.now c.args.service.now) (g.S.Service.model c.args.config.now c.answer_piece.new.service) s (run.0 ++ c.split_at.result.0.now) (w c.args.writer.now) (w c.answer_piece.new.writer) (IsAtEnd (r c.read.new.self)) (c.in-Cut.ensures.steps c.args.service.now s run.0 (w c.args.writer.now) (run.3 s h) clean),
    )

-- ---- the written bytes, for every service

pub returns-in-Err-clause-writes : goal.returns-in-Err-clause-writes
returns-in-Err-clause-writes g c =
    let r = g.R.Read.remaining in
    let w = g.W.Write.contents in
    let run = c.loop-turn.invariant.run in
    (run.0, Consumes-kept (r c.args.reader.now) (r c.loop-turn.reader) (r c.read.new.self) run.0 run.2 c.in-Err.ensures.bytes, replied_so_far run.0 c.loop-turn.framer (w c.args.writer.now) (w c.loop-turn.writer) run.4)

pub returns-then-count-eq0-clause-writes : goal.returns-then-count-eq0-clause-writes
returns-then-count-eq0-clause-writes g c =
    let r = g.R.Read.remaining in
    let w = g.W.Write.contents in
    let run = c.loop-turn.invariant.run in
    let none = consumes_none (r c.loop-turn.reader) (r c.read.new.self) c.read.new.buf c.in-Ok-read.count c.if-count-eq0.true c.in-Ok-read.ensures.bytes.0 in (
      run.0,
      consumes_same (r c.args.reader.now) (r c.loop-turn.reader) (r c.read.new.self) run.0 run.2 none,
      finish_writes run.0 (IsAtEnd (r c.read.new.self)) c.loop-turn.framer (w c.args.writer.now) (w c.loop-turn.writer) (w c.finish.new.writer) c.finish.result run.4 (c.in-Ok-read.ensures.bytes.1 c.if-count-eq0.true (search rules)) c.finish.ensures,
    )

pub returns-in-Faulty-clause-writes : goal.returns-in-Faulty-clause-writes
returns-in-Faulty-clause-writes g c =
    let r = g.R.Read.remaining in
    let w = g.W.Write.contents in
    let run = c.loop-turn.invariant.run in
    let h = c.in-Faulty.ensures.replies run.0 (w c.args.writer.now) run.4 in (
      run.0 ++ c.split_at.result.0.now,
      Consumes-trans (r c.args.reader.now) (r c.loop-turn.reader) (r c.read.new.self) run.0 c.split_at.result.0.now run.2 (subst (λ (x : List ℕ). Consumes (r c.loop-turn.reader) (r c.read.new.self) x) (sym c.split_at.ensures.front) c.in-Ok-read.ensures.bytes.0),
      refusal_ends (run.0 ++ c.split_at.result.0.now) (IsAtEnd (r c.read.new.self)) c.in-Faulty.fault (w c.args.writer.now) (w c.answer_piece.new.writer) (w c.refuse.new.writer) c.refuse.result h.1 h.2 (λ e. absurd (h.0 e)) c.refuse.ensures,
    )

pub returns-in-Cut-clause-writes : goal.returns-in-Cut-clause-writes
returns-in-Cut-clause-writes g c =
    let r = g.R.Read.remaining in
    let w = g.W.Write.contents in
    let run = c.loop-turn.invariant.run in (
      run.0 ++ c.split_at.result.0.now,
      Consumes-trans (r c.args.reader.now) (r c.loop-turn.reader) (r c.read.new.self) run.0 c.split_at.result.0.now run.2 (subst (λ (x : List ℕ). Consumes (r c.loop-turn.reader) (r c.read.new.self) x) (sym c.split_at.ensures.front) c.in-Ok-read.ensures.bytes.0),
      broken_at (run.0 ++ c.split_at.result.0.now) (w c.args.writer.now) (w c.answer_piece.new.writer) (IsAtEnd (r c.read.new.self)) (c.in-Cut.ensures.replies run.0 (w c.args.writer.now) run.4),
    )

pub returns-clause-writes : goal.returns-clause-writes
returns-clause-writes g c =
    let w = g.W.Write.contents in
    let run = c.loop-turn.invariant.run in
    (run.0, run.2, (replied_so_far run.0 c.loop-turn.framer (w c.args.writer.now) (w c.loop-turn.writer) run.4, omega (arith, run.1)))

pub returns-in_default-clause-writes : goal.returns-in_default-clause-writes
returns-in_default-clause-writes g c = ([], Consumes-nil (g.R.Read.remaining c.args.reader.now), (refl, Keeps-refl (g.W.Write.contents c.args.writer.now)))

pub loop-turn-preserved : goal.loop-turn-preserved
loop-turn-preserved g c =
    let r = g.R.Read.remaining in
    let w = g.W.Write.contents in
    let run = c.loop-turn.invariant.run in
    let a = c.in-Fed.ensures.count in
    record {
      few = (let b : c.in-Ok-read.count ≤ 4096 = search rules in let i = c.loop-turn.invariant.few in omega (arith, a.count, c.split_at.ensures.front_len));
      ready = a.ready;
      run = (
        run.0 ++ c.split_at.result.0.now,
        omega (arith, run.1, length-append run.0 c.split_at.result.0.now, c.split_at.ensures.front_len),
        Consumes-trans (r c.args.reader.now) (r c.loop-turn.reader) (r c.read.new.self) run.0 c.split_at.result.0.now run.2 (subst (λ (x : List ℕ). Consumes (r c.loop-turn.reader) (r c.read.new.self) x) (sym c.split_at.ensures.front) c.in-Ok-read.ensures.bytes.0),
        (λ s h clean. c.in-Fed.ensures.steps c.args.service.now s run.0 (w c.args.writer.now) (run.3 s h) clean),
        c.in-Fed.ensures.replies run.0 (w c.args.writer.now) run.4,
      );
      clean = omega (arith, c.loop-turn.invariant.clean, c.answer_piece.ensures.clean);
    }

pub returns-clause-serves : goal.returns-clause-serves
returns-clause-serves g c =
    let r = g.R.Read.remaining in
    let w = g.W.Write.contents in
    let run = c.loop-turn.invariant.run in
    (run.0, run.2, λ clean s h. (live_ends (g.S.Service.machine c.args.config.now) (g.S.Service.model c.args.config.now c.args.service.now) (g.S.Service.model c.args.config.now c.loop-turn.service) s run.0 c.loop-turn.framer (w c.args.writer.now) (w c.loop-turn.writer) (run.3 s h clean), omega (arith, run.1)))

pub returns-in_default-clause-serves : goal.returns-in_default-clause-serves
returns-in_default-clause-serves g c =
    let v = g.S.Service.model c.args.config.now in
    ([], Consumes-nil (g.R.Read.remaining c.args.reader.now), λ clean s h. nothing_ends (g.S.Service.machine c.args.config.now) (v c.args.service.now) s (g.W.Write.contents c.args.writer.now) h)
