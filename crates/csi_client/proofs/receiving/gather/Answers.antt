use Rattle.std.proofs.Common.{rules, ℕ, [], ◌++◌, ◌≤◌, ◌<◌, List, length, length-append, arith, ap, subst, sym, refl}
use Rattle.std.specs.Io.KnownBytes.{Consumes, IsAtEnd}
use Rattle.std.proofs.KnownBytes.{Consumes-nil, Consumes-trans}
use Rattle.frames_core.specs.Framer.{ReplyFramerState}
use Rattle.envelope.specs.declared.kind.FrameKind.TheVariants.{Replies}
use Rattle.envelope.specs.Faults.{reply_part, reply_place}
use Rattle.frames_core.specs.Feeding.{ReplyFed}
use Rattle.frames_core.specs.facts.Feeding.{fed_count}
use Rattle.csi_client.proofs.Gathering.{ended, gathering_start, settled, settled_some, one_more, nothing_more}
use Rattle.csi_client.proofs.receiving.gather.Goals as goal

pub loop-turn-init : goal.loop-turn-init
loop-turn-init g c = record {
  few = omega (arith, ap (λ (s : ReplyFramerState). s.past) c.requires, ap (λ (s : ReplyFramerState). length s.held) c.requires);
  run = ([], omega arith, Consumes-nil (g.R.Read.remaining c.args.reader.now), gathering_start c.args.framer.now c.requires);
}

pub returns-then-count-eq0 : goal.returns-then-count-eq0
returns-then-count-eq0 g c =
    let r = g.R.Read.remaining in
    let run = c.loop-turn.invariant.run in (
      run.0,
      nothing_more (r c.args.reader.now) (r c.loop-turn.reader) (r c.read.new.self) run.0 c.read.new.buf c.in_ok-count.count run.2 c.if-count-eq0.true c.in_ok-count.ensures.bytes.0,
      ended run.0 (IsAtEnd (r c.read.new.self)) c.loop-turn.framer c.end.new.self run.3 c.end.ensures.ends c.end.ensures.kept (c.in_ok-count.ensures.bytes.1 c.if-count-eq0.true (search rules)),
    )

pub returns-then-is_settled : goal.returns-then-is_settled
returns-then-is_settled g c =
    let r = g.R.Read.remaining in
    let run = c.loop-turn.invariant.run in
    let b : c.in_ok-count.count ≤ 4096 = search rules in
    let any : 0 < length c.split_at.result.0.now = omega (arith, c.split_at.ensures.front_len, c.if-count-eq0.false) in
    let small : length c.split_at.result.0.now ≤ 4096 = omega (arith, c.split_at.ensures.front_len, b) in
    let f : ReplyFed c.loop-turn.framer c.feed.new.self c.split_at.result.0.now c.feed.result = record { within = c.feed.ensures.within; past = c.feed.ensures.past; held = c.feed.ensures.held; all = c.feed.ensures.all; known = c.feed.ensures.known; idle = c.feed.ensures.idle } in (
      run.0 ++ c.split_at.result.0.now,
      Consumes-trans (r c.args.reader.now) (r c.loop-turn.reader) (r c.read.new.self) run.0 c.split_at.result.0.now run.2 (subst (λ (x : List ℕ). Consumes (r c.loop-turn.reader) (r c.read.new.self) x) (sym c.split_at.ensures.front) c.in_ok-count.ensures.bytes.0),
      settled run.0 c.split_at.result.0.now (IsAtEnd (r c.read.new.self)) c.loop-turn.framer c.feed.new.self c.feed.result run.3 f any small (settled_some c.feed.new.self (c.if-is_settled.ensures.settled refl)),
    )

pub loop-turn-preserved : goal.loop-turn-preserved
loop-turn-preserved g c =
    let r = g.R.Read.remaining in
    let run = c.loop-turn.invariant.run in
    let f : ReplyFed c.loop-turn.framer c.feed.new.self c.split_at.result.0.now c.feed.result = record { within = c.feed.ensures.within; past = c.feed.ensures.past; held = c.feed.ensures.held; all = c.feed.ensures.all; known = c.feed.ensures.known; idle = c.feed.ensures.idle } in
    let open_ = c.if-is_settled.ensures.open refl in
    let more = one_more run.0 c.split_at.result.0.now c.loop-turn.framer c.feed.new.self c.feed.result run.3 f open_.0 open_.1 (c.feed.ensures.bounded open_.0 open_.1) in
    record {
      few = (let b : c.in_ok-count.count ≤ 4096 = search rules in let i = c.loop-turn.invariant.few in omega (arith, c.feed.ensures.within, c.split_at.ensures.front_len, fed_count Replies reply_part reply_place c.loop-turn.framer c.feed.new.self c.split_at.result.0.now c.feed.result f));
      run = (
        run.0 ++ c.split_at.result.0.now,
        omega (arith, run.1, length-append run.0 c.split_at.result.0.now, c.split_at.ensures.front_len, c.if-count-eq0.false),
        Consumes-trans (r c.args.reader.now) (r c.loop-turn.reader) (r c.read.new.self) run.0 c.split_at.result.0.now run.2 (subst (λ (x : List ℕ). Consumes (r c.loop-turn.reader) (r c.read.new.self) x) (sym c.split_at.ensures.front) c.in_ok-count.ensures.bytes.0),
        more,
      );
    }

pub unreachable-requires : goal.unreachable-requires
unreachable-requires g c =
    let run = c.loop-turn.invariant.run in
    omega (arith, run.1, run.3.short.1)
