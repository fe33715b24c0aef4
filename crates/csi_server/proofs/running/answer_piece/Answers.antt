use Rattle.std.proofs.Common.{ℕ, ◌++◌, ◌∙◌, List, [], take, arith, subst, sym, ap}
use Rattle.std.specs.Result.{IsOk, is_ok}
use Rattle.envelope.specs.Envelope.{bytes_of}
use Rattle.frames_core.specs.Framer.{IsFrame}
use Rattle.csi_server.specs.Serving.{Answered, CutOff, HasFault}
use Rattle.csi_server.specs.Live.{Live, IsReady, Replying}
use Rattle.csi_server.specs.Serving.{Broken, IsPrompt, Replied}
use Rattle.csi_server.specs.Service.{reply_of}
use Rattle.frames_core.specs.Feeding.{Fed}
use Rattle.frames_core.specs.facts.Feeding.{one_piece, whole_piece}
use Rattle.csi_server.proofs.ReplyingLemmas.{replying_cut, replying_fault, replying_more, replying_open, whole_put}
use Rattle.csi_server.proofs.Feeding.{advanced, advanced_open, answered_call, fed_answered, fed_cut, fed_fault, fed_open}
use Rattle.csi_server.proofs.running.answer_piece.Goals as goal

pub returns-in-Some-clause-steps : goal.returns-in-Some-clause-steps
returns-in-Some-clause-steps g c start s read held live clean =
    let m = g.S.Service.machine c.args.config.now in
    let v = g.S.Service.model c.args.config.now in
    let f : Fed c.loop-at.framer c.feed-at.new.self c.split_at.result.1.now c.feed-at.result = let e = c.feed-at.ensures in record { within = e.within; past = e.past; held = e.held; all = e.all; known = e.known; idle = e.idle } in
    let h = fed_fault m (v start) (v c.loop-at.service) s (read ++ take c.loop-at.at c.args.piece.now) c.loop-at.framer c.feed-at.new.self c.split_at.result.1.now c.feed-at.result held (g.W.Write.contents c.loop-at.writer) c.in-Some.fault (c.loop-at.invariant.live start s read held live clean) f (sym c.in-Some.ensures.value) in (
      h.0,
      subst (λ (x : List ℕ). Answered m (v start) (v c.loop-at.service) s x held (g.W.Write.contents c.loop-at.writer) (λ calls. HasFault x calls c.in-Some.fault.why c.in-Some.fault.at) [])
          (whole_piece read c.args.piece.now c.loop-at.at c.split_at.result.1.now c.split_at.ensures.back) h.1,
    )

pub returns-in_default-put_reply-clause-steps : goal.returns-in_default-put_reply-clause-steps
returns-in_default-put_reply-clause-steps g c start s read held live clean =
    let m = g.S.Service.machine c.args.config.now in
    let v = g.S.Service.model c.args.config.now in
    let f : Fed c.loop-at.framer c.feed-at.new.self c.split_at.result.1.now c.feed-at.result = let e = c.feed-at.ensures in record { within = e.within; past = e.past; held = e.held; all = e.all; known = e.known; idle = e.idle } in
    subst (λ (x : List ℕ). CutOff m (v start) (v c.answer-answer.new.self) s x ⊥ held (g.W.Write.contents c.put_reply.new.writer))
    (whole_piece read c.args.piece.now c.loop-at.at c.split_at.result.1.now c.split_at.ensures.back)
    (fed_cut m (v start) (v c.loop-at.service) (v c.answer-answer.new.self) s (read ++ take c.loop-at.at c.args.piece.now) c.loop-at.framer c.feed-at.new.self c.split_at.result.1.now c.feed-at.result (bytes_of c.in-Some-frame.call) held (g.W.Write.contents c.loop-at.writer) (g.W.Write.contents c.put_reply.new.writer) (IsOk c.put_reply.result)
    (c.loop-at.invariant.live start s read held live (omega (arith, clean, c.answer-answer.ensures.clean))) f c.in-Some-frame.ensures.0 c.in-Some-frame.ensures.1
    (λ t at. answered_call m (v c.loop-at.service) (v c.answer-answer.new.self) t (bytes_of c.in-Some-frame.call) c.answer-answer.result c.answer-answer.new.reply.items (g.W.Write.contents c.loop-at.writer) (g.W.Write.contents c.put_reply.new.writer) c.put_reply.result (c.answer-answer.ensures.step clean t at) c.put_reply.ensures.formed c.put_reply.ensures.all c.put_reply.ensures.part))

pub returns-in-Some-clause-replies : goal.returns-in-Some-clause-replies
returns-in-Some-clause-replies g c read held replying =
    let w = g.W.Write.contents in
    let f : Fed c.loop-at.framer c.feed-at.new.self c.split_at.result.1.now c.feed-at.result = let e = c.feed-at.ensures in record { within = e.within; past = e.past; held = e.held; all = e.all; known = e.known; idle = e.idle } in
    let h = replying_fault (read ++ take c.loop-at.at c.args.piece.now) c.loop-at.framer c.feed-at.new.self c.split_at.result.1.now c.feed-at.result held (w c.loop-at.writer) c.in-Some.fault (c.loop-at.invariant.replying read held replying) f (omega (arith, c.requires.within_piece, c.split_at.ensures.back_len)) (sym c.in-Some.ensures.value) in
    let whole = whole_piece read c.args.piece.now c.loop-at.at c.split_at.result.1.now c.split_at.ensures.back in (
      h.0,
      subst (λ (x : List ℕ). Replied held (w c.loop-at.writer) (λ calls. HasFault x calls c.in-Some.fault.why c.in-Some.fault.at) []) whole h.1,
      subst IsPrompt whole h.2,
    )

pub returns-in_default-put_reply-clause-replies : goal.returns-in_default-put_reply-clause-replies
returns-in_default-put_reply-clause-replies g c read held replying =
    let w = g.W.Write.contents in
    let f : Fed c.loop-at.framer c.feed-at.new.self c.split_at.result.1.now c.feed-at.result = let e = c.feed-at.ensures in record { within = e.within; past = e.past; held = e.held; all = e.all; known = e.known; idle = e.idle } in
    subst (λ (x : List ℕ). Broken x ⊥ held (w c.put_reply.new.writer)) (whole_piece read c.args.piece.now c.loop-at.at c.split_at.result.1.now c.split_at.ensures.back)
    (replying_cut (read ++ take c.loop-at.at c.args.piece.now) c.loop-at.framer c.feed-at.new.self c.split_at.result.1.now c.feed-at.result (bytes_of c.in-Some-frame.call) (reply_of c.answer-answer.result c.answer-answer.new.reply.items) held (w c.loop-at.writer) (w c.put_reply.new.writer)
    (c.loop-at.invariant.replying read held replying) f (omega (arith, c.split_at.ensures.back_len, c.loop-at-test.true)) (omega (arith, c.requires.within_piece, c.split_at.ensures.back_len)) c.in-Some-frame.ensures.0 c.in-Some-frame.ensures.1 c.put_reply.ensures.formed c.put_reply.ensures.part)

pub loop-at-preserved-in_default-frame : goal.loop-at-preserved-in_default-frame
loop-at-preserved-in_default-frame g c =
    let m = g.S.Service.machine c.args.config.now in
    let v = g.S.Service.model c.args.config.now in
    let f : Fed c.loop-at.framer c.feed-at.new.self c.split_at.result.1.now c.feed-at.result = let e = c.feed-at.ensures in record { within = e.within; past = e.past; held = e.held; all = e.all; known = e.known; idle = e.idle } in
    let ready : IsReady c.feed-at.new.self = (sym c.fault.ensures.value ∙ c.in_default.is, record { unbroken = c.in_default.ensures.exact; frameless = c.in_default-frame.ensures }) in
    record {
      within = omega (arith, f.within, c.split_at.ensures.back_len, c.loop-at.invariant.within);
      took = advanced_open c.args.framer.now c.loop-at.framer c.feed-at.new.self c.loop-at.at c.split_at.result.1.now c.feed-at.result c.loop-at.invariant.took f ready;
      clean = c.loop-at.invariant.clean;
      live = λ start s read held live clean. subst (λ (x : List ℕ). Live m (v start) (v c.loop-at.service) s x c.feed-at.new.self held (g.W.Write.contents c.loop-at.writer))
          (one_piece read c.args.piece.now c.loop-at.at c.feed-at.result c.split_at.result.1.now c.split_at.ensures.back)
          (fed_open m (v start) (v c.loop-at.service) s (read ++ take c.loop-at.at c.args.piece.now) c.loop-at.framer c.feed-at.new.self c.split_at.result.1.now c.feed-at.result held (g.W.Write.contents c.loop-at.writer) (c.loop-at.invariant.live start s read held live clean) f ready);
      replying = λ read held replying. subst (λ (x : List ℕ). Replying x c.feed-at.new.self held (g.W.Write.contents c.loop-at.writer))
          (one_piece read c.args.piece.now c.loop-at.at c.feed-at.result c.split_at.result.1.now c.split_at.ensures.back)
          (replying_open (read ++ take c.loop-at.at c.args.piece.now) c.loop-at.framer c.feed-at.new.self c.split_at.result.1.now c.feed-at.result held (g.W.Write.contents c.loop-at.writer) (c.loop-at.invariant.replying read held replying) f ready);
    }

pub loop-at-preserved : goal.loop-at-preserved
loop-at-preserved g c =
    let m = g.S.Service.machine c.args.config.now in
    let v = g.S.Service.model c.args.config.now in
    let f : Fed c.loop-at.framer c.feed-at.new.self c.split_at.result.1.now c.feed-at.result = let e = c.feed-at.ensures in record { within = e.within; past = e.past; held = e.held; all = e.all; known = e.known; idle = e.idle } in
    let frame : IsFrame c.feed-at.new.self.held = (bytes_of c.in-Some-frame.call, c.in-Some-frame.ensures.0, c.in-Some-frame.ensures.1) in
    record {
      within = omega (arith, f.within, c.split_at.ensures.back_len, c.loop-at.invariant.within);
      took = advanced c.args.framer.now c.loop-at.framer c.feed-at.new.self c.next_frame.new.self c.loop-at.at c.split_at.result.1.now c.feed-at.result c.loop-at.invariant.took f (c.next_frame.ensures.given_up frame) (c.next_frame.ensures.open frame);
      clean = omega (arith, c.loop-at.invariant.clean, c.answer-answer.ensures.clean);
      live = λ start s read held live clean. subst (λ (x : List ℕ). Live m (v start) (v c.answer-answer.new.self) s x c.next_frame.new.self held (g.W.Write.contents c.put_reply.new.writer))
          (one_piece read c.args.piece.now c.loop-at.at c.feed-at.result c.split_at.result.1.now c.split_at.ensures.back)
          (fed_answered m (v start) (v c.loop-at.service) (v c.answer-answer.new.self) s (read ++ take c.loop-at.at c.args.piece.now) c.loop-at.framer c.feed-at.new.self c.next_frame.new.self c.split_at.result.1.now c.feed-at.result (bytes_of c.in-Some-frame.call) held (g.W.Write.contents c.loop-at.writer) (g.W.Write.contents c.put_reply.new.writer)
          (c.loop-at.invariant.live start s read held live (omega (arith, clean, c.answer-answer.ensures.clean))) f c.in-Some-frame.ensures.0 c.in-Some-frame.ensures.1 (IsOk c.put_reply.result) (ap is_ok c.in-Ok.is)
          (λ t at. answered_call m (v c.loop-at.service) (v c.answer-answer.new.self) t (bytes_of c.in-Some-frame.call) c.answer-answer.result c.answer-answer.new.reply.items (g.W.Write.contents c.loop-at.writer) (g.W.Write.contents c.put_reply.new.writer) c.put_reply.result (c.answer-answer.ensures.step clean t at) c.put_reply.ensures.formed c.put_reply.ensures.all c.put_reply.ensures.part)
          (c.next_frame.ensures.given_up frame) (c.next_frame.ensures.open frame));
      replying = λ read held replying. subst (λ (x : List ℕ). Replying x c.next_frame.new.self held (g.W.Write.contents c.put_reply.new.writer))
          (one_piece read c.args.piece.now c.loop-at.at c.feed-at.result c.split_at.result.1.now c.split_at.ensures.back)
          (replying_more (read ++ take c.loop-at.at c.args.piece.now) c.loop-at.framer c.feed-at.new.self c.next_frame.new.self c.split_at.result.1.now c.feed-at.result (bytes_of c.in-Some-frame.call) (reply_of c.answer-answer.result c.answer-answer.new.reply.items) held (g.W.Write.contents c.loop-at.writer) (g.W.Write.contents c.put_reply.new.writer)
          (c.loop-at.invariant.replying read held replying) f c.in-Some-frame.ensures.0 c.in-Some-frame.ensures.1 c.put_reply.ensures.formed (whole_put c.put_reply.result c.put_reply.ensures.all (ap is_ok c.in-Ok.is))
          (c.next_frame.ensures.given_up frame) (c.next_frame.ensures.open frame));
    }
