use Rattle.std.proofs.Common.{◌≡◌, ◌+◌, ◌++◌, [], ◌∷◌, length, map, take, sym, ap, ◌∙◌, rules, arith, length-set}
use Rattle.std.specs.FinMap.{entries, len-entries}
use Rattle.std.specs.Map.Iter.{deref_pair}
use Rattle.std.proofs.lemmas.List.{length-append, length-map, map-append, take_all, take_more_set}
use Rattle.std.proofs.lemmas.Map.Iter.{iter_end, rest_so_far}
use Rattle.csi_types.specs.Segments.{entry_of}
use Rattle.csi_types.specs.declared.topology.segments.Segment.{Segment}
use Rattle.csi_types.proofs.topology.segments.put_segments.Goals as goal

pub bounds-segments-count : goal.bounds-segments-count
bounds-segments-count c =
    let left : entries c.args.topology.now ≡ map deref_pair c.loop-key.yielded ++ c.loop-key.key-iterator = search (rules, rest_so_far) in
    let all = ap length (left ∙ ap (λ r. map deref_pair c.loop-key.yielded ++ r) c.in-Some.ensures.steps) ∙ length-append (map deref_pair c.loop-key.yielded) _ in
    let done = length-map c.loop-key.yielded deref_pair in
    let long = len-entries c.args.topology.now in
    omega (arith, all, done, long, c.loop-key.invariant.long, c.loop-key.invariant.counted)

pub loop-key-preserved : goal.loop-key-preserved
loop-key-preserved c =
    let segment : Segment = record { key = c.in-Some.key; value = c.in-Some.value } in
    let more : length (c.loop-key.yielded ++ (c.in-Some.key, c.in-Some.value) ∷ []) ≡ length c.loop-key.yielded + 1 = length-append c.loop-key.yielded _ in
    record {
      long = length-set _ _ _ ∙ c.loop-key.invariant.long;
      counted = ap (λ n. n + 1) c.loop-key.invariant.counted ∙ sym more;
      put =
          ap (map entry_of) (take_more_set c.loop-key.segments c.loop-key.count segment (bounds-segments-count c))
          ∙ map-append entry_of (take c.loop-key.count c.loop-key.segments) (segment ∷ [])
          ∙ ap (λ es. es ++ entry_of segment ∷ []) c.loop-key.invariant.put
          ∙ sym (map-append deref_pair c.loop-key.yielded ((c.in-Some.key, c.in-Some.value) ∷ []));
    }

pub returns : goal.returns
returns c =
    let all : map deref_pair c.loop-key.yielded ≡ entries c.args.topology.now =
    (iter_end deref_pair (entries c.args.topology.now) c.loop-key.yielded _ c.loop-key.key-iterator c.next.new.self c.next.result c.into_iter-key-iterator.ensures.into_iter_gives c.loop-key.yielded_by c.in-None.is c.next.ensures.steps).0 in
    let done = length-map c.loop-key.yielded deref_pair in
    let long = len-entries c.args.topology.now in
    let every = ap length all in
    ap (map entry_of) (sym (take_all c.loop-key.count c.loop-key.segments (omega (arith, done, long, every, c.loop-key.invariant.long, c.loop-key.invariant.counted))))
    ∙ c.loop-key.invariant.put ∙ all
