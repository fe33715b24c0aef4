use Rattle.std.proofs.Common.{ℕ, List, ◌++◌}
use Rattle.envelope.specs.declared.taken.Taken.{Taken}
use Rattle.envelope.specs.declared.taken.Taken.TheVariants.{Nothing, Frame, Fault}
use Rattle.envelope.specs.declared.kind.FrameKind.TheVariants.{Calls}
use Rattle.envelope.specs.Envelope.{CallBytes, IsCall, bytes_of, frame}
use Rattle.envelope.specs.Stream.{part_of}
use Rattle.envelope.specs.Taken.{TakesFirst, IsTaken}
use Rattle.envelope.proofs.Cancelling.{taken_whole, begins_itself, nil_no_frame}
use Rattle.envelope.specs.facts.Frames.{fault_no_frame}
use Rattle.envelope.proofs.laws.call_read_back.Goals as goal

read_back : (said : CallBytes) (more : List ℕ) (t : Taken) → IsCall said → TakesFirst (frame said ++ more) t → IsTaken said t
read_back said more Nothing good h = nil_no_frame Calls (frame said ++ more) h (begins_itself Calls said more good)
read_back said more (Frame c size) good h = taken_whole Calls said (bytes_of c) more size good h.0 h.1 h.2
read_back said more (Fault f) good h = fault_no_frame Calls (frame said ++ more) (part_of f.why) f.at h (begins_itself Calls said more good)

pub returns : goal.returns
returns c said more t good h = read_back said more t good h
