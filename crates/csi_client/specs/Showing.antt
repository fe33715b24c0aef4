-- The output for a stream of replies, by the end of the run.
use Rattle.std.specs.Prelude.{ℕ, ◌≡◌, ◌==◌, ◌⊎◌, ◌<◌, ◌≤◌, not, Bool, List, [], ◌∷◌, ◌++◌, length, All, Option, Some, Err, IsOk}
use Rattle.std.specs.Io.KnownBytes.{Appends, Consumes, IsAtEnd}
use Rattle.std.specs.List.{flat_map, list_any}
use Rattle.csi_codec.specs.Reading.{read_response}
use Rattle.csi_types.specs.Codes.{number_of}
use Rattle.csi_types.specs.declared.code.Code.{Code}
use Rattle.csi_types.specs.declared.code.Code.TheVariants as code
use Rattle.csi_types.specs.declared.method.Method.{Method}
use Rattle.envelope.specs.declared.reply_fault.ReplyWhy.TheVariants.{EndOfInput}
use Rattle.envelope.specs.Envelope.{ReplyBytes, IsReply, reply}
use Rattle.envelope.specs.ReplyStream.{IsUnfinished}
use Rattle.frames_core.specs.Framer.{IsReplyFaultOf}
use Rattle.frames_core.specs.Writing.{IsPrefix}
use Rattle.csi_client.specs.declared.receiving.TheConstants.{PIECE_BYTES}
use Rattle.csi_client.specs.declared.showing.ShowEnd.{ShowEnd}
use Rattle.csi_client.specs.declared.showing.ShowEnd.TheVariants.{Done, Malformed, BadBody, ReadFailed, WriteFailed, NoMemory}
use Rattle.csi_client.specs.Replies.{first_line, body_lines}

-- the call was done, and the body is no response of its method; the fault is at this byte
pub record IsBadAt (method : Option Method) (r : ReplyBytes) (at : ℕ) : Type 0 where
  pub called : Method
  pub is : method ≡ Some called
  pub done : r.status ≡ 0
  pub refused : read_response called r.body ≡ Err at

abbrev pub IsBad : Option Method → ReplyBytes → Type 0
IsBad method r = (at : ℕ) × IsBadAt method r at

-- the call was done, and the body is a response of its method
pub record IsReadable (method : Option Method) (r : ReplyBytes) : Type 0 where
  pub called : Method
  pub is : method ≡ Some called
  pub done : r.status ≡ 0
  pub read : IsOk (read_response called r.body)

-- the lines of one reply, whose body can be read
pub record IsShown (method : Option Method) (r : ReplyBytes) (lines : List ℕ) : Type 0 where
  pub code : Code
  pub status : r.status ≡ number_of code
  pub readable : ¬ IsBad method r
  pub lines_are : lines ≡ first_line code r ++ body_lines method r

-- the lines that are written for a reply; for a reply with a bad body only the first line
abbrev pub AreLinesOf : Option Method → ReplyBytes → List ℕ → Type 0
AreLinesOf method r lines = IsShown method r lines ⊎ (IsBad method r × (lines ≡ first_line code.Ok r))

-- the lines of all replies, in order
abbrev pub AreShown : Option Method → List ReplyBytes → List ℕ → Type 0
AreShown method [] lines = lines ≡ []
AreShown method (r ∷ rs) lines = (first : List ℕ) × (more : List ℕ) × IsShown method r first × AreShown method rs more × (lines ≡ first ++ more)

abbrev pub is_refusal : ReplyBytes → Bool
is_refusal r = not (r.status == 0)

abbrev pub has_refusal : List ReplyBytes → Bool
has_refusal replies = list_any is_refusal replies

-- the frames of replies
abbrev pub frames : List ReplyBytes → List ℕ
frames replies = flat_map reply replies

-- The input read so far is the frames of these replies, all shown in these lines, and then a rest.
pub record Shown (method : Option Method) (read : List ℕ) (replies : List ReplyBytes) (rest lines : List ℕ) : Type 0 where
  pub whole : read ≡ frames replies ++ rest
  pub each : All IsReply replies
  pub shown : AreShown method replies lines

-- The lines of the replies read so far were written, and no others.
pub record Wrote (method : Option Method) (read : List ℕ) (held holds : Option (List ℕ)) (replies : List ReplyBytes) (rest last : List ℕ) : Type 0 where
  pub lines : List ℕ
  pub shown : Shown method read replies rest lines
  pub written : Appends held holds (lines ++ last)

-- No piece is read after a fault is known: the input before the last piece is replies and then a prefix of
-- a reply.
pub record IsPrompt (read : List ℕ) : Type 0 where
  pub before : List ℕ
  pub piece : List ℕ
  pub whole : read ≡ before ++ piece
  pub one : length piece ≤ PIECE_BYTES
  pub replies : List ReplyBytes
  pub rest : List ℕ
  pub each : All IsReply replies
  pub parts : before ≡ frames replies ++ rest
  pub unfinished : IsUnfinished rest

-- The rest begins with this reply, the last one looked at, and no piece is read after the last piece of the
-- reply.
abbrev pub IsLast : List ℕ → ReplyBytes → Type 0
IsLast rest r = (more : List ℕ) × IsReply r × (rest ≡ reply r ++ more) × (length more < PIECE_BYTES)

-- The end of a run that read these bytes. `AtEnd` states that it found the end of the input. A writer that
-- fails holds a prefix of the lines of the last reply.
abbrev pub Ended : Option Method → List ℕ → Type 0 → Option (List ℕ) → Option (List ℕ) → ShowEnd → Type 0
Ended method read AtEnd held holds (Done refused) = (rs : List ReplyBytes) × Wrote method read held holds rs [] [] × (refused ≡ has_refusal rs) × AtEnd
Ended method read AtEnd held holds (Malformed f) =
    (rs : List ReplyBytes) × (rest : List ℕ) × Wrote method read held holds rs rest [] × IsReplyFaultOf (length (frames rs)) rest f
    × (f.why ≡ EndOfInput → AtEnd) × IsPrompt read
Ended method read AtEnd held holds BadBody = (rs : List ReplyBytes) × (r : ReplyBytes) × (rest : List ℕ) × IsLast rest r × IsBad method r
    × Wrote method read held holds rs rest (first_line code.Ok r)
Ended method read AtEnd held holds ReadFailed = (rs : List ReplyBytes) × (rest : List ℕ) × Wrote method read held holds rs rest [] × IsUnfinished rest
Ended method read AtEnd held holds WriteFailed = (rs : List ReplyBytes) × (r : ReplyBytes) × (rest : List ℕ) × (lines : List ℕ) × (part : List ℕ)
    × IsLast rest r × AreLinesOf method r lines × IsPrefix part lines × Wrote method read held holds rs rest part
Ended method read AtEnd held holds NoMemory = (rs : List ReplyBytes) × (rest : List ℕ) × Wrote method read held holds rs rest []
    × ((read ≡ []) ⊎ ((r : ReplyBytes) × IsLast rest r))

-- A run over a reader and a writer.
abbrev pub Shows : Option Method → Option (List ℕ) → Option (List ℕ) → Option (List ℕ) → Option (List ℕ) → ShowEnd → Type 0
Shows method unread left held holds end = (read : List ℕ) × Consumes unread left read × Ended method read (IsAtEnd left) held holds end
