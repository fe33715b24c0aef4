-- The lines that the client prints for a reply.
use Rattle.std.specs.Prelude.{ℕ, ◌==◌, List, [], ◌∷◌, ◌++◌, Option, Some, None, Result, Ok, Err, codes, decimal, if◌then◌else◌}
use Rattle.hex.specs.Hex.{encode_lower}
use Rattle.csi_codec.specs.Reading.{read_response}
use Rattle.csi_types.specs.Codes.{name_of}
use Rattle.csi_types.specs.declared.code.Code.{Code}
use Rattle.csi_types.specs.declared.method.Method.{Method}
use Rattle.csi_types.specs.declared.responses.Response.{Response}
use Rattle.envelope.specs.Envelope.{ReplyBytes}
use Rattle.csi_client.specs.Lines.{lines}

abbrev pub or_dash : List ℕ → List ℕ
or_dash [] = codes "-"
or_dash (b ∷ bs) = b ∷ bs

-- the text of a refusal, or the body of a call that was done; no reply has both
abbrev pub content : List ℕ → List ℕ → List ℕ
content text [] = or_dash text
content text (b ∷ bs) = encode_lower (b ∷ bs)

-- the number and the name of the status, and the body or the text
abbrev pub first_line : Code → ReplyBytes → List ℕ
first_line code r = decimal r.status ++ codes " " ++ name_of code ++ codes " " ++ content r.text r.body ++ codes "\n"

abbrev pub read_lines : Result Response ℕ → List ℕ
read_lines (Ok response) = lines response
read_lines (Err at) = []

-- the lines of the body of a call that was done, if the method is known
abbrev pub body_lines : Option Method → ReplyBytes → List ℕ
body_lines None r = []
body_lines (Some method) r = if r.status == 0 then read_lines (read_response method r.body) else []
