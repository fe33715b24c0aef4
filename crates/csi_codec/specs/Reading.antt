-- The meaning of a message's bytes, as a function: its fields are read from the left while they are good.
-- A law ties it to the relations of `Methods`, which say what bytes encode and fix no order of reading.
use Rattle.std.specs.Prelude.{◌≡◌, ℕ, zero, suc, ◌-◌, Bool, true, List, [], ◌∷◌, length, Result, Ok, Err, MatchResult, ◌==◌, if◌then◌else◌}
use Rattle.std.specs.Option.{option_map_or}
use Rattle.std.specs.Result.{IsOk}
use Rattle.std.specs.Str.{is_utf8}
use Rattle.csi_types.specs.declared.method.Method.{Method}
use Rattle.csi_types.specs.declared.requests.CreateVolume.{CreateVolume}
use Rattle.csi_types.specs.declared.requests.Request.{Request}
use Rattle.csi_types.specs.declared.requests.Request.TheVariants as request
use Rattle.csi_types.specs.declared.responses.Response.{Response}
use Rattle.pbwire.specs.declared.field.WireWhy.{WireWhy}
use Rattle.pbwire.specs.Wire.{WireField}
use Rattle.pbwire.specs.Reading.{field_at}
use Rattle.pbmessage.specs.declared.message.DecodeFault.{DecodeFault}
use Rattle.pbmessage.specs.declared.message.DecodeFault.TheVariants as fault
use Rattle.pbmessage.specs.Views.{Views, payload, value_of}
use Rattle.pbmessage.specs.Schema.{Schema, AnyPayload, TextAt, MessageAt}
use Rattle.csi_codec.specs.Methods.{request_schema, request_in, MeansRequest, IsNoRequest, response_schema, response_in, MeansResponse, IsNoResponse}

-- ---- the prefix of fields that pass a test

-- the fields that were read, and the bytes after them
abbrev pub Scan : Type 0
Scan = List WireField × List ℕ

-- a field that passes is put before the others; a field that does not pass, and bytes that are no field, end
-- the scan
abbrev pub scan_from : (WireField → Bool) → (List ℕ → Scan) → List ℕ → Result (WireField × List ℕ) WireWhy → Scan
scan_from passes others bytes (Ok x) = if passes x.0 then (x.0 ∷ (others x.1).0, (others x.1).1) else ([], bytes)
scan_from passes others bytes (Err why) = ([], bytes)

-- the scan of at most `k` fields
unfoldable pub scan : (WireField → Bool) → ℕ → List ℕ → Scan
scan passes zero bytes = ([], bytes)
scan passes (suc k) bytes = scan_from passes (λ rest. scan passes k rest) bytes (field_at bytes)

-- ---- good fields, as a test

-- all of the bytes were read
abbrev pub is_whole : Scan → Bool
is_whole s = length s.1 == 0

abbrev pub passes_field : (ℕ → List ℕ → Bool) → WireField → Bool
passes_field passes e = option_map_or (passes e.number) (payload e.part) true

-- the payload is good in a field with this number
unfoldable pub passes : Schema → ℕ → List ℕ → Bool
passes AnyPayload k p = true
passes (TextAt n others) k p = if k == n then is_utf8 p else passes others k p
passes (MessageAt n inner others) k p = if k == n then is_whole (scan (passes_field (passes inner)) (length p) p) else passes others k p

-- ---- messages

-- the value of the fields if all bytes were read, and otherwise the number of bytes that were read
abbrev pub value_or_offset : {V : Type 0} → (Views → V) → ℕ → Scan → Result V ℕ
value_or_offset of len s = if is_whole s then Ok (value_of of s.0) else Err (len - length s.1)

unfoldable pub read_message : {V : Type 0} → Schema → (Views → V) → List ℕ → Result V ℕ
read_message schema of bytes = value_or_offset of (length bytes) (scan (passes_field (passes schema)) (length bytes) bytes)

-- the request of this method that the bytes mean, or the offset of their first fault
unfoldable pub read_request : Method → List ℕ → Result Request ℕ
read_request m bytes = read_message (request_schema m) (request_in m) bytes

-- as `read_request`, for the response of this method
unfoldable pub read_response : Method → List ℕ → Result Response ℕ
read_response m bytes = read_message (response_schema m) (response_in m) bytes

-- the bytes mean this request, or they mean no request and this is the offset of their first fault
abbrev pub IsRead : Method → List ℕ → Result Request ℕ → Type 0
IsRead m bytes r = MatchResult r (MeansRequest m bytes) (IsNoRequest m bytes)

abbrev pub IsReadResponse : Method → List ℕ → Result Response ℕ → Type 0
IsReadResponse m bytes r = MatchResult r (MeansResponse m bytes) (IsNoResponse m bytes)

-- The result of decoding, from the meaning of the bytes: lack of memory is reported only for bytes that
-- mean a value.
abbrev pub Decodes : {V : Type 0} → Result V ℕ → Result V DecodeFault → Type 0
Decodes read (Ok v) = read ≡ Ok v
Decodes read (Err (fault.Malformed at)) = read ≡ Err at
Decodes read (Err fault.NoMemory) = IsOk read

-- the result of decoding a CreateVolumeRequest, as a result of decoding a request
abbrev pub as_create : Result CreateVolume DecodeFault → Result Request DecodeFault
as_create (Ok message) = Ok (request.Create message)
as_create (Err fault) = Err fault
