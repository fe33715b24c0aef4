-- Reading as a function agrees with the relations.
use Rattle.std.proofs.Common.{◌≡◌, ◌≢◌, ℕ, suc, zero, ◌-◌, ◌<◌, ◌≤◌, Bool, true, false, cond, eqb, List, [], ◌∷◌, length, Result, Ok, Err, refl, sym, ap, ◌∙◌, arith}
use Rattle.std.specs.Prelude.{IsUtf8, MatchBool, MatchResult, IfOk, IfErr}
use Rattle.std.specs.List.{AllByRecursion}
use Rattle.std.specs.Str.{is_utf8}
use Rattle.std.proofs.lemmas.Bool.{eqb-true, eqb-false}
use Rattle.std.proofs.lemmas.List.{nil_from_length}
use Rattle.std.proofs.lemmas.Str.{IsUtf8-from_is_utf8, is_utf8-from_IsUtf8}
use Rattle.pbwire.specs.Wire.{WireField, AreFields, Part, Number, Eight, Payload, Four}
use Rattle.pbwire.specs.Reading.{field_at}
use Rattle.csi_types.specs.declared.method.Method.TheVariants as method
use Rattle.csi_types.specs.declared.requests.CreateVolume.{CreateVolume}
use Rattle.csi_types.specs.declared.requests.Request.TheVariants as request
use Rattle.pbmessage.specs.declared.message.DecodeFault.{DecodeFault}
use Rattle.pbmessage.specs.declared.message.DecodeFault.TheVariants as fault
use Rattle.pbmessage.specs.Fields.{AreGood, IsRefusedAt, Means, Refuses}
use Rattle.pbmessage.specs.facts.Laws.{FieldLaws}
use Rattle.pbmessage.specs.Views.{Views, value_of}
use Rattle.pbmessage.specs.Schema.{Schema, AnyPayload, TextAt, MessageAt, Good, GoodField}
use Rattle.csi_codec.specs.Reading.{Scan, scan_from, scan, is_whole, passes_field, passes, value_or_offset, read_message, as_create, Decodes}
use Rattle.csi_codec.specs.Methods.{request_schema, request_in}
use Rattle.csi_codec.specs.messages.VolumeRequests.{create_schema, create_in}
use Rattle.pbmessage.specs.facts.Fields.{Reads, Read, same_read, nothing_read, read_are, one_value}
use Rattle.pbmessage.specs.facts.Offsets.{Stops, not_both, refused, same_offset}

-- the test answers the question
abbrev Answers : Bool → Type 0 → Type 0
Answers b P = (b ≡ true → P) × (P → b ≡ true)

-- good fields were read, and no good field follows
record Scanned (good : WireField → Type 0) (bytes : List ℕ) (s : Scan) : Type 0 where
  pub reads : Reads s.0 bytes s.1
  pub each : AllByRecursion good s.0
  pub within : length s.1 ≤ length bytes
  pub ends : (e : WireField) (mid : List ℕ) → field_at s.1 ≡ Ok (e, mid) → good e → ⊥

ended : (good : WireField → Type 0) (bytes : List ℕ) → ((e : WireField) (mid : List ℕ) → field_at bytes ≡ Ok (e, mid) → good e → ⊥) → Scanned good bytes ([], bytes)
ended good bytes none = record { reads = refl; each = tt; within = omega arith; ends = none }

scan_is : FieldLaws → (good : WireField → Type 0) (test : WireField → Bool) → ((e : WireField) → Answers (test e) (good e)) → (k : ℕ) (bytes : List ℕ) → length bytes ≤ k → Scanned good bytes (scan test k bytes)
unfolding scan
scan_is l good test decides zero bytes le = ended good bytes (λ e mid is g. nothing_read bytes (e, mid) (nil_from_length bytes (omega arith)) is)
scan_is l good test decides (suc k) bytes le = by (λ rest le. scan_is l good test decides k rest le) (field_at bytes) refl
  where
    goes_on : ((rest : List ℕ) → length rest ≤ k → Scanned good rest (scan test k rest)) → (e : WireField) (rest : List ℕ) → field_at bytes ≡ Ok (e, rest) → (b : Bool) → test e ≡ b
        → Scanned good bytes (cond b (e ∷ (scan test k rest).0, (scan test k rest).1) ([], bytes))
    goes_on others e rest is true passed =
        let less : length rest < length bytes = l.shorter bytes rest e is in
        let s = others rest (omega arith) in
        let w = s.within in
        record { reads = (rest, is, s.reads); each = ((decides e).0 passed, s.each); within = omega arith; ends = s.ends }
    goes_on others e rest is false failed = ended good bytes (λ f mid other g.
        let same : f ≡ e = ap (λ (p : WireField × List ℕ). p.0) (same_read (f, mid) (e, rest) (sym other ∙ is)) in
        absurd (let c : false ≡ true = sym failed ∙ ap test (sym same) ∙ (decides f).1 g in cc))

    by : ((rest : List ℕ) → length rest ≤ k → Scanned good rest (scan test k rest)) → (r : Read) → field_at bytes ≡ r → Scanned good bytes (scan_from test (λ rest. scan test k rest) bytes r)
    by others (Ok x) is = goes_on others x.0 x.1 is (test x.0) refl
    by others (Err w) is = ended good bytes (λ e mid other g. absurd (let c : Err w ≡ Ok (e, mid) = sym is ∙ other in cc))

-- ---- the bytes already scanned

are_all : FieldLaws → (good : WireField → Type 0) (bytes : List ℕ) (s : Scan) → Scanned good bytes s → is_whole s ≡ true → AreFields s.0 bytes
are_all l good bytes s is e = read_are l s.0 bytes (ends_at s.0 bytes s.1 (nil_from_length s.1 (eqb-true _ _ e)) is.reads)
  where
    ends_at : (es : List WireField) (bytes rest : List ℕ) → rest ≡ [] → Reads es bytes rest → Reads es bytes []
    ends_at [] bytes rest none r = r ∙ none
    ends_at (e ∷ es) bytes rest none r = (r.0, r.1, ends_at es r.0 rest none r.2)

stops_at : (good : WireField → Type 0) (bytes : List ℕ) (s : Scan) → Scanned good bytes s → s.1 ≢ [] → Stops good bytes (length bytes - length s.1)
stops_at good bytes s is more =
    let w = is.within in
    record { fields = s.0; rest = s.1; prefix = is.reads; each = is.each; offset = omega arith; more = more; bad = is.ends }

whole_answers : FieldLaws → (good : WireField → Type 0) (bytes : List ℕ) (s : Scan) → Scanned good bytes s → Answers (is_whole s) (AreGood good bytes)
whole_answers l good bytes s is = (
  λ e. record { fields = s.0; whole = are_all l good bytes s is e; each = is.each },
  λ g. by (is_whole s) refl g,
)
  where
    by : (b : Bool) → is_whole s ≡ b → AreGood good bytes → b ≡ true
    by true e g = refl
    by false e g = absurd (not_both l good bytes (length bytes - length s.1) (stops_at good bytes s is (λ none. eqb-false _ _ e (ap length none))) g)

-- ---- good payloads

text_answers : (p : List ℕ) → Answers (is_utf8 p) (IsUtf8 p)
text_answers p = (IsUtf8-from_is_utf8 p, is_utf8-from_IsUtf8 p)

either : (b : Bool) (s t : Bool) (P Q : Type 0) → Answers s P → Answers t Q → Answers (cond b s t) (MatchBool b P Q)
either true s t P Q here there = here
either false s t P Q here there = there

field_answers : (good : ℕ → List ℕ → Type 0) (test : ℕ → List ℕ → Bool) → ((k : ℕ) (p : List ℕ) → Answers (test k p) (good k p)) → (e : WireField) → Answers (passes_field test e) (GoodField good e)
field_answers good test decides e = by e.number e.part
  where
    by : (k : ℕ) (part : Part) → Answers (passes_field test (record { number = k; part = part })) (GoodField good (record { number = k; part = part }))
    by k (Number n) = (λ t. tt, λ g. refl)
    by k (Eight bytes) = (λ t. tt, λ g. refl)
    by k (Payload bytes) = decides k bytes
    by k (Four bytes) = (λ t. tt, λ g. refl)

passes_answers : FieldLaws → (schema : Schema) (k : ℕ) (p : List ℕ) → Answers (passes schema k p) (Good schema k p)
unfolding passes
passes_answers l AnyPayload k p = (λ t. tt, λ g. refl)
passes_answers l (TextAt n others) k p = either (eqb k n) _ _ _ _ (text_answers p) (passes_answers l others k p)
passes_answers l (MessageAt n inner others) k p =
    either (eqb k n) _ _ _ _
    (whole_answers l (GoodField (Good inner)) p _ (scan_is l (GoodField (Good inner)) (passes_field (passes inner)) (field_answers (Good inner) (passes inner) (passes_answers l inner)) (length p) p (omega arith)))
    (passes_answers l others k p)

-- ---- one outcome

-- two outcomes are never both true, so the outcome that is true is the one that is read
pub read_ok : {V : Type 0} {Is : V → Type 0} {No : ℕ → Type 0} (r : Result V ℕ) (v : V) → ((v w : V) → Is v → Is w → v ≡ w) → ((at : ℕ) → No at → (v : V) → Is v → ⊥) → MatchResult r Is No → Is v → r ≡ Ok v
read_ok (Ok w) v one none found is = ap (λ x. Ok x) (one w v found is)
read_ok (Err at) v one none found is = absurd (none at found v is)

pub read_err : {V : Type 0} {Is : V → Type 0} {No : ℕ → Type 0} (r : Result V ℕ) (at : ℕ) → ((a b : ℕ) → No a → No b → a ≡ b) → ((at : ℕ) → No at → (v : V) → Is v → ⊥) → MatchResult r Is No → No at → r ≡ Err at
read_err (Ok v) at one none found is = absurd (none at is v found)
read_err (Err a) at one none found is = ap (λ (n : ℕ). Err n) (one a at found is)

-- ---- messages

-- the bytes mean the value that is read, or they mean no value and are refused at the offset that is read
abbrev pub Reading : {V : Type 0} → Schema → (Views → V) → List ℕ → Result V ℕ → Type 0
Reading schema of bytes r = MatchResult r (Means (GoodField (Good schema)) (value_of of) bytes) (IsRefusedAt (GoodField (Good schema)) bytes)

pub message_read : {V : Type 0} → FieldLaws → (schema : Schema) (of : Views → V) (bytes : List ℕ) → Reading schema of bytes (read_message schema of bytes)
unfolding read_message
message_read {V} l schema of bytes = by (scan_is l good (passes_field (passes schema)) (field_answers (Good schema) (passes schema) (passes_answers l schema)) (length bytes) bytes (omega arith))
  where
    good : WireField → Type 0
    good = GoodField (Good schema)

    from : (s : Scan) → Scanned good bytes s → (b : Bool) → is_whole s ≡ b → Reading schema of bytes (cond b (Ok (value_of of s.0)) (Err (length bytes - length s.1)))
    from s is true e = record { fields = s.0; whole = are_all l good bytes s is e; each = is.each; is = refl }
    from s is false e =
        refused l good bytes (length bytes - length s.1) (stops_at good bytes s is (λ none. eqb-false _ _ e (ap length none)))

    by : {s : Scan} → Scanned good bytes s → Reading schema of bytes (value_or_offset of (length bytes) s)
    by {s} is = from s is (is_whole s) refl

-- decoding returns the value that the bytes mean
pub decodes : {V : Type 0} → FieldLaws → (schema : Schema) (of : Views → V) (bytes : List ℕ) (r : Result V DecodeFault) → IfOk r (Means (GoodField (Good schema)) (value_of of) bytes) → IfErr r (Refuses (GoodField (Good schema)) bytes) → Decodes (read_message schema of bytes) r
decodes {V} l schema of bytes r ok err = by r ok err (read_message schema of bytes) (message_read l schema of bytes)
  where
    good : WireField → Type 0
    good = GoodField (Good schema)

    by : (r : Result V DecodeFault) → IfOk r (Means good (value_of of) bytes) → IfErr r (Refuses good bytes) → (x : Result V ℕ) → Reading schema of bytes x → Decodes x r
    by (Ok v) means u (Ok w) is = ap (λ (x : V). Ok x) (one_value l is means)
    by (Ok v) means u (Err at) is = absurd (is.1 (record { fields = means.fields; whole = means.whole; each = means.each }))
    by (Err (fault.Malformed at)) u none (Ok w) is = absurd (none.1 (record { fields = is.fields; whole = is.whole; each = is.each }))
    by (Err (fault.Malformed at)) u none (Err k) is = ap (λ (n : ℕ). Err n) (same_offset is.0 none.0)
    by (Err fault.NoMemory) u some (Ok w) is = refl
    by (Err fault.NoMemory) u some (Err k) is = absurd (is.1 some)

-- a CreateVolumeRequest alone is read as itself
pub creates : FieldLaws → (bytes : List ℕ) (r : Result CreateVolume DecodeFault) → IfOk r (Means (GoodField (Good create_schema)) (value_of create_in) bytes) → IfErr r (Refuses (GoodField (Good create_schema)) bytes)
    → Decodes (read_message (request_schema method.CreateVolume) (request_in method.CreateVolume) bytes) (as_create r)
creates l bytes (Ok message) means u = decodes l (request_schema method.CreateVolume) (request_in method.CreateVolume) bytes (Ok (request.Create message))
    (record { fields = means.fields; whole = means.whole; each = means.each; is = ap (λ (m : CreateVolume). request.Create m) means.is }) u
creates l bytes (Err fault) u refused = decodes l (request_schema method.CreateVolume) (request_in method.CreateVolume) bytes (Err fault) u refused
