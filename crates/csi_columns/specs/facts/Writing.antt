-- Keys and parameters written field by field are the encoding of a request with these fields alone.
use Rattle.std.proofs.Common.{◌≡◌, ◌∙◌, refl, sym, ap, subst, arith, ℕ, List, [], ◌++◌, map, Ok}
use Rattle.std.proofs.lemmas.List.{append-nil, nil_from_length}
use Rattle.std.proofs.lemmas.Str.{IsUtf8-nil}
use Rattle.std.specs.Cmp.Lexicographic.{slice_cmp}
use Rattle.std.specs.FinMap.{entries, empty, len-entries, len-empty}
use Rattle.std.specs.Ordering.{nat_cmp}
use Rattle.pbwire.specs.Wire.{WireField}
use Rattle.pbwire.specs.Writing.{spellings}
use Rattle.csi_types.specs.Maps.{TextMap}
use Rattle.csi_types.specs.declared.capability.Capability.{Capability}
use Rattle.csi_types.specs.declared.method.Method.TheVariants.{CreateVolume}
use Rattle.pbmessage.specs.Canon.{bytes_of, canon_map_entry, map_row, messages_row, payload_fields, row_fields, spelled, text_row}
use Rattle.pbmessage.specs.Canon.{FitsMap, FitsMapEntry, FitsMessages, FitsText}
use Rattle.pbmessage.specs.facts.Writing.{wrote_two}
use Rattle.csi_codec.specs.Methods.{request_bytes, FitsRequest}
use Rattle.csi_codec.specs.Reading.{read_request}
use Rattle.csi_codec.specs.messages.Capability.{canon_capability, canon_mount, FitsCapabilities}
use Rattle.csi_keeper.specs.Capability.{capability_of}
use Rattle.csi_keeper.specs.declared.capability.CapKey.{CapKey}
use Rattle.csi_columns.specs.Encoding.{create_with, with_params, caps_bytes, params_bytes, FitCaps, FitParams, ReadsBack}

-- ---- a field that is left out

no_entries : entries (empty {K = List ℕ} {X = List ℕ} {R = slice_cmp nat_cmp}) ≡ []
no_entries = nil_from_length _ (sym (len-entries empty) ∙ len-empty (slice_cmp nat_cmp) (List ℕ))

no_map : (k : ℕ) → row_fields (map_row k empty) ≡ []
unfolding row_fields
no_map k =
    let row = λ (es : List (List ℕ × List ℕ)). payload_fields k (spelled canon_map_entry es) in
    ap row no_entries

no_map_fits : FitsMap empty
no_map_fits =
    let fits = λ (es : List (List ℕ × List ℕ)). FitsMessages FitsMapEntry canon_map_entry es in
    subst fits (sym no_entries) tt

no_text_fits : FitsText []
no_text_fits = (IsUtf8-nil, omega arith)

-- ---- the fields of a request that has only capabilities and parameters

fields_alone : (xs a b c : List WireField) → b ≡ [] → ((((xs ++ a) ++ b) ++ []) ++ []) ++ c ≡ (xs ++ a) ++ c
fields_alone xs a b c none =
    let left_out = append-nil (xs ++ a) in
    rw none (rw left_out (rw left_out (rw left_out refl)))

-- the capabilities
caps_fields : List Capability → List WireField
caps_fields cs = row_fields (messages_row canon_capability 3 cs)

create_bytes : (cs : List Capability) (p m : TextMap)
    → request_bytes (create_with cs p m)
    ≡ spellings ((caps_fields cs ++ row_fields (map_row 4 p)) ++ row_fields (map_row 8 m))
unfolding request_bytes row_fields caps_fields
create_bytes cs p m =
    let parameters = row_fields (map_row 4 p) in
    let secrets = row_fields (map_row 5 empty) in
    ap spellings (fields_alone (caps_fields cs) parameters secrets (row_fields (map_row 8 m)) (no_map 5))

create_fits : (cs : List Capability) (p m : TextMap)
    → FitsCapabilities cs → FitsMap p → FitsMap m → FitsRequest (create_with cs p m)
unfolding FitsRequest
create_fits cs p m caps params mutable = (no_text_fits, tt, caps, params, no_map_fits, tt, mutable)

-- ---- keys

-- a mount that has only the type of its file system
pub mount_alone : (t : List ℕ)
    → bytes_of (canon_mount (record { fs_type = t; flags = []; group = [] }))
    ≡ spellings (row_fields (text_row 1 t))
unfolding row_fields
mount_alone t =
    let fs_type = row_fields (text_row 1 t) in
    ap spellings (append-nil (fs_type ++ []) ∙ append-nil fs_type)

pub caps_spelled : (ks : List CapKey)
    → caps_bytes ks ≡ spellings (row_fields (messages_row canon_capability 3 (map capability_of ks)))
unfolding caps_bytes caps_fields
caps_spelled ks =
    let caps = caps_fields (map capability_of ks) in
    let alone : (caps ++ row_fields (map_row 4 empty)) ++ row_fields (map_row 8 empty) ≡ caps =
    rw (no_map 4) (rw (no_map 8) (append-nil (caps ++ []) ∙ append-nil caps)) in
    create_bytes (map capability_of ks) empty empty ∙ ap spellings alone

pub caps_fitting : (ks : List CapKey) → FitsCapabilities (map capability_of ks) → FitCaps ks
unfolding FitCaps
caps_fitting ks fits = create_fits (map capability_of ks) empty empty fits no_map_fits no_map_fits

-- ---- parameters

pub params_spelled : (p m : TextMap)
    → params_bytes p m ≡ spellings (row_fields (map_row 4 p)) ++ spellings (row_fields (map_row 8 m))
unfolding params_bytes row_fields caps_fields
params_spelled p m = create_bytes [] p m ∙ sym (wrote_two [] (row_fields (map_row 4 p)) (row_fields (map_row 8 m)))

pub params_fitting : (p m : TextMap) → FitsMap p → FitsMap m → FitParams p m
unfolding FitParams
params_fitting p m params mutable = create_fits [] p m tt params mutable

pub ruleset params_written = (params_spelled, params_fitting)

-- no bytes mean no parameters
pub none_read : ReadsBack → (bytes : List ℕ) → bytes ≡ [] → read_request CreateVolume bytes ≡ Ok (with_params empty empty)
unfolding params_bytes FitParams
none_read back bytes none =
    let spelled : params_bytes empty empty ≡ [] = params_spelled empty empty ∙ rw (no_map 4) (rw (no_map 8) refl) in
    ap (read_request CreateVolume) (none ∙ sym spelled) ∙ back (with_params empty empty) (params_fitting empty empty no_map_fits no_map_fits)
