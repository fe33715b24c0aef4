-- A listing is its entries, in order, and then its token.
use Rattle.std.proofs.Common.{◌≡◌, ◌∙◌, ap, ap₂, sym, refl, ℕ, List, [], ◌∷◌, ◌++◌}
use Rattle.std.proofs.lemmas.Grind.{flat_map-append}
use Rattle.std.proofs.lemmas.List.{append-nil}
use Rattle.pbwire.specs.Wire.{WireField, Payload}
use Rattle.pbwire.specs.Writing.{spelling, spellings}
use Rattle.csi_types.specs.declared.responses.Response.TheVariants as response
use Rattle.csi_types.specs.declared.volume.Entry.{Entry}
use Rattle.pbmessage.specs.Canon.{bytes_of, payload_fields, spelled, present, row_fields}
use Rattle.csi_codec.specs.Methods.{response_bytes}
use Rattle.csi_codec.specs.messages.Volume.{canon_entry}

abbrev pub entry_fields : List Entry → List WireField
entry_fields es = payload_fields 1 (spelled canon_entry es)

abbrev pub token_fields : List ℕ → List WireField
token_fields token = payload_fields 2 (present token)

-- a listing in two parts
in_parts : (es : List Entry) (token : List ℕ) → response_bytes (response.List es token) ≡ spellings (entry_fields es) ++ spellings (token_fields token)
unfolding response_bytes row_fields
in_parts es token = flat_map-append spelling (entry_fields es) (token_fields token)

-- a listing with entries and no token
pub entries_only : (es : List Entry) → response_bytes (response.List es []) ≡ spellings (entry_fields es)
entries_only es = in_parts es [] ∙ append-nil (spellings (entry_fields es))

more_fields : (es : List Entry) (e : Entry) → entry_fields (es ++ e ∷ []) ≡ entry_fields es ++ entry_fields (e ∷ [])
more_fields [] e = refl
more_fields (f ∷ es) e = ap (λ (fs : List WireField). record { number = 1; part = Payload (bytes_of (canon_entry f)) } ∷ fs) (more_fields es e)

pub listing_none : response_bytes (response.List [] []) ≡ []
listing_none = entries_only []

-- a listing with one more entry
pub listing_more : (es : List Entry) (e : Entry)
    → response_bytes (response.List (es ++ e ∷ []) []) ≡ response_bytes (response.List es []) ++ response_bytes (response.List (e ∷ []) [])
listing_more es e =
    entries_only (es ++ e ∷ [])
    ∙ ap spellings (more_fields es e)
    ∙ flat_map-append spelling (entry_fields es) (entry_fields (e ∷ []))
    ∙ ap₂ (λ (xs ys : List ℕ). xs ++ ys) (sym (entries_only es)) (sym (entries_only (e ∷ [])))

-- the token after the entries
pub listing_token : (es : List Entry) (token : List ℕ)
    → response_bytes (response.List es token) ≡ response_bytes (response.List es []) ++ response_bytes (response.List [] token)
listing_token es token = in_parts es token ∙ ap₂ (λ (xs ys : List ℕ). xs ++ ys) (sym (entries_only es)) (sym (in_parts [] token))
