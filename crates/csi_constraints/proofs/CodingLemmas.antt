-- Reading the canonical bytes of keys and of parameters.
use Rattle.std.proofs.Common.{◌≡◌, ◌∙◌, refl, sym, ap, subst, ℕ, ◌≤◌, pos, nat_le, bytes_eq, List, [], ◌∷◌, map, length, Bool, true, false, not, cond, ◌&&◌, ◌||◌, ◌==◌, Option, Some, None, Result, Ok, Err, arith}
use Rattle.std.specs.Bool.{Decides}
use Rattle.std.specs.FinMap.{empty, empty_of_len, len, len-empty}
use Rattle.std.specs.List.{list_all}
use Rattle.std.specs.Option.{option_and_then, option_map}
use Rattle.std.specs.Result.{IsOk}
use Rattle.std.proofs.lemmas.Bool.Decides.{nat_tests}
use Rattle.std.proofs.lemmas.Slice.Eq.{bytes_eq-Decides}
use Rattle.csi_types.specs.Checks.{is_known_mode, map_bytes}
use Rattle.csi_types.specs.Maps.{TextMap}
use Rattle.csi_types.specs.declared.limits.TheConstants.{MAX_MAP_BYTES}
use Rattle.csi_types.specs.declared.method.Method.TheVariants as method
use Rattle.csi_types.specs.declared.requests.CreateVolume as message
use Rattle.csi_types.specs.declared.requests.Request.{Request}
use Rattle.csi_codec.specs.Reading.{read_request}
use Rattle.csi_keeper.specs.Texts.{Text, text_cmp}
use Rattle.csi_keeper.specs.Capability.{access_of, capability_of, is_supported_key, key_of, key_with}
use Rattle.csi_keeper.specs.Invariant.{AreKeys}
use Rattle.csi_keeper.specs.facts.Capability.{supported_known}
use Rattle.csi_keeper.specs.declared.capability.CapKey.{CapKey}
use Rattle.csi_keeper.specs.declared.capability.Kind.{Kind}
use Rattle.csi_keeper.specs.declared.capability.Kind.TheVariants.{Block, Mount}
use Rattle.csi_sql.specs.declared.formats.TheConstants.{FIRST_FORMAT}
use Rattle.csi_columns.specs.facts.Keys.{some_key}
use Rattle.csi_columns.specs.Encoding.{caps_bytes, params_bytes, FitCaps, FitParams, ReadsBack, with_caps, with_params}
use Rattle.csi_constraints.specs.Coding.{MeansMessage, are_keys, are_params, is_small, created, each_key, in_front, key_in, keys_in, message_in, only, params_in, rise}
use Rattle.csi_constraints.specs.Values.{if_passes, is_some_and}
use Rattle.csi_constraints.proofs.OrderLemmas.{both, ordered_rise, parts, rise-ordered}

-- ---- keys and capabilities

-- a key with a known mode is the key of its capability
key_known : (k : CapKey) → is_known_mode (Some (pos k.mode)) ≡ true → key_of (capability_of k) ≡ Some k
key_known k e = ap (λ b. key_with (access_of k.kind) (cond b (Some k.mode) None)) e ∙ go k.kind refl
  where
    go : (d : Kind) → k.kind ≡ d → key_with (access_of k.kind) (Some k.mode) ≡ Some k
    go Block is = ap (λ x. key_with (access_of x) (Some k.mode)) is ∙ (λ i. Some (record { kind = sym is i; mode = k.mode }))
    go (Mount t) is = ap (λ x. key_with (access_of x) (Some k.mode)) is ∙ (λ i. Some (record { kind = sym is i; mode = k.mode }))

pub key_back : (k : CapKey) → is_supported_key k ≡ true → key_of (capability_of k) ≡ Some k
key_back k e = key_known k (supported_known (access_of k.kind) (Some (pos k.mode)) e)

-- the keys of the capabilities of keys are these keys, if each is supported
pub each_back : (ks : List CapKey) → list_all is_supported_key ks ≡ true → each_key (map capability_of ks) ≡ Some ks
each_back [] all = refl
each_back (k ∷ ks) all =
    let p = parts (is_supported_key k) (list_all is_supported_key ks) all in
    ap (λ o. in_front o (each_key (map capability_of ks))) (key_back k p.0) ∙ ap (in_front (Some k)) (each_back ks p.1)

-- the keys of the capabilities of keys are no other keys
pub each_same : (ks js : List CapKey) → each_key (map capability_of ks) ≡ Some js → js ≡ ks
each_same [] js e = let same : [] ≡ js = cc in sym same
each_same (k ∷ ks) js e = go (each_same ks) (key_of (capability_of k)) refl (each_key (map capability_of ks)) refl e
  where
    go : ((is : List CapKey) → each_key (map capability_of ks) ≡ Some is → is ≡ ks) → (o : Option CapKey) → key_of (capability_of k) ≡ o → (r : Option (List CapKey)) → each_key (map capability_of ks) ≡ r → in_front o r ≡ Some js → js ≡ k ∷ ks
    go more None first r rest e = absurd (cc)
    go more (Some j) first None rest e = absurd (cc)
    go more (Some j) first (Some is) rest e =
        let same : j ∷ is ≡ js = cc in
        sym same ∙ ap (λ x. x ∷ is) (some_key (is_known_mode (Some (pos k.mode))) k j first) ∙ ap (λ xs. k ∷ xs) (more is rest)

-- ---- reading

-- ---- the meaning of canonical bytes

itself : (bytes : List ℕ) → bytes_eq bytes bytes ≡ true
itself bytes = (bytes_eq-Decides bytes bytes).1 refl

kept : (ks : List CapKey) (o : Option (List CapKey)) → ((js : List CapKey) → o ≡ Some js → js ≡ ks) → if_passes (λ js. bytes_eq (caps_bytes js) (caps_bytes ks)) o ≡ o
kept ks None same = refl
kept ks (Some js) same = ap (λ b. cond b (Some js) None) (ap (λ xs. bytes_eq (caps_bytes xs) (caps_bytes ks)) (same js refl) ∙ itself (caps_bytes ks))

-- the bytes of keys mean the keys of their capabilities
pub keys_in-caps_bytes : ReadsBack → (ks : List CapKey) → FitCaps ks → keys_in (caps_bytes ks) ≡ each_key (map capability_of ks)
unfolding FitCaps caps_bytes
keys_in-caps_bytes back ks fit =
    ap (λ r. if_passes (λ js. bytes_eq (caps_bytes js) (caps_bytes ks)) (option_and_then (λ v. each_key v.capabilities) (created r))) (back (with_caps ks) fit)
    ∙ kept ks (each_key (map capability_of ks)) (each_same ks)

-- the bytes of parameters mean the parameters
pub params_in-params_bytes : ReadsBack → (m n : TextMap) → FitParams m n → params_in (params_bytes m n) ≡ Some (m, n)
unfolding FitParams params_bytes
params_in-params_bytes back m n fit =
    ap (λ r. if_passes (λ ms. bytes_eq (params_bytes ms.0 ms.1) (params_bytes m n)) (option_map (λ v. (v.parameters, v.mutable)) (created r))) (back (with_params m n) fit)
    ∙ ap (λ b. cond b (Some (m, n)) None) (itself (params_bytes m n))

-- the bytes of one supported key mean that key
pub key_in-caps_bytes : ReadsBack → (k : CapKey) → FitCaps (k ∷ []) → is_supported_key k ≡ true → key_in (caps_bytes (k ∷ [])) ≡ Some k
key_in-caps_bytes back k fit good =
    ap (option_and_then only) (keys_in-caps_bytes back (k ∷ []) fit ∙ each_back (k ∷ []) (both (is_supported_key k) true good refl))

-- ---- the constraints of these values

keys_pass : (ks : List CapKey) → AreKeys ks → are_keys ks ≡ true
keys_pass ks good = both _ _ (both _ _ (some ks good.some) (rise-ordered ks good.ordered)) good.supported
  where
    some : (ks : List CapKey) → 1 ≤ length ks → not (length ks == 0) ≡ true
    some ks low = grind (arith, nat_tests)

pass_keys : (ks : List CapKey) → are_keys ks ≡ true → AreKeys ks
pass_keys ks e =
    let p = parts (not (length ks == 0) && rise ks) (list_all is_supported_key ks) e in
    let q = parts (not (length ks == 0)) (rise ks) p.0 in
    record { ordered = ordered_rise ks q.1; some = some ks q.0; supported = p.1 }
  where
    some : (ks : List CapKey) → not (length ks == 0) ≡ true → 1 ≤ length ks
    some ks e = grind (arith, nat_tests)

pub caps_pass : ReadsBack → (ks : List CapKey) → FitCaps ks → Decides (is_some_and are_keys (keys_in (caps_bytes ks))) (AreKeys ks)
caps_pass back ks fit = (
  λ e. go (each_key (map capability_of ks)) refl (sym (ap (is_some_and are_keys) (keys_in-caps_bytes back ks fit)) ∙ e),
  λ good. ap (is_some_and are_keys) (keys_in-caps_bytes back ks fit ∙ each_back ks good.supported) ∙ keys_pass ks good,
)
  where
    go : (o : Option (List CapKey)) → each_key (map capability_of ks) ≡ o → is_some_and are_keys o ≡ true → AreKeys ks
    go None is e = absurd (cc)
    go (Some js) is e = subst AreKeys (each_same ks js is) (pass_keys js e)

few : (n most : ℕ) → Decides (nat_le n most) (n ≤ most)
few n most = (λ h. grind (arith, nat_tests), λ h. grind (arith, nat_tests))

-- no mutable parameters, if the format has none
unmodified : (format : ℕ) (n : TextMap) → Decides (not (format == FIRST_FORMAT) || len n == 0) (format ≡ FIRST_FORMAT → n ≡ empty)
unmodified format n = (
  λ h is. empty_of_len n (grind (arith, nat_tests, is, h)),
  λ h. go (format == FIRST_FORMAT) refl (λ same. ap len (h same) ∙ len-empty text_cmp Text),
)
  where
    go : (b : Bool) → (format == FIRST_FORMAT) ≡ b → (format ≡ FIRST_FORMAT → len n ≡ 0) → (not b || len n == 0) ≡ true
    go false is h = refl
    go true is h = let none = h (grind (arith, nat_tests, is)) in grind (arith, nat_tests, none)

pub params_pass : ReadsBack → (format : ℕ) (m n : TextMap) → FitParams m n
    → Decides (is_some_and (are_params format) (params_in (params_bytes m n))) ((map_bytes m ≤ MAX_MAP_BYTES) × (map_bytes n ≤ MAX_MAP_BYTES) × (format ≡ FIRST_FORMAT → n ≡ empty))
params_pass back format m n fit =
    let same = ap (is_some_and (are_params format)) (params_in-params_bytes back m n fit) in
    let last = not (format == FIRST_FORMAT) || len n == 0 in (
      λ e.
          let all = parts (is_small m && is_small n) last (sym same ∙ e) in
          let two = parts (is_small m) (is_small n) all.0 in
          ((few (map_bytes m) MAX_MAP_BYTES).0 two.0, (few (map_bytes n) MAX_MAP_BYTES).0 two.1, (unmodified format n).0 all.1),
      λ h. same ∙ both (is_small m && is_small n) last (both (is_small m) (is_small n) ((few (map_bytes m) MAX_MAP_BYTES).1 h.0) ((few (map_bytes n) MAX_MAP_BYTES).1 h.1)) ((unmodified format n).1 h.2),
    )

pub cap_pass : ReadsBack → (k : CapKey) → FitCaps (k ∷ []) → Decides (is_some_and is_supported_key (key_in (caps_bytes (k ∷ [])))) (is_supported_key k ≡ true)
cap_pass back k fit = (
  λ e. go (each_key (map capability_of (k ∷ []))) refl (sym (ap (λ o. is_some_and is_supported_key (option_and_then only o)) (keys_in-caps_bytes back (k ∷ []) fit)) ∙ e),
  λ good. ap (is_some_and is_supported_key) (key_in-caps_bytes back k fit good) ∙ good,
)
  where
    go : (o : Option (List CapKey)) → each_key (map capability_of (k ∷ [])) ≡ o → is_some_and is_supported_key (option_and_then only o) ≡ true → is_supported_key k ≡ true
    go None is e = absurd (cc)
    go (Some js) is e = subst (λ xs. is_some_and is_supported_key (only xs) ≡ true) (each_same (k ∷ []) js is) e
