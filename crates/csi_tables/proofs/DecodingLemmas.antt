-- Reading the written bytes of keys and of parameters.
use Rattle.std.proofs.Common.{◌≡◌, ◌∙◌, refl, sym, ap, arith, ℕ, ℤ, zero, suc, ◌<◌, pos, Bool, true, false, List, [], ◌∷◌, map, length, get_or, Option, Some, None, Result, Ok, cond}
use Rattle.std.specs.FinMap.{empty}
use Rattle.csi_types.specs.Checks.{is_known_mode}
use Rattle.csi_types.specs.Maps.{TextMap}
use Rattle.csi_types.specs.declared.capability.Access.{Access}
use Rattle.csi_types.specs.declared.capability.Access.TheVariants as access
use Rattle.csi_types.specs.declared.capability.Capability.{Capability}
use Rattle.csi_types.specs.declared.method.Method.TheVariants.{CreateVolume}
use Rattle.csi_types.specs.declared.requests.CreateVolume as message
use Rattle.csi_types.specs.declared.requests.Request.{Request}
use Rattle.csi_types.specs.declared.requests.Request.TheVariants.{Create}
use Rattle.csi_codec.specs.Reading.{read_request}
use Rattle.csi_keeper.specs.Capability.{access_of, capability_of, key_of, key_with}
use Rattle.csi_keeper.specs.declared.capability.CapKey.{CapKey}
use Rattle.csi_keeper.specs.declared.capability.Kind.{Kind}
use Rattle.csi_keeper.specs.declared.capability.Kind.TheVariants.{Block, Mount}
use Rattle.csi_columns.specs.facts.Keys.{some_key}
use Rattle.csi_columns.specs.Encoding.{with_caps, with_params, caps_bytes, params_bytes, AreKnown, FitCaps, FitParams, ReadsBack}

-- ---- the key that a capability was made from

kind_back : Access → Kind
kind_back access.Missing = Block
kind_back access.Block = Block
kind_back (access.Mount m) = Mount m.fs_type

mode_back : Option ℤ → ℕ
mode_back (Some (pos n)) = n
mode_back _ = 0

key_back : Capability → CapKey
key_back c = record { kind = kind_back c.access; mode = mode_back c.mode }

back_kind : (k : Kind) → kind_back (access_of k) ≡ k
unfolding kind_back
back_kind Block = refl
back_kind (Mount t) = refl

back_key : (k : CapKey) → key_back (capability_of k) ≡ k
unfolding key_back mode_back
back_key k = λ i. record { kind = back_kind k.kind i; mode = k.mode }

back_keys : (ks : List CapKey) → map key_back (map capability_of ks) ≡ ks
back_keys [] = refl
back_keys (k ∷ ks) = ap (λ j. j ∷ map key_back (map capability_of ks)) (back_key k) ∙ ap (λ js. k ∷ js) (back_keys ks)

-- ---- keys and parameters in bytes, as functions of the bytes

keys_of : Result Request ℕ → List CapKey
keys_of (Ok (Create v)) = map key_back v.capabilities
keys_of _ = []

params_of : Result Request ℕ → TextMap × TextMap
params_of (Ok (Create v)) = (v.parameters, v.mutable)
params_of _ = (empty, empty)

pub keys_in : List ℕ → List CapKey
keys_in bytes = keys_of (read_request CreateVolume bytes)

pub params_in : List ℕ → TextMap × TextMap
params_in bytes = params_of (read_request CreateVolume bytes)

pub keys_back : ReadsBack → (ks : List CapKey) → FitCaps ks → keys_in (caps_bytes ks) ≡ ks
unfolding caps_bytes FitCaps keys_in keys_of
keys_back back ks fit = ap keys_of (back (with_caps ks) fit) ∙ back_keys ks

pub params_back : ReadsBack → (p m : TextMap) → FitParams p m → params_in (params_bytes p m) ≡ (p, m)
unfolding params_bytes FitParams params_in params_of
params_back back p m fit = ap params_of (back (with_params p m) fit)

-- ---- bytes that the program reads

same_keys : (ks js : List CapKey) → map Some js ≡ map key_of (map capability_of ks) → js ≡ ks
same_keys [] [] e = refl
same_keys [] (j ∷ js) e = absurd (cc)
same_keys (k ∷ ks) [] e = absurd (cc)
same_keys (k ∷ ks) (j ∷ js) e =
    let first : Some j ≡ key_of (capability_of k) = cc in
    let rest : map Some js ≡ map key_of (map capability_of ks) = cc in
    ap (λ x. x ∷ js) (some_key (is_known_mode (Some (pos k.mode))) k j (sym first)) ∙ ap (λ xs. k ∷ xs) (same_keys ks js rest)

capabilities_of : Request → List Capability
capabilities_of (Create v) = v.capabilities
capabilities_of _ = []

parameters_of : Request → TextMap × TextMap
parameters_of (Create v) = (v.parameters, v.mutable)
parameters_of _ = (empty, empty)

-- reading the bytes of a request gives that request
made_of : (bytes : List ℕ) (v : message.CreateVolume) (r : Request) → read_request CreateVolume bytes ≡ Ok (Create v) → read_request CreateVolume bytes ≡ Ok r → Create v ≡ r
made_of bytes v r one other = let both = sym one ∙ other in cc

pub caps_read : ReadsBack → (bytes : List ℕ) (v : message.CreateVolume) (js : List CapKey) → read_request CreateVolume bytes ≡ Ok (Create v) → map Some js ≡ map key_of v.capabilities
    → (ks : List CapKey) → FitCaps ks → bytes ≡ caps_bytes ks → js ≡ ks
unfolding caps_bytes FitCaps capabilities_of
caps_read back bytes v js read keys ks fit is =
    let same = made_of bytes v (with_caps ks) read (ap (read_request CreateVolume) is ∙ back (with_caps ks) fit) in
    same_keys ks js (keys ∙ ap (λ r. map key_of (capabilities_of r)) same)

pub params_read : ReadsBack → (bytes : List ℕ) (v : message.CreateVolume) → read_request CreateVolume bytes ≡ Ok (Create v) → (p m : TextMap) → FitParams p m → bytes ≡ params_bytes p m
    → ◌≡◌ {A = TextMap × TextMap} (v.parameters, v.mutable) (p, m)
unfolding params_bytes FitParams parameters_of
params_read back bytes v read p m fit is =
    let same = made_of bytes v (with_params p m) read (ap (read_request CreateVolume) is ∙ back (with_params p m) fit) in
    ap parameters_of same

-- ---- bytes that the program does not read

known_key : (b : Bool) (k : CapKey) → b ≡ true → key_with (access_of k.kind) (cond b (Some k.mode) None) ≡ Some k
known_key false k e = absurd (cc)
known_key true k e = go k.kind refl
  where
    go : (d : Kind) → k.kind ≡ d → key_with (access_of d) (Some k.mode) ≡ Some k
    go Block is = let same : record { kind = Block; mode = k.mode } ≡ k = (λ i. record { kind = sym is i; mode = k.mode }) in ap Some same
    go (Mount t) is = let same : record { kind = Mount t; mode = k.mode } ≡ k = (λ i. record { kind = sym is i; mode = k.mode }) in ap Some same

known_keys : (ks : List CapKey) → AreKnown ks → map Some ks ≡ map key_of (map capability_of ks)
known_keys [] known = refl
known_keys (k ∷ ks) known =
    ap (λ x. x ∷ map Some ks) (sym (known_key (is_known_mode (Some (pos k.mode))) k known.0))
    ∙ ap (λ xs. key_of (capability_of k) ∷ xs) (known_keys ks known.1)

-- a capability that has no key
pub no_key : (cs : List Capability) (i : ℕ) (d : Capability) → i < length cs → key_of (get_or cs i d) ≡ None → (ks : List CapKey) → map Some ks ≡ map key_of cs → ⊥
no_key [] i d low none ks same = omega (arith, low)
no_key (c ∷ cs) i d low none [] same = cc
no_key (c ∷ cs) zero d low none (k ∷ ks) same = let first : Some k ≡ key_of c = cc in cc
no_key (c ∷ cs) (suc i) d low none (k ∷ ks) same = no_key cs i d (omega (arith, low)) none ks (cc)

pub caps_not_read : ReadsBack → (bytes : List ℕ) → ((v : message.CreateVolume) → read_request CreateVolume bytes ≡ Ok (Create v) → ⊥) → (ks : List CapKey) → FitCaps ks → bytes ≡ caps_bytes ks → ⊥
unfolding caps_bytes FitCaps
caps_not_read back bytes none ks fit is = none _ (ap (read_request CreateVolume) is ∙ back (with_caps ks) fit)

pub caps_without_keys : ReadsBack → (bytes : List ℕ) (v : message.CreateVolume) → read_request CreateVolume bytes ≡ Ok (Create v) → ((js : List CapKey) → map Some js ≡ map key_of v.capabilities → ⊥)
    → (ks : List CapKey) → FitCaps ks → AreKnown ks → bytes ≡ caps_bytes ks → ⊥
unfolding caps_bytes FitCaps capabilities_of
caps_without_keys back bytes v read none ks fit known is =
    let same = made_of bytes v (with_caps ks) read (ap (read_request CreateVolume) is ∙ back (with_caps ks) fit) in
    none ks (known_keys ks known ∙ ap (λ r. map key_of (capabilities_of r)) (sym same))

pub params_not_read : ReadsBack → (bytes : List ℕ) → ((v : message.CreateVolume) → read_request CreateVolume bytes ≡ Ok (Create v) → ⊥) → (p m : TextMap) → FitParams p m → bytes ≡ params_bytes p m → ⊥
unfolding params_bytes FitParams
params_not_read back bytes none p m fit is = none _ (ap (read_request CreateVolume) is ∙ back (with_params p m) fit)
