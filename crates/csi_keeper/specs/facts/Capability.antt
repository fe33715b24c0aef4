-- Supported keys, and the keys of a set.
use Rattle.std.proofs.Common.{◌≡◌, ◌∙◌, refl, ap, sym, ℕ, pos, ℤ, ◌==◌, eqb-true, Bool, true, false, not, ◌&&◌, ◌||◌, cond, List, [], ◌∷◌, Option, Some, None}
use Rattle.std.specs.List.{list_all}
use Rattle.std.specs.Option.{option_map}
use Rattle.csi_types.specs.Checks.{is_known_mode, is_supported_access, is_multi_node_writer}
use Rattle.csi_types.specs.declared.capability.Access.{Access}
use Rattle.csi_types.specs.declared.capability.Access.TheVariants as access
use Rattle.csi_keeper.specs.Capability.{access_of, has_key, has_same, is_supported_key, same_key, wider_key}
use Rattle.csi_keeper.specs.Order.{key_exact, keys_tie}
use Rattle.csi_keeper.specs.declared.capability.CapKey.{CapKey}
use Rattle.csi_keeper.specs.declared.capability.Kind.{Kind}
use Rattle.csi_keeper.specs.declared.capability.Kind.TheVariants.{Block, Mount}
use Rattle.csi_keeper.specs.facts.Finite.{none_some, tied}

-- a missing key is in no list
pub has_same_none : (ks : List CapKey) → has_same ks None ≡ false
has_same_none [] = refl
has_same_none (k ∷ ks) = has_same_none ks

both : (a b : Bool) → (a && b) ≡ true → (a ≡ true) × (b ≡ true)
both true b e = (refl, e)
both false b e = absurd (cc)

-- a supported access has a known mode
pub supported_known : (a : Access) (m : Option ℤ) → is_supported_access a m ≡ true → is_known_mode m ≡ true
supported_known access.Missing m e = absurd (cc (e))
supported_known access.Block m e = e
supported_known (access.Mount t) m e = (both (is_known_mode m) (not (is_multi_node_writer m)) e).0

-- a key that is one of some supported keys is supported
same_supported : (ks : List CapKey) (k : CapKey) → has_same ks (Some k) ≡ true → list_all is_supported_key ks ≡ true → is_supported_key k ≡ true
same_supported [] k has all = absurd (cc (has))
same_supported (j ∷ ks) k has all = go (both (is_supported_key j) (list_all is_supported_key ks) all) (same_supported ks k) (same_key k j) refl has
  where
    go : (is_supported_key j ≡ true) × (list_all is_supported_key ks ≡ true)
        → (has_same ks (Some k) ≡ true → list_all is_supported_key ks ≡ true → is_supported_key k ≡ true)
        → (b : Bool) → same_key k j ≡ b → (b || has_same ks (Some k)) ≡ true → is_supported_key k ≡ true
    go two more true t h = ap is_supported_key (key_exact k j (tied _ (sym (keys_tie k j) ∙ t))) ∙ two.0
    go two more false t h = more h two.1

in_mode : (k : CapKey) (m : ℕ) → k.mode ≡ m → is_supported_access (access_of k.kind) (Some (pos m)) ≡ true → is_supported_key k ≡ true
in_mode k m e s = ap (λ n. is_supported_access (access_of k.kind) (Some (pos n))) e ∙ s

in_six : (d : Kind) → is_supported_access (access_of d) (Some (pos 6)) ≡ true
in_six Block = refl
in_six (Mount t) = refl

in_seven : (d : Kind) → is_supported_access (access_of d) (Some (pos 7)) ≡ true
in_seven Block = refl
in_seven (Mount t) = refl

-- a key that has a wider one is supported
wide_supported : (k j : CapKey) → wider_key k ≡ Some j → is_supported_key k ≡ true
wide_supported k j e = go (k.mode == 6) refl (k.mode == 7) refl e
  where
    go : (a : Bool) → (k.mode == 6) ≡ a → (b : Bool) → (k.mode == 7) ≡ b
        → option_map (λ m. record { kind = k.kind; mode = m }) (cond (a || b) (Some 1) None) ≡ Some j → is_supported_key k ≡ true
    go true s b t h = in_mode k 6 (eqb-true _ _ s) (in_six k.kind)
    go false s true t h = in_mode k 7 (eqb-true _ _ t) (in_seven k.kind)
    go false s false t h = absurd (none_some j h)

-- a key that supported keys have is supported
pub had_supported : (ks : List CapKey) (k : CapKey) → has_key ks (Some k) ≡ true → list_all is_supported_key ks ≡ true → is_supported_key k ≡ true
had_supported ks k has all = go (has_same ks (Some k)) refl (wider_key k) refl has
  where
    go : (b : Bool) → has_same ks (Some k) ≡ b → (o : Option CapKey) → wider_key k ≡ o → (b || has_same ks o) ≡ true → is_supported_key k ≡ true
    go true t o w h = same_supported ks k t all
    go false t None w h = let none = has_same_none ks in absurd (cc (none, h))
    go false t (Some j) w h = wide_supported k j w
