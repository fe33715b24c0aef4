-- The key of a capability that was made from a key.
use Rattle.std.proofs.Common.{◌≡◌, ◌∙◌, refl, sym, Bool, true, false, cond, Some, None}
use Rattle.csi_keeper.specs.Capability.{access_of, key_with}
use Rattle.csi_keeper.specs.declared.capability.CapKey.{CapKey}
use Rattle.csi_keeper.specs.declared.capability.Kind.{Kind}
use Rattle.csi_keeper.specs.declared.capability.Kind.TheVariants.{Block, Mount}

pub some_key : (b : Bool) (k j : CapKey) → key_with (access_of k.kind) (cond b (Some k.mode) None) ≡ Some j → j ≡ k
some_key false k j e = absurd (cc)
some_key true k j e = go k.kind refl e
  where
    go : (d : Kind) → k.kind ≡ d → key_with (access_of d) (Some k.mode) ≡ Some j → j ≡ k
    go Block is e = let made : record { kind = Block; mode = k.mode } ≡ j = cc in sym made ∙ (λ i. record { kind = sym is i; mode = k.mode })
    go (Mount t) is e = let made : record { kind = Mount t; mode = k.mode } ≡ j = cc in sym made ∙ (λ i. record { kind = sym is i; mode = k.mode })
