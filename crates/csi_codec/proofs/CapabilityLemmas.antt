-- The encoding of a capability means it.
use Rattle.std.proofs.Common.{◌≡◌, ℤ, true, Option, refl}
use Rattle.csi_types.specs.declared.capability.Access.{Access}
use Rattle.csi_types.specs.declared.capability.Access.TheVariants as variants
use Rattle.csi_types.specs.declared.capability.Capability.{Capability}
use Rattle.pbmessage.specs.Schema.{Good}
use Rattle.pbmessage.specs.Canon.{rises, FitsI32, FitsOption}
use Rattle.csi_codec.specs.messages.Single.{canon_number}
use Rattle.csi_codec.specs.messages.Capability.{mount_in, mount_schema, canon_mount, FitsMount, capability_in, capability_schema, canon_capability, FitsAccess, FitsCapability}
use Rattle.pbmessage.specs.facts.Laws.{SpellingLaws}
use Rattle.pbmessage.specs.facts.Rows.{rows_again, RoundTrip}
use Rattle.pbmessage.specs.facts.Parts.{Law, text_fit, text_again, inner_fit, inner_again, option_fit, option_again, presence_fit}
use Rattle.csi_codec.proofs.SingleLemmas.{enum_value_law}

pub mount_law : SpellingLaws → Law (Good mount_schema) mount_in canon_mount FitsMount
mount_law l = record {
  laws = l;
  again = λ m f. rows_again l (Good mount_schema) mount_in (canon_mount m) m refl (((tt, text_fit m.fs_type f.0), f.1), text_fit m.group f.2)
      (λ i. record { fs_type = text_again m.fs_type i; flags = m.flags; group = text_again m.group i });
}

capability_again : SpellingLaws → (a : Access) (o : Option ℤ) → FitsAccess a → FitsOption FitsI32 canon_number o → RoundTrip (Good capability_schema) capability_in canon_capability (record { access = a; mode = o })
capability_again l variants.Missing o fa fo =
    rows_again l (Good capability_schema) capability_in (canon_capability (record { access = variants.Missing; mode = o })) (record { access = variants.Missing; mode = o }) refl (tt, option_fit (enum_value_law l) o fo)
    (λ i. record { access = variants.Missing; mode = option_again (enum_value_law l) o fo i })
capability_again l variants.Block o fa fo =
    rows_again l (Good capability_schema) capability_in (canon_capability (record { access = variants.Block; mode = o })) (record { access = variants.Block; mode = o }) refl ((tt, presence_fit true), option_fit (enum_value_law l) o fo)
    (λ i. record { access = variants.Block; mode = option_again (enum_value_law l) o fo i })
capability_again l (variants.Mount m) o fa fo =
    rows_again l (Good capability_schema) capability_in (canon_capability (record { access = variants.Mount m; mode = o })) (record { access = variants.Mount m; mode = o }) refl ((tt, inner_fit (mount_law l) m fa), option_fit (enum_value_law l) o fo)
    (λ i. record { access = variants.Mount (inner_again (mount_law l) m fa i); mode = option_again (enum_value_law l) o fo i })

pub capability_law : SpellingLaws → Law (Good capability_schema) capability_in canon_capability FitsCapability
capability_law l = record { laws = l; again = λ c f. capability_again l c.access c.mode f.0 f.1 }

access_rises : (a : Access) (o : Option ℤ) → rises (canon_capability (record { access = a; mode = o })) ≡ true
access_rises variants.Missing o = refl
access_rises variants.Block o = refl
access_rises (variants.Mount m) o = refl

pub capability_rises : (c : Capability) → rises (canon_capability c) ≡ true
capability_rises c = access_rises c.access c.mode
