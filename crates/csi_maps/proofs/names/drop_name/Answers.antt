use Rattle.std.proofs.Common.{◌∙◌, ap, subst, ℕ, None, rules}
use Rattle.csi_keeper.specs.Texts.{text_cmp}
use Rattle.csi_maps.specs.Hashing.{name_hash}
use Rattle.csi_maps.specs.Rows.{IsSetAt}
use Rattle.csi_maps.specs.Naming.{IsHashDropped}
use Rattle.csi_maps.proofs.NamingLemmas.{unnamed}
use Rattle.csi_maps.proofs.names.drop_name.Goals as goal

pub returns : goal.returns
returns c =
    let old = c.args.names.now in
    let text : IsSetAt text_cmp c.args.name.now None old.by_text.entries c.remove.new.self.entries = search rules in
    unnamed c.args.name.now c.args.number old _
    (subst (λ (h : ℕ). IsHashDropped h c.args.number old.by_hash.entries c.drop_hash.new.by_hash.entries) (c.name_hash.ensures ∙ ap name_hash c.as_bytes.ensures.bytes) c.drop_hash.ensures)
    text
