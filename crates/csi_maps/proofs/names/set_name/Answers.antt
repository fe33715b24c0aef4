use Rattle.std.proofs.Common.{◌≡◌, ◌∙◌, ap, subst, ℕ, Some, rules}
use Rattle.csi_keeper.specs.Texts.{text_cmp}
use Rattle.csi_maps.specs.Hashing.{name_hash}
use Rattle.csi_maps.specs.Rows.{IsSetAt}
use Rattle.csi_maps.specs.Naming.{at_hash}
use Rattle.std.specs.Ordering.{nat_cmp}
use Rattle.csi_maps.proofs.NamingLemmas.{named_tied}
use Rattle.csi_maps.proofs.names.set_name.Goals as goal

pub returns-clause-ok : goal.returns-clause-ok
returns-clause-ok c =
    let old = c.args.names.now in
    let hash : c.name_hash-hash.result ≡ name_hash c.args.name.now = c.name_hash-hash.ensures ∙ ap name_hash c.as_bytes.ensures.bytes in
    let was : at_hash old c.name_hash-hash.result ≡ Some c.in-Some.first = search rules in
    let set : IsSetAt nat_cmp c.name_hash-hash.result (Some c.args.number) old.by_hash.entries c.insert.new.self.entries = search rules in
    let text : IsSetAt text_cmp c.in_ok-copy.field-0 (Some c.args.number) old.by_text.entries c.insert-2.new.self.entries = search rules in
    named_tied c.args.name.now c.args.number c.in-Some.first old _ c.insert.new.self.entries
    (subst (λ (h : ℕ). at_hash old h ≡ Some c.in-Some.first) hash was)
    (subst (λ (h : ℕ). IsSetAt nat_cmp h (Some c.args.number) old.by_hash.entries c.insert.new.self.entries) hash set)
    (subst (λ (h : ℕ). IsSetAt nat_cmp h (Some c.in-Some.first) c.insert.new.self.entries c.put_back.new.by_hash.entries) hash c.put_back.ensures)
    (subst (λ t. IsSetAt text_cmp t (Some c.args.number) old.by_text.entries c.insert-2.new.self.entries) c.in_ok-copy.ensures text)
