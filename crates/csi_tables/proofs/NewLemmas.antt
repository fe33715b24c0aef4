-- New tables represent the first State.
use Rattle.std.proofs.Common.{◌≡◌, ◌∙◌, sym, ap, subst, ℕ, List, [], map, length, sum, IsPermutation, IsTrue, false}
use Rattle.std.specs.FinMap.{empty, entries}
use Rattle.std.specs.List.{AllByRecursion}
use Rattle.std.specs.Ordering.{nat_cmp}
use Rattle.std.proofs.lemmas.List.Sorted.{IsPermutation-refl}
use Rattle.sqlite.specs.Effect.{Database}
use Rattle.sqlite.specs.Held.{Held, state}
use Rattle.sqlite.specs.Order.{Row}
use Rattle.sqlite.specs.State.{HasCleanDisk, Survives}
use Rattle.sqlite.specs.Store.{Ghosts}
use Rattle.sqlite.specs.Tree.{Trees}
use Rattle.csi_keeper.specs.State.{AttachmentKey, attachment_key_cmp, first_state}
use Rattle.csi_keeper.specs.Texts.{Text}
use Rattle.csi_keeper.specs.Totals.{AreTotals, total_of, the_total, zero_total}
use Rattle.csi_keeper.specs.declared.totals.Totals.{Totals}
use Rattle.csi_keeper.specs.declared.volume.Attachment.{Attachment}
use Rattle.csi_keeper.specs.declared.volume.Volume.{Volume}
use Rattle.csi_keeper.specs.facts.Finite.{none_listed}
use Rattle.csi_keeper.specs.facts.Sums.{in_order}
use Rattle.csi_sql.specs.Making.{MakesTables}
use Rattle.csi_sql.specs.Tables.{no_schema}
use Rattle.csi_sql.specs.Transactions.{ChangesFrom, LeavesFrom}
use Rattle.csi_sql.specs.Rows.{seen_volume, seen_attachment}
use Rattle.csi_sql.specs.Effects.{AreKeyed}
use Rattle.csi_columns.specs.Encoding.{ReadsBack}
use Rattle.csi_columns.specs.Entries.{volume_entry, attachment_entry}
use Rattle.csi_tables.specs.Holding.{IsRows, IsStorable, IsStored, IsPlaced}
use Rattle.csi_tables.specs.Keeping.{IsNewOver}
use Rattle.csi_tables.specs.declared.tables.Tables.{Tables}
use Rattle.csi_tables.proofs.RowLemmas.{sound_after}
use Rattle.csi_tables.proofs.StateLemmas.{same_state}

no_volumes : entries (empty {X = Volume} {R = nat_cmp}) ≡ []
no_volumes = none_listed nat_cmp

no_attachments : entries (empty {X = Attachment} {R = attachment_key_cmp}) ≡ []
no_attachments = none_listed attachment_key_cmp

first_storable : IsStorable (first_state 1)
first_storable = record {
  volumes = subst (AllByRecursion IsStored) (sym no_volumes) tt;
  attachments = subst (AllByRecursion IsPlaced) (sym no_attachments) tt;
}

none_keyed : AreKeyed seen_attachment []
none_keyed = record { keyed = λ r has. absurd has; one = λ a b has. absurd has }

first_rows : (old new : Database) → MakesTables old new → IsRows (first_state 1) new.trees
first_rows old new h = record {
  meta = h.meta;
  volumes = subst (λ (es : List (ℕ × Volume)). IsPermutation (map volume_entry es) (map seen_volume (new.trees 1))) (sym no_volumes)
      (subst (λ (rows : List Row). IsPermutation [] (map seen_volume rows)) (sym h.volumes) (IsPermutation-refl []));
  attachments = subst (λ (es : List (AttachmentKey × Attachment)). IsPermutation (map attachment_entry es) (map seen_attachment (new.trees 3))) (sym no_attachments)
      (subst (λ (rows : List Row). IsPermutation [] (map seen_attachment rows)) (sym h.attachments) (IsPermutation-refl []));
  keyed = subst (AreKeyed seen_attachment) (sym h.attachments) none_keyed;
  storable = first_storable;
  sound = sound_after new h.schema h.sound;
}

first_totals : (totals : Totals) → ((q : Text) → total_of totals q ≡ zero_total) → AreTotals totals (first_state 1)
first_totals totals none pool = none pool ∙ sym (ap (λ (es : List (ℕ × Volume)). the_total (length (in_order es pool)) (sum (in_order es pool))) no_volumes)

module _ {S : Type 0} (g : Ghosts S) (back : ReadsBack) (settled : (s : S) (db : Trees) → IsTrue (g.view s).is_open → g.recovers s db → db ≡ (g.view s).committed) (old : Held S) (new : Tables S) where
  -- tables that were made and committed, and zero totals
  pub is_new_over : (HasCleanDisk (state g new.conn) → ChangesFrom no_schema MakesTables (state g old) (state g new.conn))
      → Survives (state g old) (state g new.conn) (LeavesFrom no_schema MakesTables (state g old)) → ((q : Text) → total_of new.totals q ≡ zero_total)
      → new.health.is_down ≡ false → new.health.refusals ≡ 0 → IsNewOver g old new
  is_new_over made survives none up uncounted =
      let rows = λ (clean : HasCleanDisk (state g new.conn)) (blank : (state g old).now.schema ≡ no_schema). first_rows (state g old).now (state g new.conn).now ((made clean).effect blank) in
      let left = λ (clean : HasCleanDisk (state g new.conn)) (db : Trees) (may : (state g new.conn).may_leave db).
      settled new.conn.store db (made clean).is_open may ∙ ap (λ (d : Database). d.trees) (made clean).committed in
      record {
        clean = survives.clean;
        begun = λ clean blank. ((λ is_open. record { schema = ((made clean).effect blank).schema; settled = sym (made clean).committed; rows = rows clean blank }), first_totals new.totals none, first_storable);
        settled = λ clean blank s it. same_state back s (first_state 1) (state g new.conn).now.trees (subst (IsRows s) (left clean it.0 it.1) it.2) (rows clean blank);
        ties = λ clean blank _ db may. (first_state 1, subst (IsRows (first_state 1)) (sym (left clean db may)) (rows clean blank));
        up = up;
        uncounted = uncounted;
        limit = survives.limit;
      }
