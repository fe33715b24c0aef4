-- The rows of pages, put into new tables.
use Rattle.std.proofs.Common.{◌≡◌, ◌∙◌, refl, sym, ap, subst, ℕ, List, [], ◌∷◌, ◌++◌, map, append-nil, IsPermutation}
use Rattle.std.proofs.lemmas.List.Sorted.{IsPermutation-append_right, IsPermutation-map, IsPermutation-middle, IsPermutation-refl, IsPermutation-sym, IsPermutation-trans}
use Rattle.sqlite.specs.Effect.{Database, IsDatabase}
use Rattle.sqlite.specs.Order.{Row}
use Rattle.csi_keeper.specs.State.{State}
use Rattle.csi_sql.specs.Making.{MakesTables}
use Rattle.csi_sql.specs.declared.formats.TheConstants.{LATEST_FORMAT}
use Rattle.csi_sql.specs.Effects.{AreKeyed}
use Rattle.csi_sql.specs.Rows.{meta_row, seen_attachment, seen_meta, seen_volume}
use Rattle.csi_sql.specs.Tables.{schema}
use Rattle.csi_change_store.specs.Giving.{Gives, GivesRows, attachments_in, next_in, shown_volume, volumes_in}
use Rattle.csi_change_store.specs.Pages.{PageItem, Meta, Volume, Attachment, Token, Skipped}
use Rattle.csi_change_store.specs.Taking.{PutsAll, kept_attachment}

record Moved (items : List PageItem) (a b : Database) : Type 0 where
  schema : b.schema ≡ a.schema
  sound : IsDatabase a → IsDatabase b
  meta : (format next : ℕ) → map seen_meta (a.trees 0) ≡ meta_row format next ∷ [] → map seen_meta (b.trees 0) ≡ meta_row format (next_in next items) ∷ []
  volumes : IsPermutation (map shown_volume (volumes_in items) ++ map seen_volume (a.trees 1)) (map seen_volume (b.trees 1))
  attachments : IsPermutation (map kept_attachment (attachments_in items) ++ map seen_attachment (a.trees 3)) (map seen_attachment (b.trees 3))
  keyed : AreKeyed seen_attachment (a.trees 3) → AreKeyed seen_attachment (b.trees 3)

-- a row that comes first, among others
put_first : (x : Row) (xs old mid new : List Row) → IsPermutation (x ∷ old) mid → IsPermutation (xs ++ mid) new → IsPermutation (x ∷ (xs ++ old)) new
put_first x xs old mid new one more =
    IsPermutation-trans _ _ _ (IsPermutation-sym _ _ (IsPermutation-middle xs x old)) (IsPermutation-trans _ _ _ (IsPermutation-append_right xs (x ∷ old) mid one) more)

moved : (items : List PageItem) (a b : Database) → PutsAll items a b → Moved items a b
moved [] a b h = subst (λ (db : Database). Moved [] a db) (sym h) (record {
  schema = refl;
  sound = λ s. s;
  meta = λ format next at. at;
  volumes = IsPermutation-refl _;
  attachments = IsPermutation-refl _;
  keyed = λ k. k;
})
moved (Meta row ∷ items) a b h =
    let p = h.1 in
    let m = moved items h.0 b h.2 in
    record {
      schema = m.schema ∙ p.schema;
      sound = λ s. m.sound p.sound;
      meta = λ format next at. m.meta format row.next (p.meta format next at);
      volumes = subst (λ (t : List Row). IsPermutation (map shown_volume (volumes_in items) ++ map seen_volume t) (map seen_volume (b.trees 1))) p.volumes m.volumes;
      attachments = subst (λ (t : List Row). IsPermutation (map kept_attachment (attachments_in items) ++ map seen_attachment t) (map seen_attachment (b.trees 3))) p.attachments m.attachments;
      keyed = λ k. m.keyed (subst (AreKeyed seen_attachment) (sym p.attachments) k);
    }
moved (Volume row ∷ items) a b h =
    let p = h.1 in
    let m = moved items h.0 b h.2 in
    record {
      schema = m.schema ∙ p.schema;
      sound = λ s. m.sound p.sound;
      meta = λ format next at. m.meta format next (ap (map seen_meta) p.meta ∙ at);
      volumes = put_first (shown_volume row) (map shown_volume (volumes_in items)) (map seen_volume (a.trees 1)) (map seen_volume (h.0.trees 1)) (map seen_volume (b.trees 1)) (IsPermutation-map seen_volume _ _ p.rows) m.volumes;
      attachments = subst (λ (t : List Row). IsPermutation (map kept_attachment (attachments_in items) ++ map seen_attachment t) (map seen_attachment (b.trees 3))) p.attachments m.attachments;
      keyed = λ k. m.keyed (subst (AreKeyed seen_attachment) (sym p.attachments) k);
    }
moved (Attachment row ∷ items) a b h =
    let p = h.1 in
    let m = moved items h.0 b h.2 in
    record {
      schema = m.schema ∙ p.schema;
      sound = λ s. m.sound p.sound;
      meta = λ format next at. m.meta format next (ap (map seen_meta) p.meta ∙ at);
      volumes = subst (λ (t : List Row). IsPermutation (map shown_volume (volumes_in items) ++ map seen_volume t) (map seen_volume (b.trees 1))) p.volumes m.volumes;
      attachments = put_first (kept_attachment row) (map kept_attachment (attachments_in items)) (map seen_attachment (a.trees 3)) (map seen_attachment (h.0.trees 3)) (map seen_attachment (b.trees 3)) p.rows m.attachments;
      keyed = λ k. m.keyed (p.keyed k);
    }
moved (Token token ∷ items) a b h = same_items (moved items h.0 b h.2)
  where
    same_items : Moved items h.0 b → Moved (Token token ∷ items) a b
    same_items m = subst (λ (db : Database). Moved (Token token ∷ items) db b) h.1 (record { schema = m.schema; sound = m.sound; meta = m.meta; volumes = m.volumes; attachments = m.attachments; keyed = m.keyed })
moved (Skipped ∷ items) a b h = same_items (moved items h.0 b h.2)
  where
    same_items : Moved items h.0 b → Moved (Skipped ∷ items) a b
    same_items m = subst (λ (db : Database). Moved (Skipped ∷ items) db b) h.1 (record { schema = m.schema; sound = m.sound; meta = m.meta; volumes = m.volumes; attachments = m.attachments; keyed = m.keyed })

none_keyed : AreKeyed seen_attachment []
none_keyed = record { keyed = λ r has. absurd has; one = λ a b has other tied. absurd has }

pub given : GivesRows
given items old made new s makes puts gives =
    let m = moved items made new puts in
    record {
      meta = m.meta LATEST_FORMAT 1 makes.meta ∙ ap (λ next. meta_row LATEST_FORMAT next ∷ []) gives.next;
      volumes = IsPermutation-trans _ _ _ gives.volumes (subst (λ (t : List Row). IsPermutation t (map seen_volume (new.trees 1))) (append-nil (map shown_volume (volumes_in items)))
          (subst (λ (t : List Row). IsPermutation (map shown_volume (volumes_in items) ++ map seen_volume t) (map seen_volume (new.trees 1))) makes.volumes m.volumes));
      attachments = IsPermutation-trans _ _ _ gives.attachments (subst (λ (t : List Row). IsPermutation t (map seen_attachment (new.trees 3))) (append-nil (map kept_attachment (attachments_in items)))
          (subst (λ (t : List Row). IsPermutation (map kept_attachment (attachments_in items) ++ map seen_attachment t) (map seen_attachment (new.trees 3))) makes.attachments m.attachments));
      keyed = m.keyed (subst (AreKeyed seen_attachment) (sym makes.attachments) none_keyed);
      storable = gives.storable;
      sound = subst (λ sc. IsDatabase (record { schema = sc; trees = new.trees })) (m.schema ∙ makes.schema) (m.sound makes.sound);
    }
