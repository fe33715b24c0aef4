-- New tables filled with the rows of pages have a State that the pages give.
use Rattle.std.proofs.Common.{◌≡◌, ◌∙◌, refl, sym, ap, subst, inl, inr, ℕ, pos, List, [], ◌∷◌, ◌++◌, map, append-nil, IsPermutation}
use Rattle.std.proofs.lemmas.List.Sorted.{IsPermutation-append_right, IsPermutation-map, IsPermutation-middle, IsPermutation-refl, IsPermutation-sym, IsPermutation-trans}
use Rattle.sqlite.specs.Effect.{Database}
use Rattle.sqlite.specs.Order.{Row}
use Rattle.sqlite.specs.declared.types.Value.{Value}
use Rattle.sqlite.specs.declared.types.Value.TheVariants.{Int}
use Rattle.csi_keeper.specs.State.{State}
use Rattle.csi_change_store.specs.Giving.{Gives, attachments_in, next_in, shown_volume, volumes_in}
use Rattle.csi_change_store.specs.Pages.{PageItem, Meta, Volume, Attachment, Token, Skipped}
use Rattle.csi_change_store.specs.Taking.{PutsAll, kept_attachment}
use Rattle.csi_sql.specs.Making.{MakesTables}
use Rattle.csi_sql.specs.Rows.{meta_row, seen_attachment, seen_meta, seen_volume}
use Rattle.csi_sql.specs.declared.formats.TheConstants.{FIRST_FORMAT, LATEST_FORMAT}
use Rattle.csi_tables.specs.Holding.{IsEitherRows, IsRowsOf}

-- the tables after the rows of the items were put into them
pub record Moved (items : List PageItem) (a b : Database) : Type 0 where
  pub schema : b.schema ≡ a.schema
  pub meta : (format next : ℕ) → map seen_meta (a.trees 0) ≡ meta_row format next ∷ [] → map seen_meta (b.trees 0) ≡ meta_row format (next_in next items) ∷ []
  pub volumes : IsPermutation (map shown_volume (volumes_in items) ++ map seen_volume (a.trees 1)) (map seen_volume (b.trees 1))
  pub attachments : IsPermutation (map kept_attachment (attachments_in items) ++ map seen_attachment (a.trees 3)) (map seen_attachment (b.trees 3))

-- a row that comes first, among others
put_first : (x : Row) (xs old mid new : List Row) → IsPermutation (x ∷ old) mid → IsPermutation (xs ++ mid) new → IsPermutation (x ∷ (xs ++ old)) new
put_first x xs old mid new one more =
    IsPermutation-trans _ _ _ (IsPermutation-sym _ _ (IsPermutation-middle xs x old)) (IsPermutation-trans _ _ _ (IsPermutation-append_right xs (x ∷ old) mid one) more)

with_volumes : (items : List PageItem) (a mid b : Database) → mid.trees 1 ≡ a.trees 1 → Moved items mid b → IsPermutation (map shown_volume (volumes_in items) ++ map seen_volume (a.trees 1)) (map seen_volume (b.trees 1))
with_volumes items a mid b same m = subst (λ (t : List Row). IsPermutation (map shown_volume (volumes_in items) ++ map seen_volume t) (map seen_volume (b.trees 1))) same m.volumes

with_attachments : (items : List PageItem) (a mid b : Database) → mid.trees 3 ≡ a.trees 3 → Moved items mid b
    → IsPermutation (map kept_attachment (attachments_in items) ++ map seen_attachment (a.trees 3)) (map seen_attachment (b.trees 3))
with_attachments items a mid b same m = subst (λ (t : List Row). IsPermutation (map kept_attachment (attachments_in items) ++ map seen_attachment t) (map seen_attachment (b.trees 3))) same m.attachments

pub moved : (items : List PageItem) (a b : Database) → PutsAll items a b → Moved items a b
moved [] a b h = subst (λ (db : Database). Moved [] a db) (sym h) (record {
  schema = refl;
  meta = λ format next at. at;
  volumes = IsPermutation-refl _;
  attachments = IsPermutation-refl _;
})
moved (Meta row ∷ items) a b h =
    let p = h.1 in
    let m = moved items h.0 b h.2 in
    record {
      schema = m.schema ∙ p.schema;
      meta = λ format next at. m.meta format row.next (p.meta format next at);
      volumes = with_volumes items a h.0 b p.volumes m;
      attachments = with_attachments items a h.0 b p.attachments m;
    }
moved (Volume row ∷ items) a b h =
    let p = h.1 in
    let m = moved items h.0 b h.2 in
    record {
      schema = m.schema ∙ p.schema;
      meta = λ format next at. m.meta format next (ap (map seen_meta) p.meta ∙ at);
      volumes = put_first (shown_volume row) (map shown_volume (volumes_in items)) (map seen_volume (a.trees 1)) (map seen_volume (h.0.trees 1)) (map seen_volume (b.trees 1)) (IsPermutation-map seen_volume _ _ p.rows) m.volumes;
      attachments = with_attachments items a h.0 b p.attachments m;
    }
moved (Attachment row ∷ items) a b h =
    let p = h.1 in
    let m = moved items h.0 b h.2 in
    record {
      schema = m.schema ∙ p.schema;
      meta = λ format next at. m.meta format next (ap (map seen_meta) p.meta ∙ at);
      volumes = with_volumes items a h.0 b p.volumes m;
      attachments = put_first (kept_attachment row) (map kept_attachment (attachments_in items)) (map seen_attachment (a.trees 3)) (map seen_attachment (h.0.trees 3)) (map seen_attachment (b.trees 3)) p.rows m.attachments;
    }
moved (Token token ∷ items) a b h = same_items (moved items h.0 b h.2)
  where
    same_items : Moved items h.0 b → Moved (Token token ∷ items) a b
    same_items m = subst (λ (db : Database). Moved (Token token ∷ items) db b) h.1 (record { schema = m.schema; meta = m.meta; volumes = m.volumes; attachments = m.attachments })
moved (Skipped ∷ items) a b h = same_items (moved items h.0 b h.2)
  where
    same_items : Moved items h.0 b → Moved (Skipped ∷ items) a b
    same_items m = subst (λ (db : Database). Moved (Skipped ∷ items) db b) h.1 (record { schema = m.schema; meta = m.meta; volumes = m.volumes; attachments = m.attachments })

nat_of : Value → ℕ
nat_of (Int (pos n)) = n
nat_of _ = 0

next_of : List Row → ℕ
next_of ((k ∷ format ∷ next ∷ rest) ∷ rows) = nat_of next
next_of _ = 0

same_next : (f g a b : ℕ) → meta_row f a ∷ [] ≡ meta_row g b ∷ [] → a ≡ b
unfolding nat_of next_of
same_next f g a b e = ap next_of e

module _ (items : List PageItem) (old made new : Database) (s : State) (makes : MakesTables old made) (puts : PutsAll items made new) where
  abbrev m : Moved items made new
  m = moved items made new puts

  meta_is : (format : ℕ) → IsRowsOf format s new.trees → meta_row LATEST_FORMAT (next_in 1 items) ∷ [] ≡ meta_row format s.next ∷ []
  meta_is format rows = sym (m.meta LATEST_FORMAT 1 makes.meta) ∙ rows.meta

  gives_rows_of : (format : ℕ) → IsRowsOf format s new.trees → Gives items s
  gives_rows_of format rows = record {
    next = same_next LATEST_FORMAT format (next_in 1 items) s.next (meta_is format rows);
    volumes = IsPermutation-trans _ _ _ rows.volumes (IsPermutation-sym _ _ (subst (λ (t : List Row). IsPermutation t (map seen_volume (new.trees 1))) (append-nil (map shown_volume (volumes_in items)))
        (subst (λ (t : List Row). IsPermutation (map shown_volume (volumes_in items) ++ map seen_volume t) (map seen_volume (new.trees 1))) makes.volumes m.volumes)));
    attachments = IsPermutation-trans _ _ _ rows.attachments (IsPermutation-sym _ _ (subst (λ (t : List Row). IsPermutation t (map seen_attachment (new.trees 3))) (append-nil (map kept_attachment (attachments_in items)))
        (subst (λ (t : List Row). IsPermutation (map kept_attachment (attachments_in items) ++ map seen_attachment t) (map seen_attachment (new.trees 3))) makes.attachments m.attachments)));
    storable = rows.storable;
  }

  pub given_back : IsEitherRows s new.trees → Gives items s
  given_back (inl first) = gives_rows_of FIRST_FORMAT first.0
  given_back (inr rows) = gives_rows_of LATEST_FORMAT rows
