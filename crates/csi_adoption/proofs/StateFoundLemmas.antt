-- Tables that pass every constraint have the rows of a State, which meets every constraint; and the rows of
-- such a State pass.
use Rattle.std.proofs.Common.{◌≡◌, ◌∙◌, inl, inr, refl, sym, ap, ap₂, subst, arith, ℕ, ◌-◌, ◌^◌, ◌≤◌, ◌<◌, ℤ, pos, negsuc, int_lt, nat_lt, ◌==◌, ◌<ℤ◌, Bool, true, false, true≢false, cond, not, ◌||◌, List, [], ◌∷◌, length, map, sum, Option, Some, None, Result, Ok, Err, IsPermutation, slice_index_or}
use Rattle.std.specs.List.{AllByRecursion}
use Rattle.std.proofs.lemmas.Bool.Decides.{nat_tests}
use Rattle.std.specs.Ordering.{int_cmp, int_eq, is_eq, MatchOrdering}
use Rattle.std.specs.declared.cmp.Ordering.{Ordering}
use Rattle.std.specs.declared.cmp.Ordering.TheVariants.{Less, Equal, Greater}
use Rattle.std.specs.Cmp.{int_ranks}
use Rattle.std.proofs.lemmas.List.Sorted.{length_permutation, IsPermutation-sym}
use Rattle.sqlite.proofs.Callers.{one_permutation}
use Rattle.sqlite.specs.Order.{Row, column}
use Rattle.sqlite.specs.Tree.{Trees}
use Rattle.sqlite.specs.declared.types.Value.{Value}
use Rattle.sqlite.specs.declared.types.Value.TheVariants.{Null, Int, Real, Text, Blob}
use Rattle.sqlite_catalog.specs.Listing.{IsSound}
use Rattle.csi_types.specs.declared.limits.TheConstants.{MAX_NUMBER, MAX_VOLUMES}
use Rattle.csi_config.specs.Values.{Has}
use Rattle.csi_config.specs.declared.config.Config.{Config}
use Rattle.csi_config.specs.declared.nodes.Node.{Node}
use Rattle.csi_config.specs.declared.pools.Pool.{Pool}
use Rattle.csi_keeper.specs.Invariant.{IsInvariant}
use Rattle.csi_keeper.specs.State.{State}
use Rattle.csi_keeper.specs.Totals.{the_total}
use Rattle.csi_sql.specs.Rows.{meta_row, seen_meta, seen_volume}
use Rattle.csi_sql.specs.Tables.{schema}
use Rattle.csi_sql.specs.declared.formats.TheConstants.{FIRST_FORMAT, LATEST_FORMAT}
use Rattle.csi_constraints.specs.Folds.{as_integer}
use Rattle.csi_constraints.specs.Scans.{IsInOrder}
use Rattle.csi_constraints.specs.Coded.{has_cap, has_caps, has_params}
use Rattle.csi_constraints.specs.Apart.{apart_named}
use Rattle.csi_constraints.specs.Joins.{is_owned}
use Rattle.csi_tables.specs.Holding.{IsEitherRows, IsFormat, IsRowsIn, IsRowsOf}
use Rattle.csi_adoption.specs.Faults.{all_faults}
use Rattle.csi_adoption.specs.Seen.{AttachmentsFound, VolumesFound}
use Rattle.csi_adoption.specs.declared.fault.AdoptFault.{AdoptFault}
use Rattle.csi_adoption.specs.declared.fault.AdoptFault.TheVariants.{Foreign, Newer}
use Rattle.csi_adoption.specs.declared.fault.Foreign.TheVariants as foreign
use Rattle.csi_adoption.specs.declared.seen.VolumesSeen.{VolumesSeen}
use Rattle.csi_adoption.specs.Adopting.{FoundState}
use Rattle.csi_adoption.specs.Found.{sizes_of, FoundVolumes}
use Rattle.csi_adoption.specs.FoundAttachments.{AttachmentsAreFound, AttachmentsDoPass, OwnersDoPass, PlacesDoPass}
use Rattle.csi_adoption.specs.Judging.{first_named, in_attachments, in_volumes, integers_judged, meta_judged, row_judged, total_in, valid_format, valid_next, with_rows, AreJudged, ArePassed, IsMetaFault}
use Rattle.csi_adoption.specs.Passing.{VolumesAreKnown, VolumesPass}
use Rattle.csi_adoption.specs.declared.meta.Meta.{Meta}
use Rattle.csi_adoption.specs.declared.meta.MetaRows.TheVariants as meta
use Rattle.csi_adoption.proofs.AttachmentFoundLemmas.{is_attached}
use Rattle.csi_adoption.proofs.JudgingLemmas.{all_unnamed, is_valid, valid_is}
use Rattle.csi_adoption.proofs.PassedLemmas.{rows_faultless, rows_pass, IsSmall, RowsPass}

-- ---- the laws of volumes

abbrev pub VolumesAreFound : Type 0
VolumesAreFound = (config : Config) (m : Meta) (db : Trees) (rows : List Row) → m.next ≤ MAX_NUMBER → IsSound schema db → IsInOrder (map seen_volume (db 1)) rows → VolumesPass config m rows → VolumesAreKnown rows → FoundVolumes config m rows

abbrev pub VolumesDoPass : Type 0
VolumesDoPass = (config : Config) (format : ℕ) (s : State) (db : Trees) (rows : List Row) → IsRowsIn format s db → IsInvariant config s → IsInOrder (map seen_volume (db 1)) rows → VolumesPass config (record { format = format; next = s.next }) rows

abbrev pub MetaDoesPass : Type 0
MetaDoesPass = (config : Config) (format : ℕ) (s : State) (db : Trees) → IsRowsOf format s db → IsInvariant config s → (rows : List Row) → IsPermutation (map seen_meta (db 0)) rows → rows ≡ meta_row format s.next ∷ []

abbrev pub TotalsAreFound : Type 0
TotalsAreFound =
    (config : Config) (m : Meta) (rows : List Row) → VolumesPass config m rows → ((p : Pool) → Has config.pools p → p.bytes < 2 ^ 64 - 1) → (found : FoundVolumes config m rows) (name : List ℕ)
    → total_in config.pools (in_volumes config m rows).pool_volumes (in_volumes config m rows).pool_bytes name ≡ the_total (length (sizes_of found.volumes name)) (sum (sizes_of found.volumes name))

-- ---- the State that was found

-- ---- the row of meta

same_integers : (x y : ℤ) → int_eq x y ≡ true → x ≡ y
same_integers x y e = go (int_cmp x y) (int_ranks x y) e
  where
    go : (o : Ordering) → MatchOrdering o (x <ℤ y) (x ≡ y) (y <ℤ x) → is_eq o ≡ true → x ≡ y
    go Less h e = absurd (true≢false (sym e))
    go Equal h e = h
    go Greater h e = absurd (true≢false (sym e))

neither_is : (a b : Bool) → (not a || b) ≡ false → (a ≡ true) × (b ≡ false)
neither_is true b e = (refl, e)
neither_is false b e = absurd (true≢false e)

err_ok : {X Y : Type 0} (e : X) (y : Y) → Path (Result Y X) (Err e) (Ok y) → ⊥
err_ok e y h = absurd (cc)

ok_is : {X Y : Type 0} (a b : Y) → Path (Result Y X) (Ok a) (Ok b) → a ≡ b
ok_is a b h = cc

no_err : {X Y : Type 0} (b c : Bool) (e f : X) (x y : Y) → Path (Result Y X) (cond b (Err e) (cond c (Err f) (Ok x))) (Ok y) → (b ≡ false) × (c ≡ false) × (x ≡ y)
no_err true c e f x y h = absurd (err_ok e y h)
no_err false true e f x y h = absurd (err_ok f y h)
no_err false false e f x y h = (refl, refl, ok_is x y h)

-- a format that is neither too low nor too high is one of the two
of_two : (n : ℕ) → nat_lt n FIRST_FORMAT ≡ false → nat_lt LATEST_FORMAT n ≡ false → IsFormat n
of_two n low high = go (n == FIRST_FORMAT) refl
  where
    go : (b : Bool) → (n == FIRST_FORMAT) ≡ b → IsFormat n
    go true is = inl (grind (arith, nat_tests, is))
    go false is = inr (grind (arith, nat_tests, is, low, high))

formats : (format : ℤ) → int_lt format (pos FIRST_FORMAT) ≡ false → int_lt (pos LATEST_FORMAT) format ≡ false → (format ≡ pos (valid_format format)) × IsFormat (valid_format format)
formats (negsuc n) low high = absurd (true≢false low)
formats (pos n) low high = elim (of_two n low high) as (λ _. (pos n ≡ pos (valid_format (pos n))) × IsFormat (valid_format (pos n))) [
  | inl e ↦ let is : valid_format (pos n) ≡ FIRST_FORMAT = ap (λ k. valid_format (pos k)) e in (ap pos (e ∙ sym is), inl is)
  | inr e ↦ let is : valid_format (pos n) ≡ LATEST_FORMAT = ap (λ k. valid_format (pos k)) e in (ap pos (e ∙ sym is), inr is)
]

integers_are : (key format next : ℤ) (m : Meta) → integers_judged key format next ≡ Ok m → (key ≡ pos 1) × (format ≡ pos m.format) × (valid_next next ≡ m.next) × IsFormat m.format
integers_are key format next m e =
    let reported : Meta = record { format = valid_format format; next = valid_next next } in
    let parts = no_err (not (int_eq key (pos 1)) || int_lt format (pos FIRST_FORMAT)) (int_lt (pos LATEST_FORMAT) format) (Foreign foreign.Meta) (Newer format) reported m e in
    let low = neither_is (int_eq key (pos 1)) (int_lt format (pos FIRST_FORMAT)) parts.0 in
    let known = formats format low.1 parts.1 in
    let same : valid_format format ≡ m.format = ap (λ (r : Meta). r.format) parts.2 in
    (same_integers key (pos 1) low.0, known.0 ∙ ap pos same, ap (λ (r : Meta). r.next) parts.2, subst IsFormat same known.1)

integer_is : (v : Value) (n : ℤ) → as_integer v ≡ Some n → v ≡ Int n
integer_is Null n e = absurd (cc)
integer_is (Int m) n e = let same : m ≡ n = cc in ap Int same
integer_is (Real x) n e = absurd (cc)
integer_is (Text t) n e = absurd (cc)
integer_is (Blob b) n e = absurd (cc)

row_is : (key format next : Option ℤ) (m : Meta) → 1 ≤ m.next → row_judged key format next ≡ Ok m
    → (key ≡ Some (pos 1)) × (format ≡ Some (pos m.format)) × (next ≡ Some (pos m.next)) × (m.next ≤ MAX_NUMBER) × IsFormat m.format
row_is (Some key) (Some format) (Some next) m some e =
    let parts = integers_are key format next m e in
    let valid = valid_is next m.next parts.2 some in
    (ap Some parts.0, ap Some parts.1, ap Some valid.0, valid.1, parts.3)
row_is (Some key) (Some format) None m some e = absurd (err_ok (Foreign foreign.Meta) m e)
row_is (Some key) None next m some e = absurd (err_ok (Foreign foreign.Meta) m e)
row_is None format next m some e = absurd (err_ok (Foreign foreign.Meta) m e)

many_stay : (rows : List Row) → with_rows meta.Many rows ≡ meta.Many
many_stay [] = refl
many_stay (r ∷ rows) = many_stay rows

-- the one row of meta
one_row : (table rows : List Row) (m : Meta) → length (map seen_meta table) ≡ length rows → IsPermutation (map seen_meta table) rows → 1 ≤ m.next → meta_judged (with_rows meta.None rows) ≡ Ok m
    → (map seen_meta table ≡ meta_row m.format m.next ∷ []) × (m.next ≤ MAX_NUMBER) × IsFormat m.format
one_row table [] m size same some e = absurd (err_ok (Foreign foreign.Meta) m e)
one_row table (r ∷ s ∷ rows) m size same some e = absurd (err_ok (Foreign foreign.Meta) m (sym (ap meta_judged (many_stay rows)) ∙ e))
one_row [] (r ∷ []) m size same some e = absurd (omega (arith, size))
one_row (x ∷ y ∷ table) (r ∷ []) m size same some e = absurd (omega (arith, size))
one_row (x ∷ []) (r ∷ []) m size same some e =
    let is : seen_meta x ≡ r = sym (ap (λ (rows : List Row). slice_index_or rows 0 r) (one_permutation (seen_meta x) (r ∷ []) same)) in
    let parts = row_is (as_integer (column r 0)) (as_integer (column r 1)) (as_integer (column r 2)) m some e in
    let at : (k : ℕ) (n : ℤ) → as_integer (column r k) ≡ Some n → column (seen_meta x) k ≡ Int n = λ k n h. ap (λ u. column u k) is ∙ integer_is (column r k) n h in
    (ap (λ u. u ∷ []) (ap₂ (λ a b. a ∷ b) (at 0 (pos 1) parts.0) (ap₂ (λ a b. a ∷ b ∷ []) (at 1 (pos m.format) parts.1) (at 2 (pos m.next) parts.2))), parts.3, parts.4)

module _ (config : Config) (small : IsSmall config) (bounded : (p : Pool) → Has config.pools p → p.bytes < 2 ^ 64 - 1)
    (volumes_found : VolumesAreFound) (attachments_found : AttachmentsAreFound) (totals_found : TotalsAreFound) (db : Trees) (sound : IsSound schema db) (seen : VolumesSeen) where
  pub found_state : ArePassed config db seen → FoundState config db seen
  found_state passed =
      let j = passed.judged in
      let m = j.row in
      let n = m.next in
      let pass = rows_pass config small j.volume_rows j.attachment_rows j.owner_rows j.place_rows m j.fault_is in
      let row = one_row (db 0) j.meta_rows m (sym (length_permutation _ _ j.seen.meta)) j.seen.meta pass.0 j.meta_is in
      let low : n ≤ MAX_NUMBER = row.1 in
      let format : m.format ≡ seen.format = sym passed.volumes.format in
      let it : RowsPass config m j.volume_rows j.attachment_rows j.owner_rows j.place_rows = pass.1 in
      let fv = volumes_found config m db j.volume_rows low sound j.seen.volumes it.volumes (record {
        rising = passed.volumes.rising;
        caps = passed.volumes.caps (ap (λ (f : VolumesFound). f.caps) passed.volumes.found ∙ all_unnamed 0 1 has_caps j.volume_rows it.volumes.caps);
        params = passed.volumes.params (ap (λ (f : VolumesFound). f.params) passed.volumes.found ∙ all_unnamed 0 1 (has_params m.format) j.volume_rows it.volumes.params);
      }) in
      let fa = attachments_found config n db fv.volumes j.volume_rows j.attachment_rows j.owner_rows j.place_rows sound j.seen.volumes fv.listed fv.stored fv.each j.seen.attachments it.attachments (record {
        rising = passed.placed.rising;
        caps = passed.placed.cap (ap (λ (f : AttachmentsFound). f.cap) passed.placed.found ∙ all_unnamed 1 2 has_cap j.attachment_rows it.attachments.caps);
      }) j.seen.owned.same it.owned j.seen.places.same it.beside in
      let s : State = record { next = n; volumes = fv.volumes; attachments = fa.attachments } in
      let are : IsRowsOf m.format s db = record {
        meta = row.0;
        volumes = subst (λ rows. IsPermutation rows (map seen_volume (db 1))) (sym fv.listed) (IsPermutation-sym _ _ j.seen.volumes.same);
        attachments = fa.listed;
        keyed = fa.keyed;
        storable = record { volumes = fv.stored; attachments = fa.placed };
        sound = sound;
      } in
      record {
        state = s;
        known = subst IsFormat format row.2;
        rows = subst (λ f. IsRowsIn f s db) format (are, fv.unmodified);
        invariant = record {
          next = (pass.0, low);
          volumes = fv.each;
          names = fv.names;
          rooms = fv.rooms;
          attachments = λ m node a e. is_attached config s m node a (fa.each m node a e);
          beside = fa.beside;
          nodes = fa.nodes;
          few = fv.few;
        };
        totals = λ pool. ap₂ (λ a b. total_in config.pools a b pool) (ap (λ (f : VolumesFound). f.pool_volumes) passed.volumes.found) (ap (λ (f : VolumesFound). f.pool_bytes) passed.volumes.found)
            ∙ totals_found config m j.volume_rows it.volumes bounded fv pool;
      }

-- ---- a State that meets every constraint is not refused

-- the one row of meta is judged as it is
judged_one : (format next : ℕ) → IsFormat format → next ≤ MAX_NUMBER → meta_judged (with_rows meta.None (meta_row format next ∷ [])) ≡ Ok (record { format = format; next = next })
judged_one format next known low = elim known as (λ _. meta_judged (with_rows meta.None (meta_row format next ∷ [])) ≡ Ok (record { format = format; next = next })) [
  | inl e ↦ subst (λ (f : ℕ). meta_judged (with_rows meta.None (meta_row f next ∷ [])) ≡ Ok (record { format = f; next = next })) (sym e) (ap (λ (n : ℕ). Ok (record { format = FIRST_FORMAT; next = n })) (is_valid next low))
  | inr e ↦ subst (λ (f : ℕ). meta_judged (with_rows meta.None (meta_row f next ∷ [])) ≡ Ok (record { format = f; next = next })) (sym e) (ap (λ (n : ℕ). Ok (record { format = LATEST_FORMAT; next = n })) (is_valid next low))
]

-- rows of either format are rows of one format
pub in_format : (s : State) (db : Trees) → IsEitherRows s db → (format : ℕ) × IsFormat format × IsRowsIn format s db
in_format s db (inl first) = (FIRST_FORMAT, inl refl, (first.0, λ _. first.1))
in_format s db (inr rows) = (LATEST_FORMAT, inr refl, (rows, λ e. absurd (omega (arith, e))))

module _ (config : Config) (small : IsSmall config) (volumes_pass : VolumesDoPass) (meta_pass : MetaDoesPass) (attachments_pass : AttachmentsDoPass) (owners_pass : OwnersDoPass) (places_pass : PlacesDoPass)
    (db : Trees) (s : State) (rows : IsEitherRows s db) (invariant : IsInvariant config s) where
  abbrev format : ℕ
  format = (in_format s db rows).0

  abbrev the_row : Meta
  the_row = record { format = format; next = s.next }

  are : IsRowsIn format s db
  are = (in_format s db rows).2

  judged_row : (meta_rows : List Row) → IsPermutation (map seen_meta (db 0)) meta_rows → meta_judged (with_rows meta.None meta_rows) ≡ Ok the_row
  judged_row meta_rows same = ap (λ (u : List Row). meta_judged (with_rows meta.None u)) (meta_pass config format s db are.0 invariant meta_rows same) ∙ judged_one format s.next (in_format s db rows).1 invariant.next.1

  pub no_meta_fault : (fault : AdoptFault) → IsMetaFault db fault → ⊥
  no_meta_fault fault it = err_ok fault the_row (sym it.2 ∙ judged_row it.0 it.1)

  pub no_fault : (fault : AdoptFault) → AreJudged config db (Some fault) → ⊥
  no_fault fault j =
      let same : j.row ≡ the_row = ok_is j.row the_row (sym j.meta_is ∙ judged_row j.meta_rows j.seen.meta) in
      let none = rows_faultless config small j.volume_rows j.attachment_rows j.owner_rows j.place_rows the_row invariant.next.0 (record {
        volumes = volumes_pass config format s db j.volume_rows are invariant j.seen.volumes;
        attachments = attachments_pass config format s db j.attachment_rows are.0 invariant j.seen.attachments;
        owned = owners_pass config format s db j.owner_rows are.0 invariant j.seen.owned.same;
        beside = places_pass config format s db j.place_rows are.0 invariant j.seen.places.same;
      }) in
      some_none fault (sym j.fault_is ∙ ap (λ (z : Meta). all_faults config z.next (in_volumes config z j.volume_rows) (in_attachments config j.attachment_rows) (first_named 0 1 is_owned j.owner_rows) (apart_named j.place_rows)) same ∙ none)
    where
      some_none : (e : AdoptFault) → Path (Option AdoptFault) (Some e) None → ⊥
      some_none e h = absurd (cc)

-- ---- sums of a configuration are reported

all_of : {X : Type 0} (P : X → Type 0) (xs : List X) → ((x : X) → Has xs x → P x) → AllByRecursion P xs
all_of P [] all = tt
all_of P (x ∷ xs) all = (all x (inl refl), all_of P xs (λ y has. all y (inr has)))

pub is_small : (config : Config) → ((p : Pool) → Has config.pools p → p.bytes ≤ 2 ^ 62) → ((m : Node) → Has config.nodes m → m.max_volumes ≤ MAX_VOLUMES) → IsSmall config
is_small config bytes volumes = record {
  pools = all_of (λ p. p.bytes < 2 ^ 64 - 1) config.pools (λ p has. omega (arith, bytes p has));
  nodes = all_of (λ m. m.max_volumes < 2 ^ 64 - 1) config.nodes (λ m has. omega (arith, volumes m has));
}
