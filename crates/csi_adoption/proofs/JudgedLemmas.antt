-- The fault of rows, from the folds over them.
use Rattle.std.proofs.Common.{◌≡◌, ◌∙◌, inr, refl, sym, ap, ap₂, false, true≢false, List, map, Option, Some, None, Result, Ok, Err, IsErrAnd, IsPermutation}
use Rattle.sqlite.specs.Order.{Row}
use Rattle.sqlite.specs.Tree.{Trees}
use Rattle.sqlite.specs.declared.error.Error.{Error}
use Rattle.csi_config.specs.declared.config.Config.{Config}
use Rattle.csi_sql.specs.Rows.{seen_attachment, seen_meta}
use Rattle.csi_constraints.specs.Scans.{IsInOrder, owners}
use Rattle.csi_constraints.specs.Apart.{apart_named}
use Rattle.csi_constraints.specs.Joins.{is_owned}
use Rattle.csi_constraints.specs.declared.named.RowName.{RowName}
use Rattle.csi_adoption.specs.Faults.{owner_fault as unowned_fault, all_faults, count_faults, failure_of, is_failure, table_faults}
use Rattle.csi_adoption.specs.Seen.{reported_attachments, reported_volumes, AttachmentsFound, VolumesFound}
use Rattle.csi_adoption.specs.declared.fault.AdoptFault.{AdoptFault}
use Rattle.csi_adoption.specs.declared.seen.VolumesSeen.{VolumesSeen}
use Rattle.csi_adoption.specs.Judging.{first_named, meta_judged, volumes_unless, with_rows, AreJudged, ArePassed, JudgesRows, TablesAreSeen}
use Rattle.csi_adoption.specs.declared.adopting.TablesSeen.{TablesSeen}
use Rattle.csi_adoption.specs.declared.meta.Meta.{Meta}
use Rattle.csi_adoption.specs.declared.meta.MetaRows.TheVariants as meta
use Rattle.csi_adoption.proofs.FaultLemmas.{error_fails, fault_here, fault_later}
use Rattle.csi_adoption.proofs.OrderLemmas.{in_order}

pub judged_err : (config : Config) (db : Trees) (x : AdoptFault) → (is_failure x ≡ false → AreJudged config db (Some x)) → JudgesRows config db (Err x)
judged_err config db x judged = λ known. inr (judged known)

-- a failure of the database says nothing of the rows
pub judged_failure : (config : Config) (db : Trees) (r : Result VolumesSeen AdoptFault) (x : Error) → IsErrAnd r (λ e. e ≡ failure_of x) → JudgesRows config db r
judged_failure config db (Ok seen) x h = absurd h
judged_failure config db (Err e) x h = λ known. absurd (true≢false (sym (ap is_failure h ∙ error_fails x) ∙ known))

pub joined_failure : (config : Config) (db : Trees) (tables : TablesSeen) (r : Result (Unit {0}) AdoptFault) (x : Error) → IsErrAnd r (λ e. e ≡ failure_of x) → JudgesRows config db (volumes_unless tables r)
joined_failure config db tables (Ok fine) x h = absurd h
joined_failure config db tables (Err e) x h = λ known. absurd (true≢false (sym (ap is_failure h ∙ error_fails x) ∙ known))

module _ (config : Config) (db : Trees) (m : Meta) (rows : List Row) (same : IsPermutation (map seen_meta (db 0)) rows) (meta_is : meta_judged (with_rows meta.None rows) ≡ Ok m) (tables : TablesSeen) (seen : TablesAreSeen config m db tables) where
  abbrev v : VolumesFound
  v = reported_volumes tables.volumes

  abbrev a : AttachmentsFound
  a = reported_attachments tables.attachments

  abbrev AreOwned : List Row → Type 0
  AreOwned owned = IsInOrder (owners (db 3) (db 1)) owned

  abbrev ArePlaces : List Row → Type 0
  ArePlaces places = IsInOrder (map seen_attachment (db 3)) places

  judged : (owned places : List Row) → AreOwned owned → ArePlaces places → (unowned apart : Option RowName) → unowned ≡ first_named 0 1 is_owned owned → apart ≡ apart_named places
      → (fault : Option AdoptFault) → all_faults config m.next v a unowned apart ≡ fault → AreJudged config db fault
  judged owned places one two unowned apart first second fault e = record {
    row = m;
    meta_rows = rows;
    volume_rows = seen.volume_rows;
    attachment_rows = seen.attachment_rows;
    owner_rows = owned;
    place_rows = places;
    seen = record { meta = same; volumes = seen.volumes; attachments = seen.attachments; owned = one; places = two };
    meta_is = meta_is;
    fault_is = ap₂ (λ u w. all_faults config m.next u w (first_named 0 1 is_owned owned) (apart_named places)) (sym seen.sees.found) (sym seen.placed.found)
        ∙ ap₂ (λ u w. all_faults config m.next v a u w) (sym first) (sym second) ∙ e;
  }

  pub table_fault : (e : AdoptFault) → table_faults config m.next v a ≡ Some e → AreJudged config db (Some e)
  table_fault e is =
      let owned = in_order (owners (db 3) (db 1)) in
      let places = in_order (map seen_attachment (db 3)) in
      judged owned.0 places.0 owned.1 places.1 (first_named 0 1 is_owned owned.0) (apart_named places.0) refl refl (Some e)
      (fault_here (table_faults config m.next v a) _ e is)

  module _ (owned : List Row) (one : AreOwned owned) (unowned : Option RowName) (first : unowned ≡ first_named 0 1 is_owned owned) (fine : table_faults config m.next v a ≡ None) where
    pub owner_fault : (e : AdoptFault) → unowned_fault unowned ≡ Some e → AreJudged config db (Some e)
    owner_fault e is =
        let places = in_order (map seen_attachment (db 3)) in
        judged owned places.0 one places.1 unowned (apart_named places.0) first refl (Some e)
        (fault_later (table_faults config m.next v a) _ fine ∙ fault_here (unowned_fault unowned) _ e is)

    module _ (places : List Row) (two : ArePlaces places) (apart : Option RowName) (second : apart ≡ apart_named places) (at_home : unowned_fault unowned ≡ None) where
      pub counts_fault : (e : AdoptFault) → count_faults config apart a v ≡ Some e → AreJudged config db (Some e)
      counts_fault e is =
          judged owned places one two unowned apart first second (Some e)
          (fault_later (table_faults config m.next v a) _ fine ∙ fault_later (unowned_fault unowned) _ at_home ∙ fault_here (count_faults config apart a v) _ e is)

      pub none_broken : count_faults config apart a v ≡ None → ArePassed config db tables.volumes
      unfolding judged
      none_broken is = record {
        judged = judged owned places one two unowned apart first second None
            (fault_later (table_faults config m.next v a) _ fine ∙ fault_later (unowned_fault unowned) _ at_home ∙ fault_later (count_faults config apart a v) _ is);
        volumes = seen.sees;
        attachments = tables.attachments;
        placed = seen.placed;
      }
