-- The results of folds over the rows of a table, as facts about the table.
use Rattle.std.proofs.Common.{◌≡◌, ◌∙◌, refl, ap, subst, arith, ℕ, ◌-◌, ◌<◌, ◌^◌, min, Bool, true, List, [], ◌∷◌, length, map, None}
use Rattle.std.specs.List.{AllZip}
use Rattle.sqlite.specs.Order.{Row}
use Rattle.csi_config.specs.declared.config.Config.{Config}
use Rattle.csi_constraints.specs.Attachments.{is_at_node}
use Rattle.csi_constraints.specs.Coded.{has_params}
use Rattle.csi_constraints.specs.Folds.{CountsRows, IsRising, RisesOver, SumsText, sum_after}
use Rattle.csi_constraints.specs.Named.{FindsBroken, named_out}
use Rattle.csi_constraints.specs.Volumes.{is_in_pools, is_numbered}
use Rattle.csi_constraints.specs.declared.count.RowCount.{RowCount}
use Rattle.csi_constraints.specs.declared.named.FirstBroken.{FirstBroken}
use Rattle.csi_constraints.specs.declared.rising.Rising.{Rising}
use Rattle.csi_constraints.specs.declared.sums.TextSum.{TextSum}
use Rattle.csi_constraints.specs.declared.sums.Weight.{Weight}
use Rattle.csi_constraints.specs.declared.sums.Weight.TheVariants.{Number, One}
use Rattle.csi_adoption.specs.Folding.{BeginsAttachments, BeginsVolumes, FoldsAttachments, FoldsVolumes, attachments_seen, volumes_seen}
use Rattle.csi_adoption.specs.Judging.{SeesAttachments, SeesVolumes, first_named, in_attachments, in_volumes}
use Rattle.csi_adoption.specs.Seen.{AttachmentsFound, VolumesFound, sums_of, reported_attachments, reported_volumes}
use Rattle.csi_adoption.specs.Starting.{IsBegun, IsRisingStart, IsUnbroken}
use Rattle.csi_adoption.specs.declared.attachments.AttachmentsFold.{AttachmentsFold}
use Rattle.csi_adoption.specs.declared.meta.Meta.{Meta}
use Rattle.csi_adoption.specs.declared.volumes.VolumesFold.{VolumesFold}

-- ---- one fold

-- the first row that breaks a constraint
named : {T : Type 0} (accepts : T → Row → Bool) (knows : T → Row → Type 0) (number text : ℕ) (first : FirstBroken T) (rows : List Row) (now : FirstBroken T)
    → IsUnbroken number text first → FindsBroken accepts knows first rows now → now.found ≡ first_named number text (accepts first.test) rows
named accepts knows number text first rows now begun finds =
    finds.found
    ∙ ap (λ n. named_out n first.text (accepts first.test) first.found rows) begun.number_is
    ∙ ap (λ t. named_out number t (accepts first.test) first.found rows) begun.text_is
    ∙ ap (λ f. named_out number text (accepts first.test) f rows) begun.none

risen : (first : Rising) (rows : List Row) (now : Rising) → IsRisingStart first → RisesOver first rows now → now.good ≡ true → IsRising 0 None rows
risen first rows now start rises good =
    let up : IsRising first.column first.last rows = (rises.1.good_is.0 good).1 in
    subst (λ n. IsRising n None rows) start.column (subst (λ l. IsRising first.column l rows) start.last up)

-- ---- sums

one_sum : (at : ℕ) (text : List ℕ) (weight : Weight) (rows : List Row) (first now : TextSum) → IsBegun at text weight first → SumsText first rows now → now.sum ≡ sum_after at text weight 0 rows
one_sum at text weight rows first now begun summed =
    let low : first.sum < 2 ^ 64 = omega (arith, begun.none) in
    summed.3 low
    ∙ ap (λ n. sum_after n first.text.items first.weight first.sum rows) begun.column
    ∙ ap (λ t. sum_after at t first.weight first.sum rows) begun.text_is
    ∙ ap (λ w. sum_after at text w first.sum rows) begun.weight_is
    ∙ ap (λ s. sum_after at text weight s rows) begun.none

all_sums : {P : Type 0} (at : ℕ) (name : P → List ℕ) (weight : Weight) (rows : List Row) (ps : List P) (firsts nows : List TextSum)
    → AllZip (λ p sum. IsBegun at (name p) weight sum) ps firsts → AllZip (λ a b. SumsText a rows b) firsts nows → sums_of nows ≡ map (λ p. sum_after at (name p) weight 0 rows) ps
all_sums at name weight rows [] [] [] begun summed = refl
all_sums at name weight rows [] [] (n ∷ nows) begun summed = absurd summed
all_sums at name weight rows [] (f ∷ firsts) nows begun summed = absurd begun
all_sums at name weight rows (p ∷ ps) [] nows begun summed = absurd begun
all_sums at name weight rows (p ∷ ps) (f ∷ firsts) [] begun summed = absurd summed
all_sums at name weight rows (p ∷ ps) (f ∷ firsts) (n ∷ nows) begun summed =
    let here = one_sum at (name p) weight rows f n begun.0 summed.0 in
    let later = all_sums at name weight rows ps firsts nows begun.1 summed.1 in
    ap (λ s. s ∷ sums_of nows) here ∙ ap (λ ss. sum_after at (name p) weight 0 rows ∷ ss) later

counted : (first : RowCount) (rows : List Row) (now : RowCount) → first.rows ≡ 0 → CountsRows first rows now → now.rows ≡ min (length rows) (2 ^ 64 - 1)
counted first rows now none is =
    let low : first.rows < 2 ^ 64 = omega (arith, none) in
    let e = is low in
    omega (arith, none, e)

-- ---- all that was found

volumes_same : (a b : VolumesFound) → a.kinds ≡ b.kinds → a.number ≡ b.number → a.name ≡ b.name → a.pool ≡ b.pool → a.bytes ≡ b.bytes → a.caps ≡ b.caps → a.params ≡ b.params → a.pool_bytes ≡ b.pool_bytes → a.pool_volumes ≡ b.pool_volumes → a.rows ≡ b.rows → a ≡ b
volumes_same a b e0 e1 e2 e3 e4 e5 e6 e7 e8 e9 = λ i. record { kinds = e0 i; number = e1 i; name = e2 i; pool = e3 i; bytes = e4 i; caps = e5 i; params = e6 i; pool_bytes = e7 i; pool_volumes = e8 i; rows = e9 i }

attachments_same : (a b : AttachmentsFound) → a.kinds ≡ b.kinds → a.cap ≡ b.cap → a.readonly ≡ b.readonly → a.node ≡ b.node → a.node_volumes ≡ b.node_volumes → a ≡ b
attachments_same a b e0 e1 e2 e3 e4 = λ i. record { kinds = e0 i; cap = e1 i; readonly = e2 i; node = e3 i; node_volumes = e4 i }

pub sees_volumes : (config : Config) (m : Meta) (first : VolumesFold) (rows : List Row) (now : VolumesFold) → BeginsVolumes config m first → FoldsVolumes first rows now → now.rising.good ≡ true
    → SeesVolumes config m rows (volumes_seen m.format now)
sees_volumes config m first rows now begun folds good = record {
  format = refl;
  found = volumes_same (reported_volumes (volumes_seen m.format now)) (in_volumes config m rows)
      (named _ _ 0 1 first.kinds rows now.kinds begun.kinds folds.kinds)
      (named _ _ 0 1 first.number rows now.number begun.number folds.number ∙ ap (λ next. first_named 0 1 (is_numbered next) rows) begun.next)
      (named _ _ 0 1 first.name rows now.name begun.name folds.name)
      (named _ _ 0 1 first.pool rows now.pool begun.pool folds.pool ∙ ap (λ (c : Config). first_named 0 1 (is_in_pools c.pools) rows) begun.pools)
      (named _ _ 0 1 first.bytes rows now.bytes begun.bytes folds.bytes)
      (named _ _ 0 1 first.caps rows now.caps begun.caps folds.caps)
      (named _ _ 0 1 first.params rows now.params begun.params folds.params ∙ ap (λ format. first_named 0 1 (has_params format) rows) begun.format)
      (all_sums 3 (λ p. p.name) (Number 2) rows config.pools _ _ begun.pool_bytes folds.pool_bytes)
      (all_sums 3 (λ p. p.name) One rows config.pools _ _ begun.pool_volumes folds.pool_volumes)
      (counted first.rows rows now.rows begun.none folds.rows_are);
  rising = risen first.rising rows now.rising begun.rising folds.rising good;
  caps = folds.caps.known;
  params = folds.params.known;
}

pub sees_attachments : (config : Config) (first : AttachmentsFold) (rows : List Row) (now : AttachmentsFold) → BeginsAttachments config first → FoldsAttachments first rows now → now.rising.good ≡ true
    → SeesAttachments config rows (attachments_seen now)
sees_attachments config first rows now begun folds good = record {
  found = attachments_same (reported_attachments (attachments_seen now)) (in_attachments config rows)
      (named _ _ 0 2 first.kinds rows now.kinds begun.kinds folds.kinds)
      (named _ _ 1 2 first.cap rows now.cap begun.cap folds.cap)
      (named _ _ 1 2 first.readonly rows now.readonly begun.readonly folds.readonly)
      (named _ _ 1 2 first.node rows now.node begun.node folds.node ∙ ap (λ (c : Config). first_named 1 2 (is_at_node c.nodes) rows) begun.nodes)
      (all_sums 2 (λ m. m.id) One rows config.nodes _ _ begun.node_volumes folds.node_volumes);
  rising = risen first.rising rows now.rising begun.rising folds.rising good;
  cap = folds.cap.known;
}
