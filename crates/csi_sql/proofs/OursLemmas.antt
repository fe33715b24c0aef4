-- Our schema, part by part.
use Rattle.std.proofs.Common.{◌≡◌, ◌∙◌, [], ap, refl, sym}
use Rattle.std.specs.Fmt.{digits}
use Rattle.sqlite.specs.Schema.{Schema}
use Rattle.csi_sql.specs.Ours.{our_tables, our_indexes}
use Rattle.csi_sql.specs.Tables.{schema}

parts : schema ≡ record { tables = our_tables; indexes = our_indexes; views = [] }
unfolding digits
parts = refl

pub is_ours : (s : Schema) → s.tables ≡ our_tables → s.indexes ≡ our_indexes → s.views ≡ [] → s ≡ schema
is_ours s t i v = (λ k. record { tables = t k; indexes = i k; views = v k }) ∙ sym parts

pub has_ours : (s : Schema) → s ≡ schema → (s.tables ≡ our_tables) × (s.indexes ≡ our_indexes) × (s.views ≡ [])
has_ours s e = let f = e ∙ parts in (ap (λ (x : Schema). x.tables) f, ap (λ (x : Schema). x.indexes) f, ap (λ (x : Schema). x.views) f)
