-- A CREATE that makes one of the tables is never refused. This is computed from its text and from the tables
-- before it.
use Rattle.std.proofs.Common.{◌≡◌, ◌∙◌, inl, inr, refl, sym, ap, subst, subst₂, arith, ℕ, ◌+◌, ◌*◌, ◌^◌, ◌<◌, ◌≤◌, true, false, true≢false, List, [], length, codes, Option, Some, None, Ok, Err, IsUtf8}
use Rattle.std.specs.List.{AllByRecursion}
use Rattle.std.specs.Str.{chars, is_utf8}
use Rattle.std.proofs.lemmas.Str.{IsUtf8-from_is_utf8}
use Rattle.sqlite.specs.Schema.{Schema}
use Rattle.sqlite.specs.Table.{Table}
use Rattle.sqlite.specs.Order.{Row, value_cmp}
use Rattle.sqlite.specs.Command.TheVariants.{CreateTable}
use Rattle.sqlite.specs.Compile.{table_defined_by}
use Rattle.sqlite.specs.Change.{automatics, created, is_reserved, is_used, next_tree}
use Rattle.sqlite.specs.Does.{Does, MakesTable, lacks_sequence}
use Rattle.sqlite.specs.Effect.{Database}
use Rattle.sqlite.specs.Listing.{understood}
use Rattle.sqlite.specs.State.{State, mode_of, text_of}
use Rattle.sqlite.specs.declared.error.Error.{Error}
use Rattle.sqlite.specs.declared.run.Mode.{Mode}
use Rattle.sqlite.specs.declared.types.Value.TheVariants.{Text}
use Rattle.sqlite.proofs.Callers.{IsPlain, command_of, statement_of}
use Rattle.sqlite_catalog.specs.Calls.{RefusesTable}
use Rattle.sqlite_catalog.specs.Listing.{is_fit, is_formed}
use Rattle.sqlite_catalog.specs.declared.error.Refusal.{Refusal}
use Rattle.sqlite_catalog.specs.declared.error.Refusal.TheVariants.{Invalid, NameTaken, BadName, TooBig, BadKey, BadText, Violates}
use Rattle.sqlite_resolve.specs.declared.compiled.Compiled.{Compiled}
use Rattle.sqlite_rules.specs.Lists.{Has}
use Rattle.sqlite_rules.proofs.ListLemmas.{all_has}
use Rattle.sqlite_schema.specs.Rules.{index_reals, table_reals}
use Rattle.sqlite_tied.specs.Compute.{everything}
use Rattle.sqlite_trees.specs.Sound as sound
use Rattle.csi_sql.specs.Failing.{SqlRefuses}
use Rattle.csi_sql.specs.Tables.{no_schema, one_schema, two_schema, meta, volumes, attachments, meta_text, volumes_text, attachments_text}
use Rattle.csi_sql.specs.facts.Steps.{same_value}
use Rattle.csi_sql.proofs.CreateLemmas.{IsCreate, attachments_create, meta_create, volumes_create}

-- each reason to refuse a CREATE does not hold
pub record IsSureCreate (before : Schema) (text : List ℕ) (table : Table) : Type 0 where
  pub create : IsCreate before text table
  pub utf8 : is_utf8 text ≡ true
  pub short : 2 * length table.name + length text + 200 < 10 ^ 9
  pub free : is_used before table.name ≡ false
  pub indexes_free : AllByRecursion (λ i. is_used before i.name ≡ false) (automatics table 0 0 table.uniques)
  pub named : is_utf8 table.name ≡ true
  pub unreserved : is_reserved table.name ≡ false
  pub few : next_tree before + length table.uniques < 65536
  pub low : table_reals table < 2 ^ 64
  pub keys_low : AllByRecursion (λ key. index_reals (table_reals table) key < 2 ^ 64) table.uniques
  pub formed : is_formed table ≡ true
  pub fit : is_fit (Text (codes "table")) (Text table.name) (Text table.name) (Text text) ≡ true

pub meta_sure : IsSureCreate no_schema meta_text meta
unfolding everything is_utf8 chars lib.Utf8.encode sound.fits_kind sound.is_free_name sound.begins sound.same_name value_cmp lib.Ieee.is_nan lib.Ieee.lt
meta_sure = record {
  create = meta_create;
  utf8 = refl;
  short = omega arith;
  free = refl;
  indexes_free = tt;
  named = refl;
  unreserved = refl;
  few = omega arith;
  low = omega arith;
  keys_low = tt;
  formed = refl;
  fit = refl;
}

pub volumes_sure : IsSureCreate one_schema volumes_text volumes
unfolding everything is_utf8 chars lib.Utf8.encode sound.fits_kind sound.is_free_name sound.begins sound.same_name value_cmp lib.Ieee.is_nan lib.Ieee.lt
volumes_sure = record {
  create = volumes_create;
  utf8 = refl;
  short = omega arith;
  free = refl;
  indexes_free = (refl, tt);
  named = refl;
  unreserved = refl;
  few = omega arith;
  low = omega arith;
  keys_low = (omega arith, tt);
  formed = refl;
  fit = refl;
}

pub attachments_sure : IsSureCreate two_schema attachments_text attachments
unfolding everything is_utf8 chars lib.Utf8.encode sound.fits_kind sound.is_free_name sound.begins sound.same_name value_cmp lib.Ieee.is_nan lib.Ieee.lt
attachments_sure = record {
  create = attachments_create;
  utf8 = refl;
  short = omega arith;
  free = refl;
  indexes_free = (refl, tt);
  named = refl;
  unreserved = refl;
  few = omega arith;
  low = omega arith;
  keys_low = (omega arith, tt);
  formed = refl;
  fit = refl;
}

module _ {before : Schema} {text : List ℕ} {table : Table} (it : IsSureCreate before text table) where
  same : (other : Table) → table_defined_by text ≡ Ok other → other ≡ table
  same other is = same_value (sym is ∙ it.create.table_is)

  refuses_none : (reason : Refusal) → RefusesTable before text reason → ⊥
  refuses_none (Invalid e) is = absurd (let both = sym it.create.table_is ∙ is in cc)
  refuses_none NameTaken (other, is, inl used) = true≢false (sym used ∙ ap (λ (t : Table). is_used before t.name) (same other is) ∙ it.free)
  refuses_none NameTaken (other, is, inr (index, has, used)) =
      let has = subst (λ (t : Table). Has (automatics t 0 0 t.uniques) index) (same other is) has in
      true≢false (sym used ∙ all_has (λ i. is_used before i.name ≡ false) _ index it.indexes_free has)
  refuses_none BadName (other, is, inl none) = none (subst (λ (t : Table). IsUtf8 t.name) (sym (same other is)) (IsUtf8-from_is_utf8 table.name it.named))
  refuses_none BadName (other, is, inr (reserved, own)) = true≢false (sym reserved ∙ ap (λ (t : Table). is_reserved t.name) (same other is) ∙ it.unreserved)
  refuses_none TooBig (other, is, inl many) =
      let many : 65536 ≤ next_tree before + length table.uniques = subst (λ (t : Table). 65536 ≤ next_tree before + length t.uniques) (same other is) many in
      omega (arith, many, it.few)
  refuses_none TooBig (other, is, inr (inl high)) =
      let high : 2 ^ 64 ≤ table_reals table = subst (λ (t : Table). 2 ^ 64 ≤ table_reals t) (same other is) high in
      omega (arith, high, it.low)
  refuses_none TooBig (other, is, inr (inr (key, has, high))) =
      let has : Has table.uniques key = subst (λ (t : Table). Has t.uniques key) (same other is) has in
      let high : 2 ^ 64 ≤ index_reals (table_reals table) key = subst (λ (t : Table). 2 ^ 64 ≤ index_reals (table_reals t) key) (same other is) high in
      let low = all_has (λ key. index_reals (table_reals table) key < 2 ^ 64) table.uniques key it.keys_low has in
      omega (arith, high, low)
  refuses_none BadKey (other, is, none) = true≢false (sym it.formed ∙ sym (ap is_formed (same other is)) ∙ none)
  refuses_none BadText (other, is, none) =
      true≢false (sym it.fit ∙ sym (ap (λ (t : Table). is_fit (Text (codes "table")) (Text t.name) (Text t.name) (Text text)) (same other is)) ∙ none)
  refuses_none (Violates rule) none = none

  makes_all : (db : Database) → db.schema ≡ before → (stop : Option Error) → MakesTable text db (Err stop) → ⊥
  makes_all db has None long =
      let long : 10 ^ 9 ≤ 2 * length table.name + length text + 200 = subst (λ (t : Table). 10 ^ 9 ≤ 2 * length t.name + length text + 200) (same long.0 long.1) long.2 in
      omega (arith, long, it.short)
  makes_all db has (Some e) (inl none) = none.0 (IsUtf8-from_is_utf8 text it.utf8)
  makes_all db has (Some e) (inr why) = refuses_none why.0 (subst (λ s. RefusesTable s text why.0) has why.1)

  does_all : (limit : Option ℕ) (mode : Mode) (params : Row) (db : Database) → db.schema ≡ before → (stop : Option Error) → Does limit mode params db text None CreateTable (Err stop) → ⊥
  does_all limit mode params db has stop (inl (first, inl (second, made, is), was)) = makes_all db has second made
  does_all limit mode params db has stop (inl (first, inr (after, made, counted), was)) =
      let plain : lacks_sequence after.schema ≡ false = ap lacks_sequence (made.is ∙ ap (λ s. created s made.table) has ∙ ap (created before) (same made.table made.defined)) ∙ it.create.uncounted in
      absurd (let e = rw plain at counted in cc)
  does_all limit mode params db has stop (inr (after, made, is)) = absurd (let e = is in cc)

  runs_all : (s : State) (c : Compiled) → s.now.schema ≡ before → understood s.now.schema text ≡ Ok c → (stop : Option Error) → Does s.step_limit (mode_of s) [] s.now (text_of text c) c.returning c.command (Err stop) → ⊥
  runs_all s c has is stop does =
      let known = sym is ∙ ap (λ x. understood x text) has in
      let bare = subst IsPlain (sym known) it.create.plain in
      does_all s.step_limit (mode_of s) [] s.now has stop
      (subst₂ (λ k t. Does s.step_limit (mode_of s) [] s.now t None k (Err stop)) (ap command_of known ∙ it.create.command) (ap (statement_of text) known ∙ it.create.whole) (rw bare.0 at does))

  pub never_refused : (s : State) (e : Error) → s.now.schema ≡ before → SqlRefuses text [] s e → ⊥
  never_refused s e has (c, is, inl refused) = runs_all s c has is (Some e) refused
  never_refused s e has (c, is, inr long) = runs_all s c has is None long.1
