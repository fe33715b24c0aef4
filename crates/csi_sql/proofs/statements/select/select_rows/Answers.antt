use Rattle.std.proofs.Common.{◌≡◌, ◌⊎◌, inl, inr, ◌∙◌, ap, sym, ℕ, [], ◌∷◌}
use Rattle.sqlite.specs.declared.types.Value.TheVariants.{Text}
use Rattle.csi_sql.specs.Rows.{number_value}
use Rattle.csi_sql.specs.Selecting.{given}
use Rattle.csi_sql.specs.declared.statements.select.Select.{Select}
use Rattle.csi_sql.specs.declared.statements.select.Select.TheVariants.{Numbered, Nodes, Named, Sizes, Attached}
use Rattle.csi_sql.proofs.ReadLemmas.{selects_over}
use Rattle.csi_sql.proofs.statements.select.select_rows.Goals as goal
use Rattle.csi_sql.proofs.statements.select.select_rows.Goals.{in-Numbered, in-Numbered-2, in-Named, in-Named-2, in-Named-3}

-- SELECTs that have the same parameters
by_number : (q : Select) (number : ℕ) → (q ≡ Numbered number) ⊎ (q ≡ Nodes number) → number_value number ∷ [] ≡ given q
by_number q number (inl is) = sym (ap given is)
by_number q number (inr is) = sym (ap given is)

by_words : (q : Select) (words : _) → (q ≡ Named words) ⊎ ((q ≡ Sizes words) ⊎ (q ≡ Attached words)) → Text words.now ∷ [] ≡ given q
by_words q words (inl is) = sym (ap given is)
by_words q words (inr (inl is)) = sym (ap given is)
by_words q words (inr (inr is)) = sym (ap given is)

pub returns-in-Numbered-clause-selects : goal.returns-in-Numbered-clause-selects
returns-in-Numbered-clause-selects g c =
    let same : number_value c.in-Numbered-1.number ∷ [] ≡ given c.args.read.now = elim c.in-Numbered-1.branch [
      | in-Numbered w ↦ rw w.number-is (by_number c.args.read.now w.in-Numbered.number w.in-Numbered.is)
      | in-Numbered-2 w ↦ rw w.number-is (by_number c.args.read.now w.in-Numbered.number w.in-Numbered.is)
    ] in
    selects_over {g = g.S.Store} {old = c.args.tx.now.conn.now} {new = c.query_all-in-Numbered.new.self.conn.now} c.args.read.now _ _ c.text_of-text.ensures same (λ v. v.items) c.query_all-in-Numbered.result (rw c.integer-in-Numbered.ensures at c.query_all-in-Numbered.ensures.ok) (rw c.integer-in-Numbered.ensures at c.query_all-in-Numbered.ensures.err) c.query_all-in-Numbered.ensures.survives

pub returns-in-Named-clause-selects : goal.returns-in-Named-clause-selects
returns-in-Named-clause-selects g c =
    let same : Text c.in-Named-1.words.now ∷ [] ≡ given c.args.read.now = elim c.in-Named-1.branch [
      | in-Named w ↦ rw w.words-is (by_words c.args.read.now w.in-Named.words w.in-Named.is)
      | in-Named-2 w ↦ rw w.words-is (by_words c.args.read.now w.in-Named.words w.in-Named.is)
      | in-Named-3 w ↦ rw w.words-is (by_words c.args.read.now w.in-Named.words w.in-Named.is)
    ] in
    selects_over {g = g.S.Store} {old = c.args.tx.now.conn.now} {new = c.query_all-in-Named.new.self.conn.now} c.args.read.now _ _ c.text_of-text.ensures (ap (λ t. Text t ∷ []) c.as_bytes.ensures.value ∙ same) (λ v. v.items) c.query_all-in-Named.result c.query_all-in-Named.ensures.ok c.query_all-in-Named.ensures.err c.query_all-in-Named.ensures.survives

pub returns-in-Page-clause-selects : goal.returns-in-Page-clause-selects
returns-in-Page-clause-selects g c = selects_over {g = g.S.Store} {old = c.args.tx.now.conn.now} {new = c.query_all.new.self.conn.now} c.args.read.now _ _ c.text_of-text.ensures (sym (ap given c.in-Page.is)) (λ v. v.items) c.query_all.result (rw (c.integer-in-Page.ensures, c.integer.ensures, c.from.ensures) at c.query_all.ensures.ok) (rw (c.integer-in-Page.ensures, c.integer.ensures, c.from.ensures) at c.query_all.ensures.err) c.query_all.ensures.survives

pub returns-in-Places-clause-selects : goal.returns-in-Places-clause-selects
returns-in-Places-clause-selects g c = selects_over {g = g.S.Store} {old = c.args.tx.now.conn.now} {new = c.query_all-in-Places.new.self.conn.now} c.args.read.now _ _ c.text_of-text.ensures (sym (ap given c.in-Places.is)) (λ v. v.items) c.query_all-in-Places.result (rw (c.integer-in-Places.ensures, c.integer-in-Places-2.ensures) at c.query_all-in-Places.ensures.ok) (rw (c.integer-in-Places.ensures, c.integer-in-Places-2.ensures) at c.query_all-in-Places.ensures.err) c.query_all-in-Places.ensures.survives
