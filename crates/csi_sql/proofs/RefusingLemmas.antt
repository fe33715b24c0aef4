-- The reasons why a statement inside a transaction failed.
use Rattle.std.proofs.Common.{◌≡◌, ◌⊎◌, ◌∙◌, inl, inr, refl, sym, subst, ℕ, List, [], ◌∷◌, map, true, false, true≢false, Ok, Err, Result, IfErr, IsTrue, IsPermutation}
use Rattle.std.proofs.lemmas.List.Sorted.{length_permutation}
use Rattle.sqlite.specs.Listing.{understood}
use Rattle.sqlite.specs.Order.{Row}
use Rattle.sqlite.specs.Program.{overlay}
use Rattle.sqlite.specs.Query.{Output}
use Rattle.sqlite.specs.State.{State, FailsToQuery, IsTooLate, QueriesRow, QueriesRowInside, Shown}
use Rattle.sqlite.specs.declared.error.Error.{Error}
use Rattle.sqlite.specs.declared.types.Value.TheVariants.{Null}
use Rattle.sqlite.proofs.Callers.{IsPlain, reads_as}
use Rattle.csi_sql.specs.facts.Failing.{IsSure, fails_weaker, query_fails, sure_fails}
use Rattle.csi_sql.specs.Failing.{as_refused, FailsFor, FailsOver, Unrefused}
use Rattle.csi_sql.specs.Refusing.{HasNoNext, NothingRefuses}
use Rattle.csi_sql.specs.Statements.{number_query}
use Rattle.csi_sql.specs.Tables.{schema}
use Rattle.csi_sql.proofs.SelectLemmas.{shows_one}
use Rattle.csi_sql.proofs.TextLemmas.{number_text, number_select, number_sure}

asked : (text : List ℕ) (params : Row) (old new : State) (e : Error) → IsSure schema text params → old.now.schema ≡ schema → FailsToQuery text params old new e → FailsFor Unrefused old new e
asked text params old new e sure has h = sure_fails schema text params sure old new e has (query_fails text params old new e (subst (λ s. IsPlain (understood s text)) (sym has) sure.plain) h)

pub all_reported : {V : Type 0} (text : List ℕ) (params : Row) (old new : State) (r : Result V Error) → IsSure schema text params → IsTrue old.in_transaction
    → IfErr r (λ e. FailsToQuery text params old new e ⊎ IsTooLate text params old new e) → FailsOver schema NothingRefuses old new r
all_reported text params old new (Ok v) sure inside h has = tt
all_reported text params old new (Err e) sure inside (inl h) has = asked text params old new e sure has h
all_reported text params old new (Err e) sure inside (inr h) has = absurd (true≢false (sym inside ∙ h.3))

-- ---- the one row of meta

none_shown : (rows : List Row) (ordered : List Output) → [] ≡ map (λ (o : Output). o.1) ordered → IsPermutation (map (λ r. Rattle.sqlite.specs.Query.output number_query ([] ∷ r ∷ [])) (Rattle.std.proofs.Common.filter (λ r. true) rows)) ordered → rows ≡ []
none_shown [] ordered is same = refl
none_shown (r ∷ rows) [] is same = absurd (let e = length_permutation _ _ same in cc)
none_shown (r ∷ rows) (o ∷ ordered) is same = absurd cc

no_number : (old new : State) → old.now.schema ≡ schema → Shown number_text [] old new [] → old.now.trees 0 ≡ []
no_number old new has h =
    let it = shows_one 0 [] number_query.project [] (overlay old.now.trees []) [] [] ((reads_as number_text [] old new schema has _ number_select.is number_select.plain number_select.unlisted [] h).answer Null) in
    none_shown (old.now.trees 0) it.ordered it.shown_is it.same

pub number_reported : (old new : State) (r : Result Row Error) → IsTrue old.in_transaction → QueriesRowInside number_text [] old new r → FailsOver schema HasNoNext old new r
unfolding QueriesRow
number_reported old new (Ok row) inside h has = tt
number_reported old new (Err e) inside (inl (inl h)) has = fails_weaker Unrefused (HasNoNext old) old new e (λ none. absurd none) (asked number_text [] old new e number_sure has h)
number_reported old new (Err e) inside (inl (inr h)) has = as_refused (h.0, no_number old new has h.1)
number_reported old new (Err e) inside (inr h) has = absurd (true≢false (sym inside ∙ h.3))
