-- The texts of the statements, and their compiled forms under the schema.
use Rattle.std.proofs.Common.{◌≡◌, refl, [], ◌∷◌, arith, codes, length, List, Ok, ℕ}
use Rattle.sqlite.specs.Command.{Command}
use Rattle.sqlite.specs.Command.TheVariants.{Insert, Update, Delete}
use Rattle.sqlite.specs.Listing.{understood}
use Rattle.sqlite.specs.Query.{Query, inner, end}
use Rattle.sqlite.specs.Source.TheVariants.{Values}
use Rattle.sqlite.specs.Collation.TheVariants.{Binary}
use Rattle.sqlite.specs.Term.{Term, lit, col, op1, op2}
use Rattle.sqlite.specs.declared.types.Value.TheVariants.{Null}
use Rattle.sqlite_sql.specs.declared.ops.BinaryOp.TheVariants.{Compare}
use Rattle.sqlite_sql.specs.declared.ops.CompareOp.TheVariants.{Eq}
use Rattle.sqlite_sql.specs.declared.ops.UnaryOp.TheVariants.{ToNumeric}
use Rattle.sqlite_tied.specs.Compute.{everything}
use Rattle.csi_sql.specs.facts.Compiling as known
use Rattle.csi_sql.specs.facts.Compiling.{Compiles, parameters, selects, whole}
use Rattle.csi_sql.specs.facts.Failing.{IsAloneWrite, IsNeverRefused, IsSelect, IsSure, only_limit, sure_of}
use Rattle.csi_sql.specs.facts.Writes.{IsCommand}
use Rattle.csi_sql.specs.declared.formats.TheConstants.{LATEST_FORMAT}
use Rattle.csi_sql.specs.Selecting.{asked, given, query}
use Rattle.csi_sql.specs.Statements.{plain_query, number_query}
use Rattle.csi_sql.specs.Rows.{number_value}
use Rattle.csi_sql.specs.Tables.{schema}
use Rattle.csi_sql.specs.declared.statements.select.Select.{Select}
use Rattle.csi_sql.specs.declared.statements.select.Select.TheVariants.{Numbered, Named, Sizes, Page, Nodes, Attached, Places}
use Rattle.csi_sql.specs.Texts.{Write, arity, text, AddVolume, SetNext, SetFormat, SetParams, RemoveVolume, Attach, Detach, DetachAll}

-- ---- writes

-- SQL gives the rowid
abbrev pub attach_terms : List Term
attach_terms = lit Null ∷ col 0 0 ∷ col 0 1 ∷ col 0 2 ∷ col 0 3 ∷ []

-- the number is the rowid, and its own column is stored as NULL
abbrev pub add_terms : List Term
add_terms = col 0 0 ∷ lit Null ∷ col 0 1 ∷ col 0 2 ∷ col 0 3 ∷ col 0 4 ∷ col 0 5 ∷ []

-- an UPDATE asks for the rowid of each row that passes, and for each column's new value: the key's column is
-- stored as NULL
abbrev pub meta_query : Term → Term → Query
meta_query format next = record plain_query { project = col 1 0 ∷ col 1 0 ∷ lit Null ∷ format ∷ next ∷ [] }

abbrev pub next_query : Query
next_query = meta_query (col 1 2) (col 0 0)

abbrev pub format_query : Query
format_query = meta_query (lit (number_value LATEST_FORMAT)) (col 1 3)

abbrev pub params_query : Query
params_query = record plain_query {
  from = inner 1 end;
  filter = op2 (Compare Eq Binary) (col 1 0) (col 0 0) ∷ [];
  project = col 1 0 ∷ col 1 0 ∷ lit Null ∷ col 1 2 ∷ col 1 3 ∷ col 1 4 ∷ col 1 5 ∷ col 0 1 ∷ [];
}

-- a DELETE asks for the rowids of the rows that pass
abbrev pub remove_query : Query
remove_query = record plain_query { from = inner 1 end; filter = op2 (Compare Eq Binary) (col 1 0) (col 0 0) ∷ []; project = col 1 0 ∷ [] }

abbrev pub detach_query : Query
detach_query = record plain_query { from = inner 3 end; filter = op2 (Compare Eq Binary) (col 1 1) (op1 ToNumeric (col 0 0)) ∷ op2 (Compare Eq Binary) (col 1 2) (col 0 1) ∷ []; project = col 1 0 ∷ [] }

abbrev pub detach_all_query : Query
detach_all_query = record plain_query { from = inner 3 end; filter = op2 (Compare Eq Binary) (col 1 1) (op1 ToNumeric (col 0 0)) ∷ []; project = col 1 0 ∷ [] }

abbrev pub command : Write → Command
command AddVolume = Insert 1 (Values add_terms 7)
command SetNext = Update 0 (record { lets = []; body = next_query })
command SetFormat = Update 0 (record { lets = []; body = format_query })
command SetParams = Update 1 (record { lets = []; body = params_query })
command RemoveVolume = Delete 1 (record { lets = []; body = remove_query })
command Attach = Insert 2 (Values attach_terms 5)
command Detach = Delete 2 (record { lets = []; body = detach_query })
command DetachAll = Delete 2 (record { lets = []; body = detach_all_query })

compiles_write : (w : Write) → Compiles (text w) (command w) (arity w)
unfolding everything
compiles_write AddVolume = record { is = refl }
compiles_write SetNext = record { is = refl }
compiles_write SetFormat = record { is = refl }
compiles_write SetParams = record { is = refl }
compiles_write RemoveVolume = record { is = refl }
compiles_write Attach = record { is = refl }
compiles_write Detach = record { is = refl }
compiles_write DetachAll = record { is = refl }

pub is_command : (w : Write) → IsCommand (text w) (command w)
is_command w = known.is_command (compiles_write w)

whole_alone : (w : Write) → IsAloneWrite (text w) (arity w) (Ok (whole (text w) (command w) (arity w)))
whole_alone AddVolume = (omega arith, refl, refl, tt, refl)
whole_alone SetNext = (omega arith, refl, refl, tt, refl)
whole_alone SetFormat = (omega arith, refl, refl, tt, refl)
whole_alone SetParams = (omega arith, refl, refl, tt, refl)
whole_alone RemoveVolume = (omega arith, refl, refl, tt, refl)
whole_alone Attach = (omega arith, refl, refl, tt, refl)
whole_alone Detach = (omega arith, refl, refl, tt, refl)
whole_alone DetachAll = (omega arith, refl, refl, tt, refl)

pub alone : (w : Write) → IsAloneWrite (text w) (arity w) (understood schema (text w))
alone w = known.is_alone_write (compiles_write w) (whole_alone w)

-- ---- reads

abbrev volume_names : List (List ℕ)
volume_names = codes "number" ∷ codes "name" ∷ codes "bytes" ∷ codes "pool" ∷ codes "caps" ∷ codes "params" ∷ []

-- the names of the columns that a SELECT shows
abbrev shown_names : Select → List (List ℕ)
shown_names (Numbered number) = volume_names
shown_names (Named name) = volume_names
shown_names (Sizes pool) = codes "bytes" ∷ []
shown_names (Page after count) = volume_names
shown_names (Nodes number) = codes "node" ∷ codes "cap" ∷ codes "readonly" ∷ []
shown_names (Attached node) = codes "number" ∷ []
shown_names (Places after last) = codes "number" ∷ codes "node" ∷ []

compiles_select : (q : Select) → Compiles (asked q) (selects (query q) (shown_names q)) (length (given q))
unfolding everything
compiles_select (Numbered number) = record { is = refl }
compiles_select (Named name) = record { is = refl }
compiles_select (Sizes pool) = record { is = refl }
compiles_select (Page after count) = record { is = refl }
compiles_select (Nodes number) = record { is = refl }
compiles_select (Attached node) = record { is = refl }
compiles_select (Places after last) = record { is = refl }

pub is_select : (q : Select) → IsSelect schema (asked q) (query q)
is_select q = known.is_select (compiles_select q)

abbrev pub number_text : List ℕ
number_text = codes "SELECT next_number FROM meta"

compiles_number : Compiles number_text (selects number_query (codes "next_number" ∷ [])) 0
unfolding everything
compiles_number = record { is = refl }

pub number_select : IsSelect schema number_text number_query
number_select = known.is_select compiles_number

-- the query is refused only for a limit on its steps
pub number_sure : IsSure schema number_text ([])
number_sure = sure_of ([]) number_select (known.is_alone compiles_number refl) (λ limit db e h. only_limit h (λ over. over.4))

each_named : (q : Select) → length (parameters (length (given q))) ≡ length (given q)
each_named (Numbered number) = refl
each_named (Named name) = refl
each_named (Sizes pool) = refl
each_named (Page after count) = refl
each_named (Nodes number) = refl
each_named (Attached node) = refl
each_named (Places after last) = refl

never_refused : (q : Select) → IsNeverRefused schema (given q) (query q)
never_refused (Numbered number) limit db e h = only_limit h (λ over. over.4)
never_refused (Named name) limit db e h = only_limit h (λ over. over.4)
never_refused (Sizes pool) limit db e h = only_limit h (λ over. over.4)
never_refused (Page after count) limit db e h = only_limit h (λ over. over.4)
never_refused (Nodes number) limit db e h = only_limit h (λ over. over.4)
never_refused (Attached node) limit db e h = only_limit h (λ over. over.4)
never_refused (Places after last) limit db e h = only_limit h (λ over. over.4)

pub is_sure : (q : Select) → IsSure schema (asked q) (given q)
is_sure q = sure_of (given q) (is_select q) (known.is_alone (compiles_select q) (each_named q)) (never_refused q)
