-- The compiled form of a text, computed once: every other fact of a fixed text under the schema follows
-- from it.
use Rattle.std.proofs.Common.{◌≡◌, refl, sym, ap, subst, if◌then◌else◌, [], ◌∷◌, arith, codes, length, take, List, None, Ok, ℕ}
use Rattle.sqlite.specs.Command.{Command}
use Rattle.sqlite.specs.Command.TheVariants.{Select}
use Rattle.sqlite.specs.Given.{IsPlain}
use Rattle.sqlite.specs.Listing.{understood, listing_schema, if_select, misses_table}
use Rattle.sqlite.specs.Query.{Query}
use Rattle.sqlite.proofs.Callers.{command_of}
use Rattle.sqlite_resolve.specs.Compile.{compiled}
use Rattle.sqlite_resolve.specs.declared.compiled.Compiled.{Compiled}
use Rattle.csi_sql.specs.Tables.{schema}
use Rattle.csi_sql.specs.facts.Failing.{IsAlone, IsAloneWrite, IsSelect}
use Rattle.csi_sql.specs.facts.Writes.{IsCommand}

-- the names of `count` parameters
abbrev pub parameters : ℕ → List (List ℕ)
parameters count = take count (codes "?1" ∷ codes "?2" ∷ codes "?3" ∷ codes "?4" ∷ codes "?5" ∷ codes "?6" ∷ [])

-- one statement from the first byte of its text to the last, which returns nothing and does not read the time
abbrev pub whole : List ℕ → Command → ℕ → Compiled
whole text command count = record {
  command = command;
  returning = None;
  names = parameters count;
  formats = [];
  start = 0;
  end = length text;
  tail = length text;
}

-- the computed form: `refl` finds it, under `unfolding everything` of `sqlite_tied`
pub record Compiles (text : List ℕ) (command : Command) (count : ℕ) : Type 0 where
  pub is : compiled schema text ≡ Ok (whole text command count)

module _ {text : List ℕ} {command : Command} {count : ℕ} (compiles : Compiles text command count) where
  is_known : understood schema text ≡ Ok (whole text command count)
  unfolding understood
  is_known = subst (λ r. (if misses_table r then if_select (compiled listing_schema text) else r) ≡ Ok (whole text command count)) (sym compiles.is) refl

  is_plain : IsPlain (understood schema text)
  is_plain = subst IsPlain (sym is_known) (refl, refl)

  pub is_alone : length (parameters count) ≡ count → IsAlone text count (understood schema text)
  is_alone named = subst (IsAlone text count) (sym is_known) (omega arith, named, refl)

  pub is_alone_write : IsAloneWrite text count (Ok (whole text command count)) → IsAloneWrite text count (understood schema text)
  is_alone_write = subst (IsAloneWrite text count) (sym is_known)

  pub is_command : IsCommand text command
  is_command = record { is = ap command_of is_known; plain = is_plain }

abbrev pub selects : Query → List (List ℕ) → Command
selects q names = Select (record { lets = []; body = q }) names

pub is_select : {text : List ℕ} {q : Query} {names : List (List ℕ)} {count : ℕ} → Compiles text (selects q names) count → IsSelect schema text q
is_select compiles = record { names = _; is = ap command_of (is_known compiles); plain = is_plain compiles; unlisted = ap misses_table compiles.is }
