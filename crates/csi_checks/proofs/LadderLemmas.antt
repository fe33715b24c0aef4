-- The table of lines, and its parts.
use Rattle.std.proofs.Common.{◌≡◌, ◌∙◌, refl, sym, ap, ap₂, ◌++◌, Bool, List, Option, None, Some}
use Rattle.std.specs.List.{find}
use Rattle.std.specs.Option.{option_map, option_or}
use Rattle.std.proofs.lemmas.List.Folds.{find-append}
use Rattle.csi_types.specs.Checks.{Parts, lines}
use Rattle.csi_types.specs.Lines.{first_line}
use Rattle.csi_types.specs.declared.reason.Reason.{Reason}
use Rattle.csi_checks.specs.Parts.{kind_lines, size_lines, term_lines}

mapped : {X Y : Type 0} (f : X → Y) (o p : Option X) → option_map f (option_or o p) ≡ option_or (option_map f o) (option_map f p)
mapped f None p = refl
mapped f (Some x) p = refl

-- the first line of two tables is the first table's, or the second's if the first table is empty
pub cut : {A : Type 0} (front back : List (Reason × (A → Bool))) (a : A) → first_line (front ++ back) a ≡ option_or (first_line front a) (first_line back a)
cut front back a = ap (option_map (λ line. line.0)) (find-append (λ line. line.1 a) front back) ∙ mapped (λ line. line.0) (find (λ line. line.1 a) front) (find (λ line. line.1 a) back)

-- the first line of the whole table, from the first lines of its three parts
pub chained : (p : Parts) (kind size term : Option Reason) → kind ≡ first_line kind_lines p → size ≡ first_line size_lines p → term ≡ first_line term_lines p
    → option_or kind (option_or size term) ≡ first_line lines p
chained p kind size term a b c =
    ap₂ option_or a (ap₂ option_or b c ∙ sym (cut size_lines term_lines p)) ∙ sym (cut kind_lines (size_lines ++ term_lines) p)
