-- The CHECK of meta, that is read from its plan.
use Rattle.std.proofs.Common.{◌≡◌, ◌≢◌, ◌∙◌, refl, sym, ap, ap₂, subst, ℕ, zero, suc, pos, List, [], ◌∷◌, length, Some, slice_get, slice_index_or, Bool, IsTrue, ◌↔◌}
use Rattle.sqlite.specs.Collation.TheVariants.{Binary as ByBytes}
use Rattle.sqlite.specs.declared.types.Value.TheVariants.{Null, Int}
use Rattle.sqlite.specs.Term.{Term, lit, col, op2}
use Rattle.sqlite_sql.specs.declared.ops.BinaryOp.TheVariants.{Compare}
use Rattle.sqlite_sql.specs.declared.ops.CompareOp.TheVariants.{Eq}
use Rattle.sqlite_schema.specs.declared.code.Op.{Op}
use Rattle.sqlite_schema.specs.declared.code.Op.TheVariants.{Literal, Column, Unary, Binary, Case}
use Rattle.sqlite_schema.specs.Code.{op_term, term_to, terms_in}
use Rattle.csi_sql.specs.Ours.{IsKeyCheck}
use Rattle.csi_sql.specs.Tables.{meta}

got : (ops : List Op) (at : ℕ) (op : Op) → slice_get ops at ≡ Some op → slice_index_or ops at (Literal Null) ≡ op
got [] at op h = cc
got (o ∷ ops) zero op h = cc
got (o ∷ ops) (suc at) op h = got ops at op h

at_depth : (ops : List Op) (depth root a b : ℕ) → slice_get ops root ≡ Some (Binary (Compare Eq ByBytes) a b) → slice_get ops a ≡ Some (Column 1 0) → slice_get ops b ≡ Some (Literal (Int (pos 1)))
    → term_to ops (suc (suc depth)) root ≡ op2 (Compare Eq ByBytes) (col 1 0) (lit (Int (pos 1)))
at_depth ops depth root a b p q r = rw (got ops root _ p, got ops a _ q, got ops b _ r) refl

pub check_is : (ops : List Op) (root a b : ℕ) → slice_get ops root ≡ Some (Binary (Compare Eq ByBytes) a b) → slice_get ops a ≡ Some (Column 1 0) → slice_get ops b ≡ Some (Literal (Int (pos 1)))
    → terms_in ops (root ∷ []) ≡ meta.checks
check_is [] root a b p q r = absurd cc
check_is (o ∷ []) zero zero b p q r = absurd cc
check_is (o ∷ []) zero (suc a) b p q r = absurd cc
check_is (o ∷ []) (suc root) a b p q r = absurd cc
check_is (o ∷ o′ ∷ ops) root a b p q r = ap (λ t. t ∷ []) (at_depth (o ∷ o′ ∷ ops) (length ops) root a b p q r)

-- ---- and back

no_default : (op : Op) → op ≢ Literal Null → (ops : List Op) (at : ℕ) → slice_index_or ops at (Literal Null) ≡ op → slice_get ops at ≡ Some op
no_default op other [] at h = absurd (other (sym h))
no_default op other (o ∷ ops) zero h = cc
no_default op other (o ∷ ops) (suc at) h = no_default op other ops at h

is_column : (ops : List Op) (depth at : ℕ) → term_to ops depth at ≡ col 1 0 → slice_get ops at ≡ Some (Column 1 0)
is_column ops zero at h = absurd cc
is_column ops (suc depth) at h = go (slice_index_or ops at (Literal Null)) refl h
  where
    go : (op : Op) → slice_index_or ops at (Literal Null) ≡ op → op_term (term_to ops depth) op ≡ col 1 0 → slice_get ops at ≡ Some (Column 1 0)
    go (Literal v) e h = absurd cc
    go (Column s k) e h = no_default (Column 1 0) (λ f. absurd cc) ops at (e ∙ (let m : s ≡ 1 = cc in let n : k ≡ 0 = cc in ap₂ Column m n))
    go (Unary op a) e h = absurd cc
    go (Binary op a b) e h = absurd cc
    go (Case t a b) e h = absurd cc

is_one : (ops : List Op) (depth at : ℕ) → term_to ops depth at ≡ lit (Int (pos 1)) → slice_get ops at ≡ Some (Literal (Int (pos 1)))
is_one ops zero at h = absurd cc
is_one ops (suc depth) at h = go (slice_index_or ops at (Literal Null)) refl h
  where
    go : (op : Op) → slice_index_or ops at (Literal Null) ≡ op → op_term (term_to ops depth) op ≡ lit (Int (pos 1)) → slice_get ops at ≡ Some (Literal (Int (pos 1)))
    go (Literal v) e h = no_default (Literal (Int (pos 1))) (λ f. absurd cc) ops at (e ∙ (let m : v ≡ Int (pos 1) = cc in ap Literal m))
    go (Column s k) e h = absurd cc
    go (Unary op a) e h = absurd cc
    go (Binary op a b) e h = absurd cc
    go (Case t a b) e h = absurd cc

parts : (ops : List Op) (depth root : ℕ) → term_to ops depth root ≡ op2 (Compare Eq ByBytes) (col 1 0) (lit (Int (pos 1))) → IsKeyCheck ops root
parts ops zero root h = absurd cc
parts ops (suc depth) root h = go (slice_index_or ops root (Literal Null)) refl h
  where
    go : (op : Op) → slice_index_or ops root (Literal Null) ≡ op → op_term (term_to ops depth) op ≡ op2 (Compare Eq ByBytes) (col 1 0) (lit (Int (pos 1))) → IsKeyCheck ops root
    go (Literal v) e h = absurd cc
    go (Column s k) e h = absurd cc
    go (Unary op a) e h = absurd cc
    go (Binary op a b) e h =
        let o : op ≡ Compare Eq ByBytes = cc in
        let first : term_to ops depth a ≡ col 1 0 = cc in
        let second : term_to ops depth b ≡ lit (Int (pos 1)) = cc in
        (a, b, no_default (Binary (Compare Eq ByBytes) a b) (λ f. absurd cc) ops root (e ∙ ap (λ o. Binary o a b) o), is_column ops depth a first, is_one ops depth b second)
    go (Case t a b) e h = absurd cc

pub check_back : (ops : List Op) (roots : List ℕ) → terms_in ops roots ≡ meta.checks → (root : ℕ) × (roots ≡ root ∷ []) × IsKeyCheck ops root
check_back ops [] h = absurd cc
check_back ops (root ∷ []) h = (root, refl, parts ops (length ops) root cc)
check_back ops (root ∷ other ∷ roots) h = absurd cc

pub key_reports : (ops : List Op) (roots : List ℕ) (root : ℕ) (all : List Term) → terms_in ops roots ≡ all → roots ≡ root ∷ [] → (r : Bool) → IsTrue r ↔ IsKeyCheck ops root → IsTrue r ↔ all ≡ meta.checks
key_reports ops roots root all view one r reports = (
  λ t. let it = reports.0 t in sym view ∙ ap (terms_in ops) one ∙ check_is ops root it.0 it.1 it.2 it.3 it.4,
  λ e. let it = check_back ops roots (view ∙ e) in
      let same : root ≡ it.0 = let both : root ∷ [] ≡ it.0 ∷ [] = sym one ∙ it.1 in cc in
      reports.1 (subst (IsKeyCheck ops) (sym same) it.2),
)

pub no_key : (ops : List Op) (roots : List ℕ) (all : List Term) → terms_in ops roots ≡ all → ((r : ℕ) → roots ≢ r ∷ []) → all ≢ meta.checks
no_key ops roots all view none e = let it = check_back ops roots (view ∙ e) in none it.0 it.1
