-- Texts in UTF-8, as a test and as a fact.
use Rattle.std.proofs.Common.{◌≡◌, ◌∙◌, refl, sym, ap, IsUtf8, ℕ, List, Bool, true, false, cond, ◌&&◌, not, Option, Some, None, Result, Ok, Err, MatchResult, Bor}
use Rattle.std.specs.Option.{is_none, is_some}
use Rattle.std.specs.Result.{is_ok}
use Rattle.std.specs.Str.{is_utf8}
use Rattle.std.proofs.lemmas.Str.{IsUtf8-from_is_utf8, is_utf8-from_IsUtf8}
use Rattle.csi_types.specs.declared.reason.Reason.{Reason}
use Rattle.csi_types.specs.Names.{refused_name}
use Rattle.csi_constraints.specs.Values.{if_passes, is_some_and}
use Rattle.csi_constraints.specs.Volumes.{is_name}

not_utf8 : (bytes : List ℕ) → (IsUtf8 bytes → ⊥) → is_utf8 bytes ≡ false
not_utf8 bytes none = go (is_utf8 bytes) refl
  where
    go : (b : Bool) → is_utf8 bytes ≡ b → is_utf8 bytes ≡ false
    go true e = absurd (none (IsUtf8-from_is_utf8 bytes e))
    go false e = e

pub utf8_reported : {E : Type 0} (bytes : List ℕ) (s : Result (Bor (List ℕ)) E) (Q : E → Type 0) (r : Bool) → MatchResult s (λ t. (t.now ≡ bytes) × IsUtf8 bytes) (λ e. (IsUtf8 bytes → ⊥) × Q e) → r ≡ is_ok s → r ≡ is_utf8 bytes
utf8_reported bytes (Ok t) Q r h e = e ∙ sym (is_utf8-from_IsUtf8 bytes h.1)
utf8_reported bytes (Err x) Q r h e = e ∙ sym (not_utf8 bytes h.0)

pub text_kept : (bytes text : List ℕ) → text ≡ bytes → IsUtf8 bytes → Some text ≡ if_passes is_utf8 (Some bytes)
text_kept bytes text same good = ap Some same ∙ sym (ap (λ b. cond b (Some bytes) None) (is_utf8-from_IsUtf8 bytes good))

pub text_left : (bytes : List ℕ) → (IsUtf8 bytes → ⊥) → None ≡ if_passes is_utf8 (Some bytes)
text_left bytes none = sym (ap (λ b. cond b (Some bytes) None) (not_utf8 bytes none))

fine : List ℕ → Bool
fine text = is_none (refused_name text)

none_reported : (o : Option Reason) (r : Bool) → is_some o ≡ not r → r ≡ is_none o
none_reported None true e = refl
none_reported None false e = absurd (cc)
none_reported (Some x) true e = absurd (cc)
none_reported (Some x) false e = refl

name_reported : (bytes : List ℕ) (o : Option (List ℕ)) → o ≡ if_passes is_utf8 (Some bytes) → is_some_and fine o ≡ is_name bytes
unfolding fine
name_reported bytes o e = ap (is_some_and fine) e ∙ go (is_utf8 bytes)
  where
    go : (b : Bool) → is_some_and fine (cond b (Some bytes) None) ≡ (b && fine bytes)
    go true = refl
    go false = refl

pub is_a_name : (bytes text : List ℕ) (o : Option Reason) (r : Bool) → Some text ≡ if_passes is_utf8 (Some bytes) → o ≡ refused_name text → is_some o ≡ not r → r ≡ is_name bytes
unfolding fine
is_a_name bytes text o r same is reported = none_reported o r reported ∙ ap is_none is ∙ name_reported bytes (Some text) same

pub is_no_name : (bytes : List ℕ) → None ≡ if_passes is_utf8 (Some bytes) → false ≡ is_name bytes
is_no_name bytes none = name_reported bytes None none
