-- A line in its parts.
use Rattle.std.proofs.Common.{◌≡◌, ◌≢◌, ◌==◌, ◌∙◌, ℕ, List, [], length, false, true≢false, ap, sym, subst}
use Rattle.csi_vectors.specs.Lines.{HasSpace, IsLineOf, Spells, head, tail}

pub not_empty : (text : List ℕ) → false ≡ (length text == 0) → text ≢ []
not_empty text h e = true≢false (sym (h ∙ ap (λ (l : List ℕ). length l == 0) e))

pub line_read : (line name rest digits others input output : List ℕ) → name ≡ head line → rest ≡ tail line → HasSpace line → digits ≡ head rest → others ≡ tail rest → HasSpace rest
    → false ≡ (length name == 0) → Spells digits input → Spells others output → IsLineOf line name input output
line_read line name rest digits others input output n r first d o second named i out = record {
  first = first;
  second = subst HasSpace r second;
  name_is = n;
  named = not_empty name named;
  input_is = subst (λ (l : List ℕ). Spells l input) (d ∙ ap head r) i;
  output_is = subst (λ (l : List ℕ). Spells l output) (o ∙ ap tail r) out;
}
