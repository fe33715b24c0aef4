-- Printable ASCII holds no banned character.
use Rattle.std.proofs.Common.{◌≡◌, ℕ, ◌<◌, true, false, List, ◌∙◌, ap, tests, rules}
use Rattle.std.specs.List.{list_all, list_any}
use Rattle.std.proofs.lemmas.List.Elements.{All-weaker}
use Rattle.std.proofs.lemmas.List.Folds.{list_any_none}
use Rattle.std.proofs.lemmas.List.Sums.{AllPass-from_list_all}
use Rattle.std.proofs.lemmas.Str.{chars-IsAscii}
use Rattle.std.proofs.lemmas.Str.Ascii.{IsAscii-from_all}
use Rattle.csi_types.specs.Names.{is_plain, is_banned, holds_banned}

small : (b : ℕ) → is_plain b ≡ true → b < 128
small b plain = search (rules, tests)

clear : (b : ℕ) → is_plain b ≡ true → is_banned b ≡ false
clear b plain = search (rules, tests)

pub plain_clear : (text : List ℕ) → list_all is_plain text ≡ true → holds_banned text ≡ false
plain_clear text all =
    let each = AllPass-from_list_all is_plain text all in
    ap (list_any is_banned) (chars-IsAscii text (IsAscii-from_all text (All-weaker _ (λ b. b < 128) small text each)))
    ∙ list_any_none is_banned text (All-weaker _ (λ b. is_banned b ≡ false) clear text each)
