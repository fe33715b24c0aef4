-- Pages by their bytes, worked out by hand from docs/PROTOCOL.md, "The change store".
use Rattle.std.specs.Prelude.{ℕ, List, [], ◌∷◌, codes}
use Rattle.csi_change_store.specs.Pages.{Meta, Volume, Token, Skipped, IsPage}

-- 0a 04 0802 1001, which is format 2 and next number 1, and 22 00, no token
abbrev pub empty_page : List ℕ
empty_page = 10 ∷ 4 ∷ 8 ∷ 2 ∷ 16 ∷ 1 ∷ 34 ∷ 0 ∷ []

-- 48 07, a field of no meaning; 12 0c, a row: 08 07 is number 7, 12 01 78 the name x, 12 01 61 the name a, 18
-- 05 five bytes, 38 01 a field of no column; 22 01 74, the token t
abbrev pub volume_page : List ℕ
volume_page = 72 ∷ 7 ∷ 18 ∷ 12 ∷ 8 ∷ 7 ∷ 18 ∷ 1 ∷ 120 ∷ 18 ∷ 1 ∷ 97 ∷ 24 ∷ 5 ∷ 56 ∷ 1 ∷ 34 ∷ 1 ∷ 116 ∷ []

abbrev pub ReadsSample : Type 0
ReadsSample =
    IsPage empty_page (Meta (record { format = 2; next = 1 }) ∷ Token [] ∷ [])
    × IsPage volume_page (Skipped ∷ Volume (record { number = 7; name = codes "a"; bytes = 5; pool = []; caps = []; params = [] }) ∷ Token (codes "t") ∷ [])
