-- Pages, one volume more at a time.
use Rattle.std.specs.declared.alloc.AllocError.{AllocError}
use Rattle.std.proofs.Common.{◌≡◌, ◌∙◌, ◌+◌, ◌<◌, add-one, cond, find, true, ap, ap₂, arith, refl, subst, sym, ℕ, zero, suc, List, [], ◌∷◌, ◌++◌, map, take, drop, length, get_or, append_assoc, Result, Ok, Err, OnOk, Some, Bool, false, ◌||◌}
use Rattle.std.proofs.Math.Seq.{drop-append_seam, take-append_seam}
use lib.Pointwise.{bytes_decides}
use Rattle.csi_types.specs.Maps.{same_text}
use Rattle.csi_types.specs.declared.responses.Response.TheVariants as response
use Rattle.csi_types.specs.declared.volume.Entry.{Entry}
use Rattle.csi_codec.specs.Methods.{response_bytes}
use Rattle.csi_codec.specs.facts.Listing.{listing_more, listing_token}
use Rattle.csi_keeper.specs.Listing.{listed_of, listing}
use Rattle.csi_keeper.specs.State.{State, beyond, page}
use Rattle.csi_keeper.specs.Texts.{Text}
use Rattle.csi_keeper.specs.declared.change.StoreFault.{StoreFault}
use Rattle.csi_keeper.specs.declared.listed.Listed.{Listed}
use Rattle.csi_keeper.specs.declared.volume.Volume.{Volume}
use Rattle.csi_config.specs.declared.config.Config.{Config}
use Rattle.csi_types.specs.declared.requests.ListVolumes.{ListVolumes}
use Rattle.csi_keeper.specs.Keeper.{Reads}
use Rattle.csi_keeper.specs.Model.{Model}
use Rattle.csi_rules.specs.Finding.{Finds}
use Rattle.csi_rules.specs.Size.{whole}
use Rattle.csi_rules.specs.facts.Finding.{found_then, read_found}
use Rattle.csi_machine.specs.declared.body.Verdict.{Verdict}
use Rattle.csi_machine.specs.declared.body.Verdict.TheVariants as verdict
use Rattle.csi_machine.specs.declared.places.PoolPlacement.{PoolPlacement}
use Rattle.csi_machine.specs.Places.{ArePlaced, IsPlaced, entry_at, last_row}
use Rattle.csi_machine.specs.Pages.{HasWritten, IsPage, is_any, token_when}
use Rattle.csi_machine.specs.declared.page.Page.{Page}
use Rattle.csi_machine.specs.Verdicts.{IsReported, Report, reported_of, within}
use Rattle.csi_machine.specs.calls.Listing.{entries_for, last_of, list_after, list_volumes, listed, start_of, token_for, entry_of}

last_push : (after : ℕ) (rows : List Listed) (row : Listed) → last_row after (rows ++ row ∷ []) ≡ row.number
last_push after [] row = refl
last_push after (r ∷ rows) row = last_push r.number rows row

-- one volume is enough to know whether more volumes exist
token_one : (s : State) (last : ℕ) (vs : List Volume) → token_when last (is_any (map (listed_of s) (take 1 vs)) || false) ≡ token_for last vs
token_one s last [] = refl
token_one s last (v ∷ vs) = refl

last_listed : (s : State) (after : ℕ) (vs : List Volume) → last_row after (map (listed_of s) vs) ≡ last_of after vs
last_listed s after [] = refl
last_listed s after (v ∷ vs) = last_listed s v.number vs

entries_listed : (config : Config) (s : State) (vs : List Volume) → map (entry_at config) (map (listed_of s) vs) ≡ map (entry_of config s) vs
entries_listed config s [] = refl
entries_listed config s (v ∷ vs) = ap (λ es. entry_of config s v ∷ es) (entries_listed config s vs)

-- one of the placements that were kept
pub placed_at : (config : Config) (places : List PoolPlacement) (i : ℕ) (d : PoolPlacement) → i < length places → ArePlaced config places → IsPlaced config (get_or places i d)
placed_at config [] i d low all = absurd (omega (arith, low))
placed_at config (p ∷ places) zero d low all = all.0
placed_at config (p ∷ places) (suc i) d low all = placed_at config places i d (omega (arith, low)) all.1

-- one more placement was looked at
pub looked_past : (name : Text) (places : List PoolPlacement) (i : ℕ) (d : PoolPlacement) → i < length places → ((get_or places i d).pool ≡ name → ⊥) → find (λ p. same_text p.pool name) (drop i places) ≡ find (λ p. same_text p.pool name) (drop (i + 1) places)
looked_past name [] i d low far = absurd (omega (arith, low))
looked_past name (p ∷ places) zero d low far = go (same_text p.pool name) refl
  where
    go : (b : Bool) → same_text p.pool name ≡ b → cond b (Some p) (find (λ p. same_text p.pool name) places) ≡ find (λ p. same_text p.pool name) places
    go true t = absurd (far ((bytes_decides p.pool name).0 t))
    go false t = refl
looked_past name (p ∷ places) (suc i) d low far = rw add-one (rw add-one at (looked_past name places i d (omega (arith, low)) far))

pub found_here : (name : Text) (places : List PoolPlacement) (i : ℕ) (d : PoolPlacement) → i < length places → (get_or places i d).pool ≡ name → find (λ p. same_text p.pool name) (drop i places) ≡ Some (get_or places i d)
found_here name [] i d low is = absurd (omega (arith, low))
found_here name (p ∷ places) zero d low is = ap (λ b. cond b (Some p) (find (λ p. same_text p.pool name) places)) ((bytes_decides p.pool name).1 is)
found_here name (p ∷ places) (suc i) d low is = found_here name places i d (omega (arith, low)) is

-- a consequence of a fact after a success
pub then_ok : {X E : Type 0} {A B : Type 0} (r : Result X E) → (A → B) → OnOk r A → OnOk r B
then_ok (Ok x) f a = f a
then_ok (Err e) f a = a

map_push : {A B : Type 0} (f : A → B) (xs : List A) (x : A) → map f (xs ++ x ∷ []) ≡ map f xs ++ f x ∷ []
map_push f [] x = refl
map_push f (y ∷ xs) x = ap (λ ys. f y ∷ ys) (map_push f xs x)

-- one more volume of a page
pub written_more : (first was now : Page) (rows : List Listed) (row : Listed) → HasWritten first rows was → now.config.now ≡ was.config.now → now.last ≡ row.number → ArePlaced was.config.now now.places.items
    → now.body.items ≡ was.body.items ++ response_bytes (response.List (entry_at was.config.now row ∷ []) []) → HasWritten first (rows ++ row ∷ []) now
written_more first was now rows row h config last placed body =
    let of = entry_at first.config.now in
    let one = response_bytes (response.List (of row ∷ []) []) in
    record {
      config = config ∙ h.config;
      placed = subst (λ (c : Config). ArePlaced c now.places.items) (sym config) placed;
      last = last ∙ sym (last_push first.last rows row);
      body =
          body ∙ ap₂ (λ (bs : List ℕ) (c : Config). bs ++ response_bytes (response.List (entry_at c row ∷ []) [])) h.body h.config
          ∙ append_assoc first.body.items (response_bytes (response.List (map of rows) [])) one
          ∙ ap (λ (bs : List ℕ). first.body.items ++ bs) (sym (listing_more (map of rows) (of row)))
          ∙ ap (λ (es : List Entry). first.body.items ++ response_bytes (response.List es [])) (sym (map_push of rows row));
    }

-- the token after the entries
pub wrote_token : (old mid new : List ℕ) (es : List Entry) (token : Text) → mid ≡ old ++ response_bytes (response.List es []) → new ≡ mid ++ response_bytes (response.List [] token)
    → new ≡ old ++ response_bytes (response.List es token)
wrote_token old mid new es token stood wrote =
    wrote ∙ ap (λ (bs : List ℕ). bs ++ response_bytes (response.List [] token)) stood
    ∙ append_assoc old (response_bytes (response.List es [])) (response_bytes (response.List [] token))
    ∙ ap (λ (bs : List ℕ). old ++ bs) (sym (listing_token es token))

-- the page of a State is written
page_written : (s : State) (most count : ℕ) (first now : Page) (is_more : Bool) (new : List ℕ) → count ≡ entries_for most → HasWritten first (listing s first.last count) now
    → is_more ≡ (is_any (listing s now.last 1) || false) → new ≡ now.body.items ++ response_bytes (response.List [] (token_when now.last is_more)) → IsPage first.config.now s first.last most first.body.items new
page_written s most count first now is_more new many wrote more is =
    let vs = page s first.last (entries_for most) in
    let rows : listing s first.last count ≡ map (listed_of s) vs = ap (listing s first.last) many in
    let ends : now.last ≡ last_of first.last vs = wrote.last ∙ ap (last_row first.last) rows ∙ last_listed s first.last vs in
    let token : token_when now.last is_more ≡ token_for (last_of first.last vs) (beyond s (last_of first.last vs)) =
    ap (token_when now.last) more ∙ token_one s now.last (beyond s now.last) ∙ ap (λ n. token_for n (beyond s n)) ends in
    let entries : map (entry_at first.config.now) (listing s first.last count) ≡ map (entry_of first.config.now s) vs = ap (map (entry_at first.config.now)) rows ∙ entries_listed first.config.now s vs in
    wrote_token first.body.items now.body.items new (map (entry_at first.config.now) (listing s first.last count)) (token_when now.last is_more) wrote.body is
    ∙ ap₂ (λ (es : List Entry) (t : Text). first.body.items ++ response_bytes (response.List es t)) entries token

-- a page is found by two folds
pub page_finds : (most count : ℕ) (a b c : Model State) (first now : Page) (is_more : Bool) (new : List ℕ) → count ≡ entries_for most
    → Reads a b (Ok tt) (λ s (x : Unit {0}). ArePlaced first.config.now first.places.items → HasWritten first (listing s first.last count) now)
    → Reads b c (Ok tt) (λ s (x : Unit {0}). is_more ≡ (is_any (listing s now.last 1) || false)) → new ≡ now.body.items ++ response_bytes (response.List [] (token_when now.last is_more))
    → Finds a c (Ok tt) (λ s (x : Unit {0}). first.places.items ≡ [] → IsPage first.config.now s first.last most first.body.items new)
page_finds most count a b c first now is_more new many one two is =
    found_then (read_found one) (read_found two) (λ s wrote x more none. page_written s most count first now is_more new many (wrote (subst (ArePlaced first.config.now) (sym none) tt)) more is)

-- the result does not depend on how a call may fail
reported_as : (E F : Type 0) (reported : Report) (x y : List ℕ) (v : Verdict) → IsReported {E = E} reported x y (Ok v) → IsReported {E = F} reported x y (Ok v)
reported_as E F reported x y verdict.Done h = h
reported_as E F reported x y (verdict.Refused reason) h = h

-- the entries that the body of a page adds after the earlier bytes
pub page_reported : (config : Config) (s : State) (most after from : ℕ) (old body new : List ℕ) (v : Verdict) → from ≡ length old → IsPage config s after most old body
    → IsReported {E = AllocError} (within (drop from body)) (take from body) new (Ok v) → IsReported {E = StoreFault} (reported_of (list_after config s most (Some after)).outcome) old new (Ok v)
page_reported config s most after from old body new v at is reported =
    let page = response_bytes (response.List (map (entry_of config s) (listed s after most)) (token_for (last_of after (listed s after most)) (beyond s (last_of after (listed s after most))))) in
    let front : take from body ≡ old = ap₂ (λ (n : ℕ) (bs : List ℕ). take n bs) at is ∙ take-append_seam old page in
    let back : drop from body ≡ page = ap₂ (λ (n : ℕ) (bs : List ℕ). drop n bs) at is ∙ drop-append_seam old page in
    reported_as AllocError StoreFault _ _ _ v (subst (λ (bs : List ℕ). IsReported {E = AllocError} (within bs) old new (Ok v)) back (subst (λ (bs : List ℕ). IsReported {E = AllocError} (within (drop from body)) bs new (Ok v)) front reported))

-- a page, after the read of the next number
pub page_then : (config : Config) (r : ListVolumes) (most after next : ℕ) (a b c : Model State) (x y : List ℕ) (result : Result Verdict StoreFault)
    → Reads a b (Ok next) (λ s n. n ≡ s.next) → Some after ≡ start_of next r.token → most ≡ whole r.max_entries
    → Finds b c result (λ s v. IsReported {E = StoreFault} (reported_of (list_after config s most (Some after)).outcome) x y (Ok v))
    → Finds a c result (λ s v. IsReported {E = StoreFault} (reported_of (list_volumes config s r).outcome) x y (Ok v))
page_then config r most after next a b c x y result read from most_is found =
    found_then (read_found read) found (λ s is v reported.
    subst (λ (w : Report). IsReported {E = StoreFault} w x y (Ok v)) (ap₂ (λ m o. reported_of (list_after config s m o).outcome) most_is (from ∙ ap (λ n. start_of n r.token) is)) reported)
