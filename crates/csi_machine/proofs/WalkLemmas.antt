-- Walks over the pages of a listing, with other requests among them.
use Rattle.std.proofs.Common.{◌≡◌, ◌∙◌, ◌⊎◌, inl, inr, ap, sym, subst, cond, arith, refl, ℕ, ◌<◌, ◌≤◌, ◌^◌, ◌&&◌, nat_le, nat_lt, zero, suc, List, [], ◌∷◌, ◌++◌, map, filter, take, length, Bool, true, false, Option, Some, None, Ok}
use Rattle.std.specs.Cmp.{nat_cmp_total}
use Rattle.std.specs.FinMap as fin
use Rattle.std.specs.Fmt.{decimal}
use Rattle.std.specs.List.{AllByRecursion}
use Rattle.std.proofs.lemmas.Bool.Decides.{leb_tells, nat_tests}
use Rattle.std.proofs.lemmas.Fmt.{decimal_nonempty}
use Rattle.csi_types.specs.Checks.{checked}
use Rattle.csi_types.specs.Names.{is_empty}
use Rattle.csi_types.specs.declared.limits.TheConstants.{MAX_NUMBER}
use Rattle.csi_types.specs.declared.reason.Reason.TheVariants.{BadToken, ReplyTooLarge}
use Rattle.csi_types.specs.declared.requests.Request.{Request}
use Rattle.csi_types.specs.declared.responses.Response.{Response}
use Rattle.csi_types.specs.declared.responses.Response.TheVariants as response
use Rattle.csi_types.specs.declared.volume.Entry.{Entry}
use Rattle.csi_codec.specs.Methods.{response_bytes}
use Rattle.csi_config.specs.Values.{Has}
use Rattle.csi_config.specs.declared.config.Config.{Config}
use Rattle.envelope.specs.declared.limits.TheConstants.{MAX_BODY_BYTES}
use Rattle.csi_keeper.specs.declared.change.Change.{Change}
use Rattle.csi_keeper.specs.declared.change.Change.TheVariants.{AddVolume, RemoveVolume, Attach, Detach, DetachAll, SetMutable}
use Rattle.csi_keeper.specs.declared.volume.Volume.{Volume}
use Rattle.csi_rules.specs.Ids.{number_of, number_of_id, id}
use Rattle.csi_keeper.specs.Invariant.{IsInvariant}
use Rattle.csi_machine.specs.Plan.{after}
use Rattle.csi_keeper.specs.State.{State, beyond}
use Rattle.csi_machine.specs.Step.{plan, step, moved}
use Rattle.csi_keeper.specs.Texts.{Text}
use Rattle.csi_machine.specs.Verdicts.{Report, Says, Denies, reported_of}
use Rattle.csi_machine.specs.Walk.{Call, Next, Other, Page, asked_with, shown, listing_reported, with_page, next_token, pages, AreRead, AreChecked, GoOn, End, AreOfVolumes, Stood, id_in, listed_ids, AreApart}
use Rattle.csi_machine.specs.calls.Listing.{given, start_of, entries_for, listed, last_of, token_for, entry_of, list_after}
use Rattle.csi_keeper.specs.facts.Finite.{all_entries}
use Rattle.csi_rules.specs.facts.Ids.{number_of_decimal, id_named, below_on}
use Rattle.csi_machine.proofs.MomentLemmas.{Moment, walked, joined, Rises, AreNumbered, Lists, Stands, Ends, walked_rises, walked_lists}

-- Lists

all_each : {A : Type 0} {P Q : A → Type 0} → ((x : A) → P x → Q x) → (xs : List A) → AllByRecursion P xs → AllByRecursion Q xs
all_each f [] h = tt
all_each f (x ∷ xs) h = (f x h.0, all_each f xs h.1)

all_filter : (P : Volume → Type 0) (p : ℕ × Volume → Bool) (es : List (ℕ × Volume)) → AllByRecursion (λ e. P e.1) es → AllByRecursion P (map (λ e. e.1) (filter p es))
all_filter P p [] h = tt
all_filter P p (e ∷ es) h = elim (p e) as (λ b. AllByRecursion P (map (λ e. e.1) (cond b (e ∷ filter p es) (filter p es)))) [ true ↦ (h.0, all_filter P p es h.1) | false ↦ all_filter P p es h.1 ]

all_take : (P : Volume → Type 0) (k : ℕ) (vs : List Volume) → AllByRecursion P vs → AllByRecursion P (take k vs)
all_take P zero vs h = tt
all_take P (suc k) [] h = tt
all_take P (suc k) (v ∷ vs) h = (h.0, all_take P k vs h.1)

all_append : (P : Volume → Type 0) (vs ws : List Volume) → AllByRecursion P vs → AllByRecursion P ws → AllByRecursion P (vs ++ ws)
all_append P [] ws h k = k
all_append P (v ∷ vs) ws h k = (h.0, all_append P vs ws h.1 k)

all_map : {A B : Type 0} (Q : B → Type 0) (f : A → B) (xs : List A) → AllByRecursion (λ x. Q (f x)) xs → AllByRecursion Q (map f xs)
all_map Q f [] h = tt
all_map Q f (x ∷ xs) h = (h.0, all_map Q f xs h.1)

map_append : {A B : Type 0} (f : A → B) (xs ys : List A) → map f (xs ++ ys) ≡ map f xs ++ map f ys
map_append f [] ys = refl
map_append f (x ∷ xs) ys = ap (λ zs. f x ∷ zs) (map_append f xs ys)

-- One page

all_listed : (P : Volume → Type 0) (s : State) (after most : ℕ) → AllByRecursion (λ e. P e.1) (fin.entries s.volumes) → AllByRecursion P (listed s after most)
all_listed P s after most h = all_take P (entries_for most) (beyond s after) (all_filter P (λ e. nat_lt after e.0) (fin.entries s.volumes) h)

take_none : (k : ℕ) (vs : List Volume) → 1 ≤ k → take k vs ≡ [] → vs ≡ []
take_none k [] h e = refl
take_none zero (v ∷ vs) h e = absurd (omega arith)
take_none (suc k) (v ∷ vs) h e = absurd (cc)

some_asked : (most : ℕ) → 1 ≤ entries_for most
some_asked most = grind (arith, nat_tests)

last_in : (P : ℕ → Type 0) (after : ℕ) (w : Volume) (ws : List Volume) → AllByRecursion (λ v. P v.number) (w ∷ ws) → P (last_of after (w ∷ ws))
last_in P after w [] h = h.0
last_in P after w (x ∷ ws) h = last_in P w.number x ws h.1

abbrev last_after : State → ℕ → ℕ → ℕ
last_after s after most = last_of after (listed s after most)

abbrev token_after : State → ℕ → ℕ → Text
token_after s after most = token_for (last_after s after most) (beyond s (last_after s after most))

module _ (config : Config) where
  abbrev entries_after : State → ℕ → ℕ → List Entry
  entries_after s after most = map (entry_of config s) (listed s after most)

  abbrev reply_after : State → ℕ → ℕ → Response
  reply_after s after most = response.List (entries_after s after most) (token_after s after most)

  abbrev fits : State → ℕ → ℕ → Bool
  fits s after most = nat_le (length (response_bytes (reply_after s after most))) MAX_BODY_BYTES

  abbrev page_shown : State → ℕ → ℕ → Bool → Option (List Entry × Text)
  page_shown s after most b = cond b (Some (entries_after s after most, token_after s after most)) None

  -- an existing volume has a number that was given
  numbers : (s : State) → IsInvariant config s → AllByRecursion (λ e. (e.1.number ≡ e.0) × (1 ≤ e.0) × (e.0 < s.next)) (fin.entries s.volumes)
  numbers s inv =
      all_entries nat_cmp_total fin.nat_cmp-IsAntisymmetric (λ n (v : Volume). (v.number ≡ n) × (1 ≤ n) × (n < s.next)) s.volumes
      (λ n v e. let i = inv.volumes n v e in (i.number, i.given.0, i.given.1))

  given_numbers : (s : State) → IsInvariant config s → AllByRecursion (λ e. (1 ≤ e.1.number) × (e.1.number < s.next)) (fin.entries s.volumes)
  given_numbers s inv = all_each (λ e h. let a = h.0 in let b = h.1 in let d = h.2 in (omega (arith, a, b), omega (arith, a, d))) (fin.entries s.volumes) (numbers s inv)

  -- if a volume has a number greater than `last`, `last` was given to a volume
  abbrev IsReported : State → ℕ → Type 0
  IsReported s last = (beyond s last ≡ []) ⊎ ((token_for last (beyond s last) ≡ decimal last) × (1 ≤ last) × (last < s.next))

  -- so the token of a page is read
  token_at : (s : State) (after most : ℕ) → IsInvariant config s → IsReported s (last_after s after most)
  token_at s after most inv = by_page (listed s after most) refl
    where
      by_rest : (last : ℕ) → (1 ≤ last) × (last < s.next) → (rest : List Volume) → (rest ≡ []) ⊎ ((token_for last rest ≡ decimal last) × (1 ≤ last) × (last < s.next))
      by_rest last h [] = inl refl
      by_rest last h (v ∷ vs) = inr (refl, h.0, h.1)

      by_page : (vs : List Volume) → listed s after most ≡ vs → IsReported s (last_after s after most)
      by_page [] e =
          let none : beyond s after ≡ [] = take_none (entries_for most) (beyond s after) (some_asked most) e in
          subst (λ (vs : List Volume). IsReported s (last_of after vs)) (sym e) (inl none)
      by_page (w ∷ ws) e =
          let all = all_listed (λ v. (1 ≤ v.number) × (v.number < s.next)) s after most (given_numbers s inv) in
          let here = last_in (λ n. (1 ≤ n) × (n < s.next)) after w ws (subst (λ (vs : List Volume). AllByRecursion (λ v. (1 ≤ v.number) × (v.number < s.next)) vs) e all) in
          subst (λ (vs : List Volume). IsReported s (last_of after vs)) (sym e) (by_rest (last_of after (w ∷ ws)) here (beyond s (last_of after (w ∷ ws))))

  -- a token that is read as a number
  abbrev IsAt : ℕ → Text → ℕ → Type 0
  IsAt next token after = ((token ≡ []) × (after ≡ 0)) ⊎ ((token ≡ decimal after) × (1 ≤ after) × (after < next))

  still_at : (m n : ℕ) (token : Text) (after : ℕ) → m ≤ n → IsAt m token after → IsAt n token after
  still_at m n token after h at = elim at as (λ _. IsAt n token after) [ inl x ↦ inl x | inr x ↦ let y = x.2 in inr (x.0, x.1, omega (arith, h, y)) ]

  read_at : (next : ℕ) (token : Text) (after : ℕ) → next ≤ MAX_NUMBER → IsAt next token after → start_of next token ≡ Some after
  read_at next token after most at = elim at as (λ _. start_of next token ≡ Some after) [
    | inl x ↦ ap (start_of next) x.0 ∙ ap Some (sym x.1)
    | inr x ↦
        let least = x.1 in
        let under = x.2 in
        let fits : after < 2 ^ 64 = omega (arith, under, most) in
        let long = decimal_nonempty after fits in
        let some : is_empty (decimal after) ≡ false = grind (arith, nat_tests, long) in
        let one : nat_le 1 after ≡ true = elim (leb_tells 1 after) as (λ _. nat_le 1 after ≡ true) [ inl y ↦ y.0 | inr y ↦ absurd (omega (arith, y.1, least)) ] in
        let below : nat_lt after next ≡ true = below_on after next under in
        ap (start_of next) x.0
        ∙ ap (λ b. cond b (Some 0) (given next (number_of (decimal after)))) some
        ∙ ap (given next) (number_of_decimal after fits)
        ∙ ap (λ b. cond (b && nat_lt after next) (Some after) None) one
        ∙ ap (λ b. cond b (Some after) None) below
  ]

  -- a page leaves the State
  still : (s : State) (most : ℕ) (o : Option ℕ) → (list_after config s most o).change ≡ None
  still s most None = refl
  still s most (Some n) = refl

  unmoved : (s : State) (reported : Report) → moved s s reported ≡ s
  unmoved s (Says body) = refl
  unmoved s (Denies reason) = refl

  page_leaves : (s : State) (token : Text) (most : ℕ) → (step config s (asked_with token most)).1 ≡ s
  page_leaves s token most =
      ap (λ (c : Option Change). moved s (after s c) (step config s (asked_with token most)).0) (still s most (start_of s.next token))
      ∙ unmoved s (step config s (asked_with token most)).0

  shown_is : (s : State) (token : Text) (after most : ℕ) → start_of s.next token ≡ Some after → shown config s (asked_with token most) ≡ page_shown s after most (fits s after most)
  shown_is s token after most e =
      ap (λ o. listing_reported (list_after config s most o).outcome (reported_of (list_after config s most o).outcome)) e ∙ by (fits s after most)
    where
      by : (b : Bool) → listing_reported (Ok (reply_after s after most)) (cond b (Says (response_bytes (reply_after s after most))) (Denies ReplyTooLarge)) ≡ page_shown s after most b
      by true = refl
      by false = refl

  read : (s : State) (token : Text) (after most : ℕ) → start_of s.next token ≡ Some after → (step config s (asked_with token most)).0 ≡ Denies BadToken → ⊥
  read s token after most e h = by (fits s after most) (sym (ap (λ o. reported_of (list_after config s most o).outcome) e) ∙ h)
    where
      by : (b : Bool) → cond b (Says (response_bytes (reply_after s after most))) (Denies ReplyTooLarge) ≡ Denies BadToken → ⊥
      by true h = cc
      by false h = cc

  -- Other requests

  next_after : (s : State) (o : Option Change) → s.next ≤ (after s o).next
  next_after s None = omega arith
  next_after s (Some (AddVolume v)) = omega arith
  next_after s (Some (RemoveVolume n)) = omega arith
  next_after s (Some (Attach n a)) = omega arith
  next_after s (Some (Detach n node)) = omega arith
  next_after s (Some (DetachAll n)) = omega arith
  next_after s (Some (SetMutable n m)) = omega arith

  next_moved : (s t : State) (reported : Report) → s.next ≤ t.next → s.next ≤ (moved s t reported).next
  next_moved s t (Says body) h = h
  next_moved s t (Denies reason) h = omega arith

  next_step : (s : State) (r : Request) → s.next ≤ (step config s r).1.next
  next_step s r = next_moved s (after s (plan config s r).change) (reported_of (plan config s r).outcome) (next_after s (plan config s r).change)

  -- requests that pass the checks of their arguments keep the invariant
  abbrev pub Keep : Type 0
  Keep = (s : State) (r : Request) → IsInvariant config s → checked r ≡ None → IsInvariant config (step config s r).1

  -- Tokens

  pub walk_read : Keep → (calls : List Call) (s : State) (token : Text) (at : ℕ) → IsInvariant config s → IsAt s.next token at → AreChecked calls → AreRead config s token calls
  walk_read keep [] s token at inv is c = tt
  walk_read keep (Other r ∷ calls) s token at inv is c =
      walk_read keep calls (step config s r).1 token at (keep s r inv c.0) (still_at s.next (step config s r).1.next token at (next_step s r) is) c.1
  walk_read keep (Next most ∷ calls) s token at inv is c =
      let e = read_at s.next token at inv.next.1 is in
      let r = asked_with token most in (
        read s token at most e,
        subst (λ (t : State). AreRead config t (next_token token (shown config s r)) calls) (sym (page_leaves s token most))
            (subst (λ (o : Option (List Entry × Text)). AreRead config s (next_token token o) calls) (sym (shown_is s token at most e))
            (by (λ t n is. walk_read keep calls s t n inv is c) (fits s at most))),
      )
    where
      by : ((t : Text) (n : ℕ) → IsAt s.next t n → AreRead config s t calls) → (b : Bool) → AreRead config s (next_token token (page_shown s at most b)) calls
      by more true = elim (token_at s at most inv) as (λ _. AreRead config s (token_after s at most) calls) [
        | inl none ↦ more (token_after s at most) 0 (inl (ap (token_for (last_after s at most)) none, refl))
        | inr some ↦ more (token_after s at most) (last_after s at most) (inr some)
      ]
      by more false = more token at is

  -- Pages by the moments of their requests

  abbrev shown_pages : ℕ → List Moment → List Page
  shown_pages n [] = []
  shown_pages n (m ∷ ms) = record { at = m.0; entries = entries_after m.0 n m.1; token = token_after m.0 n m.1 } ∷ shown_pages (last_after m.0 n m.1) ms

  abbrev Trace : ℕ → List Page → Type 0
  Trace n ps = (ms : List Moment) × AllByRecursion (λ m. IsInvariant config m.0) ms × (ps ≡ shown_pages n ms)

  pub trace : Keep → (calls : List Call) (s : State) (token : Text) (at : ℕ) → IsInvariant config s → IsAt s.next token at → AreChecked calls → GoOn (pages config s token calls) → Trace at (pages config s token calls)
  trace keep [] s token at inv is c g = ([], tt, refl)
  trace keep (Other r ∷ calls) s token at inv is c g =
      trace keep calls (step config s r).1 token at (keep s r inv c.0) (still_at s.next (step config s r).1.next token at (next_step s r) is) c.1 g
  trace keep (Next most ∷ calls) s token at inv is c g =
      let e = read_at s.next token at inv.next.1 is in
      let r = asked_with token most in
      let same : pages config s token (Next most ∷ calls) ≡ with_page s (page_shown s at most (fits s at most)) (pages config s (next_token token (page_shown s at most (fits s at most))) calls) =
      ap (λ (t : State). with_page s (shown config s r) (pages config t (next_token token (shown config s r)) calls)) (page_leaves s token most)
      ∙ ap (λ (o : Option (List Entry × Text)). with_page s o (pages config s (next_token token o) calls)) (shown_is s token at most e) in
      subst (Trace at) (sym same) (by (λ t n is g. trace keep calls s t n inv is c g) (fits s at most) (subst GoOn same g))
    where
      by : ((t : Text) (n : ℕ) → IsAt s.next t n → GoOn (pages config s t calls) → Trace n (pages config s t calls)) → (b : Bool)
          → GoOn (with_page s (page_shown s at most b) (pages config s (next_token token (page_shown s at most b)) calls))
          → Trace at (with_page s (page_shown s at most b) (pages config s (next_token token (page_shown s at most b)) calls))
      by more false g = more token at is g
      by more true g = rest (pages config s (token_after s at most) calls) refl g
        where
          here : Page
          here = record { at = s; entries = entries_after s at most; token = token_after s at most }

          rest : (ps : List Page) → pages config s (token_after s at most) calls ≡ ps → GoOn (here ∷ ps) → Trace at (here ∷ ps)
          rest [] e g = ((s, most) ∷ [], (inv, tt), refl)
          rest (q ∷ qs) e g = elim (token_at s at most inv) as (λ _. Trace at (here ∷ q ∷ qs)) [
            | inl none ↦ absurd (g.0 (ap (token_for (last_after s at most)) none))
            | inr some ↦
                let w : Trace (last_after s at most) (q ∷ qs) = subst (Trace (last_after s at most)) e (more (token_after s at most) (last_after s at most) (inr some) (subst GoOn (sym e) g.1)) in
                ((s, most) ∷ w.0, (inv, w.1), ap (λ ps. here ∷ ps) w.2)
          ]

  traced : Keep → (calls : List Call) (s : State) → IsInvariant config s → AreChecked calls → GoOn (pages config s [] calls) → Trace 0 (pages config s [] calls)
  traced keep calls s inv c g = trace keep calls s [] 0 inv (inl (refl, refl)) c g

  -- Volumes that existed

  shown_any : (s : State) (token : Text) (most : ℕ) → (shown config s (asked_with token most) ≡ None) ⊎ ((n : ℕ) × (shown config s (asked_with token most) ≡ Some (entries_after s n most, token_after s n most)))
  shown_any s token most = by (start_of s.next token) refl
    where
      shows : (n : ℕ) → (b : Bool) → (page_shown s n most b ≡ None) ⊎ (page_shown s n most b ≡ Some (entries_after s n most, token_after s n most))
      shows n true = inr refl
      shows n false = inl refl

      by : (o : Option ℕ) → start_of s.next token ≡ o → (shown config s (asked_with token most) ≡ None) ⊎ ((n : ℕ) × (shown config s (asked_with token most) ≡ Some (entries_after s n most, token_after s n most)))
      by None e = inl (ap (λ o. listing_reported (list_after config s most o).outcome (reported_of (list_after config s most o).outcome)) e)
      by (Some n) e = elim (shows n (fits s n most)) as (λ _. (shown config s (asked_with token most) ≡ None) ⊎ ((n : ℕ) × (shown config s (asked_with token most) ≡ Some (entries_after s n most, token_after s n most)))) [
        | inl x ↦ inl (shown_is s token n most e ∙ x)
        | inr x ↦ inr (n, shown_is s token n most e ∙ x)
      ]

  of_volumes : (s : State) (n most : ℕ) → AllByRecursion (λ e. (n : ℕ) × (v : Volume) × (fin.get s.volumes n ≡ Some v) × (e ≡ entry_of config s v)) (entries_after s n most)
  of_volumes s n most =
      let all = all_entries nat_cmp_total fin.nat_cmp-IsAntisymmetric (λ n (v : Volume). fin.get s.volumes n ≡ Some v) s.volumes (λ n v e. e) in
      let stand : AllByRecursion (λ (e : ℕ × Volume). (n : ℕ) × (fin.get s.volumes n ≡ Some e.1)) (fin.entries s.volumes) = all_each (λ e h. (e.0, h)) (fin.entries s.volumes) all in
      all_map (λ e. (n : ℕ) × (v : Volume) × (fin.get s.volumes n ≡ Some v) × (e ≡ entry_of config s v)) (entry_of config s) (listed s n most)
      (all_each (λ v h. (h.0, v, h.1, refl)) (listed s n most) (all_listed (λ v. (n : ℕ) × (fin.get s.volumes n ≡ Some v)) s n most stand))

  pub walk_stood : (calls : List Call) (s : State) (token : Text) → AllByRecursion (AreOfVolumes config) (pages config s token calls)
  walk_stood [] s token = tt
  walk_stood (Other r ∷ calls) s token = walk_stood calls (step config s r).1 token
  walk_stood (Next most ∷ calls) s token =
      let r = asked_with token most in
      by (pages config (step config s r).1 (next_token token (shown config s r)) calls) (walk_stood calls (step config s r).1 (next_token token (shown config s r)))
    where
      by : (ps : List Page) → AllByRecursion (AreOfVolumes config) ps → AllByRecursion (AreOfVolumes config) (with_page s (shown config s (asked_with token most)) ps)
      by ps more = elim (shown_any s token most) as (λ _. AllByRecursion (AreOfVolumes config) (with_page s (shown config s (asked_with token most)) ps)) [
        | inl e ↦ subst (λ (o : Option (List Entry × Text)). AllByRecursion (AreOfVolumes config) (with_page s o ps)) (sym e) more
        | inr x ↦ subst (λ (o : Option (List Entry × Text)). AllByRecursion (AreOfVolumes config) (with_page s o ps)) (sym x.1) (of_volumes s x.0 most, more)
      ]

  -- Listed volumes

  abbrev id_of : Volume → Text
  id_of v = id v.number

  ids_are : (n : ℕ) (ms : List Moment) → listed_ids (shown_pages n ms) ≡ map id_of (joined (walked n ms))
  ids_are n [] = refl
  ids_are n (m ∷ ms) =
      let vs = listed m.0 n m.1 in
      let rest = joined (walked (last_after m.0 n m.1) ms) in
      ap (λ (ts : List Text). ts ++ listed_ids (shown_pages (last_after m.0 n m.1) ms)) (of_entries m.0 vs)
      ∙ ap (λ (ts : List Text). map id_of vs ++ ts) (ids_are (last_after m.0 n m.1) ms)
      ∙ sym (map_append id_of vs rest)
    where
      of_entries : (s : State) (vs : List Volume) → map (λ e. id_in e.volume) (map (entry_of config s) vs) ≡ map id_of vs
      of_entries s [] = refl
      of_entries s (v ∷ vs) = ap (λ ts. id v.number ∷ ts) (of_entries s vs)

  numbered : (ms : List Moment) → AllByRecursion (λ m. IsInvariant config m.0) ms → AreNumbered ms
  numbered ms invs = all_each (λ m inv. all_each (λ e h. h.0) (fin.entries m.0.volumes) (numbers m.0 inv)) ms invs

  few : (n : ℕ) (ms : List Moment) → AllByRecursion (λ m. IsInvariant config m.0) ms → AllByRecursion (λ v. v.number < 2 ^ 64) (joined (walked n ms))
  few n [] h = tt
  few n (m ∷ ms) h =
      let most = h.0.next.1 in
      let all : AllByRecursion (λ (e : ℕ × Volume). e.1.number < 2 ^ 64) (fin.entries m.0.volumes) = all_each (λ e g. let a = g.1 in omega (arith, a, most)) (fin.entries m.0.volumes) (given_numbers m.0 h.0) in
      all_append (λ v. v.number < 2 ^ 64) (listed m.0 n m.1) (joined (walked (last_after m.0 n m.1) ms))
      (all_listed (λ v. v.number < 2 ^ 64) m.0 n m.1 all) (few (last_after m.0 n m.1) ms h.1)

same_number : (m n : ℕ) → m < 2 ^ 64 → n < 2 ^ 64 → id m ≡ id n → m ≡ n
same_number m n a b e = some_same (sym (id_named m a) ∙ ap number_of_id e ∙ id_named n b)
  where
    some_same : Some m ≡ Some n → m ≡ n
    some_same h = cc

-- rising numbers have different ids
not_again : (k n : ℕ) (vs : List Volume) → k < 2 ^ 64 → k ≤ n → Rises n vs → AllByRecursion (λ v. v.number < 2 ^ 64) vs → Has (map (λ v. id v.number) vs) (id k) → ⊥
not_again k n [] small h r b has = has
not_again k n (w ∷ ws) small h r b has = elim has as (λ _. ⊥) [
  | inl e ↦ let same = same_number w.number k b.0 small e in let far = r.0 in omega (arith, same, far, h)
  | inr more ↦ let far = r.0 in not_again k w.number ws small (omega (arith, far, h)) r.1 b.1 more
]

apart : (n : ℕ) (vs : List Volume) → Rises n vs → AllByRecursion (λ v. v.number < 2 ^ 64) vs → AreApart (map (λ v. id v.number) vs)
apart n [] r b = tt
apart n (v ∷ vs) r b = (not_again v.number v.number vs b.0 (omega arith) r.1 b.1, apart v.number vs r.1 b.1)

has_id : (n : ℕ) (vs : List Volume) → Lists n vs → Has (map (λ v. id v.number) vs) (id n)
has_id n [] l = l
has_id n (v ∷ vs) l = elim l as (λ _. Has (map (λ v. id v.number) (v ∷ vs)) (id n)) [ inl e ↦ inl (ap id e) | inr r ↦ inr (has_id n vs r) ]

module _ (config : Config) where
  pub walk_once : Keep config → (calls : List Call) (s : State) → IsInvariant config s → AreChecked calls → GoOn (pages config s [] calls) → AreApart (listed_ids (pages config s [] calls))
  walk_once keep calls s inv c g =
      let t = traced config keep calls s inv c g in
      subst (λ (ps : List Page). AreApart (listed_ids ps)) (sym t.2)
      (subst AreApart (sym (ids_are config 0 t.0)) (apart 0 (joined (walked 0 t.0)) (walked_rises 0 t.0 (numbered config t.0 t.1)) (few config 0 t.0 t.1)))

  stands : (n after : ℕ) (ms : List Moment) → Stood n (shown_pages config after ms) → Stands n ms
  stands n after [] h = tt
  stands n after (m ∷ ms) h = (h.0, stands n (last_after m.0 after m.1) ms h.1)

  ends : (after : ℕ) (ms : List Moment) → AllByRecursion (λ m. IsInvariant config m.0) ms → End (shown_pages config after ms) → Ends after ms
  ends after [] invs e = e
  ends after (m ∷ k ∷ ms) invs e = ends (last_after m.0 after m.1) (k ∷ ms) invs.1 e
  ends after (m ∷ []) invs e = elim (token_at config m.0 after m.1 invs.0) as (λ _. beyond m.0 (last_after m.0 after m.1) ≡ []) [
    | inl none ↦ none
    | inr some ↦
        let most = invs.0.next.1 in
        let under = some.2 in
        let small : last_after m.0 after m.1 < 2 ^ 64 = omega (arith, under, most) in
        let long = decimal_nonempty (last_after m.0 after m.1) small in
        let short : length (decimal (last_after m.0 after m.1)) ≡ 0 = ap length (sym some.0 ∙ e) in
        absurd (omega (arith, long, short))
  ]

  given_above : (n : ℕ) (ms : List Moment) → AllByRecursion (λ m. IsInvariant config m.0) ms → Stands n ms → (ms ≡ [] → ⊥) → 0 < n
  given_above n [] invs st some = absurd (some refl)
  given_above n (m ∷ ms) invs st some = let i = (invs.0.volumes n st.0.0 st.0.1).given in let least = i.0 in omega (arith, least)

  pub walk_each : Keep config → (calls : List Call) (s : State) (n : ℕ) → IsInvariant config s → AreChecked calls → GoOn (pages config s [] calls) → End (pages config s [] calls) → Stood n (pages config s [] calls)
      → Has (listed_ids (pages config s [] calls)) (id n)
  walk_each keep calls s n inv c g e st =
      let t = traced config keep calls s inv c g in
      let over = ends 0 t.0 t.1 (subst End t.2 e) in
      let stood = stands n 0 t.0 (subst (Stood n) t.2 st) in
      subst (λ (ps : List Page). Has (listed_ids ps) (id n)) (sym t.2)
      (subst (λ (ts : List Text). Has ts (id n)) (sym (ids_are config 0 t.0))
      (has_id n (joined (walked 0 t.0)) (walked_lists 0 n t.0 (numbered config t.0 t.1) stood (given_above n t.0 t.1 stood (λ (none : t.0 ≡ []). subst (Ends 0) none over)) over)))
