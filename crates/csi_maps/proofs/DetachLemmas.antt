-- The attachments of a number, removed one by one.
use Rattle.std.proofs.Common.{◌≡◌, ◌∙◌, ap, sym, cond, refl, ℕ, ◌==◌, not, List, [], ◌∷◌, ◌++◌, map, filter, Bool, true, false, ◌||◌, Option, Some, None}
use Rattle.std.specs.BTreeMap.Range.{entries_between}
use Rattle.std.specs.FinMap as fin
use Rattle.std.specs.Ordering.{eq_by_cmp}
use Rattle.std.specs.declared.ops.Bound.TheVariants.{Included}
use Rattle.csi_keeper.specs.declared.volume.Attachment.{Attachment}
use Rattle.csi_maps.specs.Rows.{places_of, place_end, removed_each}
use Rattle.csi_keeper.specs.State.{AttachmentKey, attachment_key_cmp}
use Rattle.csi_keeper.specs.facts.Finite.{tied}
use Rattle.csi_maps.specs.facts.Listing.{place_rows}
use Rattle.csi_keeper.specs.facts.Orders.{place_total, place_exact}

abbrev same : AttachmentKey → AttachmentKey → Bool
same = eq_by_cmp attachment_key_cmp

abbrev among : AttachmentKey → List AttachmentKey → Bool
among q [] = false
among q (p ∷ ps) = same q p || among q ps

get_each : (m : fin.FinMap attachment_key_cmp Attachment) (ps : List AttachmentKey) (q : AttachmentKey) → fin.get (removed_each m ps) q ≡ cond (among q ps) None (fin.get m q)
get_each m [] q = refl
get_each m (p ∷ ps) q = get_each (fin.remove m p) ps q ∙ ap (cond (among q ps) None) (fin.get-remove place_total m p q) ∙ go (same q p) (among q ps)
  where
    go : (a b : Bool) → cond b None (cond a None (fin.get m q)) ≡ cond (a || b) None (fin.get m q)
    go true true = refl
    go true false = refl
    go false b = refl

-- one more attachment is removed
pub each_more : (m : fin.FinMap attachment_key_cmp Attachment) (ps : List AttachmentKey) (p : AttachmentKey) → removed_each m (ps ++ p ∷ []) ≡ fin.remove (removed_each m ps) p
each_more m [] p = refl
each_more m (q ∷ ps) p = each_more (fin.remove m q) ps p

abbrev keys_at : ℕ → List (AttachmentKey × Attachment) → List AttachmentKey
keys_at n es = map (λ e. e.0) (filter (λ e. e.0.0 == n) es)

-- the keys with a number are all keys that are found under it
found_at : (n : ℕ) (es : List (AttachmentKey × Attachment)) (q : AttachmentKey) → cond (among q (keys_at n es)) None (fin.find attachment_key_cmp q es) ≡ cond (not (q.0 == n)) (fin.find attachment_key_cmp q es) None
found_at n [] q = both (among q []) (not (q.0 == n))
  where
    both : (a b : Bool) → ◌≡◌ {A = Option Attachment} (cond a None None) (cond b None None)
    both true true = refl
    both true false = refl
    both false true = refl
    both false false = refl
found_at n (e ∷ es) q = go (found_at n es q) (e.0.0 == n) refl (same q e.0) refl
  where
    rest : cond (among q (keys_at n es)) None (fin.find attachment_key_cmp q es) ≡ cond (not (q.0 == n)) (fin.find attachment_key_cmp q es) None → (d : Bool) → d ≡ false → cond (d || among q (keys_at n es)) None (cond d (Some e.1) (fin.find attachment_key_cmp q es)) ≡ cond (not (q.0 == n)) (cond d (Some e.1) (fin.find attachment_key_cmp q es)) None
    rest more d t = ap (λ d. cond (d || among q (keys_at n es)) None (cond d (Some e.1) (fin.find attachment_key_cmp q es))) t ∙ more ∙ sym (ap (λ d. cond (not (q.0 == n)) (cond d (Some e.1) (fin.find attachment_key_cmp q es)) None) t)

    none : (b : Bool) → among q (keys_at n es) ≡ b → (q.0 == n) ≡ false → cond b None (Some e.1) ≡ Some e.1
    none true u t = absurd (not_among es (sym t) u)
      where
        not_among : (fs : List (AttachmentKey × Attachment)) → false ≡ (q.0 == n) → among q (keys_at n fs) ≡ true → ⊥
        not_among [] t u = cc
        not_among (f ∷ fs) t u = step (not_among fs t) (f.0.0 == n) refl (same q f.0) refl u
          where
            step : (among q (keys_at n fs) ≡ true → ⊥) → (a : Bool) → (f.0.0 == n) ≡ a → (d : Bool) → same q f.0 ≡ d → among q (map (λ e. e.0) (cond a (f ∷ filter (λ e. e.0.0 == n) fs) (filter (λ e. e.0.0 == n) fs))) ≡ true → ⊥
            step more false x d y h = more h
            step more true x true y h = let is : (q.0 == n) ≡ true = ap (λ (p : AttachmentKey). p.0 == n) (place_exact q f.0 (tied _ y)) ∙ x in absurd (cc (is, t))
            step more true x false y h = more (sym (ap (λ d. d || among q (keys_at n fs)) y) ∙ h)
    none false u t = refl

    go : cond (among q (keys_at n es)) None (fin.find attachment_key_cmp q es) ≡ cond (not (q.0 == n)) (fin.find attachment_key_cmp q es) None → (a : Bool) → (e.0.0 == n) ≡ a → (d : Bool) → same q e.0 ≡ d
        → cond (among q (map (λ e. e.0) (cond a (e ∷ filter (λ e. e.0.0 == n) es) (filter (λ e. e.0.0 == n) es)))) None (cond d (Some e.1) (fin.find attachment_key_cmp q es)) ≡ cond (not (q.0 == n)) (cond d (Some e.1) (fin.find attachment_key_cmp q es)) None
    go more true x true y =
        let at : (q.0 == n) ≡ true = ap (λ (p : AttachmentKey). p.0 == n) (place_exact q e.0 (tied _ y)) ∙ x in
        ap (λ d. cond (d || among q (keys_at n es)) None (Some e.1)) y ∙ sym (ap (λ b. cond (not b) (Some e.1) None) at)
    go more true x false y = ap (λ d. cond (d || among q (keys_at n es)) None (fin.find attachment_key_cmp q es)) y ∙ more
    go more false x true y =
        let at : (q.0 == n) ≡ false = ap (λ (p : AttachmentKey). p.0 == n) (place_exact q e.0 (tied _ y)) ∙ x in
        none (among q (keys_at n es)) refl at ∙ sym (ap (λ b. cond (not b) (Some e.1) None) at)
    go more false x false y = more

-- the places left after each place of a number is removed
pub each_detached : (es : List (AttachmentKey × Attachment)) (ps : List AttachmentKey) (n : ℕ) → fin.entries (places_of es) ≡ es
    → ps ≡ map (λ e. e.0) (filter (λ e. e.0.0 == n) (entries_between attachment_key_cmp (Included (n, [])) (place_end n) es))
    → removed_each (places_of es) ps ≡ fin.retain_keys (places_of es) (λ p. not (p.0 == n))
each_detached es ps n o is =
    let all : ps ≡ keys_at n es = is ∙ ap (λ (fs : List (AttachmentKey × Attachment)). map (λ e. e.0) fs) (place_rows es n) in
    ap (removed_each (places_of es)) all ∙ fin.same_map place_total place_exact _ _ (λ q.
    get_each (places_of es) (keys_at n es) q
    ∙ ap (cond (among q (keys_at n es)) None) (fin.get-from_entries place_total es q)
    ∙ found_at n es q
    ∙ sym (ap (λ x. cond (not (q.0 == n)) x None) (fin.get-from_entries place_total es q))
    ∙ sym (fin.get-retain_keys (places_of es) (λ p. not (p.0 == n)) q (λ x t. sym (ap (λ (p : AttachmentKey). not (p.0 == n)) (place_exact q x t)))))
