-- Looks at the waiting connections, in order.
use Rattle.std.proofs.Common.{◌≡◌, ◌∙◌, ◌<◌, ◌≤◌, ◌+◌, ◌-◌, ◌++◌, if◌then◌else◌, refl, sym, ap, subst, arith, inl, inr}
use Rattle.std.proofs.Common.{Bool, true, false, ℕ, suc, List, [], ◌∷◌, Option, None, length, append-nil}
use Rattle.std.proofs.lemmas.List.{append_assoc}
use Rattle.std.specs.declared.time.Duration.{Duration}
use Rattle.std.specs.declared.time.Instant.{Instant}
use Rattle.std.specs.List.{position}
use Rattle.csid_connections.specs.Waiting.{ComeIn, ComesIn, GivesNext, GoesOn, IsNew, Looks, LooksAt, TakesOut, TurnsOver, Waits, is_full, is_ready, with_room}
use Rattle.csid_connections.specs.declared.pending.Pending.{Pending}

module _ (idle : Option Duration) (left : ℕ) (now : Instant) where
  pub turns_on : (old rest new : List Pending) (one later : Pending) → old ≡ one ∷ rest → GoesOn idle left now one later → new ≡ rest ++ later ∷ [] → TurnsOver idle left now old new
  turns_on old rest new one later e goes n = subst (λ (l : List Pending). TurnsOver idle left now l new) (sym e) (inl (later, goes, n))

  pub turns_off : (old rest new : List Pending) (one : Pending) → old ≡ one ∷ rest → is_ready one ≡ false → new ≡ rest → TurnsOver idle left now old new
  turns_off old rest new one e none n = subst (λ (l : List Pending). TurnsOver idle left now l new) (sym e) (inr (none, n))

  -- the connections that are not looked at yet come first, and then the connections that go on
  abbrev pub Turning : (first pending : List Pending) (turn : ℕ) → Type 0
  Turning first pending turn = (rest : List Pending) × (kept : List Pending) × (pending ≡ rest ++ kept) × (length rest + turn ≡ length first)
      × ((more : List Pending) → LooksAt idle left now rest more → LooksAt idle left now first (kept ++ more))

  pub begin_turns : (first : List Pending) → Turning first first 0
  begin_turns first = (first, [], sym (append-nil first), omega arith, λ more h. h)

  turn_cases : (first rest kept new : List Pending) (turn : ℕ) → turn < length first → length rest + turn ≡ length first
      → ((more : List Pending) → LooksAt idle left now rest more → LooksAt idle left now first (kept ++ more)) → TurnsOver idle left now (rest ++ kept) new → Turning first new (turn + 1)
  turn_cases first [] kept new turn less count looks turned = absurd (omega (arith, less, count))
  turn_cases first (one ∷ rest) kept new turn less count looks (inl (later, goes, e)) = (
    rest,
    kept ++ later ∷ [],
    e ∙ append_assoc rest kept (later ∷ []),
    omega (arith, count),
    λ more h. subst (λ (l : List Pending). LooksAt idle left now first l) (sym (append_assoc kept (later ∷ []) more)) (looks (later ∷ more) (inl (later, more, refl, goes, h))),
  )
  turn_cases first (one ∷ rest) kept new turn less count looks (inr (none, e)) = (rest, kept, e, omega (arith, count), λ more h. looks more (inr (none, h)))

  pub turn_step : (first pending new : List Pending) (turn : ℕ) → turn < length first → Turning first pending turn → TurnsOver idle left now pending new → Turning first new (turn + 1)
  turn_step first pending new turn less so turned = turn_cases first so.0 so.1 new turn less so.3 so.4 (subst (λ (l : List Pending). TurnsOver idle left now l new) so.2 turned)

  end_cases : (first rest kept : List Pending) (turn : ℕ) → length first ≤ turn → length rest + turn ≡ length first
      → ((more : List Pending) → LooksAt idle left now rest more → LooksAt idle left now first (kept ++ more)) → LooksAt idle left now first (rest ++ kept)
  end_cases first [] kept turn all count looks = subst (λ (l : List Pending). LooksAt idle left now first l) (append-nil kept) (looks [] refl)
  end_cases first (one ∷ rest) kept turn all count looks = absurd (omega (arith, all, count))

  pub end_turns : (first pending : List Pending) (turn : ℕ) → length first ≤ turn → Turning first pending turn → LooksAt idle left now first pending
  end_turns first pending turn all so = subst (λ (l : List Pending). LooksAt idle left now first l) (sym so.2) (end_cases first so.0 so.1 turn all so.3 so.4)

-- the same rules hold at each look at a connection
pub same_rules : (idle given : Option Duration) (left still : ℕ) (now : Instant) (old new : List Pending) → given ≡ idle → still ≡ left → TurnsOver given still now old new → TurnsOver idle left now old new
same_rules idle given left still now old new same_idle same_left turned =
    subst (λ (i : Option Duration). TurnsOver i left now old new) same_idle (subst (λ (n : ℕ). TurnsOver given n now old new) same_left turned)

module _ (now : Instant) where
  pub came : (old mid new : List Pending) (one : Pending) (waits : Bool) → mid ≡ with_room old → IsNew now one → new ≡ (if waits then mid ++ one ∷ [] else mid) → ComesIn now old new
  came old mid new one true m is e = inr (one, is, e ∙ ap (λ (l : List Pending). l ++ one ∷ []) m)
  came old mid new one false m is e = inl (e ∙ m)

  pub comes_next : (first mid new : List Pending) (taken left before after : ℕ) → ComeIn now taken first mid → before + taken ≡ left → is_full mid ≡ false → ComesIn now mid new → 0 < before → after ≡ before - 1
      → (n : ℕ) × ComeIn now n first new × (after + n ≡ left)
  comes_next first mid new taken left before after so count room comes some less = (suc taken, (mid, so, room, comes), omega (arith, count, some, less))

pub emptied : (pending : List Pending) → length pending ≡ 0 → pending ≡ []
emptied [] none = refl
emptied (one ∷ rest) none = absurd (omega (arith, none))

pub looks_more : (idle given : Option Duration) (first mid new : List Pending) (left between still end : ℕ) (now : Instant) → (looks : ℕ) × Waits idle looks first mid left between
    → given ≡ idle → Looks given now mid new between still → end ≡ still → (looks : ℕ) × Waits idle looks first new left end
looks_more idle given first mid new left between still end now so same looks e =
    (suc so.0, (mid, between, now, so.1, subst (λ (n : ℕ). Looks idle now mid new between n) (sym e) (subst (λ (i : Option Duration). Looks i now mid new between still) same looks)))

pub gives_next : (idle : Option Duration) (first last new : List Pending) (left still : ℕ) (next : Option Pending) → (looks : ℕ) × Waits idle looks first last left still
    → TakesOut (position is_ready last) last new next → (next ≡ None → (still ≡ 0) × (new ≡ [])) → GivesNext idle first new left still next
gives_next idle first last new left still next so taken end = record { looks = so.0; last = last; waits = so.1; takes = taken; end = end }
