-- Taking the items of a page.
use Rattle.std.proofs.Common.{◌≡◌, ◌≢◌, ℕ, ◌<◌, ◌≤◌, Bool, true, false, true≢false, List, [], ◌∷◌, ◌++◌, length, Option, Some, None, Result, Ok, Err, IsTrue, OnOk, IfErr, IsErrAnd, IsSome, inl, refl, sym, ap, subst, ◌∙◌, arith}
use Rattle.std.specs.List.{AllByRecursion}
use Rattle.pbwire.specs.Wire.{WireField}
use Rattle.pbwire.specs.Reading.{field_at}
use Rattle.sqlite.specs.Effect.{Database}
use Rattle.sqlite.specs.Held.{Held, state}
use Rattle.sqlite.specs.State.{State, HasCleanDisk, KeepsCommit, Survives}
use Rattle.sqlite.specs.Store as store
use Rattle.sqlite.specs.declared.error.Error.{Error}
use Rattle.sqlite.specs.declared.error.Error.TheVariants.{SqliteFailure}
use Rattle.sqlite.proofs.InsideLemmas.{keeps_then}
use Rattle.sqlite.proofs.StateLemmas.{survives_then}
use Rattle.csi_sql.specs.Failing.{FailsFor, for_memory, by_disk, as_shut, at_limit, as_refused}
use Rattle.csi_sql.specs.Transactions.{RunsOver}
use Rattle.csi_sql.specs.facts.Failing.{fails_weaker}
use Rattle.csi_sql.specs.Refusing.{RefusesAttachment, RefusesNext, RefusesVolume}
use Rattle.csi_sql.specs.Tables.{schema}
use Rattle.csi_change_store.specs.Pages.{PageItem, Meta, Volume, Attachment, Token, Skipped, AreTyped, BeginsWith, HasFlag, HasTexts, IsItem, IsPage, IsTyped, PagesRead, noted, volume_number, with_item}
use Rattle.csi_change_store.specs.Taking.{CommitsNothing, Extends, ExtendsFrom, FailsWith, IsFaultIn, IsFaultOf, IsItemFault, IsPageFault, IsRefusal, IsRefusedAs, Puts, PutsAll, PutsItem, RefusesItem, RefusesRow, TakesPage, kept_attachment, kept_volume}
use Rattle.csi_change_store.specs.declared.fault.RowsFault.{RowsFault}
use Rattle.csi_change_store.specs.declared.fault.RowsFault.TheVariants.{Malformed, Untyped, Flag, Refused, Row, NoMemory}
use Rattle.csi_change_store.proofs.CursorLemmas.{same_field}

-- ---- one item

-- an error of a statement, as a fault
fails_as : (item : PageItem) (Refuses : State → Error → Type 0) (old new : State) (e : Error) → ((why : Error) → Refuses old why → RefusesItem item old why) → FailsFor (Refuses old) old new e
    → (fault : RowsFault) → IsFaultOf (volume_number item) e fault → FailsWith (IsRefusedAs item old) old new fault
fails_as item Refuses old new e why failed Malformed is = tt
fails_as item Refuses old new e why failed (Untyped n) is = tt
fails_as item Refuses old new e why failed (Flag n node) is = tt
fails_as item Refuses old new e why failed (Refused f) is =
    subst (λ x. FailsFor (IsRefusedAs item old None) old new x) (sym is.1) (fails_weaker (Refuses old) (IsRefusedAs item old None) old new e (λ r. (is.0, why e r)) failed)
fails_as item Refuses old new e why failed (Row n f) is =
    subst (λ x. FailsFor (IsRefusedAs item old (Some n)) old new x) (sym is.1) (fails_weaker (Refuses old) (IsRefusedAs item old (Some n)) old new e (λ r. (is.0, why e r)) failed)
fails_as item Refuses old new e why failed NoMemory is = tt

module _ {S : Type 0} {g : store.Ghosts S} {a b : Held S} (item : PageItem) (Effect : Database → Database → Type 0) (Refuses : State → Error → Type 0) where
  pub puts_err : {X : Type 0} (e : Error) (fault : RowsFault) → ((s : State) (why : Error) → Refuses s why → RefusesItem item s why) → RunsOver g a b {X = X} schema Effect Refuses (Err e) → IsFaultOf (volume_number item) e fault → PutsItem g a b item (Err fault)
  puts_err e fault same ran is = record {
    ok = tt;
    failed = λ clean inside has. fails_as item Refuses (state g a) (state g b) e (same (state g a)) (ran.failed clean inside has) fault is;
    nothing = record { kept = ran.kept; survives = ran.survives };
  }

module _ {S : Type 0} (g : store.Ghosts S) (a : Held S) where
  pub nothing_done : CommitsNothing g a a
  nothing_done = record {
    kept = λ clean inside. record { was_open = λ h. h; committed = λ h. refl };
    survives = record { clean = omega arith; shield = λ h. h; counts = omega arith; limit = refl; closes = λ clean is_open. inl is_open; crash = λ clean db left. inl left };
  }

-- ---- many items

puts_schema : (item : PageItem) (old new : Database) → Puts item old new → new.schema ≡ old.schema
puts_schema (Meta row) old new h = h.schema
puts_schema (Volume row) old new h = h.schema
puts_schema (Attachment row) old new h = h.schema
puts_schema (Token token) old new h = ap (λ (db : Database). db.schema) h
puts_schema Skipped old new h = ap (λ (db : Database). db.schema) h

pub all_schema : (items : List PageItem) (old new : Database) → PutsAll items old new → new.schema ≡ old.schema
all_schema [] old new h = ap (λ (db : Database). db.schema) h
all_schema (item ∷ items) old new h = all_schema items h.0 new h.2 ∙ puts_schema item old h.0 h.1

pub puts_append : (items more : List PageItem) (old mid new : Database) → PutsAll items old mid → PutsAll more mid new → PutsAll (items ++ more) old new
puts_append [] more old mid new h k = subst (λ db. PutsAll more db new) h k
puts_append (item ∷ items) more old mid new h k = (h.0, h.1, puts_append items more h.0 mid new h.2 k)

pub begins_push : (items : List PageItem) (bytes mid rest : List ℕ) (e : WireField) (item : PageItem) → BeginsWith items bytes mid → field_at mid ≡ Ok (e, rest) → IsItem e item → BeginsWith (items ++ item ∷ []) bytes rest
begins_push [] bytes mid rest e item h read is = (e, rest, ap field_at h ∙ read, is, refl)
begins_push (i ∷ items) bytes mid rest e item h read is = (h.0, h.1, h.2, h.3, begins_push items h.1 mid rest e item h.4 read is)

pub typed_append : (items more : List PageItem) → AreTyped items → AreTyped more → AreTyped (items ++ more)
typed_append [] more h k = k
typed_append (item ∷ items) more h k = (h.0, typed_append items more h.1 k)

pub noted_append : (items more : List PageItem) (notes : PagesRead) → noted (items ++ more) notes ≡ noted more (noted items notes)
noted_append [] more notes = refl
noted_append (item ∷ items) more notes = noted_append items more (with_item item notes)

-- the bytes after the first items of a page are a page
module _ (shorter : (bytes rest : List ℕ) (e : WireField) → field_at bytes ≡ Ok (e, rest) → length rest < length bytes) where
  pub goes_after : (done items : List PageItem) (bytes rest : List ℕ) → BeginsWith done bytes rest → IsPage bytes items → (more : List PageItem) × IsPage rest more
  goes_after [] items bytes rest h page = (items, subst (λ b. BeginsWith items b []) h page)
  goes_after (d ∷ done) [] bytes rest h page = absurd (let n : length h.1 < length bytes = shorter bytes h.1 h.0 h.2 in omega (arith, n, ap length page))
  goes_after (d ∷ done) (i ∷ items) bytes rest h page =
      let same = same_field bytes h.0 page.0 h.1 page.1 h.2 page.2 in
      goes_after done items h.1 rest h.4 (subst (λ b. BeginsWith items b []) same.1 page.4)

  -- the bytes encode no item although they should
  pub no_page : (done : List PageItem) (bytes rest : List ℕ) → BeginsWith done bytes rest → rest ≢ [] → ((e : WireField) (more : List ℕ) → field_at rest ≡ Ok (e, more) → (item : PageItem) → IsItem e item → ⊥) → (items : List PageItem) → IsPage bytes items → ⊥
  no_page done bytes rest h some none items page = let it = goes_after done items bytes rest h page in from it.0 it.1
    where
      from : (more : List PageItem) → IsPage rest more → ⊥
      from [] is = some is
      from (item ∷ more) is = none is.0 is.1 is.2 item is.3

  -- an item that the tables cannot take
  pub faulty : (done : List PageItem) (bytes mid rest : List ℕ) (e : WireField) → BeginsWith done bytes mid → field_at mid ≡ Ok (e, rest) → mid ≢ [] → (fault : RowsFault) → IsItemFault (IsItem e) fault → IsPageFault bytes fault
  faulty done bytes mid rest e h read some Malformed is =
      no_page done bytes mid h some (λ f more at item spelled. is item (subst (λ x. IsItem x item) (same_field mid e f rest more read at).0 spelled))
  faulty done bytes mid rest e h read some (Untyped n) is = record { before = done; item = is.0; rest = rest; begins = begins_push done bytes mid rest e is.0 h read is.1; bad = (is.2, is.3) }
  faulty done bytes mid rest e h read some (Flag n node) is = record { before = done; item = is.0; rest = rest; begins = begins_push done bytes mid rest e is.0 h read is.1; bad = (is.2, is.3, is.4) }
  faulty done bytes mid rest e h read some (Refused f) is = absurd is
  faulty done bytes mid rest e h read some (Row n f) is = absurd is
  faulty done bytes mid rest e h read some NoMemory is = tt

pub of_database : (bytes : List ℕ) (fault : RowsFault) → IsRefusal fault → IsPageFault bytes fault
of_database bytes Malformed is = absurd is
of_database bytes (Untyped n) is = absurd is
of_database bytes (Flag n node) is = absurd is
of_database bytes (Refused e) is = tt
of_database bytes (Row n e) is = tt
of_database bytes NoMemory is = tt

pub no_cause : (refuses : Option ℕ → Error → Type 0) (old new : State) (spelled : PageItem → Type 0) (fault : RowsFault) → IsItemFault spelled fault → FailsWith refuses old new fault
no_cause refuses old new spelled Malformed is = tt
no_cause refuses old new spelled (Untyped n) is = tt
no_cause refuses old new spelled (Flag n node) is = tt
no_cause refuses old new spelled (Refused e) is = absurd is
no_cause refuses old new spelled (Row n e) is = absurd is
no_cause refuses old new spelled NoMemory is = tt

-- ---- the items so far

module _ {S : Type 0} (g : store.Ghosts S) where
  pub record Taking (body rest : List ℕ) (before now : PagesRead) (a b : Held S) : Type 0 where
    pub done : List PageItem
    pub begins : BeginsWith done body rest
    pub typed : AreTyped done
    pub noted_is : now ≡ noted done before
    pub puts : ExtendsFrom g a b (PutsAll done)
    pub nothing : CommitsNothing g a b

  pub nothing_then : (a b c : Held S) → CommitsNothing g a b → CommitsNothing g b c → (HasCleanDisk (state g b) → IsTrue a.in_transaction → IsTrue b.in_transaction) → CommitsNothing g a c
  nothing_then a b c one two stays =
      let earlier : HasCleanDisk (state g c) → HasCleanDisk (state g b) = λ clean. omega (arith, two.survives.clean) in
      record {
        kept = λ clean inside. keeps_then (state g a) (state g b) (state g c) (one.kept (earlier clean) inside) (two.kept clean (stays (earlier clean) inside));
        survives = survives_then (state g a) (state g b) (state g c) (λ _. ⊥) (λ _. ⊥) (λ _. ⊥) (λ _ db none. none) (λ _ db none. none) one.survives two.survives;
      }

  pub extends_then : (a b c : Held S) (P Q R : Database → Database → Type 0) → ((x y z : Database) → P x y → Q y z → R x z) → ((x y : Database) → P x y → y.schema ≡ x.schema)
      → ExtendsFrom g a b P → ExtendsFrom g b c Q → Survives (state g b) (state g c) (λ _. ⊥) → ExtendsFrom g a c R
  extends_then a b c P Q R both keeps one two left clean inside =
      let earlier : HasCleanDisk (state g b) = omega (arith, left.clean) in
      let first = one earlier inside in
      let second = two clean first.inside in
      record {
        is_open = λ h. second.is_open (first.is_open h);
        committed = second.committed ∙ first.committed;
        inside = second.inside;
        effect = λ has. let p = first.effect has in both _ _ _ p (second.effect (keeps _ _ p ∙ has));
      }

  pub starts : (body : List ℕ) (notes : PagesRead) (a : Held S) → Taking body body notes notes a a
  starts body notes a = record {
    done = [];
    begins = refl;
    typed = tt;
    noted_is = refl;
    puts = λ clean inside. record { is_open = λ h. h; committed = refl; inside = inside; effect = λ has. refl };
    nothing = nothing_done g a;
  }

  module _ (body mid : List ℕ) (before : PagesRead) (a b c : Held S) where
    stays : (now : PagesRead) → Taking body mid before now a b → HasCleanDisk (state g b) → IsTrue a.in_transaction → IsTrue b.in_transaction
    stays now t clean inside = (t.puts clean inside).inside

    pub goes_on : (rest : List ℕ) (e : WireField) (item : PageItem) (now after : PagesRead) → Taking body mid before now a b → field_at mid ≡ Ok (e, rest) → IsItem e item → IsTyped item → PutsItem g b c item (Ok tt) → after ≡ with_item item now → Taking body rest before after a c
    goes_on rest e item now after t read is typed put noted_so = record {
      done = t.done ++ item ∷ [];
      begins = begins_push t.done body mid rest e item t.begins read is;
      typed = typed_append t.done (item ∷ []) t.typed (typed, tt);
      noted_is = noted_so ∙ ap (with_item item) t.noted_is ∙ sym (noted_append t.done (item ∷ []) before);
      puts = extends_then a b c (PutsAll t.done) (Puts item) (PutsAll (t.done ++ item ∷ [])) (λ x y z h k. puts_append t.done (item ∷ []) x y z h (z, k, refl)) (all_schema t.done) t.puts put.ok put.nothing.survives;
      nothing = nothing_then a b c t.nothing put.nothing (stays now t);
    }

    later : (P Q : Error → Type 0) (e : Error) → Survives (state g a) (state g b) (λ _. ⊥) → (IsTrue (state g a).is_open → IsTrue (state g b).is_open) → (P e → Q e) → FailsFor P (state g b) (state g c) e → FailsFor Q (state g a) (state g c) e
    later P Q e left opened f (for_memory is) = for_memory is
    later P Q e left opened f (by_disk is more) = by_disk is (omega (arith, left.counts, more))
    later P Q e left opened f (as_shut is shut) = as_shut is (closed (state g a).is_open refl)
      where
        closed : (o : Bool) → (state g a).is_open ≡ o → o ≡ false
        closed true h = absurd (true≢false (sym (opened h) ∙ shut))
        closed false h = refl
    later P Q e left opened f (at_limit is some) = at_limit is (subst IsSome left.limit some)
    later P Q e left opened f (as_refused why) = as_refused (f why)

    refused_later : (item : PageItem) (e : Error) → (state g b).step_limit ≡ (state g a).step_limit → RefusesItem item (state g b) e → RefusesItem item (record (state g a) { now = (state g b).now }) e
    refused_later (Meta row) e limit why = subst (λ l. RefusesNext row.next (record (state g a) { now = (state g b).now; step_limit = l }) e) limit why
    refused_later (Volume row) e limit why = subst (λ l. RefusesVolume (kept_volume row) (record (state g a) { now = (state g b).now; step_limit = l }) e) limit why
    refused_later (Attachment row) e limit why = subst (λ l. RefusesAttachment (kept_attachment row) (record (state g a) { now = (state g b).now; step_limit = l }) e) limit why
    refused_later (Token token) e limit why = why
    refused_later Skipped e limit why = why

    fails_so : (rest : List ℕ) (e : WireField) (item : PageItem) (now : PagesRead) → Taking body mid before now a b → field_at mid ≡ Ok (e, rest) → IsItem e item → HasCleanDisk (state g b) → IsTrue a.in_transaction
        → (fault : RowsFault) → FailsWith (IsRefusedAs item (state g b)) (state g b) (state g c) fault → FailsWith (λ number x. RefusesRow body number (state g a) x) (state g a) (state g c) fault
    fails_so rest e item now t read is clean inside Malformed failed = tt
    fails_so rest e item now t read is clean inside (Untyped n) failed = tt
    fails_so rest e item now t read is clean inside (Flag n node) failed = tt
    fails_so rest e item now t read is clean inside (Refused f) failed =
        later (IsRefusedAs item (state g b) None) (RefusesRow body None (state g a)) f t.nothing.survives (t.puts clean inside).is_open
        (λ why. record { before = t.done; item = item; rest = rest; begins = begins_push t.done body mid rest e item t.begins read is; numbered = why.0; db = (state g b).now; puts = (t.puts clean inside).effect; refused = refused_later item f t.nothing.survives.limit why.1 }) failed
    fails_so rest e item now t read is clean inside (Row n f) failed =
        later (IsRefusedAs item (state g b) (Some n)) (RefusesRow body (Some n) (state g a)) f t.nothing.survives (t.puts clean inside).is_open
        (λ why. record { before = t.done; item = item; rest = rest; begins = begins_push t.done body mid rest e item t.begins read is; numbered = why.0; db = (state g b).now; puts = (t.puts clean inside).effect; refused = refused_later item f t.nothing.survives.limit why.1 }) failed
    fails_so rest e item now t read is clean inside NoMemory failed = tt

    -- an item is not put
    pub refused : (rest : List ℕ) (e : WireField) (item : PageItem) (now after : PagesRead) (fault : RowsFault) (r : Result (Unit {0}) RowsFault) → IsErrAnd r (λ x. x ≡ fault) → Taking body mid before now a b → field_at mid ≡ Ok (e, rest) → IsItem e item
        → PutsItem g b c item (Err fault) → IsRefusal fault → TakesPage g a c body before after r
    refused rest e item now after fault (Ok x) at t read is put refusal = absurd at
    refused rest e item now after fault (Err x) at t read is put refusal = subst (λ y. TakesPage g a c body before after (Err y)) (sym at) (record {
      ok = tt;
      fault = of_database body fault refusal;
      failed = λ clean inside has.
          let earlier : HasCleanDisk (state g b) = omega (arith, put.nothing.survives.clean) in
          let stepped = t.puts earlier inside in
          fails_so rest e item now t read is earlier inside fault (put.failed clean stepped.inside (all_schema t.done _ _ (stepped.effect has) ∙ has));
      nothing = nothing_then a b c t.nothing put.nothing (stays now t);
    })

  module _ (shorter : (bytes rest : List ℕ) (e : WireField) → field_at bytes ≡ Ok (e, rest) → length rest < length bytes) (body mid : List ℕ) (before now : PagesRead) (a b : Held S) (t : Taking body mid before now a b) where
    pub ends : mid ≡ [] → TakesPage g a b body before now (Ok tt)
    ends none = record {
      ok = (t.done, subst (λ bytes. BeginsWith t.done body bytes) none t.begins, t.typed, t.noted_is, t.puts);
      fault = tt;
      failed = λ clean inside has. tt;
      nothing = t.nothing;
    }

    -- there is no field
    pub stops : (after : PagesRead) → mid ≢ [] → ((e : WireField) (more : List ℕ) → field_at mid ≡ Ok (e, more) → ⊥) → TakesPage g a b body before after (Err Malformed)
    stops after some none = record {
      ok = tt;
      fault = no_page shorter t.done body mid t.begins some (λ e more at item spelled. none e more at);
      failed = λ clean inside has. tt;
      nothing = t.nothing;
    }

    -- the field encodes no item that the tables can take
    pub unspelled : (rest : List ℕ) (e : WireField) (after : PagesRead) (fault : RowsFault) (r : Result (Unit {0}) RowsFault) → IsErrAnd r (λ x. x ≡ fault) → field_at mid ≡ Ok (e, rest) → mid ≢ [] → IsItemFault (IsItem e) fault → TakesPage g a b body before after r
    unspelled rest e after fault (Ok x) at read some is = absurd at
    unspelled rest e after fault (Err x) at read some is = subst (λ y. TakesPage g a b body before after (Err y)) (sym at) (record {
      ok = tt;
      fault = faulty shorter t.done body mid rest e t.begins read some fault is;
      failed = λ clean inside has. no_cause (λ number x. RefusesRow body number (state g a) x) (state g a) (state g b) (IsItem e) fault is;
      nothing = t.nothing;
    })
