-- Runs of lines.
use Rattle.std.proofs.Common.{◌≡◌, ◌==◌, ◌+◌, ◌∙◌, if◌then◌else◌, ℕ, suc, Bool, List, [], Option, Some, None, Err, IsErrOf, ◌||◌, ◌≢◌, ◌⊎◌, ⊎_elim, true, false, true≢false, arith, refl, ap, sym, subst}
use Rattle.std.specs.Io.Buffered.{reader_buffer, reader_capacity, reader_inner, reader_remaining}
use Rattle.std.specs.declared.io.buffered.BufReader.{BufReader}
use Rattle.std.specs.Io.KnownBytes.{Appends, prepend_known}
use Rattle.std.specs.Prelude.{bytes_eq, not, IsUtf8}
use Rattle.csi_config.specs.declared.config.Config.{Config}
use Rattle.frames_core.specs.Writing.{WrotePrefix}
use Rattle.csi_vectors.specs.Judging.{IsWritten}
use Rattle.csi_vectors.specs.Lines.{IsLineOf}
use Rattle.csi_vectors.specs.declared.running.VectorsEnd.{VectorsEnd}
use Rattle.csi_vectors.specs.declared.running.VectorsEnd.TheVariants.{ReadFailed, NoMemory}
use Rattle.csi_vectors.specs.declared.running.RunHalt.{RunHalt}
use Rattle.csi_vectors.specs.declared.running.RunHalt.TheVariants as halt
use Rattle.csi_vectors.specs.Running.{AreRun, EndsAs, IsCut, IsDone, IsNoVector, IsRun, IsSkipped, IsTextOf, Takes, end_of, reported}

pub none_before : (known : Option (List ℕ)) → prepend_known [] known ≡ known
none_before None = refl
none_before (Some bytes) = refl

-- ---- one vector

pub no_line : (given text : List ℕ) → given ≡ text → ((name input output : List ℕ) → IsLineOf given name input output → ⊥) → (name input output : List ℕ) → IsLineOf text name input output → ⊥
no_line given text same none name input output h = none name input output (subst (λ (l : List ℕ). IsLineOf l name input output) (sym same) h)

pub was_run : (config : Config) (text given name input output bytes : List ℕ) (ok : Bool) → (IsSkipped text → ⊥) → given ≡ text → IsUtf8 text → IsLineOf given name input output → IsWritten config (not ok) input bytes
    → ok ≡ bytes_eq bytes output → IsRun config text (reported (not ok) name) (not ok)
was_run config text given name input output bytes ok run same utf8 line written judged = record {
  name = name;
  input = input;
  output = output;
  bytes = bytes;
  run = run;
  utf8 = utf8;
  line = subst (λ (l : List ℕ). IsLineOf l name input output) same line;
  written = written;
  judged = ap not judged;
  said = refl;
}

-- the line that was made is the line that is reported
pub appended_as : (a b : Option (List ℕ)) (slice items line : List ℕ) → slice ≡ items → items ≡ line → Appends a b slice → Appends a b line
appended_as a b slice items line s i h = subst (λ (l : List ℕ). Appends a b l) (s ∙ i) h

pub cut_as : (a b : Option (List ℕ)) (slice items line : List ℕ) → slice ≡ items → items ≡ line → WrotePrefix a b slice → WrotePrefix a b line
cut_as a b slice items line s i h = subst (λ (l : List ℕ). WrotePrefix a b l) (s ∙ i) h

-- ---- lines

-- an empty buffer leaves the same bytes as its reader
pub fresh : {T A : Type 0} (remaining : T → Option (List ℕ)) (r : BufReader T A) (inner : T) → reader_inner r ≡ inner → reader_buffer r ≡ [] → reader_capacity r ≡ 8192
    → reader_remaining remaining r ≡ remaining inner
fresh remaining r inner i b k =
    ap (λ n. if n == 0 then None else prepend_known (reader_buffer r) (remaining (reader_inner r))) k
    ∙ ap (λ bytes. prepend_known bytes (remaining (reader_inner r))) b ∙ none_before (remaining (reader_inner r)) ∙ ap remaining i

-- one more line was run
pub one_more : (config : Config) (unread held mid left written holds : Option (List ℕ)) (count : ℕ) (already now all : Bool) (line given text lines : List ℕ) → AreRun config unread held count mid written already
    → Takes mid left line → line ≢ [] → given ≡ line → IsTextOf given text → IsDone config text lines now → Appends written holds lines → all ≡ (already || now) → AreRun config unread held (count + 1) left holds all
one_more config unread held mid left written holds count already now all line given text lines run taken some same is_text done wrote either =
    let more : AreRun config unread held (suc count) left holds all = record {
      mid = mid;
      held = written;
      already = already;
      before = run;
      line = line;
      text = text;
      lines = lines;
      now = now;
      some = some;
      taken = taken;
      is_text = subst (λ (l : List ℕ). IsTextOf l text) same is_text;
      done = done;
      wrote = wrote;
      either = either;
    } in
    let next : suc count ≡ count + 1 = omega arith in
    subst (λ (n : ℕ). AreRun config unread held n left holds all) next more

-- no more lines could be read
pub stopped : (config : Config) (unread held left holds : Option (List ℕ)) (count : ℕ) (failed : Bool) (end : VectorsEnd) → AreRun config unread held count left holds failed
    → (end ≡ NoMemory) ⊎ (end ≡ ReadFailed) → EndsAs config unread held holds end
stopped config unread held left holds count failed end run why =
    let ends : (e : VectorsEnd) → end ≡ e → EndsAs config unread held holds e → EndsAs config unread held holds end = λ e same h. subst (λ (x : VectorsEnd). EndsAs config unread held holds x) (sym same) h in
    ⊎_elim (λ e. ends NoMemory e (count, left, failed, run)) (λ e. ends ReadFailed e (count, left, failed, run)) why

abbrev is_write : RunHalt → Bool
is_write halt.BadLine = false
is_write halt.WriteFailed = true
is_write halt.NoMemory = false

unwritten : (why : RunHalt) → is_write why ≡ false → why ≢ halt.WriteFailed
unwritten why is e = true≢false (sym (ap is_write e) ∙ is)

-- a line ended the run
pub halted : (config : Config) (unread held left after holds now : Option (List ℕ)) (count number : ℕ) (failed : Bool) (line given : List ℕ) (why : RunHalt) (end : VectorsEnd)
    → AreRun config unread held count left holds failed → Takes left after line → given ≡ line → (why ≢ halt.WriteFailed → now ≡ holds) → (IsErrOf {T = Bool} {E = RunHalt} (Err why) halt.BadLine → IsNoVector given)
    → (IsErrOf {T = Bool} {E = RunHalt} (Err why) halt.WriteFailed → (text : List ℕ) × IsTextOf given text × IsCut config text holds now) → number ≡ count + 1 → end ≡ end_of why number → EndsAs config unread held now end
halted config unread held left after holds now count number failed line given halt.BadLine end run taken same kept bad cut is e =
    subst (λ (x : VectorsEnd). EndsAs config unread held now x) (sym e) (
      count,
      left,
      failed,
      after,
      line,
      subst (λ (h : Option (List ℕ)). AreRun config unread held count left h failed) (sym (kept (unwritten halt.BadLine refl))) run,
      taken,
      subst IsNoVector same (bad refl),
      is,
    )
halted config unread held left after holds now count number failed line given halt.WriteFailed end run taken same kept bad cut is e =
    let part = cut refl in
    subst (λ (x : VectorsEnd). EndsAs config unread held now x) (sym e) (count, left, failed, after, line, holds, part.0, run, taken, subst (λ (l : List ℕ). IsTextOf l part.0) same part.1, part.2)
halted config unread held left after holds now count number failed line given halt.NoMemory end run taken same kept bad cut is e =
    subst (λ (x : VectorsEnd). EndsAs config unread held now x) (sym e)
    (count, left, failed, subst (λ (h : Option (List ℕ)). AreRun config unread held count left h failed) (sym (kept (unwritten halt.NoMemory refl))) run)
