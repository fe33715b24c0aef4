-- The output for vectors, one line for each vector.
use Rattle.std.specs.Prelude.{ℕ, zero, suc, ◌≡◌, ◌≢◌, ◌⊎◌, ◌+◌, ◌-◌, ◌^◌, ◌++◌, ◌||◌, Bool, true, false, not, List, [], Option, IfSome, IsUtf8, codes, bytes_eq}
use Rattle.std.specs.Io.BufRead.{take_through, DropsThrough}
use Rattle.std.specs.Io.KnownBytes.{Appends, Keeps, IsAtEnd}
use Rattle.csi_config.specs.declared.config.Config.{Config}
use Rattle.csi_config.specs.Sample.{sample_plugin, sample_pools, sample_nodes}
use Rattle.frames_core.specs.Writing.{WrotePrefix}
use Rattle.csi_vectors.specs.Judging.{IsWritten}
use Rattle.csi_vectors.specs.Lines.{IsLineOf}
use Rattle.csi_vectors.specs.declared.vector.LineFault.{LineFault}
use Rattle.csi_vectors.specs.declared.vector.LineFault.TheVariants as fault
use Rattle.csi_vectors.specs.declared.running.RunHalt.{RunHalt}
use Rattle.csi_vectors.specs.declared.running.RunHalt.TheVariants as halt
use Rattle.csi_vectors.specs.declared.running.VectorsEnd.{VectorsEnd}
use Rattle.csi_vectors.specs.declared.running.VectorsEnd.TheVariants.{Done, BadLine, LinesSpent, ReadFailed, WriteFailed, NoMemory}

-- a text without the end of line that it may have
abbrev pub IsTextOf : List ℕ → List ℕ → Type 0
IsTextOf line text = (line ≡ text ++ codes "\n") ⊎ ((line ≡ text) × ((front : List ℕ) → line ≢ front ++ codes "\n"))

-- an empty line, or a comment, whose bytes need not be a text
abbrev pub IsSkipped : List ℕ → Type 0
IsSkipped text = (text ≡ []) ⊎ ((rest : List ℕ) × (text ≡ codes "#" ++ rest))

-- these bytes are not skipped, and they are not UTF-8 or do not have the form of a vector
abbrev pub IsNoText : List ℕ → Type 0
IsNoText text = (¬ IsSkipped text) × ((¬ IsUtf8 text) ⊎ ((name input output : List ℕ) → ¬ IsLineOf text name input output))

-- a line is no vector
abbrev pub IsNoVector : List ℕ → Type 0
IsNoVector line = (text : List ℕ) × IsTextOf line text × IsNoText text

-- the output for a vector
abbrev pub reported : Bool → List ℕ → List ℕ
reported true name = codes "FAIL " ++ name ++ codes "\n"
reported false name = codes "ok " ++ name ++ codes "\n"

-- a vector was run: a new server writes these bytes for its input. The vector failed if they are not its
-- output; then no call was refused for lack of memory.
pub record IsRun (config : Config) (text lines : List ℕ) (failed : Bool) : Type 0 where
  pub name : List ℕ
  pub input : List ℕ
  pub output : List ℕ
  pub bytes : List ℕ
  pub run : ¬ IsSkipped text
  pub utf8 : IsUtf8 text
  pub line : IsLineOf text name input output
  pub written : IsWritten config failed input bytes
  pub judged : failed ≡ not (bytes_eq bytes output)
  pub said : lines ≡ reported failed name

-- a vector was run, and a prefix of its line was written, which may be empty or the whole line
abbrev pub IsCut : Config → List ℕ → Option (List ℕ) → Option (List ℕ) → Type 0
IsCut config text held holds = (lines : List ℕ) × (failed : Bool) × IsRun config text lines failed × WrotePrefix held holds lines

-- a line was skipped, and nothing was written for it; or a vector was run
abbrev pub IsDone : Config → List ℕ → List ℕ → Bool → Type 0
IsDone config text lines failed = (IsSkipped text × (lines ≡ []) × (failed ≡ false)) ⊎ IsRun config text lines failed

-- the first line, with its end, was taken from the rest
abbrev pub Takes : Option (List ℕ) → Option (List ℕ) → List ℕ → Type 0
Takes before after line = IfSome before (λ bytes. line ≡ take_through 10 bytes) × DropsThrough before after 10

-- One more line was run. `Before` is true of the bytes left, the bytes held and the result before this line.
pub record LineStep (config : Config) (Before : Option (List ℕ) → Option (List ℕ) → Bool → Type 0) (left holds : Option (List ℕ)) (failed : Bool) : Type 0 where
  pub mid : Option (List ℕ)
  pub held : Option (List ℕ)
  pub already : Bool
  pub before : Before mid held already
  pub line : List ℕ
  pub text : List ℕ
  pub lines : List ℕ
  pub now : Bool
  pub some : line ≢ []
  pub taken : Takes mid left line
  pub is_text : IsTextOf line text
  pub done : IsDone config text lines now
  pub wrote : Appends held holds lines
  pub either : failed ≡ (already || now)

-- `count` lines were run, in order.
abbrev pub AreRun : Config → Option (List ℕ) → Option (List ℕ) → ℕ → Option (List ℕ) → Option (List ℕ) → Bool → Type 0
AreRun config unread held zero left holds failed = (left ≡ unread) × Keeps held holds × (failed ≡ false)
AreRun config unread held (suc n) left holds failed = LineStep config (AreRun config unread held n) left holds failed

-- How a run ends. After a failed write or flush of a vector's line, the writer holds all earlier lines and
-- a prefix of this one.
abbrev pub EndsAs : Config → Option (List ℕ) → Option (List ℕ) → Option (List ℕ) → VectorsEnd → Type 0
EndsAs config unread held holds (Done failed) = (count : ℕ) × (left : Option (List ℕ)) × AreRun config unread held count left holds failed × IsAtEnd left
EndsAs config unread held holds (BadLine number) = (count : ℕ) × (left : Option (List ℕ)) × (failed : Bool) × (after : Option (List ℕ)) × (line : List ℕ)
    × AreRun config unread held count left holds failed × Takes left after line × IsNoVector line × (number ≡ count + 1)
EndsAs config unread held holds LinesSpent = (count : ℕ) × (left : Option (List ℕ)) × (failed : Bool)
    × AreRun config unread held count left holds failed × (count ≡ 2 ^ 64 - 1)
EndsAs config unread held holds ReadFailed = (count : ℕ) × (left : Option (List ℕ)) × (failed : Bool) × AreRun config unread held count left holds failed
EndsAs config unread held holds WriteFailed = (count : ℕ) × (left : Option (List ℕ)) × (failed : Bool) × (after : Option (List ℕ)) × (line : List ℕ)
    × (before : Option (List ℕ)) × (text : List ℕ)
    × AreRun config unread held count left before failed × Takes left after line × IsTextOf line text × IsCut config text before holds
EndsAs config unread held holds NoMemory = (count : ℕ) × (left : Option (List ℕ)) × (failed : Bool) × AreRun config unread held count left holds failed

-- the reason why a line ends the run
abbrev pub halt_of : LineFault → RunHalt
halt_of fault.NotVector = halt.BadLine
halt_of fault.NoMemory = halt.NoMemory

-- the end of the run for this reason, at the line with this number
abbrev pub end_of : RunHalt → ℕ → VectorsEnd
end_of halt.BadLine number = BadLine number
end_of halt.WriteFailed number = WriteFailed
end_of halt.NoMemory number = NoMemory

-- the sample configuration
pub record IsSample (config : Config) : Type 0 where
  pub plugin : config.plugin ≡ sample_plugin
  pub default : config.sizes.default_bytes ≡ 1_048_576
  pub greatest : config.sizes.greatest_bytes ≡ 8_388_608
  pub pools : config.pools ≡ sample_pools
  pub nodes : config.nodes ≡ sample_nodes

-- A run under the sample configuration; without memory for that it writes nothing.
abbrev pub Runs : Option (List ℕ) → Option (List ℕ) → Option (List ℕ) → VectorsEnd → Type 0
Runs unread held holds end = ((end ≡ NoMemory) × Keeps held holds)
    ⊎ ((config : Config) × IsSample config × EndsAs config unread held holds end)
