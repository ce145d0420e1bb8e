-- The parts of a whole run: what load and run came to, and its lines. Nothing here has to be believed but, for what `serve` says, the last part.
use Rattle.std.specs.Prelude.{◌≡◌, List, [], ◌∷◌, ◌++◌, ℕ, ◌*◌, ◌/◌, ◌≤◌, ◌<◌, eqb, length, take}
use Rattle.std.specs.declared.option.Option.{Option}
use Rattle.std.specs.Io.KnownBytes.{Keeps, Appends, Consumes}
use Rattle.moore.specs.Objects.{choose}
use Rattle.moore.specs.Machine.{P}
use Rattle.scope.specs.declared.Cell.{Cell}
use Rattle.scope.specs.declared.Ran.{Ran}
use Rattle.scope.specs.Image.{data_cells, control_limit, temporary_limit}
use Rattle.scope.specs.Checks.{Fine, Refused, image_says}
use Rattle.scope.specs.Holding.{text_of, initial, registers_of, data_words}
use Rattle.scope.specs.Calls.{Count, answer_of, no_registers}
use Rattle.scope.specs.Printing.{cell_lines, line, in_lines, budget, input_says, Writes}
use Rattle.cells.specs.Rows.{cells}
use Rattle.cells.specs.Rows.{Sized}
use Rattle.calls.specs.Answers.{refused_run}
use Rattle.piton_run.specs.declared.Lengths.{Lengths}

-- the bytes of a buffer that a count of the header asks for: an empty one where the count is out of range
pub record BytesFor (cells most r : ℕ) : Type 0 where
  pub within : r ≤ 8 * most
  pub right : cells ≤ most → r ≡ 8 * cells
  pub none : most < cells → r ≡ 0

-- what the image asks for, if it is accepted, and never more than there is
pub record Asked (b : List ℕ) (n : Lengths) : Type 0 where
  pub areas : n.areas ≤ 16384
  pub temporary : n.temporary ≤ 8192
  pub control : n.control ≤ 16384
  pub right : image_says b ≡ Fine → (n.areas ≡ 8 * data_cells b) × (n.temporary ≡ 8 * temporary_limit b) × (n.control ≡ 8 * control_limit b)

-- lent by these lengths
pub record Fitting (b d t c : List ℕ) : Type 0 where
  pub sized : image_says b ≡ Fine → Sized b d t c

-- a load and, unless it is refused, a run, which leaves d in the data buffer
pub data RanWhole (b : List ℕ) (out : Ran) (d : List ℕ) : Type 0 where
  refused : {n p : ℕ} → input_says b ≡ Refused n p → out ≡ refused_run n p no_registers → RanWhole b out d
  ran : input_says b ≡ Fine → Count (text_of b) (initial b) budget out.steps
      → out.answer ≡ answer_of (P (text_of b) (initial b) out.steps).psw
      → out.place ≡ 0
      → out.registers ≡ registers_of (P (text_of b) (initial b) out.steps)
      → cells (length d / 8) d ≡ data_words (P (text_of b) (initial b) out.steps).areas
      → RanWhole b out d

-- ---- the lines

unfoldable pub first_line : Ran → List ℕ
first_line r =
    line (r.answer ∷ r.place ∷ r.steps ∷ r.registers.status ∷ r.registers.program ∷ r.registers.offset.0
    ∷ r.registers.temporary ∷ r.registers.control ∷ [])

unfoldable pub cell_line : ℕ → Cell → List ℕ
cell_line i c = line (i ∷ c.tag ∷ c.name ∷ c.value ∷ [])

unfoldable pub lines_of : List Cell → List ℕ
lines_of cs = in_lines (cell_lines 0 cs)

-- status 3 is that of a refusal
unfoldable pub told : Ran → List ℕ → List ℕ
told r d = choose (eqb r.registers.status 3) (first_line r) (first_line r ++ lines_of (cells (length d / 8) d))

-- ---- from a reader to a writer

-- what the writer holds grew by what is printed after b
pub record Answered (b : List ℕ) (old new : Option (List ℕ)) : Type 0 where
  pub text : List ℕ
  pub writes : Writes b text
  pub appended : Appends old new text

-- it grew by a beginning of these bytes
abbrev pub AppendsPart : Option (List ℕ) → Option (List ℕ) → List ℕ → Type 0
AppendsPart old new bytes = (n : ℕ) × Appends old new (take n bytes)

-- what a reader had left lost a beginning of these bytes
abbrev pub ConsumesPart : Option (List ℕ) → Option (List ℕ) → List ℕ → Type 0
ConsumesPart old new bytes = (n : ℕ) × Consumes old new (take n bytes)

-- a read failed, and nothing was written; or a write failed, when a beginning of what is printed after b was
pub data BrokenOff (b : List ℕ) (old new : Option (List ℕ)) : Type 0 where
  unread : Keeps old new → BrokenOff b old new
  unwritten : (text : List ℕ) → Writes b text → AppendsPart old new text → BrokenOff b old new
