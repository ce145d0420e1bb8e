-- A check's `Result` as what document 01 says of it.
use Rattle.std.specs.Prelude.{ℕ, Result, Ok, Err}
use Rattle.scope.specs.declared.Fault.{Fault}
use Rattle.scope.specs.declared.Fault.TheVariants.{Length, Range, Section, Program, Area, Cell, Instruction, Buffer}
use Rattle.scope.specs.declared.Fault.TheVariants.{State}
use Rattle.scope.specs.declared.Refusal.{Refusal}
use Rattle.scope.specs.Checks.{Checked, Fine, Refused}

abbrev pub fault_number : Fault → ℕ
fault_number Length = 11
fault_number Range = 12
fault_number Section = 13
fault_number Program = 14
fault_number Area = 15
fault_number Cell = 16
fault_number Instruction = 17
fault_number Buffer = 18
fault_number State = 19

abbrev pub checked_of : {T : Type 0} → Result T Refusal → Checked
checked_of (Ok x) = Fine
checked_of (Err e) = Refused (fault_number e.fault) e.place
