-- The code of an instruction.
use Rattle.std.specs.Prelude.{ℕ}
use Rattle.ops.specs.declared.opcodes.Opcode.{Opcode}
use Rattle.ops.specs.declared.opcodes.Opcode.TheVariants as O

abbrev pub opcode_number : Opcode → ℕ
opcode_number O.Call = 1
opcode_number O.Ret = 2
opcode_number O.PushConstant = 3
opcode_number O.PushLocal = 4
opcode_number O.PushGlobal = 5
opcode_number O.Pop = 6
opcode_number O.PopMany = 7
opcode_number O.PopLocal = 8
opcode_number O.PopGlobal = 9
opcode_number O.SetLocal = 10
opcode_number O.SetGlobal = 11
opcode_number O.Jump = 12
opcode_number O.JumpCase = 13
opcode_number O.TestNat = 14
opcode_number O.TestInt = 15
opcode_number O.TestBool = 16
opcode_number O.NoOp = 17
opcode_number O.Eq = 18
opcode_number O.AddAddr = 19
opcode_number O.SubAddr = 20
opcode_number O.LtAddr = 21
opcode_number O.Fetch = 22
opcode_number O.Deposit = 23
opcode_number O.AddInt = 24
opcode_number O.SubInt = 25
opcode_number O.NegInt = 26
opcode_number O.LtInt = 27
opcode_number O.IntToNat = 28
opcode_number O.AddNat = 29
opcode_number O.Add1Nat = 30
opcode_number O.SubNat = 31
opcode_number O.Sub1Nat = 32
opcode_number O.LtNat = 33
opcode_number O.OrBool = 34
opcode_number O.AndBool = 35
opcode_number O.NotBool = 36
