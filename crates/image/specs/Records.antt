-- The records of an image as structs.
use Rattle.std.specs.Prelude.{List, ℕ}
use Rattle.scope.specs.Image.{program_field, area_field}
use Rattle.image.specs.declared.Program.{Program}
use Rattle.image.specs.declared.Area.{Area}

abbrev pub program_at : List ℕ → ℕ → Program
program_at b p =
    record {
      first = program_field b p 0;
      count = program_field b p 1;
      formals = program_field b p 2;
      temps = program_field b p 3;
      start = program_field b p 4;
      zero = program_field b p 5;
    }

abbrev pub area_at : List ℕ → ℕ → Area
area_at b a = record { first = area_field b a 0; length = area_field b a 1 }
