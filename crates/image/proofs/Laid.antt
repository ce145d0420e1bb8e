-- What the header's checks give: the words that were read, and sections that lie in the image.
use mathlib.Core.Path.{◌≡◌, refl}
use mathlib.Core.List.{List}
use Prim.Native.Nat.{ℕ, ◌≤◌}
use native.Mathlib.Omega.{arith}
use lib.ListN.{length}
use Rattle.scope.specs.Image.{word}
use Rattle.image.specs.declared.Counts.{Counts}
use Rattle.image.specs.declared.Offsets.{Offsets}
use Rattle.image.specs.Laid.{Laid, Counted, Ranged, Joined, counts_of, offsets_of}

pub laid : (b : List ℕ) (at : Offsets) → 52 ≤ length b → word b 0 ≡ length b → Ranged b → Joined b → at ≡ offsets_of b
    → Laid b at
laid b at l w r j e =
    let t : Laid b (offsets_of b) = record {
      programs_at = refl;
      areas_at = refl;
      instructions_at = refl;
      constants_at = refl;
      cells_at = refl;
      programs_in = omega (arith, r, j);
      areas_in = omega (arith, r, j);
      instructions_in = omega (arith, r, j);
      constants_in = omega (arith, r, j);
      cells_in = omega (arith, r, j);
      small = omega (arith, r, j);
    } in
    rw e t

pub counted : (b : List ℕ) (n : Counts) → n ≡ counts_of b → Counted b n
counted b n e =
    let t : Counted b (counts_of b) = record {
      programs_are = refl;
      areas_are = refl;
      instructions_are = refl;
      constants_are = refl;
      cells_are = refl;
      control_is = refl;
      temporary_is = refl;
    } in
    rw e t
