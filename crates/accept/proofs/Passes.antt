-- What a check that passed gives the next.
use mathlib.Core.Path.{◌≡◌, sym}
use mathlib.Core.List.{List, [], ◌∷◌}
use mathlib.Core.Bool.{true, ◌&&◌}
use Prim.Native.Nat.{ℕ, ◌+◌, ◌<◌, ◌≤◌}
use native.Mathlib.Omega.{arith}
use borrow.Author.Tests.{leb-true, eqb-true, le-leb, lt-leb, eq-eqb, ne_eqb}
use lib.Dec.{eqb, leb}
use lib.ListN.{length}
use Rattle.moore.specs.Objects.{choose}
use Rattle.scope.specs.Image.{word, programs, instructions, first_instruction, instruction_count}
use Rattle.scope.specs.Checks.{Fine, Refused, test, first_failing, tab, sum, ranges, sections, program_ok}
use Rattle.scope.specs.Checks.{program_tests}
use Rattle.scope.specs.Checks.{all_instructions, length_ok}
use Rattle.scope.proofs.Bools.{and_both}
use Rattle.scope.proofs.Formed.{sum_part}
use Rattle.scope.proofs.Tests.{head_fine, append-fine, tab_fine}
use Rattle.image.specs.Laid.{Ranged, Joined}
use Rattle.accept.specs.Facts.{Placed, program_test}

-- ---- 11

whole : (b : List ℕ) → Fine ≡ first_failing (test 11 0 (length_ok b) ∷ []) → (52 ≤ length b) × (word b 0 ≡ length b)
whole b e =
    let t = and_both (leb 52 (length b)) (eqb (word b 0) (length b)) (head_fine (length_ok b) 11 0 [] (sym e)).0 in
    (leb-true _ _ t.0, eqb-true _ _ t.1)

pub long : (b : List ℕ) → Fine ≡ first_failing (test 11 0 (length_ok b) ∷ []) → 52 ≤ length b
long b e = (whole b e).0

pub full : (b : List ℕ) → 52 ≤ length b → word b 0 ≡ length b → Fine ≡ first_failing (test 11 0 (length_ok b) ∷ [])
unfolding first_failing choose
full b h e = rw (le-leb 52 (length b) h, eq-eqb (word b 0) (length b) e)

pub short : (b : List ℕ) → length b < 52 → Refused 11 0 ≡ first_failing (test 11 0 (length_ok b) ∷ [])
unfolding first_failing choose
short b h = rw (lt-leb 52 (length b) h)

pub other : (b : List ℕ) → 52 ≤ length b → (word b 0 ≡ length b → ⊥)
    → Refused 11 0 ≡ first_failing (test 11 0 (length_ok b) ∷ [])
unfolding first_failing choose
other b h n = rw (le-leb 52 (length b) h, ne_eqb (word b 0) (length b) n)

pub ruleset lengths = (full, short, other)

pub total : (b : List ℕ) → Fine ≡ first_failing (test 11 0 (length_ok b) ∷ []) → word b 0 ≡ length b
total b e = (whole b e).1

-- ---- 12

within : (b : List ℕ) (k low high : ℕ) → leb low (word b k) && leb (word b k) high ≡ true
    → (low ≤ word b k) × (word b k ≤ high)
within b k low high e =
    let t = and_both (leb low (word b k)) (leb (word b k) high) e in (leb-true _ _ t.0, leb-true _ _ t.1)

pub ranged : (b : List ℕ) → Fine ≡ first_failing (ranges b) → Ranged b
unfolding ranges
ranged b e =
    let t1 = head_fine _ 12 1 _ (sym e) in
    let t2 = head_fine _ 12 2 _ t1.1 in
    let t3 = head_fine _ 12 3 _ t2.1 in
    let t4 = head_fine _ 12 4 _ t3.1 in
    let t5 = head_fine _ 12 5 _ t4.1 in
    let t6 = head_fine _ 12 11 _ t5.1 in
    let t7 = head_fine _ 12 12 _ t6.1 in
    record {
      programs = within b 1 1 256 t1.0;
      areas = (within b 2 0 256 t2.0).1;
      instructions = within b 3 1 2048 t3.0;
      constants = (within b 4 0 1024 t4.0).1;
      cells = (within b 5 0 2048 t5.0).1;
      control = within b 11 2 2048 t6.0;
      temporary = (within b 12 0 1024 t7.0).1;
    }

-- ---- 13

pub joined : (b : List ℕ) → Fine ≡ first_failing (sections b) → Joined b
unfolding sections
joined b e =
    let t0 = head_fine _ 13 0 _ (sym e) in
    let t6 = head_fine _ 13 6 _ t0.1 in
    let t7 = head_fine _ 13 7 _ t6.1 in
    let t8 = head_fine _ 13 8 _ t7.1 in
    let t9 = head_fine _ 13 9 _ t8.1 in
    let t10 = head_fine _ 13 10 _ t9.1 in
    let q0 = eqb-true (word b 0) _ t0.0 in
    let q6 = eqb-true (word b 6) _ t6.0 in
    let q7 = eqb-true (word b 7) _ t7.0 in
    let q8 = eqb-true (word b 8) _ t8.0 in
    let q9 = eqb-true (word b 9) _ t9.0 in
    let q10 = eqb-true (word b 10) _ t10.0 in
    record {
      total = omega arith;
      programs = q6;
      areas = omega arith;
      instructions = omega arith;
      constants = omega arith;
      cells = omega arith;
    }

-- ---- 14

pub placed : (b : List ℕ) → Fine ≡ first_failing (program_tests b) → Ranged b → Placed b
unfolding program_tests program_ok
placed b e r = record { lie = lie; few = r.instructions.1 }
  where
    t : (first_failing (tab (program_test b) (programs b)) ≡ Fine)
        × (first_failing (test 14 (programs b) (all_instructions b) ∷ []) ≡ Fine)
    t = append-fine (tab (program_test b) (programs b)) (test 14 (programs b) (all_instructions b) ∷ []) (sym e)

    all : sum (instruction_count b) (programs b) ≡ instructions b
    all = eqb-true _ _ (head_fine (all_instructions b) 14 (programs b) [] t.1).0

    lie : (p : ℕ) → p < programs b → first_instruction b p + instruction_count b p ≤ instructions b
    lie p l =
        let q = tab_fine (program_test b) (programs b) t.0 p l in
        let first : first_instruction b p ≡ sum (instruction_count b) p =
        eqb-true _ _ (and_both (eqb (first_instruction b p) (sum (instruction_count b) p)) _ q).0 in
        omega (arith, all, first, sum_part (instruction_count b) (programs b) p l)

pub ruleset passes = (total, ranged, joined, placed)
