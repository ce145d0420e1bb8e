-- A read into the part of a buffer behind what was read before, a write of the part behind what was written, and the whole from a reader to a
-- writer.
use native.Mathlib.Decide.{dec_lt}
use Rattle.std.proofs.Common.{IfSome, append-nil, ◌<◌, None, Some, ◌≡◌, ℕ, ◌+◌, ◌-◌, ◌≤◌, List, ◌++◌, length, take, drop, ap, ◌∙◌, sym, subst, arith, length-take-le, length-append}
use Rattle.std.proofs.Math.Seq.{take-add, take-append-add, take-append-le}
use Rattle.std.proofs.lemmas.List.{take_rest, length-drop}
use Rattle.std.specs.Io.KnownBytes.{Consumes, IsAtEnd, Appends}
use Rattle.std.proofs.KnownBytes.{Appends-trans, Consumes-trans}
use Rattle.std.specs.declared.option.Option.{Option}
use Rattle.scope.specs.Printing.{Writes}
use Rattle.piton_run.specs.Whole.{AppendsPart, Answered, BrokenOff, unwritten}
use Rattle.piton_run.proofs.Lines.{all_too_long}

module _ (done : ℕ) (buf part rest : List ℕ) (h : done ≤ length buf) (a b c : Option (List ℕ)) (before : Consumes a b (take done buf)) where
  -- the buffer's front and what was read behind it
  behind : (n : ℕ) → n ≤ length part → take (done + n) (take done buf ++ (part ++ rest)) ≡ take done buf ++ take n part
  behind n k =
      ap (λ (m : ℕ). take (m + n) (take done buf ++ (part ++ rest))) (sym (length-take-le done buf h))
      ∙ take-append-add (take done buf) (part ++ rest) n
      ∙ ap (λ (l : List ℕ). take done buf ++ l) (take-append-le n part rest k)

  long : length (take done buf ++ (part ++ rest)) ≡ done + (length part + length rest)
  long = omega (arith, length-take-le done buf h, length-append (take done buf) (part ++ rest), length-append part rest)

  pub read_more : (n m : ℕ) → m ≡ done + n → n ≤ length part → Consumes b c (take n part)
      → (m ≤ length (take done buf ++ (part ++ rest))) × Consumes a c (take m (take done buf ++ (part ++ rest)))
  read_more n m e k x = (
    omega (arith, long),
    rw e (subst (Consumes a c) (sym (behind n k)) (Consumes-trans a b c _ _ before x)),
  )

pub wrote_more : (buf : List ℕ) (a b c : Option (List ℕ)) (done n m : ℕ) → done ≤ length buf → m ≡ done + n
    → n ≤ length (take (length buf - done) (drop done buf)) → Appends a b (take done buf)
    → Appends b c (take n (take (length buf - done) (drop done buf))) → (m ≤ length buf) × Appends a c (take m buf)
wrote_more buf a b c done n m h e k x y =
    let rest = take_rest buf done in
    let left : length (drop done buf) ≡ length buf - done = length-drop done buf in (
      omega (arith, ap length rest, left),
      subst (Appends a c)
          (sym (ap (λ (i : ℕ). take i buf) e ∙ take-add done n buf ∙ ap (λ (l : List ℕ). take done buf ++ take n l) (sym rest)))
          (Appends-trans a b c _ _ x y),
    )

-- what is printed after the bytes of a reader that was read to its end, or for more bytes than count
pub told_whole : (a c : Option (List ℕ)) (n : ℕ) (buf t : List ℕ) → 65536 < length buf → n ≤ length buf → Consumes a c (take n buf)
    → (n < length buf → IsAtEnd c) → Writes (take n buf) t → IfSome a (λ (input : List ℕ). Writes input t)
told_whole None c n buf t long k e end w = tt
told_whole (Some xs) None n buf t long k e end w = absurd e
told_whole (Some xs) (Some ys) n buf t long k e end w = by (dec_lt n (length buf))
  where
    by : Dec (n < length buf) → Writes xs t
    by (yes l) =
        let whole : xs ≡ take n buf = e ∙ ap (λ (r : List ℕ). take n buf ++ r) (end l) ∙ append-nil (take n buf) in
        subst (λ (b : List ℕ). Writes b t) (sym whole) w
    by (no l) =
        let full : length (take n buf) ≡ n = length-take-le n buf k in
        let more : length xs ≡ n + length ys = ap length e ∙ length-append (take n buf) ys ∙ ap (λ (m : ℕ). m + length ys) full in
        all_too_long (take n buf) xs t (omega arith) (omega arith) w

module _ (a old new : Option (List ℕ)) (t : List ℕ) (w : IfSome a (λ (input : List ℕ). Writes input t)) where
  pub answered : Appends old new t → IfSome a (λ (input : List ℕ). Answered input old new)
  answered x = by a w
    where
      by : (a : Option (List ℕ)) → IfSome a (λ (input : List ℕ). Writes input t) → IfSome a (λ (input : List ℕ). Answered input old new)
      by None v = tt
      by (Some xs) v = record { text = t; writes = v; appended = x }

  pub broken_off : AppendsPart old new t → IfSome a (λ (input : List ℕ). BrokenOff input old new)
  broken_off x = by a w
    where
      by : (a : Option (List ℕ)) → IfSome a (λ (input : List ℕ). Writes input t) → IfSome a (λ (input : List ℕ). BrokenOff input old new)
      by None v = tt
      by (Some xs) v = unwritten t v x
