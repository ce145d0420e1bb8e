-- Tests one after the other, joined by `?`: what each says, and what all of them say.
use Rattle.std.proofs.Common.{◌≡◌, ℕ, List, [], ◌∷◌}
use mathlib.Core.Path.{refl}
use Rattle.scope.specs.Checks.{Checked, Fine, Refused, Test, first_failing}
use Rattle.scope.specs.Calls.{and_then}
use Rattle.scope.proofs.Tests.{append_says}

pub head-says : (t : Test) (ts : List Test) → first_failing (t ∷ ts) ≡ and_then (first_failing (t ∷ [])) (first_failing ts)
head-says t ts = append_says (t ∷ []) ts

pub and_fine : (k : Checked) → and_then Fine k ≡ k
unfolding and_then
and_fine k = refl

pub and_refused : (n p : ℕ) (k : Checked) → and_then (Refused n p) k ≡ Refused n p
unfolding and_then
and_refused n p k = refl

pub ruleset said = (head-says, append_says, and_fine, and_refused)
