-- What the checks of an image say together.
use Rattle.std.proofs.Common.{◌≡◌, ℕ, List, [], ◌∷◌, ◌++◌}
use mathlib.Core.Path.{refl}
use Rattle.scope.specs.Image.{programs}
use Rattle.scope.specs.Checks.{test, first_failing, tab, concat, length_ok, ranges}
use Rattle.scope.specs.Checks.{sections}
use Rattle.scope.specs.Checks.{program_tests, area_tests, cell_tests, code_tests, image_tests, image_says}
use Rattle.scope.proofs.Tests.{append_says}
use Rattle.image.proofs.Said.{head-says, and_fine, and_refused}

-- number by number
pub image-says : (b : List ℕ)
    → image_says b
    ≡ first_failing
    ((test 11 0 (length_ok b) ∷ [])
    ++ (ranges b
    ++ (sections b
    ++ (program_tests b ++ (area_tests b ++ (cell_tests b ++ concat (tab (code_tests b) (programs b))))))))
unfolding image_says image_tests
image-says b = refl

pub ruleset said = (head-says, append_says, and_fine, and_refused, image-says)
