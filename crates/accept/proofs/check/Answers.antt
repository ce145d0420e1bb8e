use Rattle.std.proofs.Common.{◌≡◌, arith}
use Rattle.scope.specs.Checks.{Fine, image_says}
use Rattle.accept.proofs.Said.{said}
use Rattle.accept.proofs.Exact.{accepted_formed}
use Rattle.accept.proofs.check.Goals as goal

pub invariant_of-result : goal.invariant_of-result
invariant_of-result c =
    let e : image_says c.args.image.now ≡ Fine = grind (arith, said) in
    record { formed = rw (c.read-layout.ensures, c.in_ok-header.ensures.same) (accepted_formed c.args.image.now e) }
