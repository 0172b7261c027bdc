use Rattle.std.proofs.Common.{arith}
use Rattle.std.proofs.lemmas.List.FromFn.{fill_by_all}
use Rattle.chip.proofs.memory.reset.Goals as goal

pub returns : goal.returns
returns g c =
    fill_by_all _ _ _ 0 c.loop-place.auto.words (λ k h. c.loop-place.invariant k (omega arith))
