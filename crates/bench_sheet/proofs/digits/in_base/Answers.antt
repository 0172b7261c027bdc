use Rattle.std.proofs.Common.{◌∙◌, arith}
use Rattle.std.proofs.lemmas.Grind.{common_steps}
use Rattle.std.proofs.lemmas.Bool.Decides.{nat_tests}
use Rattle.std.proofs.lemmas.Iterator.{YieldsList-from_slice}
use Rattle.bench_sheet.proofs.Digiting.{one_more, folded}
use Rattle.bench_sheet.proofs.Folding.{onward_from_try_fold}
use Rattle.bench_sheet.proofs.digits.in_base.Goals as goal

pub returns : goal.returns
returns c =
    let base = c.args.base in
    onward_from_try_fold _ _ (λ x. x.now) _ (one_more base) _
    (λ n x r q k. grind (arith, common_steps, nat_tests)) _ _ 0 c.try_fold.ensures.ran
    (YieldsList-from_slice c.args.digits.now cc)
    ∙ folded base (omega arith) c.args.digits.now (grind (arith, common_steps, nat_tests))
