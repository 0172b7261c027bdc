use Rattle.std.proofs.Common.{◌∙◌, ◌-◌, rules, refl}
use Rattle.std.proofs.lemmas.Iterator.{YieldsList-from_map, YieldsList-from_range}
use Rattle.std.proofs.lemmas.Iterator.Consumers.{fold_from_yields_List}
use Rattle.port.specs.Checks.{worse}
use Rattle.port.proofs.Settled.{worst_folds}
use Rattle.port.proofs.checks.worst_class.Goals as goal

pub returns : goal.returns
returns g c =
    let r = c.args.registers in
    let class = g.C.Chart.classed in
    fold_from_yields_List _ worse _ _ c.fold.ensures.ran
    (YieldsList-from_map _ class (YieldsList-from_range r.start r.end _ (search rules) refl)
    (search rules) (λ n k q h. search rules))
    (λ a n b q h. search rules)
    ∙ worst_folds class r.start (r.end - r.start)
