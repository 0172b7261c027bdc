use Rattle.std.proofs.Common.{◌≡◌, eqb, rules, arith}
use Rattle.std.specs.List.{position}
use Rattle.std.proofs.lemmas.Grind.{common_steps}
use Rattle.std.proofs.lemmas.Iterator.{YieldsList-from_slice}
use Rattle.std.proofs.lemmas.Iterator.Search.{position_from_yields_List}
use Rattle.bench_sheet.proofs.cut.split_once.Goals as goal
use Rattle.bench_sheet.proofs.cut.split_once.Goals.{After-position}

at : (c : After-position) → c.position.result ≡ position (λ x. eqb x c.args.b) c.args.s.now
at c = position_from_yields_List (λ x. eqb x c.args.b) _ _ _ c.position.ensures.ran
    (YieldsList-from_slice c.args.s.now cc) (λ x b q k. search rules)

pub returns-in-Some : goal.returns-in-Some
returns-in-Some c = grind (arith, common_steps, at (goal.at.returns-in-Some c).After-position)

pub returns-in-None : goal.returns-in-None
returns-in-None c = grind (arith, common_steps, at (goal.at.returns-in-None c).After-position)
