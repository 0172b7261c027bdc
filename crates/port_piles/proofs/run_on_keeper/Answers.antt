use Rattle.std.proofs.Common.{◌≡◌, false, map, refl, ap, subst, ◌∙◌}
use Rattle.port_paging_laws.specs.Machine.{new_paging, paging_machine}
use Rattle.port_keeper_laws.specs.Machine.{new_keeper, keeper_machine}
use Rattle.port_ledger.specs.Audited.{Audited}
use Rattle.port_ledger.specs.Records.{call_of}
use Rattle.port_ledger.specs.Runs.{moments, after}
use Rattle.port_piles.specs.Piles.{pile_run}
use Rattle.port_piles.proofs.run_on_keeper.Goals as goal

pub returns-clause-replies : goal.returns-clause-replies
unfolding pile_run
returns-clause-replies g c =
    let reset = g.B.Chart.Chart.resets in
    let start = c.new-pile.ensures.value ∙ ap (new_keeper reset) c.new.ensures.value in
    rw start at c.perform_run.ensures.replies

pub returns-clause-audited : goal.returns-clause-audited
unfolding pile_run
returns-clause-audited g c = λ new.
    let class = g.B.Chart.Chart.classed in
    let reset = g.B.Chart.Chart.resets in
    let port = keeper_machine (paging_machine g.B.Bus.machine class) false class reset in
    let old = c.new-pile.result in
    let calls = map call_of c.args.run.now in
    let start : old ≡ new_keeper reset (new_paging c.args.bus) =
    c.new-pile.ensures.value ∙ ap (new_keeper reset) c.new.ensures.value
    in
    subst
    (λ m. Audited class reset (port.chip m) (moments port calls m) (port.chip (after port calls m)))
    start
    (subst (λ m. Audited class reset (port.chip old) (moments port calls old) (port.chip m))
    c.perform_run.ensures.pile
    (c.perform_run.ensures.audited refl (c.new-pile.ensures.new (c.new.ensures.new new))))
