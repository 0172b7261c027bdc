use Rattle.std.proofs.Common.{true, ℕ, List, subst}
use Rattle.port_keeper_laws.specs.Machine.{KeeperModel, keeper_machine}
use Rattle.bench_play.specs.Told.{PileTells}
use Rattle.bench_play.proofs.Telling.{if_written}
use Rattle.bench_play.proofs.pile.play_over_keeper.Goals as goal

pub returns : goal.returns
unfolding PileTells
returns g c =
    let chart = g.P.Chart.Chart in
    let top = keeper_machine g.P.Port.machine g.P.Port.KEEPS chart.classed chart.resets in
    let tells = λ (m : KeeperModel g.row.P.Denot) (t : List ℕ).
    PileTells chart.counted chart.classed chart.resets c.args.over.now true top
    c.args.calls.now m t in
    if_written c.play.result (tells c.new.result) _
    (λ t. subst (λ m. tells m t) c.new.ensures.value)
    c.play.ensures
