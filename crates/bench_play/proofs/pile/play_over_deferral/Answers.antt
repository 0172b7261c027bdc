use Rattle.std.proofs.Common.{ℕ, List, subst}
use Rattle.port_deferral_laws.specs.Machine.{DeferralModel, deferral_machine}
use Rattle.bench_play.specs.Told.{PileTells}
use Rattle.bench_play.proofs.Telling.{if_written}
use Rattle.bench_play.proofs.pile.play_over_deferral.Goals as goal

pub returns : goal.returns
unfolding PileTells
returns g c =
    let chart = g.P.Chart.Chart in
    let top = deferral_machine g.P.Port.machine g.P.Port.KEEPS chart.classed in
    let tells = λ (m : DeferralModel g.row.P.Denot) (t : List ℕ).
    PileTells chart.counted chart.classed chart.resets c.args.over.now g.P.Port.KEEPS top
    c.args.calls.now m t in
    if_written c.play.result (tells c.new.result) _
    (λ t. subst (λ m. tells m t) c.new.ensures.value)
    c.play.ensures
