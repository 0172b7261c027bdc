use Rattle.std.proofs.Common.{map, vec_items}
use Rattle.refusal.specs.Replies.{failure_values}
use Rattle.bench_run.specs.Performed.{seen_of}
use Rattle.bench_play.proofs.Telling.{if_written, bus_told}
use Rattle.bench_play.proofs.play_on_bus.Goals as goal

pub returns : goal.returns
returns g c =
    let chart = g.B.Chart.Chart in
    let seen = map (seen_of failure_values) (vec_items c.in_ok-outcomes.outcomes) in
    if_written c.whole_text.result _ _
    (λ t. bus_told chart.counted chart.classed chart.resets g.B.Bus.machine c.args.calls.now
    seen c.args.bus c.perform_all.new.on t c.in_ok-outcomes.ensures.value)
    (rw (← c.as_slice.ensures.value) c.whole_text.ensures.whole)
