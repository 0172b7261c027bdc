use Rattle.std.proofs.Common.{map, vec_items}
use Rattle.refusal.specs.Replies.{fault_values}
use Rattle.bench_run.specs.Performed.{seen_of}
use Rattle.bench_play.proofs.Telling.{if_written, port_told}
use Rattle.bench_play.proofs.pile.tell.Goals as goal

pub returns : goal.returns
returns g c =
    let port = g.P.Port in
    let chart = g.P.Chart.Chart in
    let seen = map (seen_of fault_values) (vec_items c.in_ok-outcomes.outcomes) in
    if_written c.whole_text.result _ _
    (λ t. port_told chart.counted chart.classed chart.resets port.KEEPS port.machine
    c.args.calls.now seen c.args.bench.now.pile.port c.perform_on_bench.new.bench.pile.port t
    c.in_ok-outcomes.ensures.outcomes)
    (rw (← c.as_slice.ensures.value, ← c.KEEPS.ensures, ← c.new-dues.ensures)
    (rw (← c.bus.ensures.chip, ← c.bus.ensures.trace) c.whole_text.ensures.whole))
