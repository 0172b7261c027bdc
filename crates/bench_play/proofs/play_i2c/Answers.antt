use Rattle.bench_sheet.specs.Sheets.{job_of}
use Rattle.bench_play.proofs.Telling.{i2c_told}
use Rattle.bench_play.proofs.play_i2c.Goals as goal

pub returns : goal.returns
returns g c =
    let chart = g.C.Chart in
    let trace = c.in_ok-trace.ensures in
    rw (← c.as_slice.ensures.value)
    (i2c_told chart.counted chart.classed chart.resets c.args.address _ _
    (job_of c.args.sheet.now.calls) c.new-made.result c.play.result
    c.new-made.ensures trace.0 trace.1 c.play.ensures)
