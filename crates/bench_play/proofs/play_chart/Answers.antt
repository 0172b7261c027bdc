use Rattle.std.proofs.Common.{replicate, refl}
use Rattle.bench_sheet.specs.Sheets.{job_of}
use Rattle.bench_play.proofs.Telling.{window_told}
use Rattle.bench_play.proofs.play_chart.Goals as goal

pub returns-in-Window : goal.returns-in-Window
returns-in-Window g c =
    let chart = g.C.Chart in
    rw c.in-Window.is
    (window_told chart.counted chart.classed chart.resets (replicate 129 0)
    (job_of c.args.sheet.now.calls) c.new.result c.play.result
    c.new.ensures.made refl c.play.ensures)
