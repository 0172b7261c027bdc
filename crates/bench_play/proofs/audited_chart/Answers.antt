use Rattle.bench_sheet.specs.Sheets.{job_of}
use Rattle.bench_play.proofs.Auditing.{told_audited}
use Rattle.bench_play.proofs.audited_chart.Goals as goal

pub returns-clause-audited : goal.returns-clause-audited
returns-clause-audited g c =
    let sheet = c.args.sheet.now in
    told_audited g.met.C.Chart.rules c.play_chart.result sheet.make sheet.marks.items
    (job_of sheet.calls) c.job_fits.ensures c.play_chart.ensures
