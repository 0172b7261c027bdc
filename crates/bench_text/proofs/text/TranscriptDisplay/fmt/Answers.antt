use Rattle.std.proofs.Common.{◌∙◌, ap}
use Rattle.bench_run.specs.Performed.{seen_of}
use Rattle.bench_text.proofs.Saying.{whole}
use Rattle.bench_text.specs.Texts.{full_text}
use Rattle.bench_text.proofs.text.TranscriptDisplay.fmt.Goals as goal

pub returns-clause-writes : goal.returns-clause-writes
returns-clause-writes g c =
    let trace = g.B.Bus.machine.trace c.args.self.now.bus.now in
    let n = g.N.Notes in
    let is = whole g.C.Prints.text n.next n.told (n.state c.args.self.now.notes)
    (seen_of g.F.Tells.values) trace _ _ _ c.args.self.now.calls.now c.args.self.now.outcomes.now
    _ _ c.events.ensures (c.note-note.ensures ∙ ap full_text c.lost.ensures)
    c.min-calls.ensures c.failed-failed.ensures in
    λ plain ok. rw (← is) (c.writeln.ensures.writes plain ok)
