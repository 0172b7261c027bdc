use Rattle.std.proofs.Common.{◌+◌, [], ◌++◌, append-nil, append_assoc, refl, rules}
use Rattle.std.proofs.Output.{has_written_append}
use Rattle.std.proofs.lemmas.Slice.Zip.{either_empty_from_Zip}
use Rattle.std.specs.Iterator.Adapters.{enumerate_count, enumerate_source, zip_first, zip_second}
use Rattle.std.specs.Slice.Iter.{iter_rest}
use Rattle.bench_run.specs.Performed.{answer_reply, seen_of}
use Rattle.bench_text.proofs.Saying.{nothing_left}
use Rattle.bench_text.specs.Texts.{call_lines}
use Rattle.bench_text.proofs.text.CallsTextDisplay.fmt.Goals as goal

pub loop-before-init : goal.loop-before-init
loop-before-init g c = λ plain. ([], search rules, cc)

pub loop-before-preserved : goal.loop-before-preserved
loop-before-preserved g c = λ plain.
    let so_far = c.loop-before.invariant plain in
    let steps = c.in-Some.ensures.steps in
    let number = enumerate_count c.loop-before.before-iterator + 1 in
    let lines = call_lines number c.between.result.now (record {
      call = g.C.Prints.text c.in-Some.call.now;
      reply = answer_reply g.F.Tells.values c.in-Some.outcome.now.answer;
      passed = 0;
      under = g.N.Notes.told (g.N.Notes.state c.next-notes.result);
    }) in (
      so_far.0 ++ lines,
      has_written_append _ _ _ _ _ _ so_far.1 (search rules),
      rw (append_assoc so_far.0 lines, c.between.ensures, c.next-notes.ensures, steps.2, ← so_far.2)
          (rw (steps.0.0, steps.0.1)),
    )

pub returns-clause-writes : goal.returns-clause-writes
returns-clause-writes g c = λ plain ok.
    let l = c.loop-before in
    let so_far = l.invariant plain in
    let left = enumerate_source l.before-iterator in
    let n = g.N.Notes in
    let over = nothing_left g.C.Prints.text n.next n.told (n.state l.notes)
    (seen_of g.F.Tells.values) c.args.self.now.events.now (enumerate_count l.before-iterator)
    l.passed (iter_rest (zip_first left)) (iter_rest (zip_second left))
    (either_empty_from_Zip left (enumerate_source c.next.new.self)
    _ refl c.in-None.ensures.steps.0) in
    rw (← so_far.2, over, append-nil so_far.0) so_far.1
