use Rattle.std.proofs.Common.{List, ◌++◌, get_or, append_assoc, rules}
use Rattle.std.proofs.Output.{has_written_append}
use Rattle.std.proofs.lemmas.List.{at_drop_more}
use Rattle.trace.specs.declared.event.Event.{Event}
use Rattle.trace.specs.declared.event.Event.TheVariants.{Start}
use Rattle.bench_text.specs.Texts.{event_text, events_text}
use Rattle.bench_text.proofs.text.FramesDisplay.fmt.Goals as goal

pub loop-event-preserved : goal.loop-event-preserved
loop-event-preserved g c = λ plain.
    let l = c.loop-event in
    let so_far = l.invariant plain in
    let events = c.args.self.now.events.now in
    let whole = λ (es : List Event). so_far.0 ++ events_text l.begun es in (
      so_far.0 ++ event_text l.begun (get_or events l.event-index Start),
      has_written_append _ _ _ _ _ _ so_far.1 (search rules),
      rw (
        append_assoc,
        c.goes_on-begun.ensures,
        ← at_drop_more whole events l.event-index Start c.loop-event-test.true,
      ) so_far.2,
    )
