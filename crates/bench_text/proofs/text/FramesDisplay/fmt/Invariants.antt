use Rattle.std.proofs.Common.{◌≡◌, ℕ, false, List, ◌++◌, drop}
use Rattle.std.specs.Fmt.{HasWritten, IsPlainFormatter}
use Rattle.bench_text.specs.Texts.{events_text}
use Rattle.bench_text.proofs.text.FramesDisplay.fmt.Given as goal

-- the text so far, and that of the events that are left, make up the whole
abbrev pub invariant-loop-event : goal.invariant-loop-event
invariant-loop-event g l =
    IsPlainFormatter l.initial.f
    → (done : List ℕ) × HasWritten g.W.Write.write_str_gives l.initial.f done l.f
    × (done ++ events_text l.begun (drop l.event-index l.event-items)
    ≡ events_text false l.event-items)
