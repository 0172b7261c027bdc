use Rattle.std.proofs.Common.{◌≡◌, ℕ, List, ◌++◌, map}
use Rattle.std.specs.Fmt.{HasWritten, IsPlainFormatter}
use Rattle.std.specs.Iterator.Adapters.{enumerate_count, enumerate_source, zip_first, zip_second}
use Rattle.std.specs.Slice.Iter.{iter_rest}
use Rattle.bench_run.specs.Performed.{seen_of}
use Rattle.bench_text.specs.Noting.{call_entries}
use Rattle.bench_text.specs.Texts.{calls_lines}
use Rattle.bench_text.proofs.text.CallsTextDisplay.fmt.Given as goal

-- the text so far, and that of the calls that are left, make up the whole
abbrev pub invariant-loop-before : goal.invariant-loop-before
invariant-loop-before g l =
    let es = l.self.events.now in
    let left = enumerate_source l.before-iterator in
    let n = g.N.Notes in
    let seen = map (seen_of g.F.Tells.values) in
    let lines = call_entries g.C.Prints.text n.next n.told in
    let whole = lines (n.state l.self.notes) l.self.calls.now (seen l.self.outcomes.now) in
    let unseen = seen (iter_rest (zip_second left)) in
    let rest = lines (n.state l.notes) (iter_rest (zip_first left)) unseen in
    IsPlainFormatter l.initial.f
    → (done : List ℕ) × HasWritten g.W.Write.write_str_gives l.initial.f done l.f
    × (done ++ calls_lines es (enumerate_count l.before-iterator) l.passed rest
    ≡ calls_lines es 0 0 whole)
