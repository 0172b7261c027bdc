use Rattle.std.proofs.Common.{◌≡◌, ◌≤◌, map, length, drop, vec_items, vec_len, vec_capacity}
use Rattle.bench_run.specs.Performed.{seen_of, walk}
use Rattle.bench_run.proofs.Walking.{continued}
use Rattle.bench_run.proofs.answer.perform_all.Given as goal

-- what was seen so far, and what the calls that are left come to from here, is what all come to
abbrev pub invariant-loop-call : goal.invariant-loop-call
invariant-loop-call g l =
    let call = g.C.CallOn in
    let before = map (seen_of g.C.Told.Tells.values) (vec_items l.outcomes) in
    let left = drop l.call-index l.calls in
    (vec_len l.outcomes ≡ l.call-index)
    × (length l.calls ≤ vec_capacity l.outcomes)
    × (continued before (walk call.effect call.trace left (call.model l.on))
    ≡ walk call.effect call.trace l.calls (call.model l.initial.on))
