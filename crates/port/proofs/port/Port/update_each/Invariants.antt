use Rattle.std.proofs.Common.{◌≡◌, ◌+◌, length}
use Rattle.port.specs.OneByOne.{one_by_one}
use Rattle.port.proofs.port.Port.update_each.Given as goal

-- the words that are left come to the same from here
abbrev pub invariant-loop-register : goal.invariant-loop-register
invariant-loop-register g l =
    let update = g.Self.Port.machine.update in
    let it = l.register-iterator in
    (it.a.start + length it.b.rest.now ≡ l.first + length l.words)
    × (one_by_one update l.self it.a.start it.b.rest.now
    ≡ one_by_one update l.fn.self l.first l.words)
