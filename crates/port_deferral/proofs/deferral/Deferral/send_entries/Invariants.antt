use Rattle.std.proofs.Common.{◌≡◌, length}
use Rattle.port_layer.specs.Layer.{send_all}
use Rattle.port_deferral_laws.specs.Machine.{deferral_sending}
use Rattle.port_deferral.proofs.deferral.Deferral.send_entries.Given as goal

-- what is left, sent from here, comes to the same as all of it
abbrev pub invariant-loop-self : goal.invariant-loop-self
invariant-loop-self g l =
    let sending = deferral_sending g.P.Port.machine in
    send_all sending l.self ≡ send_all sending l.fn.self

-- each burst that is accepted leaves fewer
abbrev pub decreases-loop-self : goal.decreases-loop-self
decreases-loop-self g l = length l.self.own
