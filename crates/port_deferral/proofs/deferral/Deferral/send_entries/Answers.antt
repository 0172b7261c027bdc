use Rattle.std.proofs.Common.{◌∙◌, ◌<◌, length, sym, refl, arith}
use Rattle.std.proofs.lemmas.Bool.Decides.{nat_tests}
use Rattle.port_deferral_laws.proofs.Stepping.{sends_by, sends_less}
use Rattle.port_deferral.proofs.deferral.Deferral.send_entries.Goals as goal

pub loop-self-smaller : goal.loop-self-smaller
loop-self-smaller g c =
    let waits : 0 < length c.loop-self.self.own = grind (arith, nat_tests) in
    sends_less g.P.Port.machine c.loop-self.self c.send_lowest.new.self _ waits
    c.in_ok-send_lowest.ensures (refl {a = 0})

pub loop-self-preserved : goal.loop-self-preserved
loop-self-preserved g c =
    let waits : 0 < length c.loop-self.self.own = grind (arith, nat_tests) in
    sym (sends_by g.P.Port.machine c.loop-self.self c.send_lowest.new.self _ waits
    c.in_ok-send_lowest.ensures)
    ∙ c.loop-self.invariant
