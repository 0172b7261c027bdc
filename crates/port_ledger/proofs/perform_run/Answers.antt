use Rattle.std.proofs.Common.{map, sym, subst, ap, ◌∙◌, arith}
use Rattle.std.proofs.lemmas.List.{take_all, drop_all}
use Rattle.port_ledger.specs.Audited.{Audited}
use Rattle.port_ledger.specs.Fits.{CallsFit}
use Rattle.port_ledger.specs.Runs.{moments, after}
use Rattle.port_ledger.specs.Records.{call_of}
use Rattle.port_ledger.proofs.Auditing.{kept_audited}
use Rattle.port_ledger.proofs.Running.{one_call}
use Rattle.port_ledger.proofs.perform_run.Goals as goal

pub loop-record-preserved : goal.loop-record-preserved
loop-record-preserved g c =
    let l = c.loop-record in
    one_call g.P.Port.machine l.record-index l.record-items c.args.run.now
    c.args.pile.now l.pile c.perform-record.new.port _ c.perform-record.result
    (omega arith) c.loop-record-test.true l.invariant c.call_fits.ensures c.perform-record.ensures

pub returns-clause-audited : goal.returns-clause-audited
returns-clause-audited g c = λ keeps new.
    let l = c.loop-record in
    let port = g.P.Port.machine in
    let class = g.P.Chart.Chart.classed in
    let reset = g.P.Chart.Chart.resets in
    let old = c.args.pile.now in
    let run = c.args.run.now in
    let calls = map call_of run in
    let over = c.loop-record-test.false in
    let fits : CallsFit calls =
    subst (λ ss. CallsFit (map call_of ss)) (take_all l.record-index run over) l.invariant.fits in
    let left =
    ap (λ ss. after port (map call_of ss) l.pile) (sym (drop_all l.record-index run over))
    ∙ l.invariant.pile in
    let run_audited =
    kept_audited g.P.Port.KEEPS port g.met.P.Port.meaning keeps old calls new fits in
    let told = moments port calls old in
    subst (λ m. Audited class reset (port.chip old) told (port.chip m)) (sym left) run_audited
