use Rattle.bench_call.specs.Rests.{port_calls}
use Rattle.port_ledger.specs.Audited.{Audited}
use Rattle.port_ledger.specs.Runs.{moments, after}
use Rattle.port_ledger.proofs.Auditing.{kept_audited}
use Rattle.port_ledger.proofs.Resting.{all_performed, if_left}
use Rattle.port_ledger.proofs.bench.perform_on_bench.Goals as goal

pub returns-clause-replies : goal.returns-clause-replies
returns-clause-replies g c =
    let run = c.perform_all in
    (all_performed g.P.Port.machine (λ v. v.items) c.args.calls.now
    c.args.bench.now.pile.port run.new.on.pile.port run.result run.ensures.value).replies

pub returns-clause-pile : goal.returns-clause-pile
returns-clause-pile g c =
    let run = c.perform_all in
    (all_performed g.P.Port.machine (λ v. v.items) c.args.calls.now
    c.args.bench.now.pile.port run.new.on.pile.port run.result run.ensures.value).left

pub returns-clause-audited : goal.returns-clause-audited
returns-clause-audited g c = λ keeps new.
    let port = g.P.Port.machine in
    let class = g.P.Chart.Chart.classed in
    let reset = g.P.Chart.Chart.resets in
    let old = c.args.bench.now.pile.port in
    let calls = port_calls c.args.calls.now in
    let run = c.perform_all in
    let left = run.new.on.pile.port in
    let performed =
    all_performed port (λ v. v.items) c.args.calls.now old left run.result run.ensures.value in
    if_left (λ m. Audited class reset (port.chip old) (moments port calls old) (port.chip m))
    left (after port calls old) run.result performed.left
    (kept_audited g.P.Port.KEEPS port g.met.P.Port.meaning keeps old calls new
    c.pile_calls_fit.ensures)
