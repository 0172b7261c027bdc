use Rattle.std.proofs.Common.{subst, sym, take, ap, ◌∙◌}
use Rattle.std.proofs.lemmas.List.{take_more, take_all}
use Rattle.bench_call.specs.Rests.{port_calls}
use Rattle.port_ledger.specs.Fits.{CallsFit}
use Rattle.port_ledger.proofs.Resting.{fits_join, port_calls_push}
use Rattle.port_ledger.proofs.bench.pile_calls_fit.Goals as goal

pub loop-call-preserved : goal.loop-call-preserved
loop-call-preserved c =
    let l = c.loop-call in
    let before = take l.call-index c.args.calls.now in
    subst CallsFit
    (sym (ap port_calls (take_more c.args.calls.now l.call-index _ c.loop-call-test.true)
    ∙ port_calls_push before _))
    (fits_join (port_calls before) _ l.invariant c.pile_call_fits.ensures)

pub returns : goal.returns
returns c =
    let l = c.loop-call in
    subst (λ cs. CallsFit (port_calls cs))
    (take_all l.call-index c.args.calls.now c.loop-call-test.false) l.invariant
