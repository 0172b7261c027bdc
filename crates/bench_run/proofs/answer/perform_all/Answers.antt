use Rattle.std.proofs.Common.{◌+◌, [], ◌∷◌, ◌++◌, map, drop, vec_items, sym, ap, subst, ◌∙◌}
use Rattle.std.proofs.Common.{List, arith}
use Rattle.std.proofs.lemmas.List.{append-nil, drop_more, drop_all, map_push}
use Rattle.std.proofs.lemmas.Grind.{common_steps}
use Rattle.bench_run.specs.Performed.{Seen, answer_reply, seen_of, walk, AllPassedAtLast}
use Rattle.bench_run.proofs.Walking.{continued, one_more, all_passed}
use Rattle.bench_run.proofs.answer.perform_all.Goals as goal

pub loop-call-preserved : goal.loop-call-preserved
loop-call-preserved g c =
    let l = c.loop-call in
    let calls = c.args.calls.now in
    let i = l.call-index in
    let call = g.C.CallOn in
    let tells = g.C.Told.Tells.values in
    let before = map (seen_of tells) (vec_items l.outcomes) in
    let rest = drop (i + 1) calls in
    let old = call.model l.on in
    let new = call.model c.perform-answer.new.on in
    let after = walk call.effect call.trace rest new in
    let reply = answer_reply tells c.perform-answer.result in
    let cut = drop_more calls i c.call-item.result c.loop-call-test.true
    ∙ ap (λ x. x ∷ rest) (sym c.call-item.is) in (
      grind (arith, common_steps),
      grind (arith, common_steps),
      ap (λ os. continued (map (seen_of tells) os) after) c.push_reserved.ensures.items
          ∙ ap (λ rs. continued rs after) (map_push (seen_of tells) (vec_items l.outcomes) _)
          ∙ ap (λ n. continued (before ++ (record { reply = reply; passed = n } ∷ [])) after)
          c.passed-passed.ensures
          ∙ one_more call.effect call.trace before c.call-item.result rest (reply, new) old
          c.perform-answer.ensures
          ∙ ap (λ cs. continued before (walk call.effect call.trace cs old)) (sym cut)
          ∙ l.invariant.2,
    )

pub returns-clause-value : goal.returns-clause-value
returns-clause-value g c =
    let l = c.loop-call in
    let call = g.C.CallOn in
    let before = map (seen_of g.C.Told.Tells.values) (vec_items l.outcomes) in
    let here = call.model l.on in
    ap (λ rs. (rs, here)) (sym (append-nil before))
    ∙ ap (λ cs. continued before (walk call.effect call.trace cs here))
    (sym (drop_all l.call-index c.args.calls.now c.loop-call-test.false))
    ∙ l.invariant.2

pub returns-clause-passed : goal.returns-clause-passed
returns-clause-passed g c =
    let call = g.C.CallOn in
    let old = call.model c.args.on.now in
    subst (λ (q : List Seen × _). AllPassedAtLast q.0 (call.trace q.1))
    (sym (returns-clause-value g c)) (all_passed call.effect call.trace c.args.calls.now old)
