use Rattle.std.proofs.Common.{rules, ◌≡◌, ℕ, length, List, [], None, refl, ap, ◌∙◌}
use Rattle.std.proofs.Common.{sym, subst, ⊎_elim, arith}
use Rattle.std.proofs.lemmas.List.{nil_from_length}
use Rattle.refusal.specs.Replies.{Reply, acceptance, port_reply, no_value}
use Rattle.patch.specs.declared.patch.Patch.{Patch}
use Rattle.port.specs.Checks.{run_check}
use Rattle.port.specs.OneByOne.{one_by_one, InOrder}
use Rattle.port.proofs.InPieces.{in_order}
use Rattle.port.proofs.Settled.{run_fits}
use Rattle.port.proofs.port.Port.update_each.Goals as goal

module _ {M : Type 0} (update : M → ℕ → Patch → Reply × M) where
  -- what came to the same as the words one by one went in their order
  went : (m : M) (first : ℕ) (ws : List ℕ) (q : Reply × M) → q ≡ one_by_one update m first ws
      → InOrder update first ws m q.0 q.1
  went m first ws q is =
      subst (λ p. InOrder update first ws m p.0 p.1) (sym is) (in_order update m first ws)

pub returns-clause-value : goal.returns-clause-value
returns-clause-value g c =
    let update = g.Self.Port.machine.update in
    let m = c.args.self.now in
    let on = (g.Self.Port.machine.chip m).supply in
    let ws = c.args.words.now in
    let keeps = g.Self.Port.KEEPS in
    let goes : run_check keeps g.Self.Chart.Chart.classed c.args.first (length ws) on ≡ None =
    search rules in
    let fits = run_fits g.met.Self.Chart.Chart.rules keeps c.args.first (length ws) on goes in
    let it = c.loop-register.register-iterator in
    let left = c.loop-register.invariant in
    let none : length it.b.rest.now ≡ 0 =
    ⊎_elim (λ e. absurd (omega (arith, e.1.0, left.0, fits))) (λ e. e.1.0)
    c.in-None.ensures.steps in
    let done : (acceptance [], c.loop-register.self) ≡ one_by_one update m c.args.first ws =
    ap (one_by_one update c.loop-register.self it.a.start)
    (sym (nil_from_length it.b.rest.now none)) ∙ left.1 in
    rw (goes, ← done) refl

pub returns-clause-order : goal.returns-clause-order
returns-clause-order g c goes =
    let update = g.Self.Port.machine.update in
    let m = c.args.self.now in
    let all = returns-clause-value g c in
    let done : (acceptance [], c.loop-register.self)
    ≡ one_by_one update m c.args.first c.args.words.now =
    rw goes at all in
    went update m c.args.first c.args.words.now _ done

pub returns-in_err-update-clause-order : goal.returns-in_err-update-clause-order
returns-in_err-update-clause-order g c goes =
    let update = g.Self.Port.machine.update in
    let m = c.args.self.now in
    let reply = port_reply no_value c.from_residual-in_err-update.result in
    let done : (reply, c.update.new.self) ≡ one_by_one update m c.args.first c.args.words.now =
    search rules in
    went update m c.args.first c.args.words.now _ done
