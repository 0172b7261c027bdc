use Rattle.std.proofs.Common.{◌≡◌, ℕ, suc, true, false, [], ◌++◌, codes, slice_index, refl, sym}
use Rattle.std.proofs.Common.{◌∙◌}
use Rattle.std.proofs.Common.{append_assoc, append-nil, add-one, arith, rules}
use Rattle.std.proofs.Math.Bool.{or-true, or-false}
use Rattle.std.proofs.Output.{has_written_append}
use Rattle.chart.specs.declared.class.Class.{Class}
use Rattle.bench_text.specs.Texts.{line_end}
use Rattle.bench_text.specs.Under.{setting_entry, differs, setting_text, any_differs, under_text}
use Rattle.bench_text.proofs.under.DuesDisplay.fmt.Goals as goal
use Rattle.bench_text.proofs.under.DuesDisplay.fmt.Goals.{then-differs+in_ok-write-2, else-differs}

-- a setting that differs is told, and then there is one
with_one : (class : ℕ → Class) (reset due : ℕ → ℕ) (n : ℕ) → differs class reset due n ≡ true
    → (setting_text class reset due n ≡ setting_entry true n (due n))
    × (any_differs class reset due (suc n) ≡ true)
with_one class reset due n e = (rw e refl, rw e (or-true (any_differs class reset due n)))

-- one that does not is not told
with_none : (class : ℕ → Class) (reset due : ℕ → ℕ) (n : ℕ) → differs class reset due n ≡ false
    → (setting_text class reset due n ≡ [])
    × (any_differs class reset due (suc n) ≡ any_differs class reset due n)
with_none class reset due n e = (rw e refl, rw e (or-false (any_differs class reset due n)))

pub loop-register-preserved : goal.loop-register-preserved
loop-register-preserved g c =
    let l = c.loop-register in
    let chart = g.H.Chart in
    let n = l.register-counter in
    let due = slice_index c.args.self.now.words in
    elim c.if-differs.branch [
      | then-differs+in_ok-write-2 w ↦
          let e = sym c.differs.ensures ∙ w.if-differs.true in
          let one = with_one chart.classed chart.resets due n e in
          record {
            any = w.any-is ∙ rw add-one (sym one.1);
            text = λ plain.
                let so_far = l.invariant.text plain in (
                  so_far.0 ++ setting_entry true n w.word.result,
                  rw w.f-is (has_written_append _ _ _ _ _ _ so_far.1 (search rules)),
                  rw (add-one, so_far.2, append_assoc (codes "  under"), one.0, w.word.ensures)
                      refl,
                );
          }
      | else-differs w ↦
          let e = sym c.differs.ensures ∙ w.if-differs.false in
          let none = with_none chart.classed chart.resets due n e in
          record {
            any = w.any-is ∙ l.invariant.any ∙ rw add-one (sym none.1);
            text = λ plain.
                let so_far = l.invariant.text plain in (
                  so_far.0,
                  rw w.f-is so_far.1,
                  so_far.2 ∙ rw (add-one, none.0, append-nil) refl,
                );
          }
    ]

pub returns-clause-writes : goal.returns-clause-writes
returns-clause-writes g c = λ plain ok.
    let l = c.loop-register in
    let chart = g.H.Chart in
    let due = slice_index c.args.self.now.words in
    let count = c.count-register-end.ensures in
    let last = l.auto.register-counter-end in
    let past = c.loop-register-test.false in
    let all : l.register-counter ≡ chart.counted = omega (arith, count, last, past) in
    let so_far = l.invariant.text plain in
    let ending = c.none-none.result.now ++ line_end in
    let whole : so_far.0 ++ ending ≡ under_text chart.counted chart.classed chart.resets due =
    rw (← all, so_far.2, append_assoc (codes "  under"), c.none-none.ensures, l.invariant.any) in
    rw (← c.tells.ensures, c.if-not-tells.false, ← whole)
    (has_written_append _ _ _ _ _ _ so_far.1 (c.writeln.ensures.writes so_far.1.plain ok))
