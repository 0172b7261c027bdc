use Rattle.std.proofs.Common.{◌≡◌, ℕ, List, Result, vec_items}
use Rattle.bench_sheet.specs.declared.Mistake.{Mistake}
use Rattle.bench_sheet.specs.Said.{all_of}
use Rattle.bench_sheet.proofs.Listing.{onto}
use Rattle.bench_sheet.proofs.line.all.Given as goal

abbrev pub invariant-loop-word : goal.invariant-loop-word
invariant-loop-word g l =
    (goal.iterator-loop-word g).can_next l.word-iterator ×
    (goal.iterator-loop-word g).is_finite l.word-iterator ×
    ((f : List ℕ → Result g.row.T.Denot Mistake)
    → ((w : _) (r : _) → goal.F-post g l.read w r → r ≡ f w.now)
    → all_of f l.fn.words ≡ onto (vec_items l.all) (all_of f l.word-iterator))
