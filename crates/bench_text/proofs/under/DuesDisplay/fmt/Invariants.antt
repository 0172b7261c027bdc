use Rattle.std.proofs.Common.{◌≡◌, ℕ, List, ◌++◌, codes, slice_index}
use Rattle.std.specs.Fmt.{HasWritten, IsPlainFormatter}
use Rattle.bench_text.specs.Under.{settings_text, any_differs}
use Rattle.bench_text.proofs.under.DuesDisplay.fmt.Given as goal

-- the settings so far are told, and whether any differs is known
abbrev pub invariant-loop-register : goal.invariant-loop-register
invariant-loop-register g l =
    let chart = g.H.Chart in
    let due = slice_index l.self.words in
    let settings = settings_text chart.classed chart.resets due l.register-counter in
    record {
      any : l.any ≡ any_differs chart.classed chart.resets due l.register-counter;
      text : IsPlainFormatter l.fn.f
          → (done : List ℕ) × HasWritten g.W.Write.write_str_gives l.fn.f done l.f
          × (done ≡ codes "  under" ++ settings);
    }
