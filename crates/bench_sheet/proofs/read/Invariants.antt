use Rattle.std.proofs.Common.{◌≡◌, ◌+◌, length}
use Rattle.std.specs.Iterator.Adapters.{enumerate_source, enumerate_count}
use Rattle.bench_sheet.specs.Cut.{lines_of}
use Rattle.bench_sheet.specs.Sheets.{read_from, sheet_of}
use Rattle.bench_sheet.proofs.read.Given as goal

abbrev pub invariant-loop-i : goal.invariant-loop-i
invariant-loop-i l =
    let it = l.i-iterator in
    record {
      room : enumerate_count it + length (lines_of (enumerate_source it).0.now)
          ≡ length (lines_of l.text);
      same : sheet_of l.text
          ≡ read_from (lines_of (enumerate_source it).0.now) (enumerate_count it + 1) l.draft;
    }
