use Rattle.std.proofs.Common.{◌≡◌, ◌+◌, length, take}
use Rattle.std.specs.Iterator.Adapters.{enumerate_source, enumerate_count}
use Rattle.bench_sheet.specs.Said.{numbers_of}
use Rattle.bench_sheet.proofs.Listing.{onto}
use Rattle.bench_sheet.proofs.line.numbers.Given as goal

abbrev pub invariant-loop-i : goal.invariant-loop-i
invariant-loop-i g l =
    let it = l.i-iterator in
    record {
      room : enumerate_count it + length (enumerate_source it) ≡ length l.numbers;
      same : numbers_of l.fn.words
          ≡ onto (take (enumerate_count it) l.numbers) (numbers_of (enumerate_source it));
    }
