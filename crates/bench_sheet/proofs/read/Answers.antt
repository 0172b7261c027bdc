use Rattle.std.proofs.Common.{true, arith, inl}
use Rattle.bench_sheet.proofs.Cutting.{few_lines}
use Rattle.bench_sheet.proofs.read.Goals as goal

-- `using` at `read` serves its other goals; here `omega` needs the fact by hand, as `search` finds
-- nothing
pub loop-i-init-derived : goal.loop-i-init-derived
loop-i-init-derived c =
    let few = few_lines true c.args.text.now in (
      (
        tt,
        tt,
        inl (rw (
          c.into_iter-i-iterator.ensures.into_iter_gives,
          c.enumerate-i-items.ensures.source,
          c.enumerate-i-items.ensures.count,
        ) (omega arith)),
      ),
      tt,
    )
