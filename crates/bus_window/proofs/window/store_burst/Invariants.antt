use Rattle.std.proofs.Common.{◌≡◌, ◌+◌, ◌≤◌, length}
use Rattle.std.specs.Slice.Iter.{iter_rest}
use Rattle.chip.specs.Words.{rising_words, store_all}
use Rattle.bus_window.proofs.window.store_burst.Given as goal

-- what is left to store has room, and makes of the words what all makes of them from the start
abbrev pub invariant-loop-at : goal.invariant-loop-at
invariant-loop-at l =
    (l.at-iterator.a.start + length (iter_rest l.at-iterator.b) ≤ 64)
    × (store_all l.words (rising_words l.at-iterator.a.start (iter_rest l.at-iterator.b))
    ≡ store_all l.initial.words (rising_words l.raw l.burst))
