-- What calls without a transcript want. Assumes nothing.
use Rattle.std.specs.Prelude.{ℕ}
use Rattle.bench_play.specs.declared.unfinished.Unfinished.{Unfinished}
use Rattle.bench_play.specs.declared.unfinished.Unfinished.TheVariants.{Memory, Room}

-- room for so many events in their trace, if that was what they wanted
abbrev pub wanted_room : Unfinished → ℕ
wanted_room (Memory e) = 0
wanted_room (Room events) = events
