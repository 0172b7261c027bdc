-- What a trace holds. Assumes nothing.
use Rattle.std.specs.Prelude.{◌≡◌, ℕ, ◌+◌, ◌-◌, ◌^◌, ◌<◌, min, if◌then◌else◌, List, [], ◌∷◌, ◌++◌}
use Rattle.std.specs.Prelude.{length, nat_lt}
use Rattle.trace.specs.declared.event.Event.{Event}

-- the events in order, for how many there is room, and how many found none
pub record Traced : Type 0 where
  pub events : List Event
  pub room : ℕ
  pub lost : ℕ

-- one event more; the count stops at the largest number of 64 bits
unfoldable pub with_event : Event → Traced → Traced
with_event e t =
    if nat_lt (length t.events) t.room
    then (record t { events = t.events ++ (e ∷ []) })
    else (record t { lost = min (t.lost + 1) (2 ^ 64 - 1) })

-- if it lost none, it has these events, in this order
abbrev pub HoldsAll : List Event → Traced → Type 0
HoldsAll es t = t.lost ≡ 0 → t.events ≡ es

-- from one trace to the next no event was lost, if there was room for one more
abbrev pub LosesNoneInRoom : Traced → Traced → Type 0
LosesNoneInRoom t after = length t.events < t.room → after.lost ≡ t.lost

-- so many events were noted, in room or not
abbrev pub CountsAll : ℕ → Traced → Type 0
CountsAll n t = length t.events + t.lost ≡ n
