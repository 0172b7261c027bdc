-- What is asked for by a call on a bus. Assumes nothing.
use Rattle.std.specs.Prelude.{ℕ, List, vec_items}
use Rattle.bench_call.specs.declared.Call.{Call}
use Rattle.bench_call.specs.declared.Call.TheVariants.{Get, Put, Measure, Down, Up}

-- a call on a bus, by its numbers alone
pub data Asked : Type 0 where
  get : ℕ → Asked
  put : ℕ → List ℕ → Asked
  measure : ℕ → ℕ → Asked
  down : Asked
  up : Asked

abbrev pub asked : Call → Asked
asked (Get raw) = get raw
asked (Put raw ws) = put raw (vec_items ws)
asked (Measure register word) = measure register word
asked Down = down
asked Up = up
