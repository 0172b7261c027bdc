-- Runs on a small chart: register 1 is its one setting, register 2 its one live register. Assumes
-- nothing.
use Rattle.std.specs.Prelude.{ℕ, false, true, if◌then◌else◌, List, [], ◌∷◌, ◌==◌}
use Rattle.refusal.specs.Replies.{Reply, acceptance}
use Rattle.chart.specs.declared.class.Class.{Class}
use Rattle.chart.specs.declared.class.Class.TheVariants.{Absent, Setting, Live}
use Rattle.bus.specs.Chips.{Chip}
use Rattle.bench_call.specs.declared.PortCall.{PortCall}
use Rattle.bench_call.specs.declared.PortCall.TheVariants.{Update}
use Rattle.port_ledger.specs.Moments.{Moment}
use Rattle.port_ledger.specs.Audited.{Audited}

abbrev pub small_class : ℕ → Class
small_class n = if n == 1 then Setting else (if n == 2 then Live else Absent)

abbrev pub small_reset : ℕ → ℕ
small_reset n = 0

-- with the supply on: the words of registers 1 and 2, and how many transfers failed
abbrev pub small_chip : ℕ → ℕ → ℕ → Chip
small_chip one two failures =
    record { words = 0 ∷ one ∷ two ∷ []; supply = true; failed = failures }

abbrev pub without_supply : Chip → Chip
without_supply c = record c { supply = false }

-- just made: both words 0, the supply on, and no transfer failed
abbrev pub idle_chip : Chip
idle_chip = small_chip 0 0 0

abbrev pub moment_at : PortCall → Reply → Chip → Chip → Moment
moment_at c r before after = record { call = c; reply = r; before = before; after = after }

-- a call that leaves the chip as it found it
abbrev pub moment_on : Chip → PortCall → Reply → Moment
moment_on c call r = moment_at call r c c

-- register 1 is set to a word, which does not go to the chip yet
abbrev pub update_at : Chip → ℕ → Moment
update_at c w = moment_on c (Update 1 0xFFFF w) (acceptance [])

abbrev pub SmallAudited : Chip → List Moment → Chip → Type 0
SmallAudited first run last = Audited small_class small_reset first run last
