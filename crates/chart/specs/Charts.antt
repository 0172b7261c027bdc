-- The two charts by their ranges of numbers. Assumes nothing.
use Rattle.std.specs.Prelude.{ℕ, Bool, if◌then◌else◌, ◌&&◌, ◌||◌, nat_le}
use Rattle.chart.specs.declared.class.Class.{Class}
use Rattle.chart.specs.declared.class.Class.TheVariants.{Absent, Setting, Live}

-- n lies between low and high, both included
abbrev pub within : ℕ → ℕ → ℕ → Bool
within low high n = nat_le low n && nat_le n high

abbrev pub head_class : ℕ → Class
head_class n =
    if within 1 19 n || within 32 111 n then Setting
    else if within 20 23 n || within 112 127 n then Live
    else Absent

abbrev pub head_reset : ℕ → ℕ
head_reset n = if within 32 95 n then 0x0080 else if within 96 111 n then 0xFFFF else 0

abbrev pub valve_class : ℕ → Class
valve_class n = if within 1 15 n then Setting else if within 16 19 n then Live else Absent

abbrev pub valve_reset : ℕ → ℕ
valve_reset n = if within 1 15 n then 1 else 0
