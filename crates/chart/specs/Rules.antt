-- What every chart keeps to. Assumes nothing.
use Rattle.std.specs.Prelude.{◌≡◌, ℕ, ◌^◌, ◌<◌, ◌≤◌}
use Rattle.chart.specs.declared.class.Class.{Class}
use Rattle.chart.specs.declared.class.Class.TheVariants.{Absent, Live}

pub record ChartRules (count : ℕ) (class : ℕ → Class) (reset : ℕ → ℕ) : Type 0 where
  pub some : 1 ≤ count
  pub few : count ≤ 128
  pub zero_absent : class 0 ≡ Absent
  pub rest_absent : (n : ℕ) → count ≤ n → class n ≡ Absent
  pub absent_reset : (n : ℕ) → class n ≡ Absent → reset n ≡ 0
  pub live_reset : (n : ℕ) → class n ≡ Live → reset n ≡ 0
  pub reset_fits : (n : ℕ) → reset n < 2 ^ 16
