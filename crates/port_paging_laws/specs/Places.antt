-- Where a register lies. Assumes nothing.
use Rattle.std.specs.Prelude.{◌≡◌, ℕ, ◌-◌, ◌*◌, ◌/◌, ◌%◌, ◌<◌, ◌≤◌, if◌then◌else◌, Some, nat_lt}
use Rattle.chip.specs.Words.{place_of}

-- A register below 32 is at its own raw address, whatever the page. The others lie on pages of 32.
abbrev pub page_of : ℕ → ℕ
page_of n = (n - 32) / 32

abbrev pub raw_of : ℕ → ℕ
raw_of n = if nat_lt n 32 then n else (n - 32 * page_of n)

-- how many registers, from this one on, lie before the next multiple of 32
abbrev pub room_of : ℕ → ℕ
room_of n = 32 - n % 32

-- under this page the raw address leads to the register, if a chip has such a register
abbrev pub LeadsTo : ℕ → ℕ → ℕ → Type 0
LeadsTo n page raw = 1 ≤ n → n < 128 → place_of page raw ≡ Some n
