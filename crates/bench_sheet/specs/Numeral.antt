-- What a word of digits is worth. Assumes nothing.
use Rattle.std.specs.Prelude.{ℕ, ◌+◌, ◌-◌, ◌*◌, if◌then◌else◌, ◌&&◌, List, [], ◌∷◌, drop, Some}
use Rattle.std.specs.Prelude.{None, Option}
use Rattle.std.specs.Prelude.{◌==◌, nat_lt, slice_index}
use Rattle.std.specs.Int.{is_in_range}

-- what a digit is worth, a letter in either case; 16, which is below no base, where it is no digit
abbrev pub digit : ℕ → ℕ
digit c =
    if is_in_range 48 57 c then c - 48
    else if is_in_range 97 102 c then c - 87
    else if is_in_range 65 70 c then c - 55
    else 16

-- the number that digits write after the number n, if each is a digit of the base
abbrev pub following : ℕ → ℕ → List ℕ → Option ℕ
following base n [] = Some n
following base n (c ∷ cs) =
    if nat_lt (digit c) base then following base (n * base + digit c) cs else None

-- a number has 16 bits
abbrev pub short : Option ℕ → Option ℕ
short None = None
short (Some n) = if nat_lt n 65536 then Some n else None

-- the number that digits write, of which there is at least one
abbrev pub in_base : ℕ → List ℕ → Option ℕ
in_base base [] = None
in_base base (c ∷ cs) = short (following base 0 (c ∷ cs))

-- hexadecimal after 0x, else decimal
abbrev pub numeral : List ℕ → Option ℕ
numeral w =
    if slice_index w 0 == 48 && slice_index w 1 == 120 then in_base 16 (drop 2 w)
    else in_base 10 w
