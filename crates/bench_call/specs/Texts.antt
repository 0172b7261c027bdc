-- A call as a sheet writes it. Assumes nothing.
use Rattle.std.specs.Prelude.{ℕ, ◌+◌, ◌/◌, ◌%◌, if◌then◌else◌, List, [], ◌∷◌, ◌++◌, codes, decimal}
use Rattle.std.specs.Prelude.{nat_lt}
use Rattle.std.specs.List.{flat_map}
use Rattle.bench_call.specs.Asked.{Asked, get, put, measure, down, up}
use Rattle.bench_call.specs.declared.PileCall.{PileCall}
use Rattle.bench_call.specs.declared.PileCall.TheVariants.{Port, Suspend, Resume}
use Rattle.bench_call.specs.declared.PortCall.{PortCall}
use Rattle.bench_call.specs.declared.PortCall.TheVariants.{Read, Update, Sync, Measure, Down, Up}

-- a hexadecimal digit, with letters in upper case
abbrev pub hex_digit : ℕ → ℕ
hex_digit d = if nat_lt d 10 then 48 + d else 55 + d

-- two digits
abbrev pub byte_text : ℕ → List ℕ
byte_text n = hex_digit (n / 16) ∷ hex_digit (n % 16) ∷ []

-- 0x and four digits
abbrev pub word_text : ℕ → List ℕ
word_text n = codes "0x" ++ (byte_text (n / 256) ++ byte_text (n % 256))

-- the words of a put, each after a blank
abbrev pub words_text : List ℕ → List ℕ
words_text ws = flat_map (λ w. codes " " ++ word_text w) ws

abbrev pub call_text : Asked → List ℕ
call_text (get raw) = codes "get " ++ decimal raw
call_text (put raw ws) = codes "put " ++ (decimal raw ++ words_text ws)
call_text (measure register w) =
    codes "measure " ++ (decimal register ++ (codes " " ++ word_text w))
call_text down = codes "down"
call_text up = codes "up"

abbrev pub port_call_text : PortCall → List ℕ
port_call_text (Read register) = codes "read " ++ decimal register
port_call_text (Update register mask bits) =
    codes "update "
    ++ (decimal register ++ (codes " " ++ (word_text mask ++ (codes " " ++ word_text bits))))
port_call_text Sync = codes "sync"
port_call_text (Measure register w) =
    codes "measure " ++ (decimal register ++ (codes " " ++ word_text w))
port_call_text Down = codes "down"
port_call_text Up = codes "up"

abbrev pub pile_call_text : PileCall → List ℕ
pile_call_text (Port call) = port_call_text call
pile_call_text Suspend = codes "suspend"
pile_call_text Resume = codes "resume"
