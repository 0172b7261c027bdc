-- What a line says. Assumes nothing.
use Rattle.std.specs.Prelude.{◌≡◌, ℕ, Bool, if◌then◌else◌, ◌||◌, List, [], ◌∷◌, length, Ok, Err}
use Rattle.std.specs.Prelude.{codes}
use Rattle.std.specs.Prelude.{Result, ◌==◌, nat_lt, slice_index}
use Rattle.std.specs.Option.{ok_or}
use Rattle.std.specs.Str.{bytes_eq}
use Rattle.bench_sheet.specs.declared.Make.{Make}
use Rattle.bench_sheet.specs.declared.ChartName.{ChartName}
use Rattle.bench_sheet.specs.declared.Make.TheVariants.{I2c, Window}
use Rattle.bench_sheet.specs.declared.ChartName.TheVariants.{Head, Valve}
use Rattle.bench_call.specs.Asked.{Asked, get, put, measure, down, up}
use Rattle.bench_call.specs.declared.LayerKind.{LayerKind}
use Rattle.bench_call.specs.declared.LayerKind.TheVariants.{Keeper, Deferral}
use Rattle.bench_call.specs.declared.PileCall.{PileCall}
use Rattle.bench_call.specs.declared.PileCall.TheVariants.{Port, Suspend, Resume}
use Rattle.bench_call.specs.declared.PortCall.{PortCall}
use Rattle.bench_call.specs.declared.PortCall.TheVariants as port
use Rattle.bench_sheet.specs.declared.Mistake.{Mistake}
use Rattle.bench_sheet.specs.declared.Mistake.TheVariants.{UnknownStatement, WordCount, NotANumber}
use Rattle.bench_sheet.specs.declared.Mistake.TheVariants.{NotAMark, UnknownBus, UnknownChart}
use Rattle.bench_sheet.specs.declared.Mistake.TheVariants.{UnknownPile, UnknownLayer, NoPile}
use Rattle.bench_sheet.specs.declared.Mistake.TheVariants.{UnderPile}
use Rattle.bench_sheet.specs.declared.LineError.{LineError}
use Rattle.bench_sheet.specs.declared.LineError.TheVariants.{Memory, Wrong}
use Rattle.bench_sheet.specs.Numeral.{numeral}

abbrev pub map_ok : {X Y : Type 0} → (X → Y) → Result X Mistake → Result Y Mistake
map_ok f (Ok x) = Ok (f x)
map_ok f (Err m) = Err m

-- r is the answer o, unless memory failed; view reads what r holds
abbrev pub Gives : {X Y : Type 0} → (X → Y) → Result X LineError → Result Y Mistake → Type 0
Gives view (Ok x) o = o ≡ Ok (view x)
Gives view (Err Memory) o = Unit {0}
Gives view (Err (Wrong m)) o = o ≡ Err m

abbrev pub number_of : List ℕ → Result ℕ Mistake
number_of w = ok_or (numeral w) NotANumber

-- a mark is a number of 8 bits
abbrev pub short8 : Result ℕ Mistake → Result ℕ Mistake
short8 (Ok n) = if nat_lt n 256 then Ok n else Err NotAMark
short8 (Err m) = Err m

abbrev pub mark_of : List ℕ → Result ℕ Mistake
mark_of w = short8 (number_of w)

-- the first mistake of a list, else its values
abbrev pub prepend : {X : Type 0} → Result X Mistake → Result (List X) Mistake
    → Result (List X) Mistake
prepend (Err m) r = Err m
prepend (Ok x) (Err m) = Err m
prepend (Ok x) (Ok xs) = Ok (x ∷ xs)

-- what a list of words says, where f is what one says
abbrev pub all_of : {X : Type 0} → (List ℕ → Result X Mistake) → List (List ℕ)
    → Result (List X) Mistake
all_of f [] = Ok []
all_of f (w ∷ ws) = prepend (f w) (all_of f ws)

abbrev pub numbers_of : List (List ℕ) → Result (List ℕ) Mistake
numbers_of = all_of number_of

abbrev pub marks_of : List (List ℕ) → Result (List ℕ) Mistake
marks_of = all_of mark_of

-- n numbers, which are all the words
abbrev pub number_list : ℕ → List (List ℕ) → Result (List ℕ) Mistake
number_list n ws = if length ws == n then numbers_of ws else Err WordCount

-- the words of a statement that takes none, or one number, two, three
abbrev pub no_words : List (List ℕ) → Result (Unit {0}) Mistake
no_words ws = map_ok (λ _. tt) (number_list 0 ws)

abbrev pub one_number : List (List ℕ) → Result ℕ Mistake
one_number ws = map_ok (λ ns. slice_index ns 0) (number_list 1 ws)

abbrev pub two_numbers : List (List ℕ) → Result (ℕ × ℕ) Mistake
two_numbers ws = map_ok (λ ns. (slice_index ns 0, slice_index ns 1)) (number_list 2 ws)

abbrev pub three_numbers : List (List ℕ) → Result (ℕ × ℕ × ℕ) Mistake
three_numbers ws =
    map_ok (λ ns. (slice_index ns 0, slice_index ns 1, slice_index ns 2)) (number_list 3 ws)

-- the words after each statement's name
abbrev pub bus_of : List (List ℕ) → Result Make Mistake
bus_of [] = Err WordCount
bus_of (w ∷ ws) =
    if bytes_eq w (codes "i2c") then map_ok I2c (one_number ws)
    else if bytes_eq w (codes "window") then map_ok (λ _. Window) (no_words ws)
    else Err UnknownBus

abbrev pub chart_named : List ℕ → Result ChartName Mistake
chart_named w =
    if bytes_eq w (codes "head") then Ok Head
    else if bytes_eq w (codes "valve") then Ok Valve
    else Err UnknownChart

abbrev pub chart_of : List (List ℕ) → Result ChartName Mistake
chart_of [] = Err WordCount
chart_of (w ∷ []) = chart_named w
chart_of (w ∷ v ∷ vs) = Err WordCount

abbrev pub layer_of : List ℕ → Result LayerKind Mistake
layer_of w =
    if bytes_eq w (codes "keeper") then Ok Keeper
    else if bytes_eq w (codes "deferral") then Ok Deferral
    else Err UnknownLayer

-- a port that stands on the bus, and the layers over it from the bottom up
abbrev pub named_pile : List ℕ → List (List ℕ) → Result (List LayerKind) Mistake
named_pile w ws = if bytes_eq w (codes "paging") then all_of layer_of ws else Err UnknownPile

-- at most three layers
abbrev pub pile_of : List (List ℕ) → Result (List LayerKind) Mistake
pile_of [] = Err WordCount
pile_of (w ∷ ws) = if nat_lt 3 (length ws) then Err WordCount else named_pile w ws

abbrev pub put_with : Result ℕ Mistake → Result (List ℕ) Mistake → Result Asked Mistake
put_with (Err m) r = Err m
put_with (Ok raw) (Err m) = Err m
put_with (Ok raw) (Ok xs) = Ok (put raw xs)

abbrev pub put_of : List (List ℕ) → Result Asked Mistake
put_of [] = Err WordCount
put_of (w ∷ ws) = put_with (number_of w) (numbers_of ws)

-- a name of the calls on a pile, and of those on a bus alone
abbrev pub only_on_pile : List ℕ → Bool
only_on_pile name =
    bytes_eq name (codes "read") || (bytes_eq name (codes "update") ||
    (bytes_eq name (codes "sync") || (bytes_eq name (codes "suspend") ||
    bytes_eq name (codes "resume"))))

abbrev pub only_on_bus : List ℕ → Bool
only_on_bus name = bytes_eq name (codes "get") || bytes_eq name (codes "put")

-- a call on a bus by its name and the words after it
abbrev pub call_named : List ℕ → List (List ℕ) → Result Asked Mistake
call_named name ws =
    if bytes_eq name (codes "get") then map_ok get (one_number ws)
    else if bytes_eq name (codes "put") then put_of ws
    else if bytes_eq name (codes "measure") then map_ok (λ p. measure p.0 p.1) (two_numbers ws)
    else if bytes_eq name (codes "down") then map_ok (λ _. down) (no_words ws)
    else if bytes_eq name (codes "up") then map_ok (λ _. up) (no_words ws)
    else Err (if only_on_pile name then NoPile else UnknownStatement)

-- a call on the port of a pile
abbrev pub port_call_named : List ℕ → List (List ℕ) → Result PortCall Mistake
port_call_named name ws =
    if bytes_eq name (codes "read") then map_ok port.Read (one_number ws)
    else if bytes_eq name (codes "update") then
    map_ok (λ p. port.Update p.0 p.1 p.2) (three_numbers ws)
    else if bytes_eq name (codes "sync") then map_ok (λ _. port.Sync) (no_words ws)
    else if bytes_eq name (codes "measure") then map_ok (λ p. port.Measure p.0 p.1) (two_numbers ws)
    else if bytes_eq name (codes "down") then map_ok (λ _. port.Down) (no_words ws)
    else if bytes_eq name (codes "up") then map_ok (λ _. port.Up) (no_words ws)
    else Err (if only_on_bus name then UnderPile else UnknownStatement)

-- a call on a pile
abbrev pub pile_call_named : List ℕ → List (List ℕ) → Result PileCall Mistake
pile_call_named name ws =
    if bytes_eq name (codes "suspend") then map_ok (λ _. Suspend) (no_words ws)
    else if bytes_eq name (codes "resume") then map_ok (λ _. Resume) (no_words ws)
    else map_ok Port (port_call_named name ws)
