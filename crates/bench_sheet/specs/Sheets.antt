-- What a sheet says as a whole. Assumes nothing.
use Rattle.std.specs.Prelude.{◌≡◌, ℕ, ◌+◌, Bool, true, false, if◌then◌else◌, ◌&&◌, List, [], ◌∷◌}
use Rattle.std.specs.Prelude.{◌++◌, map}
use Rattle.std.specs.Prelude.{fold, codes, is_some, Some, None, Ok, Err, vec_items, Option, Result}
use Rattle.std.specs.Option.{unwrap_or}
use Rattle.std.specs.Str.{bytes_eq}
use Rattle.bench_sheet.specs.declared.ChartName.{ChartName}
use Rattle.bench_sheet.specs.declared.ChartName.TheVariants.{Head}
use Rattle.bench_sheet.specs.declared.SheetError.{SheetError}
use Rattle.bench_sheet.specs.declared.SheetError.TheVariants.{Memory, Wrong}
use Rattle.bench_sheet.specs.declared.layers.Layers.{Layers}
use Rattle.bench_sheet.specs.declared.Make.{Make}
use Rattle.bench_sheet.specs.declared.Make.TheVariants.{I2c, Window}
use Rattle.bench_sheet.specs.declared.Calls.{Calls}
use Rattle.bench_sheet.specs.declared.Calls.TheVariants.{Bus, Pile}
use Rattle.bench_call.specs.Asked.{Asked, asked}
use Rattle.bench_call.specs.declared.LayerKind.{LayerKind}
use Rattle.bench_call.specs.declared.PileCall.{PileCall}
use Rattle.bench_call.specs.declared.PileCall.TheVariants as pile_call
use Rattle.bench_sheet.specs.declared.Mistake.{Mistake}
use Rattle.bench_sheet.specs.declared.Mistake.TheVariants.{SecondBus, SecondChart, SecondPile}
use Rattle.bench_sheet.specs.declared.Mistake.TheVariants.{LateOpening, NoBus, MarksOnWindow}
use Rattle.bench_sheet.specs.declared.Mistake.TheVariants.{SecondSuspend, NoSuspend, NoResume}
use Rattle.bench_sheet.specs.declared.Sheet.{Sheet}
use Rattle.bench_sheet.specs.declared.LineError.{LineError}
use Rattle.bench_sheet.specs.declared.LineError.TheVariants as line_error
use Rattle.bench_sheet.specs.Cut.{part_before, line_words, lines_of}
use Rattle.bench_sheet.specs.Said.{bus_of, chart_of, marks_of, pile_of, call_named, pile_call_named}

-- what is to be performed: calls on a bus alone, or on a pile over it, with its layers from the
-- bottom up
pub data Job : Type 0 where
  on_bus : List Asked → Job
  on_pile : List LayerKind → List PileCall → Job

-- from the bottom up
abbrev pub layer_list : Layers → List LayerKind
layer_list ls = vec_items ls.layers

abbrev pub job_of : Calls → Job
job_of (Bus cs) = on_bus (map asked (vec_items cs))
job_of (Pile ls cs) = on_pile (layer_list ls) (vec_items cs)

-- what has been said so far
pub record Sofar : Type 0 where
  pub make : Option Make
  pub name : Option ChartName
  pub marked : Bool
  pub marks : List ℕ
  pub job : Job

abbrev pub blank_sheet : Sofar
blank_sheet = record { make = None; name = None; marked = false; marks = []; job = on_bus [] }

abbrev pub is_window : Make → Bool
is_window (I2c a) = false
is_window Window = true

abbrev pub on_window : Option Make → Bool
on_window None = false
on_window (Some m) = is_window m

abbrev pub none : {X : Type 0} → List X → Bool
none [] = true
none (x ∷ xs) = false

abbrev pub no_calls : Job → Bool
no_calls (on_bus cs) = none cs
no_calls (on_pile ls cs) = none cs

abbrev pub is_pile : Job → Bool
is_pile (on_bus cs) = false
is_pile (on_pile ls cs) = true

-- whether a rest is on after a call, by whether one is on before it
abbrev pub rest_after : Bool → PileCall → Bool
rest_after on (pile_call.Port c) = on
rest_after on pile_call.Suspend = true
rest_after on pile_call.Resume = false

-- whether a rest is on after these calls
abbrev pub at_rest : List PileCall → Bool
at_rest cs = fold rest_after false cs

abbrev pub job_at_rest : Job → Bool
job_at_rest (on_bus cs) = false
job_at_rest (on_pile ls cs) = at_rest cs

-- the first mistake in the words of a line, or else what becomes of what they say
abbrev pub then_sofar : {X : Type 0} → Result X Mistake → (X → Result Sofar Mistake)
    → Result Sofar Mistake
then_sofar (Ok x) next = next x
then_sofar (Err m) next = Err m

-- an opening line comes before the first call
abbrev pub before_calls : Sofar → Result Sofar Mistake → Result Sofar Mistake
before_calls d r = if no_calls d.job then r else Err LateOpening

abbrev pub with_bus : Sofar → Make → Result Sofar Mistake
with_bus d m =
    before_calls d
    (if is_some d.make then Err SecondBus
    else if d.marked && is_window m then Err MarksOnWindow
    else Ok (record d { make = Some m }))

abbrev pub with_chart : Sofar → ChartName → Result Sofar Mistake
with_chart d c =
    before_calls d (if is_some d.name then Err SecondChart else Ok (record d { name = Some c }))

abbrev pub with_marks : Sofar → List ℕ → Result Sofar Mistake
with_marks d ms =
    before_calls d
    (if on_window d.make then Err MarksOnWindow
    else Ok (record d { marked = true; marks = d.marks ++ ms }))

abbrev pub with_pile : Sofar → List LayerKind → Result Sofar Mistake
with_pile d ls =
    before_calls d (if is_pile d.job then Err SecondPile else Ok (record d { job = on_pile ls [] }))

-- a call comes after the bus
abbrev pub after_bus : Sofar → Result Sofar Mistake → Result Sofar Mistake
after_bus d r = if is_some d.make then r else Err NoBus

-- a rest begins while none is on, and ends while one is
abbrev pub rest_order : {X : Type 0} → Bool → PileCall → Result X Mistake → Result X Mistake
rest_order on (pile_call.Port c) r = r
rest_order on pile_call.Suspend r = if on then Err SecondSuspend else r
rest_order on pile_call.Resume r = if on then r else Err NoSuspend

-- which calls a line may hold is settled by what they are performed on
abbrev pub with_call : Sofar → Job → List ℕ → List (List ℕ) → Result Sofar Mistake
with_call d (on_bus cs) name ws =
    then_sofar (call_named name ws)
    (λ c. after_bus d (Ok (record d { job = on_bus (cs ++ c ∷ []) })))
with_call d (on_pile ls cs) name ws =
    then_sofar (pile_call_named name ws) (λ c.
    after_bus d (rest_order (at_rest cs) c (Ok (record d { job = on_pile ls (cs ++ c ∷ []) }))))

-- a statement by its name and the words after it
abbrev pub with_statement : Sofar → List ℕ → List (List ℕ) → Result Sofar Mistake
with_statement d name ws =
    if bytes_eq name (codes "bus") then then_sofar (bus_of ws) (with_bus d)
    else if bytes_eq name (codes "chart") then then_sofar (chart_of ws) (with_chart d)
    else if bytes_eq name (codes "marks") then then_sofar (marks_of ws) (with_marks d)
    else if bytes_eq name (codes "pile") then then_sofar (pile_of ws) (with_pile d)
    else with_call d d.job name ws

-- a line that has no words says nothing
abbrev pub after_words : Sofar → List (List ℕ) → Result Sofar Mistake
after_words d [] = Ok d
after_words d (name ∷ ws) = with_statement d name ws

abbrev pub after_line : Sofar → List ℕ → Result Sofar Mistake
after_line d line = after_words d (line_words (part_before 35 line))

-- what a whole sheet says
pub record Whole : Type 0 where
  pub make : Make
  pub name : ChartName
  pub marks : List ℕ
  pub job : Job

abbrev pub whole : Sheet → Whole
whole s = record { make = s.make; name = s.chart; marks = vec_items s.marks; job = job_of s.calls }

-- at the end of the text, at the line after the last
abbrev pub finish_with : ℕ → Sofar → Option Make → Result Whole (ℕ × Mistake)
finish_with n d None = Err (n, NoBus)
finish_with n d (Some m) =
    let name = unwrap_or d.name Head in
    let all : Whole = record { make = m; name = name; marks = d.marks; job = d.job } in
    if job_at_rest d.job then Err (n, NoResume) else Ok all

abbrev pub finish : ℕ → Sofar → Result Whole (ℕ × Mistake)
finish n d = finish_with n d d.make

-- a mistake of line n, or else what the lines after it give
abbrev pub read_rest : ℕ → (Sofar → Result Whole (ℕ × Mistake)) → Result Sofar Mistake
    → Result Whole (ℕ × Mistake)
read_rest n next (Ok d) = next d
read_rest n next (Err m) = Err (n, m)

-- what the lines from line n on give
abbrev pub read_from : List (List ℕ) → ℕ → Sofar → Result Whole (ℕ × Mistake)
read_from [] n d = finish n d
read_from (l ∷ ls) n d = read_rest n (read_from ls (n + 1)) (after_line d l)

-- what a text says, or its first mistake by its line
abbrev pub sheet_of : List ℕ → Result Whole (ℕ × Mistake)
sheet_of text = read_from (lines_of text) 1 blank_sheet

abbrev pub at_line : ℕ → LineError → SheetError
at_line n line_error.Memory = Memory
at_line n (line_error.Wrong m) = Wrong n m

-- r is the answer o, unless memory failed
abbrev pub Reads : Result Sheet SheetError → Result Whole (ℕ × Mistake) → Type 0
Reads (Ok s) o = o ≡ Ok (whole s)
Reads (Err Memory) o = Unit {0}
Reads (Err (Wrong n m)) o = o ≡ Err (n, m)
