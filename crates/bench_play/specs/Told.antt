-- What the transcript of a sheet is. Assumes nothing.
use Rattle.std.specs.Prelude.{◌≡◌, ℕ, Bool, true, false, ◌⊎◌, List, [], ◌∷◌}
use Rattle.chart.specs.Charts.{head_class, head_reset, valve_class, valve_reset}
use Rattle.refusal.specs.Replies.{Reply, refusal_of}
use Rattle.chart.specs.declared.class.Class.{Class}
use Rattle.trace.specs.Traces.{Traced}
use Rattle.bus.specs.Chips.{Chip}
use Rattle.bus.specs.Meaning.{BusMachine}
use Rattle.bus_i2c_laws.specs.I2cs.{Addressable, i2c_machine, new_i2c}
use Rattle.bus_window_laws.specs.Windows.{window_machine, new_window}
use Rattle.port.specs.Meaning.{PortMachine}
use Rattle.port_paging_laws.specs.Machine.{new_paging, paging_machine}
use Rattle.port_keeper_laws.specs.Machine.{new_keeper, keeper_machine}
use Rattle.port_deferral_laws.specs.Machine.{new_deferral, deferral_machine}
use Rattle.bench_sheet.specs.Sheets.{Job, on_bus, on_pile, Whole}
use Rattle.bench_call.specs.Texts.{call_text, pile_call_text}
use Rattle.bench_sheet.specs.declared.ChartName.{ChartName}
use Rattle.bench_sheet.specs.declared.ChartName.TheVariants.{Head, Valve}
use Rattle.bench_call.specs.declared.LayerKind.{LayerKind}
use Rattle.bench_call.specs.declared.LayerKind.TheVariants.{Keeper, Deferral}
use Rattle.bench_sheet.specs.declared.Make.{Make}
use Rattle.bench_sheet.specs.declared.Make.TheVariants.{I2c, Window}
use Rattle.bench_call.specs.declared.PileCall.{PileCall}
use Rattle.bench_run.specs.Performed.{Seen, bus_call, pile_call, walk}
use Rattle.port_piles.specs.Piles.{keep}
use Rattle.bench_text.specs.Noting.{call_entries, bare_entries}
use Rattle.bench_text.specs.Texts.{CallEntry, transcript_text, unmade_text}
use Rattle.bench_text.specs.Under.{new_dues, dues_after, due_line}

-- What calls come to, for a transcript: what is seen of each, and then what passed on the wire and
-- the chip once all are over.
pub record Shown : Type 0 where
  pub seen : List Seen
  pub trace : Traced
  pub chip : Chip

-- calls in order, by what each does, on what has a trace and a chip
abbrev pub showing_of : {C M : Type 0} → (C → M → Reply × M) → (M → Traced) → (M → Chip)
    → List C → M → Shown
showing_of does trace chip cs m =
    let run = walk does trace cs m in
    record { seen = run.0; trace = trace run.1; chip = chip run.1 }

-- A text tells all that calls come to: no event was left out of the trace, and it is their lines,
-- their transfers, and both counts.
abbrev pub TellsAll : (List Seen → List CallEntry) → Shown → List ℕ → Type 0
TellsAll lines s text =
    (s.trace.lost ≡ 0) × (text ≡ transcript_text s.trace s.chip.failed (lines s.seen))

-- The lines of calls on a pile that keeps or does not: on one that keeps, with the settings that a
-- reading was made under.
abbrev pub pile_lines : ℕ → (ℕ → Class) → (ℕ → ℕ) → Bool → List PileCall → List Seen
    → List CallEntry
pile_lines count class reset keeps cs xs =
    let told = due_line count class reset in
    call_entries pile_call_text (dues_after class) told (new_dues reset keeps) cs xs

module _ (class : ℕ → Class) (reset : ℕ → ℕ) where
  -- Calls on a pile: a port that is at m, which keeps or does not, and new layers over it. The
  -- calls are those of the topmost.
  abbrev pub pile_showing : {M : Type 0} → List LayerKind → Bool → PortMachine M → List PileCall → M
      → Shown
  pile_showing [] keeps port cs m = showing_of (pile_call port) port.trace port.chip cs m
  pile_showing (Keeper ∷ ls) keeps port cs m =
      pile_showing ls true (keeper_machine port keeps class reset) cs (new_keeper reset m)
  pile_showing (Deferral ∷ ls) keeps port cs m =
      pile_showing ls keeps (deferral_machine port keeps class) cs (new_deferral m)

module _ (count : ℕ) (class : ℕ → Class) (reset : ℕ → ℕ) where
  -- a text tells calls on a pile: a port that is at m, and new layers over it
  unfoldable pub PileTells : {M : Type 0} → List LayerKind → Bool → PortMachine M
      → List PileCall → M → List ℕ → Type 0
  PileTells ls keeps port cs m text =
      let lines = pile_lines count class reset (keep ls keeps) cs in
      TellsAll lines (pile_showing class reset ls keeps port cs m) text

  -- a text tells a job on a bus that is at m, or on a new pile over it
  abbrev pub JobTells : {M : Type 0} → BusMachine M → Job → M → List ℕ → Type 0
  JobTells bus (on_bus cs) m text =
      TellsAll (bare_entries call_text cs) (showing_of (bus_call bus) bus.trace bus.chip cs m) text
  JobTells bus (on_pile ls cs) m text =
      PileTells ls false (paging_machine bus class) cs (new_paging m) text

  -- On a new I2C bus with an empty trace, whatever its room; an address that no target may have
  -- makes no bus.
  abbrev pub I2cTells : ℕ → List ℕ → Job → List ℕ → Type 0
  I2cTells a marks job text =
      (Addressable a × ((tr : Traced) × (tr.events ≡ []) × (tr.lost ≡ 0)
      × JobTells (i2c_machine class reset) job (new_i2c reset a marks tr) text))
      ⊎ ((Addressable a → ⊥) × (text ≡ unmade_text (refusal_of 7 [])))

  -- behind the make of bus that a sheet names
  abbrev pub MakeTells : Make → List ℕ → Job → List ℕ → Type 0
  MakeTells (I2c a) marks job text = I2cTells a marks job text
  MakeTells Window marks job text =
      JobTells (window_machine class reset) job (new_window reset) text

abbrev pub count_of : ChartName → ℕ
count_of Head = 128
count_of Valve = 32

abbrev pub class_of : ChartName → ℕ → Class
class_of Head = head_class
class_of Valve = valve_class

abbrev pub reset_of : ChartName → ℕ → ℕ
reset_of Head = head_reset
reset_of Valve = valve_reset

-- the text is the transcript of the sheet
abbrev pub SheetTells : Whole → List ℕ → Type 0
SheetTells w text =
    MakeTells (count_of w.name) (class_of w.name) (reset_of w.name) w.make w.marks w.job text
