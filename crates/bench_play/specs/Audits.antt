-- What an auditor is promised of a sheet's transcript. Assumes nothing.
use Rattle.std.specs.Prelude.{◌≡◌, ℕ, Bool, true, false, if◌then◌else◌, ◌&&◌, List, [], map}
use Rattle.chart.specs.declared.class.Class.{Class}
use Rattle.trace.specs.Traces.{Traced}
use Rattle.bus.specs.Chips.{Chip}
use Rattle.bus.specs.Meaning.{BusMachine}
use Rattle.bus_i2c_laws.specs.I2cs.{Addressable, i2c_machine, new_i2c}
use Rattle.bus_window_laws.specs.Windows.{window_machine, new_window}
use Rattle.port_paging_laws.specs.Machine.{new_paging, paging_machine}
use Rattle.port.specs.Checks.{is_accepted}
use Rattle.port.specs.Views.{word_in}
use Rattle.bench_call.specs.Rests.{port_calls}
use Rattle.bench_call.specs.Texts.{pile_call_text}
use Rattle.bench_call.specs.declared.LayerKind.{LayerKind}
use Rattle.bench_call.specs.declared.PileCall.{PileCall}
use Rattle.bench_call.specs.declared.PortCall.{PortCall}
use Rattle.bench_call.specs.declared.PortCall.TheVariants.{Read}
use Rattle.port_ledger.specs.Audited.{Audited}
use Rattle.port_ledger.specs.Fits.{CallsFit}
use Rattle.port_ledger.specs.Ledger.{is_live}
use Rattle.port_ledger.specs.Moments.{Moment, due_word}
use Rattle.port_ledger.specs.Rested.{Placed, call_moments, call_replies}
use Rattle.bench_run.specs.Performed.{Seen}
use Rattle.port_piles.specs.Piles.{PileRun, keep, bus_run}
use Rattle.bench_sheet.specs.Sheets.{Job, on_bus, on_pile, Whole}
use Rattle.bench_sheet.specs.declared.Make.{Make}
use Rattle.bench_sheet.specs.declared.Make.TheVariants.{I2c, Window}
use Rattle.bench_text.specs.Texts.{CallEntry, transcript_text}
use Rattle.bench_text.specs.Under.{under_text}
use Rattle.bench_play.specs.Told.{pile_lines, pile_showing}
use Rattle.bench_play.specs.Told.{count_of, class_of, reset_of}

abbrev pub reads_live : (ℕ → Class) → PortCall → Bool
reads_live class (Read n) = is_live (class n)
reads_live class _ = false

-- whether it is an answered read of a live register
abbrev pub is_reading : (ℕ → Class) → Moment → Bool
is_reading class m = is_accepted m.reply && reads_live class m.call

module _ (count : ℕ) (class : ℕ → Class) (reset : ℕ → ℕ) where
  -- under a reading, the settings that have these words; under no other call anything
  abbrev pub words_under : (ℕ → ℕ) → Moment → List ℕ
  words_under words m =
      if is_reading class m then (under_text count class reset words) else []

  -- as they are due by the updates before
  abbrev pub due_under : Placed → List ℕ
  due_under p = words_under (λ n. due_word n (reset n) p.past) p.now

  -- as the chip has them when it has been read
  abbrev pub chip_under : Placed → List ℕ
  chip_under p = words_under (word_in p.now.after) p.now

  -- Lines tell the calls of a sheet by the moments of their run: each its call, the reply of its
  -- moment, and under it what is due then, which is also what the chip has then.
  pub record RunLines (cs : List PileCall) (ms : List Moment) (ls : List CallEntry) : Type 0 where
    pub calls : map (λ l. l.call) ls ≡ map pile_call_text cs
    pub replies : map (λ l. l.reply) ls ≡ call_replies cs ms
    pub due : map (λ l. l.under) ls ≡ map due_under (call_moments [] cs ms)
    pub chip : map (λ l. l.under) ls ≡ map chip_under (call_moments [] cs ms)

  -- What is written is the transcript of an audited run, from the chip that it found to the chip
  -- that it left.
  pub record RunTold (first : Chip) (run : PileRun) (cs : List PileCall) (trace : Traced)
      (ls : List CallEntry) (written : List ℕ) : Type 0 where
    pub audited : Audited class reset first run.moments run.last
    pub lines : RunLines cs run.moments ls
    pub text : written ≡ transcript_text trace run.last.failed ls

  -- the run of a sheet's calls on new layers over new paging over a bus that is at m
  abbrev pub PileTold : {M : Type 0} → BusMachine M → List LayerKind → List PileCall → M → List ℕ
      → Type 0
  PileTold bus ls cs m text =
      let run = bus_run class reset bus ls (port_calls cs) m in
      let paging = paging_machine bus class in
      let shown = pile_showing class reset ls false paging cs (new_paging m) in
      let lines = pile_lines count class reset true cs shown.seen in
      RunTold (bus.chip m) run cs shown.trace lines text

  -- behind the make of bus that a sheet names, where one is made: over a new I2C bus with an empty
  -- trace, or over new window memory
  abbrev pub MakeAudited : Make → List ℕ → List LayerKind → List PileCall → List ℕ → Type 0
  MakeAudited (I2c a) marks ls cs text =
      Addressable a → (tr : Traced) × (tr.events ≡ []) × (tr.lost ≡ 0)
      × PileTold (i2c_machine class reset) ls cs (new_i2c reset a marks tr) text
  MakeAudited Window marks ls cs text =
      PileTold (window_machine class reset) ls cs (new_window reset) text

  -- nothing stands under calls on a pile that does not keep, whatever is seen of them
  abbrev pub NothingUnder : List PileCall → Type 0
  NothingUnder cs =
      (xs : List Seen) → let lines = pile_lines count class reset false cs xs in
      map (λ l. l.under) lines ≡ map (λ l. []) lines

  -- a pile with a keeper among its layers, and one without
  abbrev pub JobAudited : Make → List ℕ → Job → List ℕ → Type 0
  JobAudited make marks (on_bus cs) text = Unit {0}
  JobAudited make marks (on_pile ls cs) text =
      (keep ls false ≡ true → MakeAudited make marks ls cs text)
      × (keep ls false ≡ false → NothingUnder cs)

-- The text of a sheet with a pile that keeps is the transcript of an audited run on this pile; of
-- a pile that does not keep nothing is told under a call.
abbrev pub SheetAudited : Whole → List ℕ → Type 0
SheetAudited w text =
    JobAudited (count_of w.name) (class_of w.name) (reset_of w.name) w.make w.marks w.job text

-- the calls of a job on a pile are of 16-bit numbers
abbrev pub JobFits : Job → Type 0
JobFits (on_bus cs) = Unit {0}
JobFits (on_pile ls cs) = CallsFit (port_calls cs)
