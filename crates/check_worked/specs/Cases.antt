-- The worked cases. Assumes nothing.
use Rattle.std.specs.Prelude.{ℕ, ◌≡◌, Bool, true, false, if◌then◌else◌, ◌||◌, List, [], ◌∷◌, ◌++◌}
use Rattle.std.specs.Prelude.{map, take}
use Rattle.std.specs.Prelude.{◌==◌, codes}
use Rattle.std.specs.List.{range_with_len}
use Rattle.chart.specs.Charts.{within, head_class, head_reset, valve_class, valve_reset}
use Rattle.patch.specs.Patch.{JoinExample, setting_to}
use Rattle.refusal.specs.Replies.{Reply, acceptance, refusal_of}
use Rattle.chip.specs.Words.{rising_words, store_all}
use Rattle.trace.specs.declared.event.Event.TheVariants.{Start, Byte, Stop}
use Rattle.bus_i2c_wire.specs.Frames.{put_frame, get_frame}
use Rattle.port_paging_laws.specs.Places.{page_of, raw_of}
use Rattle.bus_i2c_laws.specs.I2cs.{I2cModel, first_mark, i2c_machine, new_i2c}
use Rattle.bus.specs.Meaning.{BusMachine}
use Rattle.trace.specs.Traces.{Traced}
use Rattle.port.specs.Meaning.{PortMachine}
use Rattle.port_paging_laws.specs.Machine.{PagingModel, new_paging, paging_machine}
use Rattle.port_keeper_marks.specs.Runs.{tally}
use Rattle.port_keeper_laws.specs.Machine.{KeeperModel, new_keeper, keeper_machine}
use Rattle.bench_text.specs.Texts.{line_end}
use Rattle.bench_text.specs.Under.{under_text}

-- a bus of the head chart, behind I2C
abbrev pub bus : BusMachine I2cModel
bus = i2c_machine head_class head_reset

-- awake, with this mark next on its line
abbrev pub Awaits : ℕ → I2cModel → Type 0
Awaits mark m = (m.supply ≡ true) × (first_mark m.line.marks ≡ mark)

-- under this mark a get at raw address 5 gets this reply
abbrev pub GetUnder : ℕ → Reply → Type 0
GetUnder mark r = (m : I2cModel) → Awaits mark m → (bus.get m 5).0 ≡ r

-- under this mark a put of any three words from raw address 5 on gets this reply, and stores its
-- first k words
abbrev pub PutOfThree : ℕ → Reply → ℕ → Type 0
PutOfThree mark r k =
    (m : I2cModel) (u v w : ℕ) → Awaits mark m
    → let put = bus.put m 5 (u ∷ v ∷ w ∷ []) in
    (put.0 ≡ r)
    × ((bus.chip put.1).words ≡ store_all m.wire.words (rising_words 5 (take k (u ∷ v ∷ w ∷ []))))

-- a register lies on this page, at this raw address
abbrev pub LiesAt : ℕ → ℕ → ℕ → Type 0
LiesAt register page raw = (page_of register ≡ page) × (raw_of register ≡ raw)

-- a keeper on paging over a new I2C bus of the head chart
abbrev pub Piled : Type 0
Piled = KeeperModel (PagingModel I2cModel)

abbrev pub new_pile : ℕ → List ℕ → Traced → Piled
new_pile a marks tr = new_keeper head_reset (new_paging (new_i2c head_reset a marks tr))

abbrev pub port : PortMachine Piled
port = keeper_machine (paging_machine bus head_class) false head_class head_reset

abbrev pub set_to : ℕ → ℕ → Piled → Reply × Piled
set_to n w m = port.update m n (setting_to w)

-- a call is accepted, and this much is owed then, in this many runs
abbrev pub LeavesOwed : Reply × Piled → ℕ → ℕ → Type 0
LeavesOwed q settings runs = (q.0 ≡ acceptance []) × (tally q.1.own.owed ≡ (settings, runs))

-- Register 1 is set to 7, the supply goes, and 2 is set to 9: two settings are owed, in one run.
-- Then 2 is set to 0, its reset word, and one is owed. The line decides on the first reply alone:
-- what comes with the supply off is accepted.
abbrev pub OwedOverADown : Type 0
OwedOverADown =
    (a : ℕ) (marks : List ℕ) (tr : Traced) → (set_to 1 7 (new_pile a marks tr)).0 ≡ acceptance []
    → let two = set_to 2 9 (port.down (set_to 1 7 (new_pile a marks tr)).1) in
    LeavesOwed two 2 1 × LeavesOwed (set_to 2 0 two.1) 1 1

-- on a line without faults that update is accepted too
abbrev pub GoodLine : Type 0
GoodLine = (a : ℕ) (tr : Traced) → LeavesOwed (set_to 1 7 (new_pile a [] tr)) 0 0

-- registers 1 to 19 and 32 owed
abbrev pub nineteen_and_one : List Bool
nineteen_and_one = map (λ n. within 1 19 n || n == 32) (range_with_len 0 128)

-- what stands under a reading of the valve chart, where its settings have these words
abbrev pub valve_under : (ℕ → ℕ) → List ℕ
valve_under due = under_text 32 valve_class valve_reset due

pub record WorkedCases : Type 0 where
  -- two masked updates joined, and what they make of a word
  pub join : JoinExample
  -- at address 0x2A a put of 0x1234 at raw 5 sends 54 05 12 34
  pub put_sends : put_frame 0x2A 5 (0x1234 ∷ []) 0
      ≡ Start ∷ Byte 0x54 true ∷ Byte 0x05 true ∷ Byte 0x12 true ∷ Byte 0x34 true ∷ Stop ∷ []
  -- and its get sends 54 05, a repeated start and 55
  pub get_sends : get_frame 0x2A 5 0x1234 0
      ≡ Start ∷ Byte 0x54 true ∷ Byte 0x05 true
      ∷ Start ∷ Byte 0x55 true ∷ Byte 0x12 true ∷ Byte 0x34 false ∷ Stop ∷ []
  -- the third byte of a get is an address byte
  pub get_third : GetUnder 3 (refusal_of 6 (1 ∷ 0 ∷ []))
  -- the sixth byte of a put is the low byte of its second word, the eighth that of its third; it
  -- has no ninth
  pub put_sixth : PutOfThree 6 (refusal_of 6 (2 ∷ 1 ∷ [])) 1
  pub put_eighth : PutOfThree 8 (refusal_of 6 (2 ∷ 2 ∷ [])) 2
  pub put_ninth : PutOfThree 9 (acceptance []) 3
  -- the last register of a page, the first of the next, and the last of all
  pub last_of_page : LiesAt 63 0 63
  pub first_of_page : LiesAt 64 1 32
  pub last_of_all : LiesAt 127 2 63
  -- what a keeper owes after a down
  pub owed_over_a_down : OwedOverADown
  pub good_line : GoodLine
  -- a run of 16, one of 3, and one alone
  pub three_runs : tally nineteen_and_one ≡ (20, 3)
  -- under a reading: 1 has 0x0007 and 9 has 0xBEEF, where all have 1 after a reset
  pub two_under :
      valve_under (λ n. if n == 1 then 7 else (if n == 9 then 0xBEEF else 1))
      ≡ codes "  under 1=0x0007 9=0xBEEF" ++ line_end
  pub none_under : valve_under (λ n. 1) ≡ codes "  under reset settings" ++ line_end
