-- The I2C bus as a machine: a controller and a target on one wire, and a line list that says what
-- goes wrong. Assumes nothing.
use Rattle.std.specs.Prelude.{◌≡◌, ℕ, ◌≤◌, ◌+◌, ◌-◌, ◌*◌, ◌/◌, Bool, true, false, if◌then◌else◌}
use Rattle.std.specs.Prelude.{List, [], ◌∷◌, length, drop, slice_index, Ok, Err, Result}
use Rattle.refusal.specs.Replies.{Reply, acceptance, refusal_of, reply_of, cause_number}
use Rattle.refusal.specs.Replies.{failure_values}
use Rattle.chart.specs.declared.class.Class.{Class}
use Rattle.chip.specs.Words.{load, WordsSound}
use Rattle.trace.specs.Traces.{Traced}
use Rattle.bus_i2c_wire.specs.Frames.{Wired, new_wired, carry, is_good, cause_of_put, cause_of_get}
use Rattle.bus_i2c_wire.specs.Frames.{put_frame, get_frame}
use Rattle.bus.specs.Chips.{Chip, words_after_measure}
use Rattle.bus.specs.Checks.{get_check, put_check, measure_check, unless}
use Rattle.bus.specs.Meaning.{BusMachine}
use Rattle.bus.specs.declared.unmade.Unmade.{Unmade}

-- the marks that are not used yet, one for each transfer to come, and how many transfers failed
pub record Line : Type 0 where
  pub marks : List ℕ
  pub failed : ℕ

-- after the last mark all is good
abbrev pub first_mark : List ℕ → ℕ
first_mark marks = slice_index marks 0

-- a transfer of n bytes that the target must acknowledge uses a mark, and is counted if it fails
abbrev pub draw : ℕ → Line → Line
draw n l =
    record {
      marks = drop 1 l.marks;
      failed =
          if is_good (first_mark l.marks) n then l.failed else (l.failed + 1);
    }

pub record I2cModel : Type 0 where
  pub line : Line
  pub supply : Bool
  pub wire : Wired

abbrev pub i2c_of : Line → Bool → Wired → I2cModel
i2c_of l on w = record { line = l; supply = on; wire = w }

abbrev pub new_line : List ℕ → Line
new_line marks = record { marks = marks; failed = 0 }

abbrev pub new_i2c : (ℕ → ℕ) → ℕ → List ℕ → Traced → I2cModel
new_i2c reset a marks tr = i2c_of (new_line marks) true (new_wired reset a tr)

-- Why a transfer failed, as a number: 1 says that an address was not acknowledged, 2 that something
-- else was not.
abbrev pub put_cause : ℕ → ℕ
put_cause mark = cause_number (cause_of_put mark)

abbrev pub get_cause : ℕ → ℕ
get_cause mark = cause_number (cause_of_get mark)

-- A get is one transfer, in which the target must acknowledge three bytes.
abbrev pub i2c_get : I2cModel → ℕ → Reply × I2cModel
i2c_get m raw =
    let mark = first_mark m.line.marks in
    let word = load m.wire.words raw in (
      (if is_good mark 3 then acceptance (word ∷ []) else refusal_of 6 (get_cause mark ∷ 0 ∷ [])),
      i2c_of (draw 3 m.line) m.supply
          (carry (get_frame m.wire.target.address raw word mark) m.wire),
    )

-- A put is one transfer: address, raw address and two bytes for each word. What was stored before a
-- failure is told.
abbrev pub i2c_put : I2cModel → ℕ → List ℕ → Reply × I2cModel
i2c_put m raw ws =
    let mark = first_mark m.line.marks in
    let bytes = 2 + 2 * length ws in (
      (if is_good mark bytes
          then acceptance []
          else refusal_of 6 (put_cause mark ∷ (mark - 3) / 2 ∷ [])),
      i2c_of (draw bytes m.line) m.supply
          (carry (put_frame m.wire.target.address raw ws mark) m.wire),
    )

abbrev pub i2c_after_measure : ℕ → ℕ → I2cModel → I2cModel
i2c_after_measure n w m =
    record m { wire = record m.wire { words = words_after_measure m.supply n w m.wire.words } }

abbrev pub i2c_chip : I2cModel → Chip
i2c_chip m = record { words = m.wire.words; supply = m.supply; failed = m.line.failed }

-- new at some address, with some line list and some trace
abbrev pub I2cNew : (ℕ → ℕ) → I2cModel → Type 0
I2cNew reset m =
    (a : ℕ) × (marks : List ℕ) × (tr : Traced) × (m ≡ new_i2c reset a marks tr)

abbrev pub i2c_machine : (ℕ → Class) → (ℕ → ℕ) → BusMachine I2cModel
i2c_machine class reset = record {
  get = λ m raw. unless (get_check raw m.supply) m (i2c_get m raw);
  put = λ m raw ws. unless (put_check raw (length ws) m.supply) m (i2c_put m raw ws);
  measure = λ m n w. unless (measure_check (class n)) m (acceptance [], i2c_after_measure n w m);
  down = λ m. i2c_of m.line false (new_wired reset m.wire.target.address m.wire.trace);
  up = λ m. record m { supply = true };
  chip = i2c_chip;
  trace = λ m. m.wire.trace;
  Sound = λ m. WordsSound m.wire.words;
  New = I2cNew reset;
}

-- the seven-bit addresses that a target may have
abbrev pub Addressable : ℕ → Type 0
Addressable a = (8 ≤ a) × (a ≤ 127)

-- An address that a target may have gives a new bus; any other is refused, and the trace comes back
-- as it was.
abbrev pub I2cMade : (ℕ → ℕ) → ℕ → List ℕ → Traced → Result I2cModel (Unmade Traced) → Type 0
I2cMade reset a marks tr (Ok b) = Addressable a × (b ≡ new_i2c reset a marks tr)
I2cMade reset a marks tr (Err e) =
    (Addressable a → ⊥) × (reply_of failure_values e.refusal ≡ refusal_of 7 []) × (e.given ≡ tr)
