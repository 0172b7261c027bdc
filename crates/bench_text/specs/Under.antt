-- What is told under a reading: which settings it was made under. Assumes nothing.
use Rattle.std.specs.Prelude.{ℕ, zero, suc, Bool, true, false, if◌then◌else◌, not, ◌&&◌, ◌||◌}
use Rattle.std.specs.Prelude.{List, [], ◌++◌, codes, decimal, ◌==◌, slice_index, slice_set}
use Rattle.patch.specs.Patch.{word_after, patch_of}
use Rattle.refusal.specs.Replies.{Reply}
use Rattle.chart.specs.declared.class.Class.{Class}
use Rattle.patch.specs.declared.patch.Patch.{Patch}
use Rattle.chart.specs.declared.class.Class.TheVariants.{Absent, Setting, Live}
use Rattle.chip.specs.Words.{fresh_words}
use Rattle.port.specs.Checks.{is_accepted}
use Rattle.bench_call.specs.Texts.{word_text}
use Rattle.bench_call.specs.declared.PileCall.{PileCall}
use Rattle.bench_call.specs.declared.PileCall.TheVariants.{Port, Suspend, Resume}
use Rattle.bench_call.specs.declared.PortCall.{PortCall}
use Rattle.bench_call.specs.declared.PortCall.TheVariants.{Read, Update, Sync, Measure, Down, Up}
use Rattle.port_ledger.specs.Ledger.{is_live}
use Rattle.bench_text.specs.Texts.{line_end}
use Rattle.bench_text.specs.declared.under.Dues.{Dues}

abbrev pub is_setting : Class → Bool
is_setting Absent = false
is_setting Setting = true
is_setting Live = false

-- a setting with its word, if it is told
abbrev pub setting_entry : Bool → ℕ → ℕ → List ℕ
setting_entry true n w = codes " " ++ (decimal n ++ (codes "=" ++ word_text w))
setting_entry false n w = []

module _ (class : ℕ → Class) (reset due : ℕ → ℕ) where
  -- whether n is a setting whose word is another than its reset word
  abbrev pub differs : ℕ → Bool
  differs n = is_setting (class n) && not (due n == reset n)

  -- it is told only then
  abbrev pub setting_text : ℕ → List ℕ
  setting_text n = setting_entry (differs n) n (due n)

  -- of all numbers below this one, ascending
  abbrev pub settings_text : ℕ → List ℕ
  settings_text zero = []
  settings_text (suc n) = settings_text n ++ setting_text n

  abbrev pub any_differs : ℕ → Bool
  any_differs zero = false
  any_differs (suc n) = any_differs n || differs n

-- said where there is no such setting
abbrev pub none_text : Bool → List ℕ
none_text true = []
none_text false = codes " reset settings"

-- the line under a reading, where the settings below count have these words
abbrev pub under_text : ℕ → (ℕ → Class) → (ℕ → ℕ) → (ℕ → ℕ) → List ℕ
under_text count class reset due =
    codes "  under"
    ++ (settings_text class reset due count
    ++ (none_text (any_differs class reset due count) ++ line_end))

-- The word that each register of a pile is due, by number; whether the pile keeps; and whether the
-- last call was a reading, that is an answered read of a live register.
pub record DuesModel : Type 0 where
  pub words : List ℕ
  pub keeps : Bool
  pub reading : Bool

abbrev pub dues_model : {H : Type 0} → Dues H → DuesModel
dues_model d = record { words = d.words; keeps = d.keeps; reading = d.reading }

-- before the first call
abbrev pub new_dues : (ℕ → ℕ) → Bool → DuesModel
new_dues reset keeps = record { words = fresh_words reset 128; keeps = keeps; reading = false }

abbrev pub reading_is : Bool → DuesModel → DuesModel
reading_is b d = record d { reading = b }

-- the due word of n, as a masked update makes it
abbrev pub with_due : ℕ → Patch → DuesModel → DuesModel
with_due n p d = record d { words = slice_set d.words n (word_after p (slice_index d.words n)) }

-- an accepted call of the port
abbrev pub dues_after_call : (ℕ → Class) → PortCall → DuesModel → DuesModel
dues_after_call class (Read n) d = reading_is (is_live (class n)) d
dues_after_call class (Update n mask bits) d = reading_is false (with_due n (patch_of mask bits) d)
dues_after_call class Sync d = reading_is false d
dues_after_call class (Measure n w) d = reading_is false d
dues_after_call class Down d = reading_is false d
dues_after_call class Up d = reading_is false d

-- a call by its reply
abbrev pub dues_after : (ℕ → Class) → DuesModel → PileCall → Reply → DuesModel
dues_after class d (Port c) r =
    if is_accepted r then (dues_after_call class c d) else (reading_is false d)
dues_after class d Suspend r = reading_is false d
dues_after class d Resume r = reading_is false d

-- on a pile that keeps, the line under a reading
abbrev pub due_line : ℕ → (ℕ → Class) → (ℕ → ℕ) → DuesModel → List ℕ
due_line count class reset d =
    if d.keeps && d.reading
    then (under_text count class reset (λ n. slice_index d.words n))
    else []
