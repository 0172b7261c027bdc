-- The chip that a bus reaches. Assumes nothing.
use Rattle.std.specs.Prelude.{ℕ, ◌+◌, Bool, true, false, if◌then◌else◌, List, slice_set}
use Rattle.chip.specs.Words.{fresh_words}

-- its 128 words and its selector (the 129th), whether the supply is on, and how many transfers
-- failed
pub record Chip : Type 0 where
  pub words : List ℕ
  pub supply : Bool
  pub failed : ℕ

abbrev pub new_chip : (ℕ → ℕ) → Chip
new_chip reset = record { words = fresh_words reset 129; supply = true; failed = 0 }

abbrev pub with_words : List ℕ → Chip → Chip
with_words ws c = record c { words = ws }

-- a transfer failed, and left these words
abbrev pub after_failure : List ℕ → Chip → Chip
after_failure ws c = record c { words = ws; failed = c.failed + 1 }

-- the chip's own act, in a live register: nothing while the supply is off
abbrev pub words_after_measure : Bool → ℕ → ℕ → List ℕ → List ℕ
words_after_measure on n w ws = if on then slice_set ws n w else ws

abbrev pub after_measure : ℕ → ℕ → Chip → Chip
after_measure n w c = with_words (words_after_measure c.supply n w c.words) c

abbrev pub after_down : (ℕ → ℕ) → Chip → Chip
after_down reset c = record c { words = fresh_words reset 129; supply = false }

abbrev pub after_up : Chip → Chip
after_up c = record c { supply = true }
