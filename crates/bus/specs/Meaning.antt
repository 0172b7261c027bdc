-- A bus as a machine, and what it means: its calls by what they answer and by what becomes of the
-- chip. Assumes nothing.
use Rattle.std.specs.Prelude.{◌≡◌, ℕ, ◌^◌, ◌<◌, ◌⊎◌, List, [], ◌∷◌, length, take, Some, None}
use Rattle.refusal.specs.Replies.{Reply, acceptance, refusal_of}
use Rattle.chart.specs.declared.class.Class.{Class}
use Rattle.chip.specs.Words.{selector, load, rising_words, store_all, fresh_words, Fit, WordsSound}
use Rattle.trace.specs.Traces.{Traced}
use Rattle.bus.specs.Chips.{Chip, new_chip, with_words, after_failure, after_measure, after_down}
use Rattle.bus.specs.Chips.{after_up}
use Rattle.bus.specs.Checks.{get_check, put_check, measure_check}

-- Each call, by the state before it and what it was called with, gives the reply and the state
-- after it. The rest is what a reader knows of a state: its chip, and what passed on the wire so
-- far. Sound holds of every state that a bus can come to, New of those that are just made.
pub record BusMachine (M : Type 0) : Type 1 where
  pub get : M → ℕ → Reply × M
  pub put : M → ℕ → List ℕ → Reply × M
  pub measure : M → ℕ → ℕ → Reply × M
  pub down : M → M
  pub up : M → M
  pub chip : M → Chip
  pub trace : M → Traced
  pub Sound : M → Type 0
  pub New : M → Type 0

-- A get that is sent answers the word and changes nothing, or fails with some cause, stores nothing
-- and is counted.
abbrev pub Got : Chip → ℕ → Reply → Chip → Type 0
Got c raw r after =
    ((r ≡ acceptance (load c.words raw ∷ [])) × (after ≡ c))
    ⊎ ((cause : ℕ) × (r ≡ refusal_of 6 (cause ∷ 0 ∷ [])) × (after ≡ after_failure c.words c))

-- A put that is sent stores its words at rising raw addresses, or fails with some cause, has then
-- stored its first k words and no other, tells k, and is counted.
abbrev pub Put : Chip → ℕ → List ℕ → Reply → Chip → Type 0
Put c raw ws r after =
    ((r ≡ acceptance []) × (after ≡ with_words (store_all c.words (rising_words raw ws)) c))
    ⊎ ((cause : ℕ) × (k : ℕ) × (k < length ws) × (r ≡ refusal_of 6 (cause ∷ k ∷ []))
    × (after ≡ after_failure (store_all c.words (rising_words raw (take k ws))) c))

pub record BusMeaning (class : ℕ → Class) (reset : ℕ → ℕ) {M : Type 0} (bus : BusMachine M)
    : Type 0 where
  pub new_sound : (m : M) → bus.New m → bus.Sound m
  pub new : (m : M) → bus.New m → bus.chip m ≡ new_chip reset
  pub words : (m : M) → bus.Sound m → WordsSound (bus.chip m).words
  -- a chip that is new, or was down, has page 0 selected
  pub first_page : selector (fresh_words reset 129) ≡ 0
  pub get_refused : (m : M) (raw : ℕ) (r : Reply)
      → get_check raw (bus.chip m).supply ≡ Some r → bus.get m raw ≡ (r, m)
  pub get_sent : (m : M) (raw : ℕ) → bus.Sound m → get_check raw (bus.chip m).supply ≡ None
      → let p = bus.get m raw in Got (bus.chip m) raw p.0 (bus.chip p.1)
  pub get_sound : (m : M) (raw : ℕ) → bus.Sound m → bus.Sound (bus.get m raw).1
  pub put_refused : (m : M) (raw : ℕ) (ws : List ℕ) (r : Reply)
      → put_check raw (length ws) (bus.chip m).supply ≡ Some r → bus.put m raw ws ≡ (r, m)
  pub put_sent : (m : M) (raw : ℕ) (ws : List ℕ) → bus.Sound m
      → put_check raw (length ws) (bus.chip m).supply ≡ None
      → let p = bus.put m raw ws in Put (bus.chip m) raw ws p.0 (bus.chip p.1)
  pub put_sound : (m : M) (raw : ℕ) (ws : List ℕ) → bus.Sound m → Fit ws
      → bus.Sound (bus.put m raw ws).1
  pub measure_refused : (m : M) (n w : ℕ) (r : Reply)
      → measure_check (class n) ≡ Some r → bus.measure m n w ≡ (r, m)
  pub measure_done : (m : M) (n w : ℕ) → measure_check (class n) ≡ None
      → let p = bus.measure m n w in
      (p.0 ≡ acceptance []) × (bus.chip p.1 ≡ after_measure n w (bus.chip m))
  pub measure_sound : (m : M) (n w : ℕ) → bus.Sound m → w < 2 ^ 16
      → bus.Sound (bus.measure m n w).1
  pub down_done : (m : M) → bus.Sound m → bus.chip (bus.down m) ≡ after_down reset (bus.chip m)
  pub down_sound : (m : M) → bus.Sound m → bus.Sound (bus.down m)
  pub up_done : (m : M) → bus.chip (bus.up m) ≡ after_up (bus.chip m)
  pub up_sound : (m : M) → bus.Sound m → bus.Sound (bus.up m)
