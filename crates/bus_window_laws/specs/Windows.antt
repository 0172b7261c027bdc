-- The window bus as a machine. Assumes nothing.
use Rattle.std.specs.Prelude.{◌≡◌, ◌≢◌, ℕ, Bool, true, false, List, [], ◌∷◌, length, Ok, Err}
use Rattle.std.specs.Prelude.{Result}
use Rattle.std.specs.Borrow.{MutBor}
use Rattle.refusal.specs.Replies.{acceptance, refusal_of, reply_of, failure_values}
use Rattle.chart.specs.declared.class.Class.{Class}
use Rattle.chip.specs.Words.{load, rising_words, store_all, fresh_words, WordsSound}
use Rattle.trace.specs.Traces.{Traced}
use Rattle.bus.specs.Chips.{Chip, words_after_measure}
use Rattle.bus.specs.Checks.{get_check, put_check, measure_check, unless}
use Rattle.bus.specs.Meaning.{BusMachine}
use Rattle.bus.specs.declared.unmade.Unmade.{Unmade}

-- the lent words, all of them, and the supply
pub record WindowModel : Type 0 where
  pub words : List ℕ
  pub supply : Bool

abbrev pub window_of : List ℕ → Bool → WindowModel
window_of ws on = record { words = ws; supply = on }

abbrev pub window_chip : WindowModel → Chip
window_chip m = record { words = m.words; supply = m.supply; failed = 0 }

-- a window has no wire
abbrev pub window_trace : WindowModel → Traced
window_trace m = record { events = []; room = 0; lost = 0 }

abbrev pub new_window : (ℕ → ℕ) → WindowModel
new_window reset = window_of (fresh_words reset 129) true

abbrev pub window_machine : (ℕ → Class) → (ℕ → ℕ) → BusMachine WindowModel
window_machine class reset = record {
  get = λ m raw. unless (get_check raw m.supply) m (acceptance (load m.words raw ∷ []), m);
  put = λ m raw ws. unless (put_check raw (length ws) m.supply) m
      (acceptance [], window_of (store_all m.words (rising_words raw ws)) m.supply);
  measure = λ m n w. unless (measure_check (class n)) m
      (acceptance [], window_of (words_after_measure m.supply n w m.words) m.supply);
  down = λ m. window_of (fresh_words reset (length m.words)) false;
  up = λ m. record m { supply = true };
  chip = window_chip;
  trace = window_trace;
  Sound = λ m. WordsSound m.words;
  New = λ m. m ≡ new_window reset;
}

-- Memory of 129 words becomes a new bus; any other is refused, and comes back as it was.
abbrev pub WindowMade : (ℕ → ℕ) → List ℕ → Result WindowModel (Unmade (MutBor (List ℕ))) → Type 0
WindowMade reset ws (Ok b) = (length ws ≡ 129) × (b ≡ new_window reset)
WindowMade reset ws (Err e) =
    (length ws ≢ 129) × (reply_of failure_values e.refusal ≡ refusal_of 8 [])
    × (e.given.now ≡ ws)
