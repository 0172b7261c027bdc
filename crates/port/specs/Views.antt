-- What a reader knows of a port. Assumes nothing.
use Rattle.std.specs.Prelude.{◌≡◌, ℕ, ◌+◌, Bool, if◌then◌else◌, List, [], ◌∷◌, ◌==◌, slice_index}
use Rattle.chart.specs.declared.class.Class.{Class}
use Rattle.bus.specs.Chips.{Chip}

-- Words by the number of their register: the settings as the port shows them, the settings that the
-- chip has, and the live words; whether the supply is on; and how many transfers failed.
pub record View : Type 0 where
  pub shown : ℕ → ℕ
  pub settings : ℕ → ℕ
  pub live : ℕ → ℕ
  pub supply : Bool
  pub failed : ℕ

-- the word that a chip has in a register
abbrev pub word_in : Chip → ℕ → ℕ
word_in c n = slice_index c.words n

-- all but what is shown is the chip's at the bottom
abbrev pub view_of : (ℕ → ℕ) → Chip → View
view_of shown c =
    record {
      shown = shown;
      settings = word_in c;
      live = word_in c;
      supply = c.supply;
      failed = c.failed;
    }

-- two lists of words agree at every register of a class
abbrev pub Agree : (ℕ → Class) → Class → (ℕ → ℕ) → (ℕ → ℕ) → Type 0
Agree class kind f g = (n : ℕ) → class n ≡ kind → f n ≡ g n

-- one word replaced
abbrev pub with_word_at : ℕ → ℕ → (ℕ → ℕ) → ℕ → ℕ
with_word_at n w f k = if k == n then w else f k

-- words replaced at consecutive numbers
abbrev pub with_run : ℕ → List ℕ → (ℕ → ℕ) → ℕ → ℕ
with_run first [] f = f
with_run first (w ∷ ws) f = with_run (first + 1) ws (with_word_at first w f)
