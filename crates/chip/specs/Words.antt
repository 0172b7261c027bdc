-- A chip's words behind its raw addresses. Assumes nothing.
use Rattle.std.specs.Prelude.{◌≡◌, ℕ, ◌+◌, ◌*◌, ◌%◌, ◌^◌, ◌<◌, ◌≤◌, if◌then◌else◌, ◌&&◌, List, []}
use Rattle.std.specs.Prelude.{◌∷◌, map}
use Rattle.std.specs.Prelude.{length, Some, None, Option, ◌==◌, nat_lt, slice_index, slice_set}
use Rattle.std.specs.List.{range_with_len}

-- A chip has 129 words: 0 to 127 are its registers, by number, and 128 is the selector.
abbrev pub selector : List ℕ → ℕ
selector ws = slice_index ws 128

-- The word that a raw address means. 0 is the selector, and from 1 to 31 it is the register of that
-- number; 32 to 63 are a page of 32 registers that the selector picks, and under selector 3
-- nothing.
abbrev pub place_of : ℕ → ℕ → Option ℕ
place_of s raw =
    if raw == 0 then Some 128
    else if nat_lt raw 32 then Some raw
    else if nat_lt raw 64 && nat_lt s 3 then Some (raw + 32 * s)
    else None

abbrev word_at : List ℕ → Option ℕ → ℕ
word_at ws (Some n) = slice_index ws n
word_at ws None = 0

-- nothing reads as 0
abbrev pub load : List ℕ → ℕ → ℕ
load ws raw = word_at ws (place_of (selector ws) raw)

-- the selector keeps two bits
abbrev pub kept_word : ℕ → ℕ → ℕ
kept_word raw w = if raw == 0 then w % 4 else w

abbrev with_word : List ℕ → ℕ → Option ℕ → List ℕ
with_word ws w (Some n) = slice_set ws n w
with_word ws w None = ws

-- nothing drops what is stored
abbrev pub store : List ℕ → ℕ → ℕ → List ℕ
store ws raw w = with_word ws (kept_word raw w) (place_of (selector ws) raw)

-- words with the raw addresses of a burst: the first, and then one higher each time
abbrev pub rising_words : ℕ → List ℕ → List (ℕ × ℕ)
rising_words raw [] = []
rising_words raw (v ∷ vs) = (raw, v) ∷ rising_words (raw + 1) vs

-- stores done in order, each a raw address with its word
abbrev pub store_all : List ℕ → List (ℕ × ℕ) → List ℕ
store_all ws [] = ws
store_all ws (p ∷ ps) = store_all (store ws p.0 p.1) ps

-- every word at its reset word; a chart resets no number above its registers to anything but 0
abbrev pub fresh_words : (ℕ → ℕ) → ℕ → List ℕ
fresh_words reset n = map reset (range_with_len 0 n)

-- words that fit 16 bits
abbrev pub Fit : List ℕ → Type 0
Fit ws = (k : ℕ) → slice_index ws k < 2 ^ 16

-- what a chip's words always are
pub record WordsSound (ws : List ℕ) : Type 0 where
  pub size : length ws ≡ 129
  pub pages : selector ws ≤ 3
  pub fit : Fit ws
