-- How a text is cut into lines and words. Assumes nothing.
use Rattle.std.specs.Prelude.{ℕ, Bool, true, false, if◌then◌else◌, ◌||◌, List, [], ◌∷◌, ◌==◌}
use Rattle.std.specs.List.{before_first, after_first}

-- what stands before the first b
abbrev pub part_before : ℕ → List ℕ → List ℕ
part_before b s = before_first (λ c. c == b) s

-- what stands after the first b
abbrev pub part_after : ℕ → List ℕ → List ℕ
part_after b s = after_first (λ c. c == b) s

-- the lines that begin in a text, which follows a line end, or else a character of a line
abbrev pub lines_after : Bool → List ℕ → List (List ℕ)
lines_after b [] = []
lines_after true (c ∷ cs) = part_before 10 (c ∷ cs) ∷ lines_after (c == 10) cs
lines_after false (c ∷ cs) = lines_after (c == 10) cs

-- the lines of a text; a line end at its end begins no other line
abbrev pub lines_of : List ℕ → List (List ℕ)
lines_of text = lines_after true text

-- space, tab and carriage return
abbrev pub blank : ℕ → Bool
blank c = c == 32 || (c == 9 || c == 13)

-- the longest front with no blank
abbrev pub solid : List ℕ → List ℕ
solid s = before_first blank s

-- the words that begin in a list, which follows a blank, or else a character of a word
abbrev pub words_after : Bool → List ℕ → List (List ℕ)
words_after b [] = []
words_after true (c ∷ cs) =
    if blank c then words_after true cs else (c ∷ solid cs) ∷ words_after false cs
words_after false (c ∷ cs) = if blank c then words_after true cs else words_after false cs

-- the words of a line
abbrev pub line_words : List ℕ → List (List ℕ)
line_words line = words_after true line
