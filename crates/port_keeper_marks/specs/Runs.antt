-- What is owed, and the runs in which it is sent. Marks are a list of booleans, one for each
-- register by its number. Assumes nothing.
use Rattle.std.specs.Prelude.{◌≡◌, ℕ, zero, suc, ◌+◌, ◌<◌, ◌≤◌, min, Bool, true, false, not, ◌⊎◌}
use Rattle.std.specs.Prelude.{List, [], ◌∷◌, length, count_by, ◌==◌, slice_index, slice_index_or}
use Rattle.std.specs.Prelude.{slice_set, Option, Some, None}
use Rattle.refusal.specs.Replies.{Reply}
use Rattle.std.specs.List.{prefix_len}
use Rattle.port_keeper_marks.specs.declared.runs.Run.{Run}

-- whether a number is owed; none past the end is
abbrev pub is_marked : List Bool → ℕ → Bool
is_marked bs n = slice_index_or bs n false

-- consecutive registers: the first, and how many
abbrev pub run_at : ℕ → ℕ → Run
run_at first count = record { first = first; count = count }

-- The runs that begin from register n on, where the first `inside` marks of the list belong to a
-- run told before. A run begins at an owed register and takes in the owed ones that follow it
-- without a gap, 16 at most.
abbrev pub runs_from : ℕ → ℕ → List Bool → List Run
runs_from n inside [] = []
runs_from n (suc k) (b ∷ bs) = runs_from (n + 1) k bs
runs_from n zero (false ∷ bs) = runs_from (n + 1) zero bs
runs_from n zero (true ∷ bs) =
    let more = min 15 (prefix_len (λ b. b) bs) in run_at n (1 + more) ∷ runs_from (n + 1) more bs

-- all of them
abbrev pub runs : List Bool → List Run
runs bs = runs_from 0 0 bs

-- The next run from number n on: nothing is owed before it, and all in it is; it has 1 to 16
-- registers, and fewer than 16 only where the next one is not owed.
pub record IsNext (owed : ℕ → Bool) (n : ℕ) (r : Run) : Type 0 where
  pub from : n ≤ r.first
  pub before : (i : ℕ) → n ≤ i → i < r.first → owed i ≡ false
  pub some : 1 ≤ r.count
  pub few : r.count ≤ 16
  pub inside : (i : ℕ) → r.first ≤ i → i < r.first + r.count → owed i ≡ true
  pub ends : (r.count ≡ 16) ⊎ (owed (r.first + r.count) ≡ false)

-- From number n on, these are the runs from the lowest up, one next to the other, and nothing but
-- what is in them is owed.
abbrev pub AreRuns : (ℕ → Bool) → ℕ → List Run → Type 0
AreRuns owed n [] = (i : ℕ) → n ≤ i → owed i ≡ false
AreRuns owed n (r ∷ rs) = IsNext owed n r × AreRuns owed (r.first + r.count) rs

-- how many are owed, and in how many runs they are sent
abbrev pub tally : List Bool → ℕ × ℕ
tally bs = (count_by (λ b. b) bs, length (runs bs))

-- the answer to 'which is owed', as number and values: 1 with a register, or 0 for none
abbrev pub which_reply : Option ℕ → Reply
which_reply None = record { number = 0; values = [] }
which_reply (Some n) = record { number = 1; values = n ∷ [] }

-- none, and then nothing is owed; or some owed number
abbrev pub SomeOwed : List Bool → Reply → Type 0
SomeOwed bs r =
    ((r.number ≡ 0) × ((n : ℕ) → is_marked bs n ≡ false))
    ⊎ ((r.number ≡ 1) × (is_marked bs (slice_index r.values 0) ≡ true))

-- numbers that a run has, and those that it has not
abbrev pub InRun : Run → ℕ → Type 0
InRun r i = (r.first ≤ i) × (i < r.first + r.count)

abbrev pub OutsideRun : Run → ℕ → Type 0
OutsideRun r i = (i < r.first) ⊎ (r.first + r.count ≤ i)

-- a run is owed no longer, and all else as before
pub record Clears (r : Run) (before after : List Bool) : Type 0 where
  pub inside : (i : ℕ) → InRun r i → is_marked after i ≡ false
  pub outside : (i : ℕ) → OutsideRun r i → is_marked after i ≡ is_marked before i

-- the marks of `count` registers taken away
abbrev pub unmark : ℕ → ℕ → List Bool → List Bool
unmark first zero bs = bs
unmark first (suc k) bs = unmark (first + 1) k (slice_set bs first false)

-- the marks of a run taken away
abbrev pub clear : Run → List Bool → List Bool
clear r bs = unmark r.first r.count bs

-- Marks of the registers from n on whose words differ from their reset words.
abbrev pub differing_from : (ℕ → ℕ) → ℕ → List ℕ → List Bool
differing_from reset n [] = []
differing_from reset n (w ∷ ws) = not (w == reset n) ∷ differing_from reset (n + 1) ws

abbrev pub differing : (ℕ → ℕ) → List ℕ → List Bool
differing reset ws = differing_from reset 0 ws

-- a register is marked exactly if its word is not its reset word
abbrev pub Differ : (ℕ → ℕ) → List ℕ → List Bool → Type 0
Differ reset ws bs = (i : ℕ) → i < length ws → is_marked bs i ≡ not (slice_index ws i == reset i)
