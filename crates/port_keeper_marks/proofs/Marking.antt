-- What the marks are after a change, one by one. Assumes nothing.
use Rattle.std.proofs.Common.{◌≡◌, ◌≢◌, ℕ, zero, suc, ◌+◌, ◌-◌, ◌<◌, ◌≤◌, ◌⊎◌, inl, inr, Bool}
use Rattle.std.proofs.Common.{false, not, eqb, List, [], ◌∷◌, length, get_or, set, refl, ap, sym}
use Rattle.std.proofs.Common.{◌∙◌, ⊎_elim, arith}
use Rattle.std.proofs.lemmas.Bool.{cases_eq, cases_lt}
use Rattle.std.proofs.lemmas.List.{length-set, get_or-set_same, get_or-set_other, get_or_past}
use Rattle.std.proofs.lemmas.List.{ext_get_or}
use Rattle.port_keeper_marks.specs.declared.runs.Run.{Run}
use Rattle.port_keeper_marks.specs.Runs.{InRun, OutsideRun, Clears, is_marked, unmark, clear}
use Rattle.port_keeper_marks.specs.Runs.{differing_from, differing}

-- one mark changed
pub marked_set : (bs : List Bool) (n : ℕ) (b : Bool) → n < length bs → is_marked (set bs n b) n ≡ b
marked_set bs n b lt = get_or-set_same bs n b false lt

pub marked_set_other : (bs : List Bool) (n i : ℕ) (b : Bool) → i ≢ n
    → is_marked (set bs n b) i ≡ is_marked bs i
marked_set_other bs n i b ne = get_or-set_other bs n i b false ne

pub marked_set_false : (bs : List Bool) (n : ℕ) → is_marked (set bs n false) n ≡ false
marked_set_false bs n = ⊎_elim
    (marked_set bs n false)
    (λ past. get_or_past (set bs n false) n false (omega (arith, length-set bs n false)))
    (cases_lt n (length bs))

-- marks taken away
length-unmarked : (first count : ℕ) (bs : List Bool)
    → length (unmark first count bs) ≡ length bs
length-unmarked first zero bs = refl
length-unmarked first (suc k) bs =
    length-unmarked (first + 1) k (set bs first false) ∙ length-set bs first false

unmarked_outside : (first count i : ℕ) (bs : List Bool) → (i < first) ⊎ (first + count ≤ i)
    → is_marked (unmark first count bs) i ≡ is_marked bs i
unmarked_outside first zero i bs out = refl
unmarked_outside first (suc k) i bs out =
    unmarked_outside (first + 1) k i (set bs first false)
    (⊎_elim (λ lt. inl (omega arith)) (λ ge. inr (omega arith)) out)
    ∙ marked_set_other bs first i false (⊎_elim (λ lt e. omega arith) (λ ge e. omega arith) out)

unmarked_inside : (first count i : ℕ) (bs : List Bool) → first ≤ i → i < first + count
    → is_marked (unmark first count bs) i ≡ false
unmarked_inside first zero i bs le lt = absurd (omega arith)
unmarked_inside first (suc k) i bs le lt = ⊎_elim
    (λ here. unmarked_outside (first + 1) k i (set bs first false) (inl (omega arith))
    ∙ ap (is_marked (set bs first false)) here
    ∙ marked_set_false bs first)
    (λ ne. unmarked_inside (first + 1) k i (set bs first false) (omega arith) (omega arith))
    (cases_eq i first)

pub length_cleared : (r : Run) (bs : List Bool) → length (clear r bs) ≡ length bs
length_cleared r bs = length-unmarked r.first r.count bs

pub marked_cleared : (r : Run) (bs : List Bool) (i : ℕ) → InRun r i
    → is_marked (clear r bs) i ≡ false
marked_cleared r bs i at = unmarked_inside r.first r.count i bs at.0 at.1

pub marked_cleared_other : (r : Run) (bs : List Bool) (i : ℕ) → OutsideRun r i
    → is_marked (clear r bs) i ≡ is_marked bs i
marked_cleared_other r bs i out = unmarked_outside r.first r.count i bs out

pub clears : (r : Run) (bs : List Bool) → Clears r bs (clear r bs)
clears r bs = record { inside = marked_cleared r bs; outside = marked_cleared_other r bs }

pub in_or_out : (r : Run) (i : ℕ) → InRun r i ⊎ OutsideRun r i
in_or_out r i = ⊎_elim
    (λ before. inr (inl before))
    (λ from. ⊎_elim
    (λ to. inl (from, to))
    (λ past. inr (inr past))
    (cases_lt i (r.first + r.count)))
    (cases_lt i r.first)

-- marks by the words
length-differing_from : (reset : ℕ → ℕ) (n : ℕ) (ws : List ℕ)
    → length (differing_from reset n ws) ≡ length ws
length-differing_from reset n [] = refl
length-differing_from reset n (w ∷ ws) = ap suc (length-differing_from reset (n + 1) ws)

differs_at : (reset : ℕ → ℕ) (n : ℕ) (ws : List ℕ) (i j : ℕ) → j ≡ n + i → i < length ws
    → is_marked (differing_from reset n ws) i ≡ not (eqb (get_or ws i 0) (reset j))
differs_at reset n [] i j e lt = absurd (omega arith)
differs_at reset n (w ∷ ws) zero j e lt = ap (λ k. not (eqb w (reset k))) (omega arith)
differs_at reset n (w ∷ ws) (suc i) j e lt =
    differs_at reset (n + 1) ws i j (omega arith) (omega arith)

pub length_differing : (reset : ℕ → ℕ) (ws : List ℕ) → length (differing reset ws) ≡ length ws
length_differing reset ws = length-differing_from reset 0 ws

pub marked_differing : (reset : ℕ → ℕ) (ws : List ℕ) (i : ℕ) → i < length ws
    → is_marked (differing reset ws) i ≡ not (eqb (get_or ws i 0) (reset i))
marked_differing reset ws i lt = differs_at reset 0 ws i i (omega arith) lt

pub marked_differing_past : (reset : ℕ → ℕ) (ws : List ℕ) (i : ℕ) → length ws ≤ i
    → is_marked (differing reset ws) i ≡ false
marked_differing_past reset ws i le =
    get_or_past (differing reset ws) i false (omega (arith, length_differing reset ws))

-- these marks say of each word below n whether it differs
pub record TellsBelow (reset : ℕ → ℕ) (ws : List ℕ) (n : ℕ) (bs : List Bool) : Type 0 where
  pub size : length bs ≡ length ws
  pub tells : (i : ℕ) → i < n → is_marked bs i ≡ not (eqb (get_or ws i 0) (reset i))

pub tells_none : (reset : ℕ → ℕ) (ws : List ℕ) (bs : List Bool) → length bs ≡ length ws
    → TellsBelow reset ws 0 bs
tells_none reset ws bs size = record { size = size; tells = λ i lt. absurd (omega arith) }

pub tells_more : (reset : ℕ → ℕ) (ws : List ℕ) (n : ℕ) (bs : List Bool) (b : Bool)
    → TellsBelow reset ws n bs → n < length ws → b ≡ not (eqb (get_or ws n 0) (reset n))
    → TellsBelow reset ws (n + 1) (set bs n b)
tells_more reset ws n bs b so_far lt told = record {
  size = length-set bs n b ∙ so_far.size;
  tells = λ i below. ⊎_elim
      (λ here. let within : n < length bs = omega (arith, so_far.size) in
      rw here (marked_set bs n b within ∙ told))
      (λ ne. marked_set_other bs n i b ne ∙ so_far.tells i (omega arith))
      (cases_eq i n);
}

pub tells_all : (reset : ℕ → ℕ) (ws : List ℕ) (n : ℕ) (bs : List Bool) → TellsBelow reset ws n bs
    → length ws ≤ n → bs ≡ differing reset ws
tells_all reset ws n bs so_far past =
    ext_get_or false bs (differing reset ws) (so_far.size ∙ sym (length_differing reset ws))
    (λ i lt. so_far.tells i (omega (arith, so_far.size))
    ∙ sym (marked_differing reset ws i (omega (arith, so_far.size))))

-- the steps of a loop that takes marks away, up to an end
pub unmarked_more : (first end : ℕ) (bs : List Bool) → first < end
    → unmark first (end - first) bs
    ≡ unmark (first + 1) (end - (first + 1)) (set bs first false)
unmarked_more first end bs lt =
    let more : end - first ≡ suc (end - (first + 1)) = omega arith in rw more

pub unmarked_none : (first end : ℕ) (bs : List Bool) → end ≤ first
    → unmark first (end - first) bs ≡ bs
unmarked_none first end bs le = let none : end - first ≡ zero = omega arith in rw none

-- what `Marks::differing` rests on, and what `Marks::clear` does
pub ruleset by_words = (tells_none, tells_more, tells_all, marked_differing)

pub ruleset taken_away = (unmarked_more, unmarked_none, clears)
