-- A run as updates. Assumes nothing.
use Rattle.std.specs.Prelude.{ℕ, ◌+◌, Bool, List, [], ◌∷◌, length}
use Rattle.patch.specs.Patch.{setting_to}
use Rattle.refusal.specs.Replies.{Reply, acceptance}
use Rattle.chart.specs.declared.class.Class.{Class}
use Rattle.patch.specs.declared.patch.Patch.{Patch}
use Rattle.chip.specs.Words.{rising_words}
use Rattle.bus.specs.Checks.{unless}
use Rattle.port.specs.Checks.{run_check, onward}
use Rattle.port.specs.Pieces.{InPieces}

-- Each word of a run is an update of its own; one that is refused ends the run.
abbrev pub one_by_one : {M : Type 0} → (M → ℕ → Patch → Reply × M) → M → ℕ → List ℕ → Reply × M
one_by_one update m first [] = (acceptance [], m)
one_by_one update m first (w ∷ ws) =
    onward (update m first (setting_to w)) (λ k. one_by_one update k (first + 1) ws)

-- The whole run is checked before the first of its updates, so one that breaks a rule changes
-- nothing.
abbrev pub update_each : {M : Type 0} → Bool → (ℕ → Class) → (M → Bool)
    → (M → ℕ → Patch → Reply × M) → M → ℕ → List ℕ → Reply × M
update_each keeps class on update m first ws =
    unless (run_check keeps class first (length ws) (on m)) m (one_by_one update m first ws)

-- one word of a run, at its number, as an update under a full mask
abbrev pub update_word : {M : Type 0} → (M → ℕ → Patch → Reply × M) → M → ℕ × ℕ → Reply × M
update_word update m word = update m word.0 (setting_to word.1)

-- The words of a run went as updates, from the first register up, one register higher each time,
-- until one was refused: that refusal, as it came, is the answer.
abbrev pub InOrder : {M : Type 0} → (M → ℕ → Patch → Reply × M) → ℕ → List ℕ
    → M → Reply → M → Type 0
InOrder {M = M} update first ws m r k =
    InPieces (λ reply. reply) (λ (_ : Unit {0}). update_word update) (λ _ s. s)
    (rising_words first ws) tt m r tt k
