-- A call that is refused before anything is sent, and one that goes on. Assumes nothing.
use Rattle.std.proofs.Common.{◌≡◌, ℕ, ◌^◌, ◌<◌, Bool, true, false, List, Some, None, Option, refl}
use Rattle.std.proofs.Common.{ap, arith}
use Rattle.chart.specs.declared.class.Class.{Class}
use Rattle.refusal.specs.Replies.{Reply}
use Rattle.chart.specs.Rules.{ChartRules}
use Rattle.chip.specs.Words.{WordsSound}
use Rattle.chip.proofs.Soundness.{set_sound}
use Rattle.bus.specs.Chips.{words_after_measure}
use Rattle.bus.specs.Checks.{measure_check, unless}

pub refused_by : {M : Type 0} (o : Option Reply) (r : Reply) (m : M) (go : Reply × M) → o ≡ Some r
    → unless o m go ≡ (r, m)
refused_by o r m go e = ap (λ x. unless x m go) e

-- what holds of the state before, and of the one that the call leads to where it goes on, holds
-- after it
pub either_way : {M : Type 0} (P : M → Type 0) (o : Option Reply) (m : M) (go : Reply × M) → P m
    → (o ≡ None → P go.1) → P (unless o m go).1
either_way P (Some r) m go stays moves = stays
either_way P None m go stays moves = moves refl

module _ {count : ℕ} {class : ℕ → Class} {reset : ℕ → ℕ} (rules : ChartRules count class reset)
  where
    -- no measurement goes into the selector
    pub measured_sound : (on : Bool) (n w : ℕ) (ws : List ℕ) → WordsSound ws → w < 2 ^ 16
        → measure_check (class n) ≡ None → WordsSound (words_after_measure on n w ws)
    measured_sound true n w ws sound h goes =
        set_sound ws n w sound h λ at.
        let absent = rules.rest_absent n (rw at rules.few) in
        let z : ◌≡◌ {A = ℕ} 0 1 = cc (goes, ap measure_check absent) in
        omega arith
    measured_sound false n w ws sound h goes = sound
