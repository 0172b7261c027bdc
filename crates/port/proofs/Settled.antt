-- What is known of a call that is not refused before anything is sent. Assumes nothing.
use Rattle.std.proofs.Common.{◌≡◌, ℕ, zero, suc, ◌≢◌, ◌+◌, ◌-◌, ◌<◌, ◌≤◌, Bool, true, false, ◌||◌}
use Rattle.std.proofs.Common.{[], ◌∷◌, eqb, ltb, map, None, sym, refl, ap, ◌∙◌, ⊎_elim, add-one}
use Rattle.std.proofs.Common.{arith, rules}
use Rattle.std.proofs.lemmas.Bool.{cases_lt}
use Rattle.std.proofs.lemmas.Bool.Decides.{nat_tests}
use Rattle.std.specs.List.{fold, range_with_len}
use Rattle.std.proofs.lemmas.List.FromFn.{map-range_with_len_more}
use Rattle.std.proofs.lemmas.List.Sums.{fold-append}
use Rattle.chart.specs.Rules.{ChartRules}
use Rattle.chart.specs.declared.class.Class.{Class}
use Rattle.chart.specs.declared.class.Class.TheVariants.{Absent, Setting, Live}
use Rattle.bus.specs.Checks.{measure_check}
use Rattle.port.specs.Checks.{read_check, update_check, worse, worst, run_check}

pub read_settled : (keeps : Bool) (c : Class) (on : Bool) → read_check keeps c on ≡ None
    → (c ≢ Absent) × ((keeps || on) ≡ true)
read_settled keeps c on e = search rules

pub update_settled : (keeps : Bool) (c : Class) (on : Bool) → update_check keeps c on ≡ None
    → (c ≡ Setting) × ((keeps || on) ≡ true)
update_settled keeps c on e = search rules

pub measure_settled : (c : Class) → measure_check c ≡ None → c ≡ Live
measure_settled c e = search rules

-- only two settings leave no worse class
worse_settled : (a b : Class) → worse a b ≡ Setting → (a ≡ Setting) × (b ≡ Setting)
worse_settled a b e = search rules

-- the worst of a range of numbers, folded from its first
pub worst_folds : (class : ℕ → Class) (first n : ℕ)
    → fold worse Setting (map class (range_with_len first n)) ≡ worst class first n
worst_folds class first zero = refl
worst_folds class first (suc n) =
    ap (λ k. fold worse Setting (map class (range_with_len first k))) (sym (add-one n))
    ∙ ap (fold worse Setting) (map-range_with_len_more class first n (first + n) refl)
    ∙ fold-append worse Setting (map class (range_with_len first n)) (class (first + n) ∷ [])
    ∙ ap (λ c. worse c (class (first + n))) (worst_folds class first n)

-- every register of a run is a setting where the worst is
all_settings : (class : ℕ → Class) (first n : ℕ) → worst class first n ≡ Setting → (i : ℕ) → i < n
    → class (first + i) ≡ Setting
all_settings class first zero e i h = search rules
all_settings class first (suc n) e i h =
    let both = worse_settled (worst class first n) (class (first + n)) e in
    ⊎_elim (all_settings class first n both.0 i)
    (λ last. let same : i ≡ n = omega arith in rw same both.1) (cases_lt i n)

pub record RunSettled (keeps : Bool) (class : ℕ → Class) (first n : ℕ) (on : Bool) : Type 0 where
  pub some : 0 < n
  pub few : n ≤ 16
  pub settings : (i : ℕ) → i < n → class (first + i) ≡ Setting
  pub at_hand : (keeps || on) ≡ true

pub run_settled : (keeps : Bool) (class : ℕ → Class) (first n : ℕ) (on : Bool)
    → run_check keeps class first n on ≡ None → RunSettled keeps class first n on
run_settled keeps class first n on e =
    let few : (eqb n 0 || ltb 16 n) ≡ false = search rules in
    let sent = update_settled keeps (worst class first n) on (rw few at e) in
    record {
      some = grind (arith, nat_tests);
      few = grind (arith, nat_tests);
      settings =
          all_settings class first n sent.0;
      at_hand = sent.1;
    }

-- settings alone are refused for no class of theirs
settings_worst : (class : ℕ → Class) (first n : ℕ)
    → ((i : ℕ) → i < n → class (first + i) ≡ Setting) → worst class first n ≡ Setting
settings_worst class first zero all = refl
settings_worst class first (suc n) all =
    rw (settings_worst class first n (λ i h. all i (omega arith)), all n (omega arith)) refl

pub run_goes : (keeps : Bool) (class : ℕ → Class) (first n : ℕ) (on : Bool) → 1 ≤ n → n ≤ 16
    → (keeps || on) ≡ true → ((i : ℕ) → i < n → class (first + i) ≡ Setting)
    → run_check keeps class first n on ≡ None
run_goes keeps class first n on some few at_hand all =
    let one : eqb n 0 ≡ false = grind (arith, nat_tests) in
    let two : ltb 16 n ≡ false = grind (arith, nat_tests) in
    rw (one, two, settings_worst class first n all) (search (rules, at_hand))

module _ {count : ℕ} {class : ℕ → Class} {reset : ℕ → ℕ} (chart : ChartRules count class reset)
  where
    -- a number that is not absent names one of 127 registers
    pub in_chart : (n : ℕ) → class n ≢ Absent → (1 ≤ n) × (n < 128)
    in_chart n there = grind (arith, chart.few, chart.rest_absent, chart.zero_absent)

    pub run_in_chart : (keeps : Bool) (first n : ℕ) (on : Bool)
        → run_check keeps class first n on ≡ None → (1 ≤ first) × (first < 128) × (first + n ≤ 128)
    run_in_chart keeps first n on e =
        let run = run_settled keeps class first n on e in
        let begin = in_chart (first + 0) (search (rules, run.settings, run.some)) in
        let end = in_chart (first + (n - 1)) (search (rules, run.settings, run.some)) in
        (omega arith, omega arith, omega (arith, run.some))

    -- a run that is not refused ends at 128 at the latest
    pub run_fits : (keeps : Bool) (first n : ℕ) (on : Bool)
        → run_check keeps class first n on ≡ None → first + n ≤ 128
    run_fits keeps first n on e = (run_in_chart keeps first n on e).2
