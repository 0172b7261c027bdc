-- The words and marks of a keeper stay those of settings alone. Assumes nothing.
use Rattle.std.proofs.Common.{◌≡◌, ℕ, ◌+◌, ◌^◌, ◌<◌, ◌≤◌, ◌≢◌, Bool, true, false, not, eqb}
use Rattle.std.proofs.Common.{inr, List, length, get_or, set, replicate, sym, refl, ap, ◌∙◌}
use Rattle.std.proofs.Common.{⊎_elim, arith, rules}
use Rattle.std.proofs.lemmas.Bool.{cases_eq, cases_lt, eq-eqb, false≢true}
use Rattle.std.proofs.lemmas.Grind.{elements}
use Rattle.std.proofs.lemmas.List.{length-set, length-replicate, get_or-replicate, get_or_past}
use Rattle.std.proofs.lemmas.List.{get_or-set_other, set_past}
use Rattle.std.proofs.lemmas.List.FromFn.{length-map-range_with_len, get_or-map-range_with_len}
use Rattle.chart.specs.Rules.{ChartRules}
use Rattle.chart.specs.declared.class.Class.{Class}
use Rattle.chart.specs.declared.class.Class.TheVariants.{Absent, Setting, Live}
use Rattle.chip.specs.Words.{fresh_words}
use Rattle.port_keeper_marks.specs.Runs.{is_marked, clear, differing, AreRuns}
use Rattle.port_keeper_marks.specs.declared.runs.Run.{Run}
use Rattle.port_keeper_marks.proofs.Running.{same_runs}
use Rattle.port_keeper_marks.proofs.Marking.{marked_set_other, in_or_out, marked_cleared}
use Rattle.port_keeper_marks.proofs.Marking.{marked_cleared_other, length_cleared}
use Rattle.port_keeper_marks.proofs.Marking.{marked_differing, marked_differing_past}
use Rattle.port_keeper_marks.proofs.Marking.{length_differing}
use Rattle.port_keeper_laws.specs.Machine.{Own, own_of, new_own, without_run, Kept, registers}

-- no mark stands past the end
pub none_marked : (n i : ℕ) → is_marked (replicate n false) i ≡ false
none_marked n i = ⊎_elim
    (λ h. get_or-replicate n i false false h)
    (λ h. get_or_past (replicate n false) i false (omega (arith, length-replicate n false)))
    (cases_lt i n)

-- clearing a run marks nothing
pub cleared_none : (r : Run) (bs : List Bool) (i : ℕ) → is_marked bs i ≡ false
    → is_marked (clear r bs) i ≡ false
cleared_none r bs i e = ⊎_elim
    (marked_cleared r bs i)
    (λ out. marked_cleared_other r bs i out ∙ e)
    (in_or_out r i)

-- the runs behind one that is cleared stay what they are
pub runs_behind : (r : Run) (rs : List Run) (bs : List Bool)
    → AreRuns (is_marked bs) (r.first + r.count) rs
    → AreRuns (is_marked (clear r bs)) (r.first + r.count) rs
runs_behind r rs bs =
    same_runs (is_marked bs) (is_marked (clear r bs)) (r.first + r.count) rs
    (λ i from. sym (marked_cleared_other r bs i (inr from)))

module _ {count : ℕ} {class : ℕ → Class} {reset : ℕ → ℕ}
    (chart : ChartRules count class reset) where
  pub setting_low : (n : ℕ) → class n ≡ Setting → n < registers
  setting_low n s = grind (arith, chart.few, chart.rest_absent)

  past_reset : (n : ℕ) → registers ≤ n → reset n ≡ 0
  past_reset n h = chart.absent_reset n (chart.rest_absent n (omega (arith, chart.few)))

  length-fresh : length (fresh_words reset registers) ≡ registers
  length-fresh = length-map-range_with_len reset 0 registers

  pub fresh_at : (n : ℕ) → get_or (fresh_words reset registers) n 0 ≡ reset n
  fresh_at n = ⊎_elim
      (λ h. get_or-map-range_with_len reset 0 registers n n 0 h (omega arith))
      (λ h. get_or_past (fresh_words reset registers) n 0 (omega (arith, length-fresh))
      ∙ sym (past_reset n h))
      (cases_lt n registers)

  pub kept_new : Kept class reset (new_own reset)
  kept_new = record {
    size = length-fresh;
    marks = length-replicate registers false;
    fit = λ n. rw (fresh_at n) (chart.reset_fits n);
    others = λ n _. fresh_at n;
    settings = λ n e. search (rules, none_marked);
  }

  module _ (s : Own) (k : Kept class reset s) where
    -- a setting is given a word
    pub kept_set : (n w : ℕ) (o : Bool) → class n ≡ Setting → w < 2 ^ 16
        → Kept class reset (own_of (set s.held n w) (set s.owed n o))
    kept_set n w o c h = record {
      size = length-set s.held n w ∙ k.size;
      marks = length-set s.owed n o ∙ k.marks;
      fit = λ i. grind (arith, elements, set_past, k.fit n, k.fit i);
      others = λ i other.
          get_or-set_other s.held n i w 0 (λ e. other (ap class e ∙ c)) ∙ k.others i other;
      settings = λ i e. ⊎_elim
          (λ here. ap class here ∙ c)
          (λ away. k.settings i (sym (marked_set_other s.owed n i o away) ∙ e))
          (cases_eq i n);
    }

    pub kept_cleared : (r : Run) → Kept class reset (without_run r s)
    kept_cleared r = record {
      size = k.size;
      marks = length_cleared r s.owed ∙ k.marks;
      fit = k.fit;
      others = k.others;
      settings = λ i e. ⊎_elim
          (λ inside. absurd (false≢true (sym (marked_cleared r s.owed i inside) ∙ e)))
          (λ out. k.settings i (sym (marked_cleared_other r s.owed i out) ∙ e))
          (in_or_out r i);
    }

    -- a word that differs from its reset word is a setting's
    differs : (i : ℕ) → i < registers → is_marked (differing reset s.held) i ≡ true
        → class i ≢ Setting → ⊥
    differs i low e other =
        let same : eqb (get_or s.held i 0) (reset i) ≡ true = eq-eqb _ _ (k.others i other) in
        let here = marked_differing reset s.held i (omega (arith, k.size)) in
        false≢true (ap not (sym same) ∙ sym here ∙ e)

    of_setting : (i : ℕ) (c : Class) → class i ≡ c → i < registers
        → is_marked (differing reset s.held) i ≡ true → class i ≡ Setting
    of_setting i Setting is low e = is
    of_setting i Absent is low e = absurd (differs i low e (search (rules, is)))
    of_setting i Live is low e = absurd (differs i low e (search (rules, is)))

    pub kept_differing : Kept class reset (own_of s.held (differing reset s.held))
    kept_differing = record {
      size = k.size;
      marks = length_differing reset s.held ∙ k.size;
      fit = k.fit;
      others = k.others;
      settings = λ i e. ⊎_elim
          (λ low. of_setting i (class i) refl low e)
          (λ past. let none = marked_differing_past reset s.held i (omega (arith, k.size)) in
          absurd (false≢true (sym none ∙ e)))
          (cases_lt i registers);
    }
