-- What the fold that reads digits needs. Assumes nothing.
use Rattle.std.proofs.Common.{◌≡◌, ℕ, ◌+◌, ◌*◌, ◌<◌, ◌≤◌, Bool, true, false, cond, ltb, List, []}
use Rattle.std.proofs.Common.{◌∷◌, None, Some, Option, length, sym, refl, ap, ◌∙◌}
use Rattle.std.proofs.Common.{le-mul_of_pos_right, arith}
use Rattle.std.proofs.lemmas.Bool.{cond-true, cond-false, cond_both, lt-ltb, le-ltb, cases_lt}
use mathlib.Core.Logic.{⊎_elim}
use Rattle.std.proofs.lemmas.Bool.Decides.{nat_tests}
use Rattle.std.specs.Char.{digit_value}
use Rattle.bench_sheet.proofs.Folding.{onward}
use Rattle.bench_sheet.specs.Numeral.{digit, following, short, in_base}

-- a number that is too large stays so
too_large : (base n : ℕ) (cs : List ℕ) → 1 ≤ base → 65536 ≤ n → short (following base n cs) ≡ None
too_large base n [] one big = cond-false _ _ _ (le-ltb n 65536 big)
too_large base n (c ∷ cs) one big =
    cond_both (ltb (digit c) base) (following base (n * base + digit c) cs) None
    (λ o. short o ≡ None)
    (λ _. too_large base (n * base + digit c) cs one
    (omega (arith, le-mul_of_pos_right {m = base} n (omega arith))))
    (λ _. refl)

-- a digit of a base up to 16 is worth what the library says
pub same_worth : (base c : ℕ) → base ≤ 16 → digit_value c < base → digit c ≡ digit_value c
same_worth base c few lt = grind (arith, nat_tests)

-- a number and one more digit
abbrev pub one_more : ℕ → ℕ → ℕ → Option ℕ
one_more base n c = cond (ltb (digit c) base) (short (Some (n * base + digit c))) None

module _ (base : ℕ) (one : 1 ≤ base) where
  grown : (n : ℕ) (cs : List ℕ)
      → (n < 65536 → onward (one_more base) (Some n) cs ≡ short (following base n cs))
      → onward (one_more base) (short (Some n)) cs ≡ short (following base n cs)
  grown n cs h = ⊎_elim
      (λ few. ap (λ o. onward (one_more base) o cs) (cond-true _ _ _ (lt-ltb n 65536 few)) ∙ h few)
      (λ big. ap (λ o. onward (one_more base) o cs) (cond-false _ _ _ (le-ltb n 65536 big))
      ∙ sym (too_large base n cs one big))
      (cases_lt n 65536)

  digit_step : (t : Bool) (n : ℕ) (cs : List ℕ)
      → onward (one_more base) (short (Some n)) cs ≡ short (following base n cs)
      → onward (one_more base) (cond t (short (Some n)) None) cs
      ≡ short (cond t (following base n cs) None)
  digit_step true n cs h = h
  digit_step false n cs h = refl

  follows : (ds : List ℕ) (n : ℕ) → n < 65536
      → onward (one_more base) (Some n) ds ≡ short (following base n ds)
  follows [] n few = sym (cond-true _ _ _ (lt-ltb n 65536 few))
  follows (c ∷ cs) n few =
      digit_step (ltb (digit c) base) (n * base + digit c) cs
      (grown (n * base + digit c) cs (follows cs (n * base + digit c)))

  pub folded : (ds : List ℕ) → 0 < length ds → onward (one_more base) (Some 0) ds ≡ in_base base ds
  folded [] some = absurd (omega arith)
  folded (c ∷ cs) some = follows (c ∷ cs) 0 (omega arith)
