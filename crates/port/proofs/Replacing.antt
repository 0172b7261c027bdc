-- Words with one of them replaced, or some in a row. Assumes nothing.
use Rattle.std.proofs.Common.{◌≡◌, ℕ, zero, suc, ◌+◌, ◌<◌, ◌≤◌, cond, eqb, ◌⊎◌, inl, List, [], ◌∷◌}
use Rattle.std.proofs.Common.{length, get_or, set, refl, ap, ◌∙◌, add-zero, arith, rules}
use Rattle.std.proofs.lemmas.List.{get_or-set_same, get_or-set_other}
use Rattle.std.proofs.lemmas.Bool.Decides.{nat_tests}
use Rattle.port.specs.Views.{with_word_at, with_run}

pub replaced_same : (n w : ℕ) (f : ℕ → ℕ) (i : ℕ) → w ≡ f n → with_word_at n w f i ≡ f i
replaced_same n w f i e = grind (arith, nat_tests)

pub replaced_other : (n w : ℕ) (f : ℕ → ℕ) (i : ℕ) → (i ≡ n → ⊥) → with_word_at n w f i ≡ f i
replaced_other n w f i away = search rules

pub set_replaces : (ws : List ℕ) (n w i : ℕ) → n < length ws
    → get_or (set ws n w) i 0 ≡ with_word_at n w (λ k. get_or ws k 0) i
set_replaces ws n w i h = grind (arith, nat_tests, get_or-set_same, get_or-set_other)

-- a word after a run is known by that word before it
pub ran_same : (first : ℕ) (vs : List ℕ) (f g : ℕ → ℕ) (i : ℕ) → f i ≡ g i
    → with_run first vs f i ≡ with_run first vs g i
ran_same first [] f g i e = e
ran_same first (v ∷ vs) f g i e =
    ran_same (first + 1) vs (with_word_at first v f) (with_word_at first v g) i
    (ap (λ x. cond (eqb i first) v x) e)

-- what lies before or after a run stands
pub ran_outside : (first : ℕ) (vs : List ℕ) (f : ℕ → ℕ) (i : ℕ) → (i < first)
    ⊎ (first + length vs ≤ i) → with_run first vs f i ≡ f i
ran_outside first [] f i out = refl
ran_outside first (v ∷ vs) f i out =
    ran_outside (first + 1) vs (with_word_at first v f) i (grind arith) ∙ grind (arith, nat_tests)

-- the first register of a run is left as given
pub first_given : (first w : ℕ) (ws : List ℕ) (f : ℕ → ℕ) → with_run first (w ∷ ws) f first ≡ w
first_given first w ws f =
    ran_outside (first + 1) ws (with_word_at first w f) first (inl (omega arith))
    ∙ grind (arith, nat_tests)

-- within a run each word is as given
pub ran_inside : (first : ℕ) (vs : List ℕ) (f : ℕ → ℕ) (i : ℕ) → i < length vs
    → with_run first vs f (first + i) ≡ get_or vs i 0
ran_inside first [] f i h = absurd (omega (arith, h))
ran_inside first (v ∷ vs) f zero h =
    ap (with_run first (v ∷ vs) f) (add-zero first) ∙ first_given first v vs f
ran_inside first (v ∷ vs) f (suc i) h =
    let at : first + suc i ≡ first + 1 + i = omega arith in
    ap (with_run first (v ∷ vs) f) at
    ∙ ran_inside (first + 1) vs (with_word_at first v f) i (omega arith)
