-- The steps of the loops that read a list of words. Assumes nothing.
use Rattle.std.proofs.Common.{◌≡◌, ℕ, suc, ◌≤◌, List, [], ◌∷◌, ◌++◌, length, Ok, Err, IfOk, Result}
use Rattle.std.proofs.Common.{refl, ap, subst, arith}
use Rattle.bench_sheet.specs.declared.Mistake.{Mistake}
use Rattle.bench_sheet.specs.Said.{all_of, prepend}

-- what is left, after the values so far
abbrev pub onto : {X : Type 0} → List X → Result (List X) Mistake → Result (List X) Mistake
onto xs (Ok ys) = Ok (xs ++ ys)
onto xs (Err m) = Err m

pub onto_none : {X : Type 0} (r : Result (List X) Mistake) → r ≡ onto [] r
onto_none (Ok ys) = refl
onto_none (Err m) = refl

one_longer : {X : Type 0} (r : Result X Mistake) (s : Result (List X) Mistake) (n : ℕ)
    → IfOk s (λ xs. length xs ≡ n) → IfOk (prepend r s) (λ xs. length xs ≡ suc n)
one_longer (Err m) s n h = tt
one_longer (Ok x) (Err m) n h = tt
one_longer (Ok x) (Ok xs) n h = ap suc h

-- what was read has one value for each word
as_many : {X : Type 0} (f : List ℕ → Result X Mistake) (ws : List (List ℕ))
    → IfOk (all_of f ws) (λ xs. length xs ≡ length ws)
as_many f [] = refl
as_many f (w ∷ ws) = one_longer (f w) (all_of f ws) (length ws) (as_many f ws)

pub few_of : {X : Type 0} (f : List ℕ → Result X Mistake) (ws : List (List ℕ)) (xs : List X)
    → all_of f ws ≡ Ok xs → length ws ≤ 3 → length xs ≤ 3
few_of f ws xs e few = let many =
    subst (λ r. IfOk r (λ xs. length xs ≡ length ws)) e (as_many f ws) in omega (arith, many)
