-- What a burst to registers of one page makes of a chip's words. Assumes nothing.
use Rattle.std.proofs.Common.{◌≡◌, ℕ, zero, suc, ◌+◌, ◌*◌, ◌%◌, ◌<◌, ◌≤◌, ◌⊎◌, List, [], ◌∷◌}
use Rattle.std.proofs.Common.{◌++◌, length, get_or, take, set, Some, sym, refl, ap, ◌∙◌, inl, inr}
use Rattle.std.proofs.Common.{⊎_elim, add-zero, arith}
use Rattle.std.proofs.lemmas.List.{length-set, get_or-set_other}
use Rattle.std.proofs.lemmas.Bool.Decides.{nat_tests}
use Rattle.std.proofs.lemmas.Bool.{cases_eq, cond-false, ne_eqb}
use Rattle.chip.specs.Words.{selector, place_of, load, store, rising_words, store_all}
use Rattle.port.specs.Views.{with_word_at, with_run}
use Rattle.port.proofs.Replacing.{set_replaces, ran_same, ran_outside}
use Rattle.port_paging_laws.specs.Places.{page_of, raw_of}

-- Under selector s, raw addresses from raw on are the n registers from first on: fixed ones, or
-- some of the selected page.
abbrev pub Aimed : ℕ → ℕ → ℕ → ℕ → Type 0
Aimed s raw first n =
    (1 ≤ raw)
    × (((raw ≡ first) × (raw + n ≤ 32))
    ⊎ ((32 ≤ raw) × (raw + n ≤ 64) × (s < 3) × (first ≡ raw + 32 * s)))

pub aimed_less : (s raw first n k : ℕ) → k ≤ n → Aimed s raw first n → Aimed s raw first k
aimed_less s raw first n k h at = grind arith

aimed_next : (s raw first n : ℕ) → Aimed s raw first (suc n) → Aimed s (raw + 1) (first + 1) n
aimed_next s raw first n at = grind arith

aimed_at : (s raw first n : ℕ) → 0 < n → Aimed s raw first n → place_of s raw ≡ Some first
aimed_at s raw first n h at = grind (arith, nat_tests)

-- a register that its page, or none, is selected for
pub aimed : (s n k : ℕ) → (n < 32) ⊎ (s ≡ page_of n) → 1 ≤ n → n % 32 + k ≤ 32 → n + k ≤ 128
    → 0 < k → Aimed s (raw_of n) n k
aimed s n k facing some block last h = grind (arith, nat_tests)

pub loaded_at : (ws : List ℕ) (raw n k : ℕ) → 0 < k → Aimed (selector ws) raw n k
    → load ws raw ≡ get_or ws n 0
loaded_at ws raw n k h at = rw (aimed_at (selector ws) raw n k h at)

stored_set : (ws : List ℕ) (raw n k w : ℕ) → 0 < k → Aimed (selector ws) raw n k
    → store ws raw w ≡ set ws n w
stored_set ws raw n k w h at =
    rw (aimed_at (selector ws) raw n k h at, ne_eqb raw 0 (λ z. omega (arith, at.0)))

pub ran-append : (first : ℕ) (xs ys : List ℕ) (f : ℕ → ℕ) (i : ℕ)
    → with_run (first + length xs) ys (with_run first xs f) i ≡ with_run first (xs ++ ys) f i
ran-append first [] ys f i = ap (λ k. with_run k ys f i) (add-zero first)
ran-append first (x ∷ xs) ys f i =
    let moved : first + length (x ∷ xs) ≡ first + 1 + length xs = omega arith in
    rw moved (ran-append (first + 1) xs ys (with_word_at first x f) i)

-- part of a run leaves each word old or as the whole run would
pub ran_part : (first : ℕ) (vs : List ℕ) (k : ℕ) (f : ℕ → ℕ) (i : ℕ)
    → (with_run first (take k vs) f i ≡ f i)
    ⊎ (with_run first (take k vs) f i ≡ with_run first vs f i)
ran_part first vs zero f i = inl refl
ran_part first [] (suc k) f i = inl refl
ran_part first (v ∷ vs) (suc k) f i =
    let outside = ran_outside (first + 1) vs (with_word_at first v f) i in
    ⊎_elim
    (λ old. ⊎_elim
    (λ here. inr (old ∙ sym (outside (inl (omega arith)))))
    (λ away. inl (old ∙ cond-false _ v (f i) (ne_eqb i first away)))
    (cases_eq i first))
    (λ e. inr e)
    (ran_part (first + 1) vs k (with_word_at first v f) i)

-- a burst that is aimed at registers replaces their words, and no other
pub burst_words : (ws : List ℕ) (raw first : ℕ) (vs : List ℕ) (i : ℕ) → length ws ≡ 129
    → first + length vs ≤ 128 → Aimed (selector ws) raw first (length vs)
    → get_or (store_all ws (rising_words raw vs)) i 0 ≡ with_run first vs (λ k. get_or ws k 0) i
burst_words ws raw first [] i size fits at = refl
burst_words ws raw first (v ∷ vs) i size fits at =
    let with = set ws first v in
    let more = length vs in
    let same : selector with ≡ selector ws =
    get_or-set_other ws first 128 v 0 (λ e. omega arith) in
    let next : Aimed (selector with) (raw + 1) (first + 1) more =
    rw same (aimed_next (selector ws) raw first more at) in
    ap (λ xs. get_or (store_all xs (rising_words (raw + 1) vs)) i 0)
    (stored_set ws raw first (length (v ∷ vs)) v (omega arith) at)
    ∙ burst_words with (raw + 1) (first + 1) vs i (length-set ws first v ∙ size) (omega arith) next
    ∙ ran_same (first + 1) vs (λ k. get_or with k 0) (with_word_at first v (λ k. get_or ws k 0)) i
    (set_replaces ws first v i (omega arith))
