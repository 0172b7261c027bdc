-- Whatever is stored, a chip's words stay 129 words of 16 bits, and its selector at most 3. Assumes
-- nothing.
use Rattle.std.proofs.Common.{◌≡◌, ℕ, zero, suc, ◌+◌, ◌*◌, ◌%◌, ◌^◌, ◌<◌, ◌≤◌, true, false, ◌&&◌}
use Rattle.std.proofs.Common.{eqb, ltb, List, [], ◌∷◌, get_or, take, drop, set, ◌∙◌, ⊎_elim, arith}
use Rattle.std.proofs.Common.{lit<}
use Rattle.std.proofs.lemmas.List.{length-set, set_past, get_or_past, get_or-drop}
use Rattle.std.proofs.lemmas.List.FromFn.{length-map-range_with_len, get_or-map-range_with_len}
use Rattle.std.proofs.lemmas.Bool.{cases_Bool, cases_lt, ltb-true, and_parts}
use Rattle.std.proofs.lemmas.Grind.{common_steps, elements}
use Rattle.chart.specs.declared.class.Class.{Class}
use Rattle.chart.specs.Rules.{ChartRules}
use Rattle.chip.specs.Words.{selector, store, rising_words, store_all, fresh_words, Fit, WordsSound}

-- parts of a list of words that fit
pub take_fits : (k : ℕ) (ws : List ℕ) → Fit ws → Fit (take k ws)
take_fits k ws fit i = grind (arith, common_steps, fit i)

pub drop_fits : (k : ℕ) (ws : List ℕ) → Fit ws → Fit (drop k ws)
drop_fits k ws fit i = rw (get_or-drop k ws i 0) (fit (k + i))

pub one_fits : (w : ℕ) → w < 2 ^ 16 → Fit (w ∷ [])
one_fits w h zero = h
one_fits w h (suc k) = lit< tt

-- a word that fits goes into one place, and into the selector only where it is a page or 3
pub set_sound : (ws : List ℕ) (n w : ℕ) → WordsSound ws → w < 2 ^ 16 → (n ≡ 128 → w ≤ 3)
    → WordsSound (set ws n w)
set_sound ws n w s h page = record {
  size = length-set ws n w ∙ s.size;
  pages = grind (arith, elements);
  fit = λ k. grind (arith, elements, set_past, s.fit n, s.fit k);
}

pub stored_sound : (ws : List ℕ) (raw w : ℕ) → WordsSound ws → w < 2 ^ 16
    → WordsSound (store ws raw w)
stored_sound ws raw w s h =
    ⊎_elim to_selector
    (λ e. ⊎_elim (fixed e)
    (λ f. ⊎_elim (paged e f) (nowhere e f) (cases_Bool (ltb raw 64 && ltb (selector ws) 3)))
    (cases_Bool (ltb raw 32))) (cases_Bool (eqb raw 0))
  where
    to_selector : eqb raw 0 ≡ true → WordsSound (store ws raw w)
    to_selector e = rw e (set_sound ws 128 (w % 4) s (omega arith) (λ _. omega arith))

    fixed : eqb raw 0 ≡ false → ltb raw 32 ≡ true → WordsSound (store ws raw w)
    fixed e f = rw (e, f) (set_sound ws raw w s h (λ at. omega (arith, ltb-true raw 32 f)))

    paged : eqb raw 0 ≡ false → ltb raw 32 ≡ false → (ltb raw 64 && ltb (selector ws) 3) ≡ true
        → WordsSound (store ws raw w)
    paged e f g =
        let parts = and_parts (ltb raw 64) (ltb (selector ws) 3) g in
        rw (e, f, g)
        (set_sound ws (raw + 32 * selector ws) w s h
        (λ at. omega (arith, ltb-true raw 64 parts.0, ltb-true (selector ws) 3 parts.1)))

    nowhere : eqb raw 0 ≡ false → ltb raw 32 ≡ false → (ltb raw 64 && ltb (selector ws) 3) ≡ false
        → WordsSound (store ws raw w)
    nowhere e f g = rw (e, f, g) s

pub burst_sound : (ws : List ℕ) (raw : ℕ) (vs : List ℕ) → WordsSound ws → Fit vs
    → WordsSound (store_all ws (rising_words raw vs))
burst_sound ws raw [] s fit = s
burst_sound ws raw (v ∷ vs) s fit =
    burst_sound (store ws raw v) (raw + 1) vs (stored_sound ws raw v s (fit 0))
    (λ k. fit (suc k))

module _ {count : ℕ} {class : ℕ → Class} {reset : ℕ → ℕ} (rules : ChartRules count class reset)
  where
    pub fresh_at : (k : ℕ) → k < 129 → get_or (fresh_words reset 129) k 0 ≡ reset k
    fresh_at k h = get_or-map-range_with_len reset 0 129 k k 0 h (omega arith)

    no_selector : reset 128 ≡ 0
    no_selector = rules.absent_reset 128 (rules.rest_absent 128 rules.few)

    pub fresh_page : selector (fresh_words reset 129) ≡ 0
    fresh_page = fresh_at 128 (lit< tt) ∙ no_selector

    pub fresh_sound : WordsSound (fresh_words reset 129)
    fresh_sound = record {
      size = length-map-range_with_len reset 0 129;
      pages = rw fresh_page (omega arith);
      fit = λ k. ⊎_elim
          (λ within. rw (fresh_at k within) (rules.reset_fits k))
          (λ past. rw
          (get_or_past (fresh_words reset 129) k 0
          (omega (arith, length-map-range_with_len reset 0 129))) (lit< tt))
          (cases_lt k 129);
    }
