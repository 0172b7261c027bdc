-- How a text is cut at the first byte of a kind. Assumes nothing.
use Rattle.std.proofs.Common.{◌≡◌, ℕ, ◌+◌, ◌-◌, ◌<◌, ◌≤◌, Bool, true, false, cond, eqb, not, List}
use Rattle.std.proofs.Common.{[], ◌∷◌, Some, None, length, get_or, take, drop, refl, ap, sym, ◌∙◌}
use Rattle.std.proofs.Common.{add-zero, arith}
use Rattle.std.specs.List.{position, position_or_len}
use Rattle.std.specs.Option.{unwrap_or}
use Rattle.std.proofs.lemmas.Bool.{cond-true, cond-false, cond_both, not-true}
use Rattle.std.proofs.lemmas.Bool.Decides.{nat_tests}
use Rattle.std.proofs.lemmas.Option.{cond_some}
use borrow.Author.Tests.{ltb-true}
use Rattle.std.proofs.lemmas.Grind.{common_steps}
use Rattle.std.proofs.lemmas.List.{drop_all, take_rest, length-drop, get_or-drop}
use Rattle.std.proofs.lemmas.List.Sums.{passes_at_first, prefix_len-le-length}
use Rattle.bench_sheet.specs.Cut.{part_before, part_after, blank, solid, words_after, line_words}
use Rattle.bench_sheet.specs.Cut.{lines_of}
use Rattle.bench_sheet.specs.Cut.{lines_after}

-- the first blank, and the first byte that is none
abbrev pub gap : List ℕ → ℕ
gap s = position_or_len (λ c. not (blank c)) s

abbrev pub reach : List ℕ → ℕ
reach s = position_or_len blank s

module _ (c : ℕ) (cs : List ℕ) where
  past : (n : ℕ) → drop (1 + n) (c ∷ cs) ≡ drop n cs
  past n = grind (arith, common_steps)

  upto : (n : ℕ) → take (1 + n) (c ∷ cs) ≡ c ∷ take n cs
  upto n = grind (arith, common_steps)

  blanks_step : (t : Bool) → blank c ≡ t → line_words cs ≡ line_words (drop (gap cs) cs)
      → line_words (c ∷ cs) ≡ line_words (drop (gap (c ∷ cs)) (c ∷ cs))
  blanks_step true e h =
      let g : gap (c ∷ cs) ≡ 1 + gap cs = cond-true _ _ _ (ap (λ b. not (not b)) e) in
      cond-true _ _ _ e ∙ h ∙ ap line_words (sym (past (gap cs)))
      ∙ ap (λ k. line_words (drop k (c ∷ cs))) (sym g)
  blanks_step false e h =
      let g : gap (c ∷ cs) ≡ 0 = cond-false _ _ _ (ap (λ b. not (not b)) e) in
      ap (λ k. line_words (drop k (c ∷ cs))) (sym g)

  ends_step : (t : Bool) → blank c ≡ t → words_after false cs ≡ line_words (drop (reach cs) cs)
      → words_after false (c ∷ cs) ≡ line_words (drop (reach (c ∷ cs)) (c ∷ cs))
  ends_step true e h =
      let g : reach (c ∷ cs) ≡ 0 = cond-false _ _ _ (ap not e) in
      cond-true _ _ _ e ∙ sym (cond-true _ _ _ e) ∙ ap (λ k. line_words (drop k (c ∷ cs))) (sym g)
  ends_step false e h =
      let g : reach (c ∷ cs) ≡ 1 + reach cs = cond-true _ _ _ (ap not e) in
      cond-false _ _ _ e ∙ h ∙ ap line_words (sym (past (reach cs)))
      ∙ ap (λ k. line_words (drop k (c ∷ cs))) (sym g)

-- the blanks before a word say nothing
blanks : (s : List ℕ) → line_words s ≡ line_words (drop (gap s) s)
blanks [] = refl
blanks (c ∷ cs) = blanks_step c cs (blank c) refl (blanks cs)

-- a word ends at a blank
ends : (s : List ℕ) → words_after false s ≡ line_words (drop (reach s) s)
ends [] = refl
ends (c ∷ cs) = ends_step c cs (blank c) refl (ends cs)

begins : (s : List ℕ) → 0 < length s → blank (get_or s 0 0) ≡ false
    → line_words s ≡ take (reach s) s ∷ line_words (drop (reach s) s)
begins [] some e = absurd (omega arith)
begins (c ∷ cs) some e =
    let g : reach (c ∷ cs) ≡ 1 + reach cs = cond-true _ _ _ (ap not e) in
    cond-false _ _ _ e
    ∙ ap (λ l. (c ∷ solid cs) ∷ l) (ends cs ∙ ap line_words (sym (past c cs (reach cs))))
    ∙ ap (λ l. l ∷ line_words (drop (1 + reach cs) (c ∷ cs))) (sym (upto c cs (reach cs)))
    ∙ ap (λ k. take k (c ∷ cs) ∷ line_words (drop k (c ∷ cs))) (sym g)

first_word : (s rest : List ℕ) → gap s < length s → rest ≡ drop (gap s) s
    → line_words s ≡ take (reach rest) rest ∷ line_words (drop (reach rest) rest)
first_word s rest some is =
    let long : length rest ≡ length s - gap s = ap length is ∙ length-drop (gap s) s in
    let here : get_or rest 0 0 ≡ get_or s (gap s) 0 =
    ap (λ l. get_or l 0 0) is ∙ get_or-drop (gap s) s 0 0
    ∙ ap (λ k. get_or s k 0) (add-zero (gap s)) in
    let solid : blank (get_or rest 0 0) ≡ false =
    ap blank here ∙ not-true _ (passes_at_first (λ c. not (blank c)) s 0 some) in
    blanks s ∙ ap line_words (sym is) ∙ begins rest (omega arith) solid

-- where `position` finds something, and its answer with the length for none
found : (p : ℕ → Bool) (s : List ℕ) (i : ℕ) → position p s ≡ Some i → (position_or_len p s ≡ i)
    × (position_or_len p s < length s)
found p s i at = let h = cond_some _ _ _ at in (h.1, ltb-true _ _ h.0)

found_or_len : (p : ℕ → Bool) (s : List ℕ)
    → unwrap_or (position p s) (length s) ≡ position_or_len p s
found_or_len p s =
    grind (arith, common_steps, nat_tests, prefix_len-le-length {X = ℕ} (λ c. not (p c)) s)

nowhere : (p : ℕ → Bool) (s : List ℕ) → position p s ≡ None → length s ≤ position_or_len p s
nowhere p s at = grind (arith, common_steps, nat_tests)

pub no_word : (s : List ℕ) → position (λ c. not (blank c)) s ≡ None → line_words s ≡ []
no_word s at = blanks s ∙ ap line_words (drop_all (gap s) s (nowhere (λ c. not (blank c)) s at))

pub next_word : (s rest w left : List ℕ) (i e : ℕ) → position (λ c. not (blank c)) s ≡ Some i
    → rest ≡ take (length s - i) (drop i s) → e ≡ unwrap_or (position blank rest) (length rest)
    → w ≡ take e rest → left ≡ drop e rest → line_words s ≡ w ∷ line_words left
next_word s rest w left i e at is end front back =
    let h = found (λ c. not (blank c)) s i at in
    let from : rest ≡ drop (gap s) s = is ∙ take_rest s i ∙ ap (λ k. drop k s) (sym h.0) in
    let stop : e ≡ reach rest = end ∙ found_or_len blank rest in
    first_word s rest h.1 from ∙ ap (λ k. take k rest ∷ line_words (drop k rest)) (sym stop)
    ∙ (λ j. sym front j ∷ line_words (sym back j))

-- no more words than bytes
pub few_after : (b : Bool) (s : List ℕ) → length (words_after b s) ≤ length s
few_after b [] = omega arith
few_after true (c ∷ cs) =
    cond_both (blank c) (words_after true cs) ((c ∷ solid cs) ∷ words_after false cs)
    (λ l. length l ≤ length (c ∷ cs)) (λ _. omega (arith, few_after true cs))
    (λ _. omega (arith, few_after false cs))
few_after false (c ∷ cs) =
    cond_both (blank c) (words_after true cs) (words_after false cs)
    (λ l. length l ≤ length (c ∷ cs)) (λ _. omega (arith, few_after true cs))
    (λ _. omega (arith, few_after false cs))

pub few_lines : (b : Bool) (s : List ℕ) → length (lines_after b s) ≤ length s
few_lines b [] = omega arith
few_lines true (c ∷ cs) = omega (arith, few_lines (eqb c 10) cs)
few_lines false (c ∷ cs) = omega (arith, few_lines (eqb c 10) cs)

after_step : (t : Bool) (c n : ℕ) (cs : List ℕ)
    → drop (cond (not t) (1 + n) 0 + 1) (c ∷ cs) ≡ cond t cs (drop (n + 1) cs)
after_step true c n cs = grind (arith, common_steps)
after_step false c n cs = grind (arith, common_steps)

same_way : (t : Bool) (cs ds : List ℕ) → lines_after false cs ≡ lines_of ds
    → lines_after t cs ≡ lines_of (cond t cs ds)
same_way true cs ds h = refl
same_way false cs ds h = h

rest_of_line : (cs : List ℕ) → lines_after false cs ≡ lines_of (part_after 10 cs)
rest_of_line [] = refl
rest_of_line (c ∷ cs) =
    same_way (eqb c 10) cs (part_after 10 cs) (rest_of_line cs)
    ∙ ap lines_of (sym (after_step (eqb c 10) c (position_or_len (λ d. eqb d 10) cs) cs))

pub first_line : (s : List ℕ) → (length s ≡ 0 → ⊥)
    → lines_of s ≡ part_before 10 s ∷ lines_of (part_after 10 s)
first_line [] some = absurd (some refl)
first_line (c ∷ cs) some = ap (λ l. part_before 10 (c ∷ cs) ∷ l) (rest_of_line (c ∷ cs))
