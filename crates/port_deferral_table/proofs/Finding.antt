-- What is found among entries whose registers ascend. Assumes nothing.
use Rattle.std.proofs.Common.{◌≡◌, ◌≢◌, ℕ, ◌+◌, ◌^◌, ◌<◌, ◌≤◌, true, eqb, List, [], ◌∷◌, ◌++◌, Some}
use Rattle.std.proofs.Common.{None, Option, refl, sym, ◌∙◌, ⊎_elim, arith, rules}
use Rattle.std.specs.List.{Any, list_any}
use Rattle.std.specs.Option.{is_some}
use Rattle.std.proofs.lemmas.Bool.{cond-true, cond-false, eqb-true, eq-eqb, ne_eqb, cases_eq}
use Rattle.std.proofs.lemmas.List.Folds.{Any-from_list_any, list_any-from_Any}
use Rattle.patch.specs.declared.patch.Patch.{Patch}
use Rattle.patch.proofs.Masked.{acted_fits}
use Rattle.port_deferral_table.specs.Entries.{IsEntry, Ascend, waiting_patch, word_under, HasEntry}
use Rattle.port_deferral_table.specs.declared.entry.Entry.{Entry}

-- a patch of 16-bit words
abbrev pub FitsWord : Patch → Type 0
FitsWord p = (p.mask < 2 ^ 16) × (p.bits < 2 ^ 16)

-- at its own register an entry is found, and at another what follows it
pub found_at : (i : ℕ) (e : Entry) (es : List Entry) → e.register ≡ i
    → waiting_patch i (e ∷ es) ≡ Some e.patch
found_at i e es is = cond-true (eqb e.register i) _ _ (eq-eqb e.register i is)

pub found_behind : (i : ℕ) (e : Entry) (es : List Entry) → e.register ≢ i
    → waiting_patch i (e ∷ es) ≡ waiting_patch i es
found_behind i e es ne = cond-false (eqb e.register i) _ _ (ne_eqb e.register i ne)

-- where something waits for a register, it is found
found_any : (i : ℕ) (es : List Entry)
    → is_some (waiting_patch i es) ≡ list_any (λ e. eqb e.register i) es
found_any i [] = refl
found_any i (e ∷ es) = ⊎_elim
    (λ at. rw (eq-eqb e.register i at) refl)
    (λ ne. rw (ne_eqb e.register i ne) (found_any i es))
    (cases_eq e.register i)

pub has_found : (i : ℕ) (es : List Entry) → is_some (waiting_patch i es) ≡ true → HasEntry i es
has_found i es has =
    let there = Any-from_list_any (λ e. eqb e.register i) es (sym (found_any i es) ∙ has) in
    (there.0, there.1, there.2, there.3, eqb-true there.1.register i there.4)

pub found_has : (i : ℕ) (es : List Entry) → HasEntry i es → is_some (waiting_patch i es) ≡ true
found_has i es has =
    let there : Any (λ e. eqb e.register i ≡ true) es =
    (has.0, has.1, has.2, has.3, eq-eqb has.1.register i has.4) in
    found_any i es ∙ list_any-from_Any (λ e. eqb e.register i) es there

-- what is found among the first entries is found among all
pub found_front : (i : ℕ) (b rest : List Entry) (p : Patch) → waiting_patch i b ≡ Some p
    → waiting_patch i (b ++ rest) ≡ Some p
found_front i [] rest p is = absurd (search (rules, is))
found_front i (e ∷ b) rest p is = ⊎_elim
    (λ at. found_at i e (b ++ rest) at ∙ sym (found_at i e b at) ∙ is)
    (λ ne.
    found_behind i e (b ++ rest) ne ∙ found_front i b rest p (sym (found_behind i e b ne) ∙ is))
    (cases_eq e.register i)

module _ (E : Entry → Type 0) where
  -- nothing waits below the first register
  pub none_below : (n i : ℕ) (es : List Entry) → Ascend E n es → i < n → waiting_patch i es ≡ None
  none_below n i [] up lt = refl
  none_below n i (e ∷ es) up lt =
      found_behind i e es (λ same. omega (arith, up.0))
      ∙ none_below (e.register + 1) i es up.2 (omega (arith, up.0))

  pub none_before : (n i : ℕ) (e : Entry) (es : List Entry) → Ascend E n (e ∷ es)
      → i < e.register → waiting_patch i (e ∷ es) ≡ None
  none_before n i e es up lt =
      found_behind i e es (λ same. omega arith)
      ∙ none_below (e.register + 1) i es up.2 (omega arith)

  -- entries that begin further on
  pub ascend_less : (m n : ℕ) (es : List Entry) → m ≤ n → Ascend E n es → Ascend E m es
  ascend_less m n [] le up = tt
  ascend_less m n (e ∷ es) le up = (omega (arith, up.0), up.1, up.2)

  pub ascend_front : (n : ℕ) (b rest : List Entry) → Ascend E n (b ++ rest) → Ascend E n b
  ascend_front n [] rest up = tt
  ascend_front n (e ∷ b) rest up = (up.0, up.1, ascend_front (e.register + 1) b rest up.2)

  pub ascend_rest : (n : ℕ) (b rest : List Entry) → Ascend E n (b ++ rest) → Ascend E n rest
  ascend_rest n [] rest up = up
  ascend_rest n (e ∷ b) rest up =
      let next = e.register + 1 in
      ascend_less n next rest (omega (arith, up.0)) (ascend_rest next b rest up.2)

  -- what is found among the rest is found among all, since no register comes again
  pub found_rest : (n i : ℕ) (b rest : List Entry) (p : Patch) → Ascend E n (b ++ rest)
      → waiting_patch i rest ≡ Some p → waiting_patch i (b ++ rest) ≡ Some p
  found_rest n i [] rest p up is = is
  found_rest n i (e ∷ b) rest p up is = ⊎_elim
      (λ at.
      let next = e.register + 1 in
      let none = none_below next i rest (ascend_rest next b rest up.2) (omega (arith, at)) in
      absurd (search (rules, none, is)))
      (λ ne. found_behind i e (b ++ rest) ne ∙ found_rest (e.register + 1) i b rest p up.2 is)
      (cases_eq e.register i)

-- what waits for a register are two words of 16 bits
found_fits : (n i : ℕ) (es : List Entry) (p : Patch) → Ascend IsEntry n es
    → waiting_patch i es ≡ Some p
    → FitsWord p
found_fits n i [] p up is = absurd (search (rules, is))
found_fits n i (e ∷ es) p up is = ⊎_elim
    (λ at.
    let same : Some e.patch ≡ Some p = sym (found_at i e es at) ∙ is in
    search (rules, up.1.fits, same))
    (λ ne. found_fits (e.register + 1) i es p up.2 (sym (found_behind i e es ne) ∙ is))
    (cases_eq e.register i)

patched_fits : (o : Option Patch) (w : ℕ) → ((p : Patch) → o ≡ Some p → FitsWord p)
    → w < 2 ^ 16 → word_under o w < 2 ^ 16
patched_fits None w fits lt = lt
patched_fits (Some p) w fits lt = acted_fits p w (fits p refl).0

-- so a word of 16 bits stays one under what waits for it
pub under_fits : (n i w : ℕ) (es : List Entry) → Ascend IsEntry n es → w < 2 ^ 16
    → word_under (waiting_patch i es) w < 2 ^ 16
under_fits n i w es up lt = patched_fits (waiting_patch i es) w (λ p. found_fits n i es p up) lt
