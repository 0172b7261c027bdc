-- What waits in the first entries of a table, and what in the rest of it. Assumes nothing.
use Rattle.std.proofs.Common.{◌≡◌, ℕ, eqb, zero, suc, ◌+◌, ◌<◌, true, List, [], ◌∷◌, ◌++◌, length}
use Rattle.std.proofs.Common.{Some, None, sym, refl, ap, ◌∙◌, ⊎_elim, add-zero, arith, lit<}
use Rattle.std.proofs.lemmas.Bool.{cond-true, eq-eqb, cases_eq}
use Rattle.patch.specs.Patch.{word_after, is_complete}
use Rattle.patch.specs.declared.patch.Patch.{Patch}
use Rattle.patch.proofs.Masked.{acted_fits, completes}
use Rattle.chip.specs.Words.{Fit}
use Rattle.refusal.specs.Replies.{Reply}
use Rattle.port.specs.Meaning.{PortMachine}
use Rattle.port.specs.Views.{with_word_at, with_run}
use Rattle.port.proofs.Replacing.{replaced_other}
use Rattle.port_deferral_table.specs.Entries.{IsEntry, Ascend, waiting_patch, word_under, Linked}
use Rattle.port_deferral_table.specs.Entries.{words_of}
use Rattle.port_deferral_table.specs.declared.entry.Entry.{Entry}
use Rattle.port_deferral_table.proofs.Finding.{found_at, found_behind, none_below, ascend_rest}
use Rattle.port_deferral_laws.specs.Machine.{send_burst}

-- a word under a whole table is that word under its front, and then under its rest
pub under_both : (n i w : ℕ) (b rest : List Entry) → Ascend IsEntry n (b ++ rest)
    → word_under (waiting_patch i (b ++ rest)) w
    ≡ word_under (waiting_patch i rest) (word_under (waiting_patch i b) w)
under_both n i w [] rest up = refl
under_both n i w (e ∷ b) rest up = ⊎_elim
    (λ at.
    let next = e.register + 1 in
    let whole = found_at i e (b ++ rest) at in
    let front = found_at i e b at in
    let behind = ascend_rest IsEntry next b rest up.2 in
    let none = none_below IsEntry next i rest behind (omega (arith, at)) in
    rw (whole, front, none) refl)
    (λ away.
    let whole = found_behind i e (b ++ rest) away in
    let front = found_behind i e b away in
    rw (whole, front) (under_both (e.register + 1) i w b rest up.2))
    (cases_eq e.register i)

replaced_at : (n w : ℕ) (f : ℕ → ℕ) (i : ℕ) → n ≡ i → with_word_at n w f i ≡ w
replaced_at n w f i at = cond-true (eqb i n) w (f i) (eq-eqb i n (sym at))

-- a list of words with the entry's word replaced by what it makes of some word
abbrev with_entry : Entry → ℕ → (ℕ → ℕ) → ℕ → ℕ
with_entry e w f = with_word_at e.register (word_after e.patch w) f

-- one entry is an update of its register
pub one_covered : (e : Entry) (es : List Entry) (f : ℕ → ℕ) (i : ℕ) → es ≡ []
    → with_word_at e.register (word_after e.patch (f e.register)) f i
    ≡ word_under (waiting_patch i (e ∷ es)) (f i)
one_covered e es f i one =
    let w = word_after e.patch (f e.register) in
    ⊎_elim
    (λ at.
    let here = found_at i e es at in
    rw here (replaced_at e.register w f i at ∙ ap (λ k. word_after e.patch (f k)) at))
    (λ away.
    let past = found_behind i e es away in
    rw (past, one) (replaced_other e.register w f i (λ at. away (sym at))))
    (cases_eq e.register i)

pub words_fit : (n : ℕ) (es : List Entry) → Ascend IsEntry n es → Fit (words_of es)
words_fit n [] up k = lit< tt
words_fit n (e ∷ es) up zero = acted_fits e.patch 0 up.1.fits.0
words_fit n (e ∷ es) up (suc k) = words_fit (e.register + 1) es up.2 k

-- Entries of which each leads to the next.
module _ where
  -- an entry that another follows has the whole mask, and so has that one
  pub whole_mask : (e : Entry) → e.patch.mask ≡ 65535 → is_complete e.patch ≡ true
  whole_mask e is = eq-eqb e.patch.mask 65535 is

  -- by how a burst goes below: one entry as an update; more, which have the whole mask, as a run
  pub by_sending : {M : Type 0} (port : PortMachine M) (b : M) (P : Reply × M → Type 0)
      → (e : Entry) (es : List Entry) → Linked (e ∷ es)
      → (es ≡ [] → P (port.update b e.register e.patch))
      → (is_complete e.patch ≡ true → P (port.run b e.register (words_of (e ∷ es))))
      → P (send_burst port b (e ∷ es))
  by_sending port b P e [] linked one more = one refl
  by_sending port b P e (next ∷ es) linked one more = more (whole_mask e linked.0.0)

  -- a number for each of them
  pub found_linked : (e : Entry) (es : List Entry) (i : ℕ) → Linked (e ∷ es) → i < length (e ∷ es)
      → (p : Patch) × (waiting_patch (e.register + i) (e ∷ es) ≡ Some p)
  found_linked e es zero linked low =
      (e.patch, found_at (e.register + zero) e es (sym (add-zero e.register)))
  found_linked e [] (suc i) linked low = absurd (omega (arith, low))
  found_linked e (next ∷ es) (suc i) linked low =
      let follows = linked.0.2 in
      let more = found_linked next es i linked.1 (omega (arith, low)) in
      let at : e.register + suc i ≡ next.register + i = omega (arith, follows) in (
        more.0,
        found_behind (e.register + suc i) e (next ∷ es) (λ here. omega (arith, here))
            ∙ ap (λ k. waiting_patch k (next ∷ es)) at ∙ more.1,
      )

  -- one whole word, and then those of entries further on
  one_covers : (e : Entry) (es : List Entry) (n : ℕ) (f : ℕ → ℕ) (i : ℕ)
      → Ascend IsEntry n (e ∷ es) → is_complete e.patch ≡ true
      → word_under (waiting_patch i es) (with_entry e 0 f i)
      ≡ word_under (waiting_patch i (e ∷ es)) (f i)
  one_covers e es n f i up whole = ⊎_elim
      (λ at.
      let far : i < e.register + 1 = omega (arith, at) in
      let none : waiting_patch i es ≡ None = none_below IsEntry (e.register + 1) i es up.2 far in
      let here = found_at i e es at in
      let given = replaced_at e.register (word_after e.patch 0) f i at in
      rw (here, none) (given ∙ sym (completes e.patch whole (f i))))
      (λ away.
      let past = found_behind i e es away in
      let same = replaced_other e.register (word_after e.patch 0) f i (λ at. away (sym at)) in
      rw (past, same) refl)
      (cases_eq e.register i)

  -- whole words that follow each other up a run
  pub run_covers : (e : Entry) (es : List Entry) (n : ℕ) (f : ℕ → ℕ) (i : ℕ)
      → Ascend IsEntry n (e ∷ es) → Linked (e ∷ es) → is_complete e.patch ≡ true
      → with_run e.register (words_of (e ∷ es)) f i ≡ word_under (waiting_patch i (e ∷ es)) (f i)
  run_covers e [] n f i up linked whole = one_covers e [] n f i up whole
  run_covers e (next ∷ es) n f i up linked whole =
      let more = with_entry e 0 f in
      ap (λ k. with_run k (words_of (next ∷ es)) more i) (sym linked.0.2)
      ∙ run_covers next es (e.register + 1) more i up.2 linked.1 (whole_mask next linked.0.1)
      ∙ one_covers e (next ∷ es) n f i up whole

  -- what these entries make of a word at a register
  abbrev covered : List Entry → ℕ → ℕ → ℕ
  covered es i w = word_under (waiting_patch i es) w

  again_here : (e : Entry) (es : List Entry) (i w : ℕ) → is_complete e.patch ≡ true
      → covered es i (covered es i w) ≡ covered es i w
      → covered (e ∷ es) i (covered (e ∷ es) i w) ≡ covered (e ∷ es) i w
  again_here e es i w whole rest = ⊎_elim
      (λ at.
      let here = found_at i e es at in
      let does = completes e.patch whole in
      rw here (does (word_after e.patch w) ∙ sym (does w)))
      (λ away. let past = found_behind i e es away in rw past rest)
      (cases_eq e.register i)

  -- what sets whole words does no more when done again
  pub covered_again : (e : Entry) (es : List Entry) (i w : ℕ)
      → Linked (e ∷ es) → is_complete e.patch ≡ true
      → covered (e ∷ es) i (covered (e ∷ es) i w) ≡ covered (e ∷ es) i w
  covered_again e [] i w linked whole = again_here e [] i w whole refl
  covered_again e (next ∷ es) i w linked whole =
      let rest = covered_again next es i w linked.1 (whole_mask next linked.0.1) in
      again_here e (next ∷ es) i w whole rest
