-- From what an update of a port means, what a run means whose words are updates each. Assumes
-- nothing.
use Rattle.std.proofs.Common.{◌≡◌, ℕ, suc, ◌+◌, ◌^◌, ◌<◌, Bool, true, false, ◌||◌, ◌⊎◌, List, []}
use Rattle.std.proofs.Common.{◌∷◌, length, None, sym, refl, ap, ◌∙◌, inl, inr, ⊎_elim, add-zero}
use Rattle.std.proofs.Common.{arith, lit<, rules}
use Rattle.std.proofs.lemmas.Bool.{cond_both, cases_eq}
use Rattle.std.proofs.lemmas.Bool.Decides.{nat_tests}
use Rattle.patch.specs.Patch.{word_after, setting_to}
use Rattle.patch.proofs.Masked.{sets}
use Rattle.refusal.specs.Replies.{Reply, acceptance}
use Rattle.chart.specs.declared.class.Class.{Class}
use Rattle.chart.specs.declared.class.Class.TheVariants.{Setting}
use Rattle.patch.specs.declared.patch.Patch.{Patch}
use Rattle.chip.specs.Words.{Fit}
use Rattle.port.specs.Checks.{update_check, is_accepted, onward}
use Rattle.port.specs.Views.{View, Agree, with_word_at, with_run}
use Rattle.port.specs.Meaning.{PatchFits, Fine, Failed, Updated, Ran}
use Rattle.port.proofs.Replacing.{replaced_other, ran_same, first_given}
use Rattle.port.specs.OneByOne.{one_by_one}
use Rattle.port_layer.proofs.Standing.{went_on, ended, stood_still, stood_on}

pub set_fits : (w : ℕ) → w < 2 ^ 16 → PatchFits (setting_to w)
set_fits w h = (lit< tt, h)

module _ {class : ℕ → Class} (first w : ℕ) (ws : List ℕ) where
  module _ (h : w < 2 ^ 16) (v u : View)
      (fine : Fine class v (with_word_at first (word_after (setting_to w) (v.shown first)) v.shown)
      u) where
    now_shown : Agree class Setting u.shown (with_word_at first w v.shown)
    now_shown i s = fine.1 i s ∙ ap (λ x. with_word_at first x v.shown i) (sets w (v.shown first) h)

    whole : Agree class Setting (with_run (first + 1) ws u.shown) (with_run first (w ∷ ws) v.shown)
    whole i s = ran_same (first + 1) ws u.shown (with_word_at first w v.shown) i (now_shown i s)

    old_or_given : (i : ℕ) → class i ≡ Setting → (u.shown i ≡ v.shown i)
        ⊎ (u.shown i ≡ with_run first (w ∷ ws) v.shown i)
    old_or_given i s = ⊎_elim
        (λ here. inr
        (now_shown i s ∙ rw here (grind (arith, nat_tests))
        ∙ sym (ap (with_run first (w ∷ ws) v.shown) here ∙ first_given first w ws v.shown)))
        (λ away. inl (now_shown i s ∙ replaced_other first w v.shown i away))
        (cases_eq i first)

    -- the run goes on after its first word
    goes_on : (r : Reply) (after : View) → Ran class u (first + 1) ws r after
        → Ran class v first (w ∷ ws) r after
    goes_on r after (inl (ok, (stood, shows))) =
        inl (ok, (stood_on 0 v u after fine.0 stood, λ i s. shows i s ∙ whole i s))
    goes_on r after (inr (fault, stood, each)) = inr (
      fault,
      stood_on 1 v u after fine.0 stood,
      λ i s. ⊎_elim
          (λ old. ⊎_elim (λ e. inl (old ∙ e)) (λ e. inr (old ∙ e)) (old_or_given i s))
          (λ given. inr (given ∙ whole i s))
          (each i s),
    )

  -- it ends at its first word
  stops : (v after : View) (r : Reply) → Failed class v r after → Ran class v first (w ∷ ws) r after
  stops v after r (fault, stood, shows) = inr (fault, stood, λ i s. inl (shows i s))

module _ {M : Type 0} (keeps : Bool) (class : ℕ → Class) (update : M → ℕ → Patch → Reply × M)
    (view : M → View) (Sound : M → Type 0)
    (updated : (m : M) (n : ℕ) (p : Patch) → Sound m → PatchFits p
    → update_check keeps (class n) (view m).supply ≡ None
    → Updated class (view m) n p (update m n p).0 (view (update m n p).1))
    (stays : (m : M) (n : ℕ) (p : Patch) → Sound m → PatchFits p → Sound (update m n p).1) where
  abbrev AtHand : M → Type 0
  AtHand m = (keeps || (view m).supply) ≡ true

  abbrev Settings : ℕ → List ℕ → Type 0
  Settings first ws = (i : ℕ) → i < length ws → class (first + i) ≡ Setting

  the_first : (first w : ℕ) (ws : List ℕ) → Settings first (w ∷ ws) → class first ≡ Setting
  the_first first w ws all = ap class (sym (add-zero first)) ∙ all 0 (omega arith)

  the_rest : (first w : ℕ) (ws : List ℕ) → Settings first (w ∷ ws) → Settings (first + 1) ws
  the_rest first w ws all i h = let at : first + 1 + i ≡ first + suc i = omega arith in
      ap class at ∙ all (suc i) (omega arith)

  one : (m : M) (n w : ℕ) → Sound m → w < 2 ^ 16 → AtHand m → class n ≡ Setting
      → Updated class (view m) n (setting_to w) (update m n (setting_to w)).0
      (view (update m n (setting_to w)).1)
  one m n w sound h at s = updated m n (setting_to w) sound (set_fits w h) (search (rules, s, at))

  supply_stands : (m : M) (n : ℕ) (p : Patch)
      → Updated class (view m) n p (update m n p).0 (view (update m n p).1)
      → (view (update m n p).1).supply ≡ (view m).supply
  supply_stands m n p (inl (ok, (stood, shows))) = stood.supply
  supply_stands m n p (inr (fault, stood, shows)) = stood.supply

  -- the first word, and then a run of the rest
  one_and_run : (v : View) (first w : ℕ) (ws : List ℕ) (q : Reply × M) (next : M → Reply × M)
      → w < 2 ^ 16 → Updated class v first (setting_to w) q.0 (view q.1)
      → Ran class (view q.1) (first + 1) ws (next q.1).0 (view (next q.1).1)
      → Ran class v first (w ∷ ws) (onward q next).0 (view (onward q next).1)
  one_and_run v first w ws q next h (inl (ok, fine)) rest =
      rw (went_on q next [] ok) (goes_on first w ws h v (view q.1) fine _ _ rest)
  one_and_run v first w ws q next h (inr f) rest =
      rw (ended q next _ f.0.5) (stops first w ws v (view q.1) q.0 f)

  pub run_by_updates : (m : M) (first : ℕ) (ws : List ℕ) → Sound m → Fit ws → AtHand m
      → Settings first ws
      → Ran class (view m) first ws (one_by_one update m first ws).0
      (view (one_by_one update m first ws).1)
  run_by_updates m first [] sound fit at all = inl (refl, (stood_still (view m), λ i s. refl))
  run_by_updates m first (w ∷ ws) sound fit at all =
      let k = (update m first (setting_to w)).1 in
      let did = one m first w sound (fit 0) at (the_first first w ws all) in
      let at_hand : AtHand k =
      ap (λ on. keeps || on) (supply_stands m first (setting_to w) did) ∙ at in
      one_and_run (view m) first w ws (update m first (setting_to w))
      (λ j. one_by_one update j (first + 1) ws) (fit 0) did
      (run_by_updates k (first + 1) ws (stays m first (setting_to w) sound (set_fits w (fit 0)))
      (λ i. fit (suc i)) at_hand (the_rest first w ws all))

  pub run_stays : (m : M) (first : ℕ) (ws : List ℕ) → Sound m → Fit ws
      → Sound (one_by_one update m first ws).1
  run_stays m first [] sound fit = sound
  run_stays m first (w ∷ ws) sound fit =
      let q = update m first (setting_to w) in
      let after = stays m first (setting_to w) sound (set_fits w (fit 0)) in
      cond_both (is_accepted q.0) (one_by_one update q.1 (first + 1) ws) q (λ r. Sound r.1)
      (λ _. run_stays q.1 (first + 1) ws after (λ i. fit (suc i))) (λ _. after)

  -- where each update is accepted, so is the run
  module _
      (kept : (m : M) (n : ℕ) (p : Patch) → Sound m → keeps ≡ true → (view m).supply ≡ false
      → class n ≡ Setting → (update m n p).0 ≡ acceptance []) where
    pub kept_by_updates : (m : M) (first : ℕ) (ws : List ℕ) → Sound m → Fit ws → keeps ≡ true
        → (view m).supply ≡ false → Settings first ws
        → (one_by_one update m first ws).0 ≡ acceptance []
    kept_by_updates m first [] sound fit keeps_it off all = refl
    kept_by_updates m first (w ∷ ws) sound fit keeps_it off all =
        let s = the_first first w ws all in
        let did = one m first w sound (fit 0) (rw keeps_it refl) s in
        rw (kept m first (setting_to w) sound keeps_it off s)
        (kept_by_updates (update m first (setting_to w)).1 (first + 1) ws
        (stays m first (setting_to w) sound (set_fits w (fit 0))) (λ i. fit (suc i)) keeps_it
        (supply_stands m first (setting_to w) did ∙ off) (the_rest first w ws all))
