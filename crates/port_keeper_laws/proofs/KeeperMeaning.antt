-- A keeper has the meaning of a port if the port below has it. Assumes nothing.
use Rattle.std.proofs.Common.{◌≡◌, ℕ, ◌^◌, ◌<◌, Bool, true, false, not, ◌&&◌, ◌||◌, eqb, ◌⊎◌}
use Rattle.std.proofs.Common.{cond, [], length, get_or, set, sym, refl, ap, ◌∙◌, subst, inl, inr}
use Rattle.std.proofs.Common.{⊎_elim, arith, rules}
use Rattle.std.proofs.lemmas.Bool.{cases_eq, cond_both, false≢true, eqb-true, and_parts, not-false}
use Rattle.std.proofs.lemmas.Bool.Decides.{nat_tests}
use Rattle.std.proofs.lemmas.List.{get_or-set_same, get_or-set_other}
use Rattle.patch.specs.Patch.{word_after, setting_to}
use Rattle.patch.proofs.Masked.{acted_fits, sets}
use Rattle.refusal.specs.Replies.{Reply, acceptance}
use Rattle.chart.specs.Rules.{ChartRules}
use Rattle.chart.specs.declared.class.Class.{Class}
use Rattle.chart.specs.declared.class.Class.TheVariants.{Setting}
use Rattle.port.specs.Views.{View, view_of, Agree, with_word_at}
use Rattle.port.specs.Meaning.{PortMachine, PortMeaning, view, supply, Fine, Failed, Updated}
use Rattle.port.specs.Meaning.{NewView, WentDown, CameUp}
use Rattle.port.proofs.Replacing.{set_replaces, replaced_same, replaced_other}
use Rattle.port_layer.specs.Layer.{over, back, send_all, SentOrFailed, LayerMeaning}
use Rattle.port_layer.specs.Laws.{SentInPieces}
use Rattle.port_layer.proofs.Standing.{went_on, ended, restood, stood_still}
use Rattle.port_layer.proofs.OneByOne.{set_fits}
use Rattle.port_layer.proofs.LayerMeaning.{layer_meaning}
use Rattle.port_layer.proofs.LayerLaws.{in_pieces}
use Rattle.port_keeper_marks.specs.Runs.{is_marked, differing}
use Rattle.port_keeper_marks.proofs.Marking.{marked_set, marked_set_other, marked_differing}
use Rattle.port_keeper_laws.specs.Machine.{own_of, KeeperModel, KeeperSound, registers, new_keeper}
use Rattle.port_keeper_laws.specs.Machine.{held_at, owed_at, hold_setting, setting_back}
use Rattle.port_keeper_laws.specs.Machine.{send_setting, change_setting, keeper_sending}
use Rattle.port_keeper_laws.specs.Machine.{keeper_layer, keeper_machine}
use Rattle.port_keeper_laws.proofs.Holding.{setting_low, none_marked, fresh_at, kept_new, kept_set}
use Rattle.port_keeper_laws.proofs.Holding.{kept_differing}
use Rattle.port_keeper_laws.proofs.Sending.{AllSent, all_sent}
use Rattle.port_keeper_laws.proofs.KeeperLaws.{none_owed}

module _ {count : ℕ} {class : ℕ → Class} {reset : ℕ → ℕ}
    (chart : ChartRules count class reset) {M : Type 0} (keeps : Bool)
    (base : PortMachine M) (port : PortMeaning keeps class reset base) where
  abbrev K : Type 0
  K = KeeperModel M

  abbrev seen : K → View
  seen m = view (keeper_machine base keeps class reset) m

  abbrev lower : M → View
  lower b = view base b

  abbrev S : K → Type 0
  S = KeeperSound base keeps class reset

  abbrev hand : K → Type 0
  hand m = (keeps || supply base m.below) ≡ true

  -- a call below that leaves the settings shown there
  still : (m : K) (b : M) → S m → base.Sound b
      → Agree class Setting (base.shown b) (base.shown m.below)
      → supply base b ≡ supply base m.below → S (over m.own b)
  still m b s sound same on = record {
    below = sound;
    kept = s.kept;
    equal = λ i c e. same i c ∙ s.equal i c e;
    settled = s.settled;
    asleep = λ k off. s.asleep k (sym on ∙ off);
    lost = λ k off i c. same i c ∙ s.lost k (sym on ∙ off) i c;
  }

  -- what a change of one setting to a word leaves
  abbrev Changes : K → ℕ → ℕ → Reply × K → Type 0
  Changes m n w q =
      (((q.0 ≡ acceptance []) × Fine class (seen m) (with_word_at n w (held_at m)) (seen q.1))
      ⊎ Failed class (seen m) q.0 (seen q.1)) × S q.1

  module _ (m : K) (n w : ℕ) (s : S m) (c : class n ≡ Setting) (h : w < 2 ^ 16) where
    low : n < length m.own.held
    low = omega (arith, setting_low chart n c, s.kept.size)

    shows_it : (i : ℕ) → get_or (set m.own.held n w) i 0 ≡ with_word_at n w (held_at m) i
    shows_it i = set_replaces m.own.held n w i low

    mark_at : (i : ℕ) (o : Bool) → i ≡ n → is_marked (set m.own.owed n o) i ≡ o
    mark_at i o at =
        let here = marked_set m.own.owed n o (omega (arith, setting_low chart n c, s.kept.marks)) in
        ap (is_marked (set m.own.owed n o)) at ∙ here

    mark_away : (i : ℕ) (o : Bool) → (i ≡ n → ⊥) → is_marked (set m.own.owed n o) i ≡ owed_at m i
    mark_away i o away = marked_set_other m.own.owed n i o away

    word_at : (i : ℕ) → i ≡ n → get_or (set m.own.held n w) i 0 ≡ w
    word_at i at =
        ap (λ k. get_or (set m.own.held n w) k 0) at ∙ get_or-set_same m.own.held n w 0 low

    word_away : (i : ℕ) → (i ≡ n → ⊥) → get_or (set m.own.held n w) i 0 ≡ held_at m i
    word_away i away = get_or-set_other m.own.held n i w 0 away

    -- held, over a port that shows each other setting as before
    held_sound : (b : M) (o : Bool) → base.Sound b
        → ((i : ℕ) → class i ≡ Setting → (i ≡ n → ⊥) → base.shown b i ≡ base.shown m.below i)
        → (o ≡ false → base.shown b n ≡ w)
        → (keeps ≡ true → o ≡ false)
        → supply base b ≡ supply base m.below
        → (keeps ≡ false → supply base b ≡ false
        → (o ≡ not (eqb w (reset n))) × (base.shown b n ≡ reset n))
        → S (hold_setting n w o (over m.own b))
    held_sound b o sound others here settled same asleep = record {
      below = sound;
      kept = kept_set chart m.own s.kept n w o c h;
      equal = λ i d e. ⊎_elim
          (λ at. ap (base.shown b) at ∙ here (sym (mark_at i o at) ∙ e) ∙ sym (word_at i at))
          (λ away. others i d away ∙ s.equal i d (sym (mark_away i o away) ∙ e)
          ∙ sym (word_away i away))
          (cases_eq i n);
      settled = λ k i. ⊎_elim
          (λ at. mark_at i o at ∙ settled k)
          (λ away. mark_away i o away ∙ s.settled k i)
          (cases_eq i n);
      asleep = λ k off i d. ⊎_elim
          (λ at. mark_at i o at ∙ (asleep k off).0
          ∙ ap (λ x. not (eqb x (reset n))) (sym (word_at i at))
          ∙ ap (λ j. not (eqb (get_or (set m.own.held n w) i 0) (reset j))) (sym at))
          (λ away. mark_away i o away ∙ s.asleep k (sym same ∙ off) i d
          ∙ ap (λ x. not (eqb x (reset i))) (sym (word_away i away)))
          (cases_eq i n);
      lost = λ k off i d. ⊎_elim
          (λ at. ap (base.shown b) at ∙ (asleep k off).1 ∙ ap reset (sym at))
          (λ away. others i d away ∙ s.lost k (sym same ∙ off) i d)
          (cases_eq i n);
    }

    -- with the supply off and a port below that forgets
    holds_alone : (keeps || supply base m.below) ≡ false
        → Changes m n w (acceptance [], hold_setting n w (not (eqb w (reset n))) m)
    holds_alone none =
        let k : keeps ≡ false = search rules in
        let off : supply base m.below ≡ false = search rules in
        let lost = s.lost k off n c in
        let chip = base.chip m.below in (
          inl (refl, (restood _ _ _ _ chip chip (stood_still (seen m)), λ i d. shows_it i)),
          held_sound m.below (not (eqb w (reset n))) s.below
              (λ i d away. refl)
              (λ o. lost ∙ sym (eqb-true w (reset n) (not-false _ o)))
              (λ keeping. absurd (false≢true (sym k ∙ keeping)))
              refl
              (λ _ _. (refl, lost)),
        )

    -- the same word, which is not owed
    stands : (eqb w (held_at m n) && not (owed_at m n)) ≡ true → Changes m n w (acceptance [], m)
    stands e =
        let same = eqb-true w (held_at m n) (and_parts _ _ e).0 in (
          inl (refl, (stood_still (seen m), λ i d. sym (replaced_same n w (held_at m) i same))),
          s,
        )

    -- sent below
    came_back : (p : Reply × M) → base.Sound p.1 → hand m
        → Updated class (lower m.below) n (setting_to w) p.0 (lower p.1)
        → Changes m n w (setting_back m n w p)
    came_back p sound hand (inl (ok, (stood, shows))) =
        rw (went_on (back m p) (λ k. (p.0, hold_setting n w false k)) [] ok) (
          inl (
            ok,
            (
              restood _ _ _ _ (base.chip m.below) (base.chip p.1) stood,
              λ i d. shows_it i,
            ),
          ),
          held_sound p.1 false sound
              (λ i d away. shows i d ∙ replaced_other n _ (base.shown m.below) i away)
              (λ _. shows n c ∙ grind (arith, nat_tests) ∙ sets w (base.shown m.below n) h)
              (λ _. refl)
              stood.supply
              (λ k off. absurd (false≢true (sym (rw (k, ← stood.supply, off) refl) ∙ hand))),
        )
    came_back p sound hand (inr (fault, stood, shows)) =
        rw (ended (back m p) (λ k. (p.0, hold_setting n w false k)) _ fault.5) (
          inr (fault, restood _ _ _ _ (base.chip m.below) (base.chip p.1) stood, λ i d. refl),
          still m p.1 s sound shows stood.supply,
        )

    goes : hand m → Changes m n w (send_setting base m n w)
    goes hand =
        let p = base.update m.below n (setting_to w) in
        let fits = set_fits w h in
        came_back p (port.update_sound m.below n (setting_to w) s.below fits) hand
        (port.updated m.below n (setting_to w) s.below fits (search (rules, c, hand)))

    changes : Changes m n w (change_setting base keeps reset m n w)
    changes =
        let same = eqb w (held_at m n) && not (owed_at m n) in
        cond_both (keeps || supply base m.below) _ _ (Changes m n w)
        (λ hand. cond_both same _ _ (Changes m n w) stands (λ _. goes hand))
        holds_alone

  -- what comes asleep is accepted
  asleep_accepted : (m : K) (n w : ℕ) → S m → class n ≡ Setting → supply base m.below ≡ false
      → (change_setting base keeps reset m n w).0 ≡ acceptance []
  asleep_accepted m n w s c off =
      let same = eqb w (held_at m n) && not (owed_at m n) in
      let Accepted = λ (q : Reply × K). q.0 ≡ acceptance [] in
      let p = base.update m.below n (setting_to w) in
      cond_both (keeps || supply base m.below) _ _ Accepted
      (λ hand. cond_both same _ _ Accepted
      (λ _. refl)
      (λ _. let keeping : keeps ≡ true = search (rules, hand, off) in
      let ok = port.kept_update m.below n (setting_to w) s.below keeping off c in
      rw (went_on (back m p) (λ k. (p.0, hold_setting n w false k)) [] ok) ok))
      (λ _. refl)

  -- all that is shown is below once nothing is owed
  sent_or_failed : (m : K) (q : Reply × K) → SentInPieces (keeper_sending base) m q
      → AllSent chart keeps base port m q
      → SentOrFailed base class (keeper_layer base keeps class reset) m q
  sent_or_failed m q sent (inl (ok, fine, s)) =
      let none = none_owed base m q sent (ap (λ r. r.number) ok) in
      inl (ok, fine, λ i c. s.equal i c (none i), s)
  sent_or_failed m q sent (inr failed) = inr failed

  -- a down leaves a port that keeps as it was, and one that forgets with reset words
  down_keeping : (m : K) (b : M) → keeps ≡ true → S m → base.Sound b
      → WentDown true class reset (lower m.below) (lower b) → S (over m.own b)
  down_keeping m b k s sound d = record {
    below = sound;
    kept = s.kept;
    equal = λ i c e. d.shown i c ∙ s.equal i c e;
    settled = s.settled;
    asleep = λ n. absurd (false≢true (sym n ∙ k));
    lost = λ n. absurd (false≢true (sym n ∙ k));
  }

  down_losing : (m : K) (b : M) → keeps ≡ false → S m → base.Sound b
      → WentDown false class reset (lower m.below) (lower b)
      → S (over (own_of m.own.held (differing reset m.own.held)) b)
  down_losing m b n s sound d =
      let differs = λ (i : ℕ) (c : class i ≡ Setting). marked_differing reset m.own.held i
      (omega (arith, s.kept.size, setting_low chart i c)) in
      record {
        below = sound;
        kept = kept_differing chart m.own s.kept;
        equal = λ i c e. let same = not-false _ (sym (differs i c) ∙ e) in
            d.shown i c ∙ sym (eqb-true (held_at m i) (reset i) same);
        settled = λ k. absurd (false≢true (sym n ∙ k));
        asleep = λ _ off i c. differs i c;
        lost = λ _ off. d.shown;
      }

  went_down : (m : K) (b : M) → S m → base.Sound b
      → WentDown keeps class reset (lower m.below) (lower b)
      → S (over (own_of m.own.held (cond keeps m.own.owed (differing reset m.own.held))) b)
  went_down m b s sound d =
      let Went = λ (t : Bool). WentDown t class reset (lower m.below) (lower b) in
      cond_both keeps m.own.owed (differing reset m.own.held)
      (λ o. S (over (own_of m.own.held o) b))
      (λ k. down_keeping m b k s sound (subst Went k d))
      (λ n. down_losing m b n s sound (subst Went n d))

  down_view : (m : K) (b : M) → WentDown keeps class reset (lower m.below) (lower b)
      → WentDown true class reset (seen m) (view_of (held_at m) (base.chip b))
  down_view m b d = record {
    shown = λ i c. refl;
    settings = d.settings;
    live = d.live;
    supply = d.supply;
    failed = d.failed;
  }

  came_up : (m : K) (b : M) → S m → base.Sound b → CameUp class (lower m.below) (lower b)
      → S (over m.own b)
  came_up m b s sound u = record {
    below = sound;
    kept = s.kept;
    equal = λ i c e. u.shown i c ∙ s.equal i c e;
    settled = s.settled;
    asleep = λ k off. absurd (false≢true (sym off ∙ u.supply));
    lost = λ k off. absurd (false≢true (sym off ∙ u.supply));
  }

  new_view : (b : M) → NewView class reset (lower b)
      → NewView class reset (seen (new_keeper reset b))
  new_view b v = record {
    words = record { shown = λ i c. fresh_at chart i; settings = v.words.settings };
    live = v.live;
    supply = v.supply;
    failed = v.failed;
  }

  new_sound : (b : M) → base.Sound b → NewView class reset (lower b) → S (new_keeper reset b)
  new_sound b sound v = record {
    below = sound;
    kept = kept_new chart;
    equal = λ i c e. v.words.shown i c ∙ sym (fresh_at chart i);
    settled = λ k i. none_marked registers i;
    asleep = λ k off. absurd (false≢true (sym off ∙ v.supply));
    lost = λ k off. absurd (false≢true (sym off ∙ v.supply));
  }

  pub keeper_law : LayerMeaning base class (keeper_layer base keeps class reset) keeps reset
  keeper_law = record {
    alike = λ s f g same i c. refl;
    fit = λ m s n c. s.kept.fit n;
    below = λ m s. s.below;
    still = still;
    reads = λ m n s c hand. (inl (refl, (stood_still (seen m), λ i d. refl), λ i d. refl), s);
    kept_read = λ m n s k c. refl;
    changes = λ m n p s fits c hand.
        changes m n (word_after p (held_at m n)) s c (acted_fits p (held_at m n) fits.0);
    kept_change = λ m n p s k off c. asleep_accepted m n (word_after p (held_at m n)) s c off;
    sends = λ m s on. sent_or_failed m (send_all (keeper_sending base) m)
        (in_pieces (keeper_sending base) m) (all_sent chart keeps base port m s on);
    went_down = λ m b s sound d. (down_view m b d, went_down m b s sound d);
    came_up = came_up;
    made = λ b sound v. (new_view b v, new_sound b sound v);
  }

  pub keeper_meaning : PortMeaning true class reset (keeper_machine base keeps class reset)
  keeper_meaning = layer_meaning keeps base port (keeper_layer base keeps class reset) keeper_law
