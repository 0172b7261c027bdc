-- Paging over a bus that has the meaning of a bus has the meaning of a port. Assumes nothing.
use Rattle.std.proofs.Common.{◌≡◌, ℕ, ◌+◌, ◌-◌, ◌^◌, ◌<◌, ◌≤◌, Bool, true, false, cond, eqb, ◌⊎◌}
use Rattle.std.proofs.Common.{List, [], ◌∷◌, length, get_or, take, None, sym, refl, ap, ◌∙◌, subst}
use Rattle.std.proofs.Common.{inl, inr, ⊎_elim, add-zero, arith, rules}
use Rattle.std.proofs.lemmas.List.{length-take-le}
use Rattle.std.proofs.lemmas.Bool.{false≢true, cases_Bool, cases_lt, eqb-true}
use Rattle.patch.specs.Patch.{word_after, is_idle, is_complete}
use Rattle.refusal.specs.Replies.{acceptance, refusal_of}
use Rattle.chart.specs.Rules.{ChartRules}
use Rattle.chart.specs.declared.class.Class.{Class}
use Rattle.chart.specs.declared.class.Class.TheVariants.{Absent, Setting, Live}
use Rattle.patch.specs.declared.patch.Patch.{Patch}
use Rattle.patch.proofs.Masked.{acted_fits, idles, completes}
use Rattle.chip.specs.Words.{selector, fresh_words, Fit}
use Rattle.chip.proofs.Soundness.{one_fits, fresh_at}
use Rattle.bus.specs.Chips.{after_measure, words_after_measure}
use Rattle.bus.specs.Checks.{measure_check}
use Rattle.bus.specs.Meaning.{BusMachine, BusMeaning}
use Rattle.bus.proofs.Settled.{refused_by, either_way}
use Rattle.port.specs.Checks.{read_check, update_check, run_check}
use Rattle.port.specs.Views.{View, Agree, with_word_at, with_run}
use Rattle.port.specs.Meaning.{PortMachine, PortMeaning, PatchFits, view, Stood, Failed}
use Rattle.port.specs.Meaning.{SettingRead, LiveRead, Updated, Ran, NewView, Measured, WentDown}
use Rattle.port.specs.Meaning.{CameUp}
use Rattle.port.proofs.Settled.{read_settled, update_settled, measure_settled, run_settled}
use Rattle.port.proofs.Settled.{in_chart, run_in_chart}
use Rattle.port.proofs.Replacing.{replaced_same, replaced_other, set_replaces, ran_outside}
use Rattle.port_paging_laws.specs.Machine.{PagingModel, PagingSound, PagingNew, PagingOutcome}
use Rattle.port_paging_laws.specs.Machine.{Believed}
use Rattle.port_paging_laws.specs.Machine.{paging_of, reply_at, is_awake, fetch_outcome}
use Rattle.port_paging_laws.specs.Machine.{piece_outcome, rewrite_outcome, update_outcome}
use Rattle.port_paging_laws.specs.Machine.{run_outcome, paging_machine}
use Rattle.port_paging_laws.proofs.Storing.{ran_part}
use Rattle.port_paging_laws.proofs.Sending.{Left, Broken, Fetches, StoresOver, Stores, word}
use Rattle.port_paging_laws.proofs.Sending.{awake_at, unmoved, stores_on, fetches, piece_stores}
use Rattle.port_paging_laws.proofs.Sending.{run_stores}

measured_words : (on : Bool) (n w : ℕ) (ws : List ℕ) (i : ℕ) → n < length ws
    → let f = λ (k : ℕ). get_or ws k 0 in
    get_or (words_after_measure on n w ws) i 0 ≡ cond on (with_word_at n w f) f i
measured_words on n w ws i h = search (rules, set_replaces)

measured_other : (on : Bool) (n w : ℕ) (f : ℕ → ℕ) (i : ℕ) → (i ≡ n → ⊥)
    → cond on (with_word_at n w f) f i ≡ f i
measured_other on n w f i away = search (rules, replaced_other)

module _ {count : ℕ} {class : ℕ → Class} {reset : ℕ → ℕ} (chart : ChartRules count class reset)
    {M : Type 0} (base : BusMachine M) (bus : BusMeaning class reset base) where
  abbrev P : Type 0
  P = PagingModel M

  abbrev port : PortMachine P
  port = paging_machine base class

  abbrev W : P → ℕ → ℕ
  W m = word base m

  abbrev L : P → P → (ℕ → ℕ) → ℕ → Type 0
  L = Left base

  abbrev V : P → View
  V m = view port m

  setting_low : (n : ℕ) → class n ≡ Setting → n < 128
  setting_low n s = grind (arith, chart.few, chart.rest_absent)

  live_low : (n : ℕ) → class n ≡ Live → n < 128
  live_low n l = grind (arith, chart.few, chart.rest_absent)

  -- words that stand at the live registers
  stood : (m k : P) (f : ℕ → ℕ) (n : ℕ) → L m k f n → Agree class Live f (W m)
      → Stood class n (V m) (V k)
  stood m k f n left same = record {
    live = λ i l. left.words i (live_low i l) ∙ same i l;
    supply = left.supply;
    failed = left.failed;
  }

  shows : (m k : P) (f : ℕ → ℕ) (n : ℕ) → L m k f n → Agree class Setting (W k) f
  shows m k f n left i s = left.words i (setting_low i s)

  -- a fault after which all words stand
  failed : (m : P) (q : PagingOutcome M) (n : ℕ) → (class n ≡ Absent → ⊥)
      → Broken base m q (n + 0) (W m) → Failed class (V m) q.0 (V q.1)
  failed m q n there (cause, r, left) = (
    (
      cause,
      n,
      0,
      there,
      omega arith,
      r ∙ ap (λ k. refusal_of 6 (cause ∷ k ∷ 0 ∷ [])) (add-zero n),
    ),
    stood m q.1 (W m) 1 left (λ i l. refl),
    shows m q.1 (W m) 1 left,
  )

  -- one word is replaced, or a fault leaves all as it was
  abbrev One : P → ℕ → ℕ → PagingOutcome M → Type 0
  One m n w q =
      ((q.0 ≡ acceptance []) × L m q.1 (with_word_at n w (W m)) 0) ⊎ Broken base m q (n + 0) (W m)

  one_stored : (m : P) (n w : ℕ) (q : PagingOutcome M) → StoresOver base (W m) m n (w ∷ []) q
      → One m n w q
  one_stored m n w q (inl done) = inl done
  one_stored m n w q (inr (j, few, b)) =
      let none : j ≡ 0 = omega arith in
      inr (subst (λ k. Broken base m q (n + k) (with_run n (take k (w ∷ [])) (W m))) none b)

  unchanged : (m k : P) (n w : ℕ) → L m k (W m) 0 → w ≡ W m n → One m n w (acceptance [], k)
  unchanged m k n w left same = inl (
    refl,
    record {
      sound = left.sound;
      words = λ i h. left.words i h ∙ sym (replaced_same n w (W m) i same);
      supply = left.supply;
      failed = left.failed;
    },
  )

  word_fits : (m : P) → PagingSound base m → (n : ℕ) → W m n < 2 ^ 16
  word_fits m sound n = (bus.words m.bus sound.0).fit n

  -- one word goes out after a call that left all words
  writes : (m k : P) (n w : ℕ) → L m k (W m) 0 → awake_at base m → 1 ≤ n → n < 128 → w < 2 ^ 16
      → One m n w (piece_outcome base k n (w ∷ []))
  writes m k n w left on some below fits =
      let q = piece_outcome base k n (w ∷ []) in
      one_stored m n w q (stores_on base m k (W m) n (w ∷ []) q left
      (piece_stores base bus k n (w ∷ []) left.sound (left.supply ∙ on) (one_fits w fits)
      (omega arith) (omega arith) some (omega arith) (omega arith)))

  rewrites : (m k : P) (n : ℕ) (p : Patch) → L m k (W m) 0 → awake_at base m → 1 ≤ n → n < 128
      → p.mask < 2 ^ 16 → One m n (word_after p (W m n)) (rewrite_outcome base k n p (W m n))
  rewrites m k n p left on some below mask =
      let old = W m n in
      let new = word_after p old in
      ⊎_elim
      (λ e. rw e (unchanged m k n new left (eqb-true _ _ e)))
      (λ e. rw e (writes m k n new left on some below (acted_fits p old mask)))
      (cases_Bool (eqb new old))

  updates : (m : P) (n : ℕ) (p : Patch) → PagingSound base m → awake_at base m → 1 ≤ n → n < 128
      → p.mask < 2 ^ 16 → One m n (word_after p (W m n)) (update_outcome base m n p)
  updates m n p sound on some below mask =
      ⊎_elim nothing (λ e. ⊎_elim (whole e) (masked e) (cases_Bool (is_complete p)))
      (cases_Bool (is_idle p))
    where
      here : L m m (W m) 0
      here = unmoved base m sound

      first : PagingOutcome M
      first = fetch_outcome base m n

      nothing : is_idle p ≡ true → One m n (word_after p (W m n)) (update_outcome base m n p)
      nothing e =
          let same = idles p e (W m n) (word_fits m sound n) in
          rw e (unchanged m m n (word_after p (W m n)) here same)

      whole : is_idle p ≡ false → is_complete p ≡ true
          → One m n (word_after p (W m n)) (update_outcome base m n p)
      whole e f =
          rw (e, f, completes p f (W m n))
          (writes m m n (word_after p 0) here on some below (acted_fits p 0 mask))

      masked : is_idle p ≡ false → is_complete p ≡ false
          → One m n (word_after p (W m n)) (update_outcome base m n p)
      masked e f = rw (e, f) (⊎_elim
          (λ (d : (first.0 ≡ acceptance (W m n ∷ [])) × L m first.1 (W m) 0).
          rw d.0 (rewrites m first.1 n p d.1 on some below mask))
          (λ (b : Broken base m first (n + 0) (W m)). rw b.1 (inr b))
          (fetches base bus m n sound on some below))

  one_updated : (m : P) (n : ℕ) (p : Patch) (q : PagingOutcome M) → class n ≡ Setting
      → One m n (word_after p (W m n)) q → Updated class (V m) n p q.0 (V q.1)
  one_updated m n p q s (inl (r, left)) =
      let apart = λ (i : ℕ) (l : class i ≡ Live).
      replaced_other n (word_after p (W m n)) (W m) i (search rules) in
      inl (r, (stood m q.1 _ 0 left apart, shows m q.1 _ 0 left))
  one_updated m n p q s (inr b) = inr (failed m q n (search rules) b)

  -- all is as it is to be, whether a call was accepted or not
  sound_after : {A : Type 0} (m : P) (q : PagingOutcome M) (f g : ℕ → ℕ) (n : ℕ)
      → (A × L m q.1 f 0) ⊎ Broken base m q n g → PagingSound base q.1
  sound_after m q f g n o = ⊎_elim (λ done. done.1.sound) (λ fault. fault.2.sound) o

  setting_read : (m : P) (n : ℕ) (q : PagingOutcome M) → class n ≡ Setting → Fetches base m n q
      → SettingRead class (V m) n q.0 (V q.1)
  setting_read m n q s (inl (r, left)) =
      let same = shows m q.1 (W m) 0 left in
      inl (r, (stood m q.1 (W m) 0 left (λ i l. refl), same), same)
  setting_read m n q s (inr b) = inr (failed m q n (search rules) b)

  live_read : (m : P) (n : ℕ) (q : PagingOutcome M) → class n ≡ Live → Fetches base m n q
      → LiveRead class (V m) n q.0 (V q.1)
  live_read m n q l (inl (r, left)) =
      let same = shows m q.1 (W m) 0 left in
      inl (r, (stood m q.1 (W m) 0 left (λ i l. refl), same), λ i s. refl)
  live_read m n q l (inr b) = inr (failed m q n (search rules) b)

  -- what a part of a run leaves: no live register lies in it
  ran_live : (first n : ℕ) (vs : List ℕ) (f : ℕ → ℕ) → length vs ≤ n
      → ((i : ℕ) → i < n → class (first + i) ≡ Setting) → Agree class Live (with_run first vs f) f
  ran_live first n vs f short settings i l = ⊎_elim
      (λ before. ran_outside first vs f i (inl before))
      (λ (from : first ≤ i). ⊎_elim
      (λ (within : i < first + length vs).
      let at : first + (i - first) ≡ i = omega arith in
      search (rules, settings))
      (λ after. ran_outside first vs f i (inr after)) (cases_lt i (first + length vs)))
      (cases_lt i first)

  run_ran : (m : P) (first : ℕ) (ws : List ℕ) (q : PagingOutcome M)
      → ((i : ℕ) → i < length ws → class (first + i) ≡ Setting) → Stores base m first ws q
      → Ran class (V m) first ws q.0 (V q.1)
  run_ran m first ws q settings (inl (r, left)) =
      let apart = ran_live first (length ws) ws (W m) (omega arith) settings in
      inl (r, (stood m q.1 _ 0 left apart, shows m q.1 _ 0 left))
  run_ran m first ws q settings (inr (k, few, (cause, r, left))) =
      let part : length (take k ws) ≡ k = length-take-le k ws (omega arith) in
      let apart = ran_live first (length ws) (take k ws) (W m) (omega arith) settings in
      let same = shows m q.1 _ 1 left in
      inr (
        (cause, first + k, 0, (search (rules, settings)), omega arith, r),
        stood m q.1 _ 1 left apart,
        λ i s. ⊎_elim (λ old. inl (same i s ∙ old)) (λ given. inr (same i s ∙ given))
            (ran_part first ws k (W m) i),
      )

  run_sound : (m : P) (first : ℕ) (ws : List ℕ) (q : PagingOutcome M) → Stores base m first ws q
      → PagingSound base q.1
  run_sound m first ws q (inl (r, left)) = left.sound
  run_sound m first ws q (inr (k, few, (cause, r, left))) = left.sound

  -- after `new` and `down` every word is the chart's
  fresh_word : (n : ℕ) → n < 128 → get_or (fresh_words reset 129) n 0 ≡ reset n
  fresh_word n h = fresh_at chart n (omega arith)

  fresh_live : (n : ℕ) → class n ≡ Live → get_or (fresh_words reset 129) n 0 ≡ 0
  fresh_live n l = fresh_word n (live_low n l) ∙ chart.live_reset n l

  fresh_setting : (n : ℕ) → class n ≡ Setting → get_or (fresh_words reset 129) n 0 ≡ reset n
  fresh_setting n s = fresh_word n (setting_low n s)

  is_new : (m : P) → PagingNew base m → NewView class reset (V m)
  is_new m (new, page) = rw (bus.new m.bus new) (record {
    words = record { shown = fresh_setting; settings = fresh_setting };
    live = fresh_live;
    supply = refl;
    failed = refl;
  })

  new_sound : (m : P) → PagingNew base m → PagingSound base m
  new_sound m (new, page) =
      (bus.new_sound m.bus new, rw (page, bus.new m.bus new) (sym bus.first_page))

  module _ (m : P) (n w : ℕ) (sound : PagingSound base m)
      (goes : measure_check (class n) ≡ None) where
    abbrev after : P
    after = paging_of (base.measure m.bus n w).1 m.page

    is_live : class n ≡ Live
    is_live = measure_settled (class n) goes

    chip_is : base.chip (base.measure m.bus n w).1 ≡ after_measure n w (base.chip m.bus)
    chip_is = (bus.measure_done m.bus n w goes).1

    word_is : (i : ℕ) → W after i ≡ cond (is_awake base m) (with_word_at n w (W m)) (W m) i
    word_is i =
        let size = (bus.words m.bus sound.0).size in
        rw chip_is (measured_words (is_awake base m) n w (base.chip m.bus).words i
        (omega (arith, live_low n is_live, size)))

    stands : (i : ℕ) → (i ≡ n → ⊥) → W after i ≡ W m i
    stands i away = word_is i ∙ measured_other (is_awake base m) n w (W m) i away

    setting_stands : Agree class Setting (W after) (W m)
    setting_stands i s = stands i (search (rules, is_live))

    pub is_measured : Measured class n w (V m) (V after)
    is_measured = record {
      shown = setting_stands;
      settings = setting_stands;
      live = λ i l. word_is i;
      supply = rw chip_is refl;
      failed = rw chip_is refl;
    }

    pub measured_believed : Believed m.page (selector (base.chip after.bus).words)
    measured_believed = rw (stands 128 (λ e. omega (arith, live_low n is_live))) sound.1

  is_down : (m : P) → PagingSound base m → WentDown false class reset (V m) (V (port.down m))
  is_down m sound = rw (bus.down_done m.bus sound.0) (record {
    shown = fresh_setting;
    settings = fresh_setting;
    live = fresh_live;
    supply = refl;
    failed = refl;
  })

  down_sound : (m : P) → PagingSound base m → PagingSound base (port.down m)
  down_sound m sound =
      (bus.down_sound m.bus sound.0, rw (bus.down_done m.bus sound.0) (sym bus.first_page))

  is_up : (m : P) → CameUp class (V m) (V (port.up m))
  is_up m = rw (bus.up_done m.bus) (record {
    shown = λ i s. refl;
    settings = λ i s. refl;
    live = λ i l. refl;
    supply = refl;
    failed = refl;
  })

  up_sound : (m : P) → PagingSound base m → PagingSound base (port.up m)
  up_sound m sound = (bus.up_sound m.bus sound.0, rw (bus.up_done m.bus) sound.1)

  -- the fetch of a read that goes on
  pub read_fetches : (m : P) (n : ℕ) → PagingSound base m
      → read_check false (class n) (is_awake base m) ≡ None
      → Fetches base m n (fetch_outcome base m n)
  read_fetches m n sound goes =
      let settled = read_settled false (class n) (is_awake base m) goes in
      let there = in_chart chart n settled.0 in
      fetches base bus m n sound settled.1 there.0 there.1

  pub update_one : (m : P) (n : ℕ) (p : Patch) → PagingSound base m → PatchFits p
      → update_check false (class n) (is_awake base m) ≡ None
      → One m n (word_after p (W m n)) (update_outcome base m n p)
  update_one m n p sound fits goes =
      let settled = update_settled false (class n) (is_awake base m) goes in
      let there = in_chart chart n (search (rules, settled.0)) in
      updates m n p sound settled.1 there.0 there.1 fits.0

  pub run_all : (m : P) (first : ℕ) (ws : List ℕ) → PagingSound base m → Fit ws
      → run_check false class first (length ws) (is_awake base m) ≡ None
      → Stores base m first ws (run_outcome base m first ws)
  run_all m first ws sound fit goes =
      let settled = run_settled false class first (length ws) (is_awake base m) goes in
      let there = run_in_chart chart false first (length ws) (is_awake base m) goes in
      run_stores base bus m first ws sound settled.at_hand fit settled.some settled.few there.0
      there.2

  pub paging_meaning : PortMeaning false class reset (paging_machine base class)
  paging_meaning = record {
    new_sound = new_sound;
    new = is_new;
    fit = λ m sound n s. word_fits m sound n;
    read_refused = λ m n r e. refused_by _ r m _ e;
    setting_read = λ m n sound s e.
        let goes : read_check false (class n) (is_awake base m) ≡ None = rw s e in
        rw goes (setting_read m n (fetch_outcome base m n) s (read_fetches m n sound goes));
    live_read = λ m n sound l e.
        let goes : read_check false (class n) (is_awake base m) ≡ None = rw l e in
        rw goes (live_read m n (fetch_outcome base m n) l (read_fetches m n sound goes));
    kept_read = λ m n sound keeps s. absurd (false≢true keeps);
    read_sound = λ m n sound.
        let q = fetch_outcome base m n in
        either_way (PagingSound base) _ m q sound
        (λ e. sound_after m q _ _ _ (read_fetches m n sound e));
    update_refused = λ m n p r e. refused_by _ r m _ e;
    updated = λ m n p sound fits e.
        let setting = (update_settled false (class n) (is_awake base m) e).0 in
        let q = update_outcome base m n p in
        rw e (one_updated m n p q setting (update_one m n p sound fits e));
    kept_update = λ m n p sound keeps off s. absurd (false≢true keeps);
    update_sound = λ m n p sound fits.
        let q = update_outcome base m n p in
        either_way (PagingSound base) _ m q sound
        (λ e. sound_after m q _ _ _ (update_one m n p sound fits e));
    run_refused = λ m first ws r e. refused_by _ r m _ e;
    ran = λ m first ws sound fit e.
        let settled = run_settled false class first (length ws) (is_awake base m) e in
        let q = run_outcome base m first ws in
        rw e (run_ran m first ws q settled.settings (run_all m first ws sound fit e));
    kept_run = λ m first ws sound fit keeps off e. absurd (false≢true keeps);
    run_sound = λ m first ws sound fit.
        let q = run_outcome base m first ws in
        either_way (PagingSound base) _ m q sound
        (λ e. run_sound m first ws q (run_all m first ws sound fit e));
    sync_refused = λ m r e. refused_by _ r m _ e;
    synced = λ m sound e. rw e (inl (
      refl,
      (record { live = λ i l. refl; supply = refl; failed = sym (add-zero _) }, λ i s. refl),
      λ i s. refl,
    ));
    sync_sound = λ m sound. either_way (PagingSound base) _ m (acceptance [], m) sound (λ _. sound);
    measure_refused = λ m n w r e. refused_by _ r m _ e;
    measured = λ m n w sound e.
        rw e (ap (reply_at n) (bus.measure_done m.bus n w e).0, is_measured m n w sound e);
    measure_sound = λ m n w sound fits. either_way (PagingSound base) _ m _ sound
        (λ e. (bus.measure_sound m.bus n w sound.0 fits, measured_believed m n w sound e));
    down = is_down;
    down_sound = down_sound;
    up = λ m sound. is_up m;
    up_sound = up_sound;
  }
