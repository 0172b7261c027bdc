-- A layer over a port is a port. Assumes nothing.
use Rattle.std.proofs.Common.{◌≡◌, ℕ, ◌^◌, ◌<◌, Bool, true, false, inl, inr}
use Rattle.std.proofs.Common.{List, [], ◌∷◌, length, Some, None, Option, sym, refl, ap, ◌∙◌, rules}
use Rattle.refusal.specs.Replies.{Reply, acceptance}
use Rattle.chart.specs.declared.class.Class.{Class}
use Rattle.chart.specs.declared.class.Class.TheVariants.{Absent, Setting, Live}
use Rattle.patch.specs.declared.patch.Patch.{Patch}
use Rattle.chip.specs.Words.{Fit}
use Rattle.bus.specs.Checks.{measure_check, awake_check}
use Rattle.bus.proofs.Settled.{refused_by, either_way}
use Rattle.port.specs.Checks.{read_check, update_check, run_check, onward}
use Rattle.port.specs.Views.{View, Agree}
use Rattle.port.specs.Meaning.{PortMachine, PortMeaning, view, supply, PatchFits, Stood, Fine}
use Rattle.port.specs.Meaning.{SettingRead, AllInChip, LiveRead, Synced, Updated, Ran, Measured}
use Rattle.port.specs.Meaning.{CameUp}
use Rattle.port.specs.OneByOne.{one_by_one}
use Rattle.port.proofs.Settled.{update_settled, run_settled}
use Rattle.port_layer.specs.Layer.{Over, over, back, Layer, layer_machine, send_all, send_first}
use Rattle.port_layer.specs.Layer.{read_class, SentOrFailed, LayerMeaning}
use Rattle.port_layer.proofs.Standing.{went_on, ended, restood, stood_on}
use Rattle.port_layer.proofs.OneByOne.{run_by_updates, run_stays, kept_by_updates}

awake_if : (on : Bool) → awake_check on ≡ None → on ≡ true
awake_if on e = search rules

module _ {class : ℕ → Class} {reset : ℕ → ℕ} {A S M : Type 0} (keeps : Bool)
    (base : PortMachine M) (port : PortMeaning keeps class reset base)
    (l : Layer A S M) (law : LayerMeaning base class l keeps reset) where
  abbrev L : Type 0
  L = Over S M

  abbrev top : PortMachine L
  top = layer_machine base class l

  abbrev seen : L → View
  seen m = view top m

  abbrev lower : M → View
  lower b = view base b

  -- these values are answered, and all is in the chip, or a transfer failed; and all is sound
  abbrev Leaves : List ℕ → L → Reply × L → Type 0
  Leaves vs m r = AllInChip class vs (seen m) r.0 (seen r.1) × l.Sound r.1

  -- a call on the port below, once all was sent
  module _ (next : M → Reply × M) (sound : (b : M) → base.Sound b → base.Sound (next b).1)
      (vs : List ℕ) where
    abbrev Shows : L → M → Type 0
    Shows k b = Agree class Setting (base.shown b) (base.shown k.below)

    -- what is shown here is as before the sending
    as_before : (m k : L) (b : M) → Agree class Setting (seen k).shown (seen m).shown → Shows k b
        → Agree class Setting (seen (over k.own b)).shown (seen m).shown
    as_before m k b same shows i c =
        law.alike k.own (base.shown b) (base.shown k.below) shows i c ∙ same i c

    came_back : (m k : L) (p : Reply × M) → Fine class (seen m) (seen m).shown (seen k)
        → Agree class Setting (base.shown k.below) (seen k).shown
        → l.Sound k → base.Sound p.1 → AllInChip class vs (lower k.below) p.0 (lower p.1)
        → Leaves vs m (back k p)
    came_back m k p (stood, same) all s below (inl (ok, (more, shows), there)) =
        let rest = restood _ _ _ _ (base.chip k.below) (base.chip p.1) more in
        let here = law.alike k.own (base.shown p.1) (base.shown k.below) shows in (
          inl (
            ok,
            (
              stood_on 0 (seen m) (seen k) (seen (over k.own p.1)) stood rest,
              as_before m k p.1 same shows,
            ),
            λ i c. there i c ∙ shows i c ∙ all i c ∙ sym (here i c),
          ),
          law.still k p.1 s below shows more.supply,
        )
    came_back m k p (stood, same) all s below (inr (fault, more, shows)) =
        let rest = restood _ _ _ _ (base.chip k.below) (base.chip p.1) more in (
          inr (
            fault,
            stood_on 1 (seen m) (seen k) (seen (over k.own p.1)) stood rest,
            as_before m k p.1 same shows,
          ),
          law.still k p.1 s below shows more.supply,
        )

    then_below : (m : L) (q : Reply × L) → SentOrFailed base class l m q
        → ((k : L) → Stood class 0 (seen m) (seen k) → base.Sound k.below
        → let p = next k.below in AllInChip class vs (lower k.below) p.0 (lower p.1))
        → Leaves vs m (onward q (λ k. back k (next k.below)))
    then_below m q (inl (ok, fine, all, s)) did =
        let b = law.below q.1 s in
        rw (went_on q (λ k. back k (next k.below)) [] ok)
        (came_back m q.1 (next q.1.below) fine all s (sound q.1.below b) (did q.1 fine.0 b))
    then_below m q (inr (failed, s)) did =
        rw (ended q (λ k. back k (next k.below)) _ failed.0.5) (inr failed, s)

  -- so both a live read and a sync
  reads_live : (m : L) (n : ℕ) → l.Sound m → class n ≡ Live → supply base m.below ≡ true
      → Leaves ((seen m).live n ∷ []) m (send_first l.sending (λ b. base.read b n) m)
  reads_live m n s live on =
      then_below (λ b. base.read b n) (λ b sound. port.read_sound b n sound) ((seen m).live n ∷ [])
      m (send_all l.sending m) (law.sends m s on) (λ k stood b.
      rw (sym (stood.live n live)) (port.live_read k.below n b live (rw (stood.supply ∙ on) refl)))

  syncs : (m : L) → l.Sound m → supply base m.below ≡ true
      → Leaves [] m (send_first l.sending base.sync m)
  syncs m s on =
      then_below base.sync port.sync_sound [] m (send_all l.sending m) (law.sends m s on)
      (λ k stood b. port.synced k.below b (rw (stood.supply ∙ on) refl))

  class_sound : (m : L) (n : ℕ) (c : Class) → l.Sound m → class n ≡ c
      → read_check l.keeps c (supply base m.below) ≡ None
      → l.Sound (read_class base class l m n c).1
  class_sound m n Setting s is e = (law.reads m n s is (search (rules, e))).1
  class_sound m n Live s is e = (reads_live m n s is (awake_if (supply base m.below) e)).1
  class_sound m n Absent s is e = absurd (search (rules, e))

  read_sound : (m : L) (n : ℕ) → l.Sound m → l.Sound (top.read m n).1
  read_sound m n s =
      either_way l.Sound (read_check l.keeps (class n) (supply base m.below)) m
      (read_class base class l m n (class n)) s (class_sound m n (class n) s refl)

  is_live_read : (m : L) (n : ℕ) → l.Sound m → class n ≡ Live
      → read_check l.keeps Live (supply base m.below) ≡ None
      → LiveRead class (seen m) n (top.read m n).0 (seen (top.read m n).1)
  is_live_read m n s live e =
      rw (live, e) (reads_live m n s live (awake_if (supply base m.below) e)).0

  is_setting_read : (m : L) (n : ℕ) → l.Sound m → class n ≡ Setting
      → read_check l.keeps Setting (supply base m.below) ≡ None
      → SettingRead class (seen m) n (top.read m n).0 (seen (top.read m n).1)
  is_setting_read m n s c e = rw (c, e) (law.reads m n s c (search (rules, e))).0

  is_kept_read : (m : L) (n : ℕ) → l.Sound m → l.keeps ≡ true → class n ≡ Setting
      → top.read m n ≡ (acceptance ((seen m).shown n ∷ []), m)
  is_kept_read m n s k c =
      let goes : read_check l.keeps Setting (supply base m.below) ≡ None = search (rules, k) in
      rw (c, goes) (law.kept_read m n s k c)

  is_synced : (m : L) → l.Sound m → awake_check (supply base m.below) ≡ None
      → Synced class (seen m) (top.sync m).0 (seen (top.sync m).1)
  is_synced m s e = rw e (syncs m s (awake_if (supply base m.below) e)).0

  sync_sound : (m : L) → l.Sound m → l.Sound (top.sync m).1
  sync_sound m s =
      either_way l.Sound (awake_check (supply base m.below)) m (send_first l.sending base.sync m) s
      (λ e. (syncs m s (awake_if (supply base m.below) e)).1)

  is_updated : (m : L) (n : ℕ) (p : Patch) → l.Sound m → PatchFits p
      → update_check l.keeps (class n) (supply base m.below) ≡ None
      → Updated class (seen m) n p (top.update m n p).0 (seen (top.update m n p).1)
  is_updated m n p s fits e =
      let at = update_settled l.keeps (class n) (supply base m.below) e in
      rw e (law.changes m n p s fits at.0 at.1).0

  update_sound : (m : L) (n : ℕ) (p : Patch) → l.Sound m → PatchFits p
      → l.Sound (top.update m n p).1
  update_sound m n p s fits =
      either_way l.Sound (update_check l.keeps (class n) (supply base m.below)) m (l.change m n p) s
      (λ e. let at = update_settled l.keeps (class n) (supply base m.below) e in
      (law.changes m n p s fits at.0 at.1).1)

  kept_update : (m : L) (n : ℕ) (p : Patch) → l.Sound m → l.keeps ≡ true
      → supply base m.below ≡ false → class n ≡ Setting → (top.update m n p).0 ≡ acceptance []
  kept_update m n p s k off c =
      let goes : update_check l.keeps (class n) (supply base m.below) ≡ None =
      search (rules, c, k) in
      rw goes (law.kept_change m n p s k off c)

  module _ (m : L) (first : ℕ) (ws : List ℕ) (s : l.Sound m) (fit : Fit ws) where
    abbrev goes_on : Option Reply
    goes_on = run_check l.keeps class first (length ws) (supply base m.below)

    is_ran : goes_on ≡ None
        → Ran class (seen m) first ws (top.run m first ws).0 (seen (top.run m first ws).1)
    is_ran e =
        let run = run_settled l.keeps class first (length ws) (supply base m.below) e in
        rw e (run_by_updates l.keeps class top.update seen l.Sound is_updated update_sound
        m first ws s fit run.at_hand run.settings)

    kept_run : l.keeps ≡ true → supply base m.below ≡ false
        → run_check l.keeps class first (length ws) false ≡ None
        → (top.run m first ws).0 ≡ acceptance []
    kept_run k off e =
        let goes : goes_on ≡ None = rw off e in
        let run = run_settled l.keeps class first (length ws) (supply base m.below) goes in
        rw goes (kept_by_updates l.keeps class top.update seen l.Sound is_updated update_sound
        kept_update m first ws s fit k off run.settings)

    run_sound : l.Sound (top.run m first ws).1
    run_sound =
        either_way l.Sound goes_on m (one_by_one top.update m first ws) s
        (λ _. run_stays l.keeps class top.update seen l.Sound is_updated update_sound
        m first ws s fit)

  is_measured : (m : L) (n w : ℕ) (p : Reply × M)
      → Measured class n w (lower m.below) (lower p.1)
      → Measured class n w (seen m) (seen (back m p).1)
  is_measured m n w p d = record {
    shown = law.alike m.own (base.shown p.1) (base.shown m.below) d.shown;
    settings = d.settings;
    live = d.live;
    supply = d.supply;
    failed = d.failed;
  }

  measure_sound : (m : L) (n w : ℕ) (o : Option Reply) → measure_check (class n) ≡ o
      → l.Sound m → w < 2 ^ 16 → l.Sound (top.measure m n w).1
  measure_sound m n w None e s h =
      let b = law.below m s in
      let d = (port.measured m.below n w b e).1 in
      law.still m (base.measure m.below n w).1 s (port.measure_sound m.below n w b h)
      d.shown d.supply
  measure_sound m n w (Some r) e s h = rw (port.measure_refused m.below n w r e) s

  is_up : (m : L) (b : M) → CameUp class (lower m.below) (lower b)
      → CameUp class (seen m) (seen (over m.own b))
  is_up m b u = record {
    shown = law.alike m.own (base.shown b) (base.shown m.below) u.shown;
    settings = u.settings;
    live = u.live;
    supply = u.supply;
    failed = u.failed;
  }

  pub layer_meaning : PortMeaning l.keeps class reset top
  layer_meaning = record {
    new_sound = λ m new.
        rw new.1 (law.made m.below (port.new_sound m.below new.0) (port.new m.below new.0)).1;
    new = λ m new.
        rw new.1 (law.made m.below (port.new_sound m.below new.0) (port.new m.below new.0)).0;
    fit = law.fit;
    read_refused = λ m n r e. refused_by _ r m _ e;
    setting_read = is_setting_read;
    live_read = is_live_read;
    kept_read = is_kept_read;
    read_sound = read_sound;
    update_refused = λ m n p r e. refused_by _ r m _ e;
    updated = is_updated;
    kept_update = kept_update;
    update_sound = update_sound;
    run_refused = λ m first ws r e. refused_by _ r m _ e;
    ran = is_ran;
    kept_run = kept_run;
    run_sound = run_sound;
    sync_refused = λ m r e. refused_by _ r m _ e;
    synced = is_synced;
    sync_sound = sync_sound;
    measure_refused = λ m n w r e. ap (back m) (port.measure_refused m.below n w r e);
    measured = λ m n w s e.
        let d = port.measured m.below n w (law.below m s) e in
        (d.0, is_measured m n w (base.measure m.below n w) d.1);
    measure_sound = λ m n w s h. measure_sound m n w (measure_check (class n)) refl s h;
    down = λ m s.
        let b = law.below m s in
        let d = port.down m.below b in
        (law.went_down m (base.down m.below) s (port.down_sound m.below b) d).0;
    down_sound = λ m s.
        let b = law.below m s in
        let d = port.down m.below b in
        (law.went_down m (base.down m.below) s (port.down_sound m.below b) d).1;
    up = λ m s. is_up m (base.up m.below) (port.up m.below (law.below m s));
    up_sound = λ m s.
        let b = law.below m s in
        law.came_up m (base.up m.below) s (port.up_sound m.below b) (port.up m.below b);
  }
