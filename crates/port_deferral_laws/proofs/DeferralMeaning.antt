-- A deferral has the meaning of a port, and keeps, if the port below does. Assumes nothing.
use Rattle.std.proofs.Common.{◌≡◌, ℕ, ◌^◌, ◌<◌, Bool, true, false, cond, ◌||◌, ◌⊎◌, inl, inr}
use Rattle.std.proofs.Common.{⊎_elim, [], ◌∷◌, Some, None, Option, sym, refl, ap, ◌∙◌, arith, rules}
use Rattle.std.proofs.lemmas.Bool.{cases_eq, cond_both}
use Rattle.std.proofs.lemmas.Bool.Decides.{nat_tests}
use Rattle.patch.specs.Patch.{word_after, is_complete}
use Rattle.refusal.specs.Replies.{Reply, acceptance}
use Rattle.chart.specs.declared.class.Class.{Class}
use Rattle.chart.specs.declared.class.Class.TheVariants.{Setting}
use Rattle.patch.specs.declared.patch.Patch.{Patch}
use Rattle.patch.proofs.Masked.{completes}
use Rattle.port.specs.Checks.{read_check, is_accepted, onward}
use Rattle.port.specs.Views.{View, Agree, with_word_at}
use Rattle.port.specs.Meaning.{PortMachine, PortMeaning, view, supply, PatchFits, Fine, Failed}
use Rattle.port.specs.Meaning.{SettingRead, Updated, WentDown}
use Rattle.port.proofs.Replacing.{replaced_other}
use Rattle.port_layer.specs.Layer.{over, back, send_all, LayerMeaning, SentOrFailed}
use Rattle.port_layer.proofs.Standing.{went_on, ended, restood, stood_still, stood_on}
use Rattle.port_layer.proofs.LayerMeaning.{layer_meaning}
use Rattle.port_deferral_table.specs.Entries.{waiting_patch, word_under, takes, enter}
use Rattle.port_deferral_table.proofs.Finding.{under_fits}
use Rattle.port_deferral_table.proofs.Placing.{entered_is_table, entered_other, enters}
use Rattle.port_deferral_laws.specs.Machine.{DeferralModel, DeferralSound, new_deferral}
use Rattle.port_deferral_laws.specs.Machine.{reply_under, with_update, read_back, deferral_sending}
use Rattle.port_deferral_laws.specs.Machine.{make_place, change_setting, read_by}
use Rattle.port_deferral_laws.specs.Machine.{deferral_layer, deferral_machine}
use Rattle.port_deferral_laws.proofs.Sending.{AllSent, all_sent}

module _ {class : ℕ → Class} {reset : ℕ → ℕ} {M : Type 0} (keeps : Bool)
    (base : PortMachine M) (port : PortMeaning keeps class reset base) where
  abbrev D : Type 0
  D = DeferralModel M

  abbrev top : PortMachine D
  top = deferral_machine base keeps class

  abbrev seen : D → View
  seen m = view top m

  -- as the port below shows it
  abbrev lower : M → View
  lower b = view base b

  abbrev S : D → Type 0
  S = DeferralSound base class

  abbrev all : D → Reply × D
  all = send_all (deferral_sending base)

  abbrev AtHand : D → Type 0
  AtHand m = (keeps || supply base m.below) ≡ true

  abbrev OnLine : D → Type 0
  OnLine m = keeps ≡ true → supply base m.below ≡ false → ⊥

  -- a call below that leaves what is always so there
  stays_sound : (m : D) (b : M) → S m → base.Sound b → S (over m.own b)
  stays_sound m b s sound = record { below = sound; table = s.table; settings = s.settings }

  shown_fits : (m : D) (n : ℕ) → S m → class n ≡ Setting → (seen m).shown n < 2 ^ 16
  shown_fits m n s c =
      under_fits 0 n (base.shown m.below n) m.own s.table.1 (port.fit m.below s.below n c)

  module _ (n : ℕ) (p : Patch) where
    abbrev waits : D → Reply × D
    waits k = (acceptance [], with_update k n p)

    -- what an update leaves; where it is refused, the line was used
    abbrev Changes : D → Reply × D → Type 0
    Changes m q =
        (((q.0 ≡ acceptance [])
        × Fine class (seen m) (with_word_at n (word_after p ((seen m).shown n)) (seen m).shown)
        (seen q.1))
        ⊎ (Failed class (seen m) q.0 (seen q.1) × OnLine m))
        × S q.1

    empty_takes : takes n p [] ≡ true
    empty_takes = search rules

    -- a place was made, or a transfer failed
    abbrev PlaceMade : D → Reply × D → Type 0
    PlaceMade m q =
        ((q.0 ≡ acceptance []) × Fine class (seen m) (seen m).shown (seen q.1)
        × (takes n p q.1.own ≡ true) × S q.1)
        ⊎ (Failed class (seen m) q.0 (seen q.1) × OnLine m × S q.1)

    all_makes : (m : D) (q : Reply × D) → AllSent keeps base port m q → PlaceMade m q
    all_makes m q (inl (ok, fine, none, s)) =
        inl (ok, fine, ap (takes n p) none ∙ empty_takes, s)
    all_makes m q (inr (failed, line, s)) = inr (failed, line, s)

    makes : (m : D) → S m → AtHand m → PlaceMade m (make_place base m n p)
    makes m s hand = cond_both (takes n p m.own) (acceptance [], m) (all m) (PlaceMade m)
        (λ place. inl (refl, (stood_still (seen m), λ i d. refl), place, s))
        (λ _. all_makes m (all m) (all_sent keeps base port m s hand))

    kept_waits : (m : D) (q : Reply × D) → keeps ≡ true → supply base m.below ≡ false
        → PlaceMade m q → (onward q waits).0 ≡ acceptance []
    kept_waits m q k off (inl (ok, fine, place, s)) = ap (λ x. x.0) (went_on q waits [] ok)
    kept_waits m q k off (inr (failed, line, s)) = absurd (line k off)

    module _ (c : class n ≡ Setting) (fits : PatchFits p) where
      -- it finds a place
      waits_shown : (m : D) → S m → takes n p m.own ≡ true → (i : ℕ) → class i ≡ Setting
          → (seen (with_update m n p)).shown i
          ≡ with_word_at n (word_after p ((seen m).shown n)) (seen m).shown i
      waits_shown m s place i d =
          let e = enters n p m.own fits s.table place in
          let fit = port.fit m.below s.below n c in
          let w = word_after p ((seen m).shown n) in
          ⊎_elim
          (λ at. rw at (e.here (base.shown m.below n) fit ∙ grind (arith, nat_tests)))
          (λ away.
          e.others i (base.shown m.below i) away
          ∙ sym (replaced_other n w (seen m).shown i away))
          (cases_eq i n)

      waits_settings : (m : D) → S m → (i : ℕ) (q : Patch)
          → waiting_patch i (enter n p m.own) ≡ Some q
          → class i ≡ Setting
      waits_settings m s i q is = ⊎_elim
          (λ at. ap class at ∙ c)
          (λ away. s.settings i q (sym (entered_other n p m.own i away) ∙ is))
          (cases_eq i n)

      waits_sound : (m : D) → S m → S (with_update m n p)
      waits_sound m s = record {
        below = s.below;
        table = entered_is_table n p m.own fits s.table;
        settings = waits_settings m s;
      }

      replaced_by : (f g : ℕ → ℕ) (i : ℕ) → f n ≡ g n → f i ≡ g i
          → with_word_at n (word_after p (f n)) f i ≡ with_word_at n (word_after p (g n)) g i
      replaced_by f g i here there = rw (here, there) refl

      then_waits : (m : D) (q : Reply × D) → PlaceMade m q → Changes m (onward q waits)
      then_waits m q (inl (ok, (stood, same), place, s)) =
          let k = with_update q.1 n p in
          let chip = base.chip q.1.below in
          let still = restood _ _ _ _ chip chip (stood_still (seen q.1)) in
          rw (went_on q waits [] ok) (
            inl (
              refl,
              (
                stood_on 0 (seen m) (seen q.1) (seen k) stood still,
                λ i d.
                    waits_shown q.1 s place i d
                    ∙ replaced_by (seen q.1).shown (seen m).shown i (same n c) (same i d),
              ),
            ),
            waits_sound q.1 s,
          )
      then_waits m q (inr (failed, line, s)) =
          rw (ended q waits _ failed.0.5) (inr (failed, line), s)

      changes : (m : D) → S m → AtHand m → Changes m (change_setting base m n p)
      changes m s hand = then_waits m (make_place base m n p) (makes m s hand)

    is_updated : (m : D) (q : Reply × D) → Changes m q
        → Updated class (seen m) n p q.0 (seen q.1) × S q.1
    is_updated m q (inl fine, s) = (inl fine, s)
    is_updated m q (inr failed, s) = (inr failed.0, s)

  -- a setting read below, and its word under what waits
  module _ (m : D) (n : ℕ) (s : S m) (c : class n ≡ Setting) where
    abbrev Reads : Reply × D → Type 0
    Reads q = SettingRead class (seen m) n q.0 (seen q.1)

    abbrev ReadBelow : Reply × M → Type 0
    ReadBelow q = SettingRead class (lower m.below) n q.0 (lower q.1)

    -- the word that is shown, by what waits for it
    abbrev word : ℕ
    word = (seen m).shown n

    answers : (o : Option Patch) → waiting_patch n m.own ≡ o
        → word_under o (base.shown m.below n) ≡ word
    answers o is = ap (λ x. word_under x (base.shown m.below n)) (sym is)

    -- what is shown goes on to be, where it does below
    as_below : (b : M) → Agree class Setting (base.shown b) (base.shown m.below)
        → Agree class Setting (seen (over m.own b)).shown (seen m).shown
    as_below b shows i d = ap (word_under (waiting_patch i m.own)) (shows i d)

    read_through : (q : Reply × M) → waiting_patch n m.own ≡ None → ReadBelow q → Reads (back m q)
    read_through q none (inl (ok, (stood, shows), stand)) = inl (
      ok ∙ ap (λ w. acceptance (w ∷ [])) (answers None none),
      (restood _ _ _ _ (base.chip m.below) (base.chip q.1) stood, as_below q.1 shows),
      stand,
    )
    read_through q none (inr (fault, stood, shows)) = inr (
      fault,
      restood _ _ _ _ (base.chip m.below) (base.chip q.1) stood,
      as_below q.1 shows,
    )

    -- the answered word comes under the patch
    abbrev covering : Patch → Reply × M → D → Reply × D
    covering p q k = (reply_under p q.0, k)

    read_patched : (p : Patch) (q : Reply × M) → waiting_patch n m.own ≡ Some p → ReadBelow q
        → Reads (read_back m p q)
    read_patched p q is (inl (ok, (stood, shows), stand)) =
        rw (went_on (back m q) (covering p q) _ ok)
        (inl (
          ap (reply_under p) ok ∙ ap (λ w. acceptance (w ∷ [])) (answers (Some p) is),
          (restood _ _ _ _ (base.chip m.below) (base.chip q.1) stood, as_below q.1 shows),
          stand,
        ))
    read_patched p q is (inr (fault, stood, shows)) =
        rw (ended (back m q) (covering p q) _ fault.5)
        (inr (
          fault,
          restood _ _ _ _ (base.chip m.below) (base.chip q.1) stood,
          as_below q.1 shows,
        ))

    -- a whole patch makes the word that is shown of any
    whole_word : (p : Patch) → waiting_patch n m.own ≡ Some p → is_complete p ≡ true
        → word_after p 0 ≡ word
    whole_word p is whole =
        sym (completes p whole (base.shown m.below n)) ∙ answers (Some p) is

    read_whole : (p : Patch) → waiting_patch n m.own ≡ Some p → is_complete p ≡ true
        → Reads (acceptance (word_after p 0 ∷ []), m)
    read_whole p is whole = inl (
      ap (λ w. acceptance (w ∷ [])) (whole_word p is whole),
      (stood_still (seen m), λ i d. refl),
      λ i d. refl,
    )

    reads : (o : Option Patch) → waiting_patch n m.own ≡ o → ReadBelow (base.read m.below n)
        → Reads (read_by base m n o)
    reads None is did = read_through (base.read m.below n) is did
    reads (Some p) is did = cond_both (is_complete p) _ _ Reads
        (read_whole p is)
        (λ _. read_patched p (base.read m.below n) is did)

    after_read : S (over m.own (base.read m.below n).1)
    after_read = stays_sound m (base.read m.below n).1 s (port.read_sound m.below n s.below)

    reads_sound : (o : Option Patch) → S (read_by base m n o).1
    reads_sound None = after_read
    reads_sound (Some p) =
        let accepts = is_accepted (base.read m.below n).0 in
        cond_both (is_complete p) _ _ (λ (r : Reply × D). S r.1)
        (λ _. s)
        (λ _. cond_both accepts _ _ (λ (r : Reply × D). S r.1) (λ _. after_read) (λ _. after_read))

    -- a port that keeps is read without the line, and so is what waits for it
    kept_reads : (o : Option Patch) → waiting_patch n m.own ≡ o → keeps ≡ true
        → read_by base m n o ≡ (acceptance (word ∷ []), m)
    kept_reads None is k =
        ap (back m) (port.kept_read m.below n s.below k c)
        ∙ ap (λ w. (acceptance (w ∷ []), m)) (answers None is)
    kept_reads (Some p) is k = cond_both (is_complete p) _ _ (λ q. q ≡ (acceptance (word ∷ []), m))
        (λ whole. ap (λ w. (acceptance (w ∷ []), m)) (whole_word p is whole))
        (λ _.
        ap (read_back m p) (port.kept_read m.below n s.below k c)
        ∙ ap (λ w. (acceptance (w ∷ []), m)) (answers (Some p) is))

  read_goes : (m : D) → AtHand m → read_check keeps Setting (supply base m.below) ≡ None
  read_goes m hand = search (rules, hand)

  -- where no entry is left, all that is shown is shown below too
  sent_or_failed : (m : D) (q : Reply × D) → AllSent keeps base port m q
      → SentOrFailed base class (deferral_layer base keeps class) m q
  sent_or_failed m q (inl (ok, fine, none, s)) = inl (
    ok,
    fine,
    λ i c. ap (λ es. word_under (waiting_patch i es) (base.shown q.1.below i)) (sym none),
    s,
  )
  sent_or_failed m q (inr (failed, line, s)) = inr (failed, s)

  none_sound : (b : M) → base.Sound b → S (new_deferral b)
  none_sound b sound = record {
    below = sound;
    table = (omega arith, tt);
    settings = λ n p is. absurd (search (rules, is));
  }

  -- A port that keeps has its settings after a down, under what waits still; one that forgets has
  -- reset words, and nothing waits.
  went_down : (m : D) (b : M) → S m → base.Sound b → (k : Bool)
      → WentDown k class reset (lower m.below) (lower b)
      → let after = over (cond k m.own []) b in
      WentDown k class reset (seen m) (seen after) × S after
  went_down m b s sound true d = (
    record {
      shown = λ i c. ap (word_under (waiting_patch i m.own)) (d.shown i c);
      settings = d.settings;
      live = d.live;
      supply = d.supply;
      failed = d.failed;
    },
    stays_sound m b s sound,
  )
  went_down m b s sound false d = (
    record {
      shown = d.shown;
      settings = d.settings;
      live = d.live;
      supply = d.supply;
      failed = d.failed;
    },
    none_sound b sound,
  )

  deferral_law : LayerMeaning base class (deferral_layer base keeps class) keeps reset
  deferral_law = record {
    alike = λ es f g same i c. ap (word_under (waiting_patch i es)) (same i c);
    fit = λ m s n c. shown_fits m n s c;
    below = λ m s. s.below;
    still = λ m b s sound same on. stays_sound m b s sound;
    reads = λ m n s c hand.
        let did = port.setting_read m.below n s.below c (read_goes m hand) in (
          reads m n s c (waiting_patch n m.own) refl did,
          reads_sound m n s c (waiting_patch n m.own),
        );
    kept_read = λ m n s k c. kept_reads m n s c (waiting_patch n m.own) refl k;
    changes = λ m n p s fits c hand.
        is_updated n p m (change_setting base m n p) (changes n p c fits m s hand);
    kept_change = λ m n p s k off c.
        kept_waits n p m (make_place base m n p) k off (makes n p m s (search (rules, k)));
    sends = λ m s on.
        sent_or_failed m (all m) (all_sent keeps base port m s (search (rules, on)));
    went_down = λ m b s sound d. went_down m b s sound keeps d;
    came_up = λ m b s sound u. stays_sound m b s sound;
    made = λ b sound v. (v, none_sound b sound);
  }

  pub deferral_meaning : PortMeaning keeps class reset (deferral_machine base keeps class)
  deferral_meaning = layer_meaning keeps base port (deferral_layer base keeps class) deferral_law
