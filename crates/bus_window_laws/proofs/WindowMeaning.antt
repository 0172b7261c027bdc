-- The window bus has the meaning of a bus. Assumes nothing.
use Rattle.std.proofs.Common.{ℕ, false, length, refl, ap, inl}
use Rattle.chart.specs.declared.class.Class.{Class}
use Rattle.chart.specs.Rules.{ChartRules}
use Rattle.chip.specs.Words.{fresh_words}
use Rattle.chip.proofs.Soundness.{burst_sound, fresh_page, fresh_sound}
use Rattle.bus.specs.Checks.{get_check, put_check, measure_check}
use Rattle.bus.specs.Meaning.{BusMeaning}
use Rattle.bus_window_laws.specs.Windows.{WindowModel, window_of, window_chip, window_machine}
use Rattle.bus.proofs.Settled.{refused_by, either_way, measured_sound}

module _ {count : ℕ} {class : ℕ → Class} {reset : ℕ → ℕ} (rules : ChartRules count class reset)
  where
    abbrev Sound : WindowModel → Type 0
    Sound = (window_machine class reset).Sound

    pub window_meaning : BusMeaning class reset (window_machine class reset)
    window_meaning = record {
      new_sound = λ m new. rw new (fresh_sound rules);
      new = λ m new. ap window_chip new;
      words = λ m sound. sound;
      first_page = fresh_page rules;
      get_refused = λ m raw r e. refused_by _ r m _ e;
      get_sent = λ m raw sound e. rw e (inl (refl, refl));
      get_sound = λ m raw sound. either_way Sound (get_check raw m.supply) m _ sound (λ _. sound);
      put_refused = λ m raw ws r e. refused_by _ r m _ e;
      put_sent = λ m raw ws sound e. rw e (inl (refl, refl));
      put_sound =
          λ m raw ws sound fit. either_way Sound (put_check raw (length ws) m.supply) m _ sound
          (λ _. burst_sound m.words raw ws sound fit);
      measure_refused = λ m n w r e. refused_by _ r m _ e;
      measure_done = λ m n w e. rw e (refl, refl);
      measure_sound =
          λ m n w sound h. either_way Sound (measure_check (class n)) m _ sound
          (measured_sound rules m.supply n w m.words sound h);
      down_done =
          λ m sound. ap (λ k. window_chip (window_of (fresh_words reset k) false)) sound.size;
      down_sound = λ m sound. rw sound.size (fresh_sound rules);
      up_done = λ m. refl;
      up_sound = λ m sound. sound;
    }
