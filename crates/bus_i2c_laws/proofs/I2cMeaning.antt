-- The I2C bus has the meaning of a bus. Assumes nothing.
use Rattle.std.proofs.Common.{◌≡◌, ℕ, ◌+◌, ◌-◌, ◌*◌, ◌/◌, ◌<◌, ◌≤◌, Bool, List, length, take, None}
use Rattle.std.proofs.Common.{refl, ap, inl, inr, ⊎_elim, arith}
use Rattle.std.proofs.lemmas.List.{take_all}
use Rattle.std.proofs.lemmas.Bool.{cases_Bool}
use Rattle.std.proofs.lemmas.Bool.Decides.{nat_tests}
use Rattle.chart.specs.declared.class.Class.{Class}
use Rattle.chart.specs.Rules.{ChartRules}
use Rattle.chip.specs.Words.{load, Fit, WordsSound}
use Rattle.chip.proofs.Soundness.{take_fits, burst_sound, fresh_page, fresh_sound}
use Rattle.bus_i2c_wire.specs.Frames.{is_good, whole_words}
use Rattle.bus_i2c_wire.proofs.Effects.{put_words, get_words}
use Rattle.bus.specs.Checks.{get_check, put_check, measure_check}
use Rattle.bus.specs.Meaning.{BusMeaning, Got, Put}
use Rattle.bus_i2c_laws.specs.I2cs.{I2cModel, first_mark, i2c_get, i2c_put, put_cause}
use Rattle.bus_i2c_laws.specs.I2cs.{get_cause}
use Rattle.bus_i2c_laws.specs.I2cs.{i2c_chip, i2c_machine}
use Rattle.bus.proofs.Settled.{refused_by, either_way, measured_sound}

-- a put that is sent has a word, and ends below raw 64
put_bounds : (raw n : ℕ) (on : Bool) → put_check raw n on ≡ None → (0 < n) × (raw + n ≤ 64)
put_bounds raw n on e = grind (arith, nat_tests)

get_means : (m : I2cModel) (raw : ℕ)
    → Got (i2c_chip m) raw (i2c_get m raw).0 (i2c_chip (i2c_get m raw).1)
get_means m raw =
    let mark = first_mark m.line.marks in
    let same = get_words m.wire raw (load m.wire.words raw) mark in
    ⊎_elim (λ g. inl (grind arith, grind arith))
    (λ g. inr (get_cause mark, grind arith, grind arith)) (cases_Bool (is_good mark 3))

put_means : (m : I2cModel) (raw : ℕ) (ws : List ℕ) → 0 < length ws → raw + length ws ≤ 64
    → Put (i2c_chip m) raw ws (i2c_put m raw ws).0 (i2c_chip (i2c_put m raw ws).1)
put_means m raw ws some fits =
    let mark = first_mark m.line.marks in
    let n = length ws in
    let stored = put_words m.wire raw mark ws fits in
    ⊎_elim
    (λ g. let all = take_all n ws (omega arith) in inl (grind arith, grind arith))
    (λ g. let few : (mark - 3) / 2 < n = grind (arith, nat_tests) in
    inr (put_cause mark, (mark - 3) / 2, few, grind arith, grind arith))
    (cases_Bool (is_good mark (2 + 2 * n)))

put_keeps : (m : I2cModel) (raw : ℕ) (ws : List ℕ) → WordsSound m.wire.words → Fit ws
    → raw + length ws ≤ 64 → WordsSound (i2c_put m raw ws).1.wire.words
put_keeps m raw ws sound fit fits =
    let mark = first_mark m.line.marks in
    let k = whole_words mark (length ws) in
    rw (put_words m.wire raw mark ws fits)
    (burst_sound m.wire.words raw (take k ws) sound (take_fits k ws fit))

module _ {count : ℕ} {class : ℕ → Class} {reset : ℕ → ℕ} (rules : ChartRules count class reset)
  where
    abbrev Sound : I2cModel → Type 0
    Sound = (i2c_machine class reset).Sound

    pub i2c_meaning : BusMeaning class reset (i2c_machine class reset)
    i2c_meaning = record {
      new_sound = λ m new. rw new.3 (fresh_sound rules);
      new = λ m new. ap i2c_chip new.3;
      words = λ m sound. sound;
      first_page = fresh_page rules;
      get_refused = λ m raw r e. refused_by _ r m _ e;
      get_sent = λ m raw sound e. rw e (get_means m raw);
      get_sound =
          λ m raw sound. either_way Sound (get_check raw m.supply) m (i2c_get m raw) sound
          (λ _. let word = load m.wire.words raw in
          rw (get_words m.wire raw word (first_mark m.line.marks)) sound);
      put_refused = λ m raw ws r e. refused_by _ r m _ e;
      put_sent = λ m raw ws sound e. let b = put_bounds raw (length ws) m.supply e in
          rw e (put_means m raw ws b.0 b.1);
      put_sound =
          λ m raw ws sound fit. either_way Sound (put_check raw (length ws) m.supply) m
          (i2c_put m raw ws) sound
          (λ e. put_keeps m raw ws sound fit (put_bounds raw (length ws) m.supply e).1);
      measure_refused = λ m n w r e. refused_by _ r m _ e;
      measure_done = λ m n w e. rw e (refl, refl);
      measure_sound =
          λ m n w sound h. either_way Sound (measure_check (class n)) m _ sound
          (measured_sound rules m.supply n w m.wire.words sound h);
      down_done = λ m sound. refl;
      down_sound = λ m sound. fresh_sound rules;
      up_done = λ m. refl;
      up_sound = λ m sound. sound;
    }
