-- The worked cases are shown. Assumes nothing.
use Prim.Native.Nat.{ℕ, ◌-◌, ◌/◌}
use Rattle.std.proofs.Common.{arith, ◌≡◌, true, false, List, subst, sym}
use Rattle.std.proofs.lemmas.Bool.{cond_both}
use mathlib.Core.Path.{refl, ap, ◌∙◌}
use mathlib.Core.Bool.{cond}
use mathlib.Core.List.{[], ◌∷◌}
use lib.Dec.{lit≤}
use lib.ListN.{take}
use Rattle.std.proofs.lemmas.Fmt.{decimal_digit}
use Rattle.patch.specs.Patch.{setting_to}
use Rattle.refusal.specs.Replies.{Reply, acceptance, refusal_of}
use Rattle.patch.proofs.Masked.{join_example}
use Rattle.chip.specs.Words.{load, rising_words, store_all}
use Rattle.bus_i2c_wire.specs.Frames.{is_good, whole_words}
use Rattle.bus_i2c_wire.proofs.Effects.{put_words}
use Rattle.bus.specs.Checks.{get_check, put_check, unless}
use Rattle.bus_i2c_laws.specs.I2cs.{I2cModel, first_mark, get_cause, put_cause, i2c_get}
use Rattle.bus_i2c_laws.specs.I2cs.{i2c_put}
use Rattle.chart.specs.Charts.{head_class}
use Rattle.trace.specs.Traces.{Traced}
use Rattle.port.specs.Checks.{is_accepted}
use Rattle.port_paging_laws.specs.Machine.{PagingModel, paging_machine}
use Rattle.port_layer.proofs.Standing.{went_on}
use Rattle.port_layer.specs.Layer.{over, back}
use Rattle.port_keeper_laws.specs.Machine.{KeeperModel, hold_setting, setting_back}
use Rattle.check_worked.specs.Cases.{WorkedCases, bus, port, GetUnder, PutOfThree, Piled}
use Rattle.check_worked.specs.Cases.{new_pile, set_to, LeavesOwed, OwedOverADown}

-- a call that is within bounds is sent while the supply is on
get_goes : (m : I2cModel) → m.supply ≡ true → bus.get m 5 ≡ i2c_get m 5
get_goes m on = ap (λ s. unless (get_check 5 s) m (i2c_get m 5)) on

put_goes : (m : I2cModel) (u v w : ℕ) → m.supply ≡ true
    → bus.put m 5 (u ∷ v ∷ w ∷ []) ≡ i2c_put m 5 (u ∷ v ∷ w ∷ [])
put_goes m u v w on = ap (λ s. unless (put_check 5 3 s) m (i2c_put m 5 (u ∷ v ∷ w ∷ []))) on

get_third : GetUnder 3 (refusal_of 6 (1 ∷ 0 ∷ []))
get_third m (on, next) =
    ap (λ q. q.0) (get_goes m on)
    ∙ ap (λ k. cond (is_good k 3) (acceptance (load m.wire.words 5 ∷ []))
    (refusal_of 6 (get_cause k ∷ 0 ∷ []))) next

-- of three words, by the mark
abbrev put_reply : ℕ → Reply
put_reply mark =
    cond (is_good mark 8) (acceptance []) (refusal_of 6 (put_cause mark ∷ (mark - 3) / 2 ∷ []))

put_of_three : (mark : ℕ) → PutOfThree mark (put_reply mark) (whole_words mark 3)
put_of_three mark m u v w (on, next) =
    let ws = u ∷ v ∷ w ∷ [] in
    let goes = put_goes m u v w on in (
      ap (λ q. q.0) goes ∙ ap put_reply next,
      ap (λ q. (bus.chip q.1).words) goes
          ∙ put_words m.wire 5 (first_mark m.line.marks) ws (lit≤ tt)
          ∙ ap (λ k. store_all m.wire.words (rising_words 5 (take (whole_words k 3) ws))) next,
    )

-- a setting that was sent below is held where the answer is yes
set_accepted : {M : Type 0} (m : KeeperModel M) (n w : ℕ) (p : Reply × M)
    → (setting_back m n w p).0 ≡ acceptance []
    → (setting_back m n w p).1 ≡ hold_setting n w false (over m.own p.1)
set_accepted {M = M} m n w p ok =
    let next : KeeperModel M → Reply × KeeperModel M = λ k. (p.0, hold_setting n w false k) in
    let same : (setting_back m n w p).0 ≡ p.0 =
    cond_both (is_accepted p.0) (next (over m.own p.1)) (back m p) (λ q. q.0 ≡ p.0)
    (λ _. refl) (λ _. refl) in
    ap (λ q. q.1) (went_on (back m p) next [] (sym same ∙ ok))

-- what two more updates asleep come to
abbrev TwoUpdates : Piled → Type 0
TwoUpdates m =
    let two = set_to 2 9 (port.down m) in
    LeavesOwed two 2 1 × LeavesOwed (set_to 2 0 two.1) 1 1

two_updates : (a : ℕ) (marks : List ℕ) (tr : Traced) (b : PagingModel I2cModel)
    → TwoUpdates (hold_setting 1 7 false (over (new_pile a marks tr).own b))
two_updates a marks tr b = ((refl, refl), (refl, refl))

owed_over_a_down : OwedOverADown
owed_over_a_down a marks tr ok =
    let m = new_pile a marks tr in
    let p = (paging_machine bus head_class).update m.below 1 (setting_to 7) in
    subst TwoUpdates (sym (set_accepted m 1 7 p ok)) (two_updates a marks tr p.1)

pub worked_cases : WorkedCases
worked_cases = record {
  join = join_example;
  put_sends = refl;
  get_sends = refl;
  get_third = get_third;
  put_sixth = put_of_three 6;
  put_eighth = put_of_three 8;
  put_ninth = put_of_three 9;
  last_of_page = (refl, refl);
  first_of_page = (refl, refl);
  last_of_all = (refl, refl);
  owed_over_a_down = owed_over_a_down;
  good_line = λ a tr. (refl, refl);
  three_runs = refl;
  two_under = rw (decimal_digit 1 (omega arith), decimal_digit 9 (omega arith)) refl;
  none_under = refl;
}
