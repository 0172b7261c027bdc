-- No wrong run is audited. Assumes nothing.
use Rattle.std.proofs.Common.{◌≡◌, ◌≢◌, ℕ, List, [], ◌∷◌, refl, sym, ap, arith}
use Rattle.std.proofs.lemmas.Bool.{false≢true}
use Rattle.std.specs.Prelude.{slice_index}
use Rattle.refusal.specs.Replies.{Reply}
use Rattle.port_ledger.specs.Planted.{NoneAudited}

never : (a b : ℕ) → a ≢ b → a ≡ b → ⊥
never a b differ same = differ same

-- the first value of a reply
abbrev first : List ℕ → ℕ
first [] = 0
first (v ∷ vs) = v

abbrev answered : Reply → ℕ
answered r = first r.values

pub none_audited : NoneAudited
none_audited = record {
  false_line = λ a. false≢true ((a.each [] _ [] refl).line.0 refl);
  false_line_at_update = λ a. false≢true ((a.each [] _ [] refl).line.0 refl);
  line_at_setting = λ a.
      never 6 0 (omega arith) (ap (λ r. r.number) ((a.each [] _ [] refl).setting_read 1 refl refl));
  hidden_failure = λ a. never 0 6 (omega arith) ((a.each [] _ [] refl).line.1 refl);
  failure_at_down = λ a. never 0 6 (omega arith) ((a.each [] _ [] refl).line.1 refl);
  two_failures = λ a. never 2 1 (omega arith) (a.each [] _ [] refl).once;
  line_at_measure = λ a. never 6 0 (omega arith) (ap (λ r. r.number) (a.each [] _ [] refl).reply);
  line_at_down = λ a. never 6 0 (omega arith) (ap (λ r. r.number) (a.each [] _ [] refl).reply);
  line_at_up = λ a. never 6 0 (omega arith) (ap (λ r. r.number) (a.each [] _ [] refl).reply);
  count_falls = λ a. never 0 1 (omega arith) (a.each (_ ∷ []) _ [] refl).once;
  refused_update_shown = λ a.
      never 7 0 (omega arith) (ap answered ((a.each (_ ∷ []) _ [] refl).setting_read 1 refl refl));
  setting_asleep = λ a.
      let now = a.each (_ ∷ []) _ [] refl in
      never 5 0 (omega arith) (ap (λ r. r.number) (now.setting_read 1 refl refl));
  update_asleep = λ a. false≢true ((a.each (_ ∷ []) _ [] refl).asleep.0 refl).0;
  down_stays = λ a. false≢true (sym (a.each [] _ [] refl).chip.supply);
  measure_lost = λ a. never 0 9 (omega arith) ((a.each [] _ [] refl).chip.live 2 refl);
  false_asleep = λ a. false≢true (sym ((a.each [] _ [] refl).asleep.0 refl).1);
  supply_stays = λ a. false≢true (sym ((a.each (_ ∷ []) _ [] refl).asleep.0 refl).1);
  supply_lost = λ a. never 0 5 (omega arith) ((a.each (_ ∷ []) _ [] refl).asleep.1 (refl, refl));
  reading_asleep = λ a. never 0 5 (omega arith) ((a.each (_ ∷ []) _ [] refl).asleep.1 (refl, refl));
  absent_read = λ a. never 0 2 (omega arith) (ap (λ r. r.number) (a.each [] _ [] refl).reply);
  dropped_update = λ a.
      never 0 7 (omega arith) (ap answered ((a.each (_ ∷ []) _ [] refl).setting_read 1 refl refl));
  false_acceptance = λ a. never 0 7 (omega arith) ((a.each (_ ∷ []) _ [] refl).history 1 refl);
  idle_sync = λ a. never 0 7 (omega arith) ((a.each (_ ∷ []) _ [] refl).sync refl refl 1 refl);
  sync_once = λ a.
      never 7 9 (omega arith) ((a.each (_ ∷ _ ∷ _ ∷ []) _ [] refl).sync refl refl 1 refl);
  forgotten_setting = λ a.
      let now = a.each (_ ∷ _ ∷ _ ∷ _ ∷ []) _ [] refl in
      never 0 7 (omega arith) ((now.live_read 2 refl refl refl).settings 1 refl);
  early_reading = λ a.
      let now = a.each (_ ∷ []) _ [] refl in
      never 0 7 (omega arith) ((now.live_read 2 refl refl refl).settings 1 refl);
  invented_word = λ a.
      let now = a.each [] _ [] refl in
      never 9 0 (omega arith) (ap answered (now.live_read 2 refl refl refl).answered);
  word_beside_chip = λ a.
      let now = a.each (_ ∷ []) _ [] refl in
      never 0 9 (omega arith) (now.live_read 2 refl refl refl).chips;
  live_word_kept = λ a.
      let now = a.each (_ ∷ _ ∷ _ ∷ []) _ [] refl in
      never 9 0 (omega arith) (ap answered (now.live_read 2 refl refl refl).answered);
  torn = λ a. never 7 0 (omega arith) (ap (λ c. slice_index c.words 1) a.joined.1.0);
  torn_supply = λ a. false≢true (ap (λ c. c.supply) a.joined.1.0);
  torn_count = λ a. never 1 0 (omega arith) (ap (λ c. c.failed) a.joined.1.0);
  torn_first = λ a. never 7 0 (omega arith) (ap (λ c. slice_index c.words 1) a.joined.0);
  torn_last = λ a. never 7 0 (omega arith) (ap (λ c. slice_index c.words 1) a.joined.1);
  found_set = λ a. never 7 0 (omega arith) (a.new.settings 1 refl);
  found_measured = λ a. never 9 0 (omega arith) (a.new.live 2 refl);
  found_asleep = λ a. false≢true a.new.supply;
  found_failed = λ a. never 1 0 (omega arith) a.new.failed;
}
