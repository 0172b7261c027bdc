-- The keeper's machine keeps to the keeper's rules, over any port. Assumes nothing.
use Rattle.std.proofs.Common.{◌≡◌, ◌≢◌, ℕ, ◌+◌, ◌<◌, Bool, true, false, not, ◌&&◌, eqb, ◌⊎◌, inl}
use Rattle.std.proofs.Common.{◌↔◌, List, [], ◌∷◌, set, sym, refl, ap, ◌∙◌, ⊎_elim, arith}
use Rattle.std.proofs.lemmas.Bool.{cond_both, eqb-true, eqb-false, eq-eqb, ne_eqb, both_ways}
use Rattle.std.proofs.lemmas.Bool.{and_left, and_right, cases_lt}
use Rattle.std.proofs.lemmas.List.{get_or-set_same, get_or-set_other}
use Rattle.patch.specs.Patch.{word_after, setting_to}
use Rattle.refusal.specs.Replies.{Reply, acceptance}
use Rattle.chart.specs.Rules.{ChartRules}
use Rattle.chart.specs.declared.class.Class.{Class}
use Rattle.chart.specs.declared.class.Class.TheVariants.{Setting}
use Rattle.port.specs.Checks.{is_accepted}
use Rattle.port.specs.Meaning.{PortMachine}
use Rattle.port.specs.Pieces.{Taken}
use Rattle.port.proofs.InPieces.{all_taken}
use Rattle.port_layer.specs.Errands.{on_owed}
use Rattle.port_layer.specs.Layer.{over, back}
use Rattle.port_layer.specs.Laws.{SentInPieces}
use Rattle.port_layer.proofs.LayerLaws.{layer_laws}
use Rattle.port_keeper_marks.specs.Runs.{is_marked, runs, differing, AreRuns}
use Rattle.port_keeper_marks.specs.declared.runs.Run.{Run}
use Rattle.port_keeper_marks.proofs.Running.{runs_are}
use Rattle.port_keeper_marks.proofs.Marking.{marked_set, marked_set_other, marked_differing}
use Rattle.port_keeper_marks.proofs.Marking.{marked_cleared, marked_cleared_other, clears}
use Rattle.port_keeper_laws.specs.Machine.{Own, KeeperModel, Kept, held_at, owed_at}
use Rattle.port_keeper_laws.specs.Machine.{hold_setting, setting_back, without_run}
use Rattle.port_keeper_laws.specs.Machine.{keeper_sending, keeper_layer, keeper_machine}
use Rattle.port_keeper_laws.specs.Laws.{NowHolds, HoldsAlone, SendsSetting, KeeperLaws}
use Rattle.port_keeper_laws.proofs.Holding.{setting_low, kept_differing, runs_behind}

differs : (w r : ℕ) → (not (eqb w r) ≡ true) ↔ (w ≢ r)
differs w r = (
  λ e same. both_ways (not (eqb w r)) (ap not (eq-eqb w r same)) e,
  λ away. ap not (ne_eqb w r away),
)

module _ {M : Type 0} (base : PortMachine M) where
  -- a run goes below
  abbrev run_below : Own → M → Run → Reply × M
  run_below = (keeper_sending base).call

  -- Once all runs from a number on were accepted nothing is owed, where nothing was before it.
  none_after : (rs : List Run) (n : ℕ) (s t : Own) (b c : M)
      → ((i : ℕ) → i < n → is_marked s.owed i ≡ false) → AreRuns (is_marked s.owed) n rs
      → Taken on_owed run_below without_run rs s b t c
      → (i : ℕ) → is_marked t.owed i ≡ false
  none_after [] n s t b c before are taken =
      λ i. ap (λ (o : Own). is_marked o.owed i) taken.0 ∙ ⊎_elim (before i) (are i) (cases_lt i n)
  none_after (r ∷ rs) n s t b c before (next, others) taken =
      let end = r.first + r.count in
      let outside = marked_cleared_other r s.owed in
      none_after rs end (without_run r s) t (run_below s b r).1 c
      (λ i low. ⊎_elim
      (λ early. outside i (inl early) ∙ ⊎_elim (before i) (λ from. next.before i from early)
      (cases_lt i n))
      (λ from. marked_cleared r s.owed i (from, low))
      (cases_lt i r.first))
      (runs_behind r rs s.owed others) taken.1

  -- Nothing is owed after a sending that was accepted.
  pub none_owed : (m : KeeperModel M) (q : Reply × KeeperModel M)
      → SentInPieces (keeper_sending base) m q → q.0.number ≡ 0
      → (i : ℕ) → owed_at q.1 i ≡ false
  none_owed m q sent ok =
      let rs = runs m.own.owed in
      none_after rs 0 m.own q.1.own m.below q.1.below (λ i low. absurd (omega (arith, low)))
      (runs_are m.own.owed)
      (all_taken on_owed (λ c. refl) run_below without_run rs m.own q.1.own m.below q.1.below
      q.0 ok sent)

module _ {count : ℕ} {class : ℕ → Class} {reset : ℕ → ℕ} (chart : ChartRules count class reset)
    {M : Type 0} (keeps : Bool) (base : PortMachine M) where
  -- a setting is given a word and a mark
  module _ (m : KeeperModel M) (n w : ℕ) (k : Kept class reset m.own) (c : class n ≡ Setting) where
    now_holds : (b : M) (o : Bool) → NowHolds n w m (hold_setting n w o (over m.own b))
    now_holds b o = record {
      word = get_or-set_same m.own.held n w 0 (omega (arith, setting_low chart n c, k.size));
      words = λ i away. get_or-set_other m.own.held n i w 0 away;
      marks = λ i away. marked_set_other m.own.owed n i o away;
    }

    mark_here : (o : Bool) → is_marked (set m.own.owed n o) n ≡ o
    mark_here o = marked_set m.own.owed n o (omega (arith, setting_low chart n c, k.marks))

    holds_alone : HoldsAlone reset n w m
        (acceptance [], hold_setting n w (not (eqb w (reset n))) m)
    holds_alone = record {
      reply = refl;
      below = refl;
      holds = now_holds m.below (not (eqb w (reset n)));
      owes = rw (mark_here (not (eqb w (reset n)))) (differs w (reset n));
    }

    sends : SendsSetting base n w m (setting_back m n w (base.update m.below n (setting_to w)))
    sends =
        let p = base.update m.below n (setting_to w) in
        cond_both (is_accepted p.0) (p.0, hold_setting n w false (over m.own p.1)) (back m p)
        (SendsSetting base n w m)
        (λ ok. record {
          went = record { reply = refl; below = refl };
          if_accepted = λ _. (now_holds p.1 false, mark_here false);
          if_refused = λ away. absurd (away (eqb-true _ _ ok));
        })
        (λ away. record {
          went = record { reply = refl; below = refl };
          if_accepted = λ ok. absurd (eqb-false _ _ away ok);
          if_refused = λ _. refl;
        })

  -- a word that is another than the held one, or is owed
  not_there : (m : KeeperModel M) (n w : ℕ) → (w ≢ held_at m n) ⊎ (owed_at m n ≡ true)
      → (eqb w (held_at m n) && not (owed_at m n)) ≡ false
  not_there m n w other = ⊎_elim
      (λ away. and_left _ _ (ne_eqb w (held_at m n) away))
      (λ owed. and_right _ _ (ap not owed))
      other

  is_lost : (m : KeeperModel M) (n : ℕ) → Kept class reset m.own
      → (is_marked (differing reset m.own.held) n ≡ true)
      ↔ ((class n ≡ Setting) × (held_at m n ≢ reset n))
  is_lost m n k =
      let word = held_at m n in
      let told = λ (c : class n ≡ Setting).
      marked_differing reset m.own.held n (omega (arith, setting_low chart n c, k.size)) in (
        λ owed. let c = (kept_differing chart m.own k).settings n owed in
            (c, (differs word (reset n)).0 (sym (told c) ∙ owed)),
        λ both. told both.0 ∙ (differs word (reset n)).1 both.1,
      )

  pub keeper_laws : KeeperLaws base keeps class reset (keeper_machine base keeps class reset)
  keeper_laws =
      let laws = layer_laws base class (keeper_layer base keeps class reset) in
      record {
        owed_runs = λ s. runs_are s.owed;
        run_below = λ s b r. refl;
        run_gone = λ r s. (clears r s.owed, refl);
        layer = laws;
        none_owed = λ m. none_owed base m (laws.send m) (laws.in_pieces m);
        setting_read = λ m n c. rw c refl;
        update_asleep =
            λ m n p k c off. rw (c, off) (holds_alone m n (word_after p (held_at m n)) k c);
        same_update = λ m n p c goes same paid. rw (c, goes, eq-eqb _ _ same, paid) refl;
        other_update = λ m n p k c goes other.
            let w = word_after p (held_at m n) in
            rw (c, goes, not_there m n w other) (sends m n w k c);
        down = λ m. refl;
        down_kept = λ m keeping. rw keeping refl;
        down_lost = λ m n k forgets. rw forgets (is_lost m n k);
      }
