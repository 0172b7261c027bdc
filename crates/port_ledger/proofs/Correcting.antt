-- What makes a call correct, and a run. Assumes nothing.
use Rattle.std.proofs.Common.{◌≡◌, ◌↔◌, ℕ, ◌+◌, Bool, true, false, cond, not, eqb, List, [], ◌∷◌}
use Rattle.std.proofs.Common.{◌++◌, sym, subst, refl, ap, ◌∙◌, arith}
use Rattle.std.proofs.lemmas.Bool.Decides.{nat_tests}
use Rattle.refusal.specs.Replies.{Reply, acceptance, refusal_of}
use Rattle.chart.specs.declared.class.Class.{Class}
use Rattle.chart.specs.declared.class.Class.TheVariants.{Setting, Live}
use Rattle.bus.specs.Checks.{unless}
use Rattle.port.specs.Views.{Agree}
use Rattle.bench_call.specs.declared.PortCall.TheVariants.{Read}
use Rattle.port_ledger.specs.Moments.{Moment, transfer_failed, plain_reply, due_word}
use Rattle.port_ledger.specs.Ledger.{Ledger, when, or_else, is_live, needs_supply, booking}
use Rattle.port_ledger.specs.Ledger.{ledger_after}
use Rattle.port_ledger.specs.Audited.{ChipDue, AsBooked, Correct}

-- only a fault has parts that are left aside
plain_by : (r : Reply) (vs : List ℕ) (fault : Bool)
    → cond fault (refusal_of 6 []) r ≡ acceptance vs → r ≡ acceptance vs
plain_by r vs true e =
    let six : ◌≡◌ {A = ℕ} 6 0 = ap (λ x. x.number) e in absurd (omega arith)
plain_by r vs false e = e

plain_accepted : (r : Reply) (vs : List ℕ) → plain_reply r ≡ acceptance vs → r ≡ acceptance vs
plain_accepted r vs e = plain_by r vs (eqb r.number 6) e

plain_zero : (r : Reply) → r.number ≡ 0 → plain_reply r ≡ r
plain_zero r zero = let no : eqb r.number 6 ≡ false = grind (arith, nat_tests) in rw no refl

-- what was answered was neither asleep nor failed
answered_by : (l : Ledger) (vs : List ℕ) (on failed : Bool)
    → (unless (or_else (when (not on) 5) (when failed 6)) l (acceptance vs, l)).0.number ≡ 0
    → unless (or_else (when (not on) 5) (when failed 6)) l (acceptance vs, l) ≡ (acceptance vs, l)
answered_by l vs true false zero = refl
answered_by l vs true true zero = absurd (omega (arith, zero))
answered_by l vs false failed zero = absurd (omega (arith, zero))

module _ (class : ℕ → Class) where
  booked_setting : (l : Ledger) (n : ℕ) (failed : Bool) → class n ≡ Setting
      → (booking class l (Read n) failed).0 ≡ acceptance (l.due n ∷ [])
  booked_setting l n failed is = rw is refl

  booked_live : (l : Ledger) (n : ℕ) (failed : Bool) → class n ≡ Live
      → (booking class l (Read n) failed).0.number ≡ 0
      → booking class l (Read n) failed ≡ (acceptance (l.live n ∷ []), l)
  booked_live l n failed is zero =
      rw is (answered_by l (l.live n ∷ []) l.supply failed (rw is at zero))

  -- The demands on a call from which the others follow.
  pub record Grounds (l : Ledger) (due : ℕ → ℕ) (now : Moment) : Type 0 where
    pub history : Agree class Setting l.due due
    pub reply : plain_reply now.reply ≡ (booking class l now.call (transfer_failed now)).0
    pub chip : AsBooked class (booking class l now.call (transfer_failed now)).1 now.after
    pub settings : needs_supply class now.call ≡ true → now.reply.number ≡ 0
        → ChipDue class due now.after
    pub line : (now.reply.number ≡ 6) ↔ (transfer_failed now ≡ true)
    pub once : now.after.failed ≡ now.before.failed + cond (transfer_failed now) 1 0
    pub asleep : (now.reply.number ≡ 5)
        ↔ ((needs_supply class now.call ≡ true) × (now.before.supply ≡ false))

  pub correct : (l : Ledger) (due : ℕ → ℕ) (now : Moment)
      → Grounds l due now → Correct class l due now
  correct l due now g =
      let failed = transfer_failed now in
      let as_read = λ (n : ℕ) (is : now.call ≡ Read n).
      g.reply ∙ ap (λ c. (booking class l c failed).0) is in
      let as_live = λ (n : ℕ) (is : now.call ≡ Read n) (k : class n ≡ Live)
      (zero : now.reply.number ≡ 0).
      booked_live l n failed k
      (ap (λ r. r.number) (sym (as_read n is) ∙ plain_zero now.reply zero) ∙ zero) in
      record {
        history = g.history;
        reply = g.reply;
        chip = g.chip;
        setting_read = λ n is k.
            plain_accepted now.reply (l.due n ∷ []) (as_read n is ∙ booked_setting l n failed k)
            ∙ ap (λ w. acceptance (w ∷ [])) (g.history n k);
        live_read = λ n is k zero. record {
          answered =
              sym (plain_zero now.reply zero) ∙ as_read n is ∙ ap (λ q. q.0) (as_live n is k zero);
          chips =
              g.chip.live n k
              ∙ ap (λ c. (booking class l c failed).1.live n) is
              ∙ ap (λ q. q.1.live n) (as_live n is k zero);
          settings = g.settings (ap (needs_supply class) is ∙ ap is_live k) zero;
        };
        sync = λ is. g.settings (ap (needs_supply class) is);
        line = g.line;
        once = g.once;
        asleep = g.asleep;
      }

  -- every call of a run is correct, by the ledger and by the due words before the first
  abbrev pub AllCorrect : Ledger → (ℕ → ℕ) → List Moment → Type 0
  AllCorrect l due [] = Unit {0}
  AllCorrect l due (m ∷ ms) =
      Correct class l due m
      × AllCorrect (booking class l m.call (transfer_failed m)).1
      (λ n. due_word n (due n) (m ∷ [])) ms

  pub each_of : (run : List Moment) (l : Ledger) (due : ℕ → ℕ) → AllCorrect l due run
      → (past : List Moment) (now : Moment) (rest : List Moment) → run ≡ past ++ (now ∷ rest)
      → Correct class (ledger_after class l past) (λ n. due_word n (due n) past) now
  each_of [] l due all [] now rest e = absurd (cc)
  each_of [] l due all (x ∷ past) now rest e = absurd (cc)
  each_of (m ∷ ms) l due (here, all) [] now rest e =
      let same : m ≡ now = cc in
      subst (λ x. Correct class l due x) same here
  each_of (m ∷ ms) l due (here, all) (x ∷ past) now rest e =
      let same : m ≡ x = cc in
      let later : ms ≡ past ++ (now ∷ rest) = cc in
      let next = (booking class l m.call (transfer_failed m)).1 in
      let due_next : ℕ → ℕ = λ n. due_word n (due n) (m ∷ []) in
      subst (λ y.
      let before = y ∷ past in
      Correct class (ledger_after class l before) (λ n. due_word n (due n) before) now) same
      (each_of ms next due_next all past now rest later)
