-- The worked run is audited. Assumes nothing.
use Rattle.std.proofs.Common.{◌≡◌, ◌↔◌, ℕ, ◌+◌, Bool, true, false, cond, eqb, [], refl, sym, ap}
use Rattle.std.proofs.Common.{subst, ◌∙◌, arith}
use Rattle.std.proofs.lemmas.Bool.{false≢true, eqb-true}
use Rattle.refusal.specs.Replies.{acceptance}
use Rattle.chart.specs.declared.class.Class.TheVariants.{Absent, Setting, Live}
use Rattle.port.specs.Views.{Agree, word_in}
use Rattle.port_ledger.specs.Moments.{Moment, transfer_failed, plain_reply}
use Rattle.port_ledger.specs.Ledger.{Ledger, new_ledger, needs_supply, booking}
use Rattle.port_ledger.specs.Audited.{Correct}
use Rattle.port_ledger.specs.Small.{small_class, small_reset}
use Rattle.port_ledger.specs.Worked.{WorkedAudited, failed_sync, reading_asleep, last_reading}
use Rattle.port_ledger.specs.Worked.{worked_moments}
use Rattle.port_ledger.proofs.Correcting.{correct, AllCorrect, each_of}

-- register 1 is the one setting, and register 2 the one live register
setting_number : (one two : Bool) → cond one Setting (cond two Live Absent) ≡ Setting → one ≡ true
setting_number true two e = refl
setting_number false true e = absurd (cc)
setting_number false false e = absurd (cc)

live_number : (one two : Bool) → cond one Setting (cond two Live Absent) ≡ Live → two ≡ true
live_number true two e = absurd (cc)
live_number false true e = refl
live_number false false e = absurd (cc)

settings_agree : (f g : ℕ → ℕ) → f 1 ≡ g 1 → Agree small_class Setting f g
settings_agree f g same n is =
    subst (λ k. f k ≡ g k) (sym (eqb-true n 1 (setting_number (eqb n 1) (eqb n 2) is))) same

live_agree : (f g : ℕ → ℕ) → f 2 ≡ g 2 → Agree small_class Live f g
live_agree f g same n is =
    subst (λ k. f k ≡ g k) (sym (eqb-true n 2 (live_number (eqb n 1) (eqb n 2) is))) same

both : {A B : Type 0} → A → B → A ↔ B
both a b = (λ _. b, λ _. a)

neither : {A B : Type 0} → (A → ⊥) → (B → ⊥) → A ↔ B
neither no_a no_b = (λ a. absurd (no_a a), λ b. absurd (no_b b))

module _ (l : Ledger) (due : ℕ → ℕ) (now : Moment) where
  -- what one call on the small chart comes down to
  small_correct : l.due 1 ≡ due 1
      → plain_reply now.reply ≡ (booking small_class l now.call (transfer_failed now)).0
      → (needs_supply small_class now.call ≡ true → now.reply.number ≡ 0
      → word_in now.after 1 ≡ due 1)
      → now.after.supply ≡ (booking small_class l now.call (transfer_failed now)).1.supply
      → word_in now.after 2 ≡ (booking small_class l now.call (transfer_failed now)).1.live 2
      → ((now.reply.number ≡ 6) ↔ (transfer_failed now ≡ true))
      → now.after.failed ≡ now.before.failed + cond (transfer_failed now) 1 0
      → ((now.reply.number ≡ 5)
      ↔ ((needs_supply small_class now.call ≡ true) × (now.before.supply ≡ false)))
      → Correct small_class l due now
  small_correct history reply there supply live line once asleep =
      correct small_class l due now (record {
        history = settings_agree l.due due history;
        reply = reply;
        chip = record { supply = supply; live = live_agree (word_in now.after) _ live };
        settings = λ at zero. settings_agree (word_in now.after) due (there at zero);
        line = line;
        once = once;
        asleep = asleep;
      })

  -- one that is accepted and does not go to the line
  calm : l.due 1 ≡ due 1 → now.reply ≡ acceptance []
      → (booking small_class l now.call false).0 ≡ acceptance []
      → needs_supply small_class now.call ≡ false → transfer_failed now ≡ false
      → now.after.failed ≡ now.before.failed + 0
      → now.after.supply ≡ (booking small_class l now.call (transfer_failed now)).1.supply
      → word_in now.after 2 ≡ (booking small_class l now.call (transfer_failed now)).1.live 2
      → Correct small_class l due now
  calm history is books away fine once supply live =
      let number : now.reply.number ≡ 0 = ap (λ r. r.number) is in
      small_correct history
      (ap plain_reply is ∙ sym books ∙ ap (λ f. (booking small_class l now.call f).0) (sym fine))
      (λ at zero. absurd (false≢true (sym away ∙ at))) supply live
      (neither (λ six. omega (arith, six)) (λ rose. false≢true (sym fine ∙ rose)))
      (once ∙ ap (λ f. now.before.failed + cond f 1 0) (sym fine))
      (neither (λ five. omega (arith, five)) (λ (at, off). false≢true (sym away ∙ at)))

awake : {A : Type 0} → A × (true ≡ false) → ⊥
awake (a, off) = false≢true (sym off)

worked_correct : AllCorrect small_class (new_ledger small_reset) small_reset worked_moments
worked_correct = (
  calm _ _ _ refl refl refl refl refl refl refl refl,
  (
    small_correct _ _ failed_sync refl refl (λ at zero. absurd (omega (arith, zero))) refl refl
        (both refl refl) refl (neither (omega arith) awake),
    (
      calm _ _ _ refl refl refl refl refl refl refl refl,
      (
        small_correct _ _ reading_asleep refl refl
            (λ at zero. absurd (omega (arith, zero))) refl refl
            (neither (omega arith) false≢true) refl (both refl (refl, refl)),
        (
          calm _ _ _ refl refl refl refl refl refl refl refl,
          (
            calm _ _ _ refl refl refl refl refl refl refl refl,
            (
              calm _ _ _ refl refl refl refl refl refl refl refl,
              (
                small_correct _ _ last_reading refl refl (λ at zero. refl) refl refl
                    (neither (omega arith) false≢true) refl (neither (omega arith) awake),
                tt,
              ),
            ),
          ),
        ),
      ),
    ),
  ),
)

pub worked_audited : WorkedAudited
worked_audited = record {
  new = record {
    settings = settings_agree _ _ refl;
    live = live_agree _ _ refl;
    supply = refl;
    failed = refl;
  };
  joined = (refl, (refl, (refl, (refl, (refl, (refl, (refl, (refl, refl))))))));
  each = each_of small_class worked_moments (new_ledger small_reset) small_reset worked_correct;
}
