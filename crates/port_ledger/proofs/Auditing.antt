-- A run of calls on a port that keeps is audited. Assumes nothing.
use Rattle.std.proofs.Common.{◌≡◌, ◌↔◌, ℕ, ◌+◌, ◌^◌, ◌<◌, ◌≢◌, Bool, true, false, cond, eqb, ltb}
use Rattle.std.proofs.Common.{◌⊎◌, inl, inr, List, [], ◌∷◌, Some, None, Option, sym, subst, refl}
use Rattle.std.proofs.Common.{ap, ◌∙◌, add-zero, arith, rules}
use Rattle.std.proofs.lemmas.Bool.Decides.{nat_tests}
use Rattle.std.proofs.lemmas.Bool.{false≢true, eqb-true}
use Rattle.patch.specs.Patch.{word_after, patch_of}
use Rattle.refusal.specs.Replies.{Reply, acceptance, refusal_of}
use Rattle.chart.specs.declared.class.Class.{Class}
use Rattle.patch.specs.declared.patch.Patch.{Patch}
use Rattle.chart.specs.declared.class.Class.TheVariants.{Absent, Setting, Live}
use Rattle.bus.specs.Checks.{unless}
use Rattle.port.specs.Views.{View, word_in, Agree, with_word_at}
use Rattle.port.specs.Meaning.{PortMachine, PortMeaning, view, PatchFits}
use Rattle.port.specs.Meaning.{Stood, Fine, Failed, Updated}
use Rattle.bench_call.specs.declared.PortCall.{PortCall}
use Rattle.bench_call.specs.declared.PortCall.TheVariants.{Read, Update, Sync, Measure, Down, Up}
use Rattle.port.specs.Checks.{is_accepted}
use Rattle.port_ledger.specs.Moments.{Moment, transfer_failed, Joined, plain_reply, asked_of}
use Rattle.port_ledger.specs.Moments.{due_word}
use Rattle.port_ledger.specs.Ledger.{Ledger, new_ledger, needs_supply, uses_line, name_refusal}
use Rattle.port_ledger.specs.Ledger.{refusal, ledger_answer, posting, booking}
use Rattle.port_ledger.specs.Audited.{NewChip, ChipDue, Correct, Audited}
use Rattle.port_ledger.specs.Fits.{CallFits, CallsFit}
use Rattle.port_ledger.specs.Runs.{moment, moments, after}
use Rattle.bench_run.specs.Performed.{port_call}
use Rattle.port_ledger.proofs.Correcting.{correct, AllCorrect, each_of}

-- the count tells whether a transfer failed
counted : (a b : ℕ) (failed : Bool) → b ≡ a + cond failed 1 0 → ltb a b ≡ failed
counted a b true e = grind (arith, nat_tests)
counted a b false e = grind (arith, nat_tests)

-- an update in the ledger is the update as asked
posting_asked : (l : Ledger) (c : PortCall) (n : ℕ) → (posting l c).due n ≡ asked_of n c (l.due n)
posting_asked l (Read k) n = refl
posting_asked l (Update k mask bits) n = by_number (eqb n k) refl
  where
    by_number : (same : Bool) → eqb n k ≡ same
        → cond (eqb n k) (word_after (patch_of mask bits) (l.due k)) (l.due n)
        ≡ cond (eqb n k) (word_after (patch_of mask bits) (l.due n)) (l.due n)
    by_number true e = rw (eqb-true n k e) refl
    by_number false e = rw e refl
posting_asked l Sync n = refl
posting_asked l (Measure k w) n = refl
posting_asked l Down n = refl
posting_asked l Up n = refl

-- a read changes nothing in the ledger, refused or not
unread : (r : Option Reply) (l : Ledger) (answered : Reply) → (unless r l (answered, l)).1 ≡ l
unread (Some r) l answered = refl
unread None l answered = refl

module _ {class : ℕ → Class} {reset : ℕ → ℕ} {M : Type 0} (base : PortMachine M)
    (port : PortMeaning true class reset base) where
  abbrev seen : M → View
  seen m = view base m

  -- a ledger that agrees with the port
  record Matches (l : Ledger) (m : M) : Type 0 where
    sound : base.Sound m
    due : Agree class Setting (base.shown m) l.due
    live : Agree class Live (word_in (base.chip m)) l.live
    supply : (base.chip m).supply ≡ l.supply

  -- A call from m that led to p, beside what the ledger makes of it, where failed says whether a
  -- transfer failed.
  record Went (l : Ledger) (m : M) (c : PortCall) (p : Reply × M) (q : Reply × Ledger)
      (failed : Bool) : Type 0 where
    reply : plain_reply p.0 ≡ q.0
    onward : Matches q.1 p.1
    once : (base.chip p.1).failed ≡ (base.chip m).failed + cond failed 1 0
    line : (p.0.number ≡ 6) ↔ (failed ≡ true)
    asleep : (p.0.number ≡ 5) ↔ ((needs_supply class c ≡ true) × ((base.chip m).supply ≡ false))
    due : needs_supply class c ≡ true → p.0.number ≡ 0 → ChipDue class l.due (base.chip p.1)
    changes : (n : ℕ) → q.1.due n ≡ cond (is_accepted p.0) ((posting l c).due n) (l.due n)

  abbrev Goes : Ledger → M → PortCall → Reply × M → Type 0
  Goes l m c p = (failed : Bool) × Went l m c p (booking class l c failed) failed

  -- a call that leaves the settings shown, the live words and the supply
  still : (l : Ledger) (m k : M) (n : ℕ) → Matches l m → base.Sound k
      → Stood class n (seen m) (seen k) → Agree class Setting (base.shown k) (base.shown m)
      → Matches l k
  still l m k n s sound stood shows = record {
    sound = sound;
    due = λ i d. shows i d ∙ s.due i d;
    live = λ i d. stood.live i d ∙ s.live i d;
    supply = stood.supply ∙ s.supply;
  }

  module _ (l : Ledger) (m : M) (c : PortCall) (p : Reply × M) (s : Matches l m) where
    -- refused by what the number names
    misnamed_goes : (k : ℕ) → p ≡ (refusal_of k [], m)
        → name_refusal class c ≡ Some (refusal_of k [])
        → needs_supply class c ≡ false → k ≢ 0 → k ≢ 5 → k ≢ 6 → Goes l m c p
    misnamed_goes k is named away k0 k5 k6 = (
      false,
      rw (is, named) (record {
        reply = grind (arith, nat_tests);
        onward = s;
        once = sym (add-zero _);
        line = (λ e. absurd (k6 e), λ e. absurd (false≢true e));
        asleep = (λ e. absurd (k5 e), λ (at, off). absurd (false≢true (sym away ∙ at)));
        due = λ at e. absurd (k0 e);
        changes = λ n. grind (arith, nat_tests);
      }),
    )

    -- refused since the supply is off
    asleep_goes : p ≡ (refusal_of 5 [], m) → name_refusal class c ≡ None
        → needs_supply class c ≡ true
        → (base.chip m).supply ≡ false → Goes l m c p
    asleep_goes is named at off =
        let off_too : l.supply ≡ false = sym s.supply ∙ off in
        let five : refusal class l c false ≡ Some (refusal_of 5 []) =
        rw (named, at, off_too) refl in (
          false,
          rw (is, five) (record {
            reply = refl;
            onward = s;
            once = sym (add-zero _);
            line = (λ e. absurd (omega (arith, e)), λ e. absurd (false≢true e));
            asleep = (λ e. (at, off), λ e. refl);
            due = λ _ e. absurd (omega (arith, e));
            changes = λ n. refl;
          }),
        )

    -- a transfer failed
    failed_goes : Failed class (seen m) p.0 (seen p.1) → base.Sound p.1
        → name_refusal class c ≡ None → uses_line class c ≡ true
        → (needs_supply class c ≡ true → (base.chip m).supply ≡ true) → Goes l m c p
    failed_goes (fault, stood, shows) sound named line awake =
        let six : p.0 ≡ refusal_of 6 _ = fault.5 in
        let number : p.0.number ≡ 6 = ap (λ r. r.number) six in (
          true,
          rw (either (needs_supply class c) refl) (record {
            reply = ap plain_reply six;
            onward = still l m p.1 1 s sound stood shows;
            once = stood.failed;
            line = (λ e. refl, λ e. number);
            asleep =
                (λ e. absurd (omega arith), λ (at, off). absurd (false≢true (sym off ∙ awake at)));
            due = λ _ e. absurd (omega arith);
            changes = λ n. rw number refl;
          }),
        )
      where
        either : (at : Bool) → needs_supply class c ≡ at
            → refusal class l c true ≡ Some (refusal_of 6 [])
        either true is = rw (named, is, ← s.supply, awake is, line) refl
        either false is = rw (named, is, line) refl

    -- accepted
    accepted_goes : (vs : List ℕ) → p.0 ≡ acceptance vs → vs ≡ ledger_answer class l c
        → Matches (posting l c) p.1 → (base.chip p.1).failed ≡ (base.chip m).failed
        → name_refusal class c ≡ None
        → (needs_supply class c ≡ true
        → ((base.chip m).supply ≡ true) × ChipDue class l.due (base.chip p.1))
        → Goes l m c p
    accepted_goes vs is answers onward once named at =
        let number : p.0.number ≡ 0 = ap (λ r. r.number) is in (
          false,
          rw (none (needs_supply class c) refl) (record {
            reply = ap plain_reply is ∙ ap acceptance answers;
            onward = onward;
            once = once ∙ sym (add-zero _);
            line = (λ e. absurd (omega arith), λ e. absurd (false≢true e));
            asleep = (
              λ e. absurd (omega arith),
              λ (here, off). absurd (false≢true (sym off ∙ (at here).0)),
            );
            due = λ here _. (at here).1;
            changes = λ n. rw number refl;
          }),
        )
      where
        none : (here : Bool) → needs_supply class c ≡ here → refusal class l c false ≡ None
        none true is = rw (named, is, ← s.supply, (at is).0) (search rules)
        none false is = rw (named, is) (search rules)

    -- What only the chip can answer, with the supply on: it has every setting then.
    reached_goes : (vs : List ℕ) → vs ≡ ledger_answer class l c → posting l c ≡ l
        → name_refusal class c ≡ None → uses_line class c ≡ true → (base.chip m).supply ≡ true
        → base.Sound p.1
        → (((p.0 ≡ acceptance vs) × Fine class (seen m) (base.shown m) (seen p.1)
        × Agree class Setting (word_in (base.chip p.1)) (base.shown p.1))
        ⊎ Failed class (seen m) p.0 (seen p.1))
        → Goes l m c p
    reached_goes vs answers stays named line on sound (inl (ok, (stood, shows), there)) =
        accepted_goes vs ok answers
        (rw stays (still l m p.1 0 s sound stood shows))
        (stood.failed ∙ add-zero _) named (λ here. (on, λ i d. there i d ∙ shows i d ∙ s.due i d))
    reached_goes vs answers stays named line on sound (inr failed) =
        failed_goes failed sound named line (λ here. on)

  read_goes : (l : Ledger) (m : M) (n : ℕ) (k : Class) → class n ≡ k → Matches l m
      → Goes l m (Read n) (base.read m n)
  read_goes l m n Absent is s =
      misnamed_goes l m (Read n) (base.read m n) s 2
      (port.read_refused m n (refusal_of 2 []) (rw is refl)) (rw is refl) (rw is refl)
      (omega arith) (omega arith) (omega arith)
  read_goes l m n Setting is s =
      rw (port.kept_read m n s.sound refl is)
      (accepted_goes l m (Read n) (acceptance (base.shown m n ∷ []), m) s
      (base.shown m n ∷ []) refl (rw is (ap (λ w. w ∷ []) (s.due n is))) s refl (rw is refl)
      (λ here. absurd (false≢true (rw is at here))))
  read_goes l m n Live is s = by_supply (base.chip m).supply refl
    where
      by_supply : (on : Bool) → (base.chip m).supply ≡ on → Goes l m (Read n) (base.read m n)
      by_supply true on =
          reached_goes l m (Read n) (base.read m n) s
          (word_in (base.chip m) n ∷ []) (rw is (ap (λ w. w ∷ []) (s.live n is))) refl
          (rw is refl) (rw is refl) on (port.read_sound m n s.sound)
          (port.live_read m n s.sound is (rw on refl))
      by_supply false off =
          asleep_goes l m (Read n) (base.read m n) s
          (port.read_refused m n (refusal_of 5 []) (rw (is, off) refl)) (rw is refl) (rw is refl)
          off

  sync_goes : (l : Ledger) (m : M) → Matches l m → Goes l m Sync (base.sync m)
  sync_goes l m s = by_supply (base.chip m).supply refl
    where
      by_supply : (on : Bool) → (base.chip m).supply ≡ on → Goes l m Sync (base.sync m)
      by_supply true on =
          reached_goes l m Sync (base.sync m) s [] refl refl refl refl on
          (port.sync_sound m s.sound) (port.synced m s.sound (rw on refl))
      by_supply false off =
          asleep_goes l m Sync (base.sync m) s
          (port.sync_refused m (refusal_of 5 []) (rw off refl)) refl refl off

  -- one word replaced in words that agree
  agree_replaced : (kind : Class) (n v w : ℕ) (f g : ℕ → ℕ) → v ≡ w → Agree class kind f g
      → Agree class kind (with_word_at n v f) (with_word_at n w g)
  agree_replaced kind n v w f g e same i d = rw (e, same i d) refl

  update_goes : (l : Ledger) (m : M) (n : ℕ) (patch : Patch) (k : Class) → class n ≡ k
      → Matches l m → PatchFits patch
      → Goes l m (Update n patch.mask patch.bits) (base.update m n patch)
  update_goes l m n patch Absent is s fits =
      misnamed_goes l m (Update n patch.mask patch.bits) (base.update m n patch) s 2
      (port.update_refused m n patch (refusal_of 2 []) (rw is refl)) (rw is refl) refl
      (omega arith) (omega arith) (omega arith)
  update_goes l m n patch Live is s fits =
      misnamed_goes l m (Update n patch.mask patch.bits) (base.update m n patch) s 3
      (port.update_refused m n patch (refusal_of 3 []) (rw is refl)) (rw is refl) refl
      (omega arith) (omega arith) (omega arith)
  update_goes l m n patch Setting is s fits =
      by_update (port.updated m n patch s.sound fits (rw is refl))
    where
      by_update :
          Updated class (seen m) n patch (base.update m n patch).0 (seen (base.update m n patch).1)
          → Goes l m (Update n patch.mask patch.bits) (base.update m n patch)
      by_update (inl (ok, (stood, shows))) =
          let made = ap (word_after patch) (s.due n is) in
          accepted_goes l m (Update n patch.mask patch.bits) (base.update m n patch) s [] ok refl
          (record {
            sound = port.update_sound m n patch s.sound fits;
            due = λ i d.
                shows i d ∙ agree_replaced Setting n _ _ (base.shown m) l.due made s.due i d;
            live = λ i d. stood.live i d ∙ s.live i d;
            supply = stood.supply ∙ s.supply;
          })
          (stood.failed ∙ add-zero _) (rw is refl) (λ here. absurd (false≢true here))
      by_update (inr failed) =
          failed_goes l m (Update n patch.mask patch.bits) (base.update m n patch) s failed
          (port.update_sound m n patch s.sound fits) (rw is refl) refl
          (λ here. absurd (false≢true here))

  -- a measurement goes in where the supply is on
  agree_measured : (on : Bool) (n w : ℕ) (f g : ℕ → ℕ) → Agree class Live f g
      → Agree class Live (cond on (with_word_at n w f) f) (cond on (with_word_at n w g) g)
  agree_measured true n w f g same = agree_replaced Live n w w f g refl same
  agree_measured false n w f g same = same

  measure_goes : (l : Ledger) (m : M) (n w : ℕ) (k : Class) → class n ≡ k → Matches l m
      → w < 2 ^ 16 → Goes l m (Measure n w) (base.measure m n w)
  measure_goes l m n w Absent is s fits =
      misnamed_goes l m (Measure n w) (base.measure m n w) s 2
      (port.measure_refused m n w (refusal_of 2 []) (rw is refl)) (rw is refl) refl
      (omega arith) (omega arith) (omega arith)
  measure_goes l m n w Setting is s fits =
      misnamed_goes l m (Measure n w) (base.measure m n w) s 4
      (port.measure_refused m n w (refusal_of 4 []) (rw is refl)) (rw is refl) refl
      (omega arith) (omega arith) (omega arith)
  measure_goes l m n w Live is s fits =
      let (ok, d) = port.measured m n w s.sound (rw is refl) in
      let old = word_in (base.chip m) in
      accepted_goes l m (Measure n w) (base.measure m n w) s [] ok refl
      (record {
        sound = port.measure_sound m n w s.sound fits;
        due = λ i e. d.shown i e ∙ s.due i e;
        live = λ i e.
            d.live i e
            ∙ ap (λ on. cond on (with_word_at n w old) old i) s.supply
            ∙ agree_measured l.supply n w old l.live s.live i e;
        supply = d.supply ∙ s.supply;
      })
      d.failed (rw is refl) (λ here. absurd (false≢true here))

  down_goes : (l : Ledger) (m : M) → Matches l m → Goes l m Down (acceptance [], base.down m)
  down_goes l m s =
      let d = port.down m s.sound in
      accepted_goes l m Down (acceptance [], base.down m) s [] refl refl
      (record {
        sound = port.down_sound m s.sound;
        due = λ i e. d.shown i e ∙ s.due i e;
        live = d.live;
        supply = d.supply;
      })
      d.failed refl (λ here. absurd (false≢true here))

  up_goes : (l : Ledger) (m : M) → Matches l m → Goes l m Up (acceptance [], base.up m)
  up_goes l m s =
      let u = port.up m s.sound in
      accepted_goes l m Up (acceptance [], base.up m) s [] refl refl
      (record {
        sound = port.up_sound m s.sound;
        due = λ i e. u.shown i e ∙ s.due i e;
        live = λ i e. u.live i e ∙ s.live i e;
        supply = u.supply;
      })
      u.failed refl (λ here. absurd (false≢true here))

  -- every call goes as the ledger says
  goes : (l : Ledger) (m : M) (c : PortCall) → Matches l m → CallFits c
      → Goes l m c (port_call base c m)
  goes l m (Read n) s fits = read_goes l m n (class n) refl s
  goes l m (Update n mask bits) s fits =
      update_goes l m n (patch_of mask bits) (class n) refl s fits
  goes l m Sync s fits = sync_goes l m s
  goes l m (Measure n w) s fits = measure_goes l m n w (class n) refl s fits
  goes l m Down s fits = down_goes l m s
  goes l m Up s fits = up_goes l m s

  -- What is so after a call. The due words are those of the updates.
  record StoodBy (l : Ledger) (due : ℕ → ℕ) (now : Moment) (m : M) : Type 0 where
    here : Correct class l due now
    next : Matches (booking class l now.call (transfer_failed now)).1 m
    due_next : Agree class Setting (booking class l now.call (transfer_failed now)).1.due
        (λ n. due_word n (due n) (now ∷ []))

  stands : (l : Ledger) (due : ℕ → ℕ) (m : M) (c : PortCall) (p : Reply × M)
      → Agree class Setting l.due due → Goes l m c p → StoodBy l due (moment base c m p) p.1
  stands l due m c p same (failed, w) =
      let now = moment base c m p in
      let told : transfer_failed now ≡ failed =
      counted (base.chip m).failed (base.chip p.1).failed failed w.once in
      record {
        here = correct class l due now (record {
          history = same;
          reply = rw told w.reply;
          chip = rw told (record { supply = w.onward.supply; live = w.onward.live });
          settings = λ here zero i e. w.due here zero i e ∙ same i e;
          line = (λ six. told ∙ w.line.0 six, λ rose. w.line.1 (sym told ∙ rose));
          once = w.once ∙ ap (λ x. (base.chip m).failed + cond x 1 0) (sym told);
          asleep = w.asleep;
        });
        next = rw told w.onward;
        due_next = λ n k.
            ap (λ x. (booking class l c x).1.due n) told ∙ w.changes n
            ∙ ap (λ x. cond (is_accepted p.0) x (l.due n)) (posting_asked l c n)
            ∙ ap (λ x. cond (is_accepted p.0) (asked_of n c x) x) (same n k);
      }

  joined : (calls : List PortCall) (m : M)
      → Joined (base.chip m) (moments base calls m) (base.chip (after base calls m))
  joined [] m = refl
  joined (c ∷ cs) m = (refl, joined cs (port_call base c m).1)

  all_correct : (calls : List PortCall) (l : Ledger) (due : ℕ → ℕ) (m : M) → Matches l m
      → Agree class Setting l.due due → CallsFit calls
      → AllCorrect class l due (moments base calls m)
  all_correct [] l due m s same fits = tt
  all_correct (c ∷ cs) l due m s same (fit, fits) =
      let p = port_call base c m in
      let now = moment base c m p in
      let stood = stands l due m c p same (goes l m c s fit) in
      let next = (booking class l c (transfer_failed now)).1 in
      let due_next : ℕ → ℕ = λ n. due_word n (due n) (now ∷ []) in
      (stood.here, all_correct cs next due_next p.1 stood.next stood.due_next fits)

  -- a new port matches a new ledger
  begins : (m : M) → base.New m → Matches (new_ledger reset) m
  begins m new =
      let v = port.new m new in
      record { sound = port.new_sound m new; due = v.words.shown; live = v.live; supply = v.supply }

  new_chip : (m : M) → base.New m → NewChip class reset (base.chip m)
  new_chip m new =
      let v = port.new m new in
      record { settings = v.words.settings; live = v.live; supply = v.supply; failed = v.failed }

  pub audited : (m : M) (calls : List PortCall) → base.New m → CallsFit calls
      → Audited class reset (base.chip m) (moments base calls m) (base.chip (after base calls m))
  audited m calls new fits =
      let all = all_correct calls (new_ledger reset) reset m (begins m new) (λ n k. refl) fits in
      record {
        new = new_chip m new;
        joined = joined calls m;
        each = each_of class (moments base calls m) (new_ledger reset) reset all;
      }

-- the same of a port of which it is known only that it keeps
pub kept_audited : {class : ℕ → Class} {reset : ℕ → ℕ} {M : Type 0} (keeps : Bool)
    (base : PortMachine M) → PortMeaning keeps class reset base → keeps ≡ true
    → (m : M) (calls : List PortCall) → base.New m → CallsFit calls
    → Audited class reset (base.chip m) (moments base calls m) (base.chip (after base calls m))
kept_audited {class = class} {reset = reset} keeps base port is =
    audited base (subst (λ k. PortMeaning k class reset base) is port)
