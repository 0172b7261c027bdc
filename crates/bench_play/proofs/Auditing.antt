-- The transcript of a sheet on a pile that keeps is that of an audited run. Assumes nothing.
use Rattle.std.proofs.Common.{◌≡◌, ℕ, Bool, true, false, cond, ◌&&◌, List, [], ◌∷◌, ◌++◌, map}
use Rattle.std.proofs.Common.{Result, String, Ok, Err, IfOk, string_bytes, inl, inr}
use Rattle.std.proofs.Common.{refl, sym, ap, ◌∙◌, append_assoc}
use Rattle.std.proofs.lemmas.Bool.{eqb-true}
use Rattle.chart.specs.Rules.{ChartRules}
use Rattle.chart.specs.declared.class.Class.{Class}
use Rattle.chart.specs.declared.class.Class.TheVariants.{Absent, Setting, Live}
use Rattle.bus.specs.Chips.{Chip}
use Rattle.bus.specs.Meaning.{BusMachine, BusMeaning}
use Rattle.bus_i2c_laws.specs.I2cs.{i2c_machine, new_i2c}
use Rattle.bus_window_laws.specs.Windows.{window_machine, new_window}
use Rattle.bus_i2c_laws.proofs.I2cMeaning.{i2c_meaning}
use Rattle.bus_window_laws.proofs.WindowMeaning.{window_meaning}
use Rattle.port.specs.Checks.{is_accepted}
use Rattle.port.specs.Meaning.{PortMachine}
use Rattle.port.specs.Views.{Agree, word_in}
use Rattle.port_paging_laws.specs.Machine.{new_paging, paging_machine}
use Rattle.port_keeper_laws.specs.Machine.{new_keeper, keeper_machine}
use Rattle.port_deferral_laws.specs.Machine.{new_deferral, deferral_machine}
use Rattle.bench_call.specs.Rests.{port_calls}
use Rattle.bench_call.specs.Texts.{pile_call_text}
use Rattle.bench_call.specs.declared.LayerKind.{LayerKind}
use Rattle.bench_call.specs.declared.LayerKind.TheVariants.{Keeper, Deferral}
use Rattle.bench_call.specs.declared.PileCall.{PileCall}
use Rattle.bench_call.specs.declared.PileCall.TheVariants.{Port, Suspend, Resume}
use Rattle.bench_call.specs.declared.PortCall.{PortCall}
use Rattle.bench_call.specs.declared.PortCall.TheVariants.{Read, Update, Sync, Measure, Down, Up}
use Rattle.port_ledger.specs.Audited.{Audited}
use Rattle.port_ledger.specs.Fits.{CallsFit}
use Rattle.port_ledger.specs.Ledger.{is_live}
use Rattle.port_ledger.specs.Moments.{Moment, due_word}
use Rattle.port_ledger.proofs.Resting.{walk_after}
use Rattle.port_piles.specs.Piles.{keep, pile_run, bus_run}
use Rattle.port_piles.proofs.Auditing.{every_pile_audited}
use Rattle.bench_sheet.specs.Sheets.{Job, on_bus, on_pile}
use Rattle.bench_sheet.specs.declared.Make.{Make}
use Rattle.bench_sheet.specs.declared.Make.TheVariants.{I2c, Window}
use Rattle.bench_text.specs.Texts.{transcript_text}
use Rattle.bench_text.specs.Under.{new_dues, under_text}
use Rattle.port_ledger.specs.Rested.{with_moment, call_moments}
use Rattle.bench_play.specs.Audits.{reads_live, due_under, chip_under}
use Rattle.bench_play.specs.Audits.{PileTold, MakeAudited, JobAudited, JobFits}
use Rattle.bench_play.specs.Told.{pile_showing, pile_lines, PileTells, MakeTells}
use Rattle.bench_play.proofs.Dues.{under_alike, knows_new, none_under, Tells, same}

module _ {count : ℕ} {class : ℕ → Class} {reset : ℕ → ℕ}
    (chart : ChartRules count class reset) where
  -- layers over a port: their lines tell their run, which leaves the chip as they do
  record Climbed {M : Type 0} (ls : List LayerKind) (keeps : Bool) (port : PortMachine M)
      (cs : List PileCall) (m : M) : Type 0 where
    told : let run = pile_run class reset ls keeps port (port_calls cs) m in
        let shown = pile_showing class reset ls keeps port cs m in
        Tells class reset count chart.few (map pile_call_text cs) (call_moments [] cs run.moments)
        (pile_lines count class reset true cs shown.seen)
    last : (pile_showing class reset ls keeps port cs m).chip
        ≡ (pile_run class reset ls keeps port (port_calls cs) m).last

  climbed : {M : Type 0} (ls : List LayerKind) (keeps : Bool) (port : PortMachine M)
      (cs : List PileCall) (m : M) → Climbed ls keeps port cs m
  unfolding pile_run
  climbed [] keeps port cs m = record {
    told = same class reset count chart.few port cs m [] (new_dues reset true)
        (knows_new class reset);
    last = ap port.chip (walk_after port cs m);
  }
  climbed (Keeper ∷ ls) keeps port cs m =
      let up = climbed ls true (keeper_machine port keeps class reset) cs (new_keeper reset m) in
      record { told = up.told; last = up.last }
  climbed (Deferral ∷ ls) keeps port cs m =
      let up = climbed ls keeps (deferral_machine port keeps class) cs (new_deferral m) in
      record { told = up.told; last = up.last }

  -- under a reading two lists of words are told alike that agree then
  reading_alike : (c : PortCall) (ok : Bool) (f g : ℕ → ℕ)
      → ((n : ℕ) → c ≡ Read n → class n ≡ Live → ok ≡ true → Agree class Setting g f)
      → cond (ok && reads_live class c) (under_text count class reset f) []
      ≡ cond (ok && reads_live class c) (under_text count class reset g) []
  reading_alike c false f g agrees = refl
  reading_alike (Read n) true f g agrees = by_class (class n) refl
    where
      by_class : (k : Class) → class n ≡ k
          → cond (is_live (class n)) (under_text count class reset f) []
          ≡ cond (is_live (class n)) (under_text count class reset g) []
      by_class Absent is = rw is refl
      by_class Setting is = rw is refl
      by_class Live is =
          rw is (under_alike class reset count f g
          (λ i low setting. sym (agrees n refl is refl i setting)))
  reading_alike (Update n mask bits) true f g agrees = refl
  reading_alike Sync true f g agrees = refl
  reading_alike (Measure n w) true f g agrees = refl
  reading_alike Down true f g agrees = refl
  reading_alike Up true f g agrees = refl

  module _ (first last : Chip) (run : List Moment)
      (audited : Audited class reset first run last) where
    here_alike : (past : List Moment) (now : Moment) (rest : List Moment)
        → run ≡ past ++ (now ∷ rest)
        → due_under count class reset (record { past = past; now = now })
        ≡ chip_under count class reset (record { past = past; now = now })
    here_alike past now rest e =
        let correct = audited.each past now rest e in
        let due = λ (n : ℕ). due_word n (reset n) past in
        reading_alike now.call (is_accepted now.reply) due (word_in now.after) (λ n reads live ok.
        (correct.live_read n reads live (eqb-true now.reply.number 0 ok)).settings)

    -- what is due under each reading is what the chip has
    all_alike : (past : List Moment) (cs : List PileCall) (ms : List Moment) → run ≡ past ++ ms
        → map (due_under count class reset) (call_moments past cs ms)
        ≡ map (chip_under count class reset) (call_moments past cs ms)
    all_alike past [] ms e = refl
    all_alike past (Port c ∷ cs) [] e = refl
    all_alike past (Port c ∷ cs) (m ∷ ms) e =
        let on = e ∙ sym (append_assoc past (m ∷ []) ms) in
        rw (here_alike past m ms e, all_alike (with_moment past m) cs ms on) refl
    all_alike past (Suspend ∷ cs) [] e = refl
    all_alike past (Suspend ∷ cs) (m ∷ ms) e =
        let on = e ∙ sym (append_assoc past (m ∷ []) ms) in
        rw (here_alike past m ms e, all_alike (with_moment past m) cs ms on) refl
    all_alike past (Resume ∷ cs) [] e = refl
    all_alike past (Resume ∷ cs) (up ∷ []) e = refl
    all_alike past (Resume ∷ cs) (up ∷ (sync ∷ ms)) e =
        let begun = with_moment past up in
        let on = e ∙ sym (append_assoc past (up ∷ []) (sync ∷ ms)) in
        let over = on ∙ sym (append_assoc begun (sync ∷ []) ms) in
        rw (here_alike begun sync ms on, all_alike (with_moment begun sync) cs ms over) refl

  pile_told : {M : Type 0} (base : BusMachine M) → BusMeaning class reset base
      → (ls : List LayerKind) (cs : List PileCall) (m : M) (text : List ℕ)
      → keep ls false ≡ true → CallsFit (port_calls cs) → base.New m
      → PileTells count class reset ls false (paging_machine base class) cs (new_paging m) text
      → PileTold count class reset base ls cs m text
  unfolding PileTells
  pile_told base bus ls cs m text is fits new told =
      let calls = port_calls cs in
      let run = bus_run class reset base ls calls m in
      let port = paging_machine base class in
      let shown = pile_showing class reset ls false port cs (new_paging m) in
      let lines = λ (keeps : Bool). pile_lines count class reset keeps cs shown.seen in
      let audited = every_pile_audited chart base bus ls calls m is fits new in
      let top = climbed ls false port cs (new_paging m) in
      let alike = all_alike (base.chip m) run.last run.moments audited [] cs run.moments refl in
      record {
        audited = audited;
        lines = record {
          calls = top.told.calls;
          replies = top.told.replies;
          due = top.told.due;
          chip = top.told.due ∙ alike;
        };
        text = told.1
            ∙ ap (λ k. transcript_text shown.trace shown.chip.failed (lines k)) is
            ∙ ap (λ (c : Chip). transcript_text shown.trace c.failed (lines true)) top.last;
      }

  make_audited : (make : Make) (marks : List ℕ) (ls : List LayerKind) (cs : List PileCall)
      (text : List ℕ) → CallsFit (port_calls cs)
      → MakeTells count class reset make marks (on_pile ls cs) text
      → keep ls false ≡ true → MakeAudited count class reset make marks ls cs text
  make_audited (I2c a) marks ls cs text fits (inl (_, (trace, none, whole, told))) =
      λ is addressable. (
        trace,
        none,
        whole,
        pile_told (i2c_machine class reset) (i2c_meaning chart) ls cs (new_i2c reset a marks trace)
            text is fits (a, marks, trace, refl) told,
      )
  make_audited (I2c a) marks ls cs text fits (inr (none, e)) =
      λ is addressable. absurd (none addressable)
  make_audited Window marks ls cs text fits told =
      λ is. pile_told (window_machine class reset) (window_meaning chart) ls cs (new_window reset)
      text is fits refl told

  job_audited : (make : Make) (marks : List ℕ) (job : Job) (text : List ℕ) → JobFits job
      → MakeTells count class reset make marks job text
      → JobAudited count class reset make marks job text
  job_audited make marks (on_bus cs) text fits told = tt
  job_audited make marks (on_pile ls cs) text fits told = (
    make_audited make marks ls cs text fits told,
    λ _ xs. none_under class reset count chart.few cs xs (new_dues reset false) refl,
  )

  -- of every text that is handed out
  pub told_audited : {Z E : Type 0} (r : Result (String Z) E) (make : Make) (marks : List ℕ)
      (job : Job) → JobFits job
      → IfOk r (λ t. MakeTells count class reset make marks job (string_bytes t))
      → IfOk r (λ t. JobAudited count class reset make marks job (string_bytes t))
  told_audited (Ok t) make marks job fits told =
      job_audited make marks job (string_bytes t) fits told
  told_audited (Err e) make marks job fits told = tt
