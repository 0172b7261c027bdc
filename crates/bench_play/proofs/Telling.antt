-- What is told of calls on a bus and on a port, and on a new bus of each make. Assumes nothing.
use Rattle.std.proofs.Common.{◌≡◌, ℕ, Bool, List, [], ◌∷◌, length, map, inl, inr}
use Rattle.std.proofs.Common.{MatchResult, IfOk, Ok, Err, Result, String, string_bytes}
use Rattle.std.proofs.Common.{refl, ap, subst, ◌∙◌}
use Rattle.std.specs.Borrow.{MutBor}
use Rattle.bus_i2c_laws.specs.I2cs.{I2cModel, I2cMade, i2c_machine}
use Rattle.bus_window_laws.specs.Windows.{WindowModel, WindowMade, new_window, window_machine}
use Rattle.bus.specs.declared.unmade.Unmade.{Unmade}
use Rattle.refusal.specs.Replies.{reply_of, failure_values}
use Rattle.chart.specs.declared.class.Class.{Class}
use Rattle.trace.specs.Traces.{Traced}
use Rattle.trace.specs.declared.trace.Trace.{Trace}
use Rattle.bench_sheet.specs.Sheets.{Job, on_bus}
use Rattle.bench_text.specs.Noting.{bare_entries}
use Rattle.bench_text.specs.Texts.{transcript_text, unmade_text}
use Rattle.bus.specs.Meaning.{BusMachine}
use Rattle.bench_run.specs.Performed.{Seen, bus_call, pile_call, walk}
use Rattle.bench_run.proofs.Walking.{walk_through}
use Rattle.bench_call.specs.Asked.{asked}
use Rattle.bench_call.specs.Texts.{call_text}
use Rattle.bench_call.specs.declared.Call.{Call}
use Rattle.bench_call.specs.declared.PileCall.{PileCall}
use Rattle.port.specs.Meaning.{PortMachine}
use Rattle.bench_play.specs.Told.{pile_lines, PileTells, JobTells, I2cTells}

-- what holds of every text that has been written holds by what follows from it
pub if_written : {Z E : Type 0} (r : Result (String Z) E) (P Q : List ℕ → Type 0)
    → ((t : List ℕ) → P t → Q t)
    → IfOk r (λ t. P (string_bytes t)) → IfOk r (λ t. Q (string_bytes t))
if_written (Ok t) P Q follows h = follows (string_bytes t) h
if_written (Err e) P Q follows h = tt

module _ {A C : Type 0} (of : A → C) (text : C → List ℕ) where
  -- lines of calls that are seen through a function
  lines_through : (xs : List A) (ss : List Seen)
      → bare_entries (λ x. text (of x)) xs ss ≡ bare_entries text (map of xs) ss
  lines_through [] ss = refl
  lines_through (x ∷ xs) [] = refl
  lines_through (x ∷ xs) (s ∷ ss) =
      ap (λ ls. record { call = text (of x); reply = s.reply; passed = s.passed; under = [] } ∷ ls)
      (lines_through xs ss)

-- what a text was proved to tell of the last state, told of what all calls come to
told_so : {M : Type 0} (trace : M → Traced) (failed : M → ℕ)
    (text : List Seen → Traced → ℕ → List ℕ)
    (ss : List Seen) (after : M) (q : List Seen × M) (written : List ℕ) → (ss, after) ≡ q
    → ((trace after).lost ≡ 0) × (written ≡ text ss (trace after) (failed after))
    → ((trace q.1).lost ≡ 0) × (written ≡ text q.0 (trace q.1) (failed q.1))
told_so trace failed text ss after q written e h =
    subst (λ p. ((trace p.1).lost ≡ 0) × (written ≡ text p.0 (trace p.1) (failed p.1))) e h

module _ (count : ℕ) (class : ℕ → Class) (reset : ℕ → ℕ) where
  -- calls on a bus, seen through what they ask for
  pub bus_told : {M : Type 0} (bus : BusMachine M) (cs : List Call) (ss : List Seen) (m after : M)
      (written : List ℕ) → (ss, after) ≡ walk (λ c. bus_call bus (asked c)) bus.trace cs m
      → let lines = bare_entries (λ c. call_text (asked c)) cs ss in
      ((bus.trace after).lost ≡ 0)
      × (written ≡ transcript_text (bus.trace after) (bus.chip after).failed lines)
      → JobTells count class reset bus (on_bus (map asked cs)) m written
  bus_told bus cs ss m after written e h =
      told_so bus.trace (λ m. (bus.chip m).failed)
      (λ xs trace failed. transcript_text trace failed (bare_entries call_text (map asked cs) xs))
      ss after _ written (e ∙ walk_through (bus_call bus) bus.trace asked cs m) (
        h.0,
        h.1 ∙ ap (transcript_text (bus.trace after) (bus.chip after).failed)
            (lines_through asked call_text cs ss),
      )

  -- calls on a port with no layers over it
  pub port_told : {M : Type 0} (keeps : Bool) (port : PortMachine M) (cs : List PileCall)
      (ss : List Seen) (m after : M) (written : List ℕ)
      → (ss, after) ≡ walk (pile_call port) port.trace cs m
      → let lines = pile_lines count class reset keeps cs ss in
      ((port.trace after).lost ≡ 0)
      × (written ≡ transcript_text (port.trace after) (port.chip after).failed lines)
      → PileTells count class reset [] keeps port cs m written
  unfolding PileTells
  port_told keeps port cs ss m after written e h =
      told_so port.trace (λ m. (port.chip m).failed)
      (λ xs trace failed. transcript_text trace failed (pile_lines count class reset keeps cs xs))
      ss after _ written e h

  pub i2c_told : {Z E : Type 0} (a : ℕ) (marks : List ℕ) (tr : Traced) (job : Job)
      (made : Result I2cModel (Unmade Trace)) (r : Result (String Z) E)
      → I2cMade reset a marks tr made → tr.events ≡ [] → tr.lost ≡ 0
      → IfOk r (λ t. MatchResult made
      (λ b. JobTells count class reset (i2c_machine class reset) job b (string_bytes t))
      (λ e. string_bytes t ≡ unmade_text (reply_of failure_values e.refusal)))
      → IfOk r (λ t. I2cTells count class reset a marks job (string_bytes t))
  i2c_told a marks tr job (Ok b) (Ok t) is none fresh h =
      let bus = i2c_machine class reset in
      let text = subst (λ m. JobTells count class reset bus job m (string_bytes t)) is.1 h in
      inl (is.0, (tr, none, fresh, text))
  i2c_told a marks tr job (Err e) (Ok t) is none fresh h =
      inr (is.0, h ∙ ap unmade_text is.1)
  i2c_told a marks tr job made (Err e) is none fresh h = tt

  pub window_told : {Z E : Type 0} (ws : List ℕ) (job : Job)
      (made : Result WindowModel (Unmade (MutBor (List ℕ)))) (r : Result (String Z) E)
      → WindowMade reset ws made → length ws ≡ 129
      → let bus = window_machine class reset in
      IfOk r (λ t. MatchResult made
      (λ b. JobTells count class reset bus job b (string_bytes t))
      (λ e. string_bytes t ≡ unmade_text (reply_of failure_values e.refusal)))
      → IfOk r (λ t. JobTells count class reset bus job (new_window reset) (string_bytes t))
  window_told ws job (Ok b) (Ok t) is fits h =
      let bus = window_machine class reset in
      subst (λ m. JobTells count class reset bus job m (string_bytes t)) is.1 h
  window_told ws job (Err e) (Ok t) is fits h = absurd (is.0 fits)
  window_told ws job made (Err e) is fits h = tt
