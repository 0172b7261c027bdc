-- What the keeper's sending leaves, from the meaning of the port below alone. Assumes nothing.
use Rattle.std.proofs.Common.{◌≡◌, ℕ, ◌+◌, ◌-◌, ◌<◌, ◌≤◌, Bool, false, true, ◌⊎◌, List, [], ◌∷◌}
use Rattle.std.proofs.Common.{length, get_or, take, drop, None, sym, refl, ap, subst, ◌∙◌, inl, inr}
use Rattle.std.proofs.Common.{⊎_elim, arith, rules}
use Rattle.std.specs.List.{slice_range}
use Rattle.std.proofs.lemmas.List.{get_or-take, get_or-drop, length-take-le, length-drop}
use Rattle.std.proofs.lemmas.Bool.{false≢true}
use Rattle.refusal.specs.Replies.{Reply, acceptance}
use Rattle.chart.specs.Rules.{ChartRules}
use Rattle.chart.specs.declared.class.Class.{Class}
use Rattle.chart.specs.declared.class.Class.TheVariants.{Setting}
use Rattle.chip.specs.Words.{Fit}
use Rattle.chip.proofs.Soundness.{take_fits, drop_fits}
use Rattle.port.specs.Checks.{run_check, onward}
use Rattle.port.specs.Views.{View, Agree, with_run}
use Rattle.port.specs.Meaning.{PortMachine, PortMeaning, view, supply, Fine, Failed, Ran}
use Rattle.port.proofs.Replacing.{ran_outside, ran_inside}
use Rattle.port.proofs.Settled.{run_goes}
use Rattle.port_layer.specs.Errands.{on_owed}
use Rattle.port_layer.specs.Layer.{over, piece_back, send_piece, send_pieces, send_all}
use Rattle.port_layer.proofs.Standing.{went_on, ended, owed_fault, restood, stood_still, stood_on}
use Rattle.port_keeper_marks.specs.Runs.{is_marked, runs, clear, OutsideRun, IsNext, AreRuns}
use Rattle.port_keeper_marks.specs.declared.runs.Run.{Run}
use Rattle.port_keeper_marks.proofs.Running.{runs_are}
use Rattle.port_keeper_marks.proofs.Marking.{in_or_out, marked_cleared_other}
use Rattle.port_keeper_laws.specs.Machine.{KeeperModel, KeeperSound, registers, owed_at}
use Rattle.port_keeper_laws.specs.Machine.{without_run, keeper_sending, keeper_machine}
use Rattle.port_keeper_laws.proofs.Holding.{setting_low, cleared_none, kept_cleared, runs_behind}

-- words that were taken from a list, in their order
module _ (ws : List ℕ) (first n : ℕ) where
  abbrev words : List ℕ
  words = slice_range ws first (first + n)

  are_taken : words ≡ take n (drop first ws)
  are_taken = let many : first + n - first ≡ n = omega arith in rw many refl

  words_fit : Fit ws → Fit words
  words_fit fit = rw are_taken (take_fits n (drop first ws) (drop_fits first ws fit))

  module _ (fits : first + n ≤ length ws) where
    length-words : length words ≡ n
    length-words =
        rw are_taken (length-take-le n (drop first ws) (omega (arith, length-drop first ws)))

    -- given to the same numbers
    ran_own : (f : ℕ → ℕ) (i : ℕ) → first ≤ i → i < first + n
        → with_run first words f i ≡ get_or ws i 0
    ran_own f i from to =
        let at : first + (i - first) ≡ i = omega arith in
        ap (with_run first words f) (sym at)
        ∙ ran_inside first words f (i - first) (omega (arith, length-words))
        ∙ ap (λ l. get_or l (i - first) 0) are_taken
        ∙ get_or-take n (drop first ws) (i - first) 0 (omega arith)
        ∙ get_or-drop first ws (i - first) 0
        ∙ ap (λ k. get_or ws k 0) at

module _ {count : ℕ} {class : ℕ → Class} {reset : ℕ → ℕ}
    (chart : ChartRules count class reset) {M : Type 0} (keeps : Bool)
    (base : PortMachine M) (port : PortMeaning keeps class reset base) where
  abbrev K : Type 0
  K = KeeperModel M

  abbrev seen : K → View
  seen m = view (keeper_machine base keeps class reset) m

  -- as the port below shows it
  abbrev lower : M → View
  lower b = view base b

  abbrev S : K → Type 0
  S = KeeperSound base keeps class reset

  abbrev awake : K → Type 0
  awake m = supply base m.below ≡ true

  -- what is sent of a run
  abbrev words_of : K → Run → List ℕ
  words_of m r = words m.own.held r.first r.count

  -- what one run leaves
  abbrev RunSends : K → Run → Reply × K → Type 0
  RunSends m r q =
      ((q.0 ≡ acceptance []) × Fine class (seen m) (seen m).shown (seen q.1)
      × (q.1.own.owed ≡ clear r m.own.owed) × S q.1)
      ⊎ (Failed class (seen m) q.0 (seen q.1) × S q.1)

  -- all runs: all is sent, or a transfer failed
  abbrev pub AllSent : K → Reply × K → Type 0
  AllSent m q =
      ((q.0 ≡ acceptance []) × Fine class (seen m) (seen m).shown (seen q.1) × S q.1)
      ⊎ (Failed class (seen m) q.0 (seen q.1) × S q.1)

  -- one run of a keeper that is awake
  module _ (m : K) (r : Run) (s : S m) (on : awake m) (n : ℕ) (next : IsNext (owed_at m) n r) where
    inside_owed : (i : ℕ) → i < r.count → class (r.first + i) ≡ Setting
    inside_owed i h =
        s.kept.settings (r.first + i) (next.inside (r.first + i) (omega arith) (omega arith))

    last_low : r.first + r.count ≤ registers
    last_low =
        let last = r.count - 1 in
        let owed = inside_owed last (omega (arith, next.some)) in
        let low = setting_low chart (r.first + last) owed in
        omega (arith, next.some)

    within : r.first + r.count ≤ length m.own.held
    within = omega (arith, s.kept.size, last_low)

    many : length (words_of m r) ≡ r.count
    many = length-words m.own.held r.first r.count within

    fits : Fit (words_of m r)
    fits = words_fit m.own.held r.first r.count s.kept.fit

    goes : run_check keeps class r.first (length (words_of m r)) (supply base m.below) ≡ None
    goes = rw many (run_goes keeps class r.first r.count (supply base m.below) next.some next.few
        (search (rules, on)) inside_owed)

    -- what is not owed lies outside the run
    unowed_outside : (i : ℕ) → owed_at m i ≡ false → OutsideRun r i
    unowed_outside i e = ⊎_elim
        (λ at. absurd (false≢true (sym e ∙ next.inside i at.0 at.1)))
        (λ out. out)
        (in_or_out r i)

    outside_run : (f : ℕ → ℕ) (i : ℕ) → OutsideRun r i → with_run r.first (words_of m r) f i ≡ f i
    outside_run f i out =
        ran_outside r.first (words_of m r) f i
        (⊎_elim inl (λ past. inr (omega (arith, many))) out)

    module _ (b : M) (sound : base.Sound b) (same : supply base b ≡ supply base m.below) where
      not_off : supply base b ≡ false → ⊥
      not_off off = false≢true (sym off ∙ same ∙ on)

      -- the run was accepted, and its marks go
      accepted_sound : Agree class Setting (base.shown b)
          (with_run r.first (words_of m r) (base.shown m.below))
          → S (over (without_run r m.own) b)
      accepted_sound shows = record {
        below = sound;
        kept = kept_cleared chart m.own s.kept r;
        equal = λ i c e. ⊎_elim
            (λ at. shows i c
            ∙ ran_own m.own.held r.first r.count within (base.shown m.below) i at.0 at.1)
            (λ out. shows i c ∙ outside_run (base.shown m.below) i out
            ∙ s.equal i c (sym (marked_cleared_other r m.own.owed i out) ∙ e))
            (in_or_out r i);
        settled = λ k i. cleared_none r m.own.owed i (s.settled k i);
        asleep = λ k off. absurd (not_off off);
        lost = λ k off. absurd (not_off off);
      }

      -- a transfer failed, and the marks stand
      refused_sound : ((i : ℕ) → class i ≡ Setting
          → (base.shown b i ≡ base.shown m.below i)
          ⊎ (base.shown b i ≡ with_run r.first (words_of m r) (base.shown m.below) i))
          → S (over m.own b)
      refused_sound each = record {
        below = sound;
        kept = s.kept;
        equal = λ i c e. ⊎_elim
            (λ old. old ∙ s.equal i c e)
            (λ given. given ∙ outside_run (base.shown m.below) i (unowed_outside i e)
            ∙ s.equal i c e)
            (each i c);
        settled = s.settled;
        asleep = λ k off. absurd (not_off off);
        lost = λ k off. absurd (not_off off);
      }

    came_back : (p : Reply × M) → base.Sound p.1
        → Ran class (lower m.below) r.first (words_of m r) p.0 (lower p.1)
        → RunSends m r (piece_back (keeper_sending base) m r p)
    came_back p sound (inl (ok, (stood, shows))) =
        rw (went_on (on_owed p.0, over m.own p.1)
        (λ k. (on_owed p.0, over (without_run r k.own) k.below)) [] (ap on_owed ok)) (
        inl (
          ap on_owed ok,
          (restood _ _ _ _ (base.chip m.below) (base.chip p.1) stood, λ i c. refl),
          refl,
          accepted_sound p.1 sound stood.supply shows,
        )
        )
    came_back p sound (inr (fault, stood, each)) =
        let told = owed_fault p.0 fault in
        rw (ended (on_owed p.0, over m.own p.1)
        (λ k. (on_owed p.0, over (without_run r k.own) k.below)) _ told.5) (
        inr (
          (told, restood _ _ _ _ (base.chip m.below) (base.chip p.1) stood, λ i c. refl),
          refused_sound p.1 sound stood.supply each,
        )
        )

    run_sends : RunSends m r (send_piece (keeper_sending base) m r)
    run_sends =
        let ws = words_of m r in
        came_back (base.run m.below r.first ws) (port.run_sound m.below r.first ws s.below fits)
        (port.ran m.below r.first ws s.below fits goes)

  then_all : (m : K) (q r : Reply × K) → Fine class (seen m) (seen m).shown (seen q.1)
      → AllSent q.1 r → AllSent m r
  then_all m q r (stood, shows) (inl (ok, (more, also), s)) =
      inl (
        ok,
        (stood_on 0 (seen m) (seen q.1) (seen r.1) stood more, λ i c. also i c ∙ shows i c),
        s,
      )
  then_all m q r (stood, shows) (inr ((fault, more, also), s)) =
      inr (
        (
          fault,
          stood_on 1 (seen m) (seen q.1) (seen r.1) stood more,
          λ i c. also i c ∙ shows i c,
        ),
        s,
      )

  -- what follows the first run, where that was accepted
  after_first : (m : K) (r : Run) (on : awake m) (q : Reply × K) (rest : K → Reply × K)
      → RunSends m r q
      → (q.1.own.owed ≡ clear r m.own.owed → S q.1 → awake q.1 → AllSent q.1 (rest q.1))
      → AllSent m (onward q rest)
  after_first m r on q rest (inl (ok, fine, owed, s)) all =
      rw (went_on q rest [] ok) (then_all m q (rest q.1) fine (all owed s (fine.0.supply ∙ on)))
  after_first m r on q rest (inr (failed, s)) all =
      rw (ended q rest _ failed.0.5) (inr (failed, s))

  runs_send : (rs : List Run) (n : ℕ) (m : K) → S m → awake m → AreRuns (owed_at m) n rs
      → AllSent m (send_pieces (keeper_sending base) rs m)
  runs_send [] n m s on none = inl (refl, (stood_still (seen m), λ i c. refl), s)
  runs_send (r ∷ rs) n m s on (next, rest) =
      let sent = send_piece (keeper_sending base) m r in
      after_first m r on sent (send_pieces (keeper_sending base) rs) (run_sends m r s on n next)
      (λ owed sound awake. runs_send rs (r.first + r.count) sent.1 sound awake
      (subst (λ bs. AreRuns (is_marked bs) (r.first + r.count) rs) (sym owed)
      (runs_behind r rs m.own.owed rest)))

  pub all_sent : (m : K) → S m → awake m → AllSent m (send_all (keeper_sending base) m)
  all_sent m s on = runs_send (runs m.own.owed) 0 m s on (runs_are m.own.owed)
