-- What the deferral's sending leaves, from the meaning of the port below alone. Assumes nothing.
use Rattle.std.proofs.Common.{◌≡◌, ℕ, ◌+◌, ◌<◌, ◌≤◌, Bool, true, false, ◌||◌, ◌⊎◌, inl, inr, ⊎_elim}
use Rattle.std.proofs.Common.{List, [], ◌∷◌, ◌++◌, length, drop, Some, None, sym, refl, ap, subst}
use Rattle.std.proofs.Common.{◌∙◌, arith, rules}
use Rattle.std.proofs.Math.Seq.{drop-append_seam}
use Rattle.std.proofs.lemmas.List.{length-append, length-map}
use Rattle.patch.specs.Patch.{word_after, is_complete}
use Rattle.refusal.specs.Replies.{Reply, acceptance}
use Rattle.chart.specs.declared.class.Class.{Class}
use Rattle.chart.specs.declared.class.Class.TheVariants.{Setting}
use Rattle.patch.specs.declared.patch.Patch.{Patch}
use Rattle.chip.specs.Words.{Fit}
use Rattle.port.specs.Checks.{run_check, onward}
use Rattle.port.specs.Views.{View}
use Rattle.port.specs.Meaning.{PortMachine, PortMeaning, view, supply, Stood, Faulted, Fine, Failed}
use Rattle.port.specs.Meaning.{Updated, Ran}
use Rattle.port.proofs.Settled.{run_goes}
use Rattle.port_layer.specs.Errands.{on_owed}
use Rattle.port_layer.specs.Layer.{Sending, over, piece_back, send_piece, send_pieces, send_all}
use Rattle.port_layer.proofs.Standing.{went_on, ended, owed_fault, restood, stood_still, stood_on}
use Rattle.port_deferral_table.specs.Entries.{IsEntry, Ascend, AreBursts, Linked, waiting_patch}
use Rattle.port_deferral_table.specs.Entries.{word_under}
use Rattle.port_deferral_table.specs.Entries.{bursts, words_of}
use Rattle.port_deferral_table.specs.declared.entry.Entry.{Entry}
use Rattle.port_deferral_table.proofs.Cutting.{bursts_are}
use Rattle.port_deferral_table.proofs.Finding.{found_at, found_front, found_rest, ascend_front}
use Rattle.port_deferral_table.proofs.Finding.{ascend_rest}
use Rattle.port_deferral_laws.specs.Machine.{DeferralModel, DeferralSound, send_burst}
use Rattle.port_deferral_laws.specs.Machine.{deferral_sending, deferral_machine}
use Rattle.port_deferral_laws.proofs.Covering.{under_both, words_fit, by_sending, found_linked}
use Rattle.port_deferral_laws.proofs.Covering.{run_covers, covered_again, one_covered}

-- a reply is not both accepted and a fault
not_both : {class : ℕ → Class} (r : Reply) → Faulted class r → r ≡ acceptance [] → ⊥
not_both r fault ok = let e : 6 ≡ 0 = ap (λ x. x.number) (sym fault.5 ∙ ok) in omega (arith, e)

module _ {class : ℕ → Class} {reset : ℕ → ℕ} {M : Type 0} (keeps : Bool)
    (base : PortMachine M) (port : PortMeaning keeps class reset base) where
  abbrev D : Type 0
  D = DeferralModel M

  abbrev sending : Sending (List Entry) (List Entry) M
  sending = deferral_sending base

  abbrev seen : D → View
  seen m = view (deferral_machine base keeps class) m

  -- as the port below shows it
  abbrev lower : M → View
  lower b = view base b

  abbrev S : D → Type 0
  S = DeferralSound base class

  -- settings are at hand below: it keeps them, or the supply is on
  abbrev AtHand : M → Type 0
  AtHand b = (keeps || supply base b) ≡ true

  -- a port that keeps takes what it is sent without the line
  abbrev Taken : M → Reply → Type 0
  Taken b r = keeps ≡ true → supply base b ≡ false → r ≡ acceptance []

  -- the line can be used
  abbrev OnLine : M → Type 0
  OnLine b = keeps ≡ true → supply base b ≡ false → ⊥

  -- What a burst that went below leaves there: its words are shown; or a transfer failed, and seen
  -- through the burst nothing changed.
  abbrev Went : M → List Entry → Reply × M → Type 0
  Went b burst q =
      ((q.0 ≡ acceptance [])
      × Fine class (lower b) (λ i. word_under (waiting_patch i burst) (base.shown b i)) (lower q.1))
      ⊎ (Faulted class q.0 × Stood class 1 (lower b) (lower q.1)
      × ((i : ℕ) → class i ≡ Setting
      → word_under (waiting_patch i burst) (base.shown q.1 i)
      ≡ word_under (waiting_patch i burst) (base.shown b i))
      × OnLine b)

  -- one burst of settings that are at hand
  module _ (b : M) (sound : base.Sound b) (hand : AtHand b) (n : ℕ) (e : Entry) (es : List Entry)
      (are : Ascend IsEntry n (e ∷ es)) (few : length (e ∷ es) ≤ 16) (linked : Linked (e ∷ es))
      (settings : (i : ℕ) (p : Patch) → waiting_patch i (e ∷ es) ≡ Some p → class i ≡ Setting) where
    inside : (i : ℕ) → i < length (e ∷ es) → class (e.register + i) ≡ Setting
    inside i low = let at = found_linked e es i linked low in settings (e.register + i) at.0 at.1

    abbrev words : List ℕ
    words = words_of (e ∷ es)

    fit : Fit words
    fit = words_fit n (e ∷ es) are

    many : length words ≡ length (e ∷ es)
    many = length-map (e ∷ es) (λ x. word_after x.patch 0)

    goes : run_check keeps class e.register (length words) (supply base b) ≡ None
    goes =
        let on = supply base b in
        ap (λ k. run_check keeps class e.register k on) many
        ∙ run_goes keeps class e.register (length (e ∷ es)) on (omega arith) few hand inside

    module _ (q : Reply × M) (taken : Taken b q.0) where
      on_line : Faulted class q.0 → OnLine b
      on_line fault k off = not_both q.0 fault (taken k off)

      run_went : is_complete e.patch ≡ true → Ran class (lower b) e.register words q.0 (lower q.1)
          → Went b (e ∷ es) q
      run_went whole (inl (ok, (stood, shows))) = inl (
        ok,
        (stood, λ i c. shows i c ∙ run_covers e es n (base.shown b) i are linked whole),
      )
      run_went whole (inr (fault, stood, each)) = inr (
        fault,
        stood,
        λ i c.
            let covers = run_covers e es n (base.shown b) i are linked whole in
            ⊎_elim
            (λ old. ap (word_under (waiting_patch i (e ∷ es))) old)
            (λ given.
            ap (word_under (waiting_patch i (e ∷ es))) (given ∙ covers)
            ∙ covered_again e es i (base.shown b i) linked whole)
            (each i c),
        on_line fault,
      )

      update_went : es ≡ [] → Updated class (lower b) e.register e.patch q.0 (lower q.1)
          → Went b (e ∷ es) q
      update_went one (inl (ok, (stood, shows))) =
          inl (ok, (stood, λ i c. shows i c ∙ one_covered e es (base.shown b) i one))
      update_went one (inr (fault, stood, shows)) =
          inr (
            fault,
            stood,
            λ i c. ap (word_under (waiting_patch i (e ∷ es))) (shows i c),
            on_line fault,
          )

    here : class e.register ≡ Setting
    here = settings e.register e.patch (found_at e.register e es refl)

    went : Went b (e ∷ es) (send_burst base b (e ∷ es))
    went = by_sending base b (Went b (e ∷ es)) e es linked
        (λ one. update_went (base.update b e.register e.patch)
        (λ k off. port.kept_update b e.register e.patch sound k off here) one
        (port.updated b e.register e.patch sound are.1.fits (search (rules, here, hand))))
        (λ whole. run_went (base.run b e.register words)
        (λ k off. port.kept_run b e.register words sound fit k off
        (ap (run_check keeps class e.register (length words)) (sym off) ∙ goes)) whole
        (port.ran b e.register words sound fit goes))

    stays : base.Sound (send_burst base b (e ∷ es)).1
    stays = by_sending base b (λ q. base.Sound q.1) e es linked
        (λ one. port.update_sound b e.register e.patch sound are.1.fits)
        (λ whole. port.run_sound b e.register words sound fit)

  -- what a burst alone leaves: its entries are gone, or a transfer failed and they stand
  abbrev BurstSends : D → List Entry → Reply × D → Type 0
  BurstSends m rest q =
      ((q.0 ≡ acceptance []) × Fine class (seen m) (seen m).shown (seen q.1)
      × (q.1.own ≡ rest) × S q.1)
      ⊎ (Failed class (seen m) q.0 (seen q.1) × OnLine m.below × S q.1)

  module _ (m : D) (burst rest : List Entry) (s : S m) (split : m.own ≡ burst ++ rest) where
    whole_are : Ascend IsEntry 0 (burst ++ rest)
    whole_are = subst (Ascend IsEntry 0) split s.table.1

    -- a setting as it is shown is the one below under the burst, and then under the rest
    in_parts : (g : ℕ → ℕ) (i : ℕ)
        → word_under (waiting_patch i m.own) (g i)
        ≡ word_under (waiting_patch i rest) (word_under (waiting_patch i burst) (g i))
    in_parts g i =
        ap (λ es. word_under (waiting_patch i es) (g i)) split
        ∙ under_both 0 i (g i) burst rest whole_are

    rest_settings : (i : ℕ) (p : Patch) → waiting_patch i rest ≡ Some p → class i ≡ Setting
    rest_settings i p is =
        let later = found_rest IsEntry 0 i burst rest p whole_are is in
        s.settings i p (ap (waiting_patch i) split ∙ later)

    rest_few : length rest ≤ 16
    rest_few = omega (arith, s.table.0, ap length split, length-append burst rest)

    dropped : drop (length burst) m.own ≡ rest
    dropped = ap (drop (length burst)) split ∙ drop-append_seam burst rest

    left : (b : M) → base.Sound b → S (over (drop (length burst) m.own) b)
    left b sound = rw dropped (record {
      below = sound;
      table = (rest_few, ascend_rest IsEntry 0 burst rest whole_are);
      settings = rest_settings;
    })

    front_settings : (i : ℕ) (p : Patch) → waiting_patch i burst ≡ Some p → class i ≡ Setting
    front_settings i p is =
        s.settings i p (ap (waiting_patch i) split ∙ found_front i burst rest p is)

    front_few : length burst ≤ 16
    front_few = omega (arith, s.table.0, ap length split, length-append burst rest)

    -- what becomes of it once it is accepted
    abbrev gone : Reply × M → D → Reply × D
    gone q k = (on_owed q.0, over (drop (length burst) k.own) k.below)

    came_back : (q : Reply × M) → base.Sound q.1 → Went m.below burst q
        → BurstSends m rest (piece_back sending m burst q)
    came_back q sound (inl (ok, (stood, shows))) =
        rw (went_on (on_owed q.0, over m.own q.1) (gone q) [] (ap on_owed ok))
        (inl (
          ap on_owed ok,
          (
            restood _ _ _ _ (base.chip m.below) (base.chip q.1) stood,
            λ i c.
                ap (λ es. word_under (waiting_patch i es) (base.shown q.1 i)) dropped
                ∙ ap (word_under (waiting_patch i rest)) (shows i c)
                ∙ sym (in_parts (base.shown m.below) i),
          ),
          dropped,
          left q.1 sound,
        ))
    came_back q sound (inr (fault, stood, same, line)) =
        let told = owed_fault q.0 fault in
        rw (ended (on_owed q.0, over m.own q.1) (gone q) _ told.5)
        (inr (
          (
            told,
            restood _ _ _ _ (base.chip m.below) (base.chip q.1) stood,
            λ i c.
                in_parts (base.shown q.1) i
                ∙ ap (word_under (waiting_patch i rest)) (same i c)
                ∙ sym (in_parts (base.shown m.below) i),
          ),
          line,
          record { below = sound; table = s.table; settings = s.settings },
        ))

  burst_sends : (m : D) (burst rest : List Entry) → S m → m.own ≡ burst ++ rest → Linked burst
      → AtHand m.below → BurstSends m rest (send_piece sending m burst)
  burst_sends m [] rest s split linked hand = absurd linked
  burst_sends m (e ∷ es) rest s split linked hand =
      let burst = e ∷ es in
      let b = m.below in
      let are = ascend_front IsEntry 0 burst rest (whole_are m burst rest s split) in
      let few = front_few m burst rest s split in
      let settings = front_settings m burst rest s split in
      came_back m burst rest s split (send_burst base b burst)
      (stays b s.below hand 0 e es are few linked settings)
      (went b s.below hand 0 e es are few linked settings)

  -- all bursts: all is sent, or a transfer failed
  abbrev pub AllSent : D → Reply × D → Type 0
  AllSent m q = BurstSends m [] q

  then_all : (m : D) (q r : Reply × D) → Fine class (seen m) (seen m).shown (seen q.1)
      → AllSent q.1 r → AllSent m r
  then_all m q r (stood, shows) (inl (ok, (more, same), none, s)) = inl (
    ok,
    (stood_on 0 (seen m) (seen q.1) (seen r.1) stood more, λ i c. same i c ∙ shows i c),
    none,
    s,
  )
  then_all m q r (stood, shows) (inr ((fault, more, same), line, s)) = inr (
    (
      fault,
      stood_on 1 (seen m) (seen q.1) (seen r.1) stood more,
      λ i c. same i c ∙ shows i c,
    ),
    λ k off. line k (stood.supply ∙ off),
    s,
  )

  -- what follows the first burst, where that was accepted
  after_first : (m : D) (rest : List Entry) (q : Reply × D) (next : D → Reply × D)
      → BurstSends m rest q
      → (q.1.own ≡ rest → S q.1 → supply base q.1.below ≡ supply base m.below
      → AllSent q.1 (next q.1))
      → AllSent m (onward q next)
  after_first m rest q next (inl (ok, fine, gone, sound)) all =
      rw (went_on q next [] ok) (then_all m q (next q.1) fine (all gone sound fine.0.supply))
  after_first m rest q next (inr (failed, line, sound)) all =
      rw (ended q next _ failed.0.5) (inr (failed, line, sound))

  bursts_send : (bs : List (List Entry)) (m : D) → S m → AtHand m.below → AreBursts m.own bs
      → AllSent m (send_pieces sending bs m)
  bursts_send [] m s hand none = inl (refl, (stood_still (seen m), λ i c. refl), none, s)
  bursts_send (b ∷ bs) m s hand (rest, split, linked, ends, more) =
      let first = send_piece sending m b in
      after_first m rest first (send_pieces sending bs) (burst_sends m b rest s split linked hand)
      (λ gone sound same. bursts_send bs first.1 sound (ap (λ on. keeps || on) same ∙ hand)
      (subst (λ es. AreBursts es bs) (sym gone) more))

  pub all_sent : (m : D) → S m → AtHand m.below → AllSent m (send_all sending m)
  all_sent m s hand = bursts_send (bursts m.own) m s hand (bursts_are m.own)
