-- Paging over a bus that has the meaning of a bus keeps to its rules. Assumes nothing.
use Rattle.std.proofs.Common.{◌≡◌, ◌≢◌, ℕ, ◌+◌, ◌-◌, ◌<◌, ◌≤◌, true, false, ◌⊎◌, List, [], ◌∷◌}
use Rattle.std.proofs.Common.{length, take, drop, Some, None, Option, sym, refl, ap, ◌∙◌, subst}
use Rattle.std.proofs.Common.{inl, inr, ⊎_elim, add-zero, ltb, leb, arith}
use Rattle.std.proofs.lemmas.List.{append-nil, length-take-le, length-drop, take-append-drop}
use Rattle.std.proofs.lemmas.Bool.{false≢true, cases_Bool, or_cases, ltb-true, lt-ltb, leb-true}
use Rattle.std.proofs.lemmas.Bool.{leb-false, eqb-true, eq-eqb, ne_eqb}
use Rattle.std.proofs.Math.Bool.{or-true}
use Rattle.patch.specs.Patch.{word_after}
use Rattle.refusal.specs.Replies.{Reply, acceptance}
use Rattle.chart.specs.Rules.{ChartRules}
use Rattle.chart.specs.declared.class.Class.{Class}
use Rattle.patch.specs.declared.patch.Patch.{Patch}
use Rattle.patch.proofs.Masked.{sets}
use Rattle.chip.specs.Words.{Fit}
use Rattle.chip.proofs.Soundness.{take_fits, drop_fits}
use Rattle.bus.specs.Checks.{measure_check}
use Rattle.bus.specs.Meaning.{BusMachine, BusMeaning}
use Rattle.bus.proofs.Settled.{either_way}
use Rattle.port.specs.Checks.{is_accepted, onward, in_turn}
use Rattle.port.specs.Meaning.{PortMachine, PatchFits}
use Rattle.port.proofs.Settled.{RunSettled, update_settled, run_settled, run_in_chart}
use Rattle.port_paging_laws.specs.Places.{page_of, raw_of, room_of}
use Rattle.port_paging_laws.specs.Machine.{PagingModel, PagingSound, PagingOutcome, paging_of}
use Rattle.port_paging_laws.specs.Machine.{reply_at}
use Rattle.port_paging_laws.specs.Machine.{is_awake, is_believed, is_at_hand, get_outcome}
use Rattle.port_paging_laws.specs.Machine.{reach_outcome, fetch_outcome, piece_outcome}
use Rattle.port_paging_laws.specs.Machine.{update_outcome, run_outcome, paging_machine}
use Rattle.port_paging_laws.specs.Laws.{IsAtHand, Piece, IsCut, Leaves, FaultAt, ReadsWord}
use Rattle.port_paging_laws.specs.Laws.{UpdatesWord, StoresRun, Passes, Selects, GoesOn, GetsOnce}
use Rattle.port_paging_laws.specs.Laws.{PutsOnce, RewritesWord, CanRead, CanUpdate, CanRun}
use Rattle.port_paging_laws.specs.Laws.{PagingLaws}
use Rattle.port_paging_laws.proofs.Sending.{Left, Broken, Stores, piece_stores}
use Rattle.port_paging_laws.proofs.PagingMeaning.{read_fetches, update_one, run_all}

module _ {count : ℕ} {class : ℕ → Class} {reset : ℕ → ℕ} (chart : ChartRules count class reset)
    {M : Type 0} (base : BusMachine M) (bus : BusMeaning class reset base) where
  abbrev P : Type 0
  P = PagingModel M

  abbrev port : PortMachine P
  port = paging_machine base class

  leaves : (m k : P) (f : ℕ → ℕ) (n : ℕ) → Left base m k f n → Leaves base m k f n
  leaves m k f n left =
      record { registers = left.words; supply = left.supply; failed = left.failed }

  fault_at : (m : P) (n : ℕ) (f : ℕ → ℕ) (q : PagingOutcome M)
      → Broken base m q n f → FaultAt base m n f q
  fault_at m n f q (cause, r, left) = ((cause, r), leaves m q.1 f 1 left)

  -- a fault at the register that was to be reached
  fault_here : (m : P) (n : ℕ) (f : ℕ → ℕ) (q : PagingOutcome M)
      → Broken base m q (n + 0) f → FaultAt base m n f q
  fault_here m n f q b = subst (λ i. FaultAt base m i f q) (add-zero n) (fault_at m (n + 0) f q b)

  reads : (m : P) (n : ℕ) → PagingSound base m → CanRead base class m n
      → ReadsWord base m n (port.read m n)
  reads m n sound goes = rw goes (⊎_elim
      (λ d. inl (d.0, leaves m _ _ 0 d.1))
      (λ b. inr (fault_here m n _ _ b))
      (read_fetches chart base bus m n sound goes))

  updates : (m : P) (n : ℕ) (p : Patch) → PagingSound base m → PatchFits p
      → CanUpdate base class m n → UpdatesWord base m n p (port.update m n p)
  updates m n p sound fits goes = rw goes (⊎_elim
      (λ d. inl (d.0, leaves m _ _ 0 d.1))
      (λ b. inr (fault_here m n _ _ b))
      (update_one chart base bus m n p sound fits goes))

  runs : (m : P) (first : ℕ) (ws : List ℕ) → PagingSound base m → Fit ws
      → CanRun base class m first ws → StoresRun base m first ws (port.run m first ws)
  runs m first ws sound fit goes = rw goes (⊎_elim
      (λ d. inl (d.0, leaves m _ _ 0 d.1))
      (λ b. inr (b.0, b.1, fault_at m (first + b.0) _ _ b.2))
      (run_all chart base bus m first ws sound fit goes))

  abbrev send : P → Piece → PagingOutcome M
  send k p = piece_outcome base k p.first p.words

  -- after a part that is refused, or accepted with no values, nothing is left to do
  ends : (r : Reply) (k : P) → (r ≡ acceptance []) ⊎ (is_accepted r ≡ false)
      → onward (r, k) (λ j. (acceptance [], j)) ≡ (r, k)
  ends r k (inl e) = rw e refl
  ends r k (inr e) = rw e refl

  piece_ends : (m : P) (first : ℕ) (ws : List ℕ) (q : PagingOutcome M)
      → Stores base m first ws q → onward q (λ j. (acceptance [], j)) ≡ q
  piece_ends m first ws q (inl (r, left)) = ends q.0 q.1 (inl r)
  piece_ends m first ws q (inr (k, few, (cause, r, left))) = ends q.0 q.1 (inr (rw r refl))

  abbrev IsInPieces : P → ℕ → List ℕ → Type 0
  IsInPieces m first ws =
      (pieces : List Piece) × IsCut first ws pieces × (length pieces ≤ 2)
      × (run_outcome base m first ws ≡ in_turn send pieces m)

  module _ (m : P) (first : ℕ) (ws : List ℕ) (sound : PagingSound base m) (fit : Fit ws)
      (goes : CanRun base class m first ws) where
    settled : RunSettled false class first (length ws) (is_awake base m)
    settled = run_settled false class first (length ws) (is_awake base m) goes

    inside : (1 ≤ first) × (first < 128) × (first + length ws ≤ 128)
    inside = run_in_chart chart false first (length ws) (is_awake base m) goes

    abbrev room : ℕ
    room = room_of first

    whole : leb (length ws) (room_of first) ≡ true → IsInPieces m first ws
    whole e =
        let short = leb-true (length ws) (room_of first) e in
        let done = piece_stores base bus m first ws sound settled.at_hand fit
        settled.some settled.few inside.0 (omega arith) inside.2 in (
          record { first = first; words = ws } ∷ [],
          (refl, settled.some, omega arith, tt, ([], sym (append-nil ws), refl)),
          omega arith,
          rw e (sym (piece_ends m first ws _ done)),
        )

    -- what lies past the multiple of 32, after what lies before it
    parted : leb (length ws) (room_of first) ≡ false → IsInPieces m first ws
    parted e =
        let long = leb-false (length ws) (room_of first) e in
        let size : length (take room ws) ≡ room = length-take-le room ws (omega arith) in
        let left : length (drop room ws) ≡ length ws - room = length-drop room ws in
        let few = settled.few in
        let end = inside.2 in
        let front = piece_stores base bus m first (take room ws) sound
        settled.at_hand (take_fits room ws fit) (omega arith) (omega arith) inside.0 (omega arith)
        (omega arith) in
        let back = λ (k : P) (f : ℕ → ℕ) (l : Left base m k f 0).
        piece_stores base bus k (first + room) (drop room ws) l.sound
        (l.supply ∙ settled.at_hand) (drop_fits room ws fit) (omega arith) (omega arith)
        (omega arith) (omega arith) (omega arith) in (
          record { first = first; words = take room ws }
              ∷ record { first = first + room; words = drop room ws } ∷ [],
          (
            refl,
            omega arith,
            omega arith,
            omega arith,
            (
              drop room ws,
              sym (take-append-drop room ws),
              (omega arith, omega arith, omega arith, tt, ([], sym (append-nil _), refl)),
            ),
          ),
          omega arith,
          rw e (⊎_elim
              (λ d. rw d.0 (sym (piece_ends _ (first + room) (drop room ws) _ (back _ _ d.1))))
              (λ b. rw b.2.1 refl)
              front),
        )

    in_pieces : IsInPieces m first ws
    in_pieces = ⊎_elim whole parted (cases_Bool (leb (length ws) (room_of first)))

  -- a part and the next, where each next one is as it should be
  goes_on : (part : PagingOutcome M) (next : P → PagingOutcome M)
      (Next : P → PagingOutcome M → Type 0)
      → ((k : P) → Next k (next k))
      → GoesOn part (onward part next) (λ k. Next k (onward part next))
  goes_on part next Next each = record {
    stops = λ e. rw (ne_eqb part.0.number 0 e) refl;
    goes = λ e. rw e (each part.1);
  }

  passes_told : (n : ℕ) (p : Reply × M) (page : Option ℕ)
      → Passes n p (reply_at n p.0, paging_of p.1 page)
  passes_told n p page =
      record { bus = refl; fine = λ z. z; fault = λ cause stored e. ap (reply_at n) e }

  passes_got : (k : P) (n : ℕ) (p : Reply × M) → Passes n p (get_outcome n p k)
  passes_got k n p =
      record { bus = refl; fine = λ z. rw z refl; fault = λ cause stored e. rw e refl }

  puts_once : (m : P) (n : ℕ) (ws : List ℕ) → PutsOnce base m n ws (piece_outcome base m n ws)
  puts_once m n ws = goes_on (reach_outcome base m n) _
      (λ k q. Passes n (base.put k.bus (raw_of n) ws) q × (q.1.page ≡ k.page))
      (λ k. (passes_told n (base.put k.bus (raw_of n) ws) k.page, refl))

  gets_once : (m : P) (n : ℕ) → CanRead base class m n
      → GetsOnce base m n (port.read m n)
  gets_once m n goes = rw goes (goes_on (reach_outcome base m n) _
      (λ k q. Passes n (base.get k.bus (raw_of n)) q × (q.1.page ≡ k.page))
      (λ k. (passes_got k n (base.get k.bus (raw_of n)), refl)))

  idles_still : (m : P) (n : ℕ) (p : Patch) → CanUpdate base class m n → p.mask ≡ 0
      → port.update m n p ≡ (acceptance [], m)
  idles_still m n p goes none = rw (goes, none) refl

  full_put : (m : P) (n : ℕ) (p : Patch) → PatchFits p → CanUpdate base class m n
      → p.mask ≡ 65535 → port.update m n p ≡ piece_outcome base m n (p.bits ∷ [])
  full_put m n p fits goes all =
      rw (goes, all) (ap (λ w. piece_outcome base m n (w ∷ [])) (sets p.bits 0 fits.1))

  rewrites_word : (m : P) (n : ℕ) (p : Patch) → p.mask ≢ 0 → p.mask ≢ 65535
      → RewritesWord base n p (fetch_outcome base m n) (update_outcome base m n p)
  rewrites_word m n p some part =
      let one = ne_eqb p.mask 0 some in
      let two = ne_eqb p.mask 65535 part in
      record {
        stops = λ e. rw (one, two, ne_eqb (fetch_outcome base m n).0.number 0 e) refl;
        same = λ w r e. rw (one, two, r, eq-eqb (word_after p w) w e) refl;
        differs = λ w r e. rw (one, two, r, ne_eqb (word_after p w) w e) refl;
      }

  masked_put : (m : P) (n : ℕ) (p : Patch) → CanUpdate base class m n → p.mask ≢ 0
      → p.mask ≢ 65535 → RewritesWord base n p (port.read m n) (port.update m n p)
  masked_put m n p goes some part =
      let settled = update_settled false (class n) (is_awake base m) goes in
      let read : CanRead base class m n = rw (settled.0, settled.1) refl in
      rw (goes, read) (rewrites_word m n p some part)

  believed_here : (page : Option ℕ) (n : ℕ) → page ≡ Some n → is_believed page n ≡ true
  believed_here page n e = rw e (eq-eqb n n refl)

  believed_page : (page : Option ℕ) (n : ℕ) → is_believed page n ≡ true → page ≡ Some n
  believed_page None n e = absurd (false≢true e)
  believed_page (Some q) n e = ap Some (eqb-true q n e)

  tests_at_hand : (page : Option ℕ) (n : ℕ) → IsAtHand page n → is_at_hand page n ≡ true
  tests_at_hand page n (inl low) = rw (lt-ltb n 32 low) refl
  tests_at_hand page n (inr e) = rw (believed_here page (page_of n) e) (or-true (ltb n 32))

  at_hand_tested : (page : Option ℕ) (n : ℕ) → is_at_hand page n ≡ true → IsAtHand page n
  at_hand_tested page n e = ⊎_elim
      (λ t. inl (ltb-true n 32 t))
      (λ b. inr (believed_page page (page_of n) b))
      (or_cases (ltb n 32) (is_believed page (page_of n)) e)

  tests_away : (page : Option ℕ) (n : ℕ) → ¬ IsAtHand page n → is_at_hand page n ≡ false
  tests_away page n away = ⊎_elim
      (λ t. absurd (away (at_hand_tested page n t)))
      (λ f. f)
      (cases_Bool (is_at_hand page n))

  selects : (m : P) (n : ℕ) → Selects base m n (reach_outcome base m n)
  selects m n = record {
    at_hand = λ here. rw (tests_at_hand m.page n here) refl;
    away = λ away. rw (tests_away m.page n away) (
      passes_told n (base.put m.bus 0 (page_of n ∷ [])) _,
      (λ z. rw z refl),
      (λ e. rw (ne_eqb (base.put m.bus 0 (page_of n ∷ [])).0.number 0 e) refl),
    );
  }

  measure_believes : (m : P) (n w : ℕ) → (port.measure m n w).1.page ≡ m.page
  measure_believes m n w =
      either_way (λ k. k.page ≡ m.page) (measure_check (class n)) m _ refl (λ e. refl)

  pub paging_laws : PagingLaws base class
  paging_laws = record {
    read = reads;
    update = updates;
    run = runs;
    cut = λ m first ws sound fit goes. rw goes (in_pieces m first ws sound fit goes);
    put = puts_once;
    get = gets_once;
    idle = idles_still;
    full = full_put;
    masked = masked_put;
    reach = selects;
    sync = λ m awake. rw awake refl;
    sync_asleep = λ m off. rw off refl;
    down = λ m. refl;
    up = λ m. refl;
    measure = measure_believes;
    measured = λ m n w goes. rw goes refl;
  }
