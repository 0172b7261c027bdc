-- What paging's transfers leave, from the meaning of the bus alone. Assumes nothing.
use Rattle.std.proofs.Common.{◌≡◌, ℕ, ◌+◌, ◌-◌, ◌%◌, ◌<◌, ◌≤◌, true, false, ltb, leb, ◌⊎◌}
use Rattle.std.proofs.Common.{List, [], ◌∷◌, ◌++◌, length, get_or, set, take, drop, Some, None}
use Rattle.std.proofs.Common.{Option, sym, refl, ap, ◌∙◌, subst, inl, inr, ⊎_elim, add-zero}
use Rattle.std.proofs.Common.{add_assoc, arith, rules}
use lib.Seq.{take-append-add}
use Rattle.std.proofs.lemmas.List.{get_or-set_same, get_or-set_other, length-take-le}
use Rattle.std.proofs.lemmas.List.{length-append, length-drop, take-append-le, take-append-drop}
use Rattle.std.proofs.lemmas.Bool.{cases_Bool, or_cases, ltb-true, leb-true, leb-false}
use Rattle.std.proofs.lemmas.Bool.Decides.{nat_tests}
use Rattle.refusal.specs.Replies.{Reply, acceptance, refusal_of}
use Rattle.chart.specs.declared.class.Class.{Class}
use Rattle.chip.specs.Words.{selector, rising_words, store_all, Fit}
use Rattle.chip.proofs.Soundness.{take_fits, drop_fits, one_fits}
use Rattle.bus.specs.Chips.{Chip}
use Rattle.bus.specs.Checks.{get_check, put_check}
use Rattle.bus.specs.Meaning.{BusMachine, BusMeaning, Got, Put}
use Rattle.port.specs.Checks.{onward}
use Rattle.port.specs.Views.{word_in, with_run}
use Rattle.port.proofs.Replacing.{ran_same, ran_outside}
use Rattle.port_paging_laws.specs.Places.{page_of, raw_of, room_of}
use Rattle.port_paging_laws.specs.Machine.{PagingModel, PagingSound, PagingOutcome, Believed}
use Rattle.port_paging_laws.specs.Machine.{paging_of}
use Rattle.port_paging_laws.specs.Machine.{is_awake, is_believed, is_at_hand}
use Rattle.port_paging_laws.specs.Machine.{selection_outcome, get_outcome, put_outcome}
use Rattle.port_paging_laws.specs.Machine.{reach_outcome, fetch_outcome, piece_outcome, run_outcome}
use Rattle.port_paging_laws.proofs.Storing.{Aimed, aimed, aimed_less, loaded_at, ran-append}
use Rattle.port_paging_laws.proofs.Storing.{burst_words}

put_goes : (raw n : ℕ) → 0 < n → n ≤ 16 → raw + n ≤ 64 → put_check raw n true ≡ None
put_goes raw n some few fits = grind (arith, nat_tests)

get_goes : (raw : ℕ) → raw ≤ 63 → get_check raw true ≡ None
get_goes raw low = grind (arith, nat_tests)

-- what is aimed at lies below raw 64
aimed_below : (s raw first n : ℕ) → Aimed s raw first n → raw + n ≤ 64
aimed_below s raw first n at = grind arith

-- a page that is believed to be this one
believed_is : (page : Option ℕ) (p s : ℕ) → is_believed page p ≡ true → Believed page s → s ≡ p
believed_is None p s e b = search rules
believed_is (Some q) p s e b = search rules

module _ {M : Type 0} (base : BusMachine M) where
  abbrev P : Type 0
  P = PagingModel M

  abbrev pub word : P → ℕ → ℕ
  word m = word_in (base.chip m.bus)

  abbrev pub awake_at : P → Type 0
  awake_at m = is_awake base m ≡ true

  -- from m a call came to k: the registers have these words, and n transfers failed
  pub record Left (m k : P) (f : ℕ → ℕ) (n : ℕ) : Type 0 where
    pub sound : PagingSound base k
    pub words : (i : ℕ) → i < 128 → word k i ≡ f i
    pub supply : (base.chip k.bus).supply ≡ (base.chip m.bus).supply
    pub failed : (base.chip k.bus).failed ≡ (base.chip m.bus).failed + n

  -- a register can be reached as things are
  abbrev pub Facing : P → ℕ → Type 0
  Facing k n = (n < 32) ⊎ (selector (base.chip k.bus).words ≡ page_of n)

  -- a fault at a register, which leaves these words
  abbrev pub Broken : P → PagingOutcome M → ℕ → (ℕ → ℕ) → Type 0
  Broken m q n words =
      (cause : ℕ) × (q.0 ≡ refusal_of 6 (cause ∷ n ∷ 0 ∷ [])) × Left m q.1 words 1

  abbrev pub Reaches : P → ℕ → PagingOutcome M → Type 0
  Reaches m n q =
      ((q.0 ≡ acceptance []) × Left m q.1 (word m) 0 × Facing q.1 n)
      ⊎ Broken m q (n + 0) (word m)

  abbrev pub Fetches : P → ℕ → PagingOutcome M → Type 0
  Fetches m n q =
      ((q.0 ≡ acceptance (word m n ∷ [])) × Left m q.1 (word m) 0) ⊎ Broken m q (n + 0) (word m)

  -- over words f some are stored from a register on: all of them, or those before the one that the
  -- fault names
  abbrev pub StoresOver : (ℕ → ℕ) → P → ℕ → List ℕ → PagingOutcome M → Type 0
  StoresOver f m first ws q =
      ((q.0 ≡ acceptance []) × Left m q.1 (with_run first ws f) 0)
      ⊎ ((k : ℕ) × (k < length ws) × Broken m q (first + k) (with_run first (take k ws) f))

  abbrev pub Stores : P → ℕ → List ℕ → PagingOutcome M → Type 0
  Stores m first ws q = StoresOver (word m) m first ws q

  pub unmoved : (m : P) → PagingSound base m → Left m m (word m) 0
  unmoved m sound =
      record { sound = sound; words = λ i h. refl; supply = refl; failed = sym (add-zero _) }

  -- one call after another
  left_on : (m k l : P) (f g h : ℕ → ℕ) (n : ℕ) → Left m k f 0 → Left k l g n
      → ((i : ℕ) → word k i ≡ f i → g i ≡ h i) → Left m l h n
  left_on m k l f g h n first then same = record {
    sound = then.sound;
    words = λ i low. then.words i low ∙ same i (first.words i low);
    supply = then.supply ∙ first.supply;
    failed = omega (arith, first.failed, then.failed);
  }

  -- words stored after a call that left f
  pub stores_on : (m k : P) (f : ℕ → ℕ) (first : ℕ) (ws : List ℕ) (q : PagingOutcome M)
      → Left m k f 0 → Stores k first ws q → StoresOver f m first ws q
  stores_on m k f first ws q left (inl (r, then)) =
      inl (
        r,
        left_on m k q.1 f (with_run first ws (word k)) (with_run first ws f) 0 left then
            (ran_same first ws (word k) f),
      )
  stores_on m k f first ws q left (inr (j, few, (cause, r, then))) =
      let part = take j ws in
      inr (
        j,
        few,
        (
          cause,
          r,
          left_on m k q.1 f (with_run first part (word k)) (with_run first part f) 1
              left then (ran_same first part (word k) f),
        ),
      )

  -- the first words of a longer list, cut short by a fault
  stores_front : (m : P) (first : ℕ) (xs ys : List ℕ) (q : PagingOutcome M) (j : ℕ) → j < length xs
      → Broken m q (first + j) (with_run first (take j xs) (word m)) → Stores m first (xs ++ ys) q
  stores_front m first xs ys q j few b =
      inr (j, omega (arith, length-append xs ys), rw (take-append-le j xs ys (omega arith)) b)

  -- words stored after others, as one list
  as_whole : (m k : P) (first : ℕ) (xs ys : List ℕ) (n : ℕ)
      → Left m k (with_run (first + length xs) ys (with_run first xs (word m))) n
      → Left m k (with_run first (xs ++ ys) (word m)) n
  as_whole m k first xs ys n l = record {
    sound = l.sound;
    words = λ i h. l.words i h ∙ ran-append first xs ys (word m) i;
    supply = l.supply;
    failed = l.failed;
  }

  -- the rest of the list after them
  stores_back : (m : P) (first : ℕ) (xs ys : List ℕ) (q : PagingOutcome M)
      → StoresOver (with_run first xs (word m)) m (first + length xs) ys q
      → Stores m first (xs ++ ys) q
  stores_back m first xs ys q (inl (r, left)) = inl (r, as_whole m q.1 first xs ys 0 left)
  stores_back m first xs ys q (inr (j, few, (cause, r, left))) = inr (
    length xs + j,
    omega (arith, length-append xs ys),
    (
      cause,
      r ∙ ap (λ n. refusal_of 6 (cause ∷ n ∷ 0 ∷ [])) (add_assoc first (length xs) j),
      rw (take-append-add xs ys j) (as_whole m q.1 first xs (take j ys) 1 left),
    ),
  )

  module _ {class : ℕ → Class} {reset : ℕ → ℕ} (bus : BusMeaning class reset base) where
    -- the put of a selector
    selects : (m : P) (n : ℕ) (p : Reply × M) → PagingSound base m → n < 128 → base.Sound p.1
        → Put (base.chip m.bus) 0 (page_of n ∷ []) p.0 (base.chip p.1)
        → Reaches m n (selection_outcome n p)
    selects m n p sound low after (inl (r, is)) =
        let ws = (base.chip m.bus).words in
        let size = (bus.words m.bus sound.0).size in
        let page : get_or (set ws 128 (page_of n % 4)) 128 0 ≡ page_of n =
        get_or-set_same ws 128 (page_of n % 4) 0 (omega (arith, size)) ∙ (omega arith) in
        rw (r, is) (inl (
          refl,
          record {
            sound = (after, rw is (sym page));
            words = λ i h. rw is (get_or-set_other ws 128 i (page_of n % 4) 0 (λ e. omega arith));
            supply = rw is refl;
            failed = rw is (sym (add-zero _));
          },
          inr page,
        ))
    selects m n p sound low after (inr (cause, k, few, r, is)) =
        let none : k ≡ 0 = omega arith in
        rw (r, none) (inr (
          cause,
          refl,
          record {
            sound = (after, tt);
            words = λ i h. rw (is, none) refl;
            supply = rw is refl;
            failed = rw is refl;
          },
        ))

    pub reaches : (m : P) (n : ℕ) → PagingSound base m → awake_at m → n < 128
        → Reaches m n (reach_outcome base m n)
    reaches m n sound on low = ⊎_elim stays goes (cases_Bool (is_at_hand m.page n))
      where
        facing : is_at_hand m.page n ≡ true → Facing m n
        facing e = ⊎_elim
            (λ t. inl (ltb-true n 32 t))
            (λ b. inr (believed_is m.page (page_of n) _ b sound.1))
            (or_cases (ltb n 32) (is_believed m.page (page_of n)) e)

        stays : is_at_hand m.page n ≡ true → Reaches m n (reach_outcome base m n)
        stays e = rw e (inl (refl, unmoved m sound, facing e))

        goes : is_at_hand m.page n ≡ false → Reaches m n (reach_outcome base m n)
        goes e =
            let page = page_of n ∷ [] in
            let fit = one_fits (page_of n) (omega arith) in
            rw e (selects m n (base.put m.bus 0 page) sound low
            (bus.put_sound m.bus 0 page sound.0 fit)
            (bus.put_sent m.bus 0 page sound.0 (ap (put_check 0 1) on)))

    -- a get of a register that can be reached
    gets : (k : P) (n : ℕ) (p : Reply × M) → PagingSound base k → base.Sound p.1
        → Aimed (selector (base.chip k.bus).words) (raw_of n) n 1
        → Got (base.chip k.bus) (raw_of n) p.0 (base.chip p.1) → Fetches k n (get_outcome n p k)
    gets k n p sound after at (inl (r, is)) =
        let here = loaded_at (base.chip k.bus).words (raw_of n) n 1 (omega arith) at in
        rw r (inl (
          ap (λ w. acceptance (w ∷ [])) here,
          record {
            sound = (after, rw is sound.1);
            words = λ i h. rw is refl;
            supply = rw is refl;
            failed = rw is (sym (add-zero _));
          },
        ))
    gets k n p sound after at (inr (cause, r, is)) =
        rw r (inr (
          cause,
          refl,
          record {
            sound = (after, rw is sound.1);
            words = λ i h. rw is refl;
            supply = rw is refl;
            failed = rw is refl;
          },
        ))

    -- a chip after a burst, in which n transfers failed
    abbrev burst_chip : Chip → ℕ → List ℕ → ℕ → Chip
    burst_chip c raw vs n = record {
      words = store_all c.words (rising_words raw vs);
      supply = c.supply;
      failed = c.failed + n;
    }

    -- a chip after a burst that was aimed at registers
    burst_left : (k : P) (b : M) (first n : ℕ) (vs : List ℕ) → PagingSound base k
        → base.Sound b → first + length vs ≤ 128
        → Aimed (selector (base.chip k.bus).words) (raw_of first) first (length vs)
        → base.chip b ≡ burst_chip (base.chip k.bus) (raw_of first) vs n
        → Left k (paging_of b k.page) (with_run first vs (word k)) n
    burst_left k b first n vs sound after last at is =
        let ws = (base.chip k.bus).words in
        let size = (bus.words k.bus sound.0).size in
        let stored = λ (i : ℕ). burst_words ws (raw_of first) first vs i size last at in
        let same = stored 128 ∙ ran_outside first vs (word k) 128 (inr last) in
        record {
          sound = (after, rw (is, same) sound.1);
          words = λ i h. rw is (stored i);
          supply = rw is refl;
          failed = rw is refl;
        }

    puts : (k : P) (first : ℕ) (ws : List ℕ) (p : Reply × M) → PagingSound base k
        → base.Sound p.1 → first + length ws ≤ 128
        → Aimed (selector (base.chip k.bus).words) (raw_of first) first (length ws)
        → Put (base.chip k.bus) (raw_of first) ws p.0 (base.chip p.1)
        → Stores k first ws (put_outcome first p k)
    puts k first ws p sound after last at (inl (r, is)) =
        let c = base.chip k.bus in
        let none = λ (n : ℕ). record (burst_chip c (raw_of first) ws 0) { failed = n } in
        rw r (inl (
          refl,
          burst_left k p.1 first 0 ws sound after last at
              (is ∙ ap none (sym (add-zero _))),
        ))
    puts k first ws p sound after last at (inr (cause, j, few, r, is)) =
        let s = selector (base.chip k.bus).words in
        let n = length (take j ws) in
        let part : n ≡ j = length-take-le j ws (omega arith) in
        let front = aimed_less s (raw_of first) first (length ws) n (omega arith) at in
        rw r (inr (
          j,
          few,
          (cause, refl, burst_left k p.1 first 1 (take j ws) sound after (omega arith) front is),
        ))

    pub fetches : (m : P) (n : ℕ) → PagingSound base m → awake_at m → 1 ≤ n → n < 128
        → Fetches m n (fetch_outcome base m n)
    fetches m n sound on some low = ⊎_elim goes stops (reaches m n sound on low)
      where
        first : PagingOutcome M
        first = reach_outcome base m n

        next : P → PagingOutcome M
        next k = get_outcome n (base.get k.bus (raw_of n)) k

        goes : (first.0 ≡ acceptance []) × Left m first.1 (word m) 0 × Facing first.1 n
            → Fetches m n (fetch_outcome base m n)
        goes (r, left, facing) =
            let k = first.1 in
            let at = aimed (selector (base.chip k.bus).words) n 1 facing some (omega arith)
            (omega arith) (omega arith) in
            let check = ap (get_check (raw_of n)) (left.supply ∙ on)
            ∙ get_goes (raw_of n) (omega (arith, aimed_below _ _ _ _ at)) in
            let sent = bus.get_sent k.bus (raw_of n) left.sound.0 check in
            let after = bus.get_sound k.bus (raw_of n) left.sound.0 in
            let done = gets k n (base.get k.bus (raw_of n)) left.sound after at sent in
            let on_from = λ (f : ℕ) (then : Left k (next k).1 (word k) f).
            left_on m k (next k).1 (word m) (word k) (word m) f left then (λ i e. e) in
            rw r (⊎_elim
            (λ d. inl (d.0 ∙ ap (λ w. acceptance (w ∷ [])) (left.words n low), on_from 0 d.1))
            (λ d. inr (d.0, d.1, on_from 1 d.2)) done)

        stops : Broken m first (n + 0) (word m) → Fetches m n (fetch_outcome base m n)
        stops b = rw b.1 (inr b)

    pub piece_stores : (m : P) (first : ℕ) (ws : List ℕ) → PagingSound base m → awake_at m
        → Fit ws → 0 < length ws → length ws ≤ 16 → 1 ≤ first → first % 32 + length ws ≤ 32
        → first + length ws ≤ 128 → Stores m first ws (piece_outcome base m first ws)
    piece_stores m first ws sound on fit some few begin block last =
        ⊎_elim goes stops (reaches m first sound on (omega arith))
      where
        way : PagingOutcome M
        way = reach_outcome base m first

        next : P → PagingOutcome M
        next k = put_outcome first (base.put k.bus (raw_of first) ws) k

        goes : (way.0 ≡ acceptance []) × Left m way.1 (word m) 0 × Facing way.1 first
            → Stores m first ws (piece_outcome base m first ws)
        goes (r, left, facing) =
            let k = way.1 in
            let raw = raw_of first in
            let at = aimed (selector (base.chip k.bus).words) first (length ws) facing begin block
            last some in
            let check = ap (put_check raw (length ws)) (left.supply ∙ on)
            ∙ put_goes raw (length ws) some few (aimed_below _ _ _ _ at) in
            let sent = bus.put_sent k.bus raw ws left.sound.0 check in
            let after = bus.put_sound k.bus raw ws left.sound.0 fit in
            let done = puts k first ws (base.put k.bus raw ws) left.sound after last at sent in
            rw r (stores_on m k (word m) first ws (next k) left done)

        stops : Broken m way (first + 0) (word m)
            → Stores m first ws (piece_outcome base m first ws)
        stops b = rw b.1 (inr (0, some, b))

    abbrev both_outcome : P → ℕ → List ℕ → ℕ → List ℕ → PagingOutcome M
    both_outcome m first xs n ys =
        onward (piece_outcome base m first xs) (λ k. piece_outcome base k (first + n) ys)

    two_pieces : (m : P) (first : ℕ) (xs ys : List ℕ) → PagingSound base m → awake_at m
        → Fit xs → Fit ys → 0 < length xs → 0 < length ys → length xs + length ys ≤ 16
        → 1 ≤ first → first % 32 + length xs ≡ 32 → first + length xs + length ys ≤ 128
        → Stores m first (xs ++ ys) (both_outcome m first xs (length xs) ys)
    two_pieces m first xs ys sound on fit-xs fit-ys some more few begin block last =
        ⊎_elim goes stops
        (piece_stores m first xs sound on fit-xs some (omega arith) begin (omega arith)
        (omega arith))
      where
        front : PagingOutcome M
        front = piece_outcome base m first xs

        next : P → PagingOutcome M
        next k = piece_outcome base k (first + length xs) ys

        goes : (front.0 ≡ acceptance []) × Left m front.1 (with_run first xs (word m)) 0
            → Stores m first (xs ++ ys) (onward front next)
        goes (r, left) =
            let k = front.1 in
            let done = piece_stores k (first + length xs) ys left.sound (left.supply ∙ on) fit-ys
            more (omega arith) (omega arith) (omega arith) last in
            rw r (stores_back m first xs ys (next k) (stores_on m k (with_run first xs (word m))
            (first + length xs) ys (next k) left done))

        stops : (k : ℕ) × (k < length xs)
            × Broken m front (first + k) (with_run first (take k xs) (word m))
            → Stores m first (xs ++ ys) (onward front next)
        stops (j, less, b) = rw b.1 (stores_front m first xs ys front j less b)

    pub run_stores : (m : P) (first : ℕ) (ws : List ℕ) → PagingSound base m → awake_at m
        → Fit ws → 0 < length ws → length ws ≤ 16 → 1 ≤ first → first + length ws ≤ 128
        → Stores m first ws (run_outcome base m first ws)
    run_stores m first ws sound on fit some few begin last =
        ⊎_elim one two (cases_Bool (leb (length ws) (room_of first)))
      where
        room : ℕ
        room = room_of first

        one : leb (length ws) (room_of first) ≡ true
            → Stores m first ws (run_outcome base m first ws)
        one e =
            let short = leb-true (length ws) (room_of first) e in
            rw e (piece_stores m first ws sound on fit some few begin (omega (arith, short)) last)

        two : leb (length ws) (room_of first) ≡ false
            → Stores m first ws (run_outcome base m first ws)
        two e =
            let front = take room ws in
            let back = drop room ws in
            let long = leb-false (length ws) (room_of first) e in
            let size : length front ≡ room = length-take-le room ws (omega arith) in
            let rest : length back ≡ length ws - room = length-drop room ws in
            let both = two_pieces m first front back sound on (take_fits room ws fit)
            (drop_fits room ws fit) (omega arith) (omega arith) (omega arith) begin (omega arith)
            (omega arith) in
            rw e (subst (λ zs. Stores m first zs (both_outcome m first front room back))
            (take-append-drop room ws)
            (subst (λ n. Stores m first (front ++ back) (both_outcome m first front n back))
            size both))
