-- Paging as a machine over any bus. Assumes nothing.
use Rattle.std.specs.Prelude.{◌≡◌, ℕ, ◌+◌, Bool, false, if◌then◌else◌, ◌||◌, List, [], ◌∷◌}
use Rattle.std.specs.Prelude.{length, take, drop, Some, None, Option, ◌==◌, nat_le, nat_lt}
use Rattle.std.specs.Prelude.{slice_index}
use Rattle.patch.specs.Patch.{word_after, is_idle, is_complete}
use Rattle.refusal.specs.Replies.{Reply, acceptance}
use Rattle.chart.specs.declared.class.Class.{Class}
use Rattle.patch.specs.declared.patch.Patch.{Patch}
use Rattle.chip.specs.Words.{selector}
use Rattle.bus.specs.Checks.{awake_check, measure_check, unless}
use Rattle.bus.specs.Meaning.{BusMachine}
use Rattle.port.specs.Checks.{read_check, update_check, run_check, is_accepted, onward}
use Rattle.port.specs.Meaning.{PortMachine}
use Rattle.port.specs.Views.{word_in}
use Rattle.port_paging_laws.specs.Places.{page_of, raw_of, room_of}

-- the bus, and the page that is believed to be selected, if any is
pub record PagingModel (M : Type 0) : Type 0 where
  pub bus : M
  pub page : Option ℕ

abbrev pub paging_of : {M : Type 0} → M → Option ℕ → PagingModel M
paging_of b page = record { bus = b; page = page }

-- a chip has page 0 selected at first
abbrev pub new_paging : {M : Type 0} → M → PagingModel M
new_paging b = paging_of b (Some 0)

-- a reply, and the state after it
abbrev pub PagingOutcome : Type 0 → Type 0
PagingOutcome M = Reply × PagingModel M

-- A failed transfer told by its register: the first that was not stored. A get and a put of the
-- selector tell 0 stored words, so that theirs is the register that was to be reached. The errand
-- is 0: paging sends what it is asked for.
abbrev pub fault_of : ℕ → List ℕ → List ℕ
fault_of n [] = []
fault_of n (cause ∷ []) = []
fault_of n (cause ∷ stored ∷ more) = cause ∷ (n + stored) ∷ 0 ∷ []

abbrev pub reply_at : ℕ → Reply → Reply
reply_at n r = record { number = r.number; values = fault_of n r.values }

abbrev pub is_believed : Option ℕ → ℕ → Bool
is_believed None p = false
is_believed (Some q) p = q == p

-- no page has to be selected for this register
abbrev pub is_at_hand : Option ℕ → ℕ → Bool
is_at_hand page n = nat_lt n 32 || is_believed page (page_of n)

-- What calls make of a transfer of the bus, for registers from n on.
module _ {M : Type 0} (n : ℕ) (transfer : Reply × M) where
  -- after a put of the selector: accepted, the page is believed; failed, none is
  abbrev pub selection_outcome : PagingOutcome M
  selection_outcome = (
    reply_at n transfer.0,
    paging_of transfer.1 (if is_accepted transfer.0 then Some (page_of n) else None),
  )

  -- an answered word stands as it is
  abbrev pub get_outcome : PagingModel M → PagingOutcome M
  get_outcome m = (
    (if is_accepted transfer.0 then transfer.0 else reply_at n transfer.0),
    paging_of transfer.1 m.page,
  )

  -- of a call that answers no word
  abbrev pub put_outcome : PagingModel M → PagingOutcome M
  put_outcome m = (reply_at n transfer.0, paging_of transfer.1 m.page)

-- a believed page is the selector
abbrev pub Believed : Option ℕ → ℕ → Type 0
Believed None s = Unit {0}
Believed (Some p) s = p ≡ s

module _ {M : Type 0} (bus : BusMachine M) where
  abbrev pub PagingSound : PagingModel M → Type 0
  PagingSound m = bus.Sound m.bus × Believed m.page (selector (bus.chip m.bus).words)

  abbrev pub PagingNew : PagingModel M → Type 0
  PagingNew m = bus.New m.bus × (m.page ≡ Some 0)

  -- a page is selected, unless the register is at hand
  abbrev pub reach_outcome : PagingModel M → ℕ → PagingOutcome M
  reach_outcome m n =
      if is_at_hand m.page n
      then (acceptance [], m)
      else selection_outcome n (bus.put m.bus 0 (page_of n ∷ []))

  -- a get of one register
  abbrev pub fetch_outcome : PagingModel M → ℕ → PagingOutcome M
  fetch_outcome m n =
      onward (reach_outcome m n) (λ k. get_outcome n (bus.get k.bus (raw_of n)) k)

  -- one put, to registers of one page
  abbrev pub piece_outcome : PagingModel M → ℕ → List ℕ → PagingOutcome M
  piece_outcome m n ws =
      onward (reach_outcome m n) (λ k. put_outcome n (bus.put k.bus (raw_of n) ws) k)

  -- the word goes out where it differs
  abbrev pub rewrite_outcome : PagingModel M → ℕ → Patch → ℕ → PagingOutcome M
  rewrite_outcome m n p w =
      if word_after p w == w then (acceptance [], m) else piece_outcome m n (word_after p w ∷ [])

  -- nothing for a patch that is idle, one put for one that is complete, else a get and then a put
  abbrev pub update_outcome : PagingModel M → ℕ → Patch → PagingOutcome M
  update_outcome m n p =
      if is_idle p then (acceptance [], m)
      else if is_complete p then piece_outcome m n (word_after p 0 ∷ [])
      else (let q = fetch_outcome m n in
      onward q (λ k. rewrite_outcome k n p (slice_index q.0.values 0)))

  -- a run of at most 16 words meets at most one multiple of 32, where it is cut
  abbrev pub run_outcome : PagingModel M → ℕ → List ℕ → PagingOutcome M
  run_outcome m first ws =
      let room = room_of first in
      if nat_le (length ws) room
      then piece_outcome m first ws
      else onward (piece_outcome m first (take room ws))
      (λ k. piece_outcome k (first + room) (drop room ws))

  abbrev pub is_awake : PagingModel M → Bool
  is_awake m = (bus.chip m.bus).supply

  -- paging shows what the chip has
  abbrev pub paging_machine : (ℕ → Class) → PortMachine (PagingModel M)
  paging_machine class = record {
    read = λ m n. unless (read_check false (class n) (is_awake m)) m (fetch_outcome m n);
    update = λ m n p. unless (update_check false (class n) (is_awake m)) m (update_outcome m n p);
    run = λ m first ws. unless (run_check false class first (length ws) (is_awake m)) m
        (run_outcome m first ws);
    sync = λ m. unless (awake_check (is_awake m)) m (acceptance [], m);
    measure = λ m n w. unless (measure_check (class n)) m
        (put_outcome n (bus.measure m.bus n w) m);
    down = λ m. paging_of (bus.down m.bus) (Some 0);
    up = λ m. paging_of (bus.up m.bus) m.page;
    shown = λ m. word_in (bus.chip m.bus);
    chip = λ m. bus.chip m.bus;
    trace = λ m. bus.trace m.bus;
    Sound = PagingSound;
    New = PagingNew;
  }
