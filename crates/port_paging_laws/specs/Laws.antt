-- The rules of paging in their own words, each as a law of the machine. Assumes nothing.
use Rattle.std.specs.Prelude.{◌≡◌, ◌≢◌, ℕ, ◌+◌, ◌%◌, ◌<◌, ◌≤◌, true, false, ◌⊎◌, List, [], ◌∷◌}
use Rattle.std.specs.Prelude.{◌++◌, length, take, Some, None, Option}
use Rattle.patch.specs.Patch.{word_after}
use Rattle.refusal.specs.Replies.{Reply, acceptance, refusal_of}
use Rattle.chart.specs.declared.class.Class.{Class}
use Rattle.patch.specs.declared.patch.Patch.{Patch}
use Rattle.chip.specs.Words.{Fit}
use Rattle.bus.specs.Checks.{measure_check}
use Rattle.bus.specs.Meaning.{BusMachine}
use Rattle.port.specs.Checks.{read_check, update_check, run_check, in_turn}
use Rattle.port.specs.Meaning.{PortMachine, PatchFits}
use Rattle.port.specs.Views.{word_in, with_word_at, with_run}
use Rattle.port_paging_laws.specs.Places.{page_of, raw_of}
use Rattle.port_paging_laws.specs.Machine.{PagingModel, PagingSound, PagingOutcome, is_awake}
use Rattle.port_paging_laws.specs.Machine.{paging_of}
use Rattle.port_paging_laws.specs.Machine.{reach_outcome, piece_outcome, paging_machine}

-- a piece of a run: its first register, and the words from there on
pub record Piece : Type 0 where
  pub first : ℕ
  pub words : List ℕ

-- what comes next, if a piece does, begins at a multiple of 32
abbrev pub AtMultiple : List Piece → Type 0
AtMultiple [] = Unit {0}
AtMultiple (p ∷ more) = p.first % 32 ≡ 0

-- A run cut into pieces. Joined they are its words, and none is empty. No piece goes over a
-- multiple of 32, and all but the first begin at one, where the piece before has ended.
abbrev pub IsCut : ℕ → List ℕ → List Piece → Type 0
IsCut at ws [] = ws ≡ []
IsCut at ws (p ∷ more) =
    (p.first ≡ at)
    × (0 < length p.words)
    × (at % 32 + length p.words ≤ 32)
    × AtMultiple more
    × ((rest : List ℕ) × (ws ≡ p.words ++ rest) × IsCut (at + length p.words) rest more)

-- no transfer is needed to reach a register: it lies below 32, or its page is believed
abbrev pub IsAtHand : Option ℕ → ℕ → Type 0
IsAtHand page n = (n < 32) ⊎ (page ≡ Some (page_of n))

module _ {M : Type 0} where
  -- A transfer of the bus, for registers from n on, and what paging makes of it. The bus is as the
  -- transfer left it. An acceptance is answered as one; a failure by its cause, the first register
  -- whose word was not stored, and errand 0.
  pub record Passes (n : ℕ) (transfer : Reply × M) (q : PagingOutcome M) : Type 0 where
    pub bus : q.1.bus ≡ transfer.1
    pub fine : transfer.0.number ≡ 0 → q.0.number ≡ 0
    pub fault : (cause stored : ℕ) → transfer.0 ≡ refusal_of 6 (cause ∷ stored ∷ [])
        → q.0 ≡ refusal_of 6 (cause ∷ (n + stored) ∷ 0 ∷ [])

  -- a part of a call and then the next, where a part that is refused is the answer
  pub record GoesOn (part q : PagingOutcome M) (Next : PagingModel M → Type 0) : Type 0 where
    pub stops : part.0.number ≢ 0 → q ≡ part
    pub goes : part.0.number ≡ 0 → Next part.1

module _ {M : Type 0} (bus : BusMachine M) where
  abbrev P : Type 0
  P = PagingModel M

  -- What a call answers, and what becomes of the chip.

  -- the words that the chip has in its registers
  abbrev pub words_at : P → ℕ → ℕ
  words_at m = word_in (bus.chip m.bus)

  -- From m a call came to this state: the registers have these words, the supply is as it was, and
  -- n transfers failed.
  pub record Leaves (m after : P) (words : ℕ → ℕ) (n : ℕ) : Type 0 where
    pub registers : (i : ℕ) → i < 128 → words_at after i ≡ words i
    pub supply : (bus.chip after.bus).supply ≡ (bus.chip m.bus).supply
    pub failed : (bus.chip after.bus).failed ≡ (bus.chip m.bus).failed + n

  -- A transfer failed: some cause is told, this register and errand 0; and the registers have these
  -- words.
  abbrev pub FaultAt : P → ℕ → (ℕ → ℕ) → PagingOutcome M → Type 0
  FaultAt m n words q =
      ((cause : ℕ) × (q.0 ≡ refusal_of 6 (cause ∷ n ∷ 0 ∷ []))) × Leaves m q.1 words 1

  -- A read answers the chip's word, or fails at its register. All words stand.
  abbrev pub ReadsWord : P → ℕ → PagingOutcome M → Type 0
  ReadsWord m n q =
      ((q.0 ≡ acceptance (words_at m n ∷ [])) × Leaves m q.1 (words_at m) 0)
      ⊎ FaultAt m n (words_at m) q

  -- An update makes one word anew, by its patch. Or it fails at its register, and all words stand.
  abbrev pub UpdatesWord : P → ℕ → Patch → PagingOutcome M → Type 0
  UpdatesWord m n p q =
      ((q.0 ≡ acceptance [])
      × Leaves m q.1 (with_word_at n (word_after p (words_at m n)) (words_at m)) 0)
      ⊎ FaultAt m n (words_at m) q

  -- A run stores all its words. Or it fails at the first register whose word is not stored: those
  -- below it have their new words, and every other register its old one.
  abbrev pub StoresRun : P → ℕ → List ℕ → PagingOutcome M → Type 0
  StoresRun m first ws q =
      ((q.0 ≡ acceptance []) × Leaves m q.1 (with_run first ws (words_at m)) 0)
      ⊎ ((k : ℕ) × (k < length ws)
      × FaultAt m (first + k) (with_run first (take k ws) (words_at m)) q)

  -- Which transfers a call makes, and which page is believed after them.

  -- What comes before a transfer: nothing, where the register is at hand. Else its page is put to
  -- raw 0, and is the believed one from then on, or none is if the put failed.
  pub record Selects (m : P) (n : ℕ) (q : PagingOutcome M) : Type 0 where
    pub at_hand : IsAtHand m.page n → q ≡ (acceptance [], m)
    pub away : ¬ IsAtHand m.page n →
        let selection = bus.put m.bus 0 (page_of n ∷ []) in
        Passes n selection q
        × (selection.0.number ≡ 0 → q.1.page ≡ Some (page_of n))
        × (selection.0.number ≢ 0 → q.1.page ≡ None)

  -- one get at a register, once it is reached; what is believed then stands
  abbrev pub GetsOnce : P → ℕ → PagingOutcome M → Type 0
  GetsOnce m n q =
      GoesOn (reach_outcome bus m n) q
      (λ k. Passes n (bus.get k.bus (raw_of n)) q × (q.1.page ≡ k.page))

  -- one put of words from a register on, once it is reached; what is believed then stands
  abbrev pub PutsOnce : P → ℕ → List ℕ → PagingOutcome M → Type 0
  PutsOnce m n ws q =
      GoesOn (reach_outcome bus m n) q
      (λ k. Passes n (bus.put k.bus (raw_of n) ws) q × (q.1.page ≡ k.page))

  -- A get that failed is the answer. A word that was got goes out in one put as the patch makes it,
  -- and only where that differs.
  pub record RewritesWord (n : ℕ) (p : Patch) (got q : PagingOutcome M) : Type 0 where
    pub stops : got.0.number ≢ 0 → q ≡ got
    pub same : (w : ℕ) → got.0 ≡ acceptance (w ∷ []) → word_after p w ≡ w
        → q ≡ (acceptance [], got.1)
    pub differs : (w : ℕ) → got.0 ≡ acceptance (w ∷ []) → word_after p w ≢ w
        → q ≡ piece_outcome bus got.1 n (word_after p w ∷ [])

  module _ (class : ℕ → Class) where
    abbrev port : PortMachine P
    port = paging_machine bus class

    -- what is not refused before anything is sent
    abbrev pub CanRead : P → ℕ → Type 0
    CanRead m n = read_check false (class n) (is_awake bus m) ≡ None

    abbrev pub CanUpdate : P → ℕ → Type 0
    CanUpdate m n = update_check false (class n) (is_awake bus m) ≡ None

    abbrev pub CanRun : P → ℕ → List ℕ → Type 0
    CanRun m first ws = run_check false class first (length ws) (is_awake bus m) ≡ None

    pub record PagingLaws : Type 0 where
      -- what a read answers, and what a failed one tells
      pub read : (m : P) (n : ℕ) → PagingSound bus m → CanRead m n → ReadsWord m n (port.read m n)
      -- what an update makes of the words, and what a failed one tells
      pub update : (m : P) (n : ℕ) (p : Patch) → PagingSound bus m → PatchFits p
          → CanUpdate m n → UpdatesWord m n p (port.update m n p)
      -- which words of a run get into the chip, and what a failed one tells
      pub run : (m : P) (first : ℕ) (ws : List ℕ) → PagingSound bus m → Fit ws
          → CanRun m first ws → StoresRun m first ws (port.run m first ws)
      -- A run is its pieces, two at most, sent one after the other.
      pub cut : (m : P) (first : ℕ) (ws : List ℕ) → PagingSound bus m → Fit ws
          → CanRun m first ws
          → (pieces : List Piece) × IsCut first ws pieces × (length pieces ≤ 2)
          × (port.run m first ws ≡ in_turn (λ k p. piece_outcome bus k p.first p.words) pieces m)
      -- A piece is sent in one put.
      pub put : (m : P) (n : ℕ) (ws : List ℕ) → PutsOnce m n ws (piece_outcome bus m n ws)
      -- A read is one get.
      pub get : (m : P) (n : ℕ) → CanRead m n → GetsOnce m n (port.read m n)
      -- Under mask 0 nothing is sent, and all stays as it was.
      pub idle : (m : P) (n : ℕ) (p : Patch) → CanUpdate m n → p.mask ≡ 0
          → port.update m n p ≡ (acceptance [], m)
      -- Under a full mask the bits go out in one put, and nothing is got before.
      pub full : (m : P) (n : ℕ) (p : Patch) → PatchFits p → CanUpdate m n → p.mask ≡ 0xFFFF
          → port.update m n p ≡ piece_outcome bus m n (p.bits ∷ [])
      -- Under any other mask the register is read, and put only where its word differs.
      pub masked : (m : P) (n : ℕ) (p : Patch) → CanUpdate m n → p.mask ≢ 0 → p.mask ≢ 0xFFFF
          → RewritesWord n p (port.read m n) (port.update m n p)
      -- A page is selected where it has to be, and nowhere else.
      pub reach : (m : P) (n : ℕ) → Selects m n (reach_outcome bus m n)
      -- The chip has every setting as it is shown, so a sync sends nothing, and nothing changes;
      pub sync : (m : P) → is_awake bus m ≡ true → port.sync m ≡ (acceptance [], m)
      -- with the supply off it is refused.
      pub sync_asleep : (m : P) → is_awake bus m ≡ false → port.sync m ≡ (refusal_of 5 [], m)
      -- The bus goes down, once, and then page 0 is believed.
      pub down : (m : P) → port.down m ≡ paging_of (bus.down m.bus) (Some 0)
      -- The bus comes up, once; what is believed stands.
      pub up : (m : P) → port.up m ≡ paging_of (bus.up m.bus) m.page
      -- A measurement that is not refused is one of the bus; what is believed stands, refused or
      -- not.
      pub measure : (m : P) (n w : ℕ) → (port.measure m n w).1.page ≡ m.page
      pub measured : (m : P) (n w : ℕ) → measure_check (class n) ≡ None
          → (port.measure m n w).1.bus ≡ (bus.measure m.bus n w).1
