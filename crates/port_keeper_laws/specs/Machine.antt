-- The keeper as a layer: what it has of its own, what it sends, and its machine over any port.
-- Assumes nothing.
use Rattle.std.specs.Prelude.{◌≡◌, ◌≢◌, ℕ, ◌+◌, Bool, true, false, if◌then◌else◌, not, ◌&&◌, ◌||◌}
use Rattle.std.specs.Prelude.{List, [], ◌∷◌, length, replicate, ◌==◌, slice_index, slice_range}
use Rattle.std.specs.Prelude.{slice_set}
use Rattle.patch.specs.Patch.{word_after, setting_to}
use Rattle.refusal.specs.Replies.{Reply, acceptance}
use Rattle.chart.specs.declared.class.Class.{Class}
use Rattle.chart.specs.declared.class.Class.TheVariants.{Setting}
use Rattle.chip.specs.Words.{fresh_words, Fit}
use Rattle.port.specs.Checks.{onward}
use Rattle.port.specs.Meaning.{PortMachine, supply}
use Rattle.port_layer.specs.Layer.{Over, over, back, Sending, Layer, layer_machine}
use Rattle.port_keeper_marks.specs.Runs.{is_marked, runs, clear, differing}
use Rattle.port_keeper_marks.specs.declared.runs.Run.{Run}

-- what a keeper has of its own: every setting's word, and which of them are owed to the port below
pub record Own : Type 0 where
  pub held : List ℕ
  pub owed : List Bool

abbrev pub own_of : List ℕ → List Bool → Own
own_of held owed = record { held = held; owed = owed }

abbrev pub KeeperModel : Type 0 → Type 0
KeeperModel M = Over Own M

-- how many registers a chart can have
abbrev pub registers : ℕ
registers = 128

-- its own when it is made: every word is a reset word, and nothing is owed
abbrev pub new_own : (ℕ → ℕ) → Own
new_own reset = own_of (fresh_words reset registers) (replicate registers false)

-- a keeper just made over a port
abbrev pub new_keeper : {M : Type 0} → (ℕ → ℕ) → M → KeeperModel M
new_keeper reset b = over (new_own reset) b

-- the words as the keeper shows them
abbrev pub held_at : {M : Type 0} → KeeperModel M → ℕ → ℕ
held_at m n = slice_index m.own.held n

abbrev pub owed_at : {M : Type 0} → KeeperModel M → ℕ → Bool
owed_at m n = is_marked m.own.owed n

-- a setting is held as a word, and is owed or not
abbrev pub hold_setting : {M : Type 0} → ℕ → ℕ → Bool → KeeperModel M → KeeperModel M
hold_setting n w o m = over (own_of (slice_set m.own.held n w) (slice_set m.own.owed n o)) m.below

-- a setting that went below and came back: it is held, and no longer owed, once it was accepted
abbrev pub setting_back : {M : Type 0} → KeeperModel M → ℕ → ℕ → Reply × M → Reply × KeeperModel M
setting_back m n w p = onward (back m p) (λ k. (p.0, hold_setting n w false k))

-- a run is owed no longer, and every word that is held stands
abbrev pub without_run : Run → Own → Own
without_run r s = record s { owed = clear r s.owed }

-- Words held and marks: of settings alone, whatever the port below has.
pub record Kept (class : ℕ → Class) (reset : ℕ → ℕ) (s : Own) : Type 0 where
  pub size : length s.held ≡ registers
  pub marks : length s.owed ≡ registers
  pub fit : Fit s.held
  pub others : (n : ℕ) → class n ≢ Setting → slice_index s.held n ≡ reset n
  pub settings : (n : ℕ) → is_marked s.owed n ≡ true → class n ≡ Setting

module _ {M : Type 0} (port : PortMachine M) where
  -- What is owed goes below in runs, each from its first register on, with the words that are held
  -- for it.
  abbrev pub keeper_sending : Sending Run Own M
  keeper_sending = record {
    pieces = λ s. runs s.owed;
    call = λ s b r. port.run b r.first (slice_range s.held r.first (r.first + r.count));
    without = without_run;
  }

  -- a setting goes below whatever it was there
  abbrev pub send_setting : KeeperModel M → ℕ → ℕ → Reply × KeeperModel M
  send_setting m n w = setting_back m n w (port.update m.below n (setting_to w))

  -- a word goes below, unless it is there already
  abbrev pub bring_setting : KeeperModel M → ℕ → ℕ → Reply × KeeperModel M
  bring_setting m n w =
      if w == held_at m n && not (owed_at m n) then (acceptance [], m) else send_setting m n w

  -- Where the port below has no settings while it is asleep, the word is held alone; it is owed
  -- where it differs from what the chip will wake with.
  abbrev pub change_setting : Bool → (ℕ → ℕ) → KeeperModel M → ℕ → ℕ → Reply × KeeperModel M
  change_setting keeps reset m n w =
      if keeps || supply port m.below
      then bring_setting m n w
      else (acceptance [], hold_setting n w (not (w == reset n)) m)

  -- Over a port that keeps or does not, and some chart.
  module _ (keeps : Bool) (class : ℕ → Class) (reset : ℕ → ℕ) where
    -- What is always so of a keeper, by what its port shows.
    pub record KeeperSound (m : KeeperModel M) : Type 0 where
      pub below : port.Sound m.below
      pub kept : Kept class reset m.own
      -- a setting without a mark has its word below too
      pub equal : (n : ℕ) → class n ≡ Setting → owed_at m n ≡ false
          → port.shown m.below n ≡ held_at m n
      -- a port that keeps is owed nothing
      pub settled : keeps ≡ true → (n : ℕ) → owed_at m n ≡ false
      -- with the supply off, a port that forgets is owed the settings away from reset, and no
      -- others; it shows reset words itself
      pub asleep : keeps ≡ false → supply port m.below ≡ false → (n : ℕ) → class n ≡ Setting
          → owed_at m n ≡ not (held_at m n == reset n)
      pub lost : keeps ≡ false → supply port m.below ≡ false → (n : ℕ) → class n ≡ Setting
          → port.shown m.below n ≡ reset n

    -- A setting is shown and answered as it is held. A port that forgets has reset words once the
    -- supply was gone, and every setting that differs from its own is owed.
    abbrev pub keeper_layer : Layer Run Own M
    keeper_layer = record {
      keeps = true;
      shown = λ s below n. slice_index s.held n;
      read = λ m n. (acceptance (held_at m n ∷ []), m);
      change = λ m n p. change_setting keeps reset m n (word_after p (held_at m n));
      sending = keeper_sending;
      after_down = λ s. own_of s.held (if keeps then s.owed else differing reset s.held);
      Sound = KeeperSound;
      fresh = new_own reset;
    }

    abbrev pub keeper_machine : PortMachine (KeeperModel M)
    keeper_machine = layer_machine port class keeper_layer
