-- What a layer is: a state of its own over the port below. Assumes nothing.
use Rattle.std.specs.Prelude.{◌≡◌, ℕ, ◌^◌, ◌<◌, Bool, true, false, ◌||◌, ◌⊎◌, List, [], ◌∷◌}
use Rattle.refusal.specs.Replies.{Reply, acceptance}
use Rattle.chart.specs.declared.class.Class.{Class}
use Rattle.chart.specs.declared.class.Class.TheVariants.{Setting}
use Rattle.patch.specs.declared.patch.Patch.{Patch}
use Rattle.bus.specs.Checks.{awake_check, unless}
use Rattle.port.specs.Checks.{read_check, update_check, onward, in_turn}
use Rattle.port.specs.Views.{Agree}
use Rattle.port.specs.Meaning.{PortMachine, view, supply, PatchFits}
use Rattle.port.specs.Meaning.{Fine, Failed, SettingRead, Updated, NewView, WentDown, CameUp}
use Rattle.port.specs.OneByOne.{update_each}
use Rattle.port_layer.specs.Errands.{on_owed}

-- the layer's own state, and the port below
pub record Over (S M : Type 0) : Type 0 where
  pub own : S
  pub below : M

abbrev pub over : {S M : Type 0} → S → M → Over S M
over s b = record { own = s; below = b }

-- a call that went below and came back
abbrev pub back : {S M : Type 0} → Over S M → Reply × M → Reply × Over S M
back m p = (p.0, over m.own p.1)

-- What a layer has for the port below goes there in pieces: which they are, what call each is, and
-- what is left of the layer's own once one was accepted.
pub record Sending (A S M : Type 0) : Type 0 where
  pub pieces : S → List A
  pub call : S → M → A → Reply × M
  pub without : A → S → S

module _ {A S M : Type 0} (s : Sending A S M) where
  -- A piece that went below and came back. A refusal is told as owed, and an accepted piece is
  -- gone.
  abbrev pub piece_back : Over S M → A → Reply × M → Reply × Over S M
  piece_back m a p =
      onward (on_owed p.0, over m.own p.1)
      (λ k. (on_owed p.0, over (s.without a k.own) k.below))

  abbrev pub send_piece : Over S M → A → Reply × Over S M
  send_piece m a = piece_back m a (s.call m.own m.below a)

  -- pieces in order, up to the first that is refused
  abbrev pub send_pieces : List A → Over S M → Reply × Over S M
  send_pieces ps m = in_turn send_piece ps m

  -- all that the layer has
  abbrev pub send_all : Over S M → Reply × Over S M
  send_all m = send_pieces (s.pieces m.own) m

  -- all goes below, and then a call, which comes back as it came
  abbrev pub send_first : (M → Reply × M) → Over S M → Reply × Over S M
  send_first call m = onward (send_all m) (λ k. back k (call k.below))

-- What makes one kind of layer: whether it keeps its settings, how it shows them over those that
-- are shown below, how it reads and changes one, what it sends, and what is left of its own once
-- the supply is gone. Sound holds of every state that it can come to, and fresh is its own when
-- made.
pub record Layer (A S M : Type 0) : Type 1 where
  pub keeps : Bool
  pub shown : S → (ℕ → ℕ) → ℕ → ℕ
  pub read : Over S M → ℕ → Reply × Over S M
  pub change : Over S M → ℕ → Patch → Reply × Over S M
  pub sending : Sending A S M
  pub after_down : S → S
  pub Sound : Over S M → Type 0
  pub fresh : S

module _ {A S M : Type 0} (port : PortMachine M) (class : ℕ → Class) (l : Layer A S M) where
  abbrev pub has_supply : Over S M → Bool
  has_supply m = supply port m.below

  -- a setting by the layer, a live register by the port below once all is sent
  abbrev pub read_class : Over S M → ℕ → Class → Reply × Over S M
  read_class m n Setting = l.read m n
  read_class m n _ = send_first l.sending (λ b. port.read b n) m

  abbrev pub update : Over S M → ℕ → Patch → Reply × Over S M
  update m n p = unless (update_check l.keeps (class n) (has_supply m)) m (l.change m n p)

  abbrev pub layer_machine : PortMachine (Over S M)
  layer_machine = record {
    read = λ m n.
        unless (read_check l.keeps (class n) (has_supply m)) m (read_class m n (class n));
    update = update;
    run = update_each l.keeps class has_supply update;
    sync = λ m. unless (awake_check (has_supply m)) m (send_first l.sending port.sync m);
    measure = λ m n w. back m (port.measure m.below n w);
    down = λ m. over (l.after_down m.own) (port.down m.below);
    up = λ m. over m.own (port.up m.below);
    shown = λ m. l.shown m.own (port.shown m.below);
    chip = λ m. port.chip m.below;
    trace = λ m. port.trace m.below;
    Sound = l.Sound;
    New = λ m. port.New m.below × (m.own ≡ l.fresh);
  }

  -- reads and updates of settings are not refused before anything is sent
  abbrev pub AtHand : Over S M → Type 0
  AtHand m = (l.keeps || has_supply m) ≡ true

  -- What a sending leaves, where settings are shown as before: all that is shown is shown below
  -- too, or a transfer failed.
  abbrev pub SentOrFailed : Over S M → Reply × Over S M → Type 0
  SentOrFailed m q =
      let before = view layer_machine m in
      let after = view layer_machine q.1 in
      ((q.0 ≡ acceptance []) × Fine class before before.shown after
      × Agree class Setting (port.shown q.1.below) after.shown × l.Sound q.1)
      ⊎ (Failed class before q.0 after × l.Sound q.1)

  -- What each kind of layer must prove, over a port that keeps or does not. That it means a port
  -- follows.
  pub record LayerMeaning (keeps : Bool) (reset : ℕ → ℕ) : Type 0 where
    -- what it shows rests on what is shown below, and on its own
    pub alike : (s : S) (f g : ℕ → ℕ) → Agree class Setting f g
        → Agree class Setting (l.shown s f) (l.shown s g)
    pub fit : (m : Over S M) → l.Sound m → (n : ℕ) → class n ≡ Setting
        → l.shown m.own (port.shown m.below) n < 2 ^ 16
    pub below : (m : Over S M) → l.Sound m → port.Sound m.below
    -- a call below that leaves the settings shown there leaves it sound
    pub still : (m : Over S M) (b : M) → l.Sound m → port.Sound b
        → Agree class Setting (port.shown b) (port.shown m.below)
        → supply port b ≡ has_supply m → l.Sound (over m.own b)
    pub reads : (m : Over S M) (n : ℕ) → l.Sound m → class n ≡ Setting → AtHand m
        → let q = l.read m n in
        SettingRead class (view layer_machine m) n q.0 (view layer_machine q.1) × l.Sound q.1
    pub kept_read : (m : Over S M) (n : ℕ) → l.Sound m → l.keeps ≡ true → class n ≡ Setting
        → l.read m n ≡ (acceptance (l.shown m.own (port.shown m.below) n ∷ []), m)
    pub changes : (m : Over S M) (n : ℕ) (p : Patch) → l.Sound m → PatchFits p
        → class n ≡ Setting → AtHand m
        → let q = l.change m n p in
        Updated class (view layer_machine m) n p q.0 (view layer_machine q.1) × l.Sound q.1
    pub kept_change : (m : Over S M) (n : ℕ) (p : Patch) → l.Sound m → l.keeps ≡ true
        → has_supply m ≡ false → class n ≡ Setting → (l.change m n p).0 ≡ acceptance []
    pub sends : (m : Over S M) → l.Sound m → has_supply m ≡ true
        → SentOrFailed m (send_all l.sending m)
    pub went_down : (m : Over S M) (b : M) → l.Sound m → port.Sound b
        → WentDown keeps class reset (view port m.below) (view port b)
        → let after = over (l.after_down m.own) b in
        WentDown l.keeps class reset (view layer_machine m) (view layer_machine after)
        × l.Sound after
    pub came_up : (m : Over S M) (b : M) → l.Sound m → port.Sound b
        → CameUp class (view port m.below) (view port b) → l.Sound (over m.own b)
    pub made : (b : M) → port.Sound b → NewView class reset (view port b)
        → let new = over l.fresh b in
        NewView class reset (view layer_machine new) × l.Sound new
