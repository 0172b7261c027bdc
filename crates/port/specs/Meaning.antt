-- A port as a machine, and what it means: its calls by what they answer and by what becomes of its
-- view. Assumes nothing.
use Rattle.std.specs.Prelude.{◌≡◌, ◌≢◌, ℕ, ◌+◌, ◌^◌, ◌<◌, ◌≤◌, Bool, true, false, if◌then◌else◌}
use Rattle.std.specs.Prelude.{◌⊎◌}
use Rattle.std.specs.Prelude.{List, [], ◌∷◌, length, Some, None}
use Rattle.patch.specs.Patch.{word_after}
use Rattle.refusal.specs.Replies.{Reply, acceptance, refusal_of}
use Rattle.chart.specs.declared.class.Class.{Class}
use Rattle.chart.specs.declared.class.Class.TheVariants.{Absent, Setting, Live}
use Rattle.patch.specs.declared.patch.Patch.{Patch}
use Rattle.chip.specs.Words.{Fit}
use Rattle.trace.specs.Traces.{Traced}
use Rattle.bus.specs.Chips.{Chip}
use Rattle.bus.specs.Checks.{awake_check, measure_check}
use Rattle.port.specs.Checks.{read_check, update_check, run_check}
use Rattle.port.specs.Views.{View, view_of, Agree, with_word_at, with_run}

-- Each call, by the state before it and what it was called with, gives the reply and the state
-- after it. The rest is what a reader knows of a state: the settings as they are shown, by number,
-- the chip at the bottom, and what passed on the wire so far. Sound holds of every state that a
-- port can come to, New of those that are just made.
pub record PortMachine (M : Type 0) : Type 1 where
  pub read : M → ℕ → Reply × M
  pub update : M → ℕ → Patch → Reply × M
  pub run : M → ℕ → List ℕ → Reply × M
  pub sync : M → Reply × M
  pub measure : M → ℕ → ℕ → Reply × M
  pub down : M → M
  pub up : M → M
  pub shown : M → ℕ → ℕ
  pub chip : M → Chip
  pub trace : M → Traced
  pub Sound : M → Type 0
  pub New : M → Type 0

-- what a reader knows of a port that is at m
abbrev pub view : {M : Type 0} → PortMachine M → M → View
view port m = view_of (port.shown m) (port.chip m)

-- whether the supply is on
abbrev pub supply : {M : Type 0} → PortMachine M → M → Bool
supply port m = (port.chip m).supply

-- a mask and bits of 16 bits
abbrev pub PatchFits : Patch → Type 0
PatchFits p = (p.mask < 2 ^ 16) × (p.bits < 2 ^ 16)

-- A fault: some cause, a register that the chart has, and errand 0 or 1.
abbrev pub Faulted : (ℕ → Class) → Reply → Type 0
Faulted class r =
    (cause : ℕ) × (register : ℕ) × (errand : ℕ) × (class register ≢ Absent) × (errand ≤ 1)
    × (r ≡ refusal_of 6 (cause ∷ register ∷ errand ∷ []))

-- what every call that goes to the line leaves, where n transfers failed in it
pub record Stood (class : ℕ → Class) (n : ℕ) (v after : View) : Type 0 where
  pub live : Agree class Live after.live v.live
  pub supply : after.supply ≡ v.supply
  pub failed : after.failed ≡ v.failed + n

-- no transfer failed, and the settings are then shown so
abbrev pub Fine : (ℕ → Class) → View → (ℕ → ℕ) → View → Type 0
Fine class v words after = Stood class 0 v after × Agree class Setting after.shown words

-- a transfer failed, and the settings are shown as before
abbrev pub Failed : (ℕ → Class) → View → Reply → View → Type 0
Failed class v r after =
    Faulted class r × Stood class 1 v after × Agree class Setting after.shown v.shown

-- a setting is answered as it is shown, and the chip's settings stand
abbrev pub SettingRead : (ℕ → Class) → View → ℕ → Reply → View → Type 0
SettingRead class v n r after =
    ((r ≡ acceptance (v.shown n ∷ [])) × Fine class v v.shown after
    × Agree class Setting after.settings v.settings)
    ⊎ Failed class v r after

-- These values are answered, and by then the chip has every setting as it is shown; or a transfer
-- failed.
abbrev pub AllInChip : (ℕ → Class) → List ℕ → View → Reply → View → Type 0
AllInChip class values v r after =
    ((r ≡ acceptance values) × Fine class v v.shown after
    × Agree class Setting after.settings after.shown)
    ⊎ Failed class v r after

-- a live word is answered as the chip has it
abbrev pub LiveRead : (ℕ → Class) → View → ℕ → Reply → View → Type 0
LiveRead class v n = AllInChip class (v.live n ∷ []) v

abbrev pub Synced : (ℕ → Class) → View → Reply → View → Type 0
Synced class = AllInChip class []

-- what becomes of the chip's settings is left free here, and in a run
abbrev pub Updated : (ℕ → Class) → View → ℕ → Patch → Reply → View → Type 0
Updated class v n p r after =
    ((r ≡ acceptance []) × Fine class v (with_word_at n (word_after p (v.shown n)) v.shown) after)
    ⊎ Failed class v r after

-- a refused run leaves each setting old or as given
abbrev pub Ran : (ℕ → Class) → View → ℕ → List ℕ → Reply → View → Type 0
Ran class v first ws r after =
    ((r ≡ acceptance []) × Fine class v (with_run first ws v.shown) after)
    ⊎ (Faulted class r × Stood class 1 v after
    × ((n : ℕ) → class n ≡ Setting
    → (after.shown n ≡ v.shown n) ⊎ (after.shown n ≡ with_run first ws v.shown n)))

-- settings are shown, and are in the chip, so
pub record SettingsAre (class : ℕ → Class) (words : ℕ → ℕ) (v : View) : Type 0 where
  pub shown : Agree class Setting v.shown words
  pub settings : Agree class Setting v.settings words

-- a port that is just made
pub record NewView (class : ℕ → Class) (reset : ℕ → ℕ) (v : View) : Type 0 where
  pub words : SettingsAre class reset v
  pub live : Agree class Live v.live (λ _. 0)
  pub supply : v.supply ≡ true
  pub failed : v.failed ≡ 0

-- a measurement that is not refused: with the supply on one live word is replaced
pub record Measured (class : ℕ → Class) (n w : ℕ) (v after : View) : Type 0 where
  pub shown : Agree class Setting after.shown v.shown
  pub settings : Agree class Setting after.settings v.settings
  pub live : Agree class Live after.live (if v.supply then with_word_at n w v.live else v.live)
  pub supply : after.supply ≡ v.supply
  pub failed : after.failed ≡ v.failed

-- the supply is gone: the chip forgets all, and so does a port that forgets
pub record WentDown (keeps : Bool) (class : ℕ → Class) (reset : ℕ → ℕ)
    (v after : View) : Type 0 where
  pub shown : Agree class Setting after.shown (if keeps then v.shown else reset)
  pub settings : Agree class Setting after.settings reset
  pub live : Agree class Live after.live (λ _. 0)
  pub supply : after.supply ≡ false
  pub failed : after.failed ≡ v.failed

pub record CameUp (class : ℕ → Class) (v after : View) : Type 0 where
  pub shown : Agree class Setting after.shown v.shown
  pub settings : Agree class Setting after.settings v.settings
  pub live : Agree class Live after.live v.live
  pub supply : after.supply ≡ true
  pub failed : after.failed ≡ v.failed

pub record PortMeaning (keeps : Bool) (class : ℕ → Class) (reset : ℕ → ℕ) {M : Type 0}
    (port : PortMachine M) : Type 0 where
  pub new_sound : (m : M) → port.New m → port.Sound m
  pub new : (m : M) → port.New m → NewView class reset (view port m)
  pub fit : (m : M) → port.Sound m → (n : ℕ) → class n ≡ Setting → port.shown m n < 2 ^ 16
  pub read_refused : (m : M) (n : ℕ) (r : Reply)
      → read_check keeps (class n) (supply port m) ≡ Some r → port.read m n ≡ (r, m)
  pub setting_read : (m : M) (n : ℕ) → port.Sound m → class n ≡ Setting
      → read_check keeps Setting (supply port m) ≡ None
      → let p = port.read m n in SettingRead class (view port m) n p.0 (view port p.1)
  pub live_read : (m : M) (n : ℕ) → port.Sound m → class n ≡ Live
      → read_check keeps Live (supply port m) ≡ None
      → let p = port.read m n in LiveRead class (view port m) n p.0 (view port p.1)
  -- a port that keeps reads settings without the line
  pub kept_read : (m : M) (n : ℕ) → port.Sound m → keeps ≡ true → class n ≡ Setting
      → port.read m n ≡ (acceptance (port.shown m n ∷ []), m)
  pub read_sound : (m : M) (n : ℕ) → port.Sound m → port.Sound (port.read m n).1
  pub update_refused : (m : M) (n : ℕ) (p : Patch) (r : Reply)
      → update_check keeps (class n) (supply port m) ≡ Some r → port.update m n p ≡ (r, m)
  pub updated : (m : M) (n : ℕ) (p : Patch) → port.Sound m → PatchFits p
      → update_check keeps (class n) (supply port m) ≡ None
      → let q = port.update m n p in Updated class (view port m) n p q.0 (view port q.1)
  -- a port that keeps takes updates and runs with the supply off
  pub kept_update : (m : M) (n : ℕ) (p : Patch) → port.Sound m → keeps ≡ true
      → supply port m ≡ false → class n ≡ Setting → (port.update m n p).0 ≡ acceptance []
  pub update_sound : (m : M) (n : ℕ) (p : Patch) → port.Sound m → PatchFits p
      → port.Sound (port.update m n p).1
  pub run_refused : (m : M) (first : ℕ) (ws : List ℕ) (r : Reply)
      → run_check keeps class first (length ws) (supply port m) ≡ Some r
      → port.run m first ws ≡ (r, m)
  pub ran : (m : M) (first : ℕ) (ws : List ℕ) → port.Sound m → Fit ws
      → run_check keeps class first (length ws) (supply port m) ≡ None
      → let p = port.run m first ws in Ran class (view port m) first ws p.0 (view port p.1)
  pub kept_run : (m : M) (first : ℕ) (ws : List ℕ) → port.Sound m → Fit ws → keeps ≡ true
      → supply port m ≡ false → run_check keeps class first (length ws) false ≡ None
      → (port.run m first ws).0 ≡ acceptance []
  pub run_sound : (m : M) (first : ℕ) (ws : List ℕ) → port.Sound m → Fit ws
      → port.Sound (port.run m first ws).1
  -- on every port, whether it keeps or not
  pub sync_refused : (m : M) (r : Reply)
      → awake_check (supply port m) ≡ Some r → port.sync m ≡ (r, m)
  pub synced : (m : M) → port.Sound m → awake_check (supply port m) ≡ None
      → let p = port.sync m in Synced class (view port m) p.0 (view port p.1)
  pub sync_sound : (m : M) → port.Sound m → port.Sound (port.sync m).1
  pub measure_refused : (m : M) (n w : ℕ) (r : Reply)
      → measure_check (class n) ≡ Some r → port.measure m n w ≡ (r, m)
  pub measured : (m : M) (n w : ℕ) → port.Sound m → measure_check (class n) ≡ None
      → let p = port.measure m n w in
      (p.0 ≡ acceptance []) × Measured class n w (view port m) (view port p.1)
  pub measure_sound : (m : M) (n w : ℕ) → port.Sound m → w < 2 ^ 16
      → port.Sound (port.measure m n w).1
  pub down : (m : M) → port.Sound m
      → WentDown keeps class reset (view port m) (view port (port.down m))
  pub down_sound : (m : M) → port.Sound m → port.Sound (port.down m)
  pub up : (m : M) → port.Sound m → CameUp class (view port m) (view port (port.up m))
  pub up_sound : (m : M) → port.Sound m → port.Sound (port.up m)
