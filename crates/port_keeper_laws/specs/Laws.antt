-- The keeper's rules, whatever machine keeps to them: what is answered, what goes below, and what
-- is left. Assumes nothing.
use Rattle.std.specs.Prelude.{◌≡◌, ◌≢◌, ℕ, ◌+◌, Bool, true, false, ◌||◌, ◌⊎◌, ◌↔◌, [], ◌∷◌}
use Rattle.std.specs.Prelude.{slice_range}
use Rattle.patch.specs.Patch.{word_after, setting_to}
use Rattle.refusal.specs.Replies.{Reply, acceptance}
use Rattle.chart.specs.declared.class.Class.{Class}
use Rattle.chart.specs.declared.class.Class.TheVariants.{Setting}
use Rattle.patch.specs.declared.patch.Patch.{Patch}
use Rattle.port.specs.Meaning.{PortMachine, supply}
use Rattle.port_layer.specs.Laws.{LayerLaws}
use Rattle.port_keeper_marks.specs.Runs.{is_marked, AreRuns, Clears}
use Rattle.port_keeper_marks.specs.declared.runs.Run.{Run}
use Rattle.port_keeper_laws.specs.Machine.{Own, KeeperModel, Kept, held_at, owed_at}
use Rattle.port_keeper_laws.specs.Machine.{keeper_sending}

-- A setting is held as this word from now on; every other word, and every other mark, stands.
pub record NowHolds {M : Type 0} (n w : ℕ) (m after : KeeperModel M) : Type 0 where
  pub word : held_at after n ≡ w
  pub words : (i : ℕ) → i ≢ n → held_at after i ≡ held_at m i
  pub marks : (i : ℕ) → i ≢ n → owed_at after i ≡ owed_at m i

-- A setting is held, and nothing went below. It is owed unless the word is the one after a reset.
pub record HoldsAlone {M : Type 0} (reset : ℕ → ℕ) (n w : ℕ) (m : KeeperModel M)
    (q : Reply × KeeperModel M) : Type 0 where
  pub reply : q.0 ≡ acceptance []
  pub below : q.1.below ≡ m.below
  pub holds : NowHolds n w m q.1
  pub owes : (owed_at q.1 n ≡ true) ↔ (w ≢ reset n)

-- A call went below, once, and its reply passes up as it came.
pub record WentBelow {M : Type 0} (call : Reply × M) (q : Reply × KeeperModel M) : Type 0 where
  pub reply : q.0 ≡ call.0
  pub below : q.1.below ≡ call.1

-- A setting was sent under a full mask. Accepted, it is held and not owed; refused, all that the
-- keeper has of its own stands.
pub record SendsSetting {M : Type 0} (port : PortMachine M) (n w : ℕ) (m : KeeperModel M)
    (q : Reply × KeeperModel M) : Type 0 where
  pub went : WentBelow (port.update m.below n (setting_to w)) q
  pub if_accepted : q.0.number ≡ 0 → NowHolds n w m q.1 × (owed_at q.1 n ≡ false)
  pub if_refused : q.0.number ≢ 0 → q.1.own ≡ m.own

-- Over a port that keeps or does not, and some chart.
pub record KeeperLaws {M : Type 0} (port : PortMachine M) (keeps : Bool) (class : ℕ → Class)
    (reset : ℕ → ℕ) (keeper : PortMachine (KeeperModel M)) : Type 0 where
  -- It sends what is owed, in runs from the lowest number up. A run goes below from its first
  -- register on, with the words that are held for it. Accepted, it is owed no longer, and every
  -- other mark and every word that is held stands.
  pub owed_runs : (s : Own) → AreRuns (is_marked s.owed) 0 ((keeper_sending port).pieces s)
  pub run_below : (s : Own) (b : M) (r : Run)
      → (keeper_sending port).call s b r
      ≡ port.run b r.first (slice_range s.held r.first (r.first + r.count))
  pub run_gone : (r : Run) (s : Own)
      → let after = (keeper_sending port).without r s in
      Clears r s.owed after.owed × (after.held ≡ s.held)
  -- When it sends so, where that ends, and what else goes below, is as in every layer.
  pub layer : LayerLaws port class (keeper_sending port) true keeper
  -- Once all runs are accepted nothing is owed.
  pub none_owed : (m : KeeperModel M) → (layer.send m).0.number ≡ 0
      → (n : ℕ) → owed_at (layer.send m).1 n ≡ false
  -- A setting is answered as it is held. Nothing below is asked, and nothing changes.
  pub setting_read : (m : KeeperModel M) (n : ℕ) → class n ≡ Setting
      → keeper.read m n ≡ (acceptance (held_at m n ∷ []), m)
  -- With the supply off, over a port that forgets, an update is held alone.
  pub update_asleep : (m : KeeperModel M) (n : ℕ) (p : Patch) → Kept class reset m.own
      → class n ≡ Setting → (keeps || supply port m.below) ≡ false
      → HoldsAlone reset n (word_after p (held_at m n)) m (keeper.update m n p)
  -- In every other case one that makes the held word again, where it is not owed, sends nothing.
  pub same_update : (m : KeeperModel M) (n : ℕ) (p : Patch)
      → class n ≡ Setting → (keeps || supply port m.below) ≡ true
      → word_after p (held_at m n) ≡ held_at m n → owed_at m n ≡ false
      → keeper.update m n p ≡ (acceptance [], m)
  -- Any other goes below.
  pub other_update : (m : KeeperModel M) (n : ℕ) (p : Patch) → Kept class reset m.own
      → class n ≡ Setting → (keeps || supply port m.below) ≡ true
      → (word_after p (held_at m n) ≢ held_at m n) ⊎ (owed_at m n ≡ true)
      → SendsSetting port n (word_after p (held_at m n)) m (keeper.update m n p)
  -- Once the supply is gone every word that is held stands, and over a port that keeps every mark
  -- too. One that forgets is then owed each setting whose word is not the one after a reset, and
  -- nothing else.
  pub down : (m : KeeperModel M) → (keeper.down m).own.held ≡ m.own.held
  pub down_kept : (m : KeeperModel M) → keeps ≡ true → (keeper.down m).own.owed ≡ m.own.owed
  pub down_lost : (m : KeeperModel M) (n : ℕ) → Kept class reset m.own → keeps ≡ false
      → (owed_at (keeper.down m) n ≡ true)
      ↔ ((class n ≡ Setting) × (held_at m n ≢ reset n))
