-- The rules of a deferral as laws: what its calls answer, leave and send below. Assumes nothing.
use Rattle.std.specs.Prelude.{◌≡◌, ◌≢◌, ℕ, Bool, true, false, ◌||◌, List, [], ◌∷◌, ◌++◌}
use Rattle.std.specs.Prelude.{Some, None}
use Rattle.patch.specs.Patch.{word_after, Sets}
use Rattle.refusal.specs.Replies.{Reply, acceptance}
use Rattle.chart.specs.declared.class.Class.{Class}
use Rattle.chart.specs.declared.class.Class.TheVariants.{Setting}
use Rattle.patch.specs.declared.patch.Patch.{Patch}
use Rattle.port.specs.Meaning.{PortMachine, supply}
use Rattle.port_layer.specs.Layer.{over}
use Rattle.port_layer.specs.Laws.{LayerLaws}
use Rattle.port_deferral_table.specs.Entries.{entry_of, waiting_patch, HasEntry, FindsPlace, enter}
use Rattle.port_deferral_table.specs.Entries.{Linked, AreBursts}
use Rattle.port_deferral_table.specs.declared.entry.Entry.{Entry}
use Rattle.port_deferral_laws.specs.Machine.{DeferralModel, deferral_sending}

-- one word for each entry: what it makes of any word
abbrev pub AreWordsOf : List Entry → List ℕ → Type 0
AreWordsOf [] ws = ws ≡ []
AreWordsOf (e ∷ es) [] = ⊥
AreWordsOf (e ∷ es) (w ∷ ws) = Sets e.patch w × AreWordsOf es ws

-- Over a port that keeps or does not, and some chart.
module _ {M : Type 0} (port : PortMachine M) (keeps : Bool) (class : ℕ → Class) where
  abbrev pub D : Type 0
  D = DeferralModel M

  -- a setting whose reads and updates are not refused before anything is sent
  abbrev pub SettingAtHand : D → ℕ → Type 0
  SettingAtHand m n = (class n ≡ Setting) × ((keeps || supply port m.below) ≡ true)

  -- a burst as it goes below, whatever else waits
  abbrev pub burst_call : List Entry → M → List Entry → Reply × M
  burst_call = (deferral_sending port).call

  pub record DeferralLaws (deferral : PortMachine D) : Type 0 where
    -- It sends its entries in bursts, from the lowest register up. The entries of a burst are gone
    -- once it is accepted, and those behind them stand.
    pub entry_bursts : (es : List Entry) → AreBursts es ((deferral_sending port).pieces es)
    pub burst_gone : (burst behind : List Entry)
        → (deferral_sending port).without burst (burst ++ behind) ≡ behind
    -- When it sends so, where that ends, and what else goes below, is as in every layer.
    pub layer : LayerLaws port class (deferral_sending port) keeps deferral
    -- How a burst goes below. One entry goes as one update with its patch;
    pub one_entry : (es : List Entry) (b : M) (e : Entry)
        → burst_call es b (e ∷ []) ≡ port.update b e.register e.patch
    -- two or more, which then follow each other, go as one run of their words.
    pub more_entries : (waiting : List Entry) (b : M) (e next : Entry) (es : List Entry)
        → Linked (e ∷ next ∷ es)
        → (ws : List ℕ) × AreWordsOf (e ∷ next ∷ es) ws
        × (burst_call waiting b (e ∷ next ∷ es) ≡ port.run b e.register ws)
    -- Once all bursts are accepted no entry is left.
    pub none_waits : (m : D) → (layer.send m).0.number ≡ 0 → (layer.send m).1.own ≡ []
    -- An update that changes nothing, or whose register has an entry, or that finds fewer than 16
    -- entries, is accepted and waits from then on. The port below is as it was.
    pub update_waits : (m : D) (n : ℕ) (p : Patch) → SettingAtHand m n → FindsPlace n p m.own
        → deferral.update m n p ≡ (acceptance [], over (enter n p m.own) m.below)
    -- Any other has all entries sent first. If that is refused, the update ends with that reply,
    -- and there is no entry for it;
    pub update_refused : (m : D) (n : ℕ) (p : Patch) → SettingAtHand m n → ¬ FindsPlace n p m.own
        → (layer.send m).0.number ≢ 0
        → (deferral.update m n p ≡ layer.send m) × ¬ HasEntry n (layer.send m).1.own
    -- if it is accepted, so is the update, and its entry is the only one.
    pub update_alone : (m : D) (n : ℕ) (p : Patch) → SettingAtHand m n → ¬ FindsPlace n p m.own
        → (layer.send m).0.number ≡ 0
        → deferral.update m n p ≡ (acceptance [], over (entry_of n p ∷ []) (layer.send m).1.below)
    -- A setting for which a full mask waits is answered with what its entry makes of any word.
    -- Nothing changes, neither here nor below.
    pub read_whole : (m : D) (n : ℕ) (p : Patch) → SettingAtHand m n
        → waiting_patch n m.own ≡ Some p → p.mask ≡ 65535
        → (w : ℕ) → deferral.read m n ≡ (acceptance (word_after p w ∷ []), m)
    -- One for which nothing waits is read below, and the reply is as it came. The entries stand.
    pub read_below : (m : D) (n : ℕ) → SettingAtHand m n → waiting_patch n m.own ≡ None
        → let q = port.read m.below n in deferral.read m n ≡ (q.0, over m.own q.1)
    -- One for which another mask waits is read below too: an answered word comes under the patch,
    -- a refusal as it came. The entries stand.
    pub read_part : (m : D) (n : ℕ) (p : Patch) → SettingAtHand m n
        → waiting_patch n m.own ≡ Some p → p.mask ≢ 65535
        → let q = port.read m.below n in
        let did = deferral.read m n in
        ((w : ℕ) → q.0 ≡ acceptance (w ∷ []) → did.0 ≡ acceptance (word_after p w ∷ []))
        × (q.0.number ≢ 0 → did.0 ≡ q.0)
        × (did.1 ≡ over m.own q.1)
    -- The supply goes below. No entry is left over a port that forgets, and all are over one that
    -- keeps.
    pub down_forgets : (m : D) → keeps ≡ false → deferral.down m ≡ over [] (port.down m.below)
    pub down_keeps : (m : D) → keeps ≡ true → deferral.down m ≡ over m.own (port.down m.below)
