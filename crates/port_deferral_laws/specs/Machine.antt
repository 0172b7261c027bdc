-- The deferral: a layer of updates that wait, over any port. Assumes nothing.
use Rattle.std.specs.Prelude.{◌≡◌, ℕ, Bool, if◌then◌else◌, List, [], ◌∷◌, map, drop, length}
use Rattle.std.specs.Prelude.{Some, None, Option}
use Rattle.patch.specs.Patch.{word_after, is_complete}
use Rattle.refusal.specs.Replies.{Reply, acceptance}
use Rattle.chart.specs.declared.class.Class.{Class}
use Rattle.chart.specs.declared.class.Class.TheVariants.{Setting}
use Rattle.patch.specs.declared.patch.Patch.{Patch}
use Rattle.port.specs.Checks.{onward}
use Rattle.port.specs.Meaning.{PortMachine}
use Rattle.port_layer.specs.Layer.{Over, over, back, Sending, send_all, Layer, layer_machine}
use Rattle.port_deferral_table.specs.Entries.{IsTable, waiting_patch, word_under, takes, enter}
use Rattle.port_deferral_table.specs.Entries.{bursts}
use Rattle.port_deferral_table.specs.Entries.{words_of}
use Rattle.port_deferral_table.specs.declared.entry.Entry.{Entry}

-- A deferral's own is what waits to be sent to the port below.
abbrev pub DeferralModel : Type 0 → Type 0
DeferralModel M = Over (List Entry) M

-- just made over a port: nothing waits
abbrev pub new_deferral : {M : Type 0} → M → DeferralModel M
new_deferral b = over [] b

-- an answered word under a patch
abbrev pub reply_under : Patch → Reply → Reply
reply_under p r = record r { values = map (word_after p) r.values }

-- What is always so of a deferral: its entries are a table, and are of settings.
pub record DeferralSound {M : Type 0} (port : PortMachine M) (class : ℕ → Class)
    (m : DeferralModel M) : Type 0 where
  pub below : port.Sound m.below
  pub table : IsTable m.own
  pub settings : (n : ℕ) (p : Patch) → waiting_patch n m.own ≡ Some p → class n ≡ Setting

module _ {M : Type 0} where
  -- an update waits, where it finds a place
  abbrev pub with_update : DeferralModel M → ℕ → Patch → DeferralModel M
  with_update m n p = over (enter n p m.own) m.below

  -- a setting's word below, under what waits for it; nothing is told of a word where there is none
  abbrev pub read_back : DeferralModel M → Patch → Reply × M → Reply × DeferralModel M
  read_back m p q = onward (back m q) (λ k. (reply_under p q.0, k))

module _ {M : Type 0} (port : PortMachine M) where
  -- A burst goes below: one entry as the update that it is, more of them as a run of their words.
  abbrev pub send_burst : M → List Entry → Reply × M
  send_burst b [] = (acceptance [], b)
  send_burst b (e ∷ []) = port.update b e.register e.patch
  send_burst b (e ∷ next ∷ es) = port.run b e.register (words_of (e ∷ next ∷ es))

  -- What waits goes burst by burst, and the entries of one that is accepted leave.
  abbrev pub deferral_sending : Sending (List Entry) (List Entry) M
  deferral_sending = record {
    pieces = bursts;
    call = λ _. send_burst;
    without = λ burst es. drop (length burst) es;
  }

  -- an update that finds no place has all others sent first
  abbrev pub make_place : DeferralModel M → ℕ → Patch → Reply × DeferralModel M
  make_place m n p = if takes n p m.own then (acceptance [], m) else send_all deferral_sending m

  -- and then it waits
  abbrev pub change_setting : DeferralModel M → ℕ → Patch → Reply × DeferralModel M
  change_setting m n p = onward (make_place m n p) (λ k. (acceptance [], with_update k n p))

  -- a setting by what waits for it: where its whole word does, the word below counts for nothing
  abbrev pub read_by : DeferralModel M → ℕ → Option Patch → Reply × DeferralModel M
  read_by m n None = back m (port.read m.below n)
  read_by m n (Some p) =
      if is_complete p
      then (acceptance (word_after p 0 ∷ []), m)
      else read_back m p (port.read m.below n)

  abbrev pub read_setting : DeferralModel M → ℕ → Reply × DeferralModel M
  read_setting m n = read_by m n (waiting_patch n m.own)

  -- Over a port that keeps or does not, and some chart.
  module _ (keeps : Bool) (class : ℕ → Class) where
    -- What is shown lies below, under what waits for it. What waits is lost with the settings of a
    -- port that forgets.
    abbrev pub deferral_layer : Layer (List Entry) (List Entry) M
    deferral_layer = record {
      keeps = keeps;
      shown = λ es f n. word_under (waiting_patch n es) (f n);
      read = read_setting;
      change = change_setting;
      sending = deferral_sending;
      after_down = λ es. if keeps then es else [];
      Sound = DeferralSound port class;
      fresh = [];
    }

    abbrev pub deferral_machine : PortMachine (DeferralModel M)
    deferral_machine = layer_machine port class deferral_layer
