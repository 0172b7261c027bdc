-- What is demanded of a run of calls on a pile that keeps. Assumes nothing.
use Rattle.std.specs.Prelude.{◌≡◌, ◌↔◌, ℕ, ◌+◌, true, false, if◌then◌else◌, List, [], ◌∷◌, ◌++◌}
use Rattle.std.specs.Prelude.{IsTrue}
use Rattle.refusal.specs.Replies.{acceptance}
use Rattle.chart.specs.declared.class.Class.{Class}
use Rattle.chart.specs.declared.class.Class.TheVariants.{Setting, Live}
use Rattle.bus.specs.Chips.{Chip}
use Rattle.port.specs.Views.{Agree, word_in}
use Rattle.bench_call.specs.declared.PortCall.TheVariants.{Read, Sync}
use Rattle.port_ledger.specs.Moments.{Moment, transfer_failed, Joined, plain_reply, due_word}
use Rattle.port_ledger.specs.Ledger.{Ledger, new_ledger, needs_supply, booking, ledger_after}

-- a chip that is new
pub record NewChip (class : ℕ → Class) (reset : ℕ → ℕ) (c : Chip) : Type 0 where
  pub settings : Agree class Setting (word_in c) reset
  pub live : Agree class Live (word_in c) (λ _. 0)
  pub supply : c.supply ≡ true
  pub failed : c.failed ≡ 0

-- every setting in the chip has its due value
abbrev pub ChipDue : (ℕ → Class) → (ℕ → ℕ) → Chip → Type 0
ChipDue class due c = Agree class Setting (word_in c) due

-- An answered read of a live register: the ledger's word, which is the chip's, while every setting
-- in the chip has its due value.
pub record LiveAnswer (class : ℕ → Class) (l : Ledger) (due : ℕ → ℕ) (n : ℕ) (now : Moment)
    : Type 0 where
  pub answered : now.reply ≡ acceptance (l.live n ∷ [])
  pub chips : word_in now.after n ≡ l.live n
  pub settings : ChipDue class due now.after

-- a chip whose supply and live words are those of a ledger
pub record AsBooked (class : ℕ → Class) (l : Ledger) (c : Chip) : Type 0 where
  pub supply : c.supply ≡ l.supply
  pub live : Agree class Live (word_in c) l.live

-- What is demanded of one call, by the ledger before it and by the words that settings are due
-- then. The ledger's reply settles what is answered; the fields after it say so call by call, and
-- what the chip has.
pub record Correct (class : ℕ → Class) (l : Ledger) (due : ℕ → ℕ) (now : Moment) : Type 0 where
  -- the ledger's due words are those of the updates
  pub history : Agree class Setting l.due due
  -- the reply is the ledger's, a fault's cause, register and errand aside
  pub reply : plain_reply now.reply ≡ (booking class l now.call (transfer_failed now)).0
  -- the chip's supply and live words are then the ledger's
  pub chip : AsBooked class (booking class l now.call (transfer_failed now)).1 now.after
  -- a read of a setting is always answered, with its due value
  pub setting_read : (n : ℕ) → now.call ≡ Read n → class n ≡ Setting
      → now.reply ≡ acceptance (due n ∷ [])
  pub live_read : (n : ℕ) → now.call ≡ Read n → class n ≡ Live → now.reply.number ≡ 0
      → LiveAnswer class l due n now
  -- after an accepted sync every setting in the chip has its due value
  pub sync : now.call ≡ Sync → now.reply.number ≡ 0 → ChipDue class due now.after
  -- 'line' where a transfer failed in it, and nowhere else
  pub line : (now.reply.number ≡ 6) ↔ IsTrue (transfer_failed now)
  -- and then only one did
  pub once : now.after.failed ≡ now.before.failed + (if transfer_failed now then 1 else 0)
  -- 'asleep' at syncs and live reads that found the supply off, and nowhere else
  pub asleep : (now.reply.number ≡ 5)
      ↔ (IsTrue (needs_supply class now.call) × (now.before.supply ≡ false))

-- A run on a new chip, from the chip that it found to the chip that it left, in which every call is
-- correct, by the calls before it.
pub record Audited (class : ℕ → Class) (reset : ℕ → ℕ) (first : Chip) (run : List Moment)
    (last : Chip) : Type 0 where
  pub new : NewChip class reset first
  pub joined : Joined first run last
  pub each : (past : List Moment) (now : Moment) (rest : List Moment) → run ≡ past ++ (now ∷ rest)
      → let l = ledger_after class (new_ledger reset) past in
      Correct class l (λ n. due_word n (reset n) past) now
