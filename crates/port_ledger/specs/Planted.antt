-- Runs that would be wrong, each in its own way: no pile does them. Assumes nothing.
use Rattle.std.specs.Prelude.{List, [], ◌∷◌}
use Rattle.refusal.specs.Replies.{acceptance, refusal_of}
use Rattle.bus.specs.Chips.{Chip}
use Rattle.bench_call.specs.declared.PortCall.TheVariants.{Read, Update, Sync, Measure, Down, Up}
use Rattle.port_ledger.specs.Moments.{Moment}
use Rattle.port_ledger.specs.Small.{small_chip, without_supply, idle_chip, moment_at, moment_on}
use Rattle.port_ledger.specs.Small.{update_at, SmallAudited}

-- no run from a new chip to this one
abbrev pub NotAudited : List Moment → Chip → Type 0
NotAudited run last = SmallAudited idle_chip run last → ⊥

-- nor any from a chip that is not new
abbrev pub NotNew : Chip → Type 0
NotNew c = SmallAudited c [] c → ⊥

pub record NoneAudited : Type 0 where
  -- 'line', and no transfer failed
  pub false_line :
      NotAudited (moment_on idle_chip Sync (refusal_of 6 (1 ∷ 1 ∷ 0 ∷ [])) ∷ []) idle_chip
  -- the same to an update
  pub false_line_at_update :
      let fault = refusal_of 6 (1 ∷ 1 ∷ 0 ∷ []) in
      NotAudited (moment_on idle_chip (Update 1 0xFFFF 7) fault ∷ []) idle_chip
  -- 'line' to a read of a setting, though a transfer failed
  pub line_at_setting :
      let last = small_chip 0 0 1 in
      NotAudited (moment_at (Read 1) (refusal_of 6 (1 ∷ 1 ∷ 0 ∷ [])) idle_chip last ∷ []) last
  -- a transfer failed, and the sync is accepted
  pub hidden_failure :
      let last = small_chip 0 0 1 in
      NotAudited (moment_at Sync (acceptance []) idle_chip last ∷ []) last
  -- a transfer failed while the supply went, which takes no transfer
  pub failure_at_down :
      let last = without_supply (small_chip 0 0 1) in
      NotAudited (moment_at Down (acceptance []) idle_chip last ∷ []) last
  -- two transfers failed in one call
  pub two_failures :
      let last = small_chip 0 0 2 in
      NotAudited (moment_at Sync (refusal_of 6 (1 ∷ 1 ∷ 0 ∷ [])) idle_chip last ∷ []) last
  -- 'line' to calls that need no line
  pub line_at_measure :
      let last = small_chip 0 0 1 in
      NotAudited (moment_at (Measure 2 9) (refusal_of 6 (1 ∷ 2 ∷ 0 ∷ [])) idle_chip last ∷ []) last
  pub line_at_down :
      let last = without_supply (small_chip 0 0 1) in
      NotAudited (moment_at Down (refusal_of 6 (1 ∷ 1 ∷ 0 ∷ [])) idle_chip last ∷ []) last
  pub line_at_up :
      let last = small_chip 0 0 1 in
      NotAudited (moment_at Up (refusal_of 6 (1 ∷ 1 ∷ 0 ∷ [])) idle_chip last ∷ []) last
  -- a failure is forgotten by the count
  pub count_falls :
      let failed = small_chip 0 0 1 in
      NotAudited
      (moment_at Sync (refusal_of 6 (1 ∷ 1 ∷ 0 ∷ [])) idle_chip failed
      ∷ moment_at Sync (acceptance []) failed idle_chip ∷ [])
      idle_chip
  -- an update is refused, and shown all the same
  pub refused_update_shown :
      let failed = small_chip 0 0 1 in
      NotAudited
      (moment_at (Update 1 0xFFFF 7) (refusal_of 6 (1 ∷ 1 ∷ 0 ∷ [])) idle_chip failed
      ∷ moment_on failed (Read 1) (acceptance (7 ∷ [])) ∷ [])
      failed
  -- a setting is neither read nor updated with the supply off
  pub setting_asleep :
      let last = without_supply idle_chip in
      NotAudited
      (moment_at Down (acceptance []) idle_chip last
      ∷ moment_on last (Read 1) (refusal_of 5 []) ∷ [])
      last
  pub update_asleep :
      let last = without_supply idle_chip in
      NotAudited
      (moment_at Down (acceptance []) idle_chip last
      ∷ moment_on last (Update 1 0xFFFF 7) (refusal_of 5 []) ∷ [])
      last
  -- the supply stays when it is to go, and a measured word does not get into the chip
  pub down_stays : NotAudited (moment_on idle_chip Down (acceptance []) ∷ []) idle_chip
  pub measure_lost : NotAudited (moment_on idle_chip (Measure 2 9) (acceptance []) ∷ []) idle_chip
  -- 'asleep' while the supply is on
  pub false_asleep : NotAudited (moment_on idle_chip Sync (refusal_of 5 []) ∷ []) idle_chip
  -- a chip that stays awake when the supply goes, and a sync that is then refused
  pub supply_stays :
      NotAudited
      (moment_on idle_chip Down (acceptance [])
      ∷ moment_on idle_chip Sync (refusal_of 5 []) ∷ [])
      idle_chip
  -- a sync that is accepted though the supply was lost on the way, and nobody called for that
  pub supply_lost :
      let last = without_supply idle_chip in
      NotAudited
      (moment_at (Read 1) (acceptance (0 ∷ [])) idle_chip last
      ∷ moment_on last Sync (acceptance []) ∷ [])
      last
  -- a live word is read with the supply off
  pub reading_asleep :
      let last = without_supply idle_chip in
      NotAudited
      (moment_at Down (acceptance []) idle_chip last
      ∷ moment_on last (Read 2) (acceptance (0 ∷ [])) ∷ [])
      last
  -- a register that is not there is read
  pub absent_read : NotAudited (moment_on idle_chip (Read 3) (acceptance (0 ∷ [])) ∷ []) idle_chip
  -- an update that was accepted is dropped
  pub dropped_update :
      NotAudited
      (update_at idle_chip 7
      ∷ moment_on idle_chip (Read 1) (acceptance (0 ∷ [])) ∷ [])
      idle_chip
  -- an update is accepted though a transfer failed in it, and then forgotten
  pub false_acceptance :
      let last = small_chip 0 0 1 in
      NotAudited
      (moment_at (Update 1 0xFFFF 7) (acceptance []) idle_chip last
      ∷ moment_on last (Read 1) (acceptance (0 ∷ [])) ∷ [])
      last
  -- a sync is accepted, and the chip has not got the setting
  pub idle_sync :
      NotAudited (update_at idle_chip 7 ∷ moment_on idle_chip Sync (acceptance []) ∷ []) idle_chip
  -- a sync that works the first time, and not after the next update
  pub sync_once :
      let last = small_chip 7 0 0 in
      NotAudited
      (update_at idle_chip 7
      ∷ moment_at Sync (acceptance []) idle_chip last
      ∷ update_at last 9
      ∷ moment_on last Sync (acceptance []) ∷ [])
      last
  -- settings that are not sent again once the supply is back
  pub forgotten_setting :
      let synced = small_chip 7 0 0 in
      NotAudited
      (update_at idle_chip 7
      ∷ moment_at Sync (acceptance []) idle_chip synced
      ∷ moment_at Down (acceptance []) synced (without_supply idle_chip)
      ∷ moment_at Up (acceptance []) (without_supply idle_chip) idle_chip
      ∷ moment_on idle_chip (Read 2) (acceptance (0 ∷ [])) ∷ [])
      idle_chip
  -- the live word is read ahead of the setting
  pub early_reading :
      NotAudited
      (update_at idle_chip 7
      ∷ moment_on idle_chip (Read 2) (acceptance (0 ∷ [])) ∷ [])
      idle_chip
  -- the live word is not the chip's
  pub invented_word : NotAudited (moment_on idle_chip (Read 2) (acceptance (9 ∷ [])) ∷ []) idle_chip
  -- a measured word is answered, which the chip has not got
  pub word_beside_chip :
      NotAudited
      (moment_on idle_chip (Measure 2 9) (acceptance [])
      ∷ moment_on idle_chip (Read 2) (acceptance (9 ∷ [])) ∷ [])
      idle_chip
  -- a live word outlives the supply
  pub live_word_kept :
      let measured = small_chip 0 9 0 in
      NotAudited
      (moment_at (Measure 2 9) (acceptance []) idle_chip measured
      ∷ moment_at Down (acceptance []) measured (without_supply measured)
      ∷ moment_at Up (acceptance []) (without_supply measured) measured
      ∷ moment_on measured (Read 2) (acceptance (9 ∷ [])) ∷ [])
      measured
  -- the chip is another between two calls
  pub torn :
      NotAudited
      (moment_on idle_chip Sync (acceptance [])
      ∷ moment_at Sync (acceptance []) (small_chip 7 0 0) idle_chip ∷ [])
      idle_chip
  -- its supply is, or its count
  pub torn_supply :
      let off = without_supply idle_chip in
      NotAudited
      (moment_on idle_chip (Read 1) (acceptance (0 ∷ []))
      ∷ moment_at (Read 1) (acceptance (0 ∷ [])) off idle_chip ∷ [])
      idle_chip
  pub torn_count :
      let failed = small_chip 0 0 1 in
      NotAudited
      (moment_on idle_chip (Read 1) (acceptance (0 ∷ []))
      ∷ moment_on failed (Read 1) (acceptance (0 ∷ [])) ∷ [])
      failed
  -- the chip is another before the first call, and after the last
  pub torn_first :
      NotAudited (moment_at Sync (acceptance []) (small_chip 7 0 0) idle_chip ∷ []) idle_chip
  pub torn_last : NotAudited (moment_on idle_chip Sync (acceptance []) ∷ []) (small_chip 7 0 0)
  -- the chip was found with a setting, a measurement, the supply off, or a failure
  pub found_set : NotNew (small_chip 7 0 0)
  pub found_measured : NotNew (small_chip 0 9 0)
  pub found_asleep : NotNew (without_supply idle_chip)
  pub found_failed : NotNew (small_chip 0 0 1)
