-- One run as it is to be: a setting that the line failed to carry outlives the supply, is changed
-- asleep, and is in the chip by the next reading. Assumes nothing.
use Rattle.std.specs.Prelude.{◌≡◌, List, [], ◌∷◌}
use Rattle.refusal.specs.Replies.{acceptance, refusal_of}
use Rattle.bus.specs.Chips.{Chip}
use Rattle.bench_call.specs.declared.PortCall.TheVariants.{Read, Update, Sync, Measure, Down, Up}
use Rattle.port_ledger.specs.Moments.{Moment, due_word}
use Rattle.port_ledger.specs.Small.{small_chip, without_supply, idle_chip, moment_at, moment_on}
use Rattle.port_ledger.specs.Small.{update_at, SmallAudited}

abbrev pub failed_chip : Chip
failed_chip = small_chip 0 0 1

abbrev pub asleep_chip : Chip
asleep_chip = without_supply failed_chip

abbrev pub measured_chip : Chip
measured_chip = small_chip 0 300 1

abbrev pub carried_chip : Chip
carried_chip = small_chip 0x57 300 1

-- the line fails, and with it the sync
abbrev pub failed_sync : Moment
failed_sync = moment_at Sync (refusal_of 6 (2 ∷ 1 ∷ 1 ∷ [])) idle_chip failed_chip

abbrev pub reading_asleep : Moment
reading_asleep = moment_on asleep_chip (Read 2) (refusal_of 5 [])

-- it makes 0x57 of 7
abbrev pub update_asleep : Moment
update_asleep = moment_on asleep_chip (Update 1 0x00F0 0x0050) (acceptance [])

-- the setting is in the chip by then
abbrev pub last_reading : Moment
last_reading = moment_at (Read 2) (acceptance (300 ∷ [])) measured_chip carried_chip

abbrev pub worked_moments : List Moment
worked_moments =
    update_at idle_chip 7
    ∷ failed_sync
    ∷ moment_at Down (acceptance []) failed_chip asleep_chip
    ∷ reading_asleep
    ∷ update_asleep
    ∷ moment_at Up (acceptance []) asleep_chip failed_chip
    ∷ moment_at (Measure 2 300) (acceptance []) failed_chip measured_chip
    ∷ last_reading ∷ []

abbrev pub WorkedAudited : Type 0
WorkedAudited = SmallAudited idle_chip worked_moments carried_chip

-- the word that the setting is due then
abbrev pub WorkedDue : Type 0
WorkedDue = due_word 1 0 worked_moments ≡ 0x57
