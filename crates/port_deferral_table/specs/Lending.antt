-- What a table's slots end as where one entry of them is lent. Assumes nothing.
use Rattle.std.specs.Prelude.{ℕ, Option}
use Rattle.std.specs.Borrow.{LendsIf, MutBor, Fml}
use Rattle.arrayvec.specs.ArrayVec.{with_item}
use Rattle.port_deferral_table.specs.declared.entry.Entry.{Entry}
use Rattle.port_deferral_table.specs.declared.slots.Slots.{Slots}
use Rattle.port_deferral_table.specs.contracts.slots.Slots.{the_row}
use Rattle.port_deferral_table.specs.contracts.entry.Entry.{the_row as entry_row}

-- the slots with one entry another
abbrev pub with_entry : Slots → ℕ → Entry → Slots
with_entry s at e = record s { entries = with_item s.entries at e }

-- They end with the entry as the last value behind the loan, and where there is none as they were.
abbrev pub LendsEntry : MutBor Slots → ℕ → Option (MutBor Entry) → Fml
LendsEntry s at lent = LendsIf the_row entry_row s lent (with_entry s.now at) s.now
