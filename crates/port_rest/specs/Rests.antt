-- A rest between two times of work: the supply goes, and comes back for a ticket. Assumes nothing.
use Rattle.refusal.specs.Replies.{Reply}
use Rattle.port.specs.Meaning.{PortMachine}

-- up, then a sync, whose reply it is
abbrev pub resume : {M : Type 0} → PortMachine M → M → Reply × M
resume port m = port.sync (port.up m)
