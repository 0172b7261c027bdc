use Rattle.std.proofs.Common.{◌≡◌, take}
use Rattle.port_deferral_table.specs.Entries.{words_of}
use Rattle.port_deferral.proofs.deferral.words_of.Given as goal

-- the words of the entries so far
abbrev pub invariant-loop-entry : goal.invariant-loop-entry
invariant-loop-entry l = l.words.items ≡ take l.entry-index (words_of l.burst)
