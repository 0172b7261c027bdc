use Rattle.std.proofs.Common.{◌≡◌, ◌-◌, ◌*◌, true, drop}
use Rattle.bus_i2c_wire.specs.Frames.{carry, byte_events, is_good, word_bytes}
use Rattle.bus_i2c_wire.proofs.wire.Wire.send_words.Given as goal

-- all words up to here were acknowledged, and what is left to send gives what all gives from the
-- start
abbrev pub invariant-loop-i : goal.invariant-loop-i
invariant-loop-i l =
    (is_good l.mark (2 * l.i) ≡ true)
    × (carry (byte_events (word_bytes (drop l.i l.words)) (l.mark - 2 * l.i)) l.self
    ≡ carry (byte_events (word_bytes l.words) l.mark) l.initial.self)
