use Rattle.std.proofs.Common.{◌≡◌, ◌-◌, true, drop}
use Rattle.bus_i2c_wire.specs.Frames.{carry, byte_events, is_good}
use Rattle.bus_i2c_wire.proofs.wire.Wire.send.Given as goal

-- all bytes up to here were acknowledged, and what is left to send gives what all gives from the
-- start
abbrev pub invariant-loop-i : goal.invariant-loop-i
invariant-loop-i l =
    (is_good l.mark l.i ≡ true)
    × (carry (byte_events (drop l.i l.bytes) (l.mark - l.i)) l.self
    ≡ carry (byte_events l.bytes l.mark) l.initial.self)
