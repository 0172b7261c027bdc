use Rattle.std.proofs.Common.{[], ◌∷◌, sym}
use Rattle.trace.specs.declared.event.Event.TheVariants.{Start, Stop}
use Rattle.bus_i2c_wire.specs.Frames.{pass, byte_events, own_address, put_bytes}
use Rattle.bus_i2c_wire.proofs.Passing.{carried-append}
use Rattle.bus_i2c_wire.proofs.wire.Wire.put.Goals as goal

pub returns-clause-wire : goal.returns-clause-wire
returns-clause-wire c =
    let w = c.args.self.now in
    rw (c.pass-2.ensures, c.send_put-answer.ensures.wire, c.from.ensures, c.pass.ensures)
    (sym (carried-append
    (byte_events (put_bytes (own_address w) c.args.raw c.args.words.now) c.args.mark)
    (Stop ∷ []) (pass Start w)))
