use Rattle.std.proofs.Common.{◌≡◌, ◌-◌, true, refl, ap, arith}
use Rattle.std.proofs.lemmas.Bool.Decides.{nat_tests}
use Rattle.bus_i2c_wire.specs.Frames.{is_good, own_address}
use Rattle.bus_i2c_wire.proofs.Fetching.{asked, taken, good_get}
use Rattle.bus_i2c_wire.proofs.wire.Wire.fetch.Goals as goal

pub returns : goal.returns
returns c =
    let w = c.args.self.now in
    let raw = c.args.raw in
    let mark = c.args.mark in
    let two : is_good mark 2 ≡ true = grind (arith, nat_tests, c.in_ok-send_head.ensures.value) in
    let one : is_good (mark - 2) 1 ≡ true =
    grind (arith, nat_tests, c.in_ok-send.ensures.value, c.saturating_sub.ensures) in
    let at = asked w raw mark two one in
    let ready : c.send.new.self ≡ at =
    rw (
      c.send.ensures.wire,
      c.read_byte-again.ensures,
      ap own_address c.self.view_is,
      c.saturating_sub.ensures,
      c.pass-2.ensures,
      c.send_head.ensures.wire,
      c.pass.ensures,
    )
    (refl {a = at}) in
    let t =
    taken w raw mark two one ready c.take-high.ensures.value c.take-high.ensures.wire
    c.take-low.ensures.value c.take-low.ensures.wire in
    record { value = rw (good_get w raw mark two one, c.word_of.ensures, t.0) refl; wire = t.1 }
