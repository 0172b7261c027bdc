use Rattle.std.proofs.Common.{◌≡◌, ◌%◌, arith}
use Rattle.std.proofs.lemmas.Grind.{common_steps}
use Rattle.bus_i2c.proofs.i2c.I2c.send_get.Goals as goal

-- a raw address that is sent loses nothing in the target's pointer
pub returns : goal.returns
returns g c =
    let same : c.args.raw % 64 ≡ c.args.raw = omega (arith, c.requires) in
    grind (arith, common_steps, same)
