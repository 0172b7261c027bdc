-- Lists of events in parts. Assumes nothing.
use Rattle.std.proofs.Common.{◌≡◌, List, [], ◌∷◌, ◌++◌, refl}
use Rattle.trace.specs.declared.event.Event.{Event}
use Rattle.bus_i2c_wire.specs.Frames.{Wired, pass, carry}

pub carried-append : (es fs : List Event) (w : Wired)
    → carry (es ++ fs) w ≡ carry fs (carry es w)
carried-append [] fs w = refl
carried-append (e ∷ es) fs w = carried-append es fs (pass e w)
