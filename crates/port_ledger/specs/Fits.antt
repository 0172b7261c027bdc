-- Calls of 16-bit numbers. Assumes nothing.
use Rattle.std.specs.Prelude.{◌^◌, ◌<◌, List, [], ◌∷◌}
use Rattle.patch.specs.Patch.{patch_of}
use Rattle.port.specs.Meaning.{PatchFits}
use Rattle.bench_call.specs.declared.PortCall.{PortCall}
use Rattle.bench_call.specs.declared.PortCall.TheVariants.{Read, Update, Sync, Measure, Down, Up}

-- masks, bits and words of 16 bits
abbrev pub CallFits : PortCall → Type 0
CallFits (Read n) = Unit {0}
CallFits (Update n mask bits) = PatchFits (patch_of mask bits)
CallFits Sync = Unit {0}
CallFits (Measure n w) = w < 2 ^ 16
CallFits Down = Unit {0}
CallFits Up = Unit {0}

abbrev pub CallsFit : List PortCall → Type 0
CallsFit [] = Unit {0}
CallsFit (c ∷ cs) = CallFits c × CallsFit cs
