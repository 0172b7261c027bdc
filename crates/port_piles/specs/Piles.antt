-- Runs on piles of any layers. Assumes nothing.
use Rattle.std.specs.Prelude.{◌≡◌, ℕ, Bool, true, false, List, [], ◌∷◌}
use Rattle.chart.specs.declared.class.Class.{Class}
use Rattle.bus.specs.Chips.{Chip}
use Rattle.bus.specs.Meaning.{BusMachine}
use Rattle.port.specs.Meaning.{PortMachine, PortMeaning}
use Rattle.port_paging_laws.specs.Machine.{new_paging, paging_machine}
use Rattle.port_keeper_laws.specs.Machine.{new_keeper, keeper_machine}
use Rattle.port_deferral_laws.specs.Machine.{new_deferral, deferral_machine}
use Rattle.bench_call.specs.declared.PortCall.{PortCall}
use Rattle.port_ledger.specs.Moments.{Moment}
use Rattle.port_ledger.specs.Audited.{Audited}
use Rattle.port_ledger.specs.Fits.{CallsFit}
use Rattle.port_ledger.specs.Runs.{moments, after}
use Rattle.bench_call.specs.declared.LayerKind.{LayerKind}
use Rattle.bench_call.specs.declared.LayerKind.TheVariants.{Keeper, Deferral}

-- whether layers keep, over a port that keeps or does not: at least one is a keeper
abbrev pub keep : List LayerKind → Bool → Bool
keep [] below = below
keep (Keeper ∷ ls) below = keep ls true
keep (Deferral ∷ ls) below = keep ls below

-- the moments of a run, and the chip that it left
pub record PileRun : Type 0 where
  pub moments : List Moment
  pub last : Chip

module _ (class : ℕ → Class) (reset : ℕ → ℕ) where
  -- A run on a pile: a port that is at m, which keeps or does not, and new layers over it, the
  -- lowest first. The calls are those of the topmost.
  unfoldable pub pile_run : {M : Type 0}
      → List LayerKind → Bool → PortMachine M → List PortCall → M → PileRun
  pile_run [] keeps port cs m =
      record { moments = moments port cs m; last = port.chip (after port cs m) }
  pile_run (Keeper ∷ ls) keeps port cs m =
      pile_run ls true (keeper_machine port keeps class reset) cs (new_keeper reset m)
  pile_run (Deferral ∷ ls) keeps port cs m =
      pile_run ls keeps (deferral_machine port keeps class) cs (new_deferral m)

  -- If the pile keeps, and the port under the layers is new, the run is an audited one.
  unfoldable pub PileAudited : {M : Type 0}
      → List LayerKind → Bool → PortMachine M → List PortCall → M → Type 0
  PileAudited ls keeps port cs m =
      let r = pile_run ls keeps port cs m in
      keep ls keeps ≡ true → port.New m → Audited class reset (port.chip m) r.moments r.last

  -- The top of a pile means a port, which keeps or does not as is said, and is a new one: with the
  -- machine and the state that a run has, from the port under the layers that is at m.
  unfoldable pub PileMeaning : Bool → {M : Type 0} → List LayerKind → Bool → PortMachine M → M
      → Type 0
  PileMeaning keeps_top [] keeps port m = PortMeaning keeps_top class reset port × port.New m
  PileMeaning keeps_top (Keeper ∷ ls) keeps port m =
      PileMeaning keeps_top ls true (keeper_machine port keeps class reset) (new_keeper reset m)
  PileMeaning keeps_top (Deferral ∷ ls) keeps port m =
      PileMeaning keeps_top ls keeps (deferral_machine port keeps class) (new_deferral m)

  -- Over a bus: paging, which does not keep, and layers over it.
  module _ {M : Type 0} (bus : BusMachine M) where
    -- a run on a new pile over a bus that is at m
    abbrev pub bus_run : List LayerKind → List PortCall → M → PileRun
    bus_run ls cs m = pile_run ls false (paging_machine bus class) cs (new_paging m)

    -- Every run on every pile with a keeper, over every new bus, is an audited one, from the chip
    -- that the bus had to the chip that is left.
    abbrev pub EveryPileAudited : Type 0
    EveryPileAudited =
        (ls : List LayerKind) (cs : List PortCall) (m : M)
        → keep ls false ≡ true → CallsFit cs → bus.New m
        → let r = bus_run ls cs m in Audited class reset (bus.chip m) r.moments r.last

    -- The top of every pile over a new bus means a new port, which keeps exactly if a layer is a
    -- keeper.
    abbrev pub EveryPileMeaning : Type 0
    EveryPileMeaning =
        (ls : List LayerKind) (m : M) → bus.New m
        → PileMeaning (keep ls false) ls false (paging_machine bus class) (new_paging m)
