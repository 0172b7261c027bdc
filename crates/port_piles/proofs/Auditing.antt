-- Every pile means a port, and where that keeps, its runs are audited. Assumes nothing.
use Rattle.std.proofs.Common.{ℕ, Bool, true, false, List, [], ◌∷◌, refl}
use Rattle.chart.specs.Rules.{ChartRules}
use Rattle.chart.specs.declared.class.Class.{Class}
use Rattle.bus.specs.Meaning.{BusMachine, BusMeaning}
use Rattle.port.specs.Meaning.{PortMachine, PortMeaning}
use Rattle.port_paging_laws.specs.Machine.{new_paging, paging_machine}
use Rattle.port_paging_laws.proofs.PagingMeaning.{paging_meaning}
use Rattle.port_keeper_laws.specs.Machine.{new_keeper, keeper_machine}
use Rattle.port_keeper_laws.proofs.KeeperMeaning.{keeper_meaning}
use Rattle.port_deferral_laws.specs.Machine.{new_deferral, deferral_machine}
use Rattle.port_deferral_laws.proofs.DeferralMeaning.{deferral_meaning}
use Rattle.bench_call.specs.declared.PortCall.{PortCall}
use Rattle.bench_call.specs.declared.LayerKind.{LayerKind}
use Rattle.bench_call.specs.declared.LayerKind.TheVariants.{Keeper, Deferral}
use Rattle.port_ledger.specs.Fits.{CallsFit}
use Rattle.port_ledger.proofs.Auditing.{kept_audited}
use Rattle.port_piles.specs.Piles.{keep, pile_run, PileAudited, PileMeaning}
use Rattle.port_piles.specs.Piles.{EveryPileAudited, EveryPileMeaning}

module _ {count : ℕ} {class : ℕ → Class} {reset : ℕ → ℕ}
    (chart : ChartRules count class reset) where
  -- what layers over a port that has its meaning come to
  record Climbed {M : Type 0} (ls : List LayerKind) (keeps : Bool) (port : PortMachine M)
      : Type 0 where
    means : (m : M) → port.New m → PileMeaning class reset (keep ls keeps) ls keeps port m
    runs : (cs : List PortCall) (m : M) → CallsFit cs
        → PileAudited class reset ls keeps port cs m

  climbed : {M : Type 0} (ls : List LayerKind) (keeps : Bool) (port : PortMachine M)
      → PortMeaning keeps class reset port → Climbed ls keeps port
  unfolding PileMeaning PileAudited pile_run
  climbed [] keeps port meaning = record {
    means = λ m new. (meaning, new);
    runs = λ cs m fits is new. kept_audited keeps port meaning is m cs new fits;
  }
  climbed (Keeper ∷ ls) keeps port meaning =
      let top = keeper_machine port keeps class reset in
      let up = climbed ls true top (keeper_meaning chart keeps port meaning) in
      record {
        means = λ m new. up.means (new_keeper reset m) (new, refl);
        runs = λ cs m fits is new. up.runs cs (new_keeper reset m) fits is (new, refl);
      }
  climbed (Deferral ∷ ls) keeps port meaning =
      let top = deferral_machine port keeps class in
      let up = climbed ls keeps top (deferral_meaning keeps port meaning) in
      record {
        means = λ m new. up.means (new_deferral m) (new, refl);
        runs = λ cs m fits is new. up.runs cs (new_deferral m) fits is (new, refl);
      }

  module _ {M : Type 0} (base : BusMachine M) (bus : BusMeaning class reset base) where
    -- layers over paging
    over_paging : (ls : List LayerKind) → Climbed ls false (paging_machine base class)
    over_paging ls =
        climbed ls false (paging_machine base class) (paging_meaning chart base bus)

    pub every_pile_audited : EveryPileAudited class reset base
    unfolding PileAudited
    every_pile_audited ls cs m is fits new =
        (over_paging ls).runs cs (new_paging m) fits is (new, refl)

    pub every_pile_meaning : EveryPileMeaning class reset base
    every_pile_meaning ls m new = (over_paging ls).means (new_paging m) (new, refl)
