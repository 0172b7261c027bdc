-- What a call on a port is refused for before anything is sent, the first in order; and that a
-- refusal ends a call. Assumes nothing.
use Rattle.std.specs.Prelude.{ℕ, zero, suc, ◌+◌, Bool, if◌then◌else◌, ◌||◌, List, [], ◌∷◌}
use Rattle.std.specs.Prelude.{Some, Option, ◌==◌, nat_lt}
use Rattle.refusal.specs.Replies.{Reply, acceptance, refusal_of}
use Rattle.chart.specs.declared.class.Class.{Class}
use Rattle.chart.specs.declared.class.Class.TheVariants.{Absent, Setting, Live}
use Rattle.bus.specs.Checks.{awake_check}

-- A port that keeps its settings answers for them with the supply off too; a live register is the
-- chip's alone.
abbrev pub read_check : Bool → Class → Bool → Option Reply
read_check keeps Absent on = Some (refusal_of 2 [])
read_check keeps Setting on = awake_check (keeps || on)
read_check keeps Live on = awake_check on

abbrev pub update_check : Bool → Class → Bool → Option Reply
update_check keeps Absent on = Some (refusal_of 2 [])
update_check keeps Setting on = awake_check (keeps || on)
update_check keeps Live on = Some (refusal_of 3 [])

-- of two classes the one whose refusal wins
abbrev pub worse : Class → Class → Class
worse Absent c = Absent
worse Setting c = c
worse Live Absent = Absent
worse Live Setting = Live
worse Live Live = Live

-- the worst class among n registers from the first on
abbrev pub worst : (ℕ → Class) → ℕ → ℕ → Class
worst class first zero = Setting
worst class first (suc n) = worse (worst class first n) (class (first + n))

-- a run of n words is refused as an update of its worst register is
abbrev pub run_check : Bool → (ℕ → Class) → ℕ → ℕ → Bool → Option Reply
run_check keeps class first n on =
    if n == 0 || nat_lt 16 n then Some (refusal_of 1 [])
    else update_check keeps (worst class first n) on

abbrev pub is_accepted : Reply → Bool
is_accepted r = r.number == 0

-- the second part of a call follows where the first was accepted
abbrev pub onward : {M : Type 0} → Reply × M → (M → Reply × M) → Reply × M
onward p next = if is_accepted p.0 then next p.1 else p

-- the parts of a call, one after the other, up to the first that is refused
abbrev pub in_turn : {A M : Type 0} → (M → A → Reply × M) → List A → M → Reply × M
in_turn send [] m = (acceptance [], m)
in_turn send (a ∷ more) m = onward (send m a) (in_turn send more)
