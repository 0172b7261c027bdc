-- What is refused before anything is sent, the first in order. Assumes nothing.
use Rattle.std.specs.Prelude.{ℕ, ◌+◌, Bool, if◌then◌else◌, ◌||◌, [], Some, None, Option, ◌==◌}
use Rattle.std.specs.Prelude.{nat_lt, List, Ok, Err, Result}
use Rattle.refusal.specs.Replies.{Reply, refusal_of, reply_of}
use Rattle.chart.specs.declared.class.Class.{Class}
use Rattle.chart.specs.declared.class.Class.TheVariants.{Absent, Setting, Live}
use Rattle.refusal.specs.declared.refusal.Refusal.{Refusal}

-- the supply is off
abbrev pub awake_check : Bool → Option Reply
awake_check supply = if supply then None else Some (refusal_of 5 [])

-- one call carries 1 to 16 words
abbrev pub length_check : ℕ → Option Reply
length_check n = if n == 0 || nat_lt 16 n then Some (refusal_of 1 []) else None

abbrev pub get_check : ℕ → Bool → Option Reply
get_check raw supply = if nat_lt 63 raw then Some (refusal_of 2 []) else awake_check supply

-- a put of n words
abbrev pub put_check : ℕ → ℕ → Bool → Option Reply
put_check raw n supply =
    if n == 0 || nat_lt 16 n then Some (refusal_of 1 [])
    else if nat_lt 64 (raw + n) then Some (refusal_of 2 [])
    else awake_check supply

abbrev pub measure_check : Class → Option Reply
measure_check Absent = Some (refusal_of 2 [])
measure_check Setting = Some (refusal_of 4 [])
measure_check Live = None

-- the refusal that a check answered, if it answered one
abbrev pub check_reply : {F : Type 0} → (F → List ℕ) → Result (Unit {0}) (Refusal F) → Option Reply
check_reply tells (Ok _) = None
check_reply tells (Err e) = Some (reply_of tells e)

-- a refusal changes nothing; else the call goes on
abbrev pub unless : {M : Type 0} → Option Reply → M → Reply × M → Reply × M
unless (Some r) m go = (r, m)
unless None m go = go
