-- The plain ledger. It is told each call and whether a transfer failed in it, and nothing else.
-- Assumes nothing.
use Rattle.std.specs.Prelude.{ℕ, Bool, true, false, not, if◌then◌else◌, ◌&&◌, List, [], ◌∷◌, Some}
use Rattle.std.specs.Prelude.{None, Option}
use Rattle.patch.specs.Patch.{word_after, patch_of}
use Rattle.refusal.specs.Replies.{Reply, acceptance, refusal_of}
use Rattle.chart.specs.declared.class.Class.{Class}
use Rattle.chart.specs.declared.class.Class.TheVariants.{Absent, Setting, Live}
use Rattle.bus.specs.Checks.{unless}
use Rattle.port.specs.Views.{with_word_at}
use Rattle.bench_call.specs.declared.PortCall.{PortCall}
use Rattle.bench_call.specs.declared.PortCall.TheVariants.{Read, Update, Sync, Measure, Down, Up}
use Rattle.port_ledger.specs.Moments.{Moment, transfer_failed}

-- the word that each setting is due, the live words, and whether the supply is on
pub record Ledger : Type 0 where
  pub due : ℕ → ℕ
  pub live : ℕ → ℕ
  pub supply : Bool

-- before the first call
abbrev pub new_ledger : (ℕ → ℕ) → Ledger
new_ledger reset = record { due = reset; live = λ _. 0; supply = true }

-- refused with this number where it applies
abbrev pub when : Bool → ℕ → Option Reply
when applies number = if applies then Some (refusal_of number []) else None

abbrev pub or_else : Option Reply → Option Reply → Option Reply
or_else (Some r) next = Some r
or_else None next = next

-- by what its number names: nothing is there, a live register is not updated, and a setting is not
-- measured
abbrev pub read_refusal : Class → Option Reply
read_refusal Absent = Some (refusal_of 2 [])
read_refusal Setting = None
read_refusal Live = None

abbrev pub update_refusal : Class → Option Reply
update_refusal Absent = Some (refusal_of 2 [])
update_refusal Setting = None
update_refusal Live = Some (refusal_of 3 [])

abbrev pub measure_refusal : Class → Option Reply
measure_refusal Absent = Some (refusal_of 2 [])
measure_refusal Setting = Some (refusal_of 4 [])
measure_refusal Live = None

abbrev pub name_refusal : (ℕ → Class) → PortCall → Option Reply
name_refusal class (Read n) = read_refusal (class n)
name_refusal class (Update n mask bits) = update_refusal (class n)
name_refusal class (Measure n w) = measure_refusal (class n)
name_refusal class _ = None

abbrev pub is_live : Class → Bool
is_live Absent = false
is_live Setting = false
is_live Live = true

-- a sync, and a read of a live register: only the chip can answer them
abbrev pub needs_supply : (ℕ → Class) → PortCall → Bool
needs_supply class (Read n) = is_live (class n)
needs_supply class Sync = true
needs_supply class _ = false

-- these, and updates, may need the line
abbrev pub uses_line : (ℕ → Class) → PortCall → Bool
uses_line class (Update n mask bits) = true
uses_line class c = needs_supply class c

-- the first refusal that fits, if one does
abbrev pub refusal : (ℕ → Class) → Ledger → PortCall → Bool → Option Reply
refusal class l c failed =
    or_else (name_refusal class c)
    (or_else (when (needs_supply class c && not l.supply) 5)
    (when (uses_line class c && failed) 6))

-- what an accepted call answers
abbrev pub ledger_answer : (ℕ → Class) → Ledger → PortCall → List ℕ
ledger_answer class l (Read n) = (if is_live (class n) then l.live n else l.due n) ∷ []
ledger_answer class l _ = []

-- what an accepted call changes in it
abbrev pub posting : Ledger → PortCall → Ledger
posting l (Update n mask bits) =
    record l { due = with_word_at n (word_after (patch_of mask bits) (l.due n)) l.due }
posting l (Measure n w) =
    record l { live = if l.supply then with_word_at n w l.live else l.live }
posting l Down = record l { live = λ _. 0; supply = false }
posting l Up = record l { supply = true }
posting l _ = l

-- its reply to a call, and the ledger after it: a refusal changes nothing
abbrev pub booking : (ℕ → Class) → Ledger → PortCall → Bool → Reply × Ledger
booking class l c failed =
    unless (refusal class l c failed) l (acceptance (ledger_answer class l c), posting l c)

-- the ledger after some calls
abbrev pub ledger_after : (ℕ → Class) → Ledger → List Moment → Ledger
ledger_after class l [] = l
ledger_after class l (m ∷ ms) = ledger_after class (booking class l m.call (transfer_failed m)).1 ms
