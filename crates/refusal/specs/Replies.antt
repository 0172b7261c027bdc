-- What a call answers, as a number and its values. Assumes nothing.
use Rattle.std.specs.Prelude.{ℕ, List, [], ◌∷◌, Ok, Err, Result}
use Rattle.refusal.specs.declared.refusal.Refusal.{Refusal}
use Rattle.refusal.specs.declared.refusal.Refusal.TheVariants.{Length, Register, Live, Setting}
use Rattle.refusal.specs.declared.refusal.Refusal.TheVariants.{Asleep, Line, Address, Memory}
use Rattle.refusal.specs.declared.refusal.Cause.{Cause}
use Rattle.refusal.specs.declared.refusal.Cause.TheVariants as cause
use Rattle.refusal.specs.declared.refusal.Failure.{Failure}
use Rattle.refusal.specs.declared.refusal.Errand.{Errand}
use Rattle.refusal.specs.declared.refusal.Errand.TheVariants.{Asked, Owed}
use Rattle.refusal.specs.declared.refusal.Fault.{Fault}

-- Number 0 is an acceptance, with what was answered; any other is a refusal, with what it tells.
pub record Reply : Type 0 where
  pub number : ℕ
  pub values : List ℕ

abbrev pub acceptance : List ℕ → Reply
acceptance vs = record { number = 0; values = vs }

abbrev pub refusal_of : ℕ → List ℕ → Reply
refusal_of n vs = record { number = n; values = vs }

-- every refusal's number and values, where tells gives those of a failed transfer
abbrev pub reply_of : {F : Type 0} → (F → List ℕ) → Refusal F → Reply
reply_of tells Length = refusal_of 1 []
reply_of tells Register = refusal_of 2 []
reply_of tells Live = refusal_of 3 []
reply_of tells Setting = refusal_of 4 []
reply_of tells Asleep = refusal_of 5 []
reply_of tells (Line f) = refusal_of 6 (tells f)
reply_of tells Address = refusal_of 7 []
reply_of tells Memory = refusal_of 8 []

-- an address byte was not acknowledged, or another byte
abbrev pub cause_number : Cause → ℕ
cause_number cause.Address = 1
cause_number cause.Data = 2

-- on a bus: the cause, and the words that were stored
abbrev pub failure_values : Failure → List ℕ
failure_values f = cause_number f.cause ∷ f.stored ∷ []

-- 0 for what the call asked for, 1 for what was owed from before
abbrev pub errand_number : Errand → ℕ
errand_number Asked = 0
errand_number Owed = 1

-- on a port: the cause, the register that was not reached, and the errand
abbrev pub fault_values : Fault → List ℕ
fault_values f = cause_number f.cause ∷ f.register ∷ errand_number f.errand ∷ []

-- The reply of a call, where shown gives the values of an acceptance, and tells those of a failed
-- transfer.
abbrev pub reply_by : {T F : Type 0} → (F → List ℕ) → (T → List ℕ) → Result T (Refusal F) → Reply
reply_by tells shown (Ok v) = acceptance (shown v)
reply_by tells shown (Err e) = reply_of tells e

-- of a bus
abbrev pub bus_reply : {T : Type 0} → (T → List ℕ) → Result T (Refusal Failure) → Reply
bus_reply shown r = reply_by failure_values shown r

-- of a port
abbrev pub port_reply : {T : Type 0} → (T → List ℕ) → Result T (Refusal Fault) → Reply
port_reply shown r = reply_by fault_values shown r

-- of one transfer on a wire, of which nothing but the cause is known where it failed
abbrev pub wire_reply : {T : Type 0} → (T → List ℕ) → Result T Cause → Reply
wire_reply shown (Ok v) = acceptance (shown v)
wire_reply shown (Err c) = refusal_of 6 (cause_number c ∷ [])

-- the values of an answered word, and of an answer that says no more than yes
abbrev pub word_value : ℕ → List ℕ
word_value w = w ∷ []

abbrev pub no_value : {T : Type 0} → T → List ℕ
no_value _ = []
