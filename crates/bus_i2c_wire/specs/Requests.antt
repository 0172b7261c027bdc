-- What a transfer asks of a target, and what a target makes of it. Assumes nothing.
use Rattle.std.specs.Prelude.{◌≡◌, ◌≢◌, ℕ, ◌+◌, ◌<◌, ◌≤◌, ◌↔◌, IsTrue, Some, None, Option}
use Rattle.std.specs.Prelude.{Bool, true, false, if◌then◌else◌, List, [], ◌∷◌, ◌++◌, map, length}
use Rattle.trace.specs.declared.event.Event.{Event}
use Rattle.trace.specs.declared.event.Event.TheVariants.{Start}
use Rattle.bus_i2c_target.specs.declared.target.State.{State}
use Rattle.bus_i2c_target.specs.declared.target.State.TheVariants.{Idle, Ready, Giving}
use Rattle.bus_i2c_target.specs.declared.target.Target.{Target}
use Rattle.bus_i2c_target.specs.Targets.{read_byte, in_state, target_after_event}
use Rattle.chip.specs.Words.{rising_words}
use Rattle.bus_i2c_wire.specs.Frames.{byte_events, put_bytes, stores_in}

-- What is put in at the controller's end: to which address, whether it reads, at which raw address,
-- and the words that it writes.
pub record Request : Type 0 where
  pub address : ℕ
  pub reads : Bool
  pub raw : ℕ
  pub words : List ℕ

abbrev pub get_request : ℕ → ℕ → Request
get_request a raw = record { address = a; reads = true; raw = raw; words = [] }

abbrev pub put_request : ℕ → ℕ → List ℕ → Request
put_request a raw ws = record { address = a; reads = false; raw = raw; words = ws }

-- An address has seven bits, and what is read or written lies below raw address 64. A request that
-- reads has no words, and any other has some.
pub record IsSendable (q : Request) : Type 0 where
  pub address : q.address < 128
  pub raw : q.raw < 64
  pub end : q.raw + length q.words ≤ 64
  pub words : IsTrue q.reads ↔ (q.words ≡ [])

-- the events of a good transfer up to the last byte that the controller sends: all bytes of a put,
-- and where it reads a repeated start and the address to read from
abbrev pub request_events : Request → List Event
request_events q =
    Start ∷ (byte_events (put_bytes q.address q.raw q.words) 0
    ++ (if q.reads then Start ∷ byte_events (read_byte q.address ∷ []) 0 else []))

-- what a target has become when events have passed
abbrev pub target_after : List Event → Target → Target
target_after [] t = t
target_after (e ∷ es) t = target_after es (target_after_event e t)

-- by the state that the target is in
abbrev pub taken_in : State → Target → List (ℕ × ℕ) → Option Request
taken_in Giving t [] = Some (get_request t.address t.pointer)
taken_in Ready t (s ∷ more) = Some (put_request t.address s.0 (s.1 ∷ map (λ m. m.1) more))
taken_in _ t stored = None

-- What a target has taken out of events, by what they made it store and become: it is to give the
-- word that it points at, or has stored words and is ready for more. Else it took nothing out.
abbrev pub taken_out : List Event → Target → Option Request
taken_out es t = let now = target_after es t in taken_in now.state now (stores_in es t)

-- A request arrives: the chip's end takes out what was put in at the other end, whatever state a
-- target was in.
pub record Arrives (q : Request) (es : List Event) : Type 0 where
  -- the frame begins with the events that ask for the request
  pub begins : (rest : List Event) × (es ≡ request_events q ++ rest)
  -- from those the target that has the address takes out the request
  pub taken : IsSendable q → (t : Target) → t.address ≡ q.address
      → taken_out (request_events q) t ≡ Some q
  -- It stores the words that are written, each one raw address above the one before it, and nothing
  -- where the request reads;
  pub stores : IsSendable q → (t : Target) → t.address ≡ q.address
      → stores_in (request_events q) t ≡ rising_words q.raw q.words
  -- and then it is Giving, and points at the raw address.
  pub gives : IsSendable q → (t : Target) → t.address ≡ q.address → IsTrue q.reads
      → target_after (request_events q) t
      ≡ record { address = q.address; state = Giving; pointer = q.raw }
  -- every other target stores nothing and is Idle
  pub others : IsSendable q → (t : Target) → t.address < 128 → t.address ≢ q.address
      → (stores_in (request_events q) t ≡ [])
      × (target_after (request_events q) t ≡ in_state Idle t)
