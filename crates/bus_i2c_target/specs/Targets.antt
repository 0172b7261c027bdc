-- The target's machine: what an event makes of its state, and of the chip's words. Assumes nothing.
use Rattle.std.specs.Prelude.{ℕ, ◌+◌, ◌*◌, ◌/◌, ◌%◌, Bool, if◌then◌else◌, List, [], ◌∷◌, ◌==◌}
use Rattle.chip.specs.Words.{load, store_all}
use Rattle.trace.specs.declared.event.Event.{Event}
use Rattle.trace.specs.declared.event.Event.TheVariants.{Start, Byte, Stop}
use Rattle.bus_i2c_target.specs.declared.target.State.{State}
use Rattle.bus_i2c_target.specs.declared.target.State.TheVariants.{Idle, Listening, Pointing, Ready}
use Rattle.bus_i2c_target.specs.declared.target.State.TheVariants.{Half, Giving, GivingLow}
use Rattle.bus_i2c_target.specs.declared.target.Target.{Target}

-- The address byte of a write is twice the address, that of a read one more. An address has seven
-- bits, so nothing is lost.
abbrev pub write_byte : ℕ → ℕ
write_byte a = a * 2 % 256

abbrev pub read_byte : ℕ → ℕ
read_byte a = a * 2 % 256 + 1

abbrev pub new_target : ℕ → Target
new_target a = record { address = a; state = Idle; pointer = 0 }

abbrev pub in_state : State → Target → Target
in_state s t = record { address = t.address; state = s; pointer = t.pointer }

-- a word is done: the pointer rises by one, modulo 64
abbrev pub advance : State → Target → Target
advance s t = record { address = t.address; state = s; pointer = (t.pointer + 1) % 64 }

-- the state after an address byte
abbrev pub address_state : ℕ → ℕ → State
address_state own b =
    if b == write_byte own then Pointing else if b == read_byte own then Giving else Idle

-- What a byte does in each state, where `a` says whether it was acknowledged. A byte that is sent
-- to the target and not acknowledged is dropped.
abbrev target_after_byte : State → ℕ → Bool → Target → Target
target_after_byte Idle v a t = t
target_after_byte Listening v a t = if a then in_state (address_state t.address v) t else t
target_after_byte Pointing v a t =
    if a then (record { address = t.address; state = Ready; pointer = v % 64 }) else t
target_after_byte Ready v a t = if a then in_state (Half v) t else t
target_after_byte (Half h) v a t = if a then advance Ready t else t
target_after_byte Giving v a t = in_state GivingLow t
target_after_byte GivingLow v a t = advance Giving t

-- a start leads to Listening and a stop to Idle from any state; both keep the pointer
abbrev pub target_after_event : Event → Target → Target
target_after_event Start t = in_state Listening t
target_after_event Stop t = in_state Idle t
target_after_event (Byte v a) t = target_after_byte t.state v a t

abbrev byte_stores : State → ℕ → Bool → Target → List (ℕ × ℕ)
byte_stores (Half h) v a t = if a then (t.pointer, h * 256 + v) ∷ [] else []
byte_stores _ v a t = []

-- the stores that an event makes the target do, each a raw address with its word: one where the low
-- byte of a word is acknowledged, else none
abbrev pub stores : Event → Target → List (ℕ × ℕ)
stores Start t = []
stores Stop t = []
stores (Byte v a) t = byte_stores t.state v a t

abbrev pub words_after_event : Event → Target → List ℕ → List ℕ
words_after_event e t ws = store_all ws (stores e t)

abbrev byte_in_state : State → ℕ → ℕ
byte_in_state Giving w = w / 256
byte_in_state GivingLow w = w % 256
byte_in_state _ w = 255

-- the byte that the target puts on the wire: of the word that is pointed at, or a line left high
abbrev pub byte_on_wire : Target → List ℕ → ℕ
byte_on_wire t ws = byte_in_state t.state (load ws t.pointer)
