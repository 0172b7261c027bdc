-- The frames of the I2C-bus, event by event, and how they pass. Assumes nothing.
use Rattle.std.specs.Prelude.{◌≡◌, ℕ, ◌+◌, ◌-◌, ◌*◌, ◌/◌, ◌%◌, ◌<◌, ◌≤◌, Bool, true, false}
use Rattle.std.specs.Prelude.{if◌then◌else◌, ◌||◌, List, [], ◌∷◌, ◌++◌, length, take, Ok, Err}
use Rattle.std.specs.Prelude.{Result, ◌==◌, nat_lt, slice_set}
use Rattle.refusal.specs.Replies.{Reply, acceptance, refusal_of, cause_number}
use Rattle.refusal.specs.declared.refusal.Cause.{Cause}
use Rattle.refusal.specs.declared.refusal.Cause.TheVariants.{Address, Data}
use Rattle.chip.specs.Words.{load, rising_words, fresh_words}
use Rattle.bus_i2c_target.specs.Targets.{write_byte, read_byte, new_target, target_after_event}
use Rattle.bus_i2c_target.specs.Targets.{stores, words_after_event}
use Rattle.trace.specs.Traces.{Traced, with_event}
use Rattle.trace.specs.declared.event.Event.{Event}
use Rattle.trace.specs.declared.event.Event.TheVariants.{Start, Byte, Stop}
use Rattle.bus_i2c_target.specs.declared.target.Target.{Target}

-- the bytes of words, each high byte first
abbrev pub word_bytes : List ℕ → List ℕ
word_bytes [] = []
word_bytes (w ∷ ws) = w / 256 ∷ w % 256 ∷ word_bytes ws

-- A mark is good for n bytes that the target must acknowledge: it names none of them.
abbrev pub is_good : ℕ → ℕ → Bool
is_good mark n = mark == 0 || nat_lt n mark

-- what a transfer under a mark answers in which the target must acknowledge n bytes: v, or why it
-- failed
abbrev pub answer : {T : Type 0} → ℕ → ℕ → T → Cause → Result T Cause
answer mark n v cause = if is_good mark n then Ok v else Err cause

-- and its reply, with these values where it is good
abbrev pub transfer_reply : ℕ → ℕ → List ℕ → Cause → Reply
transfer_reply mark n vs cause =
    if is_good mark n then acceptance vs else refusal_of 6 (cause_number cause ∷ [])

-- A put has an address in its first byte, a get in its first and its third.
abbrev pub cause_of_put : ℕ → Cause
cause_of_put mark = if mark == 1 then Address else Data

abbrev pub cause_of_get : ℕ → Cause
cause_of_get mark = if mark == 2 then Data else Address

-- Bytes to the target: it acknowledges each but the one that the mark names, by counting from 1,
-- and no byte is sent after that one.
abbrev pub byte_events : List ℕ → ℕ → List Event
byte_events [] mark = []
byte_events (b ∷ bs) mark =
    if mark == 1 then Byte b false ∷ [] else (Byte b true ∷ byte_events bs (mark - 1))

-- the bytes that lead the target to a raw address: its address to write to, and the raw address
abbrev pub head_bytes : ℕ → ℕ → List ℕ
head_bytes a raw = write_byte a ∷ raw ∷ []

-- the bytes of a put: address, raw address, words
abbrev pub put_bytes : ℕ → ℕ → List ℕ → List ℕ
put_bytes a raw ws = head_bytes a raw ++ word_bytes ws

-- a put: start, address, raw address, the words, stop
abbrev pub put_frame : ℕ → ℕ → List ℕ → ℕ → List Event
put_frame a raw ws mark = Start ∷ (byte_events (put_bytes a raw ws) mark ++ (Stop ∷ []))

-- a get's second part: repeated start, address to read from, and if that is acknowledged the word's
-- two bytes, of which the controller acknowledges but the first
abbrev pub read_events : ℕ → ℕ → ℕ → List Event
read_events a w mark =
    Start ∷ (byte_events (read_byte a ∷ []) mark
    ++ (if is_good mark 1 then Byte (w / 256) true ∷ Byte (w % 256) false ∷ [] else []))

-- a get up to its last byte: start, address, raw address, and if both are acknowledged the second
-- part
abbrev pub fetch_events : ℕ → ℕ → ℕ → ℕ → List Event
fetch_events a raw w mark =
    Start ∷ (byte_events (head_bytes a raw) mark
    ++ (if is_good mark 2 then read_events a w (mark - 2) else []))

-- a get that delivers the word w
abbrev pub get_frame : ℕ → ℕ → ℕ → ℕ → List Event
get_frame a raw w mark = fetch_events a raw w mark ++ (Stop ∷ [])

-- the wire with the chip at its end: the target, the chip's words, and the trace of what passed
pub record Wired : Type 0 where
  pub target : Target
  pub words : List ℕ
  pub trace : Traced

abbrev pub wire_of : Target → List ℕ → Traced → Wired
wire_of t ws tr = record { target = t; words = ws; trace = tr }

-- the address of the target, and the word that it has at a raw address
abbrev pub own_address : Wired → ℕ
own_address w = w.target.address

abbrev pub pointed_word : Wired → ℕ → ℕ
pointed_word w raw = load w.words (raw % 64)

abbrev pub new_wired : (ℕ → ℕ) → ℕ → Traced → Wired
new_wired reset a tr = wire_of (new_target a) (fresh_words reset 129) tr

abbrev pub with_register : ℕ → ℕ → Wired → Wired
with_register n v w = record w { words = slice_set w.words n v }

-- one event passes: the target hears it, and it is traced
abbrev pub pass : Event → Wired → Wired
pass e w =
    wire_of (target_after_event e w.target) (words_after_event e w.target w.words)
    (with_event e w.trace)

-- a list of events passes
abbrev pub carry : List Event → Wired → Wired
carry [] w = w
carry (e ∷ es) w = carry es (pass e w)

-- what a target stores while events pass
abbrev pub stores_in : List Event → Target → List (ℕ × ℕ)
stores_in [] t = []
stores_in (e ∷ es) t = stores e t ++ stores_in es (target_after_event e t)

-- of n words, those whose low byte was acknowledged
abbrev pub whole_words : ℕ → ℕ → ℕ
whole_words mark n = if is_good mark (2 + 2 * n) then n else ((mark - 3) / 2)

-- The chip's end recovers what the controller's end put in: of all targets, in whatever state, the
-- one that has the address stores the words, from the raw address upwards, and the others store
-- nothing.
abbrev pub Recovered : ℕ → ℕ → List ℕ → ℕ → Type 0
Recovered a raw ws mark =
    (t : Target) → a < 128 → t.address < 128 → raw + length ws ≤ 64
    → stores_in (put_frame a raw ws mark) t
    ≡ (if t.address == a then rising_words raw (take (whole_words mark (length ws)) ws) else [])

-- A get stores nothing in any target, whatever its state and its address.
abbrev pub Untouched : ℕ → ℕ → ℕ → ℕ → Type 0
Untouched a raw w mark = (t : Target) → stores_in (get_frame a raw w mark) t ≡ []
