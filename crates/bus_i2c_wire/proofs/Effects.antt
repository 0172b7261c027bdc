-- What the frames of a put and of a get leave of the chip's words. Assumes nothing.
use Rattle.std.proofs.Common.{◌≡◌, ℕ, ◌+◌, ◌≤◌, List, [], ◌∷◌, ◌++◌, length, take, sym, refl, ap}
use Rattle.std.proofs.Common.{◌∙◌, arith}
use Rattle.std.proofs.lemmas.Bool.Decides.{nat_tests}
use Rattle.chip.specs.Words.{store, rising_words, store_all}
use Rattle.trace.specs.declared.event.Event.{Event}
use Rattle.bus_i2c_target.specs.declared.target.State.TheVariants.{Listening}
use Rattle.bus_i2c_target.specs.declared.target.Target.{Target}
use Rattle.bus_i2c_target.specs.Targets.{in_state, stores, target_after_event}
use Rattle.bus_i2c_wire.specs.Frames.{Wired, pass, carry, byte_events, fetch_events, get_frame}
use Rattle.bus_i2c_wire.specs.Frames.{put_bytes}
use Rattle.bus_i2c_wire.specs.Frames.{put_frame, stores_in, whole_words, Untouched}
use Rattle.bus_i2c_wire.proofs.Recovering.{caught_stop, own_catches}

all_stored-append : (ws : List ℕ) (ps qs : List (ℕ × ℕ))
    → store_all ws (ps ++ qs) ≡ store_all (store_all ws ps) qs
all_stored-append ws [] qs = refl
all_stored-append ws (p ∷ ps) qs = all_stored-append (store ws p.0 p.1) ps qs

-- the words change by what the target stores, and by nothing else
carried_words : (es : List Event) (w : Wired)
    → (carry es w).words ≡ store_all w.words (stores_in es w.target)
carried_words [] w = refl
carried_words (e ∷ es) w =
    carried_words es (pass e w)
    ∙ sym (all_stored-append w.words (stores e w.target)
    (stores_in es (target_after_event e w.target)))

pub put_words : (w : Wired) (raw mark : ℕ) (ws : List ℕ) → raw + length ws ≤ 64
    → (carry (put_frame w.target.address raw ws mark) w).words
    ≡ store_all w.words (rising_words raw (take (whole_words mark (length ws)) ws))
put_words w raw mark ws h =
    carried_words (put_frame w.target.address raw ws mark) w
    ∙ ap (store_all w.words)
    (caught_stop (byte_events (put_bytes w.target.address raw ws) mark)
    (in_state Listening w.target)
    ∙ own_catches w.target raw mark ws h)

-- no target stores anything in a get
get_catches : (a : ℕ) (t : Target) (raw x mark : ℕ) → stores_in (fetch_events a raw x mark) t ≡ []
get_catches a t raw x mark = grind (arith, nat_tests)

pub untouched : (a raw x mark : ℕ) → Untouched a raw x mark
untouched a raw x mark t = caught_stop (fetch_events a raw x mark) t ∙ get_catches a t raw x mark

pub get_words : (w : Wired) (raw x mark : ℕ)
    → (carry (get_frame w.target.address raw x mark) w).words ≡ w.words
get_words w raw x mark =
    carried_words (get_frame w.target.address raw x mark) w
    ∙ ap (store_all w.words) (untouched w.target.address raw x mark w.target)
