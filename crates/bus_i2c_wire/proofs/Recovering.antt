-- What a put's frame makes of any target. Assumes nothing.
use Rattle.std.proofs.Common.{◌≡◌, ℕ, suc, ◌+◌, ◌-◌, ◌*◌, ◌/◌, ◌%◌, ◌<◌, ◌≤◌, true, false, cond}
use Rattle.std.proofs.Common.{eqb, List, [], ◌∷◌, ◌++◌, length, take, refl, ap, ◌∙◌, ⊎_elim, arith}
use Rattle.std.proofs.lemmas.Nat.{div-add-mod'}
use Rattle.std.proofs.lemmas.Bool.{cases_Bool, eqb-false}
use Rattle.std.proofs.lemmas.Bool.Decides.{nat_tests}
use Rattle.chip.specs.Words.{rising_words}
use Rattle.trace.specs.declared.event.Event.{Event}
use Rattle.trace.specs.declared.event.Event.TheVariants.{Stop}
use Rattle.bus_i2c_target.specs.declared.target.State.TheVariants.{Idle, Listening, Ready}
use Rattle.bus_i2c_target.specs.declared.target.Target.{Target}
use Rattle.bus_i2c_target.specs.Targets.{write_byte, read_byte, in_state, stores}
use Rattle.bus_i2c_target.specs.Targets.{target_after_event}
use Rattle.bus_i2c_wire.specs.Frames.{byte_events, is_good, word_bytes, put_bytes, stores_in}
use Rattle.bus_i2c_wire.specs.Frames.{whole_words, Recovered}

-- a stop stores nothing
pub caught_stop : (es : List Event) (t : Target) → stores_in (es ++ (Stop ∷ [])) t ≡ stores_in es t
caught_stop [] t = refl
caught_stop (e ∷ es) t = ap (λ ps. stores e t ++ ps) (caught_stop es (target_after_event e t))

-- an idle target takes no part
idle_catches : (bs : List ℕ) (mark : ℕ) (t : Target)
    → stores_in (byte_events bs mark) (in_state Idle t) ≡ []
idle_catches [] mark t = refl
idle_catches (b ∷ bs) mark t =
    ⊎_elim (λ e. rw e) (λ e. rw e (idle_catches bs (mark - 1) t)) (cases_Bool (eqb mark 1))

-- of n words, those that a mark lets through where their first byte is the first to be acknowledged
abbrev words_in : ℕ → ℕ → ℕ
words_in mark n = cond (is_good mark (2 * n)) n ((mark - 1) / 2)

abbrev pub ready : ℕ → ℕ → Target
ready a p = record { address = a; state = Ready; pointer = p % 64 }

-- a target that is ready stores each word whose low byte is acknowledged
words_caught : (ws : List ℕ) (a p mark : ℕ) → p + length ws ≤ 64
    → stores_in (byte_events (word_bytes ws) mark) (ready a p)
    ≡ rising_words p (take (words_in mark (length ws)) ws)
words_caught [] a p mark h = let none : words_in mark 0 ≡ 0 = grind (arith, nat_tests) in rw none
words_caught (v ∷ vs) a p mark h =
    ⊎_elim high
    (λ e. ⊎_elim (low e) (both (words_caught vs a (p + 1) (mark - 1 - 1) (omega arith)) e)
    (cases_Bool (eqb (mark - 1) 1))) (cases_Bool (eqb mark 1))
  where
    Goal : Type 0
    Goal = stores_in (byte_events (word_bytes (v ∷ vs)) mark) (ready a p)
        ≡ rising_words p (take (words_in mark (suc (length vs))) (v ∷ vs))

    -- not acknowledged is the high byte, the low byte, or neither
    high : eqb mark 1 ≡ true → Goal
    high e = grind (arith, nat_tests)

    low : eqb mark 1 ≡ false → eqb (mark - 1) 1 ≡ true → Goal
    low e f = grind (arith, nat_tests)

    both : stores_in (byte_events (word_bytes vs) (mark - 1 - 1)) (ready a (p + 1))
        ≡ rising_words (p + 1) (take (words_in (mark - 1 - 1) (length vs)) vs) → eqb mark 1 ≡ false
        → eqb (mark - 1) 1 ≡ false → Goal
    both rest e f =
        let more : words_in mark (suc (length vs)) ≡ suc (words_in (mark - 1 - 1) (length vs)) =
        grind (arith, nat_tests) in
        let next : (p % 64 + 1) % 64 ≡ (p + 1) % 64 = omega arith in
        let here : p % 64 ≡ p = omega arith in
        rw (more, e, f, next, here, div-add-mod' v 256) (ap (λ ps. (p, v) ∷ ps) rest)

-- a target whose own address is sent
pub own_catches : (t : Target) (raw mark : ℕ) (ws : List ℕ) → raw + length ws ≤ 64
    → stores_in (byte_events (put_bytes t.address raw ws) mark) (in_state Listening t)
    ≡ rising_words raw (take (whole_words mark (length ws)) ws)
own_catches t raw mark ws h =
    let rest = words_caught ws t.address raw (mark - 1 - 1) h in
    grind (arith, nat_tests)

-- a target that another address is sent to; no address to write to is one to read from
pub other_catches : (t : Target) (a raw mark : ℕ) (ws : List ℕ)
    → a < 128 → t.address < 128 → (t.address ≡ a → ⊥)
    → stores_in (byte_events (put_bytes a raw ws) mark) (in_state Listening t) ≡ []
other_catches t a raw mark ws ha ht ne =
    let no_write : (write_byte a ≡ write_byte t.address → ⊥) = λ same. ne (omega arith) in
    let no_read : (write_byte a ≡ read_byte t.address → ⊥) = λ same. omega arith in
    let rest = idle_catches (raw ∷ word_bytes ws) (mark - 1) t in
    grind (arith, nat_tests)

pub recovered : (a raw : ℕ) (ws : List ℕ) (mark : ℕ) → Recovered a raw ws mark
recovered a raw ws mark t ha ht h =
    caught_stop (byte_events (put_bytes a raw ws) mark) (in_state Listening t)
    ∙ ⊎_elim
    (λ e. let own = own_catches t raw mark ws h in grind arith)
    (λ e. let other = other_catches t a raw mark ws ha ht (eqb-false t.address a e) in grind arith)
    (cases_Bool (eqb t.address a))

pub length-put_bytes : (a raw : ℕ) (ws : List ℕ) → length (put_bytes a raw ws) ≡ 2 + 2 * length ws
length-put_bytes a raw [] = refl
length-put_bytes a raw (w ∷ ws) = omega (arith, length-put_bytes a raw ws)
