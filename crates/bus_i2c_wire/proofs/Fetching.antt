-- A get's frame leads the target to the word that is pointed at. Assumes nothing.
use Rattle.std.proofs.Common.{◌≡◌, ℕ, ◌+◌, ◌-◌, ◌*◌, ◌/◌, ◌%◌, true, false, [], ◌∷◌, ap, ◌∙◌, ap₂}
use Rattle.std.proofs.Common.{arith}
use Rattle.std.proofs.lemmas.Nat.{div-add-mod'}
use Rattle.std.proofs.lemmas.Bool.Decides.{nat_tests}
use Rattle.chip.specs.Words.{load}
use Rattle.trace.specs.declared.event.Event.TheVariants.{Start, Byte}
use Rattle.bus_i2c_target.specs.declared.target.State.TheVariants.{Giving}
use Rattle.bus_i2c_target.specs.Targets.{write_byte, read_byte, target_after_event}
use Rattle.bus_i2c_target.specs.Targets.{words_after_event, byte_on_wire}
use Rattle.bus_i2c_wire.specs.Frames.{Wired, pass, carry, byte_events, is_good, fetch_events}

module _ (w : Wired) (raw mark : ℕ) (two : is_good mark 2 ≡ true)
    (one : is_good (mark - 2) 1 ≡ true)
  where
    abbrev own : ℕ
    own = w.target.address

    abbrev word : ℕ
    word = load w.words (raw % 64)

    abbrev before : Wired
    before = carry (byte_events (write_byte own ∷ raw ∷ []) mark) (pass Start w)

    -- the wire when the target is to give the word
    abbrev pub asked : Wired
    asked = carry (byte_events (read_byte own ∷ []) (mark - 2)) (pass Start before)

    asked_target : asked.target ≡ record { address = own; state = Giving; pointer = raw % 64 }
    asked_target = grind (arith, nat_tests)

    asked_words : asked.words ≡ w.words
    asked_words = grind (arith, nat_tests)

    gives_high : byte_on_wire asked.target asked.words ≡ word / 256
    gives_high = ap₂ byte_on_wire asked_target asked_words

    gives_low : (h : ℕ)
        → byte_on_wire (pass (Byte h true) asked).target (pass (Byte h true) asked).words
        ≡ word % 256
    gives_low h =
        ap₂ (λ t ws. byte_on_wire (target_after_event (Byte h true) t)
        (words_after_event (Byte h true) t ws))
        asked_target asked_words

    fetched : pass (Byte (word % 256) false) (pass (Byte (word / 256) true) asked)
        ≡ carry (fetch_events own raw word mark) w
    fetched = grind (arith, nat_tests)

    -- two bytes that are taken then are the word's, and complete the frame
    pub taken : {high low : ℕ} {u v v' : Wired} → u ≡ asked → high ≡ byte_on_wire u.target u.words
        → v ≡ pass (Byte high true) u
        → low ≡ byte_on_wire v.target v.words → v' ≡ pass (Byte low false) v
        → (high * 256 + low ≡ word) × (v' ≡ carry (fetch_events own raw word mark) w)
    taken {high = high} ready h took_h l took_l =
        let gives : Wired → ℕ = λ v. byte_on_wire v.target v.words in
        let h' = h ∙ ap gives ready ∙ gives_high in
        let took = took_h ∙ ap (pass (Byte high true)) ready in
        let l' = l ∙ ap gives took ∙ gives_low high in
        (rw (h', l') (div-add-mod' word 256), rw (took_l, took, l', h') fetched)

    pub good_get : is_good mark 3 ≡ true
    good_get = grind (arith, nat_tests)
