-- The chip's end takes out what was put in at the other end. Assumes nothing.
use Rattle.std.proofs.Common.{◌≡◌, ℕ, ◌+◌, ◌-◌, ◌*◌, ◌/◌, ◌%◌, ◌<◌, ◌≢◌, true, false, eqb, arith}
use Rattle.std.proofs.Common.{List, [], ◌∷◌, ◌++◌, length, map, Some, Result}
use Rattle.std.proofs.Common.{refl, ap, ap₂, sym, ◌∙◌, ⊎_elim}
use Rattle.std.specs.Prelude.{OnOk}
use Rattle.std.proofs.lemmas.Bool.{cases_Bool}
use Rattle.std.proofs.lemmas.Bool.Decides.{nat_tests}
use Rattle.std.proofs.lemmas.List.{append-nil, take_all}
use Rattle.refusal.specs.declared.refusal.Cause.{Cause}
use Rattle.chip.specs.Words.{rising_words}
use Rattle.trace.specs.declared.event.Event.{Event}
use Rattle.trace.specs.declared.event.Event.TheVariants.{Start, Byte, Stop}
use Rattle.bus_i2c_target.specs.declared.target.State.TheVariants.{Idle, Listening, Ready, Giving}
use Rattle.bus_i2c_target.specs.declared.target.Target.{Target}
use Rattle.bus_i2c_target.specs.Targets.{write_byte, read_byte, in_state}
use Rattle.bus_i2c_wire.specs.Frames.{byte_events, is_good, answer, stores_in}
use Rattle.bus_i2c_wire.specs.Frames.{word_bytes, put_bytes, put_frame, get_frame}
use Rattle.bus_i2c_wire.specs.Requests.{Request, get_request, put_request, IsSendable}
use Rattle.bus_i2c_wire.specs.Requests.{request_events}
use Rattle.bus_i2c_wire.specs.Requests.{target_after, taken_in, taken_out, Arrives}
use Rattle.bus_i2c_wire.proofs.Recovering.{ready, own_catches, other_catches, length-put_bytes}

-- under a mark that names none of the bytes each is acknowledged
sent_good : (bs : List ℕ) (mark : ℕ) → is_good mark (length bs) ≡ true
    → byte_events bs mark ≡ byte_events bs 0
sent_good [] mark g = refl
sent_good (b ∷ bs) mark g =
    let rest : is_good (mark - 1) (length bs) ≡ true
    → byte_events bs (mark - 1) ≡ byte_events bs 0 =
    sent_good bs (mark - 1) in
    grind (arith, nat_tests)

-- words that are all acknowledged leave a target ready for more
words_heard : (ws : List ℕ) (a p : ℕ)
    → target_after (byte_events (word_bytes ws) 0) (ready a p) ≡ ready a (p + length ws)
words_heard [] a p = let none : p + 0 ≡ p = omega arith in rw none
words_heard (w ∷ ws) a p =
    let next : (p % 64 + 1) % 64 ≡ (p + 1) % 64 = omega arith in
    let rest = words_heard ws a (p + 1) in
    grind arith

-- an idle target stays idle
idle_hears : (bs : List ℕ) (mark : ℕ) (t : Target)
    → target_after (byte_events bs mark) (in_state Idle t) ≡ in_state Idle t
idle_hears [] mark t = refl
idle_hears (b ∷ bs) mark t =
    ⊎_elim (λ e. rw e) (λ e. rw e (idle_hears bs (mark - 1) t)) (cases_Bool (eqb mark 1))

-- a target whose own address is sent
own_hears : (t : Target) (a raw : ℕ) (ws : List ℕ) → t.address ≡ a
    → target_after (byte_events (put_bytes a raw ws) 0) (in_state Listening t)
    ≡ ready a (raw + length ws)
own_hears t a raw ws e = let rest = words_heard ws a raw in grind (arith, nat_tests)

-- a target that another address is sent to
other_hears : (t : Target) (a raw : ℕ) (ws : List ℕ) → a < 128 → t.address < 128 → t.address ≢ a
    → target_after (byte_events (put_bytes a raw ws) 0) (in_state Listening t) ≡ in_state Idle t
other_hears t a raw ws ha ht ne =
    let no_write : write_byte a ≢ write_byte t.address = λ same. ne (omega arith) in
    let no_read : write_byte a ≢ read_byte t.address = λ same. omega arith in
    let rest = idle_hears (raw ∷ word_bytes ws) 0 t in
    grind (arith, nat_tests)

words_of_rising : (raw : ℕ) (ws : List ℕ) → map (λ s. s.1) (rising_words raw ws) ≡ ws
words_of_rising raw [] = refl
words_of_rising raw (w ∷ ws) = ap (λ vs. w ∷ vs) (words_of_rising (raw + 1) ws)

-- what a target takes out that has stored words from a raw address upwards, and is ready for more
taken_ready : (a p raw : ℕ) (ws : List ℕ) → ws ≢ []
    → taken_in Ready (ready a p) (rising_words raw ws) ≡ Some (put_request a raw ws)
taken_ready a p raw [] some = absurd (some refl)
taken_ready a p raw (w ∷ ws) some =
    ap (λ vs. Some (put_request a raw (w ∷ vs))) (words_of_rising (raw + 1) ws)

module _ (a raw : ℕ) (ws : List ℕ) where
  abbrev this_put : Request
  this_put = put_request a raw ws

  abbrev bytes : List Event
  bytes = byte_events (put_bytes a raw ws) 0

  put_begins : (mark : ℕ) → is_good mark (2 + 2 * length ws) ≡ true
      → put_frame a raw ws mark ≡ request_events this_put ++ (Stop ∷ [])
  put_begins mark g =
      let same = sent_good (put_bytes a raw ws) mark (rw (length-put_bytes a raw ws) g) in
      ap (λ es. Start ∷ (es ++ (Stop ∷ []))) (same ∙ sym (append-nil bytes))

  put_hears : (t : Target)
      → target_after (request_events this_put) t ≡ target_after bytes (in_state Listening t)
  put_hears t = ap (λ es. target_after es (in_state Listening t)) (append-nil bytes)

  put_catches : (t : Target)
      → stores_in (request_events this_put) t ≡ stores_in bytes (in_state Listening t)
  put_catches t = ap (λ es. stores_in es (in_state Listening t)) (append-nil bytes)

  put_stores : IsSendable this_put → (t : Target) → t.address ≡ a
      → stores_in (request_events this_put) t ≡ rising_words raw ws
  put_stores s t e =
      let own =
      ap (λ b. stores_in (byte_events (put_bytes b raw ws) 0) (in_state Listening t)) (sym e) in
      let stored = put_catches t ∙ own ∙ own_catches t raw 0 ws s.end in
      let all = take_all (length ws) ws (omega arith) in
      rw all at stored

  put_taken : IsSendable this_put → (t : Target) → t.address ≡ a
      → taken_out (request_events this_put) t ≡ Some this_put
  put_taken s t e =
      let some : ws ≢ [] = λ none. let no : false ≡ true = s.words.1 none in cc in
      ap₂ (λ now stores. taken_in now.state now stores)
      (put_hears t ∙ own_hears t a raw ws e) (put_stores s t e)
      ∙ taken_ready a (raw + length ws) raw ws some

  put_others : IsSendable this_put → (t : Target) → t.address < 128 → t.address ≢ a
      → (stores_in (request_events this_put) t ≡ [])
      × (target_after (request_events this_put) t ≡ in_state Idle t)
  put_others s t ht ne = (
    put_catches t ∙ other_catches t a raw 0 ws s.address ht ne,
    put_hears t ∙ other_hears t a raw ws s.address ht ne,
  )

  put_arrives : (mark : ℕ) → is_good mark (2 + 2 * length ws) ≡ true
      → Arrives this_put (put_frame a raw ws mark)
  put_arrives mark g = record {
    begins = (Stop ∷ [], put_begins mark g);
    taken = put_taken;
    stores = put_stores;
    gives = λ s t e reads. let no : false ≡ true = reads in cc;
    others = put_others;
  }

module _ (a raw : ℕ) where
  abbrev this_get : Request
  this_get = get_request a raw

  get_begins : (w mark : ℕ) → is_good mark 3 ≡ true
      → get_frame a raw w mark
      ≡ request_events this_get ++ (Byte (w / 256) true ∷ Byte (w % 256) false ∷ Stop ∷ [])
  get_begins w mark g = grind (arith, nat_tests)

  get_taken : IsSendable this_get → (t : Target) → t.address ≡ a
      → taken_out (request_events this_get) t ≡ Some this_get
  get_taken s t e = grind (arith, nat_tests)

  get_stores : IsSendable this_get → (t : Target) → t.address ≡ a
      → stores_in (request_events this_get) t ≡ rising_words raw []
  get_stores s t e = grind (arith, nat_tests)

  get_gives : IsSendable this_get → (t : Target) → t.address ≡ a
      → target_after (request_events this_get) t
      ≡ record { address = a; state = Giving; pointer = raw }
  get_gives s t e = grind (arith, nat_tests)

  get_others : IsSendable this_get → (t : Target) → t.address < 128 → t.address ≢ a
      → (stores_in (request_events this_get) t ≡ [])
      × (target_after (request_events this_get) t ≡ in_state Idle t)
  get_others s t ht ne = (grind (arith, nat_tests), grind (arith, nat_tests))

  get_arrives : (w mark : ℕ) → is_good mark 3 ≡ true → Arrives this_get (get_frame a raw w mark)
  get_arrives w mark g = record {
    begins = (_, get_begins w mark g);
    taken = get_taken;
    stores = get_stores;
    gives = λ s t e reads. get_gives s t e;
    others = get_others;
  }

-- A transfer that answers yes was good.
on_good : {T P : Type 0} (r : Result T Cause) (mark n : ℕ) (v : T) (c : Cause)
    → r ≡ answer mark n v c → (is_good mark n ≡ true → P) → OnOk r P
on_good r mark n v c e p =
    rw e (⊎_elim (λ g. rw g (p g)) (λ b. rw b tt) (cases_Bool (is_good mark n)))

pub of_put : (r : Result (Unit {0}) Cause) (a raw mark : ℕ) (ws : List ℕ) (c : Cause)
    → r ≡ answer mark (2 + 2 * length ws) tt c
    → OnOk r (Arrives (put_request a raw ws) (put_frame a raw ws mark))
of_put r a raw mark ws c e =
    on_good r mark (2 + 2 * length ws) tt c e (put_arrives a raw ws mark)

pub of_get : (r : Result ℕ Cause) (a raw w mark : ℕ) (c : Cause)
    → r ≡ answer mark 3 w c → OnOk r (Arrives (get_request a raw) (get_frame a raw w mark))
of_get r a raw w mark c e = on_good r mark 3 w c e (get_arrives a raw w mark)
