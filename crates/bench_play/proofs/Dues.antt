-- The due words that are kept while calls are told are those by history. Assumes nothing.
use Rattle.std.proofs.Common.{◌≡◌, ℕ, zero, suc, ◌<◌, ◌≤◌, Bool, true, false, cond, ◌&&◌, eqb}
use Rattle.std.proofs.Common.{List, [], ◌∷◌}
use Rattle.std.proofs.Common.{length, map, slice_index, slice_set, refl, sym, ap, subst, ◌∙◌, arith}
use Rattle.std.proofs.lemmas.Bool.{eqb-true, eqb-false}
use Rattle.std.proofs.lemmas.List.{length-set, get_or-set_same, get_or-set_other}
use Rattle.std.proofs.lemmas.List.FromFn.{length-map-range_with_len, get_or-map-range_with_len}
use Rattle.patch.specs.Patch.{word_after, patch_of}
use Rattle.refusal.specs.Replies.{Reply, acceptance}
use Rattle.chart.specs.declared.class.Class.{Class}
use Rattle.patch.specs.declared.patch.Patch.{Patch}
use Rattle.chart.specs.declared.class.Class.TheVariants.{Absent, Setting, Live}
use Rattle.port.specs.Checks.{is_accepted}
use Rattle.port.specs.Meaning.{PortMachine}
use Rattle.bench_call.specs.Rests.{port_calls}
use Rattle.bench_call.specs.Texts.{pile_call_text}
use Rattle.bench_call.specs.declared.PileCall.{PileCall}
use Rattle.bench_call.specs.declared.PileCall.TheVariants.{Port, Suspend, Resume}
use Rattle.bench_call.specs.declared.PortCall.{PortCall}
use Rattle.bench_call.specs.declared.PortCall.TheVariants.{Read, Update, Sync, Measure, Down, Up}
use Rattle.bench_run.specs.Performed.{Seen, port_call, pile_call, walk}
use Rattle.port_ledger.specs.Moments.{Moment, asked_of, due_word}
use Rattle.port_ledger.specs.Runs.{moment, moments}
use Rattle.bench_text.specs.Noting.{call_entries}
use Rattle.bench_text.specs.Texts.{CallEntry}
use Rattle.bench_text.specs.Under.{DuesModel, new_dues, reading_is, dues_after_call, dues_after}
use Rattle.bench_text.specs.Under.{due_line}
use Rattle.bench_text.specs.Under.{differs}
use Rattle.bench_text.specs.Under.{setting_text, settings_text, any_differs, under_text}
use Rattle.port_ledger.specs.Rested.{Placed, with_moment, call_moments}
use Rattle.bench_play.specs.Audits.{reads_live, due_under}

-- the due word after one moment more
pub due_word_next : (n w : ℕ) (past : List Moment) (m : Moment)
    → due_word n w (with_moment past m)
    ≡ cond (is_accepted m.reply) (asked_of n m.call (due_word n w past)) (due_word n w past)
due_word_next n w [] m = refl
due_word_next n w (x ∷ past) m =
    due_word_next n (cond (is_accepted x.reply) (asked_of n x.call w) w) past m

-- a masked update of one word, at each number
changed_due : (ws : List ℕ) (p : Patch) (n k : ℕ) → n < length ws
    → slice_index (slice_set ws k (word_after p (slice_index ws k))) n
    ≡ cond (eqb n k) (word_after p (slice_index ws n)) (slice_index ws n)
changed_due ws p n k low = by_number (eqb n k) refl
  where
    by_number : (same : Bool) → eqb n k ≡ same
        → slice_index (slice_set ws k (word_after p (slice_index ws k))) n
        ≡ cond (eqb n k) (word_after p (slice_index ws n)) (slice_index ws n)
    by_number true e =
        let here = eqb-true n k e in
        rw (e, ← here) (get_or-set_same ws n (word_after p (slice_index ws n)) 0 low)
    by_number false e =
        rw e (get_or-set_other ws k n (word_after p (slice_index ws k)) 0 (eqb-false n k e))

-- a change that both ways of a choice make
cond_same : {A : Type 0} (b : Bool) (x : A) → cond b x x ≡ x
cond_same true x = refl
cond_same false x = refl

module _ (class : ℕ → Class) (reset : ℕ → ℕ) where
  -- words that agree at a number, if it is a setting's, are told alike there
  one_alike : (f g : ℕ → ℕ) (n : ℕ) (k : Class) → class n ≡ k → (k ≡ Setting → f n ≡ g n)
      → (setting_text class reset f n ≡ setting_text class reset g n)
      × (differs class reset f n ≡ differs class reset g n)
  one_alike f g n Absent is same = rw is (refl, refl)
  one_alike f g n Setting is same = rw (same refl) (refl, refl)
  one_alike f g n Live is same = rw is (refl, refl)

  below_alike : (f g : ℕ → ℕ) (count : ℕ) → ((n : ℕ) → n < count → class n ≡ Setting → f n ≡ g n)
      → (settings_text class reset f count ≡ settings_text class reset g count)
      × (any_differs class reset f count ≡ any_differs class reset g count)
  below_alike f g zero same = (refl, refl)
  below_alike f g (suc n) same =
      let below = below_alike f g n (λ k low. same k (omega (arith, low))) in
      let here = one_alike f g n (class n) refl (same n (omega arith)) in
      (rw (below.0, here.0) refl, rw (below.1, here.1) refl)

  -- words that agree at every setting are told alike
  pub under_alike : (count : ℕ) (f g : ℕ → ℕ)
      → ((n : ℕ) → n < count → class n ≡ Setting → f n ≡ g n)
      → under_text count class reset f ≡ under_text count class reset g
  under_alike count f g same =
      let alike = below_alike f g count same in rw (alike.0, alike.1) refl

  -- what is kept, after some moments
  pub record Knows (past : List Moment) (d : DuesModel) : Type 0 where
    pub size : length d.words ≡ 128
    pub keeps : d.keeps ≡ true
    pub due : (n : ℕ) → n < 128 → slice_index d.words n ≡ due_word n (reset n) past

  -- of a new pile
  pub knows_new : Knows [] (new_dues reset true)
  knows_new = record {
    size = length-map-range_with_len reset 0 128;
    keeps = refl;
    due = λ n low. get_or-map-range_with_len reset 0 128 n n 0 low (omega arith);
  }

  -- a call of the port, accepted or refused
  abbrev after : PortCall → Bool → DuesModel → DuesModel
  after c ok d = cond ok (dues_after_call class c d) (reading_is false d)

  after_size : (c : PortCall) (ok : Bool) (d : DuesModel)
      → length (after c ok d).words ≡ length d.words
  after_size c false d = refl
  after_size (Read n) true d = refl
  after_size (Update k mask bits) true d = length-set d.words k _
  after_size Sync true d = refl
  after_size (Measure k w) true d = refl
  after_size Down true d = refl
  after_size Up true d = refl

  after_keeps : (c : PortCall) (ok : Bool) (d : DuesModel) → (after c ok d).keeps ≡ d.keeps
  after_keeps c false d = refl
  after_keeps (Read n) true d = refl
  after_keeps (Update k mask bits) true d = refl
  after_keeps Sync true d = refl
  after_keeps (Measure k w) true d = refl
  after_keeps Down true d = refl
  after_keeps Up true d = refl

  noted_keeps : (c : PileCall) (r : Reply) (d : DuesModel)
      → (dues_after class d c r).keeps ≡ d.keeps
  noted_keeps (Port c) r d = after_keeps c (is_accepted r) d
  noted_keeps Suspend r d = refl
  noted_keeps Resume r d = refl

  due_told_none : (count : ℕ) (d : DuesModel) → d.keeps ≡ false → due_line count class reset d ≡ []
  due_told_none count d forgets = rw forgets refl

  after_due : (c : PortCall) (ok : Bool) (d : DuesModel) (n : ℕ) → n < length d.words
      → slice_index (after c ok d).words n
      ≡ cond ok (asked_of n c (slice_index d.words n)) (slice_index d.words n)
  after_due c false d n low = refl
  after_due (Read k) true d n low = refl
  after_due (Update k mask bits) true d n low = changed_due d.words (patch_of mask bits) n k low
  after_due Sync true d n low = refl
  after_due (Measure k w) true d n low = refl
  after_due Down true d n low = refl
  after_due Up true d n low = refl

  -- what is told under it
  after_told : (count : ℕ) (c : PortCall) (ok : Bool) (d : DuesModel) → d.keeps ≡ true
      → due_line count class reset (after c ok d)
      ≡ cond (ok && reads_live class c) (under_text count class reset (slice_index d.words)) []
  after_told count c false d keeps = rw keeps refl
  after_told count (Read n) true d keeps = rw keeps refl
  after_told count (Update k mask bits) true d keeps = rw keeps refl
  after_told count Sync true d keeps = rw keeps refl
  after_told count (Measure k w) true d keeps = rw keeps refl
  after_told count Down true d keeps = rw keeps refl
  after_told count Up true d keeps = rw keeps refl

  -- one moment more
  knows_next : (past : List Moment) (m : Moment) (d : DuesModel) → Knows past d
      → Knows (with_moment past m) (after m.call (is_accepted m.reply) d)
  knows_next past m d k =
      let ok = is_accepted m.reply in
      record {
        size = after_size m.call ok d ∙ k.size;
        keeps = after_keeps m.call ok d ∙ k.keeps;
        due = λ n low. after_due m.call ok d n (omega (arith, low, k.size))
            ∙ ap (λ w. cond ok (asked_of n m.call w) w) (k.due n low)
            ∙ sym (due_word_next n (reset n) past m);
      }

  module _ (count : ℕ) (few : count ≤ 128) where
    told_next : (past : List Moment) (m : Moment) (d : DuesModel) → Knows past d
        → due_line count class reset (after m.call (is_accepted m.reply) d)
        ≡ due_under count class reset (record { past = past; now = m })
    told_next past m d k =
        after_told count m.call (is_accepted m.reply) d k.keeps
        ∙ ap (λ t. cond (is_accepted m.reply && reads_live class m.call) t [])
        (under_alike count (slice_index d.words) (λ n. due_word n (reset n) past)
        (λ n low _. k.due n (omega (arith, low, few))))

    -- lines have these texts of calls, and tell these moments
    pub record Tells (texts : List (List ℕ)) (ps : List Placed) (ls : List CallEntry) : Type 0 where
      pub calls : map (λ l. l.call) ls ≡ texts
      pub replies : map (λ l. l.reply) ls ≡ map (λ p. p.now.reply) ps
      pub due : map (λ l. l.under) ls ≡ map (due_under count class reset) ps

    one_more : (text : List ℕ) (passed : ℕ) (p : Placed) (under : List ℕ) (texts : List (List ℕ))
        (ps : List Placed) (ls : List CallEntry)
        → under ≡ due_under count class reset p → Tells texts ps ls
        → let r = p.now.reply in
        let l : CallEntry = record { call = text; reply = r; passed = passed; under = under } in
        Tells (text ∷ texts) (p ∷ ps) (l ∷ ls)
    one_more text passed p under texts ps ls e rest = record {
      calls = ap (λ ts. text ∷ ts) rest.calls;
      replies = ap (λ rs. p.now.reply ∷ rs) rest.replies;
      due = rw (e, rest.due) refl;
    }

    abbrev lines : DuesModel → List PileCall → List Seen → List CallEntry
    lines d cs xs =
        call_entries pile_call_text (dues_after class) (due_line count class reset) d cs xs

    -- on a pile that does not keep nothing stands under any call
    pub none_under : (cs : List PileCall) (xs : List Seen) (d : DuesModel) → d.keeps ≡ false
        → map (λ l. l.under) (lines d cs xs) ≡ map (λ l. []) (lines d cs xs)
    none_under [] xs d forgets = refl
    none_under (c ∷ cs) [] d forgets = refl
    none_under (c ∷ cs) (x ∷ xs) d forgets =
        let still = noted_keeps c x.reply d ∙ forgets in
        let here = due_told_none count (dues_after class d c x.reply) still in
        rw (here, none_under cs xs (dues_after class d c x.reply) still) refl

    module _ {M : Type 0} (port : PortMachine M) where
      -- calls that go on after some moments
      pub same : (cs : List PileCall) (m : M) (past : List Moment) (d : DuesModel) → Knows past d
          → Tells (map pile_call_text cs)
          (call_moments past cs (moments port (port_calls cs) m))
          (lines d cs (walk (pile_call port) port.trace cs m).0)
      same [] m past d k = record { calls = refl; replies = refl; due = refl }
      same (Port c ∷ cs) m past d k =
          let p = port_call port c m in
          let now = moment port c m p in
          one_more (pile_call_text (Port c)) _ (record { past = past; now = now }) _ _ _ _
          (told_next past now d k) (same cs p.1 (with_moment past now) _ (knows_next past now d k))
      same (Suspend ∷ cs) m past d k =
          let p : Reply × M = (acceptance [], port.down m) in
          let now = moment port Down m p in
          one_more (pile_call_text Suspend) _ (record { past = past; now = now }) _ _ _ _
          (told_next past now d k) (same cs p.1 (with_moment past now) _ (knows_next past now d k))
      same (Resume ∷ cs) m past d k =
          let woken : Reply × M = (acceptance [], port.up m) in
          let first = moment port Up m woken in
          let begun = with_moment past first in
          let p = port.sync woken.1 in
          let now = moment port Sync woken.1 p in
          let off = reading_is false d in
          let kept : after Sync (is_accepted p.0) off ≡ off = cond_same (is_accepted p.0) off in
          let known = knows_next past first d k in
          let here : Placed = record { past = begun; now = now } in
          let told = subst (λ x. due_line count class reset x ≡ due_under count class reset here)
          kept (told_next begun now off known) in
          let knows = subst (Knows (with_moment begun now)) kept (knows_next begun now off known) in
          one_more (pile_call_text Resume) _ here _ _ _ _ told
          (same cs p.1 (with_moment begun now) _ knows)
