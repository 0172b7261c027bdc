-- The machine of a deferral keeps to its rules, over any port. Assumes nothing.
use Rattle.std.proofs.Common.{◌≡◌, ◌≢◌, ℕ, zero, suc, Bool, true, false, ◌||◌, eqb, inl, inr}
use Rattle.std.proofs.Common.{List, [], ◌∷◌, length, drop, Some, None, Option, sym, refl, ap}
use Rattle.std.proofs.Common.{subst, ◌∙◌, ⊎_elim, rules}
use Rattle.std.specs.Option.{is_some}
use Rattle.std.proofs.Math.Seq.{drop-append_seam}
use Rattle.std.proofs.lemmas.Bool.{cond_both, cond-true, cond-false, eq-eqb, ne_eqb, cases_Bool}
use Rattle.patch.specs.Patch.{word_after, is_complete}
use Rattle.refusal.specs.Replies.{Reply, acceptance}
use Rattle.chart.specs.declared.class.Class.{Class}
use Rattle.chart.specs.declared.class.Class.TheVariants.{Setting}
use Rattle.patch.specs.declared.patch.Patch.{Patch}
use Rattle.patch.proofs.Masked.{completes}
use Rattle.port.specs.Checks.{read_check, update_check, is_accepted, onward}
use Rattle.port.specs.Meaning.{PortMachine, supply}
use Rattle.port.specs.Pieces.{Taken}
use Rattle.port_layer.specs.Errands.{on_owed}
use Rattle.port_layer.specs.Layer.{over, back, Sending, send_all}
use Rattle.port_layer.proofs.Standing.{part_follows, part_ends}
use Rattle.port_layer.proofs.LayerLaws.{in_pieces, all_gone, layer_laws}
use Rattle.port_deferral_table.specs.Entries.{entry_of, waiting_patch, takes, HasEntry, FindsPlace}
use Rattle.port_deferral_table.specs.Entries.{enter}
use Rattle.port_deferral_table.specs.Entries.{Linked, AreBursts, bursts, words_of}
use Rattle.port_deferral_table.specs.declared.entry.Entry.{Entry}
use Rattle.port_deferral_table.proofs.Cutting.{bursts_are}
use Rattle.port_deferral_table.proofs.Finding.{has_found, found_has}
use Rattle.port_deferral_table.proofs.Placing.{takes_finds}
use Rattle.port_deferral_laws.specs.Machine.{DeferralModel, reply_under, with_update, read_back}
use Rattle.port_deferral_laws.specs.Machine.{deferral_sending, change_setting, read_by}
use Rattle.port_deferral_laws.specs.Machine.{deferral_layer, deferral_machine}
use Rattle.port_deferral_laws.specs.Laws.{AreWordsOf, SettingAtHand, DeferralLaws}
use Rattle.port_deferral_laws.proofs.Covering.{whole_mask}

-- the words of entries that follow each other are what they make of any word
are_words : (e : Entry) (es : List Entry) → is_complete e.patch ≡ true → Linked (e ∷ es)
    → AreWordsOf (e ∷ es) (words_of (e ∷ es))
are_words e [] whole linked = (completes e.patch whole, refl)
are_words e (next ∷ es) whole linked =
    (completes e.patch whole, are_words next es (whole_mask next linked.0.1) linked.1)

-- no register comes to have an entry where some of the first leave
none_left : (n k : ℕ) (es : List Entry) → HasEntry n (drop k es) → HasEntry n es
none_left n k es has = has_found n es (go k es (found_has n (drop k es) has))
  where
    Found : List Entry → Type 0
    Found ds = is_some (waiting_patch n ds) ≡ true

    go : (k : ℕ) (es : List Entry) → Found (drop k es) → Found es
    go zero [] is = is
    go zero (e ∷ es) is = is
    go (suc k) [] is = is
    go (suc k) (e ∷ es) is =
        cond_both (eqb e.register n) (Some e.patch) (waiting_patch n es) (λ o. is_some o ≡ true)
        (λ _. refl)
        (λ _. go k es is)

-- What a sending leaves.
module _ {M : Type 0} (port : PortMachine M) where
  abbrev D : Type 0
  D = DeferralModel M

  abbrev sending : Sending (List Entry) (List Entry) M
  sending = deferral_sending port

  abbrev all : D → Reply × D
  all = send_all sending

  -- bursts went, each accepted
  abbrev Went : List (List Entry) → List Entry → M → List Entry → M → Type 0
  Went = Taken on_owed sending.call sending.without

  -- once all bursts were accepted nothing is left
  none_after : (bs : List (List Entry)) (s t : List Entry) (b c : M) → AreBursts s bs
      → Went bs s b t c → t ≡ []
  none_after [] s t b c are went = went.0 ∙ are
  none_after (burst ∷ bs) s t b c (rest, split, linked, ends, more) went =
      let left = ap (drop (length burst)) split ∙ drop-append_seam burst rest in
      let others = subst (λ es. AreBursts es bs) (sym left) more in
      none_after bs (drop (length burst) s) t (sending.call s b burst).1 c others went.1

  none_waits : (m : D) → (all m).0.number ≡ 0 → (all m).1.own ≡ []
  none_waits m ok =
      let q = all m in
      none_after (bursts m.own) m.own q.1.own m.below q.1.below (bursts_are m.own)
      (all_gone sending m ok)

  -- whatever is left was there before
  still_there : (n : ℕ) (bs : List (List Entry)) (s t : List Entry) (b c : M)
      → Went bs s b t c → HasEntry n t → HasEntry n s
  still_there n [] s t b c went has = subst (HasEntry n) went.0 has
  still_there n (burst ∷ bs) s t b c went has =
      let rest = drop (length burst) s in
      let before = still_there n bs rest t (sending.call s b burst).1 c went.1 has in
      none_left n (length burst) s before

  was_there : (m : D) (n : ℕ) → HasEntry n (all m).1.own → HasEntry n m.own
  was_there m n has =
      let is = in_pieces sending m in
      still_there n is.front m.own (all m).1.own m.below is.between is.taken has

-- a call on a setting at hand is not refused before anything is sent
update_goes : (keeps on : Bool) (c : Class) → c ≡ Setting → (keeps || on) ≡ true
    → update_check keeps c on ≡ None
update_goes keeps on c is hand = search (rules, is, hand)

read_goes : (keeps on : Bool) → (keeps || on) ≡ true → read_check keeps Setting on ≡ None
read_goes keeps on hand = search (rules, hand)

no_place : (n : ℕ) (p : Patch) (es : List Entry) → ¬ FindsPlace n p es → takes n p es ≡ false
no_place n p es none = ⊎_elim
    (λ yes. absurd (none ((takes_finds n p es _ refl).0 yes)))
    (λ no. no)
    (cases_Bool (takes n p es))

-- what enters an empty table
entered_alone : (n : ℕ) (p : Patch) → p.mask ≢ 0 → enter n p [] ≡ entry_of n p ∷ []
entered_alone n p some = rw (ne_eqb p.mask 0 some) refl

module _ {M : Type 0} (port : PortMachine M) (keeps : Bool) (class : ℕ → Class) where
  abbrev top : PortMachine (D port)
  top = deferral_machine port keeps class

  module _ (m : D port) (n : ℕ) (p : Patch) (hand : SettingAtHand port keeps class m n) where
    abbrev waits : D port → Reply × D port
    waits k = (acceptance [], with_update k n p)

    updates : top.update m n p ≡ change_setting port m n p
    updates = rw (update_goes keeps (supply port m.below) (class n) hand.0 hand.1) refl

    places : FindsPlace n p m.own
        → top.update m n p ≡ (acceptance [], over (enter n p m.own) m.below)
    places place =
        let takes_it = (takes_finds n p m.own _ refl).1 place in
        let made = cond-true (takes n p m.own) (acceptance [], m) (all port m) takes_it in
        updates ∙ ap (λ q. onward q waits) made

    sends_first : ¬ FindsPlace n p m.own → top.update m n p ≡ onward (all port m) waits
    sends_first none =
        let full = no_place n p m.own none in
        let made = cond-false (takes n p m.own) (acceptance [], m) (all port m) full in
        updates ∙ ap (λ q. onward q waits) made

    refused : ¬ FindsPlace n p m.own → (all port m).0.number ≢ 0
        → (top.update m n p ≡ all port m) × ¬ HasEntry n (all port m).1.own
    refused none refuses = (
      sends_first none ∙ part_ends (all port m) waits refuses,
      λ has. none (inr (inl (was_there port m n has))),
    )

    alone : ¬ FindsPlace n p m.own → (all port m).0.number ≡ 0
        → top.update m n p ≡ (acceptance [], over (entry_of n p ∷ []) (all port m).1.below)
    alone none ok =
        let one = entered_alone n p (λ idles. none (inl idles)) in
        let entry = ap (enter n p) (none_waits port m ok) ∙ one in
        sends_first none
        ∙ part_follows (all port m) waits ok
        ∙ ap (λ es. (acceptance [], over es (all port m).1.below)) entry

  module _ (m : D port) (n : ℕ) (hand : SettingAtHand port keeps class m n) where
    reads : (o : Option Patch) → waiting_patch n m.own ≡ o → top.read m n ≡ read_by port m n o
    reads o is =
        rw (hand.0, read_goes keeps (supply port m.below) hand.1) (ap (read_by port m n) is)

    reads_whole : (p : Patch) → waiting_patch n m.own ≡ Some p → p.mask ≡ 65535 → (w : ℕ)
        → top.read m n ≡ (acceptance (word_after p w ∷ []), m)
    reads_whole p is full w =
        let whole = eq-eqb p.mask 65535 full in
        reads (Some p) is
        ∙ cond-true (is_complete p) _ _ whole
        ∙ ap (λ v. (acceptance (v ∷ []), m)) (sym (completes p whole w))

    reads_part : (p : Patch) → waiting_patch n m.own ≡ Some p → p.mask ≢ 65535
        → top.read m n ≡ read_back m p (port.read m.below n)
    reads_part p is part =
        reads (Some p) is ∙ cond-false (is_complete p) _ _ (ne_eqb p.mask 65535 part)

  -- a word that came back, or a refusal, under a patch
  module _ (m : D port) (p : Patch) (q : Reply × M) where
    abbrev covering : D port → Reply × D port
    covering k = (reply_under p q.0, k)

    word_covered : (w : ℕ) → q.0 ≡ acceptance (w ∷ [])
        → (read_back m p q).0 ≡ acceptance (word_after p w ∷ [])
    word_covered w word =
        ap (λ x. x.0) (part_follows (back m q) covering (ap (λ r. r.number) word))
        ∙ ap (reply_under p) word

    refusal_passed : q.0.number ≢ 0 → (read_back m p q).0 ≡ q.0
    refusal_passed refuses = ap (λ x. x.0) (part_ends (back m q) covering refuses)

    left_over : (read_back m p q).1 ≡ over m.own q.1
    left_over = cond_both (is_accepted q.0) _ _ (λ (x : Reply × D port). x.1 ≡ over m.own q.1)
        (λ _. refl)
        (λ _. refl)

  pub deferral_laws : DeferralLaws port keeps class (deferral_machine port keeps class)
  deferral_laws = record {
    entry_bursts = bursts_are;
    burst_gone = drop-append_seam;
    layer = layer_laws port class (deferral_layer port keeps class);
    one_entry = λ es b e. refl;
    more_entries = λ waiting b e next es linked.
        let whole = whole_mask e linked.0.0 in
        (words_of (e ∷ next ∷ es), are_words e (next ∷ es) whole linked, refl);
    none_waits = none_waits port;
    update_waits = places;
    update_refused = refused;
    update_alone = alone;
    read_whole = λ m n p hand. reads_whole m n hand p;
    read_below = λ m n hand none. reads m n hand None none;
    read_part = λ m n p hand is part.
        let q = port.read m.below n in
        let did = reads_part m n hand p is part in (
          λ w word. ap (λ x. x.0) did ∙ word_covered m p q w word,
          λ refuses. ap (λ x. x.0) did ∙ refusal_passed m p q refuses,
          ap (λ x. x.1) did ∙ left_over m p q,
        );
    down_forgets = λ m no. rw no refl;
    down_keeps = λ m yes. rw yes refl;
  }
