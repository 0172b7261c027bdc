-- What a table holds once an update has entered it. Assumes nothing.
use Rattle.std.proofs.Common.{inl, inr, ◌↔◌, ◌≡◌, ◌≢◌, ℕ, zero, suc, ◌+◌, ◌-◌, ◌^◌, ◌<◌, ◌≤◌, max}
use Rattle.std.proofs.Common.{Bool, true, false, not, ◌||◌, cond, eqb, ltb, List, [], ◌∷◌, length}
use Rattle.std.proofs.Common.{drop, Some, refl, ap, sym, subst, ◌∙◌, ⊎_elim, arith}
use Rattle.std.specs.Int.{bit_at}
use Rattle.std.specs.Option.{is_some}
use lib.Bits.{bit_and, bit_or, and_le_r}
use Rattle.std.proofs.lemmas.Bool.{cond_both, cond-true, cond-false, or_parts, or_cases, not-false}
use Rattle.std.proofs.lemmas.Bool.{both_ways, eqb-true, eqb-false, eq-eqb, ne_eqb, lt-ltb, le-ltb}
use Rattle.std.proofs.lemmas.Bool.{ltb-true, cases_order}
use Rattle.std.proofs.lemmas.Nat.Bits.{bit_at_and, bit_at_or, same_from_bits}
use Rattle.std.proofs.lemmas.Nat.{le_or_l}
use Rattle.std.proofs.lemmas.List.{length-drop}
use Rattle.patch.specs.Patch.{word_after, join_of, is_idle}
use Rattle.patch.specs.declared.patch.Patch.{Patch}
use Rattle.patch.proofs.Masked.{acted_fits, acts_by_bits, joined_fits, join_acts, idles}
use Rattle.port_deferral_table.specs.Entries.{entry_of, joined_entry, IsEntry, Ascend, IsTable}
use Rattle.port_deferral_table.specs.Entries.{waiting_patch, word_under, takes, FindsPlace}
use Rattle.port_deferral_table.specs.Entries.{entries_with}
use Rattle.port_deferral_table.specs.Entries.{enter, Enters}
use Rattle.port_deferral_table.specs.declared.entry.Entry.{Entry}
use Rattle.port_deferral_table.proofs.Finding.{FitsWord, has_found, found_has, found_at}
use Rattle.port_deferral_table.proofs.Finding.{found_behind, none_before, ascend_less, under_fits}

-- where an update is placed, by where the first entry's register lies
pub placed_behind : (n : ℕ) (p : Patch) (e : Entry) (es : List Entry) → e.register < n
    → entries_with n p (e ∷ es) ≡ e ∷ entries_with n p es
placed_behind n p e es lt = cond-true (ltb e.register n) _ _ (lt-ltb e.register n lt)

pub placed_at : (n : ℕ) (p : Patch) (e : Entry) (es : List Entry) → e.register ≡ n
    → entries_with n p (e ∷ es) ≡ joined_entry e p ∷ es
placed_at n p e es is =
    cond-false (ltb e.register n) _ _ (le-ltb e.register n (omega arith))
    ∙ cond-true (eqb e.register n) _ _ (eq-eqb e.register n is)

pub placed_before : (n : ℕ) (p : Patch) (e : Entry) (es : List Entry) → n < e.register
    → entries_with n p (e ∷ es) ≡ entry_of n p ∷ e ∷ es
placed_before n p e es lt =
    cond-false (ltb e.register n) _ _ (le-ltb e.register n (omega arith))
    ∙ cond-false (eqb e.register n) _ _ (ne_eqb e.register n (λ is. omega arith))

-- P of what an update is placed to, by those three
by_place : (n : ℕ) (p : Patch) (e : Entry) (es : List Entry) (P : List Entry → Type 0)
    → (e.register < n → P (e ∷ entries_with n p es))
    → (e.register ≡ n → P (joined_entry e p ∷ es))
    → (n < e.register → P (entry_of n p ∷ e ∷ es))
    → P (entries_with n p (e ∷ es))
by_place n p e es P behind at front = ⊎_elim
    (λ is. subst P (sym (placed_at n p e es is)) (at is))
    (λ apart. ⊎_elim
    (λ lt. subst P (sym (placed_behind n p e es lt)) (behind lt))
    (λ gt. subst P (sym (placed_before n p e es gt)) (front gt))
    apart)
    (cases_order e.register n)

-- An update that changes something and finds its place is placed.
module _ (n : ℕ) (p : Patch) (es : List Entry) where
  is_placed : is_idle p || not (takes n p es) ≡ false → (p.mask ≢ 0) × (takes n p es ≡ true)
  is_placed places =
      let parts = or_parts (is_idle p) (not (takes n p es)) places in
      (eqb-false p.mask 0 parts.0, not-false (takes n p es) parts.1)

  by_entering : (P : List Entry → Type 0) → P es
      → (p.mask ≢ 0 → takes n p es ≡ true → P (entries_with n p es)) → P (enter n p es)
  by_entering P stands places =
      cond_both (is_idle p || not (takes n p es)) es (entries_with n p es) P
      (λ _. stands)
      (λ no. let is = is_placed no in places is.0 is.1)

idle_from : (idles_it takes_it : Bool) → idles_it || not takes_it ≡ true → takes_it ≡ true
    → idles_it ≡ true
idle_from true takes_it stands is = refl
idle_from false true stands is = stands
idle_from false false stands is = is

-- whether an update finds a place, in the words of the rule
finds : (n : ℕ) (p : Patch) (es : List Entry) → takes n p es ≡ true → FindsPlace n p es
finds n p es is = ⊎_elim
    (λ either. ⊎_elim
    (λ none. inl (eqb-true p.mask 0 none))
    (λ has. inr (inl (has_found n es has)))
    (or_cases (is_idle p) (is_some (waiting_patch n es)) either))
    (λ room. inr (inr (ltb-true (length es) 16 room)))
    (or_cases (is_idle p || is_some (waiting_patch n es)) (ltb (length es) 16) is)

found_place : (n : ℕ) (p : Patch) (es : List Entry) → FindsPlace n p es → takes n p es ≡ true
found_place n p es (inl none) = rw (eq-eqb p.mask 0 none) refl
found_place n p es (inr (inl has)) = rw (found_has n es has) (grind arith)
found_place n p es (inr (inr room)) = rw (lt-ltb (length es) 16 room) (grind arith)

pub takes_finds : (n : ℕ) (p : Patch) (es : List Entry) (said : Bool) → said ≡ takes n p es
    → (said ≡ true) ↔ FindsPlace n p es
takes_finds n p es said is =
    (λ yes. finds n p es (sym is ∙ yes), λ place. is ∙ found_place n p es place)

-- other registers
joined_other : (n i : ℕ) (p : Patch) (e : Entry) (es : List Entry) → e.register ≡ n → i ≢ n
    → waiting_patch i (joined_entry e p ∷ es) ≡ waiting_patch i (e ∷ es)
joined_other n i p e es is ne =
    let apart : e.register ≢ i = λ same. ne (omega arith) in
    found_behind i (joined_entry e p) es apart ∙ sym (found_behind i e es apart)

found_more : (i : ℕ) (e : Entry) (es ds : List Entry) → waiting_patch i es ≡ waiting_patch i ds
    → waiting_patch i (e ∷ es) ≡ waiting_patch i (e ∷ ds)
found_more i e es ds same = ap (cond (eqb e.register i) (Some e.patch)) same

placed_other : (n : ℕ) (p : Patch) (es : List Entry) (i : ℕ) → i ≢ n
    → waiting_patch i (entries_with n p es) ≡ waiting_patch i es
placed_other n p [] i ne = found_behind i (entry_of n p) [] (λ same. ne (omega arith))
placed_other n p (e ∷ es) i ne =
    by_place n p e es (λ ds. waiting_patch i ds ≡ waiting_patch i (e ∷ es))
    (λ _. found_more i e (entries_with n p es) es (placed_other n p es i ne))
    (λ is. joined_other n i p e es is ne)
    (λ _. found_behind i (entry_of n p) (e ∷ es) (λ same. ne (omega arith)))

pub entered_other : (n : ℕ) (p : Patch) (es : List Entry) (i : ℕ) → i ≢ n
    → waiting_patch i (enter n p es) ≡ waiting_patch i es
entered_other n p es i ne =
    by_entering n p es (λ ds. waiting_patch i ds ≡ waiting_patch i es) refl
    (λ _ _. placed_other n p es i ne)

-- at most one entry more, and none where the register has one
length_placed : (n : ℕ) (p : Patch) (es : List Entry)
    → length (entries_with n p es) ≤ length es + 1
length_placed n p [] = omega arith
length_placed n p (e ∷ es) = by_place n p e es (λ ds. length ds ≤ length (e ∷ es) + 1)
    (λ _. omega (arith, length_placed n p es)) (λ _. omega arith) (λ _. omega arith)

length_joined : (E : Entry → Type 0) (m n : ℕ) (p : Patch) (es : List Entry) → Ascend E m es
    → is_some (waiting_patch n es) ≡ true → length (entries_with n p es) ≡ length es
length_joined E m n p [] up has = absurd (cc)
length_joined E m n p (e ∷ es) up has = by_place n p e es (λ ds. length ds ≡ length (e ∷ es))
    (λ lt.
    let further = sym (ap is_some (found_behind n e es (λ same. omega arith))) ∙ has in
    ap suc (length_joined E (e.register + 1) n p es up.2 further))
    (λ _. refl)
    (λ gt. absurd (both_ways _ (ap is_some (none_before E m n e es up gt)) has))

few_placed : (E : Entry → Type 0) (n : ℕ) (p : Patch) (es : List Entry)
    → length es ≤ 16 → Ascend E 0 es → p.mask ≢ 0 → takes n p es ≡ true
    → length (entries_with n p es) ≤ 16
few_placed E n p es few up some takes_it = ⊎_elim
    (λ either. ⊎_elim
    (λ none. absurd (some (eqb-true p.mask 0 none)))
    (λ has. omega (arith, few, length_joined E 0 n p es up has))
    (or_cases (is_idle p) (is_some (waiting_patch n es)) either))
    (λ room. omega (arith, length_placed n p es, ltb-true (length es) 16 room))
    (or_cases (is_idle p || is_some (waiting_patch n es)) (ltb (length es) 16) takes_it)

-- the registers stay in order, and what holds of each entry goes on to hold
ascend_placed : (E : Entry → Type 0) (m n : ℕ) (p : Patch) (es : List Entry)
    → E (entry_of n p) → ((e : Entry) → E e → E (joined_entry e p)) → m ≤ n → Ascend E m es
    → Ascend E m (entries_with n p es)
ascend_placed E m n p [] new joins le up = (le, new, tt)
ascend_placed E m n p (e ∷ es) new joins le up = by_place n p e es (Ascend E m)
    (λ lt.
    let rest = ascend_placed E (e.register + 1) n p es new joins (omega arith) up.2 in
    (up.0, up.1, rest))
    (λ _. (up.0, joins e up.1, up.2))
    (λ gt. (le, new, (omega arith, up.1, up.2)))

-- one entry more at most
pub entered_adds_one : (n : ℕ) (p : Patch) (es : List Entry)
    → length (enter n p es) ≤ 1 + length es
entered_adds_one n p es = by_entering n p es (λ ds. length ds ≤ 1 + length es)
    (omega arith)
    (λ _ _. omega (arith, length_placed n p es))

-- a table stays one, whatever its entries have to be
pub entered_ascends : (E : Entry → Type 0) (n : ℕ) (p : Patch) (es : List Entry)
    → (p.mask ≢ 0 → E (entry_of n p)) → ((e : Entry) → E e → E (joined_entry e p))
    → (length es ≤ 16) × Ascend E 0 es
    → (length (enter n p es) ≤ 16) × Ascend E 0 (enter n p es)
entered_ascends E n p es new joins up =
    by_entering n p es (λ ds. (length ds ≤ 16) × Ascend E 0 ds) up
    (λ some takes_it. (
      few_placed E n p es up.0 up.1 some takes_it,
      ascend_placed E 0 n p es (new some) joins (omega arith) up.1,
    ))

-- what enters is an entry
is_entry_of : (n : ℕ) (p : Patch) → p.mask < 2 ^ 16 → p.mask ≢ 0 → IsEntry (entry_of n p)
is_entry_of n p fits some = record {
  some = some;
  fits = (fits, omega (arith, and_le_r p.bits p.mask));
  inside = λ k lt none. rw (bit_at_and p.bits p.mask k) (omega arith);
}

inside_joined : (e p : Patch) (k : ℕ) → k < 16 → p.mask < 2 ^ 16
    → (bit_at e.mask k ≡ 0 → bit_at e.bits k ≡ 0) → bit_at (join_of e p).mask k ≡ 0
    → bit_at (join_of e p).bits k ≡ 0
inside_joined e p k lt fits inside none =
    let either : max (bit_at e.mask k) (bit_at p.mask k) ≡ 0 =
    sym (bit_at_or e.mask p.mask k) ∙ none in
    (acts_by_bits p e.bits fits k lt).1 (omega arith) ∙ inside (omega arith)

is_joined : (p : Patch) → p.mask < 2 ^ 16 → (e : Entry) → IsEntry e → IsEntry (joined_entry e p)
is_joined p fits e is = record {
  some = λ none. is.some (omega (arith, le_or_l e.patch.mask p.mask));
  fits = (joined_fits e.patch p is.fits.0 fits, acted_fits p e.patch.bits fits);
  inside = λ k lt. inside_joined e.patch p k lt fits (is.inside k lt);
}

pub entered_is_table : (n : ℕ) (p : Patch) (es : List Entry) → FitsWord p → IsTable es
    → IsTable (enter n p es)
entered_is_table n p es fits table =
    entered_ascends IsEntry n p es (is_entry_of n p fits.0) (is_joined p fits.0) table

-- what an update makes of its register's word
bits_kept : (b m : ℕ) → bit_and (bit_and b m) m ≡ bit_and b m
bits_kept b m =
    same_from_bits _ _ (λ i. rw (bit_at_and (bit_and b m) m i, bit_at_and b m i) (omega arith))

acted_alone : (p : Patch) (w : ℕ) → word_after (entry_of 0 p).patch w ≡ word_after p w
acted_alone p w = ap (bit_or (bit_and w (65535 - p.mask))) (bits_kept p.bits p.mask)

abbrev Here : ℕ → Patch → ℕ → List Entry → List Entry → Type 0
Here n p w old new =
    word_under (waiting_patch n new) w ≡ word_after p (word_under (waiting_patch n old) w)

-- what an entry at the head does to a word
at_head : (n w : ℕ) (e : Entry) (es : List Entry) → e.register ≡ n
    → word_under (waiting_patch n (e ∷ es)) w ≡ word_after e.patch w
at_head n w e es at = ap (λ o. word_under o w) (found_at n e es at)

behind_head : (n w : ℕ) (e : Entry) (es : List Entry) → e.register ≢ n
    → word_under (waiting_patch n (e ∷ es)) w ≡ word_under (waiting_patch n es) w
behind_head n w e es ne = ap (λ o. word_under o w) (found_behind n e es ne)

placed_here : (m n : ℕ) (p : Patch) (w : ℕ) (es : List Entry) → p.mask < 2 ^ 16
    → Ascend IsEntry m es → w < 2 ^ 16 → Here n p w es (entries_with n p es)
placed_here m n p w [] fits are lt = at_head n w (entry_of n p) [] refl ∙ acted_alone p w
placed_here m n p w (e ∷ es) fits are lt = by_place n p e es (Here n p w (e ∷ es))
    (λ behind.
    let ne : e.register ≢ n = λ same. omega arith in
    behind_head n w e (entries_with n p es) ne
    ∙ placed_here (e.register + 1) n p w es fits are.2 lt
    ∙ sym (ap (word_after p) (behind_head n w e es ne)))
    (λ at.
    at_head n w (joined_entry e p) es at
    ∙ join_acts e.patch p are.1.fits.0 fits w lt
    ∙ sym (ap (word_after p) (at_head n w e es at)))
    (λ front.
    at_head n w (entry_of n p) (e ∷ es) refl
    ∙ acted_alone p w
    ∙ sym (ap (λ o. word_after p (word_under o w)) (none_before IsEntry m n e es are front)))

-- what becomes of words where nothing changes, where an update is placed, and where one enters
pub stays : (n : ℕ) (p : Patch) (es : List Entry) → IsTable es → is_idle p ≡ true → Enters n p es es
stays n p es table none = record {
  here = λ w lt. sym
      (idles p none (word_under (waiting_patch n es) w) (under_fits 0 n w es table.1 lt));
  others = λ i w ne. refl;
}

pub placed_enters : (n : ℕ) (p : Patch) (es : List Entry) → p.mask < 2 ^ 16 → Ascend IsEntry 0 es
    → Enters n p es (entries_with n p es)
placed_enters n p es fits up = record {
  here = λ w lt. placed_here 0 n p w es fits up lt;
  others = λ i w ne. ap (λ o. word_under o w) (placed_other n p es i ne);
}

pub enters : (n : ℕ) (p : Patch) (es : List Entry) → FitsWord p → IsTable es → takes n p es ≡ true
    → Enters n p es (enter n p es)
enters n p es fits table takes_it =
    cond_both (is_idle p || not (takes n p es)) es (entries_with n p es) (Enters n p es)
    (λ same. stays n p es table (idle_from (is_idle p) (takes n p es) same takes_it))
    (λ _. placed_enters n p es fits.0 table.1)

-- a table some of whose first entries left
ascend_drop : (E : Entry → Type 0) (m k : ℕ) (es : List Entry) → Ascend E m es
    → Ascend E m (drop k es)
ascend_drop E m zero [] up = tt
ascend_drop E m zero (e ∷ es) up = up
ascend_drop E m (suc k) [] up = tt
ascend_drop E m (suc k) (e ∷ es) up =
    let rest = ascend_drop E (e.register + 1) k es up.2 in
    ascend_less E m (e.register + 1) (drop k es) (omega (arith, up.0)) rest

pub entries_rest : (k : ℕ) (es : List Entry) → Ascend IsEntry 0 es → Ascend IsEntry 0 (drop k es)
entries_rest k es up = ascend_drop IsEntry 0 k es up

pub few_rest : (k : ℕ) (es : List Entry) → length es ≤ 16 → length (drop k es) ≤ 16
few_rest k es few = omega (arith, length-drop k es)

-- the same in the parts of a table that the code shows
pub placed_are : (n : ℕ) (p : Patch) (es : List Entry) → p.mask < 2 ^ 16 → p.mask ≢ 0
    → Ascend IsEntry 0 es → Ascend IsEntry 0 (entries_with n p es)
placed_are n p es fits some up =
    ascend_placed IsEntry 0 n p es (is_entry_of n p fits some) (is_joined p fits) (omega arith) up

pub placed_few : (n : ℕ) (p : Patch) (es : List Entry) → length es ≤ 16 → Ascend IsEntry 0 es
    → p.mask ≢ 0 → takes n p es ≡ true → length (entries_with n p es) ≤ 16
placed_few n p es few up some room = few_placed IsEntry n p es few up some room

pub ruleset entering = (stays, placed_enters, placed_are, placed_few)
