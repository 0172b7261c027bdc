-- How the code finds an entry, and places an update. Assumes nothing.
use Rattle.std.proofs.Common.{◌≡◌, ◌≢◌, ℕ, zero, suc, ◌+◌, ◌<◌, ◌≤◌, eqb, ltb, List, [], ◌∷◌, ◌++◌}
use Rattle.std.proofs.Common.{length, get_or, set, refl, ap, sym, ◌∙◌, ⊎_elim, arith}
use Rattle.std.specs.List.{insert}
use Rattle.std.proofs.lemmas.Bool.{cases_Bool, cond-true, cond-false, lt-ltb, le-ltb, cases_lt}
use Rattle.std.proofs.lemmas.List.{set-get_or, length-append}
use Rattle.std.proofs.lemmas.List.Edits.{length-insert}
use Rattle.patch.specs.declared.patch.Patch.{Patch}
use Rattle.port_deferral_table.specs.Entries.{entry_of, joined_entry, waiting_patch, entries_with}
use Rattle.port_deferral_table.specs.Places.{first_patch, place}
use Rattle.port_deferral_table.specs.declared.entry.Entry.{Entry}
use Rattle.port_deferral_table.proofs.Placing.{placed_behind, placed_at, placed_before}

-- the first of a register
pub found_is : (n : ℕ) (es : List Entry) → waiting_patch n es ≡ first_patch n es
unfolding first_patch
found_is n [] = refl
found_is n (e ∷ es) = ⊎_elim
    (λ is. rw is)
    (λ no. rw no (found_is n es))
    (cases_Bool (eqb e.register n))

-- where in a list the place of a register is
below_place : (n : ℕ) (e : Entry) (es : List Entry) → e.register < n
    → place n (e ∷ es) ≡ 1 + place n es
below_place n e es lt = cond-true (ltb e.register n) _ _ (lt-ltb e.register n lt)

at_place : (n : ℕ) (e : Entry) (es : List Entry) → n ≤ e.register → place n (e ∷ es) ≡ 0
at_place n e es ge = cond-false (ltb e.register n) _ _ (le-ltb e.register n ge)

place_behind : (n k : ℕ) (e : Entry) (es : List Entry) → suc k ≡ place n (e ∷ es)
    → (e.register < n) × (k ≡ place n es)
place_behind n k e es is = ⊎_elim
    (λ lt. (lt, omega (arith, below_place n e es lt)))
    (λ ge. absurd (omega (arith, at_place n e es ge)))
    (cases_lt e.register n)

place_first : (n : ℕ) (e : Entry) (es : List Entry) → zero ≡ place n (e ∷ es) → n ≤ e.register
place_first n e es is = ⊎_elim
    (λ lt. absurd (omega (arith, below_place n e es lt)))
    (λ ge. ge)
    (cases_lt e.register n)

-- an update's place is an entry's, before an entry, or behind all
joined_in : (n : ℕ) (p : Patch) (es : List Entry) (old : Entry) (at : ℕ)
    → at ≡ place n es → at < length es → old ≡ get_or es at old → old.register ≡ n
    → entries_with n p es ≡ set es at (joined_entry old p)
joined_in n p [] old at is lt read here = absurd (omega arith)
joined_in n p (e ∷ es) old zero is lt read here =
    placed_at n p e es (sym (ap (λ x. x.register) read) ∙ here)
    ∙ ap (λ x. joined_entry x p ∷ es) (sym read)
joined_in n p (e ∷ es) old (suc k) is lt read here =
    let behind = place_behind n k e es is in
    let rest = joined_in n p es old k behind.1 (omega arith) read here in
    placed_behind n p e es behind.0 ∙ ap (λ ds. e ∷ ds) rest

inserted_before : (n : ℕ) (p : Patch) (es : List Entry) (old : Entry) (at : ℕ)
    → at ≡ place n es → at < length es → old ≡ get_or es at old → old.register ≢ n
    → entries_with n p es ≡ insert es at (entry_of n p)
inserted_before n p [] old at is lt read apart = absurd (omega arith)
inserted_before n p (e ∷ es) old zero is lt read apart =
    let ge = place_first n e es is in
    let ne : e.register ≢ n = λ same. apart (ap (λ x. x.register) read ∙ same) in
    placed_before n p e es (omega arith)
inserted_before n p (e ∷ es) old (suc k) is lt read apart =
    let behind = place_behind n k e es is in
    let rest = inserted_before n p es old k behind.1 (omega arith) read apart in
    placed_behind n p e es behind.0 ∙ ap (λ ds. e ∷ ds) rest

placed_last : (n k : ℕ) (p : Patch) (es : List Entry) → k ≡ place n es → length es ≤ k
    → entries_with n p es ≡ es ++ entry_of n p ∷ []
placed_last n k p [] is ge = refl
placed_last n zero p (e ∷ es) is ge = absurd (omega arith)
placed_last n (suc k) p (e ∷ es) is ge =
    let behind = place_behind n k e es is in
    let rest = placed_last n k p es behind.1 (omega arith) in
    placed_behind n p e es behind.0 ∙ ap (λ ds. e ∷ ds) rest

-- an entry that was lent and left as it was
left_alone : (es : List Entry) (old : Entry) (at : ℕ) → old ≡ get_or es at old → set es at old ≡ es
left_alone es old at read = ap (set es at) read ∙ set-get_or es at old

-- What the code does: the entry at the place, if there is one, is lent and joined, or left alone.
pub joins : (n : ℕ) (p : Patch) (es : List Entry) (old new : Entry) (at : ℕ)
    → at ≡ place n es → at < length es → old ≡ get_or es at old → old.register ≡ n
    → new ≡ joined_entry old p → set es at new ≡ entries_with n p es
joins n p es old new at is lt read here changed =
    ap (set es at) changed ∙ sym (joined_in n p es old at is lt read here)

pub inserts : (n : ℕ) (p : Patch) (es : List Entry) (old new : Entry) (at : ℕ) → at ≡ place n es
    → at < length es → old ≡ get_or es at old → old.register ≢ n → new ≡ entry_of n p
    → insert (set es at old) at new ≡ entries_with n p es
inserts n p es old new at is lt read apart made =
    ap (λ xs. insert xs at new) (left_alone es old at read)
    ∙ ap (insert es at) made
    ∙ sym (inserted_before n p es old at is lt read apart)

pub pushes : (n : ℕ) (p : Patch) (es : List Entry) (new : Entry) (at : ℕ) → at ≡ place n es
    → length es ≤ at → new ≡ entry_of n p → es ++ new ∷ [] ≡ entries_with n p es
pushes n p es new at is ge made =
    ap (λ x. es ++ x ∷ []) made ∙ sym (placed_last n at p es is ge)

-- so there is room for what is put in
pub room_before : (n : ℕ) (p : Patch) (es : List Entry) (old : Entry) (at : ℕ)
    → length (entries_with n p es) ≤ 16 → at ≡ place n es → at < length es → old ≡ get_or es at old
    → old.register ≢ n → (at ≤ length (set es at old)) × (length (set es at old) < 16)
room_before n p es old at few is lt read apart =
    let more = length-insert es at (entry_of n p) (omega arith) in
    let as_placed = ap length (inserted_before n p es old at is lt read apart) in
    rw (left_alone es old at read) (omega arith, omega (arith, few, as_placed, more))

pub room_behind : (n : ℕ) (p : Patch) (es : List Entry) (at : ℕ) → length (entries_with n p es) ≤ 16
    → at ≡ place n es → length es ≤ at → length es < 16
room_behind n p es at few is ge =
    let more = length-append es (entry_of n p ∷ []) in
    omega (arith, few, ap length (placed_last n at p es is ge), more)

pub ruleset placing = (joins, inserts, pushes, room_before, room_behind)
