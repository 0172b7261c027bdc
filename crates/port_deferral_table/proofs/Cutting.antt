-- How entries are cut into bursts. Assumes nothing.
use Rattle.std.proofs.Common.{◌≡◌, ◌↔◌, ℕ, ◌+◌, ◌<◌, ◌≤◌, true, cond, List, [], ◌∷◌, length, take}
use Rattle.std.proofs.Common.{drop, refl, ap, sym, subst, ◌∙◌, ⊎_elim, arith, rules}
use Rattle.std.proofs.lemmas.Bool.Decides.{nat_tests}
use Rattle.std.proofs.lemmas.Bool.{both_ways, cond_both, cases_Bool}
use Rattle.std.proofs.lemmas.List.{take_at, length-append}
use Rattle.port_deferral_table.specs.Entries.{Follows, leads_to, before, bursts, first_of}
use Rattle.port_deferral_table.specs.Entries.{first_burst, Ends, AreBursts}
use Rattle.port_deferral_table.specs.Places.{links}
use Rattle.port_deferral_table.specs.declared.entry.Entry.{Entry}

-- the test of what can follow
follows : (e next : Entry) → leads_to e next ≡ true → Follows e next
follows e next is = grind (arith, rules, nat_tests)

leads_on : (e next : Entry) → Follows e next → leads_to e next ≡ true
leads_on e next f = rw (f.0, f.1, f.2) (search rules)

pub leads : (e next : Entry) → (leads_to e next ≡ true) ↔ Follows e next
leads e next = (follows e next, leads_on e next)

-- what ends a burst ends a longer one
ends_later : (e f : Entry) (b rest : List Entry) → Ends (f ∷ b) rest → Ends (e ∷ f ∷ b) rest
ends_later e f b [] ends = tt
ends_later e f b (next ∷ rest) ends = ends

-- one more entry before bursts
before_are : (e : Entry) (es : List Entry) (bs : List (List Entry)) → AreBursts es bs
    → AreBursts (e ∷ es) (before e bs)
before_are e es [] are = ([], ap (λ r. e ∷ r) are, tt, tt, refl)
before_are e es ([] ∷ bs) are = absurd are.2
before_are e es ((next ∷ b) ∷ bs) are = cond_both (leads_to e next) _ _ (AreBursts (e ∷ es))
    (λ goes. (
      are.0,
      ap (λ r. e ∷ r) are.1,
      (follows e next goes, are.2),
      ends_later e next b are.0 are.3,
      are.4,
    ))
    (λ stops. (
      es,
      refl,
      tt,
      subst (Ends (e ∷ [])) (sym are.1) (λ f. both_ways _ stops (leads_on e next f)),
      are,
    ))

pub bursts_are : (es : List Entry) → AreBursts es (bursts es)
bursts_are [] = refl
bursts_are (e ∷ es) = before_are e es (bursts es) (bursts_are es)

-- the rest of the entries goes in the rest of the bursts
before_after : (e : Entry) (es : List Entry) (cs : List (List Entry)) → bursts es ≡ cs
    → ((c : List Entry) (ds : List (List Entry)) → cs ≡ c ∷ ds → bursts (drop (length c) es) ≡ ds)
    → (b : List Entry) (bs : List (List Entry)) → before e cs ≡ b ∷ bs
    → bursts (drop (length b) (e ∷ es)) ≡ bs
before_after e es [] is after b bs parts =
    let first : b ≡ e ∷ [] = cc in
    let rest : bs ≡ [] = cc in
    rw (first, rest) is
before_after e es ([] ∷ cs) is after b bs parts =
    let first : b ≡ e ∷ [] = cc in
    let rest : bs ≡ [] ∷ cs = cc in
    rw (first, rest) is
before_after e es ((next ∷ c) ∷ cs) is after b bs parts =
    cond_both (leads_to e next) _ _ (λ ds. ds ≡ b ∷ bs → bursts (drop (length b) (e ∷ es)) ≡ bs)
    (λ _ joins.
    let first : b ≡ e ∷ next ∷ c = cc in
    let rest : bs ≡ cs = cc in
    rw (first, rest) (after (next ∷ c) cs refl))
    (λ _ starts.
    let first : b ≡ e ∷ [] = cc in
    let rest : bs ≡ (next ∷ c) ∷ cs = cc in
    rw (first, rest) is)
    parts

pub bursts_after : (es : List Entry) (b : List Entry) (bs : List (List Entry)) → bursts es ≡ b ∷ bs
    → bursts (drop (length b) es) ≡ bs
bursts_after [] b bs parts = absurd (cc)
bursts_after (e ∷ es) b bs parts =
    before_after e es (bursts es) refl (bursts_after es) b bs parts

-- where there are entries there is a burst of some
some_before : (e : Entry) (bs : List (List Entry)) → 0 < length (first_of (before e bs))
some_before e [] = omega arith
some_before e ([] ∷ bs) = omega arith
some_before e ((next ∷ b) ∷ bs) = cond_both (leads_to e next) _ _ (λ cs. 0 < length (first_of cs))
    (λ _. omega arith)
    (λ _. omega arith)

pub some_burst : (es : List Entry) → 0 < length es → 0 < length (first_burst es)
some_burst [] some = absurd (omega arith)
some_burst (e ∷ es) some = some_before e (bursts es)

-- bursts begin with a part of the entries
first_part : (es b : List Entry) (bs : List (List Entry)) → AreBursts es (b ∷ bs)
    → b ≡ take (length b) es
first_part es b bs are = sym (ap (take (length b)) are.1 ∙ take_at b are.0 (length b) refl)

first_fits : (es b : List Entry) (bs : List (List Entry)) → AreBursts es (b ∷ bs)
    → length b ≤ length es
first_fits es b bs are = omega (arith, ap length are.1, length-append b are.0)

first_of_are : (es : List Entry) (bs : List (List Entry)) → AreBursts es bs
    → first_of bs ≡ take (length (first_of bs)) es
first_of_are es [] are = refl
first_of_are es (b ∷ bs) are = first_part es b bs are

pub first_burst_is : (es : List Entry) → first_burst es ≡ take (length (first_burst es)) es
first_burst_is es = first_of_are es (bursts es) (bursts_are es)

first_of_fits : (es : List Entry) (bs : List (List Entry)) → AreBursts es bs
    → length (first_of bs) ≤ length es
first_of_fits es [] are = omega arith
first_of_fits es (b ∷ bs) are = first_fits es b bs are

pub first_burst_fits : (es : List Entry) → length (first_burst es) ≤ length es
first_burst_fits es = first_of_fits es (bursts es) (bursts_are es)

-- each entry of a burst but the last leads to the next
begins : (e : Entry) (bs : List (List Entry))
    → (b : List Entry) × (cs : List (List Entry)) × (before e bs ≡ (e ∷ b) ∷ cs)
begins e [] = ([], [], refl)
begins e ([] ∷ bs) = ([], [] ∷ bs, refl)
begins e ((next ∷ b) ∷ bs) = cond_both (leads_to e next) _ _
    (λ ds. (c : List Entry) × (cs : List (List Entry)) × (ds ≡ (e ∷ c) ∷ cs))
    (λ _. (next ∷ b, bs, refl))
    (λ _. ([], (next ∷ b) ∷ bs, refl))

length_before : (e next : Entry) (b : List Entry) (bs : List (List Entry)) (n : ℕ)
    → length (next ∷ b) ≡ n + 1
    → length (first_of (before e ((next ∷ b) ∷ bs))) ≡ cond (leads_to e next) (1 + n) 0 + 1
length_before e next b bs n is = ⊎_elim
    (λ leads. rw leads (omega arith))
    (λ stops. rw stops (omega arith))
    (cases_Bool (leads_to e next))

pub length_none : length (first_burst []) ≡ 0
length_none = refl

pub length_first : (e : Entry) (es : List Entry)
    → length (first_burst (e ∷ es)) ≡ links (e ∷ es) es + 1
length_first e [] = refl
length_first e (next ∷ es) =
    let parts = begins next (bursts es) in
    let rest : length (next ∷ parts.0) ≡ links (next ∷ es) es + 1 =
    sym (ap (λ bs. length (first_of bs)) parts.2) ∙ length_first next es in
    ap (λ bs. length (first_of (before e bs))) parts.2
    ∙ length_before e next parts.0 parts.1 (links (next ∷ es) es) rest

pub ruleset cutting = (first_burst_is, first_burst_fits, bursts_are)
