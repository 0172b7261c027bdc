-- What the runs of a list of marks are, and how the next one is found. Assumes nothing.
use Rattle.std.proofs.Common.{◌≡◌, ℕ, zero, suc, ◌+◌, ◌-◌, ◌<◌, ◌≤◌, ◌⊎◌, inl, inr, min}
use Rattle.std.proofs.Common.{Bool, true, false, cond, List, [], ◌∷◌, Some, None, length, get_or}
use Rattle.std.proofs.Common.{take, drop, refl, ap, sym, subst, ◌∙◌, ⊎_elim, arith, add-zero}
use Rattle.std.specs.List.{prefix_len, position, position_or_len, sum_by, count_by}
use Rattle.std.proofs.lemmas.Bool.{both_ways, cases_lt, ltb-true}
use Rattle.std.proofs.lemmas.Option.{cond_some}
use Rattle.std.proofs.lemmas.List.{drop_all, take_rest, get_or_past, get_or-drop, length-drop}
use Rattle.std.proofs.lemmas.List.Sums.{passes_at_first, prefix_len_passes, prefix_len_stops}
use Rattle.std.proofs.lemmas.List.Sums.{sum_by-cons}
use Rattle.std.proofs.lemmas.Bool.Decides.{nat_tests}
use Rattle.std.proofs.lemmas.Grind.{common_steps}
use Rattle.port_keeper_marks.specs.declared.runs.Run.{Run}
use Rattle.port_keeper_marks.specs.Runs.{is_marked, run_at, runs_from, runs, IsNext, AreRuns}

-- how many marks are set at the head of a list
abbrev pub ahead : List Bool → ℕ
ahead bs = prefix_len (λ b. b) bs

-- what is owed from a later number on is all that is owed, where nothing is at this one
later : (owed : ℕ → Bool) (n : ℕ) (rs : List Run) → owed n ≡ false → AreRuns owed (n + 1) rs
    → AreRuns owed n rs
later owed n [] none are = λ i le. ⊎_elim
    (λ lt. are i (omega arith))
    (λ ge. let e : i ≡ n = omega arith in rw e none)
    (cases_lt n i)
later owed n (r ∷ rs) none are = (
  record {
    from = omega arith;
    before = λ i le lt. ⊎_elim
        (λ past. are.0.before i (omega arith) lt)
        (λ ge. let e : i ≡ n = omega arith in rw e none)
        (cases_lt n i);
    some = are.0.some;
    few = are.0.few;
    inside = are.0.inside;
    ends = are.0.ends;
  },
  are.1,
)

-- where the head of a list of marks ends, unless it is cut
stops : (bs : List Bool) → (min 15 (ahead bs) ≡ 15) ⊎ (is_marked bs (min 15 (ahead bs)) ≡ false)
stops bs = ⊎_elim
    (λ short. let least : min 15 (ahead bs) ≡ ahead bs = omega arith in ⊎_elim
    (λ within. inr (ap (is_marked bs) least ∙ prefix_len_stops (λ b. b) bs false within))
    (λ past. inr (get_or_past bs (min 15 (ahead bs)) false (omega arith)))
    (cases_lt (ahead bs) (length bs)))
    (λ long. inl (omega arith))
    (cases_lt (ahead bs) 15)

-- a list of marks says what is owed from a number on
abbrev pub TellsFrom : (ℕ → Bool) → ℕ → List Bool → Type 0
TellsFrom owed n bs = (i j : ℕ) → j ≡ n + i → owed j ≡ is_marked bs i

-- a run from a register that is owed, with as many as follow it, 16 at most
module _ (owed : ℕ → Bool) (n : ℕ) (bs : List Bool) (tells : TellsFrom owed n (true ∷ bs)) where
  owed_inside : (j k : ℕ) → j ≡ n + k → k < 1 + min 15 (ahead bs) → owed j ≡ true
  owed_inside j zero e lt = tells zero j e
  owed_inside j (suc k) e lt =
      tells (suc k) j e ∙ prefix_len_passes (λ b. b) bs k false (omega arith)

  begins : IsNext owed n (run_at n (1 + min 15 (ahead bs)))
  begins = record {
    from = omega arith;
    before = λ i le lt. absurd (omega arith);
    some = omega arith;
    few = omega arith;
    inside = λ i le lt. owed_inside i (i - n) (omega arith) (omega arith);
    ends = ⊎_elim
        (λ all. inl (omega arith))
        (λ none. inr (tells (suc (min 15 (ahead bs))) _ (omega arith) ∙ none))
        (stops bs);
  }

at : (owed : ℕ → Bool) (m n : ℕ) (rs : List Run) → m ≡ n → AreRuns owed m rs → AreRuns owed n rs
at owed m n rs e are = subst (λ k. AreRuns owed k rs) e are

runs_from_are : (owed : ℕ → Bool) (n inside : ℕ) (bs : List Bool) → TellsFrom owed n bs
    → AreRuns owed (n + inside) (runs_from n inside bs)
runs_from_are owed n inside [] tells = λ i le. tells (i - n) i (omega arith)
runs_from_are owed n (suc k) (b ∷ bs) tells =
    at owed (n + 1 + k) (n + suc k) (runs_from (n + 1) k bs) (omega arith)
    (runs_from_are owed (n + 1) k bs (λ i j e. tells (suc i) j (omega arith)))
runs_from_are owed n zero (false ∷ bs) tells =
    let rs = runs_from (n + 1) zero bs in
    at owed n (n + zero) rs (omega arith) (later owed n rs (tells zero n (omega arith))
    (at owed (n + 1 + 0) (n + 1) rs (omega arith)
    (runs_from_are owed (n + 1) zero bs (λ i j e. tells (suc i) j (omega arith)))))
runs_from_are owed n zero (true ∷ bs) tells =
    let more = min 15 (ahead bs) in
    let rs = runs_from (n + 1) more bs in
    at owed n (n + zero) (run_at n (1 + more) ∷ rs) (omega arith) (
      begins owed n bs tells,
      at owed (n + 1 + more) (n + (1 + more)) rs (omega arith)
          (runs_from_are owed (n + 1) more bs (λ i j e. tells (suc i) j (omega arith))),
    )

pub runs_are : (bs : List Bool) → AreRuns (is_marked bs) 0 (runs bs)
runs_are bs =
    at (is_marked bs) (0 + 0) 0 (runs bs) (omega arith)
    (runs_from_are (is_marked bs) 0 0 bs (λ i j e. ap (is_marked bs) (omega arith)))

-- a run lies among the marks
pub run_within : (bs : List Bool) (n : ℕ) (r : Run) → IsNext (is_marked bs) n r
    → r.first + r.count ≤ length bs
run_within bs n r next = ⊎_elim
    (λ past. let end = r.first + r.count - 1 in
    let last : is_marked bs end ≡ true =
    next.inside end (omega (arith, next.some)) (omega (arith, next.some)) in
    absurd (both_ways _ (get_or_past bs end false (omega arith)) last))
    (λ within. within)
    (cases_lt (length bs) (r.first + r.count))

-- the runs are the same where the same numbers are owed
pub same_runs : (f g : ℕ → Bool) (n : ℕ) (rs : List Run) → ((i : ℕ) → n ≤ i → f i ≡ g i)
    → AreRuns f n rs → AreRuns g n rs
same_runs f g n [] agree are = λ i le. sym (agree i le) ∙ are i le
same_runs f g n (r ∷ rs) agree are =
    let next = are.0 in (
      record {
        from = next.from;
        before = λ i le lt. sym (agree i le) ∙ next.before i le lt;
        some = next.some;
        few = next.few;
        inside = λ i le lt. sym (agree i (omega arith)) ∙ next.inside i le lt;
        ends = ⊎_elim
            inl
            (λ none. inr (sym (agree (r.first + r.count) (omega arith)) ∙ none))
            next.ends;
      },
      same_runs f g (r.first + r.count) rs (λ i le. agree i (omega arith)) are.1,
    )

-- behind the first mark
behind : (k : ℕ) (b : Bool) (bs : List Bool) → drop (1 + k) (b ∷ bs) ≡ drop k bs
behind k b bs = grind (arith, common_steps)

same_from : (m n : ℕ) (bs cs : List Bool) → m ≡ n → bs ≡ cs → runs_from m 0 bs ≡ runs_from n 0 cs
same_from m n bs cs e f = cc

-- the marks of a run told before are passed over
past_inside : (n k : ℕ) (bs : List Bool) → runs_from n k bs ≡ runs_from (n + k) 0 (drop k bs)
past_inside n zero bs = same_from n (n + zero) bs bs (omega arith) refl
past_inside n (suc k) [] = refl
past_inside n (suc k) (b ∷ bs) =
    past_inside (n + 1) k bs
    ∙ same_from (n + 1 + k) (n + suc k) (drop k bs) (drop k bs) (omega arith) refl

-- no run begins before the first mark that is set
abbrev gap : List Bool → ℕ
gap bs = position_or_len (λ b. b) bs

past_gap : (n : ℕ) (bs : List Bool) → runs_from n 0 bs ≡ runs_from (n + gap bs) 0 (drop (gap bs) bs)
past_gap n [] = refl
past_gap n (true ∷ bs) = same_from n (n + 0) (true ∷ bs) (true ∷ bs) (omega arith) refl
past_gap n (false ∷ bs) =
    past_gap (n + 1) bs
    ∙ same_from (n + 1 + gap bs) (n + (1 + gap bs)) (drop (gap bs) bs)
    (drop (1 + gap bs) (false ∷ bs)) (omega arith) (sym (behind (gap bs) false bs))

ahead-take : (k : ℕ) (bs : List Bool) → ahead (take k bs) ≡ min k (ahead bs)
ahead-take zero bs = omega arith
ahead-take (suc k) [] = omega arith
ahead-take (suc k) (true ∷ bs) = omega (arith, ahead-take k bs)
ahead-take (suc k) (false ∷ bs) = omega arith

-- a run of so many marks, and the runs behind it
abbrev run_and_rest : ℕ → List Bool → ℕ → List Run
run_and_rest n bs count = run_at n count ∷ runs_from (n + count) 0 (drop count bs)

first_run : (n : ℕ) (bs : List Bool) → 0 < length bs → get_or bs 0 false ≡ true
    → runs_from n 0 bs ≡ run_and_rest n bs (ahead (take 16 bs))
first_run n [] some set = absurd (omega arith)
first_run n (false ∷ bs) some set = absurd (cc)
first_run n (true ∷ bs) some set =
    let more = min 15 (ahead bs) in
    let all : List Bool = true ∷ bs in
    let same : 1 + more ≡ ahead (take 16 all) = omega (arith, ahead-take 15 bs) in
    let rest : runs_from (n + 1) more bs ≡ runs_from (n + (1 + more)) 0 (drop (1 + more) all) =
    past_inside (n + 1) more bs
    ∙ same_from _ _ (drop more bs) (drop (1 + more) all) (omega arith)
    (sym (behind more true bs)) in
    ap (λ rs. run_at n (1 + more) ∷ rs) rest ∙ ap (run_and_rest n all) same

pub no_run : (n : ℕ) (bs : List Bool) → position (λ b. b) bs ≡ None → runs_from n 0 bs ≡ []
no_run n bs none =
    let all : length bs ≤ gap bs = grind (arith, common_steps, nat_tests) in
    past_gap n bs ∙ ap (runs_from (n + gap bs) 0) (drop_all (gap bs) bs all)

-- the first run of what is left, by what the two steps of the search for it count
pub next_run : (n i count : ℕ) (bs rest left : List Bool) → position (λ b. b) bs ≡ Some i
    → rest ≡ take (length bs - i) (drop i bs)
    → count ≡ prefix_len (λ b. b) (take 16 rest)
    → left ≡ take (length rest - count) (drop count rest)
    → runs_from n 0 bs ≡ run_at (n + i) count ∷ runs_from (n + i + count) 0 left
next_run n i count bs rest left found front counted back =
    let is : rest ≡ drop i bs = front ∙ take_rest bs i in
    let cut : left ≡ drop count rest = back ∙ take_rest rest count in
    let at_gap = cond_some _ _ _ found in
    let within : gap bs < length bs = ltb-true (gap bs) (length bs) at_gap.0 in
    let some : 0 < length rest = omega (arith, at_gap.1, ap length is, length-drop i bs) in
    let set : get_or rest 0 false ≡ true =
    ap (λ l. get_or l 0 false) is
    ∙ get_or-drop i bs 0 false
    ∙ ap (λ k. get_or bs k false) (add-zero i ∙ sym at_gap.1)
    ∙ passes_at_first (λ b. b) bs false within in
    past_gap n bs
    ∙ same_from (n + gap bs) (n + i) (drop (gap bs) bs) rest (omega (arith, at_gap.1))
    (ap (λ k. drop k bs) at_gap.1 ∙ sym is)
    ∙ first_run (n + i) rest some set
    ∙ ap (run_and_rest (n + i) rest) (sym counted)
    ∙ ap (λ l. run_at (n + i) count ∷ runs_from (n + i + count) 0 l) (sym cut)

abbrev counts_of : List Run → ℕ
counts_of rs = sum_by (λ r. r.count) rs

abbrev set_in : List Bool → ℕ
set_in bs = count_by (λ b. b) bs

set_in-cons : (b : Bool) (bs : List Bool) → set_in (b ∷ bs) ≡ cond b 1 0 + set_in bs
set_in-cons b bs = sum_by-cons (λ x. cond x 1 0) b bs

-- what is set at the head of a list and what is set behind it
set_ahead : (k : ℕ) (bs : List Bool) → k ≤ ahead bs → set_in bs ≡ k + set_in (drop k bs)
set_ahead zero bs le = omega arith
set_ahead (suc k) [] le = absurd (omega arith)
set_ahead (suc k) (false ∷ bs) le = absurd (omega arith)
set_ahead (suc k) (true ∷ bs) le = omega (arith, set_in-cons true bs, set_ahead k bs (omega arith))

counts_from : (n k : ℕ) (bs : List Bool) → counts_of (runs_from n k bs) ≡ set_in (drop k bs)
counts_from n zero [] = refl
counts_from n (suc k) [] = refl
counts_from n (suc k) (b ∷ bs) = counts_from (n + 1) k bs
counts_from n zero (false ∷ bs) = omega (arith, counts_from (n + 1) zero bs, set_in-cons false bs)
counts_from n zero (true ∷ bs) =
    let more = min 15 (ahead bs) in
    sum_by-cons (λ r. r.count) (run_at n (1 + more)) (runs_from (n + 1) more bs)
    ∙ omega (
      arith,
      counts_from (n + 1) more bs,
      set_ahead more bs (omega arith),
      set_in-cons true bs,
    )

-- the runs have as many registers as are owed
pub counts_are : (bs : List Bool) → sum_by (λ r. r.count) (runs bs) ≡ count_by (λ b. b) bs
counts_are bs = counts_from 0 0 bs

-- no more runs than marks
pub few_runs : (n k : ℕ) (bs : List Bool) → length (runs_from n k bs) ≤ length bs
few_runs n k [] = omega arith
few_runs n (suc k) (b ∷ bs) = omega (arith, few_runs (n + 1) k bs)
few_runs n zero (false ∷ bs) = omega (arith, few_runs (n + 1) zero bs)
few_runs n zero (true ∷ bs) = omega (arith, few_runs (n + 1) (min 15 (ahead bs)) bs)

-- what the first run says of what is owed, and what it says that there is none
pub first_is_owed : (bs : List Bool) (r : Run) (rs : List Run) → runs bs ≡ r ∷ rs
    → is_marked bs r.first ≡ true
first_is_owed bs r rs e =
    let are : AreRuns (is_marked bs) 0 (r ∷ rs) = rw e at (runs_are bs) in
    are.0.inside r.first (omega arith) (omega (arith, are.0.some))

pub none_is_owed : (bs : List Bool) (n : ℕ) → runs bs ≡ [] → is_marked bs n ≡ false
none_is_owed bs n e =
    let are : AreRuns (is_marked bs) 0 [] = rw e at (runs_are bs) in are n (omega arith)

-- what `Marks::any` rests on
pub ruleset by_first_run = (first_is_owed, none_is_owed)

-- each run ends by number k
abbrev pub Within : ℕ → List Run → Type 0
Within k [] = Unit {0}
Within k (r ∷ rs) = (r.first + r.count ≤ k) × Within k rs

are_within : (bs : List Bool) (n : ℕ) (rs : List Run) → AreRuns (is_marked bs) n rs
    → Within (length bs) rs
are_within bs n [] are = tt
are_within bs n (r ∷ rs) are = (run_within bs n r are.0, are_within bs (r.first + r.count) rs are.1)

-- all runs lie among the marks
pub runs_within : (k : ℕ) (bs : List Bool) → length bs ≡ k → Within k (runs bs)
runs_within k bs size = rw (← size) (are_within bs 0 (runs bs) (runs_are bs))
