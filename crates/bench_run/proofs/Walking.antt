-- A list of calls, performed one by one. Assumes nothing.
use Rattle.std.proofs.Common.{◌≡◌, List, [], ◌∷◌, ◌++◌, map, refl, ap, ◌∙◌, append_assoc}
use Rattle.refusal.specs.Replies.{Reply}
use Rattle.trace.specs.Traces.{Traced}
use Rattle.bench_run.specs.Performed.{Seen, seen_after, then, walk, AllPassedAtLast}

-- what was seen before
abbrev pub continued : {M : Type 0} → List Seen → List Seen × M → List Seen × M
continued before rest = (before ++ rest.0, rest.1)

module _ {C M : Type 0} (does : C → M → Reply × M) (trace : M → Traced) where
  pub one_more : (before : List Seen) (c : C) (cs : List C) (p : Reply × M) (m : M)
      → p ≡ does c m
      → continued (before ++ (seen_after trace p ∷ [])) (walk does trace cs p.1)
      ≡ continued before (walk does trace (c ∷ cs) m)
  one_more before c cs p m e =
      ap (λ rs. (rs, (walk does trace cs p.1).1))
      (append_assoc before (seen_after trace p ∷ []) (walk does trace cs p.1).0)
      ∙ ap (λ q. continued before (then trace q (walk does trace cs))) e

  pub all_passed : (cs : List C) (m : M)
      → AllPassedAtLast (walk does trace cs m).0 (trace (walk does trace cs m).1)
  all_passed [] m = tt
  all_passed (c ∷ []) m = refl
  all_passed (c ∷ d ∷ cs) m = all_passed (d ∷ cs) (does c m).1

  -- calls that are seen through a function
  pub walk_through : {A : Type 0} (of : A → C) (xs : List A) (m : M)
      → walk (λ x. does (of x)) trace xs m ≡ walk does trace (map of xs) m
  walk_through of [] m = refl
  walk_through of (x ∷ xs) m =
      ap (λ rest. (seen_after trace (does (of x) m) ∷ rest.0, rest.1))
      (walk_through of xs (does (of x) m).1)
