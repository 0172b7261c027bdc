-- What a `try_fold` to an `Option` gives, from what its iterator yields. Assumes nothing.
use Rattle.std.proofs.Common.{◌≡◌, List, [], ◌∷◌, None, Some, Option, sym, ap, subst, ◌∙◌}
use Rattle.std.specs.Iterator.{TryFoldsItems, TryFoldTurn, YieldsThen, AlwaysYields}
use Rattle.std.specs.List.{FoldsTo}
use Rattle.std.specs.Option.{MatchOption}
use Rattle.std.specs.ControlFlow.{continue_value}
use Rattle.std.specs.Fn.{Called}
use Rattle.std.specs.declared.ops.ControlFlow.{ControlFlow}
use Rattle.std.specs.declared.ops.ControlFlow.TheVariants.{Continue, Break}
use Rattle.std.proofs.lemmas.Iterator.{YieldsList}
use denote.Param.Members.{Mut}

-- a fold that may stop
abbrev pub onward : {X B : Type 0} → (B → X → Option B) → Option B → List X → Option B
onward h None xs = None
onward h (Some b) [] = Some b
onward h (Some b) (x ∷ xs) = onward h (h b x) xs

module _ {S A X B F : Type 0} (E : Type 0) (steps : S → Option A → S → Type 0) (v : A → X)
    (g : Mut F (B × (A × Unit {0})) (Option B)) (h : B → X → Option B) (f : F)
    (k : (b : B) (x : A) (r : Option B) (q : F) → Called g f (b, (x, tt)) r q → (q ≡ f)
    × (r ≡ h b (v x))) (u : S) (r : Option B) where
  abbrev Branches : Option B → ControlFlow E B → Type 0
  Branches w s = w ≡ continue_value s

  whole : (xs : List A) (o : Option A) (f' : F) (a b : B) (s : S) (ys : List X)
      → AlwaysYields steps v s ys → YieldsThen steps s xs o u
      → FoldsTo {P = F × B} (TryFoldTurn {R = Option B} {E = E} g Branches) (f, b) xs (f', a)
      → MatchOption o (Branches r (Continue a))
      (λ x. (w : Option B) × (q : F) × (e : E) × Called g f' (a, (x, tt)) w q
      × Branches w (Break e) × (r ≡ None))
      → r ≡ onward h (Some b) ys
  whole [] None f' a b s [] l y c m = m ∙ ap (λ (p : F × B). Some p.1) (sym c)
  whole [] None f' a b s (z ∷ zs) l y c m =
      absurd (l.0 u (subst (λ i. steps i None u) (sym y.1) y.2))
  whole [] (Some x) f' a b s [] l y c m =
      absurd (l x u (subst (λ i. steps i (Some x) u) (sym y.1) y.2))
  whole [] (Some x) f' a b s (z ∷ zs) l y c m =
      let stopped : h b (v x) ≡ None =
      sym (k b x m.0 m.1
      (subst (λ (p : F × B). Called g p.0 (p.1, (x, tt)) m.0 m.1) (sym c) m.3)).1 ∙ m.4 in
      let here : v x ≡ z = (l.1 x u (subst (λ i. steps i (Some x) u) (sym y.1) y.2)).0 in
      m.5 ∙ ap (λ o. onward h o zs) (sym stopped ∙ ap (h b) here)
  whole (x ∷ xs) o f' a b s [] l y c m = absurd (l x y.1.0 y.1.1)
  whole (x ∷ xs) o f' a b s (z ∷ zs) l y c m =
      let n = l.1 x y.1.0 y.1.1 in
      let called = k b x c.1.0 c.0.0 c.1.1 in
      let rest : FoldsTo {P = F × B} (TryFoldTurn {R = Option B} {E = E} g Branches) (f, c.0.1) xs
      (f', a) =
      subst (λ (p : F × B). FoldsTo {P = F × B} (TryFoldTurn {R = Option B} {E = E} g Branches)
      p xs (f', a)) {x = c.0} {y = (f, c.0.1)} (λ i. (called.0 i, c.0.1)) c.2 in
      whole xs o f' a c.0.1 y.1.0 zs n.1 (y.0, y.1.2, y.2) rest m
      ∙ ap (λ o. onward h o zs) (sym c.1.2 ∙ called.1 ∙ ap (h b) n.0)

  pub onward_from_try_fold : (b : B) {s : S} {ys : List X}
      → TryFoldsItems steps g Branches (λ _ w. w ≡ None) s f b r u → YieldsList steps v s ys
      → r ≡ onward h (Some b) ys
  onward_from_try_fold b {s} {ys} d l = whole d.0 d.1 d.2 d.3 b s ys l.runs d.4 d.5 d.6
