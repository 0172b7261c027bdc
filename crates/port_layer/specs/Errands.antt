-- The errand that a fault is told with. Assumes nothing.
use Rattle.std.specs.Prelude.{◌≡◌, ℕ, List, [], ◌∷◌, take, slice_index}
use Rattle.refusal.specs.Replies.{Reply}

-- A fault told with errand 1: the port was sending what it owed from before, and not what it was
-- asked for.
abbrev pub owed_values : List ℕ → List ℕ
owed_values [] = []
owed_values (cause ∷ []) = cause ∷ []
owed_values (cause ∷ register ∷ []) = cause ∷ register ∷ []
owed_values (cause ∷ register ∷ errand ∷ more) = cause ∷ register ∷ 1 ∷ []

abbrev pub on_owed : Reply → Reply
on_owed r = record { number = r.number; values = owed_values r.values }

-- a fault is told, if one is, with errand 1
abbrev pub FaultIsOwed : Reply → Type 0
FaultIsOwed r = r.number ≡ 6 → slice_index r.values 2 ≡ 1

-- all else that is told stands: the number, and of a fault the cause and the register
abbrev pub SameButErrand : Reply → Reply → Type 0
SameButErrand before r = (r.number ≡ before.number) × (take 2 r.values ≡ take 2 before.values)
