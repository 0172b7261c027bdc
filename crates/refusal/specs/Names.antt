-- What a refusal and a failed transfer are called in text. Assumes nothing.
use Rattle.std.specs.Prelude.{ℕ, if◌then◌else◌, List, [], ◌∷◌, ◌++◌, codes, decimal, ◌==◌}
use Rattle.refusal.specs.Replies.{Reply}

-- the name of a refusal, by its number
abbrev pub refusal_name : ℕ → List ℕ
refusal_name n =
    if n == 1 then codes "length"
    else if n == 2 then codes "register"
    else if n == 3 then codes "live"
    else if n == 4 then codes "setting"
    else if n == 5 then codes "asleep"
    else if n == 6 then codes "line"
    else if n == 7 then codes "address"
    else codes "memory"

-- a refusal by its number
abbrev pub refused_text : ℕ → List ℕ
refused_text n = codes "refused " ++ (decimal n ++ (codes " " ++ refusal_name n))

-- what a failed transfer tells: on a bus a cause and how many words were stored, on a port a cause,
-- a register and an errand
abbrev pub failure_text : List ℕ → List ℕ
failure_text [] = []
failure_text (cause ∷ []) = []
failure_text (cause ∷ stored ∷ []) =
    codes "cause " ++ (decimal cause ++ (codes ", stored " ++ decimal stored))
failure_text (cause ∷ register ∷ errand ∷ more) =
    codes "cause "
    ++ (decimal cause
    ++ (codes ", register " ++ (decimal register ++ (codes ", errand " ++ decimal errand))))

-- a refusal by its number and its name; that of a failed transfer goes on with what is told
abbrev pub refusal_text : Reply → List ℕ
refusal_text r =
    refused_text r.number ++ (if r.number == 6 then codes ", " ++ failure_text r.values else [])
