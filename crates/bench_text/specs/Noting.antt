-- Calls with what is told under each. Assumes nothing.
use Rattle.std.specs.Prelude.{List, [], ◌∷◌, ℕ}
use Rattle.refusal.specs.Replies.{Reply}
use Rattle.bench_run.specs.Performed.{Seen}
use Rattle.bench_text.specs.Texts.{CallEntry}

-- What is told under a call is told by a state, as the call and those before it left it, each by
-- its reply.
abbrev pub call_entries : {C S : Type 0} → (C → List ℕ) → (S → C → Reply → S) → (S → List ℕ)
    → S → List C → List Seen → List CallEntry
call_entries text next told s [] ss = []
call_entries text next told s (c ∷ cs) [] = []
call_entries text next told s (c ∷ cs) (x ∷ ss) =
    let after = next s c x.reply in
    record { call = text c; reply = x.reply; passed = x.passed; under = told after }
    ∷ call_entries text next told after cs ss

-- nothing is told
abbrev pub nothing_next : {C : Type 0} → Unit {0} → C → Reply → Unit {0}
nothing_next s c r = s

abbrev pub nothing_text : Unit {0} → List ℕ
nothing_text s = []

-- the calls alone
abbrev pub bare_entries : {C : Type 0} → (C → List ℕ) → List C → List Seen → List CallEntry
bare_entries text cs ss = call_entries text nothing_next nothing_text tt cs ss
