-- A run by the calls of a sheet, some of which begin or end a rest. Assumes nothing.
use Rattle.std.specs.Prelude.{List, [], ◌∷◌, ◌++◌, map}
use Rattle.refusal.specs.Replies.{Reply}
use Rattle.bench_call.specs.declared.PileCall.{PileCall}
use Rattle.bench_call.specs.declared.PileCall.TheVariants.{Port, Suspend, Resume}
use Rattle.port_ledger.specs.Moments.{Moment}

-- a moment of a run, and those before it
pub record Placed : Type 0 where
  pub past : List Moment
  pub now : Moment

abbrev pub with_moment : List Moment → Moment → List Moment
with_moment past m = past ++ (m ∷ [])

-- The moment that each call of a sheet has in a run that goes on after some: to resume is two
-- moments, up and a sync, of which it has the sync's. Each other call is one.
abbrev pub call_moments : List Moment → List PileCall → List Moment → List Placed
call_moments past (Port c ∷ cs) (m ∷ ms) =
    record { past = past; now = m } ∷ call_moments (with_moment past m) cs ms
call_moments past (Suspend ∷ cs) (m ∷ ms) =
    record { past = past; now = m } ∷ call_moments (with_moment past m) cs ms
call_moments past (Resume ∷ cs) (up ∷ (sync ∷ ms)) =
    record { past = with_moment past up; now = sync }
    ∷ call_moments (with_moment (with_moment past up) sync) cs ms
call_moments _ _ _ = []

-- what each call answers: the reply of its moment
abbrev pub call_replies : List PileCall → List Moment → List Reply
call_replies cs ms = map (λ p. p.now.reply) (call_moments [] cs ms)
