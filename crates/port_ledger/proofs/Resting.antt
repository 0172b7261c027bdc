-- A run by the calls of a sheet, as a run of the calls that they are. Assumes nothing.
use Rattle.std.proofs.Common.{◌≡◌, List, [], ◌∷◌, ◌++◌, map, Ok, Err, sym, subst, refl, ap, ◌∙◌}
use Rattle.std.specs.Prelude.{Result, MatchResult, IfOk}
use Rattle.refusal.specs.Replies.{Reply, fault_values}
use Rattle.refusal.specs.declared.refusal.Fault.{Fault}
use Rattle.trace.specs.Traces.{Traced}
use Rattle.port.specs.Meaning.{PortMachine}
use Rattle.bench_call.specs.Rests.{calls_of, port_calls}
use Rattle.bench_call.specs.declared.PileCall.{PileCall}
use Rattle.bench_call.specs.declared.PileCall.TheVariants.{Port, Suspend, Resume}
use Rattle.bench_call.specs.declared.PortCall.{PortCall}
use Rattle.bench_call.specs.declared.PortCall.TheVariants.{Sync, Down, Up}
use Rattle.bench_run.specs.Performed.{pile_call, Seen, seen_of, walk}
use Rattle.bench_run.specs.declared.answer.Outcome.{Outcome}
use Rattle.port_ledger.specs.Fits.{CallsFit}
use Rattle.port_ledger.specs.Moments.{Moment}
use Rattle.port_ledger.specs.Rested.{call_moments, call_replies}
use Rattle.port_ledger.specs.Runs.{moments, after}
use Rattle.port_ledger.specs.Records.{pile_reply}

seen_replies : (os : List (Outcome Fault))
    → map (λ s. s.reply) (map (seen_of fault_values) os) ≡ map (λ o. pile_reply o.answer) os
seen_replies [] = refl
seen_replies (o ∷ os) = ap (λ rs. pile_reply o.answer ∷ rs) (seen_replies os)

-- What is so once a list of calls was performed, and nothing where there was no memory: the replies
-- of the outcomes, and what is left.
pub record Performed {V E M : Type 0} (items : V → List (Outcome Fault)) (rs : List Reply) (n k : M)
    (r : Result V E) : Type 0 where
  pub replies : IfOk r (λ v. map (λ o. pile_reply o.answer) (items v) ≡ rs)
  pub left : IfOk r (λ _. k ≡ n)

-- by what the calls come to one after the other, of whatever kind they are
walk_performed : {C M V E : Type 0} (does : C → M → Reply × M) (trace : M → Traced)
    (items : V → List (Outcome Fault)) (cs : List C) (m k : M) (r : Result V E)
    (rs : List Reply) (n : M) → map (λ s. s.reply) (walk does trace cs m).0 ≡ rs
    → (walk does trace cs m).1 ≡ n
    → MatchResult r (λ v. (map (seen_of fault_values) (items v), k) ≡ walk does trace cs m)
    (λ _. k ≡ m)
    → Performed items rs n k r
walk_performed does trace items cs m k (Ok v) rs n told leads e = record {
  replies =
      sym (seen_replies (items v)) ∙ ap (λ (q : List Seen × _). map (λ s. s.reply) q.0) e ∙ told;
  left = ap (λ (q : List Seen × _). q.1) e ∙ leads;
}
walk_performed does trace items cs m k (Err x) rs n told leads e =
    record { replies = tt; left = tt }

-- a fact of what is left, by what the calls lead to
pub if_left : {V E M : Type 0} (P : M → Type 0) (k m : M) (r : Result V E)
    → IfOk r (λ _. k ≡ m) → P m → IfOk r (λ _. P k)
if_left P k m (Ok v) e p = subst P (sym e) p
if_left P k m (Err x) e p = tt

pub fits_join : (cs ds : List PortCall) → CallsFit cs → CallsFit ds → CallsFit (cs ++ ds)
fits_join [] ds none fits = fits
fits_join (c ∷ cs) ds (fit, all) fits = (fit, fits_join cs ds all fits)

pub port_calls_push : (cs : List PileCall) (c : PileCall)
    → port_calls (cs ++ (c ∷ [])) ≡ port_calls cs ++ calls_of c
port_calls_push [] (Port c) = refl
port_calls_push [] Suspend = refl
port_calls_push [] Resume = refl
port_calls_push (Port x ∷ cs) c = ap (λ ds. x ∷ ds) (port_calls_push cs c)
port_calls_push (Suspend ∷ cs) c = ap (λ ds. Down ∷ ds) (port_calls_push cs c)
port_calls_push (Resume ∷ cs) c = ap (λ ds. Up ∷ (Sync ∷ ds)) (port_calls_push cs c)

module _ {M : Type 0} (port : PortMachine M) where
  abbrev does : PileCall → M → Reply × M
  does = pile_call port

  walk_replies : (cs : List PileCall) (m : M) (past : List Moment)
      → map (λ s. s.reply) (walk does port.trace cs m).0
      ≡ map (λ p. p.now.reply) (call_moments past cs (moments port (port_calls cs) m))
  walk_replies [] m past = refl
  walk_replies (Port c ∷ cs) m past =
      ap (λ rs. (does (Port c) m).0 ∷ rs) (walk_replies cs (does (Port c) m).1 _)
  walk_replies (Suspend ∷ cs) m past =
      ap (λ rs. (does Suspend m).0 ∷ rs) (walk_replies cs (does Suspend m).1 _)
  walk_replies (Resume ∷ cs) m past =
      ap (λ rs. (does Resume m).0 ∷ rs) (walk_replies cs (does Resume m).1 _)

  pub walk_after : (cs : List PileCall) (m : M)
      → (walk does port.trace cs m).1 ≡ after port (port_calls cs) m
  walk_after [] m = refl
  walk_after (Port c ∷ cs) m = walk_after cs (does (Port c) m).1
  walk_after (Suspend ∷ cs) m = walk_after cs (does Suspend m).1
  walk_after (Resume ∷ cs) m = walk_after cs (does Resume m).1

  pub all_performed : {V E : Type 0} (items : V → List (Outcome Fault)) (cs : List PileCall)
      (m k : M) (r : Result V E)
      → MatchResult r (λ v. (map (seen_of fault_values) (items v), k) ≡ walk does port.trace cs m)
      (λ _. k ≡ m)
      → let run = moments port (port_calls cs) m in
      Performed items (call_replies cs run) (after port (port_calls cs) m) k r
  all_performed items cs m k r =
      walk_performed does port.trace items cs m k r
      (call_replies cs (moments port (port_calls cs) m)) (after port (port_calls cs) m)
      (walk_replies cs m []) (walk_after cs m)
