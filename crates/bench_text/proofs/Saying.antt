-- What is printed is the text that is promised. Assumes nothing.
use Rattle.std.proofs.Common.{◌≡◌, ℕ, min, ◌⊎◌, inl, inr, List, [], ◌∷◌, ◌++◌, map, length, refl}
use Rattle.std.proofs.Common.{arith}
use lib.ListN.{length-map}
use Rattle.refusal.specs.Replies.{Reply}
use Rattle.trace.specs.Traces.{Traced}
use Rattle.trace.specs.declared.event.Event.{Event}
use Rattle.bench_run.specs.Performed.{Seen}
use Rattle.bench_text.specs.Noting.{call_entries}
use Rattle.bench_text.specs.Texts.{calls_lines, full_text, tally_text, transcript_text}

module _ {C S : Type 0} (text : C → List ℕ) (next : S → C → Reply → S) (told : S → List ℕ) where
  nothing_seen : (s : S) (cs : List C) → call_entries text next told s cs [] ≡ []
  nothing_seen s [] = refl
  nothing_seen s (c ∷ cs) = refl

  -- where no call is left, or none of what was seen, no line is
  pub nothing_left : {O : Type 0} (s : S) (seen : O → Seen) (es : List Event) (number passed : ℕ)
      (cs : List C) (os : List O) → (cs ≡ []) ⊎ (os ≡ [])
      → calls_lines es number passed (call_entries text next told s cs (map seen os)) ≡ []
  nothing_left s seen es number passed cs os (inl e) = rw e refl
  nothing_left s seen es number passed cs os (inr e) = rw (e, nothing_seen s cs) refl

  -- a line for each call of which something was seen
  pub line_count : (s : S) (cs : List C) (xs : List Seen)
      → length (call_entries text next told s cs xs) ≡ min (length cs) (length xs)
  line_count s [] xs = grind arith
  line_count s (c ∷ cs) [] = grind arith
  line_count s (c ∷ cs) (x ∷ xs) = rw (line_count (next s c x.reply) cs xs) (omega arith)

  -- the whole, where each of its parts is known by another name
  pub whole : {O : Type 0} (s : S) (seen : O → Seen) (trace : Traced) (failed n count : ℕ)
      (cs : List C) (os : List O) (es : List Event) (note : List ℕ)
      → es ≡ trace.events → note ≡ full_text trace.lost → n ≡ min (length cs) (length os)
      → count ≡ failed
      → calls_lines es 0 0 (call_entries text next told s cs (map seen os))
      ++ (note ++ tally_text n count)
      ≡ transcript_text trace failed (call_entries text next told s cs (map seen os))
  whole s seen trace failed n count cs os es note e f m h =
      rw (e, f, m, h, line_count s cs (map seen os), length-map os seen) refl
