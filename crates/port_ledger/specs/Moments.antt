-- What is seen of a run of calls on a pile. Assumes nothing.
use Rattle.std.specs.Prelude.{◌≡◌, ℕ, Bool, if◌then◌else◌, List, [], ◌∷◌, ◌==◌, nat_lt}
use Rattle.patch.specs.Patch.{word_after, patch_of}
use Rattle.refusal.specs.Replies.{Reply, refusal_of}
use Rattle.bus.specs.Chips.{Chip}
use Rattle.port.specs.Checks.{is_accepted}
use Rattle.bench_call.specs.declared.PortCall.{PortCall}
use Rattle.bench_call.specs.declared.PortCall.TheVariants.{Update}

-- One call of a run: what was asked, what was answered, and the chip as the call found it and as it
-- left it.
pub record Moment : Type 0 where
  pub call : PortCall
  pub reply : Reply
  pub before : Chip
  pub after : Chip

-- whether a transfer failed in it: the bus's count rose
abbrev pub transfer_failed : Moment → Bool
transfer_failed m = nat_lt m.before.failed m.after.failed

-- a run, from the chip that it found to the chip that it left: each call finds what the one before
-- it left
abbrev pub Joined : Chip → List Moment → Chip → Type 0
Joined first [] last = last ≡ first
Joined first (m ∷ ms) last = (m.before ≡ first) × Joined m.after ms last

-- a reply but for a fault's cause, register and errand
abbrev pub plain_reply : Reply → Reply
plain_reply r = if r.number == 6 then refusal_of 6 [] else r

-- what a call asks to make of the word of register n
abbrev pub asked_of : ℕ → PortCall → ℕ → ℕ
asked_of n (Update k mask bits) w = if n == k then word_after (patch_of mask bits) w else w
asked_of n _ w = w

-- The word that setting n is due: its word at first, changed by every accepted update of it, in
-- order.
abbrev pub due_word : ℕ → ℕ → List Moment → ℕ
due_word n w [] = w
due_word n w (m ∷ ms) =
    due_word n (if is_accepted m.reply then asked_of n m.call w else w) ms
