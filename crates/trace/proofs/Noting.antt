-- A trace that lost no event has all of them. Assumes nothing.
use Rattle.std.proofs.Common.{◌≡◌, ℕ, ◌+◌, ◌-◌, ◌^◌, ◌<◌, min, true, false, List, [], ◌∷◌}
use Rattle.std.proofs.Common.{◌++◌, length, ltb, refl, ap, ⊎_elim, arith}
use Rattle.std.proofs.lemmas.Bool.{cases_Bool, lt-ltb}
use Rattle.std.proofs.lemmas.List.{length-append}
use Rattle.trace.specs.declared.event.Event.{Event}
use Rattle.trace.specs.Traces.{Traced, with_event, HoldsAll, CountsAll, LosesNoneInRoom}

module _ (e : Event) (t : Traced) where
  -- an event that finds room, and one that does not
  with_room : ltb (length t.events) t.room ≡ true
      → with_event e t ≡ record t { events = t.events ++ (e ∷ []) }
  unfolding with_event
  with_room free = rw free refl

  without_room : ltb (length t.events) t.room ≡ false
      → with_event e t ≡ record t { lost = min (t.lost + 1) (2 ^ 64 - 1) }
  unfolding with_event
  without_room full = rw full refl

  pub holds_next : (es : List Event) → HoldsAll es t → HoldsAll (es ++ (e ∷ [])) (with_event e t)
  holds_next es holds = ⊎_elim
      (λ free. rw (with_room free) (λ none. ap (λ xs. xs ++ (e ∷ [])) (holds none)))
      (λ full. rw (without_room full) (λ none. absurd (grind (arith, none))))
      (cases_Bool (ltb (length t.events) t.room))

  pub room_next : LosesNoneInRoom t (with_event e t)
  room_next room = rw (with_room (lt-ltb (length t.events) t.room room)) refl

  pub counts_next : (n : ℕ) → n + 1 < 2 ^ 64 → CountsAll n t → CountsAll (n + 1) (with_event e t)
  counts_next n few counts = ⊎_elim
      (λ free. rw (with_room free) (simp length-append (omega (arith, counts))))
      (λ full. rw (without_room full) (grind (arith, counts, few)))
      (cases_Bool (ltb (length t.events) t.room))

-- what is so of a trace after one event more
pub ruleset next = (holds_next, counts_next, room_next)
