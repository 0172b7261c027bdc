-- What calls leave one after the other, and what a call on the port below leaves of the port above.
-- Assumes nothing.
use Rattle.std.proofs.Common.{◌≡◌, ◌≢◌, ℕ, List, ap, ◌∙◌, sym, refl, add-zero, arith}
use Rattle.std.proofs.lemmas.Bool.{cond-true, cond-false, eq-eqb, ne_eqb}
use Rattle.refusal.specs.Replies.{Reply, acceptance, refusal_of}
use Rattle.port.specs.Checks.{is_accepted, onward}
use Rattle.bus.specs.Chips.{Chip}
use Rattle.chart.specs.declared.class.Class.{Class}
use Rattle.port.specs.Views.{View, view_of}
use Rattle.port.specs.Meaning.{Stood, Faulted}
use Rattle.port_layer.specs.Errands.{on_owed}

-- everything else in a view is the chip's, and the same seen from any port over it
pub restood : {class : ℕ → Class} {n : ℕ} (f g h k : ℕ → ℕ) (c d : Chip)
    → Stood class n (view_of f c) (view_of g d) → Stood class n (view_of h c) (view_of k d)
restood f g h k c d s = record { live = s.live; supply = s.supply; failed = s.failed }

pub stood_still : {class : ℕ → Class} (v : View) → Stood class 0 v v
stood_still v = record { live = λ i l. refl; supply = refl; failed = sym (add-zero _) }

-- a call in which no transfer failed, and then another
pub stood_on : {class : ℕ → Class} (n : ℕ) (v u w : View) → Stood class 0 v u → Stood class n u w
    → Stood class n v w
stood_on n v u w a b =
    record {
      live = λ i l. b.live i l ∙ a.live i l;
      supply = b.supply ∙ a.supply;
      failed =
          omega (arith, a.failed, b.failed);
    }

-- a second part of a call that follows, and one that does not
pub part_follows : {K : Type 0} (q : Reply × K) (next : K → Reply × K) → q.0.number ≡ 0
    → onward q next ≡ next q.1
part_follows q next ok = cond-true (is_accepted q.0) _ _ (eq-eqb q.0.number 0 ok)

pub part_ends : {K : Type 0} (q : Reply × K) (next : K → Reply × K) → q.0.number ≢ 0
    → onward q next ≡ q
part_ends q next refuses = cond-false (is_accepted q.0) _ _ (ne_eqb q.0.number 0 refuses)

-- after these values, and after a fault
pub went_on : {K : Type 0} (q : Reply × K) (next : K → Reply × K) (vs : List ℕ)
    → q.0 ≡ acceptance vs → onward q next ≡ next q.1
went_on q next vs e = part_follows q next (ap (λ r. r.number) e)

pub ended : {K : Type 0} (q : Reply × K) (next : K → Reply × K) (vs : List ℕ)
    → q.0 ≡ refusal_of 6 vs → onward q next ≡ q
ended q next vs e =
    part_ends q next (λ none. let no : ◌≡◌ {A = ℕ} 6 0 = sym (ap (λ r. r.number) e) ∙ none in cc)

-- a fault stays one, on its new errand
pub owed_fault : {class : ℕ → Class} (r : Reply) → Faulted class r → Faulted class (on_owed r)
owed_fault r f = (f.0, f.1, 1, f.3, omega arith, ap on_owed f.5)
