-- What a call in pieces leaves, from what each piece leaves alone. Assumes nothing.
use Rattle.std.proofs.Common.{◌≡◌, ◌≢◌, ℕ, ◌+◌, eqb, cond, List, [], ◌∷◌, ◌++◌, sym, refl, ap}
use Rattle.std.proofs.Common.{◌∙◌, subst}
use Rattle.std.proofs.lemmas.List.{append-nil}
use Rattle.std.proofs.lemmas.Bool.{cond_both, cond-true, cond-false, eqb-true, eq-eqb, both_ways}
use Rattle.patch.specs.Patch.{setting_to}
use Rattle.refusal.specs.Replies.{Reply}
use Rattle.patch.specs.declared.patch.Patch.{Patch}
use Rattle.chip.specs.Words.{rising_words}
use Rattle.port.specs.Checks.{is_accepted, onward, in_turn}
use Rattle.port.specs.OneByOne.{one_by_one, update_word, InOrder}
use Rattle.port.specs.Pieces.{InPieces, Taken, EndedAt}

-- What the calls are on, a state over that, and how it sends a piece. What is told of a
-- refusal keeps its number.
module _ {A K M S : Type 0} (tell : Reply → Reply)
    (numbers : (r : Reply) → (tell r).number ≡ r.number)
    (call : S → M → A → Reply × M) (without : A → S → S)
    (below : K → M) (own : K → S) (send : K → A → Reply × K) where
  -- One piece went and came back: it is told, and gone once it was accepted.
  pub record PieceBack (k : K) (a : A) : Type 0 where
    pub told : (send k a).0 ≡ tell (call (own k) (below k) a).0
    pub under : below (send k a).1 ≡ (call (own k) (below k) a).1
    pub kept : own (send k a).1
        ≡ cond (is_accepted (call (own k) (below k) a).0) (without a (own k)) (own k)

  -- what was answered, and the layer that is left
  abbrev Sent : List A → S → M → Reply × K → Type 0
  Sent pieces s b q = InPieces tell call without pieces s b q.0 (own q.1) (below q.1)

  -- a first piece that was accepted, and then the others
  with_first : (a : A) (more : List A) (s t : S) (b c : M) (q : Reply × K)
      → (call s b a).0.number ≡ 0 → t ≡ without a s → c ≡ (call s b a).1
      → Sent more t c q → Sent (a ∷ more) s b q
  with_first a more s t b c q ok gone under rest = record {
    front = a ∷ rest.front;
    rest = rest.rest;
    whole = ap (λ l. a ∷ l) rest.whole;
    between = rest.between;
    taken = (ok, rw (← gone, ← under) rest.taken);
    ended = rest.ended;
  }

  -- a first piece that was refused
  at_first : (a : A) (more : List A) (s : S) (b : M) (q : Reply × K)
      → (call s b a).0.number ≢ 0 → own q.1 ≡ s → q.0 ≡ tell (call s b a).0
      → below q.1 ≡ (call s b a).1 → Sent (a ∷ more) s b q
  at_first a more s b q stopped same told under = record {
    front = [];
    rest = a ∷ more;
    whole = refl;
    between = b;
    taken = (same, refl);
    ended = rw same (stopped, told, under);
  }

  module _ (each : (k : K) (a : A) → PieceBack k a) where
    pub sent_in_pieces : (pieces : List A) (k : K)
        → Sent pieces (own k) (below k) (in_turn send pieces k)
    sent_in_pieces [] k = record {
      front = [];
      rest = [];
      whole = refl;
      between = below k;
      taken = (refl, refl);
      ended = (refl, refl);
    }
    sent_in_pieces (a ∷ more) k =
        let q = send k a in
        let back = each k a in
        let same : is_accepted (call (own k) (below k) a).0 ≡ is_accepted q.0 =
        ap (λ n. eqb n 0)
        (sym (ap (λ r. r.number) back.told ∙ numbers (call (own k) (below k) a).0)) in
        cond_both (is_accepted q.0) (in_turn send more q.1) q (Sent (a ∷ more) (own k) (below k))
        (λ ok. with_first a more (own k) (own q.1) (below k) (below q.1) (in_turn send more q.1)
        (eqb-true _ _ (same ∙ ok)) (back.kept ∙ cond-true _ _ _ (same ∙ ok)) back.under
        (sent_in_pieces more q.1))
        (λ refused. at_first a more (own k) (below k) q
        (λ e. both_ways _ (same ∙ refused) (eq-eqb _ _ e))
        (back.kept ∙ cond-false _ _ _ (same ∙ refused)) back.told back.under)

-- Where the whole call was accepted, all pieces were.
module _ {A M S : Type 0} (tell : Reply → Reply)
    (numbers : (r : Reply) → (tell r).number ≡ r.number)
    (call : S → M → A → Reply × M) (without : A → S → S)
    (pieces : List A) (s t : S) (b c : M) (r : Reply) (ok : r.number ≡ 0) where
  none_refused : (front rest : List A) (between : M) → pieces ≡ front ++ rest
      → Taken tell call without front s b t between
      → EndedAt tell call without rest t between r c
      → Taken tell call without pieces s b t c
  none_refused front [] between whole taken ended =
      rw (whole, append-nil front, ended.1) taken
  none_refused front (a ∷ more) between whole taken (refuses, as_told, left) =
      absurd (refuses (sym (ap (λ x. x.number) as_told ∙ numbers _) ∙ ok))

  pub all_taken : InPieces tell call without pieces s b r t c
      → Taken tell call without pieces s b t c
  all_taken is = none_refused is.front is.rest is.between is.whole is.taken is.ended

-- A run by updates goes word by word, in order.
module _ {M : Type 0} (update : M → ℕ → Patch → Reply × M) where
  by_words : (m : M) (first : ℕ) (ws : List ℕ)
      → one_by_one update m first ws ≡ in_turn (update_word update) (rising_words first ws) m
  by_words m first [] = refl
  by_words m first (w ∷ ws) =
      let q = update m first (setting_to w) in
      cond_both (is_accepted q.0) (one_by_one update q.1 (first + 1) ws) q
      (λ p. p ≡ onward q (in_turn (update_word update) (rising_words (first + 1) ws)))
      (λ ok. by_words q.1 (first + 1) ws ∙ sym (cond-true (is_accepted q.0) _ _ ok))
      (λ refused. sym (cond-false (is_accepted q.0) _ _ refused))

  each_word : (m : M) (word : ℕ × ℕ)
      → PieceBack (λ r. r) (λ r. refl) (λ (_ : Unit {0}). update_word update) (λ _ s. s)
      (λ k. k) (λ _. tt) (update_word update) m word
  each_word m word = record { told = refl; under = refl; kept = refl }

  pub in_order : (m : M) (first : ℕ) (ws : List ℕ)
      → let q = one_by_one update m first ws in InOrder update first ws m q.0 q.1
  in_order m first ws =
      subst (λ q. InOrder update first ws m q.0 q.1) (sym (by_words m first ws))
      (sent_in_pieces (λ r. r) (λ r. refl) (λ (_ : Unit {0}). update_word update) (λ _ s. s)
      (λ k. k) (λ _. tt) (update_word update) each_word (rising_words first ws) m)
