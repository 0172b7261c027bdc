-- A call that goes in pieces, one after the other. Assumes nothing.
use Rattle.std.specs.Prelude.{◌≡◌, ◌≢◌, List, [], ◌∷◌, ◌++◌}
use Rattle.refusal.specs.Replies.{Reply, acceptance}

-- A piece goes by a call on m, which a state s may shape; accepted, the piece is gone from that
-- state. A refusal is passed on as it is told.
module _ {A M S : Type 0} (told : Reply → Reply) (call : S → M → A → Reply × M)
    (without : A → S → S) where
  -- pieces that went one after the other, each accepted
  abbrev pub Taken : List A → S → M → S → M → Type 0
  Taken [] s m t k = (t ≡ s) × (k ≡ m)
  Taken (a ∷ more) s m t k =
      ((call s m a).0.number ≡ 0) × Taken more (without a s) (call s m a).1 t k

  -- all pieces are gone; or the next was refused, and the call ends with it
  abbrev pub EndedAt : List A → S → M → Reply → M → Type 0
  EndedAt [] s m r k = (r ≡ acceptance []) × (k ≡ m)
  EndedAt (a ∷ more) s m r k =
      ((call s m a).0.number ≢ 0) × (r ≡ told (call s m a).0) × (k ≡ (call s m a).1)

  -- The call answered r, and left t of the state s, and k of m: exactly the pieces before the first
  -- that was refused are gone.
  pub record InPieces (pieces : List A) (s : S) (m : M) (r : Reply) (t : S) (k : M) : Type 0 where
    pub front : List A
    pub rest : List A
    pub whole : pieces ≡ front ++ rest
    pub between : M
    pub taken : Taken front s m t between
    pub ended : EndedAt rest t between r k
