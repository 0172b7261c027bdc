-- The rules of every layer: what goes below, in which order, and what is left. Assumes nothing.
use Rattle.std.specs.Prelude.{◌≡◌, ◌≢◌, ℕ, Bool, true, false, None, List, [], length}
use Rattle.refusal.specs.Replies.{Reply, refusal_of}
use Rattle.chart.specs.declared.class.Class.{Class}
use Rattle.chart.specs.declared.class.Class.TheVariants.{Live}
use Rattle.port.specs.Checks.{run_check}
use Rattle.port.specs.Meaning.{PortMachine, supply}
use Rattle.port.specs.OneByOne.{InOrder}
use Rattle.port.specs.Pieces.{InPieces}
use Rattle.port_layer.specs.Errands.{on_owed}
use Rattle.port_layer.specs.Layer.{Over, over, Sending}

module _ {S M : Type 0} where
  -- A call that has all sent first. If that is refused, the call ends with that reply, and nothing
  -- else was done. If it is accepted, the call goes below, once; its reply is as it came, and all
  -- else is as the sending left it.
  pub record SendsFirst (send : Over S M → Reply × Over S M) (call : M → Reply × M) (m : Over S M)
      (q : Reply × Over S M) : Type 0 where
    pub if_refused : (send m).0.number ≢ 0 → q ≡ send m
    pub if_accepted : (send m).0.number ≡ 0 →
        let k = (send m).1 in
        let p = call k.below in q ≡ (p.0, over k.own p.1)

module _ {A S M : Type 0} where
  -- What a layer has went below piece by piece. An accepted piece is gone from the layer's own; at
  -- the first that is refused the sending ends, told as owed, and that piece and all behind it are
  -- still there.
  abbrev pub SentInPieces : Sending A S M → Over S M → Reply × Over S M → Type 0
  SentInPieces s m q =
      InPieces on_owed s.call s.without (s.pieces m.own) m.own m.below q.0 q.1.own q.1.below

  -- Over a port, of some chart; what a layer sends, and whether it keeps.
  pub record LayerLaws (port : PortMachine M) (class : ℕ → Class) (sending : Sending A S M)
      (keeps : Bool) (top : PortMachine (Over S M)) : Type 0 where
    -- All that the layer has goes below piece by piece.
    pub send : Over S M → Reply × Over S M
    pub in_pieces : (m : Over S M) → SentInPieces sending m (send m)
    -- With the supply on it goes ahead of a live read, and ahead of a sync.
    pub live_read : (m : Over S M) (n : ℕ) → class n ≡ Live → supply port m.below ≡ true
        → SendsFirst send (λ b. port.read b n) m (top.read m n)
    pub sync : (m : Over S M) → supply port m.below ≡ true
        → SendsFirst send port.sync m (top.sync m)
    -- With the supply off a sync is refused, and nothing changes.
    pub sync_asleep : (m : Over S M) → supply port m.below ≡ false
        → top.sync m ≡ (refusal_of 5 [], m)
    -- A run that is not refused as a whole is an update for each word, up to one that is refused.
    pub run : (m : Over S M) (first : ℕ) (ws : List ℕ)
        → run_check keeps class first (length ws) (supply port m.below) ≡ None
        → let q = top.run m first ws in InOrder top.update first ws m q.0 q.1
    -- A measurement goes below and comes back as it came, and the supply comes back below. The
    -- layer's own stands.
    pub measure : (m : Over S M) (n w : ℕ)
        → let p = port.measure m.below n w in top.measure m n w ≡ (p.0, over m.own p.1)
    pub up : (m : Over S M) → top.up m ≡ over m.own (port.up m.below)
    -- The port below goes down.
    pub down : (m : Over S M) → (top.down m).below ≡ port.down m.below
