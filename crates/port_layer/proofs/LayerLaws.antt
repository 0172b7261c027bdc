-- Every layer's machine keeps to the rules of layers. Assumes nothing.
use Rattle.std.proofs.Common.{◌≡◌, ℕ, cond, refl, ⊎_elim}
use Rattle.std.proofs.lemmas.Bool.{cond_both, cases_Bool}
use Rattle.refusal.specs.Replies.{Reply}
use Rattle.chart.specs.declared.class.Class.{Class}
use Rattle.port.specs.Checks.{is_accepted}
use Rattle.port.specs.Meaning.{PortMachine}
use Rattle.port.specs.Pieces.{Taken}
use Rattle.port.proofs.InPieces.{PieceBack, sent_in_pieces, all_taken, in_order}
use Rattle.port_layer.specs.Errands.{on_owed}
use Rattle.port_layer.proofs.Standing.{part_follows, part_ends}
use Rattle.port_layer.specs.Layer.{Over, back, Sending, piece_back, send_piece, send_all}
use Rattle.port_layer.specs.Layer.{send_first}
use Rattle.port_layer.specs.Layer.{Layer, layer_machine}
use Rattle.port_layer.specs.Laws.{SentInPieces, SendsFirst, LayerLaws}

module _ {A S M : Type 0} (s : Sending A S M) where
  abbrev L : Type 0
  L = Over S M

  -- a piece that came back with any reply
  module _ (m : L) (a : A) (p : Reply × M) where
    abbrev came : Reply × L
    came = piece_back s m a p

    told : came.0 ≡ on_owed p.0
    told = cond_both (is_accepted p.0) _ _ (λ (q : Reply × L). q.0 ≡ on_owed p.0)
        (λ _. refl)
        (λ _. refl)

    under : came.1.below ≡ p.1
    under = cond_both (is_accepted p.0) _ _ (λ (q : Reply × L). q.1.below ≡ p.1)
        (λ _. refl)
        (λ _. refl)

    kept : came.1.own ≡ cond (is_accepted p.0) (s.without a m.own) m.own
    kept = ⊎_elim (λ ok. rw ok refl) (λ no. rw no refl) (cases_Bool (is_accepted p.0))

  each_piece : (m : L) (a : A)
      → PieceBack on_owed (λ c. refl) s.call s.without (λ k. k.below) (λ k. k.own)
      (send_piece s) m a
  each_piece m a =
      let p = s.call m.own m.below a in
      record { told = told m a p; under = under m a p; kept = kept m a p }

  pub in_pieces : (m : L) → SentInPieces s m (send_all s m)
  in_pieces m =
      sent_in_pieces on_owed (λ c. refl) s.call s.without (λ (k : L). k.below) (λ k. k.own)
      (send_piece s) each_piece (s.pieces m.own) m

  -- where all was accepted, every piece was
  pub all_gone : (m : L) → (send_all s m).0.number ≡ 0
      → Taken on_owed s.call s.without (s.pieces m.own) m.own m.below
      (send_all s m).1.own (send_all s m).1.below
  all_gone m ok =
      let q = send_all s m in
      all_taken on_owed (λ c. refl) s.call s.without (s.pieces m.own) m.own q.1.own
      m.below q.1.below q.0 ok (in_pieces m)

  pub sends_first : (call : M → Reply × M) (m : L)
      → SendsFirst (send_all s) call m (send_first s call m)
  sends_first call m = record {
    if_refused = part_ends (send_all s m) (λ k. back k (call k.below));
    if_accepted = part_follows (send_all s m) (λ k. back k (call k.below));
  }

module _ {A S M : Type 0} (port : PortMachine M) (class : ℕ → Class) (l : Layer A S M) where
  abbrev pub layer_laws : LayerLaws port class l.sending l.keeps (layer_machine port class l)
  layer_laws = record {
    send = send_all l.sending;
    in_pieces = in_pieces l.sending;
    live_read = λ m n c awake. rw (c, awake) (sends_first l.sending (λ b. port.read b n) m);
    sync = λ m awake. rw awake (sends_first l.sending port.sync m);
    sync_asleep = λ m off. rw off refl;
    run = λ m first ws goes.
        rw goes (in_order (layer_machine port class l).update m first ws);
    measure = λ m n w. refl;
    up = λ m. refl;
    down = λ m. refl;
  }
