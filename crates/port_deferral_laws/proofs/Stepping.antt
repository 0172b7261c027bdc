-- All that waits is sent one burst at a time. Assumes nothing.
use Rattle.std.proofs.Common.{◌≡◌, ◌-◌, ◌<◌, true, List, [], ◌∷◌, length, drop, sym, refl, ap, ◌∙◌}
use Rattle.std.proofs.Common.{arith}
use Rattle.std.proofs.lemmas.Bool.{cond_both, cond-true, cond-false, both_ways, eq-eqb}
use Rattle.std.proofs.lemmas.List.{length-drop}
use Rattle.refusal.specs.Replies.{Reply}
use Rattle.port.specs.Checks.{is_accepted, onward}
use Rattle.port.specs.Meaning.{PortMachine}
use Rattle.port_layer.specs.Errands.{on_owed}
use Rattle.port_layer.specs.Layer.{Sending, piece_back, send_piece, send_pieces, send_all}
use Rattle.port_deferral_table.specs.Entries.{bursts, first_of, first_burst}
use Rattle.port_deferral_table.specs.declared.entry.Entry.{Entry}
use Rattle.port_deferral_table.proofs.Cutting.{bursts_after, some_burst}
use Rattle.port_deferral_laws.specs.Machine.{DeferralModel, send_burst, deferral_sending}

module _ {M : Type 0} (port : PortMachine M) where
  abbrev D : Type 0
  D = DeferralModel M

  abbrev sending : Sending (List Entry) (List Entry) M
  sending = deferral_sending port

  abbrev all : D → Reply × D
  all = send_all sending

  -- the first burst of what waits goes below
  abbrev first : D → Reply × D
  first m = send_piece sending m (first_burst m.own)

  -- once a burst was accepted its entries are gone
  burst_leaves : (m : D) (b : List Entry) (p : Reply × M)
      → let q = piece_back sending m b p in
      is_accepted q.0 ≡ true → q.1.own ≡ drop (length b) m.own
  burst_leaves m b p = cond_both (is_accepted (on_owed p.0)) _ _
      (λ (q : Reply × D). is_accepted q.0 ≡ true → q.1.own ≡ drop (length b) m.own)
      (λ _ ok. refl)
      (λ ended ok. absurd (both_ways _ ended ok))

  on_by : (m : D) (bs : List (List Entry)) → 0 < length m.own → bursts m.own ≡ bs
      → send_pieces sending bs m ≡ onward (first m) all
  on_by m [] some is =
      absurd (omega (arith, some_burst m.own some, ap (λ cs. length (first_of cs)) is))
  on_by m (b ∷ bs) some is =
      let q = send_piece sending m b in
      cond_both (is_accepted q.0) (send_pieces sending bs q.1) q (λ r. r ≡ onward q all)
      (λ ok. same ok ∙ sym (cond-true (is_accepted q.0) (all q.1) q ok))
      (λ ended. sym (cond-false (is_accepted q.0) (all q.1) q ended))
      ∙ ap (λ c. onward (send_piece sending m c) all) (sym (ap first_of is))
    where
      same : is_accepted (send_piece sending m b).0 ≡ true
          → send_pieces sending bs (send_piece sending m b).1 ≡ all (send_piece sending m b).1
      same ok =
          let left = burst_leaves m b (send_burst port m.below b) ok in
          let others = ap bursts left ∙ bursts_after m.own b bs is in
          ap (λ cs. send_pieces sending cs (send_piece sending m b).1) (sym others)

  -- a burst that was accepted leaves less
  pub sends_less : (m k : D) (r : Reply) → 0 < length m.own
      → (r, k) ≡ send_piece (deferral_sending port) m (first_burst m.own) → r.number ≡ 0
      → length k.own < length m.own
  sends_less m k r some is ok =
      let burst = first_burst m.own in
      let done : is_accepted (first m).0 ≡ true =
      ap (λ x. is_accepted x.0) (sym is) ∙ eq-eqb r.number 0 ok in
      let gone = burst_leaves m burst (send_burst port m.below burst) done in
      let left : length k.own ≡ length m.own - length burst =
      ap (λ x. length x.1.own) is ∙ ap length gone ∙ length-drop (length burst) m.own in
      omega (arith, left, some_burst m.own some)

  -- where something waits, its first burst is sent, and then what is left, if that was accepted
  pub sends_by : (m k : D) (r : Reply) → 0 < length m.own
      → (r, k) ≡ send_piece (deferral_sending port) m (first_burst m.own)
      → send_all (deferral_sending port) m ≡ onward (r, k) (send_all (deferral_sending port))
  sends_by m k r some is =
      on_by m (bursts m.own) some refl ∙ ap (λ q. onward q all) (sym is)
