-- A list of calls performed in place, one by one. Assumes nothing.
use Rattle.std.proofs.Common.{◌≡◌, ℕ, ◌+◌, ◌<◌, List, [], ◌∷◌, ◌++◌, map, length, take, drop}
use Rattle.std.proofs.Common.{get_or, set, sym, ap, subst, ◌∙◌, append_assoc, arith}
use Rattle.std.proofs.lemmas.List.{drop_more, take_more, take_more_set, drop-set-lt, map_push}
use Rattle.refusal.specs.Replies.{Reply}
use Rattle.refusal.specs.declared.refusal.Fault.{Fault}
use Rattle.refusal.specs.declared.refusal.Refusal.{Refusal}
use Rattle.std.specs.Prelude.{Option, Result}
use Rattle.port.specs.Meaning.{PortMachine}
use Rattle.bench_call.specs.declared.PortCall.{PortCall}
use Rattle.port_ledger.specs.declared.Record.{Record}
use Rattle.port_ledger.specs.Fits.{CallFits, CallsFit}
use Rattle.port_ledger.specs.Runs.{moments, after}
use Rattle.bench_run.specs.Performed.{port_call}
use Rattle.port_ledger.specs.Records.{Exchange, pile_reply, record_exchange, moment_exchange}
use Rattle.port_ledger.specs.Records.{call_of}

pub fits_push : (cs : List PortCall) (c : PortCall) → CallsFit cs → CallFits c
    → CallsFit (cs ++ (c ∷ []))
fits_push [] c all fits = (fits, tt)
fits_push (x ∷ cs) c (fit, all) fits = (fit, fits_push cs c all fits)

module _ {M : Type 0} (port : PortMachine M) where
  -- the calls of records, told as they go from m
  abbrev telling : List Record → M → List Exchange
  telling ss m = map moment_exchange (moments port (map call_of ss) m)

  -- After i calls: what was told so far, and what the calls that are left come to from here, is
  -- what all come to.
  pub record Underway (i : ℕ) (items run : List Record) (first m : M) : Type 0 where
    pub fits : CallsFit (map call_of (take i run))
    pub rest : drop i items ≡ drop i run
    pub told : map record_exchange (take i items) ++ telling (drop i run) m ≡ telling run first
    pub pile : after port (map call_of (drop i run)) m ≡ after port (map call_of run) first

  one_more : (before : List Exchange) (c : PortCall) (ss : List Record) (r : Reply) (k m : M)
      → (r, k) ≡ port_call port c m
      → (before ++ (record { call = c; reply = r } ∷ [])) ++ telling ss k
      ≡ before ++ map moment_exchange (moments port (c ∷ map call_of ss) m)
  one_more before c ss r k m e =
      append_assoc before (record { call = c; reply = r } ∷ []) (telling ss k)
      ∙ ap (λ (q : Reply × M). before ++ (record { call = c; reply = q.0 } ∷ telling ss q.1)) e

  pub one_call : (i : ℕ) (items run : List Record) (first m k : M) (d : Record)
      (a : Result (Option ℕ) (Refusal Fault)) → i < length items → i < length run
      → Underway i items run first m → CallFits (get_or items i d).call
      → (pile_reply a, k) ≡ port_call port (get_or items i d).call m
      → let now : Record = record { call = (get_or items i d).call; reply = a } in
      Underway (i + 1) (set items i now) run first k
  one_call i items run first m k d a h h' u fits e =
      let cut_items = drop_more items i d h in
      let cut_run = drop_more run i d h' in
      let rest = u.rest in
      let heads : get_or items i d ≡ get_or run i d = cc in
      let tails : drop (i + 1) items ≡ drop (i + 1) run = cc in
      let c = (get_or items i d).call in
      let left = drop (i + 1) run in
      let now : Record = record { call = c; reply = a } in
      let done = map call_of (take i run) in
      let told = map record_exchange (take i items) in
      let cut : map call_of (drop i run) ≡ c ∷ map call_of left =
      ap (map call_of) cut_run ∙ ap (λ x. call_of x ∷ map call_of left) (sym heads) in
      let one_longer : map call_of (take (i + 1) run) ≡ done ++ (c ∷ []) =
      ap (map call_of) (take_more run i d h')
      ∙ map_push call_of (take i run) (get_or run i d)
      ∙ ap (λ x. done ++ (call_of x ∷ [])) (sym heads) in
      record {
        fits = subst CallsFit (sym one_longer) (fits_push done c u.fits fits);
        rest = drop-set-lt (i + 1) items i now (omega arith) ∙ tails;
        told =
            ap (λ xs. map record_exchange xs ++ telling left k) (take_more_set items i now h)
            ∙ ap (λ xs. xs ++ telling left k) (map_push record_exchange (take i items) now)
            ∙ one_more told c left (pile_reply a) k m e
            ∙ ap (λ cs. told ++ map moment_exchange (moments port cs m)) (sym cut)
            ∙ u.told;
        pile =
            ap (λ (q : Reply × M). after port (map call_of left) q.1) e
            ∙ ap (λ cs. after port cs m) (sym cut)
            ∙ u.pile;
      }
