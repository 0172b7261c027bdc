-- Names told apart by their bytes. Assumes nothing.
use Rattle.std.proofs.Common.{◌≡◌, ℕ, true, false, List, length, get_or, ap}
use Rattle.std.specs.Str.{bytes_eq}
use Rattle.std.proofs.lemmas.Bool.{false_from_ne_true}
use Rattle.std.proofs.lemmas.Slice.Eq.{HasBytesAt, text_from_reads, bytes_eq-Decides}

pub spelled : (s p : List ℕ) → length s ≡ length p → HasBytesAt s 0 p → bytes_eq s p ≡ true
spelled s p n h = (bytes_eq-Decides s p).1 (text_from_reads s p n h)

-- the first byte is enough
pub apart : (s p : List ℕ) → (get_or s 0 0 ≡ get_or p 0 0 → ⊥) → bytes_eq s p ≡ false
apart s p differ =
    false_from_ne_true _ (λ e. differ (ap (λ l. get_or l 0 0) ((bytes_eq-Decides s p).0 e)))

-- for a `match` on names
pub ruleset names = (spelled, apart)
