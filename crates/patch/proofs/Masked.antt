-- What a patch does to a word bit by bit, and so that a joined patch does what its two parts do.
-- Assumes nothing.
use Rattle.std.proofs.Common.{◌≡◌, ℕ, ◌-◌, ◌^◌, ◌<◌, min, max, refl, arith}
use Rattle.std.specs.Int.{bit_at, w16}
use lib.Bits.{bit_and, and_le_r, and_mask, and_zero_r, or_zero_r, or_lt}
use Rattle.std.proofs.lemmas.Bool.{eqb-true}
use Rattle.std.proofs.lemmas.Nat.Bits.{bit_at_and, bit_at_or, bit_at_not, bit_at-lt}
use Rattle.std.proofs.lemmas.Nat.Bits.{same_from_bits_below}
use Rattle.patch.specs.Patch.{word_after, join_of, is_idle, is_complete, setting_to, ActsByBits}
use Rattle.patch.specs.Patch.{JoinsByBits, JoinActs, JoinExample, Idles, Completes}
use Rattle.patch.specs.declared.patch.Patch.{Patch}

pub acted_fits : (p : Patch) (word : ℕ) → p.mask < 2 ^ 16 → word_after p word < 2 ^ 16
acted_fits p word h =
    or_lt 16 (bit_and word (65535 - p.mask)) (bit_and p.bits p.mask)
    (omega (arith, and_le_r word (65535 - p.mask))) (omega (arith, and_le_r p.bits p.mask))

pub acts_by_bits : (p : Patch) (word : ℕ) → p.mask < 2 ^ 16 → ActsByBits p word (word_after p word)
acts_by_bits p word h k hk =
    let b : bit_at (word_after p word) k
    ≡ max (min (bit_at word k) (1 - bit_at p.mask k)) (min (bit_at p.bits k) (bit_at p.mask k))
    =
    rw (bit_at_or, bit_at_and word, bit_at_and p.bits, bit_at_not w16) in
    (λ one. omega arith, λ none. omega arith)

module _ (p later : Patch) (hp : p.mask < 2 ^ 16) (hl : later.mask < 2 ^ 16) where
  pub joined_fits : (join_of p later).mask < 2 ^ 16
  joined_fits = or_lt 16 p.mask later.mask hp hl

  -- by where the bit lies: under the later mask, under the earlier one alone, under neither
  join_bit : (word k : ℕ) → k < 16
      → bit_at (word_after (join_of p later) word) k
      ≡ bit_at (word_after later (word_after p word)) k
  join_bit word k hk =
      let mask = bit_at_or p.mask later.mask k in
      let whole = acts_by_bits (join_of p later) word joined_fits k hk in
      let first = acts_by_bits p word hp k hk in
      let on_bits = acts_by_bits later p.bits hl k hk in
      let on_word = acts_by_bits later (word_after p word) hl k hk in
      grind arith

  pub joins_by_bits : JoinsByBits p later (join_of p later)
  joins_by_bits k hk =
      let mask = bit_at_or p.mask later.mask k in
      let on_bits = acts_by_bits later p.bits hl k hk in
      let either : bit_at p.mask k < 2 = bit_at-lt p.mask k in (
        λ one. (omega (arith, one, mask, either), on_bits.0 one),
        λ none. (omega (arith, none, mask), on_bits.1 none),
      )

  pub join_acts : JoinActs p later (join_of p later)
  join_acts word hw =
      same_from_bits_below 16 _ _ (acted_fits (join_of p later) word joined_fits)
      (acted_fits later (word_after p word) hl) (join_bit word)

pub join_example : JoinExample
join_example = (refl, refl)

pub idles : (p : Patch) → Idles p (is_idle p)
idles p said word h = let none = eqb-true p.mask 0 said in
    rw (none, and_zero_r, or_zero_r, and_mask word 16) (omega arith)

pub completes : (p : Patch) → Completes p (is_complete p)
completes p said word = let all = eqb-true p.mask 65535 said in rw (all, and_zero_r)

-- a word that fits comes out of the patch that sets it
pub sets : (w old : ℕ) → w < 2 ^ 16 → word_after (setting_to w) old ≡ w
sets w old h = rw (and_zero_r, and_mask w 16) (omega arith)
