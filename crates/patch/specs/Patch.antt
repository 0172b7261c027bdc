-- What a masked update makes of a word, and which one update two of them come to. Assumes nothing.
use Rattle.std.specs.Prelude.{◌≡◌, ℕ, ◌-◌, ◌^◌, ◌<◌, Bool, true, ◌==◌, bit_and, bit_or}
use Rattle.std.specs.Int.{bit_at}
use Rattle.patch.specs.declared.patch.Patch.{Patch}

-- the word outside the mask, and the patch's bits under it
abbrev pub word_after : Patch → ℕ → ℕ
word_after p word = bit_or (bit_and word (65535 - p.mask)) (bit_and p.bits p.mask)

-- the bits that either mask covers, and the later patch done to the earlier one's bits: (b1 and not
-- m2) or (b2 and m2)
abbrev pub join_of : Patch → Patch → Patch
join_of p later = record { mask = bit_or p.mask later.mask; bits = word_after later p.bits }

-- bit by bit, r is the patch's bits where the mask has a bit, and the word where it has none
abbrev pub ActsByBits : Patch → ℕ → ℕ → Type 0
ActsByBits p word r =
    (k : ℕ) → k < 16 → (bit_at p.mask k ≡ 1 → bit_at r k ≡ bit_at p.bits k)
    × (bit_at p.mask k ≡ 0 → bit_at r k ≡ bit_at word k)

-- Bit by bit, of the mask and of the bits: r has the later patch's where the later mask has a bit,
-- and elsewhere the earlier patch's.
abbrev pub JoinsByBits : Patch → Patch → Patch → Type 0
JoinsByBits p later r =
    (k : ℕ) → k < 16
    → (bit_at later.mask k ≡ 1 → (bit_at r.mask k ≡ 1) × (bit_at r.bits k ≡ bit_at later.bits k))
    × (bit_at later.mask k ≡ 0
    → (bit_at r.mask k ≡ bit_at p.mask k) × (bit_at r.bits k ≡ bit_at p.bits k))

-- r does to every word what p and then the later patch do
abbrev pub JoinActs : Patch → Patch → Patch → Type 0
JoinActs p later r =
    (word : ℕ) → word < 2 ^ 16 → word_after r word ≡ word_after later (word_after p word)

-- a mask of no bits, and one of all 16
abbrev pub is_idle : Patch → Bool
is_idle p = p.mask == 0

abbrev pub is_complete : Patch → Bool
is_complete p = p.mask == 65535

-- where it is said to be idle, every word comes out as it was
abbrev pub Idles : Patch → Bool → Type 0
Idles p said = said ≡ true → (word : ℕ) → word < 2 ^ 16 → word_after p word ≡ word

-- where it is said to be complete, it makes of every word what it makes of 0
abbrev pub Completes : Patch → Bool → Type 0
Completes p said = said ≡ true → (word : ℕ) → word_after p word ≡ word_after p 0

-- the patch of a mask and its bits
abbrev pub patch_of : ℕ → ℕ → Patch
patch_of mask bits = record { mask = mask; bits = bits }

-- the patch that makes every word this one
abbrev pub setting_to : ℕ → Patch
setting_to w = patch_of 65535 w

-- whatever the old word, it becomes this one
abbrev pub Sets : Patch → ℕ → Type 0
Sets p w = (old : ℕ) → word_after p old ≡ w

-- the low byte becomes 12, then the middle byte 34: one patch, and what it makes of ABCD
abbrev pub JoinExample : Type 0
JoinExample =
    let both : Patch = join_of (patch_of 0x00FF 0x0012) (patch_of 0x0FF0 0x0340) in
    (both ≡ patch_of 0x0FFF 0x0342) × (word_after both 0xABCD ≡ 0xA342)
