-- What waits in a table of updates, and in which bursts it is sent. Assumes nothing.
use Rattle.std.specs.Prelude.{◌≡◌, ◌≢◌, ℕ, ◌+◌, ◌^◌, ◌<◌, ◌≤◌, Bool, if◌then◌else◌, not, ◌&&◌}
use Rattle.std.specs.Prelude.{◌||◌, ◌⊎◌, List, [], ◌∷◌, ◌++◌, map, length, Any, Some, None, Option}
use Rattle.std.specs.Prelude.{◌==◌, nat_lt, bit_and}
use Rattle.std.specs.Int.{bit_at}
use Rattle.std.specs.Option.{is_some}
use Rattle.patch.specs.Patch.{word_after, join_of, is_idle, is_complete, patch_of}
use Rattle.patch.specs.declared.patch.Patch.{Patch}
use Rattle.port_deferral_table.specs.declared.entry.Entry.{Entry}

-- an update of a register, without the bits outside its mask
abbrev pub entry_of : ℕ → Patch → Entry
entry_of n p = record { register = n; patch = patch_of p.mask (bit_and p.bits p.mask) }

-- a later update of the same register
abbrev pub joined_entry : Entry → Patch → Entry
joined_entry e later = record e { patch = join_of e.patch later }

-- What a table can hold: something waits for the register, and no bit lies outside its mask.
pub record IsEntry (e : Entry) : Type 0 where
  pub some : e.patch.mask ≢ 0
  pub fits : (e.patch.mask < 2 ^ 16) × (e.patch.bits < 2 ^ 16)
  pub inside : (k : ℕ) → k < 16 → bit_at e.patch.mask k ≡ 0 → bit_at e.patch.bits k ≡ 0

-- entries of which E holds, of registers from number n on, each above the one before it
abbrev pub Ascend : (Entry → Type 0) → ℕ → List Entry → Type 0
Ascend E n [] = Unit {0}
Ascend E n (e ∷ es) = (n ≤ e.register) × E e × Ascend E (e.register + 1) es

-- a whole table
abbrev pub IsTable : List Entry → Type 0
IsTable es = (length es ≤ 16) × Ascend IsEntry 0 es

-- the patch that waits for a register, if one does
abbrev pub waiting_patch : ℕ → List Entry → Option Patch
waiting_patch n [] = None
waiting_patch n (e ∷ es) = if e.register == n then Some e.patch else waiting_patch n es

-- a word with what waits for its register
abbrev pub word_under : Option Patch → ℕ → ℕ
word_under None w = w
word_under (Some p) w = word_after p w

-- something waits for the register
abbrev pub HasEntry : ℕ → List Entry → Type 0
HasEntry n es = Any (λ e. e.register ≡ n) es

-- An update finds a place: it changes nothing, or its register has an entry, or fewer than 16 wait.
abbrev pub FindsPlace : ℕ → Patch → List Entry → Type 0
FindsPlace n p es = (p.mask ≡ 0) ⊎ HasEntry n es ⊎ (length es < 16)

-- the same as a test
abbrev pub takes : ℕ → Patch → List Entry → Bool
takes n p es = is_idle p || is_some (waiting_patch n es) || nat_lt (length es) 16

-- in its order, or joined to the entry of its register
abbrev pub entries_with : ℕ → Patch → List Entry → List Entry
entries_with n p [] = entry_of n p ∷ []
entries_with n p (e ∷ es) =
    if nat_lt e.register n then e ∷ entries_with n p es
    else if e.register == n then joined_entry e p ∷ es
    else entry_of n p ∷ e ∷ es

-- An update that changes nothing makes no entry; one that finds no place changes nothing.
abbrev pub enter : ℕ → Patch → List Entry → List Entry
enter n p es = if is_idle p || not (takes n p es) then es else entries_with n p es

-- An update was taken: its register's word is then what the update makes of it, and every other is
-- what it was.
pub record Enters (n : ℕ) (p : Patch) (old new : List Entry) : Type 0 where
  pub here : (w : ℕ) → w < 2 ^ 16
      → word_under (waiting_patch n new) w ≡ word_after p (word_under (waiting_patch n old) w)
  pub others : (i w : ℕ) → i ≢ n
      → word_under (waiting_patch i new) w ≡ word_under (waiting_patch i old) w

-- The next entry can go in the run of this one: both have all bits in their masks, and it is of the
-- next number.
abbrev pub Follows : Entry → Entry → Type 0
Follows e next =
    (e.patch.mask ≡ 65535) × (next.patch.mask ≡ 65535) × (next.register ≡ e.register + 1)

abbrev pub leads_to : Entry → Entry → Bool
leads_to e next = is_complete e.patch && is_complete next.patch && next.register == e.register + 1

-- an entry before bursts: it goes with the first of them, or by itself
abbrev pub before : Entry → List (List Entry) → List (List Entry)
before e ((next ∷ es) ∷ bs) =
    if leads_to e next then (e ∷ next ∷ es) ∷ bs else (e ∷ []) ∷ (next ∷ es) ∷ bs
before e bs = (e ∷ []) ∷ bs

-- The bursts in which entries are sent, ascending. What goes in one is a run, or is one update.
abbrev pub bursts : List Entry → List (List Entry)
bursts [] = []
bursts (e ∷ es) = before e (bursts es)

-- the first of them, or nothing
abbrev pub first_of : List (List Entry) → List Entry
first_of [] = []
first_of (b ∷ bs) = b

abbrev pub first_burst : List Entry → List Entry
first_burst es = first_of (bursts es)

-- some entries, and each follows the one before it
abbrev pub Linked : List Entry → Type 0
Linked [] = ⊥
Linked (e ∷ []) = Unit {0}
Linked (e ∷ next ∷ es) = Follows e next × Linked (next ∷ es)

-- what comes after a burst does not follow its last entry
abbrev pub Ends : List Entry → List Entry → Type 0
Ends b [] = Unit {0}
Ends [] (next ∷ rest) = Unit {0}
Ends (e ∷ []) (next ∷ rest) = Follows e next → ⊥
Ends (e ∷ f ∷ es) (next ∷ rest) = Ends (f ∷ es) (next ∷ rest)

-- Bursts have each entry once and in its order, and none can be longer.
abbrev pub AreBursts : List Entry → List (List Entry) → Type 0
AreBursts es [] = es ≡ []
AreBursts es (b ∷ bs) =
    (rest : List Entry) × (es ≡ b ++ rest) × Linked b × Ends b rest × AreBursts rest bs

-- the words of a run: what each entry makes of any word
abbrev pub words_of : List Entry → List ℕ
words_of es = map (λ e. word_after e.patch 0) es
