-- Where in a list of entries something lies, as private functions of the code look for it.
-- Assumes nothing.
use Rattle.std.specs.Prelude.{ℕ, ◌==◌, List, Option, nat_lt}
use Rattle.std.specs.List.{find, prefix_len, zip}
use Rattle.std.specs.Option.{option_map}
use Rattle.patch.specs.declared.patch.Patch.{Patch}
use Rattle.port_deferral_table.specs.Entries.{leads_to}
use Rattle.port_deferral_table.specs.declared.entry.Entry.{Entry}

-- the patch of the first entry of a register
unfoldable pub first_patch : ℕ → List Entry → Option Patch
first_patch n es = option_map (λ e. e.patch) (find (λ e. e.register == n) es)

-- how many entries lie before a register's place
abbrev pub place : ℕ → List Entry → ℕ
place n es = prefix_len (λ e. nat_lt e.register n) es

-- how many entries lead to the one behind them, up to one that does not
abbrev pub links : List Entry → List Entry → ℕ
links es behind = prefix_len (λ p. leads_to p.0 p.1) (zip es behind)
