-- Two small orthogonal arrays: the bits of the label, and their parity. Assumes nothing.
use Rattle.std.specs.Prelude.{ℕ, zero, suc, ◌+◌, ◌/◌, ◌%◌}
use Rattle.design.specs.Designs.{Design}

abbrev pub four : ℕ → ℕ → ℕ
four i zero = i / 2
four i (suc zero) = i % 2
four i (suc (suc j)) = (i / 2 + i % 2) % 2

abbrev pub eight : ℕ → ℕ → ℕ
eight i zero = i / 4
eight i (suc zero) = i / 2 % 2
eight i (suc (suc zero)) = i % 2
eight i (suc (suc (suc j))) = (i / 4 + i / 2 % 2 + i % 2) % 2

-- there are designs of strength 2 and 3
abbrev pub DesignsExist : Type 0
DesignsExist = Design 4 2 3 2 four × Design 8 2 4 3 eight
