-- The labels of a strip: the level and the fine setting that each label has for each factor.
--   P, R, W   the plan, the arithmetic of its count, and the two ways of the shuffler
--   index     where label i stands before shuffling
--   digit     its digits in base s, lowest first: the coefficients of a polynomial over the arithmetic
--   point     the code at which a factor takes the value of that polynomial
--   level     the value, shuffled within its factor
--   fine      the level, refined by a shuffled sub-level: each fine setting comes once a factor
-- Assumes nothing.
use Rattle.std.specs.Prelude.{ℕ, zero, suc, ◌+◌, ◌*◌, ◌/◌, ◌%◌, ◌^◌}
use Rattle.levels.specs.Rings.{Arithmetic}
use Rattle.shuffle.specs.Ways.{Ways}
use Rattle.plan.specs.declared.shape.Plan.{Plan}
use Rattle.strip.specs.declared.cell.Cell.{Cell}

unfoldable pub index : Plan → Ways → ℕ → ℕ
index P W i = W.out P.seed P.labels i

abbrev pub digit : ℕ → ℕ → ℕ → ℕ
digit s n l = n / s ^ l % s

abbrev pub point : ℕ → ℕ
point j = j

-- x to the power k in the arithmetic
abbrev pub power : Arithmetic → ℕ → ℕ → ℕ
power R x zero = R.one
power R x (suc k) = R.product (power R x k) x

-- the sum of f 0 to f (n - 1) in the arithmetic
abbrev pub total : Arithmetic → (ℕ → ℕ) → ℕ → ℕ
total R f zero = 0
total R f (suc n) = R.sum (total R f n) (f n)

-- the value at x of the polynomial whose t coefficients are the digits of n
unfoldable pub value_at : Arithmetic → (t n x : ℕ) → ℕ
value_at R t n x = total R (λ l. R.product (digit R.count n l) (power R x l)) t

-- a key of factor j: the seed times j + 1 times a constant, modulo 2^32
abbrev pub key : (constant seed j : ℕ) → ℕ
key constant seed j = seed * (j + 1) * constant % 2 ^ 32

abbrev pub level_key : (seed j : ℕ) → ℕ
level_key = key 0x51633e2d

abbrev pub fine_key : (seed j : ℕ) → ℕ
fine_key = key 0x68bc21eb

-- the level and the fine setting of what stands at n before shuffling, for factor j
unfoldable pub level_at : Plan → Arithmetic → Ways → (n j : ℕ) → ℕ
level_at P R W n j = W.out (level_key P.seed j) P.levels (value_at R P.strength n (point j))

unfoldable pub sublevel_at : Plan → Ways → (n j : ℕ) → ℕ
sublevel_at P W n j = W.out (fine_key P.seed j) (P.labels / P.levels) (n / P.levels)

unfoldable pub fine_at : Plan → Arithmetic → Ways → (n j : ℕ) → ℕ
fine_at P R W n j = level_at P R W n j * (P.labels / P.levels) + sublevel_at P W n j

abbrev pub level : Plan → Arithmetic → Ways → (i j : ℕ) → ℕ
level P R W i j = level_at P R W (index P W i) j

abbrev pub fine : Plan → Arithmetic → Ways → (i j : ℕ) → ℕ
fine P R W i j = fine_at P R W (index P W i) j

abbrev pub cell_at : Plan → Arithmetic → Ways → (n j : ℕ) → Cell
cell_at P R W n j = record { level = level_at P R W n j; fine = fine_at P R W n j }
