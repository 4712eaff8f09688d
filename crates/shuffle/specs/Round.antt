-- One round of the hash, in five steps, on 32-bit numbers.
--
--   i, p, w   the number, the key and the mask
--   a |> f    f of a: a line of these is read from the left, as it is done
--   x / 2^m   the right shift x >> m
--
-- Assumes nothing.
use Rattle.std.specs.Prelude.{ℕ, ◌*◌, ◌/◌, ◌%◌, ◌^◌, bit_and, bit_or, bit_xor}

infixl 10 ◌|>◌
-- what is done next to i
abbrev pub ◌|>◌ : ℕ → (ℕ → ℕ) → ℕ
i |> f = f i

-- i ^ c
abbrev pub xor : ℕ → ℕ → ℕ
xor c i = bit_xor i c

-- a product that keeps the low 32 bits
abbrev pub times : ℕ → ℕ → ℕ
times c i = (i * c) % 2 ^ 32

-- i & w
abbrev pub and : ℕ → ℕ → ℕ
and w i = bit_and i w

-- i ^ (i >> m)
unfoldable pub shift : ℕ → ℕ → ℕ
shift m i = bit_xor i (i / 2 ^ m)

-- i ^ ((i & w) >> m)
unfoldable pub fold : ℕ → ℕ → ℕ → ℕ
fold w m i = bit_xor i (bit_and i w / 2 ^ m)

-- i ^ p; times e170893d; ^ (p >> 16); ^ ((i & w) >> 4)
unfoldable pub step1 : ℕ → ℕ → ℕ → ℕ
step1 w p i = i |> xor p |> times 0xe170893d |> xor (p / 2 ^ 16) |> fold w 4

-- ^ (p >> 8); times 0929eb3f; ^ (p >> 23); ^ ((i & w) >> 1)
unfoldable pub step2 : ℕ → ℕ → ℕ → ℕ
step2 w p i = i |> xor (p / 2 ^ 8) |> times 0x0929eb3f |> xor (p / 2 ^ 23) |> fold w 1

-- times (1 | (p >> 27)); times 6935fa69; ^ ((i & w) >> 11)
unfoldable pub step3 : ℕ → ℕ → ℕ → ℕ
step3 w p i = i |> times (bit_or 1 (p / 2 ^ 27)) |> times 0x6935fa69 |> fold w 11

-- times 74dcb303; ^ ((i & w) >> 2); times 9e501cc3; ^ ((i & w) >> 2)
unfoldable pub step4 : ℕ → ℕ → ℕ
step4 w i = i |> times 0x74dcb303 |> fold w 2 |> times 0x9e501cc3 |> fold w 2

-- times c860a3df; & w; ^ (i >> 5)
unfoldable pub step5 : ℕ → ℕ → ℕ
step5 w i = i |> times 0xc860a3df |> and w |> shift 5

-- the five steps, in order
unfoldable pub round : ℕ → ℕ → ℕ → ℕ
round w p i = i |> step1 w p |> step2 w p |> step3 w p |> step4 w |> step5 w
