-- A round undone, step by step, the last one first. Assumes nothing.
use Rattle.std.specs.Prelude.{ℕ, ◌/◌, ◌^◌, List, [], ◌∷◌, slice_index}
use Rattle.shuffle.specs.Round.{◌|>◌, xor, times, and, fold}

-- the inverse modulo 2 ^ 32 of 2 * j + 1, for j below 16
abbrev pub inverses : List ℕ
inverses =
    0x00000001 ∷
    0xaaaaaaab ∷
    0xcccccccd ∷
    0xb6db6db7 ∷
    0x38e38e39 ∷
    0xba2e8ba3 ∷
    0xc4ec4ec5 ∷
    0xeeeeeeef ∷
    0xf0f0f0f1 ∷
    0x286bca1b ∷
    0x3cf3cf3d ∷
    0xe9bd37a7 ∷
    0xc28f5c29 ∷
    0x684bda13 ∷
    0x4f72c235 ∷
    0xbdef7bdf ∷
    []

-- the inverse of 1 | (p >> 27)
abbrev pub inverse : ℕ → ℕ
inverse p = slice_index inverses (p / 2 ^ 28)

unfoldable pub back5 : ℕ → ℕ → ℕ
back5 w i = i |> fold w 10 |> fold w 5 |> times 0xcef8d81f

unfoldable pub back4 : ℕ → ℕ → ℕ
back4 w i = i |> fold w 8 |> fold w 4 |> fold w 2 |> times 0x21ae73eb |> fold w 8 |> fold w 4 |> fold w 2 |> times 0xf247cfab

unfoldable pub back3 : ℕ → ℕ → ℕ → ℕ
back3 w p i = i |> fold w 11 |> times 0xae4f35d9 |> times (inverse p)

unfoldable pub back2 : ℕ → ℕ → ℕ → ℕ
back2 w p i = i |> fold w 8 |> fold w 4 |> fold w 2 |> fold w 1 |> xor (p / 2 ^ 23) |> times 0xf95384bf |> xor (p / 2 ^ 8)

unfoldable pub back1 : ℕ → ℕ → ℕ → ℕ
back1 w p i = i |> fold w 8 |> fold w 4 |> xor (p / 2 ^ 16) |> times 0x3e779615 |> xor p

unfoldable pub unround : ℕ → ℕ → ℕ → ℕ
unround w p i = i |> back5 w |> back4 w |> back3 w p |> back2 w p |> back1 w p |> and w
