use Rattle.std.proofs.Common.{arith}
use Rattle.listing_text.proofs.Reading.{stuck, levels_field, strength_field, factors_field, seed_field, shuffler_field, levels_same, strength_same, factors_same, seed_same, shuffler_same, joined, unique, decided, repeats}
use Rattle.listing_text.proofs.request.Request.read.Goals as goal

pub returns-in_err-levels : goal.returns-in_err-levels
returns-in_err-levels c = record { value = rw c.from_residual.ensures (λ q h. c.in_err-levels.ensures.value _ _ (levels_field h)); unique = unique _; front = decided _; back = λ q. repeats q }

pub returns-in_err-strength : goal.returns-in_err-strength
returns-in_err-strength c = record { value = rw c.from_residual-in_err-strength.ensures (λ q h. stuck (levels_same h c.in_ok-levels.ensures.value).1 c.in_err-strength.ensures.value (strength_field h)); unique = unique _; front = decided _; back = λ q. repeats q }

pub returns-in_err-factors : goal.returns-in_err-factors
returns-in_err-factors c = record { value = rw c.from_residual-in_err-factors.ensures (λ q h. stuck (strength_same h c.in_ok-levels.ensures.value c.in_ok-strength.ensures.value).1 c.in_err-factors.ensures.value (factors_field h)); unique = unique _; front = decided _; back = λ q. repeats q }

pub returns-in_err-seed : goal.returns-in_err-seed
returns-in_err-seed c = record { value = rw c.from_residual-in_err-seed.ensures (λ q h. stuck (factors_same h c.in_ok-levels.ensures.value c.in_ok-strength.ensures.value c.in_ok-factors.ensures.value).1 c.in_err-seed.ensures.value (seed_field h)); unique = unique _; front = decided _; back = λ q. repeats q }

pub returns-in_err-shuffler : goal.returns-in_err-shuffler
returns-in_err-shuffler c = record { value = rw c.from_residual-in_err-shuffler.ensures (λ q h. stuck (seed_same h c.in_ok-levels.ensures.value c.in_ok-strength.ensures.value c.in_ok-factors.ensures.value c.in_ok-seed.ensures.value).1 c.in_err-shuffler.ensures.value (shuffler_field h)); unique = unique _; front = decided _; back = λ q. repeats q }

pub returns-then-shuffler-ge-SHUFFLERS : goal.returns-then-shuffler-ge-SHUFFLERS
returns-then-shuffler-ge-SHUFFLERS c = record { value = λ q h. omega (arith, h.known, shuffler_same h c.in_ok-levels.ensures.value c.in_ok-strength.ensures.value c.in_ok-factors.ensures.value c.in_ok-seed.ensures.value c.in_ok-shuffler.ensures.value); unique = unique _; front = decided _; back = λ q. repeats q }

pub returns : goal.returns
returns c = record { value = joined _ c.in_ok-levels.ensures.value c.in_ok-strength.ensures.value c.in_ok-factors.ensures.value c.in_ok-seed.ensures.value c.in_ok-shuffler.ensures.value (omega arith); unique = unique _; front = decided _; back = λ q. repeats q }
