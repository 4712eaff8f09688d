use Rattle.std.proofs.Common.{arith, below_more, subst}
use Rattle.std.specs.Char.{IsDigitOf}
use Rattle.listing_text.proofs.Numerals.{digit_of, value_fits, value_more}
use Rattle.listing_text.proofs.number.numeral.Goals as goal

pub overflow_mul-value : goal.overflow_mul-value
overflow_mul-value c =
    omega (arith, value_fits c.args.word.now c.loop-byte.byte-index c.loop-byte.invariant.0 (omega arith) (omega arith), c.loop-byte.invariant.1)

pub overflow_add-value : goal.overflow_add-value
overflow_add-value c =
    omega (arith, value_fits c.args.word.now c.loop-byte.byte-index c.loop-byte.invariant.0 (omega arith) (omega arith), c.loop-byte.invariant.1, c.in_ok-digit.ensures.value, c.from-in-loop-byte.ensures)

pub loop-byte-preserved : goal.loop-byte-preserved
loop-byte-preserved c =
    let digit = digit_of _ c.in_ok-digit.digit (subst (λ b. IsDigitOf b c.in_ok-digit.digit) c.from.ensures c.in_ok-digit.ensures.cases) (omega (arith, c.in_ok-digit.ensures.value)) in (
      below_more _ _ c.loop-byte.invariant.0 digit.0,
      omega (arith, c.loop-byte.invariant.1, value_more c.args.word.now c.loop-byte.byte-index (omega arith), digit.1, c.from-in-loop-byte.ensures),
    )
