use Rattle.std.proofs.Common.{◌+◌, ◌*◌, ◌∙◌, ap, arith}
use Rattle.jn_base.specs.Tokens.{digits_value}
use Rattle.jn_parser.proofs.Values.{value_from, value_step, value_fits, digits_left}
use Rattle.jn_parser.proofs.spelling.value.Goals as goal

pub overflow_mul-value : goal.overflow_mul-value
overflow_mul-value c =
    let fits = value_fits c.digit.value c.digit.rest.now c.in-Some.digit c.in-Some.after.now (digits_value c.args.digits.now) c.in-Some.ensures c.digit.invariant.so_far in
    omega (arith, fits, c.requires.within)

pub overflow_add-value : goal.overflow_add-value
overflow_add-value c =
    let fits = value_fits c.digit.value c.digit.rest.now c.in-Some.digit c.in-Some.after.now (digits_value c.args.digits.now) c.in-Some.ensures c.digit.invariant.so_far in
    omega (arith, fits, c.from.ensures, c.requires.within)

pub digit-preserved : goal.digit-preserved
digit-preserved c = record {
  so_far = ap (λ n. value_from (10 * c.digit.value + n) c.in-Some.after.now) c.from.ensures ∙ value_step c.digit.value c.digit.rest.now c.in-Some.digit c.in-Some.after.now (digits_value c.args.digits.now) c.in-Some.ensures c.digit.invariant.so_far;
  digits = digits_left c.digit.rest.now c.in-Some.digit c.in-Some.after.now c.in-Some.ensures c.digit.invariant.digits;
}
