use Rattle.std.proofs.Common.{length, arith, sym, ◌∙◌}
use borrow.Author.Tests.{eqb-true, eqb-false}
use Rattle.std.proofs.lemmas.Bool.Decides.{nat_tests}
use Rattle.input.proofs.RowChecks.{long_input, odd_input, rows_refused, rows_passed, handed_on}
use Rattle.input.proofs.causes.check.Goals as goal
use Rattle.input.proofs.causes.check.Goals.{then-bytes-gt-MOST_BYTES-via-then-bytes-gt-MOST_BYTES, then-bytes-gt-MOST_BYTES-via-else-bytes-gt-MOST_BYTES+then-tokens-gt-MOST_TOKEN_NUMBERS}

pub returns-then-bytes-gt-MOST_BYTES : goal.returns-then-bytes-gt-MOST_BYTES
returns-then-bytes-gt-MOST_BYTES c = long_input c.args.bytes.now c.args.tokens.now (elim c.then-bytes-gt-MOST_BYTES.branch [
  | then-bytes-gt-MOST_BYTES-via-then-bytes-gt-MOST_BYTES w ↦ grind (arith, nat_tests)
  | then-bytes-gt-MOST_BYTES-via-else-bytes-gt-MOST_BYTES+then-tokens-gt-MOST_TOKEN_NUMBERS w ↦ grind (arith, nat_tests)
])

pub returns-then-not-is_empty : goal.returns-then-not-is_empty
returns-then-not-is_empty c =
    odd_input c.args.bytes.now c.args.tokens.now c.if-bytes-gt-MOST_BYTES.false c.if-tokens-gt-MOST_TOKEN_NUMBERS.false _ c.as_chunks.ensures.front_len (λ z. omega (arith, z, c.as_chunks.ensures.back_len, eqb-false (length c.as_chunks.result.1.now) 0 (sym c.if-not-is_empty.ensures)))

pub returns-in_err-check_rows : goal.returns-in_err-check_rows
returns-in_err-check_rows c =
    handed_on _ _ c.from_residual.ensures.1
    ∙ rows_refused c.args.bytes.now c.args.tokens.now c.if-bytes-gt-MOST_BYTES.false c.if-tokens-gt-MOST_TOKEN_NUMBERS.false _ c.as_chunks.ensures.front (omega (arith, c.as_chunks.ensures.back_len, eqb-true (length c.as_chunks.result.1.now) 0 (sym c.if-not-is_empty.ensures))) _ c.in_err-check_rows.ensures

pub returns : goal.returns
returns c =
    rows_passed c.args.bytes.now c.args.tokens.now c.if-bytes-gt-MOST_BYTES.false c.if-tokens-gt-MOST_TOKEN_NUMBERS.false _ c.as_chunks.ensures.front (omega (arith, c.as_chunks.ensures.back_len, eqb-true (length c.as_chunks.result.1.now) 0 (sym c.if-not-is_empty.ensures))) _ c.in_ok-check_rows.ensures
    (c.check_texts.ensures (sym c.in_ok-check_rows.ensures))
